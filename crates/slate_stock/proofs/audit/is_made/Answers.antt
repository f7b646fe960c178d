use Rattle.std.proofs.Common.{◌≡◌, ℕ, List, map, length, None, Result, Ok, refl, sym, ap, ◌∙◌, arith}
use Rattle.std.proofs.lemmas.Slice.Eq.{bytes_eq-Decides}
use Rattle.slate_stock.specs.Orders.{first_of, form_refusals, order_keys}
use Rattle.slate_stock.proofs.MapLaws.{known, known_is}
use Rattle.slate_stock.proofs.audit.is_made.Goals as goal

ok_is : {X E : Type 0} (a b : X) → ◌≡◌ {A = Result X E} (Ok a) (Ok b) → a ≡ b
ok_is a b e = cc

pub returns-in-Ok-clause-yes : goal.returns-in-Ok-clause-yes
returns-in-Ok-clause-yes c = λ is.
    let o = c.args.order.now in
    let ns = c.args.reads.now.amounts.items in
    let keys : c.args.reads.now.keys.items ≡ order_keys o = sym c.as_slice.ensures.value ∙ c.if-not-are_keys.ensures.yes refl ∙ c.as_slice-2.ensures.value ∙ c.in_ok-keys.ensures in
    let put_keys : c.args.puts.now.keys.items ≡ order_keys o = sym c.as_slice-3.ensures.value ∙ c.if-not-are_keys-2.ensures.yes refl ∙ c.as_slice-4.ensures.value ∙ c.in_ok-keys.ensures in
    let long : length ns ≡ length (order_keys o) = omega (arith, ap length c.in_ok-keys.ensures) in
    let form : first_of (form_refusals o) ≡ None = sym c.form_refusal.ensures ∙ c.in_default.is in
    let read : ns ≡ map (known (order_keys o) ns) (order_keys o) = known_is o c.args.reads.now.keys.items ns c.has_names.ensures form keys long in
    let does = c.in-Ok.ensures.ok (known (order_keys o) ns) (c.as_slice-5.ensures.value ∙ read) in
    let same : c.as_slice-in-Ok.result.now ≡ c.as_slice-in-Ok-2.result.now = (bytes_eq-Decides c.as_slice-in-Ok.result.now c.as_slice-in-Ok-2.result.now).0 (sym c.eq.ensures ∙ ok_is c.eq.result _ is) in (
      known (order_keys o) ns,
      record {
        names = c.has_names.ensures;
        fits = does.0;
        keys = keys;
        read = read;
        put_keys = put_keys;
        new = sym c.as_slice-in-Ok.ensures.value ∙ same ∙ c.as_slice-in-Ok-2.ensures.value ∙ does.1;
      },
    )
