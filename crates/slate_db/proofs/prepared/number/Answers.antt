use Rattle.std.proofs.Common.{rules, ◌≡◌, ◌+◌, ◌<◌, suc, length, refl, sym, ap, subst, ◌∙◌, arith}
use Rattle.slate_db.specs.Prepared.{numbered}
use Rattle.slate_db.proofs.Numbered.{first_numbered, one_more, all_numbered, as_many, left_whole}
use Rattle.slate_db.proofs.prepared.number.Goals as goal

pub loop-row-init : goal.loop-row-init
loop-row-init c = refl

pub loop-row-preserved : goal.loop-row-preserved
loop-row-preserved c =
    let was = c.loop-row.invariant in
    let lt : c.loop-row.row-index < length c.deref_mut-row-items.result.now = search rules in
    let more : suc c.loop-row.row-index ≡ c.loop-row.row-index + 1 = omega arith in
    rw was (one_more c.loop-row.row-index c.args.seq c.deref_mut-row-items.result.now _ lt ∙ ap (λ k. first_numbered k c.args.seq c.deref_mut-row-items.result.now) more)

pub returns : goal.returns
returns c =
    let e : c.deref_mut-row-items.result.now ≡ c.args.rows.now.items = search rules in
    let d : c.loop-row.row-index ≡ length c.deref_mut-row-items.result.now = search rules in
    let n : c.args.rows.now.len ≡ length c.args.rows.now.items = search rules in
    let is : c.loop-row.row-items ≡ numbered c.args.seq c.args.rows.now.items =
    c.loop-row.invariant ∙ (λ i. first_numbered (d i) c.args.seq c.deref_mut-row-items.result.now) ∙ all_numbered c.args.seq c.deref_mut-row-items.result.now ∙ ap (numbered c.args.seq) e in
    left_whole c.args.rows.now.len c.loop-row.row-items c.args.rows.now.items (ap length c.loop-row.invariant ∙ as_many c.loop-row.row-index c.args.seq c.deref_mut-row-items.result.now ∙ ap length e) n ∙ is
