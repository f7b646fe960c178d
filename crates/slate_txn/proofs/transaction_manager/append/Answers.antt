use Rattle.std.proofs.Common.{◌≡◌, List, [], ◌++◌, true, cond, ◌==◌, vec_len, sym, ap, ◌∙◌, arith}
use Rattle.std.specs.Prelude.{Result, Ok, Err, OnOk, OnErr, is_ok}
use Rattle.std.proofs.lemmas.Bool.Decides.{nat_tests}
use Rattle.std.proofs.lemmas.List.{nil_from_length}
use Rattle.slate_txn.proofs.transaction_manager.append.Goals as goal

ok_of : {X E Y : Type 0} (r : Result X E) (xs a b : List Y) → xs ≡ cond (is_ok r) a b → OnOk r (xs ≡ a)
ok_of (Ok x) xs a b e = e
ok_of (Err x) xs a b e = tt

err_of : {X E Y : Type 0} (r : Result X E) (xs a b : List Y) → xs ≡ cond (is_ok r) a b → OnErr r (xs ≡ b)
err_of (Ok x) xs a b e = tt
err_of (Err x) xs a b e = e

pub returns-then-is_empty : goal.returns-then-is_empty
returns-then-is_empty c =
    let zero : (vec_len c.args.items.now == 0) ≡ true = sym c.is_empty.ensures ∙ c.if-is_empty.true in
    let len : vec_len c.args.items.now ≡ 0 = grind (arith, nat_tests) in
    let none : c.args.items.now.items ≡ [] = nil_from_length _ (omega (arith, len, c.args.items.now.ok.0)) in
    record { ok = ap (λ xs. xs ++ c.args.more.items) (sym none); err = tt }

pub returns : goal.returns
returns c = record {
  ok = ok_of c.append.result c.append.new.self.items _ _ c.append.ensures.items;
  err = err_of c.append.result c.append.new.self.items _ _ c.append.ensures.items;
}
