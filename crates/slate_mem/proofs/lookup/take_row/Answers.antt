use Rattle.std.proofs.Common.{◌≡◌, ◌≤◌, ◌∷◌, ◌++◌, [], true, false, cond, not, rules, ap, sym, subst, ◌∙◌, arith, bytes_eq, nat_le, append-nil, append_assoc}
use Rattle.std.specs.List.{AllByRecursion}
use Rattle.std.proofs.lemmas.Bool.Decides.{nat_tests}
use Rattle.std.proofs.lemmas.Result.{IfOk-from_err}
use Rattle.std.proofs.lemmas.Slice.Eq.{bytes_eq-Decides}
use Rattle.slate_types.proofs.Lists.{AllByRecursion_append}
use Rattle.slate_mem.specs.Lookup.{IsRowUpTo}
use Rattle.slate_mem.specs.Table.{newest}
use Rattle.slate_mem.proofs.WalkLaws.{ends_past, passes_newer, takes_row}
use Rattle.slate_mem.proofs.lookup.take_row.Goals as goal

pub returns-then-ne-clause-ends : goal.returns-then-ne-clause-ends
returns-then-ne-clause-ends c e rows none order =
    let found = c.args.found.now.items in
    let other : bytes_eq c.args.row.key c.args.key.now ≡ false = search rules in
    ap (λ xs. found ++ xs) (ends_past c.args.key.now c.args.max_seq c.args.row rows none order other) ∙ append-nil found

pub returns-then-row-max_seq-clause-goes_on : goal.returns-then-row-max_seq-clause-goes_on
returns-then-row-max_seq-clause-goes_on c e rows =
    let past : nat_le c.args.row.seq c.args.max_seq ≡ false = grind (arith, nat_tests, c.if-row-max_seq.true) in
    ap (λ xs. c.args.found.now.items ++ xs) (passes_newer c.args.key.now c.args.max_seq c.args.row rows past)

pub returns-clause-goes_on : goal.returns-clause-goes_on
returns-clause-goes_on c e rows =
    let found = c.args.found.now.items in
    let row = c.args.row in
    let left = newest c.args.key.now c.args.max_seq rows in
    let same : bytes_eq row.key c.args.key.now ≡ true = search rules in
    let upto : nat_le row.seq c.args.max_seq ≡ true = grind (arith, nat_tests, c.if-row-max_seq.false) in
    ap (λ xs. found ++ xs) (takes_row c.args.key.now c.args.max_seq row rows same upto ∙ ap (λ b. cond b (row ∷ []) (row ∷ left)) (ap not (sym c.is_merge-goes_on.ensures ∙ e)))
    ∙ sym (append_assoc found (row ∷ []) left) ∙ ap (λ ys. ys ++ left) (sym c.in_ok-push.ensures.items)

pub returns-clause-ends : goal.returns-clause-ends
returns-clause-ends c e rows none order =
    let row = c.args.row in
    let left = newest c.args.key.now c.args.max_seq rows in
    let same : bytes_eq row.key c.args.key.now ≡ true = search rules in
    let upto : nat_le row.seq c.args.max_seq ≡ true = grind (arith, nat_tests, c.if-row-max_seq.false) in
    ap (λ xs. c.args.found.now.items ++ xs) (takes_row c.args.key.now c.args.max_seq row rows same upto ∙ ap (λ b. cond b (row ∷ []) (row ∷ left)) (ap not (sym c.is_merge-goes_on.ensures ∙ e)))
    ∙ sym c.in_ok-push.ensures.items

pub returns-then-ne-clause-asked : goal.returns-then-ne-clause-asked
returns-then-ne-clause-asked c = λ all. all

pub returns-then-row-max_seq-clause-asked : goal.returns-then-row-max_seq-clause-asked
returns-then-row-max_seq-clause-asked c = λ all. all

pub returns-clause-asked : goal.returns-clause-asked
returns-clause-asked c all =
    let same : bytes_eq c.args.row.key c.args.key.now ≡ true = search rules in
    let within : c.args.row.seq ≤ c.args.max_seq = omega (arith, c.if-row-max_seq.false) in
    let asked = IsRowUpTo c.args.key.now c.args.max_seq in
    subst (AllByRecursion asked) (sym c.in_ok-push.ensures.items) (AllByRecursion_append asked c.args.found.now.items (c.args.row ∷ []) all (((bytes_eq-Decides c.args.row.key c.args.key.now).0 same, within), tt))

pub returns-in_err-push : goal.returns-in_err-push
returns-in_err-push c =
    record {
      row = IfOk-from_err c.from_residual.result _ c.from_residual.ensures.0;
      asked = IfOk-from_err c.from_residual.result _ c.from_residual.ensures.0;
      goes_on = IfOk-from_err c.from_residual.result _ c.from_residual.ensures.0;
      ends = IfOk-from_err c.from_residual.result _ c.from_residual.ensures.0;
    }
