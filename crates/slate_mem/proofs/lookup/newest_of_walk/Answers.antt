use Rattle.std.proofs.Common.{◌≡◌, [], ◌∷◌, ◌++◌, None, Some, ap, sym, subst, ◌∙◌, refl, inl}
use Rattle.std.specs.Prelude.{Contains}
use Rattle.std.specs.List.{AllByRecursion}
use Rattle.std.proofs.lemmas.Result.{err_from_is_err_and, IfOk-from_err}
use Rattle.slate_types.specs.declared.iter.IterationOrder.TheVariants.{Ascending}
use Rattle.slate_types.specs.Iteration.{IsInOrder, NoneBefore}
use Rattle.slate_types.specs.Outside.{no_parts}
use Rattle.slate_types.specs.World.{nothing}
use Rattle.slate_types.proofs.Calls.{sees_nothing}
use Rattle.slate_mem.proofs.MemoryCalls.{cause_before, cause_here, fewer_here}
use Rattle.slate_mem.specs.Lookup.{IsRowUpTo}
use Rattle.slate_mem.specs.Table.{newest}
use Rattle.slate_mem.proofs.WalkLaws.{takes}
use Rattle.slate_mem.proofs.Brought.{brought_more, brings}
use Rattle.slate_types.proofs.Exits.{err_exit}
use Rattle.slate_mem.proofs.lookup.newest_of_walk.Goals as goal

pub returns-then-not-goes_on-clause-found : goal.returns-then-not-goes_on-clause-found
returns-then-not-goes_on-clause-found g c s o n =
    let rest = g.I.RowEntryIterator.rest in
    let was = c.loop-found.invariant in
    let sound = was.sound s in
    let split : rest c.loop-found.rows nothing ≡ c.in-Some.row ∷ rest c.next.new.self nothing = takes _ _ c.in-Some.row _ c.in-Some.is (c.in_ok-row.ensures.rows nothing sees_nothing sound) in
    let rising = subst (λ x. IsInOrder x (rest c.loop-found.rows nothing)) (was.order ∙ o) (g.met.I.RowEntryIterator.rising c.loop-found.rows nothing sound) in
    sym (was.found s o n ∙ ap (λ xs. c.loop-found.found.items ++ newest c.args.key.now c.args.max_seq xs) split
    ∙ c.in_ok-goes_on.ensures.ends c.if-not-goes_on.true _ (subst (NoneBefore Ascending c.args.key.now) split (was.none s n)) (subst (IsInOrder Ascending) split rising))

pub loop-found-init : goal.loop-found-init
loop-found-init g c = record {
  sound = λ s. s;
  order = refl;
  fewer = λ e r. r;
  none = λ s n. n;
  asked = subst (AllByRecursion (IsRowUpTo c.args.key.now c.args.max_seq)) (sym c.new-found.ensures.items) tt;
  brought = ([], refl, subst (AllByRecursion (Contains [])) (sym c.new-found.ensures.items) tt);
  found = λ s o n. ap (λ xs. xs ++ newest c.args.key.now c.args.max_seq (g.I.RowEntryIterator.rest c.args.rows.now nothing)) (sym c.new-found.ensures.items);
}

pub returns-then-not-goes_on-clause-asked : goal.returns-then-not-goes_on-clause-asked
returns-then-not-goes_on-clause-asked g c = c.in_ok-goes_on.ensures.asked c.loop-found.invariant.asked

pub returns-clause-asked : goal.returns-clause-asked
returns-clause-asked g c = c.loop-found.invariant.asked

pub returns-then-not-goes_on-clause-brought : goal.returns-then-not-goes_on-clause-brought
returns-then-not-goes_on-clause-brought g c =
    let made = rw c.in-Some.is at c.in_ok-row.ensures.taken in
    brings g.I.RowEntryIterator.takes c.args.rows.now c.next.new.self _ (brought_more g.I.RowEntryIterator.takes c.args.rows.now c.loop-found.rows c.next.new.self c.in-Some.row c.loop-found.found.items _ c.loop-found.invariant.brought made.0 made.2.0 c.in_ok-goes_on.ensures.row)

pub returns-clause-brought : goal.returns-clause-brought
returns-clause-brought g c = brings g.I.RowEntryIterator.takes c.args.rows.now c.loop-found.rows c.loop-found.found.items c.loop-found.invariant.brought

pub loop-found-preserved : goal.loop-found-preserved
loop-found-preserved g c =
    let rest = g.I.RowEntryIterator.rest in
    let was = c.loop-found.invariant in
    record {
      sound = λ s. c.next.ensures.still nothing sees_nothing (was.sound s);
      order = c.next.ensures.order ∙ was.order;
      fewer = λ e r. was.fewer e (fewer_here (λ reads. g.I.RowEntryIterator.takes c.loop-found.rows no_parts reads (Some c.in-Some.row) c.next.new.self) (g.I.RowEntryIterator.refuses c.loop-found.rows no_parts) (g.I.RowEntryIterator.refuses c.next.new.self no_parts) e (rw c.in-Some.is at c.in_ok-row.ensures.taken) r);
      none = λ s n. (subst (NoneBefore Ascending c.args.key.now) (takes _ _ c.in-Some.row _ c.in-Some.is (c.in_ok-row.ensures.rows nothing sees_nothing (was.sound s))) (was.none s n)).1;
      asked = c.in_ok-goes_on.ensures.asked was.asked;
      brought = let made = rw c.in-Some.is at c.in_ok-row.ensures.taken in brought_more g.I.RowEntryIterator.takes c.args.rows.now c.loop-found.rows c.next.new.self c.in-Some.row c.loop-found.found.items _ was.brought made.0 made.2.0 c.in_ok-goes_on.ensures.row;
      found = λ s o n.
          was.found s o n
          ∙ ap (λ xs. c.loop-found.found.items ++ newest c.args.key.now c.args.max_seq xs) (takes (rest c.loop-found.rows nothing) _ c.in-Some.row (rest c.next.new.self nothing) c.in-Some.is (c.in_ok-row.ensures.rows nothing sees_nothing (was.sound s)))
          ∙ c.in_ok-goes_on.ensures.goes_on c.if-not-goes_on.false _;
    }

pub returns-in_err-row-clause-found : goal.returns-in_err-row-clause-found
returns-in_err-row-clause-found g c = λ s o n. IfOk-from_err c.from_residual.result _ c.from_residual.ensures.0

pub returns-in_err-row-clause-brought : goal.returns-in_err-row-clause-brought
returns-in_err-row-clause-brought g c = IfOk-from_err c.from_residual.result _ c.from_residual.ensures.0

pub returns-in_err-row-clause-asked : goal.returns-in_err-row-clause-asked
returns-in_err-row-clause-asked g c = IfOk-from_err c.from_residual.result _ c.from_residual.ensures.0

pub returns-in_err-row-clause-cause : goal.returns-in_err-row-clause-cause
returns-in_err-row-clause-cause g c =
    let p = err_from_is_err_and c.from_residual.result c.from_residual.ensures.1 in
    let refuses = g.I.RowEntryIterator.refuses in
    let e = c.in_err-row.field-0.0 in
    let made = c.in_err-row.ensures.cause in
    rw (p.1, p.2) (cause_before (refuses c.args.rows.now no_parts [] None) (refuses c.loop-found.rows no_parts [] None) e (c.loop-found.invariant.fewer e) (cause_here (refuses c.loop-found.rows no_parts) made.0 e made.1 made.2.0))

pub returns-in_err-goes_on : goal.returns-in_err-goes_on
returns-in_err-goes_on g c =
    record {
      found = λ s o n. IfOk-from_err c.from_residual-in_err-goes_on.result _ c.from_residual-in_err-goes_on.ensures.0;
      asked = IfOk-from_err c.from_residual-in_err-goes_on.result _ c.from_residual-in_err-goes_on.ensures.0;
      brought = IfOk-from_err c.from_residual-in_err-goes_on.result _ c.from_residual-in_err-goes_on.ensures.0;
      cause = err_exit c.from_residual-in_err-goes_on.result _ c.from_residual-in_err-goes_on.ensures.1 _ (inl refl);
    }
