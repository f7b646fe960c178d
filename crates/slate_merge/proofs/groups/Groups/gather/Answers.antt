use Rattle.std.proofs.Common.{◌∙◌, ◌∷◌, ◌++◌, [], None, refl, ap, subst, length, arith}
use Rattle.std.proofs.lemmas.List.{length-append}
use Rattle.std.proofs.lemmas.Result.{err_from_is_err_and}
use Rattle.slate_types.proofs.Reaching.{reads_then}
use Rattle.slate_types.proofs.Moves.{moves_both, moves_fails}
use Rattle.slate_merge.specs.Groups.{IsOneKey, StandsApart}
use Rattle.slate_merge.proofs.Grouping.{gathered_moves, same_moves, source_spent, spent_moves, spent_rest, stands_of, turned_moves}
use Rattle.slate_merge.proofs.Handings.{gathers_end, gathers_more, gathers_turn}
use Rattle.slate_merge.proofs.Withins.{within_then}
use Rattle.slate_merge.proofs.groups.Groups.gather.Goals as goal

pub returns-then-is_apart-clause-came : goal.returns-then-is_apart-clause-came
returns-then-is_apart-clause-came g c =
    let i = c.loop-iterator.invariant in
    let n = rw c.in-Some.is at c.in_ok-row.ensures in
    gathers_turn g.I.RowEntryIterator.refuses g.I.RowEntryIterator.takes _ _ _ _ _ c.next.new.self c.args.self.now c.turn.new.self c.loop-iterator.self.gathered.items c.in-Some.row i.came n.taken c.requires.none
    (c.turn.ensures.ready ∙ c.reserve-in-loop-iterator.ensures.items) c.turn.ensures.gathered

pub returns-in-None-clause-came : goal.returns-in-None-clause-came
returns-in-None-clause-came g c =
    let i = c.loop-iterator.invariant in
    let n = rw c.in-None.is at c.in_ok-row.ensures in
    gathers_end g.I.RowEntryIterator.refuses g.I.RowEntryIterator.takes _ _ _ _ _ c.next.new.self c.args.self.now (record { ready = c.swap.new.x; gathered = c.swap.new.y }) c.loop-iterator.self.gathered.items i.came n.taken c.requires.none
    (ap (λ v. v.items) c.swap.ensures.x_after ∙ c.reserve-in-loop-iterator.ensures.items) (ap (λ v. v.items) c.swap.ensures.y_after ∙ i.none)

pub returns-in_err-row-clause-cause : goal.returns-in_err-row-clause-cause
returns-in_err-row-clause-cause g c =
    let i = c.loop-iterator.invariant in
    let n = c.in_err-row.ensures in
    let p = err_from_is_err_and c.from_residual-in_err-row.result c.from_residual-in_err-row.ensures.1 in
    rw (p.1, p.2) (moves_fails _ _ _ _ _ _ _ _ None _ i.moves i.reads.later (n.cause.0, n.cause.1, n.cause.2.0))

pub returns-then-is_apart-clause-stands : goal.returns-then-is_apart-clause-stands
returns-then-is_apart-clause-stands g c =
    let begun = same_moves g.I.RowEntryIterator.rest g.I.RowEntryIterator.sound g.I.RowEntryIterator.order g.I.RowEntryIterator.refuses _ c.args.iterator.now c.args.self.now (record { ready = c.reserve.new.self; gathered = c.args.self.now.gathered }) c.reserve.ensures.items refl in
    let i = c.loop-iterator.invariant in
    let n = rw c.in-Some.is at c.in_ok-row.ensures in
    let same = c.reserve-in-loop-iterator.ensures.items in
    let apart = subst (λ l. StandsApart l (c.in-Some.row ∷ [])) (c.as_slice.ensures.value ∙ same) (c.is_apart.ensures.apart c.if-is_apart.true).0 in
    stands_of g.I.RowEntryIterator.rest g.I.RowEntryIterator.sound g.I.RowEntryIterator.order g.I.RowEntryIterator.refuses _ _ _ _ (moves_both _ _ _ _ _ _ _ _ _ (moves_both _ _ _ _ _ _ _ _ _ begun i.moves)
    (turned_moves g.I.RowEntryIterator.rest g.I.RowEntryIterator.sound g.I.RowEntryIterator.order g.I.RowEntryIterator.refuses g.I.RowEntryIterator.takes _ _ c.loop-iterator.iterator' c.next.new.self c.loop-iterator.self c.turn.new.self c.in-Some.row
    (i.order ∙ c.requires.downwards) n.order (record { rows = n.rows; still = n.still; checked = n.checked; taken = n.taken }) i.none (c.turn.ensures.ready ∙ same) c.turn.ensures.gathered apart))

pub loop-iterator-preserved : goal.loop-iterator-preserved
loop-iterator-preserved g c =
    let i = c.loop-iterator.invariant in
    let n = rw c.in-Some.is at c.in_ok-row.ensures in
    let same = c.reserve-in-loop-iterator.ensures.items in
    let has = c.push_reserved.ensures.items ∙ ap (λ l. l ++ (c.in-Some.row ∷ [])) same in
    let one = subst (λ l. IsOneKey l → IsOneKey (l ++ (c.in-Some.row ∷ []))) (c.as_slice.ensures.value ∙ same) (c.is_apart.ensures.same c.if-is_apart.false) in
    let size = ap length has ∙ length-append c.loop-iterator.self.gathered.items (c.in-Some.row ∷ []) in
    let less = n.smaller refl in
    record {
      moves = moves_both _ _ _ _ _ _ _ _ _ i.moves
          (gathered_moves g.I.RowEntryIterator.rest g.I.RowEntryIterator.sound g.I.RowEntryIterator.order g.I.RowEntryIterator.refuses g.I.RowEntryIterator.takes _ _ c.loop-iterator.iterator' c.next.new.self c.loop-iterator.self (record { ready = c.loop-iterator.self.ready; gathered = c.push_reserved.new.self }) c.in-Some.row
          (i.order ∙ c.requires.downwards) n.order (record { rows = n.rows; still = n.still; checked = n.checked; taken = n.taken }) refl has one);
      came = gathers_more g.I.RowEntryIterator.refuses g.I.RowEntryIterator.takes _ _ _ _ _ c.next.new.self _ c.loop-iterator.self.gathered.items _ c.in-Some.row i.came n.taken has;
      none = i.none;
      room = i.room;
      bound = omega (arith, i.bound, less, size);
      order = n.order ∙ i.order;
      within = within_then g.I.RowEntryIterator.within _ _ _ _ _ _ i.within n.within;
      reads = reads_then _ _ _ i.reads n.reads;
      counts = n.counts ∙ i.counts;
    }

pub returns-in-None-clause-stands : goal.returns-in-None-clause-stands
returns-in-None-clause-stands g c =
    let begun = same_moves g.I.RowEntryIterator.rest g.I.RowEntryIterator.sound g.I.RowEntryIterator.order g.I.RowEntryIterator.refuses _ c.args.iterator.now c.args.self.now (record { ready = c.reserve.new.self; gathered = c.args.self.now.gathered }) c.reserve.ensures.items refl in
    let i = c.loop-iterator.invariant in
    let n = rw c.in-None.is at c.in_ok-row.ensures in
    stands_of g.I.RowEntryIterator.rest g.I.RowEntryIterator.sound g.I.RowEntryIterator.order g.I.RowEntryIterator.refuses _ _ _ _ (moves_both _ _ _ _ _ _ _ _ _ (moves_both _ _ _ _ _ _ _ _ _ begun i.moves)
    (spent_moves g.I.RowEntryIterator.rest g.I.RowEntryIterator.sound g.I.RowEntryIterator.order g.I.RowEntryIterator.refuses g.I.RowEntryIterator.takes _ _ c.loop-iterator.iterator' c.next.new.self c.loop-iterator.self (record { ready = c.swap.new.x; gathered = c.swap.new.y })
    (i.order ∙ c.requires.downwards) n.order (record { rows = n.rows; still = n.still; checked = n.checked; taken = n.taken }) i.none
    (ap (λ v. v.items) c.swap.ensures.x_after ∙ c.reserve-in-loop-iterator.ensures.items) (ap (λ v. v.items) c.swap.ensures.y_after ∙ i.none)))

pub returns-in-None-clause-spent : goal.returns-in-None-clause-spent
returns-in-None-clause-spent g c = λ w sees sound empty.
    let begun = same_moves g.I.RowEntryIterator.rest g.I.RowEntryIterator.sound g.I.RowEntryIterator.order g.I.RowEntryIterator.refuses _ c.args.iterator.now c.args.self.now (record { ready = c.reserve.new.self; gathered = c.args.self.now.gathered }) c.reserve.ensures.items refl in
    let i = c.loop-iterator.invariant in
    let n = rw c.in-None.is at c.in_ok-row.ensures in
    spent_rest g.I.RowEntryIterator.rest g.I.RowEntryIterator.sound g.I.RowEntryIterator.order g.I.RowEntryIterator.refuses c.loop-iterator.iterator' c.next.new.self c.loop-iterator.self (record { ready = c.swap.new.x; gathered = c.swap.new.y }) w
    (n.order ∙ i.order ∙ c.requires.downwards) empty (ap (λ v. v.items) c.swap.ensures.y_after ∙ i.none)
    (source_spent g.I.RowEntryIterator.rest g.I.RowEntryIterator.sound g.I.RowEntryIterator.order g.I.RowEntryIterator.refuses g.I.RowEntryIterator.takes _ _ _ _ (c.loop-iterator.iterator', c.loop-iterator.self) c.next.new.self (moves_both _ _ _ _ _ _ _ _ _ begun i.moves)
    (record { rows = n.rows; still = n.still; checked = n.checked; taken = n.taken }) w sees sound)

pub returns-in_err-row-clause-within : goal.returns-in_err-row-clause-within
returns-in_err-row-clause-within g c = within_then g.I.RowEntryIterator.within _ _ _ _ _ _ c.loop-iterator.invariant.within c.in_err-row.ensures.within

pub returns-then-is_apart-clause-within : goal.returns-then-is_apart-clause-within
returns-then-is_apart-clause-within g c = within_then g.I.RowEntryIterator.within _ _ _ _ _ _ c.loop-iterator.invariant.within c.in_ok-row.ensures.within

pub returns-in-None-clause-within : goal.returns-in-None-clause-within
returns-in-None-clause-within g c = within_then g.I.RowEntryIterator.within _ _ _ _ _ _ c.loop-iterator.invariant.within c.in_ok-row.ensures.within
