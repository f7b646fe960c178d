use Rattle.std.proofs.Common.{◌≡◌, ◌∙◌, true, false, ◌++◌, ◌∷◌, [], None, Some, Option, List, inr, sym, ap, subst, arith}
use Rattle.std.specs.Prelude.{nat_lt}
use Rattle.std.proofs.lemmas.Bool.Decides.{nat_tests}
use Rattle.slate_types.specs.declared.types.RowEntry.{RowEntry}
use Rattle.slate_types.proofs.Moves.{Moves, moves_both, moves_fails}
use Rattle.slate_types.proofs.Reaching.{reads_then}
use Rattle.slate_merge.specs.Folding.{AreLinked, NoneRises, begins_linked, links}
use Rattle.slate_merge.specs.FoldedLaws.{linked_more}
use Rattle.slate_merge.specs.Folds.{refuses_taken, rest_taken, sound_taken}
use Rattle.slate_merge.specs.Peeking.{with_ahead}
use Rattle.slate_merge.proofs.FoldSteps.{ahead_moves, is_linked, row_moves, spent_moves}
use Rattle.slate_merge.proofs.Operables.{own_of}
use Rattle.slate_merge.proofs.Risings.{Gathering, gathering_ahead, gathering_came, gathering_on, gathering_rises, gathering_spent, never_rises, none_rises_more, not_risen, or_rising, spent_rest}
use Rattle.slate_merge.proofs.Withins.{within_then}
use Rattle.slate_merge.proofs.folding.Folding.gather.Goals as goal

pub returns-then-not-follows-clause-moved : goal.returns-then-not-follows-clause-moved
returns-then-not-follows-clause-moved g c =
    let n = rw c.in-Ok-Some.field-0-is at c.in-Ok-Some.ensures in
    let same = c.reserve.ensures.items in
    subst (λ l. Moves (rest_taken g.I.RowEntryIterator.rest) (sound_taken g.I.RowEntryIterator.rest g.I.RowEntryIterator.sound g.I.RowEntryIterator.order) (refuses_taken g.I.RowEntryIterator.refuses) (g.E.Outside.reach c.args.env.now) (g.E.Outside.reach c.next.new.env) (c.args.iterator.now, None, c.args.first ∷ []) (c.next.new.self, Some c.in-Ok-Some.row, l ++ (c.linked.oldest ∷ []))) (sym same)
    (moves_both _ _ _ _ _ _ _ _ _ c.linked.invariant.moves
    (ahead_moves g.I.RowEntryIterator.rest g.I.RowEntryIterator.sound g.I.RowEntryIterator.refuses g.I.RowEntryIterator.order g.I.RowEntryIterator.takes _ _ c.linked.iterator' c.next.new.self (c.linked.newer.items ++ (c.linked.oldest ∷ [])) c.in-Ok-Some.row n.order (record { rows = n.rows; still = n.still; checked = n.checked; taken = n.taken })))

pub linked-preserved : goal.linked-preserved
linked-preserved g c =
    let i = c.linked.invariant in
    let n = rw c.in-Ok-Some.field-0-is at c.in-Ok-Some.ensures in
    let opened = sym c.is_open.ensures ∙ c.linked-test.true in
    let followed = sym c.follows.ensures ∙ c.if-not-follows.false in
    let level : nat_lt c.linked.oldest.seq c.in-Ok-Some.row.seq ≡ false = grind (arith, nat_tests, c.if-oldest-row.false) in
    let has = c.push_reserved.ensures.items ∙ ap (λ l. l ++ (c.linked.oldest ∷ [])) c.reserve.ensures.items in
    record {
      moves = subst (λ l. Moves (rest_taken g.I.RowEntryIterator.rest) (sound_taken g.I.RowEntryIterator.rest g.I.RowEntryIterator.sound g.I.RowEntryIterator.order) (refuses_taken g.I.RowEntryIterator.refuses) (g.E.Outside.reach c.args.env.now) (g.E.Outside.reach c.next.new.env) (c.args.iterator.now, None, c.args.first ∷ []) (c.next.new.self, None, l ++ (c.in-Ok-Some.row ∷ []))) (sym has)
          (moves_both _ _ _ _ _ _ _ _ _ i.moves
          (row_moves g.I.RowEntryIterator.rest g.I.RowEntryIterator.sound g.I.RowEntryIterator.refuses g.I.RowEntryIterator.order g.I.RowEntryIterator.takes _ _ c.linked.iterator' c.next.new.self (c.linked.newer.items ++ (c.linked.oldest ∷ [])) c.in-Ok-Some.row n.order (record { rows = n.rows; still = n.still; checked = n.checked; taken = n.taken })));
      linked = subst (λ l. AreLinked (links c.args.self.merge_different_expire_ts c.args.self.snapshot_barrier_seq) l c.in-Ok-Some.row) (sym has)
          (linked_more (links c.args.self.merge_different_expire_ts c.args.self.snapshot_barrier_seq) c.linked.newer.items c.linked.oldest c.in-Ok-Some.row i.linked (is_linked c.args.self.merge_different_expire_ts c.args.self.snapshot_barrier_seq c.linked.oldest c.in-Ok-Some.row opened followed));
      falls = subst (λ (l : List RowEntry). NoneRises c.args.self.merge_different_expire_ts c.args.self.snapshot_barrier_seq (l ++ (c.in-Ok-Some.row ∷ []))) (sym has)
          (none_rises_more c.args.self.merge_different_expire_ts c.args.self.snapshot_barrier_seq c.linked.newer.items c.linked.oldest c.in-Ok-Some.row i.falls (not_risen c.args.self.merge_different_expire_ts c.args.self.snapshot_barrier_seq c.linked.oldest c.in-Ok-Some.row level));
      gathered = subst (λ (l : List RowEntry). Gathering g.I.RowEntryIterator.rest g.I.RowEntryIterator.sound g.I.RowEntryIterator.refuses g.I.RowEntryIterator.takes (g.E.Outside.reach c.args.env.now) (g.E.Outside.reach c.next.new.env) c.args.iterator.now c.next.new.self c.args.first (l ++ (c.in-Ok-Some.row ∷ []))) (sym has)
          (gathering_on g.I.RowEntryIterator.rest g.I.RowEntryIterator.sound g.I.RowEntryIterator.refuses g.I.RowEntryIterator.takes _ _ _ _ c.linked.iterator' _ _ c.in-Ok-Some.row (c.linked.newer.items ++ (c.linked.oldest ∷ [])) i.gathered (record { rows = n.rows; still = n.still; checked = n.checked; taken = n.taken }) n.reads);
      empty = i.empty;
      bound = omega (arith, i.bound, n.no_larger);
      order = n.order ∙ i.order;
      within = within_then g.I.RowEntryIterator.within _ _ _ _ _ _ i.within n.within;
      reads = reads_then _ _ _ i.reads n.reads;
      counts = n.counts ∙ i.counts;
    }

pub returns-in-Ok-None-clause-moved : goal.returns-in-Ok-None-clause-moved
returns-in-Ok-None-clause-moved g c =
    let n = rw c.in-Ok-None.field-0-is at c.in-Ok-None.ensures in
    let same = c.reserve.ensures.items in
    subst (λ (o : Option RowEntry). Moves (rest_taken g.I.RowEntryIterator.rest) (sound_taken g.I.RowEntryIterator.rest g.I.RowEntryIterator.sound g.I.RowEntryIterator.order) (refuses_taken g.I.RowEntryIterator.refuses) (g.E.Outside.reach c.args.env.now) (g.E.Outside.reach c.next.new.env) (c.args.iterator.now, None, c.args.first ∷ []) (c.next.new.self, o, c.reserve.new.self.items ++ (c.linked.oldest ∷ []))) (sym c.linked.invariant.empty)
    (subst (λ l. Moves (rest_taken g.I.RowEntryIterator.rest) (sound_taken g.I.RowEntryIterator.rest g.I.RowEntryIterator.sound g.I.RowEntryIterator.order) (refuses_taken g.I.RowEntryIterator.refuses) (g.E.Outside.reach c.args.env.now) (g.E.Outside.reach c.next.new.env) (c.args.iterator.now, None, c.args.first ∷ []) (c.next.new.self, None, l ++ (c.linked.oldest ∷ []))) (sym same)
    (moves_both _ _ _ _ _ _ _ _ _ c.linked.invariant.moves
    (spent_moves g.I.RowEntryIterator.rest g.I.RowEntryIterator.sound g.I.RowEntryIterator.refuses g.I.RowEntryIterator.order g.I.RowEntryIterator.takes _ _ c.linked.iterator' c.next.new.self (c.linked.newer.items ++ (c.linked.oldest ∷ [])) n.order (record { rows = n.rows; still = n.still; checked = n.checked; taken = n.taken }))))

pub returns-in-Ok-None-clause-ends : goal.returns-in-Ok-None-clause-ends
returns-in-Ok-None-clause-ends g c = λ w sees h.
    let n = rw c.in-Ok-None.field-0-is at c.in-Ok-None.ensures in
    let linked = begins_linked (links c.args.self.merge_different_expire_ts c.args.self.snapshot_barrier_seq) c.linked.oldest in
    ap (λ (o : Option RowEntry). linked (with_ahead o (g.I.RowEntryIterator.rest c.next.new.self w))) c.linked.invariant.empty
    ∙ ap linked (spent_rest g.I.RowEntryIterator.rest g.I.RowEntryIterator.sound g.I.RowEntryIterator.refuses g.I.RowEntryIterator.order g.I.RowEntryIterator.takes _ _ _ _ c.linked.iterator' c.next.new.self _ c.linked.invariant.moves
    (record { rows = n.rows; still = n.still; checked = n.checked; taken = n.taken }) w sees h)

pub returns-then-oldest-row-clause-cause : goal.returns-then-oldest-row-clause-cause
returns-then-oldest-row-clause-cause g c =
    let i = c.linked.invariant in
    let n = rw c.in-Ok-Some.field-0-is at c.in-Ok-Some.ensures in
    let last = is_linked c.args.self.merge_different_expire_ts c.args.self.snapshot_barrier_seq c.linked.oldest c.in-Ok-Some.row (sym c.is_open.ensures ∙ c.linked-test.true) (sym c.follows.ensures ∙ c.if-not-follows.false) in
    let above : nat_lt c.linked.oldest.seq c.in-Ok-Some.row.seq ≡ true = grind (arith, nat_tests, c.if-oldest-row.true) in
    let met = gathering_rises g.I.RowEntryIterator.rest g.I.RowEntryIterator.sound g.I.RowEntryIterator.refuses g.I.RowEntryIterator.takes c.args.self.merge_different_expire_ts c.args.self.snapshot_barrier_seq _ _ _ _ c.linked.iterator' _ _ c.linked.oldest c.in-Ok-Some.row c.linked.newer.items i.gathered i.linked
    (record { rows = n.rows; still = n.still; checked = n.checked; taken = n.taken }) n.reads last above in
    (met.0, met.1, inr (inr met.2))

pub returns-then-oldest-row-clause-own : goal.returns-then-oldest-row-clause-own
returns-then-oldest-row-clause-own g c = λ w sees h falls.
    let i = c.linked.invariant in
    let n = rw c.in-Ok-Some.field-0-is at c.in-Ok-Some.ensures in
    let last = is_linked c.args.self.merge_different_expire_ts c.args.self.snapshot_barrier_seq c.linked.oldest c.in-Ok-Some.row (sym c.is_open.ensures ∙ c.linked-test.true) (sym c.follows.ensures ∙ c.if-not-follows.false) in
    let above : nat_lt c.linked.oldest.seq c.in-Ok-Some.row.seq ≡ true = grind (arith, nat_tests, c.if-oldest-row.true) in
    never_rises g.I.RowEntryIterator.rest g.I.RowEntryIterator.sound g.I.RowEntryIterator.refuses g.I.RowEntryIterator.order g.I.RowEntryIterator.takes c.args.self.merge_different_expire_ts c.args.self.snapshot_barrier_seq c.linked.oldest c.in-Ok-Some.row c.linked.newer.items _ _ _ _ c.linked.iterator' _ i.moves
    (record { rows = n.rows; still = n.still; checked = n.checked; taken = n.taken }) last above w sees h falls

pub returns-then-oldest-row-clause-reads : goal.returns-then-oldest-row-clause-reads
returns-then-oldest-row-clause-reads g c =
    let n = rw c.in-Ok-Some.field-0-is at c.in-Ok-Some.ensures in
    reads_then _ _ _ c.linked.invariant.reads n.reads

pub returns-in-Err-clause-cause : goal.returns-in-Err-clause-cause
returns-in-Err-clause-cause g c =
    let i = c.linked.invariant in
    let n = c.in-Err.ensures in
    let made = moves_fails _ _ _ _ _ _ _ _ None _ i.moves i.reads.later (n.cause.0, n.cause.1, n.cause.2.0) in
    (made.0, made.1, or_rising made.2)

pub returns-in-Err-clause-own : goal.returns-in-Err-clause-own
returns-in-Err-clause-own g c = λ w sees h falls.
    let i = c.linked.invariant in
    let n = c.in-Err.ensures in
    own_of g.I.RowEntryIterator.rest g.I.RowEntryIterator.sound g.I.RowEntryIterator.refuses g.I.RowEntryIterator.order _ _ _ _ (moves_fails _ _ _ _ _ _ _ _ None _ i.moves i.reads.later (n.cause.0, n.cause.1, n.cause.2.0))

pub returns-in-Err-clause-reads : goal.returns-in-Err-clause-reads
returns-in-Err-clause-reads g c = reads_then _ _ _ c.linked.invariant.reads c.in-Err.ensures.reads

pub returns-then-not-follows-clause-came : goal.returns-then-not-follows-clause-came
returns-then-not-follows-clause-came g c =
    let n = rw c.in-Ok-Some.field-0-is at c.in-Ok-Some.ensures in
    gathering_ahead g.I.RowEntryIterator.rest g.I.RowEntryIterator.sound g.I.RowEntryIterator.refuses g.I.RowEntryIterator.takes _ _ _ _ c.linked.iterator' c.next.new.self _ c.in-Ok-Some.row _ c.linked.invariant.gathered
    (record { rows = n.rows; still = n.still; checked = n.checked; taken = n.taken }) n.reads

pub returns-in-Ok-None-clause-came : goal.returns-in-Ok-None-clause-came
returns-in-Ok-None-clause-came g c =
    let i = c.linked.invariant in
    let n = rw c.in-Ok-None.field-0-is at c.in-Ok-None.ensures in
    gathering_spent g.I.RowEntryIterator.rest g.I.RowEntryIterator.sound g.I.RowEntryIterator.refuses g.I.RowEntryIterator.takes _ _ _ _ c.linked.iterator' c.next.new.self _ _ _ i.empty i.gathered
    (record { rows = n.rows; still = n.still; checked = n.checked; taken = n.taken }) n.reads

pub returns-clause-came : goal.returns-clause-came
returns-clause-came g c =
    let i = c.linked.invariant in
    gathering_came g.I.RowEntryIterator.rest g.I.RowEntryIterator.sound g.I.RowEntryIterator.refuses g.I.RowEntryIterator.takes _ _ _ c.linked.iterator' _ _ _ i.empty i.gathered

pub returns-then-not-follows-clause-within : goal.returns-then-not-follows-clause-within
returns-then-not-follows-clause-within g c = within_then g.I.RowEntryIterator.within _ _ _ _ _ _ c.linked.invariant.within c.in-Ok-Some.ensures.within

pub returns-then-oldest-row-clause-within : goal.returns-then-oldest-row-clause-within
returns-then-oldest-row-clause-within g c = within_then g.I.RowEntryIterator.within _ _ _ _ _ _ c.linked.invariant.within c.in-Ok-Some.ensures.within

pub returns-in-Ok-None-clause-within : goal.returns-in-Ok-None-clause-within
returns-in-Ok-None-clause-within g c = within_then g.I.RowEntryIterator.within _ _ _ _ _ _ c.linked.invariant.within c.in-Ok-None.ensures.within

pub returns-in-Err-clause-within : goal.returns-in-Err-clause-within
returns-in-Err-clause-within g c = within_then g.I.RowEntryIterator.within _ _ _ _ _ _ c.linked.invariant.within c.in-Err.ensures.within
