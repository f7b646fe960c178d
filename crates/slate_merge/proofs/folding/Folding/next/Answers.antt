use Rattle.std.proofs.Common.{◌≡◌, ◌∙◌, ◌++◌, ◌∷◌, [], Option, None, Some, ap, append_assoc, false, subst, sym, reverse}
use Rattle.std.specs.Prelude.{is_some}
use Rattle.slate_types.specs.declared.types.RowEntry.{RowEntry}
use Rattle.slate_types.specs.Fold.{fold_rows, operator_at}
use Rattle.slate_types.specs.Outside.{Meaning}
use Rattle.slate_types.proofs.Calls.{sees_first, sees_last}
use Rattle.slate_types.proofs.Moves.{moves_both}
use Rattle.slate_types.proofs.Reaching.{reads_then}
use Rattle.slate_merge.specs.FoldedLaws.{linked_operands}
use Rattle.slate_merge.specs.Folding.{FoldFalls, NoneRises, begins_linked, links}
use Rattle.slate_merge.specs.Folds.{operable_taken, sound_taken, takes_ahead}
use Rattle.slate_merge.specs.Peeking.{with_ahead}
use Rattle.slate_merge.proofs.FoldSteps.{call_moves, first_moves, folded_none, folded_step, gathered_ends, open_blames, operator_blames, some_operator, source_blames, through_step}
use Rattle.slate_merge.proofs.FoldBringings.{first_came, still_came}
use Rattle.slate_merge.proofs.Operables.{moved_operable, not_operable, operator_own, own_of, step_operable}
use Rattle.slate_merge.proofs.Risings.{gathered_blames, gathered_falls, own_behind, through_falls}
use Rattle.slate_merge.proofs.Withins.{within_call, within_then}
use Rattle.slate_merge.proofs.folding.Folding.next.Goals as goal

pub returns-in-Ok-None-clause-step : goal.returns-in-Ok-None-clause-step
returns-in-Ok-None-clause-step g c =
    let i = g.I.RowEntryIterator in
    let t = rw c.in-Ok-None.field-0-is at c.in-Ok-None.ensures in
    folded_none i.rest i.sound i.refuses i.order i.begins i.takes i.seeks c.args.self.merge_different_expire_ts c.args.self.snapshot_barrier_seq _ _ c.args.iterator.now c.take_ahead.new.iterator c.args.ahead.now c.take_ahead.new.ahead t.empty t.step

pub returns-then-not-is_open-clause-step : goal.returns-then-not-is_open-clause-step
returns-then-not-is_open-clause-step g c =
    let i = g.I.RowEntryIterator in
    let t = rw c.in-Ok-Some.field-0-is at c.in-Ok-Some.ensures in
    through_step i.rest i.sound i.refuses i.order i.begins i.takes i.seeks c.args.self.merge_different_expire_ts c.args.self.snapshot_barrier_seq _ _ c.args.iterator.now c.take_ahead.new.iterator c.args.ahead.now c.take_ahead.new.ahead c.in-Ok-Some.first t.empty
    (sym c.is_open.ensures ∙ c.if-not-is_open.true) t.step

pub returns-in-Ok-fold_group-clause-step : goal.returns-in-Ok-fold_group-clause-step
returns-in-Ok-fold_group-clause-step g c =
    let rest = g.I.RowEntryIterator.rest in
    let sound = g.I.RowEntryIterator.sound in
    let refuses = g.I.RowEntryIterator.refuses in
    let order = g.I.RowEntryIterator.order in
    let takes = g.I.RowEntryIterator.takes in
    let different = c.args.self.merge_different_expire_ts in
    let barrier = c.args.self.snapshot_barrier_seq in
    let t = rw c.in-Ok-Some.field-0-is at c.in-Ok-Some.ensures in
    let n = c.in-Ok.ensures in
    let f = c.in-Ok-fold_group.ensures in
    let group = c.in-Ok.group in
    let reach = g.E.Outside.reach in
    let first = first_moves rest sound refuses order _ _ _ c.args.iterator.now c.take_ahead.new.iterator c.args.ahead.now c.in-Ok-Some.first t.order t.step in
    let gathered = moves_both _ _ _ _ _ _ _ _ _ first n.moved in
    folded_step rest sound refuses order g.I.RowEntryIterator.begins takes g.I.RowEntryIterator.seeks different barrier (reach c.args.env.now) (reach c.fold_group.new.env) c.args.iterator.now c.gather.new.iterator c.args.ahead.now c.gather.new.ahead group.newer.items group.oldest c.in-Ok-fold_group.row
    (moves_both _ _ _ _ _ _ _ _ _ gathered (call_moves _ _ _ (reach c.gather.new.env) (reach c.fold_group.new.env) _ f.call)) n.linked
    (gathered_ends (sound_taken rest sound order) (sound_taken rest sound order) (λ w. begins_linked (links different barrier) group.oldest (with_ahead c.gather.new.ahead (rest c.gather.new.iterator w)) ≡ false)
    (reach c.args.env.now) (reach c.take_ahead.new.env) (reach c.gather.new.env) (reach c.fold_group.new.env) (c.args.iterator.now, c.args.ahead.now, []) (c.take_ahead.new.iterator, None, c.in-Ok-Some.first ∷ []) _ _ first.made.1 n.moved.made.1 f.call first.still n.ends)
    (subst (λ (p : Meaning). fold_rows (operator_at p.combine group.oldest.key) (group.oldest ∷ reverse group.newer.items) ≡ Some c.in-Ok-fold_group.row) gathered.made.1.meaning (f.value (linked_operands different barrier group.newer.items group.oldest n.linked)))
    (some_operator (reach c.args.env.now) (reach c.take_ahead.new.env) c.has_operator.result first.made.1.meaning c.has_operator.ensures c.if-not-has_operator.false)
    (still_came takes refuses (reach c.args.env.now) (reach c.gather.new.env) (reach c.fold_group.new.env) c.args.iterator.now c.gather.new.iterator c.args.ahead.now c.gather.new.ahead
    (first_came takes refuses (reach c.args.env.now) (reach c.take_ahead.new.env) (reach c.gather.new.env) c.args.iterator.now c.take_ahead.new.iterator c.gather.new.iterator c.args.ahead.now c.gather.new.ahead c.in-Ok-Some.first t.step.taken n.came) f.call)

pub returns-in-Ok-fold_group-clause-reads : goal.returns-in-Ok-fold_group-clause-reads
returns-in-Ok-fold_group-clause-reads g c =
    let t = rw c.in-Ok-Some.field-0-is at c.in-Ok-Some.ensures in
    reads_then _ _ _ (reads_then _ _ _ t.reads c.in-Ok.ensures.reads) c.in-Ok-fold_group.ensures.reads

pub returns-in-Err-clause-cause : goal.returns-in-Err-clause-cause
returns-in-Err-clause-cause g c =
    let i = g.I.RowEntryIterator in
    source_blames i.rest i.sound i.refuses i.order i.begins i.takes i.seeks c.args.self.merge_different_expire_ts c.args.self.snapshot_barrier_seq (g.E.Outside.reach c.args.env.now) (g.E.Outside.reach c.take_ahead.new.env) c.args.iterator.now c.take_ahead.new.iterator c.args.ahead.now c.in-Err.error c.in-Err.ensures.cause

pub returns-then-not-has_operator-clause-cause : goal.returns-then-not-has_operator-clause-cause
returns-then-not-has_operator-clause-cause g c =
    let i = g.I.RowEntryIterator in
    let t = rw c.in-Ok-Some.field-0-is at c.in-Ok-Some.ensures in
    open_blames i.rest i.sound i.refuses i.order i.begins i.takes i.seeks c.args.self.merge_different_expire_ts c.args.self.snapshot_barrier_seq (g.E.Outside.reach c.args.env.now) (g.E.Outside.reach c.take_ahead.new.env) c.args.iterator.now c.take_ahead.new.iterator c.args.ahead.now c.in-Ok-Some.first c.has_operator.result t.step
    (sym c.is_open.ensures ∙ c.if-not-is_open.false) t.reads.meaning c.has_operator.ensures c.if-not-has_operator.true

pub returns-in-Err-fold_group-clause-cause : goal.returns-in-Err-fold_group-clause-cause
returns-in-Err-fold_group-clause-cause g c =
    let t = rw c.in-Ok-Some.field-0-is at c.in-Ok-Some.ensures in
    let n = c.in-Ok.ensures in
    let f = c.in-Err-fold_group.ensures in
    let reach = g.E.Outside.reach in
    let first = first_moves g.I.RowEntryIterator.rest g.I.RowEntryIterator.sound g.I.RowEntryIterator.refuses g.I.RowEntryIterator.order _ _ _ c.args.iterator.now c.take_ahead.new.iterator c.args.ahead.now c.in-Ok-Some.first t.order t.step in
    let gathered = moves_both _ _ _ _ _ _ _ _ _ first n.moved in
    let made = (moves_both _ _ _ _ _ _ _ _ _ gathered (call_moves _ _ _ (reach c.gather.new.env) (reach c.fold_group.new.env) _ f.call)).made in (
      made.0,
      made.1,
      operator_blames (reach c.args.env.now) (reach c.gather.new.env) (reach c.fold_group.new.env) c.in-Err-fold_group.error c.has_operator.result (reads_then (reach c.args.env.now) (reach c.take_ahead.new.env) (reach c.gather.new.env) t.reads n.reads).later gathered.made.1.meaning
          (c.has_operator.ensures ∙ ap (λ (p : Meaning). is_some p.combine) first.made.1.meaning) c.if-not-has_operator.false f.cause,
    )

pub returns-in-Err-gather-clause-cause : goal.returns-in-Err-gather-clause-cause
returns-in-Err-gather-clause-cause g c =
    let t = rw c.in-Ok-Some.field-0-is at c.in-Ok-Some.ensures in
    let reach = g.E.Outside.reach in
    gathered_blames g.I.RowEntryIterator.rest g.I.RowEntryIterator.sound g.I.RowEntryIterator.refuses g.I.RowEntryIterator.order g.I.RowEntryIterator.begins g.I.RowEntryIterator.takes g.I.RowEntryIterator.seeks c.args.self.merge_different_expire_ts c.args.self.snapshot_barrier_seq (reach c.args.env.now) (reach c.take_ahead.new.env) (reach c.gather.new.env)
    c.args.iterator.now c.take_ahead.new.iterator c.gather.new.iterator c.args.ahead.now c.in-Ok-Some.first c.in-Err-gather.error t.step t.reads.later
    (some_operator (reach c.args.env.now) (reach c.take_ahead.new.env) c.has_operator.result t.reads.meaning c.has_operator.ensures c.if-not-has_operator.false) c.in-Err-gather.ensures.cause

pub returns-in-Ok-fold_group-clause-operable : goal.returns-in-Ok-fold_group-clause-operable
returns-in-Ok-fold_group-clause-operable g c =
    let rest = g.I.RowEntryIterator.rest in
    let sound = g.I.RowEntryIterator.sound in
    let refuses = g.I.RowEntryIterator.refuses in
    let order = g.I.RowEntryIterator.order in
    let t = rw c.in-Ok-Some.field-0-is at c.in-Ok-Some.ensures in
    let group = c.in-Ok.group in
    let reach = g.E.Outside.reach in
    let first = first_moves rest sound refuses order _ _ _ c.args.iterator.now c.take_ahead.new.iterator c.args.ahead.now c.in-Ok-Some.first t.order t.step in
    moved_operable rest sound refuses order c.args.self.merge_different_expire_ts c.args.self.snapshot_barrier_seq (reach c.args.env.now) (reach c.fold_group.new.env) (c.args.iterator.now, c.args.ahead.now, []) c.gather.new.iterator c.gather.new.ahead (group.newer.items ++ (group.oldest ∷ []))
    (moves_both _ _ _ _ _ _ _ _ _ (moves_both _ _ _ _ _ _ _ _ _ first c.in-Ok.ensures.moved) (call_moves _ _ _ (reach c.gather.new.env) (reach c.fold_group.new.env) _ c.in-Ok-fold_group.ensures.call))

pub returns-in-Ok-None-clause-operable : goal.returns-in-Ok-None-clause-operable
returns-in-Ok-None-clause-operable g c = λ w sees h op.
    let rest = g.I.RowEntryIterator.rest in
    let t = rw c.in-Ok-None.field-0-is at c.in-Ok-None.ensures in
    subst (λ (o : Option RowEntry). operable_taken c.args.self.merge_different_expire_ts c.args.self.snapshot_barrier_seq rest (c.take_ahead.new.iterator, o, []) w) (sym t.empty)
    (step_operable rest g.I.RowEntryIterator.sound g.I.RowEntryIterator.refuses g.I.RowEntryIterator.order (takes_ahead g.I.RowEntryIterator.takes) c.args.self.merge_different_expire_ts c.args.self.snapshot_barrier_seq (g.E.Outside.reach c.args.env.now) (g.E.Outside.reach c.take_ahead.new.env) (c.args.iterator.now, c.args.ahead.now, []) (c.take_ahead.new.iterator, None, []) None t.step w sees h op)

pub returns-then-not-is_open-clause-operable : goal.returns-then-not-is_open-clause-operable
returns-then-not-is_open-clause-operable g c = λ w sees h op.
    let rest = g.I.RowEntryIterator.rest in
    let t = rw c.in-Ok-Some.field-0-is at c.in-Ok-Some.ensures in
    subst (λ (o : Option RowEntry). operable_taken c.args.self.merge_different_expire_ts c.args.self.snapshot_barrier_seq rest (c.take_ahead.new.iterator, o, []) w) (sym t.empty)
    (step_operable rest g.I.RowEntryIterator.sound g.I.RowEntryIterator.refuses g.I.RowEntryIterator.order (takes_ahead g.I.RowEntryIterator.takes) c.args.self.merge_different_expire_ts c.args.self.snapshot_barrier_seq (g.E.Outside.reach c.args.env.now) (g.E.Outside.reach c.take_ahead.new.env) (c.args.iterator.now, c.args.ahead.now, []) (c.take_ahead.new.iterator, None, []) (Some c.in-Ok-Some.first) t.step w sees h op)

pub returns-then-not-has_operator-clause-own : goal.returns-then-not-has_operator-clause-own
returns-then-not-has_operator-clause-own g c = λ w sees h op.
    let t = rw c.in-Ok-Some.field-0-is at c.in-Ok-Some.ensures in
    not_operable g.I.RowEntryIterator.rest g.I.RowEntryIterator.sound g.I.RowEntryIterator.refuses g.I.RowEntryIterator.order (takes_ahead g.I.RowEntryIterator.takes) c.args.self.merge_different_expire_ts c.args.self.snapshot_barrier_seq (g.E.Outside.reach c.args.env.now) (g.E.Outside.reach c.take_ahead.new.env) (c.args.iterator.now, c.args.ahead.now, []) (c.take_ahead.new.iterator, None, []) c.in-Ok-Some.first c.has_operator.result t.step
    (sym c.is_open.ensures ∙ c.if-not-is_open.false) t.reads.meaning c.has_operator.ensures c.if-not-has_operator.true w sees h op

pub returns-in-Err-clause-own : goal.returns-in-Err-clause-own
returns-in-Err-clause-own g c = λ w sees h op.
    own_of g.I.RowEntryIterator.rest g.I.RowEntryIterator.sound g.I.RowEntryIterator.refuses g.I.RowEntryIterator.order (g.E.Outside.reach c.args.env.now) (g.E.Outside.reach c.take_ahead.new.env) c.args.iterator.now c.in-Err.error c.in-Err.ensures.cause

pub returns-in-Err-fold_group-clause-own : goal.returns-in-Err-fold_group-clause-own
returns-in-Err-fold_group-clause-own g c = λ w sees h op.
    let t = rw c.in-Ok-Some.field-0-is at c.in-Ok-Some.ensures in
    let n = c.in-Ok.ensures in
    let reach = g.E.Outside.reach in
    let same = n.reads.meaning ∙ t.reads.meaning in
    operator_own g.I.RowEntryIterator.rest g.I.RowEntryIterator.sound g.I.RowEntryIterator.refuses g.I.RowEntryIterator.order (reach c.args.env.now) (reach c.gather.new.env) (reach c.fold_group.new.env) c.args.iterator.now c.in-Err-fold_group.error c.has_operator.result (reads_then (reach c.args.env.now) (reach c.take_ahead.new.env) (reach c.gather.new.env) t.reads n.reads).later same
    (c.has_operator.ensures ∙ ap (λ (p : Meaning). is_some p.combine) t.reads.meaning) c.if-not-has_operator.false c.in-Err-fold_group.ensures.cause

pub returns-in-Err-gather-clause-own : goal.returns-in-Err-gather-clause-own
returns-in-Err-gather-clause-own g c = λ w sees h op.
    let t = rw c.in-Ok-Some.field-0-is at c.in-Ok-Some.ensures in
    let first = first_moves g.I.RowEntryIterator.rest g.I.RowEntryIterator.sound g.I.RowEntryIterator.refuses g.I.RowEntryIterator.order _ _ _ c.args.iterator.now c.take_ahead.new.iterator c.args.ahead.now c.in-Ok-Some.first t.order t.step in
    let reach = g.E.Outside.reach in
    let n = c.in-Err-gather.ensures in
    let rest = g.I.RowEntryIterator.rest in
    let seen = sees_first w (reach c.args.env.now) (reach c.take_ahead.new.env) (reach c.gather.new.env) first.made.0 n.cause.0 first.made.1 n.cause.1 sees in
    let last = sees_last w (reach c.args.env.now) (reach c.take_ahead.new.env) (reach c.gather.new.env) first.made.0 n.cause.0 first.made.1 n.cause.1 sees in
    own_behind rest g.I.RowEntryIterator.sound g.I.RowEntryIterator.refuses g.I.RowEntryIterator.order (reach c.args.env.now) (reach c.take_ahead.new.env) (reach c.gather.new.env) (c.args.iterator.now, c.args.ahead.now, []) c.take_ahead.new.iterator None (c.in-Ok-Some.first ∷ []) c.in-Err-gather.error first t.reads.later
    (n.own w last (first.still w seen h) (subst (NoneRises c.args.self.merge_different_expire_ts c.args.self.snapshot_barrier_seq) (sym (first.rows w seen h)) op.1))

pub returns-in-Ok-None-clause-falls : goal.returns-in-Ok-None-clause-falls
returns-in-Ok-None-clause-falls g c = λ w sees h.
    let t = rw c.in-Ok-None.field-0-is at c.in-Ok-None.ensures in
    subst (FoldFalls c.args.self.merge_different_expire_ts c.args.self.snapshot_barrier_seq) (sym (t.step.rows w sees h).0) tt

pub returns-then-not-is_open-clause-falls : goal.returns-then-not-is_open-clause-falls
returns-then-not-is_open-clause-falls g c = λ w sees h.
    let t = rw c.in-Ok-Some.field-0-is at c.in-Ok-Some.ensures in
    subst (FoldFalls c.args.self.merge_different_expire_ts c.args.self.snapshot_barrier_seq) (sym (t.step.rows w sees h))
    (through_falls c.args.self.merge_different_expire_ts c.args.self.snapshot_barrier_seq c.in-Ok-Some.first (g.I.RowEntryIterator.rest c.take_ahead.new.iterator w) (sym c.is_open.ensures ∙ c.if-not-is_open.true))

pub returns-in-Ok-fold_group-clause-falls : goal.returns-in-Ok-fold_group-clause-falls
returns-in-Ok-fold_group-clause-falls g c = λ w sees h.
    let rest = g.I.RowEntryIterator.rest in
    let sound = g.I.RowEntryIterator.sound in
    let order = g.I.RowEntryIterator.order in
    let different = c.args.self.merge_different_expire_ts in
    let barrier = c.args.self.snapshot_barrier_seq in
    let t = rw c.in-Ok-Some.field-0-is at c.in-Ok-Some.ensures in
    let n = c.in-Ok.ensures in
    let f = c.in-Ok-fold_group.ensures in
    let group = c.in-Ok.group in
    let reach = g.E.Outside.reach in
    let first = first_moves rest sound g.I.RowEntryIterator.refuses order _ _ _ c.args.iterator.now c.take_ahead.new.iterator c.args.ahead.now c.in-Ok-Some.first t.order t.step in
    let gathered = moves_both _ _ _ _ _ _ _ _ _ first n.moved in
    let seen = sees_first w (reach c.args.env.now) (reach c.gather.new.env) (reach c.fold_group.new.env) gathered.made.0 [] gathered.made.1 f.call sees in
    let last = sees_last w (reach c.args.env.now) (reach c.take_ahead.new.env) (reach c.gather.new.env) first.made.0 n.moved.made.0 first.made.1 n.moved.made.1 seen in
    let begun = first.still w (sees_first w (reach c.args.env.now) (reach c.take_ahead.new.env) (reach c.gather.new.env) first.made.0 n.moved.made.0 first.made.1 n.moved.made.1 seen) h in
    let more = with_ahead c.gather.new.ahead (rest c.gather.new.iterator w) in
    subst (FoldFalls different barrier) (sym (append_assoc group.newer.items (group.oldest ∷ []) more) ∙ gathered.rows w seen h)
    (gathered_falls different barrier group.newer.items group.oldest more n.falls (n.ends w last begun))

pub returns-in-Ok-None-clause-sources : goal.returns-in-Ok-None-clause-sources
returns-in-Ok-None-clause-sources g c =
    let t = rw c.in-Ok-None.field-0-is at c.in-Ok-None.ensures in
    (t.step.taken.0, t.step.taken.1, t.step.taken.2.1)

pub returns-then-not-is_open-clause-sources : goal.returns-then-not-is_open-clause-sources
returns-then-not-is_open-clause-sources g c =
    let t = rw c.in-Ok-Some.field-0-is at c.in-Ok-Some.ensures in
    (t.step.taken.0, t.step.taken.1, t.step.taken.2.1)

pub returns-in-Ok-fold_group-clause-sources : goal.returns-in-Ok-fold_group-clause-sources
returns-in-Ok-fold_group-clause-sources g c =
    let t = rw c.in-Ok-Some.field-0-is at c.in-Ok-Some.ensures in
    let reach = g.E.Outside.reach in
    let first = first_moves g.I.RowEntryIterator.rest g.I.RowEntryIterator.sound g.I.RowEntryIterator.refuses g.I.RowEntryIterator.order _ _ _ c.args.iterator.now c.take_ahead.new.iterator c.args.ahead.now c.in-Ok-Some.first t.order t.step in
    (moves_both _ _ _ _ _ _ _ _ _ (moves_both _ _ _ _ _ _ _ _ _ first c.in-Ok.ensures.moved) (call_moves _ _ _ (reach c.gather.new.env) (reach c.fold_group.new.env) _ c.in-Ok-fold_group.ensures.call)).made

pub returns-in-Ok-fold_group-clause-within : goal.returns-in-Ok-fold_group-clause-within
returns-in-Ok-fold_group-clause-within g c =
    let within = g.I.RowEntryIterator.within in
    within_call within _ _ _ _ _ (within_then within _ _ _ _ _ _ c.in-Ok-Some.ensures.within c.in-Ok.ensures.within) c.in-Ok-fold_group.ensures.call

pub returns-in-Err-fold_group-clause-within : goal.returns-in-Err-fold_group-clause-within
returns-in-Err-fold_group-clause-within g c =
    let within = g.I.RowEntryIterator.within in
    within_call within _ _ _ _ _ (within_then within _ _ _ _ _ _ c.in-Ok-Some.ensures.within c.in-Ok.ensures.within) c.in-Err-fold_group.ensures.call

pub returns-in-Err-gather-clause-within : goal.returns-in-Err-gather-clause-within
returns-in-Err-gather-clause-within g c = within_then g.I.RowEntryIterator.within _ _ _ _ _ _ c.in-Ok-Some.ensures.within c.in-Err-gather.ensures.within
