use Rattle.std.proofs.Common.{rules, ◌++◌, ◌∙◌, ap, sym, refl, append-nil}
use Rattle.std.proofs.lemmas.Result.{IfOk-weaker}
use Rattle.slate_types.proofs.Moves.{moves_step}
use Rattle.slate_merge.proofs.Grouping.{newest_step, popped_step, same_moves, step_of, upwards_step}
use Rattle.slate_merge.specs.Handing.{held_of}
use Rattle.slate_merge.proofs.Handings.{newest_hands, popped_hands, upwards_hands}
use Rattle.slate_merge.proofs.groups.Groups.next.Goals as goal

pub returns-in-Ascending-clause-hands : goal.returns-in-Ascending-clause-hands
returns-in-Ascending-clause-hands g c =
    IfOk-weaker c.next.result _ _ (λ answer k. upwards_hands g.I.RowEntryIterator.refuses g.I.RowEntryIterator.takes _ _ c.args.iterator.now c.next.new.self (held_of c.args.self.now) answer k) c.next.ensures.taken

pub returns-in-Some-clause-hands : goal.returns-in-Some-clause-hands
returns-in-Some-clause-hands g c =
    popped_hands g.I.RowEntryIterator.refuses g.I.RowEntryIterator.takes _ c.args.iterator.now c.args.self.now (record { ready = c.pop.new.self; gathered = c.args.self.now.gathered }) c.in-Some.row c.in-Some.ensures.items refl

pub returns-clause-hands : goal.returns-clause-hands
returns-clause-hands g c =
    let e = c.in_ok-gather.ensures in
    let same = sym (c.in_default.ensures.items ∙ append-nil c.pop.new.self.items) in
    newest_hands g.I.RowEntryIterator.refuses g.I.RowEntryIterator.takes _ _ c.args.iterator.now _ (held_of c.args.self.now) c.gather.new.iterator c.gather.new.self (record { ready = c.pop-2.new.self; gathered = c.gather.new.self.gathered }) c.pop-2.result
    (ap (λ l. l ++ c.args.self.now.gathered.items) same) e.came c.pop-2.ensures.items refl

pub returns-in-Ascending-clause-step : goal.returns-in-Ascending-clause-step
returns-in-Ascending-clause-step g c =
    let n = c.next.ensures in
    let up = sym c.iteration_order.ensures ∙ c.in-Ascending.is in
    IfOk-weaker c.next.result _ _ (λ answer s. upwards_step g.I.RowEntryIterator.rest g.I.RowEntryIterator.sound g.I.RowEntryIterator.order g.I.RowEntryIterator.refuses g.I.RowEntryIterator.takes _ _ _ _ c.args.self.now answer up n.order s)
    (step_of g.I.RowEntryIterator.rest g.I.RowEntryIterator.sound g.I.RowEntryIterator.refuses g.I.RowEntryIterator.takes _ _ c.args.iterator.now c.next.new.self c.next.result n.rows n.still n.checked n.taken)

pub returns-in-Some-clause-step : goal.returns-in-Some-clause-step
returns-in-Some-clause-step g c =
    popped_step g.I.RowEntryIterator.rest g.I.RowEntryIterator.sound g.I.RowEntryIterator.order g.I.RowEntryIterator.refuses _ _ c.args.self.now (record { ready = c.pop.new.self; gathered = c.args.self.now.gathered }) c.in-Some.row
    (sym c.iteration_order.ensures ∙ c.in-Descending.is) c.in-Some.ensures.items refl

pub returns-clause-step : goal.returns-clause-step
returns-clause-step g c =
    let e = c.in_ok-gather.ensures in
    let begun = same_moves g.I.RowEntryIterator.rest g.I.RowEntryIterator.sound g.I.RowEntryIterator.order g.I.RowEntryIterator.refuses _ c.args.iterator.now c.args.self.now (record { ready = c.pop.new.self; gathered = c.args.self.now.gathered }) (sym (c.in_default.ensures.items ∙ append-nil c.pop.new.self.items)) refl in
    moves_step _ _ _ _ _ _ _ _ _ _ begun (newest_step g.I.RowEntryIterator.rest g.I.RowEntryIterator.sound g.I.RowEntryIterator.order g.I.RowEntryIterator.refuses _ _ _ c.gather.new.iterator c.gather.new.self (record { ready = c.pop-2.new.self; gathered = c.gather.new.self.gathered }) c.pop-2.result e.stands
    (e.order ∙ sym c.iteration_order.ensures ∙ c.in-Descending.is) e.spent c.pop-2.ensures.items (λ none. search rules) refl)
