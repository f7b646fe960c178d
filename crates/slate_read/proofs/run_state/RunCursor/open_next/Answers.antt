use Rattle.std.proofs.Common.{Some}
use Rattle.slate_types.proofs.Calls.{reads_at_none}
use Rattle.slate_read.proofs.Withins.{open_of, popped_within, walk_stays}
use Rattle.slate_read.proofs.run_state.RunCursor.open_next.Goals as goal

pub returns-in_default-clause-within : goal.returns-in_default-clause-within
returns-in_default-clause-within g c = λ paths h. (reads_at_none paths _, (h.0, (popped_within paths c.pop_front.result _ _ c.pop_front.ensures.items h.1).1))

pub returns-in-Ok-clause-within : goal.returns-in-Ok-clause-within
returns-in-Ok-clause-within g c = λ paths h.
    let p = popped_within paths (Some c.in-Some.table) _ _ (rw c.in-Some.is at c.pop_front.ensures.items) h.1 in
    (c.in-Ok.ensures.within paths p.0, (open_of paths c.replace.new.dest c.in-Ok.opened c.replace.ensures.after (walk_stays paths _ _ c.in-Ok.ensures.opened.2.same p.0), p.1))

pub returns-in-Err-clause-within : goal.returns-in-Err-clause-within
returns-in-Err-clause-within g c = λ paths h.
    let p = popped_within paths (Some c.in-Some.table) _ _ (rw c.in-Some.is at c.pop_front.ensures.items) h.1 in
    (c.in-Err.ensures.within paths p.0, (h.0, p.1))
