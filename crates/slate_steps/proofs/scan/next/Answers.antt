use Rattle.std.proofs.Common.{refl}
use Rattle.slate_txn.specs.declared.event.TranscriptStep.TheVariants as steps
use Rattle.slate_db.specs.Scans.{id_of, number_of}
use Rattle.slate_steps.proofs.Reading.{if_ok_map, next_checked, next_error, next_reading, next_undamaged, since_next}
use Rattle.slate_steps.proofs.Taking.{within_noted}
use Rattle.slate_steps.proofs.scan.next.Goals as goal

pub returns-clause-within : goal.returns-clause-within
returns-clause-within g c = λ d level ts h.
    if_ok_map c.next.result _ _ (λ a is. within_noted d c.args.core.now c.next.new.self (id_of c.args.it.now) level ts (steps.Next (number_of c.args.it.now) a) refl is c.next.ensures.notes.kept h) c.next.ensures.notes.noted

pub returns-clause-reading : goal.returns-clause-reading
returns-clause-reading g c = λ d ts os rows told h. next_reading c.next.result os _ _ d ts c.args.it.now c.next.new.it rows c.next.ensures.step.names c.next.ensures.step.rows told h

pub returns-clause-checked : goal.returns-clause-checked
returns-clause-checked g c = λ d ts os rows met h. next_checked c.next.result os _ _ d ts c.args.it.now c.next.new.it rows c.next.ensures.step.names c.next.ensures.step.rows c.next.ensures.step.checked c.next.ensures.step.later met h

pub returns-clause-undamaged : goal.returns-clause-undamaged
returns-clause-undamaged g c = λ d ts os rows told h. next_undamaged c.next.result os _ _ d ts c.args.it.now rows c.next.ensures.step.undamaged told h

pub returns-clause-since : goal.returns-clause-since
returns-clause-since g c = λ d from since. since_next c.next.result from _ _ d c.args.it.now c.next.new.it since c.next.ensures.step.later

pub returns-clause-cause : goal.returns-clause-cause
returns-clause-cause g c = λ d from policies only since. next_error c.next.result policies from _ _ d c.args.it.now only since c.next.ensures.step.cause

pub returns-clause-open : goal.returns-clause-open
returns-clause-open g c = λ here. (c.next.ensures.notes.stay (id_of c.args.it.now)).transaction here

pub returns-clause-counts : goal.returns-clause-counts
returns-clause-counts g c = c.next.ensures.step.still
