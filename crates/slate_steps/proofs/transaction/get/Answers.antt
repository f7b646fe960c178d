use Rattle.std.proofs.Common.{map, refl}
use Rattle.slate_txn.specs.declared.event.TranscriptStep.TheVariants as steps
use Rattle.slate_table.specs.Filtered.{point_query}
use Rattle.slate_db.proofs.OpenIds.{transaction_reads}
use Rattle.slate_steps.proofs.Reading.{answered_within, get_checked, get_error, get_sees, if_ok_map}
use Rattle.slate_steps.proofs.Taking.{within_noted}
use Rattle.slate_steps.proofs.transaction.get.Goals as goal

pub get-requires-after_bounds : goal.get-requires-after_bounds
get-requires-after_bounds g c κs lives = transaction_reads c.args.core.now c.args.id.now c.requires

pub returns-clause-within : goal.returns-clause-within
returns-clause-within g c = λ d level ts h.
    if_ok_map c.get.result _ _ (λ a is. within_noted d c.args.core.now c.get.new.self c.args.id.now level ts (steps.Get c.args.key.now a) refl is c.get.ensures.notes.kept h) c.get.ensures.notes.noted

pub returns-clause-sees : goal.returns-clause-sees
returns-clause-sees g c = λ d level ts seg h settled sees.
    get_sees c.get.result _ seg _ _ d c.args.core.now c.get.new.self c.args.id.now c.args.key.now level ts
    (if_ok_map c.get.result _ _ (λ a is. within_noted d c.args.core.now c.get.new.self c.args.id.now level ts (steps.Get c.args.key.now a) refl is c.get.ensures.notes.kept h) c.get.ensures.notes.noted)
    c.get.ensures.gets.vouched h settled sees

pub returns-clause-checked : goal.returns-clause-checked
returns-clause-checked g c = λ d level ts seg h store sees.
    get_checked c.get.result _ seg _ _ d c.args.core.now c.get.new.self c.args.id.now c.args.key.now level ts
    (if_ok_map c.get.result _ _ (λ a is. within_noted d c.args.core.now c.get.new.self c.args.id.now level ts (steps.Get c.args.key.now a) refl is c.get.ensures.notes.kept h) c.get.ensures.notes.noted)
    c.get.ensures.gets.vouched c.get.ensures.gets.read.checked h store sees

pub returns-clause-undamaged : goal.returns-clause-undamaged
returns-clause-undamaged g c = λ d level ts seg h settled. c.get.ensures.gets.read.undamaged (answered_within _ seg _ _ d c.args.core.now c.args.id.now level ts h settled)

pub returns-clause-cause : goal.returns-clause-cause
returns-clause-cause g c = get_error c.get.result _ c.args.id.now _ _ _ c.args.core.now c.get.ensures.gets.read.cause

pub returns-clause-open : goal.returns-clause-open
returns-clause-open g c = (c.get.ensures.notes.stay c.args.id.now).transaction c.requires

pub returns-clause-counts : goal.returns-clause-counts
returns-clause-counts g c = c.get.ensures.gets.read.still
