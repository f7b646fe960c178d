use Rattle.std.proofs.Common.{Some, refl}
use Rattle.slate_merge.proofs.NoMoreRows.{none_handed}
use Rattle.slate_read.specs.RunBringing.{BringsOpen}
use Rattle.slate_read.specs.RunWalk.{IsOpenWithin, refuses_open}
use Rattle.slate_read.proofs.RunBringings.{open_hands, spent_hands}
use Rattle.slate_read.proofs.RunOpen.{open_cause, open_spent, open_step}
use Rattle.slate_read.proofs.Withins.{none_open, none_within, open_at, open_stays}
use Rattle.slate_read.proofs.run_walk.take_row.Goals as goal

pub returns-in-Ok-Some-clause-step : goal.returns-in-Ok-Some-clause-step
returns-in-Ok-Some-clause-step g c =
    let s = rw c.in-Ok-Some.field-0-is at c.in-Ok-Some.ensures.step in
    open_step c.args.order _ _ c.args.current.now _ c.in-Some.table c.advance.new.self c.in-Ok-Some.row c.in-Some.is refl c.in-Ok-Some.ensures.table s

pub returns-in-Ok-None-clause-step : goal.returns-in-Ok-None-clause-step
returns-in-Ok-None-clause-step g c =
    let s = rw c.in-Ok-None.field-0-is at c.in-Ok-None.ensures.step in
    open_spent c.args.order _ _ c.args.current.now _ c.in-Some.table c.advance.new.self c.in-Some.is c.take.ensures.after s

pub returns-in-Ok-Some-clause-hands : goal.returns-in-Ok-Some-clause-hands
returns-in-Ok-Some-clause-hands g c =
    let h = rw c.in-Ok-Some.field-0-is at c.in-Ok-Some.ensures.hands in
    open_hands c.args.order _ _ c.args.current.now _ c.in-Some.table c.advance.new.self (Some c.in-Ok-Some.row) c.in-Some.is refl c.in-Ok-Some.ensures.table h

pub returns-in-Ok-None-clause-hands : goal.returns-in-Ok-None-clause-hands
returns-in-Ok-None-clause-hands g c =
    let h = rw c.in-Ok-None.field-0-is at c.in-Ok-None.ensures.hands in
    spent_hands c.args.order _ _ c.args.current.now _ c.in-Some.table c.advance.new.self c.in-Some.is c.take.ensures.after h

pub returns-in_default-clause-hands : goal.returns-in_default-clause-hands
returns-in_default-clause-hands g c = none_handed (BringsOpen c.args.order) (refuses_open c.args.order) _ c.args.current.now

pub returns-in-Err-clause-cause : goal.returns-in-Err-clause-cause
returns-in-Err-clause-cause g c = open_cause c.args.order _ _ c.args.current.now c.in-Some.table c.in-Err.error c.in-Some.is c.in-Err.ensures.cause

pub returns-in-Ok-Some-clause-within : goal.returns-in-Ok-Some-clause-within
returns-in-Ok-Some-clause-within g c = λ paths h. (c.in-Ok-Some.ensures.within paths (open_at paths c.args.current.now c.in-Some.table c.in-Some.is h), open_stays paths c.args.current.now _ c.in-Some.table c.advance.new.self c.in-Some.is refl c.in-Ok-Some.ensures.table h)

pub returns-in-Ok-None-clause-within : goal.returns-in-Ok-None-clause-within
returns-in-Ok-None-clause-within g c = λ paths h. (c.in-Ok-None.ensures.within paths (open_at paths c.args.current.now c.in-Some.table c.in-Some.is h), none_open paths _ c.take.ensures.after)

pub returns-in-Err-clause-within : goal.returns-in-Err-clause-within
returns-in-Err-clause-within g c = λ paths h. (c.in-Err.ensures.within paths (open_at paths c.args.current.now c.in-Some.table c.in-Some.is h), open_stays paths c.args.current.now _ c.in-Some.table c.advance.new.self c.in-Some.is refl c.in-Err.ensures.table h)

pub returns-in_default-clause-within : goal.returns-in_default-clause-within
returns-in_default-clause-within g c = none_within IsOpenWithin _ c.args.current.now
