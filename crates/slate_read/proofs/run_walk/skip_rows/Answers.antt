use Rattle.std.proofs.Common.{refl}
use Rattle.std.proofs.lemmas.Result.{on_ok_weaker}
use Rattle.slate_merge.proofs.NoMoreRows.{none_added}
use Rattle.slate_read.specs.RunBringing.{BringsOpen}
use Rattle.slate_read.specs.RunWalk.{IsOpenWithin, refuses_open}
use Rattle.slate_read.proofs.RunBringings.{open_adds}
use Rattle.slate_read.proofs.RunOpen.{open_sought}
use Rattle.slate_read.proofs.Withins.{none_within, open_at, open_stays}
use Rattle.slate_read.proofs.run_walk.skip_rows.Goals as goal

pub returns-in-Some-clause-sought : goal.returns-in-Some-clause-sought
returns-in-Some-clause-sought g c =
    on_ok_weaker c.seek.result (λ k. open_sought c.args.order c.args.key.now _ _ c.args.current.now _ c.in-Some.table c.seek.new.self c.in-Some.is refl c.seek.ensures.table k) c.seek.ensures.sought

pub returns-in-Some-clause-cause : goal.returns-in-Some-clause-cause
returns-in-Some-clause-cause g c = rw c.in-Some.is c.seek.ensures.cause

pub returns-in-Some-clause-adds : goal.returns-in-Some-clause-adds
returns-in-Some-clause-adds g c =
    on_ok_weaker c.seek.result (λ k. open_adds c.args.order _ _ c.args.current.now _ c.in-Some.table c.seek.new.self c.in-Some.is refl c.seek.ensures.table k) c.seek.ensures.adds

pub returns-in-None-clause-adds : goal.returns-in-None-clause-adds
returns-in-None-clause-adds g c = none_added (BringsOpen c.args.order) (refuses_open c.args.order) _ c.args.current.now

pub returns-in-Some-clause-within : goal.returns-in-Some-clause-within
returns-in-Some-clause-within g c = λ paths h. (c.seek.ensures.within paths (open_at paths c.args.current.now c.in-Some.table c.in-Some.is h), open_stays paths c.args.current.now _ c.in-Some.table c.seek.new.self c.in-Some.is refl c.seek.ensures.table h)

pub returns-in-None-clause-within : goal.returns-in-None-clause-within
returns-in-None-clause-within g c = none_within IsOpenWithin _ c.args.current.now
