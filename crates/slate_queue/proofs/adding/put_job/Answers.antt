use Rattle.std.proofs.Common.{[], ◌∷◌, ◌++◌, subst, sym}
use Rattle.slate_types.proofs.Exits.{on_err_weaker}
use Rattle.slate_steps.specs.Steps.{IsWithin}
use Rattle.slate_queue.specs.CallSteps.{own_steps}
use Rattle.slate_queue.specs.Commits.{put_of}
use Rattle.slate_queue.specs.Stored.{counter_key}
use Rattle.slate_queue.proofs.adding.put_job.Goals as goal

pub returns-in-Ok-clause-part : goal.returns-in-Ok-clause-part
returns-in-Ok-clause-part c = λ d level ts h.
    on_err_weaker c.put_new.result
    (λ same. ((counter_key, put_of c.number_bytes.result) ∷ [], subst (IsWithin d c.args.id.now level (ts ++ own_steps ((counter_key, put_of c.number_bytes.result) ∷ []))) (sym same) (c.in-Ok.ensures.taken d level ts h)))
    c.put_new.ensures.same
