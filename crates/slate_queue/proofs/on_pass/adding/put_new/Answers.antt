use Rattle.std.proofs.Common.{◌∙◌, ap}
use Rattle.slate_queue.specs.Jobs.{new_job}
use Rattle.slate_queue.specs.Stored.{job_bytes}
use Rattle.slate_queue.proofs.JobValues.{short_job}
use Rattle.slate_queue.proofs.on_pass.adding.put_new.Goals as goal

pub put_short-put-requires : goal.put_short-put-requires
put_short-put-requires g c = record {
  short = short_job c.job_key.result c.args.new (new_job c.args.payload.now) c.as_slice-in-Ok.result.now c.job_key.ensures (c.as_slice-in-Ok.ensures.value ∙ c.in-Ok.ensures.value ∙ ap (λ xs. job_bytes (new_job xs)) c.as_slice.ensures) c.requires.short;
}
