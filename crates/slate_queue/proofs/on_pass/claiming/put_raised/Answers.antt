use Rattle.std.proofs.Common.{◌∙◌, of_z, to_z, w64}
use Rattle.slate_queue.proofs.JobValues.{short_job, short_rest}
use Rattle.slate_queue.proofs.on_pass.claiming.put_raised.Goals as goal

pub put_short-put-requires : goal.put_short-put-requires
put_short-put-requires g c = record {
  short =
      short_job c.as_slice-in-Ok.result.now c.requires.key.0 (record { lease = c.args.lease; ends = to_z w64 (of_z w64 c.args.ends); payload = c.split_at.result.1.now }) c.as_slice-in-Ok-2.result.now
      (c.as_slice-in-Ok.ensures ∙ c.requires.key.1) (c.as_slice-in-Ok-2.ensures.value ∙ c.in-Ok.ensures.value)
      (short_rest c.split_at.result.1.now c.as_slice.result.now c.args.row.now.value c.split_at.ensures.back c.as_slice.ensures c.requires.short);
}
