use Rattle.std.proofs.Common.{◌+◌, ◌∙◌, arith, refl, w64}
use Rattle.std.proofs.lemmas.Int.{to_z-of_z}
use Rattle.slate_queue.proofs.RaiseLaws.{ends_of, whole_slice}
use Rattle.slate_queue.proofs.PassFinding.{raised_attempt}
use Rattle.slate_queue.proofs.on_pass.claiming.raise.Goals as goal

pub returns-in-Ok-put-clause-raises : goal.returns-in-Ok-put-clause-raises
returns-in-Ok-put-clause-raises g c = record {
  job = refl;
  lease = refl;
  left = omega arith;
  payload = c.in-Ok.ensures.ok ∙ whole_slice c.args.found.row.value 16;
  attempt = λ from level ts h.
      raised_attempt g.P.Parts.options from level ts c.put_raised-put.new.txn c.args.found.row (c.args.found.lease + 1) _ _
      (ends_of c.args.now c.args.ms _ c.saturating_add_unsigned-ends.result c.ranges.now (to_z-of_z w64 c.args.now c.ranges.now) c.saturating_add_unsigned-ends.ensures)
      (c.in-Ok-put.ensures.taken from level ts h);
  sees = c.put_raised-put.ensures.sees;
  seen = c.put_raised-put.ensures.more.1;
}
