use Rattle.std.proofs.Common.{◌≡◌, Option, not}
use Rattle.std.proofs.lemmas.Result.{IfOk-weaker}
use Rattle.slate_types.specs.declared.bytes_range.BytesRange.{BytesRange}
use Rattle.slate_types.specs.Keys.{common_range}
use Rattle.slate_types.specs.Iteration.{comes_before}
use Rattle.slate_txn.proofs.HandOver.{common_keys}
use Rattle.slate_txn.proofs.reading.within.Goals as goal

pub returns-clause-keys : goal.returns-clause-keys
returns-clause-keys c =
    IfOk-weaker c.intersect-part.result (λ (o : Option BytesRange). o ≡ common_range c.args.range.now c.in_ok-near.near) _
    (λ o e. common_keys c.args.range.now c.in_ok-near.near (λ k. not (comes_before c.args.order c.args.key.now k)) c.in_ok-near.ensures o e)
    c.intersect-part.ensures.range
