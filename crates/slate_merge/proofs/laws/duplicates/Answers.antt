use Rattle.std.proofs.Common.{arith}
use Rattle.slate_merge.specs.DecidedKeys.{decided_key}
use Rattle.slate_merge.specs.MergeLaws.{merged_in_order}
use Rattle.slate_merge.proofs.SeekLaws.{counted_is}
use Rattle.slate_merge.proofs.laws.duplicates.Goals as goal

pub returns : goal.returns
returns c = record { in_order = merged_in_order; decides = decided_key; count = λ rows. (let is = counted_is 0 rows (omega arith) in omega (arith, is)) }
