use Rattle.std.proofs.Common.{arith}
use Rattle.slate_index.proofs.Searching.{all_bytes}
use Rattle.slate_index.proofs.lookups.are_bytes.Goals as goal

pub returns : goal.returns
returns c = all_bytes c.args.bytes.now (λ i. omega (arith, c.type_inv.bytes i))
