use Rattle.std.proofs.Common.{nat_eq}
use Rattle.std.proofs.lemmas.List.Sums.{common_prefix_len-le}
use Rattle.slate_block.proofs.builder.BlockBuilder.shared.Goals as goal

pub returns-clause-within : goal.returns-clause-within
returns-clause-within c = rw (c.compute_prefix.ensures, c.as_slice-2.ensures) (common_prefix_len-le nat_eq c.as_slice.result.now c.args.entry.now.key).1
