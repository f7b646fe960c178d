use Rattle.std.proofs.Common.{ap, ◌∙◌, w64}
use Rattle.std.specs.Int.{from_be_bytes}
use Rattle.slate_types.proofs.WordOrder.{read_out}
use Rattle.slate_types.proofs.key_order.word_at.Goals as goal

pub returns : goal.returns
returns c = c.from_be_bytes.ensures ∙ ap (from_be_bytes w64) (read_out c.args.bytes.now c.args.at c.requires)
