use Rattle.std.proofs.Common.{◌∙◌, ◌++◌, ℕ, List, length, ap, arith}
use Rattle.slate_block.specs.RowSpelling.{be32}
use Rattle.slate_table.proofs.Grown.{grown}
use Rattle.slate_table.proofs.section.put_summed.Goals as goal

pub put-requires-2 : goal.put-requires-2
put-requires-2 c = omega (arith, c.requires, c.put.ensures.len, c.put.ensures.capacity, ap (λ (l : List ℕ). length l) c.to_be_bytes.ensures)

pub returns : goal.returns
returns c =
    grown c.args.out.now.items c.args.bytes.now _ _ _ c.put.ensures.appended
    (c.put-2.ensures.appended ∙ ap (λ (l : List ℕ). c.put.new.out.items ++ l) (c.to_be_bytes.ensures ∙ ap be32 c.checksum_at.ensures))
