use Rattle.std.proofs.Common.{ℕ, ◌/◌, List, [], get_or, sym, ap, ◌∙◌, arith}
use Rattle.std.specs.Prelude.{bit_xor}
use Rattle.slate_table.specs.Checksum.{crc_bits}
use Rattle.slate_table.proofs.CrcLaws.{peel}
use Rattle.slate_table.proofs.crc.one_more.Goals as goal

pub returns : goal.returns
returns c =
    ap (λ (r : ℕ). bit_xor r (c.args.crc / 256)) (c.after_bytes.ensures ∙ ap (λ (l : List ℕ). crc_bits 8 (bit_xor (get_or l 0 0) c.args.byte)) c.to_le_bytes.ensures)
    ∙ sym (peel c.args.crc c.args.byte [] (omega arith))
