use Rattle.std.proofs.Common.{◌≡◌, ◌∙◌, ℕ, [], ◌∷◌, ap, sym}
use Rattle.std.specs.Prelude.{bit_xor}
use Rattle.std.specs.Int.{w128, to_be_bytes}
use Rattle.slate_block.specs.RowSpelling.{be64}
use Rattle.slate_table.specs.Checksum.{crc_from}
use Rattle.slate_table.specs.Parts.{section_sum}
use Rattle.slate_table.proofs.CrcLaws.{from_parts}
use Rattle.slate_table.proofs.section.section_checksum.Goals as goal

pub returns : goal.returns
returns c =
    let kind = c.args.kind in
    let bytes = c.args.bytes.now in
    let named = c.crc_more-named.ensures ∙ ap (crc_from 0xffffffff) c.to_be_bytes.ensures in
    let kinded = c.crc_more-kinded.ensures ∙ ap (λ (x : ℕ). crc_from x (kind ∷ [])) named in
    let placed = c.crc_more-placed.ensures ∙ (λ i. crc_from (kinded i) (c.to_be_bytes-2.ensures i)) in
    let all = c.crc_more.ensures ∙ ap (λ (x : ℕ). crc_from x bytes) placed ∙ from_parts 0xffffffff kind (to_be_bytes w128 c.args.id.0) (be64 c.args.offset) bytes in
    let covering : c.args.version ≡ 3 = c.if-version-ne-COVERING_VERSION.false in
    ap (λ (x : ℕ). bit_xor x 0xffffffff) all ∙ ap (λ (v : ℕ). section_sum v c.args.id.0 kind c.args.offset bytes) (sym covering)
