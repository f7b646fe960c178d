-- Of each version a walk is refused nowhere exactly where there is a block, and reads its rows.
use Rattle.std.proofs.Common.{◌≡◌, ℕ, List, Ok, refl, sym, subst, ◌∙◌, inl, inr}
use Rattle.slate_types.specs.declared.types.RowEntry.{RowEntry}
use Rattle.slate_block.specs.BlockSpelling.{IsKnown, IsBlockOf}
use Rattle.slate_block.specs.ReadingLaws.{EachIsAByte, WalksRead}
use Rattle.slate_block.specs.Walks.{block_reads, block_rows}
use Rattle.slate_block.proofs.Versions.{block_known, block_of_second, block_of_third}
use Rattle.slate_block.proofs.WalkedBlocks.{block_found as found_in_v1, block_again as again_in_v1}
use Rattle.slate_block.proofs.WalkedBlocksV2.{block_found as found_in_v2}
use Rattle.slate_block.proofs.BlocksReadAgainV2.{block_again as again_in_v2}

pub same_rows : (body offsets : List ℕ) → block_rows 3 body offsets ≡ block_rows 2 body offsets
unfolding block_rows block_reads
same_rows body offsets = refl

walks_v1 : WalksRead 1
walks_v1 body offsets rows fits below = (found_in_v1 body offsets rows fits below, again_in_v1 body offsets rows fits)

walks_v2 : WalksRead 2
walks_v2 body offsets rows fits below = (found_in_v2 body offsets rows fits below, again_in_v2 body offsets rows fits)

walks_v3 : WalksRead 3
walks_v3 body offsets rows fits below = (
  λ read. block_of_third body offsets rows (found_in_v2 body offsets rows fits below (sym (same_rows body offsets) ∙ read)),
  λ block. same_rows body offsets ∙ again_in_v2 body offsets rows fits (block_of_second body offsets rows block),
)

pub walks_read : (version : ℕ) → IsKnown version → WalksRead version
walks_read version (inl e) = subst WalksRead (sym e) walks_v1
walks_read version (inr (inl e)) = subst WalksRead (sym e) walks_v2
walks_read version (inr (inr e)) = subst WalksRead (sym e) walks_v3

-- a block's rows are read again
pub block_again : (version : ℕ) (body offsets : List ℕ) (rows : List RowEntry) → EachIsAByte body → IsBlockOf body offsets version rows → block_rows version body offsets ≡ Ok rows
block_again version body offsets rows fits block = (walks_read version (block_known body offsets version rows block) body offsets rows fits block.fit).1 block
