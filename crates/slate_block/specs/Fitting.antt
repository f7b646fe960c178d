-- Which row fits behind the rows of a block, by the block size.
--     offsets_counted version rows r      how many offsets are counted
--     size_with version rows r      the size that is held to the block size
--     fits_in size version rows r      the first row always does
use Rattle.std.specs.Prelude.{ℕ, ◌+◌, ◌*◌, Bool, true, if◌then◌else◌, ◌==◌, nat_le, List, [], ◌∷◌, ◌++◌, flat_map, length}
use Rattle.slate_types.specs.declared.types.RowEntry.{RowEntry}
use Rattle.slate_block.specs.BlockSpelling.{spelled, offsets_of}

-- in version 1 the new row's own offset isn't counted
abbrev pub offsets_counted : ℕ → List RowEntry → RowEntry → ℕ
offsets_counted version rows r = if version == 1 then length (offsets_of version (spelled version rows))
    else length (offsets_of version (spelled version (rows ++ (r ∷ []))))

abbrev pub size_with : ℕ → List RowEntry → RowEntry → ℕ
size_with version rows r = 2 + 2 * offsets_counted version rows r + length (flat_map (λ b. b) (spelled version (rows ++ (r ∷ []))))

abbrev pub fits_in : ℕ → ℕ → List RowEntry → RowEntry → Bool
fits_in size version [] r = true
fits_in size version (q ∷ qs) r = nat_le (size_with version (q ∷ qs) r) size
