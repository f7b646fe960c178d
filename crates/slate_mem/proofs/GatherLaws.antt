-- Rows of memtables, gathered.
use Rattle.std.proofs.Common.{◌≡◌, ℕ, ◌+◌, ◌<◌, List, ◌∷◌, ◌++◌, map, drop, get_or, suc, length, sym, ap, ◌∙◌}
use Rattle.std.proofs.Math.Numerals.{add-one}
use Rattle.std.proofs.Math.Seq.{drop-cons}
use Rattle.slate_types.specs.declared.types.RowEntry.{RowEntry}
use Rattle.slate_mem.specs.Table.{MemTableModel}
use Rattle.slate_mem.specs.Lookup.{newest_first}
use Rattle.slate_mem.proofs.LayerLaws.{first_more}

-- ---- one memtable more, the newest first

pub layers_down : (rows new : List RowEntry) (ts : List MemTableModel) (t : MemTableModel) (i j : ℕ) → i + 1 ≡ j → i < length ts → t ≡ get_or ts i t → new ≡ rows ++ t.rows →
    rows ≡ newest_first (map (λ x. x.rows) (drop j ts)) → new ≡ newest_first (map (λ x. x.rows) (drop i ts))
layers_down rows new ts t i j next within is more h =
    more
    ∙ ap (λ xs. xs ++ t.rows) (h ∙ ap (λ n. newest_first (map (λ x. x.rows) (drop n ts))) (sym next ∙ add-one i))
    ∙ sym (first_more t.rows (map (λ x. x.rows) (drop (suc i) ts)))
    ∙ sym (ap (λ xs. newest_first (map (λ x. x.rows) xs)) (drop-cons ts i t within ∙ ap (λ x. x ∷ drop (suc i) ts) (sym is)))
