-- What a store's tables hold, without memory.
--     IsTableOfPath encode path bytes rows      bytes is a table of the rows, for the id in its path
--     IsNoTable encode path bytes      it is a table of no rows
--     HoldRows encode objects rows      rows are those of every object that is a table of the id in its path
--     by_seq rows      rows by sequence upwards; of two with one sequence the one that stood first
--     stored c rows k      the row of k that they fold to
use Rattle.std.specs.Prelude.{◌≡◌, ℕ, ◌⊎◌, if◌then◌else◌, nat_lt, List, [], ◌∷◌, ◌++◌, filter, Option, bytes_eq}
use Rattle.slate_types.specs.declared.types.RowEntry.{RowEntry}
use Rattle.slate_types.specs.Fold.{Combine, shown}
use Rattle.slate_table.specs.Parts.{Encode}
use Rattle.slate_table.specs.Paths.{path_of}
use Rattle.slate_table.specs.Table.{IsTable}

abbrev pub IsTableOfPath : Encode → List ℕ → List ℕ → List RowEntry → Type 0
IsTableOfPath encode path bytes rows = (root : List ℕ) × (id : ℕ) × (version : ℕ) × (path ≡ path_of root id) × IsTable encode bytes version id rows

abbrev pub IsNoTable : Encode → List ℕ → List ℕ → Type 0
IsNoTable encode path bytes = (rows : List RowEntry) → IsTableOfPath encode path bytes rows → ⊥

-- objects by their paths
abbrev pub HoldRows : Encode → List (List ℕ × List ℕ) → List RowEntry → Type 0
HoldRows encode [] rows = rows ≡ []
HoldRows encode (o ∷ os) rows =
    ((here : List RowEntry) × (rest : List RowEntry) × IsTableOfPath encode o.0 o.1 here × HoldRows encode os rest × (rows ≡ here ++ rest))
    ⊎ (IsNoTable encode o.0 o.1 × HoldRows encode os rows)

-- oldest first
abbrev pub insert_row : RowEntry → List RowEntry → List RowEntry
insert_row r [] = r ∷ []
insert_row r (s ∷ rs) = if nat_lt s.seq r.seq then s ∷ insert_row r rs else r ∷ s ∷ rs

abbrev pub by_seq : List RowEntry → List RowEntry
by_seq [] = []
by_seq (r ∷ rs) = insert_row r (by_seq rs)

abbrev pub stored : Combine → List RowEntry → List ℕ → Option RowEntry
stored c rows k = shown c (by_seq (filter (λ r. bytes_eq r.key k) rows))
