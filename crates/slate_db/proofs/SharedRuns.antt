-- A copy of runs has the tables that they have.
use Rattle.std.proofs.Common.{◌≡◌, ℕ, ◌+◌, ◌<◌, ◌++◌, ◌∷◌, List, [], map, length, take, get_or, refl, sym, ap, ◌∙◌}
use Rattle.std.proofs.lemmas.List.{map-append, map_more, take-map}
use Rattle.std.specs.Prelude.{flat_map}
use Rattle.slate_read.specs.declared.sorted_run.SortedRun.{SortedRun}
use Rattle.slate_table.specs.declared.info.SsTableHandle.{SsTableHandle}
use Rattle.slate_db.specs.Installs.{handles_of}
use Rattle.slate_db.specs.SharedRuns.{tables_in}

handles_in : (runs : List SortedRun) → handles_of runs ≡ flat_map (λ ts. ts) (tables_in runs)
handles_in [] = refl
handles_in (run ∷ runs) = ap (λ (hs : List SsTableHandle). run.tables.items ++ hs) (handles_in runs)

pub same_handles : (runs others : List SortedRun) → tables_in runs ≡ tables_in others → handles_of runs ≡ handles_of others
same_handles runs others same = handles_in runs ∙ ap (λ (ts : List (List SsTableHandle)). flat_map (λ hs. hs) ts) same ∙ sym (handles_in others)

-- and so has one that is made run by run
pub one_copied : (runs : List SortedRun) (i : ℕ) (copies : List SortedRun) (run copy : SortedRun) (all : List SortedRun) → i < length runs → run ≡ get_or runs i run → tables_in copies ≡ take i (tables_in runs) → copy.tables.items ≡ run.tables.items → all ≡ copies ++ (copy ∷ []) →
    tables_in all ≡ take (i + 1) (tables_in runs)
one_copied runs i copies run copy all within is so_far same pushed =
    ap tables_in pushed ∙ map-append tables copies (copy ∷ []) ∙ (λ j. before j ++ (there j ∷ [])) ∙ sym (map_more tables runs i run within) ∙ sym (take-map tables (i + 1) runs)
  where
    tables : SortedRun → List SsTableHandle
    tables = λ r. r.tables.items

    before : map tables copies ≡ map tables (take i runs)
    before = so_far ∙ take-map tables i runs

    there : tables copy ≡ tables (get_or runs i run)
    there = same ∙ ap tables is
