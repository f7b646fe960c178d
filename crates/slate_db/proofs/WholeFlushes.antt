-- Where the first table of a flush came to stand, all its tables do.
use Rattle.std.proofs.Common.{◌≡◌, ℕ, ◌^◌, ◌<◌, ◌⊎◌, inl, inr, List, [], ◌∷◌, length, Some, None, sym, ap, subst, ◌∙◌, arith}
use Rattle.std.proofs.lemmas.Option.{same_Some}
use Rattle.slate_types.specs.declared.types.Ulid.{Ulid}
use Rattle.slate_types.specs.Outside.{Objects, object_at}
use Rattle.slate_db.specs.FlushLaws.{FlushesAreWhole, first_path}
use Rattle.slate_db.specs.Flushed.{AreLastTables, AreTablesOfFlush, Layout, with_tables}
use Rattle.slate_db.specs.Installs.{Holds}
use Rattle.slate_db.specs.Meaning.{Meaning}
use Rattle.slate_db.specs.Model.{Rows}
use Rattle.slate_db.proofs.PathsApart.{holds_puts, others_keep}
use Rattle.slate_db.proofs.Runs.{are_placed}

some_stand : (m : Meaning) (layout : Layout) (number barrier : ℕ) (layers left : List Rows)
    (ts : List (Ulid × List ℕ)) (before : Objects) → number < 2 ^ 64 →
    object_at before (first_path number) ≡ None →
    AreLastTables m layout number barrier layers left ts →
    (object_at (with_tables before ts) (first_path number) ≡ None) ⊎
    ((tables : List (Ulid × List ℕ)) × AreTablesOfFlush m layout number barrier layers tables ×
    Holds (with_tables before ts) tables)
some_stand m layout number barrier layers [] ts before fits none made =
    inr (
      ts,
      made,
      holds_puts before number 0 [] ts fits tt
          (are_placed m.encode layout number 0 made.parts ts made.built) tt,
    )
some_stand m layout number barrier layers (x ∷ xs) ts before fits none made =
    inl (others_keep before number 0 (length (x ∷ xs)) ts fits (omega arith) (omega arith)
    (are_placed m.encode layout number (length (x ∷ xs)) made.parts ts made.built) ∙ none)

pub flushes_are_whole : FlushesAreWhole
flushes_are_whole m layout number barrier layers before after fits (inl same) none =
    inl (ap (λ (os : Objects). object_at os (first_path number)) (same_Some _ _ same) ∙ none)
flushes_are_whole m layout number barrier layers before after fits (inr (ts, (left, made), is)) none =
    subst (λ (os : Objects). (object_at os (first_path number) ≡ None) ⊎
    ((tables : List (Ulid × List ℕ)) × AreTablesOfFlush m layout number barrier layers tables ×
    Holds os tables)) (sym (same_Some _ _ is))
    (some_stand m layout number barrier layers left ts before fits none made)
