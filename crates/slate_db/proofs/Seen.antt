-- What a reader folds is what it sees.
use Rattle.std.proofs.Common.{◌≡◌, ℕ, ◌≤◌, Bool, true, false, cond, List, [], ◌∷◌, ◌++◌, Some, sym, ap, subst, ◌∙◌, arith, bytes_eq, nat_le, append_assoc, append-nil}
use Rattle.std.specs.List.{AllByRecursion}
use Rattle.std.specs.Prelude.{option_and_then}
use Rattle.std.proofs.lemmas.Grind.{flat_map-append}
use Rattle.std.proofs.lemmas.List.Elements.{filter-append}
use Rattle.slate_types.specs.declared.types.Ulid.{Ulid}
use Rattle.slate_types.specs.Rows.{hide_tombstone}
use Rattle.slate_types.specs.Fold.{fold_rows, AreShort}
use Rattle.slate_table.proofs.StoredLaws.{same_rows}
use Rattle.slate_txn.specs.Named.{find_named}
use Rattle.slate_txn.specs.Reads.{up_to, key_rows}
use Rattle.slate_txn.specs.State.{last_of}
use Rattle.slate_db.specs.Meaning.{Meaning, rules_of, combine_of, IsLawfulMeaning}
use Rattle.slate_db.specs.Model.{CoreModel, Rows, memory, versions, versions_in}
use Rattle.slate_db.specs.Installs.{tables_of, installed}
use Rattle.slate_db.specs.Sound.{at_most, IsKept, FoldsToState, AreTables}
use Rattle.slate_db.specs.StoredState.{StoresState}
use Rattle.slate_db.specs.Layers.{AreRising}
use Rattle.slate_db.specs.Whole.{IsWhole, Unseen}
use Rattle.slate_db.proofs.Short.{fine_short}
use Rattle.slate_db.proofs.AllRows.{all_fold}
use Rattle.slate_db.proofs.Folds.{at_most_all, wider}
use Rattle.slate_db.proofs.Split.{up_to_within}
use Rattle.slate_db.proofs.Versions.{all_versions_in, short_versions}
use Rattle.slate_types.proofs.Lists.{AllByRecursion_weaken}

pub found_all : {X : Type 0} (P : X → Type 0) (k : List ℕ) (ps : List (List ℕ × X)) (x : X) → AllByRecursion (λ p. P p.1) ps → find_named k ps ≡ Some x → P x
found_all P k [] x h e = cc
found_all P k (p ∷ ps) x h e = by (bytes_eq p.0 k) e (found_all P k ps x h.1)
  where
    by : (b : Bool) → cond b (Some p.1) (find_named k ps) ≡ Some x → (find_named k ps ≡ Some x → P x) → P x
    by true e rest = let same : p.1 ≡ x = cc in subst P same h.0
    by false e rest = rest e

-- the bytes of tables are those of one list of rows each
pub same_tables : (m : Meaning) → IsLawfulMeaning m → (ts : List (Ulid × List ℕ)) (a b : List Rows) → AreTables m ts a → AreTables m ts b → a ≡ b
same_tables m law [] a b h k = h ∙ sym k
same_tables m law (t ∷ ts) a b (v, first, rest, is, others, same) (w, first2, rest2, is2, others2, same2) =
    same ∙ (λ i. same_rows m.encode m.decode law.transformer t.1 v w t.0.0 first first2 is is2 i ∷ same_tables m law ts rest rest2 others others2 i) ∙ sym same2

pub seen_fold : (m : Meaning) (c : CoreModel) (u : Unseen) (layers : List Rows) (k : List ℕ) (at : ℕ) (own : Rows) →
    IsWhole c u → IsLawfulMeaning m → IsKept m c → AreTables m (tables_of c.events) layers → c.floor ≤ at → AreShort own →
    fold_rows (combine_of m k) (at_most at (versions_in k (layers ++ memory c)) ++ own)
    ≡ fold_rows (combine_of m k) (key_rows (rules_of c.settings m) k (up_to at c.state.commits) ++ own)
seen_fold m c u layers k at own w law kept tables above short_own =
    ap (λ xs. fold_rows (combine_of m k) (xs ++ own)) (ap (at_most at) (flat_map-append (versions k) layers (memory c)) ∙ filter-append (λ r. nat_le r.seq at) (versions_in k layers) (versions_in k (memory c)))
    ∙ ap (fold_rows (combine_of m k)) (append_assoc (at_most at (versions_in k layers)) (at_most at (versions_in k (memory c))) own)
    ∙ all_fold (rules_of c.settings m) k (law.operator k) (law.short k) c.settings.start_seq (installed c.events) at c.state.commits (versions_in k layers) (versions_in k (memory c)) own
    w.log.rising (AllByRecursion_weaken _ _ (λ x. fine_short x.ops) c.state.commits w.log.fine) (short_versions k layers short) short_own (kept.0 k) folds
  where
    same : (kept.1 law).layers ≡ layers
    same = same_tables m law (tables_of c.events) (kept.1 law).layers layers (kept.1 law).tables tables

    short : AllByRecursion AreShort layers
    short = subst (AllByRecursion AreShort) same (kept.1 law).short

    folds : fold_rows (combine_of m k) (at_most at (versions_in k layers)) ≡ fold_rows (combine_of m k) (key_rows (rules_of c.settings m) k (up_to at (up_to (installed c.events) c.state.commits)))
    folds = ap (λ ls. fold_rows (combine_of m k) (at_most at (versions_in k ls))) (sym same) ∙ (kept.1 law).folds k at above

-- all rows fold to the state, at each sequence from the floor on
pub folds_to_state : (m : Meaning) (c : CoreModel) (u : Unseen) → IsWhole c u → IsLawfulMeaning m → IsKept m c → FoldsToState m c
folds_to_state m c u w law kept layers tables k at above below =
    ap (option_and_then (λ r. hide_tombstone r.value r))
    (ap (fold_rows (combine_of m k)) (sym (append-nil (at_most at (versions_in k (layers ++ memory c)))))
    ∙ seen_fold m c u layers k at [] w law kept tables above tt
    ∙ ap (fold_rows (combine_of m k)) (append-nil (key_rows (rules_of c.settings m) k (up_to at c.state.commits))))

-- the rows of the tables rise, and fold to the state at the last flush
pub stores_state : (m : Meaning) (c : CoreModel) (u : Unseen) → IsWhole c u → IsLawfulMeaning m → IsKept m c → StoresState m c
stores_state m c u w law kept layers tables k =
    (subst (λ (ls : List Rows). AreRising (versions_in k ls)) same ((kept.1 law).rise k), ap (option_and_then (λ r. hide_tombstone r.value r)) folds)
  where
    same : (kept.1 law).layers ≡ layers
    same = same_tables m law (tables_of c.events) (kept.1 law).layers layers (kept.1 law).tables tables

    last : last_of c.settings.start_seq c.state.commits ≤ u.last
    last = let e : u.last ≡ last_of c.settings.start_seq c.state.commits = w.log.last in omega arith

    within : AllByRecursion (λ r. r.seq ≤ u.last) (versions_in k (kept.1 law).layers)
    within = wider (installed c.events) u.last w.log.installed_within _ (all_versions_in (λ r. r.seq ≤ installed c.events) k (kept.1 law).layers (kept.1 law).within)

    folds : fold_rows (combine_of m k) (versions_in k layers) ≡ fold_rows (combine_of m k) (key_rows (rules_of c.settings m) k (up_to c.state.flushed c.state.commits))
    folds =
        ap (λ ls. fold_rows (combine_of m k) (versions_in k ls)) (sym same)
        ∙ ap (fold_rows (combine_of m k)) (sym (at_most_all u.last (versions_in k (kept.1 law).layers) within))
        ∙ (kept.1 law).folds k u.last w.tied.floor_within
        ∙ ap (λ cs. fold_rows (combine_of m k) (key_rows (rules_of c.settings m) k cs)) (up_to_within c.settings.start_seq u.last (installed c.events) c.state.commits w.log.rising last ∙ sym w.log.flushed_through)
