-- The rows of each table of a flush stand in one segment, since a key with rows in memory is one of a commit.
use Rattle.std.proofs.Common.{◌≡◌, inl, inr, ℕ, Bool, true, false, cond, List, [], ◌∷◌, ◌++◌, map, filter, Option, Some, None, bytes_eq, refl, sym, ap, subst, ◌∙◌, append-nil, Ordering, Less, Equal, Greater}
use Rattle.std.specs.BTreeSet.{insert_key}
use Rattle.std.specs.List.{AllByRecursion, cons_option}
use Rattle.std.specs.Ordering.{match_ordering}
use Rattle.std.proofs.lemmas.Grind.{flat_map-append}
use Rattle.std.proofs.lemmas.Slice.Eq.{bytes_eq-Decides}
use Rattle.slate_types.specs.declared.types.RowEntry.{RowEntry}
use Rattle.slate_types.specs.declared.types.Ulid.{Ulid}
use Rattle.slate_types.specs.Fold.{Combine, fold_rows, from_last}
use Rattle.slate_types.specs.Keys.{key_cmp, keys_set}
use Rattle.slate_types.proofs.KeyOrder.{equal_keys}
use Rattle.slate_mem.specs.declared.WriteOp.{WriteOp}
use Rattle.slate_mem.specs.Batch.{Ops, batch_keys, ops_of, replaces}
use Rattle.slate_mem.specs.KeyTests.{Segments, segment_refusal}
use Rattle.slate_mem.specs.RowOf.{op_row, row_of}
use Rattle.slate_txn.specs.Reads.{key_rows}
use Rattle.slate_txn.specs.State.{Commit, Rules, combine_at}
use Rattle.slate_db.specs.Cut.{StandsIn}
use Rattle.slate_db.specs.Flushed.{AreTablesOfFlush, Layout}
use Rattle.slate_db.specs.Frozen.{IsFrozen}
use Rattle.slate_db.specs.Installs.{installed}
use Rattle.slate_db.specs.Meaning.{Meaning, rules_of}
use Rattle.slate_db.specs.Model.{CoreModel, Rows, memory, versions, versions_in}
use Rattle.slate_db.specs.Segmented.{HavePrefixes}
use Rattle.slate_db.specs.Sound.{IsTied, above}
use Rattle.slate_db.proofs.FlushedKeys.{flushed_keys}
use Rattle.slate_db.proofs.TouchedSegments.{tables_stand}
use Rattle.slate_types.proofs.Lists.{AllByRecursion_filter}

abbrev pub InOneSegment : Segments → Rows → Type 0
InOneSegment g rows = (prefix : List ℕ) × AllByRecursion (StandsIn g prefix) rows

-- ---- a key with a row in memory

-- what is true of all keys of a set is true of all that it was made of
all_inserted : (P : List ℕ → Type 0) (k : List ℕ) (ks : List (List ℕ)) → AllByRecursion P (insert_key key_cmp ks k) → P k × AllByRecursion P ks
all_inserted P k [] h = h
all_inserted P k (x ∷ ks) h = by (key_cmp k x) refl (all_inserted P k ks) h
  where
    by : (o : Ordering) → key_cmp k x ≡ o → (AllByRecursion P (insert_key key_cmp ks k) → P k × AllByRecursion P ks) → AllByRecursion P (match_ordering o (k ∷ x ∷ ks) (x ∷ ks) (x ∷ insert_key key_cmp ks k)) → P k × AllByRecursion P (x ∷ ks)
    by Less e later h = h
    by Equal e later h = (subst P (sym (equal_keys k x e)) h.0, h)
    by Greater e later h = let rest = later h.1 in (rest.0, (h.0, rest.1))

pub all_of_set : (P : List ℕ → Type 0) (ks : List (List ℕ)) → AllByRecursion P (keys_set ks) → AllByRecursion P ks
all_of_set P [] h = tt
all_of_set P (k ∷ ks) h = let both = all_inserted P k (keys_set ks) h in (both.0, all_of_set P ks both.1)

-- a key of an operation
of_op : (P : List ℕ → Type 0) (k : List ℕ) (ops : Ops) (op : WriteOp) (rest : List WriteOp) → AllByRecursion P (map (λ o. o.0) ops) → ops_of ops k ≡ op ∷ rest → P k
of_op P k [] op rest h is = cc
of_op P k (o ∷ ops) op rest h is = by (bytes_eq o.0 k) refl (of_op P k ops op rest h.1) is
  where
    by : (b : Bool) → bytes_eq o.0 k ≡ b → (ops_of ops k ≡ op ∷ rest → P k) → map (λ x. x.1) (cond b (o ∷ filter (λ x. bytes_eq x.0 k) ops) (filter (λ x. bytes_eq x.0 k) ops)) ≡ op ∷ rest → P k
    by true e later is = subst P ((bytes_eq-Decides o.0 k).0 e) h.0
    by false e later is = later is

-- a key for which a commit makes a row
of_commit : (P : List ℕ → Type 0) (c : Combine) (d : Option ℕ) (x : Commit) (k : List ℕ) (r : RowEntry) → AllByRecursion P (batch_keys x.ops) → row_of c d x.seq x.now x.ops k ≡ Some r → P k
of_commit P c d x k r h is = by (ops_of x.ops k) refl is
  where
    by : (ops : List WriteOp) → ops_of x.ops k ≡ ops → fold_rows c (map (op_row k x.seq d x.now) (from_last replaces ops)) ≡ Some r → P k
    by [] e is = cc
    by (op ∷ rest) e is = of_op P k x.ops op rest (all_of_set P (map (λ o. o.0) x.ops) h) e

pub of_commits : (P : List ℕ → Type 0) (rules : Rules) (k : List ℕ) (cs : List Commit) (r : RowEntry) (rows : Rows) → AllByRecursion (λ c. AllByRecursion P (batch_keys c.ops)) cs → key_rows rules k cs ≡ r ∷ rows → P k
of_commits P rules k [] r rows h is = cc
of_commits P rules k (c ∷ cs) r rows h is = by (row_of (combine_at rules k) rules.default_millis c.seq c.now c.ops k) refl (of_commits P rules k cs r rows h.1) is
  where
    by : (o : Option RowEntry) → row_of (combine_at rules k) rules.default_millis c.seq c.now c.ops k ≡ o → (key_rows rules k cs ≡ r ∷ rows → P k) → cons_option o (key_rows rules k cs) ≡ r ∷ rows → P k
    by None e later is = later is
    by (Some s) e later is = of_commit P (combine_at rules k) rules.default_millis c k s h.0 e

-- ---- a flush behind its freeze

-- the rows of a key that are frozen are first of those in memory
pub frozen_first : (k : List ℕ) (old mid : CoreModel) → IsFrozen old mid → (more : Rows) × (versions_in k (memory old) ≡ versions_in k mid.frozen ++ more)
frozen_first k old mid (inl frozen) =
    (versions_in k (old.active ∷ []), flat_map-append (versions k) old.frozen (old.active ∷ []) ∙ ap (λ (c : CoreModel). versions_in k c.frozen ++ versions_in k (old.active ∷ [])) (sym frozen.1))
frozen_first k old mid (inr frozen) = ([], sym (append-nil (versions_in k (memory old))) ∙ ap (λ (c : CoreModel). versions_in k c.frozen ++ []) (sym frozen.1))

pub flushed_stand : (m : Meaning) (layout : Layout) (old mid : CoreModel) (number barrier : ℕ) (tables : List (Ulid × List ℕ)) → IsFrozen old mid → IsTied m old → HavePrefixes layout.segments old.state.commits →
    (made : AreTablesOfFlush m layout number barrier mid.frozen tables) → AllByRecursion (InOneSegment layout.segments) made.parts
flushed_stand m layout old mid number barrier tables frozen tied have made =
    tables_stand layout.segments layout.table_bytes made.rows made.parts (flushed_keys m barrier mid.frozen made.rows HasPrefix made.folded has) made.cut
  where
    HasPrefix : List ℕ → Type 0
    HasPrefix k = segment_refusal layout.segments k ≡ None

    has : (k : List ℕ) (r : RowEntry) (rs : Rows) → versions_in k mid.frozen ≡ r ∷ rs → HasPrefix k
    has k r rs is =
        let first = frozen_first k old mid frozen in
        of_commits HasPrefix (rules_of old.settings m) k (above (installed old.events) old.state.commits) r (rs ++ first.0) (AllByRecursion_filter _ _ old.state.commits have) (sym (tied k) ∙ first.1 ∙ ap (λ (xs : Rows). xs ++ first.0) is)
