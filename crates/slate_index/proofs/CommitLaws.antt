-- What a commit that puts and deletes leaves in the state.
use Rattle.std.proofs.Common.{◌≡◌, ℕ, ◌+◌, ◌≤◌, Bool, true, false, cond, ◌||◌, List, [], ◌∷◌, ◌++◌, map, filter, bytes_eq, Option, Some, None, option_map, refl, sym, ap, ◌∙◌, arith, append-nil}
use Rattle.std.specs.List.{list_any}
use Rattle.slate_types.specs.declared.types.KeyValue.{KeyValue}
use Rattle.slate_types.specs.declared.types.RowEntry.{RowEntry}
use Rattle.slate_types.specs.Rows.{key_value, operand}
use Rattle.slate_types.specs.Fold.{shown, from_last}
use Rattle.slate_mem.specs.declared.WriteOp.{WriteOp}
use Rattle.slate_mem.specs.Batch.{replaces, ops_of, kept, kept_ops}
use Rattle.slate_mem.proofs.BatchLaws.{keeps_what_is_kept}
use Rattle.slate_txn.specs.State.{Rules, Commit, combine_at, last_of}
use Rattle.slate_txn.specs.Reads.{up_to, key_rows, seen, state_at}
use Rattle.slate_txn.specs.Laws.{Counts, shown_after}
use Rattle.slate_txn.proofs.SequenceLaws.{counts_more}
use Rattle.slate_txn.proofs.Growing.{all_up_to, commit_shows, last_more}
use Rattle.slate_index.specs.Changes.{Values, put_value, changed}
use Rattle.slate_index.specs.Commits.{op_of, change_ops, value_of}
use Rattle.slate_index.specs.Journals.{values_at}

-- the last that is put at a key, or that it is deleted
abbrev pub or_else : Option (Option (List ℕ)) → Option (Option (List ℕ)) → Option (Option (List ℕ))
or_else (Some v) o = Some v
or_else None o = o

abbrev pub where_is : Bool → Option (List ℕ) → Option (Option (List ℕ))
where_is true v = Some v
where_is false v = None

abbrev pub final : List (List ℕ × Option (List ℕ)) → List ℕ → Option (Option (List ℕ))
final [] k = None
final (p ∷ ps) k = or_else (final ps k) (where_is (bytes_eq p.0 k) p.1)

abbrev or_old : Option (Option (List ℕ)) → Option (List ℕ) → Option (List ℕ)
or_old (Some v) old = v
or_old None old = old

changed_finally : (m : Values) (ps : List (List ℕ × Option (List ℕ))) (k : List ℕ) → changed m ps k ≡ or_old (final ps k) (m k)
changed_finally m [] k = refl
changed_finally m (p ∷ ps) k = changed_finally (put_value m p.0 p.1) ps k ∙ by (final ps k) (bytes_eq p.0 k)
  where
    by : (o : Option (Option (List ℕ))) (b : Bool) → or_old o (cond b p.1 (m k)) ≡ or_old (or_else o (where_is b p.1)) (m k)
    by (Some v) b = refl
    by None true = refl
    by None false = refl

-- ---- what is kept

abbrev pub listed : Option (Option (List ℕ)) → List WriteOp
listed None = []
listed (Some v) = op_of v ∷ []

replaces_all : (v : Option (List ℕ)) → replaces (op_of v) ≡ true
replaces_all None = refl
replaces_all (Some v) = refl

-- the operations of the key, and whether there are any
abbrev AreKept : List WriteOp → Option (Option (List ℕ)) → Type 0
AreKept os None = os ≡ []
AreKept os (Some v) = (list_any replaces os ≡ true) × (from_last replaces os ≡ op_of v ∷ [])

or_true : (a b : Bool) → a ≡ true → (a || b) ≡ true
or_true a b e = ap (λ t. t || b) e

kept_puts : (ps : List (List ℕ × Option (List ℕ))) (k : List ℕ) → AreKept (ops_of (change_ops ps) k) (final ps k)
kept_puts [] k = refl
kept_puts (p ∷ ps) k = by (bytes_eq p.0 k) (final ps k) (kept_puts ps k)
  where
    rest : List (List ℕ × WriteOp)
    rest = filter (λ o. bytes_eq o.0 k) (change_ops ps)

    by : (b : Bool) (o : Option (Option (List ℕ))) → AreKept (map (λ x. x.1) rest) o → AreKept (map (λ x. x.1) (cond b ((p.0, op_of p.1) ∷ rest) rest)) (or_else o (where_is b p.1))
    by true None h = (or_true (replaces (op_of p.1)) (list_any replaces (map (λ x. x.1) rest)) (replaces_all p.1), ap (λ (xs : List WriteOp). from_last replaces (op_of p.1 ∷ xs)) h)
    by true (Some v) h = (
      or_true (replaces (op_of p.1)) (list_any replaces (map (λ x. x.1) rest)) (replaces_all p.1),
      ap (λ (b : Bool). cond b (from_last replaces (map (λ x. x.1) rest)) (op_of p.1 ∷ map (λ x. x.1) rest)) h.0 ∙ h.1,
    )
    by false None h = h
    by false (Some v) h = h

-- what a list of puts and deletes leaves of a key
pub kept_of : (ps : List (List ℕ × Option (List ℕ))) (k : List ℕ) → kept (change_ops ps) k ≡ listed (final ps k)
kept_of ps k = by (final ps k) (kept_puts ps k)
  where
    by : (o : Option (Option (List ℕ))) → AreKept (ops_of (change_ops ps) k) o → kept (change_ops ps) k ≡ listed o
    by None h = ap (from_last replaces) h
    by (Some v) h = h.1

kept_is : (ps : List (List ℕ × Option (List ℕ))) (k : List ℕ) → kept (kept_ops (change_ops ps)) k ≡ listed (final ps k)
kept_is ps k = keeps_what_is_kept (change_ops ps) k ∙ kept_of ps k

-- ---- the state after it

-- the value of each key behind all commits
abbrev pub values : Rules → List Commit → Values
values r cs k = option_map operand (shown (combine_at r k) (key_rows r k cs))

same_le : (a b : ℕ) → a ≡ b → a ≤ b
same_le a b e = omega arith

pub values_here : (r : Rules) (cs : List Commit) (n : ℕ) (k : List ℕ) → Counts r.start_seq cs → last_of r.start_seq cs ≤ n → values_at r cs n k ≡ values r cs k
values_here r cs n k counts l = ap (λ xs. option_map operand (shown (combine_at r k) (key_rows r k xs))) (all_up_to r.start_seq n cs counts l)

-- what stands behind a commit that puts and deletes
pub after_change : (r : Rules) (cs : List Commit) (c : Commit) (ps : List (List ℕ × Option (List ℕ))) (k : List ℕ) → Counts r.start_seq cs → c.seq ≡ last_of r.start_seq cs + 1 → c.ops ≡ kept_ops (change_ops ps) →
    values r (cs ++ (c ∷ [])) k ≡ changed (values r cs) ps k
after_change r cs c ps k counts next is =
    sym (values_here r (cs ++ (c ∷ [])) c.seq k (counts_more r.start_seq cs c counts next) (same_le (last_of r.start_seq (cs ++ (c ∷ []))) c.seq (last_more r.start_seq cs c)))
    ∙ ap (option_map operand) (commit_shows r cs c c.seq k counts next (same_le c.seq c.seq refl))
    ∙ ap (λ os. option_map operand (shown_after r cs c k os)) (ap (λ os. kept os k) is ∙ kept_is ps k)
    ∙ by (final ps k)
    ∙ sym (changed_finally (values r cs) ps k)
  where
    by : (o : Option (Option (List ℕ))) → option_map operand (shown_after r cs c k (listed o)) ≡ or_old o (values r cs k)
    by None = values_here r cs (last_of r.start_seq cs) k counts (same_le (last_of r.start_seq cs) (last_of r.start_seq cs) refl)
    by (Some None) = refl
    by (Some (Some v)) = refl

-- ---- what is read

-- a get of a reader that has nothing of its own, behind all commits
pub value_read : (r : Rules) (cs : List Commit) (k : List ℕ) (answer : Option KeyValue) → Counts r.start_seq cs → answer ≡ option_map key_value (seen r cs (last_of r.start_seq cs) [] k) → value_of answer ≡ values r cs k
value_read r cs k answer counts e =
    ap value_of (e ∙ ap (λ rs. option_map key_value (shown (combine_at r k) rs)) (append-nil (key_rows r k (up_to (last_of r.start_seq cs) cs))))
    ∙ by (state_at r cs (last_of r.start_seq cs) k)
    ∙ values_here r cs (last_of r.start_seq cs) k counts (same_le (last_of r.start_seq cs) (last_of r.start_seq cs) refl)
  where
    by : (o : Option RowEntry) → value_of (option_map key_value o) ≡ option_map operand o
    by None = refl
    by (Some row) = refl
