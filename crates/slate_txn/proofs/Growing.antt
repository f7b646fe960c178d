-- What one commit more adds to the states.
use Rattle.std.proofs.Common.{◌≡◌, ℕ, ◌+◌, ◌≤◌, Bool, true, false, cond, leb, List, [], ◌∷◌, ◌++◌, map, Option, Some, None, refl, sym, ap, ◌∙◌, arith, append-nil}
use Rattle.std.specs.List.{cons_option}
use Rattle.std.specs.Option.{option_and_then}
use Rattle.std.proofs.lemmas.Bool.Decides.{nat_tests}
use Rattle.slate_types.specs.declared.types.RowEntry.{RowEntry}
use Rattle.slate_types.specs.Rows.{is_base, hide_tombstone}
use Rattle.slate_types.specs.Fold.{fold_taken, fold_rows, shown}
use Rattle.slate_mem.specs.declared.WriteOp.{WriteOp}
use Rattle.slate_mem.specs.declared.WriteOp.TheVariants.{Put, Delete, Merge}
use Rattle.slate_mem.specs.Batch.{kept}
use Rattle.slate_mem.specs.RowOf.{op_row, row_of}
use Rattle.slate_mem.proofs.KeptLaws.{from_last_passes}
use Rattle.slate_txn.specs.State.{Rules, Commit, combine_at, last_of}
use Rattle.slate_txn.specs.Reads.{up_to, key_rows}
use Rattle.slate_txn.specs.Laws.{Counts, StatesAtEachSequence, CommitShows, shown_after}
use Rattle.slate_txn.proofs.SequenceLaws.{counts_more}
use Rattle.slate_txn.proofs.PlaceLaws.{counts_last}

-- ---- sequences

le_trans : (a b c : ℕ) → a ≤ b → b ≤ c → a ≤ c
le_trans a b c h g = omega arith

le_test : (a b : ℕ) → a ≤ b → leb a b ≡ true
le_test a b h = grind (arith, nat_tests)

-- from the last sequence on no commit is left out
pub all_up_to : (n0 n : ℕ) (cs : List Commit) → Counts n0 cs → last_of n0 cs ≤ n → up_to n cs ≡ cs
all_up_to n0 n [] h l = refl
all_up_to n0 n (c ∷ cs) h l =
    ap (λ b. cond b (c ∷ up_to n cs) (up_to n cs)) (le_test c.seq n (le_trans c.seq (last_of c.seq cs) n (counts_last c.seq cs h.1).0 l))
    ∙ ap (λ xs. c ∷ xs) (all_up_to c.seq n cs h.1 l)

pub up_to_more : (n : ℕ) (cs : List Commit) (c : Commit) → up_to n (cs ++ (c ∷ [])) ≡ up_to n cs ++ cond (leb c.seq n) (c ∷ []) []
up_to_more n [] c = refl
up_to_more n (x ∷ cs) c = ap (λ ys. cond (leb x.seq n) (x ∷ ys) ys) (up_to_more n cs c) ∙ by (leb x.seq n)
  where
    by : (b : Bool) → cond b (x ∷ (up_to n cs ++ cond (leb c.seq n) (c ∷ []) [])) (up_to n cs ++ cond (leb c.seq n) (c ∷ []) []) ≡ cond b (x ∷ up_to n cs) (up_to n cs) ++ cond (leb c.seq n) (c ∷ []) []
    by true = refl
    by false = refl

pub last_more : (n0 : ℕ) (cs : List Commit) (c : Commit) → last_of n0 (cs ++ (c ∷ [])) ≡ c.seq
last_more n0 [] c = refl
last_more n0 (x ∷ cs) c = last_more x.seq cs c

pub states_at_each : StatesAtEachSequence
states_at_each n0 n cs c counts = (all_up_to n0 n cs counts, up_to_more n cs c)

-- ---- rows

pub rows_more : (r : Rules) (k : List ℕ) (cs : List Commit) (c : Commit) → key_rows r k (cs ++ (c ∷ [])) ≡ key_rows r k cs ++ cons_option (row_of (combine_at r k) r.default_millis c.seq c.now c.ops k) []
rows_more r k [] c = refl
rows_more r k (x ∷ cs) c = ap (cons_option (row_of (combine_at r k) r.default_millis x.seq x.now x.ops k)) (rows_more r k cs c) ∙ by (row_of (combine_at r k) r.default_millis x.seq x.now x.ops k)
  where
    more : List RowEntry
    more = cons_option (row_of (combine_at r k) r.default_millis c.seq c.now c.ops k) []

    by : (o : Option RowEntry) → cons_option o (key_rows r k cs ++ more) ≡ cons_option o (key_rows r k cs) ++ more
    by None = refl
    by (Some row) = refl

-- the last row hides all before it, where it is no operand
base_hides : (r : Rules) (k : List ℕ) (rows : List RowEntry) (row : RowEntry) → is_base row ≡ true → shown (combine_at r k) (rows ++ (row ∷ [])) ≡ hide_tombstone row.value row
base_hides r k rows row base = ap (λ rs. option_and_then (λ x. hide_tombstone x.value x) (fold_taken (combine_at r k) rs)) (from_last_passes is_base rows row base)

same_le : (a b : ℕ) → a ≡ b → a ≤ b
same_le a b e = omega arith

pub commit_shows : CommitShows
commit_shows r cs c n k counts next past =
    ap (λ xs. shown (combine_at r k) (key_rows r k xs)) (all_up_to r.start_seq n (cs ++ (c ∷ [])) (counts_more r.start_seq cs c counts next) (le_trans (last_of r.start_seq (cs ++ (c ∷ []))) c.seq n (same_le (last_of r.start_seq (cs ++ (c ∷ []))) c.seq (last_more r.start_seq cs c)) past))
    ∙ by (kept c.ops k) refl
  where
    row : List WriteOp → Option RowEntry
    row ops = fold_rows (combine_at r k) (map (op_row k c.seq r.default_millis c.now) ops)

    -- all rows of the key, by what is kept of it
    rows_by : (ops : List WriteOp) → kept c.ops k ≡ ops → shown (combine_at r k) (key_rows r k (cs ++ (c ∷ []))) ≡ shown (combine_at r k) (key_rows r k cs ++ cons_option (row ops) [])
    rows_by ops e = ap (shown (combine_at r k)) (rows_more r k cs c ∙ ap (λ os. key_rows r k cs ++ cons_option (row os) []) e)

    by : (ops : List WriteOp) → kept c.ops k ≡ ops → shown (combine_at r k) (key_rows r k (cs ++ (c ∷ []))) ≡ shown_after r cs c k ops
    by [] e =
        rows_by [] e ∙ ap (shown (combine_at r k)) (append-nil (key_rows r k cs))
        ∙ ap (λ xs. shown (combine_at r k) (key_rows r k xs)) (sym (all_up_to r.start_seq (last_of r.start_seq cs) cs counts (same_le (last_of r.start_seq cs) (last_of r.start_seq cs) refl)))
    by (Put v o ∷ []) e = rows_by (Put v o ∷ []) e ∙ base_hides r k (key_rows r k cs) (op_row k c.seq r.default_millis c.now (Put v o)) refl
    by (Delete ∷ []) e = rows_by (Delete ∷ []) e ∙ base_hides r k (key_rows r k cs) (op_row k c.seq r.default_millis c.now Delete) refl
    by (Merge v o ∷ []) e = refl
    by (Put v o ∷ other ∷ ops) e = refl
    by (Delete ∷ other ∷ ops) e = refl
    by (Merge v o ∷ other ∷ ops) e = refl
