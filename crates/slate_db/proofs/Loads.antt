-- A commit adds a row at most for each of its operations.
use Rattle.std.proofs.Common.{◌≡◌, ℕ, ◌+◌, ◌≤◌, List, [], ◌∷◌, ◌++◌, map, filter_map, length, Option, Some, None, ℤ, sym, ap, subst, ◌∙◌, arith, Ordering, Less, Equal, Greater}
use Rattle.std.specs.Prelude.{sum_by}
use Rattle.std.specs.BTreeSet.{insert_key}
use Rattle.std.specs.Ordering.{match_ordering}
use Rattle.std.specs.List.{cons_option}
use Rattle.std.proofs.lemmas.List.{length-map}
use Rattle.std.proofs.lemmas.List.Sums.{sum_by_push}
use Rattle.slate_types.specs.declared.types.RowEntry.{RowEntry}
use Rattle.slate_types.specs.Fold.{Combine}
use Rattle.slate_types.specs.Keys.{key_cmp, keys_set}
use Rattle.slate_types.specs.Rows.{sequenced, sequenced_cmp}
use Rattle.slate_mem.specs.Batch.{Ops, batch_keys, kept_ops}
use Rattle.slate_mem.specs.CommitRows.{commit_rows}
use Rattle.slate_mem.specs.RowOf.{row_of}
use Rattle.slate_mem.specs.Table.{put_row, put_rows}
use Rattle.slate_mem.proofs.BatchLaws.{keeps_its_keys}
use Rattle.slate_db.specs.Load.{load}
use Rattle.slate_db.specs.Model.{CoreModel, Rows}

-- ---- the keys of a batch

one_key : (ks : List (List ℕ)) (k : List ℕ) → length (insert_key key_cmp ks k) ≤ 1 + length ks
one_key [] k = omega arith
one_key (j ∷ js) k = by (key_cmp k j) (one_key js k)
  where
    by : (o : Ordering) → length (insert_key key_cmp js k) ≤ 1 + length js → length (match_ordering o (k ∷ j ∷ js) (j ∷ js) (j ∷ insert_key key_cmp js k)) ≤ 1 + length (j ∷ js)
    by Less rest = omega arith
    by Equal rest = omega arith
    by Greater rest = omega arith

few_keys : (ks : List (List ℕ)) → length (keys_set ks) ≤ length ks
few_keys [] = omega arith
few_keys (k ∷ ks) =
    let one : length (insert_key key_cmp (keys_set ks) k) ≤ 1 + length (keys_set ks) = one_key (keys_set ks) k in
    let rest : length (keys_set ks) ≤ length ks = few_keys ks in
    omega arith

few_of : (ops : Ops) → length (batch_keys ops) ≤ length ops
few_of ops = subst (λ n. length (batch_keys ops) ≤ n) (length-map ops (λ o. o.0)) (few_keys (map (λ o. o.0) ops))

-- ---- the rows of a commit

few_made : (f : List ℕ → Option RowEntry) (ks : List (List ℕ)) → length (filter_map f ks) ≤ length ks
few_made f [] = omega arith
few_made f (k ∷ ks) = by (f k) (few_made f ks)
  where
    by : (o : Option RowEntry) → length (filter_map f ks) ≤ length ks → length (cons_option o (filter_map f ks)) ≤ length (k ∷ ks)
    by None rest = omega arith
    by (Some r) rest = omega arith

-- made: the batch's operations, of all that it took
few_rows : (c : List ℕ → Combine) (d : Option ℕ) (n : ℕ) (now : ℤ) (made ops : Ops) → made ≡ kept_ops ops → length (commit_rows c d n now made) ≤ length ops
few_rows c d n now made ops is =
    let rows : length (commit_rows c d n now made) ≤ length (batch_keys made) = few_made (λ k. row_of (c k) d n now made k) (batch_keys made) in
    let keys : length (batch_keys made) ≡ length (batch_keys ops) = ap length (ap batch_keys is ∙ keeps_its_keys ops) in
    let few : length (batch_keys ops) ≤ length ops = few_of ops in
    omega arith

-- ---- rows that are put

put_length : (rows : Rows) (row : RowEntry) → length (put_row rows row) ≤ length rows + 1
put_length [] row = omega arith
put_length (r ∷ rs) row = by (sequenced_cmp (sequenced row) (sequenced r)) (put_length rs row)
  where
    by : (o : Ordering) → length (put_row rs row) ≤ length rs + 1 → length (match_ordering o (row ∷ r ∷ rs) (row ∷ rs) (r ∷ put_row rs row)) ≤ length (r ∷ rs) + 1
    by Less rest = omega arith
    by Equal rest = omega arith
    by Greater rest = omega arith

puts_length : (rows more : Rows) → length (put_rows rows more) ≤ length rows + length more
puts_length rows [] = omega arith
puts_length rows (m ∷ more) =
    let one : length (put_row rows m) ≤ length rows + 1 = put_length rows m in
    let rest : length (put_rows (put_row rows m) more) ≤ length (put_row rows m) + length more = puts_length (put_row rows m) more in
    omega arith

pub write_load : (core : CoreModel) (c : List ℕ → Combine) (d : Option ℕ) (n : ℕ) (now : ℤ) (made ops : Ops) → made ≡ kept_ops ops →
    sum_by (λ (rows : Rows). length rows) (core.frozen ++ (put_rows core.active (commit_rows c d n now made) ∷ [])) ≤ load core + length ops
write_load core c d n now made ops is =
    let old : load core ≡ sum_by (λ (rows : Rows). length rows) core.frozen + length core.active = sum_by_push (λ (rows : Rows). length rows) core.frozen core.active in
    let new : sum_by (λ (rows : Rows). length rows) (core.frozen ++ (put_rows core.active (commit_rows c d n now made) ∷ [])) ≡ sum_by (λ (rows : Rows). length rows) core.frozen + length (put_rows core.active (commit_rows c d n now made)) =
    sum_by_push (λ (rows : Rows). length rows) core.frozen (put_rows core.active (commit_rows c d n now made)) in
    let put : length (put_rows core.active (commit_rows c d n now made)) ≤ length core.active + length (commit_rows c d n now made) = puts_length core.active (commit_rows c d n now made) in
    let few : length (commit_rows c d n now made) ≤ length ops = few_rows c d n now made ops is in
    omega arith
