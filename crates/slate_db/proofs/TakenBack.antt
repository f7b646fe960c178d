-- The rows of a commit are taken back.
use Rattle.std.proofs.Common.{◌≡◌, ℕ, ℤ, Option, ◌+◌, ◌<◌, ◌≤◌, ◌==◌, Bool, true, false, cond, not, List, [], ◌∷◌, filter, refl, sym, ap, subst, ◌∙◌, Ordering, Less, Equal, Greater, arith}
use Rattle.std.specs.List.{AllByRecursion}
use Rattle.std.specs.Ordering.{match_ordering}
use Rattle.std.proofs.lemmas.Bool.Decides.{nat_tests}
use Rattle.slate_types.specs.declared.types.RowEntry.{RowEntry}
use Rattle.slate_types.specs.Rows.{sequenced, sequenced_cmp}
use Rattle.slate_types.proofs.RowLaws.{sequenced_same}
use Rattle.slate_types.specs.Fold.{Combine}
use Rattle.slate_mem.specs.Batch.{Ops, batch_keys}
use Rattle.slate_mem.specs.CommitRows.{commit_rows}
use Rattle.slate_mem.specs.RowOf.{row_of}
use Rattle.slate_mem.specs.Table.{put_row, put_rows}
use Rattle.slate_mem.proofs.RowOfLaws.{row_has}
use Rattle.slate_db.specs.Layers.{LayersModel, AreLayers, without_seq}
use Rattle.slate_db.specs.Model.{CoreModel, Rows, memory}
use Rattle.slate_db.proofs.Puts.{all_rows}
use Rattle.slate_types.proofs.Lists.{AllByRecursion_behind, AllByRecursion_weaken}

is_seq : (r : RowEntry) (n : ℕ) → r.seq ≡ n → (r.seq == n) ≡ true
is_seq r n h = grind (arith, nat_tests)

not_seq : (r : RowEntry) (n : ℕ) → r.seq < n → (r.seq == n) ≡ false
not_seq r n h = grind (arith, nat_tests)

out : (n : ℕ) (r : RowEntry) (rs : Rows) → r.seq ≡ n → without_seq n (r ∷ rs) ≡ without_seq n rs
out n r rs h = ap (λ t. cond (not t) (r ∷ without_seq n rs) (without_seq n rs)) (is_seq r n h)

without_put : (n : ℕ) (row : RowEntry) (rows : Rows) → row.seq ≡ n → without_seq n (put_row rows row) ≡ without_seq n rows
without_put n row [] h = out n row [] h
without_put n row (r ∷ rs) h = by (sequenced_cmp (sequenced row) (sequenced r)) refl (without_put n row rs h)
  where
    by : (o : Ordering) → sequenced_cmp (sequenced row) (sequenced r) ≡ o → without_seq n (put_row rs row) ≡ without_seq n rs →
        without_seq n (match_ordering o (row ∷ r ∷ rs) (row ∷ rs) (r ∷ put_row rs row)) ≡ without_seq n (r ∷ rs)
    by Less e rest = out n row (r ∷ rs) h
    by Equal e rest = out n row rs h ∙ sym (out n r rs (sym (ap (λ k. k.seq) (sequenced_same (sequenced row) (sequenced r) e)) ∙ h))
    by Greater e rest = ap (λ xs. cond (not (r.seq == n)) (r ∷ xs) xs) rest

without_puts : (n : ℕ) (rows more : Rows) → AllByRecursion (λ r. r.seq ≡ n) more → without_seq n (put_rows rows more) ≡ without_seq n rows
without_puts n rows [] h = refl
without_puts n rows (m ∷ more) h = without_puts n (put_row rows m) more h.1 ∙ without_put n m rows h.0

without_none : (n : ℕ) (rows : Rows) → AllByRecursion (λ r. r.seq < n) rows → without_seq n rows ≡ rows
without_none n [] h = refl
without_none n (r ∷ rs) h = ap (λ t. cond (not t) (r ∷ without_seq n rs) (without_seq n rs)) (not_seq r n h.0) ∙ ap (λ xs. r ∷ xs) (without_none n rs h.1)

pub back : (n : ℕ) (rows more : Rows) → AllByRecursion (λ r. r.seq ≡ n) more → AllByRecursion (λ r. r.seq < n) rows → without_seq n (put_rows rows more) ≡ rows
back n rows more h older = without_puts n rows more h ∙ without_none n rows older

-- of layers that put them
pub layers_back : (y z : LayersModel) (n : ℕ) (more : Rows) → z ≡ record y { active = put_rows y.active more } → AllByRecursion (λ r. r.seq ≡ n) more → AllByRecursion (λ r. r.seq < n) y.active →
    record z { active = without_seq n z.active } ≡ y
layers_back y z n more is h older = ap (λ (x : LayersModel). record x { active = without_seq n x.active }) is ∙ (λ i. record y { active = back n y.active more h older i })

-- ---- what a commit puts

pub commit_seqs : (c : List ℕ → Combine) (d : Option ℕ) (n : ℕ) (now : ℤ) (ops : Ops) → AllByRecursion (λ r. r.seq ≡ n) (commit_rows c d n now ops)
commit_seqs c d n now ops = all_rows (λ r. r.seq ≡ n) (λ k. row_of (c k) d n now ops k) (λ j r is. (row_has (c j) d n now ops j r is).1.0) (batch_keys ops)

-- the rows that aren't frozen are older than the next commit
pub older_rows : (c : CoreModel) (n : ℕ) → AllByRecursion (λ rows. AllByRecursion (λ r. r.seq ≤ n) rows) (memory c) → AllByRecursion (λ r. r.seq < n + 1) c.active
older_rows c n h = AllByRecursion_weaken _ _ less c.active (AllByRecursion_behind _ c.frozen (c.active ∷ []) h).0
  where
    less : (r : RowEntry) → r.seq ≤ n → r.seq < n + 1
    less r h = omega arith
