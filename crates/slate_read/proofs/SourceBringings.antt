-- What calls of a source of a read do to the rows that it may hand out.
use Rattle.std.proofs.Common.{◌≡◌, Bool, true, false, List, [], ◌∷◌, Option, Some, None, refl, sym, subst, arith, ℕ}
use Rattle.std.specs.Prelude.{Contains}
use Rattle.std.proofs.lemmas.List.Elements.{Contains-append_right}
use Rattle.slate_types.specs.declared.iter.IterationOrder.{IterationOrder}
use Rattle.slate_types.specs.declared.types.RowEntry.{RowEntry}
use Rattle.slate_types.specs.Iteration.{RowList, TakesRow, comes_before, drop_before}
use Rattle.slate_types.specs.Outside.{Act, Meaning}
use Rattle.slate_merge.specs.NoMoreRows.{HandsOut, NoMoreRows}
use Rattle.slate_merge.specs.CallLaws.{brings_within}
use Rattle.slate_merge.specs.Calls.{BringsByCalls}
use Rattle.slate_merge.proofs.MergeBringings.{merge_grows}
use Rattle.slate_merge.proofs.Tellings.{none_of}
use Rattle.slate_read.specs.declared.read_source.ReadSource.{ReadSource}
use Rattle.slate_read.specs.declared.read_source.ReadSource.TheVariants.{Empty, Internal, Table, Run, Segments, Batch, Memory}
use Rattle.slate_read.specs.SourceBringing.{brings_source, segment_run_begins, segment_run_seeks, segment_run_takes}
use Rattle.slate_read.proofs.Bringings.{Within}
use Rattle.slate_read.proofs.RunBringings.{run_grows}
use Rattle.slate_read.proofs.SstBringings.{sst_grows}

-- ---- rows in memory

first_of : (row : RowEntry) (rows : List RowEntry) → Contains (row ∷ rows) row
first_of row rows = (0, omega arith, refl)

behind_first : (row : RowEntry) (rows : List RowEntry) (r : RowEntry) → Contains rows r → Contains (row ∷ rows) r
behind_first row rows r k = Contains-append_right (row ∷ []) rows r k

sought_among : (order : IterationOrder) (key : List ℕ) (rows : List RowEntry) (r : RowEntry) → Contains (drop_before order key rows) r → Contains rows r
sought_among order key [] r k = k
sought_among order key (row ∷ rows) r k = by (comes_before order row.key key) refl (λ behind. sought_among order key rows r behind)
  where
    by : (b : Bool) → comes_before order row.key key ≡ b → (Contains (drop_before order key rows) r → Contains rows r) → Contains (row ∷ rows) r
    by true is next = behind_first row rows r (next (rw is at k))
    by false is next = rw is at k

abbrev pub brings_list : RowList → List Act → RowEntry → Type 0
brings_list it reads r = Contains it.rows r

pub list_begun : (x y : RowList) (reads : List Act) → y ≡ x → NoMoreRows (brings_list x) reads (brings_list y)
list_begun x y reads same later r k = subst (λ (l : RowList). Contains l.rows r) same k

pub list_handed : (x y : RowList) (reads : List Act) (answer : Option RowEntry) → TakesRow x.rows answer y.rows → HandsOut (brings_list x) reads answer (brings_list y)
list_handed x y reads None taken = (tt, λ later r k. absurd (none_of r (subst (λ (l : List RowEntry). Contains l r) taken.1 k)))
list_handed x y reads (Some row) taken = (
  subst (λ (l : List RowEntry). Contains l row) (sym taken) (first_of row y.rows),
  λ later r k. subst (λ (l : List RowEntry). Contains l r) (sym taken) (behind_first row y.rows r k),
)

pub list_sought : (x y : RowList) (reads : List Act) (key : List ℕ) → y.rows ≡ drop_before x.order key x.rows → NoMoreRows (brings_list x) reads (brings_list y)
list_sought x y reads key is later r k = sought_among x.order key x.rows r (subst (λ (l : List RowEntry). Contains l r) is k)

-- ---- no rows

abbrev pub brings_nothing : List Act → RowEntry → Type 0
brings_nothing reads r = ⊥

pub nothing_handed : (reads : List Act) (answer : Option RowEntry) → answer ≡ None → HandsOut brings_nothing reads answer brings_nothing
nothing_handed reads answer none = subst (λ (o : Option RowEntry). HandsOut brings_nothing reads o brings_nothing) (sym none) (tt, λ later r k. k)

-- ---- what some reads bring, more do

pub source_grows : (it : ReadSource) (m : Meaning) (reads all : List Act) (r : RowEntry) → brings_source it m reads r → Within reads all → brings_source it m all r
source_grows (Empty it) m reads all r k within = k
source_grows (Internal it) m reads all r k within = sst_grows it.rows m reads r k all within
source_grows (Table it) m reads all r k within = sst_grows it.rows m reads r k all within
source_grows (Run it) m reads all r k within = run_grows it.rows m reads r k all within
source_grows (Segments it) m reads all r k within =
    merge_grows (BringsByCalls segment_run_begins segment_run_takes segment_run_seeks) it.rows.state m reads all r k (λ x b. brings_within segment_run_begins segment_run_takes segment_run_seeks x m reads all r b within)
source_grows (Batch it) m reads all r k within = k
source_grows (Memory it) m reads all r k within = k
