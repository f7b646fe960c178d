-- Lists of sources, place by place.
use Rattle.std.proofs.Common.{◌≡◌, ℕ, ◌+◌, ◌≤◌, List, [], ◌∷◌, ◌++◌, drop, length, reverse, Option, Some, None, refl, sym, ap, subst, ◌∙◌, arith, append-nil, append_assoc}
use Rattle.std.proofs.lemmas.List.{drop_all, reverse-append}
use Rattle.slate_types.specs.declared.bytes_range.BytesRange.{BytesRange}
use Rattle.slate_types.specs.declared.iter.IterationOrder.{IterationOrder}
use Rattle.slate_types.specs.Iteration.{RowList}
use Rattle.slate_mem.specs.Batch.{Ops}
use Rattle.slate_merge.specs.Groups.{in_turn}
use Rattle.slate_read.specs.declared.read_source.ReadSource.{ReadSource}
use Rattle.slate_read.specs.declared.read_source.ReadSource.TheVariants.{Batch, Memory, Run}
use Rattle.slate_read.specs.declared.sorted_run.SortedRun.{SortedRun}
use Rattle.slate_read.specs.declared.sorted_run_iterator.SortedRunIterator.{SortedRunIterator}
use Rattle.slate_read.specs.RunIterators.{AreReadable, BringsRun, IsRunIterator, reached, rows_in_run}
use Rattle.slate_table.specs.declared.info.SsTableHandle.{SsTableHandle}
use Rattle.slate_db.specs.Model.{Rows}
use Rattle.slate_db.specs.OpenScans.{AreEach, AreScanSources, HasRows, IsInMemory, IsMemorySource, IsOverRun, IsOwnSource, IsRunSource}
use Rattle.slate_db.specs.Scanned.{Brings, HasOwn}
use Rattle.slate_db.specs.Scans.{ScanSource}

-- ---- lists place by place

pub each_both : {A B : Type 0} (R : A → B → Type 0) (xs : List A) (ys : List B) (us : List A) (vs : List B) → AreEach R xs ys → AreEach R us vs → AreEach R (xs ++ us) (ys ++ vs)
each_both R [] [] us vs h k = k
each_both R (x ∷ xs) (y ∷ ys) us vs h k = (h.0, each_both R xs ys us vs h.1 k)
each_both R [] (y ∷ ys) us vs h k = absurd h
each_both R (x ∷ xs) [] us vs h k = absurd h

pub each_back : {A B : Type 0} (R : A → B → Type 0) (xs : List A) (ys : List B) → AreEach R xs ys → AreEach R (reverse xs) (reverse ys)
each_back R [] [] h = tt
each_back {A = A} {B = B} R (x ∷ xs) (y ∷ ys) h =
    subst (λ (us : List A). AreEach R us (reverse (y ∷ ys))) (sym (reverse-append (x ∷ []) xs))
    (subst (λ (vs : List B). AreEach R (reverse xs ++ (x ∷ [])) vs) (sym (reverse-append (y ∷ []) ys))
    (each_both R (reverse xs) (reverse ys) (x ∷ []) (y ∷ []) (each_back R xs ys h.1) (h.0, tt)))
each_back R [] (y ∷ ys) h = absurd h
each_back R (x ∷ xs) [] h = absurd h

-- ---- sources of the elements from a place on, the last first, behind others

-- of none
pub sources_none : {A B : Type 0} (R : A → B → Type 0) (front xs : List A) (i : ℕ) (ys : List B) → length xs ≤ i → AreEach R front ys → AreEach R (front ++ reverse (drop i xs)) ys
sources_none {A = A} R front xs i ys end h = subst (λ (us : List A). AreEach R us ys) (sym (ap (λ (us : List A). front ++ reverse us) (drop_all i xs end) ∙ append-nil front)) h

-- of one more
pub sources_more : {A B : Type 0} (R : A → B → Type 0) (front xs : List A) (i : ℕ) (x : A) (ys zs : List B) (y : B) → drop i xs ≡ x ∷ drop (i + 1) xs → zs ≡ ys ++ (y ∷ []) → R x y → AreEach R (front ++ reverse (drop (i + 1) xs)) ys →
    AreEach R (front ++ reverse (drop i xs)) zs
sources_more {A = A} {B = B} R front xs i x ys zs y here is r h =
    subst (λ (vs : List B). AreEach R (front ++ reverse (drop i xs)) vs) (sym is)
    (subst (λ (us : List A). AreEach R us (ys ++ (y ∷ [])))
    (append_assoc front (reverse (drop (i + 1) xs)) (x ∷ []) ∙ ap (λ (us : List A). front ++ us) (sym (reverse-append (x ∷ []) (drop (i + 1) xs)) ∙ ap reverse (sym here)))
    (each_both R (front ++ reverse (drop (i + 1) xs)) ys (x ∷ []) (y ∷ []) h (r, tt)))

-- of all
pub sources_end : {A B : Type 0} (R : A → B → Type 0) (front xs : List A) (i : ℕ) (ys : List B) → i ≡ 0 → AreEach R (front ++ reverse (drop i xs)) ys → AreEach R (front ++ reverse xs) ys
sources_end {A = A} R front xs i ys none h = subst (λ (j : ℕ). AreEach R (front ++ reverse (drop j xs)) ys) none h

-- the first one
pub sources_first : {A B : Type 0} (R : A → B → Type 0) (x : A) (y : B) (ys zs : List B) → ys ≡ [] → zs ≡ ys ++ (y ∷ []) → R x y → AreEach R (x ∷ []) zs
sources_first {B = B} R x y ys zs none is h = subst (λ (l : List B). AreEach R (x ∷ []) l) (sym (is ∙ ap (λ (l : List B). l ++ (y ∷ [])) none)) (h, tt)

-- ---- one source

pub memory_is : (range : BytesRange) (order : IterationOrder) (n : ℕ) (rows : Rows) (it : RowList) (s : ScanSource) → s.iterator ≡ Memory it → s.predicate.max_seq ≡ Some n → HasRows order (Brings range rows) it → IsMemorySource range order n rows s
memory_is range order n rows it s iterator upto h = (upto, subst (λ (x : ReadSource). IsInMemory order (Brings range rows) x) (sym iterator) h)

pub own_is : (range : BytesRange) (order : IterationOrder) (ops : Ops) (it : RowList) (s : ScanSource) → s.iterator ≡ Batch it → s.predicate.max_seq ≡ None → HasRows order (HasOwn range ops) it → IsOwnSource range order ops s
own_is range order ops it s iterator upto h = (upto, subst (λ (x : ReadSource). IsInMemory order (HasOwn range ops) x) (sym iterator) h)

-- of a copy of a run
pub run_is : (range within : BytesRange) (order : IterationOrder) (n : ℕ) (run copy : SortedRun) (it : SortedRunIterator) (s : ScanSource) → s.iterator ≡ Run it → s.predicate.max_seq ≡ Some n → within ≡ range →
    copy.tables.items ≡ run.tables.items → IsRunIterator within copy order it.rows → IsRunSource range order n run s
run_is range within order n run copy it s iterator upto same tables h = (
  upto,
  subst (λ (x : ReadSource). IsOverRun range order run x) (sym iterator) (record {
    within = h.within ∙ same;
    fresh = h.fresh;
    unopened = h.unopened;
    closed = h.closed;
    none_ahead = h.none_ahead;
    opens = h.opens ∙ (λ i. reached (same i) order (tables i));
    brings = λ w kepts readable. subst (λ (b : BytesRange). BringsRun w order it.rows (in_turn order (rows_in_run b order kepts))) same (h.brings w kepts (subst (λ (hs : List SsTableHandle). AreReadable w hs kepts) (sym tables) readable));
  }),
)

pub sources_nil : {A B : Type 0} (R : A → B → Type 0) (ys : List B) → ys ≡ [] → AreEach R [] ys
sources_nil {B = B} R ys none = subst (λ (l : List B). AreEach R [] l) (sym none) tt

-- ---- all of them

pub all_sources : (range : BytesRange) (order : IterationOrder) (n : ℕ) (ops : Ops) (memory : List Rows) (runs : List SortedRun) (own : ScanSource) (none first second whole in_memory in_runs : List ScanSource) →
    none ≡ [] → first ≡ none ++ (own ∷ []) → second ≡ first ++ in_memory → whole ≡ second ++ in_runs →
    IsOwnSource range order ops own → AreEach (IsMemorySource range order n) memory in_memory → AreEach (IsRunSource range order n) runs in_runs → AreScanSources range order n ops memory runs whole
all_sources range order n ops memory runs own none first second whole in_memory in_runs nil one two three h k l = record {
  own = own;
  in_memory = in_memory;
  in_runs = in_runs;
  are = three ∙ ap (λ (s : List ScanSource). s ++ in_runs) (two ∙ ap (λ (s : List ScanSource). s ++ in_memory) (one ∙ ap (λ (s : List ScanSource). s ++ (own ∷ [])) nil));
  of_own = h;
  of_memory = k;
  of_runs = l;
}
