-- The steps of a scan, as they are taken one after the other.
use Rattle.std.proofs.Common.{◌≡◌, ℕ, zero, suc, ◌+◌, ◌-◌, ◌<◌, ◌≤◌, Bool, true, false, cond, ◌==◌, List, [], ◌∷◌, ◌++◌, length, take, drop, get_or, Some, None, refl, sym, ap, ◌∙◌, arith, add-one, append_assoc, append-nil, ltb}
use Rattle.std.specs.Prelude.{count_by, Option}
use Rattle.std.proofs.Math.Seq.{drop-cons, drop-nil}
use Rattle.std.proofs.lemmas.Bool.Decides.{nat_tests}
use Rattle.std.proofs.lemmas.Bool.{lt-ltb, ltb-true, ltb-false}
use Rattle.std.proofs.lemmas.List.{take_all, drop_all, length-drop, length-take-le, nil_from_length}
use Rattle.std.proofs.lemmas.List.Elements.{filter_map-append}
use Rattle.std.proofs.lemmas.List.Sums.{sum_by-append}
use Rattle.slate_types.specs.declared.bytes_range.BytesRange.{BytesRange}
use Rattle.slate_types.specs.declared.iter.IterationOrder.{IterationOrder}
use Rattle.slate_types.specs.declared.types.KeyValue.{KeyValue}
use Rattle.slate_types.specs.declared.types.RowEntry.{RowEntry}
use Rattle.slate_types.specs.Rows.{key_value}
use Rattle.slate_txn.specs.declared.event.TranscriptStep.{TranscriptStep}
use Rattle.slate_txn.specs.declared.event.TranscriptStep.TheVariants as steps
use Rattle.slate_txn.specs.declared.line.ScanStep.{ScanStep}
use Rattle.slate_txn.specs.declared.line.ScanStep.TheVariants.{Rows}
use Rattle.slate_txn.specs.Alone.{first_left}
use Rattle.slate_txn.specs.Reads.{answer_of, handed, nexts, steps_walk}
use Rattle.slate_txn.specs.Step.{is_scan}
use Rattle.slate_script.specs.Walking.{TakesStep, Walks, Means}

abbrev pub TakesFirst : ℕ → ℕ → Means
TakesFirst n i rows left ts = (ts ≡ nexts n (take i rows)) × (left ≡ drop i rows) × (i ≤ length rows)

abbrev pub TakesNext : ℕ → Option KeyValue → Means
TakesNext n a rows left ts = (ts ≡ steps.Next n a ∷ []) × (a ≡ first_left rows) × (left ≡ drop 1 rows)

abbrev pub TakesRest : ℕ → IterationOrder → List ScanStep → ℕ → Means
TakesRest n order sts i rows left ts = ts ++ steps_walk order n left (drop i sts) ≡ steps_walk order n rows sts

pub handed_both : (ts us : List TranscriptStep) → handed (ts ++ us) ≡ handed ts ++ handed us
handed_both ts us = filter_map-append answer_of ts us

handed_many : (n : ℕ) (rows : List RowEntry) → length (handed (nexts n rows)) ≡ length rows
handed_many n [] = refl
handed_many n (r ∷ rs) = ap suc (handed_many n rs)

-- ---- one row more

none_some : {X : Type 0} {Q : Type 0} (x : X) → Some x ≡ None → Q
none_some x e = cc

some_same : {X : Type 0} (x y : X) → Some x ≡ Some y → x ≡ y
some_same x y e = cc

next_one : (n i : ℕ) (rows : List RowEntry) (row : KeyValue) → Some row ≡ first_left (drop i rows) → (nexts n (take i rows) ++ (steps.Next n (Some row) ∷ []) ≡ nexts n (take (i + 1) rows)) × (i + 1 ≤ length rows)
next_one n zero [] row e = none_some row e
next_one n zero (r ∷ rs) row e = (ap (λ a. steps.Next n (Some a) ∷ []) (some_same row (key_value r) e), omega arith)
next_one n (suc i) [] row e = none_some row e
next_one n (suc i) (r ∷ rs) row e = let rest = next_one n i rs row e in
    let same : suc (i + 1) ≡ suc i + 1 = omega arith in
    (ap (λ ts. steps.Next n (Some (key_value r)) ∷ ts) rest.0 ∙ ap (λ k. nexts n (take k (r ∷ rs))) same, omega (arith, rest.1))

drop_more : {A : Type 0} (i : ℕ) (l : List A) → drop (i + 1) l ≡ drop 1 (drop i l)
drop_more zero l = refl
drop_more (suc i) [] = drop-nil (suc i + 1)
drop_more (suc i) (x ∷ l) = let same : suc i + 1 ≡ suc (i + 1) = omega arith in ap (λ k. drop k (x ∷ l)) same ∙ drop_more i l

pub first_none : (n : ℕ) (rows : List RowEntry) → TakesFirst n 0 rows rows []
first_none n rows = (refl, refl, omega arith)

pub first_one : (n i : ℕ) (row : KeyValue) (rows mid left : List RowEntry) (ts us : List TranscriptStep) → TakesFirst n i rows mid ts → TakesNext n (Some row) mid left us → TakesFirst n (i + 1) rows left (ts ++ us)
first_one n i row rows mid left ts us (noted, behind, within) (next, first, later) =
    let one = next_one n i rows row (first ∙ ap first_left behind) in
    ((λ k. noted k ++ next k) ∙ one.0, later ∙ ap (drop 1) behind ∙ sym (drop_more i rows), one.1)

nothing_left : (rows : List RowEntry) → None ≡ first_left rows → rows ≡ []
nothing_left [] e = refl
nothing_left (r ∷ rs) e = none_some (key_value r) (sym e)

-- the end was met where fewer rows were left than were asked for
pub first_ended : (n i count : ℕ) (order : IterationOrder) (rows mid left : List RowEntry) (ts us : List TranscriptStep) → i < count → TakesFirst n i rows mid ts → TakesNext n None mid left us → TakesStep n order (Rows count) rows left (ts ++ us)
first_ended n i count order rows mid left ts us below (noted, behind, within) (next, first, later) = (
  (λ k. noted k ++ next k) ∙ (λ k. nexts n ((take_all i rows few ∙ sym (take_all count rows fewer)) k) ++ (steps.Next n None ∷ []))
      ∙ ap (λ b. nexts n (take count rows) ++ cond b (steps.Next n None ∷ []) []) (sym (lt-ltb (length rows) count (omega (arith, few, below)))),
  later ∙ ap (drop 1) none ∙ sym (drop_all count rows fewer),
)
  where
    none : mid ≡ []
    none = nothing_left mid first

    few : length rows ≤ i
    few = let l : length (drop i rows) ≡ length rows - i = length-drop i rows in
        let z : length (drop i rows) ≡ 0 = ap length (sym behind ∙ none) in
        omega (arith, l, z)

    fewer : length rows ≤ count
    fewer = omega (arith, few, below)

-- and else as many as were asked for
pub first_filled : (n i count : ℕ) (order : IterationOrder) (rows left : List RowEntry) (ts : List TranscriptStep) → i ≡ count → TakesFirst n i rows left ts → TakesStep n order (Rows count) rows left ts
first_filled n i count order rows left ts all (noted, behind, within) = (
  noted ∙ ap (λ k. nexts n (take k rows)) all ∙ sym (append-nil (nexts n (take count rows)))
      ∙ ap (λ b. nexts n (take count rows) ++ cond b (steps.Next n None ∷ []) []) (sym (passed (ltb (length rows) count) refl)),
  behind ∙ ap (λ k. drop k rows) all,
)
  where
    passed : (b : Bool) → ltb (length rows) count ≡ b → ltb (length rows) count ≡ false
    passed true e = let below : length rows < count = ltb-true (length rows) count e in absurd (omega (arith, below, within, all))
    passed false e = e

-- fewer rows than were asked for are all
pub walks_all : (n count : ℕ) (order : IterationOrder) (rows left : List RowEntry) (ts : List TranscriptStep) → length (handed ts) < count → TakesStep n order (Rows count) rows left ts → Walks n order [] rows left ts
walks_all n count order rows left ts few (noted, behind) = by (ltb (length rows) count) refl
  where
    by : (b : Bool) → ltb (length rows) count ≡ b → ts ≡ nexts n rows ++ (steps.Next n None ∷ [])
    by true e =
        let below : length rows < count = ltb-true (length rows) count e in
        noted ∙ (λ k. nexts n (take_all count rows (omega (arith, below)) k) ++ cond (e k) (steps.Next n None ∷ []) [])
    by false e =
        let some : count ≤ length rows = ltb-false (length rows) count e in
        let is : ts ≡ nexts n (take count rows) = noted ∙ (λ k. nexts n (take count rows) ++ cond (e k) (steps.Next n None ∷ []) []) ∙ append-nil (nexts n (take count rows)) in
        let many : length (handed ts) ≡ count = ap (λ us. length (handed us)) is ∙ handed_many n (take count rows) ∙ length-take-le count rows some in
        absurd (omega (arith, many, few))

-- ---- one step more

pub rest_none : (n : ℕ) (order : IterationOrder) (sts : List ScanStep) (rows : List RowEntry) → TakesRest n order sts 0 rows rows []
rest_none n order sts rows = refl

pub rest_one : (n j : ℕ) (order : IterationOrder) (sts : List ScanStep) (d : ScanStep) (rows mid left : List RowEntry) (ts us : List TranscriptStep) → j < length sts → TakesRest n order sts j rows mid ts → TakesStep n order (get_or sts j d) mid left us →
    TakesRest n order sts (j + 1) rows left (ts ++ us)
rest_one n j order sts d rows mid left ts us within rest (noted, behind) =
    append_assoc ts us (steps_walk order n left (drop (j + 1) sts))
    ∙ (λ k. ts ++ (noted k ++ steps_walk order n (behind k) (drop (j + 1) sts)))
    ∙ ap (λ l. ts ++ steps_walk order n mid l) (sym (drop-cons sts j d within ∙ ap (λ k. get_or sts j d ∷ drop k sts) (sym (add-one j))))
    ∙ rest

pub rest_all : (n j : ℕ) (order : IterationOrder) (sts : List ScanStep) (rows left : List RowEntry) (ts : List TranscriptStep) → length sts ≤ j → TakesRest n order sts j rows left ts → ts ≡ steps_walk order n rows sts
rest_all n j order sts rows left ts past rest = sym (append-nil ts) ∙ ap (λ l. ts ++ steps_walk order n left l) (sym (drop_all j sts past)) ∙ rest

pub walks_some : (n : ℕ) (order : IterationOrder) (sts : List ScanStep) (rows left : List RowEntry) (ts : List TranscriptStep) → 0 < length sts → ts ≡ steps_walk order n rows sts → Walks n order sts rows left ts
walks_some n order [] rows left ts some is = absurd (omega (arith, some))
walks_some n order (st ∷ sts) rows left ts some is = is

-- ---- how many scans were opened

pub scans_more : (ts us : List TranscriptStep) → count_by is_scan ts ≤ count_by is_scan (ts ++ us)
scans_more ts us =
    let all : count_by is_scan (ts ++ us) ≡ count_by is_scan ts + count_by is_scan us = sum_by-append (λ (t : TranscriptStep). cond (is_scan t) 1 0) ts us in
    omega (arith, all)

pub one_more : (ts : List TranscriptStep) (order : IterationOrder) (range : BytesRange) → count_by is_scan ts < count_by is_scan (ts ++ (steps.Scan order range ∷ []))
one_more ts order range =
    let all : count_by is_scan (ts ++ (steps.Scan order range ∷ [])) ≡ count_by is_scan ts + 1 = sum_by-append (λ (t : TranscriptStep). cond (is_scan t) 1 0) ts (steps.Scan order range ∷ []) in
    omega (arith, all)

-- ---- how long a list is

pub none_at_all : {A : Type 0} (xs : List A) → (length xs == 0) ≡ true → xs ≡ []
none_at_all xs h = let none : length xs ≡ 0 = grind (arith, nat_tests) in nil_from_length xs none

pub some_at_all : {A : Type 0} (xs : List A) → (length xs == 0) ≡ false → 0 < length xs
some_at_all xs h = grind (arith, nat_tests)
