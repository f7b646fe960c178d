-- Rows that are written one by one.
use Rattle.std.proofs.Common.{◌≡◌, ◌⊎◌, inl, inr, ℕ, ◌+◌, ◌-◌, ◌^◌, ◌≤◌, min, max, Bool, true, false, not, ◌&&◌, cond, List, [], ◌∷◌, ◌++◌, flat_map, length, Option, Some, None, refl, sym, ap, subst, ◌∙◌, arith, append-nil, append_assoc}
use Rattle.std.specs.Prelude.{count_by, IfErr, OnOk, Result, Ok, Err}
use Rattle.std.specs.List.{AllByRecursion}
use Rattle.std.proofs.lemmas.List.{length-append}
use Rattle.std.proofs.lemmas.List.Concat.{flat_map-append}
use Rattle.std.proofs.lemmas.List.Sums.{sum_by-append, sum_by-cons}
use Rattle.std.proofs.lemmas.Bool.Decides.{nat_tests}
use Rattle.slate_types.specs.declared.error.SlateDBError.{SlateDBError}
use Rattle.slate_types.specs.declared.error.SlateDBError.TheVariants as errors
use Rattle.slate_types.specs.declared.types.RowEntry.{RowEntry}
use Rattle.slate_types.specs.Faults.{Rose}
use Rattle.slate_types.specs.Outside.{Act, Meaning, Reach}
use Rattle.slate_types.specs.Refusing.{IsDamage}
use Rattle.slate_types.specs.World.{World}
use Rattle.slate_types.proofs.Lists.{AllByRecursion_push}
use Rattle.slate_types.proofs.Walked.{Walked}
use Rattle.slate_tables.specs.declared.export.Form.{Form}
use Rattle.slate_tables.specs.declared.export.Form.TheVariants as forms
use Rattle.slate_tables.specs.declared.export.Written.{Written}
use Rattle.slate_tables.specs.LoadText.{capped, count_moved, ends_before_made, greatest_of}
use Rattle.slate_tables.specs.Writing.{IsRefusedRow, IsRefusedText, IsUnwritten, Passes, WritesRows, counted_row, form_text, tally}

-- ---- counts

count_last : (p : RowEntry → Bool) (rows : List RowEntry) (r : RowEntry) → count_by p (rows ++ (r ∷ [])) ≡ count_by p rows + cond (p r) 1 0
count_last p rows r =
    let whole = sum_by-append (λ (x : RowEntry). cond (p x) 1 0) rows (r ∷ []) in
    let one = sum_by-cons (λ (x : RowEntry). cond (p x) 1 0) r [] in
    let none : count_by p [] ≡ 0 = refl in
    omega (arith, whole, one, none)

greatest_last : (rows : List RowEntry) (r : RowEntry) → greatest_of (rows ++ (r ∷ [])) ≡ max (greatest_of rows) r.seq
greatest_last [] r = omega arith
greatest_last (x ∷ rows) r = ap (max x.seq) (greatest_last rows r) ∙ omega arith

capped_more : (n : ℕ) → capped (n + 1) ≡ capped (capped n + 1)
capped_more n = omega arith

capped_max : (n m : ℕ) → m ≤ 2 ^ 64 - 1 → capped (max n m) ≡ max (capped n) m
capped_max n m h = omega (arith, h)

pub tally_last : (rows : List RowEntry) (r : RowEntry) → r.seq ≤ 2 ^ 64 - 1 → counted_row (tally rows) r ≡ tally (rows ++ (r ∷ []))
tally_last rows r small = λ i. record {
  rows = (sym (capped_more (length rows)) ∙ ap capped (sym (length-append rows (r ∷ [])))) i;
  moved = by (ends_before_made r) refl i;
  greatest_seq = (sym (capped_max (greatest_of rows) r.seq small) ∙ ap capped (sym (greatest_last rows r))) i;
}
  where
    by : (b : Bool) → ends_before_made r ≡ b → cond b (capped (capped (count_moved rows) + 1)) (capped (count_moved rows)) ≡ capped (count_moved (rows ++ (r ∷ [])))
    by true e = sym (capped_more (count_moved rows)) ∙ ap capped (sym (count_last ends_before_made rows r ∙ ap (λ t. count_moved rows + cond t 1 0) e))
    by false e = ap capped (sym (count_last ends_before_made rows r ∙ ap (λ t. count_moved rows + cond t 1 0) e ∙ omega arith))

-- ---- an operand has an operator

pub has_it : (o h : Bool) → (o && not h) ≡ false → o ≡ true → h ≡ true
has_it true true none is = refl
has_it true false none is = cc
has_it false h none is = cc

-- ---- one row

pub on_ok : {A E : Type 0} (r : Result A E) (P : Type 0) → P → OnOk r P
on_ok (Ok x) P p = p
on_ok (Err e) P p = tt

pub wrote_cause : {A : Type 0} (form : Form) (i j : ℕ) (r : Result A SlateDBError) → IfErr r (λ e. (e ≡ errors.WriteFault) × Rose i j) → IfErr r (IsUnwritten form i j)
wrote_cause form i j (Ok x) h = tt
wrote_cause form i j (Err e) h = inl h

row_undamaged : (has : Bool) (r : RowEntry) (e : SlateDBError) → IsRefusedRow has r e → ¬ IsDamage e
row_undamaged has r errors.EmptyKey h = λ d. d
row_undamaged has r (errors.KeyTooLong n) h = λ d. d
row_undamaged has r (errors.ValueTooLong n) h = λ d. d
row_undamaged has r errors.MergeOperatorMissing h = λ d. d
row_undamaged has r _ h = absurd h

text_undamaged : (form : Form) (has : Bool) (r : RowEntry) (e : SlateDBError) → IsRefusedText form has r e → ¬ IsDamage e
text_undamaged forms.State has r e h = λ d. subst IsDamage h d
text_undamaged forms.Script has r e (inl h) = λ d. subst IsDamage h d
text_undamaged forms.Script has r e (inr h) = row_undamaged has r e h

pub unwritten_undamaged : (form : Form) (i j : ℕ) (e : SlateDBError) → IsUnwritten form i j e → ¬ IsDamage e
unwritten_undamaged form i j e (inl h) = λ d. subst IsDamage h.0 d
unwritten_undamaged form i j e (inr h) = text_undamaged form h.0 h.1 e h.2

-- ---- some rows were written

module _ {A : Type 0} (rest : A → World → List RowEntry) (sound : A → World → Type 0) (refuses : A → Meaning → List Act → Option (List ℕ) → SlateDBError → Type 0) (takes : A → Meaning → List Act → Option RowEntry → A → Type 0) (form : Form) (has : Bool) where
  pub record SoFar (a b : Reach) (x y : A) (t : Written) (before after : Option (List ℕ)) : Type 0 where
    pub taken : List RowEntry
    pub walked : Walked rest sound refuses takes a b x y taken
    pub passed : AllByRecursion (Passes form has) taken
    pub counts : t ≡ tally taken
    pub wrote : (front : List ℕ) → before ≡ Some front → after ≡ Some (front ++ flat_map (form_text form) taken)

  pub one_more : (a b c : Reach) (x y z : A) (t : Written) (before after next : Option (List ℕ)) (row : RowEntry) (text : List ℕ) (so_far : SoFar a b x y t before after) → Walked rest sound refuses takes a c x z (so_far.taken ++ (row ∷ [])) →
      row.seq ≤ 2 ^ 64 - 1 → Passes form has row → text ≡ form_text form row → ((front : List ℕ) → after ≡ Some front → next ≡ Some (front ++ text)) → SoFar a c x z (counted_row t row) before next
  one_more a b c x y z t before after next row text s went small passes is wrote = record {
    taken = s.taken ++ (row ∷ []);
    walked = went;
    passed = AllByRecursion_push (Passes form has) s.taken row s.passed passes;
    counts = ap (λ (u : Written). counted_row u row) s.counts ∙ tally_last s.taken row small;
    wrote = λ front is_front.
        wrote (front ++ flat_map (form_text form) s.taken) (s.wrote front is_front)
        ∙ ap Some (append_assoc front (flat_map (form_text form) s.taken) text
        ∙ ap (λ (l : List ℕ). front ++ l) (ap (λ (l : List ℕ). flat_map (form_text form) s.taken ++ l) (is ∙ sym (append-nil (form_text form row))) ∙ sym (flat_map-append (form_text form) s.taken (row ∷ []))));
  }

  pub all_written : (a b : Reach) (x y : A) (t : Written) (before : List ℕ) (start after : Option (List ℕ)) (rows : List RowEntry) (s : SoFar a b x y t start after) → start ≡ Some before → s.taken ≡ rows → WritesRows form has rows before after t
  all_written a b x y t before start after rows s is whole =
      subst (λ (l : List RowEntry). WritesRows form has l before after t) whole (record { passed = s.passed; text = s.wrote before is; counts = s.counts })
