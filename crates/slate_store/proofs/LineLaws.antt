-- The laws of lines.
use Rattle.std.proofs.Common.{◌≡◌, ◌<◌, ◌++◌, ◌∷◌, [], ℕ, Bool, true, false, not, ◌&&◌, ◌||◌, List, length, ap, sym, ◌∙◌, refl, arith, inl, inr}
use Rattle.std.specs.Prelude.{IsTrue, if◌then◌else◌}
use Rattle.std.specs.List.{list_any, AllByRecursion}
use Rattle.std.proofs.lemmas.List.{append-nil}
use Rattle.std.proofs.lemmas.List.Folds.{list_any-append}
use Rattle.slate_store.specs.Lines.{is_end, prepend_byte, before_lines, lines_of, whole_part, HasNoEnd}
use Rattle.slate_store.specs.Laws.{TakenLineIsFirst, WholeLinesJoin, WholePartsJoin, WholePartIsWhole, PartialLineIsNotWhole, EndMakesWhole, LinesHaveNoEnd}
use Rattle.slate_types.proofs.Plain.{or_second}

-- what a front without ends says of its first byte, and of the others
no_end_first : (a b : Bool) → IsTrue (not a && b) → (a ≡ false) × IsTrue b
no_end_first true b h = absurd (cc)
no_end_first false b h = (refl, h)

lines_end : (line after : List ℕ) → HasNoEnd line → lines_of (line ++ (10 ∷ after)) ≡ line ∷ lines_of after
lines_end [] after h = refl
lines_end (b ∷ bs) after h =
    let parts = no_end_first (is_end b) _ h in
    rw (parts.0, lines_end bs after parts.1) refl

lines_last : (b : ℕ) (bs : List ℕ) → HasNoEnd (b ∷ bs) → lines_of (b ∷ bs) ≡ (b ∷ bs) ∷ []
lines_last b [] h =
    let parts = no_end_first (is_end b) true h in
    rw parts.0 refl
lines_last b (c ∷ bs) h =
    let parts = no_end_first (is_end b) _ h in
    rw (parts.0, lines_last c bs parts.1) refl

lines_whole_last : (line : List ℕ) → HasNoEnd line → 0 < length line → lines_of line ≡ line ∷ []
lines_whole_last [] h some = absurd (omega arith)
lines_whole_last (b ∷ bs) h some = lines_last b bs h

pub taken_line_is_first : TakenLineIsFirst
taken_line_is_first line before after t = elim t.1 [
  | inl e ↦ ap lines_of e ∙ lines_end line after t.0
  | inr e ↦ ap lines_of e.0 ∙ lines_whole_last line t.0 e.1 ∙ sym (ap (λ bs. line ∷ lines_of bs) e.2)
]

no_end_before : (b : ℕ) (e : Bool) (ls : List (List ℕ)) → is_end b ≡ e → AllByRecursion HasNoEnd ls → AllByRecursion HasNoEnd (if e then [] ∷ ls else prepend_byte b ls)
no_end_before b true ls is h = (refl, h)
no_end_before b false [] is h = (rw is refl, tt)
no_end_before b false (l ∷ ls) is h = (rw is h.0, h.1)

pub lines_have_no_end : LinesHaveNoEnd
lines_have_no_end [] = tt
lines_have_no_end (b ∷ bs) = no_end_before b (is_end b) (lines_of bs) refl (lines_have_no_end bs)

-- what a whole list with a first byte says of it
whole_test : (t : Bool) (x : ℕ) (w xs : List ℕ) → (if t then x ∷ w else []) ≡ x ∷ xs → (t ≡ true) × (w ≡ xs)
whole_test true x w xs h = (refl, cc)
whole_test false x w xs h = absurd (cc)

whole_cons : (x : ℕ) (xs : List ℕ) → whole_part (x ∷ xs) ≡ x ∷ xs → (list_any is_end (x ∷ xs) ≡ true) × (whole_part xs ≡ xs)
whole_cons x xs h = whole_test (list_any is_end (x ∷ xs)) x (whole_part xs) xs h

before_some : (x : ℕ) (e : Bool) (ls : List (List ℕ)) → 0 < length (if e then [] ∷ ls else prepend_byte x ls)
before_some x true ls = omega arith
before_some x false [] = omega arith
before_some x false (l ∷ ls) = omega arith

lines_some : (xs : List ℕ) → list_any is_end xs ≡ true → 0 < length (lines_of xs)
lines_some [] h = absurd (cc)
lines_some (x ∷ xs) h = before_some x (is_end x) (lines_of xs)

before_append : (x : ℕ) (e : Bool) (ls ms : List (List ℕ)) → (e ≡ false → 0 < length ls) →
    (if e then [] ∷ (ls ++ ms) else prepend_byte x (ls ++ ms)) ≡ (if e then [] ∷ ls else prepend_byte x ls) ++ ms
before_append x true ls ms h = refl
before_append x false [] ms h = absurd (omega (arith, h refl))
before_append x false (l ∷ ls) ms h = refl

pub whole_lines_join : WholeLinesJoin
whole_lines_join [] b h = refl
whole_lines_join (x ∷ xs) b h =
    let parts = whole_cons x xs h in
    ap (before_lines x) (whole_lines_join xs b parts.1)
    ∙ before_append x (is_end x) (lines_of xs) (lines_of b) (λ e. lines_some xs (or_second (is_end x) (list_any is_end xs) parts.0 e))

neither : (a b : Bool) → a ≡ false → b ≡ false → (a || b) ≡ false
neither a b h k = rw (h, k) refl

none_any : (bs : List ℕ) → HasNoEnd bs → list_any is_end bs ≡ false
none_any [] h = refl
none_any (b ∷ bs) h =
    let parts = no_end_first (is_end b) _ h in
    neither (is_end b) (list_any is_end bs) parts.0 (none_any bs parts.1)

none_whole : (bs : List ℕ) → HasNoEnd bs → whole_part bs ≡ []
none_whole [] h = refl
none_whole (b ∷ bs) h = rw (none_any (b ∷ bs) h) refl

wider : (a b c : Bool) → (a || b) ≡ true → (a || (b || c)) ≡ true
wider true b c h = refl
wider false true c h = refl
wider false false c h = absurd (cc)

pub whole_parts_join : WholePartsJoin
whole_parts_join [] b w = refl
whole_parts_join (x ∷ xs) b w =
    let parts = whole_cons x xs w in
    let some : list_any is_end (x ∷ (xs ++ b)) ≡ true = rw (list_any-append is_end xs b) (wider (is_end x) (list_any is_end xs) (list_any is_end b) parts.0) in
    rw (some, whole_parts_join xs b parts.1) refl

pub partial_line_is_not_whole : PartialLineIsNotWhole
partial_line_is_not_whole a b h w = whole_parts_join a b w ∙ ap (λ ys. a ++ ys) (none_whole b h) ∙ append-nil a

any_kept : (x : ℕ) (e t : Bool) (w : List ℕ) → (e || t) ≡ true → (t ≡ true → list_any is_end w ≡ true) → is_end x ≡ e → list_any is_end (x ∷ w) ≡ true
any_kept x true t w h k is = rw is refl
any_kept x false t w h k is = rw is (k h)

any_whole : (a : List ℕ) → list_any is_end a ≡ true → list_any is_end (whole_part a) ≡ true
any_whole [] h = h
any_whole (x ∷ xs) h = rw h (any_kept x (is_end x) (list_any is_end xs) (whole_part xs) h (any_whole xs) refl)

whole_step : (x : ℕ) (xs : List ℕ) (t : Bool) → list_any is_end (x ∷ xs) ≡ t → whole_part (whole_part xs) ≡ whole_part xs →
    whole_part (if t then x ∷ whole_part xs else []) ≡ (if t then x ∷ whole_part xs else [])
whole_step x xs true is h =
    let some : list_any is_end (x ∷ whole_part xs) ≡ true = any_kept x (is_end x) (list_any is_end xs) (whole_part xs) is (any_whole xs) refl in
    rw (some, h) refl
whole_step x xs false is h = refl

pub whole_part_is_whole : WholePartIsWhole
whole_part_is_whole [] = refl
whole_part_is_whole (x ∷ xs) = whole_step x xs (list_any is_end (x ∷ xs)) refl (whole_part_is_whole xs)

or_true : (a b : Bool) → b ≡ true → (a || b) ≡ true
or_true true b h = refl
or_true false b h = h

any_end : (a : List ℕ) → list_any is_end (a ++ (10 ∷ [])) ≡ true
any_end [] = refl
any_end (x ∷ xs) = or_true (is_end x) _ (any_end xs)

pub end_makes_whole : EndMakesWhole
end_makes_whole [] = refl
end_makes_whole (x ∷ xs) = rw (any_end (x ∷ xs), end_makes_whole xs) refl
