-- Names pass their tests exactly where they are valid.
--     says_text      a call that tests for text says whether bytes are
--     names_valid      names that are few are valid exactly where the test of each and of no two alike says so
use Rattle.std.proofs.Common.{◌≡◌, ◌<◌, ◌≤◌, ◌^◌, ℕ, Bool, true, false, ◌&&◌, not, List, [], ◌∷◌, length, map, Ok, Err, refl, sym, ◌∙◌, arith, lt-ltb, ltb-true}
use Rattle.std.specs.Prelude.{◌↔◌, nat_lt, Result, is_ok, MatchResult, IsUtf8}
use Rattle.std.specs.Str.{is_utf8}
use Rattle.std.specs.List.{AllByRecursion}
use Rattle.std.proofs.lemmas.Bool.{and_from, false≢true}
use Rattle.std.proofs.lemmas.List.{length-map}
use Rattle.std.proofs.lemmas.Str.{is_utf8-from_IsUtf8, IsUtf8-from_is_utf8}
use Rattle.slate_types.specs.Keys.{among}
use Rattle.slate_filter.specs.Laws.{AreDistinct, AreValidNames}
use Rattle.slate_filter.specs.Names.{are_apart}

both_true : (a b : Bool) → (a && b) ≡ true → (a ≡ true) × (b ≡ true)
both_true true b e = (refl, e)
both_true false b e = absurd (false≢true e)

not_among : (b : Bool) → not b ≡ true → b ≡ false
not_among true e = absurd (false≢true e)
not_among false e = refl

is_not : (b : Bool) → b ≡ false → not b ≡ true
is_not true e = sym e
is_not false e = refl

names_short : (ns : List (List ℕ)) → are_apart ns ≡ true → AllByRecursion (λ n. length n < 2 ^ 16) ns
names_short [] e = tt
names_short (n ∷ ns) e =
    let parts = both_true (nat_lt (length n) (2 ^ 16) && not (among n ns)) (are_apart ns) e in
    let first = both_true (nat_lt (length n) (2 ^ 16)) (not (among n ns)) parts.0 in
    (ltb-true (length n) (2 ^ 16) first.0, names_short ns parts.1)

names_distinct : (ns : List (List ℕ)) → are_apart ns ≡ true → AreDistinct ns
names_distinct [] e = tt
names_distinct (n ∷ ns) e =
    let parts = both_true (nat_lt (length n) (2 ^ 16) && not (among n ns)) (are_apart ns) e in
    let first = both_true (nat_lt (length n) (2 ^ 16)) (not (among n ns)) parts.0 in
    (not_among (among n ns) first.1, names_distinct ns parts.1)

names_apart : (ns : List (List ℕ)) → AllByRecursion (λ n. length n < 2 ^ 16) ns → AreDistinct ns → are_apart ns ≡ true
names_apart [] short distinct = refl
names_apart (n ∷ ns) short distinct =
    and_from _ _ (and_from _ _ (lt-ltb (length n) (2 ^ 16) short.0) (is_not (among n ns) distinct.0)) (names_apart ns short.1 distinct.1)

pub names_valid : {B : Type 0} (xs : List B) (name : B → List ℕ) (b : Bool) → b ≡ are_apart (map name xs) → length xs < 2 ^ 16 → (b ≡ true) ↔ AreValidNames (map name xs)
names_valid xs name b is few = (
  λ valid. record { few = omega (arith, few, length-map xs name); short = names_short (map name xs) (sym is ∙ valid); distinct = names_distinct (map name xs) (sym is ∙ valid) },
  λ valid. is ∙ names_apart (map name xs) valid.short valid.distinct,
)

-- ---- text

-- a call that tests for text says whether bytes are
pub says_text : {A E : Type 0} (P : A → Type 0) (Q : E → Type 0) (r : Result A E) (bytes : List ℕ) → MatchResult r (λ s. P s × IsUtf8 bytes) (λ e. (IsUtf8 bytes → ⊥) × Q e) → is_ok r ≡ is_utf8 bytes
says_text P Q (Ok s) bytes h = sym (is_utf8-from_IsUtf8 bytes h.1)
says_text P Q (Err e) bytes h = by (is_utf8 bytes) refl
  where
    by : (t : Bool) → is_utf8 bytes ≡ t → false ≡ t
    by true is = absurd (h.0 (IsUtf8-from_is_utf8 bytes is))
    by false is = refl
