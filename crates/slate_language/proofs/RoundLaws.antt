-- What a run makes for itself is a well-formed script.
--     IsFormed bytes      whole lines, each of which is silent or in the grammar
use Rattle.std.proofs.Common.{◌≡◌, ℕ, zero, suc, ◌+◌, ◌*◌, ◌/◌, ◌%◌, ◌^◌, ◌<◌, ◌≤◌, Bool, true, false, not, ◌&&◌, ◌⊎◌, inl, inr, List, [], ◌∷◌, ◌++◌, length, codes, decimal, IsTrue, refl, sym, ap, subst, ◌∙◌, arith, append_assoc}
use Rattle.std.specs.Prelude.{if◌then◌else◌, ◌==◌}
use Rattle.std.specs.List.{list_all, join_with_byte, AllByRecursion}
use Rattle.std.proofs.Math.Nat.{mod-lt}
use Rattle.std.proofs.lemmas.Bool.{le-leb, ne_eqb}
use Rattle.std.proofs.lemmas.Fmt.{decimal_by_steps, length-decimal-le}
use Rattle.std.proofs.lemmas.List.{length-append}
use Rattle.std.proofs.lemmas.List.Folds.{list_all-append}
use Rattle.slate_types.specs.declared.config.IsolationLevel.TheVariants as levels
use Rattle.slate_types.specs.declared.config.Ttl.TheVariants.{Default}
use Rattle.slate_store.specs.Lines.{is_end, lines_of, whole_part, HasNoEnd}
use Rattle.slate_store.proofs.LineLaws.{taken_line_is_first, whole_lines_join, whole_parts_join, end_makes_whole}
use Rattle.slate_txn.specs.declared.line.Line.{Line}
use Rattle.slate_txn.specs.declared.line.Line.TheVariants as lines
use Rattle.slate_language.specs.Text.{is_visible}
use Rattle.slate_language.specs.Grammar.{IsLine}
use Rattle.slate_language.specs.Replies.{is_silent, IsWellFormed}
use Rattle.slate_language.specs.Generate.{drawn, ended, generate, key_number, round, rounds}
use Rattle.slate_language.specs.Words.{max_rounds}
use Rattle.slate_types.proofs.Plain.{and_both}

-- ---- digits

abbrev AreDigits : List ℕ → Type 0
AreDigits ds = (list_all is_visible ds ≡ true) × HasNoEnd ds

one_digit : (d : ℕ) → d < 10 → AreDigits ((48 + d) ∷ [])
one_digit d h = (
  and_both (is_visible (48 + d)) true (and_both _ _ (le-leb 33 (48 + d) (omega arith)) (le-leb (48 + d) 126 (omega arith))) refl,
  and_both (not (is_end (48 + d))) true (ap not (ne_eqb (48 + d) 10 (λ same. omega (arith, same, h)))) refl,
)

both_digits : (ds es : List ℕ) → AreDigits ds → AreDigits es → AreDigits (ds ++ es)
both_digits ds es h k =
    (list_all-append is_visible ds es ∙ and_both _ _ h.0 k.0, list_all-append (λ b. not (is_end b)) ds es ∙ and_both _ _ h.1 k.1)

digits_of : (n : ℕ) → n < 2 ^ 64 → AreDigits (decimal n)
digits_of n h = decimal_by_steps (λ m ds. AreDigits ds) one_digit (λ m ds some is. both_digits ds ((48 + m % 10) ∷ []) is (one_digit (m % 10) (mod-lt m (omega arith)))) n h

key_below : (x : ℕ) → x / 2 ^ 33 % 1000 < 2 ^ 64
key_below x = let less : x / 2 ^ 33 % 1000 < 1000 = mod-lt (x / 2 ^ 33) (omega arith) in omega (arith, less)

-- ---- lines

abbrev AreFormed : List (List ℕ) → Type 0
AreFormed ls = AllByRecursion (λ l. IsTrue (is_silent l) ⊎ ((line : Line) × IsLine l line)) ls

record IsFormed (bytes : List ℕ) : Type 0 where
  pub whole : whole_part bytes ≡ bytes
  pub lines : AreFormed (lines_of bytes)

formed_both : (ls more : List (List ℕ)) → AreFormed ls → AreFormed more → AreFormed (ls ++ more)
formed_both [] more h k = k
formed_both (l ∷ ls) more h k = (h.0, formed_both ls more h.1 k)

formed_append : (a b : List ℕ) → IsFormed a → IsFormed b → IsFormed (a ++ b)
formed_append a b h k = record {
  whole = whole_parts_join a b h.whole ∙ ap (λ c. a ++ c) k.whole;
  lines = subst AreFormed (sym (whole_lines_join a b h.whole)) (formed_both (lines_of a) (lines_of b) h.lines k.lines);
}

formed_none : IsFormed []
formed_none = record { whole = refl; lines = tt }

formed_line : (l : List ℕ) (line : Line) → HasNoEnd l → IsLine l line → IsFormed (ended l)
formed_line l line none is = record {
  whole = end_makes_whole l;
  lines = subst AreFormed (sym (taken_line_is_first l (ended l) [] (none, inl refl))) (inr (line, is), tt);
}

-- ---- the lines of a round

formed_begin : IsFormed (ended (codes "begin t ssi"))
formed_begin = formed_line (codes "begin t ssi") (lines.Begin (codes "t") levels.SerializableSnapshot) refl
    (codes "begin" ∷ codes "t" ∷ codes "ssi" ∷ [], ((omega arith, omega arith, refl), refl), refl)

formed_get : (x : ℕ) → IsFormed (ended (codes "get t 'k" ++ key_number x))
formed_get x =
    let key = digits_of (x / 2 ^ 33 % 1000) (key_below x) in
    formed_line (codes "get t 'k" ++ key_number x) (lines.Get (codes "t") (107 ∷ key_number x)) key.1
    (codes "get" ∷ codes "t" ∷ (39 ∷ 107 ∷ key_number x) ∷ [], (39 ∷ 107 ∷ key_number x, (omega arith, omega arith, refl), inl (key.0, refl), refl), refl)

put_ends : (k v : List ℕ) → HasNoEnd k → HasNoEnd v → HasNoEnd (codes "put t 'k" ++ k ++ codes " 'v" ++ v)
put_ends k v h j =
    list_all-append (λ b. not (is_end b)) (k ++ codes " 'v") v
    ∙ and_both _ _ (list_all-append (λ b. not (is_end b)) k (codes " 'v") ∙ and_both _ _ h refl) j

put_joined : (k v : List ℕ) → codes "put t 'k" ++ k ++ codes " 'v" ++ v ≡ join_with_byte 32 (codes "put" ∷ codes "t" ∷ (39 ∷ 107 ∷ k) ∷ (39 ∷ 118 ∷ v) ∷ [])
put_joined k v = ap (λ bs. codes "put t 'k" ++ bs) (append_assoc k (codes " 'v") v)

formed_put : (x i : ℕ) → i < 2 ^ 64 → IsFormed (ended (codes "put t 'k" ++ key_number x ++ codes " 'v" ++ decimal i))
formed_put x i h =
    let key = digits_of (x / 2 ^ 33 % 1000) (key_below x) in
    let value = digits_of i h in
    formed_line (codes "put t 'k" ++ key_number x ++ codes " 'v" ++ decimal i) (lines.Put (codes "t") (107 ∷ key_number x) (118 ∷ decimal i) Default)
    (put_ends (key_number x) (decimal i) key.1 value.1) (
      codes "put" ∷ codes "t" ∷ (39 ∷ 107 ∷ key_number x) ∷ (39 ∷ 118 ∷ decimal i) ∷ [],
      ((39 ∷ 107 ∷ key_number x) ∷ (39 ∷ 118 ∷ decimal i) ∷ [], (omega arith, omega arith, refl), (39 ∷ 107 ∷ key_number x, 39 ∷ 118 ∷ decimal i, [], inl (key.0, refl), inl (value.0, refl), refl, refl), refl),
      put_joined (key_number x) (decimal i),
    )

formed_commit : IsFormed (ended (codes "commit t"))
formed_commit = formed_line (codes "commit t") (lines.Commit (codes "t")) refl (codes "commit" ∷ codes "t" ∷ [], ((omega arith, omega arith, refl), refl), refl)

formed_flush : IsFormed (ended (codes "flush"))
formed_flush = formed_line (codes "flush") lines.Flush refl (codes "flush" ∷ [], refl, refl)

formed_if : (t : Bool) → IsFormed (if t then ended (codes "flush") else [])
formed_if true = formed_flush
formed_if false = formed_none

formed_round : (i x y : ℕ) → i < 2 ^ 64 → IsFormed (round i x y)
formed_round i x y h =
    formed_append _ _ (formed_append _ _ (formed_append _ _ (formed_append _ _ formed_begin (formed_get x)) (formed_put y i h)) formed_commit) (formed_if (i % 64 == 0))

formed_rounds : (i n x : ℕ) → i + n < 2 ^ 64 → IsFormed (rounds i n x)
formed_rounds i zero x h = formed_none
formed_rounds i (suc n) x h = formed_append _ _ (formed_round i (drawn x) (drawn (drawn x)) (omega (arith, h))) (formed_rounds (i + 1) n (drawn (drawn x)) (omega (arith, h)))

-- ---- how long it is

flush_length : (t : Bool) → length (if t then ended (codes "flush") else []) ≤ 6
flush_length true = omega arith
flush_length false = omega arith

ended_length : (l : List ℕ) → length (ended l) ≡ length l + 1
ended_length l = length-append l (10 ∷ [])

key_length : (x : ℕ) → length (key_number x) ≤ 20
key_length x = length-decimal-le 20 (x / 2 ^ 33 % 1000) (omega arith) (let less : x / 2 ^ 33 % 1000 < 1000 = mod-lt (x / 2 ^ 33) (omega arith) in omega (arith, less)) (key_below x)

get_length : (k : List ℕ) → length k ≤ 20 → length (ended (codes "get t 'k" ++ k)) ≤ 30
get_length k h = omega (arith, ended_length (codes "get t 'k" ++ k), h)

put_length : (k v : List ℕ) → length k ≤ 20 → length v ≤ 20 → length (ended (codes "put t 'k" ++ k ++ codes " 'v" ++ v)) ≤ 60
put_length k v h j =
    omega (arith, ended_length (codes "put t 'k" ++ k ++ codes " 'v" ++ v), length-append (codes "put t 'k" ++ k ++ codes " 'v") v, length-append (codes "put t 'k" ++ k) (codes " 'v"), h, j)

lines_length : (get put last : List ℕ) → length get ≤ 30 → length put ≤ 60 → length last ≤ 6 → length (ended (codes "begin t ssi") ++ get ++ put ++ ended (codes "commit t") ++ last) ≤ 120
lines_length get put last h j k =
    let begin = ended (codes "begin t ssi") in
    omega (arith, length-append (begin ++ get ++ put ++ ended (codes "commit t")) last, length-append (begin ++ get ++ put) (ended (codes "commit t")), length-append (begin ++ get) put, length-append begin get, h, j, k)

round_length : (i x y : ℕ) → i < 2 ^ 64 → length (round i x y) ≤ 120
round_length i x y h =
    lines_length (ended (codes "get t 'k" ++ key_number x)) (ended (codes "put t 'k" ++ key_number y ++ codes " 'v" ++ decimal i)) (if i % 64 == 0 then ended (codes "flush") else [])
    (get_length (key_number x) (key_length x)) (put_length (key_number y) (decimal i) (key_length y) (length-decimal-le 20 i (omega arith) (omega (arith, h)) h)) (flush_length (i % 64 == 0))

rounds_length : (i n x : ℕ) → i + n < 2 ^ 64 → length (rounds i n x) ≤ 120 * n
rounds_length i zero x h = omega arith
rounds_length i (suc n) x h =
    omega (arith, length-append (round i (drawn x) (drawn (drawn x))) (rounds (i + 1) n (drawn (drawn x))), round_length i (drawn x) (drawn (drawn x)) (omega (arith, h)), rounds_length (i + 1) n (drawn (drawn x)) (omega (arith, h)))

-- A script that a run makes for itself is well formed.
pub generated_formed : (n s : ℕ) → n ≤ max_rounds → IsWellFormed (generate n s)
generated_formed n s h = (
  omega (arith, length-append (rounds 1 n s) (ended (codes "flush")), rounds_length 1 n s (omega arith)),
  (formed_append (rounds 1 n s) (ended (codes "flush")) (formed_rounds 1 n s (omega arith)) formed_flush).lines,
)
