-- A line is split at its spaces, one after the other.
use Rattle.std.proofs.Common.{◌≡◌, ℕ, suc, ◌+◌, ◌-◌, ◌<◌, Bool, true, false, cond, not, ◌==◌, List, [], ◌∷◌, ◌++◌, Option, Some, None, MatchOption, length, take, drop, refl, sym, ap, ◌∙◌, arith, append_assoc}
use Rattle.std.specs.Prelude.{slice_range}
use Rattle.std.specs.List.{onto_first}
use Rattle.std.proofs.lemmas.List.{drop-drop, length-drop}
use Rattle.std.proofs.lemmas.List.Sums.{position_or_len_is}
use Rattle.memchr.specs.Find.{IsFirstByte, is_byte}
use Rattle.slate_types.proofs.Lists.{take_behind}
use Rattle.slate_language.specs.Parse.{tokens_of}
use Rattle.slate_language.specs.Built.{until_space}
use Rattle.slate_language.proofs.BuiltLaws.{split_by_is, tokens_some}

-- a byte before others is a space, or the first of their first token
byte_before : (b : ℕ) (bs : List ℕ) (c : Bool) → (b == 32) ≡ c → tokens_of (b ∷ bs) ≡ cond c ([] ∷ tokens_of bs) (onto_first b (tokens_of bs))
byte_before b bs c is = sym (split_by_is b (tokens_of bs) (tokens_some bs)) ∙ ap (λ t. cond t ([] ∷ tokens_of bs) (onto_first b (tokens_of bs))) is

never : (b : Bool) → ¬ (b ≡ true) → b ≡ false
never true h = absurd (h refl)
never false h = refl

until_here : (b : ℕ) (bs : List ℕ) → (b == 32) ≡ true → until_space (b ∷ bs) ≡ 0
until_here b bs is = ap (λ c. cond (not c) (1 + until_space bs) 0) is

until_later : (b : ℕ) (bs : List ℕ) → (b == 32) ≡ false → until_space (b ∷ bs) ≡ suc (until_space bs)
until_later b bs is =
    let more : 1 + until_space bs ≡ suc (until_space bs) = omega arith in
    ap (λ c. cond (not c) (1 + until_space bs) 0) is ∙ more

-- what a search for a space finds
pub first_space : (bs : List ℕ) (r : Option ℕ) → IsFirstByte (is_byte 32) bs r → MatchOption r (until_space bs ≡ length bs) (λ k. until_space bs ≡ k)
first_space bs None h = position_or_len_is (λ b. b == 32) bs (length bs) 0 (omega arith) (λ k below. never _ (h k (omega arith) below)) (λ below. absurd (omega arith))
first_space bs (Some k) h = position_or_len_is (λ b. b == 32) bs k 0 (omega (arith, h.0.high)) (λ j below. never _ (h.0.before j (omega arith) below)) (λ below. h.1)

-- ---- the first token, and those behind it

first_of : (bs : List ℕ) → until_space bs < length bs → tokens_of bs ≡ take (until_space bs) bs ∷ tokens_of (drop (suc (until_space bs)) bs)
first_of [] some = absurd (omega (arith, some))
first_of (b ∷ bs) some = by (b == 32) refl (first_of bs)
  where
    by : (c : Bool) → (b == 32) ≡ c → (until_space bs < length bs → tokens_of bs ≡ take (until_space bs) bs ∷ tokens_of (drop (suc (until_space bs)) bs)) →
        tokens_of (b ∷ bs) ≡ take (until_space (b ∷ bs)) (b ∷ bs) ∷ tokens_of (drop (suc (until_space (b ∷ bs))) (b ∷ bs))
    by true is later = byte_before b bs true is ∙ ap (λ n. take n (b ∷ bs) ∷ tokens_of (drop (suc n) (b ∷ bs))) (sym (until_here b bs is))
    by false is later =
        let count = until_later b bs is in
        byte_before b bs false is ∙ ap (onto_first b) (later (omega (arith, some, count))) ∙ ap (λ n. take n (b ∷ bs) ∷ tokens_of (drop (suc n) (b ∷ bs))) (sym count)

only_one : (bs : List ℕ) → until_space bs ≡ length bs → tokens_of bs ≡ bs ∷ []
only_one [] all = refl
only_one (b ∷ bs) all = by (b == 32) refl (only_one bs)
  where
    by : (c : Bool) → (b == 32) ≡ c → (until_space bs ≡ length bs → tokens_of bs ≡ bs ∷ []) → tokens_of (b ∷ bs) ≡ (b ∷ bs) ∷ []
    by true is later = let count = until_here b bs is in absurd (omega (arith, all, count))
    by false is later =
        let count = until_later b bs is in
        byte_before b bs false is ∙ ap (onto_first b) (later (omega (arith, all, count)))

-- ---- a turn of the loop over tokens

-- what is counted behind a place of the line's bytes
pub count_behind : (line bytes : List ℕ) (start n : ℕ) → bytes ≡ line → n ≡ until_space (take (length bytes - start) (drop start bytes)) → n ≡ until_space (drop start line)
count_behind line bytes start n same count = count ∙ ap until_space (take_behind bytes start ∙ ap (drop start) same)

pub token_taken : (line : List ℕ) (start n : ℕ) (held : List (List ℕ)) → start + n < length line → n ≡ until_space (drop start line) → held ++ tokens_of (drop start line) ≡ tokens_of line →
    (held ++ (slice_range line start (start + n) ∷ [])) ++ tokens_of (drop (start + n + 1) line) ≡ tokens_of line
token_taken line start n held within count kept =
    let behind = drop start line in
    let some : until_space behind < length behind = omega (arith, within, sym count, length-drop start line) in
    let size : start + n - start ≡ until_space behind = omega (arith, count) in
    let place : start + n + 1 ≡ start + suc (until_space behind) = omega (arith, count) in
    append_assoc held (slice_range line start (start + n) ∷ []) (tokens_of (drop (start + n + 1) line))
    ∙ (λ i. held ++ (take (size i) behind ∷ tokens_of (drop (place i) line)))
    ∙ ap (λ bs. held ++ (take (until_space behind) behind ∷ tokens_of bs)) (sym (drop-drop (suc (until_space behind)) start line))
    ∙ ap (λ ts. held ++ ts) (sym (first_of behind some)) ∙ kept

pub last_taken : (line : List ℕ) (start n : ℕ) (held : List (List ℕ)) → start + n ≡ length line → n ≡ until_space (drop start line) → held ++ tokens_of (drop start line) ≡ tokens_of line →
    held ++ (slice_range line start (start + n) ∷ []) ≡ tokens_of line
last_taken line start n held all count kept =
    let behind = drop start line in
    let whole : until_space behind ≡ length behind = omega (arith, all, sym count, length-drop start line) in
    let size : start + n - start ≡ length line - start = omega (arith, all) in
    ap (λ k. held ++ (take k behind ∷ [])) size ∙ ap (λ t. held ++ (t ∷ [])) (take_behind line start) ∙ ap (λ ts. held ++ ts) (sym (only_one behind whole)) ∙ kept
