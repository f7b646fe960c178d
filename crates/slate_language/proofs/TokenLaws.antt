-- Single tokens of digits: pairs of hex digits, numbers and moments.
use Rattle.std.proofs.Common.{◌≡◌, ◌≢◌, ℕ, zero, suc, ◌+◌, ◌*◌, ◌%◌, ◌^◌, ◌<◌, ◌≤◌, Bool, true, false, cond, not, ◌&&◌, ◌==◌, ◌⊎◌, inl, inr, List, [], ◌∷◌, length, get_or, Option, Some, None, Result, Ok, Err, ℤ, pos, negsuc, neg_ℤ, codes, decimal, bytes_eq, refl, sym, ap, subst, ◌∙◌, arith, ltb, leb}
use Rattle.std.specs.List.{list_all}
use Rattle.std.specs.Fmt.{signed_decimal}
use Rattle.std.specs.Result.{result_ok, OkIff}
use Rattle.std.specs.Str.{IsUtf8, IsAscii}
use Rattle.std.specs.Str.Parse.{digits_value, ParsesUnsigned, ParsesSigned}
use Rattle.std.proofs.lemmas.Bool.{lt-ltb, le-leb, ltb-true, ltb-false, leb-true, leb-false}
use Rattle.std.proofs.lemmas.Bool.Decides.{nat_tests}
use Rattle.std.proofs.lemmas.Fmt.{decimal_is_IsNumeral, decimal_digit, decimal-digits_value, first_decimal}
use Rattle.std.proofs.lemmas.Slice.Eq.{bytes_eq-Decides}
use Rattle.std.proofs.lemmas.Str.{IsUtf8-from_ascii}
use Rattle.std.proofs.lemmas.Str.Ascii.{IsAscii-nil, IsAscii-cons}
use Rattle.std.proofs.lemmas.Str.Parse.{IsNumeralModel, numerals_by_value, parse_digits, parse_signed_digits, parse_signed_minus}
use mir.Syntax.{w64}
use Rattle.hex.specs.Hex.{◌>>=◌, decode_of, decode_pairs, digit_or_error, hex_digit_value}
use Rattle.hex.specs.declared.error.FromHexError.{FromHexError}
use Rattle.hex.specs.declared.error.FromHexError.TheVariants.{OddLength, OutOfMemory}
use Rattle.slate_language.specs.Grammar.{is_moment}
use Rattle.slate_language.specs.Parse.{only_if, hex_value, with_byte, unhex, read_number, moment_value, read_moment}
use Rattle.slate_language.specs.Built.{is_digit, is_numeral, is_moment_text, is_hex_digit}
use Rattle.slate_language.proofs.ParseLaws.{numeral_value, pos_below, neg_below}
use Rattle.slate_language.proofs.ParseOnly.{cond_either, and_first, and_second, number_only, moment_only}
use Rattle.slate_types.proofs.Plain.{and_both}

-- ---- hex digits

abbrev pub read_of : Result (List ℕ) FromHexError → Option (List ℕ)
read_of (Ok v) = Some v
read_of (Err e) = None

value_is : (b : ℕ) → is_hex_digit b ≡ true → hex_digit_value b ≡ hex_value b
value_is b h = grind (arith, nat_tests)

value_none : (b : ℕ) → is_hex_digit b ≡ false → hex_value b ≡ None
value_none b h = grind (arith, nat_tests)

no_byte : (x y : Option ℕ) → with_byte x y None ≡ None
no_byte None y = refl
no_byte (Some x) None = refl
no_byte (Some x) (Some y) = refl

no_low : (x : Option ℕ) (o : Option (List ℕ)) → with_byte x None o ≡ None
no_low None o = refl
no_low (Some x) o = refl

pair_step : (x y : Option ℕ) (a b i : ℕ) (r : Result (List ℕ) FromHexError) (o : Option (List ℕ)) → read_of r ≡ o →
    read_of ((digit_or_error a i x >>= λ h. digit_or_error b (i + 1) y >>= λ l. Ok (h * 16 + l)) >>= λ byte. r >>= λ bs. Ok (byte ∷ bs)) ≡ with_byte x y o
pair_step None y a b i r o e = refl
pair_step (Some x) None a b i r o e = refl
pair_step (Some x) (Some y) a b i (Ok w) o e = ap (with_byte (Some x) (Some y)) e
pair_step (Some x) (Some y) a b i (Err f) o e = ap (with_byte (Some x) (Some y)) e

pairs_read : (i : ℕ) (ds : List ℕ) → list_all is_hex_digit ds ≡ true → read_of (decode_pairs i ds) ≡ unhex ds
unfolding decode_pairs
pairs_read i [] h = refl
pairs_read i (a ∷ []) h = refl
pairs_read i (a ∷ b ∷ ds) h =
    let first = value_is a (and_first (is_hex_digit a) (list_all is_hex_digit (b ∷ ds)) h) in
    let behind = and_second (is_hex_digit a) (list_all is_hex_digit (b ∷ ds)) h in
    let second = value_is b (and_first (is_hex_digit b) (list_all is_hex_digit ds) behind) in
    let rest = pairs_read (i + 2) ds (and_second (is_hex_digit b) (list_all is_hex_digit ds) behind) in
    pair_step (hex_digit_value a) (hex_digit_value b) a b i (decode_pairs (i + 2) ds) (unhex ds) rest ∙ (λ j. with_byte (first j) (second j) (unhex ds))

unhex_odd : (ds : List ℕ) → length ds % 2 ≡ 1 → unhex ds ≡ None
unhex_odd [] h = absurd (omega (arith, h))
unhex_odd (a ∷ []) h = refl
unhex_odd (a ∷ b ∷ ds) h =
    let odd : length ds % 2 ≡ 1 = omega (arith, h) in
    ap (with_byte (hex_value a) (hex_value b)) (unhex_odd ds odd) ∙ no_byte (hex_value a) (hex_value b)

same_number : (a b : ℕ) → (a == b) ≡ true → a ≡ b
same_number a b h = grind (arith, nat_tests)

-- What the crate `hex` decodes of lower-case digits is what they mean.
pub hex_read : (ds : List ℕ) → list_all is_hex_digit ds ≡ true → read_of (decode_of ds) ≡ unhex ds
hex_read ds h = by (length ds % 2 == 1) refl
  where
    by : (t : Bool) → (length ds % 2 == 1) ≡ t → read_of (decode_of ds) ≡ unhex ds
    by true e = ap (λ c. read_of (cond c (Err OddLength) (decode_pairs 0 ds))) e ∙ sym (unhex_odd ds (same_number (length ds % 2) 1 e))
    by false e = ap (λ c. read_of (cond c (Err OddLength) (decode_pairs 0 ds))) e ∙ pairs_read 0 ds h

pub hex_refused : (ds : List ℕ) (e : FromHexError) → list_all is_hex_digit ds ≡ true → (e ≡ OutOfMemory → ⊥) → (e ≡ OutOfMemory) ⊎ (decode_of ds ≡ Err e) → None ≡ unhex ds
hex_refused ds e h other (inl is) = absurd (other is)
hex_refused ds e h other (inr is) = ap read_of (sym is) ∙ hex_read ds h

-- Others mean nothing.
pub hex_other : (ds : List ℕ) → list_all is_hex_digit ds ≡ false → unhex ds ≡ None
hex_other [] h = cc
hex_other (a ∷ []) h = refl
hex_other (a ∷ b ∷ ds) h = by (is_hex_digit a) (is_hex_digit b) refl refl h (hex_other ds)
  where
    by : (s t : Bool) → is_hex_digit a ≡ s → is_hex_digit b ≡ t → (s && (t && list_all is_hex_digit ds)) ≡ false → (list_all is_hex_digit ds ≡ false → unhex ds ≡ None) → unhex (a ∷ b ∷ ds) ≡ None
    by false t e f k later = ap (λ x. with_byte x (hex_value b) (unhex ds)) (value_none a e)
    by true false e f k later = ap (λ x. with_byte (hex_value a) x (unhex ds)) (value_none b f) ∙ no_low (hex_value a) (unhex ds)
    by true true e f k later = ap (with_byte (hex_value a) (hex_value b)) (later k) ∙ no_byte (hex_value a) (hex_value b)

-- ---- numerals

abbrev AreDigits : List ℕ → Type 0
AreDigits t = list_all is_digit t ≡ true

own : IsNumeralModel AreDigits (digits_value 10)
own = numerals_by_value AreDigits (record {
  empty = refl;
  parts = λ c cs h. ((leb-true 48 c (and_first (leb 48 c) (leb c 57) (and_first (is_digit c) (list_all is_digit cs) h)), leb-true c 57 (and_second (leb 48 c) (leb c 57) (and_first (is_digit c) (list_all is_digit cs) h))), and_second (is_digit c) (list_all is_digit cs) h);
  more = λ c cs k h. and_both (is_digit c) (list_all is_digit cs) (and_both (leb 48 c) (leb c 57) (le-leb 48 c k.0) (le-leb c 57 k.1)) h;
})

numeral_digits : (t : List ℕ) → is_numeral t ≡ true → AreDigits t
numeral_digits [] h = cc
numeral_digits (b ∷ []) h = and_both (is_digit b) true h refl
numeral_digits (b ∷ c ∷ bs) h = and_second (not (b == 48)) (list_all is_digit (b ∷ c ∷ bs)) h

numeral_some : (t : List ℕ) → is_numeral t ≡ true → 0 < length t
numeral_some [] h = cc
numeral_some (b ∷ bs) h = omega arith

not_zero : (b : ℕ) → not (b == 48) ≡ true → b ≢ 48
not_zero b h e = grind (arith, nat_tests)

zero_alone : (t : List ℕ) → is_numeral t ≡ true → get_or t 0 0 ≡ 48 → length t ≡ 1
zero_alone [] h e = cc
zero_alone (b ∷ []) h e = refl
zero_alone (b ∷ c ∷ bs) h e = absurd (not_zero b (and_first (not (b == 48)) (list_all is_digit (b ∷ c ∷ bs)) h) e)

decimal_back : (t : List ℕ) → is_numeral t ≡ true → digits_value 10 t < 2 ^ 64 → decimal (digits_value 10 t) ≡ t
decimal_back t h small = decimal-digits_value own t (numeral_digits t h) (numeral_some t h) (zero_alone t h) small

-- digits of which the first isn't 0
positive_numeral : (t : List ℕ) → 0 < length t → AreDigits t → 48 < get_or t 0 0 → is_numeral t ≡ true
positive_numeral [] some h first = absurd (omega (arith, some))
positive_numeral (b ∷ []) some h first = and_first (is_digit b) true h
positive_numeral (b ∷ c ∷ bs) some h first =
    let other : not (b == 48) ≡ true = grind (arith, nat_tests) in
    and_both (not (b == 48)) (list_all is_digit (b ∷ c ∷ bs)) other h

decimal_numeral : (n : ℕ) → n < 2 ^ 64 → is_numeral (decimal n) ≡ true
decimal_numeral zero h = ap is_numeral (decimal_digit 0 (omega arith))
decimal_numeral (suc n) h =
    let known = decimal_is_IsNumeral (suc n) h in
    positive_numeral (decimal (suc n)) known.0.0 (own.from (decimal (suc n)) known.0.1) (first_decimal (suc n) (omega arith) h)

digits_ascii : (t : List ℕ) → AreDigits t → IsAscii t
digits_ascii [] h = IsAscii-nil
digits_ascii (b ∷ bs) h =
    let high : b ≤ 57 = leb-true b 57 (and_second (leb 48 b) (leb b 57) (and_first (is_digit b) (list_all is_digit bs) h)) in
    IsAscii-cons b bs (omega (arith, high)) (digits_ascii bs (and_second (is_digit b) (list_all is_digit bs) h))

pub numeral_text : (t : List ℕ) → is_numeral t ≡ true → IsUtf8 t
numeral_text t h = IsUtf8-from_ascii t (digits_ascii t (numeral_digits t h))

-- ---- numbers

same_test : (a b : List ℕ) → a ≡ b → bytes_eq a b ≡ true
same_test a b e = (bytes_eq-Decides a b).1 e

and_no : (a b : Bool) → b ≡ false → (a && b) ≡ false
and_no true b h = h
and_no false b h = refl

number_small : (t : List ℕ) → is_numeral t ≡ true → digits_value 10 t < 2 ^ 64 → read_number t ≡ Some (digits_value 10 t)
number_small t h small =
    let v = digits_value 10 t in
    ap (λ c. only_if c v) (and_both (bytes_eq (decimal v) t) (ltb v (2 ^ 64)) (same_test (decimal v) t (decimal_back t h small)) (lt-ltb v (2 ^ 64) small))

-- A numeral is read as `parse` reads it.
pub number_is : {E : Type 0} (t : List ℕ) (r : Result ℕ E) → is_numeral t ≡ true → ParsesUnsigned 64 10 t r → result_ok r ≡ read_number t
number_is {E} t r h parsed = by (ltb v (2 ^ 64)) refl r (parse_digits own 64 t r parsed (numeral_digits t h))
  where
    v : ℕ
    v = digits_value 10 t

    by : (c : Bool) → ltb v (2 ^ 64) ≡ c → (q : Result ℕ E) → OkIff q ((0 < length t) × (v < 2 ^ 64)) v → result_ok q ≡ read_number t
    by true e (Ok x) k = ap Some k.1 ∙ sym (number_small t h (ltb-true v (2 ^ 64) e))
    by true e (Err f) k = absurd (k (numeral_some t h, ltb-true v (2 ^ 64) e))
    by false e (Ok x) k =
        let small : v < 2 ^ 64 = k.0.1 in
        let large : 2 ^ 64 ≤ v = ltb-false v (2 ^ 64) e in
        absurd (omega arith)
    by false e (Err f) k = sym (ap (λ c. only_if c v) (and_no (bytes_eq (decimal v) t) (ltb v (2 ^ 64)) e))

-- No other token is a number.
pub number_other : (t : List ℕ) → is_numeral t ≡ false → read_number t ≡ None
number_other t h = by (read_number t) refl
  where
    by : (o : Option ℕ) → read_number t ≡ o → o ≡ None
    by None e = refl
    by (Some n) e =
        let is = number_only t n e in
        let bad : true ≡ false = sym (ap is_numeral is.1 ∙ decimal_numeral n is.0) ∙ h in
        cc

-- ---- moments

numeral_first : (b : ℕ) (bs : List ℕ) → is_numeral (b ∷ bs) ≡ true → (b == 45) ≡ false
numeral_first b bs h =
    let low : 48 ≤ b = leb-true 48 b (and_first (leb 48 b) (leb b 57) (and_first (is_digit b) (list_all is_digit bs) (numeral_digits (b ∷ bs) h))) in
    grind (arith, nat_tests)

abbrev Zero : List ℕ
Zero = codes "0"

-- the parts of a moment's text
abbrev IsMomentText : List ℕ → Type 0
IsMomentText t = ((ds : List ℕ) × (t ≡ 45 ∷ ds) × (not (bytes_eq ds Zero) ≡ true) × (is_numeral ds ≡ true)) ⊎ (is_numeral t ≡ true)

text_parts : (t : List ℕ) → is_moment_text t ≡ true → IsMomentText t
text_parts [] h = cc
text_parts (b ∷ bs) h = by (cond_either (b == 45) (not (bytes_eq bs Zero) && is_numeral bs) (is_numeral (b ∷ bs)) true h)
  where
    by : (((b == 45) ≡ true) × ((not (bytes_eq bs Zero) && is_numeral bs) ≡ true)) ⊎ (((b == 45) ≡ false) × (is_numeral (b ∷ bs) ≡ true)) → IsMomentText (b ∷ bs)
    by (inl k) = inl (bs, ap (λ c. c ∷ bs) (same_number b 45 k.0), and_first (not (bytes_eq bs Zero)) (is_numeral bs) k.1, and_second (not (bytes_eq bs Zero)) (is_numeral bs) k.1)
    by (inr k) = inr k.1

pub moment_text : (t : List ℕ) → is_moment_text t ≡ true → IsUtf8 t
moment_text t h = by (text_parts t h)
  where
    by : IsMomentText t → IsUtf8 t
    by (inl m) = subst IsUtf8 (sym m.1) (IsUtf8-from_ascii (45 ∷ m.0) (IsAscii-cons 45 m.0 (omega arith) (digits_ascii m.0 (numeral_digits m.0 m.3))))
    by (inr n) = numeral_text t n

moment_made : (t : List ℕ) (z : ℤ) → moment_value t ≡ z → signed_decimal z ≡ t → is_moment z ≡ true → read_moment t ≡ Some z
moment_made t z value back within =
    ap (λ y. only_if (bytes_eq (signed_decimal y) t && is_moment y) y) value
    ∙ ap (λ c. only_if c z) (and_both (bytes_eq (signed_decimal z) t) (is_moment z) (same_test (signed_decimal z) t back) within)

moment_past : (t : List ℕ) (z : ℤ) → moment_value t ≡ z → is_moment z ≡ false → read_moment t ≡ None
moment_past t z value past =
    ap (λ y. only_if (bytes_eq (signed_decimal y) t && is_moment y) y) value
    ∙ ap (λ c. only_if c z) (and_no (bytes_eq (signed_decimal z) t) (is_moment z) past)

negative_text : (n : ℕ) → 0 < n → signed_decimal (neg_ℤ (pos n)) ≡ 45 ∷ decimal n
negative_text zero h = absurd (omega (arith, h))
negative_text (suc n) h = refl

negative_within : (n : ℕ) → 0 < n → n ≤ 2 ^ 63 → is_moment (neg_ℤ (pos n)) ≡ true
negative_within zero h k = absurd (omega (arith, h))
negative_within (suc n) h k = grind (arith, nat_tests)

negative_past : (n : ℕ) → 2 ^ 63 < n → is_moment (neg_ℤ (pos n)) ≡ false
negative_past zero h = absurd (omega (arith, h))
negative_past (suc n) h = grind (arith, nat_tests)

positive_within : (n : ℕ) → n < 2 ^ 63 → is_moment (pos n) ≡ true
positive_within n h = grind (arith, nat_tests)

positive_past : (n : ℕ) → 2 ^ 63 ≤ n → is_moment (pos n) ≡ false
positive_past n h = grind (arith, nat_tests)

other_than : (ds : List ℕ) → not (bytes_eq ds Zero) ≡ true → ds ≡ Zero → ⊥
other_than ds h e = let bad : not true ≡ true = ap not (sym (same_test ds Zero e)) ∙ h in cc

above_zero : (ds : List ℕ) → is_numeral ds ≡ true → not (bytes_eq ds Zero) ≡ true → 0 < digits_value 10 ds
above_zero ds h other = by (digits_value 10 ds) refl
  where
    by : (n : ℕ) → digits_value 10 ds ≡ n → 0 < n
    by zero e =
        let small : digits_value 10 ds < 2 ^ 64 = omega (arith, e) in
        absurd (other_than ds other (sym (decimal_back ds h small) ∙ ap decimal e ∙ decimal_digit 0 (omega arith)))
    by (suc n) e = omega arith

negative_is : {E : Type 0} (ds : List ℕ) (r : Result ℤ E) → is_numeral ds ≡ true → not (bytes_eq ds Zero) ≡ true → ParsesSigned w64 10 (45 ∷ ds) r → result_ok r ≡ read_moment (45 ∷ ds)
negative_is {E} ds r h other parsed = by (leb v (2 ^ 63)) refl r (parse_signed_minus own w64 (45 ∷ ds) r parsed refl)
  where
    v : ℕ
    v = digits_value 10 ds

    some : 0 < v
    some = above_zero ds h other

    by : (c : Bool) → leb v (2 ^ 63) ≡ c → (q : Result ℤ E) → OkIff q (AreDigits ds × (0 < length ds) × (v ≤ 2 ^ 63)) (neg_ℤ (pos v)) → result_ok q ≡ read_moment (45 ∷ ds)
    by true e (Ok x) k =
        let small : v ≤ 2 ^ 63 = leb-true v (2 ^ 63) e in
        ap Some k.1 ∙ sym (moment_made (45 ∷ ds) (neg_ℤ (pos v)) refl (negative_text v some ∙ ap (λ u. 45 ∷ u) (decimal_back ds h (omega (arith, small)))) (negative_within v some small))
    by true e (Err f) k = absurd (k (numeral_digits ds h, numeral_some ds h, leb-true v (2 ^ 63) e))
    by false e (Ok x) k =
        let small : v ≤ 2 ^ 63 = k.0.2 in
        let large : 2 ^ 63 < v = leb-false v (2 ^ 63) e in
        absurd (omega arith)
    by false e (Err f) k = sym (moment_past (45 ∷ ds) (neg_ℤ (pos v)) refl (negative_past v (leb-false v (2 ^ 63) e)))

positive_is : {E : Type 0} (t : List ℕ) (r : Result ℤ E) → is_numeral t ≡ true → ParsesSigned w64 10 t r → result_ok r ≡ read_moment t
positive_is {E} t r h parsed = by (ltb v (2 ^ 63)) refl r (parse_signed_digits own w64 t r parsed (numeral_digits t h))
  where
    v : ℕ
    v = digits_value 10 t

    value : moment_value t ≡ pos v
    value = numeral_value t (numeral_some t h) (own.to t (numeral_digits t h))

    by : (c : Bool) → ltb v (2 ^ 63) ≡ c → (q : Result ℤ E) → OkIff q ((0 < length t) × (v < 2 ^ 63)) (pos v) → result_ok q ≡ read_moment t
    by true e (Ok x) k =
        let small : v < 2 ^ 63 = ltb-true v (2 ^ 63) e in
        ap Some k.1 ∙ sym (moment_made t (pos v) value (decimal_back t h (omega (arith, small))) (positive_within v small))
    by true e (Err f) k = absurd (k (numeral_some t h, ltb-true v (2 ^ 63) e))
    by false e (Ok x) k =
        let small : v < 2 ^ 63 = k.0.1 in
        let large : 2 ^ 63 ≤ v = ltb-false v (2 ^ 63) e in
        absurd (omega arith)
    by false e (Err f) k = sym (moment_past t (pos v) value (positive_past v (ltb-false v (2 ^ 63) e)))

-- A moment's text is read as `parse` reads it.
pub moment_is : {E : Type 0} (t : List ℕ) (r : Result ℤ E) → is_moment_text t ≡ true → ParsesSigned w64 10 t r → result_ok r ≡ read_moment t
moment_is {E} t r h parsed = by (text_parts t h)
  where
    by : IsMomentText t → result_ok r ≡ read_moment t
    by (inl m) = negative_is m.0 r m.3 m.2 (subst (λ u. ParsesSigned w64 10 u r) m.1 parsed) ∙ ap read_moment (sym m.1)
    by (inr n) = positive_is t r n parsed

numeral_moment : (t : List ℕ) → is_numeral t ≡ true → is_moment_text t ≡ true
numeral_moment [] h = cc
numeral_moment (b ∷ bs) h = ap (λ c. cond c (not (bytes_eq bs Zero) && is_numeral bs) (is_numeral (b ∷ bs))) (numeral_first b bs h) ∙ h

not_zero_text : (n : ℕ) → suc n < 2 ^ 64 → not (bytes_eq (decimal (suc n)) Zero) ≡ true
not_zero_text n h = by (bytes_eq (decimal (suc n)) Zero) refl
  where
    by : (c : Bool) → bytes_eq (decimal (suc n)) Zero ≡ c → not c ≡ true
    by true e =
        let first : 48 < get_or (decimal (suc n)) 0 0 = first_decimal (suc n) (omega arith) h in
        let is : get_or (decimal (suc n)) 0 0 ≡ 48 = ap (λ u. get_or u 0 0) ((bytes_eq-Decides (decimal (suc n)) Zero).0 e) in
        absurd (omega arith)
    by false e = refl

signed_text : (z : ℤ) → is_moment z ≡ true → is_moment_text (signed_decimal z) ≡ true
signed_text (pos n) h = numeral_moment (decimal n) (decimal_numeral n (pos_below n h))
signed_text (negsuc n) h =
    let small = neg_below n h in
    and_both (not (bytes_eq (decimal (suc n)) Zero)) (is_numeral (decimal (suc n))) (not_zero_text n small) (decimal_numeral (suc n) small)

-- No other token is a moment.
pub moment_other : (t : List ℕ) → is_moment_text t ≡ false → read_moment t ≡ None
moment_other t h = by (read_moment t) refl
  where
    by : (o : Option ℤ) → read_moment t ≡ o → o ≡ None
    by None e = refl
    by (Some z) e =
        let is = moment_only t z e in
        let bad : true ≡ false = sym (ap is_moment_text is.1 ∙ signed_text z is.0) ∙ h in
        cc
