-- What the grammar has, the computed meaning reads.
use Rattle.std.proofs.Common.{◌≡◌, ℕ, suc, ◌+◌, ◌-◌, ◌*◌, ◌/◌, ◌%◌, ◌^◌, ◌<◌, Bool, true, false, cond, not, ◌&&◌, ◌==◌, inl, inr, List, [], ◌∷◌, ◌++◌, length, Option, Some, None, option_map, unwrap_or, ℤ, pos, negsuc, neg_ℤ, codes, decimal, bytes_eq, refl, sym, ap, subst, ◌∙◌, arith, ltb, leb}
use Rattle.std.specs.List.{list_all, join_with_byte, AllByRecursion}
use Rattle.std.specs.Fmt.{signed_decimal}
use Rattle.std.specs.Str.Parse.{digits_value, AllDigits}
use Rattle.std.specs.Char.{digit_value}
use Rattle.std.proofs.lemmas.Fmt.{decimal_is_IsNumeral}
use Rattle.std.proofs.lemmas.Slice.Eq.{bytes_eq-Decides}
use Rattle.std.proofs.lemmas.Bool.{lt-ltb, le-leb}
use Rattle.std.proofs.lemmas.Bool.Decides.{nat_tests}
use Rattle.std.specs.declared.ops.Bound.{Bound}
use Rattle.std.specs.declared.ops.Bound.TheVariants.{Included, Excluded, Unbounded}
use Rattle.slate_types.specs.declared.config.IsolationLevel.{IsolationLevel}
use Rattle.slate_types.specs.declared.config.IsolationLevel.TheVariants as levels
use Rattle.slate_types.specs.declared.iter.IterationOrder.{IterationOrder}
use Rattle.slate_types.specs.declared.iter.IterationOrder.TheVariants.{Ascending, Descending}
use Rattle.slate_types.specs.declared.config.Ttl.{Ttl}
use Rattle.slate_types.specs.declared.config.Ttl.TheVariants.{Default, NoExpiry, ExpireAfter}
use Rattle.slate_mem.specs.declared.WriteOp.{WriteOp}
use Rattle.slate_mem.specs.declared.WriteOp.TheVariants as ops
use Rattle.slate_mem.specs.Batch.{Ops}
use Rattle.slate_txn.specs.declared.line.ScanStep.{ScanStep}
use Rattle.slate_txn.specs.declared.line.ScanStep.TheVariants.{Rows, Seek}
use Rattle.slate_txn.specs.declared.line.Line.{Line}
use Rattle.slate_txn.specs.declared.line.Line.TheVariants as lines
use Rattle.slate_txn.specs.Named.{find_named}
use Rattle.slate_language.specs.Text.{is_visible, hex_digit, hex}
use Rattle.slate_types.specs.Keys.{AreBytes}
use Rattle.slate_language.specs.Grammar.{IsBytes, IsNumber, IsMoment, is_moment, is_name_byte, IsName, IsBound, level_word, order_word, Each, IsStep, IsTtl, IsPair, IsOp, AreOps, IsWay, Spells, IsLine}
use Rattle.slate_language.specs.Parse.{with_byte, both, three, only_if, ◌>>=◌, split_by, tokens_of, hex_value, unhex, read_bytes, read_number, moment_value, read_moment, read_name, read_bound, read_level, read_order, read_step, read_all, read_ttl, read_pair, read_way, OpWord, PutWord, MergeWord, DeleteWord, op_word, op_as, group_token, grouped, ops_of_groups, named, keyed, many_keyed, Word, words, line_as, parse_tokens, parse, Now, Begin, Snapshot, Get, Scan, Prefix, Put, Merge, Delete, Mark, Unmark, Commit, Rollback, Write, Freeze, Flush, Journal}
use Rattle.slate_types.proofs.Plain.{and_both}

-- ---- tokens have no space

abbrev no_space : ℕ → Bool
no_space b = not (b == 32)

and_first : (a b : Bool) → (a && b) ≡ true → a ≡ true
and_first true b h = refl
and_first false b h = h

and_second : (a b : Bool) → (a && b) ≡ true → b ≡ true
and_second true b h = h
and_second false b h = cc

all_weaken : (p q : ℕ → Bool) → ((b : ℕ) → p b ≡ true → q b ≡ true) → (bs : List ℕ) → list_all p bs ≡ true → list_all q bs ≡ true
all_weaken p q imp [] h = refl
all_weaken p q imp (b ∷ bs) h = and_both (q b) (list_all q bs) (imp b (and_first (p b) (list_all p bs) h)) (all_weaken p q imp bs (and_second (p b) (list_all p bs) h))

visible_no_space : (b : ℕ) → is_visible b ≡ true → no_space b ≡ true
visible_no_space b h = grind (arith, nat_tests)

name_no_space : (b : ℕ) → is_name_byte b ≡ true → no_space b ≡ true
name_no_space b h = grind (arith, nat_tests)

-- ---- the tokens of a line

no_space_not : (b : ℕ) → no_space b ≡ true → (b == 32) ≡ false
no_space_not b h = by (b == 32) h
  where
    by : (t : Bool) → not t ≡ true → t ≡ false
    by true e = sym e
    by false e = refl

tokens_one : (t : List ℕ) → list_all no_space t ≡ true → tokens_of t ≡ t ∷ []
tokens_one [] h = refl
tokens_one (b ∷ bs) h =
    ap (split_by 32 b) (tokens_one bs (and_second (no_space b) (list_all no_space bs) h))
    ∙ ap (λ c. cond c ([] ∷ bs ∷ []) ((b ∷ bs) ∷ [])) (no_space_not b (and_first (no_space b) (list_all no_space bs) h))

tokens_more : (t rest u : List ℕ) (us : List (List ℕ)) → list_all no_space t ≡ true → tokens_of rest ≡ u ∷ us → tokens_of (t ++ (32 ∷ rest)) ≡ t ∷ u ∷ us
tokens_more [] rest u us h e = ap (split_by 32 32) e
tokens_more (b ∷ bs) rest u us h e =
    ap (split_by 32 b) (tokens_more bs rest u us (and_second (no_space b) (list_all no_space bs) h) e)
    ∙ ap (λ c. cond c ([] ∷ bs ∷ u ∷ us) ((b ∷ bs) ∷ u ∷ us)) (no_space_not b (and_first (no_space b) (list_all no_space bs) h))

tokens_join : (t : List ℕ) (ts : List (List ℕ)) → list_all no_space t ≡ true → AllByRecursion (λ u. list_all no_space u ≡ true) ts → tokens_of (join_with_byte 32 (t ∷ ts)) ≡ t ∷ ts
tokens_join t [] h hs = tokens_one t h
tokens_join t (u ∷ us) h hs = tokens_more t (join_with_byte 32 (u ∷ us)) u us h (tokens_join u us hs.0 hs.1)

-- ---- bytes

hex_digit_value : (n : ℕ) → n < 16 → hex_value (hex_digit n) ≡ Some n
hex_digit_value n h = by (ltb n 10) refl
  where
    by : (t : Bool) → ltb n 10 ≡ t → hex_value (cond t (48 + n) (87 + n)) ≡ Some n
    by true e = let low : (leb 48 (48 + n) && leb (48 + n) 57) ≡ true = grind (arith, nat_tests) in
        let value : 48 + n - 48 ≡ n = omega arith in
        ap (λ c. cond c (Some (48 + n - 48)) (only_if (leb 97 (48 + n) && leb (48 + n) 102) (48 + n - 87))) low ∙ ap Some value
    by false e = let low : (leb 48 (87 + n) && leb (87 + n) 57) ≡ false = grind (arith, nat_tests) in
        let high : (leb 97 (87 + n) && leb (87 + n) 102) ≡ true = grind (arith, nat_tests) in
        let value : 87 + n - 87 ≡ n = omega arith in
        ap (λ c. cond c (Some (87 + n - 48)) (only_if (leb 97 (87 + n) && leb (87 + n) 102) (87 + n - 87))) low
        ∙ ap (λ c. only_if c (87 + n - 87)) high ∙ ap Some value

byte_halves : (b : ℕ) → b / 16 * 16 + b % 16 ≡ b
byte_halves b = omega arith

unhex_hex : (v : List ℕ) → AreBytes v → unhex (hex v) ≡ Some v
unhex_hex [] h = refl
unhex_hex (b ∷ bs) h =
    let high : b / 16 < 16 = omega (arith, h.0) in
    let low : b % 16 < 16 = omega arith in
    (λ i. with_byte (hex_digit_value (b / 16) high i) (hex_digit_value (b % 16) low i) (unhex_hex bs h.1 i))
    ∙ ap (λ x. Some (x ∷ bs)) (byte_halves b)

hex_digit_no_space : (n : ℕ) → n < 16 → no_space (hex_digit n) ≡ true
hex_digit_no_space n h = by (ltb n 10) refl
  where
    by : (t : Bool) → ltb n 10 ≡ t → no_space (cond t (48 + n) (87 + n)) ≡ true
    by true e = grind (arith, nat_tests)
    by false e = grind (arith, nat_tests)

hex_no_space : (v : List ℕ) → AreBytes v → list_all no_space (hex v) ≡ true
hex_no_space [] h = refl
hex_no_space (b ∷ bs) h =
    let high : b / 16 < 16 = omega (arith, h.0) in
    let low : b % 16 < 16 = omega arith in
    λ i. hex_digit_no_space (b / 16) high i && (hex_digit_no_space (b % 16) low i && hex_no_space bs h.1 i)

-- a token that reads as x, with no space in it
abbrev Reads : {A : Type 0} → (List ℕ → Option A) → List ℕ → A → Type 0
Reads read t x = (read t ≡ Some x) × (list_all no_space t ≡ true)

pub bytes_read : (t v : List ℕ) → IsBytes t v → Reads read_bytes t v
bytes_read t v (inl h) = (
  ap read_bytes h.1 ∙ ap (λ c. only_if c v) h.0,
  ap (list_all no_space) h.1 ∙ all_weaken is_visible no_space visible_no_space v h.0,
)
bytes_read t v (inr h) = (
  ap read_bytes h.1 ∙ unhex_hex v h.0,
  ap (list_all no_space) h.1 ∙ hex_no_space v h.0,
)

-- ---- numbers

bytes_eq_same : (t : List ℕ) → bytes_eq t t ≡ true
bytes_eq_same t = (bytes_eq-Decides t t).1 refl

digit_no_space : (c : ℕ) → digit_value c < 10 → no_space c ≡ true
digit_no_space c h = by (c == 32) refl
  where
    by : (t : Bool) → (c == 32) ≡ t → not t ≡ true
    by true e =
        let is : c ≡ 32 = grind (arith, nat_tests) in
        let P : ℕ → Type 0 = λ n. digit_value n < 10 in
        let small : 36 < 10 = subst P is h in
        absurd (omega (arith, small))
    by false e = refl

digits_no_space : (ds : List ℕ) → AllDigits 10 ds → list_all no_space ds ≡ true
digits_no_space [] h = refl
digits_no_space (d ∷ ds) h = λ i. digit_no_space d h.0 i && digits_no_space ds h.1 i

pub number_read : (t : List ℕ) (n : ℕ) → IsNumber t n → Reads read_number t n
number_read t n h =
    let known = decimal_is_IsNumeral n h.0 in (
      ap read_number h.1
          ∙ ap (λ m. only_if (bytes_eq (decimal m) (decimal n) && ltb m (2 ^ 64)) m) known.1
          ∙ ap (λ c. only_if c n) (and_both (bytes_eq (decimal n) (decimal n)) (ltb n (2 ^ 64)) (bytes_eq_same (decimal n)) (lt-ltb n (2 ^ 64) h.0)),
      ap (list_all no_space) h.1 ∙ digits_no_space (decimal n) known.0.1,
    )

-- ---- moments

-- a numeral does not begin with a sign
pub numeral_value : (ds : List ℕ) → 0 < length ds → AllDigits 10 ds → moment_value ds ≡ pos (digits_value 10 ds)
numeral_value [] nonempty h = absurd (omega (arith, nonempty))
numeral_value (d ∷ ds) nonempty h = by (d == 45) refl
  where
    by : (t : Bool) → (d == 45) ≡ t → cond t (neg_ℤ (pos (digits_value 10 ds))) (pos (digits_value 10 (d ∷ ds))) ≡ pos (digits_value 10 (d ∷ ds))
    by true e =
        let is : d ≡ 45 = grind (arith, nat_tests) in
        let P : ℕ → Type 0 = λ n. digit_value n < 10 in
        let small : 36 < 10 = subst P is h.0 in
        absurd (omega (arith, small))
    by false e = refl

pub pos_below : (n : ℕ) → is_moment (pos n) ≡ true → n < 2 ^ 64
pos_below n h = grind (arith, nat_tests)

pub neg_below : (n : ℕ) → is_moment (negsuc n) ≡ true → suc n < 2 ^ 64
neg_below n h = grind (arith, nat_tests)

value_of_moment : (z : ℤ) → is_moment z ≡ true → moment_value (signed_decimal z) ≡ z
value_of_moment (pos n) h =
    let known = decimal_is_IsNumeral n (pos_below n h) in
    numeral_value (decimal n) known.0.0 known.0.1 ∙ ap pos known.1
value_of_moment (negsuc n) h =
    let known = decimal_is_IsNumeral (suc n) (neg_below n h) in
    ap (λ m. neg_ℤ (pos m)) known.1

signed_no_space : (z : ℤ) → is_moment z ≡ true → list_all no_space (signed_decimal z) ≡ true
signed_no_space (pos n) h = digits_no_space (decimal n) (decimal_is_IsNumeral n (pos_below n h)).0.1
signed_no_space (negsuc n) h = digits_no_space (decimal (suc n)) (decimal_is_IsNumeral (suc n) (neg_below n h)).0.1

pub moment_read : (t : List ℕ) (z : ℤ) → IsMoment t z → Reads read_moment t z
moment_read t z h = (
  ap read_moment h.1
      ∙ ap (λ m. only_if (bytes_eq (signed_decimal m) (signed_decimal z) && is_moment m) m) (value_of_moment z h.0)
      ∙ ap (λ c. only_if c z) (and_both (bytes_eq (signed_decimal z) (signed_decimal z)) (is_moment z) (bytes_eq_same (signed_decimal z)) h.0),
  ap (list_all no_space) h.1 ∙ signed_no_space z h.0,
)

-- ---- names, levels, orders, bounds

pub name_read : (t : List ℕ) → IsName t → Reads read_name t t
name_read t h = (
  ap (λ c. only_if c t) (and_both (ltb 0 (length t) && leb (length t) 64) (list_all is_name_byte t)
      (and_both (ltb 0 (length t)) (leb (length t) 64) (lt-ltb 0 (length t) h.0) (le-leb (length t) 64 h.1)) h.2),
  all_weaken is_name_byte no_space name_no_space t h.2,
)

pub level_read : (l : IsolationLevel) → Reads read_level (level_word l) l
level_read levels.Snapshot = (refl, refl)
level_read levels.SerializableSnapshot = (refl, refl)

pub order_read : (o : IterationOrder) → Reads read_order (order_word o) o
order_read Ascending = (refl, refl)
order_read Descending = (refl, refl)

bound_read : (t : List ℕ) (b : Bound (List ℕ)) → IsBound t b → Reads read_bound t b
bound_read t (Included k) h =
    let inner = bytes_read h.0 k h.1 in
    (ap read_bound h.2 ∙ ap (λ o. option_map Included o) inner.0, ap (list_all no_space) h.2 ∙ inner.1)
bound_read t (Excluded k) h =
    let inner = bytes_read h.0 k h.1 in
    (ap read_bound h.2 ∙ ap (λ o. option_map Excluded o) inner.0, ap (list_all no_space) h.2 ∙ inner.1)
bound_read t Unbounded h = (ap read_bound h, ap (list_all no_space) h)

-- ---- lists of tokens

abbrev NoSpaces : List (List ℕ) → Type 0
NoSpaces ts = AllByRecursion (λ t. list_all no_space t ≡ true) ts

abbrev ReadsAll : {A : Type 0} → (List (List ℕ) → Option A) → List (List ℕ) → A → Type 0
ReadsAll read ts x = (read ts ≡ Some x) × NoSpaces ts

each_read : {A : Type 0} (f : List ℕ → Option A) (R : List ℕ → A → Type 0) → ((t : List ℕ) (x : A) → R t x → Reads f t x) →
    (ts : List (List ℕ)) (xs : List A) → Each R ts xs → ReadsAll (read_all f) ts xs
each_read f R each [] [] h = (refl, tt)
each_read f R each (t ∷ ts) (x ∷ xs) h =
    let one = each t x h.0 in
    let rest = each_read f R each ts xs h.1 in
    ((λ i. both ◌∷◌ (one.0 i) (rest.0 i)), (one.1, rest.1))
each_read f R each [] (x ∷ xs) h = absurd h
each_read f R each (t ∷ ts) [] h = absurd h

step_read : (t : List ℕ) (st : ScanStep) → IsStep t st → Reads read_step t st
step_read t (Rows n) h =
    let inner = number_read h.0 n h.1 in
    (ap read_step h.2 ∙ ap (λ o. option_map Rows o) inner.0, ap (list_all no_space) h.2 ∙ inner.1)
step_read t (Seek k) h =
    let inner = bytes_read h.0 k h.1 in
    (ap read_step h.2 ∙ ap (λ o. option_map Seek o) inner.0, ap (list_all no_space) h.2 ∙ inner.1)

numeral_no_dash : (ds : List ℕ) → AllDigits 10 ds → bytes_eq ds (45 ∷ []) ≡ false
numeral_no_dash ds h = by (bytes_eq ds (45 ∷ [])) refl
  where
    by : (t : Bool) → bytes_eq ds (45 ∷ []) ≡ t → t ≡ false
    by true e =
        let is : ds ≡ 45 ∷ [] = (bytes_eq-Decides ds (45 ∷ [])).0 e in
        let P : List ℕ → Type 0 = λ ts. AllDigits 10 ts in
        let digits : AllDigits 10 (45 ∷ []) = subst P is h in
        absurd (omega (arith, digits.0))
    by false e = refl

pub ttl_read : (ts : List (List ℕ)) (ttl : Ttl) → IsTtl ts ttl → ReadsAll read_ttl ts ttl
ttl_read ts Default h = (ap read_ttl h, subst NoSpaces (sym h) tt)
ttl_read ts NoExpiry h = (ap read_ttl h, subst NoSpaces (sym h) (refl, tt))
ttl_read ts (ExpireAfter n) h =
    let inner = number_read h.0 n h.1 in
    let P : List ℕ → Type 0 = λ u. AllDigits 10 u in
    let digits : AllDigits 10 h.0 = subst P (sym h.1.1) (decimal_is_IsNumeral n h.1.0).0.1 in (
      ap read_ttl h.2
          ∙ ap (λ c. cond c (Some NoExpiry) (option_map ExpireAfter (read_number h.0))) (numeral_no_dash h.0 digits)
          ∙ ap (λ o. option_map ExpireAfter o) inner.0,
      subst NoSpaces (sym h.2) (inner.1, tt),
    )

pub pair_read : {A : Type 0} (make : List ℕ → List ℕ → Ttl → A) (ts : List (List ℕ)) (k v : List ℕ) (ttl : Ttl) → IsPair ts k v ttl → ReadsAll (read_pair make) ts (make k v ttl)
pair_read make ts k v ttl h =
    let key = bytes_read h.0 k h.3 in
    let value = bytes_read h.1 v h.4 in
    let rest = ttl_read h.2 ttl h.5 in (
      ap (read_pair make) h.6 ∙ (λ i. three make (key.0 i) (value.0 i) (rest.0 i)),
      subst NoSpaces (sym h.6) (key.1, (value.1, rest.1)),
    )

pub way_read : {A : Type 0} (make : Bound (List ℕ) → Bound (List ℕ) → List ScanStep → A) (ts : List (List ℕ)) (start end : Bound (List ℕ)) (sts : List ScanStep) →
    IsWay ts start end sts → ReadsAll (read_way make) ts (make start end sts)
way_read make ts start end sts h =
    let first = bound_read h.0 start h.3 in
    let second = bound_read h.1 end h.4 in
    let rest = each_read read_step IsStep step_read h.2 sts h.5 in (
      ap (read_way make) h.6 ∙ (λ i. three make (first.0 i) (second.0 i) (rest.0 i)),
      subst NoSpaces (sym h.6) (first.1, (second.1, rest.1)),
    )

-- ---- operations

-- no operation begins with the token
abbrev AreInner : List (List ℕ) → Type 0
AreInner ts = AllByRecursion (λ t. op_word t ≡ None) ts

bytes_inner : (t v : List ℕ) → IsBytes t v → op_word t ≡ None
bytes_inner t v (inl h) = ap op_word h.1
bytes_inner t v (inr h) = ap op_word h.1

ttl_inner : (ts : List (List ℕ)) (ttl : Ttl) → IsTtl ts ttl → AreInner ts
ttl_inner ts Default h = subst AreInner (sym h) tt
ttl_inner ts NoExpiry h = subst AreInner (sym h) (refl, tt)
ttl_inner ts (ExpireAfter n) h = subst AreInner (sym h.2) (refl, tt)

pair_inner : (ts : List (List ℕ)) (k v : List ℕ) (ttl : Ttl) → IsPair ts k v ttl → AreInner ts
pair_inner ts k v ttl h = subst AreInner (sym h.6) (bytes_inner h.0 k h.3, (bytes_inner h.1 v h.4, ttl_inner h.2 ttl h.5))

grouped_inner : (us vs : List (List ℕ)) (gs : List (OpWord × List (List ℕ))) → AreInner us → grouped vs ≡ ([], gs) → grouped (us ++ vs) ≡ (us, gs)
grouped_inner [] vs gs h e = e
grouped_inner (u ∷ us) vs gs h e = λ i. group_token (h.0 i) u (grouped_inner us vs gs h.1 e i)

NoSpaces_append : (us vs : List (List ℕ)) → NoSpaces us → NoSpaces vs → NoSpaces (us ++ vs)
NoSpaces_append [] vs h k = k
NoSpaces_append (u ∷ us) vs h k = (h.0, NoSpaces_append us vs h.1 k)

-- the tokens of one operation, and those of others behind them
abbrev OneOp : List (List ℕ) → List ℕ → WriteOp → Type 0
OneOp us k op = (w : OpWord) × (args : List (List ℕ)) × (t : List ℕ) × (us ≡ t ∷ args) × (op_word t ≡ Some w) × AreInner args × (op_as w args ≡ Some (k, op)) × NoSpaces (t ∷ args)

op_read : (us : List (List ℕ)) (k : List ℕ) (op : WriteOp) → IsOp us k op → OneOp us k op
op_read us k (ops.Put v o) h =
    let inner = pair_read (λ k v ttl. (k, ops.Put v (record { ttl = ttl }))) h.0 k v o.ttl h.1 in
    (PutWord, h.0, codes "put", h.2, refl, pair_inner h.0 k v o.ttl h.1, inner.0, (refl, inner.1))
op_read us k ops.Delete h =
    let inner = bytes_read h.0 k h.1 in
    (DeleteWord, h.0 ∷ [], codes "delete", h.2, refl, (bytes_inner h.0 k h.1, tt), ap (λ o. option_map (λ key. (key, ops.Delete)) o) inner.0, (refl, (inner.1, tt)))
op_read us k (ops.Merge v o) h =
    let inner = pair_read (λ k v ttl. (k, ops.Merge v (record { ttl = ttl }))) h.0 k v o.ttl h.1 in
    (MergeWord, h.0, codes "merge", h.2, refl, pair_inner h.0 k v o.ttl h.1, inner.0, (refl, inner.1))

abbrev ReadOps : List (List ℕ) → Ops → Type 0
ReadOps ts os = (gs : List (OpWord × List (List ℕ))) × (grouped ts ≡ ([], gs)) × (read_all (λ p. op_as p.0 p.1) gs ≡ Some os) × NoSpaces ts

pub ops_read : (ts : List (List ℕ)) (os : Ops) → AreOps ts os → ReadOps ts os
ops_read ts [] h = ([], ap grouped h, refl, subst NoSpaces (sym h) tt)
ops_read ts (o ∷ os) h =
    let one = op_read h.0 o.0 o.1 h.2 in
    let rest = ops_read h.1 os h.3 in
    let whole : ts ≡ one.2 ∷ (one.1 ++ h.1) = h.4 ∙ ap (λ us. us ++ h.1) one.3 in (
      (one.0, one.1) ∷ rest.0,
      ap grouped whole ∙ (λ i. group_token (one.4 i) one.2 (grouped_inner one.1 h.1 rest.0 one.5 rest.1 i)),
      (λ i. both ◌∷◌ (one.6 i) (rest.2 i)),
      subst NoSpaces (sym whole) (one.7.0, NoSpaces_append one.1 h.1 one.7.1 rest.3),
    )

-- ---- lines

abbrev ReadsLine : List (List ℕ) → Line → Type 0
ReadsLine ts line = ReadsAll parse_tokens ts line

-- a keyword, and the tokens behind it
keyword : (t : List ℕ) (us ts : List (List ℕ)) (w : Word) (line : Line) → ts ≡ t ∷ us → find_named t words ≡ Some w → line_as w us ≡ Some line → list_all no_space t ≡ true → NoSpaces us → ReadsLine ts line
keyword t us ts w line e found reads h hs =
    (ap parse_tokens e ∙ ap (λ o. o >>= λ v. line_as v us) found ∙ reads, subst NoSpaces (sym e) (h, hs))

pub named_read : (make : List ℕ → Line) (name : List ℕ) → IsName name → ReadsAll (named make) (name ∷ []) (make name)
named_read make name h =
    let n = name_read name h in
    (ap (λ o. option_map make o) n.0, (n.1, tt))

pub keyed_read : (make : List ℕ → List ℕ → Line) (name t k : List ℕ) → IsName name → IsBytes t k → ReadsAll (keyed make) (name ∷ t ∷ []) (make name k)
keyed_read make name t k h g =
    let n = name_read name h in
    let key = bytes_read t k g in
    ((λ i. both make (n.0 i) (key.0 i)), (n.1, (key.1, tt)))

pub many_read : (make : List ℕ → List (List ℕ) → Line) (name : List ℕ) (us ks : List (List ℕ)) → IsName name → Each IsBytes us ks → 0 < length ks → ReadsAll (many_keyed make) (name ∷ us) (make name ks)
many_read make name [] [] h g nonempty = absurd (omega (arith, nonempty))
many_read make name [] (k ∷ ks) h g nonempty = absurd g
many_read make name (u ∷ us) [] h g nonempty = absurd g
many_read make name (u ∷ us) (k ∷ ks) h g nonempty =
    let n = name_read name h in
    let all = each_read read_bytes IsBytes bytes_read (u ∷ us) (k ∷ ks) g in
    ((λ i. both make (n.0 i) (all.0 i)), (n.1, all.1))

-- a name, and tokens that one function reads
pub behind_name : (f : List ℕ → List (List ℕ) → Option Line) (name : List ℕ) (us : List (List ℕ)) (line : Line) → IsName name → ReadsAll (f name) us line →
    ((read_name name >>= λ n. f n us) ≡ Some line) × NoSpaces (name ∷ us)
behind_name f name us line h g =
    let n = name_read name h in
    (ap (λ o. o >>= λ m. f m us) n.0 ∙ g.0, (n.1, g.1))

pub line_read : (ts : List (List ℕ)) (line : Line) → Spells ts line → ReadsLine ts line
line_read ts (lines.Now m) h =
    let inner = moment_read h.0 m h.1 in
    keyword (codes "now") (h.0 ∷ []) ts Now (lines.Now m) h.2 refl (ap (λ o. option_map lines.Now o) inner.0) refl (inner.1, tt)
line_read ts (lines.Begin name level) h =
    let n = name_read name h.0 in
    let l = level_read level in
    keyword (codes "begin") (name ∷ level_word level ∷ []) ts Begin (lines.Begin name level) h.1 refl (λ i. both lines.Begin (n.0 i) (l.0 i)) refl (n.1, (l.1, tt))
line_read ts (lines.Snapshot name) h =
    let inner = named_read lines.Snapshot name h.0 in
    keyword (codes "snapshot") (name ∷ []) ts Snapshot (lines.Snapshot name) h.1 refl inner.0 refl inner.1
line_read ts (lines.Get name k) h =
    let inner = keyed_read lines.Get name h.0 k h.1 h.2 in
    keyword (codes "get") (name ∷ h.0 ∷ []) ts Get (lines.Get name k) h.3 refl inner.0 refl inner.1
line_read ts (lines.Scan name order start end sts) h =
    let n = name_read name h.1 in
    let o = order_read order in
    let way = way_read (lines.Scan name order) h.0 start end sts h.2 in
    keyword (codes "scan") (name ∷ order_word order ∷ h.0) ts Scan (lines.Scan name order start end sts) h.3 refl
    ((λ i. (n.0 i) >>= λ m. (o.0 i) >>= λ d. read_way (lines.Scan m d) h.0) ∙ way.0) refl (n.1, (o.1, way.1))
line_read ts (lines.Prefix name order p start end sts) h =
    let n = name_read name h.2 in
    let o = order_read order in
    let key = bytes_read h.0 p h.3 in
    let way = way_read (lines.Prefix name order p) h.1 start end sts h.4 in
    keyword (codes "prefix") (name ∷ order_word order ∷ h.0 ∷ h.1) ts Prefix (lines.Prefix name order p start end sts) h.5 refl
    ((λ i. (n.0 i) >>= λ m. (o.0 i) >>= λ d. (key.0 i) >>= λ q. read_way (lines.Prefix m d q) h.1) ∙ way.0) refl (n.1, (o.1, (key.1, way.1)))
line_read ts (lines.Put name k v ttl) h =
    let inner = behind_name (λ n us. read_pair (lines.Put n) us) name h.0 (lines.Put name k v ttl) h.1 (pair_read (lines.Put name) h.0 k v ttl h.2) in
    keyword (codes "put") (name ∷ h.0) ts Put (lines.Put name k v ttl) h.3 refl inner.0 refl inner.1
line_read ts (lines.Merge name k v ttl) h =
    let inner = behind_name (λ n us. read_pair (lines.Merge n) us) name h.0 (lines.Merge name k v ttl) h.1 (pair_read (lines.Merge name) h.0 k v ttl h.2) in
    keyword (codes "merge") (name ∷ h.0) ts Merge (lines.Merge name k v ttl) h.3 refl inner.0 refl inner.1
line_read ts (lines.Delete name k) h =
    let inner = keyed_read lines.Delete name h.0 k h.1 h.2 in
    keyword (codes "delete") (name ∷ h.0 ∷ []) ts Delete (lines.Delete name k) h.3 refl inner.0 refl inner.1
line_read ts (lines.Mark name ks) h =
    let inner = many_read lines.Mark name h.0 ks h.1 h.2 h.3 in
    keyword (codes "mark") (name ∷ h.0) ts Mark (lines.Mark name ks) h.4 refl inner.0 refl inner.1
line_read ts (lines.Unmark name ks) h =
    let inner = many_read lines.Unmark name h.0 ks h.1 h.2 h.3 in
    keyword (codes "unmark") (name ∷ h.0) ts Unmark (lines.Unmark name ks) h.4 refl inner.0 refl inner.1
line_read ts (lines.Commit name) h =
    let inner = named_read lines.Commit name h.0 in
    keyword (codes "commit") (name ∷ []) ts Commit (lines.Commit name) h.1 refl inner.0 refl inner.1
line_read ts (lines.Rollback name) h =
    let inner = named_read lines.Rollback name h.0 in
    keyword (codes "rollback") (name ∷ []) ts Rollback (lines.Rollback name) h.1 refl inner.0 refl inner.1
line_read ts (lines.Write batch) h =
    let inner = ops_read h.0 batch h.1 in
    keyword (codes "write") h.0 ts Write (lines.Write batch) h.2 refl
    (ap (λ g. option_map lines.Write (ops_of_groups g)) inner.1 ∙ ap (λ o. option_map lines.Write o) inner.2) refl inner.3
line_read ts lines.Freeze h = keyword (codes "freeze") [] ts Freeze lines.Freeze h refl refl refl tt
line_read ts lines.Flush h = keyword (codes "flush") [] ts Flush lines.Flush h refl refl refl tt
line_read ts lines.Journal h = keyword (codes "journal") [] ts Journal lines.Journal h refl refl refl tt

-- ---- the whole line

tokens_of_line : (ts : List (List ℕ)) (line : Line) → ReadsLine ts line → tokens_of (join_with_byte 32 ts) ≡ ts
tokens_of_line [] line h = cc
tokens_of_line (t ∷ ts) line h = tokens_join t ts h.1.0 h.1.1

-- What the grammar has is read, with its meaning.
pub parse_is : (bytes : List ℕ) (line : Line) → IsLine bytes line → parse bytes ≡ Some line
parse_is bytes line h =
    let reads = line_read h.0 line h.1 in
    ap parse h.2 ∙ ap parse_tokens (tokens_of_line h.0 line reads) ∙ reads.0

Some_injective : {A : Type 0} (d x y : A) → Some x ≡ Some y → x ≡ y
Some_injective d x y e = ap (λ o. unwrap_or o d) e

-- No bytes have two meanings.
pub one_meaning : (bytes : List ℕ) (line other : Line) → IsLine bytes line → IsLine bytes other → line ≡ other
one_meaning bytes line other h k = Some_injective line line other (sym (parse_is bytes line h) ∙ parse_is bytes other k)
