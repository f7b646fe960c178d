-- What the computed meaning reads, the grammar has.
use Rattle.std.proofs.Common.{◌≡◌, ℕ, ◌+◌, ◌-◌, ◌*◌, ◌/◌, ◌%◌, ◌^◌, ◌<◌, ◌≤◌, Bool, true, false, cond, ◌&&◌, ◌==◌, ◌⊎◌, inl, inr, List, [], ◌∷◌, ◌++◌, length, Option, Some, None, option_map, unwrap_or, ℤ, codes, decimal, bytes_eq, refl, sym, ap, subst, ◌∙◌, arith, ltb, leb}
use Rattle.std.specs.List.{list_all, join_with_byte, AllByRecursion}
use Rattle.std.specs.Fmt.{signed_decimal}
use Rattle.std.specs.Str.Parse.{digits_value}
use Rattle.std.proofs.lemmas.Slice.Eq.{bytes_eq-Decides}
use Rattle.std.proofs.lemmas.Bool.{ltb-true, leb-true}
use Rattle.std.proofs.lemmas.Bool.Decides.{nat_tests}
use Rattle.std.specs.declared.ops.Bound.{Bound}
use Rattle.std.specs.declared.ops.Bound.TheVariants.{Included, Excluded, Unbounded}
use Rattle.slate_types.specs.declared.config.IsolationLevel.{IsolationLevel}
use Rattle.slate_types.specs.declared.config.IsolationLevel.TheVariants as levels
use Rattle.slate_types.specs.declared.iter.IterationOrder.{IterationOrder}
use Rattle.slate_types.specs.declared.iter.IterationOrder.TheVariants.{Ascending, Descending}
use Rattle.slate_types.specs.declared.config.Ttl.{Ttl}
use Rattle.slate_types.specs.declared.config.Ttl.TheVariants.{Default, NoExpiry, ExpireAfter}
use Rattle.slate_mem.specs.declared.WriteOp.{WriteOp}
use Rattle.slate_mem.specs.declared.WriteOp.TheVariants as ops
use Rattle.slate_mem.specs.Batch.{Ops}
use Rattle.slate_txn.specs.declared.line.ScanStep.{ScanStep}
use Rattle.slate_txn.specs.declared.line.ScanStep.TheVariants.{Rows, Seek}
use Rattle.slate_txn.specs.declared.line.Line.{Line}
use Rattle.slate_txn.specs.declared.line.Line.TheVariants as lines
use Rattle.slate_txn.specs.Named.{find_named}
use Rattle.slate_language.specs.Text.{is_visible, hex_digit, hex}
use Rattle.slate_types.specs.Keys.{AreBytes}
use Rattle.slate_language.specs.Grammar.{IsBytes, IsNumber, IsMoment, is_moment, is_name_byte, IsName, IsBound, level_word, order_word, Each, IsStep, IsTtl, IsPair, IsOp, AreOps, IsWay, Spells, IsLine}
use Rattle.slate_language.specs.Parse.{with_byte, both, three, only_if, ◌>>=◌, split_by, tokens_of, hex_value, unhex, read_hex, read_bytes, read_number, moment_value, read_moment, read_name, read_bound, read_level, read_order, read_step, read_all, read_ttl, read_pair, read_way, OpWord, PutWord, MergeWord, DeleteWord, op_word, op_as, group_token, grouped, ops_of_groups, named, keyed, many_keyed, Word, words, line_as, parse_tokens, parse, Now, Begin, Snapshot, Get, Scan, Prefix, Put, Merge, Delete, Mark, Unmark, Commit, Rollback, Write, Freeze, Flush, Journal}
use Rattle.slate_types.proofs.Plain.{none_some}

-- ---- options

pub Some_is : {A : Type 0} (x y : A) → Some x ≡ Some y → x ≡ y
Some_is x y e = ap (λ o. unwrap_or o x) e

pub only_if_some : {A : Type 0} (b : Bool) (x y : A) → only_if b x ≡ Some y → (b ≡ true) × (x ≡ y)
only_if_some true x y e = (refl, Some_is x y e)
only_if_some false x y e = none_some y e

pub map_some : {A B : Type 0} (f : A → B) (o : Option A) (y : B) → option_map f o ≡ Some y → (x : A) × (o ≡ Some x) × (f x ≡ y)
map_some f None y e = none_some y e
map_some f (Some x) y e = (x, refl, Some_is (f x) y e)

pub bind_some : {A B : Type 0} (o : Option A) (f : A → Option B) (y : B) → (o >>= f) ≡ Some y → (x : A) × (o ≡ Some x) × (f x ≡ Some y)
bind_some None f y e = none_some y e
bind_some (Some x) f y e = (x, refl, e)

pub both_some : {A B C : Type 0} (make : A → B → C) (a : Option A) (b : Option B) (z : C) → both make a b ≡ Some z → (x : A) × (y : B) × (a ≡ Some x) × (b ≡ Some y) × (make x y ≡ z)
both_some make None b z e = none_some z e
both_some make (Some x) None z e = none_some z e
both_some make (Some x) (Some y) z e = (x, y, refl, refl, Some_is (make x y) z e)

three_some : {A B C D : Type 0} (make : A → B → C → D) (a : Option A) (b : Option B) (c : Option C) (z : D) → three make a b c ≡ Some z →
    (w : A) × (x : B) × (y : C) × (a ≡ Some w) × (b ≡ Some x) × (c ≡ Some y) × (make w x y ≡ z)
three_some make None b c z e = none_some z e
three_some make (Some w) None c z e = none_some z e
three_some make (Some w) (Some x) None z e = none_some z e
three_some make (Some w) (Some x) (Some y) z e = (w, x, y, refl, refl, refl, Some_is (make w x y) z e)

pub cond_either : {A : Type 0} (b : Bool) (x y z : A) → cond b x y ≡ z → ((b ≡ true) × (x ≡ z)) ⊎ ((b ≡ false) × (y ≡ z))
cond_either true x y z e = inl (refl, e)
cond_either false x y z e = inr (refl, e)

pub and_first : (a b : Bool) → (a && b) ≡ true → a ≡ true
and_first true b h = refl
and_first false b h = h

pub and_second : (a b : Bool) → (a && b) ≡ true → b ≡ true
and_second true b h = h
and_second false b h = cc

same_number : (a b : ℕ) → (a == b) ≡ true → a ≡ b
same_number a b h = grind (arith, nat_tests)

pub same_bytes : (a b : List ℕ) → bytes_eq a b ≡ true → a ≡ b
same_bytes a b h = (bytes_eq-Decides a b).0 h

-- ---- tokens

join_split : (b : ℕ) (ts : List (List ℕ)) → join_with_byte 32 (split_by 32 b ts) ≡ b ∷ join_with_byte 32 ts
join_split b [] = refl
join_split b (t ∷ ts) = by (b == 32) refl ts
  where
    by : (c : Bool) → (b == 32) ≡ c → (us : List (List ℕ)) → join_with_byte 32 (cond c ([] ∷ t ∷ us) ((b ∷ t) ∷ us)) ≡ b ∷ join_with_byte 32 (t ∷ us)
    by true e us = ap (λ n. n ∷ join_with_byte 32 (t ∷ us)) (sym (same_number b 32 e))
    by false e [] = refl
    by false e (u ∷ us) = refl

pub join_tokens : (bytes : List ℕ) → join_with_byte 32 (tokens_of bytes) ≡ bytes
join_tokens [] = refl
join_tokens (b ∷ bs) = join_split b (tokens_of bs) ∙ ap (λ cs. b ∷ cs) (join_tokens bs)

-- ---- bytes

pub hex_value_is : (a x : ℕ) → hex_value a ≡ Some x → (x < 16) × (a ≡ hex_digit x)
hex_value_is a x e = by (cond_either (leb 48 a && leb a 57) (Some (a - 48)) (only_if (leb 97 a && leb a 102) (a - 87)) (Some x) e)
  where
    by : (((leb 48 a && leb a 57) ≡ true) × (Some (a - 48) ≡ Some x)) ⊎ (((leb 48 a && leb a 57) ≡ false) × (only_if (leb 97 a && leb a 102) (a - 87) ≡ Some x)) → (x < 16) × (a ≡ hex_digit x)
    by (inl h) =
        let is : a - 48 ≡ x = Some_is (a - 48) x h.1 in
        let low : 48 ≤ a = leb-true 48 a (and_first (leb 48 a) (leb a 57) h.0) in
        let high : a ≤ 57 = leb-true a 57 (and_second (leb 48 a) (leb a 57) h.0) in
        let small : x < 10 = omega (arith, is, low, high) in
        let test : ltb x 10 ≡ true = grind (arith, nat_tests) in
        let value : a ≡ 48 + x = omega (arith, is, low) in
        (omega (arith, small), value ∙ sym (ap (λ c. cond c (48 + x) (87 + x)) test))
    by (inr h) =
        let some = only_if_some (leb 97 a && leb a 102) (a - 87) x h.1 in
        let low : 97 ≤ a = leb-true 97 a (and_first (leb 97 a) (leb a 102) some.0) in
        let high : a ≤ 102 = leb-true a 102 (and_second (leb 97 a) (leb a 102) some.0) in
        let is : a - 87 ≡ x = some.1 in
        let large : 10 ≤ x = omega (arith, is, low, high) in
        let test : ltb x 10 ≡ false = grind (arith, nat_tests) in
        let value : a ≡ 87 + x = omega (arith, is, low) in
        (omega (arith, is, low, high), value ∙ sym (ap (λ c. cond c (48 + x) (87 + x)) test))

with_byte_some : (a b : Option ℕ) (rest : Option (List ℕ)) (v : List ℕ) → with_byte a b rest ≡ Some v →
    (x : ℕ) × (y : ℕ) × (w : List ℕ) × (a ≡ Some x) × (b ≡ Some y) × (rest ≡ Some w) × ((x * 16 + y) ∷ w ≡ v)
with_byte_some None b rest v e = none_some v e
with_byte_some (Some x) None rest v e = none_some v e
with_byte_some (Some x) (Some y) None v e = none_some v e
with_byte_some (Some x) (Some y) (Some w) v e = (x, y, w, refl, refl, refl, Some_is ((x * 16 + y) ∷ w) v e)

abbrev IsHexOf : List ℕ → List ℕ → Type 0
IsHexOf cs v = AreBytes v × (cs ≡ hex v)

pub unhex_is : (cs v : List ℕ) → unhex cs ≡ Some v → IsHexOf cs v
unhex_is [] v e = subst (λ w. IsHexOf [] w) (Some_is [] v e) (tt, refl)
unhex_is (a ∷ []) v e = none_some v e
unhex_is (a ∷ b ∷ bs) v e =
    let parts = with_byte_some (hex_value a) (hex_value b) (unhex bs) v e in
    let x = parts.0 in let y = parts.1 in let w = parts.2 in
    let high = hex_value_is a x parts.3 in
    let low = hex_value_is b y parts.4 in
    let rest = unhex_is bs w parts.5 in
    let byte : x * 16 + y < 256 = omega (arith, high.0, low.0) in
    let quotient : (x * 16 + y) / 16 ≡ x = omega (arith, low.0) in
    let remainder : (x * 16 + y) % 16 ≡ y = omega (arith, low.0) in
    subst (λ u. IsHexOf (a ∷ b ∷ bs) u) parts.6
    ((byte, rest.0), (λ i. (high.1 ∙ ap hex_digit (sym quotient)) i ∷ (low.1 ∙ ap hex_digit (sym remainder)) i ∷ rest.1 i))

pub bytes_only : (t v : List ℕ) → read_bytes t ≡ Some v → IsBytes t v
bytes_only [] v e = none_some v e
bytes_only (b ∷ bs) v e = by bs (cond_either (b == 39) (only_if (list_all is_visible bs) bs) (read_hex (b ∷ bs)) (Some v) e)
  where
    by : (cs : List ℕ) → (((b == 39) ≡ true) × (only_if (list_all is_visible cs) cs ≡ Some v)) ⊎ (((b == 39) ≡ false) × (read_hex (b ∷ cs) ≡ Some v)) → IsBytes (b ∷ cs) v
    by cs (inl h) =
        let some = only_if_some (list_all is_visible cs) cs v h.1 in
        inl (ap (list_all is_visible) (sym some.1) ∙ some.0, λ i. same_number b 39 h.0 i ∷ some.1 i)
    by [] (inr h) = none_some v h.1
    by (c ∷ cs) (inr h) =
        let inner = bind_some (only_if (b == 48 && c == 120) cs) unhex v h.1 in
        let some = only_if_some (b == 48 && c == 120) cs inner.0 inner.1 in
        let digits = unhex_is inner.0 v inner.2 in
        inr (digits.0, λ i. same_number b 48 (and_first (b == 48) (c == 120) some.0) i ∷ same_number c 120 (and_second (b == 48) (c == 120) some.0) i ∷ (some.1 ∙ digits.1) i)

-- ---- numbers, moments, names

pub number_only : (t : List ℕ) (n : ℕ) → read_number t ≡ Some n → IsNumber t n
number_only t n e =
    let some = only_if_some (bytes_eq (decimal (digits_value 10 t)) t && ltb (digits_value 10 t) (2 ^ 64)) (digits_value 10 t) n e in
    let P : ℕ → Type 0 = λ m. m < 2 ^ 64 in (
      subst P some.1 (ltb-true (digits_value 10 t) (2 ^ 64) (and_second (bytes_eq (decimal (digits_value 10 t)) t) (ltb (digits_value 10 t) (2 ^ 64)) some.0)),
      sym (same_bytes (decimal (digits_value 10 t)) t (and_first (bytes_eq (decimal (digits_value 10 t)) t) (ltb (digits_value 10 t) (2 ^ 64)) some.0)) ∙ ap decimal some.1,
    )

pub moment_only : (t : List ℕ) (z : ℤ) → read_moment t ≡ Some z → IsMoment t z
moment_only t z e =
    let some = only_if_some (bytes_eq (signed_decimal (moment_value t)) t && is_moment (moment_value t)) (moment_value t) z e in (
      ap is_moment (sym some.1) ∙ and_second (bytes_eq (signed_decimal (moment_value t)) t) (is_moment (moment_value t)) some.0,
      sym (same_bytes (signed_decimal (moment_value t)) t (and_first (bytes_eq (signed_decimal (moment_value t)) t) (is_moment (moment_value t)) some.0)) ∙ ap signed_decimal some.1,
    )

pub name_only : (t name : List ℕ) → read_name t ≡ Some name → IsName name × (t ≡ name)
name_only t name e =
    let some = only_if_some (ltb 0 (length t) && leb (length t) 64 && list_all is_name_byte t) t name e in
    let lengths = and_first (ltb 0 (length t) && leb (length t) 64) (list_all is_name_byte t) some.0 in (
      subst IsName some.1 (
        ltb-true 0 (length t) (and_first (ltb 0 (length t)) (leb (length t) 64) lengths),
        leb-true (length t) 64 (and_second (ltb 0 (length t)) (leb (length t) 64) lengths),
        and_second (ltb 0 (length t) && leb (length t) 64) (list_all is_name_byte t) some.0,
      ),
      some.1,
    )

pub level_only : (t : List ℕ) (l : IsolationLevel) → read_level t ≡ Some l → t ≡ level_word l
level_only t l e = by (cond_either (bytes_eq t (codes "si")) (Some levels.Snapshot) (only_if (bytes_eq t (codes "ssi")) levels.SerializableSnapshot) (Some l) e)
  where
    by : ((bytes_eq t (codes "si") ≡ true) × (Some levels.Snapshot ≡ Some l)) ⊎ ((bytes_eq t (codes "si") ≡ false) × (only_if (bytes_eq t (codes "ssi")) levels.SerializableSnapshot ≡ Some l)) → t ≡ level_word l
    by (inl h) = same_bytes t (codes "si") h.0 ∙ ap level_word (Some_is levels.Snapshot l h.1)
    by (inr h) =
        let some = only_if_some (bytes_eq t (codes "ssi")) levels.SerializableSnapshot l h.1 in
        same_bytes t (codes "ssi") some.0 ∙ ap level_word some.1

pub order_only : (t : List ℕ) (o : IterationOrder) → read_order t ≡ Some o → t ≡ order_word o
order_only t o e = by (cond_either (bytes_eq t (codes "asc")) (Some Ascending) (only_if (bytes_eq t (codes "desc")) Descending) (Some o) e)
  where
    by : ((bytes_eq t (codes "asc") ≡ true) × (Some Ascending ≡ Some o)) ⊎ ((bytes_eq t (codes "asc") ≡ false) × (only_if (bytes_eq t (codes "desc")) Descending ≡ Some o)) → t ≡ order_word o
    by (inl h) = same_bytes t (codes "asc") h.0 ∙ ap order_word (Some_is Ascending o h.1)
    by (inr h) =
        let some = only_if_some (bytes_eq t (codes "desc")) Descending o h.1 in
        same_bytes t (codes "desc") some.0 ∙ ap order_word some.1

bound_only : (t : List ℕ) (x : Bound (List ℕ)) → read_bound t ≡ Some x → IsBound t x
bound_only [] x e = none_some x e
bound_only (b ∷ bs) x e = by (cond_either (b == 105) (option_map Included (read_bytes bs)) (cond (b == 101) (option_map Excluded (read_bytes bs)) (only_if (bytes_eq (b ∷ bs) (codes "*")) Unbounded)) (Some x) e)
  where
    last : (((b == 101) ≡ true) × (option_map Excluded (read_bytes bs) ≡ Some x)) ⊎ (((b == 101) ≡ false) × (only_if (bytes_eq (b ∷ bs) (codes "*")) Unbounded ≡ Some x)) → IsBound (b ∷ bs) x
    last (inl h) =
        let inner = map_some Excluded (read_bytes bs) x h.1 in
        subst (λ y. IsBound (b ∷ bs) y) inner.2 (bs, bytes_only bs inner.0 inner.1, ap (λ n. n ∷ bs) (same_number b 101 h.0))
    last (inr h) =
        let some = only_if_some (bytes_eq (b ∷ bs) (codes "*")) Unbounded x h.1 in
        subst (λ y. IsBound (b ∷ bs) y) some.1 (same_bytes (b ∷ bs) (codes "*") some.0)

    by : (((b == 105) ≡ true) × (option_map Included (read_bytes bs) ≡ Some x)) ⊎ (((b == 105) ≡ false) × (cond (b == 101) (option_map Excluded (read_bytes bs)) (only_if (bytes_eq (b ∷ bs) (codes "*")) Unbounded) ≡ Some x)) → IsBound (b ∷ bs) x
    by (inl h) =
        let inner = map_some Included (read_bytes bs) x h.1 in
        subst (λ y. IsBound (b ∷ bs) y) inner.2 (bs, bytes_only bs inner.0 inner.1, ap (λ n. n ∷ bs) (same_number b 105 h.0))
    by (inr h) = last (cond_either (b == 101) (option_map Excluded (read_bytes bs)) (only_if (bytes_eq (b ∷ bs) (codes "*")) Unbounded) (Some x) h.1)

step_only : (t : List ℕ) (st : ScanStep) → read_step t ≡ Some st → IsStep t st
step_only [] st e = none_some st e
step_only (b ∷ bs) st e = by (cond_either (b == 110) (option_map Rows (read_number bs)) (only_if (b == 115) bs >>= λ k. option_map Seek (read_bytes k)) (Some st) e)
  where
    by : (((b == 110) ≡ true) × (option_map Rows (read_number bs) ≡ Some st)) ⊎ (((b == 110) ≡ false) × ((only_if (b == 115) bs >>= λ k. option_map Seek (read_bytes k)) ≡ Some st)) → IsStep (b ∷ bs) st
    by (inl h) =
        let inner = map_some Rows (read_number bs) st h.1 in
        subst (λ y. IsStep (b ∷ bs) y) inner.2 (bs, number_only bs inner.0 inner.1, ap (λ n. n ∷ bs) (same_number b 110 h.0))
    by (inr h) =
        let outer = bind_some (only_if (b == 115) bs) (λ k. option_map Seek (read_bytes k)) st h.1 in
        let some = only_if_some (b == 115) bs outer.0 outer.1 in
        let inner = map_some Seek (read_bytes outer.0) st outer.2 in
        subst (λ y. IsStep (b ∷ bs) y) inner.2 (outer.0, bytes_only outer.0 inner.0 inner.1, λ i. same_number b 115 some.0 i ∷ some.1 i)

-- ---- lists of tokens

each_only : {A : Type 0} (f : List ℕ → Option A) (R : List ℕ → A → Type 0) → ((t : List ℕ) (x : A) → f t ≡ Some x → R t x) →
    (ts : List (List ℕ)) (xs : List A) → read_all f ts ≡ Some xs → Each R ts xs
each_only f R one [] xs e = subst (Each R []) (Some_is [] xs e) tt
each_only f R one (t ∷ ts) xs e =
    let parts = both_some ◌∷◌ (f t) (read_all f ts) xs e in
    subst (Each R (t ∷ ts)) parts.4 (one t parts.0 parts.2, each_only f R one ts parts.1 parts.3)

pub ttl_only : (ts : List (List ℕ)) (ttl : Ttl) → read_ttl ts ≡ Some ttl → IsTtl ts ttl
ttl_only [] ttl e = subst (IsTtl []) (Some_is Default ttl e) refl
ttl_only ([] ∷ []) ttl e = none_some ttl e
ttl_only ((b ∷ bs) ∷ []) ttl e = by (cond_either (bytes_eq (b ∷ bs) (codes "t-")) (Some NoExpiry) (only_if (b == 116) bs >>= λ n. option_map ExpireAfter (read_number n)) (Some ttl) e)
  where
    by : ((bytes_eq (b ∷ bs) (codes "t-") ≡ true) × (Some NoExpiry ≡ Some ttl)) ⊎ ((bytes_eq (b ∷ bs) (codes "t-") ≡ false) × ((only_if (b == 116) bs >>= λ n. option_map ExpireAfter (read_number n)) ≡ Some ttl)) → IsTtl ((b ∷ bs) ∷ []) ttl
    by (inl h) = subst (IsTtl ((b ∷ bs) ∷ [])) (Some_is NoExpiry ttl h.1) (ap (λ t. t ∷ []) (same_bytes (b ∷ bs) (codes "t-") h.0))
    by (inr h) =
        let outer = bind_some (only_if (b == 116) bs) (λ n. option_map ExpireAfter (read_number n)) ttl h.1 in
        let some = only_if_some (b == 116) bs outer.0 outer.1 in
        let inner = map_some ExpireAfter (read_number outer.0) ttl outer.2 in
        subst (IsTtl ((b ∷ bs) ∷ [])) inner.2 (outer.0, number_only outer.0 inner.0 inner.1, λ i. (same_number b 116 some.0 i ∷ some.1 i) ∷ [])
ttl_only (t ∷ u ∷ us) ttl e = none_some ttl e

abbrev FromPair : {A : Type 0} → (List ℕ → List ℕ → Ttl → A) → List (List ℕ) → A → Type 0
FromPair make ts z = (k : List ℕ) × (v : List ℕ) × (ttl : Ttl) × IsPair ts k v ttl × (make k v ttl ≡ z)

pair_only : {A : Type 0} (make : List ℕ → List ℕ → Ttl → A) (ts : List (List ℕ)) (z : A) → read_pair make ts ≡ Some z → FromPair make ts z
pair_only make [] z e = none_some z e
pair_only make (t ∷ []) z e = none_some z e
pair_only make (t ∷ u ∷ us) z e =
    let parts = three_some make (read_bytes t) (read_bytes u) (read_ttl us) z e in
    (parts.0, parts.1, parts.2, (t, u, us, bytes_only t parts.0 parts.3, bytes_only u parts.1 parts.4, ttl_only us parts.2 parts.5, refl), parts.6)

abbrev FromWay : {A : Type 0} → (Bound (List ℕ) → Bound (List ℕ) → List ScanStep → A) → List (List ℕ) → A → Type 0
FromWay make ts z = (start : Bound (List ℕ)) × (end : Bound (List ℕ)) × (sts : List ScanStep) × IsWay ts start end sts × (make start end sts ≡ z)

pub way_only : {A : Type 0} (make : Bound (List ℕ) → Bound (List ℕ) → List ScanStep → A) (ts : List (List ℕ)) (z : A) → read_way make ts ≡ Some z → FromWay make ts z
way_only make [] z e = none_some z e
way_only make (t ∷ []) z e = none_some z e
way_only make (t ∷ u ∷ us) z e =
    let parts = three_some make (read_bound t) (read_bound u) (read_all read_step us) z e in
    (parts.0, parts.1, parts.2, (t, u, us, bound_only t parts.0 parts.3, bound_only u parts.1 parts.4, each_only read_step IsStep step_only us parts.2 parts.5, refl), parts.6)

-- ---- operations

abbrev word_of : OpWord → List ℕ
word_of PutWord = codes "put"
word_of MergeWord = codes "merge"
word_of DeleteWord = codes "delete"

word_only : (t : List ℕ) (w : OpWord) → op_word t ≡ Some w → t ≡ word_of w
word_only t w e = by (cond_either (bytes_eq t (codes "put")) (Some PutWord) (cond (bytes_eq t (codes "merge")) (Some MergeWord) (only_if (bytes_eq t (codes "delete")) DeleteWord)) (Some w) e)
  where
    last : ((bytes_eq t (codes "merge") ≡ true) × (Some MergeWord ≡ Some w)) ⊎ ((bytes_eq t (codes "merge") ≡ false) × (only_if (bytes_eq t (codes "delete")) DeleteWord ≡ Some w)) → t ≡ word_of w
    last (inl h) = same_bytes t (codes "merge") h.0 ∙ ap word_of (Some_is MergeWord w h.1)
    last (inr h) =
        let some = only_if_some (bytes_eq t (codes "delete")) DeleteWord w h.1 in
        same_bytes t (codes "delete") some.0 ∙ ap word_of some.1

    by : ((bytes_eq t (codes "put") ≡ true) × (Some PutWord ≡ Some w)) ⊎ ((bytes_eq t (codes "put") ≡ false) × (cond (bytes_eq t (codes "merge")) (Some MergeWord) (only_if (bytes_eq t (codes "delete")) DeleteWord) ≡ Some w)) → t ≡ word_of w
    by (inl h) = same_bytes t (codes "put") h.0 ∙ ap word_of (Some_is PutWord w h.1)
    by (inr h) = last (cond_either (bytes_eq t (codes "merge")) (Some MergeWord) (only_if (bytes_eq t (codes "delete")) DeleteWord) (Some w) h.1)

-- the tokens of groups, and those of all
abbrev ungrouped : List (OpWord × List (List ℕ)) → List (List ℕ)
ungrouped [] = []
ungrouped (g ∷ gs) = word_of g.0 ∷ (g.1 ++ ungrouped gs)

grouped_is : (ts : List (List ℕ)) → ts ≡ (grouped ts).0 ++ ungrouped (grouped ts).1
grouped_is [] = refl
grouped_is (t ∷ ts) = by (op_word t) refl (grouped_is ts)
  where
    by : (o : Option OpWord) → op_word t ≡ o → ts ≡ (grouped ts).0 ++ ungrouped (grouped ts).1 → t ∷ ts ≡ (group_token o t (grouped ts)).0 ++ ungrouped (group_token o t (grouped ts)).1
    by None e h = ap (λ us. t ∷ us) h
    by (Some w) e h = λ i. word_only t w e i ∷ h i

op_only : (w : OpWord) (us : List (List ℕ)) (o : List ℕ × WriteOp) → op_as w us ≡ Some o → IsOp (word_of w ∷ us) o.0 o.1
op_only PutWord us o e =
    let parts = pair_only (λ k v ttl. (k, ops.Put v (record { ttl = ttl }))) us o e in
    let P : List ℕ × WriteOp → Type 0 = λ p. IsOp (codes "put" ∷ us) p.0 p.1 in
    subst P parts.4 (us, parts.3, refl)
op_only MergeWord us o e =
    let parts = pair_only (λ k v ttl. (k, ops.Merge v (record { ttl = ttl }))) us o e in
    let P : List ℕ × WriteOp → Type 0 = λ p. IsOp (codes "merge" ∷ us) p.0 p.1 in
    subst P parts.4 (us, parts.3, refl)
op_only DeleteWord [] o e = none_some o e
op_only DeleteWord (t ∷ []) o e =
    let inner = map_some (λ key. (key, ops.Delete)) (read_bytes t) o e in
    let P : List ℕ × WriteOp → Type 0 = λ p. IsOp (codes "delete" ∷ t ∷ []) p.0 p.1 in
    subst P inner.2 (t, bytes_only t inner.0 inner.1, refl)
op_only DeleteWord (t ∷ u ∷ us) o e = none_some o e

groups_only : (gs : List (OpWord × List (List ℕ))) (os : Ops) → read_all (λ p. op_as p.0 p.1) gs ≡ Some os → AreOps (ungrouped gs) os
groups_only [] os e = subst (AreOps []) (Some_is [] os e) refl
groups_only (g ∷ gs) os e =
    let parts = both_some ◌∷◌ (op_as g.0 g.1) (read_all (λ p. op_as p.0 p.1) gs) os e in
    subst (AreOps (ungrouped (g ∷ gs))) parts.4 (word_of g.0 ∷ g.1, ungrouped gs, op_only g.0 g.1 parts.0 parts.2, groups_only gs parts.1 parts.3, refl)

pub ops_only : (ts : List (List ℕ)) (os : Ops) → ops_of_groups (grouped ts) ≡ Some os → AreOps ts os
ops_only ts os e = by (grouped ts).0 refl e
  where
    by : (front : List (List ℕ)) → (grouped ts).0 ≡ front → ops_of_groups (front, (grouped ts).1) ≡ Some os → AreOps ts os
    by [] is f = subst (λ us. AreOps us os) (sym (grouped_is ts ∙ ap (λ us. us ++ ungrouped (grouped ts).1) is)) (groups_only (grouped ts).1 os f)
    by (u ∷ us) is f = none_some os f

-- ---- lines

abbrev text_of : Word → List ℕ
text_of Now = codes "now"
text_of Begin = codes "begin"
text_of Snapshot = codes "snapshot"
text_of Get = codes "get"
text_of Scan = codes "scan"
text_of Prefix = codes "prefix"
text_of Put = codes "put"
text_of Merge = codes "merge"
text_of Delete = codes "delete"
text_of Mark = codes "mark"
text_of Unmark = codes "unmark"
text_of Commit = codes "commit"
text_of Rollback = codes "rollback"
text_of Write = codes "write"
text_of Freeze = codes "freeze"
text_of Flush = codes "flush"
text_of Journal = codes "journal"

find_only : (t : List ℕ) (ps : List (List ℕ × Word)) (w : Word) → AllByRecursion (λ p. p.0 ≡ text_of p.1) ps → find_named t ps ≡ Some w → t ≡ text_of w
find_only t [] w h e = none_some w e
find_only t (p ∷ ps) w h e = by (cond_either (bytes_eq p.0 t) (Some p.1) (find_named t ps) (Some w) e) (find_only t ps w h.1)
  where
    by : ((bytes_eq p.0 t ≡ true) × (Some p.1 ≡ Some w)) ⊎ ((bytes_eq p.0 t ≡ false) × (find_named t ps ≡ Some w)) → (find_named t ps ≡ Some w → t ≡ text_of w) → t ≡ text_of w
    by (inl k) later = sym (same_bytes p.0 t k.0) ∙ h.0 ∙ ap text_of (Some_is p.1 w k.1)
    by (inr k) later = later k.1

words_texts : AllByRecursion (λ p. p.0 ≡ text_of p.1) words
words_texts = (refl, (refl, (refl, (refl, (refl, (refl, (refl, (refl, (refl, (refl, (refl, (refl, (refl, (refl, (refl, (refl, (refl, tt)))))))))))))))))

pub name_line : (make : List ℕ → Line) (us : List (List ℕ)) (line : Line) → named make us ≡ Some line → (name : List ℕ) × IsName name × (us ≡ name ∷ []) × (make name ≡ line)
name_line make [] line e = none_some line e
name_line make (n ∷ []) line e =
    let inner = map_some make (read_name n) line e in
    let name = name_only n inner.0 inner.1 in
    (inner.0, name.0, ap (λ t. t ∷ []) name.1, inner.2)
name_line make (n ∷ u ∷ us) line e = none_some line e

pub keyed_line : (make : List ℕ → List ℕ → Line) (us : List (List ℕ)) (line : Line) → keyed make us ≡ Some line →
    (name : List ℕ) × (k : List ℕ) × (t : List ℕ) × IsName name × IsBytes t k × (us ≡ name ∷ t ∷ []) × (make name k ≡ line)
keyed_line make [] line e = none_some line e
keyed_line make (n ∷ []) line e = none_some line e
keyed_line make (n ∷ t ∷ []) line e =
    let parts = both_some make (read_name n) (read_bytes t) line e in
    let name = name_only n parts.0 parts.2 in
    (parts.0, parts.1, t, name.0, bytes_only t parts.1 parts.3, ap (λ m. m ∷ t ∷ []) name.1, parts.4)
keyed_line make (n ∷ t ∷ u ∷ us) line e = none_some line e

Each_nonempty : {A B : Type 0} (R : A → B → Type 0) (t : A) (ts : List A) (xs : List B) → Each R (t ∷ ts) xs → 0 < length xs
Each_nonempty R t ts [] h = absurd h
Each_nonempty R t ts (x ∷ xs) h = omega arith

pub many_line : (make : List ℕ → List (List ℕ) → Line) (us : List (List ℕ)) (line : Line) → many_keyed make us ≡ Some line →
    (name : List ℕ) × (ks : List (List ℕ)) × (ts : List (List ℕ)) × IsName name × Each IsBytes ts ks × (0 < length ks) × (us ≡ name ∷ ts) × (make name ks ≡ line)
many_line make [] line e = none_some line e
many_line make (n ∷ []) line e = none_some line e
many_line make (n ∷ t ∷ ts) line e =
    let parts = both_some make (read_name n) (read_all read_bytes (t ∷ ts)) line e in
    let name = name_only n parts.0 parts.2 in
    let keys = each_only read_bytes IsBytes bytes_only (t ∷ ts) parts.1 parts.3 in
    (parts.0, parts.1, t ∷ ts, name.0, keys, Each_nonempty IsBytes t ts parts.1 keys, ap (λ m. m ∷ t ∷ ts) name.1, parts.4)

pub put_line : (make : List ℕ → List ℕ → List ℕ → Ttl → Line) (n : List ℕ) (us : List (List ℕ)) (line : Line) → (read_name n >>= λ name. read_pair (make name) us) ≡ Some line →
    (name : List ℕ) × (k : List ℕ) × (v : List ℕ) × (ttl : Ttl) × IsName name × IsPair us k v ttl × (n ≡ name) × (make name k v ttl ≡ line)
put_line make n us line e =
    let outer = bind_some (read_name n) (λ name. read_pair (make name) us) line e in
    let name = name_only n outer.0 outer.1 in
    let parts = pair_only (make outer.0) us line outer.2 in
    (outer.0, parts.0, parts.1, parts.2, name.0, parts.3, name.1, parts.4)

line_only : (w : Word) (us : List (List ℕ)) (line : Line) → line_as w us ≡ Some line → Spells (text_of w ∷ us) line
line_only Now [] line e = none_some line e
line_only Now (t ∷ []) line e =
    let inner = map_some lines.Now (read_moment t) line e in
    subst (Spells (codes "now" ∷ t ∷ [])) inner.2 (t, moment_only t inner.0 inner.1, refl)
line_only Now (t ∷ u ∷ us) line e = none_some line e
line_only Begin [] line e = none_some line e
line_only Begin (n ∷ []) line e = none_some line e
line_only Begin (n ∷ t ∷ []) line e =
    let parts = both_some lines.Begin (read_name n) (read_level t) line e in
    let name = name_only n parts.0 parts.2 in
    subst (Spells (codes "begin" ∷ n ∷ t ∷ [])) parts.4 (name.0, λ i. codes "begin" ∷ name.1 i ∷ level_only t parts.1 parts.3 i ∷ [])
line_only Begin (n ∷ t ∷ u ∷ us) line e = none_some line e
line_only Snapshot us line e =
    let p = name_line lines.Snapshot us line e in
    subst (Spells (codes "snapshot" ∷ us)) p.3 (p.1, ap (λ ts. codes "snapshot" ∷ ts) p.2)
line_only Get us line e =
    let p = keyed_line lines.Get us line e in
    subst (Spells (codes "get" ∷ us)) p.6 (p.2, p.3, p.4, ap (λ ts. codes "get" ∷ ts) p.5)
line_only Scan [] line e = none_some line e
line_only Scan (n ∷ []) line e = none_some line e
line_only Scan (n ∷ t ∷ us) line e =
    let outer = bind_some (read_name n) (λ name. read_order t >>= λ order. read_way (lines.Scan name order) us) line e in
    let name = name_only n outer.0 outer.1 in
    let inner = bind_some (read_order t) (λ order. read_way (lines.Scan outer.0 order) us) line outer.2 in
    let way = way_only (lines.Scan outer.0 inner.0) us line inner.2 in
    subst (Spells (codes "scan" ∷ n ∷ t ∷ us)) way.4 (us, name.0, way.3, λ i. codes "scan" ∷ name.1 i ∷ order_only t inner.0 inner.1 i ∷ us)
line_only Prefix [] line e = none_some line e
line_only Prefix (n ∷ []) line e = none_some line e
line_only Prefix (n ∷ t ∷ []) line e = none_some line e
line_only Prefix (n ∷ t ∷ k ∷ us) line e =
    let outer = bind_some (read_name n) (λ name. read_order t >>= λ order. read_bytes k >>= λ p. read_way (lines.Prefix name order p) us) line e in
    let name = name_only n outer.0 outer.1 in
    let inner = bind_some (read_order t) (λ order. read_bytes k >>= λ p. read_way (lines.Prefix outer.0 order p) us) line outer.2 in
    let key = bind_some (read_bytes k) (λ p. read_way (lines.Prefix outer.0 inner.0 p) us) line inner.2 in
    let way = way_only (lines.Prefix outer.0 inner.0 key.0) us line key.2 in
    subst (Spells (codes "prefix" ∷ n ∷ t ∷ k ∷ us)) way.4 (k, us, name.0, bytes_only k key.0 key.1, way.3, λ i. codes "prefix" ∷ name.1 i ∷ order_only t inner.0 inner.1 i ∷ k ∷ us)
line_only Put [] line e = none_some line e
line_only Put (n ∷ us) line e =
    let p = put_line lines.Put n us line e in
    subst (Spells (codes "put" ∷ n ∷ us)) p.7 (us, p.4, p.5, ap (λ m. codes "put" ∷ m ∷ us) p.6)
line_only Merge [] line e = none_some line e
line_only Merge (n ∷ us) line e =
    let p = put_line lines.Merge n us line e in
    subst (Spells (codes "merge" ∷ n ∷ us)) p.7 (us, p.4, p.5, ap (λ m. codes "merge" ∷ m ∷ us) p.6)
line_only Delete us line e =
    let p = keyed_line lines.Delete us line e in
    subst (Spells (codes "delete" ∷ us)) p.6 (p.2, p.3, p.4, ap (λ ts. codes "delete" ∷ ts) p.5)
line_only Mark us line e =
    let p = many_line lines.Mark us line e in
    subst (Spells (codes "mark" ∷ us)) p.7 (p.2, p.3, p.4, p.5, ap (λ ts. codes "mark" ∷ ts) p.6)
line_only Unmark us line e =
    let p = many_line lines.Unmark us line e in
    subst (Spells (codes "unmark" ∷ us)) p.7 (p.2, p.3, p.4, p.5, ap (λ ts. codes "unmark" ∷ ts) p.6)
line_only Commit us line e =
    let p = name_line lines.Commit us line e in
    subst (Spells (codes "commit" ∷ us)) p.3 (p.1, ap (λ ts. codes "commit" ∷ ts) p.2)
line_only Rollback us line e =
    let p = name_line lines.Rollback us line e in
    subst (Spells (codes "rollback" ∷ us)) p.3 (p.1, ap (λ ts. codes "rollback" ∷ ts) p.2)
line_only Write us line e =
    let inner = map_some lines.Write (ops_of_groups (grouped us)) line e in
    subst (Spells (codes "write" ∷ us)) inner.2 (us, ops_only us inner.0 inner.1, refl)
line_only Freeze [] line e = subst (Spells (codes "freeze" ∷ [])) (Some_is lines.Freeze line e) refl
line_only Freeze (u ∷ us) line e = none_some line e
line_only Flush [] line e = subst (Spells (codes "flush" ∷ [])) (Some_is lines.Flush line e) refl
line_only Flush (u ∷ us) line e = none_some line e
line_only Journal [] line e = subst (Spells (codes "journal" ∷ [])) (Some_is lines.Journal line e) refl
line_only Journal (u ∷ us) line e = none_some line e

pub tokens_only : (ts : List (List ℕ)) (line : Line) → parse_tokens ts ≡ Some line → Spells ts line
tokens_only [] line e = none_some line e
tokens_only (t ∷ ts) line e =
    let found = bind_some (find_named t words) (λ w. line_as w ts) line e in
    subst (λ u. Spells (u ∷ ts) line) (sym (find_only t words found.0 words_texts found.1)) (line_only found.0 ts line found.2)

-- What is read is in the grammar.
pub parse_only : (bytes : List ℕ) (line : Line) → parse bytes ≡ Some line → IsLine bytes line
parse_only bytes line e = (tokens_of bytes, tokens_only (tokens_of bytes) line e, sym (join_tokens bytes))
