-- What a value is refused for: the first field that is too long, and then its own length.
use Rattle.std.proofs.Common.{◌≡◌, ℕ, zero, suc, ◌<◌, ◌≤◌, ◌⊎◌, inl, inr, Bool, true, false, cond, List, length, Option, Some, None, option_map, refl, sym, ap, ◌∙◌, arith}
use Rattle.std.specs.Option.{option_or}
use Rattle.std.specs.Prelude.{nat_le, nat_lt}
use Rattle.std.proofs.lemmas.Bool.Decides.{nat_tests}
use Rattle.slate_types.specs.declared.error.SlateDBError.{SlateDBError}
use Rattle.slate_types.specs.declared.error.SlateDBError.TheVariants as errors
use Rattle.slate_mem.specs.Refusals.{value_refusal, when}
use Rattle.slate_index.specs.declared.error.IndexError.{IndexError}
use Rattle.slate_index.specs.declared.error.IndexError.TheVariants.{FieldTooLong, Db}
use Rattle.slate_index.specs.Entries.{FieldsModel, longest_field}
use Rattle.slate_index.specs.Refusals.{too_long_at, too_long_below, too_long, put_refusal}

below_or_same : (n m : ℕ) → n < suc m → (n < m) ⊎ (n ≡ m)
below_or_same n m h = by (nat_lt n m) refl
  where
    yes : nat_lt n m ≡ true → n < m
    yes e = grind (arith, nat_tests)

    no : nat_lt n m ≡ false → n ≡ m
    no e = let past : m ≤ n = grind (arith, nat_tests) in omega (arith, past, h)

    by : (b : Bool) → nat_lt n m ≡ b → (n < m) ⊎ (n ≡ m)
    by true e = inl (yes e)
    by false e = inr (no e)

-- the first that is too long is named
pub named_first : (fs : FieldsModel) (v : List ℕ) (n : ℕ) (e : IndexError) → too_long_below fs n v ≡ None → too_long_at n (fs.field n v) ≡ Some e → (m : ℕ) → n < m → too_long_below fs m v ≡ Some e
named_first fs v n e none this zero h = absurd (omega arith)
named_first fs v n e none this (suc m) h = by (below_or_same n m h) (λ below. named_first fs v n e none this m below)
  where
    by : (n < m) ⊎ (n ≡ m) → (n < m → too_long_below fs m v ≡ Some e) → option_or (too_long_below fs m v) (too_long_at m (fs.field m v)) ≡ Some e
    by (inl below) earlier = ap (λ o. option_or o (too_long_at m (fs.field m v))) (earlier below)
    by (inr same) earlier = ap (λ k. option_or (too_long_below fs k v) (too_long_at k (fs.field k v))) (sym same) ∙ (λ i. option_or (none i) (this i))

pub none_yet : (fs : FieldsModel) (v : List ℕ) (n : ℕ) → too_long_below fs n v ≡ None → too_long_at n (fs.field n v) ≡ None → too_long_below fs (suc n) v ≡ None
none_yet fs v n before this = λ i. option_or (before i) (this i)

-- ---- lengths

pub short_field : (n : ℕ) (f : List ℕ) → length f ≤ 1024 → too_long_at n (Some f) ≡ None
short_field n f h = let e : nat_le (length f) longest_field ≡ true = grind (arith, nat_tests) in ap (λ b. cond b None (Some (FieldTooLong n (length f)))) e

pub long_field : (n : ℕ) (f : List ℕ) → 1024 < length f → too_long_at n (Some f) ≡ Some (FieldTooLong n (length f))
long_field n f h = let e : nat_le (length f) longest_field ≡ false = grind (arith, nat_tests) in ap (λ b. cond b None (Some (FieldTooLong n (length f)))) e

pub short_value : (v : List ℕ) → length v ≤ 4294967295 → value_refusal v ≡ None
short_value v h = let e : nat_lt 4294967295 (length v) ≡ false = grind (arith, nat_tests) in ap (λ b. when b (errors.ValueTooLong (length v))) e

pub long_value : (v : List ℕ) → 4294967295 < length v → value_refusal v ≡ Some (errors.ValueTooLong (length v))
long_value v h = let e : nat_lt 4294967295 (length v) ≡ true = grind (arith, nat_tests) in ap (λ b. when b (errors.ValueTooLong (length v))) e

-- ---- a put

pub put_passes : (fs : FieldsModel) (v : List ℕ) → too_long fs v ≡ None → value_refusal v ≡ None → put_refusal fs v ≡ None
put_passes fs v a b = λ i. option_or (a i) (option_map Db (b i))

pub field_refused : (fs : FieldsModel) (v : List ℕ) (e : IndexError) → too_long fs v ≡ Some e → put_refusal fs v ≡ Some e
field_refused fs v e a = ap (λ o. option_or o (option_map Db (value_refusal v))) a

pub value_refused : (fs : FieldsModel) (v : List ℕ) (d : SlateDBError) → too_long fs v ≡ None → value_refusal v ≡ Some d → put_refusal fs v ≡ Some (Db d)
value_refused fs v d a b = λ i. option_or (a i) (option_map Db (b i))

-- no refusal of a put is one of its value
pub value_passes : (fs : FieldsModel) (v : List ℕ) → put_refusal fs v ≡ None → value_refusal v ≡ None
value_passes fs v h = by (too_long fs v) (value_refusal v) h
  where
    by : (o : Option IndexError) (p : Option SlateDBError) → option_or o (option_map Db p) ≡ None → p ≡ None
    by None None e = refl
    by None (Some d) e = cc
    by (Some x) p e = cc

-- what a field is refused for, the value is
pub first_field : (fs : FieldsModel) (v : List ℕ) (n : ℕ) (e : IndexError) → too_long_below fs n v ≡ None → n < fs.count → (too_long_at n (fs.field n v) ≡ Some e) ⊎ (e ≡ Db errors.OutOfMemory) →
    (too_long fs v ≡ Some e) ⊎ (e ≡ Db errors.OutOfMemory)
first_field fs v n e none below (inl this) = inl (named_first fs v n e none this fs.count below)
first_field fs v n e none below (inr memory) = inr memory
