-- A batch takes what a change puts and deletes: each key is short, and no value but the record's is long.
use Rattle.std.proofs.Common.{◌≡◌, ℕ, zero, suc, ◌+◌, ◌*◌, ◌<◌, ◌≤◌, Bool, true, false, cond, not, nat_eq, ◌&&◌, List, [], ◌∷◌, ◌++◌, filter, length, length-append, Option, Some, None, refl, ◌∙◌, arith}
use Rattle.std.specs.Prelude.{◌==◌, IfSome, nat_le, nat_lt}
use Rattle.std.specs.List.{AllByRecursion, list_all}
use Rattle.std.proofs.lemmas.Bool.Decides.{nat_tests}
use Rattle.slate_types.specs.declared.error.SlateDBError.{SlateDBError}
use Rattle.slate_types.specs.declared.error.SlateDBError.TheVariants as errors
use Rattle.slate_types.specs.Keys.{among}
use Rattle.slate_types.proofs.Lists.{AllByRecursion_append, AllByRecursion_filter}
use Rattle.slate_mem.specs.declared.WriteOp.TheVariants.{Delete}
use Rattle.slate_mem.specs.BatchModel.{plain_put}
use Rattle.slate_mem.specs.Refusals.{first_refusal, op_refusal, value_refusal, when}
use Rattle.slate_index.specs.Names.{is_letter_or_digit}
use Rattle.slate_index.specs.Entries.{FieldsModel, record_key, escaped, entry_key, entry_where, entries_below, entries_if, longest_field}
use Rattle.slate_index.specs.Changes.{change_puts, deletes, entry_puts}
use Rattle.slate_index.specs.Commits.{IsPlainName, change_ops, op_of}
use Rattle.slate_index.specs.Refusals.{IsFine}

-- ---- short keys

pub record IsShortKey (k : List ℕ) : Type 0 where
  some : 0 < length k
  few : length k ≤ 65535

not_none : (n : ℕ) → 0 < n → (n == 0) ≡ false
not_none n h = grind (arith, nat_tests)

not_past : (n : ℕ) → n ≤ 65535 → nat_lt 65535 n ≡ false
not_past n h = grind (arith, nat_tests)

deleted : (k : List ℕ) → IsShortKey k → op_refusal k Delete ≡ None
deleted k h =
    let e = not_none (length k) h.some in
    let f = not_past (length k) h.few in
    λ i. first_refusal (when (e i) errors.EmptyKey ∷ when (f i) (errors.KeyTooLong (length k)) ∷ [])

put_as : (k v : List ℕ) → IsShortKey k → op_refusal k (plain_put v) ≡ value_refusal v
put_as k v h =
    let e = not_none (length k) h.some in
    let f = not_past (length k) h.few in
    (λ i. first_refusal (when (e i) errors.EmptyKey ∷ when (f i) (errors.KeyTooLong (length k)) ∷ value_refusal v ∷ [])) ∙ one (value_refusal v)
  where
    one : (o : Option SlateDBError) → first_refusal (o ∷ []) ≡ o
    one None = refl
    one (Some e) = refl

-- ---- names

at_most : (n : ℕ) → nat_le n 32 ≡ true → n ≤ 32
at_most n h = grind (arith, nat_tests)

middle : (a b c : Bool) → ((a && b) && c) ≡ true → b ≡ true
middle true true c h = refl
middle true false c h = cc
middle false b c h = cc

name_short : (id : List ℕ) → IsPlainName id → length id ≤ 32
name_short id h = at_most (length id) (middle (nat_le 1 (length id)) (nat_le (length id) 32) (list_all is_letter_or_digit id) h)

record_short : (id : List ℕ) → IsPlainName id → IsShortKey (record_key id)
record_short id h = let few : length id ≤ 32 = name_short id h in record { some = omega arith; few = omega arith }

-- ---- entries

escaped_length : (f : List ℕ) → length (escaped f) ≤ 2 * length f
escaped_length [] = omega arith
escaped_length (b ∷ bs) = by (nat_eq b 0) (escaped_length bs)
  where
    by : (t : Bool) → length (escaped bs) ≤ 2 * length bs → length (cond t (0 ∷ 255 ∷ []) (b ∷ []) ++ escaped bs) ≤ 2 * length (b ∷ bs)
    by true h = omega arith
    by false h = omega arith

entry_short : (n : ℕ) (f id : List ℕ) → length f ≤ longest_field → length id ≤ 32 → IsShortKey (entry_key n f id)
entry_short n f id few name =
    let twice : length (escaped f) ≤ 2 * length f = escaped_length f in
    let all : length (escaped f ++ (0 ∷ 1 ∷ id)) ≡ length (escaped f) + length (0 ∷ 1 ∷ id) = length-append (escaped f) (0 ∷ 1 ∷ id) in
    record { some = omega arith; few = omega arith }

within_longest : (n : ℕ) → nat_le n longest_field ≡ true → n ≤ longest_field
within_longest n h = grind (arith, nat_tests)

where_short : (n : ℕ) (id : List ℕ) (o : Option (List ℕ)) → length id ≤ 32 → AllByRecursion IsShortKey (entry_where n id o)
where_short n id None h = tt
where_short n id (Some f) h = by (nat_le (length f) longest_field) (within_longest (length f))
  where
    by : (t : Bool) → (t ≡ true → length f ≤ longest_field) → AllByRecursion IsShortKey (cond t (entry_key n f id ∷ []) [])
    by false g = tt
    by true g = (entry_short n f id (g refl) h, tt)

below_short : (fs : FieldsModel) (n : ℕ) (id v : List ℕ) → length id ≤ 32 → AllByRecursion IsShortKey (entries_below fs n id v)
below_short fs zero id v h = tt
below_short fs (suc n) id v h = AllByRecursion_append IsShortKey (entries_below fs n id v) (entry_where n id (fs.field n v)) (below_short fs n id v h) (where_short n id (fs.field n v) h)

entries_short : (fs : FieldsModel) (id : List ℕ) (o : Option (List ℕ)) → length id ≤ 32 → AllByRecursion IsShortKey (entries_if fs id o)
entries_short fs id None h = tt
entries_short fs id (Some v) h = below_short fs fs.count id v h

-- ---- all that a change does

fine_delete : (k : List ℕ) → IsShortKey k → IsFine (k, op_of None)
fine_delete k h = record { value = None; plain = refl; accepted = deleted k h }

fine_entry : (k : List ℕ) → IsShortKey k → IsFine (k, op_of (Some []))
fine_entry k h = record { value = Some []; plain = refl; accepted = put_as k [] h }

fine_record : (id : List ℕ) (new : Option (List ℕ)) → IsPlainName id → IfSome new (λ v. value_refusal v ≡ None) → IsFine (record_key id, op_of new)
fine_record id None name h = fine_delete (record_key id) (record_short id name)
fine_record id (Some v) name h = record { value = Some v; plain = refl; accepted = put_as (record_key id) v (record_short id name) ∙ h }

fine_deletes : (ks : List (List ℕ)) → AllByRecursion IsShortKey ks → AllByRecursion IsFine (change_ops (deletes ks))
fine_deletes [] h = tt
fine_deletes (k ∷ ks) h = (fine_delete k h.0, fine_deletes ks h.1)

fine_entries : (ks : List (List ℕ)) → AllByRecursion IsShortKey ks → AllByRecursion IsFine (change_ops (entry_puts ks))
fine_entries [] h = tt
fine_entries (k ∷ ks) h = (fine_entry k h.0, fine_entries ks h.1)

fine_both : (xs ys : List (List ℕ × Option (List ℕ))) → AllByRecursion IsFine (change_ops xs) → AllByRecursion IsFine (change_ops ys) → AllByRecursion IsFine (change_ops (xs ++ ys))
fine_both [] ys h k = k
fine_both (x ∷ xs) ys h k = (h.0, fine_both xs ys h.1 k)

pub fine_change : (fs : FieldsModel) (id : List ℕ) (old new : Option (List ℕ)) → IsPlainName id → IfSome new (λ v. value_refusal v ≡ None) → AllByRecursion IsFine (change_ops (change_puts fs id old new))
fine_change fs id old new name h =
    let short : length id ≤ 32 = name_short id name in
    fine_both (deletes (filter (λ k. not (among k (entries_if fs id new))) (entries_if fs id old))) ((record_key id, new) ∷ entry_puts (entries_if fs id new))
    (fine_deletes (filter (λ k. not (among k (entries_if fs id new))) (entries_if fs id old)) (AllByRecursion_filter IsShortKey (λ k. not (among k (entries_if fs id new))) (entries_if fs id old) (entries_short fs id old short)))
    (fine_record id new name h, fine_entries (entries_if fs id new) (entries_short fs id new short))
