-- What a change of a record does to a map from key to value.
--     Values, put_value m j v      a map, and one with another value, or with none, at a key
--     changed m ps      the map after some puts and deletes
--     change_puts fs id old new      what a change puts and deletes: the old entries that the new value hasn't go, and the record and the new entries come
--     HasRecord fs m k      a record stands whose entry has this key
--     HasEntries fs m      the keys that begin with x are the entries of the records, and hold nothing
use Rattle.std.specs.Prelude.{◌≡◌, ℕ, true, not, if◌then◌else◌, List, [], ◌∷◌, ◌++◌, map, filter, Option, Some, None, is_some, bytes_eq}
use Rattle.slate_types.specs.Keys.{among}
use Rattle.slate_index.specs.Entries.{FieldsModel, record_key, entries_of, entries_if, is_entry_key}

abbrev pub Values : Type 0
Values = List ℕ → Option (List ℕ)

abbrev pub put_value : Values → List ℕ → Option (List ℕ) → Values
put_value m j v k = if bytes_eq j k then v else m k

abbrev pub changed : Values → List (List ℕ × Option (List ℕ)) → Values
changed m [] = m
changed m (p ∷ ps) = changed (put_value m p.0 p.1) ps

abbrev pub deletes : List (List ℕ) → List (List ℕ × Option (List ℕ))
deletes ks = map (λ k. (k, None)) ks

abbrev pub entry_puts : List (List ℕ) → List (List ℕ × Option (List ℕ))
entry_puts ks = map (λ k. (k, Some [])) ks

-- in the order of the indexes' numbers, both
abbrev pub change_puts : FieldsModel → List ℕ → Option (List ℕ) → Option (List ℕ) → List (List ℕ × Option (List ℕ))
change_puts fs id old new =
    deletes (filter (λ k. not (among k (entries_if fs id new))) (entries_if fs id old)) ++ ((record_key id, new) ∷ entry_puts (entries_if fs id new))

pub record HasRecord (fs : FieldsModel) (m : Values) (k : List ℕ) : Type 0 where
  pub id : List ℕ
  pub value : List ℕ
  pub stands : m (record_key id) ≡ Some value
  pub is : among k (entries_of fs id value) ≡ true

pub record HasEntries (fs : FieldsModel) (m : Values) : Type 0 where
  pub each : (k : List ℕ) → is_entry_key k ≡ true → is_some (m k) ≡ true → HasRecord fs m k
  pub all : (k : List ℕ) → HasRecord fs m k → m k ≡ Some []
