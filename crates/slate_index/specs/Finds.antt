-- What a search for a field finds.
--     is_field f o      there is a field, and it is this one
--     has_field fs n f v      a value has this field in the index of this number
--     record_has fs n f o      there is a value, and it has the field
--     Finds fs n f m ids      the ids are those of just the records of a map that have the field, rising
--     name_behind p k, names_behind p ks      the id in a key behind a prefix, where that is a name, and those in keys
use Rattle.std.specs.Prelude.{◌≡◌, ℕ, Bool, false, if◌then◌else◌, List, filter_map, take, drop, length, Option, Some, None, bytes_eq}
use Rattle.std.specs.List.Sorted.{IsStrictlySortedBy}
use Rattle.slate_types.specs.Keys.{key_cmp, among}
use Rattle.slate_index.specs.Names.{is_plain_name}
use Rattle.slate_index.specs.Entries.{FieldsModel, record_key}
use Rattle.slate_index.specs.Changes.{Values}

abbrev pub is_field : List ℕ → Option (List ℕ) → Bool
is_field f None = false
is_field f (Some g) = bytes_eq g f

abbrev pub has_field : FieldsModel → ℕ → List ℕ → List ℕ → Bool
has_field fs n f v = is_field f (fs.field n v)

abbrev pub record_has : FieldsModel → ℕ → List ℕ → Option (List ℕ) → Bool
record_has fs n f None = false
record_has fs n f (Some v) = has_field fs n f v

pub record Finds (fs : FieldsModel) (n : ℕ) (f : List ℕ) (m : Values) (ids : List (List ℕ)) : Type 0 where
  pub rising : IsStrictlySortedBy key_cmp ids
  pub each : (id : List ℕ) → among id ids ≡ record_has fs n f (m (record_key id))

-- ---- in keys

abbrev pub named_if : Bool → List ℕ → Option (List ℕ)
named_if b id = if b then Some id else None

abbrev pub name_if : Bool → List ℕ → Option (List ℕ)
name_if b id = if b then named_if (is_plain_name id) id else None

abbrev pub name_behind : List ℕ → List ℕ → Option (List ℕ)
name_behind p k = name_if (bytes_eq (take (length p) k) p) (drop (length p) k)

abbrev pub names_behind : List ℕ → List (List ℕ) → List (List ℕ)
names_behind p ks = filter_map (name_behind p) ks
