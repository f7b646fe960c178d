-- Records, their fields and their entries.
--     FieldsModel      how many indexes there are, and the field that each has of a value
--     record_key id      where a record stands
--     escaped field      the field with each byte 0 followed by 255
--     entry_key n field id      where an entry stands
--     entry_prefix n field      what the keys of all entries with this field begin with
--     entry_where n id field      the entry of one index, where it has a field of at most 1024 bytes
--     entries_of fs id v, entries_if fs id o      the entries of a record, by its value, and none where there is no value
--     is_entry_key k      the key begins with x
use Rattle.std.specs.Prelude.{ℕ, zero, suc, Bool, false, if◌then◌else◌, nat_eq, nat_le, List, [], ◌∷◌, ◌++◌, flat_map, length, Option, Some, None}

pub record FieldsModel : Type 0 where
  pub count : ℕ
  pub field : ℕ → List ℕ → Option (List ℕ)

-- r: and the id
abbrev pub record_key : List ℕ → List ℕ
record_key id = 114 ∷ 58 ∷ id

abbrev pub escaped_byte : ℕ → List ℕ
escaped_byte b = if nat_eq b 0 then 0 ∷ 255 ∷ [] else b ∷ []

abbrev pub escaped : List ℕ → List ℕ
escaped field = flat_map escaped_byte field

-- x, the index's number, the field, 0 and 1, and the id
abbrev pub entry_key : ℕ → List ℕ → List ℕ → List ℕ
entry_key n field id = 120 ∷ n ∷ (escaped field ++ (0 ∷ 1 ∷ id))

-- the same without an id
abbrev pub entry_prefix : ℕ → List ℕ → List ℕ
entry_prefix n field = 120 ∷ n ∷ (escaped field ++ (0 ∷ 1 ∷ []))

-- the longest field that an index has
abbrev pub longest_field : ℕ
longest_field = 1024

abbrev pub entry_where : ℕ → List ℕ → Option (List ℕ) → List (List ℕ)
entry_where n id None = []
entry_where n id (Some field) = if nat_le (length field) longest_field then entry_key n field id ∷ [] else []

abbrev pub entries_below : FieldsModel → ℕ → List ℕ → List ℕ → List (List ℕ)
entries_below fs zero id v = []
entries_below fs (suc n) id v = entries_below fs n id v ++ entry_where n id (fs.field n v)

abbrev pub entries_of : FieldsModel → List ℕ → List ℕ → List (List ℕ)
entries_of fs id v = entries_below fs fs.count id v

abbrev pub entries_if : FieldsModel → List ℕ → Option (List ℕ) → List (List ℕ)
entries_if fs id None = []
entries_if fs id (Some v) = entries_of fs id v

abbrev pub is_entry_key : List ℕ → Bool
is_entry_key [] = false
is_entry_key (b ∷ bs) = nat_eq b 120
