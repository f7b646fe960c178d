-- Laws, each the contract of a function of `laws`.
--     EntriesTell, PrefixesTell      of the keys of entries
--     EntryIsSpelled      one entry, byte for byte
--     EntriesAreThoseOfRecords      on an audited journal with vouched transcripts
--     RecordsHaveNames      there each record's id is a name
use Rattle.std.specs.Prelude.{◌≡◌, ℕ, true, nat_eq, List, [], ◌∷◌, is_some}
use Rattle.std.specs.List.{starts_with}
use Rattle.slate_txn.specs.declared.event.Event.{Event}
use Rattle.slate_txn.specs.State.{Rules}
use Rattle.slate_txn.specs.Replay.{replay}
use Rattle.slate_txn.specs.Vouched.{AreVouched}
use Rattle.slate_index.specs.Entries.{FieldsModel, record_key, entry_key, entry_prefix}
use Rattle.slate_index.specs.Changes.{HasEntries}
use Rattle.slate_index.specs.Commits.{IsPlainName}
use Rattle.slate_index.specs.Journals.{AreAuditedChanges, values_at}

-- An entry's key tells the number of its index, its field and its record's id.
abbrev pub EntriesTell : Type 0
EntriesTell = (n o : ℕ) (f g id other : List ℕ) → entry_key n f id ≡ entry_key o g other → (n ≡ o) × (f ≡ g) × (id ≡ other)

-- An entry's key that begins with a field's prefix is of that field.
abbrev pub PrefixesTell : Type 0
PrefixesTell = (n o : ℕ) (f g id : List ℕ) → starts_with nat_eq (entry_key o g id) (entry_prefix n f) ≡ true → (o ≡ n) × (g ≡ f)

-- The entry in index 0 of the record r1, whose field there is a, 0 and b: 7800 6100ff62 0001 7231.
abbrev pub EntryIsSpelled : Type 0
EntryIsSpelled = entry_key 0 (97 ∷ 0 ∷ 98 ∷ []) (114 ∷ 49 ∷ []) ≡ 120 ∷ 0 ∷ 97 ∷ 0 ∷ 255 ∷ 98 ∷ 0 ∷ 1 ∷ 114 ∷ 49 ∷ []

-- The keys that begin with x are just the entries of the records, at each sequence.
abbrev pub EntriesAreThoseOfRecords : Type 0
EntriesAreThoseOfRecords = (fs : FieldsModel) (r : Rules) (es : List Event) (n : ℕ) → AreAuditedChanges fs r.start_seq es → AreVouched r es → HasEntries fs (values_at r (replay es).commits n)

-- Each record stands under a name, at each sequence.
abbrev pub RecordsHaveNames : Type 0
RecordsHaveNames = (fs : FieldsModel) (r : Rules) (es : List Event) (n : ℕ) (id : List ℕ) → AreAuditedChanges fs r.start_seq es → AreVouched r es →
    is_some (values_at r (replay es).commits n (record_key id)) ≡ true → IsPlainName id
