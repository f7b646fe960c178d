-- How a table is opened: its object is measured, and its last bytes and its info are read.
--     IsMeasured objects before after path size      the store was asked once for the size of an object, and answered so
--     long_in size      the size of an object that holds more than the last bytes, or the refusal
--     last_in size answer      what the last bytes that were read say, or the refusal
--     IsInfoRead, RefusesInfo      an info in a version, whose sections lie before an end, is read, or refused
--     IsOpened objects before after path id version info      the three calls, of which the last read the info
--     RefusesOpen objects before after path id e      the calls up to the one whose answer is refused
--     MayOpen objects before after path      none of the three calls was answered, or the first, or the first two, or all
use Rattle.std.specs.Prelude.{◌≡◌, ◌≤◌, ◌<◌, ◌⊎◌, ℕ, ◌-◌, if◌then◌else◌, nat_lt, List, Option, Some, None, Result, Ok, Err}
use Rattle.slate_types.specs.declared.error.SlateDBError.{SlateDBError}
use Rattle.slate_types.specs.declared.error.SlateDBError.TheVariants.{CorruptTable, EmptySSTable, EmptyBlockMeta}
use Rattle.slate_types.specs.Outside.{Objects}
use Rattle.slate_store.specs.Store.{Act, AddsAct, AnswersLen}
use Rattle.slate_block.specs.RowReading.{refusal}
use Rattle.slate_table.specs.Parts.{cover_of, info_kind, summed}
use Rattle.slate_table.specs.Decoded.{Info, IsInfo, SectionsLieBefore}
use Rattle.slate_table.specs.SectionReading.{footer_in}
use Rattle.slate_table.specs.InfoReading.{info_in}
use Rattle.slate_table.specs.Reading.{Reads, IsRefused, section_read}

unfoldable pub IsMeasured : Option Objects → Option (List Act) → Option (List Act) → List ℕ → Option ℕ → Type 0
IsMeasured objects before after path size = ((os : Objects) → objects ≡ Some os → AnswersLen os path size) × AddsAct before (Act.len path size) after

abbrev pub long_in : Option ℕ → Result ℕ SlateDBError
long_in None = Err (CorruptTable 0)
long_in (Some size) = if nat_lt 10 size then Ok size else Err (EmptySSTable size)

-- where the info begins, and the version
abbrev pub last_in : ℕ → Option (List ℕ) → Result (ℕ × ℕ) SlateDBError
last_in size None = Err (CorruptTable 0)
last_in size (Some bytes) = footer_in size bytes

abbrev pub IsInfoRead : ℕ → ℕ → ℕ → Option (List ℕ) → Info → Type 0
IsInfoRead version id end answer info = (part : List ℕ) × (answer ≡ Some (summed (cover_of version id info_kind end) part)) × IsInfo version part info × SectionsLieBefore end info

abbrev pub RefusesInfo : ℕ → ℕ → ℕ → Option (List ℕ) → SlateDBError → Type 0
RefusesInfo version id end answer e = IsRefused (λ bytes. bytes) (λ part. refusal (info_in version end part)) (section_read version id info_kind end answer) e

-- the info of a table of a size, with its checksum
abbrev pub info_size : ℕ → ℕ → ℕ
info_size size offset = size - 10 - offset

-- first, second: the acts that the store tells behind the first and the second call
unfoldable pub IsOpened : Option Objects → Option (List Act) → Option (List Act) → List ℕ → ℕ → ℕ → Info → Type 0
IsOpened objects before after path id version info =
    (size : ℕ) × (offset : ℕ) × (first : Option (List Act)) × (second : Option (List Act))
    × IsMeasured objects before first path (Some size) × (10 < size)
    × Reads objects first second path (size - 10) 10 (λ answer. last_in size answer ≡ Ok (offset, version)) × (4 < info_size size offset)
    × Reads objects second after path offset (info_size size offset) (λ answer. IsInfoRead version id offset answer info)

abbrev pub RefusesSize : Option Objects → Option (List Act) → Option (List Act) → List ℕ → SlateDBError → Type 0
RefusesSize objects before after path e = (size : Option ℕ) × IsMeasured objects before after path size × (long_in size ≡ Err e)

abbrev pub RefusesLast : Option Objects → Option (List Act) → Option (List Act) → List ℕ → SlateDBError → Type 0
RefusesLast objects before after path e =
    (size : ℕ) × (first : Option (List Act)) × IsMeasured objects before first path (Some size) × (10 < size)
    × Reads objects first after path (size - 10) 10 (λ answer. last_in size answer ≡ Err e)

abbrev pub RefusesEmpty : Option Objects → Option (List Act) → Option (List Act) → List ℕ → SlateDBError → Type 0
RefusesEmpty objects before after path e =
    (size : ℕ) × (offset : ℕ) × (version : ℕ) × (first : Option (List Act)) × IsMeasured objects before first path (Some size) × (10 < size)
    × Reads objects first after path (size - 10) 10 (λ answer. last_in size answer ≡ Ok (offset, version)) × (info_size size offset ≤ 4) × (e ≡ EmptyBlockMeta (info_size size offset))

abbrev pub RefusesPart : Option Objects → Option (List Act) → Option (List Act) → List ℕ → ℕ → SlateDBError → Type 0
RefusesPart objects before after path id e =
    (size : ℕ) × (offset : ℕ) × (version : ℕ) × (first : Option (List Act)) × (second : Option (List Act)) × IsMeasured objects before first path (Some size) × (10 < size)
    × Reads objects first second path (size - 10) 10 (λ answer. last_in size answer ≡ Ok (offset, version)) × (4 < info_size size offset)
    × Reads objects second after path offset (info_size size offset) (λ answer. RefusesInfo version id offset answer e)

unfoldable pub RefusesOpen : Option Objects → Option (List Act) → Option (List Act) → List ℕ → ℕ → SlateDBError → Type 0
RefusesOpen objects before after path id e =
    RefusesSize objects before after path e ⊎ RefusesLast objects before after path e ⊎ RefusesEmpty objects before after path e ⊎ RefusesPart objects before after path id e

unfoldable pub MayOpen : Option Objects → Option (List Act) → Option (List Act) → List ℕ → Type 0
MayOpen objects before after path =
    (after ≡ before)
    ⊎ ((size : Option ℕ) × IsMeasured objects before after path size)
    ⊎ ((size : ℕ) × (first : Option (List Act)) × IsMeasured objects before first path (Some size) × Reads objects first after path (size - 10) 10 (λ _. Unit {0}))
    ⊎ ((size : ℕ) × (offset : ℕ) × (first : Option (List Act)) × (second : Option (List Act)) × IsMeasured objects before first path (Some size)
    × Reads objects first second path (size - 10) 10 (λ _. Unit {0}) × Reads objects second after path offset (info_size size offset) (λ _. Unit {0}))
