-- What a program that runs a script ends with.
--     segments_of s      what gives keys their segments, where an extractor is named
--     main_rules s      what the model knows of what the words set: the options, these segments, and the operator where one is named
--     changed mask      what the transformer of a word makes of bytes, where one is named
--     parts_of s      what the parts mean that the words name
--     status e      the exit status of a run that an error ended
--     IsStatus n      the statuses that there are: 0, 2 for words that aren't known, and those of errors
--     IsDamageStatus n      those of a table that isn't what was stored
--     IsShownStatus policies m before after n      the status is that of an error which the last of the acts show that a store tells
--     IsGeneratedStatus n      those of a run over a script that it makes for itself
--     HasWritten r script left before after n      what the sink took in a run that ended with the status; left: what the source still has; before, after: what the sink tells
--     HasSummed line before after n      what it took in one that writes one line
use Rattle.std.specs.Prelude.{◌≡◌, ◌<◌, ℕ, ◌⊎◌, List, ◌++◌, length, take, Option, Some, None, option_map, unwrap_or}
use Rattle.slate_types.specs.declared.error.SlateDBError.{SlateDBError}
use Rattle.slate_types.specs.ExitStatus as exit
use Rattle.slate_types.specs.Outside.{Act}
use Rattle.slate_filter.specs.Policy.{Policy}
use Rattle.slate_txn.specs.Settings.{settings_of, rules}
use Rattle.slate_txn.specs.State.{Rules}
use Rattle.slate_mem.specs.KeyTests.{Segments}
use Rattle.slate_db.specs.Meaning.{Meaning, segments_by}
use Rattle.slate_language.specs.Parts.{named, xored}
use Rattle.slate_language.specs.Segments.{lengths_of}
use Rattle.slate_language.specs.declared.words.Settings.{Settings}
use Rattle.slate_language.specs.Replies.{replies, replies_to}
use Rattle.slate_script.specs.Run.{HasAnswered, HasAnsweredAll, HasBegun, lines_taken}
use Rattle.slate_script.specs.Told.{IsShown}

abbrev pub segments_of : Settings → Segments
segments_of s = segments_by lengths_of s.segments

abbrev pub main_rules : Settings → Rules
main_rules s = rules (settings_of s.options) (option_map named s.operator) (segments_of s)

abbrev pub changed : Option ℕ → List ℕ → List ℕ
changed None bytes = bytes
changed (Some mask) bytes = xored mask bytes

abbrev pub parts_of : Settings → Meaning
parts_of s = record { combine = option_map named s.operator; encode = changed s.mask; decode = changed s.mask }

-- a run is ended by no error that has no status
abbrev pub status : SlateDBError → ℕ
status e = unwrap_or (exit.status e) 20

abbrev pub IsDamageStatus : ℕ → Type 0
IsDamageStatus n = (n ≡ 12) ⊎ (n ≡ 14) ⊎ (n ≡ 15) ⊎ (n ≡ 16) ⊎ (n ≡ 18) ⊎ (n ≡ 19)

abbrev pub IsShownStatus : List Policy → Meaning → Option (List Act) → Option (List Act) → ℕ → Type 0
IsShownStatus policies m before after n = (e : SlateDBError) × (status e ≡ n) × IsShown policies m before after e

abbrev pub IsStatus : ℕ → Type 0
IsStatus n = (n ≡ 0) ⊎ (n ≡ 2) ⊎ (n ≡ 3) ⊎ (n ≡ 4) ⊎ (n ≡ 5) ⊎ (n ≡ 6) ⊎ (n ≡ 7) ⊎ IsDamageStatus n ⊎ (n ≡ 20)

abbrev pub IsGeneratedStatus : ℕ → Type 0
IsGeneratedStatus n = (n ≡ 0) ⊎ (n ≡ 6) ⊎ (n ≡ 7) ⊎ IsDamageStatus n ⊎ (n ≡ 20)

-- ---- what was written

pub record HasWritten (r : Rules) (script : List ℕ) (left : Option (List ℕ)) (before : List ℕ) (after : Option (List ℕ)) (n : ℕ) : Type 0 where
  pub whole : n ≡ 0 → after ≡ Some (before ++ replies r script)
  pub by_script : (n ≡ 3) ⊎ (n ≡ 4) → after ≡ Some (before ++ replies_to r (lines_taken script))
  pub by_source : n ≡ 5 → (rest said : List ℕ) × (left ≡ Some rest) × (after ≡ Some (before ++ said)) × HasAnsweredAll r script rest said
  pub by_sink : n ≡ 6 → (said : List ℕ) × (after ≡ Some (before ++ said)) × HasBegun r script said
  pub by_part : (n ≡ 7) ⊎ IsDamageStatus n ⊎ (n ≡ 20) → (said : List ℕ) × (after ≡ Some (before ++ said)) × HasAnswered r script said

pub record HasSummed (line before : List ℕ) (after : Option (List ℕ)) (n : ℕ) : Type 0 where
  pub whole : n ≡ 0 → after ≡ Some (before ++ line)
  pub begun : n ≡ 6 → (k : ℕ) × (k < length line) × (after ≡ Some (before ++ take k line))
