-- Scripts of records: what their lines mean, and what they are answered.
--     meaning fs bytes      what a line's bytes ask for, where they ask for something
--     is_taken fs line      the line is silent, or asks for something
--     IsOwn fs line      what is to be found stands in one of the indexes, and is short enough for it
--     Records      ids, each once, with the values of their records
--     record_at rs id      the value under an id
--     without_record id rs, with_record id v rs      the records without one, and with one in its place
--     with_change id new rs      the records with a value under an id, or without it
--     found fs n f rs      the ids of all records that have a field, rising
--     Run, begun n      the records and the newest number of a commit; at first there is no record, and numbers begin behind n
--     Reply      what a line is answered
--     stepped fs r line      the run behind a line, and its reply
--     reply_words a, reply_line a      the words of a reply, and its bytes
--     after fs r line, said fs r line      of a line's bytes: the run behind it, and what is written for it
--     says fs r lines      what is written for lines
use Rattle.std.specs.Prelude.{ℕ, ◌+◌, ◌-◌, ◌^◌, ◌<◌, ◌≤◌, Bool, true, false, not, ◌||◌, if◌then◌else◌, nat_le, nat_lt, List, [], ◌∷◌, ◌++◌, map, filter, length, Option, Some, None, option_map, is_some, bytes_eq, codes, decimal}
use Rattle.std.specs.List.{join_with_byte}
use Rattle.slate_types.specs.declared.error.SlateDBError.TheVariants.{SequenceExhausted}
use Rattle.slate_types.specs.Keys.{keys_set}
use Rattle.slate_txn.specs.Named.{find_named}
use Rattle.slate_language.specs.Parse.{both, only_if, read_bytes, read_number, tokens_of, ◌>>=◌}
use Rattle.slate_language.specs.Replies.{is_silent}
use Rattle.slate_language.specs.Text.{error_words}
use Rattle.slate_index.specs.declared.error.IndexError.{IndexError}
use Rattle.slate_index.specs.declared.error.IndexError.TheVariants as errors
use Rattle.slate_index.specs.declared.line.Line.{Line}
use Rattle.slate_index.specs.declared.line.Line.TheVariants as lines
use Rattle.slate_index.specs.Names.{is_plain_name}
use Rattle.slate_index.specs.Entries.{FieldsModel, longest_field}
use Rattle.slate_index.specs.Finds.{has_field}
use Rattle.slate_index.specs.Refusals.{delete_refusal, put_refusal}

-- ---- lines

abbrev pub name_in : List ℕ → Option (List ℕ)
name_in t = only_if (is_plain_name t) t

-- the number of an index
abbrev pub number_in : FieldsModel → List ℕ → Option ℕ
number_in fs t = read_number t >>= λ n. only_if (nat_lt n fs.count) n

-- a field that an index can have
abbrev pub field_in : List ℕ → Option (List ℕ)
field_in t = read_bytes t >>= λ f. only_if (nat_le (length f) longest_field) f

abbrev pub put_line : List (List ℕ) → Option Line
put_line (t ∷ u ∷ []) = both lines.Put (name_in t) (read_bytes u)
put_line _ = None

abbrev pub delete_line : List (List ℕ) → Option Line
delete_line (t ∷ []) = option_map lines.Delete (name_in t)
delete_line _ = None

abbrev pub find_line : FieldsModel → List (List ℕ) → Option Line
find_line fs (t ∷ u ∷ []) = both lines.Find (number_in fs t) (field_in u)
find_line fs _ = None

abbrev pub line_behind : FieldsModel → List ℕ → List (List ℕ) → Option Line
line_behind fs word ts =
    if bytes_eq word (codes "put") then put_line ts
    else if bytes_eq word (codes "del") then delete_line ts
    else if bytes_eq word (codes "find") then find_line fs ts
    else None

abbrev pub line_of : FieldsModel → List (List ℕ) → Option Line
line_of fs [] = None
line_of fs (word ∷ ts) = line_behind fs word ts

abbrev pub meaning : FieldsModel → List ℕ → Option Line
meaning fs bytes = line_of fs (tokens_of bytes)

abbrev pub is_taken : FieldsModel → List ℕ → Bool
is_taken fs line = is_silent line || is_some (meaning fs line)

abbrev pub IsOwn : FieldsModel → Line → Type 0
IsOwn fs (lines.Put id v) = Unit {0}
IsOwn fs (lines.Delete id) = Unit {0}
IsOwn fs (lines.Find n f) = (n < fs.count) × (length f ≤ longest_field)

-- ---- records

abbrev pub Records : Type 0
Records = List (List ℕ × List ℕ)

abbrev pub record_at : Records → List ℕ → Option (List ℕ)
record_at rs id = find_named id rs

abbrev pub without_record : List ℕ → Records → Records
without_record id rs = filter (λ r. not (bytes_eq r.0 id)) rs

abbrev pub with_record : List ℕ → List ℕ → Records → Records
with_record id v rs = (id, v) ∷ without_record id rs

abbrev pub with_change : List ℕ → Option (List ℕ) → Records → Records
with_change id (Some v) rs = with_record id v rs
with_change id None rs = without_record id rs

abbrev pub found : FieldsModel → ℕ → List ℕ → Records → List (List ℕ)
found fs n f rs = keys_set (map (λ r. r.0) (filter (λ r. has_field fs n f r.1) rs))

-- ---- runs

pub record Run : Type 0 where
  pub records : Records
  pub last : ℕ

abbrev pub begun : ℕ → Run
begun n = record { records = []; last = n }

pub data Reply : Type 0 where
  Done : Reply
  Refused : IndexError → Reply
  FoundAre : List (List ℕ) → Reply

-- the greatest number of a commit
abbrev pub last_seq : ℕ
last_seq = 2 ^ 64 - 2

abbrev pub committed : Run → Option IndexError → Records → Run × Reply
committed r (Some e) rs = (r, Reply.Refused e)
committed r None rs =
    if nat_le last_seq r.last then (r, Reply.Refused (errors.Db SequenceExhausted))
    else (record { records = rs; last = r.last + 1 }, Reply.Done)

abbrev pub stepped : FieldsModel → Run → Line → Run × Reply
stepped fs r (lines.Put id v) = committed r (put_refusal fs v) (with_record id v r.records)
stepped fs r (lines.Delete id) = committed r (delete_refusal id (record_at r.records id)) (without_record id r.records)
stepped fs r (lines.Find n f) = (r, Reply.FoundAre (found fs n f r.records))

-- ---- replies

-- an id is printed as it stands
abbrev pub refusal_words : IndexError → List (List ℕ)
refusal_words (errors.FieldTooLong number len) = codes "FieldTooLong" ∷ decimal number ∷ decimal len ∷ []
refusal_words (errors.NoRecord id) = codes "NoRecord" ∷ id ∷ []
refusal_words (errors.Db e) = error_words e
refusal_words (errors.ForeignCommit seq) = codes "ForeignCommit" ∷ decimal seq ∷ []

abbrev pub reply_words : Reply → List (List ℕ)
reply_words Reply.Done = codes "ok" ∷ []
reply_words (Reply.Refused e) = codes "refused" ∷ refusal_words e
reply_words (Reply.FoundAre ids) = codes "found" ∷ decimal (length ids) ∷ ids

abbrev pub reply_line : Reply → List ℕ
reply_line a = join_with_byte 32 (reply_words a) ++ (10 ∷ [])

-- ---- a script

-- a silent line, and one that asks for nothing, change and write nothing
abbrev pub after_by : FieldsModel → Bool → Option Line → Run → Run
after_by fs true line r = r
after_by fs false None r = r
after_by fs false (Some line) r = (stepped fs r line).0

abbrev pub said_by : FieldsModel → Bool → Option Line → Run → List ℕ
said_by fs true line r = []
said_by fs false None r = []
said_by fs false (Some line) r = reply_line (stepped fs r line).1

abbrev pub after : FieldsModel → Run → List ℕ → Run
after fs r line = after_by fs (is_silent line) (meaning fs line) r

abbrev pub said : FieldsModel → Run → List ℕ → List ℕ
said fs r line = said_by fs (is_silent line) (meaning fs line) r

abbrev pub says : FieldsModel → Run → List (List ℕ) → List ℕ
says fs r [] = []
says fs r (line ∷ rest) = said fs r line ++ says fs (after fs r line) rest
