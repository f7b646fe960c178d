-- Scripts of a queue: what their lines mean, and what they are answered.
--     meaning bytes      what a line's bytes ask for, where they ask for something
--     takes line      the line is silent, or asks for something
--     Run      a queue, the newest number of a commit, and the number of each commit with how many keys it has
--     begun n      at first, where the numbers begin behind n
--     keys_of a      how many keys the commit of an answer has, and none where there is no commit
--     fed_above after r      the commits above a number
--     Reply      what a line is answered
--     stepped r line      the run behind a line and its reply
--     reply_words a, reply_line a      the words of a reply, and its bytes
--     after r line, said r line      of a line's bytes: the run behind it, and what is written for it
--     says r lines      what is written for lines
use Rattle.std.specs.Prelude.{ℕ, ◌+◌, ◌-◌, ◌^◌, Bool, true, false, ◌||◌, if◌then◌else◌, nat_le, nat_lt, List, [], ◌∷◌, ◌++◌, filter, flat_map, length, Option, Some, None, option_map, is_some, Result, Ok, Err, bytes_eq, codes, decimal}
use Rattle.std.specs.List.{join_with_byte}
use Rattle.slate_types.specs.declared.error.SlateDBError.TheVariants.{SequenceExhausted}
use Rattle.slate_language.specs.Parse.{both, read_bytes, read_moment, read_number, tokens_of}
use Rattle.slate_language.specs.Replies.{is_silent}
use Rattle.slate_language.specs.Text.{error_words, shown_bytes}
use Rattle.slate_queue.specs.declared.error.QueueError.{QueueError}
use Rattle.slate_queue.specs.declared.error.QueueError.TheVariants as errors
use Rattle.slate_queue.specs.declared.line.Line.{Line}
use Rattle.slate_queue.specs.declared.line.Line.TheVariants as lines
use Rattle.slate_queue.specs.Jobs.{Queue, Call, Answer, no_jobs, queue_step}

-- ---- lines

abbrev pub add_line : List (List ℕ) → Option Line
add_line (t ∷ []) = option_map lines.Add (read_bytes t)
add_line _ = None

abbrev pub claim_line : List (List ℕ) → Option Line
claim_line (t ∷ u ∷ []) = both lines.Claim (read_moment t) (read_number u)
claim_line _ = None

abbrev pub finish_line : List (List ℕ) → Option Line
finish_line (t ∷ u ∷ []) = both lines.Finish (read_number t) (read_number u)
finish_line _ = None

abbrev pub feed_line : List (List ℕ) → Option Line
feed_line (t ∷ []) = option_map lines.Feed (read_number t)
feed_line _ = None

abbrev pub line_behind : List ℕ → List (List ℕ) → Option Line
line_behind word ts =
    if bytes_eq word (codes "add") then add_line ts
    else if bytes_eq word (codes "claim") then claim_line ts
    else if bytes_eq word (codes "finish") then finish_line ts
    else if bytes_eq word (codes "feed") then feed_line ts
    else None

abbrev pub line_of : List (List ℕ) → Option Line
line_of [] = None
line_of (word ∷ ts) = line_behind word ts

abbrev pub meaning : List ℕ → Option Line
meaning bytes = line_of (tokens_of bytes)

abbrev pub takes : List ℕ → Bool
takes line = is_silent line || is_some (meaning line)

-- ---- runs

pub record Run : Type 0 where
  pub queue : Queue
  pub last : ℕ
  pub fed : List (ℕ × ℕ)

abbrev pub begun : ℕ → Run
begun n = record { queue = no_jobs; last = n; fed = [] }

pub data Reply : Type 0 where
  Answered : Answer → Reply
  Refused : QueueError → Reply
  FeedIs : List (ℕ × ℕ) → Reply

abbrev pub keys_of : Answer → Option ℕ
keys_of (Answer.Added id) = Some 2
keys_of (Answer.Claimed id lease payload) = Some 1
keys_of Answer.NoneFree = None
keys_of Answer.Finished = Some 1

-- the greatest number of a commit
abbrev pub last_seq : ℕ
last_seq = 2 ^ 64 - 2

abbrev pub committed : Run → Queue → Answer → Option ℕ → Run × Reply
committed r q a None = (r, Reply.Answered a)
committed r q a (Some keys) =
    if nat_le last_seq r.last then (r, Reply.Refused (errors.Db SequenceExhausted))
    else (record { queue = q; last = r.last + 1; fed = r.fed ++ ((r.last + 1, keys) ∷ []) }, Reply.Answered a)

abbrev pub called : Run → Result (Queue × Answer) QueueError → Run × Reply
called r (Err e) = (r, Reply.Refused e)
called r (Ok p) = committed r p.0 p.1 (keys_of p.1)

abbrev pub fed_above : ℕ → Run → List (ℕ × ℕ)
fed_above after r = filter (λ (p : ℕ × ℕ). nat_lt after p.0) r.fed

abbrev pub stepped : Run → Line → Run × Reply
stepped r (lines.Add payload) = called r (queue_step r.queue (Call.Add payload))
stepped r (lines.Claim now ms) = called r (queue_step r.queue (Call.Claim now ms))
stepped r (lines.Finish id lease) = called r (queue_step r.queue (Call.Finish id lease))
stepped r (lines.Feed after) = (r, Reply.FeedIs (fed_above after r))

-- ---- replies

abbrev pub answer_words : Answer → List (List ℕ)
answer_words (Answer.Added id) = codes "added" ∷ decimal id ∷ []
answer_words (Answer.Claimed id lease payload) = codes "claimed" ∷ decimal id ∷ decimal lease ∷ shown_bytes payload ∷ []
answer_words Answer.NoneFree = codes "none" ∷ []
answer_words Answer.Finished = codes "ok" ∷ []

-- a key is printed as it stands
abbrev pub refusal_words : QueueError → List (List ℕ)
refusal_words (errors.PayloadTooLong len) = codes "PayloadTooLong" ∷ decimal len ∷ []
refusal_words (errors.NoJob id) = codes "NoJob" ∷ decimal id ∷ []
refusal_words (errors.StaleLease current) = codes "StaleLease" ∷ decimal current ∷ []
refusal_words (errors.LeasesSpent id) = codes "LeasesSpent" ∷ decimal id ∷ []
refusal_words errors.IdsSpent = codes "IdsSpent" ∷ []
refusal_words (errors.BadJob key) = codes "BadJob" ∷ key ∷ []
refusal_words (errors.Db e) = error_words e
refusal_words (errors.ForeignCommit seq) = codes "ForeignCommit" ∷ decimal seq ∷ []

abbrev pub fed_words : ℕ × ℕ → List (List ℕ)
fed_words p = decimal p.0 ∷ decimal p.1 ∷ []

abbrev pub reply_words : Reply → List (List ℕ)
reply_words (Reply.Answered a) = answer_words a
reply_words (Reply.Refused e) = codes "refused" ∷ refusal_words e
reply_words (Reply.FeedIs es) = codes "feed" ∷ decimal (length es) ∷ flat_map fed_words es

abbrev pub reply_line : Reply → List ℕ
reply_line a = join_with_byte 32 (reply_words a) ++ (10 ∷ [])

-- ---- a script

-- a silent line, and one that asks for nothing, change and write nothing
abbrev pub after_by : Bool → Option Line → Run → Run
after_by true line r = r
after_by false None r = r
after_by false (Some line) r = (stepped r line).0

abbrev pub said_by : Bool → Option Line → Run → List ℕ
said_by true line r = []
said_by false None r = []
said_by false (Some line) r = reply_line (stepped r line).1

abbrev pub after : Run → List ℕ → Run
after r line = after_by (is_silent line) (meaning line) r

abbrev pub said : Run → List ℕ → List ℕ
said r line = said_by (is_silent line) (meaning line) r

abbrev pub says : Run → List (List ℕ) → List ℕ
says r [] = []
says r (line ∷ rest) = said r line ++ says (after r line) rest
