-- Worked scripts with their replies, and the options that they run with.
use Rattle.std.specs.Prelude.{◌≡◌, ℕ, replicate, ◌-◌, ◌^◌, List, [], ◌∷◌, ◌++◌, map, flat_map, Some, None, codes}
use Prim.Native.String.{String}
use Rattle.slate_types.specs.declared.filter_policy.PrefixTarget.TheVariants.{Point}
use Rattle.slate_filter.specs.Extractors.{last_colon}
use Rattle.slate_txn.specs.State.{Rules}
use Rattle.slate_language.specs.Parts.{concat, greater}
use Rattle.slate_language.specs.Generate.{generate, summary}
use Rattle.slate_language.specs.Replies.{replies, replies}

abbrev pub plain : Rules
plain = record { default_millis = None; start_seq = 0; combine = None; segment = None }

abbrev pub concatenating : Rules
concatenating = record { default_millis = None; start_seq = 0; combine = Some concat; segment = None }

abbrev pub keeping_the_greatest : Rules
keeping_the_greatest = record { default_millis = None; start_seq = 0; combine = Some greater; segment = None }

abbrev pub near_the_end : Rules
near_the_end = record { default_millis = None; start_seq = 2 ^ 64 - 3; combine = None; segment = None }

abbrev pub by_last_colon : Rules
by_last_colon = record { default_millis = None; start_seq = 0; combine = None; segment = Some (λ k. last_colon (Point k)) }

abbrev pub ten_millis : Rules
ten_millis = record { default_millis = Some 10; start_seq = 0; combine = None; segment = None }

-- the lines, each with its end
abbrev pub text : List String → List ℕ
text ls = flat_map (λ l. codes l ++ (10 ∷ [])) ls

-- a line and its reply
infix 12 ◌▹◌
abbrev pub ◌▹◌ : String → String → String × String
a ▹ b = (a, b)

-- the script of these lines has these replies
abbrev pub Answers : Rules → List (String × String) → Type 0
Answers r ps = replies r (text (map (λ p. p.0) ps)) ≡ text (map (λ p. p.1) ps)

-- an empty script, a last line without its end, and a line that is none
abbrev pub ShortScripts : Type 0
ShortScripts = (replies plain [] ≡ []) × (replies plain (codes "flush") ≡ text ("flushed 0" ∷ [])) × (replies plain (text ("begin t si" ∷ "get t" ∷ [])) ≡ text ("begun t 0" ∷ []))

abbrev pub OlderReader : Type 0
OlderReader = Answers plain (
    ("begin t si" ▹ "begun t 0") ∷
    ("get t 'a" ▹ "none") ∷
    ("write put 'a '1" ▹ "written 1") ∷
    ("get t 'a" ▹ "none") ∷
    ("rollback t" ▹ "ok") ∷
    [])

abbrev pub conflict_closes : List (String × String)
conflict_closes =
    ("begin t ssi" ▹ "begun t 0") ∷
    ("begin t si" ▹ "refused DuplicateTransaction t") ∷
    ("get t 'a" ▹ "none") ∷
    ("write put 'a '1" ▹ "written 1") ∷
    ("put t 'b '2" ▹ "ok") ∷
    ("commit t" ▹ "refused TransactionConflict 1") ∷
    ("commit t" ▹ "refused UnknownTransaction t") ∷
    []

abbrev pub ConflictCloses : Type 0
ConflictCloses = Answers plain conflict_closes

abbrev pub empty_scan : List (String × String)
empty_scan =
    ("begin t ssi" ▹ "begun t 0") ∷
    ("scan t asc * *" ▹ "rows 0") ∷
    ("write put 'c '1" ▹ "written 1") ∷
    ("freeze" ▹ "frozen 1") ∷
    ("flush" ▹ "flushed 1") ∷
    ("scan t asc * *" ▹ "rows 0") ∷
    ("commit t" ▹ "refused TransactionConflict 1") ∷
    []

abbrev pub EmptyScanIsARead : Type 0
EmptyScanIsARead = Answers plain empty_scan

abbrev pub unmarked_write : List (String × String)
unmarked_write =
    ("begin t ssi" ▹ "begun t 0") ∷
    ("get t 'a" ▹ "none") ∷
    ("begin u si" ▹ "begun u 0") ∷
    ("unmark u 'a" ▹ "ok") ∷
    ("put u 'a '1" ▹ "ok") ∷
    ("commit u" ▹ "committed 1") ∷
    ("put t 'b '2" ▹ "ok") ∷
    ("commit t" ▹ "committed 2") ∷
    ("journal" ▹ "journal 2 1 0 0 2 0 1 'b") ∷
    []

abbrev pub UnmarkedWrite : Type 0
UnmarkedWrite = Answers plain unmarked_write

abbrev pub marked_key : List (String × String)
marked_key =
    ("begin t si" ▹ "begun t 0") ∷
    ("mark t 'a" ▹ "ok") ∷
    ("write put 'a '1" ▹ "written 1") ∷
    ("commit t" ▹ "refused TransactionConflict 1") ∷
    []

abbrev pub MarkedKey : Type 0
MarkedKey = Answers plain marked_key

abbrev pub one_ttl_a_key : List (String × String)
one_ttl_a_key =
    ("write delete 'a merge 'a '1 t5" ▹ "refused IncompatibleMergeTtls 'a 5 -") ∷
    ("journal" ▹ "journal 0") ∷
    []

abbrev pub OneTtlAKey : Type 0
OneTtlAKey = Answers concatenating one_ttl_a_key

abbrev pub no_operator : List (String × String)
no_operator =
    ("write merge 'a '1 put 'a '2" ▹ "refused MergeOperatorMissing") ∷
    ("begin t si" ▹ "begun t 0") ∷
    ("merge t ' '1" ▹ "refused MergeOperatorMissing") ∷
    []

abbrev pub NoOperator : Type 0
NoOperator = Answers plain no_operator

abbrev pub between_operands : List (String × String)
between_operands =
    ("write merge 'k 'a" ▹ "written 1") ∷
    ("write merge 'k 'b" ▹ "written 2") ∷
    ("begin t si" ▹ "begun t 2") ∷
    ("write merge 'k 'c" ▹ "written 3") ∷
    ("flush" ▹ "flushed 3") ∷
    ("get t 'k" ▹ "row 'k 'ab 2 0 -") ∷
    ("begin u si" ▹ "begun u 3") ∷
    ("get u 'k" ▹ "row 'k 'abc 3 0 -") ∷
    []

abbrev pub BetweenOperands : Type 0
BetweenOperands = Answers concatenating between_operands

abbrev pub own_above_all : List (String × String)
own_above_all =
    ("now 100" ▹ "now 100") ∷
    ("write put 'k 'a t50" ▹ "written 1") ∷
    ("begin t si" ▹ "begun t 1") ∷
    ("merge t 'k 'b" ▹ "ok") ∷
    ("get t 'k" ▹ "row 'k 'ab 18446744073709551615 100 150") ∷
    []

abbrev pub OwnAboveAll : Type 0
OwnAboveAll = Answers concatenating own_above_all

abbrev pub greatest_operand : List (String × String)
greatest_operand =
    ("write merge 'k 'b" ▹ "written 1") ∷
    ("flush" ▹ "flushed 1") ∷
    ("write merge 'k 'a" ▹ "written 2") ∷
    ("flush" ▹ "flushed 2") ∷
    ("begin t si" ▹ "begun t 2") ∷
    ("get t 'k" ▹ "row 'k 'b 2 0 -") ∷
    []

abbrev pub GreatestOperand : Type 0
GreatestOperand = Answers keeping_the_greatest greatest_operand

abbrev pub back_with_a_seek : List (String × String)
back_with_a_seek =
    ("begin z si" ▹ "begun z 0") ∷
    ("write put 'a '1" ▹ "written 1") ∷
    ("write put 'b '1" ▹ "written 2") ∷
    ("write put 'b '2" ▹ "written 3") ∷
    ("write put 'b '3" ▹ "written 4") ∷
    ("write put 'c '1" ▹ "written 5") ∷
    ("flush" ▹ "flushed 5") ∷
    ("begin t si" ▹ "begun t 5") ∷
    ("scan t desc * * n1 s'b n9" ▹ "rows 3 'c '1 5 0 - 'b '3 4 0 - 'a '1 1 0 -") ∷
    ("scan z asc * *" ▹ "rows 0") ∷
    []

abbrev pub BackWithASeek : Type 0
BackWithASeek = Answers plain back_with_a_seek

abbrev pub PrefixWithoutEnd : Type 0
PrefixWithoutEnd = Answers plain (
    ("write put 0xffff '1 put 'a '2" ▹ "written 1") ∷
    ("begin t ssi" ▹ "begun t 1") ∷
    ("prefix t asc 0xff * *" ▹ "rows 1 0xffff '1 1 0 -") ∷
    ("scan t asc e'a e'a" ▹ "refused InvalidRange") ∷
    ("write put 'a '3" ▹ "written 2") ∷
    ("commit t" ▹ "committed -") ∷
    [])

abbrev pub LastSequence : Type 0
LastSequence = Answers near_the_end (
    ("write put 'a '1" ▹ "written 18446744073709551614") ∷
    ("write put 'b '1" ▹ "refused SequenceExhausted") ∷
    ("write" ▹ "written -") ∷
    [])

abbrev pub SegmentsNeverNest : Type 0
SegmentsNeverNest = Answers by_last_colon (
    ("write put 'a:x '1" ▹ "written 1") ∷
    ("write put 'a:b:x '1" ▹ "refused InvalidSegmentPrefix 'a:b: 'a:") ∷
    ("write put 'ab '1" ▹ "refused EmptySegmentPrefix 'ab") ∷
    ("write put 'c:x '1 put 'c:d:x '2" ▹ "refused InvalidSegmentPrefix 'c: 'c:d:") ∷
    ("write put 'c:d:x '3" ▹ "written 2") ∷
    ("flush" ▹ "flushed 2") ∷
    ("begin t si" ▹ "begun t 2") ∷
    ("scan t asc * *" ▹ "rows 2 'a:x '1 1 0 - 'c:d:x '3 2 0 -") ∷
    [])

abbrev pub snapshot_reads : List (String × String)
snapshot_reads =
    ("write put 'a '1" ▹ "written 1") ∷
    ("snapshot s" ▹ "snapshot s 1") ∷
    ("write put 'a '2" ▹ "written 2") ∷
    ("flush" ▹ "flushed 2") ∷
    ("get s 'a" ▹ "row 'a '1 1 0 -") ∷
    ("put s 'a '9" ▹ "refused UnknownTransaction s") ∷
    ("rollback s" ▹ "ok") ∷
    []

abbrev pub SnapshotReads : Type 0
SnapshotReads = Answers plain snapshot_reads

abbrev pub TimesToLive : Type 0
TimesToLive = Answers ten_millis (
    ("now 5" ▹ "now 5") ∷
    ("write put 'a '1 put 'b '2 t- put 'c '3 t18446744073709551615" ▹ "written 1") ∷
    ("begin t si" ▹ "begun t 1") ∷
    ("scan t asc * *" ▹ "rows 3 'a '1 1 5 15 'b '2 1 5 - 'c '3 1 5 -") ∷
    [])

abbrev pub first_day : List (String × String)
first_day =
    ("write put 'test_key 'test_value" ▹ "written 1") ∷
    ("write delete 'test_key" ▹ "written 2") ∷
    ("write put 'test_key1 'test_value1 put 'test_key2 'test_value2 put 'test_key3 'test_value3 put 'test_key4 'test_value4" ▹ "written 3") ∷
    ("begin r si" ▹ "begun r 3") ∷
    ("get r 'test_key" ▹ "none") ∷
    ("scan r asc i'test_key1 i'test_key2" ▹ "rows 2 'test_key1 'test_value1 3 0 - 'test_key2 'test_value2 3 0 -") ∷
    ("scan r asc * * s'test_key4 n2" ▹ "rows 1 'test_key4 'test_value4 3 0 -") ∷
    []

abbrev pub FirstDay : Type 0
FirstDay = Answers plain first_day

-- Orders come in four transactions, and a reader takes the first of the last ones.
abbrev pub OrdinaryDay : Type 0
OrdinaryDay = Answers plain (
    ("begin t ssi" ▹ "begun t 0") ∷
    ("put t 'order:001 'open" ▹ "ok") ∷
    ("put t 'order:002 'open" ▹ "ok") ∷
    ("get t 'order:001" ▹ "row 'order:001 'open 18446744073709551615 0 -") ∷
    ("commit t" ▹ "committed 1") ∷
    ("begin t ssi" ▹ "begun t 1") ∷
    ("put t 'order:003 'open" ▹ "ok") ∷
    ("put t 'order:004 'open" ▹ "ok") ∷
    ("get t 'order:003" ▹ "row 'order:003 'open 18446744073709551615 0 -") ∷
    ("commit t" ▹ "committed 2") ∷
    ("flush" ▹ "flushed 2") ∷
    ("begin t ssi" ▹ "begun t 2") ∷
    ("put t 'order:190 'open" ▹ "ok") ∷
    ("get t 'order:190" ▹ "row 'order:190 'open 18446744073709551615 0 -") ∷
    ("commit t" ▹ "committed 3") ∷
    ("begin t ssi" ▹ "begun t 3") ∷
    ("put t 'order:191 'open" ▹ "ok") ∷
    ("put t 'order:192 'open" ▹ "ok") ∷
    ("put t 'order:193 'open" ▹ "ok") ∷
    ("get t 'order:191" ▹ "row 'order:191 'open 18446744073709551615 0 -") ∷
    ("commit t" ▹ "committed 4") ∷
    ("flush" ▹ "flushed 4") ∷
    ("begin r si" ▹ "begun r 4") ∷
    ("prefix r asc 'order:19 * * n3" ▹ "rows 3 'order:190 'open 3 0 - 'order:191 'open 4 0 - 'order:192 'open 4 0 -") ∷
    [])

-- A tombstone hides what is older, in memory and in a table.
abbrev pub DeletedKey : Type 0
DeletedKey = Answers plain (
    ("write put 'a '1" ▹ "written 1") ∷
    ("freeze" ▹ "frozen 1") ∷
    ("write delete 'a" ▹ "written 2") ∷
    ("begin t si" ▹ "begun t 2") ∷
    ("get t 'a" ▹ "none") ∷
    ("flush" ▹ "flushed 2") ∷
    ("get t 'a" ▹ "none") ∷
    [])

-- ---- more of each kind of line

-- A reader that begins behind a write sees it.
abbrev pub NewerReader : Type 0
NewerReader = Answers plain (
    ("begin t si" ▹ "begun t 0") ∷
    ("get t 'a" ▹ "none") ∷
    ("write put 'a '1" ▹ "written 1") ∷
    ("get t 'a" ▹ "none") ∷
    ("rollback t" ▹ "ok") ∷
    ("begin u si" ▹ "begun u 1") ∷
    ("get u 'a" ▹ "row 'a '1 1 0 -") ∷
    [])

-- A name is closed once.
abbrev pub ClosedName : Type 0
ClosedName = Answers plain (
    ("begin t si" ▹ "begun t 0") ∷
    ("begin t si" ▹ "refused DuplicateTransaction t") ∷
    ("rollback t" ▹ "ok") ∷
    ("rollback t" ▹ "refused UnknownTransaction t") ∷
    [])

-- A moment, several operations with times to live, bytes in hex, and lines that store.
abbrev pub MomentsAndHex : Type 0
MomentsAndHex = Answers ten_millis (
    ("now -5" ▹ "now -5") ∷
    ("write put 'a '1 put 0x00ff '2 t- put 0x6263 0x t5 delete 'd" ▹ "written 1") ∷
    ("freeze" ▹ "frozen 1") ∷
    ("begin t si" ▹ "begun t 1") ∷
    ("now 9" ▹ "now 9") ∷
    ("write delete 'a put 'd '3 put 'd '4" ▹ "written 2") ∷
    ("flush" ▹ "flushed 2") ∷
    ("get t 'a" ▹ "row 'a '1 1 -5 5") ∷
    ("get t 0x00ff" ▹ "row 0x00ff '2 1 -5 -") ∷
    ("get t 'bc" ▹ "row 'bc ' 1 -5 0") ∷
    ("get t 'd" ▹ "none") ∷
    ("begin u si" ▹ "begun u 2") ∷
    ("get u 'a" ▹ "none") ∷
    ("get u 0x64" ▹ "row 'd '4 2 9 19") ∷
    [])

-- Keys that no batch takes, and that every get may ask for.
abbrev pub RefusedKeys : Type 0
RefusedKeys = Answers plain (
    ("write put ' '1" ▹ "refused EmptyKey") ∷
    ("write put 'a '1 delete 0x" ▹ "refused EmptyKey") ∷
    ("write" ▹ "written -") ∷
    ("begin t si" ▹ "begun t 0") ∷
    ("get t 'a" ▹ "none") ∷
    ("get t '" ▹ "none") ∷
    [])

-- A range that is refused is no read.
abbrev pub RefusedRange : Type 0
RefusedRange = Answers plain (
    ("begin t ssi" ▹ "begun t 0") ∷
    ("put t 'a '1" ▹ "ok") ∷
    ("scan t asc e'a e'a" ▹ "refused InvalidRange") ∷
    ("scan t asc e'a *" ▹ "rows 0") ∷
    ("scan t desc i'a i'a n0" ▹ "rows 0") ∷
    ("scan t desc i'a i'a n2" ▹ "rows 1 'a '1 18446744073709551615 0 -") ∷
    ("scan u asc e'a e'a" ▹ "refused UnknownTransaction u") ∷
    [])

-- A snapshot's name is open to reads and to its rollback alone, and no transaction has it meanwhile.
abbrev pub SnapshotName : Type 0
SnapshotName = Answers plain (
    ("write put 'a '1" ▹ "written 1") ∷
    ("snapshot s" ▹ "snapshot s 1") ∷
    ("begin s si" ▹ "refused DuplicateTransaction s") ∷
    ("begin t ssi" ▹ "begun t 1") ∷
    ("snapshot t" ▹ "refused DuplicateTransaction t") ∷
    ("put t 'b '2" ▹ "ok") ∷
    ("commit t" ▹ "committed 2") ∷
    ("scan s asc * *" ▹ "rows 1 'a '1 1 0 -") ∷
    ("delete s 'a" ▹ "refused UnknownTransaction s") ∷
    ("mark s 'a" ▹ "refused UnknownTransaction s") ∷
    ("unmark s 'a" ▹ "refused UnknownTransaction s") ∷
    ("commit s" ▹ "refused UnknownTransaction s") ∷
    ("rollback s" ▹ "ok") ∷
    ("get s 'a" ▹ "refused UnknownTransaction s") ∷
    ("snapshot s" ▹ "snapshot s 2") ∷
    ("scan s desc * * n1" ▹ "rows 1 'b '2 2 0 -") ∷
    [])

-- Own operations have no stamps before their commit, which tracks them; a commit of none has no sequence.
abbrev pub OwnOperations : Type 0
OwnOperations = Answers ten_millis (
    ("now 5" ▹ "now 5") ∷
    ("begin t ssi" ▹ "begun t 0") ∷
    ("put t 'a '1 t50" ▹ "ok") ∷
    ("get t 'a" ▹ "row 'a '1 18446744073709551615 0 -") ∷
    ("put t 'b '2" ▹ "ok") ∷
    ("delete t 'b" ▹ "ok") ∷
    ("get t 'b" ▹ "none") ∷
    ("put t ' '1" ▹ "refused EmptyKey") ∷
    ("mark t 'x 'y" ▹ "ok") ∷
    ("commit t" ▹ "committed 1") ∷
    ("begin u si" ▹ "begun u 1") ∷
    ("get u 'a" ▹ "row 'a '1 1 5 55") ∷
    ("get u 'b" ▹ "none") ∷
    ("commit u" ▹ "committed -") ∷
    ("journal" ▹ "journal 1 1 5 2 'a 'b") ∷
    [])

-- Operands of one expiry, and of several behind a put.
abbrev pub MergedExpiries : Type 0
MergedExpiries = Answers concatenating (
    ("now 100" ▹ "now 100") ∷
    ("write put 'a '1 t50" ▹ "written 1") ∷
    ("write merge 'a '2 t50" ▹ "written 2") ∷
    ("write delete 'a merge 'a '1 t5" ▹ "refused IncompatibleMergeTtls 'a 105 -") ∷
    ("write merge 'a '1 t5 put 'a '2" ▹ "written 3") ∷
    [])

-- The keys behind a prefix, by a sub-range of what stands behind it; all of the composed range is read.
abbrev pub PrefixOfARange : Type 0
PrefixOfARange = Answers plain (
    ("write put 'a '0 put 'a:b '1 put 'a:c '2 put 'b '3" ▹ "written 1") ∷
    ("begin t ssi" ▹ "begun t 1") ∷
    ("prefix t desc 'a: * *" ▹ "rows 2 'a:c '2 1 0 - 'a:b '1 1 0 -") ∷
    ("prefix t asc 'a: e'b i'c" ▹ "rows 1 'a:c '2 1 0 -") ∷
    ("prefix t asc 'a: e'b e'b" ▹ "refused InvalidRange") ∷
    ("prefix t asc ' * e'a:" ▹ "rows 1 'a '0 1 0 -") ∷
    ("prefix u asc 'a: e'b e'b" ▹ "refused UnknownTransaction u") ∷
    ("put t 'z '1" ▹ "ok") ∷
    ("write put 'a:d '4" ▹ "written 2") ∷
    ("commit t" ▹ "refused TransactionConflict 2") ∷
    [])

-- a scan of two rows that is read in part, a write into its range behind it, and a commit
abbrev pub partly_read : String → String → String → String → List (String × String)
partly_read scan rows write ends =
    ("write put 'a '1 put 'm '1" ▹ "written 1") ∷
    ("begin t ssi" ▹ "begun t 1") ∷
    (scan ▹ rows) ∷
    (write ▹ "written 2") ∷
    ("commit t" ▹ ends) ∷
    []

-- A scan tracks no more than what it has read: up to the farthest row or sought key, in its order, and all of its range once it reported its end.
abbrev pub PartlyReadScans : Type 0
PartlyReadScans = Answers plain (partly_read "scan t asc * * n1" "rows 1 'a '1 1 0 -" "write put 'z '1" "committed -")
    × Answers plain (partly_read "scan t asc * * n2" "rows 2 'a '1 1 0 - 'm '1 1 0 -" "write put 'z '1" "committed -")
    × Answers plain (partly_read "scan t asc * * n3" "rows 2 'a '1 1 0 - 'm '1 1 0 -" "write put 'z '1" "refused TransactionConflict 2")
    × Answers plain (partly_read "scan t desc * * n1" "rows 1 'm '1 1 0 -" "write put 'z '1" "refused TransactionConflict 2")
    × Answers plain (partly_read "scan t asc * * s'k" "rows 0" "write put 'b '1" "refused TransactionConflict 2")
    × Answers plain (partly_read "scan t asc * * s'k" "rows 0" "write put 'l '1" "committed -")
    × Answers plain (partly_read "scan t asc * * n0" "rows 0" "write put 'a '1" "committed -")

-- A line that is none ends a script.
abbrev pub NoLines : Type 0
NoLines = (replies plain (text ("begin t si" ∷ "prefix t asc 'a *" ∷ "begin u si" ∷ [])) ≡ text ("begun t 0" ∷ []))
    × (replies plain (text ("mark t" ∷ [])) ≡ [])
    × (replies plain (text ("write put 'a '1 merge 'a" ∷ [])) ≡ [])
    × (replies plain (text ("write put 0x6A '1" ∷ [])) ≡ [])
    × (replies plain (text ("write put 'a '1 t05" ∷ [])) ≡ [])
    × (replies plain (text ("# a comment" ∷ "" ∷ "now -0" ∷ [])) ≡ [])

-- One round from 0, and its line.
abbrev pub OneMadeRound : Type 0
OneMadeRound = (generate 1 0 ≡ text ("begin t ssi" ∷ "get t 'k807" ∷ "put t 'k424 'v1" ∷ "commit t" ∷ "flush" ∷ []))
    × (summary plain (generate 1 0) ≡ text ("replies 5 committed 1 hits 0" ∷ []))

-- a key of 65535 bytes, one of 65536, an empty one, and a get of the key that is too long
abbrev pub long_key : ℕ → List ℕ
long_key n = codes "write put '" ++ replicate n 97 ++ codes " '1"

abbrev pub LongKeys : Type 0
LongKeys = (replies plain (long_key 65535) ≡ text ("written 1" ∷ []))
    × (replies plain (long_key 65536) ≡ text ("refused KeyTooLong 65536" ∷ []))
    × (replies plain (text ("write put ' '1" ∷ [])) ≡ text ("refused EmptyKey" ∷ []))
    × (replies plain (text ("begin t si" ∷ []) ++ codes "get t '" ++ replicate 65536 97) ≡ text ("begun t 0" ∷ "none" ∷ []))
