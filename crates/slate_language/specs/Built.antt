-- Lines read from their tokens, in the order in which the code reads them.
--     until_space bytes      how many bytes stand before the first space
--     is_name t, is_numeral t, is_moment_text t      what a name, a number and a moment look like
--     keyword t      the word that begins a line
--     built_ops ts      the operations that the tokens of a write mean
--     built_tokens ts      the line that the tokens mean
-- `built_tokens` of a line's tokens is `parse`, as proved in proofs/BuiltLaws.antt.
use Rattle.std.specs.Prelude.{ℕ, Bool, false, ◌&&◌, ◌||◌, not, if◌then◌else◌, ◌==◌, nat_lt, nat_le, List, [], ◌∷◌, length, Option, Some, None, option_map, codes, bytes_eq, is_some}
use Rattle.std.specs.List.{list_all, position_or_len}
use Rattle.slate_mem.specs.declared.WriteOp.{WriteOp}
use Rattle.slate_mem.specs.declared.WriteOp.TheVariants as ops
use Rattle.slate_mem.specs.Batch.{Ops}
use Rattle.slate_txn.specs.declared.line.Line.{Line}
use Rattle.slate_txn.specs.declared.line.Line.TheVariants as lines
use Rattle.slate_language.specs.declared.parse.Keyword.{Keyword}
use Rattle.slate_language.specs.declared.parse.Keyword.TheVariants.{Begin, Snapshot, Get, Scan, Prefix, Put, Merge, Delete, Mark, Unmark, Commit, Rollback, Now, Write, Freeze, Flush, Journal}
use Rattle.slate_language.specs.Grammar.{is_name_byte}
use Rattle.slate_language.specs.Parse.{◌>>=◌, both, read_bytes, read_moment, read_name, read_level, read_order, read_pair, read_way, named, keyed, many_keyed, op_word, grouped, ops_of_groups}

-- ---- tokens

-- all, where there is no space
abbrev pub until_space : List ℕ → ℕ
until_space bytes = position_or_len (λ b. b == 32) bytes

abbrev pub is_name : List ℕ → Bool
is_name t = nat_lt 0 (length t) && nat_le (length t) 64 && list_all is_name_byte t

abbrev pub is_digit : ℕ → Bool
is_digit b = nat_le 48 b && nat_le b 57

-- no zero stands before other digits
abbrev pub is_numeral : List ℕ → Bool
is_numeral [] = false
is_numeral (b ∷ []) = is_digit b
is_numeral (b ∷ c ∷ bs) = not (b == 48) && list_all is_digit (b ∷ c ∷ bs)

-- `-` and 0 is none
abbrev pub is_moment_text : List ℕ → Bool
is_moment_text [] = false
is_moment_text (b ∷ bs) = if b == 45 then not (bytes_eq bs (codes "0")) && is_numeral bs else is_numeral (b ∷ bs)

abbrev pub is_hex_digit : ℕ → Bool
is_hex_digit b = nat_le 48 b && nat_le b 57 || nat_le 97 b && nat_le b 102

abbrev pub keyword_among : List (List ℕ × Keyword) → List ℕ → Option Keyword
keyword_among [] t = None
keyword_among (p ∷ ps) t = if bytes_eq t p.0 then Some p.1 else keyword_among ps t

-- the words of lines that name no transaction, those of the lines that end a transaction or change what its commit conflicts by, and those of its operations
abbrev pub unnamed : List (List ℕ × Keyword)
unnamed = (codes "now", Now) ∷ (codes "write", Write) ∷ (codes "freeze", Freeze) ∷ (codes "flush", Flush) ∷ (codes "journal", Journal) ∷ []

abbrev pub marking : List (List ℕ × Keyword)
marking = (codes "mark", Mark) ∷ (codes "unmark", Unmark) ∷ (codes "commit", Commit) ∷ (codes "rollback", Rollback) ∷ unnamed

abbrev pub writing : List (List ℕ × Keyword)
writing = (codes "put", Put) ∷ (codes "merge", Merge) ∷ (codes "delete", Delete) ∷ marking

abbrev pub keywords : List (List ℕ × Keyword)
keywords = (codes "begin", Begin) ∷ (codes "snapshot", Snapshot) ∷ (codes "get", Get) ∷ (codes "scan", Scan) ∷ (codes "prefix", Prefix) ∷ writing

abbrev pub keyword : List ℕ → Option Keyword
keyword t = keyword_among keywords t

-- ---- operations

abbrev pub is_op_word : List ℕ → Bool
is_op_word t = is_some (op_word t)

abbrev pub Op : Type 0
Op = List ℕ × WriteOp

abbrev pub built_put_op : List (List ℕ) → Option Op
built_put_op ts = read_pair (λ k v ttl. (k, ops.Put v (record { ttl = ttl }))) ts

abbrev pub built_merge_op : List (List ℕ) → Option Op
built_merge_op ts = read_pair (λ k v ttl. (k, ops.Merge v (record { ttl = ttl }))) ts

abbrev pub built_delete_op : List (List ℕ) → Option Op
built_delete_op (k ∷ []) = option_map (λ key. (key, ops.Delete)) (read_bytes k)
built_delete_op _ = None

-- from its word and the tokens behind it
abbrev pub built_op : List ℕ → List (List ℕ) → Option Op
built_op w ts = if bytes_eq w (codes "put") then built_put_op ts
    else if bytes_eq w (codes "merge") then built_merge_op ts
    else if bytes_eq w (codes "delete") then built_delete_op ts
    else None

abbrev pub built_ops : List (List ℕ) → Option Ops
built_ops ts = ops_of_groups (grouped ts)

-- ---- lines

abbrev pub built_now : List (List ℕ) → Option Line
built_now (t ∷ []) = option_map lines.Now (read_moment t)
built_now _ = None

abbrev pub built_begin : List (List ℕ) → Option Line
built_begin (n ∷ t ∷ []) = both lines.Begin (read_name n) (read_level t)
built_begin _ = None

abbrev pub built_snapshot : List (List ℕ) → Option Line
built_snapshot ts = named lines.Snapshot ts

abbrev pub built_get : List (List ℕ) → Option Line
built_get ts = keyed lines.Get ts

abbrev pub built_scan : List (List ℕ) → Option Line
built_scan (n ∷ t ∷ us) = read_name n >>= λ name. read_order t >>= λ order. read_way (lines.Scan name order) us
built_scan _ = None

abbrev pub built_prefix : List (List ℕ) → Option Line
built_prefix (n ∷ t ∷ k ∷ us) = read_name n >>= λ name. read_order t >>= λ order. read_bytes k >>= λ p. read_way (lines.Prefix name order p) us
built_prefix _ = None

abbrev pub built_put : List (List ℕ) → Option Line
built_put (n ∷ us) = read_name n >>= λ name. read_pair (lines.Put name) us
built_put _ = None

abbrev pub built_merge : List (List ℕ) → Option Line
built_merge (n ∷ us) = read_name n >>= λ name. read_pair (lines.Merge name) us
built_merge _ = None

abbrev pub built_delete : List (List ℕ) → Option Line
built_delete ts = keyed lines.Delete ts

abbrev pub built_mark : List (List ℕ) → Option Line
built_mark ts = many_keyed lines.Mark ts

abbrev pub built_unmark : List (List ℕ) → Option Line
built_unmark ts = many_keyed lines.Unmark ts

abbrev pub built_commit : List (List ℕ) → Option Line
built_commit ts = named lines.Commit ts

abbrev pub built_rollback : List (List ℕ) → Option Line
built_rollback ts = named lines.Rollback ts

abbrev pub built_write : List (List ℕ) → Option Line
built_write ts = option_map lines.Write (built_ops ts)

abbrev pub built_alone : Line → List (List ℕ) → Option Line
built_alone line [] = Some line
built_alone line (t ∷ ts) = None

abbrev pub built_as : Keyword → List (List ℕ) → Option Line
built_as Begin ts = built_begin ts
built_as Snapshot ts = built_snapshot ts
built_as Get ts = built_get ts
built_as Scan ts = built_scan ts
built_as Prefix ts = built_prefix ts
built_as Put ts = built_put ts
built_as Merge ts = built_merge ts
built_as Delete ts = built_delete ts
built_as Mark ts = built_mark ts
built_as Unmark ts = built_unmark ts
built_as Commit ts = built_commit ts
built_as Rollback ts = built_rollback ts
built_as Now ts = built_now ts
built_as Write ts = built_write ts
built_as Freeze ts = built_alone lines.Freeze ts
built_as Flush ts = built_alone lines.Flush ts
built_as Journal ts = built_alone lines.Journal ts

abbrev pub built_tokens : List (List ℕ) → Option Line
built_tokens [] = None
built_tokens (t ∷ ts) = keyword t >>= λ w. built_as w ts
