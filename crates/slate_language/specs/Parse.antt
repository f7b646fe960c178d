-- A line's meaning, computed.
--     tokens_of bytes      the bytes between spaces
--     parse bytes      the line that the bytes spell, where they spell one
use Rattle.std.specs.Prelude.{ℕ, ◌+◌, ◌-◌, ◌*◌, ◌^◌, Bool, true, false, ◌&&◌, if◌then◌else◌, ◌==◌, nat_lt, nat_le, List, [], ◌∷◌, length, Option, Some, None, option_map, ℤ, pos, neg_ℤ, codes, decimal, bytes_eq}
use Rattle.std.specs.Fmt.{signed_decimal}
use Rattle.std.specs.Str.Parse.{digits_value}
use Rattle.std.specs.List.{list_all}
use Rattle.std.specs.declared.ops.Bound.{Bound}
use Rattle.std.specs.declared.ops.Bound.TheVariants.{Included, Excluded, Unbounded}
use Rattle.slate_types.specs.declared.config.IsolationLevel.{IsolationLevel}
use Rattle.slate_types.specs.declared.config.IsolationLevel.TheVariants as levels
use Rattle.slate_types.specs.declared.iter.IterationOrder.{IterationOrder}
use Rattle.slate_types.specs.declared.iter.IterationOrder.TheVariants.{Ascending, Descending}
use Rattle.slate_types.specs.declared.config.Ttl.{Ttl}
use Rattle.slate_types.specs.declared.config.Ttl.TheVariants.{Default, NoExpiry, ExpireAfter}
use Rattle.slate_mem.specs.declared.WriteOp.{WriteOp}
use Rattle.slate_mem.specs.declared.WriteOp.TheVariants as ops
use Rattle.slate_mem.specs.Batch.{Ops}
use Rattle.slate_txn.specs.declared.line.ScanStep.{ScanStep}
use Rattle.slate_txn.specs.declared.line.ScanStep.TheVariants.{Rows, Seek}
use Rattle.slate_txn.specs.declared.line.Line.{Line}
use Rattle.slate_txn.specs.declared.line.Line.TheVariants as lines
use Rattle.slate_txn.specs.Named.{find_named}
use Rattle.slate_language.specs.Text.{is_visible}
use Rattle.slate_language.specs.Grammar.{is_name_byte, is_moment}

-- `x ← o` in a `do` block goes on where there is a value
infixl 10 ◌>>=◌
abbrev pub ◌>>=◌ : {A B : Type 0} → Option A → (A → Option B) → Option B
None >>= f = None
(Some x) >>= f = f x

abbrev pub only_if : {A : Type 0} → Bool → A → Option A
only_if true x = Some x
only_if false x = None

-- ---- tokens

abbrev pub split_by : ℕ → ℕ → List (List ℕ) → List (List ℕ)
split_by c b [] = (b ∷ []) ∷ []
split_by c b (t ∷ ts) = if b == c then [] ∷ t ∷ ts else (b ∷ t) ∷ ts

abbrev pub tokens_of : List ℕ → List (List ℕ)
tokens_of [] = [] ∷ []
tokens_of (b ∷ bs) = split_by 32 b (tokens_of bs)

abbrev pub hex_value : ℕ → Option ℕ
hex_value b = if nat_le 48 b && nat_le b 57 then Some (b - 48) else only_if (nat_le 97 b && nat_le b 102) (b - 87)

abbrev pub with_byte : Option ℕ → Option ℕ → Option (List ℕ) → Option (List ℕ)
with_byte high low rest = do
  a ← high
  b ← low
  bs ← rest
  Some ((a * 16 + b) ∷ bs)

abbrev pub unhex : List ℕ → Option (List ℕ)
unhex [] = Some []
unhex (a ∷ []) = None
unhex (a ∷ b ∷ bs) = with_byte (hex_value a) (hex_value b) (unhex bs)

abbrev pub read_hex : List ℕ → Option (List ℕ)
read_hex (a ∷ b ∷ bs) = only_if (a == 48 && b == 120) bs >>= unhex
read_hex _ = None

abbrev pub read_bytes : List ℕ → Option (List ℕ)
read_bytes [] = None
read_bytes (b ∷ bs) = if b == 39 then only_if (list_all is_visible bs) bs else read_hex (b ∷ bs)

-- A number is read where it is written so: no leading zero, no sign that isn't needed.
abbrev pub read_number : List ℕ → Option ℕ
read_number t = only_if (bytes_eq (decimal (digits_value 10 t)) t && nat_lt (digits_value 10 t) (2 ^ 64)) (digits_value 10 t)

abbrev pub moment_value : List ℕ → ℤ
moment_value [] = pos 0
moment_value (b ∷ bs) = if b == 45 then neg_ℤ (pos (digits_value 10 bs)) else pos (digits_value 10 (b ∷ bs))

abbrev pub read_moment : List ℕ → Option ℤ
read_moment t = only_if (bytes_eq (signed_decimal (moment_value t)) t && is_moment (moment_value t)) (moment_value t)

abbrev pub read_name : List ℕ → Option (List ℕ)
read_name t = only_if (nat_lt 0 (length t) && nat_le (length t) 64 && list_all is_name_byte t) t

abbrev pub read_level : List ℕ → Option IsolationLevel
read_level t = if bytes_eq t (codes "si") then Some levels.Snapshot else only_if (bytes_eq t (codes "ssi")) levels.SerializableSnapshot

abbrev pub read_order : List ℕ → Option IterationOrder
read_order t = if bytes_eq t (codes "asc") then Some Ascending else only_if (bytes_eq t (codes "desc")) Descending

abbrev pub read_bound : List ℕ → Option (Bound (List ℕ))
read_bound [] = None
read_bound (b ∷ bs) = if b == 105 then option_map Included (read_bytes bs)
    else if b == 101 then option_map Excluded (read_bytes bs)
    else only_if (bytes_eq (b ∷ bs) (codes "*")) Unbounded

abbrev pub read_step : List ℕ → Option ScanStep
read_step [] = None
read_step (b ∷ bs) = if b == 110 then option_map Rows (read_number bs) else only_if (b == 115) bs >>= λ k. option_map Seek (read_bytes k)

abbrev pub read_ttl_token : List ℕ → Option Ttl
read_ttl_token [] = None
read_ttl_token (b ∷ bs) = if bytes_eq (b ∷ bs) (codes "t-") then Some NoExpiry else only_if (b == 116) bs >>= λ n. option_map ExpireAfter (read_number n)

-- ---- lists of tokens

abbrev pub both : {A B C : Type 0} → (A → B → C) → Option A → Option B → Option C
both make a b = do
  x ← a
  y ← b
  Some (make x y)

abbrev pub read_all : {A B : Type 0} → (A → Option B) → List A → Option (List B)
read_all f [] = Some []
read_all f (t ∷ ts) = both ◌∷◌ (f t) (read_all f ts)

abbrev pub read_ttl : List (List ℕ) → Option Ttl
read_ttl [] = Some Default
read_ttl (t ∷ []) = read_ttl_token t
read_ttl (t ∷ u ∷ us) = None

-- the words that begin an operation
pub data OpWord : Type 0 where
  PutWord : OpWord
  MergeWord : OpWord
  DeleteWord : OpWord

abbrev pub op_word : List ℕ → Option OpWord
op_word t = if bytes_eq t (codes "put") then Some PutWord
    else if bytes_eq t (codes "merge") then Some MergeWord
    else only_if (bytes_eq t (codes "delete")) DeleteWord

-- The tokens behind each word that begins an operation, and those before the first such word.
abbrev pub Groups : Type 0
Groups = List (List ℕ) × List (OpWord × List (List ℕ))

abbrev pub group_token : Option OpWord → List ℕ → Groups → Groups
group_token None t g = (t ∷ g.0, g.1)
group_token (Some w) t g = ([], (w, g.0) ∷ g.1)

abbrev pub grouped : List (List ℕ) → Groups
grouped [] = ([], [])
grouped (t ∷ ts) = group_token (op_word t) t (grouped ts)

abbrev pub three : {A B C D : Type 0} → (A → B → C → D) → Option A → Option B → Option C → Option D
three make a b c = do
  x ← a
  y ← b
  z ← c
  Some (make x y z)

abbrev pub read_pair : {A : Type 0} → (List ℕ → List ℕ → Ttl → A) → List (List ℕ) → Option A
read_pair make (k ∷ v ∷ ts) = three make (read_bytes k) (read_bytes v) (read_ttl ts)
read_pair make _ = None

abbrev pub op_as : OpWord → List (List ℕ) → Option (List ℕ × WriteOp)
op_as PutWord ts = read_pair (λ k v ttl. (k, ops.Put v (record { ttl = ttl }))) ts
op_as MergeWord ts = read_pair (λ k v ttl. (k, ops.Merge v (record { ttl = ttl }))) ts
op_as DeleteWord (k ∷ []) = option_map (λ key. (key, ops.Delete)) (read_bytes k)
op_as DeleteWord _ = None

abbrev pub ops_of_groups : Groups → Option Ops
ops_of_groups g = by g.0 (read_all (λ p. op_as p.0 p.1) g.1)
  where
    by : List (List ℕ) → Option Ops → Option Ops
    by [] found = found
    by (t ∷ ts) found = None

-- an order, two bounds and maybe steps
abbrev pub read_way : {A : Type 0} → (Bound (List ℕ) → Bound (List ℕ) → List ScanStep → A) → List (List ℕ) → Option A
read_way make (t ∷ u ∷ us) = three make (read_bound t) (read_bound u) (read_all read_step us)
read_way make _ = None

abbrev pub named : {A : Type 0} → (List ℕ → A) → List (List ℕ) → Option A
named make (n ∷ []) = option_map make (read_name n)
named make _ = None

abbrev pub keyed : {A : Type 0} → (List ℕ → List ℕ → A) → List (List ℕ) → Option A
keyed make (n ∷ k ∷ []) = both make (read_name n) (read_bytes k)
keyed make _ = None

abbrev pub many_keyed : {A : Type 0} → (List ℕ → List (List ℕ) → A) → List (List ℕ) → Option A
many_keyed make (n ∷ k ∷ ks) = both make (read_name n) (read_all read_bytes (k ∷ ks))
many_keyed make _ = None

-- ---- lines

pub data Word : Type 0 where
  Now Begin Snapshot Get Scan Prefix Put Merge Delete Mark Unmark Commit Rollback Write Freeze Flush Journal : Word

abbrev pub words : List (List ℕ × Word)
words =
    (codes "now", Now) ∷ (codes "begin", Begin) ∷ (codes "snapshot", Snapshot) ∷ (codes "get", Get) ∷
    (codes "scan", Scan) ∷ (codes "prefix", Prefix) ∷ (codes "put", Put) ∷ (codes "merge", Merge) ∷
    (codes "delete", Delete) ∷ (codes "mark", Mark) ∷ (codes "unmark", Unmark) ∷ (codes "commit", Commit) ∷
    (codes "rollback", Rollback) ∷ (codes "write", Write) ∷ (codes "freeze", Freeze) ∷ (codes "flush", Flush) ∷
    (codes "journal", Journal) ∷ []

abbrev pub line_as : Word → List (List ℕ) → Option Line
line_as Now (t ∷ []) = option_map lines.Now (read_moment t)
line_as Begin (n ∷ t ∷ []) = both lines.Begin (read_name n) (read_level t)
line_as Snapshot ts = named lines.Snapshot ts
line_as Get ts = keyed lines.Get ts
line_as Scan (n ∷ t ∷ us) = do
  name ← read_name n
  order ← read_order t
  read_way (lines.Scan name order) us
line_as Prefix (n ∷ t ∷ k ∷ us) = do
  name ← read_name n
  order ← read_order t
  p ← read_bytes k
  read_way (lines.Prefix name order p) us
line_as Put (n ∷ us) = do
  name ← read_name n
  read_pair (lines.Put name) us
line_as Merge (n ∷ us) = do
  name ← read_name n
  read_pair (lines.Merge name) us
line_as Delete ts = keyed lines.Delete ts
line_as Mark ts = many_keyed lines.Mark ts
line_as Unmark ts = many_keyed lines.Unmark ts
line_as Commit ts = named lines.Commit ts
line_as Rollback ts = named lines.Rollback ts
line_as Write ts = option_map lines.Write (ops_of_groups (grouped ts))
line_as Freeze [] = Some lines.Freeze
line_as Flush [] = Some lines.Flush
line_as Journal [] = Some lines.Journal
line_as _ _ = None

abbrev pub parse_tokens : List (List ℕ) → Option Line
parse_tokens [] = None
parse_tokens (t ∷ ts) = find_named t words >>= λ w. line_as w ts

abbrev pub parse : List ℕ → Option Line
parse bytes = parse_tokens (tokens_of bytes)
