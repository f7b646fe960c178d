-- The grammar of a line: its bytes are tokens with one space between each two, and the tokens spell its meaning.
--     IsBytes t v, IsNumber t n, IsMoment t z, IsName t, IsBound t b, IsTtl ts ttl      what single tokens spell
--     Spells ts line, IsLine bytes line      the tokens, and the bytes, of a line
use Rattle.std.specs.Prelude.{◌≡◌, ℕ, ◌-◌, ◌^◌, ◌<◌, ◌≤◌, Bool, ◌&&◌, ◌||◌, ◌⊎◌, nat_le, List, [], ◌∷◌, ◌++◌, length, IsTrue, ⊤, ℤ, pos, negsuc, int_le, codes, decimal}
use Rattle.std.specs.Fmt.{signed_decimal}
use Rattle.std.specs.List.{list_all, join_with_byte}
use Rattle.std.specs.declared.ops.Bound.{Bound}
use Rattle.std.specs.declared.ops.Bound.TheVariants.{Included, Excluded, Unbounded}
use Rattle.slate_types.specs.declared.config.IsolationLevel.{IsolationLevel}
use Rattle.slate_types.specs.declared.config.IsolationLevel.TheVariants as levels
use Rattle.slate_types.specs.declared.iter.IterationOrder.{IterationOrder}
use Rattle.slate_types.specs.declared.iter.IterationOrder.TheVariants.{Ascending, Descending}
use Rattle.slate_types.specs.declared.config.Ttl.{Ttl}
use Rattle.slate_types.specs.declared.config.Ttl.TheVariants.{Default, NoExpiry, ExpireAfter}
use Rattle.slate_mem.specs.declared.WriteOp.{WriteOp}
use Rattle.slate_mem.specs.declared.WriteOp.TheVariants as ops
use Rattle.slate_types.specs.Keys.{AreBytes}
use Rattle.slate_mem.specs.Batch.{Ops}
use Rattle.slate_txn.specs.declared.line.ScanStep.{ScanStep}
use Rattle.slate_txn.specs.declared.line.ScanStep.TheVariants.{Rows, Seek}
use Rattle.slate_txn.specs.declared.line.Line.{Line}
use Rattle.slate_txn.specs.declared.line.Line.TheVariants as lines
use Rattle.slate_language.specs.Text.{is_visible, hex}

-- ---- tokens

-- `'` and visible bytes, or `0x` and pairs of lower-case hex digits
abbrev pub IsBytes : List ℕ → List ℕ → Type 0
IsBytes t v = (IsTrue (list_all is_visible v) × (t ≡ 39 ∷ v)) ⊎ (AreBytes v × (t ≡ codes "0x" ++ hex v))

abbrev pub IsNumber : List ℕ → ℕ → Type 0
IsNumber t n = (n < 2 ^ 64) × (t ≡ decimal n)

-- of 64 bits
abbrev pub is_moment : ℤ → Bool
is_moment z = int_le (negsuc (2 ^ 63 - 1)) z && int_le z (pos (2 ^ 63 - 1))

abbrev pub IsMoment : List ℕ → ℤ → Type 0
IsMoment t z = IsTrue (is_moment z) × (t ≡ signed_decimal z)

-- a letter or a digit
abbrev pub is_name_byte : ℕ → Bool
is_name_byte b = nat_le 48 b && nat_le b 57 || nat_le 65 b && nat_le b 90 || nat_le 97 b && nat_le b 122

abbrev pub IsName : List ℕ → Type 0
IsName t = (0 < length t) × (length t ≤ 64) × IsTrue (list_all is_name_byte t)

abbrev pub level_word : IsolationLevel → List ℕ
level_word levels.Snapshot = codes "si"
level_word levels.SerializableSnapshot = codes "ssi"

abbrev pub order_word : IterationOrder → List ℕ
order_word Ascending = codes "asc"
order_word Descending = codes "desc"

abbrev pub IsBound : List ℕ → Bound (List ℕ) → Type 0
IsBound t (Included k) = (u : List ℕ) × IsBytes u k × (t ≡ codes "i" ++ u)
IsBound t (Excluded k) = (u : List ℕ) × IsBytes u k × (t ≡ codes "e" ++ u)
IsBound t Unbounded = t ≡ codes "*"

-- ---- lists of tokens

-- the lists are as long, and R holds at each place
abbrev pub Each : {A B : Type 0} → (A → B → Type 0) → List A → List B → Type 0
Each R [] [] = ⊤
Each R (t ∷ ts) (x ∷ xs) = R t x × Each R ts xs
Each R [] (x ∷ xs) = ⊥
Each R (t ∷ ts) [] = ⊥

abbrev pub IsStep : List ℕ → ScanStep → Type 0
IsStep t (Rows n) = (u : List ℕ) × IsNumber u n × (t ≡ codes "n" ++ u)
IsStep t (Seek k) = (u : List ℕ) × IsBytes u k × (t ≡ codes "s" ++ u)

-- no token, or one
abbrev pub IsTtl : List (List ℕ) → Ttl → Type 0
IsTtl ts Default = ts ≡ []
IsTtl ts NoExpiry = ts ≡ codes "t-" ∷ []
IsTtl ts (ExpireAfter n) = (u : List ℕ) × IsNumber u n × (ts ≡ (codes "t" ++ u) ∷ [])

-- a key, a value, and maybe a ttl
abbrev pub IsPair : List (List ℕ) → List ℕ → List ℕ → Ttl → Type 0
IsPair ts k v ttl = (t : List ℕ) × (u : List ℕ) × (us : List (List ℕ)) × IsBytes t k × IsBytes u v × IsTtl us ttl × (ts ≡ t ∷ u ∷ us)

abbrev pub IsOp : List (List ℕ) → List ℕ → WriteOp → Type 0
IsOp ts k (ops.Put v o) = (us : List (List ℕ)) × IsPair us k v o.ttl × (ts ≡ codes "put" ∷ us)
IsOp ts k ops.Delete = (t : List ℕ) × IsBytes t k × (ts ≡ codes "delete" ∷ t ∷ [])
IsOp ts k (ops.Merge v o) = (us : List (List ℕ)) × IsPair us k v o.ttl × (ts ≡ codes "merge" ∷ us)

abbrev pub AreOps : List (List ℕ) → Ops → Type 0
AreOps ts [] = ts ≡ []
AreOps ts (o ∷ os) = (us : List (List ℕ)) × (vs : List (List ℕ)) × IsOp us o.0 o.1 × AreOps vs os × (ts ≡ us ++ vs)

-- two bounds, and maybe steps
abbrev pub IsWay : List (List ℕ) → Bound (List ℕ) → Bound (List ℕ) → List ScanStep → Type 0
IsWay ts start end sts = (t : List ℕ) × (u : List ℕ) × (us : List (List ℕ)) × IsBound t start × IsBound u end × Each IsStep us sts × (ts ≡ t ∷ u ∷ us)

-- ---- lines

abbrev pub Spells : List (List ℕ) → Line → Type 0
Spells ts (lines.Now m) = (t : List ℕ) × IsMoment t m × (ts ≡ codes "now" ∷ t ∷ [])
Spells ts (lines.Begin name level) = IsName name × (ts ≡ codes "begin" ∷ name ∷ level_word level ∷ [])
Spells ts (lines.Snapshot name) = IsName name × (ts ≡ codes "snapshot" ∷ name ∷ [])
Spells ts (lines.Get name k) = (t : List ℕ) × IsName name × IsBytes t k × (ts ≡ codes "get" ∷ name ∷ t ∷ [])
Spells ts (lines.Scan name order start end sts) = (us : List (List ℕ)) × IsName name × IsWay us start end sts
    × (ts ≡ codes "scan" ∷ name ∷ order_word order ∷ us)
Spells ts (lines.Prefix name order p start end sts) = (t : List ℕ) × (us : List (List ℕ)) × IsName name × IsBytes t p × IsWay us start end sts
    × (ts ≡ codes "prefix" ∷ name ∷ order_word order ∷ t ∷ us)
Spells ts (lines.Put name k v ttl) = (us : List (List ℕ)) × IsName name × IsPair us k v ttl × (ts ≡ codes "put" ∷ name ∷ us)
Spells ts (lines.Merge name k v ttl) = (us : List (List ℕ)) × IsName name × IsPair us k v ttl × (ts ≡ codes "merge" ∷ name ∷ us)
Spells ts (lines.Delete name k) = (t : List ℕ) × IsName name × IsBytes t k × (ts ≡ codes "delete" ∷ name ∷ t ∷ [])
Spells ts (lines.Mark name ks) = (us : List (List ℕ)) × IsName name × Each IsBytes us ks × (0 < length ks) × (ts ≡ codes "mark" ∷ name ∷ us)
Spells ts (lines.Unmark name ks) = (us : List (List ℕ)) × IsName name × Each IsBytes us ks × (0 < length ks) × (ts ≡ codes "unmark" ∷ name ∷ us)
Spells ts (lines.Commit name) = IsName name × (ts ≡ codes "commit" ∷ name ∷ [])
Spells ts (lines.Rollback name) = IsName name × (ts ≡ codes "rollback" ∷ name ∷ [])
Spells ts (lines.Write batch) = (us : List (List ℕ)) × AreOps us batch × (ts ≡ codes "write" ∷ us)
Spells ts lines.Freeze = ts ≡ codes "freeze" ∷ []
Spells ts lines.Flush = ts ≡ codes "flush" ∷ []
Spells ts lines.Journal = ts ≡ codes "journal" ∷ []

abbrev pub IsLine : List ℕ → Line → Type 0
IsLine bytes line = (ts : List (List ℕ)) × Spells ts line × (bytes ≡ join_with_byte 32 ts)
