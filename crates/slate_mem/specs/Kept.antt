-- How a batch keeps its operations: a map from keys to the operations of each.
--     tagged k ops, listed es      the operations of a key, and of all entries, each with its key
--     items_at es k      what the entries have at a key
--     HasMore es fs k op      entries with one operation more, which stands behind those of its key
--     IsCopied Same es fs      the entries are copies
--     AreFine es      no operation of the entries is refused by itself
--     IsWhole es held      what stands at all times of the entries and of whether a merge was taken
use Rattle.std.specs.Prelude.{◌≡◌, ℕ, ◌<◌, Bool, true, false, List, [], ◌∷◌, ◌++◌, map, flat_map, length, if◌then◌else◌, bytes_eq, None}
use Rattle.std.specs.List.{AllByRecursion, AllZip}
use Rattle.std.specs.List.Sorted.{IsStrictlySortedBy}
use Rattle.std.specs.Map.{keys_of}
use Rattle.std.specs.BTreeMap.{insert_entry}
use Rattle.smallvec.specs.SmallVec.{SmallVec}
use Rattle.slate_types.specs.Keys.{key_cmp}
use Rattle.slate_types.specs.Fold.{from_last}
use Rattle.slate_mem.specs.declared.WriteOp.{WriteOp}
use Rattle.slate_mem.specs.Batch.{Ops, replaces}
use Rattle.slate_mem.specs.Refusals.{op_refusal}

abbrev pub Entries : Type 0
Entries = List (List ℕ × SmallVec WriteOp)

abbrev pub tagged : List ℕ → List WriteOp → Ops
tagged k ops = map (λ op. (k, op)) ops

abbrev pub listed : Entries → Ops
listed es = flat_map (λ e. tagged e.0 e.1.items) es

abbrev pub items_at : Entries → List ℕ → List WriteOp
items_at [] k = []
items_at (e ∷ es) k = if bytes_eq e.0 k then e.1.items else items_at es k

pub record HasMore (es fs : Entries) (k : List ℕ) (op : WriteOp) : Type 0 where
  pub list : SmallVec WriteOp
  pub items : list.items ≡ items_at es k ++ (op ∷ [])
  pub is : fs ≡ insert_entry key_cmp es k list
  pub rising : IsStrictlySortedBy key_cmp (keys_of fs)

-- operations of one key: at least one, and none that a later one replaces
abbrev pub IsKept : List WriteOp → Type 0
IsKept ops = (0 < length ops) × (from_last replaces ops ≡ ops)

abbrev pub AreKept : Entries → Type 0
AreKept es = AllByRecursion (λ e. IsKept e.1.items) es

-- one put or delete
abbrev pub IsSingle : List WriteOp → Type 0
IsSingle ops = (op : WriteOp) × (ops ≡ op ∷ []) × (replaces op ≡ true)

abbrev pub AreFineAt : List ℕ → List WriteOp → Type 0
AreFineAt k ops = AllByRecursion (λ op. op_refusal k op ≡ None) ops

abbrev pub AreFine : Entries → Type 0
AreFine es = AllByRecursion (λ e. AreFineAt e.0 e.1.items) es

-- entries with the same keys, of which each has operations that stand for the others' by a relation
abbrev pub IsCopied : (WriteOp → WriteOp → Type 0) → Entries → Entries → Type 0
IsCopied Same es fs = AllZip (λ e f. (f.0 ≡ e.0) × AllZip Same e.1.items f.1.items) es fs

-- where no merge was taken, each key has one operation
pub record IsWhole (es : Entries) (held : Bool) : Type 0 where
  pub rising : IsStrictlySortedBy key_cmp (keys_of es)
  pub kept : AreKept es
  pub fine : AreFine es
  pub told : held ≡ false → AllByRecursion (λ e. IsSingle e.1.items) es
