-- What contracts see of a batch.
--     BatchModel      its kept operations, and whether it took a merge, which may be replaced by now
--     no_ops      the batch without operations
--     with_op b k op      the batch with one operation more
--     IsBatchOf ops b      b is the batch of these operations, of which it keeps some
--     holds_merge ops      one of them is a merge
--     plain_put v, plain_merge v      the put and the merge of a value with the default options
use Rattle.std.specs.Prelude.{◌≡◌, ℕ, Bool, true, false, ◌||◌, List, [], ◌∷◌, ◌++◌}
use Rattle.std.specs.List.{list_any}
use Rattle.slate_types.specs.declared.config.Ttl.TheVariants.{Default}
use Rattle.slate_mem.specs.declared.WriteOp.{WriteOp}
use Rattle.slate_mem.specs.declared.WriteOp.TheVariants.{Put, Delete, Merge}
use Rattle.slate_mem.specs.Batch.{Ops, kept_ops}

pub record BatchModel : Type 0 where
  pub ops : Ops
  pub held_merge : Bool

abbrev pub is_merge_op : List ℕ × WriteOp → Bool
is_merge_op o = merges o.1
  where
    merges : WriteOp → Bool
    merges (Put v p) = false
    merges Delete = false
    merges (Merge v p) = true

abbrev pub holds_merge : Ops → Bool
holds_merge ops = list_any is_merge_op ops

abbrev pub no_ops : BatchModel
no_ops = record { ops = []; held_merge = false }

abbrev pub with_op : BatchModel → List ℕ → WriteOp → BatchModel
with_op b k op = record { ops = kept_ops (b.ops ++ ((k, op) ∷ [])); held_merge = b.held_merge || is_merge_op (k, op) }

abbrev pub IsBatchOf : Ops → BatchModel → Type 0
IsBatchOf ops b = (b.ops ≡ kept_ops ops) × (b.held_merge ≡ holds_merge ops)

abbrev pub plain_put : List ℕ → WriteOp
plain_put v = Put v (record { ttl = Default })

abbrev pub plain_merge : List ℕ → WriteOp
plain_merge v = Merge v (record { ttl = Default })
