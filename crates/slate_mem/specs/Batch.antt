-- A batch is a list of operations, each with its key, oldest first.
--     ops_of ops k, kept ops k      the operations of k; those from its last put or delete on
--     batch_keys ops      its keys, rising, each once
--     kept_ops ops      the kept operations of all keys, keys rising
--     op_value op, op_ttl op      what an operation makes of a row
use Rattle.std.specs.Prelude.{ℕ, Bool, true, false, List, map, filter, flat_map, bytes_eq}
use Rattle.slate_types.specs.declared.config.Ttl.{Ttl}
use Rattle.slate_types.specs.declared.config.Ttl.TheVariants.{NoExpiry}
use Rattle.slate_types.specs.declared.types.ValueDeletable.{ValueDeletable}
use Rattle.slate_types.specs.declared.types.ValueDeletable.TheVariants as values
use Rattle.slate_types.specs.Keys.{keys_set}
use Rattle.slate_types.specs.Fold.{from_last}
use Rattle.slate_mem.specs.declared.WriteOp.{WriteOp}
use Rattle.slate_mem.specs.declared.WriteOp.TheVariants.{Put, Delete, Merge}

abbrev pub Ops : Type 0
Ops = List (List ℕ × WriteOp)

-- a put or a delete
abbrev pub replaces : WriteOp → Bool
replaces (Put v o) = true
replaces Delete = true
replaces (Merge v o) = false

abbrev pub op_value : WriteOp → ValueDeletable
op_value (Put v o) = values.Value v
op_value Delete = values.Tombstone
op_value (Merge v o) = values.Merge v

-- a delete never expires
abbrev pub op_ttl : WriteOp → Ttl
op_ttl (Put v o) = o.ttl
op_ttl Delete = NoExpiry
op_ttl (Merge v o) = o.ttl

abbrev pub ops_of : Ops → List ℕ → List WriteOp
ops_of ops k = map (λ o. o.1) (filter (λ o. bytes_eq o.0 k) ops)

abbrev pub kept : Ops → List ℕ → List WriteOp
kept ops k = from_last replaces (ops_of ops k)

abbrev pub batch_keys : Ops → List (List ℕ)
batch_keys ops = keys_set (map (λ o. o.0) ops)

abbrev pub kept_ops : Ops → Ops
kept_ops ops = flat_map (λ k. map (λ op. (k, op)) (kept ops k)) (batch_keys ops)
