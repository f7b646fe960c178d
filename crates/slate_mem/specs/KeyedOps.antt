-- How the operations of a batch are held.
--     one_op op      the list of one operation
--     entries_in o      the entries that are held
use Rattle.std.specs.Prelude.{List, [], ◌∷◌}
use Rattle.smallvec.specs.SmallVec.{SmallVec}
use Rattle.slate_mem.specs.declared.WriteOp.{WriteOp}
use Rattle.slate_mem.specs.declared.keyed_ops.KeyedOps.{KeyedOps}
use Rattle.slate_mem.specs.declared.keyed_ops.KeyedOps.TheVariants.{Lone, Map}
use Rattle.slate_mem.specs.Kept.{Entries}

abbrev pub one_op : WriteOp → SmallVec WriteOp
one_op op = record { items = op ∷ []; capacity = 1 }

abbrev pub entries_in : KeyedOps → Entries
entries_in (Lone k op) = (k, one_op op) ∷ []
entries_in (Map ops) = ops.entries
