use Rattle.std.proofs.Common.{◌≡◌, length}
use Rattle.std.specs.Vec.Iter.{into_iter_items, into_iter_len}
use Rattle.slate_script.proofs.SessionBatch.{Batched}
use Rattle.slate_script.proofs.session.batch_of.Given as goal

abbrev pub invariant-loop-key : goal.invariant-loop-key
invariant-loop-key l = Batched (into_iter_items l.initial.key-iterator) (into_iter_items l.key-iterator) l.batch × (into_iter_len l.key-iterator ≡ length (into_iter_items l.key-iterator))
