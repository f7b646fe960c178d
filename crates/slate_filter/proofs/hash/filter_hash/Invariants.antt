use Rattle.std.proofs.Common.{◌≡◌, length}
use Rattle.slate_filter.specs.Hash.{filter_hash, finished, all_taken_in, words}
use Rattle.slate_filter.proofs.hash.filter_hash.Given as goal

abbrev pub invariant-loop-rest : goal.invariant-loop-rest
invariant-loop-rest l = finished (all_taken_in l.state (words (length l.key) l.rest)) ≡ filter_hash l.key

abbrev pub decreases-loop-rest : goal.decreases-loop-rest
decreases-loop-rest l = length l.rest
