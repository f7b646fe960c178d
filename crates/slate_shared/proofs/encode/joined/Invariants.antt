use Rattle.std.proofs.Common.{◌≡◌, map}
use Rattle.std.specs.Vec.Iter.{into_iter_items}
use Rattle.slate_shared.specs.Jobs.{in_front, joined_of, tables_made}
use Rattle.slate_shared.proofs.encode.joined.Given as goal

abbrev pub invariant-loop-bench : goal.invariant-loop-bench
invariant-loop-bench g l = joined_of (map (λ b. tables_made (λ v. v.items) b.made) l.fn.benches.items) ≡ in_front l.all.items (joined_of (map (λ b. tables_made (λ v. v.items) b.made) (into_iter_items l.bench-iterator)))
