use Rattle.std.proofs.Common.{◌≡◌, map}
use Rattle.slate_shared.proofs.Encoding.{AreSwapped}
use Rattle.slate_shared.proofs.encode.swap_transformers.Given as goal

abbrev pub invariant-loop-i : goal.invariant-loop-i
invariant-loop-i g l = record {
  swapped : AreSwapped (λ b. b.transformer) (λ w. w.transformer) l.benches l.initial.benches l.workers l.initial.workers l.i;
  jobs : map (λ b. b.jobs) l.benches ≡ map (λ b. b.jobs) l.initial.benches;
  made : map (λ b. b.made) l.benches ≡ map (λ b. b.made) l.initial.benches;
}
