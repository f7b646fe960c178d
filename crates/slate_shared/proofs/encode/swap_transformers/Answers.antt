use Rattle.std.proofs.Common.{◌∙◌, ◌<◌, arith, length, refl, rules}
use Rattle.std.proofs.Math.Seq.{map-set_same}
use Rattle.slate_shared.proofs.Encoding.{map_at_places, none_swapped, one_swapped}
use Rattle.slate_shared.proofs.encode.swap_transformers.Goals as goal

pub loop-i-init : goal.loop-i-init
loop-i-init g c = record { swapped = none_swapped _ _ _ _; jobs = refl; made = refl }

pub loop-i-preserved : goal.loop-i-preserved
loop-i-preserved g c =
    let was = c.loop-i.invariant in
    let now = c.swap_transformer.ensures in
    record {
      swapped = one_swapped _ _ _ _ _ _ _ _ _ _ _ was.swapped (omega arith) (omega arith) now.swapped.0 now.swapped.1;
      jobs = map-set_same (λ b. b.jobs) _ _ _ _ now.same.0 ∙ was.jobs;
      made = map-set_same (λ b. b.made) _ _ _ _ now.same.1 ∙ was.made;
    }

pub returns : goal.returns
returns g c =
    let was = c.loop-i.invariant in
    record {
      lent = map_at_places _ _ _ _ (omega arith) (λ j d e lt. was.swapped.lent j d e (omega (arith, lt)));
      given = map_at_places _ _ _ _ (omega arith) (λ j e d lt. was.swapped.given j d e (omega (arith, lt)));
      jobs = was.jobs;
      made = was.made;
    }

pub offset_bounds-workers-i : goal.offset_bounds-workers-i
offset_bounds-workers-i g c =
    let lt : c.loop-i.i < length c.args.workers.now = omega (arith, c.requires.len, c.loop-i-test.true) in
    search rules
