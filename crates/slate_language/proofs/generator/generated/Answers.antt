use Rattle.std.proofs.Common.{◌+◌, ◌-◌, ◌++◌, ap, ◌∙◌, arith}
use Rattle.slate_language.specs.Generate.{ended, rounds}
use Rattle.slate_language.proofs.GenerateLaws.{one_round, all_rounds}
use Rattle.std.proofs.Common.{codes, ◌≡◌}
use Rattle.slate_language.specs.Generate.{drawn, round}
use Rattle.std.specs.String.{string_bytes}
use Rattle.slate_language.proofs.generator.generated.Goals as goal

pub loop-done-init : goal.loop-done-init
loop-done-init c =
    let all : c.args.n - 0 ≡ c.args.n = omega arith in
    record { within = omega arith; made = ap (λ bs. bs ++ rounds 1 (c.args.n - 0) c.args.s) c.new-script.ensures.bytes ∙ ap (λ m. rounds 1 m c.args.s) all }

pub loop-done-preserved : goal.loop-done-preserved
loop-done-preserved c =
    let first : c.draw-first.result ≡ drawn c.loop-done.x = c.draw-first.ensures in
    let second : c.draw-second.result ≡ drawn (drawn c.loop-done.x) = c.draw-second.ensures ∙ ap drawn first in
    record {
      within = omega arith;
      made = rw second (one_round c.args.n c.loop-done.done c.args.s c.loop-done.x (string_bytes c.loop-done.script) (string_bytes c.push_round.new.script) (omega arith) c.loop-done.invariant.made
          (c.in_ok-push_round.ensures.lines ∙ (λ i. string_bytes c.loop-done.script ++ round (c.loop-done.done + 1) (first i) (second i))));
    }

pub returns : goal.returns
returns c = record {
  script =
      ap (λ v. v.items) c.into_bytes.ensures.value ∙ c.in_ok-push_str.ensures.bytes
      ∙ ap (λ bs. bs ++ ended (codes "flush")) (all_rounds c.args.n c.loop-done.done c.args.s c.loop-done.x (string_bytes c.loop-done.script) (omega arith) c.loop-done.invariant.made);
}
