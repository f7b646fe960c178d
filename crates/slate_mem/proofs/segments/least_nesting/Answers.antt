use Rattle.std.proofs.Common.{subst}
use Rattle.std.specs.Prelude.{option_copied}
use Rattle.slate_mem.specs.Segments.{IsFirstFront}
use Rattle.slate_mem.proofs.NestLaws.{found_front}
use Rattle.slate_mem.proofs.segments.least_nesting.Goals as goal

pub returns-in-Some-clause-least : goal.returns-in-Some-clause-least
returns-in-Some-clause-least c =
    let p = c.args.prefix.now in
    let keys = c.args.prefixes.now.keys in
    found_front p keys c.in-Some.front.now c.len-count.ensures.ordered (subst (λ o. IsFirstFront p keys (option_copied o)) c.in-Some.is c.in_ok-front.ensures)
