use Rattle.slate_mem.specs.Segments.{HasNoFront}
use Rattle.slate_mem.proofs.segments.first_front.Given as goal

abbrev pub invariant-loop-len : goal.invariant-loop-len
invariant-loop-len l = HasNoFront l.prefix l.prefixes.keys l.len
