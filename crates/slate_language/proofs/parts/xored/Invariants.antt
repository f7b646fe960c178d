use Rattle.std.proofs.Common.{◌≡◌, take}
use Rattle.slate_language.specs.Parts.{xored}
use Rattle.slate_language.proofs.parts.xored.Given as goal

abbrev pub invariant-loop-byte : goal.invariant-loop-byte
invariant-loop-byte l = l.made.items ≡ xored l.mask (take l.byte-index l.bytes)
