use Rattle.std.proofs.Common.{◌≡◌, ◌++◌, take, flat_map}
use Rattle.slate_index.specs.Entries.{escaped_byte}
use Rattle.slate_index.proofs.keys.push_escaped.Given as goal

abbrev pub invariant-loop-byte : goal.invariant-loop-byte
invariant-loop-byte l = l.key.items ≡ l.fn.key.items ++ flat_map escaped_byte (take l.byte-index l.field)
