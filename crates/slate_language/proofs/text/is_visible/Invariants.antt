use Rattle.std.proofs.Common.{◌≡◌, take}
use Rattle.std.specs.List.{list_all}
use Rattle.slate_language.specs.Text.{is_visible}
use Rattle.slate_language.proofs.text.is_visible.Given as goal

abbrev pub invariant-loop-byte : goal.invariant-loop-byte
invariant-loop-byte l = l.visible ≡ list_all is_visible (take l.byte-index l.bytes)
