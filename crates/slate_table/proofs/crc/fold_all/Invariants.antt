use Rattle.std.proofs.Common.{◌≡◌, ◌*◌, ℕ, List, length}
use Rattle.slate_table.specs.Checksum.{IsFolded}
use Rattle.slate_table.proofs.crc.fold_all.Given as goal

pub record FoldedSo (before now bytes : List ℕ) (group : ℕ) : Type 0 where
  pub len : length now ≡ 4608
  pub folded : (start : ℕ) → IsFolded start 0 before bytes → IsFolded start (16 * group) now bytes

abbrev pub invariant-loop-group : goal.invariant-loop-group
invariant-loop-group l = FoldedSo l.initial.history l.history l.bytes l.group
