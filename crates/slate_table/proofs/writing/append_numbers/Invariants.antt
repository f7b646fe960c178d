use Rattle.std.proofs.Common.{◌≡◌, ◌++◌, ◌<◌, ◌^◌, take}
use Rattle.std.specs.List.{flat_map, AllByRecursion}
use Rattle.slate_block.specs.RowSpelling.{be64}
use Rattle.slate_table.proofs.writing.append_numbers.Given as goal

abbrev pub invariant-loop-number : goal.invariant-loop-number
invariant-loop-number l = record {
  appended : l.out.items ≡ l.fn.out.items ++ flat_map be64 (take l.number-index l.numbers);
  fit : AllByRecursion (λ n. n < 2 ^ 64) (take l.number-index l.numbers);
}
