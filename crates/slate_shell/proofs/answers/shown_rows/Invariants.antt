use Rattle.std.proofs.Common.{◌≡◌, ◌++◌, length}
use Rattle.std.specs.Prelude.{flat_map}
use Rattle.std.specs.Vec.Iter.{into_iter_items, into_iter_len}
use Rattle.slate_shell.specs.Shown.{row_line, shown_rows}
use Rattle.slate_shell.proofs.answers.shown_rows.Given as goal

abbrev pub invariant-loop-row : goal.invariant-loop-row
invariant-loop-row l =
    record {
      shown : l.text.items ++ flat_map row_line (into_iter_items l.row-iterator) ≡ shown_rows (into_iter_items l.initial.row-iterator);
      left : into_iter_len l.row-iterator ≡ length (into_iter_items l.row-iterator);
    }
