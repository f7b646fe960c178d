use Rattle.slate_store.proofs.LineLaws.{taken_line_is_first, whole_lines_join, lines_have_no_end}
use Rattle.slate_store.proofs.laws.lines.Goals as goal

pub returns : goal.returns
returns c =
    record {
      taken_line_is_first = taken_line_is_first;
      whole_lines_join = whole_lines_join;
      lines_have_no_end = lines_have_no_end;
    }
