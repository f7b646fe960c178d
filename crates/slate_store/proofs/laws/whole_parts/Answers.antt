use Rattle.slate_store.proofs.LineLaws.{whole_part_is_whole, whole_parts_join, partial_line_is_not_whole, end_makes_whole}
use Rattle.slate_store.proofs.laws.whole_parts.Goals as goal

pub returns : goal.returns
returns c =
    record {
      whole_part_is_whole = whole_part_is_whole;
      whole_parts_join = whole_parts_join;
      partial_line_is_not_whole = partial_line_is_not_whole;
      end_makes_whole = end_makes_whole;
    }
