use Rattle.slate_merge.specs.MergeLaws.{merged_by_place, merged_in_turn, merged_kept, merged_none, merged_one, merged_same}
use Rattle.slate_merge.proofs.laws.merges.Goals as goal

pub returns : goal.returns
returns c = record { has_all = merged_same; in_turn = merged_in_turn; by_place = merged_by_place; keeps_tests = merged_kept; of_one = merged_one; of_none = merged_none }
