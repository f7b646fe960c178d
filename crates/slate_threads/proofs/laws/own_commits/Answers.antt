use Rattle.slate_threads.proofs.OwnPlaces.{all_are_alone, all_are_vouched, nothing_is_stored}
use Rattle.slate_threads.proofs.OwnPlaces.{own_stand_alone}
use Rattle.slate_threads.proofs.Counting.{each_is_counted}
use Rattle.slate_threads.proofs.laws.own_commits.Goals as goal

pub returns : goal.returns
returns c =
    record {
      vouched = all_are_vouched;
      alone = all_are_alone;
      own_alone = own_stand_alone;
      stored = nothing_is_stored;
      counted = each_is_counted;
    }
