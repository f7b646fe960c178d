use Rattle.slate_txn.proofs.Growing.{states_at_each, commit_shows}
use Rattle.slate_txn.proofs.laws.one_more.Goals as goal

pub returns : goal.returns
returns c =
    record {
      states_at_each_sequence = states_at_each;
      commit_shows = commit_shows;
    }
