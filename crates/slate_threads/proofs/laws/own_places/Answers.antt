use Rattle.slate_threads.proofs.OwnPlaces.{event_more, install_more, joined, longer, nothing}
use Rattle.slate_threads.proofs.OwnPlaces.{one_more, write_more}
use Rattle.slate_threads.proofs.laws.own_places.Goals as goal

pub returns : goal.returns
returns c =
    record {
      nothing = nothing;
      longer = longer;
      one_more = one_more;
      event_more = event_more;
      write_more = write_more;
      install_more = install_more;
      joined = joined;
    }
