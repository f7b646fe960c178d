use Rattle.slate_store.proofs.PlaceLaws.{no_place_is_beside, places_differ}
use Rattle.slate_store.proofs.laws.places.Goals as goal

pub returns : goal.returns
returns c =
    record {
      places_differ = places_differ;
      no_place_is_beside = no_place_is_beside;
    }
