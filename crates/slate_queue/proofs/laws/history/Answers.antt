use Rattle.slate_queue.proofs.Journals.{each_shows_a_deed, each_claimed_once, each_added_once, each_finished_once, each_names_the_last}
use Rattle.slate_queue.proofs.laws.history.Goals as goal

pub returns : goal.returns
returns c = record { deeds = each_shows_a_deed; claimed = each_claimed_once; added = each_added_once; finished = each_finished_once; named = each_names_the_last }
