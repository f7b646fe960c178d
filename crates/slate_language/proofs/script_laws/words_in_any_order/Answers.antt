use Rattle.slate_language.proofs.WordLaws.{filters_any_order, words_any_order}
use Rattle.slate_language.proofs.script_laws.words_in_any_order.Goals as goal

pub returns : goal.returns
returns c = record { settings = words_any_order; filters = filters_any_order }
