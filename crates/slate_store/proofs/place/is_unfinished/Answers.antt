use Rattle.std.proofs.lemmas.Str.Pattern.{ends_text}
use Rattle.slate_store.specs.Places.{unfinished}
use Rattle.slate_store.proofs.place.is_unfinished.Goals as goal

pub returns : goal.returns
returns c = ends_text _ unfinished c.args.name.now c.ends_with.ensures.cases
