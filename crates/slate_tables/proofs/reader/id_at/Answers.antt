use Rattle.std.proofs.lemmas.Option.{slice_get-get_or}
use Rattle.slate_tables.proofs.reader.id_at.Goals as goal

pub returns : goal.returns
returns c = slice_get-get_or c.args.ids.now c.args.at _ c.requires
