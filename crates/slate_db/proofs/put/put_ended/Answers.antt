use Rattle.std.proofs.Common.{sym, subst, ◌∙◌}
use Rattle.slate_db.specs.Layers.{AreLayers}
use Rattle.slate_db.proofs.TakenBack.{layers_back}
use Rattle.slate_db.proofs.put.put_ended.Goals as goal

pub take_back-requires : goal.take_back-requires
take_back-requires c = subst AreLayers (sym (layers_back c.args.layers.now c.put.new.self c.args.seq c.args.rows.items c.in_ok-put.ensures.value c.requires.seqs c.requires.older)) c.requires.whole

pub returns-in-Err-clause-same_layers : goal.returns-in-Err-clause-same_layers
returns-in-Err-clause-same_layers c = c.take_back.ensures.value ∙ layers_back c.args.layers.now c.put.new.self c.args.seq c.args.rows.items c.in_ok-put.ensures.value c.requires.seqs c.requires.older
