use Rattle.slate_txn.specs.declared.line.Line.TheVariants as lines
use Rattle.slate_language.specs.declared.reply.Answer.TheVariants as answers
use Rattle.slate_db.proofs.Segmenting.{segmented_frozen}
use Rattle.slate_script.proofs.SessionSteps.{freeze_as}
use Rattle.slate_script.proofs.SessionLeaves.{leaves_frozen}
use Rattle.slate_script.proofs.Growth.{takes_frozen}
use Rattle.slate_script.proofs.Within.{leaves_within}
use Rattle.slate_script.specs.Session.{SessionModel}
use Rattle.slate_script.proofs.session.Session.freeze.Goals as goal

pub returns : goal.returns
returns c =
    let before : SessionModel = record { core = c.self.inside.core; names = c.self.inside.names.entries; snapshot_names = c.self.inside.snapshot_names.entries; now = c.self.inside.now } in
    leaves_within lines.Freeze before c.freeze.new.self before.names before.snapshot_names before.now (answers.Frozen c.in_ok-seq.seq) c.self.view_is (λ m seg. freeze_as m seg before c.freeze.new.self c.in_ok-seq.seq (c.in_ok-seq.ensures.step m seg))
    (leaves_frozen c.self.inside.core c.freeze.new.self c.in_ok-seq.ensures.event) c.in_ok-seq.ensures.kept (λ seg. segmented_frozen seg c.self.inside.core c.freeze.new.self c.in_ok-seq.ensures.event)
    (takes_frozen c.self.inside.core c.freeze.new.self c.in_ok-seq.ensures.event)
