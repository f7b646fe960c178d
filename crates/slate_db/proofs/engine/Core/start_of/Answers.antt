use Rattle.std.proofs.Common.{◌≡◌, Some, option_map, subst, ◌∙◌}
use Rattle.slate_txn.specs.Step.{Reader, reader}
use Rattle.slate_db.specs.Model.{CoreModel}
use Rattle.slate_db.specs.View.{view_of}
use Rattle.slate_db.proofs.Readers.{start_open, start_shown}
use Rattle.slate_db.proofs.engine.Core.start_of.Goals as goal

pub returns-in-Some : goal.returns-in-Some
returns-in-Some c = subst (λ (v : CoreModel). Some c.in-Some.begin ≡ option_map (λ (r : Reader). r.at) (reader v.state c.args.id.now)) c.self.view_is
    (start_open (view_of c.self.inside).state c.args.id.now c.in-Some.begin c.in-Some.ensures)

pub returns-in-None : goal.returns-in-None
returns-in-None c = subst (λ (v : CoreModel). c.seq_of.result ≡ option_map (λ (r : Reader). r.at) (reader v.state c.args.id.now)) c.self.view_is
    (c.seq_of.ensures ∙ start_shown (view_of c.self.inside).state c.args.id.now c.in-None.ensures)
