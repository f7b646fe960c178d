use Rattle.std.proofs.Common.{◌≡◌, ap, sym, subst}
use Rattle.slate_txn.specs.Reads.{up_to}
use Rattle.slate_db.specs.Installs.{installed}
use Rattle.slate_db.specs.Log.{LogModel, IsLog, with_flush}
use Rattle.slate_db.specs.LogView.{log_view}
use Rattle.slate_db.proofs.Logs.{log_flushed}
use Rattle.slate_db.proofs.log.Log.note_flush.Goals as goal

pub invariant_of-self : goal.invariant_of-self
invariant_of-self c = log_flushed (log_view c.self.inside) (subst (λ (l : LogModel). up_to (installed l.events) l.commits ≡ l.commits) (sym c.self.view_is) c.requires) c.self.invariant

pub returns : goal.returns
returns c = record {
  value = ap (λ (l : LogModel). with_flush l) c.self.view_is;
  whole = log_flushed (log_view c.self.inside) (subst (λ (l : LogModel). up_to (installed l.events) l.commits ≡ l.commits) (sym c.self.view_is) c.requires) c.self.invariant;
}
