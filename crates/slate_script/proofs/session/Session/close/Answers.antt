use Rattle.std.proofs.Common.{sym, subst}
use Rattle.slate_db.specs.Sound.{IsKept}
use Rattle.slate_db.specs.StoredState.{StoresState}
use Rattle.slate_script.specs.Session.{SessionModel}
use Rattle.slate_script.proofs.session.Session.close.Goals as goal

pub returns : goal.returns
returns c = record {
  stores = λ m lawful kept.
      subst (λ (v : SessionModel). StoresState m v.core) c.self.view_is
      (c.close.ensures.stores m lawful (subst (λ (v : SessionModel). IsKept m v.core) (sym c.self.view_is) kept));
}
