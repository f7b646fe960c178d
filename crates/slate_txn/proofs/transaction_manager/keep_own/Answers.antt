use Rattle.std.proofs.Common.{◌≡◌, ◌-◌, Option, inl, refl, ap, subst, ◌∙◌, arith}
use Rattle.slate_txn.specs.Named.{find_named}
use Rattle.slate_txn.specs.Managers.{Active, writes_at, IsWritten}
use Rattle.slate_txn.proofs.NamedLaws.{find_is}
use Rattle.slate_txn.proofs.Committing.{are_kept_more}
use Rattle.slate_txn.proofs.transaction_manager.keep_own.Goals as goal
use Rattle.slate_types.proofs.Exits.{on_ok_weaker}

pub returns-in-Some-clause-found : goal.returns-in-Some-clause-found
returns-in-Some-clause-found c =
    let is : c.as_slice.result.now ≡ writes_at (find_named c.args.id.now c.args.active.now.entries) =
    c.as_slice.ensures.value ∙ ap (λ (t : Active). t.writes) c.state.view_is
    ∙ ap writes_at (c.in-Some.ensures.value ∙ find_is c.args.id.now c.args.active.now.entries) in
    on_ok_weaker c.keep.result (λ h. inl (subst (λ ks. IsWritten c.args.seq ks c.args.kept.now.entries c.keep.new.kept.entries) is h)) c.keep.ensures.found

pub returns-in-None-clause-found : goal.returns-in-None-clause-found
returns-in-None-clause-found c =
    inl (subst (λ (o : Option Active). IsWritten c.args.seq (writes_at o) c.args.kept.now.entries c.args.kept.now.entries)
    (c.in-None.ensures.value ∙ find_is c.args.id.now c.args.active.now.entries) (λ k. refl))

pub returns-in-None-clause-kept : goal.returns-in-None-clause-kept
returns-in-None-clause-kept c = are_kept_more (c.args.seq - 1) c.args.seq c.args.kept.now.entries (omega arith) c.requires.kept
