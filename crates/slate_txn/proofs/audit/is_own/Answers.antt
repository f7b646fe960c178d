use Rattle.std.proofs.Common.{w64, sym, subst, ◌∙◌}
use Rattle.std.proofs.lemmas.Int.{to_z-of_z}
use Rattle.slate_txn.proofs.NamedLaws.{find_is}
use Rattle.slate_txn.proofs.AuditLaws.{own_yes, own_no, own_none}
use Rattle.slate_txn.proofs.audit.is_own.Goals as goal

pub returns-in-Some : goal.returns-in-Some
returns-in-Some g c = record {
  yes = λ s n knows is.
      own_yes (g.F.CommitForm.is c.args.form.now) s c.args.levels.now.entries c.args.id.now c.in-Some.level.now n c.args.now c.args.ops.now c.args.tracked.now c.args.transcript.now knows (c.in-Some.ensures.value ∙ find_is c.args.id.now c.args.levels.now.entries)
      (subst (λ z. g.F.CommitForm.is c.args.form.now c.in-Some.level.now z c.args.ops.now c.args.tracked.now c.args.transcript.now) (to_z-of_z w64 c.args.now c.ranges.now) (c.test.ensures.yes is));
  no = λ s n knows is.
      own_no (g.F.CommitForm.is c.args.form.now) s c.args.levels.now.entries c.args.id.now c.in-Some.level.now n c.args.now c.args.ops.now c.args.tracked.now c.args.transcript.now knows (c.in-Some.ensures.value ∙ find_is c.args.id.now c.args.levels.now.entries)
      (λ own. c.test.ensures.no is (subst (λ z. g.F.CommitForm.is c.args.form.now c.in-Some.level.now z c.args.ops.now c.args.tracked.now c.args.transcript.now) (sym (to_z-of_z w64 c.args.now c.ranges.now)) own));
}

pub returns-in-None-clause-no : goal.returns-in-None-clause-no
returns-in-None-clause-no g c = λ s n knows is.
    own_none (g.F.CommitForm.is c.args.form.now) s c.args.levels.now.entries c.args.id.now n c.args.now c.args.ops.now c.args.tracked.now c.args.transcript.now knows (c.in-None.ensures.value ∙ find_is c.args.id.now c.args.levels.now.entries)
