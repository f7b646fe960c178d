use Rattle.std.proofs.Common.{sym, subst, ◌∷◌}
use Rattle.slate_types.specs.declared.config.IsolationLevel.TheVariants.{SerializableSnapshot}
use Rattle.slate_index.specs.Commits.{IsChange}
use Rattle.slate_index.proofs.ShownLaws.{begins_with_get}
use Rattle.slate_index.proofs.audit.is_change_by.Goals as goal

pub returns-in-Get : goal.returns-in-Get
returns-in-Get g c =
    let change = IsChange (g.F.Fields.model c.args.fields.now) SerializableSnapshot c.args.ops.now c.args.tracked.now in
    record {
      yes = λ is. subst (λ t. change (t ∷ c.args.own.now)) (sym c.in-Get.is) (c.is_change_from.ensures.yes is);
      no = λ is h. c.is_change_from.ensures.no is (subst (λ t. change (t ∷ c.args.own.now)) c.in-Get.is h);
    }

pub returns-in_default-clause-no : goal.returns-in_default-clause-no
returns-in_default-clause-no g c = λ is h.
    c.in_default.not-Get _ _ (begins_with_get (g.F.Fields.model c.args.fields.now) SerializableSnapshot c.args.ops.now c.args.tracked.now c.args.first.now c.args.own.now h)
