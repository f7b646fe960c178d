use Rattle.std.proofs.Common.{◌∙◌, option_copied, subst, sym}
use Rattle.std.specs.List.{AllByRecursion}
use Rattle.slate_index.specs.Commits.{value_of}
use Rattle.slate_index.specs.Refusals.{IsFine}
use Rattle.slate_index.proofs.Fine.{fine_change}
use Rattle.slate_index.proofs.on_pass.take_change.Goals as goal

pub take_ops-requires : goal.take_ops-requires
take_ops-requires g c = record {
  fine = subst (AllByRecursion IsFine) (sym (c.as_slice.ensures.value ∙ c.in-Ok.ensures.ops))
      (fine_change (g.F.Fields.model c.args.fields.now) c.args.id.now (value_of c.args.row) (option_copied c.args.new) c.is_named.ensures c.requires.accepted);
}
