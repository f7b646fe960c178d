use Rattle.std.proofs.Common.{◌≡◌, None, Some, refl, sym, ◌∙◌, arith}
use Rattle.slate_mem.specs.declared.WriteOp.TheVariants as ops
use Rattle.slate_txn.specs.Named.{find_named}
use Rattle.slate_txn.specs.declared.line.Line.TheVariants as lines
use Rattle.slate_txn.specs.Step.{with_op}
use Rattle.slate_language.specs.declared.reply.Answer.TheVariants as answers
use Rattle.slate_types.specs.declared.error.SlateDBError.TheVariants as errors
use Rattle.slate_script.specs.Session.{SessionModel}
use Rattle.slate_script.proofs.NamesLaws.{find_named_lookup}
use Rattle.slate_script.proofs.SessionNames.{names_ran}
use Rattle.slate_script.proofs.SessionOperations.{delete_unknown, delete_as, op_cause}
use Rattle.slate_script.proofs.Growth.{own_op}
use Rattle.slate_script.proofs.Within.{ran_within, still_within}
use Rattle.slate_script.proofs.session.Session.delete.Goals as goal

pub returns-in_default : goal.returns-in_default
returns-in_default c =
    let before : SessionModel = record { core = c.self.inside.core; names = c.self.inside.names.entries; snapshot_names = c.self.inside.snapshot_names.entries; now = c.self.inside.now } in
    let none : find_named c.args.name before.names ≡ None = find_named_lookup c.args.name before.names ∙ sym c.in_default.ensures.value in
    still_within (lines.Delete c.args.name c.args.key) (answers.Refused (errors.UnknownTransaction c.args.name)) c.self.view_is (λ m seg. delete_unknown m seg before c.args.name c.args.key none)

pub delete-delete-requires : goal.delete-delete-requires
delete-delete-requires c = c.self.invariant.0.transactions.opened c.args.name c.in-Some.id.now (find_named_lookup c.args.name c.self.inside.names.entries ∙ sym c.in-Some.ensures.value)

pub invariant_of-self : goal.invariant_of-self
invariant_of-self c = (
  names_ran c.delete-delete.result c.self.inside.core c.delete-delete.new.self c.in-Some.id.now (with_op c.as_slice.result.now ops.Delete) c.self.inside.names.entries c.self.inside.snapshot_names.entries c.delete-delete.ensures.taken c.delete-delete.ensures.same c.self.invariant.0,
  c.self.invariant.1,
)

pub returns : goal.returns
returns c =
    let before : SessionModel = record { core = c.self.inside.core; names = c.self.inside.names.entries; snapshot_names = c.self.inside.snapshot_names.entries; now = c.self.inside.now } in
    let known : find_named c.args.name before.names ≡ Some c.in-Some.id.now = find_named_lookup c.args.name c.self.inside.names.entries ∙ sym c.in-Some.ensures.value in
    ran_within (lines.Delete c.in-Some.id.now c.as_slice.result.now) (lines.Delete c.args.name c.as_slice.result.now) before c.delete-delete.new.self c.in-Some.id.now (with_op c.as_slice.result.now ops.Delete) 1 c.delete-delete.result c.done.result c.self.view_is (λ i. lines.Delete c.args.name (c.as_slice.ensures i))
    (λ m seg. delete_as m seg before c.delete-delete.new.self c.args.name c.in-Some.id.now c.as_slice.result.now c.self.invariant.0.transactions known) (omega arith) (own_op c.as_slice.result.now ops.Delete)
    c.delete-delete.ensures.step c.delete-delete.ensures.refused c.delete-delete.ensures.taken c.delete-delete.ensures.same c.delete-delete.ensures.kept (op_cause c.delete-delete.result c.as_slice.result.now ops.Delete c.delete-delete.ensures.cause) c.done.ensures
