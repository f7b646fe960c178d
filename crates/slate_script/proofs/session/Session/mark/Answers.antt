use Rattle.std.proofs.Common.{◌≡◌, None, Some, refl, sym, ◌∙◌, arith}
use Rattle.slate_txn.specs.Named.{find_named}
use Rattle.slate_txn.specs.declared.line.Line.TheVariants as lines
use Rattle.slate_txn.specs.Step.{with_marks}
use Rattle.slate_language.specs.declared.reply.Answer.TheVariants as answers
use Rattle.slate_types.specs.declared.error.SlateDBError.TheVariants as errors
use Rattle.slate_script.specs.Session.{SessionModel}
use Rattle.slate_script.proofs.NamesLaws.{find_named_lookup}
use Rattle.slate_script.proofs.SessionNames.{names_ran}
use Rattle.slate_script.proofs.SessionOperations.{mark_unknown, mark_as, memory_refuses, memory_cause}
use Rattle.slate_script.proofs.Within.{ran_within, still_within}
use Rattle.slate_script.proofs.session.Session.mark.Goals as goal

pub returns-in_default : goal.returns-in_default
returns-in_default c =
    let before : SessionModel = record { core = c.self.inside.core; names = c.self.inside.names.entries; snapshot_names = c.self.inside.snapshot_names.entries; now = c.self.inside.now } in
    let none : find_named c.args.name before.names ≡ None = find_named_lookup c.args.name before.names ∙ sym c.in_default.ensures.value in
    still_within (lines.Mark c.args.name c.args.keys) (answers.Refused (errors.UnknownTransaction c.args.name)) c.self.view_is (λ m seg. mark_unknown m seg before c.args.name c.args.keys none)

pub mark_read-mark-requires : goal.mark_read-mark-requires
mark_read-mark-requires c = c.self.invariant.0.transactions.opened c.args.name c.in-Some.id.now (find_named_lookup c.args.name c.self.inside.names.entries ∙ sym c.in-Some.ensures.value)

pub invariant_of-self : goal.invariant_of-self
invariant_of-self c = (
  names_ran c.mark_read-mark.result c.self.inside.core c.mark_read-mark.new.self c.in-Some.id.now (with_marks c.as_slice.result.now) c.self.inside.names.entries c.self.inside.snapshot_names.entries c.mark_read-mark.ensures.taken c.mark_read-mark.ensures.same c.self.invariant.0,
  c.self.invariant.1,
)

pub returns : goal.returns
returns c =
    let before : SessionModel = record { core = c.self.inside.core; names = c.self.inside.names.entries; snapshot_names = c.self.inside.snapshot_names.entries; now = c.self.inside.now } in
    let known : find_named c.args.name before.names ≡ Some c.in-Some.id.now = find_named_lookup c.args.name c.self.inside.names.entries ∙ sym c.in-Some.ensures.value in
    ran_within (lines.Mark c.in-Some.id.now c.as_slice.result.now) (lines.Mark c.args.name c.as_slice.result.now) before c.mark_read-mark.new.self c.in-Some.id.now (with_marks c.as_slice.result.now) 0 c.mark_read-mark.result c.done.result c.self.view_is (λ i. lines.Mark c.args.name (c.as_slice.ensures i))
    (λ m seg. mark_as m seg before c.mark_read-mark.new.self c.args.name c.in-Some.id.now c.as_slice.result.now c.self.invariant.0.transactions known) (omega arith) (λ t. omega arith)
    c.mark_read-mark.ensures.step (memory_refuses _ c.mark_read-mark.result c.mark_read-mark.ensures.cause) c.mark_read-mark.ensures.taken c.mark_read-mark.ensures.same c.mark_read-mark.ensures.kept (memory_cause c.mark_read-mark.result c.mark_read-mark.ensures.cause) c.done.ensures
