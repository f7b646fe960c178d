use Rattle.std.proofs.Common.{◌≡◌, None, Some, refl, sym, ◌∙◌, arith}
use Rattle.slate_txn.specs.Named.{find_named}
use Rattle.slate_txn.specs.declared.line.Line.TheVariants as lines
use Rattle.slate_txn.specs.Step.{with_unmarks}
use Rattle.slate_language.specs.declared.reply.Answer.TheVariants as answers
use Rattle.slate_types.specs.declared.error.SlateDBError.TheVariants as errors
use Rattle.slate_script.specs.Session.{SessionModel}
use Rattle.slate_script.proofs.NamesLaws.{find_named_lookup}
use Rattle.slate_script.proofs.SessionNames.{names_ran}
use Rattle.slate_script.proofs.SessionOperations.{unmark_unknown, unmark_as, memory_refuses, memory_cause}
use Rattle.slate_script.proofs.Within.{ran_within, still_within}
use Rattle.slate_script.proofs.session.Session.unmark.Goals as goal

pub returns-in_default : goal.returns-in_default
returns-in_default c =
    let before : SessionModel = record { core = c.self.inside.core; names = c.self.inside.names.entries; snapshot_names = c.self.inside.snapshot_names.entries; now = c.self.inside.now } in
    let none : find_named c.args.name before.names ≡ None = find_named_lookup c.args.name before.names ∙ sym c.in_default.ensures.value in
    still_within (lines.Unmark c.args.name c.args.keys) (answers.Refused (errors.UnknownTransaction c.args.name)) c.self.view_is (λ m seg. unmark_unknown m seg before c.args.name c.args.keys none)

pub unmark_write-unmark-requires : goal.unmark_write-unmark-requires
unmark_write-unmark-requires c = c.self.invariant.0.transactions.opened c.args.name c.in-Some.id.now (find_named_lookup c.args.name c.self.inside.names.entries ∙ sym c.in-Some.ensures.value)

pub invariant_of-self : goal.invariant_of-self
invariant_of-self c = (
  names_ran c.unmark_write-unmark.result c.self.inside.core c.unmark_write-unmark.new.self c.in-Some.id.now (with_unmarks c.as_slice.result.now) c.self.inside.names.entries c.self.inside.snapshot_names.entries c.unmark_write-unmark.ensures.taken c.unmark_write-unmark.ensures.same c.self.invariant.0,
  c.self.invariant.1,
)

pub returns : goal.returns
returns c =
    let before : SessionModel = record { core = c.self.inside.core; names = c.self.inside.names.entries; snapshot_names = c.self.inside.snapshot_names.entries; now = c.self.inside.now } in
    let known : find_named c.args.name before.names ≡ Some c.in-Some.id.now = find_named_lookup c.args.name c.self.inside.names.entries ∙ sym c.in-Some.ensures.value in
    ran_within (lines.Unmark c.in-Some.id.now c.as_slice.result.now) (lines.Unmark c.args.name c.as_slice.result.now) before c.unmark_write-unmark.new.self c.in-Some.id.now (with_unmarks c.as_slice.result.now) 0 c.unmark_write-unmark.result c.done.result c.self.view_is (λ i. lines.Unmark c.args.name (c.as_slice.ensures i))
    (λ m seg. unmark_as m seg before c.unmark_write-unmark.new.self c.args.name c.in-Some.id.now c.as_slice.result.now c.self.invariant.0.transactions known) (omega arith) (λ t. omega arith)
    c.unmark_write-unmark.ensures.step (memory_refuses _ c.unmark_write-unmark.result c.unmark_write-unmark.ensures.cause) c.unmark_write-unmark.ensures.taken c.unmark_write-unmark.ensures.same c.unmark_write-unmark.ensures.kept (memory_cause c.unmark_write-unmark.result c.unmark_write-unmark.ensures.cause) c.done.ensures
