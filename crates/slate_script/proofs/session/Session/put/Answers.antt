use Rattle.std.proofs.Common.{◌≡◌, None, Some, refl, sym, ◌∙◌, arith}
use Rattle.slate_mem.specs.declared.WriteOp.TheVariants as ops
use Rattle.slate_txn.specs.Named.{find_named}
use Rattle.slate_txn.specs.declared.line.Line.TheVariants as lines
use Rattle.slate_txn.specs.Step.{with_op}
use Rattle.slate_language.specs.declared.reply.Answer.TheVariants as answers
use Rattle.slate_types.specs.declared.error.SlateDBError.TheVariants as errors
use Rattle.slate_script.specs.Session.{SessionModel}
use Rattle.slate_script.proofs.NamesLaws.{find_named_lookup}
use Rattle.slate_script.proofs.SessionNames.{names_ran}
use Rattle.slate_script.proofs.SessionOperations.{put_unknown, put_as, op_cause}
use Rattle.slate_script.proofs.Growth.{own_op}
use Rattle.slate_script.proofs.Within.{ran_within, still_within}
use Rattle.slate_script.proofs.session.Session.put.Goals as goal

pub returns-in_default : goal.returns-in_default
returns-in_default c =
    let before : SessionModel = record { core = c.self.inside.core; names = c.self.inside.names.entries; snapshot_names = c.self.inside.snapshot_names.entries; now = c.self.inside.now } in
    let none : find_named c.args.name before.names ≡ None = find_named_lookup c.args.name before.names ∙ sym c.in_default.ensures.value in
    still_within (lines.Put c.args.name c.args.key c.args.value c.args.ttl) (answers.Refused (errors.UnknownTransaction c.args.name)) c.self.view_is (λ m seg. put_unknown m seg before c.args.name c.args.key c.args.value c.args.ttl none)

pub put-put-requires : goal.put-put-requires
put-put-requires c = c.self.invariant.0.transactions.opened c.args.name c.in-Some.id.now (find_named_lookup c.args.name c.self.inside.names.entries ∙ sym c.in-Some.ensures.value)

pub invariant_of-self : goal.invariant_of-self
invariant_of-self c = (
  names_ran c.put-put.result c.self.inside.core c.put-put.new.self c.in-Some.id.now (with_op c.as_slice.result.now (ops.Put c.as_slice-2.result.now (record { ttl = c.args.ttl }))) c.self.inside.names.entries c.self.inside.snapshot_names.entries c.put-put.ensures.taken c.put-put.ensures.same c.self.invariant.0,
  c.self.invariant.1,
)

pub returns : goal.returns
returns c =
    let before : SessionModel = record { core = c.self.inside.core; names = c.self.inside.names.entries; snapshot_names = c.self.inside.snapshot_names.entries; now = c.self.inside.now } in
    let known : find_named c.args.name before.names ≡ Some c.in-Some.id.now = find_named_lookup c.args.name c.self.inside.names.entries ∙ sym c.in-Some.ensures.value in
    ran_within (lines.Put c.in-Some.id.now c.as_slice.result.now c.as_slice-2.result.now c.args.ttl) (lines.Put c.args.name c.as_slice.result.now c.as_slice-2.result.now c.args.ttl) before c.put-put.new.self c.in-Some.id.now (with_op c.as_slice.result.now (ops.Put c.as_slice-2.result.now (record { ttl = c.args.ttl }))) 1 c.put-put.result c.done.result c.self.view_is (λ i. lines.Put c.args.name (c.as_slice.ensures i) (c.as_slice-2.ensures i) c.args.ttl)
    (λ m seg. put_as m seg before c.put-put.new.self c.args.name c.in-Some.id.now c.as_slice.result.now c.as_slice-2.result.now c.args.ttl c.self.invariant.0.transactions known) (omega arith) (own_op c.as_slice.result.now (ops.Put c.as_slice-2.result.now (record { ttl = c.args.ttl })))
    c.put-put.ensures.step c.put-put.ensures.refused c.put-put.ensures.taken c.put-put.ensures.same c.put-put.ensures.kept (op_cause c.put-put.result c.as_slice.result.now (ops.Put c.as_slice-2.result.now (record { ttl = c.args.ttl })) c.put-put.ensures.cause) c.done.ensures
