use Rattle.std.proofs.Common.{arith, ◌≡◌, None, Some, Ok, List, ℕ, refl, sym, subst, ◌∙◌, ap}
use Rattle.slate_mem.specs.KeyTests.{Segments}
use Rattle.slate_txn.specs.Named.{find_named}
use Rattle.slate_txn.specs.State.{State}
use Rattle.slate_txn.specs.declared.event.Event.TheVariants as events
use Rattle.slate_txn.specs.declared.line.Line.TheVariants as lines
use Rattle.slate_db.specs.Meaning.{Meaning, rules_in}
use Rattle.slate_language.specs.declared.reply.Answer.TheVariants as answers
use Rattle.slate_script.proofs.NamesLaws.{find_named_lookup, named_after}
use Rattle.slate_script.proofs.SessionNames.{closes_txn, names_closed}
use Rattle.slate_script.proofs.SessionSteps.{rollback_closes, plain_meaning}
use Rattle.slate_script.proofs.SessionLeaves.{leaves_event}
use Rattle.slate_script.proofs.Growth.{closed_fewer, closed_own, takes_event}
use Rattle.slate_script.proofs.Within.{leaves_within}
use Rattle.slate_script.specs.Calls.Line.{AnswersWithin}
use Rattle.slate_script.specs.Session.{SessionModel, NamesStand}
use Rattle.slate_script.proofs.session.Session.rollback.Goals as goal

pub release-requires : goal.release-requires
release-requires c = ap (find_named c.args.name) c.in_default.ensures.unchanged ∙ find_named_lookup c.args.name c.self.inside.names.entries ∙ sym c.in_default.ensures.value

pub returns-in_default : goal.returns-in_default
returns-in_default c =
    let before : SessionModel = record { core = c.self.inside.core; names = c.self.inside.names.entries; snapshot_names = c.self.inside.snapshot_names.entries; now = c.self.inside.now } in
    subst (λ (v : SessionModel). AnswersWithin (lines.Rollback c.args.name) v c.release.new.self (Ok c.release.result)) c.self.view_is
    (subst (λ (ns : List (List ℕ × List ℕ)). AnswersWithin (lines.Rollback c.args.name) (record before { names = ns }) c.release.new.self (Ok c.release.result)) c.in_default.ensures.unchanged c.release.ensures)

pub rollback-requires : goal.rollback-requires
rollback-requires c = c.self.invariant.0.transactions.opened c.args.name c.in-Some.id (find_named_lookup c.args.name c.self.inside.names.entries ∙ sym c.in-Some.ensures.value)

pub invariant_of-self-2 : goal.invariant_of-self-2
invariant_of-self-2 c =
    let before : SessionModel = record { core = c.self.inside.core; names = c.self.inside.names.entries; snapshot_names = c.self.inside.snapshot_names.entries; now = c.self.inside.now } in
    let known : find_named c.args.name before.names ≡ Some c.in-Some.id = find_named_lookup c.args.name before.names ∙ sym c.in-Some.ensures.value in (
      subst (λ (s : State). NamesStand c.remove.new.self.entries before.snapshot_names s.txns s.snapshots)
          (sym (closes_txn (rules_in before.core.settings plain_meaning None) before.core.state c.rollback.new.self.state c.args.name c.in-Some.id (c.rollback.ensures.step plain_meaning None) c.self.invariant.0 known))
          (names_closed c.args.name c.in-Some.id before.names c.remove.new.self.entries before.snapshot_names before.core.state.txns before.core.state.snapshots c.self.invariant.0 known
          (λ q. named_after c.args.name q None before.names c.remove.new.self.entries (c.remove.ensures.updates.0 q))),
      c.self.invariant.1,
    )

pub returns : goal.returns
returns c =
    let before : SessionModel = record { core = c.self.inside.core; names = c.self.inside.names.entries; snapshot_names = c.self.inside.snapshot_names.entries; now = c.self.inside.now } in
    let known : find_named c.args.name before.names ≡ Some c.in-Some.id = find_named_lookup c.args.name before.names ∙ sym c.in-Some.ensures.value in
    let closes = λ (m : Meaning) (seg : Segments). closes_txn (rules_in before.core.settings m seg) before.core.state c.rollback.new.self.state c.args.name c.in-Some.id (c.rollback.ensures.step m seg) c.self.invariant.0 known in
    leaves_within (lines.Rollback c.args.name) before c.rollback.new.self c.remove.new.self.entries before.snapshot_names before.now answers.Done c.self.view_is
    (λ m seg. rollback_closes m seg before c.rollback.new.self c.remove.new.self.entries c.args.name c.in-Some.id c.self.invariant.0 known (closes m seg) (λ q. named_after c.args.name q None before.names c.remove.new.self.entries (c.remove.ensures.updates.0 q)))
    (leaves_event c.self.inside.core c.rollback.new.self (events.End c.in-Some.id) c.rollback.ensures.event refl) c.rollback.ensures.kept c.rollback.ensures.segmented
    (takes_event c.self.inside.core c.rollback.new.self (events.End c.in-Some.id) c.rollback.ensures.event
    (closed_fewer before.core.state c.rollback.new.self.state c.in-Some.id (closes plain_meaning None)) (closed_own before.core.state c.rollback.new.self.state c.in-Some.id (closes plain_meaning None)))
