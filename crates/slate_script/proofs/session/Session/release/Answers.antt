use Rattle.std.proofs.Common.{◌≡◌, None, Some, Ok, List, ℕ, refl, sym, subst, ◌∙◌, ap}
use Rattle.slate_mem.specs.KeyTests.{Segments}
use Rattle.slate_txn.specs.Named.{find_named}
use Rattle.slate_txn.specs.State.{State}
use Rattle.slate_txn.specs.declared.event.Event.TheVariants as events
use Rattle.slate_txn.specs.declared.line.Line.TheVariants as lines
use Rattle.slate_db.specs.Meaning.{Meaning, rules_in}
use Rattle.slate_language.specs.declared.reply.Answer.TheVariants as answers
use Rattle.slate_types.specs.declared.error.SlateDBError.TheVariants as errors
use Rattle.slate_script.proofs.NamesLaws.{find_named_lookup, named_after}
use Rattle.slate_script.proofs.SessionNames.{closes_snapshot, names_released}
use Rattle.slate_script.proofs.SessionSteps.{rollback_refused, rollback_releases, plain_meaning}
use Rattle.slate_script.proofs.SessionLeaves.{leaves_event}
use Rattle.slate_script.proofs.Growth.{released_fewer, released_own, takes_event}
use Rattle.slate_script.proofs.Within.{leaves_within, still_within}
use Rattle.slate_script.specs.Calls.Line.{AnswersWithin}
use Rattle.slate_script.specs.Session.{SessionModel, NamesStand}
use Rattle.slate_script.proofs.session.Session.release.Goals as goal

pub returns-in_default : goal.returns-in_default
returns-in_default c =
    let before : SessionModel = record { core = c.self.inside.core; names = c.self.inside.names.entries; snapshot_names = c.self.inside.snapshot_names.entries; now = c.self.inside.now } in
    let none : find_named c.args.name before.names ≡ None = ap (λ (v : SessionModel). find_named c.args.name v.names) c.self.view_is ∙ c.requires in
    let unshown : find_named c.args.name before.snapshot_names ≡ None = find_named_lookup c.args.name before.snapshot_names ∙ sym c.in_default.ensures.value in
    subst (λ (ns : List (List ℕ × List ℕ)). AnswersWithin (lines.Rollback c.args.name) c.args.self.now (record before { snapshot_names = ns }) (Ok (answers.Refused (errors.UnknownTransaction c.args.name)))) (sym c.in_default.ensures.unchanged)
    (subst (λ (v : SessionModel). AnswersWithin (lines.Rollback c.args.name) c.args.self.now v (Ok (answers.Refused (errors.UnknownTransaction c.args.name)))) (sym c.self.view_is)
    (still_within (lines.Rollback c.args.name) (answers.Refused (errors.UnknownTransaction c.args.name)) c.self.view_is (λ m seg. rollback_refused m seg before c.args.name none unshown)))

pub release-requires : goal.release-requires
release-requires c = c.self.invariant.0.shown.opened c.args.name c.in-Some.id (find_named_lookup c.args.name c.self.inside.snapshot_names.entries ∙ sym c.in-Some.ensures.value)

pub invariant_of-self-2 : goal.invariant_of-self-2
invariant_of-self-2 c =
    let before : SessionModel = record { core = c.self.inside.core; names = c.self.inside.names.entries; snapshot_names = c.self.inside.snapshot_names.entries; now = c.self.inside.now } in
    let known : find_named c.args.name before.snapshot_names ≡ Some c.in-Some.id = find_named_lookup c.args.name before.snapshot_names ∙ sym c.in-Some.ensures.value in (
      subst (λ (s : State). NamesStand before.names c.remove.new.self.entries s.txns s.snapshots)
          (sym (closes_snapshot (rules_in before.core.settings plain_meaning None) before.core.state c.release.new.self.state c.args.name c.in-Some.id (c.release.ensures.step plain_meaning None) c.self.invariant.0 known))
          (names_released c.args.name c.in-Some.id before.names before.snapshot_names c.remove.new.self.entries before.core.state.txns before.core.state.snapshots c.self.invariant.0 known
          (λ q. named_after c.args.name q None before.snapshot_names c.remove.new.self.entries (c.remove.ensures.updates.0 q))),
      c.self.invariant.1,
    )

pub returns : goal.returns
returns c =
    let before : SessionModel = record { core = c.self.inside.core; names = c.self.inside.names.entries; snapshot_names = c.self.inside.snapshot_names.entries; now = c.self.inside.now } in
    let known : find_named c.args.name before.snapshot_names ≡ Some c.in-Some.id = find_named_lookup c.args.name before.snapshot_names ∙ sym c.in-Some.ensures.value in
    let closes = λ (m : Meaning) (seg : Segments). closes_snapshot (rules_in before.core.settings m seg) before.core.state c.release.new.self.state c.args.name c.in-Some.id (c.release.ensures.step m seg) c.self.invariant.0 known in
    leaves_within (lines.Rollback c.args.name) before c.release.new.self before.names c.remove.new.self.entries before.now answers.Done c.self.view_is
    (λ m seg. rollback_releases m seg before c.release.new.self c.remove.new.self.entries c.args.name c.in-Some.id c.self.invariant.0 known (closes m seg) (λ q. named_after c.args.name q None before.snapshot_names c.remove.new.self.entries (c.remove.ensures.updates.0 q)))
    (leaves_event c.self.inside.core c.release.new.self (events.Release c.in-Some.id) c.release.ensures.event refl) c.release.ensures.kept c.release.ensures.segmented
    (takes_event c.self.inside.core c.release.new.self (events.Release c.in-Some.id) c.release.ensures.event
    (released_fewer before.core.state c.release.new.self.state c.in-Some.id (closes plain_meaning None)) (released_own before.core.state c.release.new.self.state c.in-Some.id (closes plain_meaning None)))
