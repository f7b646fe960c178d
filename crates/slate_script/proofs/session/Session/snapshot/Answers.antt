use Rattle.std.proofs.Common.{◌≡◌, ◌⊎◌, Err, None, arith, cond, Some, Ok, refl, sym, subst, ap, ◌∙◌, inl}
use Rattle.std.proofs.lemmas.Result.{err_from_is_err_and}
use Rattle.std.specs.Map.{lookup}
use Rattle.std.specs.BTreeMap.{is_at}
use Rattle.slate_types.specs.Keys.{key_cmp}
use Rattle.slate_txn.specs.declared.event.Event.TheVariants as events
use Rattle.slate_txn.specs.declared.line.Line.TheVariants as lines
use Rattle.slate_language.specs.declared.reply.Answer.TheVariants as answers
use Rattle.slate_types.specs.declared.error.SlateDBError.TheVariants as errors
use Rattle.slate_script.proofs.NamesLaws.{named_after}
use Rattle.slate_script.proofs.SessionNames.{opens_snapshot, names_shown, names_snapshot}
use Rattle.slate_script.proofs.SessionSteps.{ReadsUnder, snapshot_refused, snapshot_opens, plain_meaning, unnamed}
use Rattle.slate_script.proofs.SessionLeaves.{leaves_event}
use Rattle.slate_script.proofs.Growth.{takes_event, shown_more, shown_own, limited}
use Rattle.slate_script.proofs.Within.{failed_within, leaves_within, still_within}
use Rattle.slate_db.specs.Meaning.{rules_in}
use Rattle.slate_script.specs.Session.{SessionModel, IsLimit, NamesStand, reader_id}
use Rattle.slate_script.proofs.session.Session.snapshot.Goals as goal

pub returns-then-is_some : goal.returns-then-is_some
returns-then-is_some c = still_within (lines.Snapshot c.args.name) (answers.Refused (errors.DuplicateTransaction c.args.name)) refl (λ m seg. snapshot_refused m seg c.args.self.now c.args.name c.reader_id.result c.reader_id.ensures.reads c.reader_id.ensures.known (sym c.if-is_some.ensures))

pub invariant_of-self-in_err-insert : goal.invariant_of-self-in_err-insert
invariant_of-self-in_err-insert c =
    let old : NamesStand c.self.inside.names.entries c.self.inside.snapshot_names.entries c.snapshot.new.self.state.txns c.snapshot.new.self.state.snapshots =
    names_shown c.self.inside.names.entries c.self.inside.snapshot_names.entries (opens_snapshot (rules_in c.self.inside.core.settings plain_meaning None) c.self.inside.core.state c.snapshot.new.self.state c.in_ok-id.id c.in_ok-id.seq (c.in_ok-id.ensures.step plain_meaning None)) c.self.invariant.0 in
    (subst (λ es. NamesStand c.self.inside.names.entries es c.snapshot.new.self.state.txns c.snapshot.new.self.state.snapshots) (sym c.in_err-insert.ensures.err) old, c.self.invariant.1)

pub invariant_of-self-2 : goal.invariant_of-self-2
invariant_of-self-2 c =
    let before : SessionModel = record { core = c.self.inside.core; names = c.self.inside.names.entries; snapshot_names = c.self.inside.snapshot_names.entries; now = c.self.inside.now } in
    let shut = unnamed before c.args.name c.reader_id.result (c.reader_id.ensures.id ∙ ap (λ (v : SessionModel). reader_id v c.args.name) (sym c.self.view_is)) (sym c.if-is_some.ensures) in (
      names_snapshot c.args.name before.names before.snapshot_names c.insert.new.self.entries (opens_snapshot (rules_in c.self.inside.core.settings plain_meaning None) c.self.inside.core.state c.snapshot.new.self.state c.in_ok-id.id c.in_ok-id.seq (c.in_ok-id.ensures.step plain_meaning None)) shut.0
          (λ q. named_after c.args.name q (Some c.in_ok-id.id) before.snapshot_names c.insert.new.self.entries
          (c.in_ok-insert.ensures.updates.0 q ∙ ap (λ k. cond (is_at (key_cmp k) q) (Some c.in_ok-id.id) (lookup (is_at (key_cmp q)) before.snapshot_names)) c.in_ok-key.ensures.cases)) c.self.invariant.0,
      c.self.invariant.1,
    )

pub returns : goal.returns
returns c =
    let before : SessionModel = record { core = c.self.inside.core; names = c.self.inside.names.entries; snapshot_names = c.self.inside.snapshot_names.entries; now = c.self.inside.now } in
    leaves_within (lines.Snapshot c.args.name) before c.snapshot.new.self before.names c.insert.new.self.entries before.now (answers.SnapshotAt c.args.name c.in_ok-id.seq) c.self.view_is (λ m seg.
    (snapshot_opens m seg before c.snapshot.new.self c.insert.new.self.entries c.args.name c.in_ok-id.id c.in_ok-id.seq c.reader_id.result c.self.invariant.0
    (c.reader_id.ensures.id ∙ ap (λ (v : SessionModel). reader_id v c.args.name) (sym c.self.view_is)) (subst (λ (v : SessionModel). ReadsUnder v c.args.name c.reader_id.result) (sym c.self.view_is) c.reader_id.ensures.reads) (sym c.if-is_some.ensures)
    (opens_snapshot (rules_in before.core.settings m seg) before.core.state c.snapshot.new.self.state c.in_ok-id.id c.in_ok-id.seq (c.in_ok-id.ensures.step m seg))
    (λ q. named_after c.args.name q (Some c.in_ok-id.id) before.snapshot_names c.insert.new.self.entries
    (c.in_ok-insert.ensures.updates.0 q ∙ ap (λ k. cond (is_at (key_cmp k) q) (Some c.in_ok-id.id) (lookup (is_at (key_cmp q)) before.snapshot_names)) c.in_ok-key.ensures.cases))))
    (leaves_event c.self.inside.core c.snapshot.new.self (events.Snapshot c.in_ok-id.id c.in_ok-id.seq) c.in_ok-id.ensures.event refl) c.in_ok-id.ensures.kept c.in_ok-id.ensures.segmented
    (takes_event c.self.inside.core c.snapshot.new.self (events.Snapshot c.in_ok-id.id c.in_ok-id.seq) c.in_ok-id.ensures.event
    (shown_more (rules_in c.self.inside.core.settings plain_meaning None) c.self.inside.core.state c.snapshot.new.self.state c.in_ok-id.id c.in_ok-id.seq (opens_snapshot (rules_in c.self.inside.core.settings plain_meaning None) c.self.inside.core.state c.snapshot.new.self.state c.in_ok-id.id c.in_ok-id.seq (c.in_ok-id.ensures.step plain_meaning None)))
    (shown_own (rules_in c.self.inside.core.settings plain_meaning None) c.self.inside.core.state c.snapshot.new.self.state c.in_ok-id.id c.in_ok-id.seq (opens_snapshot (rules_in c.self.inside.core.settings plain_meaning None) c.self.inside.core.state c.snapshot.new.self.state c.in_ok-id.id c.in_ok-id.seq (c.in_ok-id.ensures.step plain_meaning None))))

pub returns-in_err-key : goal.returns-in_err-key
returns-in_err-key c =
    let p = err_from_is_err_and c.from_residual.result c.from_residual.ensures.1 in
    failed_within (lines.Snapshot c.args.name) _ _ c.from_residual.result p.1 (inl p.2)

pub returns-in_err-insert : goal.returns-in_err-insert
returns-in_err-insert c =
    let p = err_from_is_err_and c.from_residual-in_err-insert.result c.from_residual-in_err-insert.ensures.1 in
    failed_within (lines.Snapshot c.args.name) _ _ c.from_residual-in_err-insert.result p.1 (inl p.2)

pub returns-in_err-id : goal.returns-in_err-id
returns-in_err-id c =
    let before : SessionModel = record { core = c.self.inside.core; names = c.self.inside.names.entries; snapshot_names = c.self.inside.snapshot_names.entries; now = c.self.inside.now } in
    let p = err_from_is_err_and c.from_residual-in_err-id.result c.from_residual-in_err-id.ensures.1 in
    failed_within (lines.Snapshot c.args.name) c.args.self.now (record before { core = c.snapshot.new.self }) c.from_residual-in_err-id.result (p.1 ∙ ap Err p.2) (subst (λ (v : SessionModel). ◌⊎◌ (c.in_err-id.field-0.0 ≡ errors.OutOfMemory) (IsLimit v c.in_err-id.field-0.0)) c.self.view_is (limited before 2 c.in_err-id.field-0.0 (omega arith) c.in_err-id.ensures.cause))
