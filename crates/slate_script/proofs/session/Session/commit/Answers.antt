use Rattle.std.proofs.Common.{◌≡◌, ℕ, ◌⊎◌, List, length, None, Some, Ok, OnOk, Result, cond, refl, sym, ap, subst, ◌∙◌, arith}
use Rattle.std.specs.Prelude.{IfErr}
use Rattle.std.specs.Str.{bytes_eq}
use Rattle.slate_store.specs.Reach.{reach_of}
use Rattle.slate_types.specs.Outside.{IsCounted, IsOperatorStill}
use Rattle.slate_types.proofs.Calls.{call_none}
use Rattle.slate_types.proofs.Reaching.{reads_none}
use Rattle.slate_types.proofs.StillLaws.{asked_still}
use Rattle.slate_txn.specs.Named.{find_named, without}
use Rattle.slate_txn.specs.Conflict.{conflict}
use Rattle.slate_txn.specs.State.{Tx}
use Rattle.slate_txn.specs.Reply.{Committed}
use Rattle.slate_txn.specs.declared.line.Line.TheVariants as lines
use Rattle.slate_db.specs.Installs.{runs_of}
use Rattle.slate_db.specs.Meaning.{rules_in, segments_by}
use Rattle.slate_db.specs.Segmented.{IsSegmented}
use Rattle.slate_db.specs.Sound.{IsKept, IsOperable}
use Rattle.slate_language.specs.declared.reply.Answer.{Answer}
use Rattle.slate_language.specs.declared.reply.Answer.TheVariants as answers
use Rattle.slate_types.specs.declared.error.SlateDBError.{SlateDBError}
use Rattle.slate_types.specs.declared.error.SlateDBError.TheVariants as errors
use Rattle.slate_script.specs.Session.{SessionModel, StepsAs, Grows, IsLimit, NamesStand, StoresNothing}
use Rattle.slate_script.proofs.NamesLaws.{find_named_lookup, named_after}
use Rattle.slate_script.proofs.SessionNames.{names_closed}
use Rattle.slate_script.proofs.SessionSteps.{IsNamed, given_moment, named_of}
use Rattle.slate_script.proofs.SessionOperations.{commit_unknown, commit_as, commit_moment, refused_as, refused_moment}
use Rattle.slate_script.proofs.SessionLeaves.{Closes, closes_committed, closes_ended, leaves_closed, stores_by}
use Rattle.slate_script.proofs.Refusing.{commit_cause, refused_still}
use Rattle.slate_script.proofs.Growth.{grows, takes_closed}
use Rattle.slate_script.proofs.Running.{always}
use Rattle.slate_script.proofs.session.Session.commit.Goals as goal
use Rattle.slate_script.proofs.session.Session.commit.Goals.{in-Ok, in-Err}
use Rattle.slate_script.proofs.MeaningOf.{counts_of, meaning_of}

pub returns-in_default : goal.returns-in_default
returns-in_default g c =
    record {
      step = (λ given.
          let operable = given.0 in let segmented = given.1 in
          let seg = (segments_by g.X.PrefixExtractor.lengths c.args.laws.now.segments) in
          let m = meaning_of g.M.MergeOperator.combine g.T.BlockTransformer.encoded g.T.BlockTransformer.decoded c.args.env.now.operator c.args.env.now.transformer in
          let before : SessionModel = record { core = c.self.inside.core; names = c.self.inside.names.entries; snapshot_names = c.self.inside.snapshot_names.entries; now = c.self.inside.now } in
          let none : find_named c.args.name before.names ≡ None = find_named_lookup c.args.name before.names ∙ sym c.in_default.ensures.value in
          subst (λ (v : SessionModel). StepsAs m seg v (record before { names = c.remove.new.self.entries }) (lines.Commit c.args.name) (Ok (answers.Refused (errors.UnknownTransaction c.args.name)))) c.self.view_is
          (subst (λ (ns : List (List ℕ × List ℕ)). StepsAs m seg before (record before { names = ns }) (lines.Commit c.args.name) (Ok (answers.Refused (errors.UnknownTransaction c.args.name)))) (sym c.in_default.ensures.unchanged)
          (commit_unknown m seg before c.args.name none)));
      stores = (let same : length c.self.inside.core.events ≡ length c.args.self.now.core.events = ap (λ (v : SessionModel). length v.core.events) c.self.view_is in
          record {
            settings = ap (λ (v : SessionModel). v.core.settings) c.self.view_is;
            runs = ap (λ (v : SessionModel). runs_of v.core.events) c.self.view_is;
            later = omega (arith, same);
            kept = λ k. subst (λ (v : SessionModel). IsKept (meaning_of g.M.MergeOperator.combine g.T.BlockTransformer.encoded g.T.BlockTransformer.decoded c.args.env.now.operator c.args.env.now.transformer) v.core) (sym c.self.view_is) k;
            segmented = λ k. subst (λ (v : SessionModel). IsSegmented (segments_by g.X.PrefixExtractor.lengths c.args.laws.now.segments) v.core) (sym c.self.view_is) k;
          });
      grows = (let before : SessionModel = record { core = c.self.inside.core; names = c.self.inside.names.entries; snapshot_names = c.self.inside.snapshot_names.entries; now = c.self.inside.now } in
          subst (λ (v : SessionModel). Grows (lines.Commit c.args.name) v (record before { names = c.remove.new.self.entries })) c.self.view_is (omega arith, omega arith));
      cause = tt;
      call = call_none _;
      reads = reads_none _;
      still = refl;
    }

pub commit-requires : goal.commit-requires
commit-requires g c = (search, (search, c.self.invariant.0.transactions.opened c.args.name c.in-Some.id (find_named_lookup c.args.name c.self.inside.names.entries ∙ sym c.in-Some.ensures.value)))

pub invariant_of-self-2 : goal.invariant_of-self-2
invariant_of-self-2 g c =
    let before : SessionModel = record { core = c.self.inside.core; names = c.self.inside.names.entries; snapshot_names = c.self.inside.snapshot_names.entries; now = c.self.inside.now } in
    let id = c.in-Some.id in
    let known : find_named c.args.name before.names ≡ Some id = find_named_lookup c.args.name before.names ∙ sym c.in-Some.ensures.value in
    let t : IsNamed (find_named id before.core.state.txns) = named_of (find_named id before.core.state.txns) (c.self.invariant.0.transactions.opened c.args.name id known) in
    let closed : Closes before.core c.commit.new.self id = elim c.match-commit.branch [
      | in-Ok w ↦ closes_committed before.core c.commit.new.self id w.in-Ok.seq _ t.value ((w.in-Ok.ensures.commits t.value t.is).event)
      | in-Err w ↦ closes_ended before.core c.commit.new.self id (w.in-Err.ensures.commits t.value t.is).ended
    ] in
    let updates : (q : List ℕ) → find_named q c.remove.new.self.entries ≡ cond (bytes_eq c.args.name q) None (find_named q before.names) = λ q. named_after c.args.name q None before.names c.remove.new.self.entries (c.remove.ensures.updates.0 q) in (
      subst (λ (ts : List (List ℕ × Tx)). NamesStand c.remove.new.self.entries before.snapshot_names ts c.commit.new.self.state.snapshots) (sym closed.txns)
          (subst (λ (ss : List (List ℕ × ℕ)). NamesStand c.remove.new.self.entries before.snapshot_names (without id before.core.state.txns) ss) (sym closed.snapshots)
          (names_closed c.args.name id before.names c.remove.new.self.entries before.snapshot_names before.core.state.txns before.core.state.snapshots c.self.invariant.0 known updates)),
      c.self.invariant.1,
    )

pub returns : goal.returns
returns g c =
    let t : IsNamed (find_named c.in-Some.id c.self.inside.core.state.txns) = named_of (find_named c.in-Some.id c.self.inside.core.state.txns)
    (c.self.invariant.0.transactions.opened c.args.name c.in-Some.id (find_named_lookup c.args.name c.self.inside.names.entries ∙ sym c.in-Some.ensures.value)) in
    record {
      step = (λ given. let operable = given.0 in let segmented = given.1 in
          let seg = (segments_by g.X.PrefixExtractor.lengths c.args.laws.now.segments) in
          let m = meaning_of g.M.MergeOperator.combine g.T.BlockTransformer.encoded g.T.BlockTransformer.decoded c.args.env.now.operator c.args.env.now.transformer in
          let old_counts = counts_of (g.S.Store.faults c.args.env.now.store.now) g.M.MergeOperator.faults g.T.BlockTransformer.faults c.args.env.now.operator c.args.env.now.transformer in
          let new_counts = counts_of (g.S.Store.faults c.commit.new.env.store.now) g.M.MergeOperator.faults g.T.BlockTransformer.faults c.commit.new.env.operator c.commit.new.env.transformer in
          let before : SessionModel = record { core = c.self.inside.core; names = c.self.inside.names.entries; snapshot_names = c.self.inside.snapshot_names.entries; now = c.self.inside.now } in
          let held : IsSegmented seg before.core = subst (λ (v : SessionModel). IsSegmented seg v.core) (sym c.self.view_is) segmented in
          let id = c.in-Some.id in
          let known : find_named c.args.name before.names ≡ Some id = find_named_lookup c.args.name before.names ∙ sym c.in-Some.ensures.value in
          let closed : Closes before.core c.commit.new.self id = elim c.match-commit.branch [
            | in-Ok w ↦ closes_committed before.core c.commit.new.self id w.in-Ok.seq _ t.value ((w.in-Ok.ensures.commits t.value t.is).event)
            | in-Err w ↦ closes_ended before.core c.commit.new.self id (w.in-Err.ensures.commits t.value t.is).ended
          ] in
          let updates : (q : List ℕ) → find_named q c.remove.new.self.entries ≡ cond (bytes_eq c.args.name q) None (find_named q before.names) = λ q. named_after c.args.name q None before.names c.remove.new.self.entries (c.remove.ensures.updates.0 q) in
          let after : SessionModel = record before { core = c.commit.new.self; names = c.remove.new.self.entries } in
          subst (λ (v : SessionModel). StepsAs m seg v after (lines.Commit c.args.name) c.match-commit.result) c.self.view_is
          (elim c.match-commit.branch [
            | in-Ok w ↦ subst (λ (r : Result Answer SlateDBError). StepsAs m seg before after (lines.Commit c.args.name) r) (sym w.result-is)
                (commit_as m seg before c.commit.new.self c.remove.new.self.entries c.args.name id (answers.Committed w.in-Ok.seq) c.self.invariant.0 known closed.txns closed.snapshots closed.flushed updates
                (commit_moment (rules_in before.core.settings m seg) before.core c.commit.new.self id (Committed w.in-Ok.seq) (given_moment c.self.inside.now c.self.invariant.1) ((w.in-Ok.ensures.commits t.value t.is).step held)))
            | in-Err w ↦ subst (λ (r : Result Answer SlateDBError). StepsAs m seg before after (lines.Commit c.args.name) r) (sym w.result-is)
                (refused_as m seg old_counts new_counts before c.commit.new.self c.remove.new.self.entries c.args.name id w.in-Err.error w.refused.result
                (λ a. commit_as m seg before c.commit.new.self c.remove.new.self.entries c.args.name id a c.self.invariant.0 known closed.txns closed.snapshots closed.flushed updates)
                w.refused.ensures.reply w.refused.ensures.answered
                (refused_moment m seg before.core c.commit.new.self id w.in-Err.error (given_moment c.self.inside.now c.self.invariant.1)
                ((w.in-Err.ensures.commits t.value t.is).refused (subst (λ (v : SessionModel). IsOperable m v.core) (sym c.self.view_is) operable) held)))
          ]));
      stores = (let seg = (segments_by g.X.PrefixExtractor.lengths c.args.laws.now.segments) in
          let before : SessionModel = record { core = c.self.inside.core; names = c.self.inside.names.entries; snapshot_names = c.self.inside.snapshot_names.entries; now = c.self.inside.now } in
          let id = c.in-Some.id in
          let known : find_named c.args.name before.names ≡ Some id = find_named_lookup c.args.name before.names ∙ sym c.in-Some.ensures.value in
          let closed : Closes before.core c.commit.new.self id = elim c.match-commit.branch [
            | in-Ok w ↦ closes_committed before.core c.commit.new.self id w.in-Ok.seq _ t.value ((w.in-Ok.ensures.commits t.value t.is).event)
            | in-Err w ↦ closes_ended before.core c.commit.new.self id (w.in-Err.ensures.commits t.value t.is).ended
          ] in
          let m = meaning_of g.M.MergeOperator.combine g.T.BlockTransformer.encoded g.T.BlockTransformer.decoded c.args.env.now.operator c.args.env.now.transformer in
          subst (λ (v : SessionModel). OnOk c.match-commit.result (StoresNothing m seg v (record before { core = c.commit.new.self; names = c.remove.new.self.entries }))) c.self.view_is
          (always c.match-commit.result (stores_by m seg before c.commit.new.self c.remove.new.self.entries before.snapshot_names before.now (leaves_closed before.core c.commit.new.self id closed) (c.commit.ensures.commits t.value t.is).keeps.own.rows (c.commit.ensures.commits t.value t.is).keeps.own.segments)));
      grows = (let before : SessionModel = record { core = c.self.inside.core; names = c.self.inside.names.entries; snapshot_names = c.self.inside.snapshot_names.entries; now = c.self.inside.now } in
          let id = c.in-Some.id in
          let known : find_named c.args.name before.names ≡ Some id = find_named_lookup c.args.name before.names ∙ sym c.in-Some.ensures.value in
          let closed : Closes before.core c.commit.new.self id = elim c.match-commit.branch [
            | in-Ok w ↦ closes_committed before.core c.commit.new.self id w.in-Ok.seq _ t.value ((w.in-Ok.ensures.commits t.value t.is).event)
            | in-Err w ↦ closes_ended before.core c.commit.new.self id (w.in-Err.ensures.commits t.value t.is).ended
          ] in
          subst (λ (v : SessionModel). OnOk c.match-commit.result (Grows (lines.Commit c.args.name) v (record before { core = c.commit.new.self; names = c.remove.new.self.entries }))) c.self.view_is
          (always c.match-commit.result (grows before c.commit.new.self c.remove.new.self.entries before.snapshot_names before.now (lines.Commit c.args.name) 0 (omega arith)
          (takes_closed before.core c.commit.new.self id t.value closed t.is (c.commit.ensures.commits t.value t.is).grows))));
      cause = (let before : SessionModel = record { core = c.self.inside.core; names = c.self.inside.names.entries; snapshot_names = c.self.inside.snapshot_names.entries; now = c.self.inside.now } in
          let id = c.in-Some.id in
          let known : find_named c.args.name before.names ≡ Some id = find_named_lookup c.args.name before.names ∙ sym c.in-Some.ensures.value in
          let m = meaning_of g.M.MergeOperator.combine g.T.BlockTransformer.encoded g.T.BlockTransformer.decoded c.args.env.now.operator c.args.env.now.transformer in
          let old = counts_of (g.S.Store.faults c.args.env.now.store.now) g.M.MergeOperator.faults g.T.BlockTransformer.faults c.args.env.now.operator c.args.env.now.transformer in
          let new = counts_of (g.S.Store.faults c.commit.new.env.store.now) g.M.MergeOperator.faults g.T.BlockTransformer.faults c.commit.new.env.operator c.commit.new.env.transformer in
          subst (λ (v : SessionModel). IfErr c.match-commit.result (λ e. IsCounted old new e ⊎ IsLimit v e)) c.self.view_is
          (elim c.match-commit.branch [
            | in-Ok w ↦ subst (λ (r : Result Answer SlateDBError). IfErr r (λ e. IsCounted old new e ⊎ IsLimit before e)) (sym w.result-is) tt
            | in-Err w ↦ subst (λ (r : Result Answer SlateDBError). IfErr r (λ e. IsCounted old new e ⊎ IsLimit before e)) (sym w.result-is)
                (commit_cause before w.in-Err.error w.refused.result w.refused.ensures.other (w.in-Err.ensures.commits t.value t.is))
          ]));
      call = (c.commit.ensures.commits t.value t.is).asks.call;
      reads = (c.commit.ensures.commits t.value t.is).asks.reads;
      still = (let old = counts_of (g.S.Store.faults c.args.env.now.store.now) g.M.MergeOperator.faults g.T.BlockTransformer.faults c.args.env.now.operator c.args.env.now.transformer in
          let new = counts_of (g.S.Store.faults c.commit.new.env.store.now) g.M.MergeOperator.faults g.T.BlockTransformer.faults c.commit.new.env.operator c.commit.new.env.transformer in
          asked_still old new c.match-commit.result (ap (λ v. (reach_of g.S.Store g.M.MergeOperator g.T.BlockTransformer v).faults.store) c.commit.ensures.outside)
          (elim c.match-commit.branch [
            | in-Ok w ↦ subst (λ (r : Result Answer SlateDBError). IsOperatorStill old.operator new.operator r) (sym w.result-is) (w.in-Ok.ensures.commits t.value t.is).asks.still
            | in-Err w ↦ subst (λ (r : Result Answer SlateDBError). IsOperatorStill old.operator new.operator r) (sym w.result-is)
                (refused_still old.operator new.operator w.in-Err.error w.refused.result w.refused.ensures.answered w.refused.ensures.other (w.in-Err.ensures.commits t.value t.is).asks.still)
          ])
          (ap (λ v. (reach_of g.S.Store g.M.MergeOperator g.T.BlockTransformer v).faults.transformer) c.commit.ensures.outside));
    }
