use Rattle.std.proofs.Common.{◌⊎◌, arith, length, OnOk, Result, sym, ap, subst, refl}
use Rattle.std.specs.Prelude.{IfErr}
use Rattle.slate_store.specs.Reach.{reach_of}
use Rattle.slate_types.specs.Outside.{IsCounted, IsOperatorStill}
use Rattle.slate_types.proofs.Calls.{call_none}
use Rattle.slate_types.proofs.Reaching.{reads_none}
use Rattle.slate_types.proofs.StillLaws.{asked_still}
use Rattle.slate_txn.specs.Reply.{Written}
use Rattle.slate_db.specs.Meaning.{rules_in, segments_by}
use Rattle.slate_db.specs.Segmented.{IsSegmented}
use Rattle.slate_types.specs.declared.error.SlateDBError.{SlateDBError}
use Rattle.slate_txn.specs.declared.line.Line.TheVariants as lines
use Rattle.slate_language.specs.declared.reply.Answer.{Answer}
use Rattle.slate_language.specs.declared.reply.Answer.TheVariants as answers
use Rattle.slate_script.specs.Session.{SessionModel, StepsAs, Grows, IsLimit, StoresNothing}
use Rattle.slate_script.proofs.SessionSteps.{batch_refused, refused_cause, write_as, commit_refused, at_ops, at_moment, refused_at_moment, given_moment}
use Rattle.slate_script.proofs.SessionLeaves.{leaves_written, leaves_same, written_txns, written_snapshots, written_flushed, kept_same, stores_by}
use Rattle.slate_script.proofs.Growth.{grows, grows_where, takes_written, takes_same}
use Rattle.slate_script.proofs.LineEnds.{memory_or_limit}
use Rattle.slate_script.proofs.Refusing.{refused_still, write_cause}
use Rattle.slate_script.proofs.Running.{always}
use Rattle.slate_script.proofs.session.Session.write.Goals as goal
use Rattle.slate_script.proofs.session.Session.write.Goals.{in-Ok-write, in-Err-write}
use Rattle.slate_script.proofs.MeaningOf.{counts_of, meaning_of}

pub returns : goal.returns
returns g c =
    record {
      step = (λ segmented.
          let seg = (segments_by g.X.PrefixExtractor.lengths c.args.laws.now.segments) in
          let before : SessionModel = record { core = c.self.inside.core; names = c.self.inside.names.entries; snapshot_names = c.self.inside.snapshot_names.entries; now = c.self.inside.now } in
          let m = meaning_of g.M.MergeOperator.combine g.T.BlockTransformer.encoded g.T.BlockTransformer.decoded c.args.env.now.operator c.args.env.now.transformer in
          let old = counts_of (g.S.Store.faults c.args.env.now.store.now) g.M.MergeOperator.faults g.T.BlockTransformer.faults c.args.env.now.operator c.args.env.now.transformer in
          let new = counts_of (g.S.Store.faults c.write.new.env.store.now) g.M.MergeOperator.faults g.T.BlockTransformer.faults c.write.new.env.operator c.write.new.env.transformer in
          let held : IsSegmented seg before.core = subst (λ (v : SessionModel). IsSegmented seg v.core) (sym c.self.view_is) segmented in
          subst (λ (v : SessionModel). StepsAs m seg v (record before { core = c.write.new.self }) (lines.Write c.args.ops) c.match-write.result) c.self.view_is
          (elim c.match-write.branch [
            | in-Ok-write w ↦ subst (λ (r : Result Answer SlateDBError). StepsAs m seg before (record before { core = c.write.new.self }) (lines.Write c.args.ops) r) (sym w.result-is)
                (write_as m seg before c.write.new.self c.args.ops (answers.Written w.in-Ok-write.seq) (written_txns c.self.inside.core c.write.new.self w.in-Ok-write.seq _ c.in-Ok.batch.ops w.in-Ok-write.ensures.event)
                (written_snapshots c.self.inside.core c.write.new.self w.in-Ok-write.seq _ c.in-Ok.batch.ops w.in-Ok-write.ensures.event)
                (written_flushed c.self.inside.core c.write.new.self w.in-Ok-write.seq _ c.in-Ok.batch.ops w.in-Ok-write.ensures.event)
                (at_moment (rules_in before.core.settings m seg) before.core c.write.new.self c.args.ops (Written w.in-Ok-write.seq) (given_moment c.self.inside.now c.self.invariant.1) (w.in-Ok-write.ensures.step held c.args.ops c.in-Ok.ensures.batch c.in-Ok.ensures.fine)))
            | in-Err-write w ↦ subst (λ (r : Result Answer SlateDBError). StepsAs m seg before (record before { core = c.write.new.self }) (lines.Write c.args.ops) r) (sym w.result-is)
                (commit_refused m seg old new before c.write.new.self c.args.ops w.in-Err-write.error w.refused-in-Err-write.result w.in-Err-write.ensures.same w.refused-in-Err-write.ensures.reply w.refused-in-Err-write.ensures.answered
                (refused_at_moment (rules_in before.core.settings m seg) before.core c.args.ops w.in-Err-write.error (given_moment c.self.inside.now c.self.invariant.1) (at_ops c.args.ops c.in-Ok.ensures.batch c.in-Ok.ensures.fine (w.in-Err-write.ensures.refused held))))
          ]));
      stores = (let seg = (segments_by g.X.PrefixExtractor.lengths c.args.laws.now.segments) in
          let before : SessionModel = record { core = c.self.inside.core; names = c.self.inside.names.entries; snapshot_names = c.self.inside.snapshot_names.entries; now = c.self.inside.now } in
          let m = meaning_of g.M.MergeOperator.combine g.T.BlockTransformer.encoded g.T.BlockTransformer.decoded c.args.env.now.operator c.args.env.now.transformer in
          subst (λ (v : SessionModel). OnOk c.match-write.result (StoresNothing m seg v (record before { core = c.write.new.self }))) c.self.view_is
          (always c.match-write.result (elim c.match-write.branch [
            | in-Ok-write w ↦ stores_by m seg before c.write.new.self before.names before.snapshot_names before.now (leaves_written c.self.inside.core c.write.new.self w.in-Ok-write.seq _ c.in-Ok.batch.ops w.in-Ok-write.ensures.event) w.in-Ok-write.ensures.keeps.own.rows w.in-Ok-write.ensures.keeps.own.segments
            | in-Err-write w ↦ stores_by m seg before c.write.new.self before.names before.snapshot_names before.now (leaves_same c.self.inside.core c.write.new.self w.in-Err-write.ensures.same) (kept_same m c.self.inside.core c.write.new.self w.in-Err-write.ensures.same) w.in-Err-write.ensures.keeps.own.segments
          ])));
      grows = (let before : SessionModel = record { core = c.self.inside.core; names = c.self.inside.names.entries; snapshot_names = c.self.inside.snapshot_names.entries; now = c.self.inside.now } in
          subst (λ (v : SessionModel). OnOk c.match-write.result (Grows (lines.Write c.args.ops) v (record before { core = c.write.new.self }))) c.self.view_is
          (grows_where c.match-write.result (lines.Write c.args.ops) before (record before { core = c.write.new.self }) (elim c.match-write.branch [
            | in-Ok-write w ↦ grows before c.write.new.self before.names before.snapshot_names before.now (lines.Write c.args.ops) (length c.args.ops) (omega arith)
                (takes_written c.self.inside.core c.write.new.self w.in-Ok-write.seq _ c.in-Ok.batch.ops (length c.args.ops) w.in-Ok-write.ensures.event (w.in-Ok-write.ensures.grows c.args.ops c.in-Ok.ensures.batch))
            | in-Err-write w ↦ grows before c.write.new.self before.names before.snapshot_names before.now (lines.Write c.args.ops) 0 (omega arith) (takes_same c.self.inside.core c.write.new.self w.in-Err-write.ensures.same)
          ])));
      cause = (let before : SessionModel = record { core = c.self.inside.core; names = c.self.inside.names.entries; snapshot_names = c.self.inside.snapshot_names.entries; now = c.self.inside.now } in
          let m = meaning_of g.M.MergeOperator.combine g.T.BlockTransformer.encoded g.T.BlockTransformer.decoded c.args.env.now.operator c.args.env.now.transformer in
          let old = counts_of (g.S.Store.faults c.args.env.now.store.now) g.M.MergeOperator.faults g.T.BlockTransformer.faults c.args.env.now.operator c.args.env.now.transformer in
          let new = counts_of (g.S.Store.faults c.write.new.env.store.now) g.M.MergeOperator.faults g.T.BlockTransformer.faults c.write.new.env.operator c.write.new.env.transformer in
          subst (λ (v : SessionModel). IfErr c.match-write.result (λ e. IsCounted old new e ⊎ IsLimit v e)) c.self.view_is
          (elim c.match-write.branch [
            | in-Ok-write w ↦ subst (λ (r : Result Answer SlateDBError). IfErr r (λ e. IsCounted old new e ⊎ IsLimit before e)) (sym w.result-is) tt
            | in-Err-write w ↦ subst (λ (r : Result Answer SlateDBError). IfErr r (λ e. IsCounted old new e ⊎ IsLimit before e)) (sym w.result-is)
                (write_cause before w.in-Err-write.error w.refused-in-Err-write.result refl w.refused-in-Err-write.ensures.other w.in-Err-write.ensures)
          ]));
      call = c.write.ensures.asks.call;
      reads = c.write.ensures.asks.reads;
      still = (let old = counts_of (g.S.Store.faults c.args.env.now.store.now) g.M.MergeOperator.faults g.T.BlockTransformer.faults c.args.env.now.operator c.args.env.now.transformer in
          let new = counts_of (g.S.Store.faults c.write.new.env.store.now) g.M.MergeOperator.faults g.T.BlockTransformer.faults c.write.new.env.operator c.write.new.env.transformer in
          asked_still old new c.match-write.result (ap (λ v. (reach_of g.S.Store g.M.MergeOperator g.T.BlockTransformer v).faults.store) c.write.ensures.outside)
          (elim c.match-write.branch [
            | in-Ok-write w ↦ subst (λ (r : Result Answer SlateDBError). IsOperatorStill old.operator new.operator r) (sym w.result-is) w.in-Ok-write.ensures.asks.still
            | in-Err-write w ↦ subst (λ (r : Result Answer SlateDBError). IsOperatorStill old.operator new.operator r) (sym w.result-is)
                (refused_still old.operator new.operator w.in-Err-write.error w.refused-in-Err-write.result w.refused-in-Err-write.ensures.answered w.refused-in-Err-write.ensures.other w.in-Err-write.ensures.asks.still)
          ])
          (ap (λ v. (reach_of g.S.Store g.M.MergeOperator g.T.BlockTransformer v).faults.transformer) c.write.ensures.outside));
    }

pub returns-in-Err : goal.returns-in-Err
returns-in-Err g c =
    record {
      step = λ segmented. batch_refused (meaning_of g.M.MergeOperator.combine g.T.BlockTransformer.encoded g.T.BlockTransformer.decoded c.args.env.now.operator c.args.env.now.transformer) (segments_by g.X.PrefixExtractor.lengths c.args.laws.now.segments) c.args.self.now c.args.ops c.in-Err.error c.refused.result c.refused.ensures.reply c.refused.ensures.answered c.in-Err.ensures.refused;
      stores = always c.refused.result (record { settings = refl; runs = refl; later = omega arith; kept = λ k. k; segmented = λ k. k });
      grows = always c.refused.result (omega arith, omega arith);
      cause = (let old = counts_of (g.S.Store.faults c.args.env.now.store.now) g.M.MergeOperator.faults g.T.BlockTransformer.faults c.args.env.now.operator c.args.env.now.transformer in
          memory_or_limit c.refused.result old old c.args.self.now (refused_cause (λ e. IsLimit c.args.self.now e) c.args.ops c.in-Err.error c.refused.result c.refused.ensures.other c.in-Err.ensures.refused));
      call = call_none _;
      reads = reads_none _;
      still = refl;
    }
