use Rattle.std.proofs.Common.{Err, inl, ◌≡◌, ◌⊎◌, ◌∙◌, Some, Ok, ap, sym, subst, arith, map}
use Rattle.slate_types.specs.declared.error.SlateDBError.TheVariants.{LimitReached, MergeOperatorMissing}
use Rattle.slate_types.specs.Outside.{IsFault}
use Rattle.slate_store.specs.Reach.{reach_of}
use Rattle.slate_txn.specs.declared.line.Line.TheVariants as lines
use Rattle.slate_db.specs.Meaning.{segments_by}
use Rattle.slate_db.specs.Answered.{AddsTables}
use Rattle.slate_db.specs.Flushed.{layout_of}
use Rattle.slate_db.specs.Installs.{runs_of, tables_of}
use Rattle.slate_db.specs.Log.{LIMIT}
use Rattle.slate_db.specs.Sound.{IsKept}
use Rattle.slate_db.specs.Settled.{IsSettled}
use Rattle.slate_language.specs.declared.reply.Answer.TheVariants as answers
use Rattle.slate_script.specs.Session.{SessionModel, StepsAs, Grows, HasTablesAlone, IsLimit}
use Rattle.slate_script.proofs.SessionParts.{flush_cause, has_room, operable_cause}
use Rattle.slate_script.proofs.SessionSteps.{flush_as}
use Rattle.slate_script.proofs.SessionStores.{flush_settled}
use Rattle.slate_script.proofs.TablesAlone.{flush_alone}
use Rattle.slate_script.proofs.ToldLaws.{follows_flush, puts_alone, stores_added}
use Rattle.slate_script.proofs.Growth.{grows, takes_flushed}
use Rattle.std.proofs.lemmas.Result.{err_from_is_err_and}
use Rattle.slate_script.proofs.LineWords.{failed_answers}
use Rattle.slate_script.proofs.LineEnds.{or_operator}
use Rattle.slate_language.specs.declared.reply.Answer.{Answer}
use Rattle.slate_script.proofs.session.Session.flush.Goals as goal
use Rattle.slate_script.proofs.MeaningOf.{meaning_of}

pub returns : goal.returns
returns g c =
    let policies = map (λ p. (goal.FilterPolicy-dyn g (p.vtable, p.value)).meaning p.value) c.args.laws.now.policies.items in
    let m = meaning_of g.M.MergeOperator.combine g.T.BlockTransformer.encoded g.T.BlockTransformer.decoded c.args.env.now.operator c.args.env.now.transformer in
    let seg = segments_by g.X.PrefixExtractor.lengths c.args.laws.now.segments in
    let layout = layout_of c.args.laws.now.options policies seg in
    let before : SessionModel = record { core = c.self.inside.core; names = c.self.inside.names.entries; snapshot_names = c.self.inside.snapshot_names.entries; now = c.self.inside.now } in
    let went : c.flush.result ≡ Ok c.in_ok-seq.seq = grind (arith, c.branch-seq.ensures, c.in_ok-seq.is) in
    let room = has_room LIMIT _ _ _ c.flush.result c.in_ok-seq.seq (LimitReached LIMIT) went c.flush.ensures.limit in
    let steps = (
    subst (λ (v : SessionModel). StepsAs m seg v (record before { core = c.flush.new.self }) lines.Flush (Ok (answers.Flushed c.in_ok-seq.seq))) c.self.view_is
    (flush_as m seg before c.flush.new.self c.in_ok-seq.seq (c.in_ok-seq.ensures.step m seg))) in
    record {
      honest = λ settled. record {
        step = steps;
        kept = (
            flush_settled m seg layout (g.S.Store.objects c.args.env.now.store.now) (g.S.Store.objects c.flush.new.env.store.now) before c.in_ok-seq.ensures.installed.0 c.flush.new.self c.in_ok-seq.seq
            c.in_ok-seq.ensures.installed.1 c.in_ok-seq.ensures.installed.2
            room
            c.flush.ensures.kept (c.flush.ensures.segmented seg)
            (subst (λ (v : SessionModel). IsSettled policies m seg (g.S.Store.objects c.args.env.now.store.now) v.core) (sym c.self.view_is) settled));
        alone = (λ alone.
            let h = subst (λ (v : SessionModel). IsSettled policies m seg (g.S.Store.objects c.args.env.now.store.now) v.core) (sym c.self.view_is) settled in
            flush_alone m layout c.self.inside.core c.in_ok-seq.ensures.installed.0 c.flush.new.self c.in_ok-seq.seq (g.S.Store.objects c.args.env.now.store.now) (g.S.Store.objects c.flush.new.env.store.now)
            c.in_ok-seq.ensures.installed.1 c.in_ok-seq.ensures.installed.2 h.kept.0 h.segmented.each h.tables.few
            room
            (subst (λ (v : SessionModel). HasTablesAlone m layout (g.S.Store.objects c.args.env.now.store.now) (runs_of v.core.events)) (sym c.self.view_is) alone));
        undamaged = tt;
      };
      told = λ os settled. record {
        step = λ known began. inl steps;
        follows = (
            follows_flush m seg layout os _ _ before c.in_ok-seq.ensures.installed.0 c.flush.new.self c.in_ok-seq.seq (g.S.Store.acts c.args.env.now.store.now) (g.S.Store.acts c.flush.new.env.store.now)
            c.in_ok-seq.ensures.installed.1 c.in_ok-seq.ensures.installed.2 c.in_ok-seq.ensures.acts
            room
            c.flush.ensures.kept (c.flush.ensures.segmented seg)
            (subst (λ (v : SessionModel). IsSettled policies m seg (Some os) v.core) (sym c.self.view_is) settled));
        untrue = tt;
      };
      sound = λ kept. record { kept = c.flush.ensures.kept (subst (λ (v : SessionModel). IsKept m v.core) (sym c.self.view_is) kept); shown = tt };
      settings = c.flush.ensures.settings ∙ ap (λ (v : SessionModel). v.core.settings) c.self.view_is;
      grows = (subst (λ (v : SessionModel). Grows lines.Flush v (record before { core = c.flush.new.self })) c.self.view_is
          (grows before c.flush.new.self before.names before.snapshot_names before.now lines.Flush 0 (omega arith)
          (takes_flushed _ _ c.self.inside.core c.in_ok-seq.ensures.installed.0 c.flush.new.self c.in_ok-seq.seq _ _ c.in_ok-seq.ensures.installed.1 c.in_ok-seq.ensures.installed.2 c.in_ok-seq.ensures.taken.0 c.in_ok-seq.ensures.taken.1)));
      cause = tt;
      tables = stores_added _ _ _ _ (subst (λ (v : SessionModel). AddsTables (tables_of v.core.events) (tables_of c.flush.new.self.events) (g.S.Store.acts c.args.env.now.store.now) (g.S.Store.acts c.flush.new.env.store.now)) c.self.view_is c.in_ok-seq.ensures.acts);
      asked = puts_alone _ _ _ _ (subst (λ (v : SessionModel). AddsTables (tables_of v.core.events) (tables_of c.flush.new.self.events) (g.S.Store.acts c.args.env.now.store.now) (g.S.Store.acts c.flush.new.env.store.now)) c.self.view_is c.in_ok-seq.ensures.acts);
      adds = c.flush.ensures.adds;
      puts = c.flush.ensures.puts;
      still = c.in_ok-seq.ensures.still;
    }

pub returns-in_err-seq : goal.returns-in_err-seq
returns-in_err-seq g c =
    let policies = map (λ p. (goal.FilterPolicy-dyn g (p.vtable, p.value)).meaning p.value) c.args.laws.now.policies.items in
    let p = err_from_is_err_and c.from_residual.result c.from_residual.ensures.1 in
    let old = reach_of g.S.Store g.M.MergeOperator g.T.BlockTransformer c.args.env.now in
    let new = reach_of g.S.Store g.M.MergeOperator g.T.BlockTransformer c.flush.new.env in
    failed_answers _ lines.Flush old new _ _ c.from_residual.result (p.1 ∙ ap Err p.2)
    (or_operator {V = Answer} (Err c.in_err-seq.field-0.0) old.faults new.faults c.args.self.now (subst (λ (v : SessionModel). IsFault old new c.in_err-seq.field-0.0 ⊎ IsLimit v c.in_err-seq.field-0.0 ⊎ (c.in_err-seq.field-0.0 ≡ MergeOperatorMissing)) c.self.view_is
    (flush_cause old new (layout_of c.args.laws.now.options policies (segments_by g.X.PrefixExtractor.lengths c.args.laws.now.segments)) (record { core = c.self.inside.core; names = c.self.inside.names.entries; snapshot_names = c.self.inside.snapshot_names.entries; now = c.self.inside.now }) c.in_err-seq.field-0.0 c.in_err-seq.ensures.cause)))
    (λ kept.
    let before : SessionModel = record { core = c.self.inside.core; names = c.self.inside.names.entries; snapshot_names = c.self.inside.snapshot_names.entries; now = c.self.inside.now } in
    (subst (λ (v : SessionModel). IsFault old new c.in_err-seq.field-0.0 ⊎ IsLimit v c.in_err-seq.field-0.0) c.self.view_is
    (operable_cause old new before c.in_err-seq.field-0.0 (c.in_err-seq.ensures.operable (subst (λ (v : SessionModel). IsKept (meaning_of g.M.MergeOperator.combine g.T.BlockTransformer.encoded g.T.BlockTransformer.decoded c.args.env.now.operator c.args.env.now.transformer) v.core) (sym c.self.view_is) kept))
    (flush_cause old new (layout_of c.args.laws.now.options policies (segments_by g.X.PrefixExtractor.lengths c.args.laws.now.segments)) before c.in_err-seq.field-0.0 c.in_err-seq.ensures.cause))))
    c.flush.ensures.adds c.flush.ensures.puts c.in_err-seq.ensures.still tt
