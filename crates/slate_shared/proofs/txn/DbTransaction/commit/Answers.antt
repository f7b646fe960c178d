use Rattle.std.proofs.Common.{◌≡◌, ℤ, w64, option_map, refl, sym, ap, subst, ◌∙◌}
use Rattle.std.proofs.lemmas.Int.{to_z-of_z}
use Rattle.slate_types.specs.declared.error.SlateDBError.TheVariants.{OutOfMemory}
use Rattle.slate_types.specs.Outside.{IsFault, Reach}
use Rattle.slate_types.proofs.StillLaws.{still_at}
use Rattle.slate_store.specs.Reach.{reach_of}
use Rattle.slate_txn.specs.Settings.{settings_of}
use Rattle.slate_db.specs.Meaning.{segments_by}
use Rattle.slate_db.specs.Prepared.{lone_refusal, own_batch}
use Rattle.slate_db.proofs.Asks.{asked_call, asked_reads, short_fault}
use Rattle.slate_shared.specs.Ended.{HasEnded}
use Rattle.slate_shared.specs.Passes.{Opened}
use Rattle.slate_shared.proofs.CommitLaws.{ended_weaker, fault_before, is_own_batch, prepared_as, with_parts}
use Rattle.slate_shared.proofs.txn.DbTransaction.commit.Given as given
use Rattle.slate_shared.proofs.txn.DbTransaction.commit.Goals as goal

pub settle-requires-clause-prepared : goal.settle-requires-clause-prepared
settle-requires-clause-prepared g c =
    prepared_as _ _ _
    (with_parts g.M.MergeOperator.combine c.args.env.now.operator g.P.Parts.meaning g.P.Parts.segments (segments_by g.X.PrefixExtractor.lengths c.args.laws.now.segments) c.args.laws.now.options g.P.Parts.options _ _ c.batch.result.now (own_batch c.args.self.tx.ops)
    (ap (λ m. m.combine) c.requires.parts) c.requires.laws.segments c.requires.laws.options refl (is_own_batch c.self.inside.own c.batch.result.now c.batch.ensures.batch ∙ ap (λ (x : Opened). own_batch x.tx.ops) c.self.view_is))
    c.in-Ok.ensures.prepared

pub returns-in-Ok : goal.returns-in-Ok
returns-in-Ok g c =
    let before = reach_of g.S.Store g.M.MergeOperator g.T.BlockTransformer c.args.env.now in
    let after = reach_of g.S.Store g.M.MergeOperator g.T.BlockTransformer (record c.args.env.now { operator = c.prepare-prepared.new.operator }) in
    record {
      same = c.settle.ensures.same;
      ended = ended_weaker (λ e. e ≡ OutOfMemory) (IsFault before after) g.P.Parts.meaning g.P.Parts.segments (settings_of g.P.Parts.options) c.args.now c.args.self c.args.pass.now c.settle.new.pass c.settle.result (λ e is. short_fault before after e is)
          (subst (λ (z : ℤ). HasEnded (λ e. e ≡ OutOfMemory) g.P.Parts.meaning g.P.Parts.segments (settings_of g.P.Parts.options) z c.args.self c.args.pass.now c.settle.new.pass c.settle.result) (to_z-of_z w64 c.args.now c.ranges.now) c.settle.ensures.ended);
      legal = c.settle.ensures.legal;
      outside = refl;
      still = still_at _ _ c.settle.result c.in-Ok.ensures.still;
      call = asked_call g.S.Store g.M.MergeOperator g.T.BlockTransformer c.args.env.now c.prepare-prepared.new.operator c.prepare-prepared.ensures.same;
      reads = asked_reads g.S.Store g.M.MergeOperator g.T.BlockTransformer c.args.env.now c.prepare-prepared.new.operator c.prepare-prepared.ensures.same c.prepare-prepared.ensures.later;
      unasked = λ e is. ap (λ o. record c.args.env.now { operator = o }) (c.prepare-prepared.ensures.unasked e (ap lone_refusal
          (with_parts g.M.MergeOperator.combine c.args.env.now.operator g.P.Parts.meaning g.P.Parts.segments (segments_by g.X.PrefixExtractor.lengths c.args.laws.now.segments) c.args.laws.now.options g.P.Parts.options _ c.args.now c.batch.result.now (own_batch c.args.self.tx.ops)
          (ap (λ m. m.combine) c.requires.parts) c.requires.laws.segments c.requires.laws.options (to_z-of_z w64 c.args.now c.ranges.now) (is_own_batch c.self.inside.own c.batch.result.now c.batch.ensures.batch ∙ ap (λ (x : Opened). own_batch x.tx.ops) c.self.view_is)) ∙ is));
      plain = λ none. ap (λ o. record c.args.env.now { operator = o }) (c.prepare-prepared.ensures.plain (ap (λ b. b.held_merge) (is_own_batch c.self.inside.own c.batch.result.now c.batch.ensures.batch ∙ ap (λ (x : Opened). own_batch x.tx.ops) c.self.view_is) ∙ none));
    }

pub returns-in-Err : goal.returns-in-Err
returns-in-Err g c =
    let before = reach_of g.S.Store g.M.MergeOperator g.T.BlockTransformer c.args.env.now in
    let after = reach_of g.S.Store g.M.MergeOperator g.T.BlockTransformer (record c.args.env.now { operator = c.prepare-prepared.new.operator }) in
    let s = c.rollback.ensures.seen in
    record {
      same = (c.rollback.ensures.same.0, c.rollback.ensures.same.1);
      ended = fault_before before after g.P.Parts.meaning g.P.Parts.segments (settings_of g.P.Parts.options) c.args.now c.args.self c.args.pass.now c.rollback.new.pass s.0 c.in-Err.error c.in-Err.ensures.cause s.1 s.2 s.3 c.rollback.ensures.same.2;
      legal = c.rollback.ensures.legal;
      outside = refl;
      still = c.in-Err.ensures.still;
      call = asked_call g.S.Store g.M.MergeOperator g.T.BlockTransformer c.args.env.now c.prepare-prepared.new.operator c.prepare-prepared.ensures.same;
      reads = asked_reads g.S.Store g.M.MergeOperator g.T.BlockTransformer c.args.env.now c.prepare-prepared.new.operator c.prepare-prepared.ensures.same c.prepare-prepared.ensures.later;
      unasked = λ e is. ap (λ o. record c.args.env.now { operator = o }) (c.prepare-prepared.ensures.unasked e (ap lone_refusal
          (with_parts g.M.MergeOperator.combine c.args.env.now.operator g.P.Parts.meaning g.P.Parts.segments (segments_by g.X.PrefixExtractor.lengths c.args.laws.now.segments) c.args.laws.now.options g.P.Parts.options _ c.args.now c.batch.result.now (own_batch c.args.self.tx.ops)
          (ap (λ m. m.combine) c.requires.parts) c.requires.laws.segments c.requires.laws.options (to_z-of_z w64 c.args.now c.ranges.now) (is_own_batch c.self.inside.own c.batch.result.now c.batch.ensures.batch ∙ ap (λ (x : Opened). own_batch x.tx.ops) c.self.view_is)) ∙ is));
      plain = λ none. ap (λ o. record c.args.env.now { operator = o }) (c.prepare-prepared.ensures.plain (ap (λ b. b.held_merge) (is_own_batch c.self.inside.own c.batch.result.now c.batch.ensures.batch ∙ ap (λ (x : Opened). own_batch x.tx.ops) c.self.view_is) ∙ none));
    }
