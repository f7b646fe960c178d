use Rattle.std.proofs.Common.{◌≡◌, ◌⊎◌, ⊎_elim, inl, inr, true, false, true≢false, [], ℤ, w64, Some, None, option_map, refl, sym, ap, subst, ◌∙◌}
use Rattle.std.proofs.lemmas.Int.{to_z-of_z}
use Rattle.slate_types.specs.declared.error.SlateDBError.{SlateDBError}
use Rattle.slate_types.specs.declared.error.SlateDBError.TheVariants.{OutOfMemory}
use Rattle.slate_types.specs.Outside.{IsFault}
use Rattle.slate_types.proofs.StillLaws.{still_at}
use Rattle.slate_types.proofs.Reaching.{reads_none}
use Rattle.slate_mem.specs.Lookup.{IsCallback}
use Rattle.slate_store.specs.Reach.{reach_of}
use Rattle.slate_txn.specs.Settings.{settings_of}
use Rattle.slate_db.specs.Meaning.{segments_by}
use Rattle.slate_db.specs.Prepared.{lone_refusal}
use Rattle.slate_db.proofs.Asks.{asked_call, asked_reads, call_none, callback_fault, short_fault}
use Rattle.slate_shared.specs.Ended.{HasWritten}
use Rattle.slate_shared.proofs.CommitLaws.{prepared_as, with_parts}
use Rattle.slate_shared.proofs.Lists.{prefix_self}
use Rattle.slate_shared.proofs.WriteLaws.{written_weaker}
use Rattle.slate_shared.proofs.pass.Pass.write.Goals as goal

pub put_prepared-requires-clause-prepared : goal.put_prepared-requires-clause-prepared
put_prepared-requires-clause-prepared g c = (
  c.args.batch,
  prepared_as _ _ _
      (with_parts g.M.MergeOperator.combine c.args.env.now.operator g.P.Parts.meaning g.P.Parts.segments (segments_by g.X.PrefixExtractor.lengths c.args.laws.now.segments) c.args.laws.now.options g.P.Parts.options _ _ c.args.batch c.args.batch
      (ap (λ m. m.combine) c.requires.parts) c.requires.laws.segments c.requires.laws.options refl refl) c.in-Ok.ensures.prepared,
)

pub returns-then-is_empty : goal.returns-then-is_empty
returns-then-is_empty g c =
    let none : c.args.batch.ops ≡ [] = c.is_empty.ensures.0 c.if-is_empty.true in
    record {
      same = (refl, refl);
      written = record { before = c.args.self.now.seen; seen = prefix_self c.args.self.now.seen; after = refl; own = refl; is = record { next = none; tested = λ some. absurd (some none); cause = tt } };
      idle = λ is. (refl, refl);
      outside = refl;
      still = refl;
      call = call_none _;
      reads = reads_none _;
      unasked = λ e is. refl;
      plain = λ h. refl;
    }

pub returns-in-Ok : goal.returns-in-Ok
returns-in-Ok g c =
    let before = reach_of g.S.Store g.M.MergeOperator g.T.BlockTransformer c.args.env.now in
    let after = reach_of g.S.Store g.M.MergeOperator g.T.BlockTransformer (record c.args.env.now { operator = c.prepare-prepared.new.operator }) in
    let m = g.P.Parts.meaning in
    let s = g.P.Parts.segments in
    let o = settings_of g.P.Parts.options in
    let moments = to_z-of_z w64 c.args.now c.ranges.now in
    let by = c.prepare-prepared.ensures in
    let r = c.put_prepared.result in
    let parts = with_parts g.M.MergeOperator.combine c.args.env.now.operator m s (segments_by g.X.PrefixExtractor.lengths c.args.laws.now.segments) c.args.laws.now.options g.P.Parts.options in
    record {
      same = c.put_prepared.ensures.same;
      written = written_weaker (λ e. e ≡ OutOfMemory) (IsFault before after) m s o c.args.now c.args.batch c.args.self.now c.put_prepared.new.self r (λ e is. short_fault before after e is)
          (subst (λ (z : ℤ). HasWritten (λ e. e ≡ OutOfMemory) m s o z c.args.batch c.args.self.now c.put_prepared.new.self r) moments
          (c.put_prepared.ensures.written c.args.batch (prepared_as _ _ _ (parts _ _ c.args.batch c.args.batch (ap (λ m. m.combine) c.requires.parts) c.requires.laws.segments c.requires.laws.options refl refl) c.in-Ok.ensures.prepared)));
      idle = λ none. absurd (true≢false (sym (c.is_empty.ensures.1 none) ∙ c.if-is_empty.false));
      outside = refl;
      still = still_at _ _ c.put_prepared.result c.in-Ok.ensures.still;
      call = asked_call g.S.Store g.M.MergeOperator g.T.BlockTransformer c.args.env.now c.prepare-prepared.new.operator by.same;
      reads = asked_reads g.S.Store g.M.MergeOperator g.T.BlockTransformer c.args.env.now c.prepare-prepared.new.operator by.same by.later;
      unasked = λ e is. ap (λ o. record c.args.env.now { operator = o }) (by.unasked e (ap lone_refusal (parts _ c.args.now c.args.batch c.args.batch (ap (λ m. m.combine) c.requires.parts) c.requires.laws.segments c.requires.laws.options moments refl) ∙ is));
      plain = λ h. ap (λ o. record c.args.env.now { operator = o }) (by.plain h);
    }

pub returns-in-Err : goal.returns-in-Err
returns-in-Err g c =
    let before = reach_of g.S.Store g.M.MergeOperator g.T.BlockTransformer c.args.env.now in
    let after = reach_of g.S.Store g.M.MergeOperator g.T.BlockTransformer (record c.args.env.now { operator = c.prepare-prepared.new.operator }) in
    let moments = to_z-of_z w64 c.args.now c.ranges.now in
    let by = c.prepare-prepared.ensures in
    let x = c.in-Err.error in
    record {
      same = (refl, refl);
      written = record {
        before = c.args.self.now.seen;
        seen = prefix_self c.args.self.now.seen;
        after = refl;
        own = refl;
        is = record { next = tt; tested = tt; cause = inl (⊎_elim (λ (is : x ≡ OutOfMemory). short_fault before after x is) (λ (is : IsCallback before.faults.operator after.faults.operator x). callback_fault before after x is) c.in-Err.ensures.cause) };
      };
      idle = λ none. absurd (true≢false (sym (c.is_empty.ensures.1 none) ∙ c.if-is_empty.false));
      outside = refl;
      still = c.in-Err.ensures.still;
      call = asked_call g.S.Store g.M.MergeOperator g.T.BlockTransformer c.args.env.now c.prepare-prepared.new.operator by.same;
      reads = asked_reads g.S.Store g.M.MergeOperator g.T.BlockTransformer c.args.env.now c.prepare-prepared.new.operator by.same by.later;
      unasked = λ e is. ap (λ o. record c.args.env.now { operator = o }) (by.unasked e (ap lone_refusal (with_parts g.M.MergeOperator.combine c.args.env.now.operator g.P.Parts.meaning g.P.Parts.segments (segments_by g.X.PrefixExtractor.lengths c.args.laws.now.segments) c.args.laws.now.options g.P.Parts.options _ c.args.now c.args.batch c.args.batch (ap (λ m. m.combine) c.requires.parts) c.requires.laws.segments c.requires.laws.options moments refl) ∙ is));
      plain = λ h. ap (λ o. record c.args.env.now { operator = o }) (by.plain h);
    }
