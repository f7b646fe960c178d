use Rattle.std.proofs.Common.{ℕ, map, inl, inr, arith, refl, ◌⊎◌}
use Rattle.std.proofs.lemmas.Result.{IfOk-from_err, err_from_is_err_and, IfErr-weaker}
use Rattle.slate_types.specs.declared.error.SlateDBError.{SlateDBError}
use Rattle.slate_types.specs.Faults.{faults_of}
use Rattle.slate_types.specs.Outside.{Counts, IsCounted}
use Rattle.slate_types.proofs.Reaching.{puts_of}
use Rattle.slate_table.specs.SectionReading.{changed_by, IsTransformFault}
use Rattle.slate_db.specs.Flushed.{IsTableAt, layout_of}
use Rattle.slate_db.specs.Meaning.{segments_by}
use Rattle.slate_db.specs.StoredParts.{IsPlace}
use Rattle.slate_db.proofs.Adding.{adds_same}
use Rattle.slate_db.proofs.Causes.{store_fault, transform_fault}
use Rattle.slate_db.proofs.Built.{read_again, version_known, may_keep}
use Rattle.slate_types.proofs.StillLaws.{stays_at, still_at, still_of_parts, store_stays, transformer_at, unblamed_of}
use Rattle.slate_store.specs.Reach.{reach_of}
use Rattle.slate_db.proofs.flush.stored_table.Goals as goal
use Rattle.slate_db.proofs.flush.stored_table.Given as given

or_large : {B : Type 0} (a b : Counts) (e : SlateDBError) → IsTransformFault a.transformer b.transformer e ⊎ B → IsCounted a b e ⊎ B
or_large a b e (inl h) = inl (transform_fault a b e h)
or_large a b e (inr h) = inr h

is_table : (g : given.Over) (c : goal.After-drop g) (number place : ℕ) → IsPlace c.args.id number place → IsTableAt (changed_by g.T.BlockTransformer.encoded c.args.env.now.transformer) (layout_of c.args.laws.now.options (map (λ p. (goal.FilterPolicy-dyn g (p.vtable, p.value)).meaning p.value) c.args.laws.now.policies.items) (segments_by g.X.PrefixExtractor.lengths c.args.laws.now.segments)) number place c.args.rows.items (c.args.id, c.in_ok-table.table.bytes)
is_table g c number place at = record {
  id = at.is;
  fits = at.fits;
  built = c.in_ok-table.ensures.built;
  read = read_again c.args.laws.now.options.block_format c.args.rows.items c.requires.ready.fit;
}

pub returns : goal.returns
returns g c =
    record {
      stored = (λ number place at. c.put-kept.ensures.stored (changed_by g.T.BlockTransformer.encoded c.args.env.now.transformer) (layout_of c.args.laws.now.options (map (λ p. (goal.FilterPolicy-dyn g (p.vtable, p.value)).meaning p.value) c.args.laws.now.policies.items) (segments_by g.X.PrefixExtractor.lengths c.args.laws.now.segments)) number place c.args.rows.items (is_table g c number place at)
          (version_known c.args.laws.now.options.block_format) c.in_ok-table.ensures.version c.in_ok-table.ensures.info);
      acts = c.put-kept.ensures.acts;
      adds = c.put-kept.ensures.adds;
      refused = λ number place at. c.put-kept.ensures.refused (changed_by g.T.BlockTransformer.encoded c.args.env.now.transformer) (layout_of c.args.laws.now.options (map (λ p. (goal.FilterPolicy-dyn g (p.vtable, p.value)).meaning p.value) c.args.laws.now.policies.items) (segments_by g.X.PrefixExtractor.lengths c.args.laws.now.segments)) number place c.args.rows.items (is_table g c number place at);
      cause = IfErr-weaker c.put-kept.result _ _ (λ e h. inl (store_fault _ _ e h)) c.put-kept.ensures.cause;
      operator = refl;
      puts = puts_of _ _ refl c.built.ensures.same_encoded c.built.ensures.same_decoded (record { store = c.put-kept.ensures.later; operator = omega arith; transformer = c.built.ensures.later }) refl;
      still = still_of_parts (reach_of g.S.Store g.M.MergeOperator g.T.BlockTransformer c.args.env.now).faults (record (reach_of g.S.Store g.M.MergeOperator g.T.BlockTransformer c.args.env.now).faults { store = g.S.Store.faults c.put-kept.new.store; transformer = faults_of g.T.BlockTransformer.faults c.built.new.transformer }) c.put-kept.result c.put-kept.ensures.still (still_at _ _ c.put-kept.result refl) (transformer_at _ _ c.put-kept.result c.in_ok-table.ensures.still);
    }

pub returns-in_err-table : goal.returns-in_err-table
returns-in_err-table g c =
    let p = err_from_is_err_and c.from_residual.result c.from_residual.ensures.1 in
    record {
      stored = λ number place at. IfOk-from_err c.from_residual.result _ c.from_residual.ensures.0;
      acts = IfOk-from_err c.from_residual.result _ c.from_residual.ensures.0;
      adds = adds_same _ _ refl;
      refused = λ number place at. let p = err_from_is_err_and c.from_residual.result c.from_residual.ensures.1 in rw p.1 (may_keep _ _ _ (λ i. g.S.Store.objects c.args.env.now.store.now));
      cause = rw (p.1, p.2) (or_large _ _ _ c.in_err-table.ensures.cause);
      operator = refl;
      puts = puts_of _ _ refl c.built.ensures.same_encoded c.built.ensures.same_decoded (record { store = omega arith; operator = omega arith; transformer = c.built.ensures.later }) refl;
      still = rw (p.1, p.2) (unblamed_of (reach_of g.S.Store g.M.MergeOperator g.T.BlockTransformer c.args.env.now).faults (record (reach_of g.S.Store g.M.MergeOperator g.T.BlockTransformer c.args.env.now).faults { transformer = faults_of g.T.BlockTransformer.faults c.built.new.transformer }) c.in_err-table.field-0.0 (store_stays _ _ c.in_err-table.field-0.0 refl) (stays_at _ _ c.in_err-table.field-0.0 refl) c.in_err-table.ensures.still);
    }
