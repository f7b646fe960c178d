use Rattle.std.proofs.Common.{inl, ◌≡◌, ℕ, ◌<◌, ◌⊎◌, ◌++◌, [], length, map, Err, rules, ap, sym, subst, ◌∙◌, arith, refl}
use Rattle.std.proofs.lemmas.List.{nil_from_length}
use Rattle.std.specs.Vec.Iter.{into_iter_items}
use Rattle.std.proofs.lemmas.Result.{err_from_is_err_and, IfOk-from_err, IfOk-weaker, IfErr-weaker}
use Rattle.slate_filter.specs.Laws.{AreValidNames}
use Rattle.slate_table.specs.Parts.{Encode}
use Rattle.slate_table.specs.SectionReading.{changed_by, IsTransformFault}
use Rattle.slate_table.specs.InfoReading.{seen_info}
use Rattle.slate_table.specs.TableBuilding.{TableBuilding, AreEncoded}
use Rattle.slate_table.specs.TableEnd.{HasInfo}
use Rattle.slate_table.specs.TableParts.{version_of}
use Rattle.slate_types.specs.Faults.{faults_of}
use Rattle.slate_db.specs.Flushed.{layout_of, IsTooLarge}
use Rattle.slate_db.specs.Meaning.{segments_by}
use Rattle.slate_db.specs.Model.{Rows}
use Rattle.slate_db.proofs.Built.{can_take, begun_encoded, one_more, row_fits, row_order, all_taken, add_refused, built_as, wider_fault}
use Rattle.slate_types.specs.Outside.{TransformerStays}
use Rattle.slate_types.proofs.StillLaws.{stays_behind, transformer_at, transformer_then, transformer_told}
use Rattle.slate_db.proofs.flush.built.Goals as goal

pub loop-row-init : goal.loop-row-init
loop-row-init g c =
    let begun = c.in_ok-builder.ensures.begun in
    let gives : into_iter_items c.into_iter-row-iterator.result ≡ c.args.rows.items = search rules in
    record {
      rows = (λ i. (begun i).rows ++ into_iter_items c.into_iter-row-iterator.result) ∙ gives;
      version = ap (λ (b : TableBuilding). b.version) begun;
      id = ap (λ (b : TableBuilding). b.id) begun;
      size = ap (λ (b : TableBuilding). b.size) begun;
      min = ap (λ (b : TableBuilding). b.min) begun;
      encoded = subst (λ (b : TableBuilding). AreEncoded (changed_by g.T.BlockTransformer.encoded c.args.transformer.now) b) (sym begun) (begun_encoded _ _ _ _ c.args.laws.now.options.min_filter_keys);
      same_encoded = λ i. changed_by g.T.BlockTransformer.encoded c.args.transformer.now;
      same_decoded = λ i. changed_by g.T.BlockTransformer.decoded c.args.transformer.now;
      later = omega arith;
      still = refl;
    }

pub loop-row-preserved : goal.loop-row-preserved
loop-row-preserved g c =
    let was = c.loop-row.invariant in
    record {
      rows = ap (λ (xs : Rows). xs ++ into_iter_items c.next.new.self) c.in_ok-add.ensures.added ∙ one_more _ _ _ _ _ c.in-Some.ensures.steps.0 was.rows;
      version = c.add.ensures.version ∙ was.version;
      id = c.add.ensures.id ∙ was.id;
      size = c.add.ensures.size ∙ was.size;
      min = c.add.ensures.min ∙ was.min;
      encoded = subst (λ (encode : Encode). AreEncoded encode c.add.new.self) was.same_encoded (c.add.ensures.encoded (subst (λ (encode : Encode). AreEncoded encode c.loop-row.builder) (sym was.same_encoded) was.encoded));
      same_encoded = c.add.ensures.same_encoded ∙ was.same_encoded;
      same_decoded = c.add.ensures.same_decoded ∙ was.same_decoded;
      later = omega (arith, c.add.ensures.later, was.later);
      still = (let one : faults_of g.T.BlockTransformer.faults c.add.new.transformer ≡ faults_of g.T.BlockTransformer.faults c.loop-row.transformer = transformer_told _ _ _ c.in_ok-add.ensures.still in one ∙ was.still);
    }

pub add-requires : goal.add-requires
add-requires g c =
    let was = c.loop-row.invariant in
    record {
      lengths = can_take _ (row_fits _ _ _ _ _ c.in-Some.ensures.steps.0 was.rows c.requires.ready.fit);
      order = row_order _ _ _ _ _ c.in-Some.ensures.steps.0 was.rows c.requires.ready.order;
    }

pub build-requires : goal.build-requires
build-requires g c =
    let was = c.loop-row.invariant in
    let none : into_iter_items c.loop-row.row-iterator ≡ [] = nil_from_length _ (omega (arith, c.in-None.ensures.steps.0)) in
    record {
      rows = subst (λ (xs : Rows). 0 < length xs) (sym (all_taken _ _ _ none was.rows)) c.requires.ready.some;
      names = subst AreValidNames (ap (map (λ p. ((goal.FilterPolicy-dyn g (p.vtable, p.value)).meaning p.value).name)) (sym c.as_slice.ensures.value)) c.requires.names;
    }

pub returns-in_err-add : goal.returns-in_err-add
returns-in_err-add g c =
    let p = err_from_is_err_and c.from_residual-in_err-add.result c.from_residual-in_err-add.ensures.1 in
    record {
      built = IfOk-from_err c.from_residual-in_err-add.result _ c.from_residual-in_err-add.ensures.0;
      version = IfOk-from_err c.from_residual-in_err-add.result _ c.from_residual-in_err-add.ensures.0;
      id = IfOk-from_err c.from_residual-in_err-add.result _ c.from_residual-in_err-add.ensures.0;
      info = IfOk-from_err c.from_residual-in_err-add.result _ c.from_residual-in_err-add.ensures.0;
      cause = (let was = c.loop-row.invariant in
          let row_ok = row_fits _ _ _ _ _ c.in-Some.ensures.steps.0 was.rows c.requires.ready.fit in
          let faults = faults_of g.T.BlockTransformer.faults in
          rw (p.1, p.2)
          (subst (λ (rows : Rows). IsTransformFault (faults c.args.transformer.now) (faults c.add.new.transformer) c.in_err-add.field-0.0 ⊎ IsTooLarge (layout_of c.args.laws.now.options (map (λ p. (goal.FilterPolicy-dyn g (p.vtable, p.value)).meaning p.value) c.args.laws.now.policies.items) (segments_by g.X.PrefixExtractor.lengths c.args.laws.now.segments)) rows c.in_err-add.field-0.0)
          (one_more _ _ _ _ _ c.in-Some.ensures.steps.0 was.rows)
          (add_refused (layout_of c.args.laws.now.options (map (λ p. (goal.FilterPolicy-dyn g (p.vtable, p.value)).meaning p.value) c.args.laws.now.policies.items) (segments_by g.X.PrefixExtractor.lengths c.args.laws.now.segments)) c.loop-row.builder c.in-Some.row (into_iter_items c.next.new.self) (faults c.args.transformer.now) (faults c.loop-row.transformer) (faults c.add.new.transformer) c.in_err-add.field-0.0
          was.later was.version was.size row_ok.key.0 (λ is. c.add.ensures.empty.0 (c.in_err-add.was ∙ ap Err is)) (λ is. (c.add.ensures.limit.0 (c.in_err-add.was ∙ ap Err is)).0) c.in_err-add.ensures.cause)));
      same_encoded = c.add.ensures.same_encoded ∙ c.loop-row.invariant.same_encoded;
      same_decoded = c.add.ensures.same_decoded ∙ c.loop-row.invariant.same_decoded;
      later = omega (arith, c.loop-row.invariant.later, c.add.ensures.later);
      still = rw (p.1, p.2) (stays_behind TransformerStays _ _ _ c.in_err-add.field-0.0 c.loop-row.invariant.still (transformer_told _ _ _ c.in_err-add.ensures.still));
    }

pub returns : goal.returns
returns g c =
    record {
      built = (let was = c.loop-row.invariant in
          let same = was.same_encoded in
          let none : into_iter_items c.loop-row.row-iterator ≡ [] = nil_from_length _ (omega (arith, c.in-None.ensures.steps.0)) in
          let rows = all_taken _ _ _ none was.rows in
          let encoded = subst (λ (encode : Encode). AreEncoded encode c.loop-row.builder) (sym same) was.encoded in
          IfOk-weaker c.build.result _ _
          (λ table h. built_as _ _ _ _ _ _ _ _ _ _ _ _ _ _ _ same rows was.min was.size was.version was.id (ap (map (λ p. (goal.FilterPolicy-dyn g (p.vtable, p.value)).meaning p.value)) c.as_slice.ensures.value) (h encoded))
          c.build.ensures.built);
      version = IfOk-weaker c.build.result _ _ (λ table h. h ∙ c.loop-row.invariant.version) c.build.ensures.version;
      id = IfOk-weaker c.build.result _ _ (λ table h. h ∙ c.loop-row.invariant.id) c.build.ensures.id;
      info = (IfOk-weaker c.build.result _ _
          (λ table h. subst (λ (n : ℕ). HasInfo table.bytes (version_of c.args.laws.now.options.block_format) n (seen_info table.info)) c.loop-row.invariant.id
          (subst (λ (n : ℕ). HasInfo table.bytes n c.loop-row.builder.id (seen_info table.info)) c.loop-row.invariant.version h))
          c.build.ensures.info);
      cause = IfErr-weaker c.build.result _ _ (λ e h. inl (wider_fault _ _ _ e c.loop-row.invariant.later h)) c.build.ensures.cause;
      same_encoded = c.build.ensures.same_encoded ∙ c.loop-row.invariant.same_encoded;
      same_decoded = c.build.ensures.same_decoded ∙ c.loop-row.invariant.same_decoded;
      later = omega (arith, c.loop-row.invariant.later, c.build.ensures.later);
      still = transformer_then _ _ _ c.build.result c.loop-row.invariant.still (transformer_told _ _ c.build.result c.build.ensures.still);
    }

pub returns-in_err-builder-clause-built : goal.returns-in_err-builder-clause-built
returns-in_err-builder-clause-built g c = IfOk-from_err c.from_residual.result _ c.from_residual.ensures.0

pub returns-in_err-builder-clause-version : goal.returns-in_err-builder-clause-version
returns-in_err-builder-clause-version g c = IfOk-from_err c.from_residual.result _ c.from_residual.ensures.0

pub returns-in_err-builder-clause-id : goal.returns-in_err-builder-clause-id
returns-in_err-builder-clause-id g c = IfOk-from_err c.from_residual.result _ c.from_residual.ensures.0

pub returns-in_err-builder-clause-info : goal.returns-in_err-builder-clause-info
returns-in_err-builder-clause-info g c = IfOk-from_err c.from_residual.result _ c.from_residual.ensures.0

pub returns-in_err-builder-clause-same_encoded : goal.returns-in_err-builder-clause-same_encoded
returns-in_err-builder-clause-same_encoded g c = refl

pub returns-in_err-builder-clause-same_decoded : goal.returns-in_err-builder-clause-same_decoded
returns-in_err-builder-clause-same_decoded g c = refl

pub returns-in_err-builder-clause-later : goal.returns-in_err-builder-clause-later
returns-in_err-builder-clause-later g c = omega arith

pub returns-in_err-builder-clause-still : goal.returns-in_err-builder-clause-still
returns-in_err-builder-clause-still g c = transformer_at _ _ c.from_residual.result refl
