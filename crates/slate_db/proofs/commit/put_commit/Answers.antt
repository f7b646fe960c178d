use Rattle.std.proofs.Common.{◌≡◌, ℕ, ℤ, ◌+◌, ◌∷◌, ◌++◌, [], List, None, option_map, refl, ap, sym, subst, ◌∙◌, arith, w64}
use Rattle.std.specs.List.{AllByRecursion}
use Rattle.std.proofs.lemmas.Int.{to_z-of_z}
use Rattle.slate_types.specs.Fold.{Combine, operator_at}
use Rattle.slate_mem.specs.CommitRows.{commit_rows}
use Rattle.slate_mem.specs.KeyTests.{prefixes}
use Rattle.slate_mem.specs.Table.{put_rows}
use Rattle.slate_mem.proofs.NestLaws.{set_of_rest}
use Rattle.slate_types.specs.Keys.{keys_set}
use Rattle.slate_txn.specs.State.{opening}
use Rattle.slate_db.specs.Layers.{LayersModel, AreRising}
use Rattle.slate_db.specs.Model.{CoreModel, Rows, versions_in}
use Rattle.slate_db.specs.Meaning.{segments_by}
use Rattle.slate_db.proofs.MemoryRows.{rise_more}
use Rattle.slate_db.proofs.Tests.{tested_merges}
use Rattle.slate_db.proofs.TakenBack.{commit_seqs, older_rows}
use Rattle.std.proofs.lemmas.Result.{err_from_is_err_and}
use Rattle.slate_types.proofs.StillLaws.{stays_at}
use Rattle.slate_db.proofs.commit.put_commit.Goals as goal

-- a core of these layers
core_of : LayersModel → CoreModel
core_of y = record { settings = record { default_millis = None; start_seq = 0 }; state = opening; events = []; spare = 0; segments = []; active = y.active; frozen = y.frozen; floor = y.floor }

pub rows_of_batch-requires : goal.rows_of_batch-requires
rows_of_batch-requires g c = tested_merges (option_map g.M.MergeOperator.combine c.args.operator.now) (segments_by g.X.PrefixExtractor.lengths c.args.extractor.now) c.args.segments.now c.args.default_millis _ c.args.batch.now.held_merge c.args.batch.now.ops c.in_ok-prefixes.ensures.tested

pub returns-clause-puts : goal.returns-clause-puts
returns-clause-puts g c =
    let f : List ℕ → Combine = operator_at (option_map g.M.MergeOperator.combine c.args.operator.now) in
    let rows : c.in_ok-rows.rows.items ≡ commit_rows f c.args.default_millis (c.args.last + 1) c.args.now c.args.batch.now.ops =
    c.in_ok-rows.ensures.rows ∙ ap (λ (z : ℤ). commit_rows f c.args.default_millis (c.args.last + 1) z c.args.batch.now.ops) (to_z-of_z w64 c.args.now c.ranges.now) in
    record {
      recorded = c.in_ok-put_own.ensures.recorded ∙ ap (λ ps. keys_set (c.args.segments.now ++ ps)) c.in_ok-prefixes.ensures.prefixes ∙ set_of_rest c.args.segments.now (prefixes (segments_by g.X.PrefixExtractor.lengths c.args.extractor.now) c.args.batch.now.ops);
      put = c.in_ok-put_own.ensures.put ∙ ap (λ (rs : Rows). record c.args.layers.now { active = put_rows c.args.layers.now.active rs }) rows;
      ops = c.from_vec.ensures ∙ c.in_ok-ops.ensures.ops;
      fine = c.ops.ensures.fine;
      committed = c.in_ok-put_own.ensures.committed;
      stands = c.in_ok-put_own.ensures.stands;
      same_segments = tt;
      same_layers = tt;
      same = tt;
    }

pub put_own-requires : goal.put_own-requires
unfolding core_of
put_own-requires g c =
    let y : LayersModel = c.args.layers.now in
    let f : List ℕ → Combine = operator_at (option_map g.M.MergeOperator.combine c.args.operator.now) in
    let rows : c.in_ok-rows.rows.items ≡ commit_rows f c.args.default_millis (c.args.last + 1) c.args.now c.args.batch.now.ops =
    c.in_ok-rows.ensures.rows ∙ ap (λ (z : ℤ). commit_rows f c.args.default_millis (c.args.last + 1) z c.args.batch.now.ops) (to_z-of_z w64 c.args.now c.ranges.now) in
    record {
      whole = c.requires.whole;
      fit = c.in_ok-rows.ensures.fit c.ops.ensures.fine;
      rise = λ k. subst (λ (rows : Rows). AreRising (versions_in k (y.frozen ++ (put_rows y.active rows ∷ [])))) (sym rows)
          (rise_more (core_of y) f c.args.default_millis c.args.last c.args.now c.args.batch.now.ops c.requires.within c.requires.whole.rise k);
      seqs = subst (AllByRecursion (λ r. r.seq ≡ c.args.last + 1)) (sym rows) (commit_seqs f c.args.default_millis (c.args.last + 1) c.args.now c.args.batch.now.ops);
      older = older_rows (core_of y) c.args.last c.requires.within;
      later = omega (arith, c.requires.newest);
    }

pub returns-in_err-prefixes-clause-still : goal.returns-in_err-prefixes-clause-still
returns-in_err-prefixes-clause-still g c =
    let p = err_from_is_err_and c.from_residual.result c.from_residual.ensures.1 in
    rw (p.1, p.2) (stays_at _ _ c.in_err-prefixes.field-0.0 refl)

pub returns-in_err-rows-clause-still : goal.returns-in_err-rows-clause-still
returns-in_err-rows-clause-still g c =
    let p = err_from_is_err_and c.from_residual-in_err-rows.result c.from_residual-in_err-rows.ensures.1 in
    rw (p.1, p.2) c.in_err-rows.ensures.still

pub returns-in_err-ops-clause-still : goal.returns-in_err-ops-clause-still
returns-in_err-ops-clause-still g c =
    let p = err_from_is_err_and c.from_residual-in_err-ops.result c.from_residual-in_err-ops.ensures.1 in
    rw (p.1, p.2) (stays_at _ _ c.in_err-ops.field-0.0 c.in_ok-rows.ensures.still)

pub returns-in_err-put_own-clause-still : goal.returns-in_err-put_own-clause-still
returns-in_err-put_own-clause-still g c =
    let p = err_from_is_err_and c.from_residual-in_err-put_own.result c.from_residual-in_err-put_own.ensures.1 in
    rw (p.1, p.2) (stays_at _ _ c.in_err-put_own.field-0.0 c.in_ok-rows.ensures.still)

pub returns-clause-still : goal.returns-clause-still
returns-clause-still g c = c.in_ok-rows.ensures.still
