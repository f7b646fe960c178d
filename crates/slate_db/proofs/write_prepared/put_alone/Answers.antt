use Rattle.std.proofs.Common.{◌≡◌, ◌⊎◌, inl, inr, ℕ, ◌+◌, ◌∷◌, ◌++◌, [], List, None, refl, ap, sym, subst, ◌∙◌, arith}
use Rattle.std.specs.List.{AllByRecursion}
use Rattle.std.proofs.lemmas.Result.{err_from_is_err_and}
use Rattle.slate_types.specs.Fold.{operator_at}
use Rattle.slate_types.specs.Keys.{keys_set}
use Rattle.slate_mem.specs.KeyTests.{prefixes}
use Rattle.slate_mem.specs.Table.{put_rows}
use Rattle.slate_mem.proofs.NestLaws.{set_of_rest}
use Rattle.slate_txn.specs.State.{opening}
use Rattle.slate_db.specs.Layers.{LayersModel, AreRising}
use Rattle.slate_db.specs.Model.{CoreModel, Rows, versions_in}
use Rattle.slate_db.proofs.Logs.{has_place}
use Rattle.slate_db.proofs.MemoryRows.{rise_more}
use Rattle.slate_db.proofs.TakenBack.{commit_seqs, older_rows}
use Rattle.slate_db.proofs.write_prepared.put_alone.Goals as goal

-- a core of these layers
core_of : LayersModel → CoreModel
core_of y = record { settings = record { default_millis = None; start_seq = 0 }; state = opening; events = []; spare = 0; segments = []; active = y.active; frozen = y.frozen; floor = y.floor }

pub put_batch-requires : goal.put_batch-requires
unfolding core_of
put_batch-requires c =
    let y : LayersModel = c.args.layers.now in
    let w = c.requires.prepared.0 in
    let x = c.in_ok-passed.ensures.passed w c.requires.prepared.1 in
    let f = operator_at w.combine in
    record {
      whole = c.requires.whole;
      fit = x.fit;
      rise = λ k. subst (λ (rows : Rows). AreRising (versions_in k (y.frozen ++ (put_rows y.active rows ∷ [])))) (sym x.rows)
          (rise_more (core_of y) f w.default_millis c.args.last w.now w.batch.ops c.requires.within c.requires.whole.rise k);
      seqs = subst (AllByRecursion (λ r. r.seq ≡ c.args.last + 1)) (sym x.rows) (commit_seqs f w.default_millis (c.args.last + 1) w.now w.batch.ops);
      older = older_rows (core_of y) c.args.last c.requires.within;
      later = omega (arith, c.requires.newest);
    }

pub returns-in_err-passed-clause-room : goal.returns-in_err-passed-clause-room
returns-in_err-passed-clause-room c = (refl, c.requires.logged)

pub returns-in_err-place-clause-room : goal.returns-in_err-place-clause-room
returns-in_err-place-clause-room c = (refl, c.requires.logged)

pub returns-in_err-passed-clause-cause : goal.returns-in_err-passed-clause-cause
returns-in_err-passed-clause-cause c = λ w p.
    let q = err_from_is_err_and c.from_residual.result c.from_residual.ensures.1 in
    rw (q.1, q.2) (by (c.in_err-passed.ensures.cause w p))
  where
    by : {A B C : Type 0} → A ⊎ B → A ⊎ B ⊎ C
    by (inl a) = inl a
    by (inr b) = inr (inl b)

pub returns-in_err-place-clause-cause : goal.returns-in_err-place-clause-cause
returns-in_err-place-clause-cause c = λ w p.
    let q = err_from_is_err_and c.from_residual-in_err-place.result c.from_residual-in_err-place.ensures.1 in
    rw (q.1, q.2) (inr (inr (c.in_err-place.ensures.limit.0, c.in_err-place.ensures.limit.1, (c.in_ok-passed.ensures.passed w p).tested)))

pub returns-clause-place : goal.returns-clause-place
returns-clause-place c = has_place c.args.log.now c.reserve.new.self c.reserve.ensures.value c.in_ok-reserve.ensures.room c.in_ok-place.ensures.place

pub returns-clause-puts : goal.returns-clause-puts
returns-clause-puts c = λ w p.
    let x = c.in_ok-passed.ensures.passed w p in
    record {
      tested = x.tested;
      recorded = c.in_ok-put_batch.ensures.recorded ∙ ap (λ ps. keys_set (c.args.segments.now ++ ps)) x.prefixes ∙ set_of_rest c.args.segments.now (prefixes w.segments w.batch.ops);
      put = c.in_ok-put_batch.ensures.put ∙ ap (λ (rs : Rows). record c.args.layers.now { active = put_rows c.args.layers.now.active rs }) x.rows;
      stands = λ cs d of. c.in_ok-put_batch.ensures.stands cs d (of.0, of.1 ∙ sym x.keys);
    }
