use Rattle.std.proofs.Common.{◌≡◌, ℕ, ◌+◌, ◌∷◌, ◌++◌, [], List, None, ap, sym, subst, ◌∙◌, arith}
use Rattle.std.specs.List.{AllByRecursion}
use Rattle.std.proofs.lemmas.Result.{err_from_is_err_and}
use Rattle.slate_types.specs.Fold.{operator_at}
use Rattle.slate_types.specs.Keys.{keys_set}
use Rattle.slate_mem.specs.KeyTests.{prefixes}
use Rattle.slate_mem.specs.Table.{put_rows}
use Rattle.slate_mem.proofs.NestLaws.{set_of_rest}
use Rattle.slate_txn.specs.State.{opening}
use Rattle.slate_db.specs.Layers.{LayersModel, AreRising}
use Rattle.slate_db.specs.Model.{CoreModel, Rows, versions_in}
use Rattle.slate_db.proofs.MemoryRows.{rise_more}
use Rattle.slate_db.proofs.TakenBack.{commit_seqs, older_rows}
use Rattle.slate_db.proofs.commit_prepared.put_prepared.Goals as goal

-- a core of these layers
core_of : LayersModel → CoreModel
core_of y = record { settings = record { default_millis = None; start_seq = 0 }; state = opening; events = []; spare = 0; segments = []; active = y.active; frozen = y.frozen; floor = y.floor }

pub put_own-requires : goal.put_own-requires
unfolding core_of
put_own-requires c =
    let y : LayersModel = c.args.layers.now in
    let w = c.requires.prepared.0 in
    let x = c.in_ok-passed.ensures.passed w c.requires.prepared.1 in
    let f = operator_at w.combine in
    record {
      whole = c.requires.whole;
      fit = x.fit;
      rise = λ k. subst (λ (rows : Rows). AreRising (versions_in k (y.frozen ++ (put_rows y.active rows ∷ [])))) (sym x.rows)
          (rise_more (core_of y) f w.default_millis c.args.last w.now w.batch.ops c.requires.within c.requires.whole.rise k);
      seqs = subst (AllByRecursion (λ r. r.seq ≡ c.args.last + 1)) (sym x.rows) (commit_seqs f w.default_millis (c.args.last + 1) w.now w.batch.ops);
      older = older_rows (core_of y) c.args.last c.requires.within;
      later = omega (arith, c.requires.newest);
    }

pub returns-in_err-passed-clause-cause : goal.returns-in_err-passed-clause-cause
returns-in_err-passed-clause-cause c = λ w p.
    let q = err_from_is_err_and c.from_residual.result c.from_residual.ensures.1 in
    rw (q.1, q.2) (c.in_err-passed.ensures.cause w p)

pub returns-clause-recorded : goal.returns-clause-recorded
returns-clause-recorded c = λ w p. c.in_ok-put_own.ensures.recorded ∙ ap (λ ps. keys_set (c.args.segments.now ++ ps)) (c.in_ok-passed.ensures.passed w p).prefixes ∙ set_of_rest c.args.segments.now (prefixes w.segments w.batch.ops)

pub returns-clause-put : goal.returns-clause-put
returns-clause-put c = λ w p. c.in_ok-put_own.ensures.put ∙ ap (λ (rs : Rows). record c.args.layers.now { active = put_rows c.args.layers.now.active rs }) (c.in_ok-passed.ensures.passed w p).rows

pub returns-clause-tested : goal.returns-clause-tested
returns-clause-tested c = λ w p. (c.in_ok-passed.ensures.passed w p).tested
