use Rattle.std.proofs.Common.{◌≡◌, true, false, option_map, w64, inl, arith, ◌+◌, List, ◌++◌, unwrap_or, refl, ap, sym, subst, ◌∙◌, append-nil}
use Rattle.std.proofs.lemmas.Int.{to_z-of_z}
use Rattle.std.proofs.lemmas.Result.{IfOk-from_err, err_from_is_err_and}
use Rattle.slate_txn.specs.Conflict.{conflict}
use Rattle.slate_mem.specs.Batch.{kept_ops}
use Rattle.slate_mem.specs.CommitRows.{commit_rows}
use Rattle.slate_mem.specs.KeyTests.{prefixes}
use Rattle.slate_types.specs.Fold.{operator_at}
use Rattle.slate_types.specs.Keys.{keys_set}
use Rattle.slate_mem.specs.Table.{put_rows}
use Rattle.slate_txn.specs.HandedOver.{Grown}
use Rattle.slate_db.specs.Calls.Put.{Makes}
use Rattle.slate_txn.specs.Named.{without}
use Rattle.slate_txn.specs.Replay.{commit_made}
use Rattle.slate_txn.specs.State.{Commit}
use Rattle.slate_db.specs.declared.commit.Made.{Made}
use Rattle.slate_db.specs.Log.{AreFine}
use Rattle.slate_db.specs.Managed.{IsManaged}
use Rattle.slate_db.specs.Meaning.{segments_by}
use Rattle.slate_db.proofs.Managing.{managed_dropped, managed_committed}
use Rattle.slate_db.proofs.Plain.{empty_kept}
use Rattle.slate_types.specs.declared.error.SlateDBError.TheVariants.{SequenceExhausted}
use Rattle.slate_db.proofs.Tests.{test_as}
use Rattle.slate_db.proofs.Verdicts.{asks_tested, decides_batch, decides_err, decides_ok, decides_tested, verdict_empty, verdict_spent, verdict_tested}
use Rattle.slate_types.proofs.StillLaws.{stays_at}
use Rattle.slate_db.proofs.commit.make.Goals as goal

pub returns-then-is_empty-clause-committed : goal.returns-then-is_empty-clause-committed
returns-then-is_empty-clause-committed g c = λ ids cs ps w.
    subst (λ (made : Made). IsManaged c.drop_txn.new.self ids (unwrap_or made.seq c.args.last) (cs ++ commit_made made.seq c.args.now made.ops made.tracked) (without c.args.id.now ps)) (sym c.idle.ensures)
    (subst (λ (ks : List Commit). IsManaged c.drop_txn.new.self ids c.args.last ks (without c.args.id.now ps)) (sym (append-nil cs))
    (managed_dropped c.args.manager.now c.test.new.manager c.drop_txn.new.self ids c.args.last cs ps c.args.id.now c.in_ok-tested.ensures.grown c.drop_txn.ensures.dropped (c.drop_txn.ensures.stands cs) w))

pub returns-in-Ok-clause-committed : goal.returns-in-Ok-clause-committed
returns-in-Ok-clause-committed g c = λ ids cs ps w.
    managed_committed c.args.manager.now c.test.new.manager c.put_commit-put.new.manager ids c.args.last (c.args.last + 1) cs ps c.args.id.now c.args.owned _ c.in_ok-tested.ensures.grown (c.in_ok-tested.ensures.handed c.requires.held) refl c.in_ok-tested.ensures.commits.keys
    c.in-Ok.ensures.puts.committed (c.in-Ok.ensures.puts.stands cs _) w

pub returns-in_err-tested-clause-still : goal.returns-in_err-tested-clause-still
returns-in_err-tested-clause-still g c =
    let p = err_from_is_err_and c.from_residual.result c.from_residual.ensures.1 in
    rw (p.1, p.2) (stays_at _ _ c.in_err-tested.field-0.0 refl)

pub returns-in-Ok-clause-still : goal.returns-in-Ok-clause-still
returns-in-Ok-clause-still g c = c.in-Ok.ensures.still

pub returns-in-Err-clause-still : goal.returns-in-Err-clause-still
returns-in-Err-clause-still g c = c.in-Err.ensures.still

-- ---- what is made, what it answers, and whether the operator was asked

pub returns-in_err-tested-clause-commits : goal.returns-in_err-tested-clause-commits
returns-in_err-tested-clause-commits g c = record {
  makes = IfOk-from_err c.from_residual.result _ c.from_residual.ensures.0;
  answer = λ cs stands.
      let p = err_from_is_err_and c.from_residual.result c.from_residual.ensures.1 in
      record {
        decides = decides_tested (conflict cs c.args.owned) c.args.last c.args.owned.ops _ _ _ c.in_err-tested.field-0.0 c.from_residual.result (inl refl) p.1 p.2 (c.in_err-tested.ensures.met cs stands c.requires.held);
        asks = λ nobody. refl;
      };
}

pub returns-then-is_empty-clause-commits : goal.returns-then-is_empty-clause-commits
returns-then-is_empty-clause-commits g c = record {
  makes =
      subst (Makes (option_map g.M.MergeOperator.combine c.args.operator.now) (segments_by g.X.PrefixExtractor.lengths c.args.extractor.now) c.args.default_millis c.args.now c.args.owned c.args.last c.args.segments.now c.args.segments.now c.args.layers.now c.args.layers.now) (sym c.idle.ensures)
      (record {
        made = record {
          tracked = c.in_ok-tested.ensures.commits.keys;
          steps = c.in_ok-tested.ensures.commits.steps;
          ops = sym (c.is_empty.ensures.0 c.if-is_empty.true) ∙ c.in_ok-tested.ensures.commits.batch.0;
          fine = tt;
          next = empty_kept c.args.owned.ops (sym c.in_ok-tested.ensures.commits.batch.0 ∙ c.is_empty.ensures.0 c.if-is_empty.true);
        };
        recorded = refl;
        put = refl;
      });
  answer = λ cs stands. record {
    decides = decides_ok _ _ _ (verdict_empty (conflict cs c.args.owned) c.args.last c.args.owned.ops _ (c.in_ok-tested.ensures.free cs stands c.requires.held)
        (empty_kept c.args.owned.ops (sym c.in_ok-tested.ensures.commits.batch.0 ∙ c.is_empty.ensures.0 c.if-is_empty.true)));
    asks = λ nobody. refl;
  };
}

pub returns-then-last-ge18446744073709551614-clause-commits : goal.returns-then-last-ge18446744073709551614-clause-commits
returns-then-last-ge18446744073709551614-clause-commits g c = record {
  makes = tt;
  answer = λ cs stands. record {
    decides = decides_err _ _ _ SequenceExhausted (verdict_spent (conflict cs c.args.owned) c.args.last c.args.owned.ops _ (c.in_ok-tested.ensures.free cs stands c.requires.held)
        (λ none. let t : true ≡ false = sym (c.is_empty.ensures.1 (c.in_ok-tested.ensures.commits.batch.0 ∙ ap kept_ops none)) ∙ c.if-is_empty.false in cc)
        (omega (arith, c.requires.fits, c.if-last-ge18446744073709551614.true)));
    asks = λ nobody. refl;
  };
}

pub returns-in-Ok-clause-commits : goal.returns-in-Ok-clause-commits
returns-in-Ok-clause-commits g c = record {
  makes = record {
    made = record {
      tracked = c.in_ok-tested.ensures.commits.keys;
      steps = c.in_ok-tested.ensures.commits.steps;
      ops = c.in-Ok.ensures.puts.ops ∙ c.in_ok-tested.ensures.commits.batch.0;
      fine = subst AreFine (sym c.in-Ok.ensures.puts.ops) c.in-Ok.ensures.puts.fine;
      next = (refl, omega (arith, c.if-last-ge18446744073709551614.false), λ none. let t : true ≡ false = sym (c.is_empty.ensures.1 (c.in_ok-tested.ensures.commits.batch.0 ∙ ap kept_ops none)) ∙ c.if-is_empty.false in cc);
    };
    recorded = c.in-Ok.ensures.puts.recorded ∙ ap (λ ops. keys_set (c.args.segments.now ++ prefixes (segments_by g.X.PrefixExtractor.lengths c.args.extractor.now) ops)) (sym c.in-Ok.ensures.puts.ops);
    put = c.in-Ok.ensures.puts.put ∙ (λ i. record c.args.layers.now { active = put_rows c.args.layers.now.active (commit_rows (operator_at (option_map g.M.MergeOperator.combine c.args.operator.now)) c.args.default_millis (c.args.last + 1) (to_z-of_z w64 c.args.now c.ranges.now i) (c.in_ok-tested.ensures.commits.batch.0 i)) });
  };
  answer = λ cs stands. record {
    decides = decides_ok _ _ _
        (verdict_tested (conflict cs c.args.owned) c.args.last c.args.owned.ops _ (c.in_ok-tested.ensures.free cs stands c.requires.held)
        (λ none. let t : true ≡ false = sym (c.is_empty.ensures.1 (c.in_ok-tested.ensures.commits.batch.0 ∙ ap kept_ops none)) ∙ c.if-is_empty.false in cc)
        (omega (arith, c.if-last-ge18446744073709551614.false))
        ∙ sym (test_as (option_map g.M.MergeOperator.combine c.args.operator.now) (segments_by g.X.PrefixExtractor.lengths c.args.extractor.now) c.args.segments.now c.args.default_millis _ c.args.now c.args.owned.ops c.in_ok-tested.tested.batch (to_z-of_z w64 c.args.now c.ranges.now) c.in_ok-tested.ensures.commits.batch)
        ∙ c.in-Ok.ensures.decides.tested);
    asks =
        asks_tested (conflict cs c.args.owned) c.args.last c.args.owned.ops _ (c.in_ok-tested.ensures.free cs stands c.requires.held)
        (λ none. let t : true ≡ false = sym (c.is_empty.ensures.1 (c.in_ok-tested.ensures.commits.batch.0 ∙ ap kept_ops none)) ∙ c.if-is_empty.false in cc)
        (omega (arith, c.if-last-ge18446744073709551614.false))
        (λ e refused. c.put_commit-put.ensures.decides.unasked e
        (test_as (option_map g.M.MergeOperator.combine c.args.operator.now) (segments_by g.X.PrefixExtractor.lengths c.args.extractor.now) c.args.segments.now c.args.default_millis _ c.args.now c.args.owned.ops c.in_ok-tested.tested.batch (to_z-of_z w64 c.args.now c.ranges.now) c.in_ok-tested.ensures.commits.batch ∙ refused))
        (λ none. c.put_commit-put.ensures.plain (c.in_ok-tested.ensures.commits.batch.1 ∙ none));
  };
}

pub returns-in-Err-clause-commits : goal.returns-in-Err-clause-commits
returns-in-Err-clause-commits g c = record {
  makes = tt;
  answer = λ cs stands. record {
    decides = decides_batch _ _ _ _ _ c.in-Err.error
        (verdict_tested (conflict cs c.args.owned) c.args.last c.args.owned.ops _ (c.in_ok-tested.ensures.free cs stands c.requires.held)
        (λ none. let t : true ≡ false = sym (c.is_empty.ensures.1 (c.in_ok-tested.ensures.commits.batch.0 ∙ ap kept_ops none)) ∙ c.if-is_empty.false in cc)
        (omega (arith, c.if-last-ge18446744073709551614.false))
        ∙ sym (test_as (option_map g.M.MergeOperator.combine c.args.operator.now) (segments_by g.X.PrefixExtractor.lengths c.args.extractor.now) c.args.segments.now c.args.default_millis _ c.args.now c.args.owned.ops c.in_ok-tested.tested.batch (to_z-of_z w64 c.args.now c.ranges.now) c.in_ok-tested.ensures.commits.batch))
        c.in-Err.ensures.decides.first (λ h. h) c.in-Err.ensures.decides.cause;
    asks =
        asks_tested (conflict cs c.args.owned) c.args.last c.args.owned.ops _ (c.in_ok-tested.ensures.free cs stands c.requires.held)
        (λ none. let t : true ≡ false = sym (c.is_empty.ensures.1 (c.in_ok-tested.ensures.commits.batch.0 ∙ ap kept_ops none)) ∙ c.if-is_empty.false in cc)
        (omega (arith, c.if-last-ge18446744073709551614.false))
        (λ e refused. c.put_commit-put.ensures.decides.unasked e
        (test_as (option_map g.M.MergeOperator.combine c.args.operator.now) (segments_by g.X.PrefixExtractor.lengths c.args.extractor.now) c.args.segments.now c.args.default_millis _ c.args.now c.args.owned.ops c.in_ok-tested.tested.batch (to_z-of_z w64 c.args.now c.ranges.now) c.in_ok-tested.ensures.commits.batch ∙ refused))
        (λ none. c.put_commit-put.ensures.plain (c.in_ok-tested.ensures.commits.batch.1 ∙ none));
  };
}

-- ---- what a refusal leaves

pub returns-in_err-tested-clause-left : goal.returns-in_err-tested-clause-left
returns-in_err-tested-clause-left g c =
    let p = err_from_is_err_and c.from_residual.result c.from_residual.ensures.1 in
    rw p.1 (record { segments = refl; layers = refl; grown = c.in_err-tested.ensures.grown })

pub returns-then-last-ge18446744073709551614-clause-left : goal.returns-then-last-ge18446744073709551614-clause-left
returns-then-last-ge18446744073709551614-clause-left g c = record { segments = refl; layers = refl; grown = c.in_ok-tested.ensures.grown }

pub returns-in-Err-clause-left : goal.returns-in-Err-clause-left
returns-in-Err-clause-left g c = record {
  segments = c.in-Err.ensures.puts.same_segments;
  layers = c.in-Err.ensures.puts.same_layers;
  grown = subst (Grown c.args.id.now c.args.manager.now) (sym c.in-Err.ensures.puts.same) c.in_ok-tested.ensures.grown;
}
