use Rattle.std.proofs.Common.{◌≡◌, ◌⊎◌, ◌∙◌, Some, None, ap, sym, subst}
use Rattle.std.specs.List.{AllByRecursion}
use Rattle.std.proofs.lemmas.Result.{err_from_is_err_and}
use Rattle.slate_types.specs.declared.error.SlateDBError.TheVariants.{OutOfMemory}
use Rattle.slate_types.specs.Fold.{operator_at}
use Rattle.slate_types.specs.Keys.{keys_set}
use Rattle.slate_mem.specs.CommitRows.{commit_rows}
use Rattle.slate_mem.specs.KeyTests.{prefixes}
use Rattle.slate_db.specs.Layers.{FitsMemory}
use Rattle.slate_db.specs.Prepared.{lone_refusal, numbered}
use Rattle.slate_db.proofs.Numbered.{fits_numbered, rows_numbered}
use Rattle.slate_db.proofs.PreparedOf.{lone, nests, none, of_ok, of_err}
use Rattle.slate_db.proofs.prepared.Prepared.pass.Goals as goal

pub returns-in_err-folded-clause-cause : goal.returns-in_err-folded-clause-cause
returns-in_err-folded-clause-cause c = λ w p.
    let q = err_from_is_err_and c.from_residual.result c.from_residual.ensures.1 in
    rw (q.1, q.2) (lone w c.args.recorded.now c.in_err-folded.field-0.0 (of_err (λ e. (e ≡ OutOfMemory) ⊎ (lone_refusal w ≡ Some e)) c.args.self.folded c.in_err-folded.field-0.0 c.in_err-folded.was p.refused))

pub returns-in_err-test-clause-cause : goal.returns-in_err-test-clause-cause
returns-in_err-test-clause-cause c = λ w p.
    let q = err_from_is_err_and c.from_residual-in_err-test.result c.from_residual-in_err-test.ensures.1 in
    rw (q.1, q.2) (nests w c.args.recorded.now c.in_ok-folded.folded.prefixes.keys c.in_err-test.field-0.0
    (of_ok (λ f. f.prefixes.keys ≡ keys_set (prefixes w.segments w.batch.ops)) c.args.self.folded c.in_ok-folded.folded c.in_ok-folded.was p.prefixes)
    (of_ok (λ f. lone_refusal w ≡ None) c.args.self.folded c.in_ok-folded.folded c.in_ok-folded.was p.passed) c.in_err-test.ensures.cause)

pub returns-clause-passed : goal.returns-clause-passed
returns-clause-passed c = λ w p.
    let f = c.in_ok-folded.folded in
    let are = of_ok (λ f. f.prefixes.keys ≡ keys_set (prefixes w.segments w.batch.ops)) c.args.self.folded f c.in_ok-folded.was p.prefixes in
    let rows = of_ok (λ f. f.rows.items ≡ commit_rows (operator_at w.combine) w.default_millis 0 w.now w.batch.ops) c.args.self.folded f c.in_ok-folded.was p.rows in
    record {
      ops = p.ops;
      keys = p.keys;
      prefixes = are;
      rows = c.number.ensures ∙ ap (numbered c.args.seq) rows ∙ rows_numbered (operator_at w.combine) w.default_millis c.args.seq w.now w.batch.ops;
      fit = subst (AllByRecursion FitsMemory) (sym c.number.ensures) (fits_numbered c.args.seq f.rows.items (of_ok (λ f. AllByRecursion FitsMemory f.rows.items) c.args.self.folded f c.in_ok-folded.was p.fit));
      tested = none w c.args.recorded.now f.prefixes.keys are (of_ok (λ f. lone_refusal w ≡ None) c.args.self.folded f c.in_ok-folded.was p.passed) c.in_ok-test.ensures.fine;
    }
