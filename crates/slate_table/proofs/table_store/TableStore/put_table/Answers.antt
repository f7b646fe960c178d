use Rattle.std.proofs.Common.{◌≡◌, ◌∙◌, arith, refl, inl, inr}
use Rattle.slate_table.specs.Paths.{path_of}
use Rattle.std.proofs.lemmas.Result.{IfOk-from_err, err_from_is_err_and}
use Rattle.slate_table.proofs.Results.{on_err, read_still, store_fault, store_failed}
use Rattle.slate_table.proofs.table_store.TableStore.put_table.Goals as goal

pub returns-in-Ok : goal.returns-in-Ok
returns-in-Ok g c =
    record {
      id = refl;
      info = c.in_ok-info.ensures.cases ∙ c.info.ensures;
      version = c.version.ensures;
      taken = (λ os told.
          let path : c.as_str.result.now ≡ path_of c.args.root.now c.args.id.0 = c.as_str.ensures.value ∙ c.in_ok-path.ensures.path in
          rw (path, c.as_slice.ensures) at (c.in-Ok.ensures.taken os told));
      refused = tt;
      act = (let path : c.as_str.result.now ≡ path_of c.args.root.now c.args.id.0 = c.as_str.ensures.value ∙ c.in_ok-path.ensures.path in
          rw (path, c.as_slice.ensures) at c.in-Ok.ensures.act);
      cause = tt;
      later = c.put.ensures.later;
      still = inr (read_still _ c.in-Ok.ensures.still);
    }

pub returns : goal.returns
returns g c =
    record {
      id = tt;
      info = tt;
      version = tt;
      taken = λ os told. tt;
      refused = (let path : c.as_str.result.now ≡ path_of c.args.root.now c.args.id.0 = c.as_str.ensures.value ∙ c.in_ok-path.ensures.path in
          rw (path, c.as_slice.ensures) at c.in-Err.ensures.refused);
      act = tt;
      cause = rw c.from.ensures (store_fault c.in-Err.error _ _ c.in-Err.ensures.cause);
      later = c.put.ensures.later;
      still = rw c.from.ensures (store_failed c.in-Err.error c.in-Err.ensures.still);
    }

pub returns-in_err-path : goal.returns-in_err-path
returns-in_err-path g c =
    let p = err_from_is_err_and c.from_residual.result c.from_residual.ensures.1 in
    record {
      id = IfOk-from_err c.from_residual.result _ c.from_residual.ensures.0;
      info = IfOk-from_err c.from_residual.result _ c.from_residual.ensures.0;
      version = IfOk-from_err c.from_residual.result _ c.from_residual.ensures.0;
      taken = λ os told. IfOk-from_err c.from_residual.result _ c.from_residual.ensures.0;
      refused = on_err c.from_residual.result (inl (record { stands = refl; told = refl }));
      act = IfOk-from_err c.from_residual.result _ c.from_residual.ensures.0;
      cause = rw (p.1, p.2) (inl c.in_err-path.ensures.cause);
      later = omega arith;
      still = inr refl;
    }

pub returns-in_err-info : goal.returns-in_err-info
returns-in_err-info g c =
    let p = err_from_is_err_and c.from_residual-in_err-info.result c.from_residual-in_err-info.ensures.1 in
    record {
      id = IfOk-from_err c.from_residual-in_err-info.result _ c.from_residual-in_err-info.ensures.0;
      info = IfOk-from_err c.from_residual-in_err-info.result _ c.from_residual-in_err-info.ensures.0;
      version = IfOk-from_err c.from_residual-in_err-info.result _ c.from_residual-in_err-info.ensures.0;
      taken = λ os told. IfOk-from_err c.from_residual-in_err-info.result _ c.from_residual-in_err-info.ensures.0;
      refused = on_err c.from_residual-in_err-info.result (inl (record { stands = refl; told = refl }));
      act = IfOk-from_err c.from_residual-in_err-info.result _ c.from_residual-in_err-info.ensures.0;
      cause = rw (p.1, p.2) (inl refl);
      later = omega arith;
      still = inr refl;
    }
