use Rattle.std.proofs.Common.{inl, refl, arith, inr}
use Rattle.std.proofs.lemmas.Result.{IfOk-from_err, err_from_is_err_and}
use Rattle.slate_types.proofs.Exits.{on_ok}
use Rattle.slate_block.proofs.Failing.{out_of_memory}
use Rattle.slate_block.proofs.Prefixes.{whole_restored}
use Rattle.slate_block.proofs.keys.restored_key.Goals as goal

pub returns-then-shared-eq0-clause-valid : goal.returns-then-shared-eq0-clause-valid
returns-then-shared-eq0-clause-valid c = on_ok c.map_err.result (whole_restored c.args.shared c.args.other.now c.args.suffix.now (omega arith) (omega arith) (omega arith))

pub returns-then-shared-eq0-clause-only : goal.returns-then-shared-eq0-clause-only
returns-then-shared-eq0-clause-only c = λ _. out_of_memory c.clone.result c.map_err.result _ c.map_err.ensures.cases refl

pub returns-then-shared-eq0-clause-cause : goal.returns-then-shared-eq0-clause-cause
returns-then-shared-eq0-clause-cause c = out_of_memory c.clone.result c.map_err.result _ c.map_err.ensures.cases (inl refl)

pub returns-clause-valid : goal.returns-clause-valid
returns-clause-valid c = on_ok c.map_err-2.result (whole_restored c.args.shared c.args.other.now c.args.suffix.now (omega arith) (omega arith) (omega arith))

pub returns-clause-only : goal.returns-clause-only
returns-clause-only c = λ _. out_of_memory c.from_vec.result c.map_err-2.result _ c.map_err-2.ensures.cases refl

pub returns-clause-cause : goal.returns-clause-cause
returns-clause-cause c = out_of_memory c.from_vec.result c.map_err-2.result _ c.map_err-2.ensures.cases (inl refl)

pub returns-in_err-key : goal.returns-in_err-key
returns-in_err-key c =
    let p = err_from_is_err_and c.from_residual.result c.from_residual.ensures.1 in
    record {
      key = IfOk-from_err c.from_residual.result _ c.from_residual.ensures.0;
      valid = IfOk-from_err c.from_residual.result _ c.from_residual.ensures.0;
      only = λ _. rw (p.1, p.2) refl;
      cause = rw (p.1, p.2) (inl refl);
    }

pub returns-then-shared-other : goal.returns-then-shared-other
returns-then-shared-other c = record { key = tt; valid = tt; only = λ h. absurd (omega (arith, h.0)); cause = inr refl }
