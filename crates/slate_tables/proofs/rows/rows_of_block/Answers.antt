use Rattle.std.proofs.Common.{◌≡◌, ◌⊎◌, inl, inr, List, ℕ, refl, subst, Err}
use Rattle.std.specs.Prelude.{IfErr}
use Rattle.std.proofs.lemmas.Result.{err_from_is_err_and, IfOk-from_err}
use Rattle.slate_types.specs.declared.error.SlateDBError.TheVariants.{InvalidVersion, OutOfMemory}
use Rattle.slate_types.specs.Refusing.{IsDamage}
use Rattle.slate_block.specs.BlockSpelling.{IsKnown}
use Rattle.slate_block.specs.ReadingLaws.{EachIsAByte}
use Rattle.slate_block.proofs.Versions.{known_or_not}
use Rattle.slate_tables.proofs.BlockLaws.{block_damage, refused_in, same_refusal}
use Rattle.slate_tables.proofs.rows.rows_of_block.Goals as goal

pub returns-in_err-walk : goal.returns-in_err-walk
returns-in_err-walk c =
    let p = err_from_is_err_and c.from_residual.result c.from_residual.ensures.1 in
    let e = c.in_err-walk.field-0.0 in
    let by : IsKnown c.args.version ⊎ (IsKnown c.args.version → ⊥) → (e ≡ OutOfMemory) ⊎ IsDamage e = (λ k. elim k as (λ _. (e ≡ OutOfMemory) ⊎ IsDamage e) [
      | inl known ↦ block_damage e (c.in_err-walk.ensures.damage known)
      | inr none ↦ (let is : e ≡ InvalidVersion c.args.version = same_refusal _ _ _ _ (c.in_err-walk.ensures.version none) refl refl in inr (rw is tt))
    ]) in
    record {
      rows = IfOk-from_err c.from_residual.result _ c.from_residual.ensures.0;
      bytes = subst (λ (l : List ℕ). EachIsAByte l) c.as_slice.ensures c.are_bytes.ensures;
      cause = (rw (p.1, p.2)
          (refused_in c.args.version c.args.block.now e OutOfMemory c.in_err-walk.ensures.cause (λ none. same_refusal _ _ _ _ (c.in_err-walk.ensures.version none) refl refl)));
      damage = rw (p.1, p.2) (by (known_or_not c.args.version));
    }
