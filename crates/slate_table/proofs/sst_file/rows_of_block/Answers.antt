use Rattle.std.proofs.Common.{List, ℕ, refl, subst}
use Rattle.std.proofs.lemmas.Result.{err_from_is_err_and, IfOk-from_err}
use Rattle.slate_types.specs.declared.error.SlateDBError.TheVariants.{OutOfMemory}
use Rattle.slate_block.specs.ReadingLaws.{EachIsAByte}
use Rattle.slate_table.proofs.FileReads.{refused_in, same_refusal}
use Rattle.slate_table.proofs.sst_file.rows_of_block.Goals as goal

pub returns-in_err-walk : goal.returns-in_err-walk
returns-in_err-walk c =
    let p = err_from_is_err_and c.from_residual.result c.from_residual.ensures.1 in
    record {
      rows = IfOk-from_err c.from_residual.result _ c.from_residual.ensures.0;
      bytes = subst (λ (l : List ℕ). EachIsAByte l) c.as_slice.ensures c.are_bytes.ensures;
      cause = (rw (p.1, p.2)
          (refused_in c.args.version c.args.block.now c.in_err-walk.field-0.0 OutOfMemory c.in_err-walk.ensures.cause (λ none. same_refusal _ _ _ _ (c.in_err-walk.ensures.version none) refl refl)));
    }
