use Rattle.std.proofs.Common.{◌∙◌, ◌++◌, ℕ, List, ap, refl}
use Rattle.std.proofs.lemmas.Result.{IfOk-from_err}
use Rattle.slate_types.specs.declared.error.SlateDBError.TheVariants.{OutOfMemory}
use Rattle.slate_table.specs.Parts.{summed}
use Rattle.slate_table.specs.SectionReading.{covered_by}
use Rattle.slate_table.proofs.Asking.{memory_exit}
use Rattle.slate_table.proofs.Results.{on_err}
use Rattle.slate_table.proofs.section.append_summed.Goals as goal

pub returns-in_err-reserve : goal.returns-in_err-reserve
returns-in_err-reserve c =
    record {
      appended = IfOk-from_err c.from_residual.result _ c.from_residual.ensures.0;
      unchanged = on_err c.from_residual.result c.in_err-reserve.ensures.items;
      cause = memory_exit c.from_residual.result _ c.from_residual.ensures.1 OutOfMemory refl;
    }

pub returns : goal.returns
returns c =
    record {
      appended = c.put_summed.ensures ∙ ap (λ (l : List ℕ). l ++ summed (covered_by c.args.place) c.args.bytes.now) c.in_ok-reserve.ensures.items;
      unchanged = tt;
      cause = tt;
    }
