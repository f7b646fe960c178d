use Rattle.std.proofs.Common.{refl, arith}
use Rattle.std.proofs.lemmas.Result.{IfOk-from_err}
use Rattle.slate_types.specs.declared.error.SlateDBError.TheVariants.{OutOfMemory}
use Rattle.slate_table.proofs.Asking.{memory_exit}
use Rattle.slate_table.proofs.table_parts.TableParts.reserve_section.Goals as goal

pub returns-in_err-reserve : goal.returns-in_err-reserve
returns-in_err-reserve c =
    record {
      same = record { size = refl; format = refl; id = refl; rows = refl; block = refl; bytes = c.in_err-reserve.ensures.items; offsets = refl; separators = refl; stats = refl; keys = refl; values = refl };
      rows = refl;
      separators = refl;
      room = IfOk-from_err c.from_residual.result _ c.from_residual.ensures.0;
      cause = memory_exit c.from_residual.result _ c.from_residual.ensures.1 OutOfMemory refl;
    }

pub returns-in_err-reserve-2 : goal.returns-in_err-reserve-2
returns-in_err-reserve-2 c =
    record {
      same = record { size = refl; format = refl; id = refl; rows = refl; block = refl; bytes = c.in_ok-reserve.ensures.items; offsets = c.in_err-reserve-2.ensures.items; separators = refl; stats = refl; keys = refl; values = refl };
      rows = refl;
      separators = refl;
      room = IfOk-from_err c.from_residual-in_err-reserve-2.result _ c.from_residual-in_err-reserve-2.ensures.0;
      cause = memory_exit c.from_residual-in_err-reserve-2.result _ c.from_residual-in_err-reserve-2.ensures.1 OutOfMemory refl;
    }

pub returns-in_err-reserve-3 : goal.returns-in_err-reserve-3
returns-in_err-reserve-3 c =
    record {
      same = record { size = refl; format = refl; id = refl; rows = refl; block = refl; bytes = c.in_ok-reserve.ensures.items; offsets = c.in_ok-reserve-2.ensures.items; separators = refl; stats = c.in_err-reserve-3.ensures.items; keys = refl; values = refl };
      rows = refl;
      separators = refl;
      room = IfOk-from_err c.from_residual-in_err-reserve-3.result _ c.from_residual-in_err-reserve-3.ensures.0;
      cause = memory_exit c.from_residual-in_err-reserve-3.result _ c.from_residual-in_err-reserve-3.ensures.1 OutOfMemory refl;
    }

pub returns : goal.returns
returns c =
    record {
      same = record { size = refl; format = refl; id = refl; rows = refl; block = refl; bytes = c.in_ok-reserve.ensures.items; offsets = c.in_ok-reserve-2.ensures.items; separators = refl; stats = c.in_ok-reserve-3.ensures.items; keys = refl; values = refl };
      rows = refl;
      separators = refl;
      room = record { bytes = omega (arith, c.in_ok-reserve.ensures.ok); offsets = omega (arith, c.in_ok-reserve-2.ensures.ok); stats = omega (arith, c.in_ok-reserve-3.ensures.ok) };
      cause = tt;
    }
