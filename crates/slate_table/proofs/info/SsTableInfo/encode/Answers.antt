use Rattle.std.proofs.lemmas.Result.{IfOk-from_err}
use Rattle.slate_types.specs.declared.error.SlateDBError.TheVariants.{OutOfMemory}
use Rattle.slate_table.proofs.Asking.{memory_exit}
use Rattle.slate_table.proofs.info.SsTableInfo.encode.Goals as goal

pub returns-in_err-append_u16 : goal.returns-in_err-append_u16
returns-in_err-append_u16 c =
    record {
      spelling = IfOk-from_err c.from_residual.result _ c.from_residual.ensures.0;
      cause = memory_exit c.from_residual.result _ c.from_residual.ensures.1 OutOfMemory c.in_err-append_u16.ensures.cause;
    }

pub returns-in_err-append_key : goal.returns-in_err-append_key
returns-in_err-append_key c =
    record {
      spelling = IfOk-from_err c.from_residual-in_err-append_key.result _ c.from_residual-in_err-append_key.ensures.0;
      cause = memory_exit c.from_residual-in_err-append_key.result _ c.from_residual-in_err-append_key.ensures.1 OutOfMemory c.in_err-append_key.ensures.cause;
    }

pub returns-in_err-append_key-2 : goal.returns-in_err-append_key-2
returns-in_err-append_key-2 c =
    record {
      spelling = IfOk-from_err c.from_residual-in_err-append_key-2.result _ c.from_residual-in_err-append_key-2.ensures.0;
      cause = memory_exit c.from_residual-in_err-append_key-2.result _ c.from_residual-in_err-append_key-2.ensures.1 OutOfMemory c.in_err-append_key-2.ensures.cause;
    }

pub returns-in_err-append_places : goal.returns-in_err-append_places
returns-in_err-append_places c =
    record {
      spelling = IfOk-from_err c.from_residual-in_err-append_places.result _ c.from_residual-in_err-append_places.ensures.0;
      cause = memory_exit c.from_residual-in_err-append_places.result _ c.from_residual-in_err-append_places.ensures.1 OutOfMemory c.in_err-append_places.ensures.cause;
    }

pub returns-in_err-append : goal.returns-in_err-append
returns-in_err-append c =
    record {
      spelling = IfOk-from_err c.from_residual-in_err-append.result _ c.from_residual-in_err-append.ensures.0;
      cause = memory_exit c.from_residual-in_err-append.result _ c.from_residual-in_err-append.ensures.1 OutOfMemory c.in_err-append.ensures.cause;
    }
