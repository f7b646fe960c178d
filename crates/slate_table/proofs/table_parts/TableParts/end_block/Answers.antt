use Rattle.std.proofs.Common.{◌∙◌}
use Rattle.std.proofs.lemmas.Result.{IfOk-from_err}
use Rattle.slate_types.specs.declared.error.SlateDBError.TheVariants.{OutOfMemory}
use Rattle.slate_table.specs.SectionReading.{changed_by}
use Rattle.slate_table.proofs.Asking.{asked_before, memory_exit, failed_asks}
use Rattle.slate_table.proofs.PartsLaws.{ended_of}
use Rattle.slate_table.proofs.table_parts.TableParts.end_block.Goals as goal

pub returns-in_err-stored : goal.returns-in_err-stored
returns-in_err-stored g c =
    record {
      ended = IfOk-from_err c.from_residual.result _ c.from_residual.ensures.0;
      asks = failed_asks c.in_err-stored.ensures.asks c.from_residual.ensures.1;
    }

pub returns-in_err-empty : goal.returns-in_err-empty
returns-in_err-empty g c =
    record {
      ended = IfOk-from_err c.from_residual-in_err-empty.result _ c.from_residual-in_err-empty.ensures.0;
      asks = asked_before c.in_ok-stored.ensures.asks (memory_exit c.from_residual-in_err-empty.result _ c.from_residual-in_err-empty.ensures.1 OutOfMemory c.in_err-empty.ensures.cause);
    }

pub returns-in_err-reserve_section : goal.returns-in_err-reserve_section
returns-in_err-reserve_section g c =
    record {
      ended = IfOk-from_err c.from_residual-in_err-reserve_section.result _ c.from_residual-in_err-reserve_section.ensures.0;
      asks = asked_before c.in_ok-stored.ensures.asks (memory_exit c.from_residual-in_err-reserve_section.result _ c.from_residual-in_err-reserve_section.ensures.1 OutOfMemory c.in_err-reserve_section.ensures.cause);
    }

pub stored_block-requires : goal.stored_block-requires
stored_block-requires g c = c.requires.row

pub returns : goal.returns
returns g c =
    record {
      ended = ended_of (changed_by g.T.BlockTransformer.encoded c.args.transformer.now) c.args.self.now c.reserve_section.new.self c.end_with.new.self c.as_slice-bytes.result.now c.in_ok-empty.empty
          c.in_ok-reserve_section.ensures.same c.end_with.ensures.ended c.end_with.ensures.rows (c.as_slice-bytes.ensures ∙ c.in_ok-stored.ensures.stored) c.in_ok-stored.ensures.fits;
      asks = asked_before c.in_ok-stored.ensures.asks tt;
    }
