use Rattle.std.proofs.Common.{◌≡◌, ◌∙◌, ◌<◌, ◌⊎◌, [], List, length, Err, arith, ap, inl, inr}
use Rattle.std.proofs.lemmas.Result.{IfOk-weaker, IfOk-from_err}
use Rattle.slate_types.specs.declared.types.RowEntry.{RowEntry}
use Rattle.slate_types.specs.declared.error.SlateDBError.{SlateDBError}
use Rattle.slate_types.specs.declared.error.SlateDBError.TheVariants.{EmptyBlock, OutOfMemory}
use Rattle.slate_table.specs.SectionReading.{changed_by}
use Rattle.slate_table.proofs.Asking.{unasked, memory_exit, asks_of}
use Rattle.slate_table.proofs.Results.{on_ok}
use Rattle.slate_table.proofs.table_parts.TableParts.stored_block.Goals as goal

not_empty : (rows : List RowEntry) (e : SlateDBError) → 0 < length rows → (e ≡ EmptyBlock → rows ≡ []) → (e ≡ EmptyBlock) ⊎ (e ≡ OutOfMemory) → e ≡ OutOfMemory
not_empty rows e some none (inl empty) = absurd omega (arith, some, ap length (none empty))
not_empty rows e some none (inr memory) = memory

pub returns-in_err-part : goal.returns-in_err-part
returns-in_err-part g c =
    record {
      stored = IfOk-from_err c.from_residual.result _ c.from_residual.ensures.0;
      fits = IfOk-from_err c.from_residual.result _ c.from_residual.ensures.0;
      asks = (let memory = not_empty c.args.self.now.block.builder.rows c.in_err-part.field-0.0 c.requires
          (λ is. c.in_err-part.ensures.empty.0 (ap (λ (e : SlateDBError). Err e) is)) c.in_err-part.ensures.cause in
          unasked (memory_exit c.from_residual.result _ c.from_residual.ensures.1 OutOfMemory memory));
    }

pub returns : goal.returns
returns g c =
    record {
      stored = IfOk-weaker c.encoded.result _ _ (λ stored h. h ∙ ap (changed_by g.T.BlockTransformer.encoded c.args.transformer.now) c.in_ok-part.ensures.bytes) c.encoded.ensures.bytes;
      fits = on_ok c.encoded.result c.in_ok-part.ensures.fits;
      asks = (let call = c.encoded.ensures in asks_of call.same_encoded call.same_decoded call.later call.still call.cause);
    }
