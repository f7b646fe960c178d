use Rattle.std.proofs.Common.{◌≡◌, ◌∙◌, ◌++◌, ◌∷◌, [], ◌<◌, List, ℕ, Bool, false, true, length, refl, cond, ◌==◌, sym, ap, inl, inr, arith, None, Some}
use Rattle.std.proofs.lemmas.Result.{IfOk-from_err}
use Rattle.slate_types.specs.declared.types.RowEntry.{RowEntry}
use Rattle.slate_types.specs.declared.error.SlateDBError.TheVariants.{OutOfMemory}
use Rattle.slate_block.specs.BlockSpelling.{block_bytes}
use Rattle.slate_table.specs.Parts.{summed, section}
use Rattle.slate_table.specs.SectionReading.{changed_by}
use Rattle.slate_table.specs.TableParts.{cover_behind, fits_parts, separator_behind, IsSame}
use Rattle.slate_table.proofs.Asking.{unasked as unasked_call, asked_before, memory_exit, memory_no_fault, failed_asks}
use Rattle.slate_table.proofs.PartsLaws.{begun_again, same_then, some_rows}
use Rattle.slate_table.proofs.Results.{on_err}
use Rattle.slate_table.proofs.table_parts.TableParts.write.Goals as goal

pub stored_block-requires : goal.stored_block-requires
stored_block-requires g c = let b = c.args.self.now.block.builder in some_rows b.size b.version b.rows c.args.entry.now (sym c.if-would_fit.ensures)

pub write_row-requires-clause-fits : goal.write_row-requires-clause-fits
write_row-requires-clause-fits g c = sym c.if-would_fit.ensures

pub returns-in_err-reserve : goal.returns-in_err-reserve
returns-in_err-reserve g c =
    let memory = memory_exit c.from_residual.result _ c.from_residual.ensures.1 OutOfMemory refl in
    record {
      written = IfOk-from_err c.from_residual.result _ c.from_residual.ensures.0;
      room = IfOk-from_err c.from_residual.result _ c.from_residual.ensures.0;
      same = on_err c.from_residual.result (record { size = refl; format = refl; id = refl; rows = c.in_err-reserve.ensures.items; block = refl; bytes = refl; offsets = refl; separators = refl; stats = refl; keys = refl; values = refl });
      size = IfOk-from_err c.from_residual.result _ c.from_residual.ensures.0;
      asks = unasked_call memory;
      unasked = λ _. refl;
      fault = λ is. absurd (memory_no_fault c.from_residual.result memory is);
    }

pub returns-in_err-write_row : goal.returns-in_err-write_row
returns-in_err-write_row g c =
    let memory = memory_exit c.from_residual-in_err-write_row.result _ c.from_residual-in_err-write_row.ensures.1 OutOfMemory c.in_err-write_row.ensures.cause in
    record {
      written = IfOk-from_err c.from_residual-in_err-write_row.result _ c.from_residual-in_err-write_row.ensures.0;
      room = IfOk-from_err c.from_residual-in_err-write_row.result _ c.from_residual-in_err-write_row.ensures.0;
      same = on_err c.from_residual-in_err-write_row.result (record { size = refl; format = refl; id = refl; rows = c.in_ok-reserve.ensures.items; block = c.in_err-write_row.ensures.same_block; bytes = refl; offsets = refl; separators = c.in_err-write_row.ensures.same_separators; stats = refl; keys = refl; values = refl });
      size = IfOk-from_err c.from_residual-in_err-write_row.result _ c.from_residual-in_err-write_row.ensures.0;
      asks = unasked_call memory;
      unasked = λ _. refl;
      fault = λ is. absurd (memory_no_fault c.from_residual-in_err-write_row.result memory is);
    }

pub returns-then-would_fit : goal.returns-then-would_fit
returns-then-would_fit g c =
    let p = c.args.self.now in
    let key = c.args.entry.now.key in
    let fit : fits_parts p c.args.entry.now ≡ true = sym c.if-would_fit.ensures in
    let rows : c.deref.result.now ≡ p.rows.items = c.deref.ensures.value ∙ c.in_ok-reserve.ensures.items in
    record {
      written = inl (
        fit,
        record {
          size = refl;
          format = refl;
          id = refl;
          rows = c.in_ok-reserve.ensures.items;
          separators = c.in_ok-write_row.ensures.begun ∙ (λ i. cond (length p.block.builder.rows == 0) (p.separators.items ++ separator_behind (rows i) key ∷ []) p.separators.items);
          keys = refl;
          values = refl;
          builder = c.in_ok-write_row.ensures.taken;
          counts = c.in_ok-write_row.ensures.counted;
          bytes = refl;
          offsets = refl;
          stats = refl;
        },
      );
      room = omega (arith, c.in_ok-reserve.ensures.ok);
      same = tt;
      size = sym (ap (λ (t : Bool). cond t None (Some (length (section (cover_behind p) (changed_by g.T.BlockTransformer.encoded c.args.transformer.now) (block_bytes p.block.builder.version p.block.builder.rows))))) fit);
      asks = unasked_call tt;
      unasked = λ _. refl;
      fault = λ failed. absurd (cc failed);
    }

pub returns-in_err-stored : goal.returns-in_err-stored
returns-in_err-stored g c =
    record {
      written = IfOk-from_err c.from_residual-in_err-stored.result _ c.from_residual-in_err-stored.ensures.0;
      room = IfOk-from_err c.from_residual-in_err-stored.result _ c.from_residual-in_err-stored.ensures.0;
      same = on_err c.from_residual-in_err-stored.result (record { size = refl; format = refl; id = refl; rows = c.in_ok-reserve.ensures.items; block = refl; bytes = refl; offsets = refl; separators = refl; stats = refl; keys = refl; values = refl });
      size = IfOk-from_err c.from_residual-in_err-stored.result _ c.from_residual-in_err-stored.ensures.0;
      asks = failed_asks c.in_err-stored.ensures.asks c.from_residual-in_err-stored.ensures.1;
      unasked = λ fit. absurd (cc (fit, c.if-would_fit.ensures));
      fault = λ _. sym c.if-would_fit.ensures;
    }

pub returns-in_err-size : goal.returns-in_err-size
returns-in_err-size g c =
    let before : IsSame c.args.self.now (record c.args.self.now { rows = c.reserve.new.self }) = (record { size = refl; format = refl; id = refl; rows = c.in_ok-reserve.ensures.items; block = refl; bytes = refl; offsets = refl; separators = refl; stats = refl; keys = refl; values = refl }) in
    let memory = memory_exit c.from_residual-in_err-size.result _ c.from_residual-in_err-size.ensures.1 OutOfMemory c.in_err-size.ensures.cause in
    record {
      written = IfOk-from_err c.from_residual-in_err-size.result _ c.from_residual-in_err-size.ensures.0;
      room = IfOk-from_err c.from_residual-in_err-size.result _ c.from_residual-in_err-size.ensures.0;
      same = on_err c.from_residual-in_err-size.result (same_then c.args.self.now (record c.args.self.now { rows = c.reserve.new.self }) c.begin.new.self before c.in_err-size.ensures.same);
      size = IfOk-from_err c.from_residual-in_err-size.result _ c.from_residual-in_err-size.ensures.0;
      asks = asked_before c.in_ok-stored.ensures.asks memory;
      unasked = λ fit. absurd (cc (fit, c.if-would_fit.ensures));
      fault = λ _. sym c.if-would_fit.ensures;
    }

pub returns : goal.returns
returns g c =
    let p = c.args.self.now in
    let encode = changed_by g.T.BlockTransformer.encoded c.args.transformer.now in
    let part : List ℕ = encode (block_bytes p.block.builder.version p.block.builder.rows) in
    let fit : fits_parts p c.args.entry.now ≡ false = sym c.if-would_fit.ensures in
    let stored : c.as_slice.result.now ≡ part = c.as_slice.ensures ∙ c.in_ok-stored.ensures.stored in
    let before : IsSame p (record p { rows = c.reserve.new.self }) = record { size = refl; format = refl; id = refl; rows = c.in_ok-reserve.ensures.items; block = refl; bytes = refl; offsets = refl; separators = refl; stats = refl; keys = refl; values = refl } in
    record {
      written = inr (fit, c.in_ok-stored.ensures.fits, begun_again p (record p { rows = c.reserve.new.self }) c.begin.new.self c.as_slice.result.now part c.args.entry.now before c.in_ok-size.ensures.begun stored);
      room = rw c.in_ok-size.ensures.rows (omega (arith, c.in_ok-reserve.ensures.ok));
      same = tt;
      size = ap Some (c.in_ok-size.ensures.size ∙ ap (λ (l : List ℕ). length (summed (cover_behind p) l)) stored) ∙ sym (ap (λ (t : Bool). cond t None (Some (length (summed (cover_behind p) part)))) fit);
      asks = asked_before c.in_ok-stored.ensures.asks tt;
      unasked = λ fits. absurd (cc (fits, fit));
      fault = λ failed. absurd (cc failed);
    }
