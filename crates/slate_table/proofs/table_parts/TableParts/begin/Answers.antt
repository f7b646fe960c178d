use Rattle.std.proofs.Common.{◌≡◌, ◌∙◌, ◌++◌, ◌∷◌, [], List, length, refl, ap, cond, ◌==◌}
use Rattle.std.proofs.lemmas.Result.{IfOk-from_err}
use Rattle.slate_types.specs.declared.types.RowEntry.{RowEntry}
use Rattle.slate_types.specs.declared.error.SlateDBError.TheVariants.{OutOfMemory}
use Rattle.slate_block.specs.Building.{Building, with_row}
use Rattle.slate_block.specs.Fitting.{fits_in}
use Rattle.slate_table.specs.Parts.{summed}
use Rattle.slate_table.specs.TableParts.{separator_behind}
use Rattle.slate_table.proofs.Asking.{memory_exit}
use Rattle.slate_table.proofs.PartsLaws.{same_again, same_cover}
use Rattle.slate_table.proofs.Results.{on_err}
use Rattle.slate_table.proofs.table_parts.TableParts.begin.Goals as goal

pub write_row-requires-clause-fits : goal.write_row-requires-clause-fits
write_row-requires-clause-fits c = ap (λ (b : Building). fits_in b.size b.version b.rows c.args.entry.now) c.in_ok-next.ensures.builder

pub returns-in_err-next : goal.returns-in_err-next
returns-in_err-next c =
    record {
      begun = IfOk-from_err c.from_residual.result _ c.from_residual.ensures.0;
      rows = refl;
      same = on_err c.from_residual.result (same_again c.args.self.now);
      size = IfOk-from_err c.from_residual.result _ c.from_residual.ensures.0;
      cause = memory_exit c.from_residual.result _ c.from_residual.ensures.1 OutOfMemory c.in_err-next.ensures.cause;
    }

pub returns-in_err-reserve_section : goal.returns-in_err-reserve_section
returns-in_err-reserve_section c =
    record {
      begun = IfOk-from_err c.from_residual-in_err-reserve_section.result _ c.from_residual-in_err-reserve_section.ensures.0;
      rows = c.in_err-reserve_section.ensures.rows;
      same = on_err c.from_residual-in_err-reserve_section.result c.in_err-reserve_section.ensures.same;
      size = IfOk-from_err c.from_residual-in_err-reserve_section.result _ c.from_residual-in_err-reserve_section.ensures.0;
      cause = memory_exit c.from_residual-in_err-reserve_section.result _ c.from_residual-in_err-reserve_section.ensures.1 OutOfMemory c.in_err-reserve_section.ensures.cause;
    }

pub returns-in_err-write_row : goal.returns-in_err-write_row
returns-in_err-write_row c =
    let e = c.in_ok-reserve_section.ensures.same in
    record {
      begun = IfOk-from_err c.from_residual-in_err-write_row.result _ c.from_residual-in_err-write_row.ensures.0;
      rows = c.in_ok-reserve_section.ensures.rows;
      same = on_err c.from_residual-in_err-write_row.result (record {
        size = e.size;
        format = e.format;
        id = e.id;
        rows = e.rows;
        block = e.block;
        bytes = e.bytes;
        offsets = e.offsets;
        separators = c.in_err-write_row.ensures.same_separators ∙ e.separators;
        stats = e.stats;
        keys = e.keys;
        values = e.values;
      });
      size = IfOk-from_err c.from_residual-in_err-write_row.result _ c.from_residual-in_err-write_row.ensures.0;
      cause = memory_exit c.from_residual-in_err-write_row.result _ c.from_residual-in_err-write_row.ensures.1 OutOfMemory c.in_err-write_row.ensures.cause;
    }

pub returns : goal.returns
returns c =
    let e = c.in_ok-reserve_section.ensures.same in
    let b = c.end_with.ensures.ended in
    let key = c.args.entry.now.key in
    let m = c.reserve_section.new.self in
    let cover = same_cover c.args.self.now m e in
    let rows : c.deref.result.now ≡ c.args.self.now.rows.items = c.deref.ensures.value ∙ e.rows in
    record {
      begun = record {
        size = b.size ∙ e.size;
        format = b.format ∙ e.format;
        id = b.id ∙ e.id;
        rows = (λ i. (c.end_with.ensures.rows i).items) ∙ e.rows;
        separators = b.separators ∙ c.in_ok-write_row.ensures.begun
            ∙ (λ i. cond (length (c.in_ok-next.ensures.builder i).rows == 0) (m.separators.items ++ separator_behind c.deref.result.now key ∷ []) m.separators.items)
            ∙ (λ i. e.separators i ++ separator_behind (rows i) key ∷ []);
        keys = b.keys ∙ e.keys;
        values = b.values ∙ e.values;
        builder = (λ i. (b.block i).builder) ∙ c.in_ok-write_row.ensures.taken ∙ (λ i. with_row (c.in_ok-next.ensures.builder i) c.args.entry.now);
        counts = (λ i. (b.block i).stats) ∙ c.in_ok-write_row.ensures.counted [] c.in_ok-next.ensures.counts;
        bytes = b.bytes ∙ (λ i. e.bytes i ++ summed (cover i) c.args.stored.now);
        offsets = b.offsets ∙ (λ i. e.offsets i ++ length (e.bytes i) ∷ []);
        stats = b.stats ∙ (λ i. e.stats i ++ (e.block i).stats ∷ []);
      };
      rows = c.end_with.ensures.rows ∙ c.in_ok-reserve_section.ensures.rows;
      same = tt;
      size = c.end_with.ensures.size ∙ (λ i. length (summed (cover i) c.args.stored.now));
      cause = tt;
    }
