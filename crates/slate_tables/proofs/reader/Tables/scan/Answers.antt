use Rattle.std.proofs.Common.{◌≡◌, ◌++◌, ℕ, List, Option, None, inl, inr, subst, sym}
use Rattle.std.specs.Prelude.{Result, Ok, Err, IfOk, OnOk}
use Rattle.slate_types.specs.declared.error.SlateDBError.{SlateDBError}
use Rattle.slate_types.specs.declared.types.RowEntry.{RowEntry}
use Rattle.slate_types.specs.Fold.{operator_at}
use Rattle.slate_types.specs.Outside.{Act}
use Rattle.slate_merge.specs.Merge.{all_rows}
use Rattle.slate_tables.specs.Exported.{IsExport}
use Rattle.slate_tables.specs.Merging.{Export, export_rows, export_sound}
use Rattle.slate_tables.proofs.NewExports.{new_export}
use Rattle.slate_tables.proofs.Undamaged.{ok_weaker}
use Rattle.slate_tables.proofs.reader.Tables.scan.Goals as goal

pub returns-clause-rows : goal.returns-clause-rows
returns-clause-rows g c = λ w tables are sees.
    let new = new_export w c.args.range.now c.args.order c.args.self.now.handles.items tables c.in_ok-sources.sources.items c.merged-rows.result (rw c.as_slice.ensures.value at c.in_ok-sources.ensures.each) c.merged-rows.ensures.export are in
    ok_weaker c.begin.result _ (λ (it : Export). export_sound it w × IsExport (operator_at w.meaning.combine) c.args.order c.args.range.now (all_rows tables) (export_rows it w))
    (λ it h. (h.0, subst (IsExport (operator_at w.meaning.combine) c.args.order c.args.range.now (all_rows tables)) (sym h.1) new.1))
    (c.begin.ensures.rows w sees new.0)

pub returns-clause-checked : goal.returns-clause-checked
returns-clause-checked g c = λ w tables are.
    c.begin.ensures.checked w (new_export w c.args.range.now c.args.order c.args.self.now.handles.items tables c.in_ok-sources.sources.items c.merged-rows.result (rw c.as_slice.ensures.value at c.in_ok-sources.ensures.each) c.merged-rows.ensures.export are).0

pub returns-clause-undamaged : goal.returns-clause-undamaged
returns-clause-undamaged g c = λ w tables are sees.
    c.begin.ensures.undamaged w sees (new_export w c.args.range.now c.args.order c.args.self.now.handles.items tables c.in_ok-sources.sources.items c.merged-rows.result (rw c.as_slice.ensures.value at c.in_ok-sources.ensures.each) c.merged-rows.ensures.export are).0

pub returns-clause-later : goal.returns-clause-later
returns-clause-later g c =
    ok_weaker c.begin.result _ _
    (λ it h. (h.0, h.1, λ more at e refused. record { sources = c.in_ok-sources.sources.items; of = (rw c.as_slice.ensures.value at c.in_ok-sources.ensures.each); it = c.merged-rows.result; new = c.merged-rows.ensures.export; refused = h.2 more at e refused }))
    c.begin.ensures.later
