use Rattle.std.proofs.Common.{◌≡◌, ℕ, Result, Ok, Err, sym, subst, ◌∙◌, ◌⊎◌, inr}
use Rattle.std.proofs.lemmas.Result.{IfOk-from_err, err_from_is_err_and}
use Rattle.std.specs.Prelude.{IfOk, IfErr}
use Rattle.slate_types.specs.declared.error.SlateDBError.{SlateDBError}
use Rattle.slate_types.specs.declared.error.SlateDBError.TheVariants.{OutOfMemory}
use Rattle.slate_types.specs.declared.types.RowEntry.{RowEntry}
use Rattle.slate_block.specs.PlacedRows.{row_in}
use Rattle.slate_block.proofs.PlacedLaws.{placed_found, placed_cause, placed_refused, row_placed, no_row_refused, place_within, whole_damage, placed}
use Rattle.slate_block.proofs.GroupSteps.{damage_moved}
use Rattle.slate_block.proofs.places.row_in.Goals as goal
use Rattle.slate_block.proofs.places.row_in.Goals.{in-Ok, in-Err}

here : (c : goal.After-drop) → row_in c.args.version c.args.body.now c.args.other.now c.args.from c.args.upto ≡ placed c.args.version c.args.other.now c.args.from c.in_ok-bytes.bytes
here c = row_placed c.args.version c.args.body.now c.args.other.now c.args.from c.args.upto c.in_ok-bytes.bytes c.in_ok-bytes.ensures.found

pub returns : goal.returns
returns c =
    let a = c.args in
    let bytes = c.in_ok-bytes.bytes in
    record {
      found = (elim c.match-fields_of.branch [
        | in-Ok w ↦
            let read = sym (rw c.as_slice.ensures at w.in-Ok.ensures.value) in
            rw w.row-is (subst (λ (p : Result (RowEntry × ℕ) SlateDBError). IfOk w.whole_row-row.result (λ found. p ≡ Ok found)) (sym (here c))
            (placed_found a.version a.other.now a.from bytes (w.in-Ok.shared, w.in-Ok.fields) w.whole_row-row.result read w.whole_row-row.ensures.found))
        | in-Err w ↦ rw w.row-is tt
      ]);
      cause = (elim c.match-fields_of.branch [
        | in-Ok w ↦
            let read = sym (rw c.as_slice.ensures at w.in-Ok.ensures.value) in
            rw w.row-is (subst (λ (p : Result (RowEntry × ℕ) SlateDBError). IfErr w.whole_row-row.result (λ e. (e ≡ OutOfMemory) ⊎ (p ≡ Err e))) (sym (here c))
            (placed_cause a.version a.other.now a.from bytes (w.in-Ok.shared, w.in-Ok.fields) w.whole_row-row.result OutOfMemory read w.whole_row-row.ensures.cause))
        | in-Err w ↦
            let read = sym (rw c.as_slice.ensures at w.in-Err.ensures.value) in
            rw (w.row-is, w.moved.ensures) (inr (here c ∙ placed_refused a.version a.other.now a.from bytes w.in-Err.error read))
      ]);
      damage = (elim c.match-fields_of.branch [
        | in-Ok w ↦ rw w.row-is (whole_damage _ w.whole_row-row.result c.args.from OutOfMemory w.whole_row-row.ensures.cause)
        | in-Err w ↦ rw (w.row-is, w.moved.ensures) (inr (damage_moved _ c.args.from w.in-Err.error w.in-Err.ensures.damage))
      ]);
    }

pub moved-requires : goal.moved-requires
moved-requires c = place_within c.args.from c.in_ok-bytes.bytes c.in-Err.error c.in_ok-bytes.ensures.within (rw c.as_slice.ensures at c.in-Err.ensures.damage)

pub returns-in_err-bytes : goal.returns-in_err-bytes
returns-in_err-bytes c =
    let p = err_from_is_err_and c.from_residual.result c.from_residual.ensures.1 in
    record {
      found = IfOk-from_err c.from_residual.result _ c.from_residual.ensures.0;
      cause = (let a = c.args in
          let p = err_from_is_err_and c.from_residual.result c.from_residual.ensures.1 in
          rw (p.1, p.2) (no_row_refused a.version a.body.now a.other.now a.from a.upto c.in_err-bytes.field-0.0 OutOfMemory c.in_err-bytes.ensures.cause));
      damage = rw (p.1, p.2) c.in_err-bytes.ensures.damage;
    }
