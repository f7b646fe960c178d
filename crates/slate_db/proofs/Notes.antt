-- A step is noted in a transcript.
use Rattle.std.proofs.Common.{◌≡◌, ℕ, List, [], ◌∷◌, ◌++◌, map, Option, Some, refl, sym, ap, ◌∙◌}
use Rattle.std.specs.Prelude.{option_map, option_and_then}
use Rattle.slate_types.specs.declared.types.RowEntry.{RowEntry}
use Rattle.slate_types.specs.Rows.{key_value, hide_tombstone}
use Rattle.slate_types.specs.Fold.{fold_rows}
use Rattle.slate_mem.specs.Batch.{kept}
use Rattle.slate_mem.specs.RowOf.{own_row}
use Rattle.slate_txn.specs.declared.event.TranscriptStep.TheVariants as steps
use Rattle.slate_txn.specs.declared.line.Line.TheVariants as lines
use Rattle.slate_txn.specs.State.{Rules, State, combine_at}
use Rattle.slate_txn.specs.Reads.{up_to, key_rows}
use Rattle.slate_txn.specs.Reply.{Found}
use Rattle.slate_txn.specs.Step.{Reader, step, noted, get, get_found, reader}

pub step_get : (r : Rules) (s : State) (id k : List ℕ) (from : Reader) (row : Option RowEntry) → reader s id ≡ Some from →
    row ≡ fold_rows (combine_at r k) (key_rows r k (up_to from.at s.commits) ++ map (own_row k) (kept from.ops k)) →
    step r s (lines.Get id k) ≡ (noted s id (steps.Get k (option_map key_value (option_and_then (λ r. hide_tombstone r.value r) row)) ∷ []), Found (option_map key_value (option_and_then (λ r. hide_tombstone r.value r) row)))
step_get r s id k from row found is =
    ap (get r s id k) found
    ∙ ap (λ o. get_found s id k (option_and_then (λ r. hide_tombstone r.value r) o)) (sym is)
