-- A state that is moved.
use Rattle.std.proofs.Common.{◌≡◌, ℕ, ◌+◌, Bool, true, false, cond, List, [], ◌∷◌, reverse, flat_map, Option, Some, None, option_to_list, option_map, bytes_eq, refl, sym, ap, subst, ◌∙◌}
use Rattle.std.specs.List.{AllByRecursion}
use Rattle.slate_types.specs.declared.types.KeyValue.{KeyValue}
use Rattle.slate_types.specs.declared.types.RowEntry.{RowEntry}
use Rattle.slate_types.specs.Rows.{of_key}
use Rattle.slate_types.proofs.Lists.{AllByRecursion_weaken}
use Rattle.slate_store.specs.Lines.{lines_of}
use Rattle.slate_table.specs.Stored.{stored}
use Rattle.slate_txn.specs.declared.line.Line.{Line}
use Rattle.slate_txn.specs.Reads.{state_at}
use Rattle.slate_txn.specs.Reply.{Reply}
use Rattle.slate_txn.specs.State.{Rules, State, combine_at, last, opening}
use Rattle.slate_txn.specs.Step.{after, answers}
use Rattle.slate_language.specs.Replies.{reply_line}
use Rattle.slate_tables.specs.Exported.{row_with_key}
use Rattle.slate_tables.specs.Loading.{CanLoad, loaded_row, reloaded}
use Rattle.slate_tables.specs.LoadText.{CanSpell}
use Rattle.slate_tables.specs.Moved.{CanMove, ScriptLoadsState, as_moved, as_unnumbered}
use Rattle.slate_tables.proofs.Loading.{loads_rows}
use Rattle.slate_tables.proofs.LoadText.{script_spells}

moved_row : (n : ℕ) (rows : List RowEntry) (k : List ℕ) → option_map as_unnumbered (loaded_row n rows k) ≡ option_map as_moved (row_with_key rows k)
moved_row n [] k = refl
moved_row n (r ∷ rows) k = by (bytes_eq r.key k) (moved_row (n + 1) rows k)
  where
    by : (b : Bool) → option_map as_unnumbered (loaded_row (n + 1) rows k) ≡ option_map as_moved (row_with_key rows k) → option_map as_unnumbered (cond b (Some (reloaded (n + 1) r)) (loaded_row (n + 1) rows k)) ≡ option_map as_moved (cond b (Some r) (row_with_key rows k))
    by true later = refl
    by false later = later

pub script_loads_state : ScriptLoadsState
script_loads_state r rows out is pass can room =
    let spelled : AllByRecursion CanSpell out = AllByRecursion_weaken (CanMove r) CanSpell (λ row h. h.1) out can in
    let loads : AllByRecursion (CanLoad r.combine) out = AllByRecursion_weaken (CanMove r) (CanLoad r.combine) (λ row h. h.0) out can in
    let loaded = loads_rows r out pass is.rise loads room in
    let meant = script_spells out spelled in
    record {
      replied = ap (λ (ls : List Line). flat_map reply_line (answers r opening ls)) meant ∙ ap (flat_map reply_line) loaded.0;
      state = λ k.
          ap (λ (ls : List Line). option_map as_unnumbered (state_at r (after r opening ls).commits (last r (after r opening ls)) k)) meant
          ∙ ap (option_map as_unnumbered) (loaded.1 k)
          ∙ moved_row r.start_seq out k
          ∙ ap (option_map as_moved) (is.each k);
    }
