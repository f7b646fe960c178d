-- The tables that a run left, listed and opened.
use Rattle.std.proofs.Common.{◌≡◌, ℕ, List, [], ◌∷◌, map, flat_map, Option, Some, option_map, refl, sym, ap, subst, ◌∙◌}
use Rattle.std.specs.Prelude.{Result, Ok, Err, IfOk}
use Rattle.std.specs.List.{AllByRecursion}
use Rattle.slate_types.specs.declared.types.RowEntry.{RowEntry}
use Rattle.slate_types.specs.declared.types.Ulid.{Ulid}
use Rattle.slate_types.specs.Fold.{Combine, operator_at}
use Rattle.slate_types.specs.Outside.{Objects}
use Rattle.slate_types.proofs.Lists.{AllByRecursion_weaken}
use Rattle.slate_block.specs.BlockSpelling.{as_read}
use Rattle.slate_merge.specs.Merge.{all_rows}
use Rattle.slate_table.specs.declared.info.SsTableHandle.{SsTableHandle}
use Rattle.slate_table.specs.Paths.{table_id}
use Rattle.slate_table.specs.Stored.{stored}
use Rattle.slate_table.proofs.CutLaws.{built_has}
use Rattle.slate_txn.specs.Reads.{state_at}
use Rattle.slate_txn.specs.State.{Rules, State}
use Rattle.slate_tables.specs.declared.export.Written.{Written}
use Rattle.slate_tables.specs.Listed.{StandsAtItsPath}
use Rattle.slate_tables.specs.Merging.{MatchEach}
use Rattle.slate_tables.specs.Moved.{as_moved}
use Rattle.slate_tables.specs.Opened.{AreHeldTables, WasOpened}
use Rattle.slate_tables.specs.States.{WritesScript, WritesState}
use Rattle.slate_tables.proofs.ListedTables.{listed_tables_are_here}
use Rattle.slate_tables.proofs.Worlds.{tables_are_held}
use Rattle.slate_db.specs.Flushed.{Layout}
use Rattle.slate_db.specs.Meaning.{Meaning, combine_of}
use Rattle.slate_script.specs.StoredState.{IsTableObject}
use Rattle.slate_export.specs.Flushed.{LeftTables, MovesFlushed, WritesFlushed}

pub ok_weaker : {A E : Type 0} (r : Result A E) (P Q : A → Type 0) → ((x : A) → P x → Q x) → IfOk r P → IfOk r Q
ok_weaker (Ok x) P Q f h = f x h
ok_weaker (Err e) P Q f h = tt

at_its_path : (m : Meaning) (layout : Layout) (o : List ℕ × List ℕ) → IsTableObject m layout o → StandsAtItsPath m.encode o
at_its_path m layout o t = record {
  id = table_id t.number t.place;
  version = layout.version;
  rows = map (as_read layout.version) t.rows;
  path = t.path;
  table = built_has m.encode layout.policies layout.min_filter_keys layout.block_size layout.version (table_id t.number t.place) o.1 t.rows t.built;
}

pub record Left (m : Meaning) (r : Rules) (objects : Option Objects) (s : State) (handles : List SsTableHandle) : Type 0 where
  pub os : Objects
  pub told : objects ≡ Some os
  pub tables : List (List RowEntry)
  pub held : AreHeldTables m os handles tables
  pub folds : (k : List ℕ) → stored (combine_of m k) (all_rows tables) k ≡ state_at r s.commits s.flushed k

pub left : (m : Meaning) (r : Rules) (layout : Layout) (objects : Option Objects) (s : State) (ids : List Ulid) (handles : List SsTableHandle) → LeftTables m r layout objects s ids handles → Left m r objects s handles
left m r layout objects s ids handles l =
    let os = l.stored.os in
    let each = AllByRecursion_weaken (IsTableObject m layout) (StandsAtItsPath m.encode) (at_its_path m layout) os l.stored.each in
    let here = listed_tables_are_here m os ids l.stored.rows l.lawful each l.bytes l.listed l.stored.held in
    record {
      os = os;
      told = l.stored.told;
      tables = here.0;
      held = (l.lawful, tables_are_held m.encode os ids handles here.0 here.1 (subst (λ (o : Option Objects). MatchEach (WasOpened o) ids handles) l.stored.told l.opened));
      folds = λ k. ap (λ (rows : List RowEntry). stored (combine_of m k) rows k) here.2 ∙ l.stored.folds k;
    }

pub state_flushed : (m : Meaning) (r : Rules) (s : State) (rows : List RowEntry) (before : List ℕ) (after : Option (List ℕ)) (t : Written) → ((k : List ℕ) → stored (combine_of m k) rows k ≡ state_at r s.commits s.flushed k) → WritesState m rows before after t → WritesFlushed r s before after
state_flushed m r s rows before after t folds w = record { out = w.out; rise = w.state.rise; each = λ k. w.state.each k ∙ folds k; text = w.text }

pub script_flushed : (m : Meaning) (r : Rules) (s : State) (rows : List RowEntry) (before : List ℕ) (after : Option (List ℕ)) (t : Written) → ((k : List ℕ) → stored (combine_of m k) rows k ≡ state_at r s.commits s.flushed k) → WritesScript m rows before after t → MovesFlushed m r s before after
script_flushed m r s rows before after t folds w = record {
  out = w.out;
  text = w.text;
  moves = λ n same pass room. let moved = w.moves n same pass room in record {
    replied = moved.replied;
    state = λ k. moved.state k ∙ ap (option_map as_moved) (ap (λ (c : Option (List ℕ → Combine)). stored (operator_at c k) rows k) same ∙ folds k);
  };
}
