-- What a pass reads behind its own flush.
--     IsAllOwn p journal      the journal begins with what the pass has seen, and all its commits, writes and installs are the pass's own
--     put_commit k v      the first commit, of this put alone, at moment 0
--     TakesFirstPut k v before after      a store took the tables of a flush, beside the default options and no parts, whose rows are those of that commit, and nothing else
--     IsReadBy k old new before after a      what a transaction without operations gave at a key, beside the default options and no parts: it began at the newest sequence of a journal, and read one that begins with that
use Rattle.std.specs.Prelude.{◌≡◌, ℕ, List, [], ◌∷◌, None, Option, option_map, pos}
use mathlib.Core.List.{IsPrefix}
use Rattle.slate_types.specs.Config.{defaults}
use Rattle.slate_types.specs.declared.config.IsolationLevel.TheVariants.{Snapshot}
use Rattle.slate_types.specs.declared.types.KeyValue.{KeyValue}
use Rattle.slate_types.specs.declared.types.Ulid.{Ulid}
use Rattle.slate_types.specs.Outside.{Objects, Reach, no_parts}
use Rattle.slate_types.specs.Rows.{key_value}
use Rattle.slate_mem.specs.Batch.{batch_keys, kept_ops}
use Rattle.slate_mem.specs.BatchModel.{plain_put}
use Rattle.slate_txn.specs.declared.event.Event.{Event}
use Rattle.slate_txn.specs.Reads.{key_rows}
use Rattle.slate_txn.specs.Replay.{replay}
use Rattle.slate_txn.specs.Settings.{settings_of}
use Rattle.slate_txn.specs.State.{Commit, begun, last_of}
use Rattle.slate_db.specs.Flushed.{AreTablesOfFlush, TakesTables, layout_of}
use Rattle.slate_db.specs.Meaning.{rules_of}
use Rattle.slate_db.specs.Model.{Rows, versions_in}
use Rattle.slate_shared.specs.KeyReads.{IsAnsweredBy, seen_by}
use Rattle.slate_shared.specs.Passes.{PassModel}
use Rattle.slate_shared.specs.Shared.{OwnsAll}

pub record IsAllOwn (p : PassModel) (journal : List Event) : Type 0 where
  pub begins : IsPrefix p.seen journal
  pub owns : OwnsAll p.own journal

abbrev pub put_commit : List ℕ → List ℕ → Commit
put_commit k v = record { seq = 1; now = pos 0; ops = kept_ops ((k, plain_put v) ∷ []); tracked = batch_keys (kept_ops ((k, plain_put v) ∷ [])) }

pub record TakesFirstPut (k v : List ℕ) (before after : Option Objects) : Type 0 where
  pub layers : List Rows
  pub rows : (j : List ℕ) → versions_in j layers ≡ key_rows (rules_of (settings_of defaults) no_parts) j (put_commit k v ∷ [])
  pub number : ℕ
  pub barrier : ℕ
  pub tables : List (Ulid × List ℕ)
  pub made : AreTablesOfFlush no_parts (layout_of defaults [] None) number barrier layers tables
  pub taken : TakesTables tables before after

pub record IsReadBy (k : List ℕ) (old new : PassModel) (before after : Reach) (a : Option KeyValue) : Type 0 where
  pub from : List Event
  pub seen : List Event
  pub known : IsPrefix old.seen from
  pub begins : IsPrefix from seen
  pub ends : IsPrefix seen new.seen
  pub answer : IsAnsweredBy [] no_parts seen [] before after → a ≡ option_map key_value (seen_by defaults no_parts seen (begun Snapshot (last_of defaults.start_seq (replay from).commits)) k)
