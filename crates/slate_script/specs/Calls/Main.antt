-- What a program ensures of the status n that it ends with. old, new: its streams; before, after: its store.
-- given: the policies that are handed in; policies: those of them that are used.
--     HonestScript, EndsScript      a run over a script that is read, of these settings: by lawful policies over a store that was empty, and over any
--     HonestSum, EndsGenerated      the same of one over a script that it makes for itself
--     ReadsScript old new n      what was read, and the errors that reading has
--     IsCaused old new before after n      a fault of the sink or the store, with its cause; none is passed over
--     Ends ws handed given old new before after n      all of these, by the words ws; handed: the names of the policies
use Rattle.std.specs.Prelude.{◌≡◌, ◌≢◌, ◌⊎◌, ◌≤◌, ℕ, List, [], drop, Some, None}
use Rattle.slate_types.specs.declared.error.SlateDBError.TheVariants as errors
use Rattle.slate_types.specs.Faults.{Rose}
use Rattle.slate_types.specs.Outside.{Act}
use Rattle.slate_store.specs.Lines.{lines_of, script_limit}
use Rattle.slate_store.specs.Store.{IsEmpty}
use Rattle.slate_filter.specs.Laws.{AreValidNames}
use Rattle.slate_filter.specs.Policy.{Policy}
use Rattle.slate_table.specs.Filtered.{AreLawful}
use Rattle.slate_txn.specs.State.{opening}
use Rattle.slate_db.specs.Checked.{SlipsFrom}
use Rattle.slate_db.specs.Flushed.{layout_of}
use Rattle.slate_language.specs.declared.words.Generated.{Generated}
use Rattle.slate_language.specs.declared.words.Settings.{Settings}
use Rattle.slate_language.specs.Generate.{generate, summary}
use Rattle.slate_language.specs.Replies.{after_lines, IsWellFormed}
use Rattle.slate_language.specs.Words.{read_generated, read_words, used}
use Rattle.slate_script.specs.LineReads.{HasReadByLine}
use Rattle.slate_script.specs.Program.{main_rules, parts_of, segments_of, HasSummed, HasWritten, IsDamageStatus, IsGeneratedStatus, IsShownStatus, IsStatus}
use Rattle.slate_script.specs.Run.{script_error}
use Rattle.slate_script.specs.StoredState.{IsStoredState}
use Rattle.slate_script.specs.Terms.{Storage, Streams, terms_of}

-- ---- a script that is read

-- said: by the status; stored: to the end of a script of lines; reads: where the store tells its acts; complete: where no count of faults rose
pub record HonestScript (s : Settings) (policies : List Policy) (script : List ℕ) (old new : Streams) (before after : Storage) (n : ℕ) : Type 0 where
  pub said : (front : List ℕ) → old.taken ≡ Some front → HasWritten (main_rules s) script new.left front new.taken n
  pub stored : n ≡ 0 → IsStoredState (parts_of s) (main_rules s) (layout_of s.options policies (segments_of s)) after.objects (after_lines (main_rules s) opening (lines_of script))
  pub reads : n ≡ 0 → HasReadByLine (terms_of s.options (segments_of s) policies (parts_of s)) (lines_of script) before.acts after.acts after.objects
  pub complete : IsWellFormed script → (Rose old.source new.source → ⊥) → (Rose old.sink new.sink → ⊥) → (Rose before.faults after.faults → ⊥) → (n ≡ 0) ⊎ (n ≡ 20)

-- checked: over a store that tells its acts, or a section slipped
pub record EndsScript (s : Settings) (given policies : List Policy) (old new : Streams) (before after : Storage) (n : ℕ) : Type 0 where
  pub known : n ≢ 2
  pub honest : (script : List ℕ) → old.left ≡ Some script → AreLawful given → IsEmpty before.objects → HonestScript s policies script old new before after n
  pub checked : (script front : List ℕ) → old.left ≡ Some script → old.taken ≡ Some front → AreLawful given → (known : List Act) → before.acts ≡ Some known →
      HasWritten (main_rules s) script new.left front new.taken n ⊎ SlipsFrom (parts_of s).encode [] before.acts after.acts
  pub shown : IsDamageStatus n → IsShownStatus policies (parts_of s) before.acts after.acts n

-- ---- a script that the run makes for itself: its summary is written, and no reply

pub record HonestSum (g : Generated) (policies : List Policy) (old new : Streams) (before after : Storage) (n : ℕ) : Type 0 where
  pub said : (front : List ℕ) → old.taken ≡ Some front → HasSummed (summary (main_rules g.settings) (generate g.rounds g.seed)) front new.taken n
  pub stored : n ≡ 0 → IsStoredState (parts_of g.settings) (main_rules g.settings) (layout_of g.settings.options policies (segments_of g.settings)) after.objects
      (after_lines (main_rules g.settings) opening (lines_of (generate g.rounds g.seed)))
  pub reads : n ≡ 0 → HasReadByLine (terms_of g.settings.options (segments_of g.settings) policies (parts_of g.settings)) (lines_of (generate g.rounds g.seed)) before.acts after.acts after.objects
  pub complete : (Rose old.sink new.sink → ⊥) → (Rose before.faults after.faults → ⊥) → (n ≡ 0) ⊎ (n ≡ 20)

pub record EndsGenerated (g : Generated) (given policies : List Policy) (old new : Streams) (before after : Storage) (n : ℕ) : Type 0 where
  pub kinds : IsGeneratedStatus n
  pub honest : AreLawful given → IsEmpty before.objects → HonestSum g policies old new before after n
  pub checked : (front : List ℕ) → old.taken ≡ Some front → AreLawful given → (known : List Act) → before.acts ≡ Some known →
      HasSummed (summary (main_rules g.settings) (generate g.rounds g.seed)) front new.taken n ⊎ SlipsFrom (parts_of g.settings).encode [] before.acts after.acts
  pub shown : IsDamageStatus n → IsShownStatus policies (parts_of g.settings) before.acts after.acts n
  pub unwritten : (n ≡ 0) ⊎ (n ≡ 6) ⊎ (new.taken ≡ old.taken)

-- ---- over any parts and any store

-- all, taken: all that a run can take of a script that is too long, and never more
pub record ReadsScript (old new : Streams) (n : ℕ) : Type 0 where
  pub syntax : (script : List ℕ) → old.left ≡ Some script → n ≡ 3 → (k : ℕ) × (script_error script ≡ Some (errors.ScriptSyntax k))
  pub too_long : (script : List ℕ) → old.left ≡ Some script → n ≡ 4 → script_error script ≡ Some errors.ScriptTooLong
  pub read_fault : n ≡ 5 → Rose old.source new.source
  pub source_still : (n ≡ 5) ⊎ (new.source ≡ old.source)
  pub all : (script : List ℕ) → old.left ≡ Some script → n ≡ 4 → new.left ≡ Some (drop script_limit script)
  pub taken : (script : List ℕ) → old.left ≡ Some script → (k : ℕ) × (k ≤ script_limit) × (new.left ≡ Some (drop k script))
  pub later : old.source ≤ new.source

pub record IsCaused (old new : Streams) (before after : Storage) (n : ℕ) : Type 0 where
  pub write_fault : n ≡ 6 → Rose old.sink new.sink
  pub store_fault : n ≡ 7 → Rose before.faults after.faults
  pub sink_still : (n ≡ 6) ⊎ (new.sink ≡ old.sink)
  pub store_still : (n ≡ 7) ⊎ (after.faults ≡ before.faults)
  pub later : old.sink ≤ new.sink
  pub store_later : before.faults ≤ after.faults

-- unfit, unknown: 2 where the names won't do or the words are none, and `known` of a script says where else it isn't
pub record Ends (ws handed : List (List ℕ)) (given : List Policy) (old new : Streams) (before after : Storage) (n : ℕ) : Type 0 where
  pub statuses : IsStatus n
  pub unfit : (AreValidNames handed → ⊥) → n ≡ 2
  pub unknown : read_words handed ws ≡ None → read_generated handed ws ≡ None → n ≡ 2
  pub script : (s : Settings) → AreValidNames handed → read_words handed ws ≡ Some s → EndsScript s given (used ws given) old new before after n
  pub generated : (g : Generated) → AreValidNames handed → read_generated handed ws ≡ Some g → EndsGenerated g given (used ws given) old new before after n
  pub ended : (script : List ℕ) → read_generated handed ws ≡ None → old.left ≡ Some script → n ≡ 0 → IsWellFormed script × (new.left ≡ Some []) × (script_error script ≡ None)
  pub read : ReadsScript old new n
  pub caused : IsCaused old new before after n
