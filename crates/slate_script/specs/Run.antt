-- What a run makes of a script.
--     run_rules o m seg      what the model knows of the options, of the parts and of the segments
--     Premises policies m objects      the policies of filters and the parts are lawful, and the store is honest and was empty
--     is_line l, first_other ls      a line that is silent or means something; the number, from 1, of the first that is neither
--     lines_taken script      the lines that a run can take: of a script that is too long, the whole lines within the limit
--     script_error script      the error that the script itself ends a run with
--     IsPartError e      the error comes from a part, or a table isn't what was stored
--     IsOutside e, IsScriptError e      the error comes from a source, a sink, a part or memory, or from the script
--     IsPartCause before after e      a part's error has its cause
--     AnswersLine r line old new sink after first tally result      a line was answered as the model answers it: what the session is then, what the sink took, and the counts
--     HasAnswered r script said      what was written is the replies to the first lines
--     HasBegun r script said      the same, and a front of one reply more
--     HasSaid r script left before after result      what the sink took in a run, by what ended it
--     HasRead script left result      what the source gave in a run, and which errors the script has
--     HasTold line before after result      what the sink took in a run that writes one line
--     HasCause source sink before after result      an error of a run with its cause; source, sink: their counts of faults rose
--     NoneRose source sink before after      no count of faults rose
use Rattle.std.specs.Prelude.{◌≡◌, ◌≢◌, ◌≤◌, ◌<◌, ℕ, suc, ◌-◌, ◌⊎◌, Bool, ◌||◌, if◌then◌else◌, nat_lt, List, [], ◌∷◌, ◌++◌, length, take, drop, Option, Some, None, is_some, option_map, Result, Err, OnOk, IfErr, IsTrue}
use Rattle.std.specs.List.{AllByRecursion}
use Rattle.slate_types.specs.declared.config.Options.{Options}
use Rattle.slate_types.specs.declared.error.SlateDBError.{SlateDBError}
use Rattle.slate_types.specs.declared.error.SlateDBError.TheVariants.{ScriptSyntax, ScriptTooLong, OutOfMemory, ReadFault, WriteFault, StoreFault, Callback, BlockTransformError}
use Rattle.slate_types.specs.Faults.{Rose}
use Rattle.slate_types.specs.Outside.{Objects, Counts, IsCounted, Reach}
use Rattle.slate_store.specs.Lines.{lines_of, whole_part, script_limit}
use Rattle.slate_store.specs.Store.{IsEmpty}
use Rattle.slate_filter.specs.Policy.{Policy}
use Rattle.slate_table.specs.Filtered.{AreLawful}
use Rattle.slate_txn.specs.Settings.{settings_of}
use Rattle.slate_txn.specs.State.{Rules, State}
use Rattle.slate_txn.specs.Step.{answers}
use Rattle.slate_mem.specs.KeyTests.{Segments}
use Rattle.slate_db.specs.Meaning.{Meaning, IsLawfulMeaning, rules_in}
use Rattle.slate_db.specs.Parts.{IsTableError}
use Rattle.slate_language.specs.Parse.{parse}
use Rattle.slate_language.specs.declared.tally.Tally.{Tally}
use Rattle.slate_language.specs.Replies.{after_lines, is_silent, meanings, replies, replies_from, replies_to, IsWellFormed}
use Rattle.slate_language.specs.Tally.{tallied}
use Rattle.slate_script.specs.Session.{SessionModel, StandsFor}

abbrev pub run_rules : Options → Meaning → Segments → Rules
run_rules o m seg = rules_in (settings_of o) m seg

pub record Premises (policies : List Policy) (m : Meaning) (objects : Option Objects) : Type 0 where
  pub lawful_policies : AreLawful policies
  pub lawful : IsLawfulMeaning m
  pub empty : IsEmpty objects

abbrev pub is_line : List ℕ → Bool
is_line l = is_silent l || is_some (parse l)

abbrev pub first_other : List (List ℕ) → Option ℕ
first_other [] = None
first_other (l ∷ ls) = if is_line l then option_map suc (first_other ls) else Some 1

abbrev pub is_too_long : List ℕ → Bool
is_too_long script = nat_lt (script_limit - 1) (length script)

abbrev pub lines_taken : List ℕ → List (List ℕ)
lines_taken script = if is_too_long script then lines_of (whole_part (take script_limit script)) else lines_of script

abbrev pub error_of : Option ℕ → Bool → Option SlateDBError
error_of (Some n) long = Some (ScriptSyntax n)
error_of None long = if long then Some ScriptTooLong else None

abbrev pub script_error : List ℕ → Option SlateDBError
script_error script = error_of (first_other (lines_taken script)) (is_too_long script)

-- a fault of the store, the operator or the transformer, or damage
abbrev pub IsPartError : SlateDBError → Type 0
IsPartError StoreFault = Unit {0}
IsPartError (Callback message) = Unit {0}
IsPartError BlockTransformError = Unit {0}
IsPartError e = IsTableError e

-- before, after: the parts' counts of faults
abbrev pub IsPartCause : Counts → Counts → SlateDBError → Type 0
IsPartCause before after e = IsCounted before after e ⊎ IsTableError e

-- errors that a source, a sink, a part or memory brings
abbrev pub IsOutside : SlateDBError → Type 0
IsOutside e = (e ≡ OutOfMemory) ⊎ (e ≡ ReadFault) ⊎ (e ≡ WriteFault) ⊎ IsPartError e

-- errors of the script itself
abbrev pub IsScriptError : SlateDBError → Type 0
IsScriptError e = (e ≡ ScriptTooLong) ⊎ ((n : ℕ) × (e ≡ ScriptSyntax n))

abbrev pub AreLines : List (List ℕ) → Type 0
AreLines ls = AllByRecursion (λ l. IsTrue (is_line l)) ls

-- old, new: the session; sink, after: what the sink tells; first, tally: the counts of replies
pub record AnswersLine {T : Type 0} (r : Rules) (line : List ℕ) (old new : SessionModel) (sink after : Option (List ℕ)) (first tally : Tally) (result : Result T SlateDBError) : Type 0 where
  pub stands : (s : State) → StandsFor old s → OnOk result (StandsFor new (after_lines r s (line ∷ [])))
  pub said : (s : State) (before : List ℕ) → StandsFor old s → sink ≡ Some before → OnOk result (after ≡ Some (before ++ replies_from r s (line ∷ [])))
  pub counts : (s : State) → StandsFor old s → OnOk result (tally ≡ tallied first (answers r s (meanings (line ∷ []))))
  pub begun : (s : State) (before : List ℕ) → StandsFor old s → sink ≡ Some before → result ≡ Err WriteFault →
      (n : ℕ) × (n < length (replies_from r s (line ∷ []))) × (after ≡ Some (before ++ take n (replies_from r s (line ∷ []))))

-- done: the lines that were answered
pub record HasAnswered (r : Rules) (script said : List ℕ) : Type 0 where
  pub done : List (List ℕ)
  pub later : List (List ℕ)
  pub first : lines_of script ≡ done ++ later
  pub meant : AreLines done
  pub all : said ≡ replies_to r done

-- line: the one whose reply was being written
pub record HasBegun (r : Rules) (script said : List ℕ) : Type 0 where
  pub done : List (List ℕ)
  pub line : List ℕ
  pub later : List (List ℕ)
  pub first : lines_of script ≡ done ++ (line ∷ later)
  pub meant : AreLines (done ++ (line ∷ []))
  pub missing : List ℕ
  pub some : missing ≢ []
  pub part : said ++ missing ≡ replies_to r (done ++ (line ∷ []))
  pub begun : List ℕ
  pub before : said ≡ replies_to r done ++ begun

-- what a source that failed has given: all whole lines of it were answered, and a last one without LF only at its end
pub record HasAnsweredAll (r : Rules) (script left said : List ℕ) : Type 0 where
  pub given : List ℕ
  pub split : script ≡ given ++ left
  pub done : List ℕ
  pub whole : (done ≡ whole_part given) ⊎ ((done ≡ given) × (left ≡ []))
  pub meant : AreLines (lines_of done)
  pub all : said ≡ replies_to r (lines_of done)

-- ---- a run, by its result

-- left: what the source still has; before, after: what the sink tells
pub record HasSaid {T : Type 0} (r : Rules) (script : List ℕ) (left : Option (List ℕ)) (before : List ℕ) (after : Option (List ℕ)) (result : Result T SlateDBError) : Type 0 where
  pub whole : OnOk result (after ≡ Some (before ++ replies r script))
  pub by_script : IfErr result (λ e. script_error script ≡ Some e → after ≡ Some (before ++ replies_to r (lines_taken script)))
  pub by_source : result ≡ Err ReadFault → (rest said : List ℕ) × (left ≡ Some rest) × (after ≡ Some (before ++ said)) × HasAnsweredAll r script rest said
  pub by_sink : result ≡ Err WriteFault → (said : List ℕ) × (after ≡ Some (before ++ said)) × HasBegun r script said
  pub by_part : IfErr result (λ e. (e ≡ OutOfMemory) ⊎ IsPartError e → (said : List ℕ) × (after ≡ Some (before ++ said)) × HasAnswered r script said)

-- all that a run can take of a script that is too long, and never more
pub record HasRead {T : Type 0} (script : List ℕ) (left : Option (List ℕ)) (result : Result T SlateDBError) : Type 0 where
  pub whole : OnOk result (IsWellFormed script × (left ≡ Some []))
  pub no_error : OnOk result (script_error script ≡ None)
  pub error : IfErr result (λ e. IsOutside e ⊎ (script_error script ≡ Some e))
  pub too_long : result ≡ Err ScriptTooLong → left ≡ Some (drop script_limit script)
  pub taken : (n : ℕ) × (n ≤ script_limit) × (left ≡ Some (drop n script))

pub record HasCause {T : Type 0} (source sink : Type 0) (before after : Reach) (result : Result T SlateDBError) : Type 0 where
  pub kinds : IfErr result (λ e. IsOutside e ⊎ IsScriptError e)
  pub read_fault : result ≡ Err ReadFault → source
  pub write_fault : result ≡ Err WriteFault → sink
  pub store_fault : result ≡ Err StoreFault → Rose before.faults.store after.faults.store
  pub operator_fault : (message : List ℕ) → result ≡ Err (Callback message) → Rose before.faults.operator after.faults.operator
  pub transform_fault : result ≡ Err BlockTransformError → Rose before.faults.transformer after.faults.transformer

pub record NoneRose (source sink : Type 0) (before after : Reach) : Type 0 where
  pub source_still : source → ⊥
  pub sink_still : sink → ⊥
  pub store : Rose before.faults.store after.faults.store → ⊥
  pub operator : Rose before.faults.operator after.faults.operator → ⊥
  pub transformer : Rose before.faults.transformer after.faults.transformer → ⊥

-- ---- a run that writes one line

-- line: what it writes; before, after: what the sink tells
pub record HasTold {T : Type 0} (line before : List ℕ) (after : Option (List ℕ)) (result : Result T SlateDBError) : Type 0 where
  pub whole : OnOk result (after ≡ Some (before ++ line))
  pub begun : result ≡ Err WriteFault → (n : ℕ) × (n < length line) × (after ≡ Some (before ++ take n line))
