-- What a run of a program over a script of lines makes. takes: which lines are the program's own. f: what it writes for lines.
--     LineTest, Says      such a test, and what is written for lines
--     AreOwn takes ls      each line is the program's own
--     first_unknown takes ls, own_front takes ls      the number, from 1, of the first line that isn't, and the lines before it
--     lines_within script      the lines that a run can take: of a script that is too long, the whole lines within the limit
--     error_in takes script      the error that the script itself ends a run with
--     IsOwnScript takes script      it isn't too long, and each line is the program's own
--     said_by o      what is written for a line, nothing where there is no reply
--     IsProgramError e      no error of a script, a source or a sink
--     LineSays f Now line piece      for this line the piece is written, and what is written for later lines is known again
--     WritesLine f Now line sink after result      what the sink took for one line
--     WroteFirst takes f script said      what was written is for the first lines
--     WroteFront takes f script said      the same, and a front of what is written for one line more
--     WroteAllGiven takes f script left said      the same, for all that a source gave which then failed
--     WroteAsSaid takes f script left before after result      what the sink took in a run, by what ended it
--     HasTaken takes script left result      what the source gave in a run, and which errors the script has
--     IsRunCause source sink refuses e      an error of a run has its cause; source, sink: their counts of faults rose; refuses: what the program refuses for
use Rattle.std.specs.Prelude.{◌≡◌, ◌≢◌, ◌≤◌, ◌<◌, ◌-◌, ◌⊎◌, ℕ, suc, Bool, true, if◌then◌else◌, nat_lt, List, [], ◌∷◌, ◌++◌, length, take, drop, Option, Some, None, option_map, Result, Err, OnOk, IfErr}
use Rattle.std.specs.List.{AllByRecursion}
use Rattle.slate_types.specs.declared.error.SlateDBError.{SlateDBError}
use Rattle.slate_types.specs.declared.error.SlateDBError.TheVariants.{ScriptSyntax, ScriptTooLong, OutOfMemory, ReadFault, WriteFault}
use Rattle.slate_store.specs.Lines.{lines_of, whole_part, script_limit}

abbrev pub LineTest : Type 0
LineTest = List ℕ → Bool

abbrev pub Says : Type 0
Says = List (List ℕ) → List ℕ

-- ---- the lines of a script

abbrev pub AreOwn : LineTest → List (List ℕ) → Type 0
AreOwn takes ls = AllByRecursion (λ l. takes l ≡ true) ls

abbrev pub first_unknown : LineTest → List (List ℕ) → Option ℕ
first_unknown takes [] = None
first_unknown takes (l ∷ ls) = if takes l then option_map suc (first_unknown takes ls) else Some 1

abbrev pub own_front : LineTest → List (List ℕ) → List (List ℕ)
own_front takes [] = []
own_front takes (l ∷ ls) = if takes l then l ∷ own_front takes ls else []

abbrev pub passes_limit : List ℕ → Bool
passes_limit script = nat_lt (script_limit - 1) (length script)

abbrev pub lines_within : List ℕ → List (List ℕ)
lines_within script = if passes_limit script then lines_of (whole_part (take script_limit script)) else lines_of script

abbrev pub run_error : Option ℕ → Bool → Option SlateDBError
run_error (Some n) long = Some (ScriptSyntax n)
run_error None long = if long then Some ScriptTooLong else None

abbrev pub error_in : LineTest → List ℕ → Option SlateDBError
error_in takes script = run_error (first_unknown takes (lines_within script)) (passes_limit script)

pub record IsOwnScript (takes : LineTest) (script : List ℕ) : Type 0 where
  pub short : length script < script_limit
  pub own : AreOwn takes (lines_of script)

-- ---- one line

abbrev pub said_by : Option (List ℕ) → List ℕ
said_by None = []
said_by (Some text) = text

abbrev pub IsProgramError : SlateDBError → Type 0
IsProgramError (ScriptSyntax n) = ⊥
IsProgramError ScriptTooLong = ⊥
IsProgramError ReadFault = ⊥
IsProgramError WriteFault = ⊥
IsProgramError e = Unit {0}

-- Now: the functions by which the program answers afterwards
pub record LineSays (f : Says) (Now : Says → Type 0) (line piece : List ℕ) : Type 0 where
  pub later : Says
  pub answers : Now later
  pub said : (rest : List (List ℕ)) → f (line ∷ rest) ≡ piece ++ later rest

-- sink, after: what the sink tells
pub record WritesLine {T : Type 0} (f : Says) (Now : Says → Type 0) (line : List ℕ) (sink after : Option (List ℕ)) (result : Result T SlateDBError) : Type 0 where
  pub whole : OnOk result ((piece : List ℕ) × LineSays f Now line piece × ((before : List ℕ) → sink ≡ Some before → after ≡ Some (before ++ piece)))
  pub begun : result ≡ Err WriteFault → (piece : List ℕ) × LineSays f Now line piece × ((before : List ℕ) → sink ≡ Some before → (n : ℕ) × (n < length piece) × (after ≡ Some (before ++ take n piece)))

-- ---- what was written

-- done: the lines that were answered
pub record WroteFirst (takes : LineTest) (f : Says) (script said : List ℕ) : Type 0 where
  pub done : List (List ℕ)
  pub later : List (List ℕ)
  pub first : lines_of script ≡ done ++ later
  pub own : AreOwn takes done
  pub all : said ≡ f done

-- line: the one whose reply was being written
pub record WroteFront (takes : LineTest) (f : Says) (script said : List ℕ) : Type 0 where
  pub done : List (List ℕ)
  pub line : List ℕ
  pub later : List (List ℕ)
  pub first : lines_of script ≡ done ++ (line ∷ later)
  pub own : AreOwn takes (done ++ (line ∷ []))
  pub missing : List ℕ
  pub some : missing ≢ []
  pub part : said ++ missing ≡ f (done ++ (line ∷ []))
  pub begun : List ℕ
  pub before : said ≡ f done ++ begun

-- all whole lines that were given are answered, and a last one without LF only at the script's end
pub record WroteAllGiven (takes : LineTest) (f : Says) (script left said : List ℕ) : Type 0 where
  pub given : List ℕ
  pub split : script ≡ given ++ left
  pub done : List ℕ
  pub whole : (done ≡ whole_part given) ⊎ ((done ≡ given) × (left ≡ []))
  pub own : AreOwn takes (lines_of done)
  pub all : said ≡ f (lines_of done)

-- ---- a run, by its result

-- left: what the source still has; before, after: what the sink tells
pub record WroteAsSaid {T : Type 0} (takes : LineTest) (f : Says) (script : List ℕ) (left : Option (List ℕ)) (before : List ℕ) (after : Option (List ℕ)) (result : Result T SlateDBError) : Type 0 where
  pub whole : OnOk result (after ≡ Some (before ++ f (lines_of script)))
  pub by_script : IfErr result (λ e. error_in takes script ≡ Some e → after ≡ Some (before ++ f (own_front takes (lines_within script))))
  pub by_source : result ≡ Err ReadFault → (rest said : List ℕ) × (left ≡ Some rest) × (after ≡ Some (before ++ said)) × WroteAllGiven takes f script rest said
  pub by_sink : result ≡ Err WriteFault → (said : List ℕ) × (after ≡ Some (before ++ said)) × WroteFront takes f script said
  pub by_program : IfErr result (λ e. IsProgramError e → (said : List ℕ) × (after ≡ Some (before ++ said)) × WroteFirst takes f script said)

-- all that a run can take of a script that is too long, and never more
pub record HasTaken {T : Type 0} (takes : LineTest) (script : List ℕ) (left : Option (List ℕ)) (result : Result T SlateDBError) : Type 0 where
  pub whole : OnOk result (IsOwnScript takes script × (left ≡ Some []))
  pub no_error : OnOk result (error_in takes script ≡ None)
  pub error : IfErr result (λ e. (e ≡ ReadFault) ⊎ (e ≡ WriteFault) ⊎ IsProgramError e ⊎ (error_in takes script ≡ Some e))
  pub formed : IsOwnScript takes script → IfErr result (λ e. (e ≡ ReadFault) ⊎ (e ≡ WriteFault) ⊎ IsProgramError e)
  pub too_long : result ≡ Err ScriptTooLong → left ≡ Some (drop script_limit script)
  pub taken : (n : ℕ) × (n ≤ script_limit) × (left ≡ Some (drop n script))

abbrev pub IsRunCause : Type 0 → Type 0 → (SlateDBError → Type 0) → SlateDBError → Type 0
IsRunCause source sink refuses e = (e ≡ OutOfMemory) ⊎ ((e ≡ ReadFault) × source) ⊎ ((e ≡ WriteFault) × sink) ⊎ (e ≡ ScriptTooLong) ⊎ ((n : ℕ) × (e ≡ ScriptSyntax n)) ⊎ refuses e
