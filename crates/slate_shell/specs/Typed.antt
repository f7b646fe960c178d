-- What a line that a person types is answered.
--     IsRead typed r      the line is silent, means something, or is none of the language
--     HasMoment r      what it means sets no moment but one of 64 bits
--     DoesNothing before after old new      nothing was done
--     own_name, read_under name line      the name of a shell's own snapshots; the read under a name
--     ReadsAlone layout line before after old new text      a read in a snapshot of its own
--     Otherwise layout before after old new result      a line that is none of the language
--     Responds layout typed before after old new result      what is written for a line
--     closed_note, IsNote note      what may stand behind it
--     IsWritten text note sunk new      both are written, where the sink tells what it took
--     WritesResponse layout typed before after old new sunk later result      what a line writes
use Rattle.std.specs.Prelude.{◌≡◌, ◌⊎◌, ℕ, List, [], ◌∷◌, ◌++◌, Option, Some, None, Result, Ok, Err, IfOk, OnOk, IsTrue, true, false, codes}
use Rattle.std.specs.Global.{Vec}
use Rattle.slate_types.specs.declared.error.SlateDBError.{SlateDBError}
use Rattle.slate_types.specs.declared.error.SlateDBError.TheVariants.{OutOfMemory}
use Rattle.slate_types.specs.Outside.{Reach}
use Rattle.slate_txn.specs.declared.line.Line.{Line}
use Rattle.slate_txn.specs.declared.line.Line.TheVariants as lines
use Rattle.slate_db.specs.Flushed.{Layout}
use Rattle.slate_language.specs.Parse.{parse}
use Rattle.slate_language.specs.Replies.{is_silent}
use Rattle.slate_script.specs.Session.{SessionModel, has_moment}
use Rattle.slate_shell.specs.declared.reading.Typed.{Typed}
use Rattle.slate_shell.specs.declared.reading.Typed.TheVariants.{Silent, Meant, Other}
use Rattle.slate_shell.specs.Shown.{AnswersShown, Text}

abbrev pub IsRead : List ℕ → Typed → Type 0
IsRead typed Silent = is_silent typed ≡ true
IsRead typed (Meant line) = (is_silent typed ≡ false) × (parse typed ≡ Some line)
IsRead typed Other = (is_silent typed ≡ false) × (parse typed ≡ None)

abbrev pub HasMoment : Typed → Type 0
HasMoment Silent = Unit {0}
HasMoment (Meant line) = IsTrue (has_moment line)
HasMoment Other = Unit {0}

abbrev pub DoesNothing : Reach → Reach → SessionModel → SessionModel → Type 0
DoesNothing before after old new = (new ≡ old) × (after ≡ before)

-- ---- a read without a name

-- no line of the language has this name
abbrev pub own_name : List ℕ
own_name = 63 ∷ []

abbrev pub read_under : List ℕ → Line → Line
read_under name (lines.Get other k) = lines.Get name k
read_under name (lines.Scan other order start end sts) = lines.Scan name order start end sts
read_under name (lines.Prefix other order p start end sts) = lines.Prefix name order p start end sts
read_under name line = line

-- three lines, of which the second one is shown
pub record ReadsAlone (layout : Layout) (line : Line) (before after : Reach)
    (old new : SessionModel) (text : Vec ℕ) : Type 0 where
  pub at_opened : Reach
  pub at_read : Reach
  pub opened : SessionModel
  pub read : SessionModel
  pub opening : Vec ℕ
  pub closing : Vec ℕ
  pub opens : AnswersShown layout (lines.Snapshot own_name) before at_opened old opened (Ok opening)
  pub reads : AnswersShown layout (read_under own_name line) at_opened at_read opened read (Ok text)
  pub closes : AnswersShown layout (lines.Rollback own_name) at_read after read new (Ok closing)

-- ---- a line

-- it is told and nothing is done, or another line is answered, or a read
abbrev pub Otherwise : Layout → Reach → Reach → SessionModel → SessionModel → Text → Type 0
Otherwise layout before after old new result = IfOk result (λ text.
    DoesNothing before after old new
    ⊎ ((line : Line) × AnswersShown layout line before after old new (Ok text))
    ⊎ ((line : Line) × ReadsAlone layout line before after old new text))

-- meant: unless there is no memory to read the line
pub record Responds (layout : Layout) (typed : List ℕ) (before after : Reach)
    (old new : SessionModel) (result : Text) : Type 0 where
  pub meant : (line : Line) → is_silent typed ≡ false → parse typed ≡ Some line →
      ((result ≡ Err OutOfMemory) × DoesNothing before after old new)
      ⊎ AnswersShown layout line before after old new result
  pub silent : is_silent typed ≡ true →
      DoesNothing before after old new × IfOk result (λ text. text.items ≡ [])
  pub other : Otherwise layout before after old new result

-- ---- the sink

abbrev pub closed_note : List ℕ
closed_note = codes "note: a text has no closing ', so the last ' is a byte of it\n"

abbrev pub IsNote : List ℕ → Type 0
IsNote note = (note ≡ []) ⊎ (note ≡ closed_note)

abbrev pub IsWritten : Text → List ℕ → Option (List ℕ) → Option (List ℕ) → Type 0
IsWritten text note sunk new = (t : Vec ℕ) × (text ≡ Ok t)
    × ((before : List ℕ) → sunk ≡ Some before → new ≡ Some (before ++ (t.items ++ note)))

-- sunk, later: what the sink tells that it took
pub record WritesResponse (layout : Layout) (typed : List ℕ) (before after : Reach)
    (old new : SessionModel) (sunk later : Option (List ℕ))
    (result : Result (Unit {0}) SlateDBError) : Type 0 where
  pub text : Text
  pub note : List ℕ
  pub responds : Responds layout typed before after old new text
  pub is_note : IsNote note
  pub written : OnOk result (IsWritten text note sunk later)
