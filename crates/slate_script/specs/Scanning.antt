-- What calls on a scan that was opened did and met. before, after: what they reach; c, d: the core; x, y: the scan
--     IsNoted c d id      they noted steps in the transcript under the id, and changed nothing else
--     Took means before after c d x y old new      they noted steps, and what these handed out came behind the rows that were there;
--                 where it is known which rows are left, it is behind the calls, and these and the steps are as meant; what is read is checked
--     Fails before after x e      one of them was refused, by a fault or by what the reads of all of them show
--     HandsOut m seg c d id order range sts rows      the model's scan hands out these rows, and the core's state is then the model's
--     HasScanned policies before after c d id order range sts rows      a line's scan was opened and walked over: it handed out the model's rows where the
--                 tables that the journal names answered each read; over a store that tells its acts, these, or a section slipped through
--     BeginsWith prefix range      where a prefix is given, each key of the range begins with it
--     EndsBelow p      p doesn't end with byte 255
--     ScansAs m seg e new name order range sts result      the answer is that of the model's scan of the range, where bounds leave one
use Rattle.std.specs.Prelude.{◌≡◌, ◌≢◌, ◌⊎◌, ℕ, ◌-◌, nat_eq, true, List, ◌∷◌, ◌++◌, length, slice_get, Option, Some, Result, IfOk}
use Rattle.std.specs.List.{starts_with}
use Rattle.slate_types.specs.declared.bytes_range.BytesRange.{BytesRange}
use Rattle.slate_types.specs.declared.error.SlateDBError.{SlateDBError}
use Rattle.slate_types.specs.declared.iter.IterationOrder.{IterationOrder}
use Rattle.slate_types.specs.declared.types.KeyValue.{KeyValue}
use Rattle.slate_types.specs.declared.types.RowEntry.{RowEntry}
use Rattle.slate_types.specs.Keys.{in_range}
use Rattle.slate_types.specs.Outside.{IsFault, Objects, Reach}
use Rattle.slate_types.specs.Refusing.{NoMore}
use Rattle.slate_types.specs.World.{World, Checks, Made, Sees}
use Rattle.slate_filter.specs.Policy.{Policy}
use Rattle.slate_mem.specs.KeyTests.{Segments}
use Rattle.slate_txn.specs.declared.event.TranscriptStep.{TranscriptStep}
use Rattle.slate_txn.specs.declared.event.TranscriptStep.TheVariants as steps
use Rattle.slate_txn.specs.declared.line.ScanStep.{ScanStep}
use Rattle.slate_txn.specs.declared.line.Line.TheVariants as lines
use Rattle.slate_txn.specs.Reads.{handed}
use Rattle.slate_txn.specs.Reply.{RowsAre}
use Rattle.slate_txn.specs.State.{State}
use Rattle.slate_txn.specs.Step.{noted, reader, scan, step}
use Rattle.slate_db.specs.declared.scan.TxnIterator.{TxnIterator}
use Rattle.slate_db.specs.Checked.{OrSlips}
use Rattle.slate_db.specs.Meaning.{Meaning, rules_in}
use Rattle.slate_db.specs.Model.{CoreModel}
use Rattle.slate_db.specs.Readable.{IsAnswered, IsReadable}
use Rattle.slate_db.specs.Scans.{IsScanOf, Leaves, ScanRefuses, id_of, number_of, scan_of}
use Rattle.slate_db.specs.Sound.{IsKept}
use Rattle.slate_language.specs.declared.reply.Answer.{Answer}
use Rattle.slate_script.specs.Session.{SessionModel, IsStep, StandsFor}
use Rattle.slate_script.specs.Walking.{Means}

-- whatever the calls answered
abbrev pub IsNoted : CoreModel → CoreModel → List ℕ → Type 0
IsNoted c d id = (ts : List TranscriptStep) × (d ≡ record c { state = noted c.state id ts })

pub record Took (means : Means) (before after : Reach) (c d : CoreModel) (x y : TxnIterator) (old new : List KeyValue) : Type 0 where
  pub ts : List TranscriptStep
  pub notes : d ≡ record c { state = noted c.state (id_of x) ts }
  pub hands : new ≡ old ++ handed ts
  pub names : IsScanOf (id_of x) (number_of x) (scan_of x).order (scan_of x).range y
  pub rows : (w : World) (rows : List RowEntry) → Leaves (scan_of x) w rows → Sees w before after → (left : List RowEntry) × Leaves (scan_of y) w left × means rows left ts
  pub checked : (w : World) (rows : List RowEntry) → Leaves (scan_of x) w rows → Checks w before after
  pub later : Made before after (λ reads. NoMore (ScanRefuses (scan_of x) before.meaning) reads (ScanRefuses (scan_of y) before.meaning))
  pub kept : (m : Meaning) → IsKept m c → IsKept m d

pub record Fails (before after : Reach) (x : TxnIterator) (e : SlateDBError) : Type 0 where
  pub undamaged : (w : World) (rows : List RowEntry) → Leaves (scan_of x) w rows → Sees w before after → IsFault before after e
  pub cause : Made before after (λ reads. IsFault before after e ⊎ ((at : Option (List ℕ)) × ScanRefuses (scan_of x) before.meaning reads at e))

abbrev pub HandsOut : Meaning → Segments → CoreModel → CoreModel → List ℕ → IterationOrder → BytesRange → List ScanStep → List KeyValue → Type 0
HandsOut m seg c d id order range sts rows = step (rules_in c.settings m seg) c.state (lines.Scan id order range.start range.end sts) ≡ (d.state, RowsAre rows)

pub record HasScanned (policies : List Policy) (before after : Reach) (c d : CoreModel) (id : List ℕ) (order : IterationOrder) (range : BytesRange) (sts : List ScanStep) (rows : List KeyValue) : Type 0 where
  pub ts : List TranscriptStep
  pub notes : d ≡ record c { state = noted c.state id (steps.Scan order range ∷ ts) }
  pub kept : (m : Meaning) → IsKept m c → IsKept m d
  pub answers : (seg : Segments) → IsAnswered policies before after c → HandsOut before.meaning seg c d id order range sts rows
  pub checked : (seg : Segments) (os : Objects) → IsReadable policies before.meaning os c → OrSlips os before after (HandsOut before.meaning seg c d id order range sts rows)

abbrev pub BeginsWith : Option (List ℕ) → BytesRange → Type 0
BeginsWith prefix range = (p k : List ℕ) → prefix ≡ Some p → in_range range k ≡ true → starts_with nat_eq k p ≡ true

abbrev pub EndsBelow : List ℕ → Type 0
EndsBelow p = slice_get p (length p - 1) ≢ Some 255

abbrev pub ScansAs : Meaning → Segments → SessionModel → SessionModel → List ℕ → IterationOrder → Option BytesRange → List ScanStep → Result Answer SlateDBError → Type 0
ScansAs m seg before after name order range sts result =
    (s : State) → StandsFor before s → IfOk result (IsStep after (scan (rules_in before.core.settings m seg) s name order range sts (reader s name)))
