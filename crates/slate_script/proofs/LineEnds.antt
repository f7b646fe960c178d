-- What is answered to a line, from what is answered to its kind.
use Rattle.std.proofs.Common.{◌≡◌, ℕ, ◌⊎◌, inl, inr, List, Bool, false, true, ◌||◌, is_some, IsTrue, Option, Some, None, Result, Ok, Err, OnOk, refl, sym, subst}
use Rattle.std.specs.Prelude.{IfErr}
use Rattle.slate_types.specs.declared.error.SlateDBError.{SlateDBError}
use Rattle.slate_types.specs.declared.error.SlateDBError.TheVariants.{OutOfMemory, StoreFault, Callback, BlockTransformError, WriteFault, ScriptSyntax, LimitReached, MergeOperatorMissing}
use Rattle.slate_types.specs.Outside.{Objects, Counts, IsCounted, IsFault, Reach}
use Rattle.slate_types.specs.World.{Made}
use Rattle.slate_filter.specs.Policy.{Policy}
use Rattle.slate_txn.specs.declared.line.Line.{Line}
use Rattle.slate_mem.specs.KeyTests.{Segments}
use Rattle.slate_db.specs.Meaning.{Meaning}
use Rattle.slate_db.specs.Sound.{IsKept}
use Rattle.slate_db.specs.Parts.{IsTableError}
use Rattle.slate_db.specs.Readable.{IsReadError, IsRefusedBy}
use Rattle.slate_db.specs.Shown.{Asking}
use Rattle.slate_db.specs.Settled.{IsSettled}
use Rattle.slate_language.specs.Parse.{parse}
use Rattle.slate_language.specs.Replies.{is_silent}
use Rattle.slate_script.specs.Run.{is_line, IsPartError, IsPartCause}
use Rattle.slate_script.specs.Session.{SessionModel, IsLimit, StoresNothing}
use Rattle.slate_script.proofs.Running.{not_damage}
use Rattle.slate_script.proofs.SessionParts.{get_cause, get_shown}
use Rattle.slate_script.proofs.SessionStores.{stays_settled}

-- ---- what a line keeps

-- what holds for parts of each meaning holds for these
pub stores_at : {V E : Type 0} (result : Result V E) (m : Meaning) (seg : Segments) (e new : SessionModel) → OnOk result ((n : Meaning) (sg : Segments) → StoresNothing n sg e new) → OnOk result (StoresNothing m seg e new)
stores_at (Ok v) m seg e new stores = stores m seg
stores_at (Err x) m seg e new stores = tt

pub keeps_core : {V E : Type 0} (result : Result V E) (m : Meaning) (seg : Segments) (e new : SessionModel) → OnOk result (StoresNothing m seg e new) → IsKept m e.core → OnOk result (IsKept m new.core)
keeps_core (Ok v) m seg e new stores kept = stores.kept kept
keeps_core (Err x) m seg e new stores kept = tt

pub keeps_settings : {V E : Type 0} (m : Meaning) (seg : Segments) (result : Result V E) (e new : SessionModel) → OnOk result (StoresNothing m seg e new) → OnOk result (new.core.settings ≡ e.core.settings)
keeps_settings m seg (Ok v) e new stores = stores.settings
keeps_settings m seg (Err x) e new stores = tt

pub keeps_settled : {V E : Type 0} (result : Result V E) (policies : List Policy) (m : Meaning) (seg : Segments) (objects after : Option Objects) (e new : SessionModel) → after ≡ objects → OnOk result (StoresNothing m seg e new) → IsSettled policies m seg objects e.core → OnOk result (IsSettled policies m seg after new.core)
keeps_settled (Ok v) policies m seg objects after e new same stores settled = subst (λ o. IsSettled policies m seg o new.core) (sym same) (stays_settled policies m seg objects e new stores settled)
keeps_settled (Err x) policies m seg objects after e new same stores settled = tt

-- ---- which errors

pub memory_or_limit : {V : Type 0} (result : Result V SlateDBError) (before after : Counts) (e : SessionModel) → IfErr result (λ x. (x ≡ OutOfMemory) ⊎ IsLimit e x) → IfErr result (λ x. IsCounted before after x ⊎ IsLimit e x)
memory_or_limit (Ok v) before after e cause = tt
memory_or_limit (Err x) before after e (inl is) = inl (subst (IsCounted before after) (sym is) tt)
memory_or_limit (Err x) before after e (inr limit) = inr limit

pub or_limit : {V : Type 0} (result : Result V SlateDBError) (before after : Counts) (e : SessionModel) → IfErr result (λ x. IsCounted before after x) → IfErr result (λ x. IsCounted before after x ⊎ IsLimit e x)
or_limit (Ok v) before after e cause = tt
or_limit (Err x) before after e cause = inl cause

pub or_damage : {V : Type 0} (result : Result V SlateDBError) (before after : Counts) (e : SessionModel) → IfErr result (λ x. IsCounted before after x ⊎ IsLimit e x) → IfErr result (λ x. IsCounted before after x ⊎ IsLimit e x ⊎ IsTableError x)
or_damage (Ok v) before after e cause = tt
or_damage (Err x) before after e (inl outer) = inl outer
or_damage (Err x) before after e (inr limit) = inr (inl limit)

-- a flush that wants an operator ends the run as damage does
pub or_operator : {V : Type 0} (result : Result V SlateDBError) (before after : Counts) (e : SessionModel) → IfErr result (λ x. IsCounted before after x ⊎ IsLimit e x ⊎ (x ≡ MergeOperatorMissing)) → IfErr result (λ x. IsCounted before after x ⊎ IsLimit e x ⊎ IsTableError x)
or_operator (Ok v) before after e cause = tt
or_operator (Err x) before after e (inl outer) = inl outer
or_operator (Err x) before after e (inr (inl limit)) = inr (inl limit)
or_operator (Err x) before after e (inr (inr wants)) = inr (inr (subst IsTableError (sym wants) tt))

pub limit_between : {V : Type 0} (result : Result V SlateDBError) (by : Asking) (upto : ℕ) (before after : Reach) (e : SessionModel) → IfErr result (IsReadError by upto before after e.core) → IfErr result (λ x. IsFault before after x ⊎ IsLimit e x ⊎ IsTableError x)
limit_between (Ok v) by upto before after e cause = tt
limit_between (Err x) by upto before after e cause = either (get_cause by upto before after e.core x cause)
  where
    either : IsFault before after x ⊎ IsTableError x → IsFault before after x ⊎ IsLimit e x ⊎ IsTableError x
    either (inl fault) = inl fault
    either (inr error) = inr (inr error)

-- what isn't a fault of a read is shown by its reads
pub shown_of : {V : Type 0} (result : Result V SlateDBError) (by : Asking) (upto : ℕ) (before after : Reach) (e : SessionModel) → IfErr result (IsReadError by upto before after e.core) → IfErr result (λ x. IsTableError x → Made before after (λ reads. IsRefusedBy by upto before.meaning e.core reads x))
shown_of (Ok v) by upto before after e cause = tt
shown_of (Err x) by upto before after e cause = get_shown by upto before after e.core x cause

pub no_damage : {V : Type 0} (P : Type 0) (result : Result V SlateDBError) (before after : Counts) (e : SessionModel) → IfErr result (λ x. IsCounted before after x ⊎ IsLimit e x) → IfErr result (λ x. IsTableError x → P)
no_damage P (Ok v) before after e cause = tt
no_damage P (Err x) before after e cause = λ damage. absurd (not_damage before after x cause damage)

-- the same of what is said of the error
pub no_error : {V : Type 0} (P : SlateDBError → Type 0) (result : Result V SlateDBError) (before after : Counts) (e : SessionModel) → IfErr result (λ x. IsCounted before after x ⊎ IsLimit e x) → IfErr result (λ x. IsTableError x → P x)
no_error P (Ok v) before after e cause = tt
no_error P (Err x) before after e cause = λ error. absurd (not_damage before after x cause error)

-- ---- in a run, at an error of the session

outer_kind : (before after : Counts) (x : SlateDBError) → IsCounted before after x → (x ≡ OutOfMemory) ⊎ IsPartError x
outer_kind before after OutOfMemory h = inl refl
outer_kind before after StoreFault h = inr tt
outer_kind before after (Callback message) h = inr tt
outer_kind before after BlockTransformError h = inr tt
outer_kind before after x h = absurd h

damage_kind : (x : SlateDBError) → IsTableError x → IsPartError x
damage_kind StoreFault h = tt
damage_kind (Callback message) h = tt
damage_kind BlockTransformError h = tt
damage_kind x h = h

abbrev pub SessionError : Counts → Counts → SessionModel → SlateDBError → Type 0
SessionError before after e x = IsCounted before after x ⊎ IsLimit e x ⊎ IsTableError x

abbrev pub AnyError : ℕ → List ℕ → SessionModel → SlateDBError → Type 0
AnyError number line e x = (x ≡ OutOfMemory) ⊎ (x ≡ WriteFault) ⊎ ((x ≡ ScriptSyntax number) × (is_line line ≡ false)) ⊎ IsPartError x ⊎ IsLimit e x

pub session_cause : (before after : Counts) (number : ℕ) (line : List ℕ) (e : SessionModel) (x : SlateDBError) → SessionError before after e x → AnyError number line e x
session_cause before after number line e x (inl outer) = by (outer_kind before after x outer)
  where
    by : (x ≡ OutOfMemory) ⊎ IsPartError x → AnyError number line e x
    by (inl is) = inl is
    by (inr part) = inr (inr (inr (inl part)))
session_cause before after number line e x (inr (inl limit)) = inr (inr (inr (inr limit)))
session_cause before after number line e x (inr (inr damage)) = inr (inr (inr (inl (damage_kind x damage))))

pub session_part : (before after : Counts) (e : SessionModel) (x : SlateDBError) → SessionError before after e x → IsPartError x → IsPartCause before after x
session_part before after e x (inl outer) part = inl outer
session_part before after e x (inr (inl limit)) part = absurd (subst IsPartError limit.1 part)
session_part before after e x (inr (inr damage)) part = inr damage

not_limit : (x : SlateDBError) (n : ℕ) → x ≡ LimitReached n → x ≡ WriteFault → ⊥
not_limit x n is was = cc

pub session_wrote : (before after : Counts) (e : SessionModel) (x : SlateDBError) → SessionError before after e x → x ≡ WriteFault → ⊥
session_wrote before after e x (inl outer) is = subst (IsCounted before after) is outer
session_wrote before after e x (inr (inl limit)) is = not_limit x limit.0 limit.1 is
session_wrote before after e x (inr (inr damage)) is = subst IsTableError is damage

-- ---- and at one of writing

pub writing_cause : {V : Type 0} (result : Result V SlateDBError) (number : ℕ) (line : List ℕ) (e : SessionModel) → IfErr result (λ x. (x ≡ OutOfMemory) ⊎ (x ≡ WriteFault)) → IfErr result (λ x. AnyError number line e x)
writing_cause (Ok v) number line e cause = tt
writing_cause (Err x) number line e (inl is) = inl is
writing_cause (Err x) number line e (inr is) = inr (inl is)

pub writing_no_part : {V : Type 0} (P : SlateDBError → Type 0) (result : Result V SlateDBError) → IfErr result (λ x. (x ≡ OutOfMemory) ⊎ (x ≡ WriteFault)) → IfErr result (λ x. IsPartError x → P x)
writing_no_part P (Ok v) cause = tt
writing_no_part P (Err x) (inl is) = λ part. absurd (subst IsPartError is part)
writing_no_part P (Err x) (inr is) = λ part. absurd (subst IsPartError is part)

pub writing_no_error : {V : Type 0} (P : SlateDBError → Type 0) (result : Result V SlateDBError) → IfErr result (λ x. (x ≡ OutOfMemory) ⊎ (x ≡ WriteFault)) → IfErr result (λ x. IsTableError x → P x)
writing_no_error P (Ok v) cause = tt
writing_no_error P (Err x) (inl is) = λ error. absurd (subst IsTableError is error)
writing_no_error P (Err x) (inr is) = λ error. absurd (subst IsTableError is error)

pub writing_no_damage : {V : Type 0} (P : Type 0) (result : Result V SlateDBError) → IfErr result (λ x. (x ≡ OutOfMemory) ⊎ (x ≡ WriteFault)) → IfErr result (λ x. IsTableError x → P)
writing_no_damage P (Ok v) cause = tt
writing_no_damage P (Err x) (inl is) = λ damage. absurd (subst IsTableError is damage)
writing_no_damage P (Err x) (inr is) = λ damage. absurd (subst IsTableError is damage)

-- ---- and at one of parsing

abbrev pub ParseError : ℕ → List ℕ → SlateDBError → Type 0
ParseError number line x = (x ≡ OutOfMemory) ⊎ ((x ≡ ScriptSyntax number) × (is_line line ≡ false))

pub parse_error : (number : ℕ) (line : List ℕ) (x numbered : SlateDBError) → (x ≡ OutOfMemory) ⊎ ((x ≡ ScriptSyntax 0) × (is_silent line ≡ false) × (parse line ≡ None)) → (x ≡ OutOfMemory → numbered ≡ OutOfMemory) → (x ≡ ScriptSyntax 0 → numbered ≡ ScriptSyntax number) →
    ParseError number line numbered
parse_error number line x numbered (inl is) memory syntax = inl (memory is)
parse_error number line x numbered (inr is) memory syntax = inr (syntax is.0, other (is_silent line) (parse line) is.1 is.2)
  where
    other : (silent : Bool) (meant : Option Line) → silent ≡ false → meant ≡ None → (silent || is_some meant) ≡ false
    other silent meant loud none = λ i. loud i || is_some (none i)

pub parse_cause : (number : ℕ) (line : List ℕ) (e : SessionModel) (x : SlateDBError) → ParseError number line x → AnyError number line e x
parse_cause number line e x (inl is) = inl is
parse_cause number line e x (inr is) = inr (inr (inl is))

pub parse_no_part : (number : ℕ) (line : List ℕ) (x : SlateDBError) → ParseError number line x → IsPartError x → ⊥
parse_no_part number line x (inl is) part = subst IsPartError is part
parse_no_part number line x (inr is) part = subst IsPartError is.0 part

pub parse_no_damage : (number : ℕ) (line : List ℕ) (x : SlateDBError) → ParseError number line x → IsTableError x → ⊥
parse_no_damage number line x (inl is) damage = subst IsTableError is damage
parse_no_damage number line x (inr is) damage = subst IsTableError is.0 damage

pub parse_wrote : (number : ℕ) (line : List ℕ) (x : SlateDBError) → ParseError number line x → x ≡ WriteFault → ⊥
parse_wrote number line x (inl is) was = cc
parse_wrote number line x (inr is) was = clash is.0 was
  where
    clash : x ≡ ScriptSyntax number → x ≡ WriteFault → ⊥
    clash h k = cc

-- ---- a line that means something

pub error_of : {V : Type 0} {y : SlateDBError} (x : SlateDBError) → ◌≡◌ {A = Result V SlateDBError} (Err x) (Err y) → x ≡ y
error_of x h = cc

pub meant_line : (l : List ℕ) (line : Line) → parse l ≡ Some line → IsTrue (is_line l)
meant_line l line h = subst (λ o. IsTrue (is_silent l || is_some o)) (sym h) (or_true (is_silent l))
  where
    or_true : (b : Bool) → IsTrue (b || true)
    or_true true = refl
    or_true false = refl
