-- What a transaction of a closure leaves. seen: the connection behind a reference to its handle; step f s r t g: a call of the closure f at such a reference s may give r, and leave t and g
--     CommitsSteps p level now old new ts      a transaction that took these steps, and no other, is committed: it is the one place more of the pass's own
--     HasRead p old new ts      a transaction that took these steps, which read, is ended without a commit
--     HasRun seen step p level old f g answer t      from the connection one was begun, the closure ran on it to this answer, and left t
--     EndsByRefusal seen step p level old new f g e      an attempt is refused so: nothing was begun; or the closure refused; or the commit of what it left did
--     AfterConflicts seen step p level n old f new g      so many attempts, one after another, each of which was refused by a conflict
--     IsLast seen step p level old new f r      the attempt that gives the answer
--     HasTransacted seen step p level now old new f a      the closure f, as attempts left it that were refused by a conflict, ran on a transaction that took no step yet, to this answer, and what it left was committed
use Rattle.std.specs.Prelude.{◌≡◌, ◌⊎◌, ℕ, zero, suc, ℤ, List, [], Option, Some, Result, Ok, Err}
use mathlib.Core.List.{IsPrefix}
use Rattle.slate_types.specs.declared.config.IsolationLevel.{IsolationLevel}
use Rattle.slate_types.specs.declared.config.IsolationLevel.TheVariants.{Snapshot}
use Rattle.slate_types.specs.declared.error.SlateDBError.{SlateDBError}
use Rattle.slate_types.specs.declared.error.SlateDBError.TheVariants.{TransactionConflict}
use Rattle.slate_types.specs.Outside.{IsFault}
use Rattle.slate_txn.specs.declared.event.TranscriptStep.{TranscriptStep}
use Rattle.slate_txn.specs.Replay.{IsLegal}
use Rattle.slate_shared.specs.Passes.{Opened}
use Rattle.slate_steps.specs.Attempts.{HasCommittedBehind, IsAttempt, IsRefusedBehind, IsStoreChecked, IsUnbegun, IsVouchedThere}
use Rattle.slate_connection.specs.Connected.{ConnectionModel, IsOpenAttempt, Terms, taken}

-- it began at the newest sequence of a journal that begins with what the pass had seen
pub record CommitsSteps (p : Terms) (level : IsolationLevel) (now : ℤ) (old new : ConnectionModel) (ts : List TranscriptStep) : Type 0 where
  pub done : Opened
  pub attempt : IsAttempt p.options old.pass.seen level ts done
  pub n : Option ℕ
  pub committed : HasCommittedBehind p.options done n now old.pass new.pass
  pub legal : IsLegal p.options.start_seq new.pass.seen
  pub vouched : IsStoreChecked p.policies p.meaning new.pass.seen old.reach new.reach → IsVouchedThere p.options p.meaning done

-- it began so too
pub record HasRead (p : Terms) (old new : ConnectionModel) (ts : List TranscriptStep) : Type 0 where
  pub done : Opened
  pub attempt : IsAttempt p.options old.pass.seen Snapshot ts done
  pub known : IsPrefix done.seen new.pass.seen
  pub vouched : IsStoreChecked p.policies p.meaning new.pass.seen old.reach new.reach → IsVouchedThere p.options p.meaning done

pub record HasRun {F V A : Type 0} (seen : V → ConnectionModel) (step : F → V → Result A SlateDBError → V → F → Type 0) (p : Terms) (level : IsolationLevel) (old : ConnectionModel) (f g : F) (answer : Result A SlateDBError) (t : Opened) : Type 0 where
  pub found : V
  pub left : V
  pub ran : step f found answer left g
  pub bare : taken (seen found) ≡ []
  pub there : (seen left).txn ≡ Some t
  pub attempt : IsOpenAttempt p old.pass.seen level t

abbrev pub EndsByRefusal : {F V A : Type 0} → (V → ConnectionModel) → (F → V → Result A SlateDBError → V → F → Type 0) → Terms → IsolationLevel → ConnectionModel → ConnectionModel → F → F → SlateDBError → Type 0
EndsByRefusal {F} {V} {A} seen step p level old new f g e =
    ((g ≡ f) × IsUnbegun old.pass new.pass e)
    ⊎ ((t : Opened) × HasRun {F = F} {V = V} {A = A} seen step p level old f g (Err e) t)
    ⊎ ((t : Opened) × (a : A) × (before : ConnectionModel) × HasRun {F = F} {V = V} {A = A} seen step p level old f g (Ok a) t × (IsFault before.reach new.reach e ⊎ IsRefusedBehind p.options t before.pass new.pass e))

abbrev pub AfterConflicts : {F V A : Type 0} → (V → ConnectionModel) → (F → V → Result A SlateDBError → V → F → Type 0) → Terms → IsolationLevel → ℕ → ConnectionModel → F → ConnectionModel → F → Type 0
AfterConflicts seen step p level zero old f new g = (new ≡ old) × (g ≡ f)
AfterConflicts {F} {V} {A} seen step p level (suc n) old f new g =
    (mid : ConnectionModel) × (h : F) × AfterConflicts {F = F} {V = V} {A = A} seen step p level n old f mid h × ((seq : ℕ) × EndsByRefusal {F = F} {V = V} {A = A} seen step p level mid new h g (TransactionConflict seq))

abbrev pub IsLast : {F V A : Type 0} → (V → ConnectionModel) → (F → V → Result A SlateDBError → V → F → Type 0) → Terms → IsolationLevel → ConnectionModel → ConnectionModel → F → Result A SlateDBError → Type 0
IsLast {F} {V} {A} seen step p level old new f (Ok a) = (g : F) × (found : V) × (left : V) × step f found (Ok a) left g
IsLast {F} {V} {A} seen step p level old new f (Err e) = (g : F) × EndsByRefusal {F = F} {V = V} {A = A} seen step p level old new f g e

-- number, mid, before: the attempts in front, and the connection and the closure behind them
pub record HasTransacted {F V A : Type 0} (seen : V → ConnectionModel) (step : F → V → Result A SlateDBError → V → F → Type 0) (p : Terms) (level : IsolationLevel) (now : ℤ) (old new : ConnectionModel) (f : F) (a : A) : Type 0 where
  pub number : ℕ
  pub mid : ConnectionModel
  pub before : F
  pub earlier : AfterConflicts {F = F} {V = V} {A = A} seen step p level number old f mid before
  pub after : F
  pub found : V
  pub left : V
  pub ran : step before found (Ok a) left after
  pub bare : taken (seen found) ≡ []
  pub committed : CommitsSteps p level now old new (taken (seen left))
