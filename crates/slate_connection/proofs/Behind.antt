-- What comes behind calls that let a connection see more, and what a refused write leaves.
use Rattle.std.proofs.Common.{◌≡◌, ℕ, ℤ, List, [], Option, Result, Ok, Err, sym, subst}
use Rattle.std.specs.Prelude.{IfErr, OnErr}
use mathlib.Core.List.{IsPrefix}
use Rattle.slate_types.specs.declared.config.IsolationLevel.{IsolationLevel}
use Rattle.slate_types.specs.declared.config.Options.{Options}
use Rattle.slate_types.specs.declared.error.SlateDBError.{SlateDBError}
use Rattle.slate_types.specs.Outside.{IsFault, Meaning, Reach}
use Rattle.slate_mem.specs.BatchModel.{BatchModel}
use Rattle.slate_mem.specs.KeyTests.{Segments}
use Rattle.slate_txn.specs.declared.event.Event.{Event}
use Rattle.slate_txn.specs.Settings.{Settings}
use Rattle.slate_shared.specs.Ended.{HasWritten}
use Rattle.slate_shared.specs.Passes.{Opened, PassModel}
use Rattle.slate_shared.proofs.Lists.{prefix_trans}
use Rattle.slate_steps.specs.Attempts.{IsAttempt, IsUnbegun, SeesOnly}
use Rattle.slate_steps.proofs.OnPass.{sees_only_then}

pub unbegun_behind : {A : Type 0} (old mid new : PassModel) (r : Result A SlateDBError) (e : SlateDBError) → r ≡ Err e → SeesOnly old mid → IsUnbegun mid new e → IfErr r (IsUnbegun old new)
unbegun_behind {A = A} old mid new r e is only h = subst (λ (s : Result A SlateDBError). IfErr s (IsUnbegun old new)) (sym is) (record { only = sees_only_then old mid new only h.only; cause = h.cause })

pub attempt_behind : (o : Options) (from more : List Event) (level : IsolationLevel) (t : Opened) → IsPrefix from more → IsAttempt o more level [] t → IsAttempt o from level [] t
attempt_behind o from more level t seen h = record { start = h.start; known = prefix_trans from more h.start seen h.known; begun = h.begun; newest = h.newest; is = h.is; plain = h.plain }

module _ (m : Meaning) (g : Segments) (o : Settings) (b : BatchModel) (old new : PassModel) where
  -- by what is reached, at a moment as a call has it
  pub written_in : (before after x y : Reach) (now z : ℤ) (r : Result (Option ℕ) SlateDBError) → x ≡ before → y ≡ after → z ≡ now → HasWritten (IsFault x y) m g o z b old new r → HasWritten (IsFault before after) m g o now b old new r
  written_in before after x y now z r from to moment h = subst (λ (u : (Reach × Reach) × ℤ). HasWritten (IsFault u.0.0 u.0.1) m g o u.1 b old new r) (λ i. ((from i, to i), moment i)) h

  pub written_only : {fault : SlateDBError → Type 0} (now : ℤ) (e : SlateDBError) → (new.table ≡ old.table) × (new.parts ≡ old.parts) → HasWritten fault m g o now b old new (Err e) → SeesOnly old new
  written_only now e same h = record { more = record { table = same.0; parts = same.1; seen = subst (λ (es : List Event). IsPrefix old.seen es) (sym h.after) h.seen }; own = h.own }

pub at_err : {A : Type 0} (P : Type 0) (r : Result A SlateDBError) → P → OnErr r P
at_err P (Ok a) h = tt
at_err P (Err e) h = h
