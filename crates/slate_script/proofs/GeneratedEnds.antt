-- How a run ends over a script that it makes for itself.
use Rattle.std.proofs.Common.{◌≡◌, ℕ, ◌⊎◌, inl, inr, Ok, Err, Result, List, Option, Some, None, sym, ap, subst, ◌∙◌, arith}
use Rattle.std.specs.Prelude.{OnOk, IfErr}
use Rattle.slate_types.specs.declared.error.SlateDBError.{SlateDBError}
use Rattle.slate_types.specs.declared.error.SlateDBError.TheVariants.{OutOfMemory, ReadFault, WriteFault, StoreFault, Callback, BlockTransformError}
use Rattle.slate_types.specs.Faults.{Rose}
use Rattle.slate_types.specs.Outside.{Reach}
use Rattle.slate_language.specs.Replies.{IsWellFormed}
use Rattle.slate_script.specs.Run.{script_error, HasCause, HasTold, IsOutside, IsScriptError, NoneRose}
use Rattle.slate_script.proofs.Taken.{formed_no_error}

abbrev failed : SlateDBError → Result (Unit {0}) SlateDBError
failed e = Err e

pub never_rose : Rose 0 0 → ⊥
never_rose h = omega arith

-- a well-formed script brings no error of its own
pub formed_outside : (script : List ℕ) (e : SlateDBError) → IsWellFormed script → IsOutside e ⊎ (script_error script ≡ Some e) → IsOutside e
formed_outside script e formed (inl is) = is
formed_outside script e formed (inr is) = absurd (some (sym (formed_no_error script formed) ∙ is))
  where
    some : None ≡ Some e → ⊥
    some h = cc

-- ---- at an error of the lines, where neither the script nor the tally fails

pub lines_cause : {sink : Type 0} (before after : Reach) (e : SlateDBError) → IsOutside e → HasCause (Rose 0 0) (Rose 0 0) before after (failed e) → HasCause ⊥ sink before after (failed e)
lines_cause before after e is h = record {
  kinds = inl is;
  read_fault = λ fault. never_rose (h.read_fault fault);
  write_fault = λ fault. absurd (never_rose (h.write_fault fault));
  store_fault = h.store_fault;
  operator_fault = h.operator_fault;
  transform_fault = h.transform_fault;
}

pub lines_none : {sink : Type 0} (before after : Reach) → NoneRose ⊥ sink before after → NoneRose (Rose 0 0) (Rose 0 0) before after
lines_none before after h = record { source_still = never_rose; sink_still = never_rose; store = h.store; operator = h.operator; transformer = h.transformer }

-- ---- of want of memory, and of the sink's faults

pub only_kinds : (r : Result (Unit {0}) SlateDBError) → IfErr r (λ e. (e ≡ OutOfMemory) ⊎ (e ≡ WriteFault)) → IfErr r (λ e. IsOutside e)
only_kinds (Ok v) h = tt
only_kinds (Err e) (inl is) = inl is
only_kinds (Err e) (inr is) = inr (inr (inl is))

only_these : (r : Result (Unit {0}) SlateDBError) (f : SlateDBError) → IfErr r (λ e. (e ≡ OutOfMemory) ⊎ (e ≡ WriteFault)) → r ≡ Err f → (f ≡ OutOfMemory) ⊎ (f ≡ WriteFault)
only_these r f h is = subst (λ (x : Result (Unit {0}) SlateDBError). IfErr x (λ e. (e ≡ OutOfMemory) ⊎ (e ≡ WriteFault))) is h

no_read : (ReadFault ≡ OutOfMemory) ⊎ (ReadFault ≡ WriteFault) → ⊥
no_read (inl h) = cc
no_read (inr h) = cc

no_store : (StoreFault ≡ OutOfMemory) ⊎ (StoreFault ≡ WriteFault) → ⊥
no_store (inl h) = cc
no_store (inr h) = cc

no_operator : (message : List ℕ) → (Callback message ≡ OutOfMemory) ⊎ (Callback message ≡ WriteFault) → ⊥
no_operator message (inl h) = cc
no_operator message (inr h) = cc

no_transform : (BlockTransformError ≡ OutOfMemory) ⊎ (BlockTransformError ≡ WriteFault) → ⊥
no_transform (inl h) = cc
no_transform (inr h) = cc

kinds_of : (r : Result (Unit {0}) SlateDBError) → IfErr r (λ e. IsOutside e) → (before after : Reach) → IfErr r (λ e. IsOutside e ⊎ IsScriptError e)
kinds_of (Ok v) h before after = tt
kinds_of (Err e) h before after = inl h

pub only_cause : {sink : Type 0} (before after : Reach) (r : Result (Unit {0}) SlateDBError) → IfErr r (λ e. (e ≡ OutOfMemory) ⊎ (e ≡ WriteFault)) → (r ≡ Err WriteFault → sink) → HasCause ⊥ sink before after r
only_cause before after r h rose = record {
  kinds = kinds_of r (only_kinds r h) before after;
  read_fault = λ is. no_read (only_these r ReadFault h is);
  write_fault = rose;
  store_fault = λ is. absurd (no_store (only_these r StoreFault h is));
  operator_fault = λ message is. absurd (no_operator message (only_these r (Callback message) h is));
  transform_fault = λ is. absurd (no_transform (only_these r BlockTransformError h is));
}

pub only_memory_left : {sink : Type 0} (before after : Reach) (r : Result (Unit {0}) SlateDBError) → IfErr r (λ e. (e ≡ OutOfMemory) ⊎ (e ≡ WriteFault)) → (r ≡ Err WriteFault → sink) → NoneRose ⊥ sink before after → IfErr r (λ e. e ≡ OutOfMemory)
only_memory_left before after (Ok v) h rose none = tt
only_memory_left before after (Err e) (inl is) rose none = is
only_memory_left before after (Err e) (inr is) rose none = absurd (none.sink_still (rose (ap Err is)))

pub memory_no_fault : OutOfMemory ≡ WriteFault → ⊥
memory_no_fault h = cc

-- a count stands still but at a fault
pub still_or : {P : Type 0} (r : Result (Unit {0}) SlateDBError) → IfErr r (λ e. e ≡ WriteFault) → OnOk r P → (r ≡ Err WriteFault) ⊎ P
still_or (Ok v) h k = inr k
still_or (Err e) h k = inl (ap Err h)

-- nothing is written where the error is none of the sink's
pub told_none : (line before : List ℕ) (after : Option (List ℕ)) (e : SlateDBError) → (e ≡ WriteFault → ⊥) → HasTold line before after (failed e)
told_none line before after e none = record { whole = tt; begun = λ is. absurd (none (same is)) }
  where
    same : failed e ≡ Err WriteFault → e ≡ WriteFault
    same h = cc
