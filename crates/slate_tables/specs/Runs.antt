-- What a call over the tables of a store leaves.
--     IsWriteError e, WritesLines sunk sinks result      the errors of a call that writes, and what
--                            it leaves
--     GoesOver before after sunk sinks result      it puts nothing, and passes over no fault: of
--                            the reader's parts, and of the sink, whose counts are sunk and sinks
use Rattle.std.specs.Prelude.{◌≡◌, ◌⊎◌, ℕ, IfErr, Result, Err}
use Rattle.slate_types.specs.declared.error.SlateDBError.{SlateDBError}
use Rattle.slate_types.specs.declared.error.SlateDBError.TheVariants.{OutOfMemory, WriteFault}
use Rattle.slate_types.specs.Outside.{IsStill, OnlyReads, Reach}

pub record GoesOver {A : Type 0} (before after : Reach) (sunk sinks : ℕ)
    (result : Result A SlateDBError) : Type 0 where
  pub reads : OnlyReads before after
  pub counts : IsStill before.faults after.faults result
  pub sink : (result ≡ Err WriteFault) ⊎ (sinks ≡ sunk)

-- want of memory, or the sink's fault
abbrev pub IsWriteError : SlateDBError → Type 0
IsWriteError e = (e ≡ OutOfMemory) ⊎ (e ≡ WriteFault)

-- of a call that writes, and reads nothing
pub record WritesLines {A : Type 0} (sunk sinks : ℕ) (result : Result A SlateDBError) : Type 0 where
  pub cause : IfErr result IsWriteError
  pub sink : (result ≡ Err WriteFault) ⊎ (sinks ≡ sunk)
