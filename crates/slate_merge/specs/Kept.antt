-- Refusals that are kept.
--     IsKept k e      the kept refusal k, which isn't want of memory, is e
--     Copies k e      e is the refusal k once more, or want of memory in its place
use Rattle.std.specs.Prelude.{◌≡◌, ◌⊎◌, ◌≢◌}
use Rattle.slate_types.specs.declared.error.SlateDBError.{SlateDBError}
use Rattle.slate_types.specs.declared.error.SlateDBError.TheVariants.{OutOfMemory}

abbrev pub IsKept : SlateDBError → SlateDBError → Type 0
IsKept k e = (k ≢ OutOfMemory) × (e ≡ k)

abbrev pub Copies : SlateDBError → SlateDBError → Type 0
Copies k e = (e ≡ k) ⊎ (e ≡ OutOfMemory)
