-- What the status of a run that an error ended says of the error.
use Rattle.std.proofs.Common.{◌≡◌, ◌⊎◌, ◌≤◌, ◌<◌, inl, inr, ℕ, List, Option, Some, Result, Err, arith, refl, sym, ap, ◌∙◌, subst}
use Rattle.slate_types.specs.declared.error.SlateDBError.{SlateDBError}
use Rattle.slate_types.specs.declared.error.SlateDBError.TheVariants.{ScriptSyntax, ScriptTooLong, OutOfMemory, ReadFault, WriteFault, StoreFault, Callback, BlockTransformError, ChecksumMismatch, InvalidRowFlags, CorruptTable, InvalidFilterBlock, InvalidSequenceOrder, MergeOperatorMissing}
use Rattle.slate_types.specs.Outside.{Counts, StoreStays, unblamed}
use Rattle.slate_types.proofs.StillLaws.{still_parts}
use Rattle.slate_db.specs.Parts.{IsTableError}
use Rattle.slate_script.specs.Program.{status, IsDamageStatus, IsGeneratedStatus, IsStatus}
use Rattle.slate_script.specs.Run.{IsPartError, IsOutside, IsScriptError}

abbrev pub EndsRun : SlateDBError → Type 0
EndsRun e = IsOutside e ⊎ IsScriptError e

by_kind : (P : SlateDBError → Type 0) → P OutOfMemory → P ReadFault → P WriteFault → ((e : SlateDBError) → IsPartError e → P e) → P ScriptTooLong → ((n : ℕ) → P (ScriptSyntax n)) → (e : SlateDBError) → EndsRun e → P e
by_kind P memory read write part long syntax e (inl (inl is)) = subst P (sym is) memory
by_kind P memory read write part long syntax e (inl (inr (inl is))) = subst P (sym is) read
by_kind P memory read write part long syntax e (inl (inr (inr (inl is)))) = subst P (sym is) write
by_kind P memory read write part long syntax e (inl (inr (inr (inr is)))) = part e is
by_kind P memory read write part long syntax e (inr (inl is)) = subst P (sym is) long
by_kind P memory read write part long syntax e (inr (inr is)) = subst P (sym is.1) (syntax is.0)

-- ---- a part's error

part_above : (e : SlateDBError) → IsPartError e → 7 ≤ status e
part_above StoreFault part = omega arith
part_above (Callback message) part = omega arith
part_above BlockTransformError part = omega arith
part_above (ChecksumMismatch stored computed) part = omega arith
part_above (InvalidRowFlags flags) part = omega arith
part_above (CorruptTable place) part = omega arith
part_above (InvalidFilterBlock len) part = omega arith
part_above (InvalidSequenceOrder before after) part = omega arith
part_above MergeOperatorMissing part = omega arith
part_above e part = absurd part

damage_is : (e : SlateDBError) → IsTableError e → IsDamageStatus (status e)
damage_is (ChecksumMismatch stored computed) damage = inl refl
damage_is (InvalidRowFlags flags) damage = inr (inl refl)
damage_is (InvalidFilterBlock len) damage = inr (inr (inl refl))
damage_is (CorruptTable place) damage = inr (inr (inr (inl refl)))
damage_is (InvalidSequenceOrder before after) damage = inr (inr (inr (inr (inl refl))))
damage_is MergeOperatorMissing damage = inr (inr (inr (inr (inr refl))))
damage_is e damage = absurd damage

part_is : (e : SlateDBError) → IsPartError e → ((message : List ℕ) → e ≡ Callback message → ⊥) → (e ≡ BlockTransformError → ⊥) → IsStatus (status e)
part_is StoreFault part operator transformer = inr (inr (inr (inr (inr (inr (inl refl))))))
part_is (Callback message) part operator transformer = absurd (operator message refl)
part_is BlockTransformError part operator transformer = absurd (transformer refl)
part_is e part operator transformer = inr (inr (inr (inr (inr (inr (inr (inl (damage_is e part))))))))

part_store : (e : SlateDBError) → IsPartError e → status e ≡ 7 → e ≡ StoreFault
part_store StoreFault part h = refl
part_store (Callback message) part h = absurd (omega (arith, h))
part_store BlockTransformError part h = absurd (omega (arith, h))
part_store (ChecksumMismatch stored computed) part h = absurd (omega (arith, h))
part_store (InvalidRowFlags flags) part h = absurd (omega (arith, h))
part_store (CorruptTable place) part h = absurd (omega (arith, h))
part_store (InvalidFilterBlock len) part h = absurd (omega (arith, h))
part_store (InvalidSequenceOrder before after) part h = absurd (omega (arith, h))
part_store MergeOperatorMissing part h = absurd (omega (arith, h))
part_store e part h = absurd part

part_damage : (e : SlateDBError) → IsPartError e → 12 ≤ status e → status e ≤ 19 → IsTableError e
part_damage StoreFault part low high = absurd (omega (arith, low))
part_damage (Callback message) part low high = absurd (omega (arith, low))
part_damage BlockTransformError part low high = absurd (omega (arith, low))
part_damage e part low high = part

-- ---- each error

pub is_status : (e : SlateDBError) → EndsRun e → ((message : List ℕ) → e ≡ Callback message → ⊥) → (e ≡ BlockTransformError → ⊥) → IsStatus (status e)
is_status =
    by_kind (λ e. ((message : List ℕ) → e ≡ Callback message → ⊥) → (e ≡ BlockTransformError → ⊥) → IsStatus (status e)) (λ _ _. inr (inr (inr (inr (inr (inr (inr (inr refl))))))))
    (λ _ _. inr (inr (inr (inr (inl refl))))) (λ _ _. inr (inr (inr (inr (inr (inl refl)))))) part_is (λ _ _. inr (inr (inr (inl refl)))) (λ n _ _. inr (inr (inl refl)))

neither_status : (n : ℕ) → (n ≡ 0 → ⊥) → (n ≡ 2 → ⊥) → (n ≡ 0) ⊎ (n ≡ 2) → ⊥
neither_status n h k (inl is) = h is
neither_status n h k (inr is) = k is

-- it is neither that of Ok nor that of words
pub is_ended : (e : SlateDBError) → EndsRun e → (status e ≡ 0) ⊎ (status e ≡ 2) → ⊥
is_ended =
    by_kind (λ e. (status e ≡ 0) ⊎ (status e ≡ 2) → ⊥) (neither_status 20 (λ h. omega (arith, h)) (λ h. omega (arith, h))) (neither_status 5 (λ h. omega (arith, h)) (λ h. omega (arith, h)))
    (neither_status 6 (λ h. omega (arith, h)) (λ h. omega (arith, h))) (λ e part. neither_status (status e) (λ h. omega (arith, h, part_above e part)) (λ h. omega (arith, h, part_above e part)))
    (neither_status 4 (λ h. omega (arith, h)) (λ h. omega (arith, h))) (λ n. neither_status 3 (λ h. omega (arith, h)) (λ h. omega (arith, h)))

pub is_read : (e : SlateDBError) → EndsRun e → status e ≡ 5 → e ≡ ReadFault
is_read = by_kind (λ e. status e ≡ 5 → e ≡ ReadFault) (λ h. absurd (omega (arith, h))) (λ h. refl) (λ h. absurd (omega (arith, h))) (λ e part h. absurd (omega (arith, h, part_above e part))) (λ h. absurd (omega (arith, h))) (λ n h. absurd (omega (arith, h)))

pub is_write : (e : SlateDBError) → EndsRun e → status e ≡ 6 → e ≡ WriteFault
is_write = by_kind (λ e. status e ≡ 6 → e ≡ WriteFault) (λ h. absurd (omega (arith, h))) (λ h. absurd (omega (arith, h))) (λ h. refl) (λ e part h. absurd (omega (arith, h, part_above e part))) (λ h. absurd (omega (arith, h))) (λ n h. absurd (omega (arith, h)))

pub is_store : (e : SlateDBError) → EndsRun e → status e ≡ 7 → e ≡ StoreFault
is_store = by_kind (λ e. status e ≡ 7 → e ≡ StoreFault) (λ h. absurd (omega (arith, h))) (λ h. absurd (omega (arith, h))) (λ h. absurd (omega (arith, h))) part_store (λ h. absurd (omega (arith, h))) (λ n h. absurd (omega (arith, h)))

pub is_too_long : (e : SlateDBError) → EndsRun e → status e ≡ 4 → e ≡ ScriptTooLong
is_too_long = by_kind (λ e. status e ≡ 4 → e ≡ ScriptTooLong) (λ h. absurd (omega (arith, h))) (λ h. absurd (omega (arith, h))) (λ h. absurd (omega (arith, h))) (λ e part h. absurd (omega (arith, h, part_above e part))) (λ h. refl) (λ n h. absurd (omega (arith, h)))

pub is_syntax : (e : SlateDBError) → EndsRun e → status e ≡ 3 → (n : ℕ) × (e ≡ ScriptSyntax n)
is_syntax = by_kind (λ e. status e ≡ 3 → (n : ℕ) × (e ≡ ScriptSyntax n)) (λ h. absurd (omega (arith, h))) (λ h. absurd (omega (arith, h))) (λ h. absurd (omega (arith, h))) (λ e part h. absurd (omega (arith, h, part_above e part))) (λ h. absurd (omega (arith, h))) (λ n h. (n, refl))

pub is_damage : (e : SlateDBError) → EndsRun e → 12 ≤ status e → status e ≤ 19 → IsTableError e
is_damage =
    by_kind (λ e. 12 ≤ status e → status e ≤ 19 → IsTableError e) (λ low high. absurd (omega (arith, high))) (λ low high. absurd (omega (arith, low))) (λ low high. absurd (omega (arith, low))) part_damage
    (λ low high. absurd (omega (arith, low))) (λ n low high. absurd (omega (arith, low)))

pub damage_between : (n : ℕ) → IsDamageStatus n → (12 ≤ n) × (n ≤ 19)
damage_between n (inl h) = (omega (arith, h), omega (arith, h))
damage_between n (inr (inl h)) = (omega (arith, h), omega (arith, h))
damage_between n (inr (inr (inl h))) = (omega (arith, h), omega (arith, h))
damage_between n (inr (inr (inr (inl h)))) = (omega (arith, h), omega (arith, h))
damage_between n (inr (inr (inr (inr (inl h))))) = (omega (arith, h), omega (arith, h))
damage_between n (inr (inr (inr (inr (inr h))))) = (omega (arith, h), omega (arith, h))

low_status : {P : Type 0} (n : ℕ) → n ≤ 6 → (n ≡ 7) ⊎ (n ≡ 20) → P
low_status n low (inl h) = absurd (omega (arith, low, h))
low_status n low (inr h) = absurd (omega (arith, low, h))

pub is_part : (e : SlateDBError) → EndsRun e → (status e ≡ 7) ⊎ (status e ≡ 20) → (e ≡ OutOfMemory) ⊎ IsPartError e
is_part =
    by_kind (λ e. (status e ≡ 7) ⊎ (status e ≡ 20) → (e ≡ OutOfMemory) ⊎ IsPartError e) (λ h. inl refl) (low_status 5 (omega arith)) (low_status 6 (omega arith)) (λ e part h. inr part)
    (low_status 4 (omega arith)) (λ n. low_status 3 (omega arith))

neither : (n : ℕ) → (n ≡ 3 → ⊥) → (n ≡ 4 → ⊥) → (n ≡ 3) ⊎ (n ≡ 4) → ⊥
neither n h k (inl is) = h is
neither n h k (inr is) = k is

from_outside : (e : SlateDBError) → IsOutside e → (status e ≡ 3) ⊎ (status e ≡ 4) → ⊥
from_outside e (inl is) = subst (λ e. (status e ≡ 3) ⊎ (status e ≡ 4) → ⊥) (sym is) (neither 20 (λ h. omega (arith, h)) (λ h. omega (arith, h)))
from_outside e (inr (inl is)) = subst (λ e. (status e ≡ 3) ⊎ (status e ≡ 4) → ⊥) (sym is) (neither 5 (λ h. omega (arith, h)) (λ h. omega (arith, h)))
from_outside e (inr (inr (inl is))) = subst (λ e. (status e ≡ 3) ⊎ (status e ≡ 4) → ⊥) (sym is) (neither 6 (λ h. omega (arith, h)) (λ h. omega (arith, h)))
from_outside e (inr (inr (inr is))) = neither (status e) (λ h. omega (arith, h, part_above e is)) (λ h. omega (arith, h, part_above e is))

-- an error of the script is the script's
pub its_own : (found : Option SlateDBError) (e : SlateDBError) → IsOutside e ⊎ (found ≡ Some e) → (status e ≡ 3) ⊎ (status e ≡ 4) → found ≡ Some e
its_own found e (inl is) which = absurd (from_outside e is which)
its_own found e (inr is) which = is

-- ---- of a run over a script that it makes for itself

part_own : (e : SlateDBError) → IsPartError e → ((message : List ℕ) → e ≡ Callback message → ⊥) → (e ≡ BlockTransformError → ⊥) → IsGeneratedStatus (status e)
part_own StoreFault part operator transformer = inr (inr (inl refl))
part_own (Callback message) part operator transformer = absurd (operator message refl)
part_own BlockTransformError part operator transformer = absurd (transformer refl)
part_own e part operator transformer = inr (inr (inr (inl (damage_is e part))))

pub is_generated : (e : SlateDBError) → IsOutside e → (e ≡ ReadFault → ⊥) → ((message : List ℕ) → e ≡ Callback message → ⊥) → (e ≡ BlockTransformError → ⊥) → IsGeneratedStatus (status e)
is_generated e (inl is) read operator transformer = subst (λ x. IsGeneratedStatus (status x)) (sym is) (inr (inr (inr (inr refl))))
is_generated e (inr (inl is)) read operator transformer = absurd (read is)
is_generated e (inr (inr (inl is))) read operator transformer = subst (λ x. IsGeneratedStatus (status x)) (sym is) (inr (inl refl))
is_generated e (inr (inr (inr is))) read operator transformer = part_own e is operator transformer

pub generated_high : (n : ℕ) → IsGeneratedStatus n → (n ≡ 0) ⊎ (6 ≤ n)
generated_high n (inl h) = inl h
generated_high n (inr (inl h)) = inr (omega (arith, h))
generated_high n (inr (inr (inl h))) = inr (omega (arith, h))
generated_high n (inr (inr (inr (inl h)))) = let low = (damage_between n h).0 in inr (omega (arith, low))
generated_high n (inr (inr (inr (inr h)))) = inr (omega (arith, h))

-- it is none of words, of a script or of a source
pub generated_not : {P : Type 0} (n k : ℕ) → IsGeneratedStatus n → n ≡ k → 0 < k → k < 6 → P
generated_not {P = P} n k own is low high = by (generated_high n own)
  where
    by : (n ≡ 0) ⊎ (6 ≤ n) → P
    by (inl h) = absurd (omega (arith, h, is, low))
    by (inr h) = absurd (omega (arith, h, is, high))

pub generated_status : (n : ℕ) → IsGeneratedStatus n → IsStatus n
generated_status n (inl h) = inl h
generated_status n (inr (inl h)) = inr (inr (inr (inr (inr (inl h)))))
generated_status n (inr (inr h)) = inr (inr (inr (inr (inr (inr h)))))

pub written_or : {P : Type 0} (n : ℕ) (e : SlateDBError) → n ≡ status e → (e ≡ WriteFault) ⊎ P → (n ≡ 0) ⊎ (n ≡ 6) ⊎ P
written_or n e is (inl h) = inr (inl (is ∙ ap status h))
written_or n e is (inr h) = inr (inr h)

-- an error of a run is its status, and else no count rose
pub status_or : {B P : Type 0} (e f : SlateDBError) (n : ℕ) (run : Result B SlateDBError) → n ≡ status e → run ≡ Err e → (run ≡ Err f) ⊎ P → (n ≡ status f) ⊎ P
status_or e f n run is was (inl h) = inl (is ∙ ap status same)
  where
    same : e ≡ f
    same = cc
status_or e f n run is was (inr h) = inr h

-- a fault of the store is the status, and else its count is as it was
stays_or : (before after : ℕ) (e : SlateDBError) (n : ℕ) → n ≡ status e → StoreStays before after e → (n ≡ 7) ⊎ (after ≡ before)
stays_or before after StoreFault n is stays = inl is
stays_or before after e n is stays = inr stays

pub store_or : (before after : Counts) (e : SlateDBError) (n : ℕ) → n ≡ status e → unblamed e after ≡ unblamed e before → (n ≡ 7) ⊎ (after.store ≡ before.store)
store_or before after e n is still = stays_or before.store after.store e n is (still_parts {A = Unit {0}} before after (Err e) still).0
