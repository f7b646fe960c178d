-- Calls of iterators that reach nothing outside.
use Rattle.std.proofs.Common.{◌≡◌, ◌⊎◌, inl, inr, List, [], None, refl, subst, arith, append-nil}
use Rattle.slate_types.specs.declared.error.SlateDBError.{SlateDBError}
use Rattle.slate_types.specs.declared.error.SlateDBError.TheVariants.{OutOfMemory, StoreFault, Callback, BlockTransformError}
use Rattle.slate_types.specs.Outside.{Act, IsCounted, IsFault, no_faults, no_reach}
use Rattle.slate_types.specs.Refusing.{Refusals, NoMore}
use Rattle.slate_types.specs.World.{IsCall, Made}
use Rattle.slate_types.proofs.Calls.{reads_no_act}

counted_memory : (e : SlateDBError) → IsCounted no_faults no_faults e → e ≡ OutOfMemory
counted_memory OutOfMemory h = refl
counted_memory StoreFault h = absurd (omega (arith, h))
counted_memory (Callback m) h = absurd (omega (arith, h))
counted_memory BlockTransformError h = absurd (omega (arith, h))
counted_memory _ h = absurd h

-- what may be refused behind a call that read nothing could be refused before it
pub fewer_here : (T : List Act → Type 0) (x y : Refusals) (e : SlateDBError) → Made no_reach no_reach (λ reads. T reads × NoMore x reads y) → y [] None e → x [] None e
fewer_here T x y e made h = subst (λ (reads : List Act). x reads None e) (reads_no_act made.0 made.1) (subst (λ (reads : List Act). x reads None e) (append-nil made.0) (made.2.1 [] None e h))

-- a refusal there
pub cause_here : (x : Refusals) (reads : List Act) (e : SlateDBError) → IsCall no_reach no_reach reads → IsFault no_reach no_reach e ⊎ x reads None e → (e ≡ OutOfMemory) ⊎ x [] None e
cause_here x reads e call (inl h) = inl (counted_memory e h)
cause_here x reads e call (inr h) = inr (subst (λ (reads : List Act). x reads None e) (reads_no_act reads call) h)

pub cause_before : (x y : SlateDBError → Type 0) (e : SlateDBError) → (y e → x e) → (e ≡ OutOfMemory) ⊎ y e → (e ≡ OutOfMemory) ⊎ x e
cause_before x y e f (inl h) = inl h
cause_before x y e f (inr h) = inr (f h)
