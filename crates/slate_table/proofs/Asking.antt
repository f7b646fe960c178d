-- What a call leaves of a transformer, from what it calls.
use Rattle.std.specs.Prelude.{Result, IfErr, IsErrAnd, IsOkUnless}
use Rattle.std.proofs.Common.{◌≡◌, ◌∙◌, ◌≤◌, ◌⊎◌, ℕ, List, Option, Ok, Err, inl, inr, refl, ap, subst, arith}
use Rattle.std.proofs.lemmas.Result.{err_from_is_err_and}
use Rattle.slate_types.specs.declared.error.SlateDBError.{SlateDBError}
use Rattle.slate_types.specs.declared.error.SlateDBError.TheVariants.{BlockTransformError, OutOfMemory}
use Rattle.slate_types.specs.Faults.{faults_of}
use Rattle.slate_table.specs.SectionReading.{changed_by, IsTransformFault}
use Rattle.slate_types.specs.Outside.{Objects}
use Rattle.slate_table.specs.Asking.{Counts, Asks, Stays, Reaches}
use Rattle.slate_table.proofs.PartReads.{still_ok, still_err, still_longer}
use Rattle.slate_table.proofs.Results.{store_still, store_err, store_longer}

-- want of memory, where nothing was asked, and behind a call that is Ok
memory_counts : {A : Type 0} (n m : ℕ) (r : Result A SlateDBError) → m ≡ n → IsOkUnless r OutOfMemory → Counts n m r
memory_counts n m (Ok x) same is = same
memory_counts n m (Err e) same is = inl (is, same)

pub unasked : {X A : Type 0} {encoded decoded : X → List ℕ → List ℕ} {faults : X → ℕ} {t : Option X} {r : Result A SlateDBError} →
    IsOkUnless r OutOfMemory → Asks encoded decoded faults t t r
unasked {X} {A} {encoded} {decoded} {faults} {t} {r} is = record {
  same_encoded = refl;
  same_decoded = refl;
  counts = memory_counts (faults_of faults t) (faults_of faults t) r refl is;
}

pub asked_before : {X A B : Type 0} {encoded decoded : X → List ℕ → List ℕ} {faults : X → ℕ} {old new : Option X} {x : B} {r : Result A SlateDBError} →
    Asks encoded decoded faults old new (Ok x) → IsOkUnless r OutOfMemory → Asks encoded decoded faults old new r
asked_before {X} {A} {B} {encoded} {decoded} {faults} {old} {new} {x} {r} a is = record {
  same_encoded = a.same_encoded;
  same_decoded = a.same_decoded;
  counts = memory_counts (faults_of faults old) (faults_of faults new) r a.counts is;
}

-- the exit of a `?`
pub memory_exit : {A E : Type 0} (r : Result A E) (e : E) → IsErrAnd r (λ d. d ≡ e) → (f : E) → e ≡ f → IsOkUnless r f
memory_exit (Ok x) e is f same = absurd is
memory_exit (Err d) e is f same = is ∙ same

pub memory_no_fault : {A : Type 0} (r : Result A SlateDBError) → IsOkUnless r OutOfMemory → r ≡ Err BlockTransformError → ⊥
memory_no_fault (Ok x) memory is = cc
memory_no_fault (Err e) memory is = cc

pub failed_asks : {X A B : Type 0} {encoded decoded : X → List ℕ → List ℕ} {faults : X → ℕ} {old new : Option X} {r : Result A SlateDBError} {e : SlateDBError} →
    Asks {A = B} encoded decoded faults old new (Err e) → IsErrAnd r (λ d. d ≡ e) → Asks encoded decoded faults old new r
failed_asks {X} {A} {B} {encoded} {decoded} {faults} {old} {new} {r} {e} a is =
    let p = err_from_is_err_and r is in
    rw (p.1, p.2) (record { same_encoded = a.same_encoded; same_decoded = a.same_decoded; counts = a.counts })

-- the same error as another result
pub failed_again : {X A B : Type 0} {encoded decoded : X → List ℕ → List ℕ} {faults : X → ℕ} {old new : Option X} {e : SlateDBError} →
    Asks {A = B} encoded decoded faults old new (Err e) → Asks {A = A} encoded decoded faults old new (Err e)
failed_again a = record { same_encoded = a.same_encoded; same_decoded = a.same_decoded; counts = a.counts }

-- one call behind another that is Ok
pub asks_again : {X A B : Type 0} {encoded decoded : X → List ℕ → List ℕ} {faults : X → ℕ} {old between new : Option X} {x : B} {r : Result A SlateDBError} →
    Asks encoded decoded faults old between (Ok x) → Asks encoded decoded faults between new r → Asks encoded decoded faults old new r
asks_again {X} {A} {B} {encoded} {decoded} {faults} {old} {between} {new} {x} {r} a b = record {
  same_encoded = b.same_encoded ∙ a.same_encoded;
  same_decoded = b.same_decoded ∙ a.same_decoded;
  counts = subst (λ (n : ℕ). Counts n (faults_of faults new) r) a.counts b.counts;
}

-- from the clauses of a call, and back
told_counts : {A : Type 0} (n m : ℕ) (r : Result A SlateDBError) → n ≤ m → (r ≡ Err BlockTransformError) ⊎ (m ≡ n) → IfErr r (IsTransformFault n m) → Counts n m r
told_counts n m (Ok x) later (inl failed) cause = absurd cc
told_counts n m (Ok x) later (inr same) cause = same
told_counts n m (Err e) later still (inr fault) = inr (fault.0, fault.1, later)
told_counts n m (Err e) later (inl failed) (inl memory) = absurd cc
told_counts n m (Err e) later (inr same) (inl memory) = inl (memory, same)

pub asks_of : {X A : Type 0} {encoded decoded : X → List ℕ → List ℕ} {faults : X → ℕ} {old new : Option X} {r : Result A SlateDBError} →
    changed_by encoded new ≡ changed_by encoded old → changed_by decoded new ≡ changed_by decoded old → faults_of faults old ≤ faults_of faults new →
    (r ≡ Err BlockTransformError) ⊎ (faults_of faults new ≡ faults_of faults old) →
    IfErr r (IsTransformFault (faults_of faults old) (faults_of faults new)) → Asks encoded decoded faults old new r
asks_of {X} {A} {encoded} {decoded} {faults} {old} {new} {r} encodes decodes later still cause = record {
  same_encoded = encodes;
  same_decoded = decodes;
  counts = told_counts (faults_of faults old) (faults_of faults new) r later still cause;
}

pub cause_of : {A : Type 0} (n m : ℕ) (r : Result A SlateDBError) → Counts n m r → IfErr r (IsTransformFault n m)
cause_of n m (Ok x) c = tt
cause_of n m (Err e) (inl c) = inl c.0
cause_of n m (Err e) (inr c) = inr (c.0, c.1)

pub later_of : {A : Type 0} (n m : ℕ) (r : Result A SlateDBError) → Counts n m r → n ≤ m
later_of n m (Ok x) c = omega (arith, c)
later_of n m (Err e) (inl c) = omega (arith, c.1)
later_of n m (Err e) (inr c) = c.2

pub still_of : {A : Type 0} (n m : ℕ) (r : Result A SlateDBError) → Counts n m r → (r ≡ Err BlockTransformError) ⊎ (m ≡ n)
still_of n m (Ok x) c = inr c
still_of n m (Err e) (inl memory) = inr memory.1
still_of n m (Err e) (inr fault) = inl (ap (λ (x : SlateDBError). Err x) fault.0)

-- ---- calls that read

pub unchanged : {X A : Type 0} {encoded decoded : X → List ℕ → List ℕ} {faults : X → ℕ} {t : Option X} {r : Result A SlateDBError} → Stays encoded decoded faults t t r
unchanged = record { same_encoded = refl; same_decoded = refl; later = omega arith; still = inr refl }

pub stays_err : {X A B : Type 0} {encoded decoded : X → List ℕ → List ℕ} {faults : X → ℕ} {old new : Option X} {r : Result A SlateDBError} {e : SlateDBError} →
    Stays {A = B} encoded decoded faults old new (Err e) → IsErrAnd r (λ d. d ≡ e) → Stays encoded decoded faults old new r
stays_err {X} {A} {B} {encoded} {decoded} {faults} {old} {new} {r} {e} a is =
    let p = err_from_is_err_and r is in
    rw (p.1, p.2) (record { same_encoded = a.same_encoded; same_decoded = a.same_decoded; later = a.later; still = still_err e a.still })

pub stays_ok : {X A B : Type 0} {encoded decoded : X → List ℕ → List ℕ} {faults : X → ℕ} {old new : Option X} {r : Result A SlateDBError} {x : B} →
    Stays encoded decoded faults old new (Ok x) → Stays encoded decoded faults old new r
stays_ok {x} a = record { same_encoded = a.same_encoded; same_decoded = a.same_decoded; later = a.later; still = inr (still_ok x a.still) }

-- behind a count that stayed
pub stays_behind : {X A : Type 0} {encoded decoded : X → List ℕ → List ℕ} {faults : X → ℕ} {old between new : Option X} {r : Result A SlateDBError} →
    changed_by encoded between ≡ changed_by encoded old → changed_by decoded between ≡ changed_by decoded old → faults_of faults between ≡ faults_of faults old →
    Stays encoded decoded faults between new r → Stays encoded decoded faults old new r
stays_behind {X} {A} {encoded} {decoded} {faults} {old} {between} {new} {r} encodes decodes same a = record {
  same_encoded = a.same_encoded ∙ encodes;
  same_decoded = a.same_decoded ∙ decodes;
  later = omega (arith, same, a.later);
  still = still_longer (faults_of faults old) (faults_of faults between) (faults_of faults new) same a.still;
}

pub untouched : {X A : Type 0} {objects : X → Option Objects} {faults : X → ℕ} {t : X} {r : Result A SlateDBError} → Reaches objects faults t t r
untouched = record { same_objects = refl; later = omega arith; still = inr refl }

pub reaches_err : {X A B : Type 0} {objects : X → Option Objects} {faults : X → ℕ} {old new : X} {r : Result A SlateDBError} {e : SlateDBError} →
    Reaches {A = B} objects faults old new (Err e) → IsErrAnd r (λ d. d ≡ e) → Reaches objects faults old new r
reaches_err {X} {A} {B} {objects} {faults} {old} {new} {r} {e} a is =
    let p = err_from_is_err_and r is in
    rw (p.1, p.2) (record { same_objects = a.same_objects; later = a.later; still = store_err e a.still })

pub reaches_ok : {X A B : Type 0} {objects : X → Option Objects} {faults : X → ℕ} {old new : X} {r : Result A SlateDBError} {x : B} →
    Reaches objects faults old new (Ok x) → Reaches objects faults old new r
reaches_ok {x} a = record { same_objects = a.same_objects; later = a.later; still = inr (store_still x a.still) }

pub reaches_again : {X A B : Type 0} {objects : X → Option Objects} {faults : X → ℕ} {old between new : X} {r : Result A SlateDBError} {x : B} →
    Reaches objects faults old between (Ok x) → Reaches objects faults between new r → Reaches objects faults old new r
reaches_again {X} {A} {B} {objects} {faults} {old} {between} {new} {r} {x} a b = record {
  same_objects = b.same_objects ∙ a.same_objects;
  later = omega (arith, a.later, b.later);
  still = store_longer (faults old) (faults between) (faults new) (store_still x a.still) b.still;
}
