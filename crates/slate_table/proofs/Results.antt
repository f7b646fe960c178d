-- The result of a last call, which is returned as it is.
use Rattle.std.proofs.Common.{◌≡◌, ◌⊎◌, ◌∙◌, ℕ, Bool, true, Option, Some, None, inl, inr, Ok, Err, refl, ap, sym, subst}
use Rattle.std.specs.Prelude.{Result, IfOk, IfErr, OnOk, OnErr, MatchResult, IsErrAnd, IsOkAnd, IfSome, is_ok}
use Rattle.slate_types.specs.declared.error.SlateDBError.{SlateDBError}
use Rattle.slate_types.specs.declared.error.SlateDBError.TheVariants.{StoreFault, BlockTransformError, OutOfMemory}
use Rattle.slate_store.specs.declared.store.StoreError.{StoreError}
use Rattle.slate_store.specs.declared.store.StoreError.TheVariants.{Failed, OutOfMemory as NoMemory}
use Rattle.slate_store.specs.Store.{of_store}
use Rattle.slate_types.specs.declared.block_transformer.TransformError.{TransformError}
use Rattle.slate_types.specs.declared.block_transformer.TransformError.TheVariants.{Failed as TransformFailed, OutOfMemory as TransformerWantsMemory}
use Rattle.slate_types.specs.Refusals.{of_transformer}
use Rattle.slate_types.specs.Faults.{Rose}
use Rattle.slate_table.specs.SectionReading.{IsTransformFault}
use Rattle.slate_table.specs.Reading.{IsStoreFault}
use Rattle.slate_block.specs.Damage.{◌>>=◌}

-- a store's count where the call is Ok
pub store_still : {T P : Type 0} (value : T) → (Ok value ≡ Err StoreFault) ⊎ P → P
store_still value (inl failed) = absurd cc
store_still value (inr same) = same

pub read_still : {T P : Type 0} (value : T) → (◌≡◌ {A = Result T StoreError} (Ok value) (Err Failed)) ⊎ P → P
read_still value (inl failed) = absurd cc
read_still value (inr same) = same

-- the same error as another result
pub store_err : {T U P : Type 0} (e : SlateDBError) → (◌≡◌ {A = Result T SlateDBError} (Err e) (Err StoreFault)) ⊎ P → (◌≡◌ {A = Result U SlateDBError} (Err e) (Err StoreFault)) ⊎ P
store_err e (inl failed) = let is : e ≡ StoreFault = cc in inl (ap (λ (x : SlateDBError). Err x) is)
store_err e (inr same) = inr same

pub store_longer : {P : Type 0} (a b c : ℕ) → b ≡ a → P ⊎ (c ≡ b) → P ⊎ (c ≡ a)
store_longer a b c same (inl p) = inl p
store_longer a b c same (inr e) = inr (e ∙ same)

-- a store's error as a function's own
pub store_fault : {T : Type 0} (e : StoreError) (before after : ℕ) → (◌≡◌ {A = Result T StoreError} (Err e) (Err Failed) → Rose before after) → IsStoreFault before after (of_store e)
store_fault Failed before after rose = inr (refl, rose refl)
store_fault NoMemory before after rose = inl refl

pub store_failed : {T U P : Type 0} (e : StoreError) → (◌≡◌ {A = Result T StoreError} (Err e) (Err Failed)) ⊎ P → (◌≡◌ {A = Result U SlateDBError} (Err (of_store e)) (Err StoreFault)) ⊎ P
store_failed e (inl failed) = let is : e ≡ Failed = cc in inl (ap (λ (x : StoreError). Err (of_store x)) is)
store_failed e (inr same) = inr same

pub err_is : {T : Type 0} (e f : SlateDBError) → ◌≡◌ {A = Result T SlateDBError} (Err e) (Err f) → e ≡ f
err_is e f h = cc

-- a step that did not fail, and what follows it
pub bind_again : {A B : Type 0} (r : Result A SlateDBError) (x : A) (f : A → Result B SlateDBError) → r ≡ Ok x → (r >>= f) ≡ f x
bind_again {A} r x f h = ap (λ (q : Result A SlateDBError). q >>= f) h

pub either : {A B C : Type 0} → (B → C) → A ⊎ B → A ⊎ C
either f (inl a) = inl a
either f (inr b) = inr (f b)

pub spread : {A B C D E : Type 0} → (B → E) → A ⊎ B → (A ⊎ C) ⊎ (D ⊎ E)
spread f (inl a) = inl (inl a)
spread f (inr b) = inr (inr (f b))

pub on_ok : {T E P : Type 0} (r : Result T E) → P → OnOk r P
on_ok (Ok x) p = p
on_ok (Err e) p = tt

pub on_err : {T E P : Type 0} (r : Result T E) → P → OnErr r P
on_err (Ok x) p = tt
on_err (Err e) p = p

pub either_way : {T E P : Type 0} (r : Result T E) → OnOk r P → OnErr r P → P
either_way (Ok x) ok err = ok
either_way (Err e) ok err = err

pub if_ok : {T E : Type 0} (r : Result T E) (P : T → Type 0) → ((x : T) → P x) → IfOk r P
if_ok (Ok x) P f = f x
if_ok (Err e) P f = tt

pub ok_is : {T E : Type 0} (r : Result T E) (t : Bool) → t ≡ is_ok r → OnOk r (t ≡ true)
ok_is (Ok x) t is = is
ok_is (Err e) t is = tt

pub where_ok : {T E P : Type 0} (r : Result T E) → is_ok r ≡ true → OnOk r P → P
where_ok (Ok x) is p = p
where_ok (Err e) is p = absurd cc

-- a call whose error becomes another one
pub mapped : {T D E : Type 0} (r : Result T E) (m : Result T D) (Q : E → D → Type 0) (P R : T → Type 0) → MatchResult r (λ x. m ≡ Ok x) (λ e. IsErrAnd m (Q e)) → ((x : T) → P x → R x) → IfOk r P → IfOk m R
mapped (Ok x) m Q P R is f p = subst (λ r. IfOk r R) (sym is) (f x p)
mapped (Err e) (Ok x) Q P R is f p = absurd is
mapped (Err e) (Err d) Q P R is f p = tt

pub mapped_err : {T D : Type 0} (r : Result T D) (m : Result T SlateDBError) (of : D → SlateDBError) (P : SlateDBError → Type 0) → MatchResult r (λ x. m ≡ Ok x) (λ e. IsErrAnd m (λ d. d ≡ of e)) → ((e : D) → r ≡ Err e → P (of e)) → IfErr m P
mapped_err (Ok x) m of P is f = subst (λ r. IfErr r P) (sym is) tt
mapped_err (Err e) (Ok x) of P is f = absurd is
mapped_err (Err e) (Err d) of P is f = subst P (sym is) (f e refl)

pub mapped_still : {T D P : Type 0} (r : Result T D) (m : Result T SlateDBError) (of : D → SlateDBError) (f : D) → MatchResult r (λ x. m ≡ Ok x) (λ e. IsErrAnd m (λ d. d ≡ of e)) → (r ≡ Err f) ⊎ P → (m ≡ Err (of f)) ⊎ P
mapped_still (Ok x) m of f is (inl failed) = absurd cc
mapped_still (Ok x) m of f is (inr p) = inr p
mapped_still (Err e) (Ok x) of f is h = absurd is
mapped_still (Err e) (Err d) of f is (inl failed) = let same : e ≡ f = cc in inl (ap (λ (x : SlateDBError). Err x) (is ∙ ap of same))
mapped_still (Err e) (Err d) of f is (inr p) = inr p

-- a call whose value becomes one that is there
pub mapped_some : {T E : Type 0} (r : Result T E) (m : Result (Option T) E) (P R : T → Type 0) → MatchResult r (λ x. IsOkAnd m (λ o. o ≡ Some x)) (λ e. m ≡ Err e) → ((x : T) → P x → R x) → IfOk r P → IfOk m (λ o. IfSome o R)
mapped_some (Ok x) (Ok o) P R is f p = subst (λ o. IfSome o R) (sym is) (f x p)
mapped_some (Ok x) (Err e) P R is f p = absurd is
mapped_some (Err e) m P R is f p = subst (λ r. IfOk r (λ o. IfSome o R)) (sym is) tt

pub mapped_same : {T E : Type 0} (r : Result T E) (m : Result (Option T) E) (P : E → Type 0) → MatchResult r (λ x. IsOkAnd m (λ o. o ≡ Some x)) (λ e. m ≡ Err e) → IfErr r P → IfErr m P
mapped_same (Ok x) (Ok o) P is p = tt
mapped_same (Ok x) (Err e) P is p = absurd is
mapped_same (Err e) m P is p = subst (λ r. IfErr r P) (sym is) p

pub not_none : {T E : Type 0} (r : Result T E) (m : Result (Option T) E) → MatchResult r (λ x. IsOkAnd m (λ o. o ≡ Some x)) (λ e. m ≡ Err e) → m ≡ Ok None → ⊥
not_none (Ok x) (Ok o) is none = absurd cc
not_none (Ok x) (Err e) is none = absurd is
not_none (Err e) m is none = absurd cc

-- a transformer's error as a function's own
pub transform_fault : {T : Type 0} (e : TransformError) (before after : ℕ) → (◌≡◌ {A = Result T TransformError} (Err e) (Err TransformFailed) → Rose before after) → IsTransformFault before after (of_transformer e)
transform_fault TransformFailed before after rose = inr (refl, rose refl)
transform_fault TransformerWantsMemory before after rose = inl refl

pub transform_still : {T P : Type 0} (r : Result T TransformError) (m : Result T SlateDBError) → MatchResult r (λ x. m ≡ Ok x) (λ e. IsErrAnd m (λ d. d ≡ of_transformer e)) → (r ≡ Err TransformFailed) ⊎ P → (m ≡ Err BlockTransformError) ⊎ P
transform_still (Ok x) m is (inl failed) = absurd cc
transform_still r m is (inr p) = inr p
transform_still (Err e) (Ok x) is p = absurd is
transform_still (Err TransformFailed) (Err d) is (inl failed) = inl (ap (λ (x : SlateDBError). Err x) is)
transform_still (Err TransformerWantsMemory) (Err d) is (inl failed) = absurd cc
