-- Where no fault came, none was passed over.
use Rattle.std.proofs.Common.{◌≡◌, ◌⊎◌, inl, inr, ℕ, Result, Ok, Err, refl, sym, ap, subst, ◌∙◌}
use Rattle.slate_types.specs.declared.error.SlateDBError.{SlateDBError}
use Rattle.slate_types.specs.declared.error.SlateDBError.TheVariants.{StoreFault, Callback, BlockTransformError}
use Rattle.slate_types.specs.Outside.{Counts, IsOperatorStill, IsStill, IsStoreStill, IsTransformerStill, OperatorStays, StillBut, StoreStays, TransformerStays, unblamed, unblamed_by}

pub stays_at : (before after : ℕ) (e : SlateDBError) → after ≡ before → OperatorStays before after e
stays_at before after (Callback m) same = tt
stays_at before after _ same = same

pub still_at : {A : Type 0} (before after : ℕ) (r : Result A SlateDBError) → after ≡ before → IsOperatorStill before after r
still_at before after (Ok x) same = same
still_at before after (Err e) same = stays_at before after e same

-- a refusal of a call behind another one
pub stays_behind : (stays : ℕ → ℕ → SlateDBError → Type 0) (before between after : ℕ) (e : SlateDBError) → between ≡ before → stays between after e → stays before after e
stays_behind stays before between after e same h = subst (λ (n : ℕ). stays n after e) same h

pub store_stays : (before after : ℕ) (e : SlateDBError) → after ≡ before → StoreStays before after e
store_stays before after StoreFault same = tt
store_stays before after _ same = same

pub transformer_stays : (before after : ℕ) (e : SlateDBError) → after ≡ before → TransformerStays before after e
transformer_stays before after BlockTransformError same = tt
transformer_stays before after _ same = same

still_of : {A : Type 0} (stays : ℕ → ℕ → SlateDBError → Type 0) → ((before after : ℕ) (e : SlateDBError) → after ≡ before → stays before after e) →
    (before after : ℕ) (r : Result A SlateDBError) → after ≡ before → StillBut stays before after r
still_of stays at before after (Ok x) same = same
still_of stays at before after (Err e) same = at before after e same

pub store_at : {A : Type 0} (before after : ℕ) (r : Result A SlateDBError) → after ≡ before → IsStoreStill before after r
store_at before after r same = still_of StoreStays store_stays before after r same

pub transformer_at : {A : Type 0} (before after : ℕ) (r : Result A SlateDBError) → after ≡ before → IsTransformerStill before after r
transformer_at before after r same = still_of TransformerStays transformer_stays before after r same

-- ---- what the calls of tables say

pub store_told : {A : Type 0} (before after : ℕ) (r : Result A SlateDBError) → (r ≡ Err StoreFault) ⊎ (after ≡ before) → IsStoreStill before after r
store_told {A} before after r (inl failed) = subst (λ (r : Result A SlateDBError). IsStoreStill before after r) (sym failed) tt
store_told before after r (inr same) = store_at before after r same

pub transformer_told : {A : Type 0} (before after : ℕ) (r : Result A SlateDBError) → (r ≡ Err BlockTransformError) ⊎ (after ≡ before) → IsTransformerStill before after r
transformer_told {A} before after r (inl failed) = subst (λ (r : Result A SlateDBError). IsTransformerStill before after r) (sym failed) tt
transformer_told before after r (inr same) = transformer_at before after r same

pub transformer_then : {A : Type 0} (a b c : ℕ) (r : Result A SlateDBError) → b ≡ a → IsTransformerStill b c r → IsTransformerStill a c r
transformer_then a b c r same h = subst (λ (n : ℕ). IsTransformerStill n c r) same h

-- ---- all parts together

pub unasked_still : {A : Type 0} (a : Counts) (r : Result A SlateDBError) → IsStill a a r
unasked_still a r = refl

pub still_same : {A : Type 0} (before after : Counts) (x : A) → IsStill before after (Ok x) → after ≡ before
still_same before after x h = h

pub still_then : {A : Type 0} (a b c : Counts) (r : Result A SlateDBError) → b ≡ a → IsStill b c r → IsStill a c r
still_then a b c r same h = h ∙ ap (unblamed_by r) same

-- each part by itself
pub unblamed_of : (a b : Counts) (e : SlateDBError) → StoreStays a.store b.store e → OperatorStays a.operator b.operator e → TransformerStays a.transformer b.transformer e → unblamed e b ≡ unblamed e a
unfolding unblamed
unblamed_of a b StoreFault s o t = λ i. record { store = 0; operator = o i; transformer = t i }
unblamed_of a b (Callback m) s o t = λ i. record { store = s i; operator = 0; transformer = t i }
unblamed_of a b BlockTransformError s o t = λ i. record { store = s i; operator = o i; transformer = 0 }
unblamed_of a b _ s o t = λ i. record { store = s i; operator = o i; transformer = t i }

pub still_of_parts : {A : Type 0} (a b : Counts) (r : Result A SlateDBError) → IsStoreStill a.store b.store r → IsOperatorStill a.operator b.operator r → IsTransformerStill a.transformer b.transformer r → IsStill a b r
still_of_parts a b (Ok x) s o t = λ i. record { store = s i; operator = o i; transformer = t i }
still_of_parts a b (Err e) s o t = unblamed_of a b e s o t

parts_of : (a b : Counts) (e : SlateDBError) → unblamed e b ≡ unblamed e a → StoreStays a.store b.store e × OperatorStays a.operator b.operator e × TransformerStays a.transformer b.transformer e
unfolding unblamed
parts_of a b StoreFault h = (tt, ap (λ (c : Counts). c.operator) h, ap (λ (c : Counts). c.transformer) h)
parts_of a b (Callback m) h = (ap (λ (c : Counts). c.store) h, tt, ap (λ (c : Counts). c.transformer) h)
parts_of a b BlockTransformError h = (ap (λ (c : Counts). c.store) h, ap (λ (c : Counts). c.operator) h, tt)
parts_of a b _ h = (ap (λ (c : Counts). c.store) h, ap (λ (c : Counts). c.operator) h, ap (λ (c : Counts). c.transformer) h)

pub still_parts : {A : Type 0} (a b : Counts) (r : Result A SlateDBError) → IsStill a b r → IsStoreStill a.store b.store r × IsOperatorStill a.operator b.operator r × IsTransformerStill a.transformer b.transformer r
still_parts a b (Ok x) h = (ap (λ (c : Counts). c.store) h, ap (λ (c : Counts). c.operator) h, ap (λ (c : Counts). c.transformer) h)
still_parts a b (Err e) h = parts_of a b e h

-- a read of a table: the operator isn't asked
pub told_still : {A : Type 0} (a b : Counts) (r : Result A SlateDBError) → b.operator ≡ a.operator → (r ≡ Err StoreFault) ⊎ (b.store ≡ a.store) → (r ≡ Err BlockTransformError) ⊎ (b.transformer ≡ a.transformer) → IsStill a b r
told_still a b r same store transformer = still_of_parts a b r (store_told a.store b.store r store) (still_at a.operator b.operator r same) (transformer_told a.transformer b.transformer r transformer)

-- a call of the operator
pub asked_still : {A : Type 0} (a b : Counts) (r : Result A SlateDBError) → b.store ≡ a.store → IsOperatorStill a.operator b.operator r → b.transformer ≡ a.transformer → IsStill a b r
asked_still a b r store asked transformer = still_of_parts a b r (store_at a.store b.store r store) asked (transformer_at a.transformer b.transformer r transformer)
