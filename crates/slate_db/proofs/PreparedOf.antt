-- What was prepared, in the words of its batch: rows, prefixes and refusals.
use Rattle.std.proofs.Common.{◌≡◌, ℕ, ◌-◌, ◌^◌, ◌<◌, Bool, true, false, cond, bytes_eq, unwrap_or, List, [], ◌∷◌, ◌++◌, map, Option, Some, None, ◌⊎◌, inl, inr, ℤ, refl, sym, ap, subst, ◌∙◌}
use Rattle.std.specs.Prelude.{is_some, Result, Ok, Err, IfOk, IfErr}
use Rattle.slate_types.specs.declared.error.SlateDBError.{SlateDBError}
use Rattle.slate_types.specs.declared.error.SlateDBError.TheVariants as errors
use Rattle.slate_types.specs.Fold.{Combine}
use Rattle.slate_types.specs.Keys.{keys_set}
use Rattle.slate_mem.specs.Batch.{batch_keys}
use Rattle.slate_mem.specs.BatchModel.{BatchModel}
use Rattle.slate_mem.specs.KeyTests.{Segments, key_refusal, merges_refusal, nest_refusals, prefixes, test_refusals}
use Rattle.slate_mem.specs.Refusals.{first_refusal}
use Rattle.slate_mem.proofs.NestLaws.{set_of_rest}
use Rattle.slate_txn.specs.Conflict.{conflict}
use Rattle.slate_txn.specs.HandedOver.{IsConflict}
use Rattle.slate_txn.specs.Named.{find_named, update_named}
use Rattle.slate_txn.specs.State.{Tx, last_of}
use Rattle.slate_db.specs.declared.prepared.Prepared.{Prepared}
use Rattle.slate_db.specs.BatchTests.{IsTestRefusal, batch_refusal}
use Rattle.slate_db.specs.Committed.{IsFull}
use Rattle.slate_db.specs.Log.{LIMIT, IsWhollyKept}
use Rattle.slate_db.specs.Model.{CoreModel}
use Rattle.slate_db.specs.Prepared.{PreparedWith, IsAccepted, IsDecided, IsPrepared, lone_refusal, whole_refusal, own_batch, prepared_for}
use Rattle.slate_db.proofs.Commits.{same_txn}
use Rattle.slate_db.proofs.Plain.{some_ops}
use Rattle.slate_db.proofs.Tests.{refused_nests, refused_none, refused_own}

-- ---- refusals

pub lone : (w : PreparedWith) (recorded : List (List ℕ)) (e : SlateDBError) → (e ≡ errors.OutOfMemory) ⊎ (lone_refusal w ≡ Some e) → (e ≡ errors.OutOfMemory) ⊎ (whole_refusal w recorded ≡ Some e)
lone w recorded e is = refused_own w.combine w.segments w.segments recorded w.default_millis w.now w.now (is_some w.combine) w.batch refl refl refl e is

pub nests : (w : PreparedWith) (recorded own : List (List ℕ)) (e : SlateDBError) → own ≡ keys_set (prefixes w.segments w.batch.ops) → lone_refusal w ≡ None → (e ≡ errors.OutOfMemory) ⊎ (first_refusal (nest_refusals recorded own) ≡ Some e) →
    (e ≡ errors.OutOfMemory) ⊎ (whole_refusal w recorded ≡ Some e)
nests w recorded own e are fine is = refused_nests w.combine w.segments w.segments recorded w.default_millis w.now w.now (is_some w.combine) w.batch refl refl refl own e are fine is

pub none : (w : PreparedWith) (recorded own : List (List ℕ)) → own ≡ keys_set (prefixes w.segments w.batch.ops) → lone_refusal w ≡ None → first_refusal (nest_refusals recorded own) ≡ None → whole_refusal w recorded ≡ None
none w recorded own are fine is = refused_none w.combine w.segments w.segments recorded w.default_millis w.now w.now (is_some w.combine) w.batch refl refl refl own are fine is

first_none : (o : Option SlateDBError) (es : List (Option SlateDBError)) → first_refusal (o ∷ es) ≡ None → o ≡ None
first_none None es h = refl
first_none (Some e) es h = cc

pub lone_merges : (w : PreparedWith) → lone_refusal w ≡ None → merges_refusal (is_some w.combine) w.batch.held_merge ≡ None
lone_merges w h = first_none (merges_refusal (is_some w.combine) w.batch.held_merge) (map (key_refusal w.segments w.default_millis w.now w.batch.ops) (batch_keys w.batch.ops)) h

-- by the arguments of the call
pub alone_as : (w : PreparedWith) (h : Segments) (z : ℤ) (there : Bool) → there ≡ is_some w.combine → h ≡ w.segments → z ≡ w.now → first_refusal (test_refusals there w.batch.held_merge h w.default_millis z w.batch.ops) ≡ lone_refusal w
alone_as w h z there is lengths moments = λ i. first_refusal (test_refusals (is i) w.batch.held_merge (lengths i) w.default_millis (moments i) w.batch.ops)

pub of_ok : {A E : Type 0} (P : A → Type 0) (r : Result A E) (x : A) → r ≡ Ok x → IfOk r P → P x
of_ok {A} {E} P r x is h = subst (λ (s : Result A E). IfOk s P) is h

pub of_err : {A E : Type 0} (P : E → Type 0) (r : Result A E) (e : E) → r ≡ Err e → IfErr r P → P e
of_err {A} {E} P r e is h = subst (λ (s : Result A E). IfErr s P) is h

-- ---- in a core, of its parts

pub named_there : (c d : CoreModel) (id : List ℕ) (t : Tx) → c ≡ d → find_named id c.state.txns ≡ Some t → find_named id d.state.txns ≡ Some t
named_there c d id t same there = ap (λ (v : CoreModel). find_named id v.state.txns) (sym same) ∙ there

pub of_parts : (c d : CoreModel) (id : List ℕ) (t u : Tx) (o : Option (List ℕ → Combine)) (g : Segments) (now : ℤ) (p : Prepared) → c ≡ d → find_named id c.state.txns ≡ Some t → find_named id d.state.txns ≡ Some u →
    IsPrepared (prepared_for o g d.settings.default_millis now (own_batch u.ops)) p → IsPrepared (prepared_for o g c.settings.default_millis now (own_batch t.ops)) p
of_parts c d id t u o g now p same here there is =
    subst (λ (v : Tx). IsPrepared (prepared_for o g c.settings.default_millis now (own_batch v.ops)) p) (sym (same_txn c d id t u same here there))
    (subst (λ (v : CoreModel). IsPrepared (prepared_for o g v.settings.default_millis now (own_batch u.ops)) p) (sym same) is)

-- of an equal core and an equal transaction
pub decided_as : {C : Type 0} (fault : SlateDBError → Type 0) (o : Option C) (g : Segments) (now : ℤ) (c d : CoreModel) (t u : Tx) (r : Result (Option ℕ) SlateDBError) → c ≡ d → t ≡ u →
    IsDecided fault o g c.settings now c.segments c.state.commits t r → IsDecided fault o g d.settings now d.segments d.state.commits u r
decided_as fault o g now c d t u r same one is =
    subst (λ (x : Tx). IsDecided fault o g d.settings now d.segments d.state.commits x r) one
    (subst (λ (v : CoreModel). IsDecided fault o g v.settings now v.segments v.state.commits t r) same is)

-- the causes of a part, at an equal sequence
pub prepared_cause : {C : Type 0} (o : Option C) (g : Segments) (c : CoreModel) (n last : ℕ) (now : ℤ) (t : Tx) (e : SlateDBError) → n ≡ last →
    (e ≡ errors.OutOfMemory) ⊎ (IsConflict (conflict c.state.commits t) e ⊎ IsFull n (conflict c.state.commits t) t.ops e) ⊎ IsTestRefusal o g c.segments c.settings.default_millis now n (conflict c.state.commits t) t.ops e →
    (e ≡ errors.OutOfMemory) ⊎ IsConflict (conflict c.state.commits t) e ⊎ IsFull last (conflict c.state.commits t) t.ops e ⊎ IsTestRefusal o g c.segments c.settings.default_millis now last (conflict c.state.commits t) t.ops e
prepared_cause o g c n last now t e seqs (inl short) = inl short
prepared_cause o g c n last now t e seqs (inr (inl (inl met))) = inr (inl met)
prepared_cause o g c n last now t e seqs (inr (inl (inr full))) = inr (inr (inl (subst (λ k. IsFull k (conflict c.state.commits t) t.ops e) seqs full)))
prepared_cause o g c n last now t e seqs (inr (inr test)) = inr (inr (inr (subst (λ k. IsTestRefusal o g c.segments c.settings.default_millis now k (conflict c.state.commits t) t.ops e) seqs test)))

-- ---- what is handed over

-- of what stands under a name, two changes that agree on it make the same
pub updated_alike : {X : Type 0} (k : List ℕ) (f g : X → X) (x : X) (ps : List (List ℕ × X)) → find_named k ps ≡ Some x → f x ≡ g x → update_named k f ps ≡ update_named k g ps
updated_alike k f g x [] h e = refl
updated_alike {X} k f g x (p ∷ ps) h e = by (bytes_eq p.0 k) h (λ z. updated_alike k f g x ps z e)
  where
    by : (b : Bool) → cond b (Some p.1) (find_named k ps) ≡ Some x → (find_named k ps ≡ Some x → update_named k f ps ≡ update_named k g ps) →
        cond b ((p.0, f p.1) ∷ ps) (p ∷ update_named k f ps) ≡ cond b ((p.0, g p.1) ∷ ps) (p ∷ update_named k g ps)
    by true h rest = let is : p.1 ≡ x = ap (λ (o : Option X). unwrap_or o x) h in ap (λ y. (p.0, y) ∷ ps) (ap f is ∙ e ∙ ap g (sym is))
    by false h rest = ap (λ qs. p ∷ qs) (rest h)

-- ---- a write

pub wholly : (w : PreparedWith) (p : Prepared) → IsPrepared w p → (p.ops ≡ [] → ⊥) → IsWhollyKept p.ops
wholly w p is some = subst IsWhollyKept (sym is.ops) (record { some = some_ops w.batch.ops (λ none. some (is.ops ∙ none)); kept = is.kept; fine = is.fine })

pub at_default : (c d : CoreModel) (o : Option (List ℕ → Combine)) (g : Segments) (now : ℤ) (b : BatchModel) (p : Prepared) → c ≡ d → IsPrepared (prepared_for o g d.settings.default_millis now b) p → IsPrepared (prepared_for o g c.settings.default_millis now b) p
at_default c d o g now b p same is = subst (λ (v : CoreModel). IsPrepared (prepared_for o g v.settings.default_millis now b) p) (sym same) is

pub accepted_as : {C : Type 0} (fault : SlateDBError → Type 0) (o : Option C) (g : Segments) (now : ℤ) (c d : CoreModel) (full : Type 0) (b : BatchModel) (r : Result (Option ℕ) SlateDBError) → c ≡ d →
    IsAccepted fault o g c.settings now c.segments c.state.commits full b r → IsAccepted fault o g d.settings now d.segments d.state.commits full b r
accepted_as fault o g now c d full b r same is = subst (λ (v : CoreModel). IsAccepted fault o g v.settings now v.segments v.state.commits full b r) same is

pub refused_alone : {C : Type 0} (o : Option C) (g : Segments) (c : CoreModel) (full : Type 0) (now : ℤ) (b : BatchModel) (e : SlateDBError) → (b.ops ≡ [] → ⊥) → last_of c.settings.start_seq c.state.commits < 2 ^ 64 - 2 → {P : Type 0} → (P → full) →
    (e ≡ errors.OutOfMemory) ⊎ (batch_refusal o g c.segments c.settings.default_millis now b ≡ Some e) ⊎ ((e ≡ errors.LimitReached LIMIT) × P × (batch_refusal o g c.segments c.settings.default_millis now b ≡ None)) →
    IsAccepted (λ e. e ≡ errors.OutOfMemory) o g c.settings now c.segments c.state.commits full b (Err e)
refused_alone o g c full now b e some below past (inl short) = record { next = tt; tested = tt; cause = inl short }
refused_alone o g c full now b e some below past (inr (inl test)) = record { next = tt; tested = tt; cause = inr (inr (inl (some, below, test))) }
refused_alone o g c full now b e some below past (inr (inr limit)) = record { next = tt; tested = tt; cause = inr (inr (inr (limit.0, some, below, limit.2, past limit.1))) }
