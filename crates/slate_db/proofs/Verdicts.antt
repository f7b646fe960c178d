-- What a commit's verdict says of its answer.
use Rattle.std.proofs.Common.{◌≡◌, ℕ, ◌-◌, ◌^◌, ◌<◌, ◌≤◌, ◌==◌, Bool, true, false, List, [], ◌∷◌, Option, Some, None, ◌⊎◌, inl, inr, refl, sym, ap, subst, ◌∙◌, arith}
use Rattle.std.specs.Prelude.{Result, Ok, Err, IfErr, IsSome, option_map}
use Rattle.std.proofs.lemmas.Bool.Decides.{nat_tests}
use Rattle.slate_types.specs.declared.error.SlateDBError.{SlateDBError}
use Rattle.slate_types.specs.declared.error.SlateDBError.TheVariants.{OutOfMemory, SequenceExhausted, TransactionConflict}
use Rattle.slate_mem.specs.Batch.{Ops}
use Rattle.slate_mem.specs.BatchModel.{holds_merge}
use Rattle.slate_mem.specs.Refusals.{first_refusal, when}
use Rattle.slate_txn.specs.HandedOver.{IsConflict}
use Rattle.slate_txn.specs.Refusals.{unless_empty}
use Rattle.slate_db.specs.Calls.Commit.{AsksNobody, commit_verdict_of}
use Rattle.slate_db.specs.Calls.Common.{Decides}
use Rattle.slate_db.specs.Committed.{IsNextOf}

below : (last : ℕ) → last < 2 ^ 64 - 2 → (last == 2 ^ 64 - 2) ≡ false
below last fits = grind (arith, nat_tests)

at_end : (last : ℕ) → last ≡ 2 ^ 64 - 2 → (last == 2 ^ 64 - 2) ≡ true
at_end last h = grind (arith, nat_tests)

pub end_of : (last : ℕ) → (last == 2 ^ 64 - 2) ≡ true → last ≡ 2 ^ 64 - 2
end_of last h = grind (arith, nat_tests)

pub below_of : (last : ℕ) → last ≤ 2 ^ 64 - 2 → (last == 2 ^ 64 - 2) ≡ false → last < 2 ^ 64 - 2
below_of last fits h = grind (arith, nat_tests)

-- ---- which it is

first_alone : (r : Option SlateDBError) → first_refusal (r ∷ []) ≡ r
first_alone None = refl
first_alone (Some e) = refl

pub verdict_empty : (free : Option ℕ) (last : ℕ) (ops : Ops) (tested : Option SlateDBError) → free ≡ None → ops ≡ [] → commit_verdict_of free last ops tested ≡ None
verdict_empty (Some n) last ops tested none empty = cc
verdict_empty None last [] tested none empty = refl
verdict_empty None last (o ∷ os) tested none empty = cc

pub verdict_spent : (free : Option ℕ) (last : ℕ) (ops : Ops) (tested : Option SlateDBError) → free ≡ None → (ops ≡ [] → ⊥) → last ≡ 2 ^ 64 - 2 → commit_verdict_of free last ops tested ≡ Some SequenceExhausted
verdict_spent (Some n) last ops tested none some full = cc
verdict_spent None last [] tested none some full = absurd (some refl)
verdict_spent None last (o ∷ os) tested none some full = ap (λ b. first_refusal (when b SequenceExhausted ∷ tested ∷ [])) (at_end last full)

pub verdict_tested : (free : Option ℕ) (last : ℕ) (ops : Ops) (tested : Option SlateDBError) → free ≡ None → (ops ≡ [] → ⊥) → last < 2 ^ 64 - 2 → commit_verdict_of free last ops tested ≡ tested
verdict_tested (Some n) last ops tested none some place = cc
verdict_tested None last [] tested none some place = absurd (some refl)
verdict_tested None last (o ∷ os) tested none some place = ap (λ b. first_refusal (when b SequenceExhausted ∷ tested ∷ [])) (below last place) ∙ first_alone tested

pub none_free : (free : Option ℕ) (last : ℕ) (ops : Ops) (tested : Option SlateDBError) → commit_verdict_of free last ops tested ≡ None → free ≡ None
none_free (Some n) last ops tested is = cc
none_free None last ops tested is = refl

pub none_tested : (free : Option ℕ) (last : ℕ) (ops : Ops) (tested : Option SlateDBError) (n : Option ℕ) → IsNextOf last ops n → (ops ≡ [] → tested ≡ None) → commit_verdict_of free last ops tested ≡ None → tested ≡ None
none_tested free last ops tested None next idle is = idle next
none_tested free last ops tested (Some k) next idle is = sym (verdict_tested free last ops tested (none_free free last ops tested is) next.2 next.1) ∙ is

-- ---- what it decides

pub decides_ok : {A : Type 0} (verdict : Option SlateDBError) (fault : SlateDBError → Type 0) (x : A) → verdict ≡ None → (let r : Result A SlateDBError = Ok x in Decides verdict fault r)
decides_ok None fault x is = tt
decides_ok (Some e) fault x is = cc

pub decides_err : (A : Type 0) (verdict : Option SlateDBError) (fault : SlateDBError → Type 0) (e : SlateDBError) → verdict ≡ Some e → (let r : Result A SlateDBError = Err e in Decides verdict fault r)
decides_err A None fault e is = cc
decides_err A (Some f) fault e is = inl (let same : f ≡ e = cc in ap Err (sym same))

-- want of memory, whatever the verdict
pub decides_short : {A : Type 0} (verdict : Option SlateDBError) (fault : SlateDBError → Type 0) (result : Result A SlateDBError) → fault OutOfMemory → result ≡ Err OutOfMemory → Decides verdict fault result
decides_short None fault result short is = subst (λ r. IfErr r fault) (sym is) short
decides_short (Some e) fault result short is = inr is

-- a transaction that is refused before its operations are looked at
pub decides_tested : {A : Type 0} (free : Option ℕ) (last : ℕ) (ops : Ops) (tested : Option SlateDBError) (fault : SlateDBError → Type 0) (x e : SlateDBError) (result : Result A SlateDBError) → fault OutOfMemory → result ≡ Err x → x ≡ e → (e ≡ OutOfMemory) ⊎ IsConflict free e →
    Decides (commit_verdict_of free last ops tested) fault result
decides_tested free last ops tested fault x e result short is same (inl memory) = decides_short (commit_verdict_of free last ops tested) fault result short (is ∙ ap Err (same ∙ memory))
decides_tested None last ops tested fault x e result short is same (inr met) = absurd met
decides_tested (Some n) last ops tested fault x e result short is same (inr met) = inl (is ∙ ap Err (same ∙ met))

-- by the tests of the batch that it is made of
pub decides_batch : {Called : Type 0} (A B : Type 0) (verdict batch : Option SlateDBError) (fault : SlateDBError → Type 0) (e : SlateDBError) → verdict ≡ batch →
    ((f : SlateDBError) → batch ≡ Some f → let r : Result A SlateDBError = Err e in (r ≡ Err f) ⊎ (r ≡ Err OutOfMemory)) → ((e ≡ OutOfMemory) ⊎ Called → fault e) → (e ≡ OutOfMemory) ⊎ (batch ≡ Some e) ⊎ Called →
    (let r : Result B SlateDBError = Err e in Decides verdict fault r)
decides_batch A B None batch fault e is first faulted (inl short) = faulted (inl short)
decides_batch A B None batch fault e is first faulted (inr (inl test)) = let no : None ≡ Some e = is ∙ test in cc
decides_batch A B None batch fault e is first faulted (inr (inr called)) = faulted (inr called)
decides_batch A B (Some f) batch fault e is first faulted cause = moved (first f (sym is))
  where
    moved : (let r : Result A SlateDBError = Err e in (r ≡ Err f) ⊎ (r ≡ Err OutOfMemory)) → (let r : Result B SlateDBError = Err e in (r ≡ Err f) ⊎ (r ≡ Err OutOfMemory))
    moved (inl h) = inl (let same : e ≡ f = cc in ap Err same)
    moved (inr h) = inr (let same : e ≡ OutOfMemory = cc in ap Err same)

-- of another value, an equal verdict and a wider fault
pub decides_ok_as : {A B : Type 0} (verdict wanted : Option SlateDBError) (fault wider : SlateDBError → Type 0) (x : A) (y : B) → verdict ≡ wanted → (let r : Result A SlateDBError = Ok x in Decides verdict fault r) → (let r : Result B SlateDBError = Ok y in Decides wanted wider r)
decides_ok_as verdict None fault wider x y same h = tt
decides_ok_as None (Some e) fault wider x y same h = cc
decides_ok_as (Some f) (Some e) fault wider x y same (inl h) = cc
decides_ok_as (Some f) (Some e) fault wider x y same (inr h) = cc

pub decides_err_as : (A B : Type 0) (verdict wanted : Option SlateDBError) (fault wider : SlateDBError → Type 0) (e : SlateDBError) → verdict ≡ wanted → (fault e → wider e) → (let r : Result A SlateDBError = Err e in Decides verdict fault r) → (let r : Result B SlateDBError = Err e in Decides wanted wider r)
decides_err_as A B None None fault wider e same weaker h = weaker h
decides_err_as A B None (Some f) fault wider e same weaker h = cc
decides_err_as A B (Some f) None fault wider e same weaker h = cc
decides_err_as A B (Some g) (Some f) fault wider e same weaker (inl h) = inl (let is : e ≡ f = cc in ap Err is)
decides_err_as A B (Some g) (Some f) fault wider e same weaker (inr h) = inr (let is : e ≡ OutOfMemory = cc in ap Err is)

pub decided_none : {A : Type 0} (verdict : Option SlateDBError) (fault : SlateDBError → Type 0) (x : A) → (let r : Result A SlateDBError = Ok x in Decides verdict fault r) → verdict ≡ None
decided_none None fault x h = refl
decided_none (Some e) fault x (inl h) = cc
decided_none (Some e) fault x (inr h) = cc

-- ---- whom it asks

-- once nothing but the tests is left, where the parts ask nobody by theirs or without a merge
pub asks_tested : {P : Type 0} (free : Option ℕ) (last : ℕ) (ops : Ops) (tested : Option SlateDBError) → free ≡ None → (ops ≡ [] → ⊥) → last < 2 ^ 64 - 2 → ((e : SlateDBError) → tested ≡ Some e → P) → (holds_merge ops ≡ false → P) → AsksNobody (commit_verdict_of free last ops tested) ops → P
asks_tested {P = P} free last ops tested none some place refused plain (inr h) = plain h
asks_tested {P = P} free last ops tested none some place refused plain (inl h) = by tested refused (subst IsSome (verdict_tested free last ops tested none some place) h)
  where
    by : (r : Option SlateDBError) → ((e : SlateDBError) → r ≡ Some e → P) → IsSome r → P
    by (Some e) refused h = refused e refl
    by None refused h = cc
