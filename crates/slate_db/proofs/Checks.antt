-- What calls that follow one another rest on over a store that tells its acts alone.
--     checks_none, checks_quiet      nothing was read
--     checks_of_act, checks_of_two      one read, and two
--     slips_first, slips_last, checks_both      of a call of two parts
--     slips_among      one of the reads slipped
--     checks_ok, checks_err, checks_then      of what a call answers
-- Those of a stored table's reads stand in TableChecks.
use Rattle.std.proofs.Common.{◌≡◌, ◌⊎◌, inl, inr, zero, suc, List, [], ◌∷◌, ◌++◌, Option, Some, Result, Ok, Err, refl, sym, ap, subst, ◌∙◌, append-nil, append_assoc, arith}
use Rattle.std.specs.Prelude.{Contains, IsErr, OnOk}
use Rattle.std.specs.List.{AllByRecursion}
use Rattle.std.proofs.lemmas.Option.{same_Some}
use Rattle.slate_types.specs.declared.error.SlateDBError.{SlateDBError}
use Rattle.slate_types.specs.Outside.{Act, Meaning, Objects, OnlyReads, PutsNothing, Reach}
use Rattle.slate_types.specs.World.{IsReadAct}
use Rattle.slate_types.proofs.Lists.{AllByRecursion_append}
use Rattle.slate_store.specs.Store.{AddsAct}
use Rattle.slate_table.specs.Parts.{Encode}
use Rattle.slate_store.specs.Lying.{after_act}
use Rattle.slate_db.specs.Answered.{AnswersAct, AnswersAs, AnswersFrom}
use Rattle.slate_db.specs.Checked.{ChecksFrom, IsSlipFrom, AnySlips, SlipsFrom}

-- ---- the objects stand still where nothing is put

no_put : (os : Objects) (act : Act) → PutsNothing act → after_act os act ≡ os
no_put os (Act.put path bytes) k = absurd k
no_put os (Act.read path start len answer) k = refl
no_put os (Act.len path answer) k = refl

read_puts_nothing : (act : Act) → IsReadAct act → PutsNothing act
read_puts_nothing (Act.put path bytes) k = absurd k
read_puts_nothing (Act.read path start len answer) k = tt
read_puts_nothing (Act.len path answer) k = absurd k

pub slipped_front : (encode : Encode) (os : Objects) (xs ys : List Act) → AnySlips encode os xs → AnySlips encode os (xs ++ ys)
slipped_front encode os [] ys h = absurd h
slipped_front encode os (x ∷ xs) ys (inl k) = inl k
slipped_front encode os (x ∷ xs) ys (inr k) = inr (slipped_front encode (after_act os x) xs ys k)

slipped_behind : (encode : Encode) (os : Objects) (xs ys : List Act) → AllByRecursion PutsNothing xs → AnySlips encode os ys → AnySlips encode os (xs ++ ys)
slipped_behind encode os [] ys none h = h
slipped_behind encode os (x ∷ xs) ys none h = inr (slipped_behind encode (after_act os x) xs ys none.1 (subst (λ (o : Objects). AnySlips encode o ys) (sym (no_put os x none.0)) h))

pub slips_among : (encode : Encode) (os : Objects) (acts : List Act) (act : Act) → AllByRecursion IsReadAct acts → Contains acts act → IsSlipFrom encode os act → AnySlips encode os acts
slips_among encode os [] act reads (i, lt, is) slip = absurd (omega (arith, lt))
slips_among encode os (x ∷ xs) act reads (zero, lt, is) slip = inl (subst (IsSlipFrom encode os) (sym is) slip)
slips_among encode os (x ∷ xs) act reads (suc i, lt, is) slip =
    inr (slips_among encode (after_act os x) xs act reads.1 (i, omega (arith, lt), is) (subst (λ (o : Objects). IsSlipFrom encode o act) (sym (no_put os x (read_puts_nothing x reads.0))) slip))

-- ---- one part after another

pub slips_first : (encode : Encode) (os : Objects) (a b c : Reach) → OnlyReads b c → SlipsFrom encode os a.acts b.acts → SlipsFrom encode os a.acts c.acts
slips_first encode os a b c last s =
    let more = last.acts (s.known ++ s.acts) s.ended in
    record { known = s.known; acts = s.acts ++ more.0; began = s.began; ended = more.1 ∙ ap (λ (l : List Act). Some l) (append_assoc s.known s.acts more.0); slipped = slipped_front encode os s.acts more.0 s.slipped }

-- known: what the store tells before the first part. Where it told nothing then, nothing is known of what it tells later
pub slips_last : (encode : Encode) (os : Objects) (a b c : Reach) → OnlyReads a b → (known : List Act) → a.acts ≡ Some known → SlipsFrom encode os b.acts c.acts → SlipsFrom encode os a.acts c.acts
slips_last encode os a b c first known began s =
    let more = first.acts known began in
    let same : s.known ≡ known ++ more.0 = same_Some _ _ (sym s.began ∙ more.1) in
    record {
      known = known;
      acts = more.0 ++ s.acts;
      began = began;
      ended = s.ended ∙ ap (λ (l : List Act). Some (l ++ s.acts)) same ∙ ap (λ (l : List Act). Some l) (append_assoc known more.0 s.acts);
      slipped = slipped_behind encode os more.0 s.acts more.2 s.slipped;
    }

answers_both : (os : Objects) (first middle last : Option (List Act)) → AnswersAs os first middle → AnswersAs os middle last → AnswersAs os first last
answers_both os first middle last f l =
    let same : l.known ≡ f.known ++ f.more = same_Some _ _ (sym l.began ∙ f.ended) in
    record {
      known = f.known;
      more = f.more ++ l.more;
      began = f.began;
      ended = l.ended ∙ ap (λ (x : List Act). Some (x ++ l.more)) same ∙ ap (λ (x : List Act). Some x) (append_assoc f.known f.more l.more);
      each = AllByRecursion_append (AnswersAct os) f.more l.more f.each l.each;
    }

from_both : (os : Objects) (a b c : Reach) → OnlyReads a b → AnswersFrom os a b → AnswersFrom os b c → AnswersFrom os a c
from_both os a b c first (inl tells) l = inl tells
from_both os a b c first (inr f) (inl tells) = inl (sym first.objects ∙ tells)
from_both os a b c first (inr f) (inr l) = inr (answers_both os a.acts b.acts c.acts f l)

pub checks_both : (os : Objects) (a b c : Reach) → OnlyReads a b → OnlyReads b c → ChecksFrom os a b → ChecksFrom os b c → ChecksFrom os a c
checks_both os a b c first last f l = λ known began. by known began (f known began)
  where
    behind : (known : List Act) → a.acts ≡ Some known → AnswersFrom os a b → AnswersFrom os b c ⊎ SlipsFrom b.meaning.encode os b.acts c.acts → AnswersFrom os a c ⊎ SlipsFrom a.meaning.encode os a.acts c.acts
    behind known began answers (inl k) = inl (from_both os a b c first answers k)
    behind known began answers (inr k) = inr (slips_last a.meaning.encode os a b c first known began (subst (λ (m : Meaning). SlipsFrom m.encode os b.acts c.acts) first.meaning k))

    by : (known : List Act) → a.acts ≡ Some known → AnswersFrom os a b ⊎ SlipsFrom a.meaning.encode os a.acts b.acts → AnswersFrom os a c ⊎ SlipsFrom a.meaning.encode os a.acts c.acts
    by known began (inl k) = let more = first.acts known began in behind known began k (l (known ++ more.0) more.1)
    by known began (inr k) = inr (slips_first a.meaning.encode os a b c last k)

-- ---- none, one and two reads

pub checks_quiet : (os : Objects) (a b : Reach) → b.acts ≡ a.acts → ChecksFrom os a b
checks_quiet os a b none = λ known began. inl (inr (record { known = known; more = []; began = began; ended = none ∙ began ∙ ap (λ (l : List Act). Some l) (sym (append-nil known)); each = tt }))

pub checks_none : (os : Objects) (a : Reach) → ChecksFrom os a a
checks_none os a = checks_quiet os a a refl

pub checks_of_act : (os : Objects) (a b : Reach) (act : Act) → AddsAct a.acts act b.acts → AnswersAct os act ⊎ IsSlipFrom a.meaning.encode os act → ChecksFrom os a b
checks_of_act os a b act adds (inl k) = λ known began. inl (inr (record { known = known; more = act ∷ []; began = began; ended = adds known began; each = (k, tt) }))
checks_of_act os a b act adds (inr k) = λ known began. inr (record { known = known; acts = act ∷ []; began = began; ended = adds known began; slipped = inl k })

-- the second is known where the first was answered
pub checks_of_two : (os : Objects) (a c : Reach) (middle : Option (List Act)) (x y : Act) → AddsAct a.acts x middle → AddsAct middle y c.acts → IsReadAct x →
    (AnswersAct os x × (AnswersAct os y ⊎ IsSlipFrom a.meaning.encode os y)) ⊎ IsSlipFrom a.meaning.encode os x → ChecksFrom os a c
checks_of_two os a c middle x y first last reads h = λ known began. by known began h
  where
    both : (known : List Act) → a.acts ≡ Some known → c.acts ≡ Some (known ++ (x ∷ y ∷ []))
    both known began = last (known ++ (x ∷ [])) (first known began) ∙ ap (λ (l : List Act). Some l) (append_assoc known (x ∷ []) (y ∷ []))

    by : (known : List Act) → a.acts ≡ Some known → (AnswersAct os x × (AnswersAct os y ⊎ IsSlipFrom a.meaning.encode os y)) ⊎ IsSlipFrom a.meaning.encode os x → AnswersFrom os a c ⊎ SlipsFrom a.meaning.encode os a.acts c.acts
    by known began (inl (k, inl l)) = inl (inr (record { known = known; more = x ∷ y ∷ []; began = began; ended = both known began; each = (k, (l, tt)) }))
    by known began (inl (k, inr l)) = inr (record { known = known; acts = x ∷ y ∷ []; began = began; ended = both known began; slipped = inr (inl (subst (λ (o : Objects). IsSlipFrom a.meaning.encode o y) (sym (no_put os x (read_puts_nothing x reads))) l)) })
    by known began (inr k) = inr (record { known = known; acts = x ∷ y ∷ []; began = began; ended = both known began; slipped = inl k })

-- ---- of what a call answers

pub checks_ok : {T : Type 0} (r : Result T SlateDBError) (os : Objects) (a c : Reach) → ChecksFrom os a c → OnOk r (ChecksFrom os a c)
checks_ok (Ok x) os a c k = k
checks_ok (Err e) os a c k = tt

pub checks_err : {T : Type 0} (r : Result T SlateDBError) (os : Objects) (a c : Reach) → IsErr r → OnOk r (ChecksFrom os a c)
checks_err (Ok x) os a c k = cc
checks_err (Err e) os a c k = tt

-- the second part answers
pub checks_then : {T : Type 0} (r : Result T SlateDBError) (os : Objects) (a b c : Reach) → OnlyReads a b → OnlyReads b c → ChecksFrom os a b → OnOk r (ChecksFrom os b c) → OnOk r (ChecksFrom os a c)
checks_then (Ok x) os a b c first last f l = checks_both os a b c first last f l
checks_then (Err e) os a b c first last f l = tt
