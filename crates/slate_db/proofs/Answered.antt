-- What is known of a read by the acts of the call that it stands in.
use Rattle.std.proofs.Common.{◌≡◌, ℕ, ◌⊎◌, inl, inr, List, [], ◌∷◌, ◌++◌, Option, Some, refl, sym, ap, subst, ◌∙◌, append_assoc}
use Rattle.std.specs.List.{AllByRecursion}
use Rattle.std.proofs.lemmas.List.{append_cancel_left}
use Rattle.std.proofs.lemmas.Option.{same_Some}
use Rattle.slate_types.specs.Outside.{Objects, OnlyReads, Reach}
use Rattle.slate_types.proofs.Reaching.{adds_none}
use Rattle.slate_store.specs.Store.{Act, AnswersRead, object_at, part_of}
use Rattle.slate_table.specs.Reading.{IsRead, Reads}
use Rattle.slate_table.proofs.FrameReads.{answered}
use Rattle.slate_db.specs.Answered.{AddsReads, AnswersAct, AnswersAs, AnswersFrom, Answering}
use Rattle.slate_types.proofs.Lists.{AllByRecursion_front, AllByRecursion_behind}

-- ---- acts are only added

pub adds_same : (before after : Option (List Act)) → after ≡ before → AddsReads before after
adds_same before after same = subst (AddsReads before) (sym same) (adds_none before)

pub adds_read : (objects : Option Objects) (before after : Option (List Act)) (path : List ℕ) (start size : ℕ) (means : Option (List ℕ) → Type 0) → Reads objects before after path start size means → AddsReads before after
adds_read objects before after path start size means r known is = (Act.read path start size r.1.0 ∷ [], r.1.2 known is, (tt, tt))

pub adds_once : (objects : Option Objects) (before after : Option (List Act)) (path : List ℕ) (start size : ℕ) → (after ≡ before) ⊎ Reads objects before after path start size (λ _. Unit {0}) → AddsReads before after
adds_once objects before after path start size (inl same) = adds_same before after same
adds_once objects before after path start size (inr r) = adds_read objects before after path start size (λ _. Unit {0}) r

-- ---- a call of two parts

acts_of_both : (os : Objects) (first middle last : Option (List Act)) → (f : AddsReads first middle) → (l : AddsReads middle last) → (a : AnswersAs os first last) →
    (some rest : List Act) × (middle ≡ Some (a.known ++ some)) × (last ≡ Some ((a.known ++ some) ++ rest)) × AllByRecursion (AnswersAct os) (some ++ rest)
acts_of_both os first middle last f l a =
    let some = f a.known a.began in
    let rest = l (a.known ++ some.0) some.1 in
    let same : a.more ≡ some.0 ++ rest.0 = append_cancel_left a.known a.more (some.0 ++ rest.0) (same_Some _ _ (sym a.ended ∙ rest.1) ∙ append_assoc a.known some.0 rest.0) in
    (some.0, rest.0, some.1, rest.1, subst (AllByRecursion (AnswersAct os)) same a.each)

answers_first : (os : Objects) (first middle last : Option (List Act)) → AddsReads first middle → AddsReads middle last → AnswersAs os first last → AnswersAs os first middle
answers_first os first middle last f l a =
    let both = acts_of_both os first middle last f l a in
    record { known = a.known; more = both.0; began = a.began; ended = both.2; each = AllByRecursion_front (AnswersAct os) both.0 both.1 both.4 }

answers_last : (os : Objects) (first middle last : Option (List Act)) → AddsReads first middle → AddsReads middle last → AnswersAs os first last → AnswersAs os middle last
answers_last os first middle last f l a =
    let both = acts_of_both os first middle last f l a in
    record { known = a.known ++ both.0; more = both.1; began = both.2; ended = both.3; each = AllByRecursion_behind (AnswersAct os) both.0 both.1 both.4 }

pub answering_first : (os : Objects) (objects : Option Objects) (first middle last : Option (List Act)) → AddsReads first middle → AddsReads middle last → Answering os objects first last → Answering os objects first middle
answering_first os objects first middle last f l (inl is) = inl is
answering_first os objects first middle last f l (inr a) = inr (answers_first os first middle last f l a)

pub answering_last : (os : Objects) (objects objects2 : Option Objects) (first middle last : Option (List Act)) → objects2 ≡ objects → AddsReads first middle → AddsReads middle last → Answering os objects first last → Answering os objects2 middle last
answering_last os objects objects2 first middle last same f l (inl is) = inl (same ∙ is)
answering_last os objects objects2 first middle last same f l (inr a) = inr (answers_last os first middle last f l a)

pub from_first : (os : Objects) (a b c : Reach) → OnlyReads a b → OnlyReads b c → AnswersFrom os a c → AnswersFrom os a b
from_first os a b c f l h = answering_first os a.objects a.acts b.acts c.acts f.acts l.acts h

pub from_last : (os : Objects) (a b c : Reach) → OnlyReads a b → OnlyReads b c → AnswersFrom os a c → AnswersFrom os b c
from_last os a b c f l h = answering_last os a.objects b.objects a.acts b.acts c.acts f.objects f.acts l.acts h

-- ---- a read of an object whose bytes are known

abbrev pub Knows : Option Objects → Option (List Act) → Option (List Act) → List ℕ → List ℕ → Type 0
Knows told before after path bytes = (start size : ℕ) (answer : Option (List ℕ)) → IsRead told before after path start size answer → answer ≡ part_of (Some bytes) start size

-- of a store that tells its objects
knows_told : (told : Option Objects) (os : Objects) (before after : Option (List Act)) (path bytes : List ℕ) → told ≡ Some os → object_at os path ≡ Some bytes → Knows told before after path bytes
knows_told told os before after path bytes is there start size answer read = answered told os before after path bytes start size answer is there read

-- of one that tells its acts
knows_acts : (told : Option Objects) (os : Objects) (before after : Option (List Act)) (path bytes : List ℕ) → AnswersAs os before after → object_at os path ≡ Some bytes → Knows told before after path bytes
knows_acts told os before after path bytes a there start size answer (given, _, adds, is) =
    let act = Act.read path start size given in
    let same : a.more ≡ act ∷ [] = append_cancel_left a.known a.more (act ∷ []) (same_Some _ _ (sym a.ended ∙ adds a.known a.began)) in
    let first = subst (AllByRecursion (AnswersAct os)) same a.each in
    let by_objects : AnswersRead os path start size given = first.0 in
    answered (Some os) os before after path bytes start size answer refl there
    (given, λ other e. subst (λ (o : Objects). AnswersRead o path start size given) (same_Some os other e) by_objects, adds, is)

pub knows : (told : Option Objects) (os : Objects) (before after : Option (List Act)) (path bytes : List ℕ) → Answering os told before after → object_at os path ≡ Some bytes → Knows told before after path bytes
knows told os before after path bytes (inl is) there = knows_told told os before after path bytes is there
knows told os before after path bytes (inr a) there = knows_acts told os before after path bytes a there
