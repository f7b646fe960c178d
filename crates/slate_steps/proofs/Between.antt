-- What answered the reads of a call is what answered those of a call within it.
use Rattle.std.proofs.Common.{◌≡◌, ◌⊎◌, inl, inr, List, [], ◌∷◌, ◌++◌, Option, Some, sym, subst, ◌∙◌, append_assoc}
use Rattle.std.specs.List.{AllByRecursion}
use Rattle.std.proofs.lemmas.List.{append_cancel_left}
use Rattle.std.proofs.lemmas.Option.{same_Some}
use Rattle.slate_types.specs.Outside.{Act, AddsReads, Objects, OnlyReads, Reach}
use Rattle.slate_types.proofs.Lists.{AllByRecursion_front, AllByRecursion_behind}
use Rattle.slate_db.specs.Answered.{AnswersAct, AnswersAs, AnswersFrom, Answering}

acts_of_both : (os : Objects) (first middle last : Option (List Act)) → (f : AddsReads first middle) → (l : AddsReads middle last) → (a : AnswersAs os first last) →
    (some rest : List Act) × (middle ≡ Some (a.known ++ some)) × (last ≡ Some ((a.known ++ some) ++ rest)) × AllByRecursion (AnswersAct os) (some ++ rest)
acts_of_both os first middle last f l a =
    let some = f a.known a.began in
    let rest = l (a.known ++ some.0) some.1 in
    let same : a.more ≡ some.0 ++ rest.0 = append_cancel_left a.known a.more (some.0 ++ rest.0) (same_Some _ _ (sym a.ended ∙ rest.1) ∙ append_assoc a.known some.0 rest.0) in
    (some.0, rest.0, some.1, rest.1, subst (AllByRecursion (AnswersAct os)) same a.each)

answers_first : (os : Objects) (first middle last : Option (List Act)) → AddsReads first middle → AddsReads middle last → AnswersAs os first last → AnswersAs os first middle
answers_first os first middle last f l a =
    let both = acts_of_both os first middle last f l a in
    record { known = a.known; more = both.0; began = a.began; ended = both.2; each = AllByRecursion_front (AnswersAct os) both.0 both.1 both.4 }

answers_last : (os : Objects) (first middle last : Option (List Act)) → AddsReads first middle → AddsReads middle last → AnswersAs os first last → AnswersAs os middle last
answers_last os first middle last f l a =
    let both = acts_of_both os first middle last f l a in
    record { known = a.known ++ both.0; more = both.1; began = both.2; ended = both.3; each = AllByRecursion_behind (AnswersAct os) both.0 both.1 both.4 }

answering_first : (os : Objects) (objects : Option Objects) (first middle last : Option (List Act)) → AddsReads first middle → AddsReads middle last → Answering os objects first last → Answering os objects first middle
answering_first os objects first middle last f l (inl is) = inl is
answering_first os objects first middle last f l (inr a) = inr (answers_first os first middle last f l a)

answering_last : (os : Objects) (objects objects2 : Option Objects) (first middle last : Option (List Act)) → objects2 ≡ objects → AddsReads first middle → AddsReads middle last → Answering os objects first last →
    Answering os objects2 middle last
answering_last os objects objects2 first middle last same f l (inl is) = inl (same ∙ is)
answering_last os objects objects2 first middle last same f l (inr a) = inr (answers_last os first middle last f l a)

pub from_first : (os : Objects) (a b c : Reach) → OnlyReads a b → OnlyReads b c → AnswersFrom os a c → AnswersFrom os a b
from_first os a b c f l h = answering_first os a.objects a.acts b.acts c.acts f.acts l.acts h

pub from_last : (os : Objects) (a b c : Reach) → OnlyReads a b → OnlyReads b c → AnswersFrom os a c → AnswersFrom os b c
from_last os a b c f l h = answering_last os a.objects b.objects a.acts b.acts c.acts f.objects f.acts l.acts h
