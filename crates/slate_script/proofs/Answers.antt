-- What a store answered in calls that follow one another.
use Rattle.std.proofs.Common.{◌≡◌, inl, inr, List, [], ◌∷◌, ◌++◌, Option, Some, None, refl, sym, ap, ◌∙◌, subst}
use Rattle.std.specs.Prelude.{ℕ, IfSome}
use Rattle.std.specs.List.{AllByRecursion}
use Rattle.std.proofs.lemmas.List.{append_cancel_left}
use Rattle.std.proofs.lemmas.Option.{same_Some}
use Rattle.slate_types.specs.Outside.{Act, Objects, Reach, object_at, part_of}
use Rattle.slate_types.specs.World.{Kept, World, AnswersWorld, HoldsWorld, IsCall, Sees}
use Rattle.slate_types.proofs.Calls.{call_both, met}
use Rattle.slate_types.proofs.Lists.{AllByRecursion_front, AllByRecursion_behind}
use Rattle.slate_db.specs.Answered.{AnswersAct, AnswersAs, AnswersFrom}

-- of two calls, what both read was answered by the objects
both_answered : (os : Objects) (a c : Reach) (reads : List Act) → IsCall a c reads → AnswersAs os a.acts c.acts → AllByRecursion (AnswersAct os) reads
both_answered os a c reads call h =
    subst (AllByRecursion (AnswersAct os)) (append_cancel_left h.known h.more reads (same_Some _ _ (sym h.ended ∙ call.adds h.known h.began))) h.each

pub answers_first : (os : Objects) (a b c : Reach) (r s : List Act) → IsCall a b r → IsCall b c s → AnswersFrom os a c → AnswersFrom os a b
answers_first os a b c r s f l (inl told) = inl told
answers_first os a b c r s f l (inr h) = inr (record {
  known = h.known;
  more = r;
  began = h.began;
  ended = f.adds h.known h.began;
  each = AllByRecursion_front (AnswersAct os) r s (both_answered os a c (r ++ s) (call_both a b c r s f l) h);
})

by_objects : (os : Objects) (w : World) (acts : List Act) → HoldsWorld os w → AllByRecursion (AnswersAct os) acts → AllByRecursion (AnswersWorld w) acts
by_objects os w [] holds h = tt
by_objects os w (act ∷ acts) holds h = (one act h.0, by_objects os w acts holds h.1)
  where
    known : (path : List ℕ) (start len : ℕ) (answer : Option (List ℕ)) → answer ≡ part_of (object_at os path) start len → (found : Option Kept) → w.holds path ≡ found → IfSome found (λ kept. answer ≡ part_of (Some kept.bytes) start len)
    known path start len answer is None at = tt
    known path start len answer is (Some kept) at = is ∙ ap (λ (o : Option (List ℕ)). part_of o start len) (holds path kept at)

    one : (a : Act) → AnswersAct os a → AnswersWorld w a
    one (Act.put path bytes) k = tt
    one (Act.read path start len answer) k = known path start len answer k (w.holds path) refl
    one (Act.len path answer) k = tt

-- the second one met each world that the objects hold
pub answers_sees : (w : World) (os : Objects) (a b c : Reach) (r s : List Act) → IsCall a b r → IsCall b c s → w.meaning ≡ a.meaning → HoldsWorld os w → AnswersFrom os a c → Sees w b c
answers_sees w os a b c r s f l same holds (inl told) = record { meaning = same ∙ sym f.meaning; met = inl (record { os = os; tells = f.objects ∙ told; holds = holds }) }
answers_sees w os a b c r s f l same holds (inr h) =
    met w b c (h.known ++ r) s (same ∙ sym f.meaning) (f.adds h.known h.began) l
    (by_objects os w s holds (AllByRecursion_behind (AnswersAct os) r s (both_answered os a c (r ++ s) (call_both a b c r s f l) h)))
