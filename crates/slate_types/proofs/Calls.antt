-- Calls that follow one another, and the worlds that they meet.
use Rattle.std.proofs.Common.{◌≡◌, ◌⊎◌, inl, inr, ℕ, List, [], ◌∷◌, ◌++◌, Option, Some, None, refl, sym, ap, subst, ◌∙◌, append-nil, append_assoc}
use Rattle.std.specs.Prelude.{Contains, IfSome}
use Rattle.std.specs.List.{AllByRecursion}
use Rattle.std.proofs.lemmas.List.{append_cancel_left}
use Rattle.std.proofs.lemmas.List.Elements.{Contains-append_left, Contains-append_right}
use Rattle.std.proofs.lemmas.Option.{same_Some}
use Rattle.slate_types.specs.declared.error.SlateDBError.{SlateDBError}
use Rattle.slate_types.specs.Outside.{Objects, Act, object_at, part_of, no_reach, IsLater, OnlyReads, PutsNothing, Reach}
use Rattle.slate_types.specs.World.{Kept, World, nothing, IsReadAct, AnswersObjects, AnswersWorld, IsCall, IsReadAt, Made, ReadsAt, HoldsWorld, Honest, Answered, Sees, IsSlip, Slips, Checks}
use Rattle.slate_types.specs.Refusing.{Refusals, NoMore, NoMoreBut}
use Rattle.slate_types.proofs.Lists.{AllByRecursion_append, AllByRecursion_front, AllByRecursion_behind}

-- ---- calls

pub call_none : (a : Reach) → IsCall a a []
call_none a = record {
  objects = refl;
  meaning = refl;
  adds = λ known is. is ∙ ap (λ (l : List Act). Some l) (sym (append-nil known));
  each = tt;
  answered = λ os is. tt;
}

pub call_both : (a b c : Reach) (r s : List Act) → IsCall a b r → IsCall b c s → IsCall a c (r ++ s)
call_both a b c r s f l = record {
  objects = l.objects ∙ f.objects;
  meaning = l.meaning ∙ f.meaning;
  adds = λ known is. l.adds (known ++ r) (f.adds known is) ∙ ap (λ (x : List Act). Some x) (append_assoc known r s);
  each = AllByRecursion_append IsReadAct r s f.each l.each;
  answered = λ os is. AllByRecursion_append (AnswersObjects os) r s (f.answered os is) (l.answered os (f.objects ∙ is));
}

-- ---- where a call reads

pub reads_at_none : (paths : List (List ℕ)) (a : Reach) → ReadsAt paths a a
reads_at_none paths a = ([], call_none a, tt)

-- nothing is read
pub reads_at_call : (paths : List (List ℕ)) (a b : Reach) → IsCall a b [] → ReadsAt paths a b
reads_at_call paths a b call = ([], call, tt)

pub reads_at_then : (paths : List (List ℕ)) (a b c : Reach) → ReadsAt paths a b → ReadsAt paths b c → ReadsAt paths a c
reads_at_then paths a b c f l = (f.0 ++ l.0, call_both a b c f.0 l.0 f.1 l.1, AllByRecursion_append (IsReadAt paths) f.0 l.0 f.2 l.2)

-- ---- worlds

by_objects : (os : Objects) (w : World) (acts : List Act) → HoldsWorld os w → AllByRecursion (AnswersObjects os) acts → AllByRecursion (AnswersWorld w) acts
by_objects os w [] holds h = tt
by_objects os w (act ∷ acts) holds h = (one act h.0, by_objects os w acts holds h.1)
  where
    known : (path : List ℕ) (start len : ℕ) (answer : Option (List ℕ)) → answer ≡ part_of (object_at os path) start len → (found : Option Kept) → w.holds path ≡ found → IfSome found (λ kept. answer ≡ part_of (Some kept.bytes) start len)
    known path start len answer is None at = tt
    known path start len answer is (Some kept) at = is ∙ ap (λ (o : Option (List ℕ)). part_of o start len) (holds path kept at)

    one : (a : Act) → AnswersObjects os a → AnswersWorld w a
    one (Act.put path bytes) k = tt
    one (Act.read path start len answer) k = known path start len answer k (w.holds path) refl
    one (Act.len path answer) k = tt

more_same : (known more reads : List Act) (acts : Option (List Act)) → acts ≡ Some (known ++ more) → acts ≡ Some (known ++ reads) → more ≡ reads
more_same known more reads acts is too = append_cancel_left known more reads (same_Some _ _ (sym is ∙ too))

-- each read of a call that met a world was answered by it
pub seen : (w : World) (a b : Reach) (r : List Act) → Sees w a b → IsCall a b r → AllByRecursion (AnswersWorld w) r
seen w a b r s call = by s.met
  where
    by : Honest w a ⊎ Answered w a b → AllByRecursion (AnswersWorld w) r
    by (inl h) = by_objects h.os w r h.holds (call.answered h.os h.tells)
    by (inr h) = subst (AllByRecursion (AnswersWorld w)) (more_same h.known h.reads r b.acts h.ended (call.adds h.known h.began)) h.each

-- and one whose reads were answered by it met it
pub met : (w : World) (a b : Reach) (known r : List Act) → w.meaning ≡ a.meaning → a.acts ≡ Some known → IsCall a b r → AllByRecursion (AnswersWorld w) r → Sees w a b
met w a b known r same began call each = record { meaning = same; met = inr (record { known = known; reads = r; began = began; ended = call.adds known began; each = each }) }

pub sees_first : (w : World) (a b c : Reach) (r s : List Act) → IsCall a b r → IsCall b c s → Sees w a c → Sees w a b
sees_first w a b c r s f l h = record { meaning = h.meaning; met = by h.met }
  where
    both : AllByRecursion (AnswersWorld w) (r ++ s)
    both = seen w a c (r ++ s) h (call_both a b c r s f l)

    by : Honest w a ⊎ Answered w a c → Honest w a ⊎ Answered w a b
    by (inl k) = inl k
    by (inr k) = inr (record { known = k.known; reads = r; began = k.began; ended = f.adds k.known k.began; each = AllByRecursion_front (AnswersWorld w) r s both })

pub sees_last : (w : World) (a b c : Reach) (r s : List Act) → IsCall a b r → IsCall b c s → Sees w a c → Sees w b c
sees_last w a b c r s f l h = record { meaning = h.meaning ∙ sym f.meaning; met = by h.met }
  where
    both : AllByRecursion (AnswersWorld w) (r ++ s)
    both = seen w a c (r ++ s) h (call_both a b c r s f l)

    by : Honest w a ⊎ Answered w a c → Honest w b ⊎ Answered w b c
    by (inl k) = inl (record { os = k.os; tells = f.objects ∙ k.tells; holds = k.holds })
    by (inr k) = inr (record { known = k.known ++ r; reads = s; began = f.adds k.known k.began; ended = l.adds (k.known ++ r) (f.adds k.known k.began); each = AllByRecursion_behind (AnswersWorld w) r s both })

-- sources in memory meet their world
pub sees_nothing : Sees nothing no_reach no_reach
sees_nothing = met nothing no_reach no_reach [] [] refl refl (call_none no_reach) tt

-- and read nothing
pub reads_no_act : (reads : List Act) → IsCall no_reach no_reach reads → reads ≡ []
reads_no_act reads call = sym (same_Some _ _ (call.adds [] refl))

-- what a call read puts nothing
no_puts : (reads : List Act) → AllByRecursion IsReadAct reads → AllByRecursion PutsNothing reads
no_puts [] h = tt
no_puts (Act.put path bytes ∷ reads) h = absurd h.0
no_puts (Act.read path start len answer ∷ reads) h = (tt, no_puts reads h.1)
no_puts (Act.len path answer ∷ reads) h = (tt, no_puts reads h.1)

pub only_reads : (a b : Reach) (reads : List Act) → IsCall a b reads → IsLater a.faults b.faults → b.store ≡ a.store → OnlyReads a b
only_reads a b reads call later store = record {
  objects = call.objects;
  meaning = call.meaning;
  acts = λ known began. (reads, call.adds known began, no_puts reads call.each);
  later = later;
  store = store;
}

-- ---- what slips

pub checks_none : (w : World) (a : Reach) → Checks w a a
checks_none w a = λ known began parts. inl (met w a a known [] parts began (call_none a) tt)

-- the second part is checked where the first one met the world
pub checks_both : (w : World) (a b c : Reach) (r s : List Act) → IsCall a b r → IsCall b c s → Checks w a b → (Sees w a b → Checks w b c) → Checks w a c
checks_both w a b c r s f l first then_last = λ known began parts. by known began parts (first known began parts)
  where
    last : (known : List Act) → a.acts ≡ Some known → w.meaning ≡ a.meaning → Sees w a b → Sees w b c ⊎ Slips w b c → Sees w a c ⊎ Slips w a c
    last known began parts h (inl k) = inl (met w a c known (r ++ s) parts began (call_both a b c r s f l) (AllByRecursion_append (AnswersWorld w) r s (seen w a b r h f) (seen w b c s k l)))
    last known began parts h (inr k) =
        let here : k.reads ≡ s = more_same k.known k.reads s c.acts k.ended (l.adds k.known k.began) in
        inr (record { known = known; reads = r ++ s; began = began; ended = (call_both a b c r s f l).adds known began; act = k.act; among = Contains-append_right r s k.act (subst (λ (x : List Act). Contains x k.act) here k.among); slip = k.slip })

    by : (known : List Act) → a.acts ≡ Some known → w.meaning ≡ a.meaning → Sees w a b ⊎ Slips w a b → Sees w a c ⊎ Slips w a c
    by known began parts (inl h) = last known began parts h (then_last h (known ++ r) (f.adds known began) (parts ∙ sym f.meaning))
    by known began parts (inr k) =
        let here : k.reads ≡ r = more_same k.known k.reads r b.acts k.ended (f.adds k.known k.began) in
        inr (record { known = known; reads = r ++ s; began = began; ended = (call_both a b c r s f l).adds known began; act = k.act; among = Contains-append_left r s k.act (subst (λ (x : List Act). Contains x k.act) here k.among); slip = k.slip })

-- ---- refusals

pub no_more_both : (x y z : Refusals) (r s : List Act) → NoMore x r y → NoMore y s z → NoMore x (r ++ s) z
no_more_both x y z r s f l = λ later at e h. subst (λ (reads : List Act). x reads at e) (sym (append_assoc r s later)) (f (s ++ later) at e (l later at e h))

pub no_more_but : (x y z : Refusals) (refusal : SlateDBError) (r s : List Act) → NoMore x r y → NoMoreBut refusal y s z → NoMoreBut refusal x (r ++ s) z
no_more_but x y z refusal r s f l = λ later at e h. by later at e (l later at e h)
  where
    by : (later : List Act) (at : Option (List ℕ)) (e : SlateDBError) → y (s ++ later) at e ⊎ (e ≡ refusal) → x ((r ++ s) ++ later) at e ⊎ (e ≡ refusal)
    by later at e (inl h) = inl (subst (λ (reads : List Act). x reads at e) (sym (append_assoc r s later)) (f (s ++ later) at e h))
    by later at e (inr h) = inr h
