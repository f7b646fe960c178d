-- What a run rests on over a store that tells its acts alone: what is said holds, or a section slipped through.
--     adds_reads      what calls that put nothing add to the acts that a store tells
--     always_holds, holds_as      what holds in any case, and by what does
--     slips_between      of a call of two parts that put nothing
--     slips_on      of lines and one more, where the session follows what was put
use Rattle.std.proofs.Common.{◌≡◌, ◌⊎◌, inl, inr, List, [], ◌∷◌, ◌++◌, Option, Some, sym, ap, ◌∙◌, subst, append_assoc}
use Rattle.std.proofs.lemmas.Option.{same_Some}
use Rattle.slate_types.specs.Outside.{Act, AddsReads, Meaning, Objects, OnlyReads, Reach}
use Rattle.slate_filter.specs.Policy.{Policy}
use Rattle.slate_mem.specs.KeyTests.{Segments}
use Rattle.slate_table.specs.Parts.{Encode}
use Rattle.slate_store.specs.Lying.{after_act, after_acts}
use Rattle.slate_db.specs.Answered.{AddsActs}
use Rattle.slate_db.specs.Checked.{OrSlips, AnySlips, SlipsFrom}
use Rattle.slate_db.specs.Settled.{IsSettled}
use Rattle.slate_db.proofs.Checks.{slipped_front, slips_first, slips_last}
use Rattle.slate_script.specs.Session.{SessionModel}
use Rattle.slate_script.specs.Told.{Follows}

-- ---- acts

pub adds_reads : (before after : Option (List Act)) → AddsReads before after → AddsActs before after
adds_reads before after adds known is = let more = adds known is in (more.0, more.1)

slipped_behind : (encode : Encode) (os : Objects) (acts more : List Act) → AnySlips encode (after_acts os acts) more → AnySlips encode os (acts ++ more)
slipped_behind encode os [] more h = h
slipped_behind encode os (act ∷ acts) more h = inr (slipped_behind encode (after_act os act) acts more h)

-- one slipped so far, and among the acts behind those that were told
slips_so_far : (encode : Encode) (os : Objects) (first middle last : Option (List Act)) → AddsActs middle last → SlipsFrom encode os first middle → SlipsFrom encode os first last
slips_so_far encode os first middle last adds s =
    let more = adds (s.known ++ s.acts) s.ended in
    record { known = s.known; acts = s.acts ++ more.0; began = s.began; ended = more.1 ∙ ap (λ (l : List Act). Some l) (append_assoc s.known s.acts more.0); slipped = slipped_front encode os s.acts more.0 s.slipped }

slips_later : (encode : Encode) (os : Objects) (first middle last : Option (List Act)) (known acts : List Act) → first ≡ Some known → middle ≡ Some (known ++ acts) → SlipsFrom encode (after_acts os acts) middle last → SlipsFrom encode os first last
slips_later encode os first middle last known acts began told s =
    let same : s.known ≡ known ++ acts = same_Some _ _ (sym s.began ∙ told) in
    record {
      known = known;
      acts = acts ++ s.acts;
      began = began;
      ended = s.ended ∙ ap (λ (l : List Act). Some (l ++ s.acts)) same ∙ ap (λ (l : List Act). Some l) (append_assoc known acts s.acts);
      slipped = slipped_behind encode os acts s.acts s.slipped;
    }

-- ---- what is said of one call

pub always_holds : (P : Type 0) (os : Objects) (a b : Reach) → P → OrSlips os a b P
always_holds P os a b p = λ known began. inl p

pub holds_as : (P Q : Type 0) (os : Objects) (a b : Reach) → (P → Q) → OrSlips os a b P → OrSlips os a b Q
holds_as P Q os a b weaker checked = λ known began. by (checked known began)
  where
    by : P ⊎ SlipsFrom a.meaning.encode os a.acts b.acts → Q ⊎ SlipsFrom a.meaning.encode os a.acts b.acts
    by (inl p) = inl (weaker p)
    by (inr slips) = inr slips

-- ---- and of two, one after the other

pub slips_between : (P Q : Type 0) (os : Objects) (a b c : Reach) → OnlyReads a b → OnlyReads b c → OrSlips os a b P → (P → OrSlips os b c Q) → OrSlips os a c Q
slips_between P Q os a b c first last checked later = λ known began. by known began (checked known began)
  where
    behind : (known : List Act) → a.acts ≡ Some known → Q ⊎ SlipsFrom b.meaning.encode os b.acts c.acts → Q ⊎ SlipsFrom a.meaning.encode os a.acts c.acts
    behind known began (inl q) = inl q
    behind known began (inr slips) = inr (slips_last a.meaning.encode os a b c first known began (subst (λ (m : Meaning). SlipsFrom m.encode os b.acts c.acts) first.meaning slips))

    by : (known : List Act) → a.acts ≡ Some known → P ⊎ SlipsFrom a.meaning.encode os a.acts b.acts → Q ⊎ SlipsFrom a.meaning.encode os a.acts c.acts
    by known began (inl p) = let more = first.acts known began in behind known began (later p (known ++ more.0) more.1)
    by known began (inr slips) = inr (slips_first a.meaning.encode os a b c last slips)

-- a line behind others: it is asked of the objects as those left them
pub slips_on : (P Q R : Type 0) (policies : List Policy) (seg : Segments) (e : SessionModel) (a b c : Reach) → b.meaning ≡ a.meaning → Follows policies a.meaning seg [] e a.acts b.acts → AddsActs b.acts c.acts → OrSlips [] a b P →
    ((os : Objects) → IsSettled policies a.meaning seg (Some os) e.core → OrSlips os b c Q) → (P → Q → R) → OrSlips [] a c R
slips_on P Q R policies seg e a b c same follows adds checked line both = λ known began. by known began (checked known began)
  where
    behind : (known acts : List Act) → a.acts ≡ Some known → b.acts ≡ Some (known ++ acts) → P → Q ⊎ SlipsFrom b.meaning.encode (after_acts [] acts) b.acts c.acts → R ⊎ SlipsFrom a.meaning.encode [] a.acts c.acts
    behind known acts began told p (inl q) = inl (both p q)
    behind known acts began told p (inr slips) = inr (slips_later a.meaning.encode [] a.acts b.acts c.acts known acts began told (subst (λ (m : Meaning). SlipsFrom m.encode (after_acts [] acts) b.acts c.acts) same slips))

    by : (known : List Act) → a.acts ≡ Some known → P ⊎ SlipsFrom a.meaning.encode [] a.acts b.acts → R ⊎ SlipsFrom a.meaning.encode [] a.acts c.acts
    by known began (inl p) = let f = follows known began in behind known f.0 began f.1 p (line (after_acts [] f.0) f.2 (known ++ f.0) f.1)
    by known began (inr slips) = inr (slips_so_far a.meaning.encode [] a.acts b.acts c.acts adds slips)
