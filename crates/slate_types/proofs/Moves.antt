-- Meaning of a call that bring no row.
use Rattle.std.proofs.Common.{◌≡◌, ◌⊎◌, inl, inr, ℕ, List, [], ◌++◌, Option, Some, None, refl, sym, subst, ◌∙◌}
use Rattle.slate_types.specs.declared.error.SlateDBError.{SlateDBError}
use Rattle.slate_types.specs.declared.types.RowEntry.{RowEntry}
use Rattle.slate_types.specs.Iteration.{TakesRow}
use Rattle.slate_types.specs.Outside.{Act, IsFault, IsLater, Meaning, Reach}
use Rattle.slate_types.specs.Refusing.{NoMore}
use Rattle.slate_types.specs.World.{World, Checks, IsCall, Made, Sees}
use Rattle.slate_types.proofs.Reaching.{fault_earlier}
use Rattle.slate_types.proofs.Calls.{call_none, call_both, sees_first, sees_last, checks_none, checks_both, no_more_both}
use Rattle.slate_types.specs.Steps.{Step}

pub record Moves {A : Type 0} (rest : A → World → List RowEntry) (sound : A → World → Type 0) (refuses : A → Meaning → List Act → Option (List ℕ) → SlateDBError → Type 0) (before after : Reach) (x y : A) : Type 0 where
  pub rows : (w : World) → Sees w before after → sound x w → rest y w ≡ rest x w
  pub still : (w : World) → Sees w before after → sound x w → sound y w
  pub checked : (w : World) → sound x w → Checks w before after
  pub made : Made before after (λ reads. NoMore (refuses x before.meaning) reads (refuses y before.meaning))

pub moves_none : {A : Type 0} (rest : A → World → List RowEntry) (sound : A → World → Type 0) (refuses : A → Meaning → List Act → Option (List ℕ) → SlateDBError → Type 0) (t : Reach) (x : A) → Moves rest sound refuses t t x x
moves_none rest sound refuses t x = record {
  rows = λ w s h. refl;
  still = λ w s h. h;
  checked = λ w h. checks_none w t;
  made = ([], call_none t, λ later at e h. h);
}

pub moves_both : {A : Type 0} (rest : A → World → List RowEntry) (sound : A → World → Type 0) (refuses : A → Meaning → List Act → Option (List ℕ) → SlateDBError → Type 0) (a b c : Reach) (x y z : A) →
    Moves rest sound refuses a b x y → Moves rest sound refuses b c y z → Moves rest sound refuses a c x z
moves_both rest sound refuses a b c x y z m n = record {
  rows = λ w s h. n.rows w (last w s) (m.still w (first w s) h) ∙ m.rows w (first w s) h;
  still = λ w s h. n.still w (last w s) (m.still w (first w s) h);
  checked = λ w h. checks_both w a b c m.made.0 n.made.0 m.made.1 n.made.1 (m.checked w h) (λ s. n.checked w (m.still w s h));
  made = (
    m.made.0 ++ n.made.0,
    call_both a b c m.made.0 n.made.0 m.made.1 n.made.1,
    no_more_both (refuses x a.meaning) (refuses y a.meaning) (refuses z a.meaning) m.made.0 n.made.0 m.made.2 (subst (λ (p : Meaning). NoMore (refuses y p) n.made.0 (refuses z p)) m.made.1.meaning n.made.2),
  );
}
  where
    first : (w : World) → Sees w a c → Sees w a b
    first w s = sees_first w a b c m.made.0 n.made.0 m.made.1 n.made.1 s

    last : (w : World) → Sees w a c → Sees w b c
    last w s = sees_last w a b c m.made.0 n.made.0 m.made.1 n.made.1 s

-- and then a step
pub moves_step : {A : Type 0} (rest : A → World → List RowEntry) (sound : A → World → Type 0) (refuses : A → Meaning → List Act → Option (List ℕ) → SlateDBError → Type 0) (a b c : Reach) (x y z : A) (answer : Option RowEntry) →
    Moves rest sound refuses a b x y → Step rest sound refuses (λ u p reads r v. Unit {0}) b c y answer z → Step rest sound refuses (λ u p reads r v. Unit {0}) a c x answer z
moves_step rest sound refuses a b c x y z answer m n = record {
  rows = λ w s h. subst (λ (l : List RowEntry). TakesRow l answer (rest z w)) (m.rows w (first w s) h) (n.rows w (last w s) (m.still w (first w s) h));
  still = λ w s h. n.still w (last w s) (m.still w (first w s) h);
  checked = λ w h. checks_both w a b c m.made.0 n.taken.0 m.made.1 n.taken.1 (m.checked w h) (λ s. n.checked w (m.still w s h));
  taken = (
    m.made.0 ++ n.taken.0,
    call_both a b c m.made.0 n.taken.0 m.made.1 n.taken.1,
    (tt, no_more_both (refuses x a.meaning) (refuses y a.meaning) (refuses z a.meaning) m.made.0 n.taken.0 m.made.2 (subst (λ (p : Meaning). NoMore (refuses y p) n.taken.0 (refuses z p)) m.made.1.meaning n.taken.2.1)),
  );
}
  where
    first : (w : World) → Sees w a c → Sees w a b
    first w s = sees_first w a b c m.made.0 n.taken.0 m.made.1 n.taken.1 s

    last : (w : World) → Sees w a c → Sees w b c
    last w s = sees_last w a b c m.made.0 n.taken.0 m.made.1 n.taken.1 s

-- and then a refusal
pub moves_fails : {A : Type 0} (rest : A → World → List RowEntry) (sound : A → World → Type 0) (refuses : A → Meaning → List Act → Option (List ℕ) → SlateDBError → Type 0) (a b c : Reach) (x y : A) (at : Option (List ℕ)) (e : SlateDBError) →
    Moves rest sound refuses a b x y → IsLater a.faults b.faults → Made b c (λ reads. IsFault b c e ⊎ refuses y b.meaning reads at e) → Made a c (λ reads. IsFault a c e ⊎ refuses x a.meaning reads at e)
moves_fails rest sound refuses a b c x y at e m since made = (m.made.0 ++ made.0, call_both a b c m.made.0 made.0 m.made.1 made.1, by made.2)
  where
    by : IsFault b c e ⊎ refuses y b.meaning made.0 at e → IsFault a c e ⊎ refuses x a.meaning (m.made.0 ++ made.0) at e
    by (inl h) = inl (fault_earlier a b c e since h)
    by (inr h) = inr (m.made.2 made.0 at e (subst (λ (p : Meaning). refuses y p made.0 at e) m.made.1.meaning h))
