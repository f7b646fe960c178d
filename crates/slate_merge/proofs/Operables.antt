-- Where neither an operator is wanting nor a row rises.
use Rattle.std.proofs.Common.{◌≡◌, ◌⊎◌, inl, inr, ℕ, Bool, true, false, List, [], ◌∷◌, ◌++◌, Option, Some, None, sym, subst, ap, ◌∙◌}
use Rattle.std.specs.Prelude.{is_some}
use Rattle.slate_types.specs.declared.error.SlateDBError.{SlateDBError}
use Rattle.slate_types.specs.declared.error.SlateDBError.TheVariants.{MergeOperatorMissing}
use Rattle.slate_types.specs.declared.iter.IterationOrder.{IterationOrder}
use Rattle.slate_types.specs.declared.types.RowEntry.{RowEntry}
use Rattle.slate_types.specs.Iteration.{TakesRow, comes_before, drop_before}
use Rattle.slate_types.specs.Outside.{Act, IsFault, IsLater, Meaning, Reach}
use Rattle.slate_types.specs.Steps.{Step}
use Rattle.slate_types.specs.World.{World, Made, Sees}
use Rattle.slate_types.proofs.Moves.{Moves}
use Rattle.slate_types.proofs.Reaching.{fault_earlier}
use Rattle.slate_merge.specs.Folding.{NoneRises, is_open}
use Rattle.slate_merge.specs.Folds.{NoneOpen, Taken, operable_taken, refuses_taken, rest_taken, sound_taken}
use Rattle.slate_merge.specs.OperatorIterators.{IsOwn}
use Rattle.slate_merge.specs.Peeking.{with_ahead}
use Rattle.slate_merge.specs.Turns.{both}
use Rattle.slate_merge.proofs.FoldSteps.{no_operator}
use Rattle.slate_merge.proofs.Risings.{none_rises_behind}

pub none_open_behind : (barrier : Option ℕ) (front rows : List RowEntry) → NoneOpen barrier (front ++ rows) → NoneOpen barrier rows
none_open_behind barrier [] rows h = h
none_open_behind barrier (r ∷ front) rows h = none_open_behind barrier front rows h.1

-- a seek takes rows off
pub none_open_dropped : (barrier : Option ℕ) (order : IterationOrder) (key : List ℕ) (rows : List RowEntry) → NoneOpen barrier rows → NoneOpen barrier (drop_before order key rows)
none_open_dropped barrier order key [] h = tt
none_open_dropped barrier order key (r ∷ rows) h = elim (both (comes_before order r.key key)) as (λ _. NoneOpen barrier (drop_before order key (r ∷ rows))) [
  | inl e ↦ rw e (none_open_dropped barrier order key rows h.1)
  | inr e ↦ rw e h
]

module _ {S : Type 0} (rest : S → World → List RowEntry) (sound : S → World → Type 0) (refuses : S → Meaning → List Act → Option (List ℕ) → SlateDBError → Type 0) (order_of : S → IterationOrder) where
  pub moved_operable : (different : Bool) (barrier : Option ℕ) (a b : Reach) (x : Taken S) (y : S) (ahead : Option RowEntry) (taken : List RowEntry) → Moves (rest_taken rest) (sound_taken rest sound order_of) (refuses_taken refuses) a b x (y, ahead, taken) →
      (w : World) → Sees w a b → sound_taken rest sound order_of x w → operable_taken different barrier rest x w → operable_taken different barrier rest (y, ahead, []) w
  moved_operable different barrier a b x y ahead taken m w sees h op = (
    λ none. none_open_behind barrier taken (with_ahead ahead (rest y w)) (subst (NoneOpen barrier) (sym (m.rows w sees h)) (op.0 none)),
    none_rises_behind different barrier taken (with_ahead ahead (rest y w)) (subst (NoneRises different barrier) (sym (m.rows w sees h)) op.1),
  )

  pub step_operable : (takes : Taken S → Meaning → List Act → Option RowEntry → Taken S → Type 0) (different : Bool) (barrier : Option ℕ) (a b : Reach) (x y : Taken S) (answer : Option RowEntry) → Step (rest_taken rest) (sound_taken rest sound order_of) (refuses_taken refuses) takes a b x answer y →
      (w : World) → Sees w a b → sound_taken rest sound order_of x w → operable_taken different barrier rest x w → operable_taken different barrier rest y w
  step_operable takes different barrier a b x y answer s w sees h op = (λ none. opens answer (s.rows w sees h) (op.0 none), falls answer (s.rows w sees h))
    where
      opens : (o : Option RowEntry) → TakesRow (rest_taken rest x w) o (rest_taken rest y w) → NoneOpen barrier (rest_taken rest x w) → NoneOpen barrier (rest_taken rest y w)
      opens None t k = subst (NoneOpen barrier) (sym t.1) tt
      opens (Some row) t k = (subst (NoneOpen barrier) t k).1

      falls : (o : Option RowEntry) → TakesRow (rest_taken rest x w) o (rest_taken rest y w) → NoneRises different barrier (rest_taken rest y w)
      falls None t = subst (NoneRises different barrier) (sym t.1) tt
      falls (Some row) t = (subst (NoneRises different barrier) t op.1).1

  -- an operand came that would be folded, and there is no operator
  pub not_operable : {A : Type 0} (takes : Taken S → Meaning → List Act → Option RowEntry → Taken S → Type 0) (different : Bool) (barrier : Option ℕ) (a b : Reach) (x y : Taken S) (row : RowEntry) (has : Bool) → Step (rest_taken rest) (sound_taken rest sound order_of) (refuses_taken refuses) takes a b x (Some row) y →
      is_open barrier row ≡ true → b.meaning ≡ a.meaning → has ≡ is_some b.meaning.combine → has ≡ false → (w : World) → Sees w a b → sound_taken rest sound order_of x w → operable_taken different barrier rest x w → A
  not_operable takes different barrier a b x y row has s opened same is false_is w sees h op =
      let none : w.meaning.combine ≡ None = ap (λ (p : Meaning). p.combine) sees.meaning ∙ no_operator a b has same is false_is in
      let closed : is_open barrier row ≡ false = (subst (NoneOpen barrier) (s.rows w sees h) (op.0 none)).0 in
      let never : true ≡ false = sym opened ∙ closed in cc

  -- ---- refusals

  pub own_of : (a b : Reach) (x : S) (e : SlateDBError) → Made a b (λ reads. IsFault a b e ⊎ refuses x a.meaning reads None e) → IsOwn refuses a b x e
  own_of a b x e made = by made.2
    where
      by : IsFault a b e ⊎ refuses x a.meaning made.0 None e → IsOwn refuses a b x e
      by (inl k) = inl k
      by (inr k) = inr (made.0, made.1, k)

  -- a fault of the operator, since there is one
  pub operator_own : (a b c : Reach) (x : S) (e : SlateDBError) (has : Bool) → IsLater a.faults b.faults → b.meaning ≡ a.meaning → has ≡ is_some a.meaning.combine → has ≡ true → IsFault b c e ⊎ ((e ≡ MergeOperatorMissing) × (b.meaning.combine ≡ None)) → IsOwn refuses a c x e
  operator_own a b c x e has later same is true_is (inl k) = inl (fault_earlier a b c e later k)
  operator_own a b c x e has later same is true_is (inr k) =
      let none : a.meaning.combine ≡ None = subst (λ (p : Meaning). p.combine ≡ None) same k.1 in
      let no : is_some a.meaning.combine ≡ false = ap is_some none in
      let yes : is_some a.meaning.combine ≡ true = sym is ∙ true_is in cc
