-- What an iterator with a row that was read ahead does by what its source does.
use Rattle.std.proofs.Common.{◌≡◌, ℕ, ◌+◌, ◌≤◌, ◌<◌, Bool, true, false, not, List, [], ◌∷◌, Option, Some, None, refl, sym, ap, subst, ◌∙◌, arith}
use Rattle.std.specs.Prelude.{IsSome, is_some}
use Rattle.slate_types.specs.declared.error.SlateDBError.{SlateDBError}
use Rattle.slate_types.specs.declared.iter.IterationOrder.{IterationOrder}
use Rattle.slate_types.specs.declared.types.RowEntry.{RowEntry}
use Rattle.slate_types.specs.Iteration.{comes_before, drop_before, IsInOrder, TakesRow}
use Rattle.slate_types.specs.Outside.{Act, Meaning, Reach}
use Rattle.slate_types.specs.Steps.{Step}
use Rattle.slate_types.specs.World.{World, Sees}
use Rattle.slate_types.proofs.Moves.{Moves}
use Rattle.slate_merge.specs.declared.peeking_iterator.PeekingIterator.{PeekingIterator}
use Rattle.slate_merge.specs.Peeking.{TakesAhead, ahead_bound, head_of, is_kept, IsSoundPeeked, refuses_peeked, rest_peeked, with_ahead}
use Rattle.slate_merge.specs.Answering.{no_words}

pub none_of : (a : Option RowEntry) → is_some a ≡ false → a ≡ None
none_of None e = refl
none_of (Some row) e = cc

pub first_kept : (a : Option RowEntry) (rows : List RowEntry) → is_some a ≡ true → a ≡ head_of (with_ahead a rows)
first_kept None rows e = cc
first_kept (Some row) rows e = refl

taken_rows : (rows after : List RowEntry) (answer : Option RowEntry) → TakesRow rows answer after → with_ahead answer after ≡ rows
taken_rows rows after None t = t.1 ∙ sym t.0
taken_rows rows after (Some row) t = sym t

pub head_taken : (a : Option RowEntry) (rows after : List RowEntry) (answer : Option RowEntry) → a ≡ None → TakesRow rows answer after → answer ≡ head_of (with_ahead a rows)
head_taken a rows after None none t = sym (ap (λ (o : Option RowEntry). head_of (with_ahead o rows)) none ∙ ap head_of t.0)
head_taken a rows after (Some row) none t = sym (ap (λ (o : Option RowEntry). head_of (with_ahead o rows)) none ∙ ap head_of t)

pub taken_bound : (a answer : Option RowEntry) (n m : ℕ) → a ≡ None → (IsSome answer → m < n) → m ≤ n → ahead_bound answer + m ≤ ahead_bound a + n
taken_bound a None n m none less no_more = rw none (omega (arith, no_more))
taken_bound a (Some row) n m none less no_more = let falls = less refl in rw none (omega (arith, falls))

module _ {S : Type 0} (rest : S → World → List RowEntry) (sound : S → World → Type 0) (refuses : S → Meaning → List Act → Option (List ℕ) → SlateDBError → Type 0) (order_of : S → IterationOrder) where
  pub ahead_moves : (a b : Reach) (it : PeekingIterator S) (y : S) (answer : Option RowEntry) → it.ahead ≡ None → Step rest sound refuses no_words a b it.iterator answer y → order_of y ≡ order_of it.iterator
      → Moves (rest_peeked rest) (IsSoundPeeked rest sound order_of) (refuses_peeked refuses) a b it (record { iterator = y; ahead = answer })
  ahead_moves a b it y answer none s order = record {
    rows = same;
    still = λ w sees h. (s.still w sees h.0, subst (λ (o : IterationOrder). IsInOrder o (with_ahead answer (rest y w))) (sym order) (subst (IsInOrder (order_of it.iterator)) (sym (same w sees h)) h.1));
    checked = λ w h. s.checked w h.0;
    made = (s.taken.0, s.taken.1, s.taken.2.1);
  }
    where
      same : (w : World) → Sees w a b → IsSoundPeeked rest sound order_of it w → with_ahead answer (rest y w) ≡ rest_peeked rest it w
      same w sees h = taken_rows (rest it.iterator w) (rest y w) answer (s.rows w sees h.0) ∙ sym (ap (λ (o : Option RowEntry). with_ahead o (rest it.iterator w)) none)

  -- no row is ahead
  pub none_sound : (rising : (x : S) (w : World) → sound x w → IsInOrder (order_of x) (rest x w)) (it : PeekingIterator S) (w : World) → it.ahead ≡ None → sound it.iterator w → IsSoundPeeked rest sound order_of it w
  none_sound rising it w none h = (h, subst (λ (o : Option RowEntry). IsInOrder (order_of it.iterator) (with_ahead o (rest it.iterator w))) (sym none) (rising it.iterator w h))

  -- the source began, and has the same rows
  pub same_sound : (it : PeekingIterator S) (y : S) (w : World) → order_of y ≡ order_of it.iterator → rest y w ≡ rest it.iterator w → sound y w → IsSoundPeeked rest sound order_of it w → IsSoundPeeked rest sound order_of (record it { iterator = y }) w
  same_sound it y w order rows h k = (h, subst (λ (o : IterationOrder). IsInOrder o (with_ahead it.ahead (rest y w))) (sym order) (subst (λ (l : List RowEntry). IsInOrder (order_of it.iterator) (with_ahead it.ahead l)) (sym rows) k.1))

  -- the row that was read ahead is taken
  pub ahead_taken : (it : PeekingIterator S) (row : RowEntry) (w : World) → it.ahead ≡ Some row → rest_peeked rest it w ≡ row ∷ rest it.iterator w
  ahead_taken it row w is = ap (λ (o : Option RowEntry). with_ahead o (rest it.iterator w)) is

  pub none_rest : (it : PeekingIterator S) (w : World) → it.ahead ≡ None → rest_peeked rest it w ≡ rest it.iterator w
  none_rest it w none = ap (λ (o : Option RowEntry). with_ahead o (rest it.iterator w)) none

-- a seek to a key that the row read ahead doesn't come before takes nothing off
pub kept_rows : (order : IterationOrder) (key : List ℕ) (a : Option RowEntry) (rows : List RowEntry) → is_kept order key a ≡ true → with_ahead a rows ≡ drop_before order key (with_ahead a rows)
kept_rows order key None rows e = cc
kept_rows order key (Some row) rows e = by (comes_before order row.key key) refl
  where
    by : (b : Bool) → comes_before order row.key key ≡ b → row ∷ rows ≡ drop_before order key (row ∷ rows)
    by true is = let never : false ≡ true = sym (ap not is) ∙ e in cc
    by false is = rw is refl

-- and to one that it comes before takes it off
pub sought_rows : (order : IterationOrder) (key : List ℕ) (a : Option RowEntry) (rows : List RowEntry) → is_kept order key a ≡ false → drop_before order key rows ≡ drop_before order key (with_ahead a rows)
sought_rows order key None rows e = refl
sought_rows order key (Some row) rows e = by (comes_before order row.key key) refl
  where
    by : (b : Bool) → comes_before order row.key key ≡ b → drop_before order key rows ≡ drop_before order key (row ∷ rows)
    by true is = rw is refl
    by false is = let never : true ≡ false = sym (ap not is) ∙ e in cc

pub taken_ahead : {S : Type 0} (takes : S → List Act → Option RowEntry → S → Type 0) (a : Option RowEntry) (row : RowEntry) (x : S) → a ≡ Some row → TakesAhead takes a [] (Some row) x x
taken_ahead {S} takes a row x is = subst (λ (o : Option RowEntry). TakesAhead takes o [] (Some row) x x) (sym is) (refl, refl, refl)
