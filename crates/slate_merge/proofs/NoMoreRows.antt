-- What calls of any iterator do to the rows that it may hand out.
use Rattle.std.proofs.Common.{ℕ, List, [], ◌++◌, Option, Some, None, sym, subst, append_assoc}
use Rattle.std.specs.Prelude.{IfSome}
use Rattle.slate_types.specs.declared.error.SlateDBError.{SlateDBError}
use Rattle.slate_types.specs.declared.types.RowEntry.{RowEntry}
use Rattle.slate_types.specs.Outside.{Act, Meaning, Reach}
use Rattle.slate_types.proofs.Calls.{call_none, call_both, no_more_both}
use Rattle.slate_merge.specs.NoMoreRows.{AddsNone, AddsNoneByCall, HandsAway, HandsAwayByCall, NoMoreRows}

pub no_rows_both : {R : Type 0} (before middle after : List Act → R → Type 0) (reads more : List Act) → NoMoreRows before reads middle → NoMoreRows middle more after → NoMoreRows before (reads ++ more) after
no_rows_both before middle after reads more f g later r k = subst (λ (acts : List Act). before acts r) (sym (append_assoc reads more later)) (f (more ++ later) r (g later r k))

pub some_weaker : (P Q : RowEntry → Type 0) (o : Option RowEntry) → ((r : RowEntry) → P r → Q r) → IfSome o P → IfSome o Q
some_weaker P Q None f h = h
some_weaker P Q (Some r) f h = f r h

module _ {A : Type 0} (brings : A → Meaning → List Act → RowEntry → Type 0) (refuses : A → Meaning → List Act → Option (List ℕ) → SlateDBError → Type 0) where
  abbrev pub AddsBy : Reach → Reach → A → A → Type 0
  AddsBy a b x y = AddsNoneByCall brings refuses a b x y

  abbrev pub HandsBy : Reach → Reach → A → Option RowEntry → A → Type 0
  HandsBy a b x answer y = HandsAwayByCall brings refuses a b x answer y

  pub none_added : (t : Reach) (x : A) → AddsBy t t x x
  none_added t x = ([], call_none t, (λ later at e k. k, λ later r k. k))

  pub none_handed : (t : Reach) (x : A) → HandsBy t t x None x
  none_handed t x = ([], call_none t, ((tt, λ later r k. k), λ later at e k. k))

  pub both_added : (a b c : Reach) (x y z : A) → AddsBy a b x y → AddsBy b c y z → AddsBy a c x z
  both_added a b c x y z m n = (m.0 ++ n.0, call_both a b c m.0 n.0 m.1 n.1, (no_more_both (refuses x a.meaning) (refuses y a.meaning) (refuses z a.meaning) m.0 n.0 m.2.0 last.0, no_rows_both (brings x a.meaning) (brings y a.meaning) (brings z a.meaning) m.0 n.0 m.2.1 last.1))
    where
      last : AddsNone brings refuses a.meaning y n.0 z
      last = subst (λ (p : Meaning). AddsNone brings refuses p y n.0 z) m.1.meaning n.2

  -- and then a row is handed out, or none is left
  pub added_hands : (a b c : Reach) (x y z : A) (answer : Option RowEntry) → AddsBy a b x y → HandsBy b c y answer z → HandsBy a c x answer z
  added_hands a b c x y z answer m n = (
    m.0 ++ n.0,
    call_both a b c m.0 n.0 m.1 n.1,
    (
      (
        some_weaker (λ r. brings y a.meaning n.0 r) (λ r. brings x a.meaning (m.0 ++ n.0) r) answer (λ r k. m.2.1 n.0 r k) last.0.0,
        no_rows_both (brings x a.meaning) (brings y a.meaning) (brings z a.meaning) m.0 n.0 m.2.1 last.0.1,
      ),
      no_more_both (refuses x a.meaning) (refuses y a.meaning) (refuses z a.meaning) m.0 n.0 m.2.0 last.1,
    ),
  )
    where
      last : HandsAway brings refuses a.meaning y n.0 answer z
      last = subst (λ (p : Meaning). HandsAway brings refuses p y n.0 answer z) m.1.meaning n.2

  -- none was left
  pub ended_adds : (a b : Reach) (x y : A) → HandsBy a b x None y → AddsBy a b x y
  ended_adds a b x y (reads, call, (hands, fewer)) = (reads, call, (fewer, hands.1))
