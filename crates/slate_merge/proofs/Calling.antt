-- What calls of an iterator bring.
use Rattle.std.proofs.Common.{◌⊎◌, inl, inr, ℕ, List, [], ◌∷◌, ◌++◌, Option, Some, None, refl, sym, subst}
use Rattle.std.specs.Prelude.{Contains}
use Rattle.std.proofs.lemmas.List.Elements.{All-contains, All-contains_itself, All-from_recursion, Contains-append_cases, Contains-append_left, Contains-append_right, recursion_from_All}
use Rattle.slate_types.specs.declared.types.RowEntry.{RowEntry}
use Rattle.slate_types.specs.Outside.{Act, Meaning}
use Rattle.slate_merge.specs.NoMoreRows.{HandsOut, NoMoreRows}
use Rattle.slate_merge.specs.CallLaws.{among_within, brings_within, calls_within}
use Rattle.slate_merge.specs.Calls.{AreCalls, BringsByCalls, CallsOnce}
use Rattle.slate_merge.specs.Handing.{AreAmong}
use Rattle.slate_merge.proofs.Tellings.{StaysBrought, Tells}

pub among_itself : {A : Type 0} (xs : List A) → AreAmong xs xs
among_itself xs = recursion_from_All (λ x. Contains xs x) xs (All-contains_itself xs)

pub among_front : {A : Type 0} (xs ys : List A) → AreAmong xs (xs ++ ys)
among_front xs ys = among_within xs xs (xs ++ ys) (λ x k. Contains-append_left xs ys x k) (among_itself xs)

module _ {S : Type 0} (begins : S → Meaning → List Act → S → Type 0) (takes : S → Meaning → List Act → Option RowEntry → S → Type 0) (seeks : S → Meaning → List Act → List ℕ → S → Type 0) where
  -- what calls may hand out from now on
  abbrev pub by_calls : Meaning → S → List Act → RowEntry → Type 0
  by_calls m x reads r = BringsByCalls begins takes seeks x m reads r

  pub brings_before_others : (x : S) (m : Meaning) (reads more : List Act) (r : RowEntry) → BringsByCalls begins takes seeks x m reads r → BringsByCalls begins takes seeks x m (reads ++ more) r
  brings_before_others x m reads more r c = brings_within begins takes seeks x m reads (reads ++ more) r c (λ a k. Contains-append_left reads more a k)

  pub brings_taken_row : (x : S) (m : Meaning) (reads : List Act) (r : RowEntry) (y : S) → takes x m reads (Some r) y → BringsByCalls begins takes seeks x m reads r
  brings_taken_row x m reads r y taken = record { each = []; last = x; calls = refl; by = reads; among = among_itself reads; after = y; taken = taken }

  -- what is brought behind a call was brought before it
  pub called_less : (m : Meaning) (x y : S) (by : List Act) → CallsOnce begins takes seeks m x by y → NoMoreRows (by_calls m x) by (by_calls m y)
  called_less m x y by call later r c = record {
    each = by ∷ c.each;
    last = c.last;
    calls = (among_front by later, (y, call, calls_within begins takes seeks m later (by ++ later) (λ a k. Contains-append_right by later a k) y c.last c.each c.calls));
    by = c.by;
    among = among_within c.by later (by ++ later) (λ a k. Contains-append_right by later a k) c.among;
    after = c.after;
    taken = c.taken;
  }

  pub call_tells : (m : Meaning) (x y : S) (reads : List Act) (answer : Option RowEntry) → takes x m reads answer y → HandsOut (by_calls m x) reads answer (by_calls m y)
  call_tells m x y reads None taken = (tt, called_less m x y reads (inr (inl (None, taken))))
  call_tells m x y reads (Some r) taken = (brings_taken_row x m reads r y taken, called_less m x y reads (inr (inl (Some r, taken))))

  -- the words of those that read it
  pub calls_tell : (m : Meaning) → Tells (by_calls m) (λ x reads answer y. takes x m reads answer y)
  calls_tell m x y reads answer taken = call_tells m x y reads answer taken

  pub calls_stay : (m : Meaning) → StaysBrought (by_calls m)
  calls_stay m x reads later r c = brings_before_others x m reads later r c

  -- what calls may hand out is brought, where each call tells so
  module _ (m : Meaning) {R : Type 0} (brings : S → List Act → R → Type 0) (less : (x y : S) (by : List Act) → CallsOnce begins takes seeks m x by y → NoMoreRows (brings x) by (brings y))
      (grows : (x : S) (reads all : List Act) (r : R) → brings x reads r → ((a : Act) → Contains reads a → Contains all a) → brings x all r) where
    pub calls_back : (reads : List Act) (r : R) (x y : S) (each : List (List Act)) → AreCalls begins takes seeks m reads x each y → brings y reads r → brings x reads r
    calls_back reads r x y [] same k = subst (λ (z : S). brings z reads r) (sym same) k
    calls_back reads r x y (by ∷ each) (among, (next, call, calls)) k =
        grows x (by ++ reads) reads r (less x next by call reads r (calls_back reads r next y each calls k)) (λ a c. within a (Contains-append_cases by reads a c))
      where
        within : (a : Act) → Contains by a ⊎ Contains reads a → Contains reads a
        within a (inl c) = All-contains (λ z. Contains reads z) by a (All-from_recursion (λ z. Contains reads z) by among) c
        within a (inr c) = c

  module _ (m : Meaning) (brings : S → List Act → RowEntry → Type 0) (less : (x y : S) (by : List Act) → CallsOnce begins takes seeks m x by y → NoMoreRows (brings x) by (brings y))
      (takes_brought : (x y : S) (by : List Act) (r : RowEntry) → takes x m by (Some r) y → brings x by r) (grows : (x : S) (reads all : List Act) (r : RowEntry) → brings x reads r → ((a : Act) → Contains reads a → Contains all a) → brings x all r) where
    pub calls_to : (x : S) (reads : List Act) (r : RowEntry) → BringsByCalls begins takes seeks x m reads r → brings x reads r
    calls_to x reads r c = calls_back m brings less grows reads r x c.last c.each c.calls (grows c.last c.by reads r (takes_brought c.last c.after c.by r c.taken) (λ a k. All-contains (λ z. Contains reads z) c.by a (All-from_recursion (λ z. Contains reads z) c.by c.among) k))
