-- What calls bring, by more reads.
--     among_within      what is among some elements is among more
--     calls_within      calls whose reads are among some have them among more
--     brings_within      a row that calls may hand out by some reads they may hand out by more
--     brings_behind_others      the same, where the other reads stand before these
use Rattle.std.specs.Prelude.{ℕ, List, [], ◌∷◌, ◌++◌, Contains, Option}
use Rattle.std.proofs.lemmas.List.Elements.{Contains-append_right}
use Rattle.slate_types.specs.declared.types.RowEntry.{RowEntry}
use Rattle.slate_types.specs.Outside.{Act, Meaning}
use Rattle.slate_merge.specs.Calls.{AreCalls, BringsByCalls}
use Rattle.slate_merge.specs.Handing.{AreAmong}

pub among_within : {A : Type 0} (some reads all : List A) → ((a : A) → Contains reads a → Contains all a) → AreAmong some reads → AreAmong some all
among_within [] reads all within h = tt
among_within (x ∷ some) reads all within h = (within x h.0, among_within some reads all within h.1)

module _ {S : Type 0} (begins : S → Meaning → List Act → S → Type 0) (takes : S → Meaning → List Act → Option RowEntry → S → Type 0) (seeks : S → Meaning → List Act → List ℕ → S → Type 0) where
  pub calls_within : (m : Meaning) (reads all : List Act) → ((a : Act) → Contains reads a → Contains all a) → (x y : S) (each : List (List Act)) → AreCalls begins takes seeks m reads x each y → AreCalls begins takes seeks m all x each y
  calls_within m reads all within x y [] h = h
  calls_within m reads all within x y (by ∷ each) (among, (next, call, calls)) = (among_within by reads all within among, (next, call, calls_within m reads all within next y each calls))

  pub brings_within : (x : S) (m : Meaning) (reads all : List Act) (r : RowEntry) → BringsByCalls begins takes seeks x m reads r → ((a : Act) → Contains reads a → Contains all a) → BringsByCalls begins takes seeks x m all r
  brings_within x m reads all r c within = record {
    each = c.each;
    last = c.last;
    calls = calls_within m reads all within x c.last c.each c.calls;
    by = c.by;
    among = among_within c.by reads all within c.among;
    after = c.after;
    taken = c.taken;
  }

  pub brings_behind_others : (x : S) (m : Meaning) (done reads : List Act) (r : RowEntry) → BringsByCalls begins takes seeks x m reads r → BringsByCalls begins takes seeks x m (done ++ reads) r
  brings_behind_others x m done reads r c = brings_within x m reads (done ++ reads) r c (λ a k. Contains-append_right done reads a k)
