-- What calls of an iterator may hand out, by the reads that are made from now on: rows, and rows that rise.
--     IsAbove q r      the row r has the key of the operand q, and a greater sequence
--     AreBegins begins m reads x each y      `init`s, one behind the other, each with reads that are among these
--     RisesBehind begins takes q x m reads r      perhaps such calls, and then a `next` that hands out the row, which is above q
--     RisesByCalls begins takes seeks x m reads r      calls, then a `next` that hands out a row, and then the next row is above it
--     Offer      a row, or a row that rises
--     offers begins takes seeks ahead x m reads o      calls may hand it out, where this row was taken last and is held ahead
--     begins_within, behind_within, rises_within, offers_within, offers_behind_others      what some reads bring, more do
use Rattle.std.specs.Prelude.{◌≡◌, ◌⊎◌, ◌<◌, ℕ, true, List, [], ◌∷◌, ◌++◌, Contains, Option, Some, None, bytes_eq}
use Rattle.std.proofs.Common.{inl, inr}
use Rattle.std.proofs.lemmas.List.Elements.{Contains-append_right}
use Rattle.slate_types.specs.declared.types.RowEntry.{RowEntry}
use Rattle.slate_types.specs.Outside.{Act, Meaning}
use Rattle.slate_types.specs.Rows.{is_operand}
use Rattle.slate_merge.specs.CallLaws.{among_within, brings_within, calls_within}
use Rattle.slate_merge.specs.Calls.{AreCalls, BringsByCalls}
use Rattle.slate_merge.specs.Handing.{AreAmong}

pub record IsAbove (q r : RowEntry) : Type 0 where
  pub operand : is_operand q ≡ true
  pub same_key : bytes_eq q.key r.key ≡ true
  pub greater : q.seq < r.seq

pub data Offer : Type 0 where
  Comes : (row : RowEntry) → Offer
  Rises : (row : RowEntry) → Offer

module _ {S : Type 0} (begins : S → Meaning → List Act → S → Type 0) (takes : S → Meaning → List Act → Option RowEntry → S → Type 0) where
  abbrev pub AreBegins : Meaning → List Act → S → List (List Act) → S → Type 0
  AreBegins m reads x [] y = x ≡ y
  AreBegins m reads x (by ∷ each) y = AreAmong by reads × ((next : S) × begins x m by next × AreBegins m reads next each y)

  pub record RisesBehind (q : RowEntry) (x : S) (m : Meaning) (reads : List Act) (r : RowEntry) : Type 0 where
    pub each : List (List Act)
    pub last : S
    pub begun : AreBegins m reads x each last
    pub by : List Act
    pub among : AreAmong by reads
    pub after : S
    pub taken : takes last m by (Some r) after
    pub above : IsAbove q r

module _ {S : Type 0} (begins : S → Meaning → List Act → S → Type 0) (takes : S → Meaning → List Act → Option RowEntry → S → Type 0) (seeks : S → Meaning → List Act → List ℕ → S → Type 0) where
  pub record RisesByCalls (x : S) (m : Meaning) (reads : List Act) (r : RowEntry) : Type 0 where
    pub each : List (List Act)
    pub last : S
    pub calls : AreCalls begins takes seeks m reads x each last
    pub by : List Act
    pub among : AreAmong by reads
    pub row : RowEntry
    pub after : S
    pub taken : takes last m by (Some row) after
    pub rises : RisesBehind begins takes row after m reads r

  abbrev pub offers : Option RowEntry → S → Meaning → List Act → Offer → Type 0
  offers None x m reads (Comes r) = BringsByCalls begins takes seeks x m reads r
  offers None x m reads (Rises r) = RisesByCalls x m reads r
  offers (Some q) x m reads (Comes r) = (q ≡ r) ⊎ BringsByCalls begins takes seeks x m reads r
  offers (Some q) x m reads (Rises r) = RisesBehind begins takes q x m reads r ⊎ RisesByCalls x m reads r

  -- ---- by more reads

  pub begins_within : (m : Meaning) (reads all : List Act) → ((a : Act) → Contains reads a → Contains all a) → (x y : S) (each : List (List Act)) → AreBegins begins takes m reads x each y → AreBegins begins takes m all x each y
  begins_within m reads all within x y [] h = h
  begins_within m reads all within x y (by ∷ each) (among, (next, call, calls)) = (among_within by reads all within among, (next, call, begins_within m reads all within next y each calls))

  pub behind_within : (q : RowEntry) (x : S) (m : Meaning) (reads all : List Act) (r : RowEntry) → RisesBehind begins takes q x m reads r → ((a : Act) → Contains reads a → Contains all a) → RisesBehind begins takes q x m all r
  behind_within q x m reads all r c within = record {
    each = c.each;
    last = c.last;
    begun = begins_within m reads all within x c.last c.each c.begun;
    by = c.by;
    among = among_within c.by reads all within c.among;
    after = c.after;
    taken = c.taken;
    above = c.above;
  }

  pub rises_within : (x : S) (m : Meaning) (reads all : List Act) (r : RowEntry) → RisesByCalls x m reads r → ((a : Act) → Contains reads a → Contains all a) → RisesByCalls x m all r
  rises_within x m reads all r c within = record {
    each = c.each;
    last = c.last;
    calls = calls_within begins takes seeks m reads all within x c.last c.each c.calls;
    by = c.by;
    among = among_within c.by reads all within c.among;
    row = c.row;
    after = c.after;
    taken = c.taken;
    rises = behind_within c.row c.after m reads all r c.rises within;
  }

  pub offers_within : (ahead : Option RowEntry) (x : S) (m : Meaning) (reads all : List Act) (o : Offer) → offers ahead x m reads o → ((a : Act) → Contains reads a → Contains all a) → offers ahead x m all o
  offers_within None x m reads all (Comes r) c within = brings_within begins takes seeks x m reads all r c within
  offers_within None x m reads all (Rises r) c within = rises_within x m reads all r c within
  offers_within (Some q) x m reads all (Comes r) (inl is) within = inl is
  offers_within (Some q) x m reads all (Comes r) (inr c) within = inr (brings_within begins takes seeks x m reads all r c within)
  offers_within (Some q) x m reads all (Rises r) (inl c) within = inl (behind_within q x m reads all r c within)
  offers_within (Some q) x m reads all (Rises r) (inr c) within = inr (rises_within x m reads all r c within)

  pub offers_behind_others : (ahead : Option RowEntry) (x : S) (m : Meaning) (done reads : List Act) (o : Offer) → offers ahead x m reads o → offers ahead x m (done ++ reads) o
  offers_behind_others ahead x m done reads o c = offers_within ahead x m reads (done ++ reads) o c (λ a k. Contains-append_right done reads a k)
