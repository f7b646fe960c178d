-- What calls of an iterator offer, behind one of its calls.
use Rattle.std.proofs.Common.{◌≡◌, ◌⊎◌, inl, inr, ℕ, List, [], ◌∷◌, ◌++◌, Option, Some, None, refl, sym, ap, subst, ◌∙◌, append-nil, append_assoc}
use Rattle.std.specs.Prelude.{Contains}
use Rattle.std.proofs.lemmas.List.Elements.{Contains-append_left, Contains-append_right}
use Rattle.slate_types.specs.declared.types.RowEntry.{RowEntry}
use Rattle.slate_types.specs.Outside.{Act, Meaning}
use Rattle.slate_types.specs.Steps.{Takes, TakesAll}
use Rattle.slate_merge.specs.CallLaws.{among_within, calls_within}
use Rattle.slate_merge.specs.Calls.{AreCalls, BringsByCalls, CallsOnce}
use Rattle.slate_merge.specs.Handing.{Gives}
use Rattle.slate_merge.specs.Offers.{AreBegins, Comes, IsAbove, Offer, Rises, RisesBehind, RisesByCalls, begins_within, behind_within, offers, offers_within}
use Rattle.slate_merge.proofs.Calling.{among_front, among_itself, brings_before_others, brings_taken_row, called_less}

module _ {S : Type 0} (begins : S → Meaning → List Act → S → Type 0) (takes : S → Meaning → List Act → Option RowEntry → S → Type 0) (seeks : S → Meaning → List Act → List ℕ → S → Type 0) (m : Meaning) where
  abbrev pub offered : Option RowEntry → S → List Act → Offer → Type 0
  offered ahead x reads o = offers begins takes seeks ahead x m reads o

  -- what rises behind a call rose before
  pub called_rises : (x y : S) (by : List Act) → CallsOnce begins takes seeks m x by y → (later : List Act) (r : RowEntry) → RisesByCalls begins takes seeks y m later r → RisesByCalls begins takes seeks x m (by ++ later) r
  called_rises x y by call later r c = record {
    each = by ∷ c.each;
    last = c.last;
    calls = (among_front by later, (y, call, calls_within begins takes seeks m later (by ++ later) (λ a k. Contains-append_right by later a k) y c.last c.each c.calls));
    by = c.by;
    among = among_within c.by later (by ++ later) (λ a k. Contains-append_right by later a k) c.among;
    row = c.row;
    after = c.after;
    taken = c.taken;
    rises = behind_within begins takes seeks c.row c.after m later (by ++ later) r c.rises (λ a k. Contains-append_right by later a k);
  }

  -- what rises behind a row that was taken
  pub taken_rises : (x y : S) (by : List Act) (q : RowEntry) → takes x m by (Some q) y → (later : List Act) (r : RowEntry) → RisesBehind begins takes q y m later r → RisesByCalls begins takes seeks x m (by ++ later) r
  taken_rises x y by q taken later r c = record {
    each = [];
    last = x;
    calls = refl;
    by = by;
    among = among_front by later;
    row = q;
    after = y;
    taken = taken;
    rises = behind_within begins takes seeks q y m later (by ++ later) r c (λ a k. Contains-append_right by later a k);
  }

  begun_rises : (x y : S) (by : List Act) (q : RowEntry) → begins x m by y → (later : List Act) (r : RowEntry) → RisesBehind begins takes q y m later r → RisesBehind begins takes q x m (by ++ later) r
  begun_rises x y by q begun later r c = record {
    each = by ∷ c.each;
    last = c.last;
    begun = (among_front by later, (y, begun, begins_within begins takes seeks m later (by ++ later) (λ a k. Contains-append_right by later a k) y c.last c.each c.begun));
    by = c.by;
    among = among_within c.by later (by ++ later) (λ a k. Contains-append_right by later a k) c.among;
    after = c.after;
    taken = c.taken;
    above = c.above;
  }

  -- the next row is above the one before it
  pub next_rises : (x y : S) (by : List Act) (q r : RowEntry) → takes x m by (Some r) y → IsAbove q r → RisesBehind begins takes q x m by r
  next_rises x y by q r taken above = record { each = []; last = x; begun = refl; by = by; among = among_itself by; after = y; taken = taken; above = above }

  -- what rises comes
  begins_then : (reads : List Act) (r : RowEntry) (x y : S) (each : List (List Act)) → AreBegins begins takes m reads x each y → BringsByCalls begins takes seeks y m reads r → BringsByCalls begins takes seeks x m reads r
  begins_then reads r x y [] same k = subst (λ (u : S). BringsByCalls begins takes seeks u m reads r) (sym same) k
  begins_then reads r x y (by ∷ each) (among, (next, begun, rest)) k =
      let c = begins_then reads r next y each rest k in
      record { each = by ∷ c.each; last = c.last; calls = (among, (next, inl begun, c.calls)); by = c.by; among = c.among; after = c.after; taken = c.taken }

  calls_then : (reads : List Act) (r : RowEntry) (x y : S) (each : List (List Act)) → AreCalls begins takes seeks m reads x each y → BringsByCalls begins takes seeks y m reads r → BringsByCalls begins takes seeks x m reads r
  calls_then reads r x y [] same k = subst (λ (u : S). BringsByCalls begins takes seeks u m reads r) (sym same) k
  calls_then reads r x y (by ∷ each) (among, (next, call, rest)) k =
      let c = calls_then reads r next y each rest k in
      record { each = by ∷ c.each; last = c.last; calls = (among, (next, call, c.calls)); by = c.by; among = c.among; after = c.after; taken = c.taken }

  pub rises_come : (x : S) (reads : List Act) (r : RowEntry) → RisesByCalls begins takes seeks x m reads r → BringsByCalls begins takes seeks x m reads r
  rises_come x reads r c =
      let b = c.rises in
      let next : BringsByCalls begins takes seeks b.last m reads r = record { each = []; last = b.last; calls = refl; by = b.by; among = b.among; after = b.after; taken = b.taken } in
      let k = begins_then reads r c.after b.last b.each b.begun next in
      calls_then reads r x c.last c.each c.calls (record { each = c.by ∷ k.each; last = k.last; calls = (c.among, (c.after, inr (inl (Some c.row, c.taken)), k.calls)); by = k.by; among = k.among; after = k.after; taken = k.taken })

  -- a row is held ahead
  pub offers_held : (ahead : Option RowEntry) (x : S) (reads : List Act) (o : Offer) → offered None x reads o → offered ahead x reads o
  offers_held None x reads o k = k
  offers_held (Some q) x reads (Comes r) k = inr k
  offers_held (Some q) x reads (Rises r) k = inr k

  pub offers_called : (x y : S) (by : List Act) → CallsOnce begins takes seeks m x by y → (later : List Act) (o : Offer) → offered None y later o → offered None x (by ++ later) o
  offers_called x y by call later (Comes r) k = called_less begins takes seeks m x y by call later r k
  offers_called x y by call later (Rises r) k = called_rises x y by call later r k

  pub offers_taken : (x y : S) (by : List Act) (q : RowEntry) → takes x m by (Some q) y → (later : List Act) (o : Offer) → offered (Some q) y later o → offered None x (by ++ later) o
  offers_taken x y by q taken later (Comes r) (inl is) = subst (λ (p : RowEntry). offered None x (by ++ later) (Comes p)) is (brings_before_others begins takes seeks x m by later q (brings_taken_row begins takes seeks x m by q y taken))
  offers_taken x y by q taken later (Comes r) (inr k) = called_less begins takes seeks m x y by (inr (inl (Some q, taken))) later r k
  offers_taken x y by q taken later (Rises r) (inl k) = taken_rises x y by q taken later r k
  offers_taken x y by q taken later (Rises r) (inr k) = called_rises x y by (inr (inl (Some q, taken))) later r k

  pub offers_begun : (x y : S) (by : List Act) → begins x m by y → (ahead : Option RowEntry) (later : List Act) (o : Offer) → offered ahead y later o → offered ahead x (by ++ later) o
  offers_begun x y by begun None later o k = offers_called x y by (inl begun) later o k
  offers_begun x y by begun (Some q) later (Comes r) (inl is) = inl is
  offers_begun x y by begun (Some q) later (Comes r) (inr k) = inr (called_less begins takes seeks m x y by (inl begun) later r k)
  offers_begun x y by begun (Some q) later (Rises r) (inl k) = inl (begun_rises x y by q begun later r k)
  offers_begun x y by begun (Some q) later (Rises r) (inr k) = inr (called_rises x y by (inl begun) later r k)

  -- the row ahead was let go of
  pub offers_gone : (x y : S) (by : List Act) → CallsOnce begins takes seeks m x by y → (ahead more : Option RowEntry) → more ≡ None → (later : List Act) (o : Offer) → offered more y later o → offered ahead x (by ++ later) o
  offers_gone x y by call ahead more none later o k = offers_held ahead x (by ++ later) o (offers_called x y by call later o (subst (λ (q : Option RowEntry). offered q y later o) none k))

  pub offers_before_others : (ahead : Option RowEntry) (x : S) (reads later : List Act) (o : Offer) → offered ahead x reads o → offered ahead x (reads ++ later) o
  offers_before_others ahead x reads later o k = offers_within begins takes seeks ahead x m reads (reads ++ later) o k (λ a c. Contains-append_left reads later a c)

  -- ---- rows, one behind the other

  abbrev step : S → List Act → Option RowEntry → S → Type 0
  step u rs a v = takes u m rs a v

  -- by reads in two parts
  parted : (x : S) (reads first rest later : List Act) (o : Offer) → reads ≡ first ++ rest → offered None x (first ++ (rest ++ later)) o → offered None x (reads ++ later) o
  parted x reads first rest later o is k = subst (λ (acts : List Act). offered None x (acts ++ later) o) (sym is) (subst (λ (acts : List Act). offered None x acts o) (sym (append_assoc first rest later)) k)

  pub rows_offer : (rows : List RowEntry) (x y : S) (reads : List Act) → Takes step x reads rows y → (later : List Act) (o : Offer) → offered None y later o → offered None x (reads ++ later) o
  rows_offer [] x y reads t later o k = subst (λ (acts : List Act). offered None x (acts ++ later) o) (sym t.0) (subst (λ (u : S). offered None u later o) (sym t.1) k)
  rows_offer (row ∷ rows) x y reads (next, first, rest, is, taken, more) later o k =
      parted x reads first rest later o is (offers_called x next first (inr (inl (Some row, taken))) (rest ++ later) o (rows_offer rows next y rest more later o k))

  pub given_offer : (rows : List RowEntry) (x y : S) (reads : List Act) → Gives step x reads rows y → (later : List Act) (o : Offer) → offered None y later o → offered None x (reads ++ later) o
  given_offer rows x y reads (inl t) later o k = rows_offer rows x y reads t later o k
  given_offer rows x y reads (inr (last, first, end, is, t, none)) later o k =
      parted x reads first end later o is (rows_offer rows x last first t (end ++ later) o (offers_called last y end (inr (inl (None, none))) later o k))

  -- the last of them is held
  pub last_offers : (rows : List RowEntry) (x y : S) (reads : List Act) (row : RowEntry) → Takes step x reads (rows ++ (row ∷ [])) y → (later : List Act) (o : Offer) → offered (Some row) y later o → offered None x (reads ++ later) o
  last_offers [] x y reads row (next, first, rest, is, taken, (none, same)) later o k =
      parted x reads first rest later o is (subst (λ (acts : List Act). offered None x (first ++ (acts ++ later)) o) (sym none) (offers_taken x next first row taken later o (subst (λ (u : S). offered (Some row) u later o) (sym same) k)))
  last_offers (r ∷ rows) x y reads row (next, first, rest, is, taken, more) later o k =
      parted x reads first rest later o is (offers_called x next first (inr (inl (Some r, taken))) (rest ++ later) o (last_offers rows next y rest row more later o k))

  -- the last two rise
  pub two_rise : (rows : List RowEntry) (x y : S) (reads : List Act) (q r : RowEntry) → IsAbove q r → Takes step x reads (rows ++ (q ∷ r ∷ [])) y → RisesByCalls begins takes seeks x m reads r
  two_rise [] x y reads q r above (next, first, rest, is, taken, (end, second, last, also, goes, (none, same))) =
      subst (λ (acts : List Act). RisesByCalls begins takes seeks x m acts r) (sym (is ∙ ap (λ (l : List Act). first ++ l) (also ∙ ap (λ (l : List Act). second ++ l) none ∙ append-nil second)))
      (taken_rises x next first q taken second r (next_rises next end second q r goes above))
  two_rise (p ∷ rows) x y reads q r above (next, first, rest, is, taken, more) =
      subst (λ (acts : List Act). RisesByCalls begins takes seeks x m acts r) (sym is) (called_rises x next first (inr (inl (Some p, taken))) rest r (two_rise rows next y rest q r above more))
