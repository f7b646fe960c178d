-- What who has all parts knows of the tables that a journal names, and that a store holds them past its own flush.
use Rattle.std.proofs.Common.{◌≡◌, ◌≢◌, ◌⊎◌, inl, inr, ℕ, zero, suc, ◌+◌, ◌<◌, ◌≤◌, true, false, eqb, List, [], ◌∷◌, ◌++◌, length, Option, Some, None, slice_get, refl, sym, ap, ◌∙◌, subst, arith, append-nil, length-append}
use Rattle.std.specs.Prelude.{Result, Ok, Err, ℤ}
use Rattle.std.proofs.lemmas.Bool.Decides.{eqb_tells}
use Rattle.std.proofs.lemmas.Grind.{flat_map-append}
use mathlib.Core.List.{IsPrefix}
use Rattle.slate_types.specs.declared.error.SlateDBError.{SlateDBError}
use Rattle.slate_types.specs.Outside.{Objects}
use Rattle.slate_mem.specs.BatchModel.{BatchModel}
use Rattle.slate_mem.specs.KeyTests.{Segments}
use Rattle.slate_txn.specs.declared.event.Event.{Event}
use Rattle.slate_txn.specs.declared.event.Event.TheVariants as events
use Rattle.slate_txn.specs.Settings.{Settings}
use Rattle.slate_db.specs.Flushed.{Layout}
use Rattle.slate_db.specs.Installs.{Holds, tables_in, tables_of}
use Rattle.slate_db.specs.Meaning.{Meaning}
use Rattle.slate_db.specs.Readable.{AreFiltered}
use Rattle.slate_db.proofs.Logs.{tables_more, tables_same}
use Rattle.slate_shared.specs.Ended.{HasWritten, behind_write, own_behind}
use Rattle.slate_shared.specs.Errands.{HasLanded}
use Rattle.slate_shared.specs.Passes.{PassModel}
use Rattle.slate_shared.specs.Shared.{OwnsAll, is_own, times}
use Rattle.slate_shared.proofs.Lists.{get_below, prefix_length, prefix_more, prefix_self, prefix_trans, same-ne, times-append}

-- the own places are those of events that were seen
abbrev pub Within : List ℕ → List Event → Type 0
Within own seen = (p : ℕ) → 0 < times p own → p < length seen

-- ---- places

get_front : (xs ys : List Event) (i : ℕ) (e : Event) → slice_get xs i ≡ Some e → slice_get (xs ++ ys) i ≡ Some e
get_front [] ys i e at = absurd (cc at)
get_front (x ∷ xs) ys zero e at = at
get_front (x ∷ xs) ys (suc i) e at = get_front xs ys i e at

get_behind : (xs ys : List Event) (i n : ℕ) (e : Event) → n ≡ length xs + i → slice_get ys i ≡ Some e → slice_get (xs ++ ys) n ≡ Some e
get_behind [] ys i n e is at = subst (λ (k : ℕ). slice_get ys k ≡ Some e) (let z : i ≡ n = omega (arith, is) in z) at
get_behind (x ∷ xs) ys i zero e is at = absurd (omega (arith, is))
get_behind (x ∷ xs) ys i (suc n) e is at = get_behind xs ys i n e (let z : n ≡ length xs + i = omega (arith, is) in z) at

-- ---- tables

none_in : (es : List Event) → ((i : ℕ) (e : Event) → slice_get es i ≡ Some e → is_own e ≡ true → ⊥) → tables_of es ≡ []
none_in [] none = refl
none_in (x ∷ es) none = ap (λ ts. ts ++ tables_of es) (first x refl) ∙ none_in es (λ i e at own. none (suc i) e at own)
  where
    first : (e : Event) → e ≡ x → tables_in e ≡ []
    first (events.Install through ts) is = absurd (none 0 x refl (ap is_own (sym is)))
    first (events.Begin id level start) is = refl
    first (events.End id) is = refl
    first (events.Commit id n now ops tracked ts) is = refl
    first (events.Write n now ops) is = refl
    first events.Freeze is = refl
    first (events.Snapshot id n) is = refl
    first (events.Release id) is = refl

-- who owns all owned events, and none between these two moments, knows that no table came between
pub tables_known : (own : List ℕ) (seen mid es : List Event) → ((p : ℕ) → 0 < times p own → p < length mid → p < length seen) → OwnsAll own es → IsPrefix seen mid → IsPrefix mid es → tables_of mid ≡ tables_of seen
tables_known own seen mid es within all first pre = ap tables_of (sym first.1) ∙ flat_map-append tables_in seen first.0 ∙ ap (λ ts. tables_of seen ++ ts) (none_in first.0 none) ∙ append-nil (tables_of seen)
  where
    none : (i : ℕ) (e : Event) → slice_get first.0 i ≡ Some e → is_own e ≡ true → ⊥
    none i e at own_is =
        let here : slice_get mid (length seen + i) ≡ Some e = subst (λ (xs : List Event). slice_get xs (length seen + i) ≡ Some e) first.1 (get_behind seen first.0 i (length seen + i) e refl at) in
        let there : slice_get es (length seen + i) ≡ Some e = subst (λ (xs : List Event). slice_get xs (length seen + i) ≡ Some e) pre.1 (get_front mid pre.0 (length seen + i) e here) in
        let once : times (length seen + i) own ≡ 1 = all (length seen + i) e there own_is in
        let below : length seen + i < length seen = within (length seen + i) (omega (arith, once)) (get_below mid e (length seen + i) here) in
        omega (arith, below)

-- ---- own places

pub within_none : (seen : List Event) → Within [] seen
within_none seen p some = absurd (omega (arith, some))

one_place : (p n : ℕ) → 0 < times p (n ∷ []) → p ≡ n
one_place p n some = by (eqb_tells p n)
  where
    by : ((eqb p n ≡ true) × (p ≡ n)) ⊎ ((eqb p n ≡ false) × (p ≢ n)) → p ≡ n
    by (inl is) = is.1
    by (inr other) = let z = same-ne p n other.1 in absurd (omega (arith, z, some))

pub within_later : (own : List ℕ) (seen later : List Event) → Within own seen → IsPrefix seen later → Within own later
within_later own seen later w pre p some = let short = prefix_length seen later pre in let here = w p some in omega (arith, short, here)

-- an own event more
pub within_more : (own : List ℕ) (seen : List Event) (e : Event) → Within own seen → Within (own ++ length seen ∷ []) (seen ++ e ∷ [])
within_more own seen e w p some =
    let sum = times-append p own (length seen ∷ []) in
    let long : length (seen ++ e ∷ []) ≡ length seen + 1 = length-append seen (e ∷ []) in
    by sum long (times p own) refl
  where
    by : times p (own ++ length seen ∷ []) ≡ times p own + times p (length seen ∷ []) → length (seen ++ e ∷ []) ≡ length seen + 1 → (n : ℕ) → times p own ≡ n → p < length (seen ++ e ∷ [])
    by sum long zero is = let last = one_place p (length seen) (omega (arith, sum, is, some)) in omega (arith, last, long)
    by sum long (suc n) is = let here = w p (omega (arith, is)) in omega (arith, here, long)

-- but for the last of them
pub within_but_last : (own : List ℕ) (seen journal : List Event) → Within own seen → (p : ℕ) → 0 < times p (own ++ length journal ∷ []) → p < length journal → p < length seen
within_but_last own seen journal w p some short = by (times-append p own (length journal ∷ [])) (times p own) refl
  where
    by : times p (own ++ length journal ∷ []) ≡ times p own + times p (length journal ∷ []) → (n : ℕ) → times p own ≡ n → p < length seen
    by sum zero is = let last = one_place p (length journal) (omega (arith, sum, is, some)) in absurd (omega (arith, last, short))
    by sum (suc n) is = w p (omega (arith, is))

-- ---- a write and a flush of one pass, of which it is known at the end that all is its own

module _ (fault : SlateDBError → Type 0) (m : Meaning) (g : Segments) (o : Settings) (now : ℤ) (b : BatchModel) (old new : PassModel) (r : Result (Option ℕ) SlateDBError) (h : HasWritten fault m g o now b old new r) (w : Within old.own old.seen) where
  behind : (s : Result (Option ℕ) SlateDBError) → Within (own_behind old.own h.before s) (behind_write h.before now b.ops s)
  behind (Ok (Some n)) = within_more old.own h.before (events.Write n now b.ops) (within_later old.own old.seen h.before w h.seen)
  behind (Ok None) = within_later old.own old.seen h.before w h.seen
  behind (Err e) = within_later old.own old.seen h.before w h.seen

  pub within_written : Within new.own new.seen
  within_written = subst (λ (x : List ℕ × List Event). Within x.0 x.1) (λ i. (sym h.own i, sym h.after i)) (behind r)

  same_tables : (s : Result (Option ℕ) SlateDBError) → tables_of (behind_write h.before now b.ops s) ≡ tables_of h.before
  same_tables (Ok (Some n)) = tables_same h.before (events.Write n now b.ops) refl
  same_tables (Ok None) = refl
  same_tables (Err e) = refl

  begins : (s : Result (Option ℕ) SlateDBError) → IsPrefix h.before (behind_write h.before now b.ops s)
  begins (Ok (Some n)) = prefix_more h.before h.before (events.Write n now b.ops ∷ []) (prefix_self h.before)
  begins (Ok None) = prefix_self h.before
  begins (Err e) = prefix_self h.before

  -- places that are own later are own now, or behind all that is seen now
  pub tables_written : (own : List ℕ) (es : List Event) → ((p : ℕ) → 0 < times p own → p < length new.seen → 0 < times p new.own) → OwnsAll own es → IsPrefix new.seen es → tables_of new.seen ≡ tables_of old.seen
  tables_written own es mine all pre =
      ap tables_of h.after ∙ same_tables r
      ∙ tables_known own old.seen h.before es (λ p some short. earlier r p short (subst (λ (ns : List ℕ). 0 < times p ns) h.own (mine p some (longer p short)))) all h.seen (prefix_trans h.before new.seen es (subst (IsPrefix h.before) (sym h.after) (begins r)) pre)
    where
      longer : (p : ℕ) → p < length h.before → p < length new.seen
      longer p short = let more = prefix_length h.before new.seen (subst (IsPrefix h.before) (sym h.after) (begins r)) in omega (arith, more, short)

      earlier : (s : Result (Option ℕ) SlateDBError) (p : ℕ) → p < length h.before → 0 < times p (own_behind old.own h.before s) → p < length old.seen
      earlier (Ok (Some n)) p short some = within_but_last old.own old.seen h.before w p some short
      earlier (Ok None) p short some = w p some
      earlier (Err e) p short some = w p some

module _ (o : Settings) (m : Meaning) (layout : Layout) (n : ℕ) (before after : Option Objects) (old : List Event) (own : List ℕ) (new : List Event) (own' : List ℕ) (h : HasLanded o m layout n before after old own new own') (w : Within own old) where
  pub within_landed : Within own' new
  within_landed = subst (λ (x : List ℕ × List Event). Within x.0 x.1) (λ i. (sym h.place i, sym h.event i)) (within_more own h.journal (events.Install n h.tables) (within_later own old h.journal w h.seen))

  -- the store holds all that is named then
  pub held_landed : (es : List Event) → OwnsAll own' es → IsPrefix new es → (os : Objects) → before ≡ Some os → Holds os (tables_of old) → (left : Objects) × (after ≡ Some left) × Holds left (tables_of new)
  held_landed es all pre os told holds =
      let left = h.stored os told in
      let ends : IsPrefix h.journal new = subst (IsPrefix h.journal) (sym h.event) (prefix_more h.journal h.journal (events.Install n h.tables ∷ []) (prefix_self h.journal)) in
      let same : tables_of h.journal ≡ tables_of old = tables_known own' old h.journal es (λ p some short. within_but_last own old h.journal w p (subst (λ (ns : List ℕ). 0 < times p ns) h.place some) short) all h.seen (prefix_trans h.journal new es ends pre) in
      (left.0, left.1, subst (Holds left.0) (sym (ap tables_of h.event ∙ tables_more h.journal (events.Install n h.tables))) (left.2 h.journal (prefix_self h.journal) (subst (Holds os) (sym same) holds)))

  -- of what is own then, all that stood in what was seen before was own before
  pub own_before : (p : ℕ) → 0 < times p own' → p < length old → 0 < times p own
  own_before p some short = by (times p own) refl (times-append p own (length h.journal ∷ []))
    where
      mine : 0 < times p (own ++ length h.journal ∷ [])
      mine = subst (λ (ns : List ℕ). 0 < times p ns) h.place some

      by : (k : ℕ) → times p own ≡ k → times p (own ++ length h.journal ∷ []) ≡ times p own + times p (length h.journal ∷ []) → 0 < times p own
      by zero is sum = let more = prefix_length old h.journal h.seen in let last = one_place p (length h.journal) (omega (arith, sum, is, mine)) in absurd (omega (arith, last, short, more))
      by (suc k) is sum = omega (arith, is)
