-- Tables that are opened one by one.
use Rattle.std.proofs.Common.{◌≡◌, ◌⊎◌, inl, inr, ℕ, zero, suc, ◌+◌, ◌<◌, ◌≤◌, List, [], ◌∷◌, ◌++◌, take, get_or, length, Option, refl, sym, ap, subst, ◌∙◌, arith}
use Rattle.std.specs.Prelude.{Contains, Result, Some, Ok, Err, slice_get}
use Rattle.std.proofs.lemmas.List.Elements.{Contains-get_or}
use Rattle.std.proofs.lemmas.Option.{get_or_from_slice_get, slice_get_within}
use Rattle.slate_types.proofs.Lists.{Contains_at}
use Rattle.slate_types.specs.declared.error.SlateDBError.{SlateDBError}
use Rattle.slate_types.specs.declared.error.SlateDBError.TheVariants.{StoreFault}
use Rattle.slate_types.specs.declared.types.Ulid.{Ulid}
use Rattle.slate_types.specs.Outside.{Act, Objects}
use Rattle.slate_read.specs.TableWalk.{root}
use Rattle.slate_table.specs.declared.info.SsTableHandle.{SsTableHandle}
use Rattle.slate_table.specs.InfoReading.{seen_info}
use Rattle.slate_table.specs.Opening.{IsOpened, RefusesOpen}
use Rattle.slate_table.specs.Paths.{path_of}
use Rattle.slate_table.specs.Reading.{IsStoreFault}
use Rattle.slate_tables.specs.Merging.{MatchEach}
use Rattle.slate_tables.specs.Opened.{MayRefuse, WasOpened}
use Rattle.slate_tables.proofs.Sources.{each_both}

-- ---- one table

pub opened_there : (objects : Option Objects) (before after : Option (List Act)) (at : List ℕ) (id : Ulid) (h : SsTableHandle) → at ≡ root → h.id ≡ id →
    IsOpened objects before after (path_of at id.0) id.0 h.format_version (seen_info h.info) → WasOpened objects id h
opened_there objects before after at id h there named opened = record {
  named = named;
  before = before;
  after = after;
  opened = subst (λ (r : List ℕ). IsOpened objects before after (path_of r id.0) id.0 h.format_version (seen_info h.info)) there opened;
}

pub refused_there : (objects : Option Objects) (before after : Option (List Act)) (i j : ℕ) (at : List ℕ) (id : Ulid) (e : SlateDBError) → at ≡ root →
    IsStoreFault i j e ⊎ RefusesOpen objects before after (path_of at id.0) id.0 e → IsStoreFault i j e ⊎ MayRefuse objects (id ∷ []) e
refused_there objects before after i j at id e there (inl f) = inl f
refused_there objects before after i j at id e there (inr r) = inr (id, before, after, Contains-get_or (id ∷ []) 0 id (omega arith), subst (λ (p : List ℕ). RefusesOpen objects before after (path_of p id.0) id.0 e) there r)

pub still_ok : {A B : Type 0} {P : Type 0} (x : A) (y : B) → (◌≡◌ {A = Result A SlateDBError} (Ok x) (Err StoreFault)) ⊎ P → (◌≡◌ {A = Result B SlateDBError} (Ok y) (Err StoreFault)) ⊎ P
still_ok x y (inl is) = absurd cc
still_ok x y (inr p) = inr p

pub still_err : {A B : Type 0} {P : Type 0} (e : SlateDBError) → (◌≡◌ {A = Result A SlateDBError} (Err e) (Err StoreFault)) ⊎ P → (◌≡◌ {A = Result B SlateDBError} (Err e) (Err StoreFault)) ⊎ P
still_err e (inl is) = let same : e ≡ StoreFault = cc in inl (ap (λ (x : SlateDBError). Err x) same)
still_err e (inr p) = inr p

-- ---- one table more

take_more : {A : Type 0} (xs : List A) (i : ℕ) (x : A) → i < length xs → x ≡ get_or xs i x → take (i + 1) xs ≡ take i xs ++ (x ∷ [])
take_more [] i x within is = absurd (omega (arith, within))
take_more (y ∷ xs) zero x within is = ap (λ z. z ∷ []) (sym is)
take_more (y ∷ xs) (suc i) x within is =
    let place : suc (i + 1) ≡ suc i + 1 = omega arith in
    sym (ap (λ n. take n (y ∷ xs)) place) ∙ ap (λ l. y ∷ l) (take_more xs i x (omega (arith, within)) is)

pub each_more : {A B : Type 0} (R : A → B → Type 0) (xs : List A) (i : ℕ) (x : A) (ys zs : List B) (y : B) → slice_get xs i ≡ Some x → MatchEach R (take i xs) ys → R x y → zs ≡ ys ++ (y ∷ []) → MatchEach R (take (i + 1) xs) zs
each_more {A = A} {B = B} R xs i x ys zs y is h r pushed =
    subst (λ (vs : List B). MatchEach R (take (i + 1) xs) vs) (sym pushed)
    (subst (λ (us : List A). MatchEach R us (ys ++ (y ∷ []))) (sym (take_more xs i x (slice_get_within xs i x is) (sym (get_or_from_slice_get xs i x x is))))
    (each_both R (take i xs) ys (x ∷ []) (y ∷ []) h (r, tt)))

pub was_opened : (objects now : Option Objects) (id : Ulid) (h : SsTableHandle) → now ≡ objects → WasOpened now id h → WasOpened objects id h
was_opened objects now id h same w = subst (λ (o : Option Objects). WasOpened o id h) same w

one_place : (id x : Ulid) (i : ℕ) → i < 1 → get_or (id ∷ []) i x ≡ x → x ≡ id
one_place id x zero within is = sym is
one_place id x (suc i) within is = absurd (omega (arith, within))

pub refused_among : (objects now : Option Objects) (ids : List Ulid) (n : ℕ) (id : Ulid) (i j k : ℕ) (e : SlateDBError) → slice_get ids n ≡ Some id → now ≡ objects → j ≡ i →
    IsStoreFault j k e ⊎ MayRefuse now (id ∷ []) e → IsStoreFault i k e ⊎ MayRefuse objects ids e
refused_among objects now ids n id i j k e is same still (inl f) = inl (subst (λ (m : ℕ). IsStoreFault m k e) still f)
refused_among objects now ids n id i j k e is same still (inr r) =
    let one : r.0 ≡ id = only r.0 r.3 in
    inr (id, r.1, r.2, Contains_at ids n id is, subst (λ (x : Ulid). RefusesOpen objects r.1 r.2 (path_of root x.0) x.0 e) one (subst (λ (o : Option Objects). RefusesOpen o r.1 r.2 (path_of root r.0.0) r.0.0 e) same r.4))
  where
    only : (x : Ulid) → Contains (id ∷ []) x → x ≡ id
    only x h = one_place id x h.0 h.1 h.2

take_all : {A : Type 0} (xs : List A) (i : ℕ) → length xs ≤ i → take i xs ≡ xs
take_all [] zero end = refl
take_all [] (suc i) end = refl
take_all (x ∷ xs) zero end = absurd (omega (arith, end))
take_all (x ∷ xs) (suc i) end = ap (λ l. x ∷ l) (take_all xs i (omega (arith, end)))

pub each_all : {A B : Type 0} (R : A → B → Type 0) (xs : List A) (i : ℕ) (ys : List B) → length xs ≤ i → MatchEach R (take i xs) ys → MatchEach R xs ys
each_all {A = A} R xs i ys end h = subst (λ (us : List A). MatchEach R us ys) (take_all xs i end) h

pub still_later : {A B : Type 0} (e : SlateDBError) (i j k : ℕ) → j ≡ i → (◌≡◌ {A = Result A SlateDBError} (Err e) (Err StoreFault)) ⊎ (k ≡ j) → (◌≡◌ {A = Result B SlateDBError} (Err e) (Err StoreFault)) ⊎ (k ≡ i)
still_later e i j k same (inl is) = let err : e ≡ StoreFault = cc in inl (ap (λ (x : SlateDBError). Err x) err)
still_later e i j k same (inr too) = inr (too ∙ same)
