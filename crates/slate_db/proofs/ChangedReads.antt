-- A byte that a store changed never passes its section's checksum.
use Rattle.std.proofs.Common.{◌≡◌, ◌⊎◌, inl, inr, ℕ, zero, suc, ◌+◌, ◌-◌, ◌≤◌, Bool, true, false, cond, List, [], ◌∷◌, ◌++◌, length, take, drop, Option, Some, None, refl, sym, ap, subst, ◌∙◌, arith}
use Rattle.std.specs.Prelude.{nat_le, Contains}
use Rattle.std.proofs.lemmas.List.{append_cancel_left, drop-drop, drop-take, take-take}
use Rattle.std.proofs.lemmas.Option.{same_Some}
use Rattle.slate_types.specs.Outside.{Act, Objects, object_at, part, part_of}
use Rattle.slate_types.specs.World.{IsSlipOf, Kept, Section}
use Rattle.slate_store.specs.Lying.{after_act}
use Rattle.slate_table.specs.ChangedBytes.{IsByteChanged}
use Rattle.slate_table.specs.Parts.{Encode, sum_fits}
use Rattle.slate_table.proofs.ChangedSections.{sections_tell}
use Rattle.slate_db.specs.ChangedReads.{AreNearReads, IsNearRead}
use Rattle.slate_db.specs.Checked.{AnySlips, IsSlipFrom, SlipsFrom, StandsAt}

-- ---- a part of what was changed

-- the byte isn't in it, or is
abbrev IsSameOrChanged : List ℕ → List ℕ → Type 0
IsSameOrChanged a b = (a ≡ b) ⊎ IsByteChanged a b

abbrev Stands : List ℕ → List ℕ → ℕ → ℕ → Type 0
Stands a b x y = (a ≡ b) ⊎ ((front : List ℕ) × (behind : List ℕ) × (a ≡ front ++ (x ∷ behind)) × (b ≡ front ++ (y ∷ behind)))

dropped : (n : ℕ) (front : List ℕ) (x y : ℕ) (behind : List ℕ) → Stands (drop n (front ++ (x ∷ behind))) (drop n (front ++ (y ∷ behind))) x y
dropped zero front x y behind = inr (front, behind, refl, refl)
dropped (suc n) [] x y behind = inl refl
dropped (suc n) (f ∷ front) x y behind = dropped n front x y behind

taken : (n : ℕ) (front : List ℕ) (x y : ℕ) (behind : List ℕ) → Stands (take n (front ++ (x ∷ behind))) (take n (front ++ (y ∷ behind))) x y
taken zero front x y behind = inl refl
taken (suc n) [] x y behind = inr ([], take n behind, refl, refl)
taken (suc n) (f ∷ front) x y behind = by (taken n front x y behind)
  where
    by : Stands (take n (front ++ (x ∷ behind))) (take n (front ++ (y ∷ behind))) x y → Stands (f ∷ take n (front ++ (x ∷ behind))) (f ∷ take n (front ++ (y ∷ behind))) x y
    by (inl same) = inl (ap (λ (l : List ℕ). f ∷ l) same)
    by (inr (more, rest, was, is)) = inr (f ∷ more, rest, ap (λ (l : List ℕ). f ∷ l) was, ap (λ (l : List ℕ). f ∷ l) is)

parts_of_changed : (at len : ℕ) (a b : List ℕ) → IsByteChanged a b → IsSameOrChanged (part at len a) (part at len b)
parts_of_changed at len a b c = by (dropped at c.front c.old c.new c.behind)
  where
    was : part at len a ≡ take len (drop at (c.front ++ (c.old ∷ c.behind)))
    was = ap (λ (l : List ℕ). take len (drop at l)) c.was

    is : part at len b ≡ take len (drop at (c.front ++ (c.new ∷ c.behind)))
    is = ap (λ (l : List ℕ). take len (drop at l)) c.is

    in_part : (front behind : List ℕ) → part at len a ≡ take len (front ++ (c.old ∷ behind)) → part at len b ≡ take len (front ++ (c.new ∷ behind)) →
        Stands (take len (front ++ (c.old ∷ behind))) (take len (front ++ (c.new ∷ behind))) c.old c.new → (part at len a ≡ part at len b) ⊎ IsByteChanged (part at len a) (part at len b)
    in_part front behind x y (inl same) = inl (x ∙ same ∙ sym y)
    in_part front behind x y (inr (before, rest, p, q)) =
        inr (record { front = before; old = c.old; new = c.new; behind = rest; was = x ∙ p; is = y ∙ q; old_byte = c.old_byte; new_byte = c.new_byte; differs = c.differs })

    by : Stands (drop at (c.front ++ (c.old ∷ c.behind))) (drop at (c.front ++ (c.new ∷ c.behind))) c.old c.new → (part at len a ≡ part at len b) ⊎ IsByteChanged (part at len a) (part at len b)
    by (inl same) = inl (was ∙ ap (take len) same ∙ sym is)
    by (inr (front, behind, p, q)) = in_part front behind (was ∙ ap (take len) p) (is ∙ ap (take len) q) (taken len front c.old c.new behind)

-- ---- a part of a part

part_within : (start len at n : ℕ) (b : List ℕ) → start ≤ at → at + n ≤ start + len → part (at - start) n (part start len b) ≡ part at n b
part_within start len at n b from upto =
    let k = at - start in
    let whole : len ≡ k + (len - k) = omega (arith, from, upto) in
    let fits : n ≤ len - k = omega (arith, from, upto) in
    let there : start + k ≡ at = omega (arith, from) in
    ap (λ (m : ℕ). take n (drop k (take m (drop start b)))) whole
    ∙ ap (take n) (drop-take k (len - k) (drop start b))
    ∙ take-take n (len - k) (drop k (drop start b)) fits
    ∙ ap (take n) (drop-drop k start b)
    ∙ ap (λ (m : ℕ). take n (drop m b)) there

-- ---- no slip

none_of : (encode : Encode) (os : Objects) (path : List ℕ) (start len : ℕ) (kept : Kept) (answer : List ℕ) → StandsAt encode os path kept →
    (part start len kept.bytes ≡ answer) ⊎ IsByteChanged (part start len kept.bytes) answer → IsSlipOf sum_fits kept start len answer → ⊥
none_of encode os path start len kept answer stands (inl same) slip =
    slip.differs (ap (part (slip.place.at - start) slip.place.len) (sym same) ∙ part_within start len slip.place.at slip.place.len kept.bytes slip.from slip.upto)
none_of encode os path start len kept answer stands (inr c) slip = by (parts_of_changed (slip.place.at - start) slip.place.len (part start len kept.bytes) answer c)
  where
    here : part (slip.place.at - start) slip.place.len (part start len kept.bytes) ≡ part slip.place.at slip.place.len kept.bytes
    here = part_within start len slip.place.at slip.place.len kept.bytes slip.from slip.upto

    by : IsSameOrChanged (part (slip.place.at - start) slip.place.len (part start len kept.bytes)) (part (slip.place.at - start) slip.place.len answer) → ⊥
    by (inl same) = slip.differs (sym same ∙ here)
    by (inr d) =
        let told : sum_fits slip.place.cover (part (slip.place.at - start) slip.place.len answer) ≡ false =
        sections_tell encode kept.bytes stands.version stands.id stands.blocks stands.filters stands.is slip.place
        (subst (λ (l : List Section). Contains l slip.place) stands.sections slip.among) (part (slip.place.at - start) slip.place.len answer)
        (subst (λ (l : List ℕ). IsByteChanged l (part (slip.place.at - start) slip.place.len answer)) here d) in
        cc (sym told ∙ slip.passes)

part_there : (start len : ℕ) (bytes there : List ℕ) → part_of (Some bytes) start len ≡ Some there → part start len bytes ≡ there
part_there start len bytes there h = by (nat_le (start + len) (length bytes)) h
  where
    by : (fits : Bool) → cond fits (Some (part start len bytes)) None ≡ Some there → part start len bytes ≡ there
    by true same = same_Some _ _ same
    by false same = cc same

one : (encode : Encode) (os : Objects) (act : Act) → IsNearRead os act → IsSlipFrom encode os act → ⊥
one encode os (Act.put path bytes) near slip = slip
one encode os (Act.len path answer) near slip = slip
one encode os (Act.read path start len answer) (inl same) (kept, bytes, stands, is, slip) =
    none_of encode os path start len kept bytes stands (inl (part_there start len kept.bytes bytes (ap (λ (o : Option (List ℕ)). part_of o start len) (sym stands.there) ∙ sym same ∙ is))) slip
one encode os (Act.read path start len answer) (inr (there, changed, of, too, c)) (kept, bytes, stands, is, slip) =
    let from : part start len kept.bytes ≡ there = part_there start len kept.bytes there (ap (λ (o : Option (List ℕ)). part_of o start len) (sym stands.there) ∙ of) in
    let same : changed ≡ bytes = same_Some _ _ (sym too ∙ is) in
    none_of encode os path start len kept bytes stands (inr (subst (IsByteChanged (part start len kept.bytes)) same (subst (λ (l : List ℕ). IsByteChanged l changed) (sym from) c))) slip

no_slips : (encode : Encode) (os : Objects) (acts : List Act) → AreNearReads os acts → AnySlips encode os acts → ⊥
no_slips encode os [] near h = h
no_slips encode os (act ∷ acts) near (inl here) = one encode os act near.0 here
no_slips encode os (act ∷ acts) near (inr later) = no_slips encode (after_act os act) acts near.1 later

pub slip_nowhere : (encode : Encode) (os : Objects) (known acts : List Act) → AreNearReads os acts → SlipsFrom encode os (Some known) (Some (known ++ acts)) → ⊥
slip_nowhere encode os known acts near h =
    let same : h.known ≡ known = sym (same_Some _ _ h.began) in
    let more : known ++ acts ≡ known ++ h.acts = same_Some _ _ h.ended ∙ ap (λ (l : List Act). l ++ h.acts) same in
    no_slips encode os acts near (subst (AnySlips encode os) (sym (append_cancel_left known acts h.acts more)) h.slipped)
