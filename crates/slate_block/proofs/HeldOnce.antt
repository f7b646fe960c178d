-- What is kept of a block that is being built is that of one list of rows.
use Rattle.std.proofs.Common.{◌≡◌, ℕ, ◌<◌, ◌^◌, Bool, true, false, cond, List, [], ◌∷◌, flat_map, refl, sym, ap, ◌∙◌}
use Rattle.std.specs.Prelude.{Option, Some, None, ℤ, ◌==◌, FitsSigned}
use Rattle.std.specs.Int.{w64}
use Rattle.std.specs.Coded.{×_prop, Unit-prop, le_prop, Coded-set, coded_ℕ, coded_list}
use Rattle.std.specs.List.{AllByRecursion, AllByRecursion-prop}
use mathlib.Core.HLevel.{Σ_prop_path}
use Rattle.slate_types.specs.declared.types.RowEntry.{RowEntry}
use Rattle.slate_block.specs.RowSpelling.{FitsStamp, v1_bytes}
use Rattle.slate_block.specs.BlockSpelling.{FitsRow, entry_v1, spelled, spelled_v1, spelled_v2}
use Rattle.slate_block.specs.Building.{Holds, SomeHeld, Held}
use Rattle.slate_block.proofs.WrittenLaws.{all_written_v1, same_written_v2}

-- ---- facts with one proof

signed_prop : (z : ℤ) → IsProp (FitsSigned w64 z)
signed_prop z x y = λ i. record { sfits = le_prop x.sfits y.sfits i }

stamp_prop : (z : Option ℤ) → IsProp (FitsStamp z)
stamp_prop None = Unit-prop
stamp_prop (Some z) = signed_prop z

row_prop : (r : RowEntry) → IsProp (FitsRow r)
row_prop r x y = λ i. record {
  key = ×_prop le_prop le_prop x.key y.key i;
  value = le_prop x.value y.value i;
  seq = le_prop x.seq y.seq i;
  create = stamp_prop r.create_ts x.create y.create i;
  expire = stamp_prop r.expire_ts x.expire y.expire i;
}

same_bytes : (a b : List ℕ) → IsProp (a ≡ b)
same_bytes a b = Coded-set (coded_list coded_ℕ) a b

holds_prop : (version : ℕ) (body offsets : List ℕ) (count : ℕ) (front : List ℕ) (rows : List RowEntry) → IsProp (Holds version body offsets count front rows)
holds_prop version body offsets count front rows x y = λ i. record {
  each = AllByRecursion-prop FitsRow row_prop rows x.each y.each i;
  is_body = same_bytes _ _ x.is_body y.is_body i;
  are_offsets = same_bytes _ _ x.are_offsets y.are_offsets i;
  fit = AllByRecursion-prop (λ at. at < 2 ^ 16) (λ at. le_prop) offsets x.fit y.fit i;
  counted = Coded-set coded_ℕ _ _ x.counted y.counted i;
  few = le_prop x.few y.few i;
  front_is = same_bytes _ _ x.front_is y.front_is i;
}

-- ---- and one list of rows

pieces : Bool → List RowEntry → List (List ℕ)
pieces t [] = []
pieces t (r ∷ rs) = cond t (v1_bytes (entry_v1 0 r) ∷ spelled_v1 r.key rs) (spelled_v2 0 [] (r ∷ rs))

joined : List (List ℕ) → List ℕ
joined bs = flat_map (λ b. b) bs

are_pieces : (version : ℕ) (rows : List RowEntry) → spelled version rows ≡ pieces (version == 1) rows
unfolding pieces
are_pieces version [] = refl
are_pieces version (r ∷ rs) = refl

pieces_v1 : (rows : List RowEntry) → spelled 1 rows ≡ pieces true rows
unfolding pieces
pieces_v1 [] = refl
pieces_v1 (r ∷ rs) = refl

pieces_v2 : (rows : List RowEntry) → spelled_v2 0 [] rows ≡ pieces false rows
unfolding pieces
pieces_v2 [] = refl
pieces_v2 (r ∷ rs) = refl

once : (t : Bool) (rows other : List RowEntry) → AllByRecursion FitsRow rows → AllByRecursion FitsRow other → joined (pieces t rows) ≡ joined (pieces t other) → rows ≡ other
unfolding joined
once true rows other f g h = all_written_v1 rows other f g (ap joined (pieces_v1 rows) ∙ h ∙ sym (ap joined (pieces_v1 other)))
once false rows other f g h = same_written_v2 0 [] rows other f g (ap joined (pieces_v2 rows) ∙ h ∙ sym (ap joined (pieces_v2 other)))

held_once : (version : ℕ) (body offsets : List ℕ) (count : ℕ) (front : List ℕ) (u v : SomeHeld version body offsets count front) → u.0 ≡ v.0
unfolding joined
held_once version body offsets count front u v = once (version == 1) u.0 v.0 u.1.each v.1.each
    (sym (ap joined (are_pieces version u.0)) ∙ sym u.1.is_body ∙ v.1.is_body ∙ ap joined (are_pieces version v.0))

pub held_alone : (version : ℕ) (body offsets : List ℕ) (count : ℕ) (front : List ℕ) (rows : List RowEntry) → Holds version body offsets count front rows → Held version body offsets count front
held_alone version body offsets count front rows h = ((rows, h), λ v. Σ_prop_path (holds_prop version body offsets count front) (held_once version body offsets count front v (rows, h)))
