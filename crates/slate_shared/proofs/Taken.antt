-- What was taken out of the slot is the state that lay there.
use Rattle.std.proofs.Common.{◌≡◌, ℕ, List, [], ◌∷◌, length, Option, Some, None, sym, ap, ◌∙◌, subst}
use Rattle.atomic_table.specs.Table.{Me, rest}
use Rattle.slate_shared.specs.declared.board.View.{View}
use Rattle.slate_shared.specs.LockedModel.{LockedModel}
use Rattle.slate_shared.specs.Shared.{all_parts, OwnsAll, Flies}

abbrev Slot : Type 0
Slot = Option LockedModel

abbrev M : Type 0
M = Me Slot View

abbrev first_or : LockedModel → List (ℕ × Slot) → LockedModel
first_or d [] = d
first_or d ((k, None) ∷ xs) = d
first_or d ((k, Some y) ∷ xs) = y

pub taken_is : (m : M) (v : View) (y z : LockedModel) (o : Slot) (cs : List (ℕ × Slot)) → m ≡ (v, (0, Some y) ∷ cs) → m.1 ≡ (0, o) ∷ rest m.1 → o ≡ Some z → y ≡ z
taken_is m v y z o cs is out full = ap (first_or y) (sym (ap (λ (n : M). n.1) is) ∙ (out ∙ ap (λ (x : Slot). (0, x) ∷ rest m.1) full))

pub owns_all_at : (m n : M) (y z : LockedModel) → m ≡ n → y ≡ z → (m.0.parts ≡ all_parts → OwnsAll m.0.own y.events) → n.0.parts ≡ all_parts → OwnsAll n.0.own z.events
owns_all_at m n y z is same h = subst (λ (x : M × LockedModel). x.0.0.parts ≡ all_parts → OwnsAll x.0.0.own x.1.events) (λ i. (is i, same i)) h

pub flies_at : (m n : M) (y z : LockedModel) → m ≡ n → y ≡ z → Flies m.0.flight (length m.0.seen) y.events y.flight → Flies n.0.flight (length n.0.seen) z.events z.flight
flies_at m n y z is same h = subst (λ (x : M × LockedModel). Flies x.0.0.flight (length x.0.0.seen) x.1.events x.1.flight) (λ i. (is i, same i)) h
