-- What a seat is after a step of the lock that adds nothing: a transaction's, and a pass's that takes such a seat back.
use Rattle.std.proofs.Common.{◌≡◌, ℕ, ◌+◌, List, [], ◌∷◌, ◌++◌, Option, Some, None, refl, sym, ap, ◌∙◌, arith, append-nil}
use mathlib.Core.List.{IsPrefix}
use Rattle.atomic_table.specs.Table.{Me}
use Rattle.slate_txn.specs.State.{Tx}
use Rattle.slate_db.specs.declared.flight.Flight.{Flight}
use Rattle.slate_shared.specs.declared.board.View.{View}
use Rattle.slate_shared.specs.LockedModel.{LockedModel}
use Rattle.slate_shared.specs.Shared.{holding, after_none, either_flight, either_txn, joined, newcomer}
use Rattle.slate_shared.proofs.Lists.{longer_whole}
use Rattle.slate_shared.proofs.Seats.{flight_free}

abbrev M : Type 0
M = Me (Option LockedModel) View

module _ (m m' : M) (v : View) (cs : List (ℕ × Option LockedModel)) (y : LockedModel) (g : Option Flight) (is : m ≡ (holding v y, cs)) (after : m' ≡ (after_none m.0 g, [])) where
  pub kept_is : m' ≡ (after_none (holding v y) g, [])
  kept_is = after ∙ ap (λ (n : M). (after_none n.0 g, [])) is

  pub kept_seat : (t : Option (List ℕ × Tx)) → g ≡ y.flight → v.parts ≡ 0 → v.own ≡ [] → v.txn ≡ t → v.flight ≡ None → (m'.1 ≡ []) × (m'.0.parts ≡ 0) × (m'.0.own ≡ []) × (m'.0.txn ≡ t) × (m'.0.flight ≡ None)
  kept_seat t on none_left none_own there free = (
    ap (λ (n : M). n.1) kept_is,
    ap (λ (n : M). n.0.parts) kept_is ∙ none_left,
    ap (λ (n : M). n.0.own) kept_is ∙ none_own,
    ap (λ (n : M). n.0.txn) kept_is ∙ there,
    ap (λ (n : M). n.0.flight) kept_is ∙ flight_free v.flight y.flight g free on,
  )

-- ---- a pass takes back an offshoot of its seat, and has seen what that saw

pub record IsBack (v : View) (y : LockedModel) (m : M) : Type 0 where
  pub home : m.1 ≡ []
  pub parts : m.0.parts ≡ v.parts
  pub seen : m.0.seen ≡ y.events
  pub own : m.0.own ≡ v.own
  pub txn : m.0.txn ≡ None
  pub flight : m.0.flight ≡ None

-- s, n: the offshoot and the pass behind the split; h, k: the offshoot with the lock and behind it; j: the pass at the end
pub taken_back : (v : View) (s n h k j : M) (cs ds : List (ℕ × Option LockedModel)) (y : LockedModel) (g : Option Flight) → s ≡ (newcomer 0 v.seen, []) → n ≡ (v, ds) → h ≡ (holding s.0 y, cs) → k ≡ (after_none h.0 g, []) → j ≡ (joined n.0 k.0, n.1)
    → ds ≡ [] → g ≡ y.flight → v.txn ≡ None → v.flight ≡ None → IsPrefix v.seen y.events → IsBack v y j
taken_back v s n h k j cs ds y g split left held kept back none on closed free pre = record {
  home = ap (λ (m : M). m.1) is ∙ none;
  parts = ap (λ (m : M). m.0.parts) is ∙ (let z : v.parts + 0 ≡ v.parts = omega arith in z);
  seen = ap (λ (m : M). m.0.seen) is ∙ longer_whole v.seen y.events pre;
  own = ap (λ (m : M). m.0.own) is ∙ append-nil v.own;
  txn = ap (λ (m : M). m.0.txn) is ∙ ap (λ (t : Option (List ℕ × Tx)). either_txn t None) closed;
  flight = ap (λ (m : M). m.0.flight) is ∙ (λ i. either_flight (free i) (flight_free None y.flight g refl on i));
}
  where
    w : View
    w = after_none (holding (newcomer 0 v.seen) y) g

    last : k.0 ≡ w
    last = ap (λ (m : M). m.0) kept ∙ (ap (λ (m : M). after_none m.0 g) held ∙ ap (λ (m : M). after_none (holding m.0 y) g) split)

    is : j ≡ (joined v w, ds)
    is = back ∙ (λ i. (joined (left i).0 (last i), (left i).1))
