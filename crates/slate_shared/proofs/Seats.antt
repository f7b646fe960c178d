-- What a seat is after a release with one event.
use Rattle.std.proofs.Common.{◌≡◌, ℕ, ◌<◌, List, [], ◌∷◌, ◌++◌, Option, Some, None, refl, sym, ap, ◌∙◌, arith}
use Rattle.atomic_table.specs.Table.{Me}
use Rattle.slate_types.specs.declared.config.IsolationLevel.{IsolationLevel}
use Rattle.slate_txn.specs.declared.event.Event.{Event}
use Rattle.slate_txn.specs.declared.event.Event.TheVariants.{Begin}
use Rattle.slate_txn.specs.State.{Tx, begun}
use Rattle.slate_db.specs.declared.flight.Flight.{Flight}
use Rattle.slate_shared.specs.declared.board.View.{View}
use Rattle.slate_shared.specs.LockedModel.{LockedModel}
use Rattle.slate_shared.specs.Shared.{holding, after_event, flight_after, txn_after}

abbrev M : Type 0
M = Me (Option LockedModel) View

pub after_is : (m m' : M) (v : View) (cs : List (ℕ × Option LockedModel)) (y : LockedModel) (z : List Event) (g : Option Flight) (e : Event) → m ≡ (holding v y, cs) → z ≡ y.events ++ e ∷ []
    → ((x : Event) → z ≡ m.0.base ++ x ∷ [] → m' ≡ (after_event m.0 x g, [])) → m' ≡ (after_event (holding v y) e g, [])
after_is m m' v cs y z g e is longer_one after =
    after e (longer_one ∙ ap (λ (n : M). n.0.base ++ e ∷ []) (sym is)) ∙ ap (λ (n : M). (after_event n.0 e g, [])) is

none_after : (b : Option Flight) → flight_after None b b ≡ None
none_after None = refl
none_after (Some b) = refl

pub flight_free : (v b g : Option Flight) → v ≡ None → g ≡ b → flight_after v b g ≡ None
flight_free v b g free on = (λ i. flight_after (free i) b (on i)) ∙ none_after b

-- a transaction's seat after its begin
pub begun_seat : (m m' : M) (v : View) (cs : List (ℕ × Option LockedModel)) (y : LockedModel) (z : List Event) (g : Option Flight) (id : List ℕ) (level : IsolationLevel) (at : ℕ) (own : Tx) → m ≡ (holding v y, cs) → z ≡ y.events ++ Begin id level at ∷ []
    → ((x : Event) → z ≡ m.0.base ++ x ∷ [] → m' ≡ (after_event m.0 x g, [])) → g ≡ y.flight → v.parts ≡ 0 → v.own ≡ [] → v.flight ≡ None → own ≡ begun level at
    → (m'.1 ≡ []) × (m'.0.parts ≡ 0) × (m'.0.own ≡ []) × (m'.0.txn ≡ Some (id, begun own.level own.begin)) × (m'.0.flight ≡ None)
begun_seat m m' v cs y z g id level at own is longer_one after on none_left none_own free fresh =
    let now = after_is m m' v cs y z g (Begin id level at) is longer_one after in (
      ap (λ (n : M). n.1) now,
      ap (λ (n : M). n.0.parts) now ∙ none_left,
      ap (λ (n : M). n.0.own) now ∙ none_own,
      ap (λ (n : M). n.0.txn) now ∙ ap (λ (t : Tx). Some (id, begun t.level t.begin)) (sym fresh),
      ap (λ (n : M). n.0.flight) now ∙ flight_free v.flight y.flight g free on,
    )

-- a pass's seat after an event that leaves it no open transaction
pub pass_seat : (m m' : M) (v : View) (cs : List (ℕ × Option LockedModel)) (y : LockedModel) (z : List Event) (g : Option Flight) (e : Event) → m ≡ (holding v y, cs) → z ≡ y.events ++ e ∷ []
    → ((x : Event) → z ≡ m.0.base ++ x ∷ [] → m' ≡ (after_event m.0 x g, [])) → g ≡ y.flight → 0 < v.parts → txn_after v.txn e ≡ None → v.flight ≡ None
    → (m'.1 ≡ []) × (0 < m'.0.parts) × (m'.0.txn ≡ None) × (m'.0.flight ≡ None)
pass_seat m m' v cs y z g e is longer_one after on some_part closed free =
    let now = after_is m m' v cs y z g e is longer_one after in (
      ap (λ (n : M). n.1) now,
      (let p = ap (λ (n : M). n.0.parts) now in omega (arith, p, some_part)),
      ap (λ (n : M). n.0.txn) now ∙ closed,
      ap (λ (n : M). n.0.flight) now ∙ flight_free v.flight y.flight g free on,
    )
