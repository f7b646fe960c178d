-- What a pass knows of its flush.
use Rattle.std.proofs.Common.{◌≡◌, ◌⊎◌, inl, inr, ℕ, ◌<◌, false, true, Bool, cond, List, [], ◌∷◌, ◌++◌, filter, Option, Some, None, refl, sym, ap, ◌∙◌, subst, arith, nat_lt}
use Rattle.std.specs.Prelude.{Result}
use Rattle.std.specs.List.{AllByRecursion}
use Rattle.std.proofs.lemmas.Bool.Decides.{nat_tests}
use mathlib.Core.List.{IsPrefix}
use Rattle.atomic_table.specs.Table.{Me}
use Rattle.atomic_table.specs.declared.shared.Seat.{Seat}
use Rattle.slate_types.specs.declared.config.Options.{Options}
use Rattle.slate_types.specs.declared.error.SlateDBError.{SlateDBError}
use Rattle.slate_types.specs.declared.types.Ulid.{Ulid}
use Rattle.slate_txn.specs.declared.event.Event.{Event}
use Rattle.slate_txn.specs.declared.event.Event.TheVariants.{Install}
use Rattle.slate_txn.specs.Places.{above_install, is_above, last_install}
use Rattle.slate_txn.specs.Replay.{replay}
use Rattle.slate_txn.specs.State.{Commit}
use Rattle.slate_db.specs.declared.flight.Flight.{Flight}
use Rattle.slate_db.specs.Meaning.{Meaning}
use Rattle.slate_shared.specs.declared.board.View.{View}
use Rattle.slate_shared.specs.declared.errand.Errand.{Errand}
use Rattle.slate_shared.specs.Errands.{Departs, IsRested}
use Rattle.slate_shared.specs.LockedModel.{LockedModel}
use Rattle.slate_shared.specs.Shared.{IsSameSeat, MayFly, after_event, after_none, flight_after, holding, txn_after}
use Rattle.slate_shared.proofs.Held.{install_newest}
use Rattle.slate_shared.proofs.Lists.{prefix_self, prefix_more}

abbrev M : Type 0
M = Me (Option LockedModel) View

-- ---- the flight of a seat

pub set_flight : (v b g : Option Flight) → v ≡ None → b ≡ None → flight_after v b g ≡ g
set_flight v b g free none = (λ i. flight_after (free i) (none i) g) ∙ by g
  where
    by : (g : Option Flight) → flight_after None None g ≡ g
    by None = refl
    by (Some f) = refl

pub may_set : (v b g : Option Flight) → b ≡ None → MayFly v b g
may_set v b g none = subst (λ (x : Option Flight). MayFly v x g) (sym none) (by g)
  where
    by : (g : Option Flight) → MayFly v None g
    by None = tt
    by (Some f) = tt

pub clear_flight : (v b : Option Flight) (f : Flight) → b ≡ Some f → flight_after v b None ≡ None
clear_flight v b f held = ap (λ x. flight_after v x None) held

pub may_clear : (v b g : Option Flight) (f : Flight) → v ≡ Some f → b ≡ Some f → g ≡ None → MayFly v b g
may_clear v b g f mine held none = subst (λ (x : Option Flight × Option Flight). MayFly v x.0 x.1) (λ i. (sym held i, sym none i)) mine

-- ---- all below an install

pub all_above : (n : ℕ) (cs : List Commit) → AllByRecursion (λ c. n < c.seq) (filter (λ c. nat_lt n c.seq) cs)
all_above n [] = tt
all_above n (c ∷ cs) = by (nat_lt n c.seq) refl (all_above n cs)
  where
    by : (b : Bool) → nat_lt n c.seq ≡ b → AllByRecursion (λ c. n < c.seq) (filter (λ c. nat_lt n c.seq) cs) → AllByRecursion (λ c. n < c.seq) (cond b (c ∷ filter (λ c. nat_lt n c.seq) cs) (filter (λ c. nat_lt n c.seq) cs))
    by true e rest = (grind (arith, nat_tests), rest)
    by false e rest = rest

pub above_newest : (seen journal : List Event) (n : ℕ) (ts : List (Ulid × List ℕ)) → seen ≡ journal ++ Install n ts ∷ [] → AllByRecursion (λ c. n < c.seq) (above_install seen)
above_newest seen journal n ts is =
    subst (λ (o : Option ℕ). AllByRecursion (λ (c : Commit). n < c.seq) (filter (λ (c : Commit). is_above o c.seq) (replay seen).commits)) (sym (ap last_install is ∙ install_newest journal n ts)) (all_above n (replay seen).commits)

-- a journal with one event more, or none
pub prefix_either : (journal seen : List Event) (e : Event) → (seen ≡ journal) ⊎ (seen ≡ journal ++ e ∷ []) → IsPrefix journal seen
prefix_either journal seen e (inl is) = subst (IsPrefix journal) (sym is) (prefix_self journal)
prefix_either journal seen e (inr is) = subst (IsPrefix journal) (sym is) (prefix_more journal journal (e ∷ []) (prefix_self journal))

-- ---- a seat that let the lock go

pub rested_added : (m w : M) (e : Event) (g : Option Flight) → w ≡ (after_event m.0 e g, []) → txn_after m.0.txn e ≡ m.0.txn → IsRested m w
rested_added m w e g is same = record {
  home = ap (λ (n : M). n.1) is;
  parts = ap (λ (n : M). n.0.parts) is;
  txn = ap (λ (n : M). n.0.txn) is ∙ same;
}

pub rested_kept : (m w : M) (g : Option Flight) → w ≡ (after_none m.0 g, []) → IsRested m w
rested_kept m w g is = record {
  home = ap (λ (n : M). n.1) is;
  parts = ap (λ (n : M). n.0.parts) is;
  txn = ap (λ (n : M). n.0.txn) is;
}

pub rested_held : (m n w : M) (y : LockedModel) (cs : List (ℕ × Option LockedModel)) → n ≡ (holding m.0 y, cs) → IsRested n w → IsRested m w
rested_held m n w y cs is r = record {
  home = r.home;
  parts = r.parts ∙ ap (λ (x : M). x.0.parts) is;
  txn = r.txn ∙ ap (λ (x : M). x.0.txn) is;
}

pub rested_on : (m n w : M) → IsRested m n → IsRested n w → IsRested m w
rested_on m n w first r = record { home = r.home; parts = r.parts ∙ first.parts; txn = r.txn ∙ first.txn }

pub departs_at : (o : Options) (m : Meaning) (journal : List Event) (r : Result (ℕ × Option Errand) SlateDBError) (seen seen' : List Event) (f f' : Option Flight) → seen ≡ seen' → f ≡ f' → Departs o m journal seen f r → Departs o m journal seen' f' r
departs_at o m journal r seen seen' f f' same fly d = subst (λ (x : List Event × Option Flight). Departs o m journal x.0 x.1 r) (λ i. (same i, fly i)) d

-- ---- the seat of a flush

pub may_clear_at : (m : M) (v : View) (cs : List (ℕ × Option LockedModel)) (y : LockedModel) (g : Option Flight) (f : Flight) → m ≡ (holding v y, cs) → v.flight ≡ Some f → y.flight ≡ Some f → g ≡ None → MayFly m.0.flight m.0.base_flight g
may_clear_at m v cs y g f is mine held none = subst (λ (n : M). MayFly n.0.flight n.0.base_flight g) (sym is) (may_clear v.flight y.flight g f mine held none)

pub cleared : (v b g : Option Flight) (f : Flight) → b ≡ Some f → g ≡ None → flight_after v b g ≡ None
cleared v b g f held none = ap (λ x. flight_after v b x) none ∙ clear_flight v b f held

pub same_seat : (r s t : Seat (Option LockedModel) View) → IsSameSeat r s → IsSameSeat s t → IsSameSeat r t
same_seat r s t one two = (two.0 ∙ one.0, two.1 ∙ one.1)
