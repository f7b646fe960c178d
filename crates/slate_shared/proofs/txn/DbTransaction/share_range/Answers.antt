use Rattle.std.proofs.Common.{◌≡◌, ℕ, List, Some, refl, sym, ap, subst, ◌∙◌}
use Rattle.std.proofs.lemmas.Result.{IfOk-weaker}
use mathlib.Core.List.{IsPrefix}
use Rattle.slate_txn.specs.declared.event.Event.{Event}
use Rattle.slate_txn.specs.State.{Tx, begun}
use Rattle.slate_db.specs.RangeShares.{IsRangeShare}
use Rattle.slate_shared.specs.KeyReads.{IsCoreOf}
use Rattle.slate_shared.specs.LockedModel.{LockedModel}
use Rattle.slate_shared.specs.Passes.{Opened}
use Rattle.slate_shared.specs.Shared.{IsOpen}
use Rattle.slate_shared.proofs.KeptSeats.{kept_is, kept_seat}
use Rattle.slate_shared.proofs.RangeReads.{range_core}
use Rattle.slate_shared.proofs.txn.DbTransaction.share_range.Goals as goal

pub invariant_of-self : goal.invariant_of-self
invariant_of-self g c =
    let i = c.self.invariant in
    let s = c.self.inside in
    kept_seat _ _ s.seat.me.0 _ c.take-locked.result _ c.take-locked.ensures.seat.1 c.keep.ensures.seat.1 (Some (s.id, begun s.own.level s.own.begin)) (ap (λ (l : LockedModel). l.flight) c.share_range-share.ensures.same) i.1 i.2 i.3 i.4

pub returns : goal.returns
returns g c =
    let t = c.take-locked.ensures in
    let y = c.take-locked.result in
    let s = c.self.inside in
    let o = g.P.Parts.options in
    let m = g.P.Parts.meaning in
    let range = c.args.range.now in
    let was : Opened = record { table = s.seat.table_id; seen = s.seat.me.0.seen; id = s.id; tx = s.own } in
    let now = kept_is _ _ s.seat.me.0 _ y c.share_range-share.new.self.flight t.seat.1 c.keep.ensures.seat.1 in
    let seen : c.keep.new.place.me.0.seen ≡ y.events = ap (λ n. n.0.seen) now in
    let table : c.keep.new.place.table_id ≡ s.seat.table_id = c.keep.ensures.seat.0.0 ∙ t.seat.0.0 in
    let there : IsOpen y.events (s.id, begun s.own.level s.own.begin) = t.journal.2 _ c.self.invariant.3 in
    rw (← c.self.view_is) (record {
      same = λ i. record { table = table i; seen = c.keep.new.place.me.0.seen; id = s.id; tx = s.own };
      seen = subst (IsPrefix s.seat.me.0.seen) (sym seen) t.journal.0;
      shared = IfOk-weaker c.share_range-share.result _ _ (λ taken h x same own.
          let begins : s.own.begin ≡ x.begin = ap (λ (b : Tx). b.begin) (sym same) in
          let all = range_core o m g.P.Parts.segments (record was { tx = x }) y.events h.0 range taken own h.1 (subst (λ (b : Tx). IsOpen y.events (s.id, b)) (sym same) there) (subst (λ (n : ℕ). IsRangeShare h.0 range n taken) (c.begin.ensures ∙ begins) h.2) in
          (all.0, subst (λ (es : List Event). IsCoreOf o m (record was { tx = x }) es all.0) (sym seen) all.1, all.2)) c.share_range-share.ensures.shared;
      cause = c.share_range-share.ensures.cause;
    })
