use Rattle.std.proofs.Common.{Option, Some, inl, refl, subst}
use Rattle.std.specs.Prelude.{Ok}
use Rattle.std.proofs.lemmas.Result.{err_from_is_err_and}
use Rattle.slate_store.specs.Reach.{reach_of}
use Rattle.slate_txn.specs.declared.event.Event.TheVariants.{Freeze}
use Rattle.slate_txn.specs.Settings.{settings_of}
use Rattle.slate_db.specs.Flushed.{layout_of}
use Rattle.slate_shared.specs.declared.errand.Errand.{Errand}
use Rattle.slate_shared.specs.Errands.{Departs}
use Rattle.slate_shared.proofs.Flown.{prefix_either}
use Rattle.slate_shared.proofs.Landed.{cause_flown, left_flown, newest_flown, own_flown, refused_flown, refused_off, through_flown}
use Rattle.slate_shared.proofs.Lists.{prefix_trans}
use Rattle.slate_shared.proofs.TablesNamed.{keeps_same}
use Rattle.slate_shared.proofs.pass.Pass.flush.Given as given
use Rattle.slate_shared.proofs.pass.Pass.flush.Goals as goal

-- ---- it was refused as it set off

pub returns-in_err-last-clause-seen : goal.returns-in_err-last-clause-seen
returns-in_err-last-clause-seen g c =
    let off = c.depart.ensures.off in
    rw (← c.self.view_is) (prefix_trans c.self.inside.seat.me.0.seen off.0 c.depart.new.place.me.0.seen off.1 (prefix_either off.0 c.depart.new.place.me.0.seen Freeze off.2.event))

pub returns-in_err-last-clause-cause : goal.returns-in_err-last-clause-cause
returns-in_err-last-clause-cause g c =
    let p = err_from_is_err_and c.from_residual.result c.from_residual.ensures.1 in
    let off = c.in_err-last.ensures.off in
    let reach = reach_of g.S.Store g.M.MergeOperator g.T.BlockTransformer c.args.env.now in
    let w = c.depart.new.place.me.0 in
    rw (p.1, p.2, ← c.self.view_is) (refused_off (settings_of g.P.Parts.options) g.P.Parts.meaning _ reach reach c.self.inside.seat.me.0.seen off.0 w.seen _ off.1 (prefix_either off.0 w.seen Freeze off.2.event) off.2.cause)

pub returns-in_err-last-clause-refused : goal.returns-in_err-last-clause-refused
returns-in_err-last-clause-refused g c =
    let p = err_from_is_err_and c.from_residual.result c.from_residual.ensures.1 in
    rw (p.1, ← c.self.view_is) (c.depart.ensures.own, keeps_same c.depart.new.place.me.0.seen _ _ refl)

pub returns-in_err-last-clause-left : goal.returns-in_err-last-clause-left
returns-in_err-last-clause-left g c = let p = err_from_is_err_and c.from_residual.result c.from_residual.ensures.1 in rw (p.1) (inl refl)

pub returns-in_err-last-clause-still : goal.returns-in_err-last-clause-still
returns-in_err-last-clause-still g c = refl

-- ---- nothing waited

pub returns-in-None-clause-seen : goal.returns-in-None-clause-seen
returns-in-None-clause-seen g c =
    let off = c.depart.ensures.off in
    rw (← c.self.view_is) (prefix_trans c.self.inside.seat.me.0.seen off.0 c.depart.new.place.me.0.seen off.1 (prefix_either off.0 c.depart.new.place.me.0.seen Freeze off.2.event))

pub returns-in-None-clause-newest : goal.returns-in-None-clause-newest
returns-in-None-clause-newest g c =
    let off = c.in_ok-last.ensures.off in
    rw (← c.self.view_is) (off.0, off.1, prefix_either off.0 c.depart.new.place.me.0.seen Freeze off.2.event, off.2.newest)

pub returns-in-None-clause-still : goal.returns-in-None-clause-still
returns-in-None-clause-still g c = refl

-- ---- it set off

sets : (g : given.Over) (c : goal.After-carry_out g) → Departs g.P.Parts.options g.P.Parts.meaning c.in_ok-last.ensures.off.0 c.depart.new.place.me.0.seen c.depart.new.place.me.0.flight (Ok (c.in_ok-last.last, Some c.in-Some.errand))
sets g c = subst (λ (x : Option Errand). Departs g.P.Parts.options g.P.Parts.meaning c.in_ok-last.ensures.off.0 c.depart.new.place.me.0.seen c.depart.new.place.me.0.flight (Ok (c.in_ok-last.last, x))) c.in-Some.is c.in_ok-last.ensures.off.2

pub returns-in-Some-clause-seen : goal.returns-in-Some-clause-seen
returns-in-Some-clause-seen g c =
    let off = c.in_ok-last.ensures.off in
    let v = c.self.inside.seat.me.0 in
    let w = c.depart.new.place.me.0 in
    rw (← c.self.view_is) (prefix_trans v.seen w.seen c.carry_out.new.place.me.0.seen (prefix_trans v.seen off.0 w.seen off.1 (prefix_either off.0 w.seen Freeze off.2.event)) c.carry_out.ensures.seen)

pub returns-in-Some-clause-newest : goal.returns-in-Some-clause-newest
returns-in-Some-clause-newest g c =
    let off = c.in_ok-last.ensures.off in
    rw (← c.self.view_is) (newest_flown g.P.Parts.options g.P.Parts.meaning c.self.inside.seat.me.0 c.depart.new.place.me.0 c.carry_out.new.place.me.0 off.0 c.in_ok-last.last c.in-Some.errand off.1 (sets g c) c.carry_out.result c.carry_out.ensures.seen c.carry_out.ensures.through)

pub returns-in-Some-clause-through : goal.returns-in-Some-clause-through
returns-in-Some-clause-through g c =
    let off = c.in_ok-last.ensures.off in
    let w = c.depart.new.place.me.0 in
    through_flown (settings_of g.P.Parts.options) g.P.Parts.meaning (layout_of g.P.Parts.options g.P.Parts.policies g.P.Parts.segments) off.0 w c.carry_out.new.place.me.0 _ _ c.carry_out.result (c.carry_out.ensures.landed off.0 (prefix_either off.0 w.seen Freeze off.2.event) (sets g c).off)

pub returns-in-Some-clause-own : goal.returns-in-Some-clause-own
returns-in-Some-clause-own g c =
    let off = c.in_ok-last.ensures.off in
    rw (← c.self.view_is) (own_flown g.P.Parts.options g.P.Parts.meaning c.self.inside.seat.me.0 c.depart.new.place.me.0 c.carry_out.new.place.me.0 off.0 c.in_ok-last.last c.in-Some.errand off.1 (sets g c) (layout_of g.P.Parts.options g.P.Parts.policies g.P.Parts.segments) _ _ _ c.carry_out.result c.depart.ensures.own
    (c.carry_out.ensures.landed off.0 (prefix_either off.0 c.depart.new.place.me.0.seen Freeze off.2.event) (sets g c).off))

pub returns-in-Some-clause-refused : goal.returns-in-Some-clause-refused
returns-in-Some-clause-refused g c =
    let off = c.in_ok-last.ensures.off in
    rw (← c.self.view_is) (refused_flown g.P.Parts.options g.P.Parts.meaning c.self.inside.seat.me.0 c.depart.new.place.me.0 c.carry_out.new.place.me.0 off.0 c.in_ok-last.last c.in-Some.errand off.1 (sets g c) _ _ c.carry_out.result c.depart.ensures.own c.carry_out.ensures.refused)

pub returns-in-Some-clause-left : goal.returns-in-Some-clause-left
returns-in-Some-clause-left g c =
    let off = c.in_ok-last.ensures.off in
    rw (← c.self.view_is) (left_flown g.P.Parts.options g.P.Parts.meaning c.self.inside.seat.me.0 c.depart.new.place.me.0 c.carry_out.new.place.me.0 off.0 c.in_ok-last.last c.in-Some.errand off.1 (sets g c) (layout_of g.P.Parts.options g.P.Parts.policies g.P.Parts.segments) _ _ _ c.carry_out.result
    (c.carry_out.ensures.left off.0 (prefix_either off.0 c.depart.new.place.me.0.seen Freeze off.2.event) (sets g c).off))

pub returns-in-Some-clause-cause : goal.returns-in-Some-clause-cause
returns-in-Some-clause-cause g c =
    let off = c.in_ok-last.ensures.off in
    let before = reach_of g.S.Store g.M.MergeOperator g.T.BlockTransformer c.args.env.now in
    let after = reach_of g.S.Store g.M.MergeOperator g.T.BlockTransformer c.carry_out.new.env in
    rw (← c.self.view_is) (cause_flown g.P.Parts.options g.P.Parts.meaning c.self.inside.seat.me.0 c.depart.new.place.me.0 c.carry_out.new.place.me.0 off.0 c.in_ok-last.last c.in-Some.errand off.1 (sets g c) _ before after c.carry_out.result c.carry_out.ensures.seen
    (c.carry_out.ensures.cause off.0 (sets g c).off))
