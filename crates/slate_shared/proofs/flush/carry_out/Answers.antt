use Rattle.std.proofs.Common.{List, map, ℕ, refl, ap, ◌∙◌}
use Rattle.slate_types.specs.Outside.{unblamed_by}
use Rattle.slate_store.specs.Reach.{reach_of}
use Rattle.slate_mem.specs.Table.{MemTableModel}
use Rattle.slate_txn.specs.declared.event.Event.{Event}
use Rattle.slate_txn.specs.Settings.{settings_of}
use Rattle.slate_db.specs.Flushed.{AreSomeOfFlush, IsPut, Layout, MayTakeTables, layout_of}
use Rattle.slate_db.specs.Flying.{took}
use Rattle.slate_db.specs.Meaning.{Meaning}
use Rattle.slate_db.specs.Model.{Rows}
use Rattle.slate_db.proofs.Runs.{are_placed}
use Rattle.slate_shared.specs.Errands.{HasErrand, barrier_of}
use Rattle.slate_shared.proofs.Landed.{at_flight, comes_next, lands_cause, lands_kept, lands_landed, lands_left, layout_given, unstored_cause, unstored_left}
use Rattle.slate_shared.proofs.Lists.{prefix_trans}
use Rattle.slate_shared.proofs.TablesNamed.{keeps_on, keeps_some, stores_on}
use Rattle.slate_shared.proofs.flush.carry_out.Given as given
use Rattle.slate_shared.proofs.flush.carry_out.Goals as goal

abbrev Made : Type 0
Made = Meaning × Layout × ℕ × ℕ × List Rows

-- ---- its tables were stored

pub land-requires-clause-made : goal.land-requires-clause-made
land-requires-clause-made g c =
    let has = c.requires.errand.1 in
    let put = at_flight (λ (z : Made). IsPut z.0 z.1 z.2 z.3 z.4 c.in-Ok.tables c.in-Ok.runs.items (reach_of g.S.Store g.M.MergeOperator g.T.BlockTransformer c.args.env.now).objects (reach_of g.S.Store g.M.MergeOperator g.T.BlockTransformer c.stored.new.env).objects) _ g.P.Parts.meaning _ (layout_of g.P.Parts.options g.P.Parts.policies g.P.Parts.segments) c.args.errand.number _ c.args.errand.barrier _ _ _
    c.requires.meaning (layout_given _ _ _ _ _ _ c.requires.laws) has.errand.number has.errand.barrier (ap (λ (ts : List MemTableModel). map (λ t. t.rows) ts) c.deref.ensures.value ∙ has.errand.tables) c.in-Ok.ensures.stored in
    (has.flight_of, has.flies, put.kept, (layout_of g.P.Parts.options g.P.Parts.policies g.P.Parts.segments, refl, put.made))

put_of : (g : given.Over) (c : goal.After-drop-tables g) (from : List Event) (has : HasErrand (settings_of g.P.Parts.options) g.P.Parts.meaning from c.args.place.now.me.0.flight c.args.errand) →
    IsPut g.P.Parts.meaning (layout_of g.P.Parts.options g.P.Parts.policies g.P.Parts.segments) has.flight_of.number (barrier_of (settings_of g.P.Parts.options) from) (took has.flight_of) c.in-Ok.tables c.in-Ok.runs.items
    (reach_of g.S.Store g.M.MergeOperator g.T.BlockTransformer c.args.env.now).objects (reach_of g.S.Store g.M.MergeOperator g.T.BlockTransformer c.stored.new.env).objects
put_of g c from has =
    at_flight (λ (z : Made). IsPut z.0 z.1 z.2 z.3 z.4 c.in-Ok.tables c.in-Ok.runs.items (reach_of g.S.Store g.M.MergeOperator g.T.BlockTransformer c.args.env.now).objects (reach_of g.S.Store g.M.MergeOperator g.T.BlockTransformer c.stored.new.env).objects)
    _ g.P.Parts.meaning _ (layout_of g.P.Parts.options g.P.Parts.policies g.P.Parts.segments) c.args.errand.number has.flight_of.number c.args.errand.barrier (barrier_of (settings_of g.P.Parts.options) from) _ (took has.flight_of)
    c.requires.meaning (layout_given _ _ _ _ _ _ c.requires.laws) has.errand.number (has.errand.barrier ∙ has.errand.start) (ap (λ (ts : List MemTableModel). map (λ t. t.rows) ts) c.deref.ensures.value ∙ has.errand.tables) c.in-Ok.ensures.stored

pub returns-in-Ok-clause-landed : goal.returns-in-Ok-clause-landed
returns-in-Ok-clause-landed g c = λ from early has.
    let put = c.in-Ok.ensures.stored in
    let landed = c.land.ensures.landed in
    let v = c.args.place.now.me.0 in
    let w = c.land.new.place.me.0 in
    lands_landed v.seen landed.0 c.in-Ok.tables v.flight v.own w.seen w.own landed.1 (settings_of g.P.Parts.options) g.P.Parts.meaning (layout_of g.P.Parts.options g.P.Parts.policies g.P.Parts.segments) from c.args.errand c.in-Ok.runs.items _ _ early has (put_of g c from has) c.land.result landed.2
    (stores_on c.args.errand.number landed.0 c.in-Ok.tables _ _ c.fits.ensures (are_placed _ _ c.args.errand.number 0 put.made.parts c.in-Ok.tables put.made.built) put.taken
    (comes_next (settings_of g.P.Parts.options) g.P.Parts.meaning c.requires.errand.0 landed.0 v.flight c.args.errand c.requires.errand.1 landed.2.next))
    c.land.ensures.filtered

pub returns-in-Ok-clause-refused : goal.returns-in-Ok-clause-refused
returns-in-Ok-clause-refused g c =
    let put = c.in-Ok.ensures.stored in
    let landed = c.land.ensures.landed in
    let v = c.args.place.now.me.0 in
    let w = c.land.new.place.me.0 in
    lands_kept v.seen landed.0 c.in-Ok.tables v.flight v.own w.seen w.own landed.1 c.land.result _ _ landed.2
    (keeps_on c.args.errand.number landed.0 c.in-Ok.tables _ _ c.fits.ensures (are_placed _ _ c.args.errand.number 0 put.made.parts c.in-Ok.tables put.made.built) put.taken
    (comes_next (settings_of g.P.Parts.options) g.P.Parts.meaning c.requires.errand.0 landed.0 v.flight c.args.errand c.requires.errand.1 landed.2.next))

pub returns-in-Ok-clause-left : goal.returns-in-Ok-clause-left
returns-in-Ok-clause-left g c = λ from early has.
    let landed = c.land.ensures.landed in
    let v = c.args.place.now.me.0 in
    let w = c.land.new.place.me.0 in
    lands_left v.seen landed.0 c.in-Ok.tables v.flight v.own w.seen w.own landed.1 (settings_of g.P.Parts.options) g.P.Parts.meaning (layout_of g.P.Parts.options g.P.Parts.policies g.P.Parts.segments) from c.args.errand c.in-Ok.runs.items _ _ early has (put_of g c from has) c.land.result landed.2

pub returns-in-Ok-clause-cause : goal.returns-in-Ok-clause-cause
returns-in-Ok-clause-cause g c = λ journal has.
    let landed = c.land.ensures.landed in
    let v = c.args.place.now.me.0 in
    let w = c.land.new.place.me.0 in
    lands_cause v.seen landed.0 c.in-Ok.tables v.flight v.own w.seen w.own landed.1 c.land.result (reach_of g.S.Store g.M.MergeOperator g.T.BlockTransformer c.args.env.now) (reach_of g.S.Store g.M.MergeOperator g.T.BlockTransformer c.stored.new.env) _ landed.2

pub returns-in-Ok-clause-still : goal.returns-in-Ok-clause-still
returns-in-Ok-clause-still g c = ap (unblamed_by c.land.result) c.in-Ok.ensures.still

-- ---- they weren't

pub returns-clause-refused : goal.returns-clause-refused
returns-clause-refused g c = (
  c.abandon.ensures.own,
  keeps_some _ _ c.args.errand.number _ _ c.abandon.new.place.me.0.seen _ _ c.fits.ensures
      (comes_next (settings_of g.P.Parts.options) g.P.Parts.meaning c.requires.errand.0 c.abandon.new.place.me.0.seen c.args.place.now.me.0.flight c.args.errand c.requires.errand.1 c.abandon.ensures.next) c.in-Err.ensures.refused,
)

pub returns-clause-left : goal.returns-clause-left
returns-clause-left g c = λ from early has.
    let seen = c.abandon.new.place.me.0.seen in
    unstored_left (settings_of g.P.Parts.options) g.P.Parts.meaning (layout_of g.P.Parts.options g.P.Parts.policies g.P.Parts.segments) from seen c.args.place.now.me.0.flight c.args.errand _ _ (prefix_trans from c.args.place.now.me.0.seen seen early c.abandon.ensures.seen) has
    (c.abandon.ensures.next has.flight_of has.flies)
    (at_flight (λ (z : Made). MayTakeTables (AreSomeOfFlush z.0 z.1 z.2 z.3 z.4) (reach_of g.S.Store g.M.MergeOperator g.T.BlockTransformer c.args.env.now).objects (reach_of g.S.Store g.M.MergeOperator g.T.BlockTransformer c.stored.new.env).objects)
    _ g.P.Parts.meaning _ (layout_of g.P.Parts.options g.P.Parts.policies g.P.Parts.segments) c.args.errand.number has.flight_of.number c.args.errand.barrier (barrier_of (settings_of g.P.Parts.options) from) _ (took has.flight_of)
    c.requires.meaning (layout_given _ _ _ _ _ _ c.requires.laws) has.errand.number (has.errand.barrier ∙ has.errand.start) (ap (λ (ts : List MemTableModel). map (λ t. t.rows) ts) c.deref.ensures.value ∙ has.errand.tables) c.in-Err.ensures.refused)

pub returns-clause-cause : goal.returns-clause-cause
returns-clause-cause g c = λ journal has.
    let before = reach_of g.S.Store g.M.MergeOperator g.T.BlockTransformer c.args.env.now in
    let after = reach_of g.S.Store g.M.MergeOperator g.T.BlockTransformer c.stored.new.env in
    unstored_cause (settings_of g.P.Parts.options) g.P.Parts.meaning _ journal c.args.place.now.me.0.flight c.args.errand (map (λ (t : MemTableModel). t.rows) c.deref.result.now) before after c.abandon.new.place.me.0.seen c.in-Err.refused has c.requires.meaning
    (ap (λ (ts : List MemTableModel). map (λ t. t.rows) ts) c.deref.ensures.value) c.in-Err.ensures.cause
