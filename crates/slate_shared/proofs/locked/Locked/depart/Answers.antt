use Rattle.std.proofs.Common.{inl, inr, List, length, refl, sym, ap, subst, ◌∙◌}
use Rattle.std.specs.Vec.{with_items}
use Rattle.std.proofs.lemmas.List.{with_items_is}
use Rattle.slate_types.specs.declared.error.SlateDBError.TheVariants.{OutOfMemory}
use Rattle.slate_mem.specs.Table.{MemTableModel}
use Rattle.slate_txn.specs.Settings.{settings_of}
use Rattle.slate_db.specs.Flying.{TakesOff}
use Rattle.slate_shared.specs.LockedModel.{LockedModel}
use Rattle.slate_shared.proofs.Held.{again_as, departs_none, departs_refused, departs_some, either_grows, frozen_held, off_again, off_held, refused_held, taken_again}
use Rattle.slate_shared.proofs.TablesNamed.{names_frozen, names_refused}
use Rattle.slate_shared.proofs.locked.Locked.depart.Goals as goal

-- ---- nothing waits

pub invariant_of-self : goal.invariant_of-self
invariant_of-self g c =
    let e = c.in-Ok-default-None.ensures in (
      frozen_held (settings_of g.P.Parts.options) g.P.Parts.meaning g.P.Parts.segments c.self.inside.flight c.self.inside.installed c.self.inside.core c.take_flight-taken.new.self c.self.invariant.0 e.frozen (e.kept g.P.Parts.meaning),
      names_frozen g.P.Parts.meaning g.P.Parts.policies c.self.inside.core c.take_flight-taken.new.self e.frozen c.self.invariant.1,
    )

pub returns-in-Ok-default-None : goal.returns-in-Ok-default-None
returns-in-Ok-default-None g c =
    let e = c.in-Ok-default-None.ensures in
    let before = c.self.inside.core in
    let after = c.take_flight-taken.new.self in
    let free = ap (λ (h : LockedModel). h.flight) c.self.view_is ∙ c.requires in
    rw (← c.self.view_is) (record {
      event = either_grows before after c.self.inside.flight c.len-before.result c.len.result (inr e.frozen) (c.len-before.ensures ∙ ap length c.journal.ensures.events) (c.len.ensures ∙ ap length c.journal-2.ensures.events);
      off = departs_none g.P.Parts.options g.P.Parts.meaning g.P.Parts.segments before after c.self.inside.flight c.in-Ok-default-None.last c.self.invariant.0.locked c.journal.ensures.replays e.frozen e.newest (e.idle c.in-Ok-default-None.field-0-1-is) free;
    })

-- ---- it sets off

pub invariant_of-self-in-Ok-default-Some : goal.invariant_of-self-in-Ok-default-Some
invariant_of-self-in-Ok-default-Some g c =
    let e = c.in-Ok-default-Some.ensures in
    let flight = c.in-Ok-default-Some.flight in
    let tables = c.in-Ok-default-Some.tables.items in
    let after = c.take_flight-taken.new.self in
    let off = rw c.in-Ok-default-Some.field-0-1-is at e.off in
    let tied = rw c.in-Ok-default-Some.field-0-1-is at e.tied in
    let kept = e.kept g.P.Parts.meaning in
    let again = again_as flight c.new.result _ tables c.new.ensures refl refl refl refl (c.in-Ok.ensures.shared ∙ c.deref_mut.ensures.value) off.shared in (
      off_held (settings_of g.P.Parts.options) g.P.Parts.meaning g.P.Parts.segments c.self.inside.flight c.self.inside.installed c.self.inside.core after c.new.result tables c.self.invariant.0 e.frozen kept
          (off_again flight c.new.result tables after again off) (taken_again g.P.Parts.meaning flight c.new.result after again (tied g.P.Parts.meaning (kept c.self.invariant.0.locked.kept))),
      names_frozen g.P.Parts.meaning g.P.Parts.policies c.self.inside.core after e.frozen c.self.invariant.1,
    )

pub returns-in-Ok : goal.returns-in-Ok
returns-in-Ok g c =
    let e = c.in-Ok-default-Some.ensures in
    let before = c.self.inside.core in
    let after = c.take_flight-taken.new.self in
    let flight = c.in-Ok-default-Some.flight in
    let tables = c.in-Ok-default-Some.tables.items in
    let off = rw c.in-Ok-default-Some.field-0-1-is at e.off in
    let tied = rw c.in-Ok-default-Some.field-0-1-is at e.tied in
    let shared = c.in-Ok.ensures in
    let again = again_as flight c.new.result _ tables c.new.ensures refl refl refl refl (shared.shared ∙ c.deref_mut.ensures.value) off.shared in
    rw (← c.self.view_is) (record {
      event = either_grows before after c.self.inside.flight c.len-before.result c.len.result (inr e.frozen) (c.len-before.ensures ∙ ap length c.journal.ensures.events) (c.len.ensures ∙ ap length c.journal-2.ensures.events);
      off = departs_some g.P.Parts.options g.P.Parts.meaning g.P.Parts.segments before after c.new.result c.in-Ok-default-Some.last (record { number = flight.number; barrier = flight.barrier; tables = with_items c.in-Ok-default-Some.tables c.share_all.new.tables }) c.self.invariant.0.locked c.journal.ensures.replays e.frozen e.newest
          (subst (λ (ts : List MemTableModel). TakesOff c.new.result ts after) (sym (with_items_is c.in-Ok-default-Some.tables c.share_all.new.tables (ap length shared.same ∙ c.deref_mut.ensures.len) ∙ shared.same ∙ c.deref_mut.ensures.value)) (off_again flight c.new.result tables after again off))
          (taken_again g.P.Parts.meaning flight c.new.result after again (tied g.P.Parts.meaning (e.kept g.P.Parts.meaning c.self.invariant.0.locked.kept))) (sym again.number) (sym again.barrier);
    })

-- ---- there is no memory to share its tables

pub invariant_of-self-in_default : goal.invariant_of-self-in_default
invariant_of-self-in_default g c =
    let e = c.in-Ok-default-Some.ensures in (
      frozen_held (settings_of g.P.Parts.options) g.P.Parts.meaning g.P.Parts.segments c.self.inside.flight c.self.inside.installed c.self.inside.core c.take_flight-taken.new.self c.self.invariant.0 e.frozen (e.kept g.P.Parts.meaning),
      names_frozen g.P.Parts.meaning g.P.Parts.policies c.self.inside.core c.take_flight-taken.new.self e.frozen c.self.invariant.1,
    )

pub returns-in_default : goal.returns-in_default
returns-in_default g c =
    let e = c.in-Ok-default-Some.ensures in
    let before = c.self.inside.core in
    let after = c.take_flight-taken.new.self in
    let free = ap (λ (h : LockedModel). h.flight) c.self.view_is ∙ c.requires in
    rw (← c.self.view_is) (record {
      event = either_grows before after c.self.inside.flight c.len-before.result c.len.result (inr e.frozen) (c.len-before.ensures ∙ ap length c.journal.ensures.events) (c.len.ensures ∙ ap length c.journal-2.ensures.events);
      off = departs_refused g.P.Parts.options g.P.Parts.meaning g.P.Parts.segments before after c.self.inside.flight OutOfMemory c.self.invariant.0.locked c.journal.ensures.replays (inr e.frozen) (inl refl) free;
    })

-- ---- it is refused

pub invariant_of-self-in-Err : goal.invariant_of-self-in-Err
invariant_of-self-in-Err g c =
    let e = c.in-Err.ensures in (
      refused_held (settings_of g.P.Parts.options) g.P.Parts.meaning g.P.Parts.segments c.self.inside.flight c.self.inside.installed c.self.inside.core c.take_flight-taken.new.self c.self.invariant.0 e.refused (e.kept g.P.Parts.meaning),
      names_refused g.P.Parts.meaning g.P.Parts.policies c.self.inside.core c.take_flight-taken.new.self e.refused c.self.invariant.1,
    )

pub returns-in-Err : goal.returns-in-Err
returns-in-Err g c =
    let e = c.in-Err.ensures in
    let before = c.self.inside.core in
    let after = c.take_flight-taken.new.self in
    let free = ap (λ (h : LockedModel). h.flight) c.self.view_is ∙ c.requires in
    rw (← c.self.view_is) (record {
      event = either_grows before after c.self.inside.flight c.len-before.result c.len.result e.refused (c.len-before.ensures ∙ ap length c.journal.ensures.events) (c.len.ensures ∙ ap length c.journal-2.ensures.events);
      off = departs_refused g.P.Parts.options g.P.Parts.meaning g.P.Parts.segments before after c.self.inside.flight c.in-Err.refused c.self.invariant.0.locked c.journal.ensures.replays e.refused e.cause free;
    })
