use Rattle.std.proofs.Common.{◌≡◌, ℤ, w64, None, Some, sym, ap, subst, ◌∙◌}
use Rattle.std.specs.Prelude.{Ok, Err}
use Rattle.std.proofs.lemmas.Int.{to_z-of_z}
use Rattle.slate_types.specs.declared.error.SlateDBError.TheVariants.{OutOfMemory}
use Rattle.slate_txn.specs.Settings.{settings_of}
use Rattle.slate_db.specs.Prepared.{IsPrepared, prepared_for}
use Rattle.slate_shared.specs.Passes.{pass_model}
use Rattle.slate_shared.proofs.KeptSeats.{kept_is}
use Rattle.slate_shared.proofs.Moves.{may_event, view_after}
use Rattle.slate_shared.proofs.Seats.{pass_seat}
use Rattle.slate_shared.proofs.WriteLaws.{has_written, write_event}
use Rattle.slate_shared.proofs.pass.Pass.put_prepared.Goals as goal

pub write-requires : goal.write-requires
write-requires g c = record {
  prepared = (
    c.requires.prepared.0,
    subst (λ (z : ℤ). IsPrepared (prepared_for g.P.Parts.meaning.combine g.P.Parts.segments g.P.Parts.options.default_ttl_millis z c.requires.prepared.0) c.args.prepared) (sym (to_z-of_z w64 c.args.now c.ranges.now)) c.requires.prepared.1,
  );
}

pub add-requires-clause-event : goal.add-requires-clause-event
add-requires-clause-event g c =
    let y = c.take-locked.result in
    may_event _ c.self.inside.seat.me.0 _ y _ _ c.take-locked.ensures.seat.1 (write_event c.write.new.self y _ c.args.prepared.ops c.write.result c.in-Ok-Some.seq c.write.ensures.grows (c.in-Ok-Some.is ∙ ap Ok c.in-Ok-Some.field-0-is)) tt c.self.invariant.1

pub invariant_of-self : goal.invariant_of-self
invariant_of-self g c =
    let y = c.take-locked.result in
    pass_seat _ _ c.self.inside.seat.me.0 _ y _ _ _ c.take-locked.ensures.seat.1 (write_event c.write.new.self y _ c.args.prepared.ops c.write.result c.in-Ok-Some.seq c.write.ensures.grows (c.in-Ok-Some.is ∙ ap Ok c.in-Ok-Some.field-0-is)) c.add.ensures.view
    (ap (λ h. h.flight) c.write.ensures.grows) c.self.invariant.1 c.self.invariant.2 c.self.invariant.3

pub returns-in-Ok-Some : goal.returns-in-Ok-Some
returns-in-Ok-Some g c =
    let t = c.take-locked.ensures in
    let y = c.take-locked.result in
    let v = c.self.inside.seat.me.0 in
    let r = c.write.result in
    let is : r ≡ Ok (Some c.new.result) = c.in-Ok-Some.is ∙ ap Ok (c.in-Ok-Some.field-0-is ∙ ap Some (sym c.new.ensures)) in
    let now = view_after _ _ v _ y _ _ _ t.seat.1 (write_event c.write.new.self y _ c.args.prepared.ops r c.new.result c.write.ensures.grows is) c.add.ensures.view in
    rw (← c.self.view_is) (record {
      same = (c.add.ensures.seat.0 ∙ t.seat.0.0, ap (λ x. x.parts) now);
      written = λ b of. has_written (λ e. e ≡ OutOfMemory) g.P.Parts.meaning g.P.Parts.segments (settings_of g.P.Parts.options) c.args.now _ b c.args.prepared.ops r (Ok (Some c.new.result)) (pass_model c.self.inside.seat.table_id v) (pass_model c.add.new.place.table_id c.add.new.place.me.0) y.events
          (to_z-of_z w64 c.args.now c.ranges.now) of.ops is t.journal.0 (ap (λ x. x.seen) now) (ap (λ x. x.own) now)
          (c.write.ensures.writes b (subst (λ (z : ℤ). IsPrepared (prepared_for g.P.Parts.meaning.combine g.P.Parts.segments g.P.Parts.options.default_ttl_millis z b) c.args.prepared) (sym (to_z-of_z w64 c.args.now c.ranges.now)) of));
    })

pub returns-in-Ok-None : goal.returns-in-Ok-None
returns-in-Ok-None g c =
    let t = c.take-locked.ensures in
    let y = c.take-locked.result in
    let v = c.self.inside.seat.me.0 in
    let r = c.write.result in
    let now = kept_is _ _ v _ y _ t.seat.1 c.keep.ensures.seat.1 in
    rw (← c.self.view_is) (record {
      same = (c.keep.ensures.seat.0.0 ∙ t.seat.0.0, ap (λ n. n.0.parts) now);
      written = λ b of. has_written (λ e. e ≡ OutOfMemory) g.P.Parts.meaning g.P.Parts.segments (settings_of g.P.Parts.options) c.args.now _ b c.args.prepared.ops r (Ok None) (pass_model c.self.inside.seat.table_id v) (pass_model c.keep.new.place.table_id c.keep.new.place.me.0) y.events
          (to_z-of_z w64 c.args.now c.ranges.now) of.ops (c.in-Ok-None.is ∙ ap Ok c.in-Ok-None.field-0-is) t.journal.0 (ap (λ n. n.0.seen) now) (ap (λ n. n.0.own) now)
          (c.write.ensures.writes b (subst (λ (z : ℤ). IsPrepared (prepared_for g.P.Parts.meaning.combine g.P.Parts.segments g.P.Parts.options.default_ttl_millis z b) c.args.prepared) (sym (to_z-of_z w64 c.args.now c.ranges.now)) of));
    })

pub returns-in-Err : goal.returns-in-Err
returns-in-Err g c =
    let t = c.take-locked.ensures in
    let y = c.take-locked.result in
    let v = c.self.inside.seat.me.0 in
    let r = c.write.result in
    let now = kept_is _ _ v _ y _ t.seat.1 c.keep-in-Err.ensures.seat.1 in
    rw (← c.self.view_is) (record {
      same = (c.keep-in-Err.ensures.seat.0.0 ∙ t.seat.0.0, ap (λ n. n.0.parts) now);
      written = λ b of. has_written (λ e. e ≡ OutOfMemory) g.P.Parts.meaning g.P.Parts.segments (settings_of g.P.Parts.options) c.args.now _ b c.args.prepared.ops r (Err c.in-Err.refused) (pass_model c.self.inside.seat.table_id v) (pass_model c.keep-in-Err.new.place.table_id c.keep-in-Err.new.place.me.0) y.events
          (to_z-of_z w64 c.args.now c.ranges.now) of.ops c.in-Err.is t.journal.0 (ap (λ n. n.0.seen) now) (ap (λ n. n.0.own) now)
          (c.write.ensures.writes b (subst (λ (z : ℤ). IsPrepared (prepared_for g.P.Parts.meaning.combine g.P.Parts.segments g.P.Parts.options.default_ttl_millis z b) c.args.prepared) (sym (to_z-of_z w64 c.args.now c.ranges.now)) of));
    })
