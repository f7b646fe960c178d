use Rattle.std.proofs.Common.{◌≡◌, ℤ, w64, refl, sym, ap, subst, ◌∙◌}
use Rattle.std.proofs.lemmas.Int.{to_z-of_z}
use Rattle.slate_types.specs.declared.error.SlateDBError.TheVariants.{OutOfMemory}
use Rattle.slate_txn.specs.Settings.{settings_of}
use Rattle.slate_shared.specs.Ended.{behind_write, IsWriting}
use Rattle.slate_shared.specs.LockedModel.{LockedModel, holds_at}
use Rattle.slate_shared.proofs.CommitLaws.{prepared_in}
use Rattle.slate_shared.proofs.WriteLaws.{write_grows, write_held, write_says}
use Rattle.slate_shared.proofs.TablesNamed.{names_written}
use Rattle.slate_shared.proofs.locked.Locked.write.Goals as goal

pub write_prepared-written-requires : goal.write_prepared-written-requires
write_prepared-written-requires g c = record {
  prepared = (
    c.requires.prepared.0,
    record { combine = g.P.Parts.meaning.combine; segments = g.P.Parts.segments; is = prepared_in g.P.Parts.options g.P.Parts.meaning g.P.Parts.segments c.self.inside.core.settings _ c.args.now c.requires.prepared.0 c.args.prepared c.self.invariant.0.locked.settings (to_z-of_z w64 c.args.now c.ranges.now) c.requires.prepared.1 },
  );
}

pub invariant_of-self : goal.invariant_of-self
invariant_of-self g c =
    let m = g.P.Parts.meaning in
    let s = g.P.Parts.segments in
    let e = c.write_prepared-written.ensures in
    let was = prepared_in g.P.Parts.options g.P.Parts.meaning g.P.Parts.segments c.self.inside.core.settings _ c.args.now c.requires.prepared.0 c.args.prepared c.self.invariant.0.locked.settings (to_z-of_z w64 c.args.now c.ranges.now) c.requires.prepared.1 in (
      write_held (settings_of g.P.Parts.options) m s c.self.inside.core c.write_prepared-written.new.self _ c.args.prepared.ops c.write_prepared-written.result e.event e.same c.self.inside.flight c.self.inside.installed c.self.invariant.0
          (e.kept m s c.requires.prepared.0 was) (e.segmented m s c.requires.prepared.0 was) c.journal.ensures.replays c.journal-2.ensures.legal c.journal-2.ensures.quiet,
      names_written m g.P.Parts.policies c.self.inside.core.events c.write_prepared-written.new.self.events _ c.args.prepared.ops c.write_prepared-written.result
          (ap (λ (h : LockedModel). h.events) (write_grows (settings_of g.P.Parts.options) m s c.self.inside.core c.write_prepared-written.new.self _ c.args.prepared.ops c.write_prepared-written.result e.event e.same c.self.inside.flight)) c.self.invariant.1,
    )

pub returns : goal.returns
returns g c =
    let o = settings_of g.P.Parts.options in
    let m = g.P.Parts.meaning in
    let s = g.P.Parts.segments in
    let e = c.write_prepared-written.ensures in
    let r = c.write_prepared-written.result in
    let y = c.self.inside.core in
    let moments = to_z-of_z w64 c.args.now c.ranges.now in
    rw (← c.self.view_is) (record {
      grows = write_grows o m s y c.write_prepared-written.new.self _ c.args.prepared.ops r e.event e.same c.self.inside.flight
          ∙ ap (λ (z : ℤ). holds_at (behind_write y.events z c.args.prepared.ops r) c.self.inside.flight) moments;
      writes = λ b is. subst (λ (z : ℤ). IsWriting (λ x. x ≡ OutOfMemory) m s o z y.events b r) moments
          (write_says o m s y _ b r (λ x. x ≡ OutOfMemory) c.self.invariant.0.locked c.journal.ensures.replays (e.accepted m s b (prepared_in g.P.Parts.options m s y.settings _ c.args.now b c.args.prepared c.self.invariant.0.locked.settings moments is)));
    })
