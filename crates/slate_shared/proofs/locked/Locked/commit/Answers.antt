use Rattle.std.proofs.Common.{◌≡◌, ℤ, w64, Some, refl, sym, ap, subst, ◌∙◌}
use Rattle.std.specs.Prelude.{is_some}
use Rattle.std.proofs.lemmas.Int.{to_z-of_z}
use Rattle.slate_types.specs.declared.error.SlateDBError.TheVariants.{OutOfMemory}
use Rattle.slate_txn.specs.Named.{find_named}
use Rattle.slate_txn.specs.Settings.{settings_of}
use Rattle.slate_txn.specs.State.{begun}
use Rattle.slate_db.specs.Model.{CoreModel}
use Rattle.slate_db.specs.Prepared.{own_batch}
use Rattle.slate_shared.specs.Ended.{end_event, IsEnding}
use Rattle.slate_shared.specs.LockedModel.{LockedModel, grow, holds_at}
use Rattle.slate_shared.proofs.CommitLaws.{begun_there, commit_ends, commit_grows, commit_held, commit_locked, prepared_in, same_one, was_prepared_in}
use Rattle.slate_shared.proofs.TablesNamed.{names_ended}
use Rattle.slate_shared.proofs.locked.Locked.commit.Goals as goal

pub hand_over-requires : goal.hand_over-requires
hand_over-requires g c = (
  begun c.args.own.level c.args.own.begin,
  begun_there (settings_of g.P.Parts.options) g.P.Parts.meaning g.P.Parts.segments c.self.inside.core c.args.self.now.events c.args.id.now (begun c.args.own.level c.args.own.begin) c.self.invariant.0.locked c.journal.ensures.replays (sym (ap (λ (h : LockedModel). h.events) c.self.view_is)) c.requires.open,
  refl,
  refl,
)

pub commit_prepared-committed-requires-clause-open : goal.commit_prepared-committed-requires-clause-open
commit_prepared-committed-requires-clause-open g c = ap is_some c.hand_over.ensures.found

pub commit_prepared-committed-requires-clause-prepared : goal.commit_prepared-committed-requires-clause-prepared
commit_prepared-committed-requires-clause-prepared g c = λ t named.
    let h = c.hand_over.ensures in
    was_prepared_in g.P.Parts.options g.P.Parts.meaning g.P.Parts.segments c.hand_over.new.self.settings _ c.args.now c.args.own t c.args.prepared (ap (λ (v : CoreModel). v.settings) h.given ∙ c.self.invariant.0.locked.settings) (to_z-of_z w64 c.args.now c.ranges.now)
    (same_one c.args.id.now c.hand_over.new.self.state.txns c.args.own t h.found named) c.requires.prepared

pub invariant_of-self : goal.invariant_of-self
invariant_of-self g c =
    let o = settings_of g.P.Parts.options in
    let m = g.P.Parts.meaning in
    let s = g.P.Parts.segments in
    let own = c.args.own in
    let e = c.commit_prepared-committed.ensures in
    let h = c.hand_over.ensures in
    let y = c.self.inside.core in
    let d = c.hand_over.new.self in
    let was = prepared_in g.P.Parts.options m s d.settings _ c.args.now (own_batch own.ops) c.args.prepared (ap (λ (v : CoreModel). v.settings) h.given ∙ c.self.invariant.0.locked.settings) (to_z-of_z w64 c.args.now c.ranges.now) c.requires.prepared in
    let here = begun_there o m s y c.args.self.now.events c.args.id.now (begun own.level own.begin) c.self.invariant.0.locked c.journal.ensures.replays (sym (ap (λ (h : LockedModel). h.events) c.self.view_is)) c.requires.open in
    let made = e.event own h.found in (
      commit_held o m s y d c.commit_prepared-committed.new.self c.args.id.now _ own c.commit_prepared-committed.result c.self.invariant.0.locked h.given made e.ended c.self.inside.flight c.self.inside.installed c.self.invariant.0 c.journal.ensures.replays here c.journal-2.ensures.legal c.journal-2.ensures.quiet
          (commit_locked o m s y d c.commit_prepared-committed.new.self c.args.id.now _ own c.commit_prepared-committed.result c.self.invariant.0.locked h.given made e.ended (e.kept m s own h.found was) (e.segmented m s own h.found was) (h.segmented s) (h.kept m) (e.decided m s own h.found was)),
      names_ended m g.P.Parts.policies y.events c.commit_prepared-committed.new.self.events c.args.id.now _ own c.commit_prepared-committed.result
          (ap (λ (h : LockedModel). h.events) (commit_grows o m s y d c.commit_prepared-committed.new.self c.args.id.now _ own c.commit_prepared-committed.result c.self.invariant.0.locked h.given made e.ended c.self.inside.flight)) c.self.invariant.1,
    )

pub returns : goal.returns
returns g c =
    let o = settings_of g.P.Parts.options in
    let m = g.P.Parts.meaning in
    let s = g.P.Parts.segments in
    let own = c.args.own in
    let e = c.commit_prepared-committed.ensures in
    let h = c.hand_over.ensures in
    let y = c.self.inside.core in
    let d = c.hand_over.new.self in
    let r = c.commit_prepared-committed.result in
    let moments = to_z-of_z w64 c.args.now c.ranges.now in
    let was = prepared_in g.P.Parts.options m s d.settings _ c.args.now (own_batch own.ops) c.args.prepared (ap (λ (v : CoreModel). v.settings) h.given ∙ c.self.invariant.0.locked.settings) moments c.requires.prepared in
    let made = e.event own h.found in
    rw (← c.self.view_is) (record {
      grows = commit_grows o m s y d c.commit_prepared-committed.new.self c.args.id.now _ own r c.self.invariant.0.locked h.given made e.ended c.self.inside.flight ∙ ap (λ (z : ℤ). grow (holds_at y.events c.self.inside.flight) (end_event c.args.id.now z own r)) moments;
      ends = subst (λ (z : ℤ). IsEnding (λ x. x ≡ OutOfMemory) m s o z y.events own r) moments
          (commit_ends o m s y d c.commit_prepared-committed.new.self c.args.id.now _ own r c.self.invariant.0.locked h.given made e.ended (λ x. x ≡ OutOfMemory) c.journal.ensures.replays (e.decided m s own h.found was));
    })
