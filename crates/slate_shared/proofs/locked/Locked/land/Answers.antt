use Rattle.std.proofs.Common.{ℕ, Option, Some, sym, ap, subst, ◌∙◌}
use Rattle.std.specs.Prelude.{Err}
use Rattle.std.proofs.lemmas.Result.{err_from_is_err_and}
use Rattle.slate_txn.specs.Settings.{settings_of}
use Rattle.slate_db.specs.declared.flight.Flight.{Flight}
use Rattle.slate_db.specs.Flushed.{AreTablesOfFlush}
use Rattle.slate_db.specs.Flying.{took}
use Rattle.slate_db.specs.Installs.{ArePlaced}
use Rattle.slate_db.specs.Model.{CoreModel}
use Rattle.slate_db.proofs.Flights.{segmented_same}
use Rattle.slate_db.proofs.Keeps.{kept_same}
use Rattle.slate_db.proofs.Runs.{are_placed}
use Rattle.slate_shared.specs.Locked.{IsHeld}
use Rattle.slate_shared.specs.LockedModel.{LockedModel}
use Rattle.slate_shared.proofs.Held.{aloft_at, flight_is, landed_held, room_held}
use Rattle.slate_shared.proofs.LockedLaws.{refused_full}
use Rattle.slate_shared.proofs.TablesNamed.{names_installed, names_same, next_flush}
use Rattle.slate_shared.proofs.locked.Locked.land.Goals as goal

pub install_flight-requires-clause-placed : goal.install_flight-requires-clause-placed
install_flight-requires-clause-placed g c =
    let f = c.requires.0 in
    let made = c.requires.3.2 in
    let same = flight_is c.flight-flight.result f c.self.inside.flight (ap (λ x. Some x) c.flight-flight.ensures ∙ c.in-Some.ensures.value) (ap (λ (h : LockedModel). h.flight) c.self.view_is ∙ c.requires.1) in
    subst (λ (x : Flight). ArePlaced x.number 0 c.args.tables) same (are_placed g.P.Parts.meaning.encode c.requires.3.0 f.number 0 made.parts c.args.tables made.built)

pub invariant_of-self : goal.invariant_of-self
invariant_of-self g c =
    let m = g.P.Parts.meaning in
    let s = g.P.Parts.segments in
    let same = c.in_err-through.ensures.same in (
      subst (λ (x : Option Flight). IsHeld (settings_of g.P.Parts.options) m s x c.self.inside.installed c.install_flight.new.self) (sym c.take.ensures.after)
          (room_held (settings_of g.P.Parts.options) m s c.self.inside.flight c.self.inside.installed c.self.inside.core c.install_flight.new.self c.self.invariant.0 same (kept_same m _ _ same c.self.invariant.0.locked.kept) (segmented_same s _ _ same c.self.invariant.0.locked.segmented)),
      names_same m g.P.Parts.policies c.self.inside.core.events c.install_flight.new.self.events (ap (λ (x : CoreModel). x.events) same) c.self.invariant.1,
    )

pub returns-in_err-through-clause-cause : goal.returns-in_err-through-clause-cause
returns-in_err-through-clause-cause g c =
    let p = err_from_is_err_and c.from_residual.result c.from_residual.ensures.1 in
    rw (p.1, p.2, ← c.self.view_is) (refused_full {X = ℕ} (settings_of g.P.Parts.options) g.P.Parts.meaning g.P.Parts.segments c.self.inside.core 1 (Err c.in_err-through.field-0.0) c.self.invariant.0.locked c.journal.ensures.replays c.in_err-through.ensures.cause)

pub invariant_of-self-2 : goal.invariant_of-self-2
invariant_of-self-2 g c =
    let m = g.P.Parts.meaning in
    let s = g.P.Parts.segments in
    let f = c.flight-flight.result in
    let is = ap (λ x. Some x) c.flight-flight.ensures ∙ c.in-Some.ensures.value in
    let e = c.in_ok-through.ensures in
    let same = flight_is f c.requires.0 c.self.inside.flight is (ap (λ (h : LockedModel). h.flight) c.self.view_is ∙ c.requires.1) in
    let aloft = aloft_at m f c.self.inside.flight c.self.inside.core is c.self.invariant.0.aloft in
    let made = subst (λ (x : Flight). AreTablesOfFlush m c.requires.3.0 x.number x.barrier (took x) c.args.tables) same c.requires.3.2 in (
      subst (λ (x : Option Flight × Option ℕ). IsHeld (settings_of g.P.Parts.options) m s x.0 x.1 c.install_flight.new.self) (λ i. (sym c.take.ensures.after i, ap (λ n. Some n) (sym e.through) i))
          (landed_held (settings_of g.P.Parts.options) m s c.self.inside.flight c.self.inside.installed c.self.inside.core c.install_flight.new.self f c.args.tables c.self.invariant.0 e.event (e.kept m c.requires.3.0 c.self.invariant.0.locked.kept aloft.1 made) (e.segmented s c.self.invariant.0.locked.segmented)),
      names_installed m g.P.Parts.policies c.requires.3.0 c.self.inside.core.events c.install_flight.new.self.events f.through f.number f.barrier (took f) c.args.tables (ap (λ (x : CoreModel). x.events) e.event) c.requires.3.1 aloft.0.number made c.self.invariant.1,
    )

-- ---- the flight had the next number, and all tables have their filters

pub returns-in_err-through-clause-next : goal.returns-in_err-through-clause-next
returns-in_err-through-clause-next g c = λ f flies. next_flush g.P.Parts.meaning g.P.Parts.policies c.self.inside.core c.args.self.now.events c.self.inside.flight c.args.self.now.flight f c.self.invariant.0.aloft c.self.invariant.1
    (ap (λ (h : LockedModel). h.events) c.self.view_is) (ap (λ (h : LockedModel). h.flight) c.self.view_is) flies

pub returns-in_err-through-clause-filtered : goal.returns-in_err-through-clause-filtered
returns-in_err-through-clause-filtered g c =
    (names_same g.P.Parts.meaning g.P.Parts.policies c.self.inside.core.events c.install_flight.new.self.events (ap (λ (x : CoreModel). x.events) c.in_err-through.ensures.same) c.self.invariant.1).filtered

pub returns-clause-next : goal.returns-clause-next
returns-clause-next g c = λ f flies. next_flush g.P.Parts.meaning g.P.Parts.policies c.self.inside.core c.args.self.now.events c.self.inside.flight c.args.self.now.flight f c.self.invariant.0.aloft c.self.invariant.1
    (ap (λ (h : LockedModel). h.events) c.self.view_is) (ap (λ (h : LockedModel). h.flight) c.self.view_is) flies

pub returns-clause-filtered : goal.returns-clause-filtered
returns-clause-filtered g c =
    let m = g.P.Parts.meaning in
    let f = c.flight-flight.result in
    let is = ap (λ x. Some x) c.flight-flight.ensures ∙ c.in-Some.ensures.value in
    let e = c.in_ok-through.ensures in
    let same = flight_is f c.requires.0 c.self.inside.flight is (ap (λ (h : LockedModel). h.flight) c.self.view_is ∙ c.requires.1) in
    let aloft = aloft_at m f c.self.inside.flight c.self.inside.core is c.self.invariant.0.aloft in
    let made = subst (λ (x : Flight). AreTablesOfFlush m c.requires.3.0 x.number x.barrier (took x) c.args.tables) same c.requires.3.2 in
    (names_installed m g.P.Parts.policies c.requires.3.0 c.self.inside.core.events c.install_flight.new.self.events f.through f.number f.barrier (took f) c.args.tables (ap (λ (x : CoreModel). x.events) e.event) c.requires.3.1 aloft.0.number made c.self.invariant.1).filtered
