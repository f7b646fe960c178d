use Rattle.std.proofs.Common.{◌≡◌, ℕ, List, OnOk, refl, true, false, ◌<◌, ◌⊎◌, length, map, Result, Ok, Err, inl, inr, sym, ap, subst, ◌∙◌, arith, [], append-nil}
use Rattle.std.proofs.lemmas.Result.{err_from_is_err_and, IfOk-from_err}
use Rattle.slate_types.specs.declared.error.SlateDBError.{SlateDBError}
use Rattle.slate_types.specs.declared.error.SlateDBError.TheVariants as errors
use Rattle.slate_types.proofs.Reaching.{puts_none}
use Rattle.slate_types.specs.Outside.{IsFault, Reach}
use Rattle.slate_store.specs.Reach.{reach_of}
use Rattle.slate_types.specs.declared.types.Ulid.{Ulid}
use Rattle.slate_txn.specs.Places.{IsQuiet}
use Rattle.slate_txn.specs.State.{last_of}
use Rattle.slate_db.specs.declared.engine.Core.TheInside.{Inside}
use Rattle.slate_db.specs.Answered.{AddsTables}
use Rattle.slate_db.specs.Installs.{tables_of}
use Rattle.slate_db.specs.Frozen.{IsFrozen}
use Rattle.slate_db.specs.Calls.Flush.{IsRefusedLate}
use Rattle.slate_db.specs.Flushed.{IsFlushError, Layout, NoPlaceToFlush, TooLarge, WantsOperator, idle, layout_of}
use Rattle.slate_db.specs.Meaning.{segments_by}
use Rattle.slate_db.specs.Model.{CoreModel, memory}
use Rattle.slate_db.specs.Readable.{AreFiltered}
use Rattle.slate_db.specs.Sound.{IsKept}
use Rattle.slate_db.specs.Log.{LIMIT, LogModel, IsLog, with_flush}
use Rattle.slate_db.specs.View.{view_of, unseen_of, IsWholeInside}
use Rattle.slate_db.specs.Vouched.{IsVouchedFor}
use Rattle.slate_db.proofs.Flushes.{kept_flushed, step_flush, frozen_settings, steps_after, steps_in, place_cause, freeze_cause, frozen_idle, none_frozen, installed_after, cause_after, too_large_before, wants_before, among_frozen, kept_behind, none_idle, never_missing, place_left, some_frozen, frozen_at_fault, no_fault, settled, all_taken, quiet_after}
use Rattle.slate_db.proofs.Adding.{adds_same}
use Rattle.slate_db.proofs.Built.{may_keep}
use Rattle.slate_db.proofs.HeldOn.{filtered_still, filters_either, held_behind, held_still, tells_behind, tells_still}
use Rattle.slate_db.proofs.Opened.{stay_as, stay_installed, stay_on, stay_same}
use Rattle.slate_db.specs.Segmented.{IsSegmented}
use Rattle.slate_db.proofs.SegmentRuns.{adds_runs, none_added}
use Rattle.slate_db.proofs.Segmenting.{segmented_as, segmented_flushed, segmented_frozen}
use Rattle.slate_db.proofs.Vouches.{vouched_flushed}
use Rattle.slate_db.proofs.Wholes.{whole_flushed}
use Rattle.slate_txn.proofs.NamedLaws.{both_err}
use Rattle.slate_db.proofs.Puttings.{frozen_tables}
use Rattle.slate_types.proofs.StillLaws.{unasked_still}
use Rattle.slate_db.proofs.engine.Core.flush.Goals as goal

pub note_flush-requires : goal.note_flush-requires
note_flush-requires g c = c.self.invariant.tied.all_installed
    (ap (λ (v : CoreModel). v.active) c.self.view_is ∙ frozen_idle c.args.self.now c.freeze.new.self c.in_ok-freeze.ensures.event)
    (sym c.frozen.ensures ∙ none_frozen c.frozen.result.now c.frozen.result.now c.is_empty.result c.is_empty.ensures c.if-is_empty.true refl)

pub invariant_of-self : goal.invariant_of-self
invariant_of-self g c =
    subst IsWholeInside (ap (λ (l : LogModel). record c.self.inside { log = l }) (sym c.note_flush.ensures.value))
    (whole_flushed (view_of c.self.inside) (unseen_of c.self.inside) (subst IsLog c.note_flush.ensures.value c.note_flush.ensures.whole) c.self.invariant)

pub install-requires-clause-valid : goal.install-requires-clause-valid
install-requires-clause-valid g c = λ κs lives. c.requires.valid

pub install-requires-clause-names : goal.install-requires-clause-names
install-requires-clause-names g c = λ κs lives. c.requires.names

pub install-requires-clause-idle : goal.install-requires-clause-idle
install-requires-clause-idle g c = λ κs lives. frozen_idle c.args.self.now c.freeze.new.self c.in_ok-freeze.ensures.event

pub install-requires-clause-some : goal.install-requires-clause-some
install-requires-clause-some g c = λ κs lives.
    some_frozen c.frozen.result.now c.frozen.result.now c.is_empty.result c.freeze.new.self.frozen c.is_empty.ensures c.if-is_empty.false refl (c.frozen.ensures ∙ ap (λ (v : CoreModel). v.frozen) c.self.view_is)

pub install-requires-clause-place : goal.install-requires-clause-place
install-requires-clause-place g c = λ κs lives.
    let some : 0 < length c.freeze.new.self.frozen = some_frozen c.frozen.result.now c.frozen.result.now c.is_empty.result c.freeze.new.self.frozen c.is_empty.ensures c.if-is_empty.false refl (c.frozen.ensures ∙ ap (λ (v : CoreModel). v.frozen) c.self.view_is) in
    place_left LIMIT c.args.self.now c.freeze.new.self c.in_ok-freeze.ensures.event some c.in_ok-place_for_flush.ensures.place

-- ---- no place

pub returns-in_err-place_for_flush : goal.returns-in_err-place_for_flush
returns-in_err-place_for_flush g c =
    let p = err_from_is_err_and c.from_residual.result c.from_residual.ensures.1 in
    record {
      step = IfOk-from_err c.from_residual.result _ c.from_residual.ensures.0;
      installed = IfOk-from_err c.from_residual.result _ c.from_residual.ensures.0;
      acts = IfOk-from_err c.from_residual.result _ c.from_residual.ensures.0;
      adds = adds_same _ _ refl;
      taken = IfOk-from_err c.from_residual.result _ c.from_residual.ensures.0;
      quiet = IfOk-from_err c.from_residual.result _ c.from_residual.ensures.0;
      refused = rw p.1 (c.args.self.now, inl refl, refl, may_keep _ _ _ refl);
      frozen = (λ h.
          let p = err_from_is_err_and c.from_residual.result c.from_residual.ensures.1 in
          no_fault LIMIT c.from_residual.result _ (p.1 ∙ ap Err p.2) (λ x. x) (inr c.in_err-place_for_flush.ensures.limit.0) h);
      full = λ h. refl;
      unasked = λ h. refl;
      stay = stay_same c.args.self.now _ refl;
      held = held_still c.args.self.now.events _ _ _ refl refl;
      told = IfOk-from_err c.from_residual.result _ c.from_residual.ensures.0;
      filtered = λ h. h;
      vouched = IfOk-from_err c.from_residual.result _ c.from_residual.ensures.0;
      runs = λ k z. IfOk-from_err c.from_residual.result _ c.from_residual.ensures.0;
      segmented = λ h z. z;
      kept = λ k. k;
      settings = refl;
      limit = λ h. let p = err_from_is_err_and c.from_residual.result c.from_residual.ensures.1 in p.1 ∙ ap Err (p.2 ∙ c.in_err-place_for_flush.ensures.limit.0);
      kept_refused = rw p.1 (λ m k. k);
      wanted = λ none among. IfOk-from_err c.from_residual.result _ c.from_residual.ensures.0;
      operable = (λ k.
          let here = reach_of g.S.Store g.M.MergeOperator g.T.BlockTransformer c.args.env.now in
          rw (p.1, p.2) (never_missing (layout_of c.args.laws.now.options (map (λ p. (goal.FilterPolicy-dyn g (p.vtable, p.value)).meaning p.value) c.args.laws.now.policies.items) (segments_by g.X.PrefixExtractor.lengths c.args.laws.now.segments)) here here c.args.self.now c.in_err-place_for_flush.field-0.0 k (place_cause LIMIT c.args.self.now c.in_err-place_for_flush.field-0.0 c.in_err-place_for_flush.ensures.limit)));
      cause = rw (p.1, p.2) (place_cause LIMIT c.args.self.now c.in_err-place_for_flush.field-0.0 c.in_err-place_for_flush.ensures.limit);
      puts = puts_none _;
      still = unasked_still _ c.from_residual.result;
    }

-- ---- no freeze

pub returns-in_err-freeze : goal.returns-in_err-freeze
returns-in_err-freeze g c =
    let p = err_from_is_err_and c.from_residual-in_err-freeze.result c.from_residual-in_err-freeze.ensures.1 in
    record {
      step = IfOk-from_err c.from_residual-in_err-freeze.result _ c.from_residual-in_err-freeze.ensures.0;
      installed = IfOk-from_err c.from_residual-in_err-freeze.result _ c.from_residual-in_err-freeze.ensures.0;
      acts = IfOk-from_err c.from_residual-in_err-freeze.result _ c.from_residual-in_err-freeze.ensures.0;
      adds = adds_same _ _ refl;
      taken = IfOk-from_err c.from_residual-in_err-freeze.result _ c.from_residual-in_err-freeze.ensures.0;
      quiet = IfOk-from_err c.from_residual-in_err-freeze.result _ c.from_residual-in_err-freeze.ensures.0;
      refused = rw p.1 (c.freeze.new.self, inl (subst (λ (v : CoreModel). v ≡ record c.args.self.now { spare = v.spare }) (sym c.in_err-freeze.ensures.same) refl), refl, may_keep _ _ _ refl);
      frozen = (λ h.
          let p = err_from_is_err_and c.from_residual-in_err-freeze.result c.from_residual-in_err-freeze.ensures.1 in
          no_fault LIMIT c.from_residual-in_err-freeze.result _ (p.1 ∙ ap Err p.2) (λ x. x.0) c.in_err-freeze.ensures.cause h);
      full = λ h. c.in_err-freeze.ensures.same;
      unasked = λ h. refl;
      stay = stay_same c.args.self.now _ c.in_err-freeze.ensures.same;
      held = held_still c.args.self.now.events _ _ _ (ap (λ (v : CoreModel). tables_of v.events) c.in_err-freeze.ensures.same) refl;
      told = IfOk-from_err c.from_residual-in_err-freeze.result _ c.from_residual-in_err-freeze.ensures.0;
      filtered = filtered_still (reach_of g.S.Store g.M.MergeOperator g.T.BlockTransformer c.args.env.now).meaning.encode (map (λ p. (goal.FilterPolicy-dyn g (p.vtable, p.value)).meaning p.value) c.args.laws.now.policies.items) c.args.self.now c.freeze.new.self c.in_err-freeze.ensures.same;
      vouched = IfOk-from_err c.from_residual-in_err-freeze.result _ c.from_residual-in_err-freeze.ensures.0;
      runs = λ k z. IfOk-from_err c.from_residual-in_err-freeze.result _ c.from_residual-in_err-freeze.ensures.0;
      segmented = λ h z. subst (λ (v : CoreModel). IsSegmented h v) (sym c.in_err-freeze.ensures.same) z;
      kept = λ k. subst (λ (v : CoreModel). IsKept (reach_of g.S.Store g.M.MergeOperator g.T.BlockTransformer c.args.env.now).meaning v) (sym c.in_err-freeze.ensures.same) k;
      settings = ap (λ (v : CoreModel). v.settings) c.in_err-freeze.ensures.same;
      limit = λ h. absurd (omega (arith, c.in_ok-place_for_flush.ensures.place, h));
      kept_refused = rw p.1 (λ m k. subst (λ (v : CoreModel). IsKept m v) (sym c.in_err-freeze.ensures.same) k);
      wanted = λ none among. IfOk-from_err c.from_residual-in_err-freeze.result _ c.from_residual-in_err-freeze.ensures.0;
      operable = (λ k.
          let here = reach_of g.S.Store g.M.MergeOperator g.T.BlockTransformer c.args.env.now in
          rw (p.1, p.2) (never_missing (layout_of c.args.laws.now.options (map (λ p. (goal.FilterPolicy-dyn g (p.vtable, p.value)).meaning p.value) c.args.laws.now.policies.items) (segments_by g.X.PrefixExtractor.lengths c.args.laws.now.segments)) here here c.args.self.now c.in_err-freeze.field-0.0 k (freeze_cause LIMIT _ _ c.args.self.now c.in_err-freeze.field-0.0 (λ e. let t : false ≡ true = c.in_err-freeze.ensures.idle e in cc) c.in_err-freeze.ensures.cause)));
      cause = rw (p.1, p.2) (freeze_cause LIMIT _ _ c.args.self.now c.in_err-freeze.field-0.0 (λ e. let t : false ≡ true = c.in_err-freeze.ensures.idle e in cc) c.in_err-freeze.ensures.cause);
      puts = puts_none _;
      still = unasked_still _ c.from_residual-in_err-freeze.result;
    }

-- ---- no rows

-- what the fields are after the call
noted : (s : Inside) (c : CoreModel) (l : LogModel) → view_of s ≡ c → l ≡ with_flush s.log → view_of (record s { log = l }) ≡ record c { state = record c.state { flushed = s.log.last } }
noted s c l is log = ap (λ (x : LogModel). view_of (record s { log = x })) log ∙ ap (λ (v : CoreModel). record v { state = record v.state { flushed = s.log.last } }) is

-- an answer of Ok is no refusal
never_late : {P : Type 0} (n : ℕ) → (let r : Result ℕ SlateDBError = Ok n in IsRefusedLate r) → P
never_late n (inl h) = cc
never_late n (inr (inl h)) = cc
never_late n (inr (inr (inl h))) = cc
never_late n (inr (inr (inr h))) = let is = h.1 in cc

pub returns-then-is_empty : goal.returns-then-is_empty
returns-then-is_empty g c = record {
  step = λ m h. step_flush m c.args.self.now c.freeze.new.self (view_of (record c.self.inside { log = c.note_flush.new.self })) c.last.result c.in_ok-freeze.ensures.event
      (c.last.ensures ∙ ap (λ (l : LogModel). l.last) c.note_flush.ensures.value ∙ c.self.invariant.log.last ∙ ap (λ (v : CoreModel). last_of v.settings.start_seq v.state.commits) c.self.view_is)
      (ap (λ (v : CoreModel). v.state) (noted c.self.inside c.freeze.new.self c.note_flush.new.self c.self.view_is c.note_flush.ensures.value) ∙ (let n = sym (c.last.ensures ∙ ap (λ (l : LogModel). l.last) c.note_flush.ensures.value) in λ i. record c.freeze.new.self.state { flushed = n i }));
  segmented = λ h z. subst (λ (v : CoreModel). IsSegmented h v) (sym (noted c.self.inside c.freeze.new.self c.note_flush.new.self c.self.view_is c.note_flush.ensures.value))
      (segmented_as h c.freeze.new.self _ refl refl (segmented_frozen h c.args.self.now c.freeze.new.self c.in_ok-freeze.ensures.event z));
  runs = λ k z. none_added (reach_of g.S.Store g.M.MergeOperator g.T.BlockTransformer c.args.env.now).meaning (segments_by g.X.PrefixExtractor.lengths c.args.laws.now.segments) c.args.self.now c.freeze.new.self (view_of (record c.self.inside { log = c.note_flush.new.self })) _ c.in_ok-freeze.ensures.event
      (sym (ap (λ (v : CoreModel). v.frozen) c.self.view_is) ∙ sym c.frozen.ensures ∙ none_frozen c.frozen.result.now c.frozen.result.now c.is_empty.result c.is_empty.ensures c.if-is_empty.true refl)
      (noted c.self.inside c.freeze.new.self c.note_flush.new.self c.self.view_is c.note_flush.ensures.value);
  settings = ap (λ (v : CoreModel). v.settings) (noted c.self.inside c.freeze.new.self c.note_flush.new.self c.self.view_is c.note_flush.ensures.value) ∙ frozen_settings c.args.self.now c.freeze.new.self c.in_ok-freeze.ensures.event;
  quiet = subst (λ (v : CoreModel). IsQuiet v.events) (sym (noted c.self.inside c.freeze.new.self c.note_flush.new.self c.self.view_is c.note_flush.ensures.value)) c.in_ok-freeze.ensures.quiet;
  installed = (
    c.freeze.new.self,
    c.in_ok-freeze.ensures.event,
    idle (sym (ap (λ (v : CoreModel). v.frozen) c.self.view_is) ∙ sym c.frozen.ensures ∙ none_frozen c.frozen.result.now c.frozen.result.now c.is_empty.result c.is_empty.ensures c.if-is_empty.true refl)
        (noted c.self.inside c.freeze.new.self c.note_flush.new.self c.self.view_is c.note_flush.ensures.value ∙ (let n = sym (c.last.ensures ∙ ap (λ (l : LogModel). l.last) c.note_flush.ensures.value) in λ i. record c.freeze.new.self { state = record c.freeze.new.self.state { flushed = n i } })) refl,
  );
  acts = ([], ap (λ (l : LogModel). tables_of l.events) c.note_flush.ensures.value ∙ ap (λ (v : CoreModel). tables_of v.events) c.self.view_is ∙ frozen_tables c.args.self.now c.freeze.new.self c.in_ok-freeze.ensures.event ∙ sym (append-nil (tables_of c.args.self.now.events)), refl);
  adds = adds_same _ _ refl;
  taken = (
    ap (λ (v : CoreModel). v.active) c.self.view_is ∙ frozen_idle c.args.self.now c.freeze.new.self c.in_ok-freeze.ensures.event,
    sym c.frozen.ensures ∙ none_frozen c.frozen.result.now c.frozen.result.now c.is_empty.result c.is_empty.ensures c.if-is_empty.true refl,
  );
  full = λ h. absurd (omega (arith, c.in_ok-place_for_flush.ensures.place, h));
  unasked = λ h. refl;
  limit = λ h. absurd (omega (arith, c.in_ok-place_for_flush.ensures.place, h));
  kept = λ k. let m = (reach_of g.S.Store g.M.MergeOperator g.T.BlockTransformer c.args.env.now).meaning in
      subst (λ (l : LogModel). IsKept m (view_of (record c.self.inside { log = l }))) (sym c.note_flush.ensures.value)
      (kept_flushed m (view_of c.self.inside) c.self.inside.log.last (subst (λ (v : CoreModel). IsKept m v) (sym c.self.view_is) (c.in_ok-freeze.ensures.kept m k)));
  vouched = λ m other h. subst (λ (v : CoreModel). IsVouchedFor m v other) (sym (noted c.self.inside c.freeze.new.self c.note_flush.new.self c.self.view_is c.note_flush.ensures.value)) (c.in_ok-freeze.ensures.vouched m other h);
  stay = let is = noted c.self.inside c.freeze.new.self c.note_flush.new.self c.self.view_is c.note_flush.ensures.value in
      stay_on c.args.self.now c.freeze.new.self _ c.freeze.ensures.stay (stay_as c.freeze.new.self _ (ap (λ (v : CoreModel). v.state.txns) is) (ap (λ (v : CoreModel). v.state.snapshots) is));
  held = held_still c.args.self.now.events _ _ _
      (ap (λ (l : LogModel). tables_of l.events) c.note_flush.ensures.value ∙ ap (λ (v : CoreModel). tables_of v.events) c.self.view_is ∙ frozen_tables c.args.self.now c.freeze.new.self c.in_ok-freeze.ensures.event) refl;
  told = tells_still c.args.self.now.events c.note_flush.new.self.events (g.S.Store.acts c.args.env.now.store.now) (g.S.Store.acts c.args.env.now.store.now)
      (ap (λ (l : LogModel). tables_of l.events) c.note_flush.ensures.value ∙ ap (λ (v : CoreModel). tables_of v.events) c.self.view_is ∙ frozen_tables c.args.self.now c.freeze.new.self c.in_ok-freeze.ensures.event) refl;
  filtered = λ h. subst (AreFiltered _ _)
      (sym (ap (λ (l : LogModel). tables_of l.events) c.note_flush.ensures.value ∙ ap (λ (v : CoreModel). tables_of v.events) c.self.view_is ∙ frozen_tables c.args.self.now c.freeze.new.self c.in_ok-freeze.ensures.event)) h;
  puts = puts_none _;
  refused = tt;
  kept_refused = tt;
  wanted = λ none among. let clash : true ≡ false = sym among ∙ sym (among_frozen c.args.self.now c.freeze.new.self c.in_ok-freeze.ensures.event)
      ∙ none_idle c.freeze.new.self (frozen_idle c.args.self.now c.freeze.new.self c.in_ok-freeze.ensures.event) (sym (ap (λ (v : CoreModel). v.frozen) c.self.view_is) ∙ sym c.frozen.ensures ∙ none_frozen c.frozen.result.now c.frozen.result.now c.is_empty.result c.is_empty.ensures c.if-is_empty.true refl) in
      absurd cc;
  operable = λ k. tt;
  cause = tt;
  still = refl;
  frozen = λ h. never_late _ h;
}

-- ---- the install

-- what refuses it, said of the core before the freeze
behind : (layout : Layout) (before after : Reach) (old between : CoreModel) (e : SlateDBError) → IsFrozen old between →
    IsFault before after e ⊎ TooLarge before.meaning layout between e ⊎ WantsOperator before.meaning (memory between) e → IsFlushError layout before after old e
behind layout before after old between e froze (inl fault) = inl fault
behind layout before after old between e froze (inr (inl large)) = inr (inr (inl (too_large_before before.meaning layout old between e froze large)))
behind layout before after old between e froze (inr (inr wants)) = inr (inr (inr (wants_before before.meaning old between e froze wants)))

-- frozen rows were in memory before the freeze
asks_for_rows : (old between : CoreModel) (Full : Type 0) → IsFrozen old between → (Full → ⊥) → 0 < length between.frozen → Full ⊎ ((old.active ≡ []) × (old.frozen ≡ [])) → ⊥
asks_for_rows old between Full froze place some (inl full) = place full
asks_for_rows old between Full (inl (none, is)) place some (inr calm) =
    let empty : length between.frozen ≡ 0 = ap (λ (v : CoreModel). length v.frozen) is ∙ ap length calm.1 in
    omega (arith, some, empty)
asks_for_rows old between Full (inr (rows, is)) place some (inr calm) = rows calm.0

pub returns : goal.returns
returns g c =
    let before = reach_of g.S.Store g.M.MergeOperator g.T.BlockTransformer c.args.env.now in
    let after = reach_of g.S.Store g.M.MergeOperator g.T.BlockTransformer c.install.new.env in
    let layout = layout_of c.args.laws.now.options (map (λ p. (goal.FilterPolicy-dyn g (p.vtable, p.value)).meaning p.value) c.args.laws.now.policies.items) (segments_by g.X.PrefixExtractor.lengths c.args.laws.now.segments) in
    let cause = cause_after c.install.result _ (IsFlushError layout before after c.args.self.now) (λ e h. behind layout before after c.args.self.now c.freeze.new.self e c.in_ok-freeze.ensures.event h) c.install.ensures.cause in
    let steps = steps_after c.install.result before.meaning (layout_of c.args.laws.now.options (map (λ p. (goal.FilterPolicy-dyn g (p.vtable, p.value)).meaning p.value) c.args.laws.now.policies.items) (segments_by g.X.PrefixExtractor.lengths c.args.laws.now.segments)) c.args.self.now c.freeze.new.self c.install.new.self (g.S.Store.objects c.args.env.now.store.now) (g.S.Store.objects c.install.new.env.store.now) c.in_ok-freeze.ensures.event c.install.ensures.newest c.install.ensures.installed in
    let same = settled c.install.result before.meaning (layout_of c.args.laws.now.options (map (λ p. (goal.FilterPolicy-dyn g (p.vtable, p.value)).meaning p.value) c.args.laws.now.policies.items) (segments_by g.X.PrefixExtractor.lengths c.args.laws.now.segments)) c.freeze.new.self c.install.new.self (g.S.Store.objects c.args.env.now.store.now) (g.S.Store.objects c.install.new.env.store.now) c.install.ensures.installed c.install.ensures.same ∙ frozen_settings c.args.self.now c.freeze.new.self c.in_ok-freeze.ensures.event in
    record {
      step = steps_in c.install.result c.args.self.now c.install.new.self steps;
      installed = installed_after c.install.result before.meaning (layout_of c.args.laws.now.options (map (λ p. (goal.FilterPolicy-dyn g (p.vtable, p.value)).meaning p.value) c.args.laws.now.policies.items) (segments_by g.X.PrefixExtractor.lengths c.args.laws.now.segments)) c.args.self.now c.freeze.new.self c.install.new.self (g.S.Store.objects c.args.env.now.store.now) (g.S.Store.objects c.install.new.env.store.now) c.in_ok-freeze.ensures.event c.install.ensures.installed;
      acts = (subst (λ (ts : List (Ulid × List ℕ)). OnOk c.install.result (AddsTables ts (tables_of c.install.new.self.events) (g.S.Store.acts c.args.env.now.store.now) (g.S.Store.acts c.install.new.env.store.now)))
          (frozen_tables c.args.self.now c.freeze.new.self c.in_ok-freeze.ensures.event) c.install.ensures.acts);
      adds = c.install.ensures.adds;
      taken = all_taken c.install.result before.meaning (layout_of c.args.laws.now.options (map (λ p. (goal.FilterPolicy-dyn g (p.vtable, p.value)).meaning p.value) c.args.laws.now.policies.items) (segments_by g.X.PrefixExtractor.lengths c.args.laws.now.segments)) c.freeze.new.self c.install.new.self (g.S.Store.objects c.args.env.now.store.now) (g.S.Store.objects c.install.new.env.store.now) (frozen_idle c.args.self.now c.freeze.new.self c.in_ok-freeze.ensures.event) c.install.ensures.installed;
      quiet = quiet_after c.install.result before.meaning (layout_of c.args.laws.now.options (map (λ p. (goal.FilterPolicy-dyn g (p.vtable, p.value)).meaning p.value) c.args.laws.now.policies.items) (segments_by g.X.PrefixExtractor.lengths c.args.laws.now.segments)) c.freeze.new.self c.install.new.self (g.S.Store.objects c.args.env.now.store.now) (g.S.Store.objects c.install.new.env.store.now) c.in_ok-freeze.ensures.quiet c.install.ensures.installed;
      refused = both_err c.install.result (λ same may. (c.freeze.new.self, inr c.in_ok-freeze.ensures.event, same, may)) c.install.ensures.same c.install.ensures.refused;
      frozen = frozen_at_fault c.install.result c.args.self.now c.freeze.new.self c.install.new.self c.in_ok-freeze.ensures.event c.install.ensures.same;
      full = λ h. absurd (omega (arith, c.in_ok-place_for_flush.ensures.place, h));
      unasked = λ h. absurd (asks_for_rows c.args.self.now c.freeze.new.self (NoPlaceToFlush c.args.self.now) c.in_ok-freeze.ensures.event (λ full. omega (arith, c.in_ok-place_for_flush.ensures.place, full))
          (some_frozen c.frozen.result.now c.frozen.result.now c.is_empty.result c.freeze.new.self.frozen c.is_empty.ensures c.if-is_empty.false refl (c.frozen.ensures ∙ ap (λ (v : CoreModel). v.frozen) c.self.view_is)) h);
      held = held_behind c.args.self.now.events c.freeze.new.self.events c.install.new.self.events (g.S.Store.objects c.args.env.now.store.now) (g.S.Store.objects c.install.new.env.store.now) (frozen_tables c.args.self.now c.freeze.new.self c.in_ok-freeze.ensures.event) c.install.ensures.held;
      told = tells_behind c.install.result c.args.self.now.events c.freeze.new.self.events c.install.new.self.events (g.S.Store.acts c.args.env.now.store.now) (g.S.Store.acts c.install.new.env.store.now) (frozen_tables c.args.self.now c.freeze.new.self c.in_ok-freeze.ensures.event) c.install.ensures.told;
      filtered = filters_either c.install.result layout before after c.args.self.now c.freeze.new.self c.install.new.self c.in_ok-freeze.ensures.event c.install.ensures.installed c.install.ensures.same;
      stay = stay_installed c.install.result before.meaning layout c.args.self.now c.freeze.new.self c.install.new.self before.objects after.objects c.in_ok-freeze.ensures.event c.install.ensures.installed c.install.ensures.same;
      vouched = vouched_flushed c.install.result c.args.self.now c.install.new.self steps same;
      runs = (λ k z.
          adds_runs c.install.result before.meaning layout c.args.self.now c.freeze.new.self c.install.new.self (g.S.Store.objects c.args.env.now.store.now) (g.S.Store.objects c.install.new.env.store.now) c.in_ok-freeze.ensures.event c.install.ensures.newest c.install.ensures.installed k.0 z);
      segmented = (λ h z.
          segmented_flushed c.install.result before.meaning layout c.freeze.new.self c.install.new.self (g.S.Store.objects c.args.env.now.store.now) (g.S.Store.objects c.install.new.env.store.now) c.install.ensures.installed c.install.ensures.same h
          (segmented_frozen h c.args.self.now c.freeze.new.self c.in_ok-freeze.ensures.event z));
      kept = λ k. c.install.ensures.kept (c.in_ok-freeze.ensures.kept _ k);
      settings = same;
      limit = λ h. absurd (omega (arith, c.in_ok-place_for_flush.ensures.place, h));
      kept_refused = kept_behind c.install.result c.args.self.now c.freeze.new.self c.install.new.self c.in_ok-freeze.ensures.kept c.install.ensures.kept_refused;
      wanted = λ none among. c.install.ensures.wanted none (among_frozen c.args.self.now c.freeze.new.self c.in_ok-freeze.ensures.event ∙ among);
      operable = λ k. cause_after c.install.result (IsFlushError layout before after c.args.self.now) (λ e. e ≡ errors.MergeOperatorMissing → ⊥) (λ e h. never_missing layout before after c.args.self.now e k h) cause;
      cause = cause;
      puts = c.install.ensures.puts;
      still = c.install.ensures.still;
    }
