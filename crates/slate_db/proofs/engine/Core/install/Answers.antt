use Rattle.std.proofs.Common.{◌≡◌, ℕ, ◌+◌, ◌<◌, map, length, refl, ap, sym, subst, ◌∙◌, inl}
use Rattle.std.proofs.lemmas.Result.{err_from_is_err_and, IfOk-from_err}
use Rattle.slate_types.proofs.Reaching.{puts_none}
use Rattle.slate_mem.specs.Lookup.{is_merge_among, newest_first}
use Rattle.slate_store.specs.Reach.{reach_of}
use Rattle.slate_txn.specs.State.{last_of}
use Rattle.slate_txn.specs.Open.{least_start}
use Rattle.slate_db.specs.declared.engine.Core.TheInside.{Inside}
use Rattle.slate_db.specs.Flushed.{after_install, layout_of, AreSomeOfFlush, AreTablesOfFlush, CanFlush, MayFlush, MayTakeTables, IsFlushed, TooLarge, WantsOperator, stored}
use Rattle.slate_db.specs.Meaning.{segments_by}
use Rattle.slate_db.specs.Answered.{AddsTables}
use Rattle.slate_db.specs.Installs.{ArePlaced, runs_of, tables_of}
use Rattle.slate_db.specs.Layers.{AreLayers, LayersModel}
use Rattle.slate_db.specs.Log.{IsLog, LogModel, with_install}
use Rattle.slate_db.specs.Model.{CoreModel, IsSame, memory}
use Rattle.slate_db.specs.Sound.{IsKept}
use Rattle.slate_db.specs.View.{view_of, unseen_of, IsWholeInside}
use Rattle.slate_db.specs.Whole.{IsWhole}
use Rattle.slate_db.proofs.Adding.{adds_same}
use Rattle.slate_db.proofs.Installs.{kept_install, can_flush, tables_of_parts, moved}
use Rattle.slate_db.proofs.Built.{may_keep}
use Rattle.slate_db.proofs.Keeps.{kept_same}
use Rattle.slate_db.proofs.FlushLoads.{too_large_is}
use Rattle.slate_db.proofs.Flushes.{among_idle, other_causes, wants_idle}
use Rattle.slate_db.proofs.HeldOn.{held_flushed, held_refused, held_still, tells_flushed}
use Rattle.slate_db.proofs.Logs.{has_place}
use Rattle.slate_db.proofs.Puttings.{adds_installed}
use Rattle.slate_db.proofs.RunSoFar.{put_may}
use Rattle.slate_db.proofs.Runs.{are_placed}
use Rattle.slate_db.proofs.Calls.{installed_is, layers_installed_of, place_in, room_in_log}
use Rattle.slate_db.proofs.Wholes.{whole_install}
use Rattle.slate_types.proofs.StillLaws.{unasked_still}
use Rattle.slate_types.specs.Outside.{unblamed_by}
use Rattle.slate_db.proofs.engine.Core.install.Goals as goal

-- the barrier
abbrev start : CoreModel → ℕ
start c = least_start (last_of c.settings.start_seq c.state.commits) c.state

pub invariant_of-self-2 : goal.invariant_of-self-2
invariant_of-self-2 g c =
    subst IsWholeInside (installed_is c.self.inside c.reserve.new.self c.push_install.new.self c.install.new.self c.in_ok-put.put.0 c.in_ok-put.put.1.items c.barrier-barrier.result (least_start c.self.inside.log.last (view_of c.self.inside).state) c.reserve.ensures.value c.push_install.ensures.value c.in_ok-install.ensures.value (c.barrier-barrier.ensures ∙ sym (ap start c.self.view_is) ∙ ap (λ n. least_start n (view_of c.self.inside).state) (sym c.self.invariant.log.last)))
    (whole_install (view_of c.self.inside) (unseen_of c.self.inside) c.in_ok-put.put.0 c.in_ok-put.put.1.items c.push_install.new.self.spare c.install.new.self.for_freeze c.in_ok-put.ensures.stored.kept
    (subst IsLog (c.push_install.ensures.value ∙ ap (λ (l : LogModel). with_install l c.in_ok-put.put.0 c.push_install.new.self.spare) c.reserve.ensures.value) c.push_install.ensures.whole)
    (subst AreLayers (c.in_ok-install.ensures.value ∙ (let b = (c.barrier-barrier.ensures ∙ sym (ap start c.self.view_is) ∙ ap (λ n. least_start n (view_of c.self.inside).state) (sym c.self.invariant.log.last)) in ap (λ n. layers_installed_of c.self.inside.layers c.in_ok-put.put.1.items n c.install.new.self.for_freeze) b)) c.install.ensures.whole) c.self.invariant)

pub stored-requires-clause-valid : goal.stored-requires-clause-valid
stored-requires-clause-valid g c = λ κs lives. c.requires.valid

pub stored-requires-clause-names : goal.stored-requires-clause-names
stored-requires-clause-names g c = λ κs lives. c.requires.names

pub stored-requires-clause-ready : goal.stored-requires-clause-ready
stored-requires-clause-ready g c = λ κs lives.
    subst CanFlush (sym c.frozen.ensures)
    (can_flush (view_of c.self.inside) (unseen_of c.self.inside) c.self.invariant (subst (λ (v : CoreModel). 0 < length v.frozen) (sym c.self.view_is) c.requires.some))

pub push_install-requires : goal.push_install-requires
push_install-requires g c = record {
  place = has_place c.self.inside.log c.reserve.new.self c.reserve.ensures.value c.in_ok-reserve.ensures.room (place_in (view_of c.self.inside) c.args.self.now (unseen_of c.self.inside) 1 c.self.view_is c.self.invariant c.requires.place);
  tables = subst (λ (n : ℕ). ArePlaced n 0 c.in_ok-put.put.0) c.next_install-number.ensures (are_placed _ _ _ _ c.in_ok-put.ensures.stored.made.parts c.in_ok-put.put.0 c.in_ok-put.ensures.stored.made.built);
}

pub returns : goal.returns
returns g c =
    let becomes = installed_is c.self.inside c.reserve.new.self c.push_install.new.self c.install.new.self c.in_ok-put.put.0 c.in_ok-put.put.1.items c.barrier-barrier.result (least_start c.self.inside.log.last (view_of c.self.inside).state) c.reserve.ensures.value c.push_install.ensures.value c.in_ok-install.ensures.value (c.barrier-barrier.ensures ∙ sym (ap start c.self.view_is) ∙ ap (λ n. least_start n (view_of c.self.inside).state) (sym c.self.invariant.log.last)) in
    let log : c.push_install.new.self ≡ with_install c.self.inside.log c.in_ok-put.put.0 c.push_install.new.self.spare = c.push_install.ensures.value ∙ ap (λ (l : LogModel). with_install l c.in_ok-put.put.0 c.push_install.new.self.spare) c.reserve.ensures.value in
    let m = (reach_of g.S.Store g.M.MergeOperator g.T.BlockTransformer c.args.env.now).meaning in
    let made : AreTablesOfFlush m (layout_of c.args.laws.now.options (map (λ p. (goal.FilterPolicy-dyn g (p.vtable, p.value)).meaning p.value) c.args.laws.now.policies.items) (segments_by g.X.PrefixExtractor.lengths c.args.laws.now.segments)) (length (runs_of (view_of c.self.inside).events) + 1) (least_start c.self.inside.log.last (view_of c.self.inside).state) (view_of c.self.inside).frozen c.in_ok-put.put.0 =
    moved (λ n b layers. AreTablesOfFlush m (layout_of c.args.laws.now.options (map (λ p. (goal.FilterPolicy-dyn g (p.vtable, p.value)).meaning p.value) c.args.laws.now.policies.items) (segments_by g.X.PrefixExtractor.lengths c.args.laws.now.segments)) n b layers c.in_ok-put.put.0)
    c.next_install-number.result (length (runs_of (view_of c.self.inside).events) + 1) c.barrier-barrier.result (least_start c.self.inside.log.last (view_of c.self.inside).state) (map (λ t. t.rows) c.frozen.result.now) (view_of c.self.inside).frozen
    (c.next_install-number.ensures ∙ ap (λ (l : LogModel). l.installs + 1) c.reserve.ensures.value ∙ ap (λ n. n + 1) c.self.invariant.log.installs) (c.barrier-barrier.ensures ∙ sym (ap start c.self.view_is) ∙ ap (λ n. least_start n (view_of c.self.inside).state) (sym c.self.invariant.log.last)) c.frozen.ensures c.in_ok-put.ensures.stored.made in
    let installed : IsFlushed m (layout_of c.args.laws.now.options (map (λ p. (goal.FilterPolicy-dyn g (p.vtable, p.value)).meaning p.value) c.args.laws.now.policies.items) (segments_by g.X.PrefixExtractor.lengths c.args.laws.now.segments)) c.args.self.now (view_of (record c.self.inside { log = c.push_install.new.self; layers = c.install.new.self })) c.last.result (g.S.Store.objects c.args.env.now.store.now) (g.S.Store.objects c.stored.new.env.store.now) =
    (
    subst (λ (n : ℕ). IsFlushed m (layout_of c.args.laws.now.options (map (λ p. (goal.FilterPolicy-dyn g (p.vtable, p.value)).meaning p.value) c.args.laws.now.policies.items) (segments_by g.X.PrefixExtractor.lengths c.args.laws.now.segments)) c.args.self.now (view_of (record c.self.inside { log = c.push_install.new.self; layers = c.install.new.self })) n (g.S.Store.objects c.args.env.now.store.now) (g.S.Store.objects c.stored.new.env.store.now)) (sym (c.last.ensures ∙ ap (λ (l : LogModel). l.last) log))
    (stored c.in_ok-put.put.0
    (sym (ap view_of becomes) ∙ ap (λ (v : CoreModel). after_install v c.self.inside.log.last c.in_ok-put.put.0 c.push_install.new.self.spare) c.self.view_is)
    (subst (λ (v : CoreModel). AreTablesOfFlush m (layout_of c.args.laws.now.options (map (λ p. (goal.FilterPolicy-dyn g (p.vtable, p.value)).meaning p.value) c.args.laws.now.policies.items) (segments_by g.X.PrefixExtractor.lengths c.args.laws.now.segments)) (length (runs_of v.events) + 1) (least_start c.self.inside.log.last v.state) v.frozen c.in_ok-put.put.0) c.self.view_is made)
    c.in_ok-put.ensures.stored.taken)) in
    let acts : AddsTables (tables_of c.args.self.now.events) (tables_of c.push_install.new.self.events) (g.S.Store.acts c.args.env.now.store.now) (g.S.Store.acts c.stored.new.env.store.now) =
    (subst (λ (v : CoreModel). AddsTables (tables_of v.events) (tables_of c.push_install.new.self.events) (g.S.Store.acts c.args.env.now.store.now) (g.S.Store.acts c.stored.new.env.store.now)) c.self.view_is
    (adds_installed c.self.inside.log.events c.push_install.new.self.events c.self.inside.log.last c.in_ok-put.put.0 (g.S.Store.acts c.args.env.now.store.now) (g.S.Store.acts c.stored.new.env.store.now)
    (ap (λ (l : LogModel). l.events) log) c.in_ok-put.ensures.acts)) in
    record {
      newest = c.last.ensures ∙ ap (λ (l : LogModel). l.last) log ∙ c.self.invariant.log.last ∙ ap (λ (v : CoreModel). last_of v.settings.start_seq v.state.commits) c.self.view_is;
      installed = installed;
      acts = acts;
      held = held_flushed m (layout_of c.args.laws.now.options (map (λ p. (goal.FilterPolicy-dyn g (p.vtable, p.value)).meaning p.value) c.args.laws.now.policies.items) (segments_by g.X.PrefixExtractor.lengths c.args.laws.now.segments)) c.args.self.now (view_of (record c.self.inside { log = c.push_install.new.self; layers = c.install.new.self })) (unseen_of c.self.inside) c.last.result _ _ (subst (λ (v : CoreModel). IsWhole v (unseen_of c.self.inside)) c.self.view_is c.self.invariant) installed;
      told = tells_flushed m (layout_of c.args.laws.now.options (map (λ p. (goal.FilterPolicy-dyn g (p.vtable, p.value)).meaning p.value) c.args.laws.now.policies.items) (segments_by g.X.PrefixExtractor.lengths c.args.laws.now.segments)) c.args.self.now (view_of (record c.self.inside { log = c.push_install.new.self; layers = c.install.new.self })) (unseen_of c.self.inside) c.last.result _ _ _ _ (subst (λ (v : CoreModel). IsWhole v (unseen_of c.self.inside)) c.self.view_is c.self.invariant) installed acts;
      adds = c.stored.ensures.adds;
      same = tt;
      refused = tt;
      kept = (λ k.
          subst (λ (s : Inside). IsKept m (view_of s)) becomes
          (kept_install m (view_of c.self.inside) (unseen_of c.self.inside) c.in_ok-put.put.0 c.push_install.new.self.spare (segments_by g.X.PrefixExtractor.lengths c.args.laws.now.segments) c.args.laws.now.options.table_bytes made.rows made.parts c.self.invariant
          (ap (λ (v : CoreModel). v.active) c.self.view_is ∙ c.requires.idle)
          (tables_of_parts m m.encode _ _ _ made.parts c.in_ok-put.put.0 refl made.built)
          made.order
          made.cut
          made.folded
          (subst (λ (v : CoreModel). IsKept m v) (sym c.self.view_is) k)));
      kept_refused = tt;
      wanted = λ none among. absurd (c.in_ok-put.ensures.wanted none (sym (among_idle (view_of c.self.inside) (map (λ t. t.rows) c.frozen.result.now) (ap (λ (v : CoreModel). v.active) c.self.view_is ∙ c.requires.idle) c.frozen.ensures) ∙ ap (λ (v : CoreModel). is_merge_among (newest_first (memory v))) c.self.view_is ∙ among));
      cause = tt;
      puts = c.stored.ensures.puts;
      still = c.in_ok-put.ensures.still;
    }

-- room was made, and nothing else

same_room : (s : Inside) (l : LogModel) → l ≡ record s.log { spare = l.spare } → IsSame (view_of s) (view_of (record s { log = l }))
same_room s l room = ap (λ (x : LogModel). view_of (record s { log = x })) room

same_layers : (s : Inside) (l : LogModel) (y : LayersModel) → l ≡ record s.log { spare = l.spare } → y ≡ s.layers → IsSame (view_of s) (view_of (record s { log = l; layers = y }))
same_layers s l y room layers = λ i. view_of (record s { log = room i; layers = layers i })

pub invariant_of-self : goal.invariant_of-self
invariant_of-self g c = room_in_log c.self.inside c.reserve.new.self c.reserve.ensures.value c.reserve.ensures.whole c.self.invariant

pub invariant_of-self-in_err-put : goal.invariant_of-self-in_err-put
invariant_of-self-in_err-put g c = room_in_log c.self.inside c.reserve.new.self c.reserve.ensures.value c.reserve.ensures.whole c.self.invariant

pub invariant_of-self-in_err-install : goal.invariant_of-self-in_err-install
invariant_of-self-in_err-install g c =
    subst (λ (y : LayersModel). IsWholeInside (record c.self.inside { log = c.reserve.new.self; layers = y })) (sym c.in_err-install.ensures.same)
    (room_in_log c.self.inside c.reserve.new.self c.reserve.ensures.value c.reserve.ensures.whole c.self.invariant)

pub returns-in_err-put : goal.returns-in_err-put
returns-in_err-put g c =
    let p = err_from_is_err_and c.from_residual-in_err-put.result c.from_residual-in_err-put.ensures.1 in
    let m = (reach_of g.S.Store g.M.MergeOperator g.T.BlockTransformer c.args.env.now).meaning in
    let same = (subst (λ (v : CoreModel). IsSame v (view_of (record c.self.inside { log = c.reserve.new.self }))) c.self.view_is (same_room c.self.inside c.reserve.new.self c.reserve.ensures.value)) in
    let may = (let enc = (reach_of g.S.Store g.M.MergeOperator g.T.BlockTransformer c.args.env.now).meaning in
    let barrier = c.barrier-barrier.ensures ∙ sym (ap start c.self.view_is) in
    (subst (λ (v : CoreModel). MayFlush enc (layout_of c.args.laws.now.options (map (λ p. (goal.FilterPolicy-dyn g (p.vtable, p.value)).meaning p.value) c.args.laws.now.policies.items) (segments_by g.X.PrefixExtractor.lengths c.args.laws.now.segments)) v (g.S.Store.objects c.args.env.now.store.now) (g.S.Store.objects c.stored.new.env.store.now)) c.self.view_is
    (moved (λ n b layers. MayTakeTables (AreSomeOfFlush enc (layout_of c.args.laws.now.options (map (λ p. (goal.FilterPolicy-dyn g (p.vtable, p.value)).meaning p.value) c.args.laws.now.policies.items) (segments_by g.X.PrefixExtractor.lengths c.args.laws.now.segments)) n b layers) (g.S.Store.objects c.args.env.now.store.now) (g.S.Store.objects c.stored.new.env.store.now))
    c.next_install-number.result (length (runs_of (view_of c.self.inside).events) + 1) c.barrier-barrier.result (start (view_of c.self.inside)) (map (λ t. t.rows) c.frozen.result.now) (view_of c.self.inside).frozen
    (c.next_install-number.ensures ∙ ap (λ (l : LogModel). l.installs + 1) c.reserve.ensures.value ∙ ap (λ n. n + 1) c.self.invariant.log.installs) barrier c.frozen.ensures c.in_err-put.ensures.refused))) in
    record {
      newest = IfOk-from_err c.from_residual-in_err-put.result _ c.from_residual-in_err-put.ensures.0;
      installed = IfOk-from_err c.from_residual-in_err-put.result _ c.from_residual-in_err-put.ensures.0;
      acts = IfOk-from_err c.from_residual-in_err-put.result _ c.from_residual-in_err-put.ensures.0;
      adds = c.stored.ensures.adds;
      same = rw p.1 same;
      refused = rw p.1 may;
      held = held_refused m (layout_of c.args.laws.now.options (map (λ p. (goal.FilterPolicy-dyn g (p.vtable, p.value)).meaning p.value) c.args.laws.now.policies.items) (segments_by g.X.PrefixExtractor.lengths c.args.laws.now.segments)) c.args.self.now (view_of (record c.self.inside { log = c.reserve.new.self })) (unseen_of c.self.inside) _ _ (subst (λ (v : CoreModel). IsWhole v (unseen_of c.self.inside)) c.self.view_is c.self.invariant) same may;
      told = IfOk-from_err c.from_residual-in_err-put.result _ c.from_residual-in_err-put.ensures.0;
      kept = (λ k.
          kept_same m (view_of c.self.inside) (view_of (record c.self.inside { log = c.reserve.new.self })) (same_room c.self.inside c.reserve.new.self c.reserve.ensures.value) (subst (λ (v : CoreModel). IsKept m v) (sym c.self.view_is) k));
      kept_refused = rw p.1 (λ m k. kept_same m (view_of c.self.inside) (view_of (record c.self.inside { log = c.reserve.new.self })) (same_room c.self.inside c.reserve.new.self c.reserve.ensures.value) (subst (λ (v : CoreModel). IsKept m v) (sym c.self.view_is) k));
      wanted = λ none among. IfOk-from_err c.from_residual-in_err-put.result _ c.from_residual-in_err-put.ensures.0;
      cause = (let layout = layout_of c.args.laws.now.options (map (λ p. (goal.FilterPolicy-dyn g (p.vtable, p.value)).meaning p.value) c.args.laws.now.policies.items) (segments_by g.X.PrefixExtractor.lengths c.args.laws.now.segments) in
          let barrier = c.barrier-barrier.ensures ∙ sym (ap start c.self.view_is) in
          let idle = ap (λ (v : CoreModel). v.active) c.self.view_is ∙ c.requires.idle in
          let frozen = c.frozen.ensures in
          rw (p.1, p.2)
          (other_causes
          (λ large. subst (λ (v : CoreModel). TooLarge m layout v c.in_err-put.field-0.0) c.self.view_is
          (too_large_is m layout (view_of c.self.inside) c.barrier-barrier.result (map (λ t. t.rows) c.frozen.result.now) large.0 c.in_err-put.field-0.0 idle barrier frozen large.1 large.2 large.3))
          (λ wants. subst (λ (v : CoreModel). WantsOperator m (memory v) c.in_err-put.field-0.0) c.self.view_is
          (wants_idle m (view_of c.self.inside) (map (λ t. t.rows) c.frozen.result.now) c.in_err-put.field-0.0 idle frozen wants))
          c.in_err-put.ensures.cause));
      puts = c.stored.ensures.puts;
      still = rw (p.1, p.2) c.in_err-put.ensures.still;
    }

pub returns-in_err-install : goal.returns-in_err-install
returns-in_err-install g c =
    let p = err_from_is_err_and c.from_residual-in_err-install.result c.from_residual-in_err-install.ensures.1 in
    let m = (reach_of g.S.Store g.M.MergeOperator g.T.BlockTransformer c.args.env.now).meaning in
    let same = (subst (λ (v : CoreModel). IsSame v (view_of (record c.self.inside { log = c.reserve.new.self; layers = c.install.new.self }))) c.self.view_is (same_layers c.self.inside c.reserve.new.self c.install.new.self c.reserve.ensures.value c.in_err-install.ensures.same)) in
    let may = (let enc = (reach_of g.S.Store g.M.MergeOperator g.T.BlockTransformer c.args.env.now).meaning in
    let barrier = c.barrier-barrier.ensures ∙ sym (ap start c.self.view_is) in
    (subst (λ (v : CoreModel). MayFlush enc (layout_of c.args.laws.now.options (map (λ p. (goal.FilterPolicy-dyn g (p.vtable, p.value)).meaning p.value) c.args.laws.now.policies.items) (segments_by g.X.PrefixExtractor.lengths c.args.laws.now.segments)) v (g.S.Store.objects c.args.env.now.store.now) (g.S.Store.objects c.stored.new.env.store.now)) c.self.view_is
    (moved (λ n b layers. MayTakeTables (AreSomeOfFlush enc (layout_of c.args.laws.now.options (map (λ p. (goal.FilterPolicy-dyn g (p.vtable, p.value)).meaning p.value) c.args.laws.now.policies.items) (segments_by g.X.PrefixExtractor.lengths c.args.laws.now.segments)) n b layers) (g.S.Store.objects c.args.env.now.store.now) (g.S.Store.objects c.stored.new.env.store.now))
    c.next_install-number.result (length (runs_of (view_of c.self.inside).events) + 1) c.barrier-barrier.result (start (view_of c.self.inside)) (map (λ t. t.rows) c.frozen.result.now) (view_of c.self.inside).frozen
    (c.next_install-number.ensures ∙ ap (λ (l : LogModel). l.installs + 1) c.reserve.ensures.value ∙ ap (λ n. n + 1) c.self.invariant.log.installs) barrier c.frozen.ensures (put_may _ _ _ _ _ c.in_ok-put.put.0 c.in_ok-put.put.1.items _ _ c.in_ok-put.ensures.stored)))) in
    record {
      newest = IfOk-from_err c.from_residual-in_err-install.result _ c.from_residual-in_err-install.ensures.0;
      installed = IfOk-from_err c.from_residual-in_err-install.result _ c.from_residual-in_err-install.ensures.0;
      acts = IfOk-from_err c.from_residual-in_err-install.result _ c.from_residual-in_err-install.ensures.0;
      adds = c.stored.ensures.adds;
      same = rw p.1 same;
      refused = rw p.1 may;
      held = held_refused m (layout_of c.args.laws.now.options (map (λ p. (goal.FilterPolicy-dyn g (p.vtable, p.value)).meaning p.value) c.args.laws.now.policies.items) (segments_by g.X.PrefixExtractor.lengths c.args.laws.now.segments)) c.args.self.now (view_of (record c.self.inside { log = c.reserve.new.self; layers = c.install.new.self })) (unseen_of c.self.inside) _ _ (subst (λ (v : CoreModel). IsWhole v (unseen_of c.self.inside)) c.self.view_is c.self.invariant) same may;
      told = IfOk-from_err c.from_residual-in_err-install.result _ c.from_residual-in_err-install.ensures.0;
      kept = (λ k.
          kept_same m (view_of c.self.inside) (view_of (record c.self.inside { log = c.reserve.new.self; layers = c.install.new.self })) (same_layers c.self.inside c.reserve.new.self c.install.new.self c.reserve.ensures.value c.in_err-install.ensures.same) (subst (λ (v : CoreModel). IsKept m v) (sym c.self.view_is) k));
      kept_refused = rw p.1 (λ m k. kept_same m (view_of c.self.inside) (view_of (record c.self.inside { log = c.reserve.new.self; layers = c.install.new.self })) (same_layers c.self.inside c.reserve.new.self c.install.new.self c.reserve.ensures.value c.in_err-install.ensures.same) (subst (λ (v : CoreModel). IsKept m v) (sym c.self.view_is) k));
      wanted = λ none among. IfOk-from_err c.from_residual-in_err-install.result _ c.from_residual-in_err-install.ensures.0;
      cause = rw (p.1, p.2) (inl tt);
      puts = c.stored.ensures.puts;
      still = ap (unblamed_by c.from_residual-in_err-install.result) c.in_ok-put.ensures.still;
    }

pub returns-in_err-reserve : goal.returns-in_err-reserve
returns-in_err-reserve g c =
    let p = err_from_is_err_and c.from_residual.result c.from_residual.ensures.1 in
    let m = (reach_of g.S.Store g.M.MergeOperator g.T.BlockTransformer c.args.env.now).meaning in
    record {
      newest = IfOk-from_err c.from_residual.result _ c.from_residual.ensures.0;
      installed = IfOk-from_err c.from_residual.result _ c.from_residual.ensures.0;
      acts = IfOk-from_err c.from_residual.result _ c.from_residual.ensures.0;
      adds = adds_same _ _ refl;
      same = rw p.1 (subst (λ (v : CoreModel). IsSame v (view_of (record c.self.inside { log = c.reserve.new.self }))) c.self.view_is (same_room c.self.inside c.reserve.new.self c.reserve.ensures.value));
      held = held_still c.args.self.now.events _ _ _ (ap (λ (l : LogModel). tables_of l.events) c.reserve.ensures.value ∙ ap (λ (v : CoreModel). tables_of v.events) c.self.view_is) refl;
      told = IfOk-from_err c.from_residual.result _ c.from_residual.ensures.0;
      refused = rw p.1 (may_keep _ _ _ refl);
      kept = (λ k.
          kept_same m (view_of c.self.inside) (view_of (record c.self.inside { log = c.reserve.new.self })) (same_room c.self.inside c.reserve.new.self c.reserve.ensures.value) (subst (λ (v : CoreModel). IsKept m v) (sym c.self.view_is) k));
      kept_refused = rw p.1 (λ m k. kept_same m (view_of c.self.inside) (view_of (record c.self.inside { log = c.reserve.new.self })) (same_room c.self.inside c.reserve.new.self c.reserve.ensures.value) (subst (λ (v : CoreModel). IsKept m v) (sym c.self.view_is) k));
      wanted = λ none among. IfOk-from_err c.from_residual.result _ c.from_residual.ensures.0;
      cause = rw (p.1, p.2) (inl tt);
      puts = puts_none _;
      still = unasked_still _ c.from_residual.result;
    }
