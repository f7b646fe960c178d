use Rattle.std.proofs.Common.{◌≡◌, ℕ, inl, false, List, length, Ok, refl, sym, ap, subst, ◌∙◌, arith, map}
use Rattle.std.specs.Prelude.{IfSome, IsSome, Option}
use Rattle.std.proofs.lemmas.Result.{IfOk-from_err, err_from_is_err_and}
use Rattle.slate_mem.specs.KeyTests.{Segments}
use Rattle.slate_store.specs.Reach.{reach_of}
use Rattle.slate_types.specs.declared.bytes_range.BytesRange.{BytesRange}
use Rattle.slate_types.specs.Keys.{is_refused}
use Rattle.slate_txn.specs.Step.{reader}
use Rattle.slate_db.specs.Installs.{runs_of}
use Rattle.slate_db.specs.Meaning.{Meaning}
use Rattle.slate_db.specs.Model.{CoreModel}
use Rattle.slate_db.specs.Readable.{IsAnswered, IsReadable}
use Rattle.slate_language.specs.declared.reply.Answer.TheVariants as answers
use Rattle.slate_script.specs.Scanning.{BeginsWith, HandsOut, ScansAs}
use Rattle.slate_script.specs.Session.{SessionModel, Grows, NamesStand, StoresNothing, reader_id}
use Rattle.slate_script.proofs.SessionLeaves.{segmented_noted}
use Rattle.slate_script.proofs.SessionNames.{names_updated}
use Rattle.slate_script.proofs.SessionScans.{range_refused, scan_handed, scan_refused}
use Rattle.slate_script.proofs.Slips.{holds_as}
use Rattle.slate_script.proofs.Growth.{grows, takes_noted}
use Rattle.slate_script.proofs.session.Session.scan_range.Goals as goal
use Rattle.slate_script.proofs.MeaningOf.{meaning_of}

pub returns-in_default-clause-scans : goal.returns-in_default-clause-scans
returns-in_default-clause-scans g c = record {
  step = (λ is seg.
      let m = meaning_of g.M.MergeOperator.combine g.T.BlockTransformer.encoded g.T.BlockTransformer.decoded c.args.env.now.operator c.args.env.now.transformer in
      scan_refused m seg c.args.self.now c.args.name c.args.order c.args.range c.args.steps c.reader_id.result c.reader_id.ensures.reads c.in_default.is);
  checked = (λ os readable seg known began.
      let m = meaning_of g.M.MergeOperator.combine g.T.BlockTransformer.encoded g.T.BlockTransformer.decoded c.args.env.now.operator c.args.env.now.transformer in
      inl (scan_refused m seg c.args.self.now c.args.name c.args.order c.args.range c.args.steps c.reader_id.result c.reader_id.ensures.reads c.in_default.is));
}

pub returns-in_default-range-clause-scans : goal.returns-in_default-range-clause-scans
returns-in_default-range-clause-scans g c = record {
  step = (λ is seg.
      let m = meaning_of g.M.MergeOperator.combine g.T.BlockTransformer.encoded g.T.BlockTransformer.decoded c.args.env.now.operator c.args.env.now.transformer in
      range_refused m seg c.args.self.now c.args.name c.in-Some.id c.args.order c.args.range c.args.steps c.reader_id.result c.reader_id.ensures.reads c.reader_id.ensures.known c.in-Some.is c.in_default-range.is);
  checked = (λ os readable seg known began.
      let m = meaning_of g.M.MergeOperator.combine g.T.BlockTransformer.encoded g.T.BlockTransformer.decoded c.args.env.now.operator c.args.env.now.transformer in
      inl (range_refused m seg c.args.self.now c.args.name c.in-Some.id c.args.order c.args.range c.args.steps c.reader_id.result c.reader_id.ensures.reads c.reader_id.ensures.known c.in-Some.is c.in_default-range.is));
}

pub returns-in_err-rows-clause-scans : goal.returns-in_err-rows-clause-scans
returns-in_err-rows-clause-scans g c = record {
  step = (λ is seg s stands.
      IfOk-from_err c.from_residual.result _ c.from_residual.ensures.0);
  checked = (λ os readable seg known began.
      inl (λ s stands. IfOk-from_err c.from_residual.result _ c.from_residual.ensures.0));
}

pub scan_rows-scanned-requires-clause-open : goal.scan_rows-scanned-requires-clause-open
scan_rows-scanned-requires-clause-open g c = λ κs lives.
    let live : IfSome c.reader_id.result (λ id. IsSome (reader c.self.inside.core.state id)) = subst (λ (v : SessionModel). IfSome c.reader_id.result (λ id. IsSome (reader v.core.state id))) (sym c.self.view_is) c.reader_id.ensures.known in
    subst (λ (o : Option (List ℕ)). IfSome o (λ id. IsSome (reader c.self.inside.core.state id))) c.in-Some.is live

pub scan_rows-scanned-requires-clause-range : goal.scan_rows-scanned-requires-clause-range
scan_rows-scanned-requires-clause-range g c = λ κs lives. subst (λ (o : Option BytesRange). IfSome o (λ r. is_refused r.start r.end ≡ false)) c.in-Some-range.is c.requires.range

pub scan_rows-scanned-requires-clause-prefix : goal.scan_rows-scanned-requires-clause-prefix
scan_rows-scanned-requires-clause-prefix g c = λ κs lives. subst (λ (o : Option BytesRange). IfSome o (λ r. BeginsWith c.args.prefix r)) c.in-Some-range.is c.requires.prefix

pub invariant_of-self : goal.invariant_of-self
invariant_of-self g c =
    let noted = c.scan_rows-scanned.ensures.noted in (
      subst (λ (v : CoreModel). NamesStand c.self.inside.names.entries c.self.inside.snapshot_names.entries v.state.txns v.state.snapshots) (sym noted.1)
          (names_updated c.in-Some.id _ c.self.inside.names.entries c.self.inside.snapshot_names.entries c.self.inside.core.state.txns c.self.inside.core.state.snapshots c.self.invariant.0),
      c.self.invariant.1,
    )

pub invariant_of-self-2 : goal.invariant_of-self-2
invariant_of-self-2 g c =
    let noted = c.scan_rows-scanned.ensures.noted in (
      subst (λ (v : CoreModel). NamesStand c.self.inside.names.entries c.self.inside.snapshot_names.entries v.state.txns v.state.snapshots) (sym noted.1)
          (names_updated c.in-Some.id _ c.self.inside.names.entries c.self.inside.snapshot_names.entries c.self.inside.core.state.txns c.self.inside.core.state.snapshots c.self.invariant.0),
      c.self.invariant.1,
    )

pub returns-clause-scans : goal.returns-clause-scans
returns-clause-scans g c = record {
  step = (λ is seg.
      let policies = map (λ p. (goal.FilterPolicy-dyn g (p.vtable, p.value)).meaning p.value) c.args.laws.now.policies.items in
      let before : SessionModel = record { core = c.self.inside.core; names = c.self.inside.names.entries; snapshot_names = c.self.inside.snapshot_names.entries; now = c.self.inside.now } in
      let m = meaning_of g.M.MergeOperator.combine g.T.BlockTransformer.encoded g.T.BlockTransformer.decoded c.args.env.now.operator c.args.env.now.transformer in
      let old = reach_of g.S.Store g.M.MergeOperator g.T.BlockTransformer c.args.env.now in
      let new = reach_of g.S.Store g.M.MergeOperator g.T.BlockTransformer c.scan_rows-scanned.new.env in
      let fits = subst (λ (o : Option BytesRange). IfSome o (λ r. is_refused r.start r.end ≡ false)) c.in-Some-range.is c.requires.range in
      scan_handed m seg before c.args.self.now c.scan_rows-scanned.new.core c.args.name c.in-Some.id c.args.order c.args.range c.in-Some-range.range c.args.steps c.as_slice.result.now c.in_ok-rows.rows.items (answers.Rows c.in_ok-rows.rows) c.self.view_is c.self.invariant.0
      (ap (λ (v : SessionModel). reader_id v c.args.name) c.self.view_is ∙ sym c.reader_id.ensures.id ∙ c.in-Some.is) c.in-Some-range.is fits c.as_slice.ensures refl
      (c.in_ok-rows.ensures.scanned.answers seg (subst (λ (v : SessionModel). IsAnswered policies old new v.core) (sym c.self.view_is) is)));
  checked = (λ os readable seg.
      let policies = map (λ p. (goal.FilterPolicy-dyn g (p.vtable, p.value)).meaning p.value) c.args.laws.now.policies.items in
      let before : SessionModel = record { core = c.self.inside.core; names = c.self.inside.names.entries; snapshot_names = c.self.inside.snapshot_names.entries; now = c.self.inside.now } in
      let m = meaning_of g.M.MergeOperator.combine g.T.BlockTransformer.encoded g.T.BlockTransformer.decoded c.args.env.now.operator c.args.env.now.transformer in
      let old = reach_of g.S.Store g.M.MergeOperator g.T.BlockTransformer c.args.env.now in
      let new = reach_of g.S.Store g.M.MergeOperator g.T.BlockTransformer c.scan_rows-scanned.new.env in
      let fits = subst (λ (o : Option BytesRange). IfSome o (λ r. is_refused r.start r.end ≡ false)) c.in-Some-range.is c.requires.range in
      holds_as (HandsOut m seg before.core c.scan_rows-scanned.new.core c.in-Some.id c.args.order c.in-Some-range.range c.as_slice.result.now c.in_ok-rows.rows.items)
      (ScansAs m seg c.args.self.now (record before { core = c.scan_rows-scanned.new.core }) c.args.name c.args.order c.args.range c.args.steps (Ok (answers.Rows c.in_ok-rows.rows))) os old new
      (scan_handed m seg before c.args.self.now c.scan_rows-scanned.new.core c.args.name c.in-Some.id c.args.order c.args.range c.in-Some-range.range c.args.steps c.as_slice.result.now c.in_ok-rows.rows.items (answers.Rows c.in_ok-rows.rows) c.self.view_is c.self.invariant.0
      (ap (λ (v : SessionModel). reader_id v c.args.name) c.self.view_is ∙ sym c.reader_id.ensures.id ∙ c.in-Some.is) c.in-Some-range.is fits c.as_slice.ensures refl)
      (c.in_ok-rows.ensures.scanned.checked seg os (subst (λ (v : SessionModel). IsReadable policies m os v.core) (sym c.self.view_is) readable)));
}

pub returns-clause-grows : goal.returns-clause-grows
returns-clause-grows g c = λ line none.
    let before : SessionModel = record { core = c.self.inside.core; names = c.self.inside.names.entries; snapshot_names = c.self.inside.snapshot_names.entries; now = c.self.inside.now } in
    subst (λ (v : SessionModel). Grows line v (record before { core = c.scan_rows-scanned.new.core })) c.self.view_is
    (grows before c.scan_rows-scanned.new.core before.names before.snapshot_names before.now line 0 (omega arith)
    (takes_noted c.self.inside.core c.scan_rows-scanned.new.core c.in-Some.id _ c.in_ok-rows.ensures.scanned.notes))

pub returns-in_default-clause-stores : goal.returns-in_default-clause-stores
returns-in_default-clause-stores g c m seg = record { settings = refl; runs = refl; later = omega arith; kept = λ k. k; segmented = λ k. k }

pub returns-in_default-range-clause-stores : goal.returns-in_default-range-clause-stores
returns-in_default-range-clause-stores g c m seg = record { settings = refl; runs = refl; later = omega arith; kept = λ k. k; segmented = λ k. k }

pub returns-clause-stores : goal.returns-clause-stores
returns-clause-stores g c =
    let before : SessionModel = record { core = c.self.inside.core; names = c.self.inside.names.entries; snapshot_names = c.self.inside.snapshot_names.entries; now = c.self.inside.now } in
    let is = c.in_ok-rows.ensures.scanned.notes in
    let same : length c.scan_rows-scanned.new.core.events ≡ length c.self.inside.core.events = ap (λ (v : CoreModel). length v.events) is in
    subst (λ (v : SessionModel). (m : Meaning) (seg : Segments) → StoresNothing m seg v (record before { core = c.scan_rows-scanned.new.core })) c.self.view_is
    (λ m seg. record { settings = ap (λ (v : CoreModel). v.settings) is; runs = ap (λ (v : CoreModel). runs_of v.events) is; later = omega (arith, same); kept = c.in_ok-rows.ensures.scanned.kept m; segmented = segmented_noted c.self.inside.core c.scan_rows-scanned.new.core c.in-Some.id _ is seg })

pub returns-in_err-rows-clause-still : goal.returns-in_err-rows-clause-still
returns-in_err-rows-clause-still g c =
    let p = err_from_is_err_and c.from_residual.result c.from_residual.ensures.1 in
    rw (p.1, p.2) c.in_err-rows.ensures.still

pub returns-clause-still : goal.returns-clause-still
returns-clause-still g c = c.in_ok-rows.ensures.still
