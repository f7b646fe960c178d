use Rattle.std.proofs.Common.{rules, ◌≡◌, ◌∙◌, ◌∷◌, [], ℕ, map, refl, sym, ap, subst}
use Rattle.slate_types.specs.declared.bytes_range.BytesRange.{BytesRange}
use Rattle.slate_types.specs.declared.iter.IterationOrder.{IterationOrder}
use Rattle.slate_types.specs.declared.iter.IterationOrder.TheVariants.{Ascending}
use Rattle.slate_types.specs.Keys.{is_refused, prefix_range}
use Rattle.slate_txn.specs.declared.event.TranscriptStep.TheVariants as steps
use Rattle.slate_txn.specs.Step.{noted}
use Rattle.slate_db.specs.Model.{CoreModel}
use Rattle.slate_db.specs.Scans.{IsScanOf}
use Rattle.slate_db.proofs.OpenIds.{transaction_reads}
use Rattle.slate_store.specs.Reach.{reach_of}
use Rattle.slate_steps.proofs.Reading.{answered_within, as_ordered, as_reading, on_ok_map, opens_since, prefix_fits, scan_checked, scan_error, scan_named, scan_reading}
use Rattle.slate_steps.proofs.Taking.{within_noted}
use Rattle.slate_steps.proofs.scan.scan_prefix.Goals as goal

pub scan-requires-clause-open : goal.scan-requires-clause-open
scan-requires-clause-open g c κs lives = transaction_reads c.args.core.now c.args.id.now c.requires.open

pub returns-clause-within : goal.returns-clause-within
returns-clause-within g c = λ d level ts h.
    let upward : ◌≡◌ {A = IterationOrder} c.default.result.order Ascending = search rules in
    let whole : ◌≡◌ {A = BytesRange} c.in_ok-range.range (prefix_range c.args.prefix.now) = c.in_ok-range.ensures.range in
    on_ok_map c.scan.result _ _
    (λ is. within_noted d c.args.core.now c.scan.new.self c.args.id.now level ts (steps.Scan Ascending (prefix_range c.args.prefix.now)) refl
    (is ∙ (λ i. record c.args.core.now { state = noted c.args.core.now.state c.args.id.now (steps.Scan (upward i) (whole i) ∷ []) })) c.scan.ensures.notes.kept h) c.scan.ensures.notes.noted

pub returns-clause-named : goal.returns-clause-named
returns-clause-named g c = λ d level ts h.
    let upward : ◌≡◌ {A = IterationOrder} c.default.result.order Ascending = search rules in
    let whole : ◌≡◌ {A = BytesRange} c.in_ok-range.range (prefix_range c.args.prefix.now) = c.in_ok-range.ensures.range in
    scan_named c.scan.result d c.args.core.now c.args.id.now level ts Ascending (prefix_range c.args.prefix.now) h (λ from is. as_ordered c.scan.result c.args.id.now from.scans _ _ _ _ upward whole (c.scan.ensures.opens.names from is))

pub returns-clause-reading : goal.returns-clause-reading
returns-clause-reading g c = λ d level ts seg os h told settled.
    let upward : ◌≡◌ {A = IterationOrder} c.default.result.order Ascending = search rules in
    let whole : ◌≡◌ {A = BytesRange} c.in_ok-range.range (prefix_range c.args.prefix.now) = c.in_ok-range.ensures.range in
    let before = reach_of g.S.Store g.M.MergeOperator g.T.BlockTransformer c.args.env.now in
    let after = reach_of g.S.Store g.M.MergeOperator g.T.BlockTransformer c.scan.new.env in
    let policies = map (λ p. (goal.FilterPolicy-dyn g (p.vtable, p.value)).meaning p.value) c.args.laws.now.policies.items in
    as_reading c.scan.result os before.meaning d ts _ _ _ _ upward whole
    (scan_reading c.scan.result policies seg before after os d c.args.core.now c.args.id.now level ts c.default.result.order c.in_ok-range.range h c.scan.ensures.opens.names c.scan.ensures.opens.opened told settled)

pub returns-clause-checked : goal.returns-clause-checked
returns-clause-checked g c = λ d level ts seg h store.
    let upward : ◌≡◌ {A = IterationOrder} c.default.result.order Ascending = search rules in
    let whole : ◌≡◌ {A = BytesRange} c.in_ok-range.range (prefix_range c.args.prefix.now) = c.in_ok-range.ensures.range in
    let before = reach_of g.S.Store g.M.MergeOperator g.T.BlockTransformer c.args.env.now in
    let after = reach_of g.S.Store g.M.MergeOperator g.T.BlockTransformer c.scan.new.env in
    let policies = map (λ p. (goal.FilterPolicy-dyn g (p.vtable, p.value)).meaning p.value) c.args.laws.now.policies.items in
    as_reading c.scan.result store.os before.meaning d ts _ _ _ _ upward whole
    (scan_checked c.scan.result policies seg before after d c.args.core.now c.args.id.now level ts c.default.result.order c.in_ok-range.range h c.scan.ensures.opens.names c.scan.ensures.opens.opened c.scan.ensures.opens.checked store)

pub returns-clause-undamaged : goal.returns-clause-undamaged
returns-clause-undamaged g c = λ d level ts seg h settled.
    let whole : ◌≡◌ {A = BytesRange} c.in_ok-range.range (prefix_range c.args.prefix.now) = c.in_ok-range.ensures.range in
    let before = reach_of g.S.Store g.M.MergeOperator g.T.BlockTransformer c.args.env.now in
    let after = reach_of g.S.Store g.M.MergeOperator g.T.BlockTransformer c.scan.new.env in
    let policies = map (λ p. (goal.FilterPolicy-dyn g (p.vtable, p.value)).meaning p.value) c.args.laws.now.policies.items in
    c.scan.ensures.opens.undamaged (ap (λ (r : BytesRange). is_refused r.start r.end) whole ∙ prefix_fits c.args.prefix.now) (answered_within policies seg before after d c.args.core.now c.args.id.now level ts h settled)

pub returns-clause-since : goal.returns-clause-since
returns-clause-since g c =
    let before = reach_of g.S.Store g.M.MergeOperator g.T.BlockTransformer c.args.env.now in
    let after = reach_of g.S.Store g.M.MergeOperator g.T.BlockTransformer c.scan.new.env in
    let policies = map (λ p. (goal.FilterPolicy-dyn g (p.vtable, p.value)).meaning p.value) c.args.laws.now.policies.items in
    opens_since c.scan.result policies _ before after c.args.core.now c.scan.ensures.opens.later

pub returns-clause-cause : goal.returns-clause-cause
returns-clause-cause g c =
    let whole : ◌≡◌ {A = BytesRange} c.in_ok-range.range (prefix_range c.args.prefix.now) = c.in_ok-range.ensures.range in
    let before = reach_of g.S.Store g.M.MergeOperator g.T.BlockTransformer c.args.env.now in
    let after = reach_of g.S.Store g.M.MergeOperator g.T.BlockTransformer c.scan.new.env in
    let policies = map (λ p. (goal.FilterPolicy-dyn g (p.vtable, p.value)).meaning p.value) c.args.laws.now.policies.items in
    scan_error c.scan.result policies _ before after c.args.core.now (c.scan.ensures.opens.cause (ap (λ (r : BytesRange). is_refused r.start r.end) whole ∙ prefix_fits c.args.prefix.now))

pub returns-clause-open : goal.returns-clause-open
returns-clause-open g c = (c.scan.ensures.notes.stay c.args.id.now).transaction c.requires.open

pub returns-clause-counts : goal.returns-clause-counts
returns-clause-counts g c = c.scan.ensures.opens.still
