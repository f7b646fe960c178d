use Rattle.std.proofs.Common.{ℕ, List, true, sym, ap, subst, ◌∙◌}
use Rattle.std.specs.BTreeMap.Range.{IsLeBy, IsLtBy, entries_between}
use Rattle.std.specs.Range.Bound.{IsForward}
use Rattle.std.specs.declared.ops.Bound.{Bound}
use Rattle.slate_types.specs.Keys.{key_cmp}
use Rattle.slate_txn.specs.Managers.{newest_kept}
use Rattle.slate_types.proofs.KeyBounds.{forward_bounds}
use Rattle.slate_txn.proofs.Ranges.{none_in, all_in}
use Rattle.slate_txn.proofs.transaction_manager.newest_in.Goals as goal

pub returns-then-leaves_none : goal.returns-then-leaves_none
returns-then-leaves_none c = sym (none_in c.args.range.now c.args.start c.args.kept.now.entries (sym c.leaves_none.ensures ∙ c.if-leaves_none.true))

pub range-requires : goal.range-requires
range-requires c =
    let s = sym c.as_ref.ensures in
    let t = sym c.as_ref-2.ensures in
    subst (λ (p : Bound (List ℕ) × Bound (List ℕ)). IsForward (IsLeBy key_cmp) (IsLtBy key_cmp) p.0 p.1) (λ i. (s i, t i))
    (forward_bounds c.args.range.now.start c.args.range.now.end (sym c.leaves_none.ensures ∙ c.if-leaves_none.false))

pub returns : goal.returns
returns c =
    let s = c.as_ref.ensures in
    let t = c.as_ref-2.ensures in
    c.newest_of.ensures
    ∙ ap (newest_kept (λ _. true) c.args.start) (c.range.ensures.between tt ∙ (λ i. entries_between key_cmp (s i) (t i) c.args.kept.now.entries))
    ∙ all_in c.args.range.now c.args.start c.args.kept.now.entries
