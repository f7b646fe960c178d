use Rattle.std.proofs.Common.{◌≡◌, ◌++◌, [], List, map, refl, sym, ap, subst, ◌∙◌}
use Rattle.std.specs.Prelude.{Err}
use Rattle.std.proofs.lemmas.Result.{err_from_is_err_and}
use Rattle.slate_types.specs.declared.bytes_range.BytesRange.{BytesRange}
use Rattle.slate_store.specs.Reach.{reach_of}
use Rattle.slate_mem.specs.Lookup.{newest_first}
use Rattle.slate_mem.specs.Table.{MemTableModel, newest}
use Rattle.slate_db.specs.KeyShares.{Stands}
use Rattle.slate_db.specs.Model.{CoreModel, Rows}
use Rattle.slate_db.specs.RangeShares.{IsRangeShare}
use Rattle.slate_db.specs.SharedRuns.{tables_in}
use Rattle.slate_types.specs.Keys.{in_range}
use Rattle.std.proofs.Common.{true}
use Rattle.slate_db.proofs.RangeRows.{newest_has}
use Rattle.slate_db.proofs.UnderKeys.{seen_refused}
use Rattle.slate_db.proofs.UnderOwn.{memory_first}
use Rattle.slate_db.proofs.range_share.RangeShare.seen.Goals as goal
use Rattle.slate_db.proofs.range_share.RangeShare.seen.Given as given

pub returns-in_err-near : goal.returns-in_err-near
returns-in_err-near g c = λ v wide st inside.
    let p = err_from_is_err_and c.from_residual.result c.from_residual.ensures.1 in
    seen_refused (record { policies = map (λ p. (goal.FilterPolicy-dyn g (p.vtable, p.value)).meaning p.value) c.args.policies.now; query = c.args.query.now }) (reach_of g.S.Store g.M.MergeOperator g.T.BlockTransformer c.args.env.now) v c.args.key.now c.args.at []
    c.from_residual.result (p.1 ∙ ap (λ e. Err e) (p.2 ∙ c.in_err-near.ensures.cause))

stands : (g : given.Over) (c : goal.After-seen_behind g) (v : CoreModel) (wide : BytesRange) → IsRangeShare v wide c.args.at c.args.self.now → in_range wide c.args.key.now ≡ true → Stands v c.args.key.now c.args.at c.in_ok-near.near.items c.as_slice-runs.result.now
stands g c v wide st inside =
    let k = c.args.key.now in
    let n = c.args.at in
    let s = subst (IsRangeShare v wide n) (sym c.self.view_is) st in
    let active = c.self.inside.active.rows in
    record {
      unseen = s.unseen;
      whole = s.whole;
      tables = ap tables_in c.as_slice-runs.ensures ∙ s.tables;
      rows =
          c.in_ok-near.ensures.found
          ∙ ap (λ (ts : List MemTableModel). newest k n (active ++ newest_first (map (λ t. t.rows) ts))) c.as_slice-frozen.ensures.value
          ∙ ap (λ (ls : List Rows). newest k n (active ++ newest_first ls)) s.frozen_are
          ∙ newest_has wide n v.active active (newest_first v.frozen) k inside s.active_has
          ∙ ap (newest k n) (sym (memory_first v));
    }

pub returns : goal.returns
returns g c = λ v wide st inside.
    c.seen_behind.ensures v [] c.in_ok-near.near.items refl (stands g c v wide st inside) (record { operands = tt; own = tt; keys = tt; short = tt })
