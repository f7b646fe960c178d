use Rattle.std.proofs.Common.{◌≡◌, List, map, sym, ap, subst}
use Rattle.slate_types.specs.declared.bytes_range.BytesRange.{BytesRange}
use Rattle.slate_mem.specs.Table.{MemTableModel}
use Rattle.slate_read.specs.declared.sorted_run.SortedRun.{SortedRun}
use Rattle.slate_db.specs.Model.{CoreModel}
use Rattle.slate_db.specs.RangeShares.{IsPart, IsRangeShare, StandsIn}
use Rattle.slate_db.proofs.RangeShares.{stands_part}
use Rattle.slate_db.proofs.range_share.RangeShare.opened.Goals as goal
use Rattle.slate_db.proofs.range_share.RangeShare.opened.Given as given

stands : (g : given.Over) (c : goal.After-opened_over g) (v : CoreModel) (wide : BytesRange) → IsRangeShare v wide c.args.at c.args.self.now → IsPart c.args.range wide →
    StandsIn v c.args.range c.args.at c.self.inside.active.rows (map (λ (t : MemTableModel). t.rows) c.as_slice-frozen.result.now) c.as_slice-runs.result.now
stands g c v wide st part =
    let active = c.self.inside.active.rows in
    stands_part v c.args.range wide c.args.at active (map (λ (t : MemTableModel). t.rows) c.as_slice-frozen.result.now) c.as_slice-runs.result.now part
    (subst (λ (ts : List MemTableModel). StandsIn v wide c.args.at active (map (λ (t : MemTableModel). t.rows) ts) c.as_slice-runs.result.now) (sym c.as_slice-frozen.ensures.value)
    (subst (λ (runs : List SortedRun). StandsIn v wide c.args.at active (map (λ (t : MemTableModel). t.rows) c.self.inside.frozen.items) runs) (sym c.as_slice-runs.ensures)
    (subst (IsRangeShare v wide c.args.at) (sym c.self.view_is) st)))

pub returns : goal.returns
returns g c = record {
  opened = λ v wide id from st part mine. c.opened_over.ensures.opened v id from (stands g c v wide st part) mine;
  range = c.opened_over.ensures.range;
  order = c.opened_over.ensures.order;
  reads = c.opened_over.ensures.reads;
  still = c.opened_over.ensures.still;
}
