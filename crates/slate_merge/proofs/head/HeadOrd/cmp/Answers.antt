use Rattle.slate_merge.proofs.HeadOrders.{compared_once}
use Rattle.slate_merge.proofs.head.HeadOrd.cmp.Goals as goal

pub returns : goal.returns
returns g c =
    rw (c.then-2.ensures, c.then.ensures, c.then-places.ensures, c.cmp-3.ensures, c.cmp.ensures, c.cmp-2.ensures, c.rank.ensures, c.rank-2.ensures, c.compare_in-keys.ensures, c.as_slice.ensures, c.as_slice-2.ensures, c.as_row-row.ensures, c.as_row-other_row.ensures)
    (compared_once c.args.self.now.order c.args.other.now.order c.args.self.now.row.key c.args.other.now.row.key _)
