use Rattle.std.proofs.Common.{length, ap, arith}
use Rattle.slate_block.specs.BlockWalks.{ReadsLeft}
use Rattle.slate_block.proofs.WalkLaws.{count_left, taken_upwards, taken_downwards}
use Rattle.slate_block.proofs.block_iterator.BlockIterator.skip.Goals as goal

pub overflow_sub-self : goal.overflow_sub-self
overflow_sub-self g c =
    let it = c.self.inside in
    let body = g.B.BlockLike.body_bytes it.block in
    let offsets = g.B.BlockLike.row_offsets it.block in
    let e = ap (λ (w : ReadsLeft). w.reads) c.self.view_is in
    let within = count_left it.order body it.first_key offsets (length body) it.start it.end c.args.count c.args.self.now.reads c.self.invariant.0 c.self.invariant.1 e c.requires in
    omega (arith, within)

pub invariant_of-self : goal.invariant_of-self
invariant_of-self g c =
    let it = c.self.inside in
    let body = g.B.BlockLike.body_bytes it.block in
    let offsets = g.B.BlockLike.row_offsets it.block in
    let e = ap (λ (w : ReadsLeft). w.reads) c.self.view_is in
    let within = count_left it.order body it.first_key offsets (length body) it.start it.end c.args.count c.args.self.now.reads c.self.invariant.0 c.self.invariant.1 e c.requires in
    (within, c.self.invariant.1)

pub invariant_of-self-in-Descending : goal.invariant_of-self-in-Descending
invariant_of-self-in-Descending g c =
    let it = c.self.inside in
    let body = g.B.BlockLike.body_bytes it.block in
    let offsets = g.B.BlockLike.row_offsets it.block in
    let e = ap (λ (w : ReadsLeft). w.reads) c.self.view_is in
    let within = count_left it.order body it.first_key offsets (length body) it.start it.end c.args.count c.args.self.now.reads c.self.invariant.0 c.self.invariant.1 e c.requires in
    (omega (arith, within), omega (arith, c.self.invariant.1))

pub returns-in-Ascending : goal.returns-in-Ascending
returns-in-Ascending g c =
    record {
      reads = (let it = c.self.inside in
          let body = g.B.BlockLike.body_bytes it.block in
          let offsets = g.B.BlockLike.row_offsets it.block in
          let e = ap (λ (w : ReadsLeft). w.reads) c.self.view_is in
          let within = count_left it.order body it.first_key offsets (length body) it.start it.end c.args.count c.args.self.now.reads c.self.invariant.0 c.self.invariant.1 e c.requires in
          taken_upwards it.order body it.first_key offsets (length body) it.start it.end c.args.count c.args.self.now.reads c.in-Ascending.is e within);
      order = ap (λ (w : ReadsLeft). w.order) c.self.view_is;
    }

pub returns-in-Descending : goal.returns-in-Descending
returns-in-Descending g c =
    record {
      reads = (let it = c.self.inside in
          let body = g.B.BlockLike.body_bytes it.block in
          let offsets = g.B.BlockLike.row_offsets it.block in
          let e = ap (λ (w : ReadsLeft). w.reads) c.self.view_is in
          let within = count_left it.order body it.first_key offsets (length body) it.start it.end c.args.count c.args.self.now.reads c.self.invariant.0 c.self.invariant.1 e c.requires in
          taken_downwards it.order body it.first_key offsets (length body) it.start it.end c.args.count c.args.self.now.reads c.in-Descending.is e within c.self.invariant.1);
      order = ap (λ (w : ReadsLeft). w.order) c.self.view_is;
    }
