use Rattle.std.proofs.Common.{length, ap}
use Rattle.slate_types.specs.declared.error.SlateDBError.TheVariants.{OutOfMemory}
use Rattle.slate_block.specs.BlockWalks.{ReadsLeft}
use Rattle.slate_block.proofs.WalkLaws.{index_left, place_below, left_at, found_at, cause_at}
use Rattle.slate_block.proofs.block_iterator.BlockIterator.row.Goals as goal

pub place_in-place-requires : goal.place_in-place-requires
place_in-place-requires g c =
    let it = c.self.inside in
    let body = g.B.BlockLike.body_bytes it.block in
    index_left it.order body it.first_key (g.B.BlockLike.row_offsets it.block) (length body) it.start it.end c.args.index c.args.self.now.reads c.self.invariant.0 c.self.invariant.1
    (ap (λ (w : ReadsLeft). w.reads) c.self.view_is) c.requires

pub place_behind-upto-requires : goal.place_behind-upto-requires
place_behind-upto-requires g c =
    let it = c.self.inside in
    let body = g.B.BlockLike.body_bytes it.block in
    let offsets = g.B.BlockLike.row_offsets it.block in
    let within = index_left it.order body it.first_key offsets (length body) it.start it.end c.args.index c.args.self.now.reads c.self.invariant.0 c.self.invariant.1 (ap (λ (w : ReadsLeft). w.reads) c.self.view_is) c.requires in
    rw (c.place_in-place.ensures, c.offsets-offsets.ensures) (place_below it.order it.start it.end c.args.index (length offsets) within c.self.invariant.1)

pub bounds-offsets-place : goal.bounds-offsets-place
bounds-offsets-place g c =
    let it = c.self.inside in
    let body = g.B.BlockLike.body_bytes it.block in
    let offsets = g.B.BlockLike.row_offsets it.block in
    let within = index_left it.order body it.first_key offsets (length body) it.start it.end c.args.index c.args.self.now.reads c.self.invariant.0 c.self.invariant.1 (ap (λ (w : ReadsLeft). w.reads) c.self.view_is) c.requires in
    rw (c.place_in-place.ensures, c.offsets-offsets.ensures) (place_below it.order it.start it.end c.args.index (length offsets) within c.self.invariant.1)

pub returns : goal.returns
returns g c =
    let it = c.self.inside in
    let body = g.B.BlockLike.body_bytes it.block in
    let offsets = g.B.BlockLike.row_offsets it.block in
    let e = ap (λ (w : ReadsLeft). w.reads) c.self.view_is in
    let within = index_left it.order body it.first_key offsets (length body) it.start it.end c.args.index c.args.self.now.reads c.self.invariant.0 c.self.invariant.1 e c.requires in
    record {
      found = (let found = rw (c.place_behind-upto.ensures, c.place_in-place.ensures, c.body-body.ensures, c.offsets-offsets.ensures, c.as_slice.ensures) at c.row_upto.ensures.found in
          found_at c.args.self.now.reads c.args.index _ c.row_upto.result (left_at it.order body it.first_key offsets (length body) it.start it.end c.args.index c.args.self.now.reads within c.self.invariant.1 e) found);
      cause = (let cause = rw (c.place_behind-upto.ensures, c.place_in-place.ensures, c.body-body.ensures, c.offsets-offsets.ensures, c.as_slice.ensures) at c.row_upto.ensures.cause in
          cause_at c.args.self.now.reads c.args.index _ OutOfMemory c.row_upto.result (left_at it.order body it.first_key offsets (length body) it.start it.end c.args.index c.args.self.now.reads within c.self.invariant.1 e) cause);
      damage = c.row_upto.ensures.damage;
    }
