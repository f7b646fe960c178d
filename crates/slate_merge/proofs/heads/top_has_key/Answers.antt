use Rattle.std.proofs.Common.{Some, refl}
use Rattle.std.specs.BinaryHeap.{heap_items}
use Rattle.slate_merge.proofs.SeekLaws.{top_found}
use Rattle.slate_merge.proofs.heads.top_has_key.Goals as goal

pub returns-in-Some : goal.returns-in-Some
returns-in-Some g c =
    (Some c.in-Some.head.now, top_found (heap_items c.args.heads.now) c.in-Some.head.now c.in-Some.ensures.item.3.0 c.in-Some.ensures.lookup c.in-Some.ensures.greatest, rw (c.eq.ensures, c.as_slice.ensures, c.as_row.ensures) refl)
