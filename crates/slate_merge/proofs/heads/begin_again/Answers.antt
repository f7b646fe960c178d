use Rattle.std.proofs.Common.{◌≡◌, ◌≤◌, ◌∙◌, ◌++◌, sym, subst, arith, None, [], List, refl}
use Rattle.std.specs.BinaryHeap.{heap_items}
use Rattle.std.proofs.lemmas.List.Sorted.{length_permutation}
use Rattle.slate_types.specs.declared.iter.IterationOrder.TheVariants.{Ascending}
use Rattle.slate_types.specs.declared.types.RowEntry.{RowEntry}
use Rattle.slate_types.proofs.Calls.{reads_at_none, reads_at_then}
use Rattle.slate_types.proofs.Moves.{Moves, moves_none, moves_both}
use Rattle.slate_types.proofs.Reaching.{reads_none, reads_then}
use Rattle.slate_merge.specs.declared.head.Head.{Head}
use Rattle.slate_merge.specs.Offers.{offers}
use Rattle.slate_merge.specs.Merging.{HasRow, begun_sources, merging_bound}
use Rattle.slate_merge.proofs.RenewLaws.{moved_out, renewed_bound, all_done}
use Rattle.slate_merge.proofs.Heaps.{AreOrdered, ordered_again, rows_again}
use Rattle.slate_merge.proofs.MergeBringings.{SourcesAdd, sources_both, sources_none}
use Rattle.slate_merge.proofs.MergeLoops.{heads_left, AreSoundHeads, heads_blame, renew_made, renew_moves, renew_ready, again_moves}
use Rattle.slate_merge.proofs.Goings.{then_fails, head_fails}
use Rattle.slate_merge.proofs.SourcesWithin.{within_out}
use Rattle.slate_merge.proofs.heads.begin_again.Goals as goal
use Rattle.std.proofs.lemmas.List.{nil_from_length}

pub heads-init : goal.heads-init
heads-init g c = rw c.new-done.ensures.items (record { moves = λ o. moves_none _ _ _ _ _; brought = sources_none (offers g.I.RowEntryIterator.begins g.I.RowEntryIterator.takes g.I.RowEntryIterator.seeks) g.I.RowEntryIterator.refuses (g.E.Outside.reach c.args.env.now) (begun_sources (heap_items c.args.heads.now)); heap = rw c.new-done.ensures.items at c.new-done.ensures.heap_order; ordered = λ o h. h; same_rows = λ r has. has; ready = tt; no_larger = omega arith; within = λ paths h. (reads_at_none paths _, (tt, tt), h); reads = reads_none _; counts = refl })

pub heads-preserved : goal.heads-preserved
heads-preserved g c =
    let inv = c.heads.invariant in
    let n = c.in-Ok.ensures in
    let x = c.in-Some.head in
    let s = n.renewed.0 in
    let renews = n.renewed.1 in
    let done = heap_items c.heads.done in
    let left = heap_items c.heads.heads in
    let others = heap_items c.pop.new.self in
    let new = heap_items c.begin_head.new.done in
    let out = c.in-Some.ensures.permutation in
    let within = n.renewed.2 in
    let y : Head g.row.I.Denot = record { row = x.row; behind = x.behind; order = x.order; source = s } in
    record {
      moves = λ o. moves_both (heads_left g.I.RowEntryIterator.rest g.I.RowEntryIterator.sound g.I.RowEntryIterator.refuses g.I.RowEntryIterator.bound g.I.RowEntryIterator.order o) (AreSoundHeads g.I.RowEntryIterator.rest g.I.RowEntryIterator.sound g.I.RowEntryIterator.refuses g.I.RowEntryIterator.bound g.I.RowEntryIterator.order o) (heads_blame g.I.RowEntryIterator.rest g.I.RowEntryIterator.sound g.I.RowEntryIterator.refuses g.I.RowEntryIterator.bound g.I.RowEntryIterator.order) (g.E.Outside.reach c.args.env.now) (g.E.Outside.reach c.heads.env) (g.E.Outside.reach c.begin_head.new.env) (heap_items c.args.heads.now) (done ++ left) (new ++ others) (inv.moves o) (renew_moves g.I.RowEntryIterator.rest g.I.RowEntryIterator.sound g.I.RowEntryIterator.refuses g.I.RowEntryIterator.bound g.I.RowEntryIterator.order g.I.RowEntryIterator.begins g.met.I.RowEntryIterator.more (g.E.Outside.reach c.heads.env) (g.E.Outside.reach c.begin_head.new.env) done left others new x s out within renews o);
      brought = sources_both (offers g.I.RowEntryIterator.begins g.I.RowEntryIterator.takes g.I.RowEntryIterator.seeks) g.I.RowEntryIterator.refuses (g.E.Outside.reach c.args.env.now) (g.E.Outside.reach c.heads.env) (g.E.Outside.reach c.begin_head.new.env) (begun_sources (heap_items c.args.heads.now)) (begun_sources (done ++ left)) (begun_sources (new ++ others)) inv.brought (renew_made g.I.RowEntryIterator.rest g.I.RowEntryIterator.sound g.I.RowEntryIterator.refuses g.I.RowEntryIterator.bound g.I.RowEntryIterator.order g.I.RowEntryIterator.begins g.met.I.RowEntryIterator.more (g.E.Outside.reach c.heads.env) (g.E.Outside.reach c.begin_head.new.env) done left others new x s out within renews g.I.RowEntryIterator.takes g.I.RowEntryIterator.seeks);
      heap = n.heap inv.heap;
      ordered = λ o h. ordered_again o done left others new x s out within (inv.ordered o h);
      same_rows = λ r has. inv.same_rows r (rows_again done left others new x s out within r has);
      ready = renew_ready g.I.RowEntryIterator.rest g.I.RowEntryIterator.sound g.I.RowEntryIterator.refuses g.I.RowEntryIterator.bound g.I.RowEntryIterator.order g.I.RowEntryIterator.begins (g.E.Outside.reach c.heads.env) (g.E.Outside.reach c.begin_head.new.env) done new x s (g.E.Outside.reach c.args.env.now).meaning within renews (inv.moves Ascending).made.1.meaning inv.ready;
      no_larger = (let less = renewed_bound g.I.RowEntryIterator.bound done left others new x y out within renews.no_larger [] in omega (arith, less, inv.no_larger));
      within = λ paths h. (let first = inv.within paths h in
          let gone = within_out g.I.RowEntryIterator.within paths left others x out first.2 in
          let last = n.within paths gone.0 first.1 in
          (reads_at_then paths (g.E.Outside.reach c.args.env.now) (g.E.Outside.reach c.heads.env) (g.E.Outside.reach c.begin_head.new.env) first.0 last.0, last.1, gone.1));
      reads = reads_then (g.E.Outside.reach c.args.env.now) (g.E.Outside.reach c.heads.env) (g.E.Outside.reach c.begin_head.new.env) inv.reads n.reads;
      counts = n.counts ∙ inv.counts;
    }

pub heads-smaller : goal.heads-smaller
heads-smaller g c = let long = length_permutation (heap_items c.heads.heads) _ c.in-Some.ensures.permutation in omega (arith, long)

pub returns-in-Err-clause-cause : goal.returns-in-Err-clause-cause
returns-in-Err-clause-cause g c =
    let inv = c.heads.invariant in
    let x = c.in-Some.head in
    let done = heap_items c.heads.done in
    let left = heap_items c.heads.heads in
    let others = heap_items c.pop.new.self in
    then_fails (heads_blame g.I.RowEntryIterator.rest g.I.RowEntryIterator.sound g.I.RowEntryIterator.refuses g.I.RowEntryIterator.bound g.I.RowEntryIterator.order (heap_items c.args.heads.now)) (heads_blame g.I.RowEntryIterator.rest g.I.RowEntryIterator.sound g.I.RowEntryIterator.refuses g.I.RowEntryIterator.bound g.I.RowEntryIterator.order (done ++ left)) (g.E.Outside.reach c.args.env.now) (g.E.Outside.reach c.heads.env) (g.E.Outside.reach c.begin_head.new.env) None c.in-Err.error inv.reads.later (inv.moves Ascending).made
    (head_fails g.I.RowEntryIterator.rest g.I.RowEntryIterator.sound g.I.RowEntryIterator.refuses g.I.RowEntryIterator.begins g.I.RowEntryIterator.takes g.I.RowEntryIterator.seeks g.I.RowEntryIterator.bound g.I.RowEntryIterator.order (g.E.Outside.reach c.heads.env) (g.E.Outside.reach c.begin_head.new.env) None c.in-Err.error [] (done ++ left) (done ++ others) x (moved_out done left others x c.in-Some.ensures.permutation) c.in-Err.ensures.cause)

pub returns-in-Err-clause-reads : goal.returns-in-Err-clause-reads
returns-in-Err-clause-reads g c = reads_then _ _ _ c.heads.invariant.reads c.in-Err.ensures.reads

pub returns-in-Err-clause-within : goal.returns-in-Err-clause-within
returns-in-Err-clause-within g c = λ paths h.
    let first = c.heads.invariant.within paths h in
    let out = within_out g.I.RowEntryIterator.within paths (heap_items c.heads.heads) (heap_items c.pop.new.self) c.in-Some.head c.in-Some.ensures.permutation first.2 in
    let last = c.in-Err.ensures.within paths out.0 first.1 in
    (reads_at_then paths _ _ _ first.0 last.0, tt)

pub returns-clause-within : goal.returns-clause-within
returns-clause-within g c = λ paths h.
    let first = c.heads.invariant.within paths h in
    (first.0, first.1)

pub returns-clause-moved : goal.returns-clause-moved
returns-clause-moved g c = λ order.
    let inv = c.heads.invariant in
    let done = heap_items c.heads.done in
    let left = heap_items c.heads.heads in
    let none : left ≡ [] = nil_from_length left (sym c.heads.heads.data.ok.0 ∙ c.in_default.ensures.none) in
    again_moves g.I.RowEntryIterator.rest g.I.RowEntryIterator.sound g.I.RowEntryIterator.refuses g.I.RowEntryIterator.bound g.I.RowEntryIterator.order order (g.E.Outside.reach c.args.env.now) (g.E.Outside.reach c.heads.env) (heap_items c.args.heads.now) done inv.heap
    (subst (λ (l : List (Head g.row.I.Denot)). Moves (heads_left g.I.RowEntryIterator.rest g.I.RowEntryIterator.sound g.I.RowEntryIterator.refuses g.I.RowEntryIterator.bound g.I.RowEntryIterator.order order) (AreSoundHeads g.I.RowEntryIterator.rest g.I.RowEntryIterator.sound g.I.RowEntryIterator.refuses g.I.RowEntryIterator.bound g.I.RowEntryIterator.order order) (heads_blame g.I.RowEntryIterator.rest g.I.RowEntryIterator.sound g.I.RowEntryIterator.refuses g.I.RowEntryIterator.bound g.I.RowEntryIterator.order) (g.E.Outside.reach c.args.env.now) (g.E.Outside.reach c.heads.env) (heap_items c.args.heads.now) l) (all_done done left none) (inv.moves order))

pub returns-clause-brought : goal.returns-clause-brought
returns-clause-brought g c =
    let done = heap_items c.heads.done in
    let left = heap_items c.heads.heads in
    let none : left ≡ [] = nil_from_length left (sym c.heads.heads.data.ok.0 ∙ c.in_default.ensures.none) in
    subst (λ (l : List (Head g.row.I.Denot)). SourcesAdd (offers g.I.RowEntryIterator.begins g.I.RowEntryIterator.takes g.I.RowEntryIterator.seeks) g.I.RowEntryIterator.refuses (g.E.Outside.reach c.args.env.now) (g.E.Outside.reach c.heads.env) (begun_sources (heap_items c.args.heads.now)) (begun_sources l)) (all_done done left none) c.heads.invariant.brought

pub returns-clause-no_larger : goal.returns-clause-no_larger
returns-clause-no_larger g c =
    let done = heap_items c.heads.done in
    let left = heap_items c.heads.heads in
    let none : left ≡ [] = nil_from_length left (sym c.heads.heads.data.ok.0 ∙ c.in_default.ensures.none) in
    subst (λ (l : List (Head g.row.I.Denot)). merging_bound g.I.RowEntryIterator.bound [] l ≤ merging_bound g.I.RowEntryIterator.bound [] (heap_items c.args.heads.now)) (all_done done left none) c.heads.invariant.no_larger

pub returns-clause-heaped : goal.returns-clause-heaped
returns-clause-heaped g c = λ order before.
    let inv = c.heads.invariant in
    let done = heap_items c.heads.done in
    let left = heap_items c.heads.heads in
    let none : left ≡ [] = nil_from_length left (sym c.heads.heads.data.ok.0 ∙ c.in_default.ensures.none) in
    record { heap = inv.heap; ordered = subst (λ (l : List (Head g.row.I.Denot)). AreOrdered order l) (all_done done left none) (inv.ordered order before.ordered) }

pub returns-clause-same_rows : goal.returns-clause-same_rows
returns-clause-same_rows g c =
    let done = heap_items c.heads.done in
    let left = heap_items c.heads.heads in
    let none : left ≡ [] = nil_from_length left (sym c.heads.heads.data.ok.0 ∙ c.in_default.ensures.none) in
    subst (λ (l : List (Head g.row.I.Denot)). (r : RowEntry) → HasRow l r → HasRow (heap_items c.args.heads.now) r) (all_done done left none) c.heads.invariant.same_rows
