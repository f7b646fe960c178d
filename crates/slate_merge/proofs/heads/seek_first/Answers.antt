use Rattle.std.proofs.Common.{◌≡◌, ◌∙◌, sym, arith, None, Some, []}
use Rattle.std.specs.BinaryHeap.{heap_items}
use Rattle.slate_types.proofs.Calls.{reads_at_none, reads_at_then}
use Rattle.slate_merge.proofs.SeekLaws.{top_before, popped_before}
use Rattle.slate_merge.proofs.Goings.{then_fails, head_fails, next_fails, seek_made, seek_moves, first_smaller}
use Rattle.slate_merge.specs.MergeSteps.{Goes}
use Rattle.slate_merge.proofs.Heaps.{heaped_on}
use Rattle.slate_merge.proofs.SourcesWithin.{within_out}
use Rattle.slate_merge.proofs.heads.seek_first.Goals as goal

pub returns-then-not-top_is_before-clause-done : goal.returns-then-not-top_is_before-clause-done
returns-then-not-top_is_before-clause-done g c = λ order w m _.
    let top = c.top_is_before.ensures in
    sym (top_before (λ s. g.I.RowEntryIterator.rest s w) (λ s. g.I.RowEntryIterator.sound s w × (g.I.RowEntryIterator.order s ≡ order)) order c.args.key.now (heap_items c.args.heads.now) top.0 m top.1) ∙ sym top.2 ∙ c.if-not-top_is_before.true

pub returns-in-Ok-put_next-clause-moved : goal.returns-in-Ok-put_next-clause-moved
returns-in-Ok-put_next-clause-moved g c =
    let n = c.in-Ok.ensures in
    let j = c.in-Ok-put_next.ensures in
    let top = c.top_is_before.ensures in
    seek_moves g.I.RowEntryIterator.rest g.I.RowEntryIterator.sound g.I.RowEntryIterator.refuses g.I.RowEntryIterator.begins g.I.RowEntryIterator.takes g.I.RowEntryIterator.seeks g.I.RowEntryIterator.bound g.I.RowEntryIterator.order g.met.I.RowEntryIterator.more c.args.key.now (g.E.Outside.reach c.args.env.now) (g.E.Outside.reach c.seek.new.env) (g.E.Outside.reach c.put_next.new.env) (heap_items c.args.heads.now) (heap_items c.pop.new.self) (heap_items c.put_next.new.heads) c.in-Some.head c.seek.new.self c.in-Some.ensures.permutation (λ h. (c.in-Some.ensures.heap_order h).0) j.heap
    n.rows n.still n.checked n.order n.sought j.joins
    (λ o w m. popped_before (λ s. g.I.RowEntryIterator.rest s w) (λ s. g.I.RowEntryIterator.sound s w × (g.I.RowEntryIterator.order s ≡ o)) o c.args.key.now (heap_items c.args.heads.now) c.in-Some.head top.0 m top.1 (sym top.2 ∙ c.if-not-top_is_before.false) c.in-Some.ensures.top)

pub returns-in-Ok-put_next-clause-brought : goal.returns-in-Ok-put_next-clause-brought
returns-in-Ok-put_next-clause-brought g c =
    seek_made g.I.RowEntryIterator.rest g.I.RowEntryIterator.sound g.I.RowEntryIterator.refuses g.I.RowEntryIterator.begins g.I.RowEntryIterator.takes g.I.RowEntryIterator.seeks g.I.RowEntryIterator.bound g.I.RowEntryIterator.order g.met.I.RowEntryIterator.more c.args.key.now (g.E.Outside.reach c.args.env.now) (g.E.Outside.reach c.seek.new.env) (g.E.Outside.reach c.put_next.new.env) (heap_items c.args.heads.now) (heap_items c.pop.new.self) (heap_items c.put_next.new.heads) c.in-Some.head c.seek.new.self c.in-Some.ensures.permutation c.in-Ok.ensures.sought c.in-Ok-put_next.ensures.joins

pub returns-in-Ok-put_next-clause-smaller : goal.returns-in-Ok-put_next-clause-smaller
returns-in-Ok-put_next-clause-smaller g c = λ _.
    first_smaller g.I.RowEntryIterator.rest g.I.RowEntryIterator.sound g.I.RowEntryIterator.refuses g.I.RowEntryIterator.begins g.I.RowEntryIterator.takes g.I.RowEntryIterator.seeks g.I.RowEntryIterator.bound g.I.RowEntryIterator.order g.met.I.RowEntryIterator.more (g.E.Outside.reach c.seek.new.env) (g.E.Outside.reach c.put_next.new.env) (heap_items c.args.heads.now) (heap_items c.pop.new.self) (heap_items c.put_next.new.heads) c.in-Some.head c.seek.new.self c.in-Some.ensures.permutation c.in-Ok.ensures.no_larger c.in-Ok-put_next.ensures.joins

pub returns-in-Ok-put_next-clause-no_larger : goal.returns-in-Ok-put_next-clause-no_larger
returns-in-Ok-put_next-clause-no_larger g c =
    let less = first_smaller g.I.RowEntryIterator.rest g.I.RowEntryIterator.sound g.I.RowEntryIterator.refuses g.I.RowEntryIterator.begins g.I.RowEntryIterator.takes g.I.RowEntryIterator.seeks g.I.RowEntryIterator.bound g.I.RowEntryIterator.order g.met.I.RowEntryIterator.more (g.E.Outside.reach c.seek.new.env) (g.E.Outside.reach c.put_next.new.env) (heap_items c.args.heads.now) (heap_items c.pop.new.self) (heap_items c.put_next.new.heads) c.in-Some.head c.seek.new.self c.in-Some.ensures.permutation c.in-Ok.ensures.no_larger c.in-Ok-put_next.ensures.joins in
    omega (arith, less)

pub returns-in-Err-put_next-clause-cause : goal.returns-in-Err-put_next-clause-cause
returns-in-Err-put_next-clause-cause g c =
    let n = c.in-Ok.ensures in
    next_fails g.I.RowEntryIterator.rest g.I.RowEntryIterator.sound g.I.RowEntryIterator.refuses g.I.RowEntryIterator.begins g.I.RowEntryIterator.takes g.I.RowEntryIterator.seeks g.I.RowEntryIterator.bound g.I.RowEntryIterator.order (g.E.Outside.reach c.args.env.now) (g.E.Outside.reach c.put_next.new.env) (Some c.args.key.now) c.in-Err-put_next.error [] (heap_items c.args.heads.now) (heap_items c.pop.new.self) c.in-Some.head c.in-Some.ensures.permutation
    (then_fails (g.I.RowEntryIterator.refuses c.in-Some.head.source) (g.I.RowEntryIterator.refuses c.seek.new.self) (g.E.Outside.reach c.args.env.now) (g.E.Outside.reach c.seek.new.env) (g.E.Outside.reach c.put_next.new.env) None c.in-Err-put_next.error n.reads.later (n.sought.0, n.sought.1, n.sought.2.1) c.in-Err-put_next.ensures.cause)

pub returns-in-Err-clause-cause : goal.returns-in-Err-clause-cause
returns-in-Err-clause-cause g c =
    let n = c.in-Err.ensures in
    head_fails g.I.RowEntryIterator.rest g.I.RowEntryIterator.sound g.I.RowEntryIterator.refuses g.I.RowEntryIterator.begins g.I.RowEntryIterator.takes g.I.RowEntryIterator.seeks g.I.RowEntryIterator.bound g.I.RowEntryIterator.order (g.E.Outside.reach c.args.env.now) (g.E.Outside.reach c.seek.new.env) (Some c.args.key.now) c.in-Err.error [] (heap_items c.args.heads.now) (heap_items c.pop.new.self) c.in-Some.head c.in-Some.ensures.permutation (n.cause.0, n.cause.1, n.cause.2.0)

pub returns-in-Ok-put_next-clause-heaped : goal.returns-in-Ok-put_next-clause-heaped
returns-in-Ok-put_next-clause-heaped g c = λ order h.
    heaped_on order (Goes g.I.RowEntryIterator.rest g.I.RowEntryIterator.sound g.I.RowEntryIterator.refuses g.I.RowEntryIterator.takes g.I.RowEntryIterator.bound g.I.RowEntryIterator.order (g.E.Outside.reach c.seek.new.env) (g.E.Outside.reach c.put_next.new.env)) c.seek.new.self (heap_items c.args.heads.now) (heap_items c.pop.new.self) (heap_items c.put_next.new.heads) c.in-Some.head c.in-Some.ensures.permutation (λ k. (c.in-Some.ensures.heap_order k).0) c.in-Ok-put_next.ensures.heap c.in-Ok-put_next.ensures.joins h

pub returns-in-Ok-put_next-clause-within : goal.returns-in-Ok-put_next-clause-within
returns-in-Ok-put_next-clause-within g c = λ paths h.
    let out = within_out g.I.RowEntryIterator.within paths (heap_items c.args.heads.now) (heap_items c.pop.new.self) c.in-Some.head c.in-Some.ensures.permutation h in
    let sought = c.in-Ok.ensures.within paths out.0 in
    let back = c.in-Ok-put_next.ensures.within paths sought.1 out.1 in
    (reads_at_then paths _ _ _ sought.0 back.0, back.1)

pub returns-in-Err-put_next-clause-within : goal.returns-in-Err-put_next-clause-within
returns-in-Err-put_next-clause-within g c = λ paths h.
    let out = within_out g.I.RowEntryIterator.within paths (heap_items c.args.heads.now) (heap_items c.pop.new.self) c.in-Some.head c.in-Some.ensures.permutation h in
    let sought = c.in-Ok.ensures.within paths out.0 in
    let back = c.in-Err-put_next.ensures.within paths sought.1 out.1 in
    (reads_at_then paths _ _ _ sought.0 back.0, back.1)

pub returns-in-Err-clause-within : goal.returns-in-Err-clause-within
returns-in-Err-clause-within g c = λ paths h.
    let out = within_out g.I.RowEntryIterator.within paths (heap_items c.args.heads.now) (heap_items c.pop.new.self) c.in-Some.head c.in-Some.ensures.permutation h in
    ((c.in-Err.ensures.within paths out.0).0, tt)

pub returns-then-not-top_is_before-clause-within : goal.returns-then-not-top_is_before-clause-within
returns-then-not-top_is_before-clause-within g c = λ paths h. (reads_at_none paths _, h)
