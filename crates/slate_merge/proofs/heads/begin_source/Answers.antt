use Rattle.std.proofs.Common.{None, refl}
use Rattle.std.specs.BinaryHeap.{heap_items}
use Rattle.slate_types.proofs.Calls.{reads_at_then}
use Rattle.slate_merge.proofs.Goings.{then_fails, begin_moves, begin_ready, begin_bound, begun_made}
use Rattle.slate_merge.specs.MergeSteps.{Goes}
use Rattle.slate_merge.proofs.Heaps.{heaped_joins}
use Rattle.slate_merge.proofs.heads.begin_source.Goals as goal

pub returns-in-Ok-put_back-clause-moved : goal.returns-in-Ok-put_back-clause-moved
returns-in-Ok-put_back-clause-moved g c = λ waiting e.
    let n = c.in-Ok.ensures in
    begin_moves g.I.RowEntryIterator.rest g.I.RowEntryIterator.sound g.I.RowEntryIterator.refuses g.I.RowEntryIterator.begins g.I.RowEntryIterator.takes g.I.RowEntryIterator.seeks g.I.RowEntryIterator.bound g.I.RowEntryIterator.order g.met.I.RowEntryIterator.more (g.E.Outside.reach c.args.env.now) (g.E.Outside.reach c.init.new.env) (g.E.Outside.reach c.put_back.new.env) c.args.source c.init.new.self waiting c.args.behind c.args.order (heap_items c.args.heads.now) (heap_items c.put_back.new.heads) e c.in-Ok-put_back.ensures.heap
    n.rows n.still n.checked n.order n.begun (rw c.in-Ok-new.ensures.source at c.in-Ok-put_back.ensures.joins)

pub returns-in-Ok-put_back-clause-brought : goal.returns-in-Ok-put_back-clause-brought
returns-in-Ok-put_back-clause-brought g c = λ waiting.
    begun_made g.I.RowEntryIterator.rest g.I.RowEntryIterator.sound g.I.RowEntryIterator.refuses g.I.RowEntryIterator.begins g.I.RowEntryIterator.takes g.I.RowEntryIterator.seeks g.I.RowEntryIterator.bound g.I.RowEntryIterator.order g.met.I.RowEntryIterator.more (g.E.Outside.reach c.args.env.now) (g.E.Outside.reach c.init.new.env) (g.E.Outside.reach c.put_back.new.env) c.args.source c.init.new.self waiting c.args.behind c.args.order (heap_items c.args.heads.now) (heap_items c.put_back.new.heads) c.in-Ok.ensures.begun (rw c.in-Ok-new.ensures.source at c.in-Ok-put_back.ensures.joins)

pub returns-in-Ok-put_back-clause-ready : goal.returns-in-Ok-put_back-clause-ready
returns-in-Ok-put_back-clause-ready g c = λ all.
    let n = c.in-Ok.ensures in
    begin_ready g.I.RowEntryIterator.rest g.I.RowEntryIterator.sound g.I.RowEntryIterator.refuses g.I.RowEntryIterator.begins g.I.RowEntryIterator.takes g.I.RowEntryIterator.seeks g.I.RowEntryIterator.bound g.I.RowEntryIterator.order g.met.I.RowEntryIterator.more (g.E.Outside.reach c.init.new.env) (g.E.Outside.reach c.put_back.new.env) (g.E.Outside.reach c.args.env.now).meaning c.init.new.self c.args.behind c.args.order (heap_items c.args.heads.now) (heap_items c.put_back.new.heads) n.begun.1.meaning n.ready (rw c.in-Ok-new.ensures.source at c.in-Ok-put_back.ensures.joins) all

pub returns-in-Ok-put_back-clause-no_larger : goal.returns-in-Ok-put_back-clause-no_larger
returns-in-Ok-put_back-clause-no_larger g c = λ waiting.
    begin_bound g.I.RowEntryIterator.rest g.I.RowEntryIterator.sound g.I.RowEntryIterator.refuses g.I.RowEntryIterator.begins g.I.RowEntryIterator.takes g.I.RowEntryIterator.seeks g.I.RowEntryIterator.bound g.I.RowEntryIterator.order g.met.I.RowEntryIterator.more (g.E.Outside.reach c.init.new.env) (g.E.Outside.reach c.put_back.new.env) c.args.source c.init.new.self waiting c.args.behind c.args.order (heap_items c.args.heads.now) (heap_items c.put_back.new.heads) c.in-Ok.ensures.no_larger (rw c.in-Ok-new.ensures.source at c.in-Ok-put_back.ensures.joins)

pub returns-in-Err-put_back-clause-cause : goal.returns-in-Err-put_back-clause-cause
returns-in-Err-put_back-clause-cause g c =
    let n = c.in-Ok.ensures in
    then_fails (g.I.RowEntryIterator.refuses c.args.source) (g.I.RowEntryIterator.refuses c.init.new.self) (g.E.Outside.reach c.args.env.now) (g.E.Outside.reach c.init.new.env) (g.E.Outside.reach c.put_back.new.env) None c.in-Err-put_back.error n.reads.later (n.begun.0, n.begun.1, n.begun.2.1) (rw c.in-Ok-new.ensures.source at c.in-Err-put_back.ensures.cause)

pub returns-in-Ok-put_back-clause-heaped : goal.returns-in-Ok-put_back-clause-heaped
returns-in-Ok-put_back-clause-heaped g c = λ h.
    heaped_joins c.args.order (Goes g.I.RowEntryIterator.rest g.I.RowEntryIterator.sound g.I.RowEntryIterator.refuses g.I.RowEntryIterator.takes g.I.RowEntryIterator.bound g.I.RowEntryIterator.order (g.E.Outside.reach c.init.new.env) (g.E.Outside.reach c.put_back.new.env)) c.init.new.self c.args.behind c.args.order (heap_items c.args.heads.now) (heap_items c.put_back.new.heads) c.in-Ok-put_back.ensures.heap (rw c.in-Ok-new.ensures.source at c.in-Ok-put_back.ensures.joins) refl h

pub returns-in-Ok-put_back-clause-within : goal.returns-in-Ok-put_back-clause-within
returns-in-Ok-put_back-clause-within g c = λ paths one all.
    let begun = c.in-Ok.ensures.within paths one in
    let back = (rw c.in-Ok-new.ensures.source at c.in-Ok-put_back.ensures.within) paths begun.1 all in
    (reads_at_then paths _ _ _ begun.0 back.0, back.1)

pub returns-in-Err-put_back-clause-within : goal.returns-in-Err-put_back-clause-within
returns-in-Err-put_back-clause-within g c = λ paths one all.
    let begun = c.in-Ok.ensures.within paths one in
    let back = (rw c.in-Ok-new.ensures.source at c.in-Err-put_back.ensures.within) paths begun.1 all in
    (reads_at_then paths _ _ _ begun.0 back.0, back.1)
