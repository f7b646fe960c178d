use Rattle.std.proofs.Common.{◌∙◌, List, sym, subst, arith}
use Rattle.std.specs.BinaryHeap.{heap_items}
use Rattle.slate_types.proofs.Calls.{reads_at_none}
use Rattle.slate_merge.specs.Offers.{offers}
use Rattle.slate_merge.specs.declared.head.Head.{Head}
use Rattle.slate_merge.specs.Merging.{AreHeaped, AreWithin, begun_sources}
use Rattle.slate_merge.specs.MergeSteps.{Goes}
use Rattle.slate_merge.proofs.Heaps.{heaped_on}
use Rattle.slate_merge.proofs.Goings.{none_step, first_step, first_smaller}
use Rattle.slate_merge.proofs.SourcesWithin.{within_out}
use Rattle.slate_merge.proofs.heads.take_first.Goals as goal

pub returns-in_default-clause-step : goal.returns-in_default-clause-step
returns-in_default-clause-step g c = none_step (offers g.I.RowEntryIterator.begins g.I.RowEntryIterator.takes g.I.RowEntryIterator.seeks) g.I.RowEntryIterator.rest g.I.RowEntryIterator.sound g.I.RowEntryIterator.refuses g.I.RowEntryIterator.order (g.E.Outside.reach c.args.env.now) (heap_items c.args.heads.now) (heap_items c.pop.new.self) (sym c.args.heads.now.data.ok.0 ∙ c.in_default.ensures.none) c.in_default.ensures.unchanged.0

pub returns-in-Ok-clause-step : goal.returns-in-Ok-clause-step
returns-in-Ok-clause-step g c =
    let s = c.in-Some.ensures in
    rw c.in-Ok.ensures.answer
    (first_step g.I.RowEntryIterator.rest g.I.RowEntryIterator.sound g.I.RowEntryIterator.refuses g.I.RowEntryIterator.begins g.I.RowEntryIterator.takes g.I.RowEntryIterator.seeks g.I.RowEntryIterator.bound g.I.RowEntryIterator.order g.met.I.RowEntryIterator.more (g.E.Outside.reach c.args.env.now) (g.E.Outside.reach c.put_next.new.env) (heap_items c.args.heads.now) (heap_items c.pop.new.self) (heap_items c.put_next.new.heads) c.in-Some.head s.top s.permutation (λ h. (s.heap_order h).0) s.below_top c.in-Ok.ensures.heap c.in-Ok.ensures.joins)

pub returns-in-Ok-clause-smaller : goal.returns-in-Ok-clause-smaller
returns-in-Ok-clause-smaller g c = λ _.
    first_smaller g.I.RowEntryIterator.rest g.I.RowEntryIterator.sound g.I.RowEntryIterator.refuses g.I.RowEntryIterator.begins g.I.RowEntryIterator.takes g.I.RowEntryIterator.seeks g.I.RowEntryIterator.bound g.I.RowEntryIterator.order g.met.I.RowEntryIterator.more (g.E.Outside.reach c.args.env.now) (g.E.Outside.reach c.put_next.new.env) (heap_items c.args.heads.now) (heap_items c.pop.new.self) (heap_items c.put_next.new.heads) c.in-Some.head c.in-Some.head.source c.in-Some.ensures.permutation (omega arith) c.in-Ok.ensures.joins

pub returns-in-Ok-clause-no_larger : goal.returns-in-Ok-clause-no_larger
returns-in-Ok-clause-no_larger g c =
    let less = first_smaller g.I.RowEntryIterator.rest g.I.RowEntryIterator.sound g.I.RowEntryIterator.refuses g.I.RowEntryIterator.begins g.I.RowEntryIterator.takes g.I.RowEntryIterator.seeks g.I.RowEntryIterator.bound g.I.RowEntryIterator.order g.met.I.RowEntryIterator.more (g.E.Outside.reach c.args.env.now) (g.E.Outside.reach c.put_next.new.env) (heap_items c.args.heads.now) (heap_items c.pop.new.self) (heap_items c.put_next.new.heads) c.in-Some.head c.in-Some.head.source c.in-Some.ensures.permutation (omega arith) c.in-Ok.ensures.joins in
    omega (arith, less)

pub returns-in_default-clause-heaped : goal.returns-in_default-clause-heaped
returns-in_default-clause-heaped g c = λ order h. subst (λ (l : List (Head g.row.I.Denot)). AreHeaped order l) (sym c.in_default.ensures.unchanged.0) h

pub returns-in-Ok-clause-heaped : goal.returns-in-Ok-clause-heaped
returns-in-Ok-clause-heaped g c = λ order h.
    let s = c.in-Some.ensures in
    heaped_on order (Goes g.I.RowEntryIterator.rest g.I.RowEntryIterator.sound g.I.RowEntryIterator.refuses g.I.RowEntryIterator.takes g.I.RowEntryIterator.bound g.I.RowEntryIterator.order (g.E.Outside.reach c.args.env.now) (g.E.Outside.reach c.put_next.new.env)) c.in-Some.head.source (heap_items c.args.heads.now) (heap_items c.pop.new.self) (heap_items c.put_next.new.heads) c.in-Some.head s.permutation (λ k. (s.heap_order k).0) c.in-Ok.ensures.heap c.in-Ok.ensures.joins h

pub returns-in_default-clause-within : goal.returns-in_default-clause-within
returns-in_default-clause-within g c = λ paths h. (reads_at_none paths _, subst (λ (l : List (Head g.row.I.Denot)). AreWithin g.I.RowEntryIterator.within (begun_sources l) paths) (sym c.in_default.ensures.unchanged.0) h)

pub returns-in-Ok-clause-within : goal.returns-in-Ok-clause-within
returns-in-Ok-clause-within g c = λ paths h.
    let out = within_out g.I.RowEntryIterator.within paths (heap_items c.args.heads.now) (heap_items c.pop.new.self) c.in-Some.head c.in-Some.ensures.permutation h in
    c.in-Ok.ensures.within paths out.0 out.1

pub returns-in-Err-clause-within : goal.returns-in-Err-clause-within
returns-in-Err-clause-within g c = λ paths h.
    let out = within_out g.I.RowEntryIterator.within paths (heap_items c.args.heads.now) (heap_items c.pop.new.self) c.in-Some.head c.in-Some.ensures.permutation h in
    c.in-Err.ensures.within paths out.0 out.1
