use Rattle.std.proofs.Common.{◌∙◌, sym, None}
use Rattle.std.specs.BinaryHeap.{heap_items}
use Rattle.slate_types.specs.declared.iter.IterationOrder.TheVariants.{Ascending}
use Rattle.slate_types.proofs.Calls.{reads_at_then}
use Rattle.slate_merge.specs.Merging.{left_in, IsMergingIn, blames, begun_sources}
use Rattle.slate_merge.specs.NoMoreRows.{NoMoreRows}
use Rattle.slate_merge.specs.Offers.{offers}
use Rattle.slate_merge.specs.MergeBringing.{sources_offer, takes_front}
use Rattle.slate_merge.proofs.NoMoreRows.{no_rows_both}
use Rattle.slate_merge.proofs.DecidedLaws.{takes_alone}
use Rattle.slate_merge.proofs.Heaps.{base_above}
use Rattle.slate_merge.proofs.Goings.{then_fails}
use Rattle.slate_merge.proofs.MergeLoops.{alone_step, ended_step, ended_takes, older_step, older_takes, counts_alone, counts_older}
use Rattle.slate_merge.proofs.heads.take_row.Goals as goal

pub returns-then-not-decides-clause-step : goal.returns-then-not-decides-clause-step
returns-then-not-decides-clause-step g c = λ order.
    let n = rw c.in-Ok-Some.field-0-is at c.in-Ok-Some.ensures in
    alone_step (left_in g.I.RowEntryIterator.rest order) (IsMergingIn g.I.RowEntryIterator.rest g.I.RowEntryIterator.sound g.I.RowEntryIterator.order order) (blames g.I.RowEntryIterator.refuses) (takes_front (offers g.I.RowEntryIterator.begins g.I.RowEntryIterator.takes g.I.RowEntryIterator.seeks)) c.args.dedup (g.E.Outside.reach c.args.env.now) (g.E.Outside.reach c.take_first.new.env) (begun_sources (heap_items c.args.heads.now)) (begun_sources (heap_items c.take_first.new.heads)) c.in-Ok-Some.row (sym c.decides.ensures ∙ c.if-not-decides.true) (n.step order)

pub returns-then-not-decides-clause-count : goal.returns-then-not-decides-clause-count
returns-then-not-decides-clause-count g c = λ order w s m.
    let n = rw c.in-Ok-Some.field-0-is at c.in-Ok-Some.ensures in
    takes_alone c.args.dedup c.in-Ok-Some.row (left_in g.I.RowEntryIterator.rest order (begun_sources (heap_items c.args.heads.now)) w) (left_in g.I.RowEntryIterator.rest order (begun_sources (heap_items c.take_first.new.heads)) w) c.args.processed.now _ (sym c.decides.ensures ∙ c.if-not-decides.true) ((n.step order).rows w s m) (rw c.row_bytes.ensures at c.saturating_add.ensures)

pub returns-then-not-decides-clause-counted : goal.returns-then-not-decides-clause-counted
returns-then-not-decides-clause-counted g c = counts_alone c.args.dedup c.args.processed.now _ c.in-Ok-Some.row (rw c.row_bytes.ensures at c.saturating_add.ensures)

pub returns-in-Ok-clause-step : goal.returns-in-Ok-clause-step
returns-in-Ok-clause-step g c = λ order.
    let brings = offers g.I.RowEntryIterator.begins g.I.RowEntryIterator.takes g.I.RowEntryIterator.seeks in
    let before = begun_sources (heap_items c.args.heads.now) in
    let first = begun_sources (heap_items c.take_first.new.heads) in
    let last = begun_sources (heap_items c.drop_older.new.heads) in
    let n = rw c.in-Ok-Some.field-0-is at c.in-Ok-Some.ensures in
    let d = rw c.as_slice.ensures at c.in-Ok.ensures in
    older_step (left_in g.I.RowEntryIterator.rest order) (IsMergingIn g.I.RowEntryIterator.rest g.I.RowEntryIterator.sound g.I.RowEntryIterator.order order) (blames g.I.RowEntryIterator.refuses) (takes_front (offers g.I.RowEntryIterator.begins g.I.RowEntryIterator.takes g.I.RowEntryIterator.seeks)) (g.E.Outside.reach c.args.env.now) (g.E.Outside.reach c.take_first.new.env) (g.E.Outside.reach c.drop_older.new.env) (begun_sources (heap_items c.args.heads.now)) (begun_sources (heap_items c.take_first.new.heads)) (begun_sources (heap_items c.drop_older.new.heads)) c.in-Ok-Some.row (n.step order) (d.moved order) (d.done order) c.args.dedup (λ u v more w. NoMoreRows (sources_offer brings u v) more (sources_offer brings w v)) (λ v reads more h k. (h.0, no_rows_both (sources_offer brings before v) (sources_offer brings first v) (sources_offer brings last v) reads more h.1 k, λ o heaped r has above. base_above c.args.dedup c.in-Ok-Some.row r (sym c.decides.ensures ∙ c.if-not-decides.false) above)) d.brought (sym c.decides.ensures ∙ c.if-not-decides.false)

pub returns-in-Ok-clause-count : goal.returns-in-Ok-clause-count
returns-in-Ok-clause-count g c = λ order.
    let n = rw c.in-Ok-Some.field-0-is at c.in-Ok-Some.ensures in
    let d = rw c.as_slice.ensures at c.in-Ok.ensures in
    older_takes (left_in g.I.RowEntryIterator.rest order) (IsMergingIn g.I.RowEntryIterator.rest g.I.RowEntryIterator.sound g.I.RowEntryIterator.order order) (blames g.I.RowEntryIterator.refuses) (takes_front (offers g.I.RowEntryIterator.begins g.I.RowEntryIterator.takes g.I.RowEntryIterator.seeks)) (g.E.Outside.reach c.args.env.now) (g.E.Outside.reach c.take_first.new.env) (g.E.Outside.reach c.drop_older.new.env) (begun_sources (heap_items c.args.heads.now)) (begun_sources (heap_items c.take_first.new.heads)) (begun_sources (heap_items c.drop_older.new.heads)) c.in-Ok-Some.row (n.step order) (d.moved order) (d.done order) c.args.dedup c.args.processed.now c.saturating_add.result _ (sym c.decides.ensures ∙ c.if-not-decides.false) (rw c.row_bytes.ensures at c.saturating_add.ensures) (d.count order)

pub returns-in-Ok-clause-counted : goal.returns-in-Ok-clause-counted
returns-in-Ok-clause-counted g c =
    let d = rw c.as_slice.ensures at c.in-Ok.ensures in
    counts_older c.args.dedup c.args.processed.now c.saturating_add.result _ c.in-Ok-Some.row (sym c.decides.ensures ∙ c.if-not-decides.false) (rw c.row_bytes.ensures at c.saturating_add.ensures) d.counted

pub returns-in-Err-drop_older-clause-cause : goal.returns-in-Err-drop_older-clause-cause
returns-in-Err-drop_older-clause-cause g c =
    let n = c.in-Ok-Some.ensures in
    let t = (n.step Ascending).taken in
    then_fails (blames g.I.RowEntryIterator.refuses (begun_sources (heap_items c.args.heads.now))) (blames g.I.RowEntryIterator.refuses (begun_sources (heap_items c.take_first.new.heads))) (g.E.Outside.reach c.args.env.now) (g.E.Outside.reach c.take_first.new.env) (g.E.Outside.reach c.drop_older.new.env) None c.in-Err-drop_older.error n.reads.later (t.0, t.1, t.2.1) c.in-Err-drop_older.ensures.cause

pub returns-in-Ok-None-clause-step : goal.returns-in-Ok-None-clause-step
returns-in-Ok-None-clause-step g c = λ order.
    let n = rw c.in-Ok-None.field-0-is at c.in-Ok-None.ensures in
    ended_step (left_in g.I.RowEntryIterator.rest order) (IsMergingIn g.I.RowEntryIterator.rest g.I.RowEntryIterator.sound g.I.RowEntryIterator.order order) (blames g.I.RowEntryIterator.refuses) (takes_front (offers g.I.RowEntryIterator.begins g.I.RowEntryIterator.takes g.I.RowEntryIterator.seeks)) c.args.dedup (g.E.Outside.reach c.args.env.now) (g.E.Outside.reach c.take_first.new.env) (begun_sources (heap_items c.args.heads.now)) (begun_sources (heap_items c.take_first.new.heads)) (n.step order)

pub returns-in-Ok-None-clause-count : goal.returns-in-Ok-None-clause-count
returns-in-Ok-None-clause-count g c = λ order.
    let n = rw c.in-Ok-None.field-0-is at c.in-Ok-None.ensures in
    ended_takes (left_in g.I.RowEntryIterator.rest order) (IsMergingIn g.I.RowEntryIterator.rest g.I.RowEntryIterator.sound g.I.RowEntryIterator.order order) (blames g.I.RowEntryIterator.refuses) (takes_front (offers g.I.RowEntryIterator.begins g.I.RowEntryIterator.takes g.I.RowEntryIterator.seeks)) c.args.dedup c.args.processed.now (g.E.Outside.reach c.args.env.now) (g.E.Outside.reach c.take_first.new.env) (begun_sources (heap_items c.args.heads.now)) (begun_sources (heap_items c.take_first.new.heads)) (n.step order)

pub returns-in-Ok-clause-heaped : goal.returns-in-Ok-clause-heaped
returns-in-Ok-clause-heaped g c = λ order h.
    let n = rw c.in-Ok-Some.field-0-is at c.in-Ok-Some.ensures in
    c.in-Ok.ensures.heaped order (n.heaped order h)

pub returns-in-Ok-clause-within : goal.returns-in-Ok-clause-within
returns-in-Ok-clause-within g c = λ paths h.
    let first = c.in-Ok-Some.ensures.within paths h in
    let last = c.in-Ok.ensures.within paths first.1 in
    (reads_at_then paths _ _ _ first.0 last.0, last.1)

pub returns-in-Err-drop_older-clause-within : goal.returns-in-Err-drop_older-clause-within
returns-in-Err-drop_older-clause-within g c = λ paths h.
    let first = c.in-Ok-Some.ensures.within paths h in
    let last = c.in-Err-drop_older.ensures.within paths first.1 in
    (reads_at_then paths _ _ _ first.0 last.0, tt)
