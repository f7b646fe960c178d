use Rattle.std.proofs.Common.{◌∙◌, ◌++◌, [], ap}
use Rattle.std.specs.Prelude.{option_map, option_copied}
use Rattle.slate_types.specs.Keys.{keys_set}
use Rattle.slate_mem.specs.KeyTests.{point_lengths}
use Rattle.slate_mem.specs.Segments.{row_prefixes}
use Rattle.slate_mem.specs.Slots.{standing}
use Rattle.slate_mem.specs.Table.{MemTableModel, after_seq, put_rows}
use Rattle.slate_mem.proofs.LaterRows.{prefixes_alone}
use Rattle.slate_mem.proofs.SlotRanges.{put_after}
use Rattle.slate_mem.proofs.mem_table.MemTable.filter_after_seq.Goals as goal

pub returns-clause-rows : goal.returns-clause-rows
returns-clause-rows g c =
    let seq = c.args.seq in
    c.in_ok-put_all.ensures.rows
    ∙ (λ i. put_rows (c.new-table.ensures i).rows ((c.in_ok-rows.ensures.rows ∙ ap (λ ss. after_seq seq (standing ss)) c.deref.ensures.value) i))
    ∙ put_after seq c.self.inside.slots.items c.self.invariant.slots
    ∙ ap (λ (t : MemTableModel). after_seq seq t.rows) c.self.view_is

pub returns-clause-segments : goal.returns-clause-segments
returns-clause-segments g c =
    let seq = c.args.seq in
    let segments = point_lengths (option_map g.X.PrefixExtractor.lengths (option_copied c.args.extractor)) in
    c.in_ok-put_all.ensures.segments
    ∙ (λ i. keys_set ((c.new-table.ensures i).segments ++ c.in_ok-segments.ensures.prefixes i))
    ∙ prefixes_alone segments c.deref-2.result.now
    ∙ ap (row_prefixes segments) (c.deref-2.ensures.value ∙ c.in_ok-rows.ensures.rows ∙ ap (λ ss. after_seq seq (standing ss)) c.deref.ensures.value ∙ ap (λ (t : MemTableModel). after_seq seq t.rows) c.self.view_is)
