use Rattle.std.proofs.Common.{◌∙◌, ap}
use Rattle.slate_types.specs.Keys.{among}
use Rattle.slate_mem.specs.Table.{MemTableModel}
use Rattle.slate_mem.proofs.TableLaws.{among_is}
use Rattle.slate_mem.proofs.mem_table.MemTable.ensure_valid_segment.Goals as goal

pub returns-clause-recorded : goal.returns-clause-recorded
returns-clause-recorded c =
    let prefix = c.args.prefix.now in
    c.contains.ensures ∙ among_is prefix c.self.inside.segments.keys ∙ ap (λ (t : MemTableModel). among prefix t.segments) c.self.view_is
