use Rattle.std.proofs.Common.{◌≡◌, ◌∙◌, ◌-◌}
use Rattle.slate_table.specs.Table.{some_first, some_last}
use Rattle.slate_table.specs.InfoReading.{section_place}
use Rattle.slate_table.proofs.EndLaws.{first_key_is, last_key_is}
use Rattle.slate_table.proofs.table_end.placed_info.Goals as goal

pub returns-in-Ok : goal.returns-in-Ok
returns-in-Ok c =
    record {
      value = (let rows = c.args.rows.now in
          let at = c.args.offsets in
          let first : c.in_ok-first_entry.first_entry ≡ some_first rows = c.in_ok-first_entry.ensures.value ∙ first_key_is rows _ c.first.ensures.value in
          let last : c.in-Ok.last_entry ≡ some_last rows = c.in-Ok.ensures.value ∙ last_key_is rows _ c.last.ensures.value in
          λ i. record {
            first = first i;
            last = last i;
            index = section_place at.index (at.stats - at.index);
            filters = section_place at.filters (at.index - at.filters);
            stats = section_place at.stats (c.args.end - at.stats);
          });
      cause = tt;
    }
