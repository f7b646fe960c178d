use Rattle.std.proofs.Common.{◌≡◌, ◌∙◌, ◌++◌, length, rules, arith, sym, subst}
use Rattle.slate_table.specs.Parts.{cover_of, info_kind, summed}
use Rattle.slate_table.specs.Decoded.{Info, SectionsLieBefore}
use Rattle.slate_table.specs.InfoReading.{seen_info}
use Rattle.slate_table.specs.SectionReading.{footer_bytes}
use Rattle.slate_table.specs.TableEnd.{placed_info, part_of_info}
use Rattle.slate_table.proofs.table_end.append_end.Goals as goal

pub returns-in-Ok : goal.returns-in-Ok
returns-in-Ok c =
    record {
      ended = (let rows = c.args.rows.now in
          let out = c.args.out.now.items in
          let at = c.args.offsets in
          let size : c.len.result ≡ length out = search rules in
          let info : seen_info c.in_ok-info.info ≡ placed_info rows at (length out) = c.in_ok-info.ensures.value ∙ (λ j. placed_info rows at (size j)) in
          let first = c.requires.filters in
          let low = c.requires.index in
          let high = c.requires.stats in
          let lies : SectionsLieBefore (length out) (placed_info rows at (length out)) = (omega arith, omega arith, omega arith) in
          record {
            is = c.in-Ok.ensures.appended ∙ (λ j. out ++ (summed (cover_of c.args.version c.args.id.0 info_kind (length out)) (part_of_info c.args.version (info j)) ++ footer_bytes (length out) c.args.version));
            info = c.in-Ok.ensures.info (subst (λ (made : Info). SectionsLieBefore (length out) made) (sym info) lies);
          });
      cause = tt;
    }
