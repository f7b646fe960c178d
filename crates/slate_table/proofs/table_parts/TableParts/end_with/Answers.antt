use Rattle.std.proofs.Common.{◌≡◌, ◌∙◌, ◌++◌, ◌∷◌, [], length, refl, ap, rules, arith}
use Rattle.std.proofs.lemmas.List.{length-append}
use Rattle.slate_table.specs.Parts.{summed}
use Rattle.slate_table.specs.SectionReading.{covered_by}
use Rattle.slate_table.specs.TableParts.{cover_behind}
use Rattle.slate_table.proofs.table_parts.TableParts.end_with.Goals as goal

pub put_summed-requires : goal.put_summed-requires
put_summed-requires c = c.requires.bytes

pub push_reserved-requires : goal.push_reserved-requires
push_reserved-requires c = c.requires.offsets

pub push_reserved-requires-2 : goal.push_reserved-requires-2
push_reserved-requires-2 c = c.requires.stats

pub overflow_sub-result : goal.overflow_sub-result
overflow_sub-result c =
    let p = c.args.self.now in
    let bytes : c.put_summed.new.out.items ≡ p.bytes.items ++ summed (cover_behind p) c.args.stored.now = c.put_summed.ensures ∙ (λ i. p.bytes.items ++ summed (covered_by (c.next_place-place.ensures i)) c.args.stored.now) in
    let begin : c.len-begin.result ≡ length p.bytes.items = search rules in
    let end : c.len.result ≡ length c.put_summed.new.out.items = search rules in
    omega (arith, begin, end ∙ ap length bytes ∙ length-append p.bytes.items (summed (cover_behind p) c.args.stored.now))

pub returns : goal.returns
returns c =
    let p = c.args.self.now in
    let bytes : c.put_summed.new.out.items ≡ p.bytes.items ++ summed (cover_behind p) c.args.stored.now = c.put_summed.ensures ∙ (λ i. p.bytes.items ++ summed (covered_by (c.next_place-place.ensures i)) c.args.stored.now) in
    let begin : c.len-begin.result ≡ length p.bytes.items = search rules in
    let end : c.len.result ≡ length c.put_summed.new.out.items = search rules in
    record {
      ended = record {
        size = refl;
        format = refl;
        id = refl;
        separators = refl;
        keys = refl;
        values = refl;
        block = c.replace.ensures.after;
        bytes = bytes;
        offsets = c.push_reserved.ensures.items ∙ (λ i. p.offsets.items ++ begin i ∷ []);
        stats = c.push_reserved-2.ensures.items ∙ (λ i. p.block_stats.items ++ c.stats.ensures i ∷ []);
      };
      rows = refl;
      size = omega (arith, begin, end ∙ ap length bytes ∙ length-append p.bytes.items (summed (cover_behind p) c.args.stored.now));
    }
