use Rattle.std.proofs.Common.{◌≡◌, ◌∙◌, ◌++◌, List, ap, arith, length, map, rules, subst, sym}
use Rattle.std.proofs.lemmas.List.{length-append}
use Rattle.std.proofs.lemmas.Result.{IfOk-weaker, IfOk-from_err}
use Rattle.slate_types.specs.declared.types.RowEntry.{RowEntry}
use Rattle.slate_table.specs.Parts.{Encode}
use Rattle.slate_filter.specs.Policy.{filters_of}
use Rattle.slate_table.specs.declared.table_end.SectionOffsets.{SectionOffsets}
use Rattle.slate_table.specs.Table.{some_first, some_last}
use Rattle.slate_table.specs.Decoded.{FitsShort}
use Rattle.slate_table.specs.SectionReading.{changed_by}
use Rattle.slate_table.specs.TableParts.{version_of, IsEnded}
use Rattle.slate_table.specs.TableEnd.{filters_behind, index_behind, stats_behind, IsFiltered, IsReady, IsSealed}
use Rattle.slate_table.proofs.Asking.{asked_before, failed_asks, asks_again}
use Rattle.slate_table.proofs.BuiltLaws.{last_has_row, ended_ready}
use Rattle.slate_table.proofs.EndLaws.{closed, filtered_ready}
use Rattle.slate_table.proofs.table_parts.TableParts.finish.Goals as goal
use Rattle.slate_types.proofs.Exits.{if_ok_both}

pub end_block-requires-clause-some : goal.end_block-requires-clause-some
end_block-requires-clause-some g c = c.requires.stands.some

pub end_block-requires-clause-few : goal.end_block-requires-clause-few
end_block-requires-clause-few g c = c.requires.stands.few

pub end_block-requires-clause-row : goal.end_block-requires-clause-row
end_block-requires-clause-row g c = last_has_row c.args.self.now c.requires.stands c.requires.row

pub append_sections-requires : goal.append_sections-requires
append_sections-requires g c = record {
  ready = (let ready = ended_ready (changed_by g.T.BlockTransformer.encoded c.args.transformer.now) c.args.self.now c.end_block.new.self c.requires.stands c.requires.row c.in_ok-end_block.ensures.ended in
      filtered_ready c.in_ok-append_filters.ensures.filtered ready);
}

pub close-requires : goal.close-requires
close-requires g c =
    let encode = changed_by g.T.BlockTransformer.encoded c.args.transformer.now in
    let between = changed_by g.T.BlockTransformer.encoded c.append_filters.new.transformer in
    let policies = map (λ p. (goal.FilterPolicy-dyn g (p.vtable, p.value)).meaning p.value) c.args.policies.now in
    let q = c.end_block.new.self in
    let m = c.append_filters.new.self in
    let fs = filters_of policies c.args.min q.rows.items in
    let f : IsFiltered (changed_by g.T.BlockTransformer.encoded c.end_block.new.transformer) fs q m = c.in_ok-append_filters.ensures.filtered in
    let ready : IsReady m = filtered_ready f (ended_ready encode c.args.self.now q c.requires.stands c.requires.row c.in_ok-end_block.ensures.ended) in
    let s : IsSealed between m c.in_ok-stats.stats c.append_sections.new.self = c.in_ok-stats.ensures.sealed in
    let first : c.len-filters.result ≡ length q.bytes.items = search rules in
    let second : c.len-index.result ≡ length m.bytes.items = search rules in
    let index = index_behind between m.bytes.items m in
    let section_of = filters_behind (changed_by g.T.BlockTransformer.encoded c.end_block.new.transformer) fs q in
    record {
      first = subst (λ (rows : List RowEntry). FitsShort (some_first rows)) (sym s.rows) ready.first;
      last = subst (λ (rows : List RowEntry). FitsShort (some_last rows)) (sym s.rows) ready.last;
      filters = omega (arith, first, second, ap length f.bytes, length-append q.bytes.items section_of);
      index = omega (arith, second, s.place, length-append m.bytes.items index);
      stats = omega (arith, s.place, ap length s.bytes, length-append (m.bytes.items ++ index) (stats_behind between (m.bytes.items ++ index) m));
    }

pub returns : goal.returns
returns g c =
    record {
      finished = (let encode = changed_by g.T.BlockTransformer.encoded c.args.transformer.now in
          let policies = map (λ p. (goal.FilterPolicy-dyn g (p.vtable, p.value)).meaning p.value) c.args.policies.now in
          let q = c.end_block.new.self in
          let m = c.append_filters.new.self in
          let r = c.append_sections.new.self in
          let fs = filters_of policies c.args.min q.rows.items in
          let first : c.len-filters.result ≡ length q.bytes.items = search rules in
          let second : c.len-index.result ≡ length m.bytes.items = search rules in
          let between = c.in_ok-end_block.ensures.asks.same_encoded in
          let after = c.in_ok-append_filters.ensures.asks.same_encoded ∙ between in
          let filtered = subst (λ (e : Encode). IsFiltered e fs q m) between c.in_ok-append_filters.ensures.filtered in
          let sealed = subst (λ (e : Encode). IsSealed e m c.in_ok-stats.stats r) after c.in_ok-stats.ensures.sealed in
          let at : SectionOffsets = record { filters = c.len-filters.result; index = c.len-index.result; stats = c.in_ok-stats.stats } in
          if_ok_both c.close.result _ _ _
          (λ made ended short. closed encode policies c.args.min c.args.self.now q m r at made.bytes made.info c.in_ok-end_block.ensures.ended filtered sealed first second ended short)
          c.close.ensures.ended c.close.ensures.short);
      version = (let end : IsEnded (changed_by g.T.BlockTransformer.encoded c.args.transformer.now) c.args.self.now c.end_block.new.self = c.in_ok-end_block.ensures.ended in
          IfOk-weaker c.close.result _ _ (λ made is. is ∙ ap version_of (c.in_ok-stats.ensures.sealed.format ∙ c.in_ok-append_filters.ensures.filtered.format ∙ end.format)) c.close.ensures.version);
      id = (let end : IsEnded (changed_by g.T.BlockTransformer.encoded c.args.transformer.now) c.args.self.now c.end_block.new.self = c.in_ok-end_block.ensures.ended in
          IfOk-weaker c.close.result _ _ (λ made is. is ∙ c.in_ok-stats.ensures.sealed.id ∙ c.in_ok-append_filters.ensures.filtered.id ∙ end.id) c.close.ensures.id);
      asks = asks_again c.in_ok-end_block.ensures.asks (asks_again c.in_ok-append_filters.ensures.asks (asked_before c.in_ok-stats.ensures.asks c.close.ensures.cause));
    }

pub returns-in_err-end_block : goal.returns-in_err-end_block
returns-in_err-end_block g c =
    record {
      finished = IfOk-from_err c.from_residual.result _ c.from_residual.ensures.0;
      version = IfOk-from_err c.from_residual.result _ c.from_residual.ensures.0;
      id = IfOk-from_err c.from_residual.result _ c.from_residual.ensures.0;
      asks = failed_asks c.in_err-end_block.ensures.asks c.from_residual.ensures.1;
    }

pub returns-in_err-append_filters : goal.returns-in_err-append_filters
returns-in_err-append_filters g c =
    record {
      finished = IfOk-from_err c.from_residual-in_err-append_filters.result _ c.from_residual-in_err-append_filters.ensures.0;
      version = IfOk-from_err c.from_residual-in_err-append_filters.result _ c.from_residual-in_err-append_filters.ensures.0;
      id = IfOk-from_err c.from_residual-in_err-append_filters.result _ c.from_residual-in_err-append_filters.ensures.0;
      asks = asks_again c.in_ok-end_block.ensures.asks (failed_asks c.in_err-append_filters.ensures.asks c.from_residual-in_err-append_filters.ensures.1);
    }

pub returns-in_err-stats : goal.returns-in_err-stats
returns-in_err-stats g c =
    record {
      finished = IfOk-from_err c.from_residual-in_err-stats.result _ c.from_residual-in_err-stats.ensures.0;
      version = IfOk-from_err c.from_residual-in_err-stats.result _ c.from_residual-in_err-stats.ensures.0;
      id = IfOk-from_err c.from_residual-in_err-stats.result _ c.from_residual-in_err-stats.ensures.0;
      asks = asks_again c.in_ok-end_block.ensures.asks (asks_again c.in_ok-append_filters.ensures.asks (failed_asks c.in_err-stats.ensures.asks c.from_residual-in_err-stats.ensures.1));
    }
