use Rattle.std.proofs.Common.{◌≡◌, ◌∙◌, ◌++◌, ap, arith, length, refl}
use Rattle.std.proofs.lemmas.Result.{IfOk-from_err}
use Rattle.slate_types.specs.declared.error.SlateDBError.TheVariants.{OutOfMemory}
use Rattle.slate_table.specs.declared.section.SectionPlace.{SectionPlace}
use Rattle.slate_table.specs.Parts.{cover_of, stats_kind, section, index_bytes}
use Rattle.slate_table.specs.SectionReading.{changed_by, covered_by}
use Rattle.slate_table.specs.TableParts.{version_of}
use Rattle.slate_table.specs.TableEnd.{counted_bytes, parts_index, parts_stats, index_behind}
use Rattle.slate_table.proofs.Asking.{unasked, asked_before, memory_exit, failed_asks, asks_again, asks_of}
use Rattle.slate_table.proofs.table_parts.TableParts.append_sections.Goals as goal

pub returns : goal.returns
returns g c =
    record {
      sealed = (let encode = changed_by g.T.BlockTransformer.encoded c.args.transformer.now in
          let p = c.args.self.now in
          let index : c.in_ok-index.index ≡ parts_index p = c.in_ok-index.ensures.bytes ∙ (λ i. index_bytes (c.deref.ensures.value i) (c.deref-2.ensures.value i)) in
          let first : c.seal_section.new.out.items ≡ p.bytes.items ++ index_behind encode p.bytes.items p = c.in_ok-seal_section.ensures.appended
          ∙ (λ i. p.bytes.items ++ section (covered_by (c.next_place-place.ensures i)) encode (index i)) in
          let cover : covered_by c.next_place-place-2.result ≡ cover_of (version_of p.format) p.id.0 stats_kind (length (p.bytes.items ++ index_behind encode p.bytes.items p)) =
          ap covered_by c.next_place-place-2.ensures ∙ (λ i. cover_of (version_of p.format) p.id.0 stats_kind (length (first i))) in
          let stats : c.in_ok-stats.stats ≡ parts_stats p = c.in_ok-stats.ensures.bytes
          ∙ (λ i. counted_bytes (c.deref-3.ensures.value i) p.raw_key_size p.raw_val_size (c.replace-block_stats.ensures.value i).items) in
          record {
            place = ap (λ (at : SectionPlace). at.offset) c.next_place-place-2.ensures ∙ ap length first;
            bytes = c.in_ok-seal_section-2.ensures.appended ∙ (λ i. first i ++ section (cover i) (c.seal_section.ensures.same_encoded i) (stats i));
            rows = refl;
            format = refl;
            id = refl;
            keys = omega arith;
            values = omega arith;
          });
      asks = (let call = c.seal_section.ensures in
          let again = c.seal_section-2.ensures in
          asks_again (asks_of call.same_encoded call.same_decoded call.later c.in_ok-seal_section.ensures.still tt)
          (asked_before (asks_of again.same_encoded again.same_decoded again.later c.in_ok-seal_section-2.ensures.still tt) tt));
    }

pub returns-in_err-index : goal.returns-in_err-index
returns-in_err-index g c =
    record {
      sealed = IfOk-from_err c.from_residual.result _ c.from_residual.ensures.0;
      asks = unasked (memory_exit c.from_residual.result _ c.from_residual.ensures.1 OutOfMemory c.in_err-index.ensures.cause);
    }

pub returns-in_err-seal_section : goal.returns-in_err-seal_section
returns-in_err-seal_section g c =
    record {
      sealed = IfOk-from_err c.from_residual-in_err-seal_section.result _ c.from_residual-in_err-seal_section.ensures.0;
      asks = (let call = c.seal_section.ensures in
          failed_asks (asks_of call.same_encoded call.same_decoded call.later c.in_err-seal_section.ensures.still c.in_err-seal_section.ensures.cause) c.from_residual-in_err-seal_section.ensures.1);
    }

pub returns-in_err-stats : goal.returns-in_err-stats
returns-in_err-stats g c =
    record {
      sealed = IfOk-from_err c.from_residual-in_err-stats.result _ c.from_residual-in_err-stats.ensures.0;
      asks = (let call = c.seal_section.ensures in
          asked_before (asks_of call.same_encoded call.same_decoded call.later c.in_ok-seal_section.ensures.still tt)
          (memory_exit c.from_residual-in_err-stats.result _ c.from_residual-in_err-stats.ensures.1 OutOfMemory c.in_err-stats.ensures.cause));
    }

pub returns-in_err-seal_section-2 : goal.returns-in_err-seal_section-2
returns-in_err-seal_section-2 g c =
    record {
      sealed = IfOk-from_err c.from_residual-in_err-seal_section-2.result _ c.from_residual-in_err-seal_section-2.ensures.0;
      asks = (let call = c.seal_section.ensures in
          let again = c.seal_section-2.ensures in
          asks_again (asks_of call.same_encoded call.same_decoded call.later c.in_ok-seal_section.ensures.still tt)
          (failed_asks (asks_of again.same_encoded again.same_decoded again.later c.in_err-seal_section-2.ensures.still c.in_err-seal_section-2.ensures.cause) c.from_residual-in_err-seal_section-2.ensures.1));
    }
