use Rattle.std.proofs.Common.{◌∙◌, ◌<◌, List, length, map, ap, subst, sym, rules}
use Rattle.std.proofs.lemmas.Result.{IfOk-weaker}
use Rattle.slate_types.specs.declared.types.RowEntry.{RowEntry}
use Rattle.slate_types.specs.declared.types.Ulid.{Ulid}
use Rattle.slate_table.specs.SectionReading.{changed_by}
use Rattle.slate_table.specs.TableBuilding.{TableBuilding}
use Rattle.slate_table.specs.TableParts.{Stands}
use Rattle.slate_table.proofs.Asking.{cause_of, still_of, later_of}
use Rattle.slate_table.proofs.BuiltLaws.{built_of, info_of_built}
use Rattle.slate_table.proofs.builder.EncodedSsTableBuilder.build.Goals as goal

pub finish-table-requires-clause-stands : goal.finish-table-requires-clause-stands
finish-table-requires-clause-stands g c = c.self.invariant

pub finish-table-requires-clause-row : goal.finish-table-requires-clause-row
finish-table-requires-clause-row g c = subst (λ (rows : List RowEntry). 0 < length rows) (sym (ap (λ (b : TableBuilding). b.rows) c.self.view_is)) c.requires.rows

pub returns : goal.returns
returns g c =
    let inside = c.self.inside in
    let encode = changed_by g.T.BlockTransformer.encoded c.args.transformer.now in
    let policies = map (λ p. (goal.FilterPolicy-dyn g (p.vtable, p.value)).meaning p.value) c.args.policies.now in
    record {
      built = (let stands : Stands inside.parts = c.self.invariant in
          IfOk-weaker c.finish-table.result _ _
          (λ table made. built_of encode policies inside.min_filter_keys inside.parts c.args.self table.bytes table.info c.self.view_is stands (search rules) c.requires.rows made)
          c.finish-table.ensures.finished);
      info = (IfOk-weaker c.finish-table.result _ _
          (λ table made. info_of_built inside.min_filter_keys inside.parts c.args.self table.bytes table.info c.self.view_is made)
          c.finish-table.ensures.finished);
      version = IfOk-weaker c.finish-table.result _ _ (λ table is. is ∙ ap (λ (b : TableBuilding). b.version) c.self.view_is) c.finish-table.ensures.version;
      id = IfOk-weaker c.finish-table.result _ _ (λ table is. ap (λ (u : Ulid). u.0) is ∙ ap (λ (b : TableBuilding). b.id) c.self.view_is) c.finish-table.ensures.id;
      cause = cause_of _ _ c.finish-table.result c.finish-table.ensures.asks.counts;
      same_encoded = c.finish-table.ensures.asks.same_encoded;
      same_decoded = c.finish-table.ensures.asks.same_decoded;
      later = later_of _ _ c.finish-table.result c.finish-table.ensures.asks.counts;
      still = still_of _ _ c.finish-table.result c.finish-table.ensures.asks.counts;
    }
