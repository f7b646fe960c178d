use Rattle.std.proofs.Common.{◌≡◌, ◌∙◌, ◌++◌, List, ℕ, length, map, refl, ap, subst, arith}
use Rattle.std.specs.List.{AllByRecursion}
use Rattle.std.proofs.lemmas.List.{length-map}
use Rattle.std.proofs.lemmas.Result.{IfOk-from_err}
use Rattle.slate_types.specs.declared.types.RowEntry.{RowEntry}
use Rattle.slate_types.specs.declared.error.SlateDBError.TheVariants.{OutOfMemory}
use Rattle.slate_filter.specs.declared.named_filter.NamedFilter.{NamedFilter}
use Rattle.slate_filter.specs.Named.{named_pair}
use Rattle.slate_filter.specs.Policy.{filters_of}
use Rattle.slate_table.specs.SectionReading.{changed_by, covered_by}
use Rattle.slate_table.specs.Table.{FitsFilter, filter_section}
use Rattle.slate_table.proofs.Asking.{unasked, memory_exit}
use Rattle.slate_table.proofs.table_parts.TableParts.append_filters.Goals as goal
use Rattle.slate_types.proofs.Exits.{on_ok_both}

pub returns-in_err-filters : goal.returns-in_err-filters
returns-in_err-filters g c =
    record {
      filtered = IfOk-from_err c.from_residual.result _ c.from_residual.ensures.0;
      asks = unasked (memory_exit c.from_residual.result _ c.from_residual.ensures.1 OutOfMemory c.in_err-filters.ensures.cause);
    }

pub returns : goal.returns
returns g c =
    let p = c.args.self.now in
    let encode = changed_by g.T.BlockTransformer.encoded c.args.transformer.now in
    let policies = map (λ p. (goal.FilterPolicy-dyn g (p.vtable, p.value)).meaning p.value) c.args.policies.now in
    let fs = c.deref-2.result.now in
    let held = c.deref-2.ensures.value in
    let same : map named_pair fs ≡ filters_of policies c.args.min p.rows.items = ap (λ (l : List NamedFilter). map named_pair l) held ∙ c.in_ok-filters.ensures.filters
    ∙ ap (λ (rows : List RowEntry). filters_of policies c.args.min rows) c.deref.ensures.value in
    record {
      filtered = on_ok_both c.append_filter_section.result
          (λ appended fit. record {
            bytes = appended ∙ (λ i. p.bytes.items ++ filter_section (covered_by (c.next_place-place.ensures i)) encode (same i));
            rows = refl;
            format = refl;
            id = refl;
            offsets = refl;
            separators = refl;
            stats = refl;
            keys = refl;
            values = refl;
            each = subst (λ (l : List (List ℕ × List ℕ)). AllByRecursion FitsFilter l) same fit;
            few = (let count = length-map fs named_pair in
                let kept = ap (λ (l : List NamedFilter). length l) held in
                let all = ap (λ (l : List (List ℕ × List ℕ)). length l) same in
                let few = c.in_ok-filters.ensures.names.few in
                omega (arith, count, kept, all, few));
          })
          c.append_filter_section.ensures.appended c.append_filter_section.ensures.fit;
      asks = c.append_filter_section.ensures.asks;
    }
