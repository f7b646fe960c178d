use Rattle.std.proofs.Common.{◌∙◌, ◌++◌, List, ℕ, ap, subst, sym}
use Rattle.std.proofs.lemmas.Result.{IfOk-from_err, err_from_is_err_and}
use Rattle.std.proofs.lemmas.List.Folds.{flat_map-map}
use Rattle.slate_filter.specs.declared.named_filter.NamedFilter.{NamedFilter}
use Rattle.slate_filter.specs.Named.{named_pair}
use Rattle.slate_table.specs.Parts.{filter_bytes}
use Rattle.slate_table.specs.Table.{FitsFilter}
use Rattle.slate_table.proofs.Grown.{one_grown, one_holds, all_grew, all_hold}
use Rattle.slate_table.proofs.filters_writing.append_each.Goals as goal
use Rattle.slate_types.proofs.Lists.{AllByRecursion_map}

pub returns-in_err-append_filter : goal.returns-in_err-append_filter
returns-in_err-append_filter c =
    let p = err_from_is_err_and c.from_residual.result c.from_residual.ensures.1 in
    record {
      appended = IfOk-from_err c.from_residual.result _ c.from_residual.ensures.0;
      fit = IfOk-from_err c.from_residual.result _ c.from_residual.ensures.0;
      cause = rw (p.1, p.2) c.in_err-append_filter.ensures.cause;
    }

pub loop-filter-preserved : goal.loop-filter-preserved
loop-filter-preserved c =
    let i = c.loop-filter.filter-index in
    let filters = c.args.filters.now in
    let low = c.loop-filter-test.true in
    record {
      appended = one_grown (λ (f : NamedFilter). filter_bytes (named_pair f)) filters i _ c.args.out.now.items c.loop-filter.out.items c.append_filter.new.out.items low c.loop-filter.invariant.appended
          (c.in_ok-append_filter.ensures.appended ∙ ap (λ (f : NamedFilter). c.loop-filter.out.items ++ filter_bytes (named_pair f)) c.filter-item.is);
      fit = one_holds (λ (f : NamedFilter). FitsFilter (named_pair f)) filters i _ low c.loop-filter.invariant.fit (subst (λ (f : NamedFilter). FitsFilter (named_pair f)) c.filter-item.is c.in_ok-append_filter.ensures.fits);
    }

pub returns : goal.returns
returns c =
    let filters = c.args.filters.now in
    record {
      appended = all_grew (λ (f : NamedFilter). filter_bytes (named_pair f)) filters c.loop-filter.filter-index c.args.out.now.items c.loop-filter.out.items c.loop-filter-test.false c.loop-filter.invariant.appended
          ∙ ap (λ (l : List ℕ). c.args.out.now.items ++ l) (sym (flat_map-map filter_bytes named_pair filters));
      fit = AllByRecursion_map named_pair FitsFilter filters (all_hold (λ (f : NamedFilter). FitsFilter (named_pair f)) filters c.loop-filter.filter-index c.loop-filter-test.false c.loop-filter.invariant.fit);
      cause = tt;
    }
