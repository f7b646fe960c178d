use Rattle.std.proofs.Common.{◌+◌, ◌-◌, ◌/◌, ◌<◌, ◌∙◌, length, get_or, sym, ap, arith}
use Rattle.std.proofs.lemmas.Option.{slice_get-get_or}
use Rattle.slate_types.specs.Keys.{key_cmp}
use Rattle.slate_store.proofs.ObjectLaws.{below_on, above_on}
use Rattle.slate_store.proofs.object_list.place.Goals as goal

pub loop-low-preserved-in-Less : goal.loop-low-preserved-in-Less
loop-low-preserved-in-Less c =
    let was = c.loop-low.invariant in
    let os = c.args.objects.now in
    let middle = c.loop-low.low + (c.loop-low.high - c.loop-low.low) / 2 in
    let m = get_or os middle c.index-objects-middle.result in
    let within : middle < length os = omega (arith, was.within) in
    record {
      ordered = omega arith;
      within = was.within;
      before = below_on os c.args.path.now middle m c.requires (slice_get-get_or os middle c.index-objects-middle.result within) (ap (λ k. key_cmp k c.args.path.now) (sym c.as_str.ensures) ∙ sym c.cmp.ensures ∙ c.in-Less.is);
      behind = was.behind;
    }

pub loop-low-preserved : goal.loop-low-preserved
loop-low-preserved c =
    let was = c.loop-low.invariant in
    let os = c.args.objects.now in
    let middle = c.loop-low.low + (c.loop-low.high - c.loop-low.low) / 2 in
    let m = get_or os middle c.index-objects-middle.result in
    let within : middle < length os = omega (arith, was.within) in
    record {
      ordered = omega arith;
      within = omega (arith, was.within);
      before = was.before;
      behind = above_on os c.args.path.now middle m c.requires (slice_get-get_or os middle c.index-objects-middle.result within) (ap (λ k. key_cmp k c.args.path.now) (sym c.as_str.ensures) ∙ sym c.cmp.ensures ∙ c.in-Greater.is);
    }

pub returns-in-Equal : goal.returns-in-Equal
returns-in-Equal c =
    let os = c.args.objects.now in
    let middle = c.loop-low.low + (c.loop-low.high - c.loop-low.low) / 2 in
    let m = get_or os middle c.index-objects-middle.result in
    let within : middle < length os = omega (arith, c.loop-low.invariant.within) in
    (m, slice_get-get_or os middle c.index-objects-middle.result within, ap (λ k. key_cmp k c.args.path.now) (sym c.as_str.ensures) ∙ sym c.cmp.ensures ∙ c.in-Equal.is)

pub returns : goal.returns
returns c = (omega (arith, c.loop-low.invariant.within, c.loop-low.invariant.ordered), c.loop-low.invariant.before, λ i o le is. c.loop-low.invariant.behind i o (omega (arith, le)) is)
