use Rattle.std.proofs.Common.{◌∙◌, ◌||◌, ap, not, sym}
use Rattle.slate_types.specs.Keys.{key_le}
use Rattle.slate_merge.proofs.Newests.{below_included}
use Rattle.slate_read.proofs.SegmentRuns.{not_twice}
use Rattle.slate_read.proofs.segment_merge_iterator.is_front_or_above.Goals as goal

pub returns-else-starts_with : goal.returns-else-starts_with
returns-else-starts_with c =
    let key = c.args.key.now in
    let prefix = c.args.prefix.now in
    ap not (c.puts_before.ensures ∙ below_included prefix key) ∙ not_twice (key_le key prefix)
    ∙ sym (ap (λ t. t || key_le key prefix) (sym c.starts_with.ensures.value ∙ c.if-starts_with.false))
