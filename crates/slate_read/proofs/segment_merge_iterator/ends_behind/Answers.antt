use Rattle.std.proofs.Common.{◌∙◌, ap, not}
use Rattle.slate_types.specs.Keys.{is_before_end, key_le}
use Rattle.slate_merge.proofs.Newests.{below_included}
use Rattle.slate_read.proofs.SegmentRuns.{not_twice}
use Rattle.slate_read.proofs.segment_merge_iterator.ends_behind.Goals as goal

pub returns-in-Included : goal.returns-in-Included
returns-in-Included c =
    let key = c.args.key.now in
    let end = c.in-Included.end.now in
    ap not (c.puts_before.ensures ∙ below_included end key) ∙ not_twice (key_le key end) ∙ ap (λ b. is_before_end b key) c.in-Included.ensures
