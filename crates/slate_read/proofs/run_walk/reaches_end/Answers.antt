use Rattle.std.proofs.Common.{◌≡◌, ◌∙◌, Bool, true, false, refl, sym, ap, not}
use Rattle.slate_types.specs.Keys.{is_before_end, key_le}
use Rattle.slate_merge.proofs.Newests.{below_included}
use Rattle.slate_read.specs.RunWalk.{reaches_end}
use Rattle.slate_read.proofs.run_walk.reaches_end.Goals as goal

twice : (t : Bool) → not (not t) ≡ t
twice true = refl
twice false = refl

pub returns-in-Included : goal.returns-in-Included
returns-in-Included c =
    let first = c.as_slice-first.result.now in
    ap not (c.puts_before.ensures ∙ below_included c.in-Included.end.now first) ∙ twice (key_le first c.in-Included.end.now) ∙ ap (λ b. is_before_end b first) c.in-Included.ensures
    ∙ ap (is_before_end c.args.range.now.end) c.as_slice-first.ensures ∙ sym (ap (reaches_end c.args.range.now) c.in-Some.is)
