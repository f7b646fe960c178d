use Rattle.std.proofs.Common.{◌≡◌, ◌+◌, ◌-◌, ap, sym, ◌∙◌, arith, take}
use Rattle.std.specs.declared.ops.Bound.TheVariants.{Excluded}
use Rattle.slate_types.specs.Keys.{successor, excluded_or_open}
use Rattle.slate_types.proofs.Increment.{raised}
use Rattle.slate_types.proofs.bytes_range.end_of_prefix.Goals as goal

pub returns : goal.returns
returns c =
    let p = c.args.prefix.now in
    let len = c.kept_len-len.result in
    let whole : (len - 1) + 1 ≡ len = omega arith in
    ap Excluded c.in_ok-joined.ensures
    ∙ sym (ap excluded_or_open (sym c.kept_len-len.ensures.same ∙ ap (λ m. successor (take m p)) (sym whole) ∙ raised p (len - 1) (omega arith) (c.kept_len-len.ensures.last (omega arith))))
