use Rattle.slate_script.proofs.Running.{one_moment}
use Rattle.slate_hostile.proofs.again.answer.Goals as goal

pub in_stead-requires : goal.in_stead-requires
in_stead-requires g c =
    let meant = rw c.in-Ok-Some.field-0-is at c.in-Ok-Some.ensures.meant in
    one_moment c.in_ok-line.line.items c.in-Ok-Some.meaning meant.1
