use Rattle.std.proofs.Common.{inl, inr, refl}
use Rattle.slate_merge.proofs.heads.put_next.Goals as goal

pub returns-in-Ok-clause-joins : goal.returns-in-Ok-clause-joins
returns-in-Ok-clause-joins g c =
    let n = rw c.in-Ok-Some.field-0-is at c.in-Ok-Some.ensures in
    inr (c.in-Ok-Some.next, c.next.new.self, record { step = record { rows = n.rows; still = n.still; checked = n.checked; taken = n.taken }; order = n.order; smaller = n.smaller }, (rw c.replace-first.ensures.after at c.in-Ok.ensures.permutation))

pub returns-in-Ok-None-clause-joins : goal.returns-in-Ok-None-clause-joins
returns-in-Ok-None-clause-joins g c =
    let n = rw c.in-Ok-None.field-0-is at c.in-Ok-None.ensures in
    inl (c.next.new.self, record { step = record { rows = n.rows; still = n.still; checked = n.checked; taken = n.taken }; order = n.order; smaller = n.smaller }, refl)
