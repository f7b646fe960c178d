use Rattle.std.proofs.Common.{◌≡◌, ◌&&◌, bytes_eq, drop, subst, to_z-of_z}
use Rattle.slate_queue.specs.Forms.{raises}
use Rattle.slate_queue.proofs.FormLaws.{leased_by}
use Rattle.slate_queue.proofs.stored.is_leased.Goals as goal

pub returns-in-Some-lease_in : goal.returns-in-Some-lease_in
returns-in-Some-lease_in c =
    leased_by c.args.now c.args.job.now c.args.new.now c.in-Some.lease c.in-Some-lease_in.next c.is_next.result c.in-Some.ensures.lease c.in-Some-lease_in.ensures.lease
    (subst (λ z. c.is_next.result ≡ (raises z c.in-Some.lease c.in-Some-lease_in.next && bytes_eq (drop 16 c.args.new.now) (drop 16 c.args.job.now))) (to_z-of_z c.ranges.now) c.is_next.ensures)
