-- Heads of sources, and their order in a heap.
--     head_cmp a b      the head whose row comes first is the greater
--     head_total      this is an order
use Rattle.std.specs.declared.cmp.Ordering.{Ordering}
use Rattle.std.specs.Ordering.{nat_cmp, on, flip_args, then_cmp}
use Rattle.std.specs.Cmp.{IsTotalOrder}
use Rattle.std.specs.Cmp.Rules.{comparing}
use Rattle.std.proofs.Common.{rules}
use Rattle.slate_types.specs.Keys.{key_cmp}
use Rattle.slate_merge.specs.declared.head.Head.{Head}
use Rattle.slate_merge.specs.Orders.{order_rank, rising_key, falling_key}

module _ {S : Type 0} where
  abbrev pub head_cmp : Head S → Head S → Ordering
  head_cmp = then_cmp (flip_args (on (λ h. order_rank h.order) nat_cmp)) (then_cmp (flip_args (on (λ h. rising_key h.order h.row.key) key_cmp)) (then_cmp (on (λ h. falling_key h.order h.row.key) key_cmp) (then_cmp (on (λ h. h.row.seq) nat_cmp) (on (λ h. h.behind) nat_cmp))))

  pub head_total : IsTotalOrder head_cmp
  head_total = search (comparing, rules) depth 12
