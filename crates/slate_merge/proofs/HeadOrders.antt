-- The order of two heads, where keys are compared once, in the order of the one.
use Rattle.std.proofs.Common.{◌≡◌, ℕ, List, refl, Ordering}
use Rattle.std.specs.Ordering.{nat_cmp, ordering_then}
use Rattle.slate_types.specs.declared.iter.IterationOrder.{IterationOrder}
use Rattle.slate_types.specs.declared.iter.IterationOrder.TheVariants.{Ascending, Descending}
use Rattle.slate_types.specs.Keys.{key_cmp}
use Rattle.slate_types.specs.RowTurns.{key_order}
use Rattle.slate_merge.specs.Orders.{order_rank, rising_key, falling_key}

pub compared_once : (o p : IterationOrder) (k l : List ℕ) (places : Ordering)
    → ordering_then (nat_cmp (order_rank p) (order_rank o)) (ordering_then (key_order o l k) places)
    ≡ ordering_then (nat_cmp (order_rank p) (order_rank o)) (ordering_then (key_cmp (rising_key p l) (rising_key o k)) (ordering_then (key_cmp (falling_key o k) (falling_key p l)) places))
compared_once Ascending Ascending k l places = refl
compared_once Ascending Descending k l places = refl
compared_once Descending Ascending k l places = refl
compared_once Descending Descending k l places = refl
