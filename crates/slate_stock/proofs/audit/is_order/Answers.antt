use Rattle.std.proofs.Common.{Ok, map, refl, sym, ap, subst}
use Rattle.std.specs.Prelude.{IfSome}
use Rattle.slate_stock.specs.Legs.{AreSteps, IsPut, IsRead}
use Rattle.slate_stock.specs.Orders.{order_keys, order_moves}
use Rattle.slate_stock.proofs.LegLaws.{back_puts, front_reads, made_order, none_left, none_made, none_shown, shows_as}
use Rattle.slate_stock.proofs.audit.is_order.Goals as goal

pub returns-in_default-clause-no : goal.returns-in_default-clause-no
returns-in_default-clause-no c = λ is o m by.
    c.in_ok-reads.ensures.none (ap Ok c.in_default.is) (order_keys o) (map m (order_keys o)) (subst (AreSteps IsRead (order_keys o) (map m (order_keys o))) (sym c.split_at.ensures.front) (front_reads o m c.args.ops.now c.args.tracked.now c.args.steps.now by))

pub returns-in_default-2-clause-no : goal.returns-in_default-2-clause-no
returns-in_default-2-clause-no c = λ is o m by.
    c.in_ok-puts.ensures.none (ap Ok c.in_default-2.is) (order_keys o) (map (λ p. p.1) (order_moves m o)) (subst (AreSteps IsPut (order_keys o) (map (λ p. p.1) (order_moves m o))) (sym c.split_at.ensures.back) (back_puts o m c.args.ops.now c.args.tracked.now c.args.steps.now by))

pub returns-in_default-3-clause-no : goal.returns-in_default-3-clause-no
returns-in_default-3-clause-no c = λ is.
    none_shown c.args.ops.now c.args.tracked.now c.args.steps.now c.in-Some.reads.keys.items c.in-Some-2.puts.keys.items c.in-Some.reads.amounts.items c.in-Some-2.puts.amounts.items c.in_ok-order.field-0
    (subst (AreSteps IsRead c.in-Some.reads.keys.items c.in-Some.reads.amounts.items) c.split_at.ensures.front (subst (λ o. IfSome o (λ legs. AreSteps IsRead legs.keys.items legs.amounts.items c.split_at.result.0.now)) c.in-Some.is c.in_ok-reads.ensures.some))
    (subst (AreSteps IsPut c.in-Some-2.puts.keys.items c.in-Some-2.puts.amounts.items) c.split_at.ensures.back (subst (λ o. IfSome o (λ legs. AreSteps IsPut legs.keys.items legs.amounts.items c.split_at.result.1.now)) c.in-Some-2.is c.in_ok-puts.ensures.some))
    (shows_as c.in_ok-order.field-0 c.in-Some.reads.keys.items c.as_slice.result.now c.in-Some.reads.amounts.items c.as_slice-2.result.now c.in-Some-2.puts.amounts.items c.as_slice-3.result.now c.as_slice.ensures.value c.as_slice-2.ensures.value c.as_slice-3.ensures.value c.in_ok-order.ensures) c.in_default-3.is

pub returns-then-not-branch-clause-no : goal.returns-then-not-branch-clause-no
returns-then-not-branch-clause-no c = λ is.
    none_made c.args.ops.now c.args.tracked.now c.args.steps.now c.in-Some.reads.keys.items c.in-Some-2.puts.keys.items c.in-Some.reads.amounts.items c.in-Some-2.puts.amounts.items c.in_ok-order.field-0 c.in-Some-3.order
    (subst (AreSteps IsRead c.in-Some.reads.keys.items c.in-Some.reads.amounts.items) c.split_at.ensures.front (subst (λ o. IfSome o (λ legs. AreSteps IsRead legs.keys.items legs.amounts.items c.split_at.result.0.now)) c.in-Some.is c.in_ok-reads.ensures.some))
    (subst (AreSteps IsPut c.in-Some-2.puts.keys.items c.in-Some-2.puts.amounts.items) c.split_at.ensures.back (subst (λ o. IfSome o (λ legs. AreSteps IsPut legs.keys.items legs.amounts.items c.split_at.result.1.now)) c.in-Some-2.is c.in_ok-puts.ensures.some))
    (shows_as c.in_ok-order.field-0 c.in-Some.reads.keys.items c.as_slice.result.now c.in-Some.reads.amounts.items c.as_slice-2.result.now c.in-Some-2.puts.amounts.items c.as_slice-3.result.now c.as_slice.ensures.value c.as_slice-2.ensures.value c.as_slice-3.ensures.value c.in_ok-order.ensures) c.in-Some-3.is (c.in_ok-is_made.ensures.no (ap Ok c.if-not-branch.true))

pub returns-clause-yes : goal.returns-clause-yes
returns-clause-yes c = λ is.
    made_order c.args.ops.now c.args.tracked.now c.args.steps.now c.in-Some.reads.keys.items c.in-Some-2.puts.keys.items c.in-Some.reads.amounts.items c.in-Some-2.puts.amounts.items c.in-Some-3.order
    (subst (AreSteps IsRead c.in-Some.reads.keys.items c.in-Some.reads.amounts.items) c.split_at.ensures.front (subst (λ o. IfSome o (λ legs. AreSteps IsRead legs.keys.items legs.amounts.items c.split_at.result.0.now)) c.in-Some.is c.in_ok-reads.ensures.some))
    (subst (AreSteps IsPut c.in-Some-2.puts.keys.items c.in-Some-2.puts.amounts.items) c.split_at.ensures.back (subst (λ o. IfSome o (λ legs. AreSteps IsPut legs.keys.items legs.amounts.items c.split_at.result.1.now)) c.in-Some-2.is c.in_ok-puts.ensures.some)) (c.in_ok-is_made.ensures.yes (ap Ok c.if-not-branch.false)) (c.is_left.ensures.yes is)

pub returns-clause-no : goal.returns-clause-no
returns-clause-no c = λ is.
    none_left c.args.ops.now c.args.tracked.now c.args.steps.now c.in-Some.reads.keys.items c.in-Some-2.puts.keys.items c.in-Some.reads.amounts.items c.in-Some-2.puts.amounts.items
    (subst (AreSteps IsRead c.in-Some.reads.keys.items c.in-Some.reads.amounts.items) c.split_at.ensures.front (subst (λ o. IfSome o (λ legs. AreSteps IsRead legs.keys.items legs.amounts.items c.split_at.result.0.now)) c.in-Some.is c.in_ok-reads.ensures.some))
    (subst (AreSteps IsPut c.in-Some-2.puts.keys.items c.in-Some-2.puts.amounts.items) c.split_at.ensures.back (subst (λ o. IfSome o (λ legs. AreSteps IsPut legs.keys.items legs.amounts.items c.split_at.result.1.now)) c.in-Some-2.is c.in_ok-puts.ensures.some)) (λ h. c.is_left.ensures.no is h.0 h.1)
