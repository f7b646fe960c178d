use Rattle.std.proofs.Common.{◌∙◌, ℕ, List, inl, inr, refl, sym, w64}
use Rattle.std.proofs.lemmas.Int.{to_z-of_z}
use Rattle.slate_types.proofs.Exits.{err_exit, on_err}
use Rattle.slate_stock.specs.Attempting.{IsDbCauseOn, IsDbTruthOn, IsOrderTruthOn}
use Rattle.slate_stock.proofs.AttemptLaws.{ordered_then, orders_then, same_then, stays_only, stepped_then}
use Rattle.slate_stock.proofs.EndLaws.{first_shown, form_refused}
use Rattle.slate_stock.proofs.on_pass.run_order.Goals as goal

pub returns-in-Some-clause-only : goal.returns-in-Some-clause-only
returns-in-Some-clause-only g c = stays_only c.args.pass.now c.args.pass.now refl

pub returns-in-Some-clause-left : goal.returns-in-Some-clause-left
returns-in-Some-clause-left g c = inl refl

pub returns-in-Some-clause-cause : goal.returns-in-Some-clause-cause
returns-in-Some-clause-cause g c = inr (inr (λ k. 0, form_refused (λ (k : List ℕ). 0) c.args.order.now c.in-Some.error (sym c.in-Some.ensures)))

pub returns-in-Some-clause-refused : goal.returns-in-Some-clause-refused
returns-in-Some-clause-refused g c = λ holds. IsOrderTruthOn.shown (sym c.in-Some.ensures) refl refl

pub returns-in-Some-clause-first : goal.returns-in-Some-clause-first
returns-in-Some-clause-first g c = λ e is. (first_shown c.in-Some.error e (c.in-Some.ensures ∙ is), refl, refl)

pub returns-in_err-keys-clause-only : goal.returns-in_err-keys-clause-only
returns-in_err-keys-clause-only g c = on_err c.from_residual.result (stays_only c.args.pass.now c.args.pass.now refl)

pub returns-in_err-keys-clause-left : goal.returns-in_err-keys-clause-left
returns-in_err-keys-clause-left g c = err_exit c.from_residual.result _ c.from_residual.ensures.1 _ (inl refl)

pub returns-in_err-keys-clause-cause : goal.returns-in_err-keys-clause-cause
returns-in_err-keys-clause-cause g c = err_exit c.from_residual.result _ c.from_residual.ensures.1 _ (inl (IsDbCauseOn.fault tt))

pub returns-in_err-keys-clause-refused : goal.returns-in_err-keys-clause-refused
returns-in_err-keys-clause-refused g c = λ holds. err_exit c.from_residual.result _ c.from_residual.ensures.1 _ (IsOrderTruthOn.database (IsDbTruthOn.fault (λ s. tt)))

pub returns-clause-committed : goal.returns-clause-committed
returns-clause-committed g c =
    ordered_then g.P.Parts.options c.args.order.now _ c.args.now c.args.pass.now c.make_order-made.new.pass c.make_order-made.result (to_z-of_z w64 c.args.now c.ranges.now) c.make_order-made.ensures.committed

pub returns-clause-answer : goal.returns-clause-answer
returns-clause-answer g c = λ holds.
    stepped_then g.P.Parts.options g.P.Parts.meaning c.args.order.now _ c.args.now c.args.pass.now c.make_order-made.new.pass c.make_order-made.result (to_z-of_z w64 c.args.now c.ranges.now) (c.make_order-made.ensures.answer holds)

pub returns-clause-orders : goal.returns-clause-orders
returns-clause-orders g c =
    orders_then g.P.Parts.options g.P.Parts.meaning c.args.order.now _ c.args.pass.now c.make_order-made.new.pass c.make_order-made.result c.make_order-made.ensures.committed

pub returns-clause-same : goal.returns-clause-same
returns-clause-same g c = same_then g.P.Parts.options c.args.order.now _ c.args.pass.now c.make_order-made.new.pass c.make_order-made.result c.make_order-made.ensures.committed c.make_order-made.ensures.only

pub returns-in-Some-clause-counts : goal.returns-in-Some-clause-counts
returns-in-Some-clause-counts g c = refl

pub returns-in_err-keys-clause-counts : goal.returns-in_err-keys-clause-counts
returns-in_err-keys-clause-counts g c = refl

pub returns-clause-counts : goal.returns-clause-counts
returns-clause-counts g c = c.make_order-made.ensures.counts
