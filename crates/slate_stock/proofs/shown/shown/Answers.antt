use Rattle.std.proofs.Common.{refl, ◌∙◌}
use Rattle.slate_stock.specs.Reading.{plain_order}
use Rattle.slate_stock.proofs.ShownLaws.{four_show, plain_names, two_show}
use Rattle.slate_stock.proofs.shown.shown.Goals as goal

pub returns-then-are_long : goal.returns-then-are_long
returns-then-are_long c = λ o m js made. c.by_two.ensures (plain_order o)
    (two_show o m c.args.keys.now js c.args.amounts.now c.args.new.now made (c.are_long.ensures.yes c.if-are_long.true).0 c.as_slice.result.now _ c.as_slice-then-are_long.result.now _ _ _ (c.as_slice.ensures ∙ c.index-keys-0.is) (c.as_slice-then-are_long.ensures ∙ c.index-keys-1.is) refl refl)
    (plain_names o made.names)

pub returns-then-are_long-2 : goal.returns-then-are_long-2
returns-then-are_long-2 c = λ o m js made. c.by_four.ensures (plain_order o)
    (four_show o m c.args.keys.now js c.args.amounts.now c.args.new.now made (c.are_long-2.ensures.yes c.if-are_long-2.true).0 c.as_slice-then-are_long-2.result.now _ c.as_slice-then-are_long-2-2.result.now _ _ _ (c.as_slice-then-are_long-2.ensures ∙ c.index-keys-0-then-are_long-2.is) (c.as_slice-then-are_long-2-2.ensures ∙ c.index-keys-1-then-are_long-2.is) c.saturating_sub-quantity.ensures c.saturating_sub-cost.ensures)
    (plain_names o made.names)
