use Rattle.std.proofs.Common.{ℕ, List, option_map, sym, ap, ◌∙◌}
use Rattle.std.specs.declared.ops.Bound.{Bound}
use Rattle.slate_txn.specs.declared.line.ScanStep.{ScanStep}
use Rattle.slate_txn.specs.declared.line.Line.TheVariants as lines
use Rattle.slate_language.specs.Parse.{read_order}
use Rattle.slate_language.proofs.OpLaws.{prefix_is, prefix_unread}
use Rattle.slate_language.proofs.parse.read_prefix.Goals as goal

pub returns-in_default-2 : goal.returns-in_default-2
returns-in_default-2 c = record {
  line = prefix_unread c.args.tokens.now c.name-item.result c.prefix-item.result c.in-len3-up.len_at_least c.name-item.is c.prefix-item.is (sym c.in_default-2.is ∙ c.in_ok-name.ensures.pair);
}

pub returns-in-Ok-Some : goal.returns-in-Ok-Some
returns-in-Ok-Some c = record {
  line = ap (option_map (λ (q : Bound (List ℕ) × Bound (List ℕ) × List ScanStep). lines.Prefix c.in-Some-2.name c.in-Some.order c.in-Some-2.prefix q.0 q.1 q.2)) (sym c.in-Ok-Some.field-0-is)
      ∙ prefix_is c.args.tokens.now c.name-item.result c.order-item.result c.prefix-item.result c.in-Some-2.name c.in-Some-2.prefix c.in-Some.order c.in-Ok-Some.field-0 c.in-len3-up.len_at_least
      c.name-item.is c.order-item.is c.prefix-item.is (sym c.in-Some-2.is ∙ c.in_ok-name.ensures.pair) (sym c.in-Some.is ∙ c.read_order.ensures ∙ ap read_order c.text.ensures) c.in-Ok-Some.ensures.way;
}

pub returns-in-Ok-None : goal.returns-in-Ok-None
returns-in-Ok-None c = record {
  line = ap (option_map (λ (q : Bound (List ℕ) × Bound (List ℕ) × List ScanStep). lines.Prefix c.in-Some-2.name c.in-Some.order c.in-Some-2.prefix q.0 q.1 q.2)) (sym c.in-Ok-None.field-0-is)
      ∙ prefix_is c.args.tokens.now c.name-item.result c.order-item.result c.prefix-item.result c.in-Some-2.name c.in-Some-2.prefix c.in-Some.order c.in-Ok-None.field-0 c.in-len3-up.len_at_least
      c.name-item.is c.order-item.is c.prefix-item.is (sym c.in-Some-2.is ∙ c.in_ok-name.ensures.pair) (sym c.in-Some.is ∙ c.read_order.ensures ∙ ap read_order c.text.ensures) c.in-Ok-None.ensures.way;
}
