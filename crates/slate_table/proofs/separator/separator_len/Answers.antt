use Rattle.std.proofs.Common.{◌∙◌, sym, ap, ℕ, ◌+◌, take}
use Rattle.slate_table.proofs.Separators.{whole_key, short_front, all_shared}
use Rattle.slate_table.proofs.separator.separator_len.Goals as goal

pub returns-then-eq-clause-value : goal.returns-then-eq-clause-value
returns-then-eq-clause-value c = whole_key c.args.previous.now c.args.key.now (sym c.eq.ensures ∙ c.if-eq.true)

pub returns-then-shared-key-clause-value : goal.returns-then-shared-key-clause-value
returns-then-shared-key-clause-value c =
    ap (λ (n : ℕ). take (n + 1) c.args.key.now) c.compute_prefix-shared.ensures
    ∙ short_front c.args.previous.now c.args.key.now (sym c.eq.ensures ∙ c.if-eq.false)

pub returns-else-shared-key-clause-value : goal.returns-else-shared-key-clause-value
returns-else-shared-key-clause-value c =
    all_shared c.args.previous.now c.args.key.now (sym c.eq.ensures ∙ c.if-eq.false) (rw c.compute_prefix-shared.ensures at c.if-shared-key.false)
