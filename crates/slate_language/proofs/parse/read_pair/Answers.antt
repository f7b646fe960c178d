use Rattle.std.proofs.Common.{sym, ap, ◌∙◌}
use Rattle.std.proofs.lemmas.Result.{IfOk-from_err}
use Rattle.slate_language.proofs.OpLaws.{with_third, pair_is, pair_unread}
use Rattle.slate_language.proofs.parse.read_pair.Goals as goal

pub returns-in_default-read_last_ttl : goal.returns-in_default-read_last_ttl
returns-in_default-read_last_ttl c = record { pair = pair_unread c.args.tokens.now c.in-len2-up.len_at_least (sym c.read_last_ttl.ensures ∙ c.in_default-read_last_ttl.is) }

pub returns-in-Some-2 : goal.returns-in-Some-2
returns-in-Some-2 c = record {
  pair = (λ i. with_third (sym c.in-Some-2.is i) (sym c.in-Some.is i))
      ∙ pair_is c.args.tokens.now c.key-item.result c.value-item.result c.in_ok-key.field-0 c.read_last_ttl.result c.in-len2-up.len_at_least c.key-item.is c.value-item.is c.in_ok-key.ensures.bytes c.read_last_ttl.ensures;
}

pub returns-in-None : goal.returns-in-None
returns-in-None c = record {
  pair = ap (λ p. with_third p c.read_last_ttl.result) (sym c.in-None.is)
      ∙ pair_is c.args.tokens.now c.key-item.result c.value-item.result c.in_ok-key.field-0 c.read_last_ttl.result c.in-len2-up.len_at_least c.key-item.is c.value-item.is c.in_ok-key.ensures.bytes c.read_last_ttl.ensures;
}

pub returns-in_err-key : goal.returns-in_err-key
returns-in_err-key c = record { pair = IfOk-from_err c.from_residual.result _ c.from_residual.ensures.0 }
