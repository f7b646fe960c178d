use Rattle.std.proofs.Common.{◌∙◌, sym, arith}
use Rattle.std.proofs.lemmas.Result.{IfOk-weaker}
use Rattle.slate_block.proofs.Groups.{decoded, refused}
use Rattle.slate_block.proofs.varint.decode_varint.Goals as goal

pub returns-clause-within : goal.returns-clause-within
returns-clause-within c = IfOk-weaker c.ok_or.result _ _ (λ x h. h.0) (decoded c.args.input.now c.ok_or.result (λ i. omega (arith, c.type_inv.input i)) (sym c.first_varint.ensures.value ∙ c.ok_or.ensures.ok_part))

pub returns-clause-found : goal.returns-clause-found
returns-clause-found c = IfOk-weaker c.ok_or.result _ _ (λ x h. h.1) (decoded c.args.input.now c.ok_or.result (λ i. omega (arith, c.type_inv.input i)) (sym c.first_varint.ensures.value ∙ c.ok_or.ensures.ok_part))

pub returns-clause-none : goal.returns-clause-none
returns-clause-none c = refused c.args.input.now c.ok_or.result (sym c.first_varint.ensures.value ∙ c.ok_or.ensures.ok_part)
