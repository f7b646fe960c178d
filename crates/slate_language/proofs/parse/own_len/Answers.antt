use Rattle.std.proofs.Common.{◌<◌, length, sym, ap, ◌∙◌, arith}
use Rattle.slate_language.specs.Built.{is_op_word}
use Rattle.slate_language.proofs.OpLaws.{own_ends, own_more}
use Rattle.slate_language.proofs.parse.own_len.Goals as goal

pub loop-i-preserved : goal.loop-i-preserved
loop-i-preserved c =
    let within : c.loop-i.i < length c.args.tokens.now = omega arith in
    let word = c.text.ensures ∙ c.index-tokens-i.is in
    let more = own_more c.args.tokens.now c.loop-i.i c.index-tokens-i.result within (ap is_op_word (sym word) ∙ sym c.is_op_word.ensures ∙ c.if-is_op_word.false) in
    omega (arith, c.loop-i.invariant, more)

pub returns-then-is_op_word-clause-len : goal.returns-then-is_op_word-clause-len
returns-then-is_op_word-clause-len c =
    let within : c.loop-i.i < length c.args.tokens.now = omega arith in
    let word = c.text.ensures ∙ c.index-tokens-i.is in
    let ends = own_ends c.args.tokens.now c.loop-i.i c.index-tokens-i.result within (ap is_op_word (sym word) ∙ sym c.is_op_word.ensures ∙ c.if-is_op_word.true) in
    omega (arith, c.loop-i.invariant, ends)
