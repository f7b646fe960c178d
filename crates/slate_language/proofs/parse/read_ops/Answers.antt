use Rattle.std.proofs.Common.{◌+◌, ◌-◌, ◌++◌, take, drop, option_map, Some, sym, ap, ◌∙◌, append-nil, arith}
use Rattle.std.proofs.lemmas.List.{drop_all}
use Rattle.std.proofs.lemmas.Result.{IfOk-from_err}
use Rattle.slate_language.specs.Built.{built_op, built_ops}
use Rattle.slate_language.proofs.OpLaws.{own_within, ops_refused, ops_taken}
use Rattle.slate_language.proofs.parse.read_ops.Goals as goal

pub returns-in_default : goal.returns-in_default
returns-in_default c = record {
  ops = ops_refused c.args.tokens.now c.loop-at.at c.own_len.result c.index-tokens-at.result c.loop-at.ops.items c.in_ok-op.field-0 c.loop-at-test.true c.loop-at.invariant.ops
      c.own_len.ensures.len
      (c.in_ok-op.ensures.op ∙ ap (λ w. built_op w (take (c.loop-at.at + 1 + c.own_len.result - (c.loop-at.at + 1)) (drop (c.loop-at.at + 1) c.args.tokens.now))) (c.text.ensures ∙ c.index-tokens-at.is))
      c.in_default.is;
}

pub loop-at-preserved : goal.loop-at-preserved
loop-at-preserved c =
    let later = built_ops (drop (c.loop-at.at + 1 + c.own_len.result) c.args.tokens.now) in
    record {
      within = own_within c.args.tokens.now c.loop-at.at c.own_len.result c.loop-at-test.true c.own_len.ensures.within;
      ops =
          ap (λ xs. option_map (λ os. xs ++ os) later) c.in_ok-push.ensures.items
          ∙ ops_taken c.args.tokens.now c.loop-at.at c.own_len.result c.index-tokens-at.result c.loop-at.ops.items c.in_ok-op.field-0 c.in-Some.op c.loop-at-test.true
          c.loop-at.invariant.ops c.own_len.ensures.len
          (c.in_ok-op.ensures.op ∙ ap (λ w. built_op w (take (c.loop-at.at + 1 + c.own_len.result - (c.loop-at.at + 1)) (drop (c.loop-at.at + 1) c.args.tokens.now))) (c.text.ensures ∙ c.index-tokens-at.is))
          c.in-Some.is;
    }

pub returns-in_err-op : goal.returns-in_err-op
returns-in_err-op c = record { ops = IfOk-from_err c.from_residual.result _ c.from_residual.ensures.0 }

pub returns-in_err-push : goal.returns-in_err-push
returns-in_err-push c = record { ops = IfOk-from_err c.from_residual-in_err-push.result _ c.from_residual-in_err-push.ensures.0 }

pub returns : goal.returns
returns c = record {
  ops =
      ap Some (sym (append-nil c.loop-at.ops.items))
      ∙ ap (λ ts. option_map (λ os. c.loop-at.ops.items ++ os) (built_ops ts)) (sym (drop_all c.loop-at.at c.args.tokens.now (omega arith)))
      ∙ c.loop-at.invariant.ops;
}
