use Rattle.std.proofs.Common.{◌+◌, ◌++◌, drop, option_map, ap, ◌∙◌}
use Rattle.std.proofs.lemmas.Result.{IfOk-from_err}
use Rattle.slate_language.specs.Parse.{read_all, read_bytes}
use Rattle.slate_language.proofs.OpLaws.{each_refused, each_taken}
use Rattle.slate_language.proofs.parse.read_keys.Goals as goal

pub returns-in_default : goal.returns-in_default
returns-in_default c = record {
  keys = each_refused read_bytes c.args.tokens.now c.loop-token.token-index c.token-item.result c.loop-token.keys.items c.in_ok-key.field-0 c.loop-token-test.true c.loop-token.invariant
      (c.in_ok-key.ensures.bytes ∙ ap read_bytes c.token-item.is) c.in_default.is;
}

pub loop-token-preserved : goal.loop-token-preserved
loop-token-preserved c =
    let later = read_all read_bytes (drop (c.loop-token.token-index + 1) c.args.tokens.now) in
    ap (λ xs. option_map (λ ks. xs ++ ks) later) c.in_ok-push.ensures.items
    ∙ each_taken read_bytes c.args.tokens.now c.loop-token.token-index c.token-item.result c.loop-token.keys.items c.in_ok-key.field-0 c.in-Some.key c.loop-token-test.true c.loop-token.invariant
    (c.in_ok-key.ensures.bytes ∙ ap read_bytes c.token-item.is) c.in-Some.is

pub returns-in_err-key : goal.returns-in_err-key
returns-in_err-key c = record { keys = IfOk-from_err c.from_residual.result _ c.from_residual.ensures.0 }

pub returns-in_err-push : goal.returns-in_err-push
returns-in_err-push c = record { keys = IfOk-from_err c.from_residual-in_err-push.result _ c.from_residual-in_err-push.ensures.0 }
