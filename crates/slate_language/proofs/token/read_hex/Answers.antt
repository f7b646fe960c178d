use Rattle.std.proofs.Common.{Some, ap, sym, ◌∙◌}
use Rattle.std.proofs.lemmas.Result.{IfOk-from_err}
use Rattle.slate_language.proofs.TokenLaws.{read_of, hex_read, hex_refused, hex_other}
use Rattle.slate_language.proofs.token.read_hex.Goals as goal

pub returns-then-not-is_hex : goal.returns-then-not-is_hex
returns-then-not-is_hex c = record { bytes = sym (hex_other c.args.digits.now (sym c.is_hex.ensures ∙ c.if-not-is_hex.true)) }

pub returns-in_ok-from_vec-in-Ok : goal.returns-in_ok-from_vec-in-Ok
returns-in_ok-from_vec-in-Ok c = record {
  bytes =
      ap Some c.in_ok-from_vec-in-Ok.ensures.ok ∙ ap read_of (sym c.in-Ok.ensures.ok)
      ∙ hex_read c.args.digits.now (sym c.is_hex.ensures ∙ c.if-not-is_hex.false);
}

pub returns-in_default : goal.returns-in_default
returns-in_default c = record {
  bytes = hex_refused c.args.digits.now c.in-Err.error (sym c.is_hex.ensures ∙ c.if-not-is_hex.false) c.in_default.not-OutOfMemory c.in-Err.ensures.err;
}

pub returns-in_err-from_vec-in-Ok : goal.returns-in_err-from_vec-in-Ok
returns-in_err-from_vec-in-Ok c = record { bytes = IfOk-from_err c.from_residual.result _ c.from_residual.ensures.0 }
