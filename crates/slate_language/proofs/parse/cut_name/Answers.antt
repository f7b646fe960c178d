use Rattle.std.proofs.Common.{◌≡◌, Some, ap, sym, ◌∙◌}
use Rattle.std.proofs.lemmas.Result.{IfOk-from_err}
use Rattle.slate_language.specs.Parse.{read_name}
use Rattle.slate_language.proofs.ParseOnly.{name_only}
use Rattle.slate_language.proofs.parse.cut_name.Goals as goal

pub returns-in_ok-cut-in-Some : goal.returns-in_ok-cut-in-Some
returns-in_ok-cut-in-Some c =
    let name = c.in-Some.field-0.now in
    let read : read_name c.args.token.now ≡ Some name = ap read_name (sym c.text.ensures) ∙ sym c.in-Some.ensures.name in
    record { name = ap Some (c.in_ok-cut-in-Some.ensures.bytes ∙ (name_only c.args.token.now name read).1) ∙ sym read }

pub returns-in_err-cut-in-Some : goal.returns-in_err-cut-in-Some
returns-in_err-cut-in-Some c = record { name = IfOk-from_err c.from_residual.result _ c.from_residual.ensures.0 }
