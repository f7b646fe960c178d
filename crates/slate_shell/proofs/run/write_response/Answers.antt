use Rattle.std.proofs.Common.{[], ◌∙◌, inl, refl}
use Rattle.std.proofs.lemmas.Result.{err_from_is_err_and}
use Rattle.slate_shell.proofs.Responding.{unwritten, wrote}
use Rattle.slate_shell.proofs.run.write_response.Goals as goal

pub returns : goal.returns
returns g c = record {
  text = c.respond.result;
  note = c.note.result.now;
  responds = c.respond.ensures;
  is_note = c.note.ensures;
  written = wrote c.write_all.result c.in_ok-text.text c.respond.result c.note.result.now c.as_slice.result.now _ _ c.in_ok-text.was (c.as_slice.ensures.value ∙ c.in_ok-extend_from_slice.ensures.items) c.write_all.ensures.ok;
}

pub returns-in_err-text : goal.returns-in_err-text
returns-in_err-text g c = record {
  text = c.respond.result;
  note = [];
  responds = c.respond.ensures;
  is_note = inl refl;
  written = let p = err_from_is_err_and c.from_residual.result c.from_residual.ensures.1 in unwritten _ c.from_residual.result _ p.1;
}
