use Rattle.slate_script.proofs.run.run_script.Goals as goal

pub returns : goal.returns
returns g c = c.answer_lines.ensures.run
