use Rattle.slate_shell.proofs.answers.answer.Goals as goal

pub returns : goal.returns
returns g c = record { answered = c.answer-answered.result; answers = c.answer-answered.ensures; text = c.text_of.ensures }
