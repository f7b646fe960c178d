use Rattle.slate.proofs.run_lawful.Goals as goal

pub returns-clause-untrue : goal.returns-clause-untrue
returns-clause-untrue g c = c.run_main.ensures.untrue c.requires.lawful
