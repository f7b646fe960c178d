use Rattle.slate_language.proofs.ParseLaws.{parse_is}
use Rattle.slate_language.proofs.script_laws.reads_the_grammar.Goals as goal

pub returns : goal.returns
returns c = parse_is
