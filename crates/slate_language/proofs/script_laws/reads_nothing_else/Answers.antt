use Rattle.slate_language.proofs.ParseOnly.{parse_only}
use Rattle.slate_language.proofs.script_laws.reads_nothing_else.Goals as goal

pub returns : goal.returns
returns c = parse_only
