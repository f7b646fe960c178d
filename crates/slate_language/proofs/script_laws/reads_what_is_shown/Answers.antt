use Rattle.slate_language.proofs.SpelledLaws.{shown_spells}
use Rattle.slate_language.proofs.script_laws.reads_what_is_shown.Goals as goal

pub returns : goal.returns
returns c = shown_spells
