use Rattle.std.proofs.Common.{None, map, sym, ◌∙◌, cond}
use Rattle.std.specs.String.{string_bytes}
use Rattle.slate_language.specs.Words.{read_settings}
use Rattle.slate_language.proofs.words.parse_words.Goals as goal

pub returns-then-not-are_taken : goal.returns-then-not-are_taken
returns-then-not-are_taken g c = record {
  settings = λ i. cond ((sym c.if-not-are_taken.true ∙ c.are_taken.ensures) i) (read_settings (map string_bytes c.args.words.now)) None;
  valid = tt;
}

pub returns : goal.returns
returns g c = record {
  settings = c.read_settings.ensures.settings ∙ (λ i. cond ((sym c.if-not-are_taken.false ∙ c.are_taken.ensures) i) (read_settings (map string_bytes c.args.words.now)) None);
  valid = c.read_settings.ensures.valid;
}
