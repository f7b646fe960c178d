use Rattle.std.proofs.Common.{ℕ, List, ◌++◌, ◌∷◌, [], codes, sym, ap, ◌∙◌}
use Rattle.std.specs.List.{join_with_byte}
use Rattle.std.proofs.lemmas.Result.{IfOk-weaker}
use Rattle.slate_language.specs.Answers.{words_text}
use Rattle.slate_language.proofs.reply.refusal_text.Goals as goal

-- the reply of an error's words
abbrev line : List (List ℕ) → List ℕ
line ws = join_with_byte 32 (codes "refused" ∷ ws) ++ (10 ∷ [])

pub returns-in-Alone : goal.returns-in-Alone
returns-in-Alone c = record { text = IfOk-weaker c.line_of.result _ _ (λ v is. is ∙ ap (λ ws. line (words_text ws)) (sym c.in-Alone.is) ∙ ap line c.error_words.ensures) c.line_of.ensures.text }

pub returns-in-With : goal.returns-in-With
returns-in-With c = record { text = IfOk-weaker c.line_of-in-With.result _ _ (λ v is. is ∙ ap (λ ws. line (words_text ws)) (sym c.in-With.is) ∙ ap line c.error_words.ensures) c.line_of-in-With.ensures.text }

pub returns-in-WithTwo : goal.returns-in-WithTwo
returns-in-WithTwo c = record { text = IfOk-weaker c.line_of-in-WithTwo.result _ _ (λ v is. is ∙ ap (λ ws. line (words_text ws)) (sym c.in-WithTwo.is) ∙ ap line c.error_words.ensures) c.line_of-in-WithTwo.ensures.text }

pub returns-in-WithThree : goal.returns-in-WithThree
returns-in-WithThree c = record { text = IfOk-weaker c.line_of-in-WithThree.result _ _ (λ v is. is ∙ ap (λ ws. line (words_text ws)) (sym c.in-WithThree.is) ∙ ap line c.error_words.ensures) c.line_of-in-WithThree.ensures.text }
