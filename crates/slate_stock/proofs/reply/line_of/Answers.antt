use Rattle.std.proofs.Common.{◌≡◌, ℕ, ◌<◌, List, [], ◌∷◌, ◌++◌, map, length, take, get_or, sym, ap, ◌∙◌, append_assoc, arith}
use Rattle.std.specs.List.{join_with_byte}
use Rattle.std.proofs.lemmas.List.{take_all}
use Rattle.std.proofs.lemmas.Result.{IfOk-from_err}
use Rattle.slate_stock.specs.declared.reply.Word.{Word}
use Rattle.slate_stock.specs.declared.reply.Word.TheVariants as words
use Rattle.slate_stock.specs.Words.{word_text}
use Rattle.slate_language.proofs.JoinLaws.{joined_first, joined_more}
use Rattle.slate_stock.proofs.reply.line_of.Goals as goal
use Rattle.slate_stock.proofs.reply.line_of.Goals.{then-i-gt0+in_ok-push, else-i-gt0}

pub loop-i-preserved : goal.loop-i-preserved
loop-i-preserved c =
    let i = c.loop-i.i in
    let d : Word = words.Text (record { ref_ptr = (0, 0); now = [] }) in
    let word : List ℕ = word_text (get_or c.args.words.now i d) in
    let within : i < length c.args.words.now = omega arith in
    elim c.if-i-gt0.branch [
      | then-i-gt0+in_ok-push w ↦
          c.in_ok-push_word.ensures.text ∙ ap (λ v. v.items ++ word) w.line-is
          ∙ ap (λ xs. xs ++ word) (w.in_ok-push.ensures.items ∙ ap (λ xs. xs ++ (32 ∷ [])) c.loop-i.invariant)
          ∙ append_assoc (join_with_byte 32 (map word_text (take i c.args.words.now))) (32 ∷ []) word
          ∙ sym (joined_more 32 word_text c.args.words.now i d within w.if-i-gt0.true)
      | else-i-gt0 w ↦
          let first : i ≡ 0 = omega (arith, w.if-i-gt0.false) in
          c.in_ok-push_word.ensures.text ∙ ap (λ v. v.items ++ word) w.line-is
          ∙ ap (λ xs. xs ++ word) (c.loop-i.invariant ∙ ap (λ (n : ℕ). join_with_byte 32 (map word_text (take n c.args.words.now))) first)
          ∙ sym (joined_first 32 word_text c.args.words.now i d within first)
    ]

pub returns-in_err-push : goal.returns-in_err-push
returns-in_err-push c = record { text = IfOk-from_err c.from_residual.result _ c.from_residual.ensures.0 }

pub returns-in_err-push-2 : goal.returns-in_err-push-2
returns-in_err-push-2 c = record { text = IfOk-from_err c.from_residual-in_err-push-2.result _ c.from_residual-in_err-push-2.ensures.0 }

pub returns-in_err-push_word : goal.returns-in_err-push_word
returns-in_err-push_word c = record { text = IfOk-from_err c.from_residual-in_err-push_word.result _ c.from_residual-in_err-push_word.ensures.0 }

pub returns : goal.returns
returns c = record {
  text =
      c.in_ok-push-2.ensures.items
      ∙ ap (λ xs. xs ++ (10 ∷ [])) (c.loop-i.invariant ∙ ap (λ ws. join_with_byte 32 (map word_text ws)) (take_all c.loop-i.i c.args.words.now (omega arith)));
}
