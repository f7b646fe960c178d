use Rattle.std.proofs.Common.{◌++◌, ◌∷◌, [], codes, sym, ap, ◌∙◌}
use Rattle.std.specs.List.{join_with_byte}
use Rattle.std.proofs.lemmas.Result.{IfOk-weaker}
use Rattle.slate_language.specs.Replies.{reply_line}
use Rattle.slate_language.specs.Answers.{reply_of}
use Rattle.slate_language.specs.declared.reply.Answer.TheVariants as answers
use Rattle.slate_language.proofs.reply.reply_text.Goals as goal

pub returns-in-Done : goal.returns-in-Done
returns-in-Done c = record { text = IfOk-weaker c.line_of.result _ _ (λ v is. is ∙ ap (λ a. reply_line (reply_of a)) (sym c.in-Done.is)) c.line_of.ensures.text }

pub returns-in-Refused : goal.returns-in-Refused
returns-in-Refused c = record { text = IfOk-weaker c.refusal_text.result _ _ (λ v is. is ∙ ap (λ a. reply_line (reply_of a)) (sym c.in-Refused.is)) c.refusal_text.ensures.text }

pub returns-in-Begun : goal.returns-in-Begun
returns-in-Begun c = record { text = IfOk-weaker c.line_of-in-Begun.result _ _ (λ v is. is ∙ ap (λ name. reply_line (reply_of (answers.Begun name c.in-Begun.start))) c.as_slice.ensures ∙ ap (λ a. reply_line (reply_of a)) (sym c.in-Begun.is)) c.line_of-in-Begun.ensures.text }

pub returns-in-SnapshotAt : goal.returns-in-SnapshotAt
returns-in-SnapshotAt c = record { text = IfOk-weaker c.line_of-in-SnapshotAt.result _ _ (λ v is. is ∙ ap (λ name. reply_line (reply_of (answers.SnapshotAt name c.in-SnapshotAt.seq))) c.as_slice-in-SnapshotAt.ensures ∙ ap (λ a. reply_line (reply_of a)) (sym c.in-SnapshotAt.is)) c.line_of-in-SnapshotAt.ensures.text }

pub returns-in-Frozen : goal.returns-in-Frozen
returns-in-Frozen c = record { text = IfOk-weaker c.line_of-in-Frozen.result _ _ (λ v is. is ∙ ap (λ a. reply_line (reply_of a)) (sym c.in-Frozen.is)) c.line_of-in-Frozen.ensures.text }

pub returns-in-Flushed : goal.returns-in-Flushed
returns-in-Flushed c = record { text = IfOk-weaker c.line_of-in-Flushed.result _ _ (λ v is. is ∙ ap (λ a. reply_line (reply_of a)) (sym c.in-Flushed.is)) c.line_of-in-Flushed.ensures.text }

pub returns-in-Written : goal.returns-in-Written
returns-in-Written c = record {
  text = IfOk-weaker c.line_of-in-Written.result _ _
      (λ v is. is ∙ ap (λ seq. join_with_byte 32 (codes "written" ∷ seq ∷ []) ++ (10 ∷ [])) c.sequence-in-Written.ensures ∙ ap (λ a. reply_line (reply_of a)) (sym c.in-Written.is))
      c.line_of-in-Written.ensures.text;
}

pub returns-in-Committed : goal.returns-in-Committed
returns-in-Committed c = record {
  text = IfOk-weaker c.line_of-in-Committed.result _ _
      (λ v is. is ∙ ap (λ seq. join_with_byte 32 (codes "committed" ∷ seq ∷ []) ++ (10 ∷ [])) c.sequence.ensures ∙ ap (λ a. reply_line (reply_of a)) (sym c.in-Committed.is))
      c.line_of-in-Committed.ensures.text;
}
