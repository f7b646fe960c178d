use Rattle.std.proofs.Common.{inl}
use Rattle.slate_steps.proofs.Reading.{if_err_map}
use Rattle.slate_queue.proofs.LineLaws.{exhausted_text}
use Rattle.slate_queue.proofs.run.refuse_by.Goals as goal

pub returns-in-SequenceExhausted : goal.returns-in-SequenceExhausted
returns-in-SequenceExhausted c = record {
  text = exhausted_text c.args.error c.written.result c.in-SequenceExhausted.is (c.written.ensures.text _ c.refused_by.ensures.text);
  cause = if_err_map c.written.result _ _ (λ e memory. inl (memory, c.in-SequenceExhausted.is)) c.written.ensures.cause;
}
