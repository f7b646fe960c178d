use Rattle.std.proofs.Common.{◌≡◌, ◌<◌, ◌++◌, ℕ, Some, take, length, ap, subst, ◌∙◌, Err, Result, refl, inl, inr, arith}
use Rattle.std.proofs.lemmas.Result.{IfErr-at_err, IfErr-weaker, IfOk-from_err, err_from_is_err_and}
use Rattle.slate_types.specs.Faults.{Rose}
use Rattle.slate_types.specs.declared.error.SlateDBError.TheVariants.{OutOfMemory, WriteFault}
use Rattle.slate_types.specs.declared.error.SlateDBError.{SlateDBError}
use Rattle.slate_language.specs.Answers.{reply_of}
use Rattle.slate_language.specs.Replies.{reply_line}
use Rattle.slate_script.proofs.run.write_reply.Goals as goal
use Rattle.slate_types.proofs.Exits.{on_ok_weaker}

no_fault : {T : Type 0} (r : Result T SlateDBError) → r ≡ Err OutOfMemory → r ≡ Err WriteFault → ⊥
no_fault r h k = cc

pub returns : goal.returns
returns g c =
    record {
      ok = (λ before told.
          on_ok_weaker c.write_all.result (λ is. is ∙ ap (λ bs. Some (before ++ bs)) (c.as_slice.ensures.value ∙ c.in_ok-text.ensures.text)) (c.write_all.ensures.ok before told));
      part = (λ before told is.
          let text : c.as_slice.result.now ≡ reply_line (reply_of c.args.answer) = c.as_slice.ensures.value ∙ c.in_ok-text.ensures.text in
          let part : (n : ℕ) × (n < length c.as_slice.result.now) × (g.W.Sink.content c.write_all.new.sink ≡ Some (before ++ take n c.as_slice.result.now)) =
          IfErr-at_err (λ _. (n : ℕ) × (n < length c.as_slice.result.now) × (g.W.Sink.content c.write_all.new.sink ≡ Some (before ++ take n c.as_slice.result.now))) is (c.write_all.ensures.part before told) in
          subst (λ bs. (n : ℕ) × (n < length bs) × (g.W.Sink.content c.write_all.new.sink ≡ Some (before ++ take n bs))) text part);
      cause = IfErr-weaker c.write_all.result _ _ (λ e h. inr h.0) c.write_all.ensures.cause;
      write_fault = λ fault. (IfErr-at_err (λ e. (e ≡ WriteFault) × Rose (g.W.Sink.faults c.args.sink.now) (g.W.Sink.faults c.write_all.new.sink)) fault c.write_all.ensures.cause).1;
      still = c.write_all.ensures.still;
      uncounted = IfErr-weaker c.write_all.result _ _ (λ e h. inl h.0) c.write_all.ensures.cause;
      unanswered = IfErr-weaker c.write_all.result _ _ (λ e h. inl h.0) c.write_all.ensures.cause;
      later = c.write_all.ensures.later;
    }

pub returns-in_err-text : goal.returns-in_err-text
returns-in_err-text g c =
    let p = err_from_is_err_and c.from_residual.result c.from_residual.ensures.1 in
    record {
      ok = λ before told. IfOk-from_err c.from_residual.result _ c.from_residual.ensures.0;
      part = λ before told is. let p = err_from_is_err_and c.from_residual.result c.from_residual.ensures.1 in absurd (no_fault _ (p.1 ∙ ap Err p.2) is);
      cause = rw (p.1, p.2) (inl refl);
      write_fault = λ is. let p = err_from_is_err_and c.from_residual.result c.from_residual.ensures.1 in absurd (no_fault _ (p.1 ∙ ap Err p.2) is);
      still = IfOk-from_err c.from_residual.result _ c.from_residual.ensures.0;
      uncounted = rw (p.1, p.2) (inr refl);
      unanswered = rw (p.1, p.2) (inr refl);
      later = omega arith;
    }
