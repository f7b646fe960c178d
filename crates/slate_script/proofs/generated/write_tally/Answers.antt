use Rattle.std.proofs.Common.{◌≡◌, ◌<◌, ◌++◌, ℕ, Some, take, length, ap, subst, ◌∙◌, Err, refl, inl, inr, arith}
use Rattle.std.proofs.lemmas.Result.{IfErr-at_err, IfErr-weaker, err_from_is_err_and}
use Rattle.std.proofs.Common.{Result}
use Rattle.slate_types.specs.declared.error.SlateDBError.{SlateDBError}
use Rattle.slate_types.specs.Faults.{Rose}
use Rattle.slate_types.specs.declared.error.SlateDBError.TheVariants.{OutOfMemory, WriteFault}
use Rattle.slate_language.specs.Tally.{tally_text}
use Rattle.slate_script.proofs.GeneratedEnds.{told_none, memory_no_fault, still_or}
use Rattle.slate_script.proofs.generated.write_tally.Goals as goal
use Rattle.slate_types.proofs.Exits.{on_ok_weaker}

pub returns : goal.returns
returns g c =
    let text : c.as_slice.result.now ≡ tally_text c.args.tally.now = c.as_slice.ensures.value ∙ c.in_ok-text.ensures in
    record {
      told = (λ before told. record {
        whole = on_ok_weaker c.write_all.result (λ is. is ∙ ap (λ bs. Some (before ++ bs)) text) (c.write_all.ensures.ok before told);
        begun = (λ is.
            let part : (n : ℕ) × (n < length c.as_slice.result.now) × (g.W.Sink.content c.write_all.new.sink ≡ Some (before ++ take n c.as_slice.result.now)) =
            IfErr-at_err (λ _. (n : ℕ) × (n < length c.as_slice.result.now) × (g.W.Sink.content c.write_all.new.sink ≡ Some (before ++ take n c.as_slice.result.now))) is (c.write_all.ensures.part before told) in
            subst (λ bs. (n : ℕ) × (n < length bs) × (g.W.Sink.content c.write_all.new.sink ≡ Some (before ++ take n bs))) text part);
      });
      cause = IfErr-weaker c.write_all.result _ _ (λ e h. inr h.0) c.write_all.ensures.cause;
      write_fault = λ fault. (IfErr-at_err (λ e. (e ≡ WriteFault) × Rose (g.W.Sink.faults c.args.sink.now) (g.W.Sink.faults c.write_all.new.sink)) fault c.write_all.ensures.cause).1;
      sink_still = still_or c.write_all.result (IfErr-weaker c.write_all.result _ _ (λ e h. h.0) c.write_all.ensures.cause) c.write_all.ensures.still;
      unwritten = IfErr-weaker c.write_all.result _ _ (λ e h. inl h.0) c.write_all.ensures.cause;
      later = c.write_all.ensures.later;
    }

same_error : {r : Result (Unit {0}) SlateDBError} {e f : SlateDBError} → r ≡ Err e → r ≡ Err f → e ≡ f
same_error h k = cc

pub returns-in_err-text : goal.returns-in_err-text
returns-in_err-text g c =
    let p = err_from_is_err_and c.from_residual.result c.from_residual.ensures.1 in
    record {
      told = λ before told. rw (p.1, p.2) (told_none (tally_text c.args.tally.now) before (g.W.Sink.content c.args.sink.now) OutOfMemory memory_no_fault);
      cause = rw (p.1, p.2) (inl refl);
      write_fault = λ is. absurd (memory_no_fault (same_error (p.1 ∙ ap Err p.2) is));
      sink_still = inr refl;
      unwritten = rw (p.1, p.2) (inr refl);
      later = omega arith;
    }
