use Rattle.slate_table.proofs.Results.{on_err}
use Rattle.slate_table.proofs.PartReads.{still_ok, still_err}
use Rattle.std.proofs.Common.{◌∙◌, ◌++◌, ℕ, List, refl, ap, inl, inr}
use Rattle.std.proofs.lemmas.Result.{on_ok_weaker, IfErr-weaker, err_from_is_err_and, IfOk-from_err}
use Rattle.slate_table.specs.Parts.{summed}
use Rattle.slate_table.specs.SectionReading.{covered_by}
use Rattle.slate_table.proofs.section.seal_section.Goals as goal

pub returns : goal.returns
returns g c =
    record {
      appended = (on_ok_weaker c.append_summed-sealed.result
          (λ h. h ∙ ap (λ (l : List ℕ). c.args.out.now.items ++ summed (covered_by c.args.place) l) (c.as_slice.ensures ∙ c.in_ok-stored.ensures.bytes))
          c.append_summed-sealed.ensures.appended);
      unchanged = c.append_summed-sealed.ensures.unchanged;
      cause = IfErr-weaker c.append_summed-sealed.result _ _ (λ e h. inl h) c.append_summed-sealed.ensures.cause;
      same_encoded = c.encoded.ensures.same_encoded;
      same_decoded = c.encoded.ensures.same_decoded;
      later = c.encoded.ensures.later;
      still = inr (still_ok c.in_ok-stored.stored c.in_ok-stored.ensures.still);
    }

pub returns-in_err-stored : goal.returns-in_err-stored
returns-in_err-stored g c =
    let p = err_from_is_err_and c.from_residual.result c.from_residual.ensures.1 in
    record {
      appended = IfOk-from_err c.from_residual.result _ c.from_residual.ensures.0;
      unchanged = on_err c.from_residual.result refl;
      cause = rw (p.1, p.2) (c.in_err-stored.ensures.cause);
      same_encoded = c.encoded.ensures.same_encoded;
      same_decoded = c.encoded.ensures.same_decoded;
      later = c.encoded.ensures.later;
      still = rw (p.1, p.2) (still_err c.in_err-stored.field-0.0 c.in_err-stored.ensures.still);
    }
