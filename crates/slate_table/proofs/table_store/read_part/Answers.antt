use Rattle.std.proofs.Common.{◌≡◌, ◌⊎◌, ℕ, List, Option, Some, ap, subst, refl, inr, inl}
use Rattle.slate_types.specs.declared.error.SlateDBError.TheVariants.{OutOfMemory}
use Rattle.slate_types.specs.Faults.{faults_of}
use Rattle.slate_block.specs.RowReading.{refusal}
use Rattle.slate_table.specs.Paths.{path_of}
use Rattle.slate_table.specs.declared.section.SectionPlace.{SectionPlace}
use Rattle.slate_table.specs.SectionReading.{changed_by}
use Rattle.slate_table.specs.Reading.{Fits, SectionRead, read_at, section_read, stored_in, IsPart, FailsDecoding}
use Rattle.slate_table.proofs.BlockReads.{row_refused}
use Rattle.std.proofs.lemmas.Result.{IfOk-weaker, IfErr-weaker, err_from_is_err_and, IfOk-from_err}
use Rattle.slate_table.proofs.Results.{on_err}
use Rattle.slate_table.proofs.Asking.{unchanged, reaches_err, reaches_ok}
use Rattle.slate_table.proofs.table_store.read_part.Goals as goal

pub returns : goal.returns
returns g c =
    record {
      found = (let placed = ap (λ (p : SectionPlace). read_at p c.in_ok-answer.answer) c.place_in.ensures in
          IfOk-weaker c.opened.result _ _ (λ part found. (c.in_ok-answer.answer, c.in_ok-answer.ensures.read, subst (λ (s : SectionRead). IsPart (changed_by g.T.BlockTransformer.decoded c.args.transformer.now) s part) placed found)) c.opened.ensures.found);
      cause = (let place = c.args.place in
          let table = c.args.table.now in
          let failed = faults_of g.T.BlockTransformer.faults in
          let placed = ap (λ (p : SectionPlace). read_at p c.in_ok-answer.answer) c.place_in.ensures in
          IfErr-weaker c.opened.result _ _
          (λ e h. row_refused (g.S.Store.objects c.args.store.now) (g.S.Store.acts c.args.store.now) (g.S.Store.acts c.read.new.store) (path_of c.args.root.now table.id.0)
          place.0 place.1 place.0 place.1 (g.S.Store.faults c.args.store.now) (g.S.Store.faults c.read.new.store) c.in_ok-answer.answer
          (λ (answer : Option (List ℕ)). FailsDecoding (failed c.args.transformer.now) (failed c.opened.new.transformer) (section_read table.format_version table.id.0 c.args.kind place.0 answer) e)
          (λ (answer : Option (List ℕ)). refusal (stored_in (section_read table.format_version table.id.0 c.args.kind place.0 answer)) ≡ Some e) e
          refl refl c.in_ok-answer.ensures.read
          (subst (λ (s : SectionRead). (e ≡ OutOfMemory) ⊎ FailsDecoding (failed c.args.transformer.now) (failed c.opened.new.transformer) s e ⊎ (refusal (stored_in s) ≡ Some e)) placed h))
          c.opened.ensures.cause);
      once = on_err c.opened.result (inr (c.in_ok-answer.answer, c.in_ok-answer.ensures.read, tt));
      unasked = (let placed = ap (λ (p : SectionPlace). read_at p c.in_ok-answer.answer) c.place_in.ensures in
          elim c.opened.ensures.unasked [
            | inl same ↦ inl same
            | inr fits ↦ inr (c.in_ok-answer.answer, c.in_ok-answer.ensures.read, subst (λ (s : SectionRead). Fits s) placed fits)
          ]);
      unanswered = c.opened.ensures.unanswered;
      reaches = reaches_ok c.in_ok-answer.ensures.reaches;
      stays = c.opened.ensures.stays;
    }

pub returns-in_err-answer : goal.returns-in_err-answer
returns-in_err-answer g c =
    let p = err_from_is_err_and c.from_residual.result c.from_residual.ensures.1 in
    record {
      found = IfOk-from_err c.from_residual.result _ c.from_residual.ensures.0;
      cause = rw (p.1, p.2) (inl c.in_err-answer.ensures.cause);
      once = rw p.1 (inl c.in_err-answer.ensures.none);
      unasked = inl refl;
      unanswered = λ _. refl;
      reaches = reaches_err c.in_err-answer.ensures.reaches c.from_residual.ensures.1;
      stays = unchanged;
    }
