use Rattle.std.proofs.Common.{◌≡◌, ℕ, [], List, Some, Err, inl, inr, refl, ap, subst, ◌∙◌, arith}
use Rattle.slate_types.specs.Outside.{unblamed_by}
use Rattle.slate_store.specs.Lines.{lines_of}
use Rattle.slate_store.specs.Reach.{reach_of}
use Rattle.slate_txn.specs.State.{opening}
use Rattle.slate_txn.specs.Step.{answers}
use Rattle.slate_db.specs.Meaning.{segments_by}
use Rattle.slate_language.specs.Generate.{generate, summary}
use Rattle.slate_language.specs.Replies.{meanings, IsWellFormed}
use Rattle.slate_language.specs.Tally.{tallied, tally_text}
use Rattle.slate_language.proofs.RoundLaws.{generated_formed}
use Rattle.slate_language.proofs.TallyLaws.{tally_summary}
use Rattle.slate_script.specs.Run.{run_rules, HasTold, IsOutside}
use Rattle.slate_script.proofs.GeneratedEnds.{formed_outside, lines_cause, lines_none, never_rose, only_cause, only_kinds, only_memory_left, told_none}
use Rattle.slate_script.proofs.LineEnds.{writing_no_damage, writing_no_error}
use Rattle.slate_script.proofs.Running.{always}
use Rattle.slate_script.proofs.Slips.{holds_as}
use Rattle.slate_script.proofs.generated.run_generated.Goals as goal
use Rattle.slate_script.proofs.MeaningOf.{meaning_of}

pub returns-in-Ok : goal.returns-in-Ok
returns-in-Ok g c =
    let m = meaning_of g.M.MergeOperator.combine g.T.BlockTransformer.encoded g.T.BlockTransformer.decoded c.args.env.now.operator c.args.env.now.transformer in
    let r = run_rules c.args.laws.now.options m (segments_by g.X.PrefixExtractor.lengths c.args.laws.now.segments) in
    let script = generate c.args.rounds c.args.seed in
    let left : Some c.new-source.result ≡ Some script = ap Some (c.new-source.ensures ∙ c.in_ok-script.ensures.script) in
    let formed : IsWellFormed script = generated_formed c.args.rounds c.args.seed c.requires.few in
    let tells : (before : List ℕ) → g.W.Sink.content c.args.sink.now ≡ Some before → c.answer_lines.new.tally ≡ tallied c.new-tally.result (answers r opening (meanings (lines_of script))) →
    HasTold (summary r script) before (g.W.Sink.content c.write_tally.new.sink) c.write_tally.result = (λ before told counts.
    let line : tally_text c.answer_lines.new.tally ≡ summary r script = ap tally_text (counts ∙ ap (λ t. tallied t (answers r opening (meanings (lines_of script)))) c.new-tally.ensures) ∙ tally_summary r script formed in
    subst (λ bs. HasTold bs before (g.W.Sink.content c.write_tally.new.sink) c.write_tally.result) line (c.write_tally.ensures.told before told)) in
    record {
      honest = λ premises. record {
        said = λ before told. tells before told (c.in-Ok.ensures.counts.honest script left premises);
        stored = always c.write_tally.result (c.in-Ok.ensures.run.honest script left premises).stored;
        reads = always c.write_tally.result (c.in-Ok.ensures.run.honest script left premises).reads;
        complete = λ none. only_memory_left _ _ c.write_tally.result c.write_tally.ensures.cause c.write_tally.ensures.write_fault none;
      };
      undamaged = λ premises. writing_no_damage ⊥ c.write_tally.result c.write_tally.ensures.cause;
      told = λ lawful. record {
        said = λ before told. holds_as (c.answer_lines.new.tally ≡ tallied c.new-tally.result (answers r opening (meanings (lines_of script))))
            (HasTold (summary r script) before (g.W.Sink.content c.write_tally.new.sink) c.write_tally.result) [] (reach_of g.S.Store g.M.MergeOperator g.T.BlockTransformer c.args.env.now) (reach_of g.S.Store g.M.MergeOperator g.T.BlockTransformer c.answer_lines.new.env)
            (tells before told) (c.in-Ok.ensures.counts.told script left lawful);
        untrue = writing_no_damage _ c.write_tally.result c.write_tally.ensures.cause;
      };
      shown = writing_no_error _ c.write_tally.result c.write_tally.ensures.cause;
      outside = only_kinds c.write_tally.result c.write_tally.ensures.cause;
      cause = only_cause _ _ c.write_tally.result c.write_tally.ensures.cause c.write_tally.ensures.write_fault;
      unwritten = c.write_tally.ensures.unwritten;
      sink_still = c.write_tally.ensures.sink_still;
      parts_still = ap (unblamed_by c.write_tally.result) c.in-Ok.ensures.run.parts_still;
      later = c.write_tally.ensures.later;
      puts = c.answer_lines.ensures.run.puts;
    }

pub returns : goal.returns
returns g c =
    let m = meaning_of g.M.MergeOperator.combine g.T.BlockTransformer.encoded g.T.BlockTransformer.decoded c.args.env.now.operator c.args.env.now.transformer in
    let r = run_rules c.args.laws.now.options m (segments_by g.X.PrefixExtractor.lengths c.args.laws.now.segments) in
    let script = generate c.args.rounds c.args.seed in
    let left : Some c.new-source.result ≡ Some script = ap Some (c.new-source.ensures ∙ c.in_ok-script.ensures.script) in
    let formed : IsWellFormed script = generated_formed c.args.rounds c.args.seed c.requires.few in
    let run = c.in-Err.ensures.run in
    let outside : IsOutside c.in-Err.error = formed_outside script c.in-Err.error formed (run.read script left).error in
    record {
      honest = λ premises. record {
        said = λ before told. told_none (summary r script) before (g.W.Sink.content c.args.sink.now) c.in-Err.error (λ is. never_rose (run.cause.write_fault (ap Err is)));
        stored = tt;
        reads = tt;
        complete = λ none. (run.honest script left premises).complete formed (lines_none _ _ none);
      };
      undamaged = run.undamaged;
      told = λ lawful. record {
        said = λ before told known began. inl (told_none (summary r script) before (g.W.Sink.content c.args.sink.now) c.in-Err.error (λ is. never_rose (run.cause.write_fault (ap Err is))));
        untrue = (run.told lawful).untrue;
      };
      shown = run.shown;
      outside = outside;
      cause = lines_cause _ _ c.in-Err.error outside run.cause;
      unwritten = inr refl;
      sink_still = inr refl;
      parts_still = run.parts_still;
      later = omega arith;
      puts = c.answer_lines.ensures.run.puts;
    }
