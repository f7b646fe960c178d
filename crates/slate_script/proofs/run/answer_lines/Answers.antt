use Rattle.std.proofs.Common.{◌≤◌, ◌≡◌, ◌⊎◌, ◌<◌, ◌+◌, ℕ, [], List, take, IfSome, Some, Result, Ok, Err, length, sym, ap, subst, ◌∙◌, arith, refl, inl, inr, map}
use Rattle.slate_types.specs.declared.error.SlateDBError.{SlateDBError}
use Rattle.slate_types.specs.declared.error.SlateDBError.TheVariants.{ScriptTooLong, ReadFault, WriteFault, StoreFault, Callback, BlockTransformError}
use Rattle.slate_types.specs.Outside.{Objects, unblamed}
use Rattle.slate_types.proofs.Reaching.{puts_none, puts_then}
use Rattle.slate_store.specs.Lines.{lines_of}
use Rattle.slate_store.specs.Reach.{reach_of}
use Rattle.slate_txn.specs.declared.event.Event.{Event}
use Rattle.slate_txn.specs.State.{opening}
use Rattle.slate_txn.specs.Step.{answers}
use Rattle.slate_db.specs.Flushed.{layout_of}
use Rattle.slate_db.specs.Installs.{tables_of}
use Rattle.slate_db.specs.Meaning.{Meaning, rules_in, segments_by}
use Rattle.slate_db.specs.Sound.{IsKept}
use Rattle.slate_db.specs.Settled.{IsSettled}
use Rattle.slate_language.specs.Replies.{after_lines, meanings}
use Rattle.slate_language.specs.Tally.{tallied}
use Rattle.slate_script.specs.Run.{run_rules, AnswersLine, HasSaid, Premises, IsPartError}
use Rattle.slate_script.specs.LineReads.{IsReadInParts}
use Rattle.slate_script.specs.Session.{StandsFor}
use Rattle.slate_script.specs.Terms.{terms_of}
use Rattle.slate_script.specs.Told.{Follows, IsUntrue, PutsTables}
use Rattle.slate_script.proofs.RunEnds.{LineError, unless_error, is_no_error, rose_from, line_cause, no_part, only_memory, store_rose, operator_rose, transformer_rose, reader_no_part, reader_not_write, reader_undamaged, reader_error, reader_complete, reader_kinds, reader_read, reader_full, line_not_long, line_not_read, line_kinds, line_read, line_complete, line_error, end_there, end_read, end_formed, end_no_error}
use Rattle.slate_script.proofs.RunSays.{end_counts, end_says, line_says, reader_says}
use Rattle.slate_script.proofs.Running.{begins, is_settled}
use Rattle.slate_script.proofs.ReadSoFar.{IsReadSoFar, few_events, lines_end, read_none, read_on, read_whole}
use Rattle.slate_script.proofs.Slips.{holds_as, slips_on}
use Rattle.slate_script.proofs.TablesAlone.{begins_alone, stored_state}
use Rattle.slate_script.proofs.Taken.{IsAt, begin, answer_it, took_told, end_told, lines_grow, lines_meant, lines_stand}
use Rattle.slate_script.proofs.ToldLaws.{follows_itself, follows_on, shown_at_end, stores_itself, stores_on, untrue_on}
use Rattle.slate_script.proofs.run.answer_lines.Given as given
use Rattle.slate_script.proofs.run.answer_lines.Goals as goal
use Rattle.slate_script.proofs.MeaningOf.{meaning_of, counts_of}

abbrev failed : SlateDBError → Result (Unit {0}) SlateDBError
failed e = Err e

abbrev done : Result (Unit {0}) SlateDBError
done = Ok tt

same_error : {T : Type 0} (e f : SlateDBError) (r : Result T SlateDBError) → r ≡ Err e → r ≡ Err f → e ≡ f
same_error e f r is was = cc

-- an error of a step is the run's, and else no count rose
error_or : {A B P Q : Type 0} (e f : SlateDBError) (step : Result A SlateDBError) (run : Result B SlateDBError) → step ≡ Err e → run ≡ Err e → (step ≡ Err f) ⊎ P → (P → Q) → (run ≡ Err f) ⊎ Q
error_or e f step run was is (inl h) next = inl (is ∙ ap Err (same_error e f step was h))
error_or e f step run was is (inr h) next = inr (next h)

error_is_or : {B P Q : Type 0} (e f : SlateDBError) (run : Result B SlateDBError) → run ≡ Err e → (e ≡ f) ⊎ P → (P → Q) → (run ≡ Err f) ⊎ Q
error_is_or e f run is (inl h) next = inl (is ∙ ap Err h)
error_is_or e f run is (inr h) next = inr (next h)

-- ---- the beginning

pub loop-line-init : goal.loop-line-init
loop-line-init g c =
    let policies = map (λ p. (goal.FilterPolicy-dyn g (p.vtable, p.value)).meaning p.value) c.args.laws.now.policies.items in
    record {
      told = λ script is.
          begin (Premises policies (meaning_of g.M.MergeOperator.combine g.T.BlockTransformer.encoded g.T.BlockTransformer.decoded c.args.env.now.operator c.args.env.now.transformer) (g.S.Store.objects c.args.env.now.store.now)) (run_rules c.args.laws.now.options (meaning_of g.M.MergeOperator.combine g.T.BlockTransformer.encoded g.T.BlockTransformer.decoded c.args.env.now.operator c.args.env.now.transformer) (segments_by g.X.PrefixExtractor.lengths c.args.laws.now.segments)) script (g.R.Source.left c.args.source.now) (g.W.Sink.content c.args.sink.now) c.args.tally.now c.new-lines.result c.new-session.result is c.new-lines.ensures.held c.new-lines.ensures.given c.new-session.ensures.opens;
      checked = λ script is lawful_policies lawful known began. inl
          (begin (Unit {0}) (run_rules c.args.laws.now.options (meaning_of g.M.MergeOperator.combine g.T.BlockTransformer.encoded g.T.BlockTransformer.decoded c.args.env.now.operator c.args.env.now.transformer) (segments_by g.X.PrefixExtractor.lengths c.args.laws.now.segments)) script (g.R.Source.left c.args.source.now) (g.W.Sink.content c.args.sink.now) c.args.tally.now c.new-lines.result c.new-session.result is c.new-lines.ensures.held c.new-lines.ensures.given c.new-session.ensures.opens);
      settings = c.new-session.ensures.settings;
      counted = omega arith;
      within = let none : c.new-lines.result.given ≡ 0 = c.new-lines.ensures.given in omega (arith, none);
      weighs = omega (arith, c.new-session.ensures.holds.0);
      loads = omega (arith, c.new-session.ensures.holds.1);
      running = λ premises. begins policies (meaning_of g.M.MergeOperator.combine g.T.BlockTransformer.encoded g.T.BlockTransformer.decoded c.args.env.now.operator c.args.env.now.transformer) (segments_by g.X.PrefixExtractor.lengths c.args.laws.now.segments) c.args.laws.now.options (g.S.Store.objects c.args.env.now.store.now) c.new-session.result premises c.new-session.ensures.settings c.new-session.ensures.events c.new-session.ensures.kept c.new-session.ensures.segmented;
      kept = c.new-session.ensures.kept (meaning_of g.M.MergeOperator.combine g.T.BlockTransformer.encoded g.T.BlockTransformer.decoded c.args.env.now.operator c.args.env.now.transformer);
      alone = λ premises. begins_alone (meaning_of g.M.MergeOperator.combine g.T.BlockTransformer.encoded g.T.BlockTransformer.decoded c.args.env.now.operator c.args.env.now.transformer) (layout_of c.args.laws.now.options policies (segments_by g.X.PrefixExtractor.lengths c.args.laws.now.segments)) (g.S.Store.objects c.args.env.now.store.now) c.new-session.result premises.empty c.new-session.ensures.events;
      followed = λ lawful_policies lawful. follows_itself policies (meaning_of g.M.MergeOperator.combine g.T.BlockTransformer.encoded g.T.BlockTransformer.decoded c.args.env.now.operator c.args.env.now.transformer) (segments_by g.X.PrefixExtractor.lengths c.args.laws.now.segments) [] c.new-session.result (g.S.Store.acts c.args.env.now.store.now)
          (begins policies (meaning_of g.M.MergeOperator.combine g.T.BlockTransformer.encoded g.T.BlockTransformer.decoded c.args.env.now.operator c.args.env.now.transformer) (segments_by g.X.PrefixExtractor.lengths c.args.laws.now.segments) c.args.laws.now.options (Some []) c.new-session.result (record { lawful_policies = lawful_policies; lawful = lawful; empty = refl }) c.new-session.ensures.settings c.new-session.ensures.events c.new-session.ensures.kept c.new-session.ensures.segmented).settled;
      stored = subst (λ (es : List Event). PutsTables [] (tables_of es) (g.S.Store.acts c.args.env.now.store.now) (g.S.Store.acts c.args.env.now.store.now)) (sym c.new-session.ensures.events) (stores_itself [] (g.S.Store.acts c.args.env.now.store.now));
      reads = λ script is premises known began. read_none (terms_of c.args.laws.now.options (segments_by g.X.PrefixExtractor.lengths c.args.laws.now.segments) policies (meaning_of g.M.MergeOperator.combine g.T.BlockTransformer.encoded g.T.BlockTransformer.decoded c.args.env.now.operator c.args.env.now.transformer)) script c.new-lines.result.given known (g.S.Store.acts c.args.env.now.store.now) (tables_of c.new-session.result.core.events) c.new-lines.ensures.given began;
      source_later = omega arith;
      sink_later = omega arith;
      source_still = refl;
      sink_still = refl;
      parts_still = refl;
      puts = puts_none _;
    }

-- ---- at an error of the reader

pub returns-in-Err : goal.returns-in-Err
returns-in-Err g c =
    let r = run_rules c.args.laws.now.options (meaning_of g.M.MergeOperator.combine g.T.BlockTransformer.encoded g.T.BlockTransformer.decoded c.args.env.now.operator c.args.env.now.transformer) (segments_by g.X.PrefixExtractor.lengths c.args.laws.now.segments) in
    record {
      run = record {
        honest = λ script is premises. record {
          said = λ before told-is. reader_says c.next.new.self before (g.R.Source.left c.next.new.source) c.in-Err.error c.in-Err.ensures.told (λ h. c.in-Err.ensures.too_long (ap Err h)) (λ h. (c.in-Err.ensures.read_fault (ap Err h)).1) c.in-Err.ensures.cause (c.loop-line.invariant.told script is) premises told-is;
          stored = tt;
          reads = tt;
          complete = λ formed none. (let at = c.loop-line.invariant.told script is in
              let told = c.in-Err.ensures.told at.left at.rest in
              let by = reader_error c.next.new.self told.0 c.in-Err.error at told.2 (λ h. c.in-Err.ensures.too_long (ap Err h)) c.in-Err.ensures.cause in
              (reader_complete script c.in-Err.error by c.in-Err.ensures.cause formed (λ h. none.source_still (rose_from _ _ _ c.loop-line.invariant.source_later (c.in-Err.ensures.read_fault (ap Err h)).0))));
        };
        undamaged = (λ premises.
            (reader_undamaged c.in-Err.error c.in-Err.ensures.cause));
        told = λ lawful. record {
          said = λ script before is told-is. (holds_as (IsAt (Unit {0}) r script (g.R.Source.left c.loop-line.source) (g.W.Sink.content c.args.sink.now) (g.W.Sink.content c.loop-line.sink) c.args.tally.now c.loop-line.tally c.loop-line.lines c.loop-line.number c.loop-line.session)
              (HasSaid r script (g.R.Source.left c.next.new.source) before (g.W.Sink.content c.loop-line.sink) (failed c.in-Err.error)) [] (reach_of g.S.Store g.M.MergeOperator g.T.BlockTransformer c.args.env.now) (reach_of g.S.Store g.M.MergeOperator g.T.BlockTransformer c.loop-line.env)
              (λ at. reader_says c.next.new.self before (g.R.Source.left c.next.new.source) c.in-Err.error c.in-Err.ensures.told (λ h. c.in-Err.ensures.too_long (ap Err h)) (λ h. (c.in-Err.ensures.read_fault (ap Err h)).1) c.in-Err.ensures.cause at tt told-is) (c.loop-line.invariant.checked script is lawful.policies lawful.parts));
          untrue = (λ damage. absurd (reader_undamaged c.in-Err.error c.in-Err.ensures.cause damage));
        };
        read = λ script is. record {
          whole = (tt);
          no_error = (tt);
          error = (let at = c.loop-line.invariant.told script is in
              let told = c.in-Err.ensures.told at.left at.rest in
              (reader_error c.next.new.self told.0 c.in-Err.error at told.2 (λ h. c.in-Err.ensures.too_long (ap Err h)) c.in-Err.ensures.cause));
          too_long = (λ long.
              let kind : c.in-Err.error ≡ ScriptTooLong = same_error c.in-Err.error ScriptTooLong (Err c.in-Err.error) refl long in
              let at = c.loop-line.invariant.told script is in
              let told = c.in-Err.ensures.told at.left at.rest in
              reader_full c.next.new.self told.0 (g.R.Source.left c.next.new.source) at told.2 (c.in-Err.ensures.too_long (ap Err kind)).0 told.1);
          taken = (let at = c.loop-line.invariant.told script is in
              let told = c.in-Err.ensures.told at.left at.rest in
              reader_read c.next.new.self told.0 (g.R.Source.left c.next.new.source) at told.2 c.in-Err.ensures.within told.1);
        };
        shown = λ damage. absurd (reader_undamaged c.in-Err.error c.in-Err.ensures.cause damage);
        cause = record {
          kinds = (reader_kinds c.in-Err.error c.in-Err.ensures.cause);
          read_fault = (λ fault.
              rose_from _ _ _ c.loop-line.invariant.source_later (c.in-Err.ensures.read_fault (ap Err (same_error c.in-Err.error ReadFault (Err c.in-Err.error) refl fault))).0);
          write_fault = (λ fault.
              absurd (reader_not_write c.in-Err.error c.in-Err.ensures.cause (same_error c.in-Err.error WriteFault (Err c.in-Err.error) refl fault)));
          store_fault = (λ fault.
              absurd (reader_no_part c.in-Err.error c.in-Err.ensures.cause (subst IsPartError (sym (same_error c.in-Err.error StoreFault (Err c.in-Err.error) refl fault)) tt)));
          operator_fault = (λ message fault.
              absurd (reader_no_part c.in-Err.error c.in-Err.ensures.cause (subst IsPartError (sym (same_error c.in-Err.error (Callback message) (Err c.in-Err.error) refl fault)) tt)));
          transform_fault = (λ fault.
              absurd (reader_no_part c.in-Err.error c.in-Err.ensures.cause (subst IsPartError (sym (same_error c.in-Err.error BlockTransformError (Err c.in-Err.error) refl fault)) tt)));
        };
        source_still = error_or c.in-Err.error ReadFault _ (Err c.in-Err.error) refl refl c.in-Err.ensures.still (λ h. h ∙ c.loop-line.invariant.source_still);
        sink_still = inr c.loop-line.invariant.sink_still;
        parts_still = ap (unblamed c.in-Err.error) c.loop-line.invariant.parts_still;
        later = (omega (arith, c.loop-line.invariant.source_later, c.next.ensures.later), c.loop-line.invariant.sink_later);
        puts = c.loop-line.invariant.puts;
      };
      counts = record {
        honest = λ script is premises. tt;
        told = λ script is lawful. tt;
      };
    }

-- ---- at a line that isn't answered

-- no limit ended the line
its_cause : (g : given.Over) (c : goal.After-drop-lines-inside-in-Err-answer_line-2 g) → LineError (c.loop-line.number + 1) c.in-Ok-Some.line.items c.in-Err-answer_line.error
its_cause g c =
    line_cause c.loop-line.session c.loop-line.number c.loop-line.lines.given c.in-Err-answer_line.error c.loop-line.invariant.weighs c.loop-line.invariant.loads c.loop-line.invariant.counted c.loop-line.invariant.within
    c.in-Err-answer_line.ensures.line.cause

pub returns-in-Err-answer_line : goal.returns-in-Err-answer_line
returns-in-Err-answer_line g c =
    let policies = map (λ p. (goal.FilterPolicy-dyn g (p.vtable, p.value)).meaning p.value) c.args.laws.now.policies.items in
    let m = meaning_of g.M.MergeOperator.combine g.T.BlockTransformer.encoded g.T.BlockTransformer.decoded c.args.env.now.operator c.args.env.now.transformer in
    let seg = segments_by g.X.PrefixExtractor.lengths c.args.laws.now.segments in
    let r = run_rules c.args.laws.now.options m seg in
    record {
      run = record {
        honest = λ script is premises. record {
          said = λ before told-is. line_says c.answer_line.new.session c.answer_line.new.tally before (g.R.Source.left c.next.new.source) (g.W.Sink.content c.answer_line.new.sink) c.in-Err-answer_line.error (its_cause g c) (λ h. (c.in-Err-answer_line.ensures.sink.write_fault (ap Err h)).1) c.in-Err-answer_line.ensures.sink.unanswered (took_told (λ v. v.items) c.in-Ok-Some.field-0 c.in-Ok-Some.line c.in-Ok-Some.line.items (g.R.Source.left c.next.new.source) c.next.new.self c.in-Ok-Some.ensures.told c.in-Ok-Some.ensures.within c.in-Ok-Some.field-0-is refl (c.loop-line.invariant.told script is)) ((c.in-Err-answer_line.ensures.line.honest m r (c.loop-line.invariant.running premises)).answered) premises told-is;
          stored = tt;
          reads = tt;
          complete = λ formed none. (let took = took_told (λ v. v.items) c.in-Ok-Some.field-0 c.in-Ok-Some.line c.in-Ok-Some.line.items (g.R.Source.left c.next.new.source) c.next.new.self c.in-Ok-Some.ensures.told c.in-Ok-Some.ensures.within c.in-Ok-Some.field-0-is refl (c.loop-line.invariant.told script is) in
              let by = line_error c.in-Err-answer_line.error took (its_cause g c) in
              (only_memory c.in-Err-answer_line.error (line_complete script c.in-Ok-Some.line.items (c.loop-line.number + 1) c.in-Err-answer_line.error by (its_cause g c) formed (λ h. none.sink_still (rose_from _ _ _ c.loop-line.invariant.sink_later (c.in-Err-answer_line.ensures.sink.write_fault (ap Err h)).0)))
              (λ part. no_part (counts_of (g.S.Store.faults c.loop-line.env.store.now) g.M.MergeOperator.faults g.T.BlockTransformer.faults c.loop-line.env.operator c.loop-line.env.transformer) (counts_of (g.S.Store.faults c.answer_line.new.env.store.now) g.M.MergeOperator.faults g.T.BlockTransformer.faults c.answer_line.new.env.operator c.answer_line.new.env.transformer) c.in-Err-answer_line.error (λ h. none.store (rose_from _ _ _ c.loop-line.invariant.puts.later.store h)) (λ h. none.operator (rose_from _ _ _ c.loop-line.invariant.puts.later.operator h)) (λ h. none.transformer (rose_from _ _ _ c.loop-line.invariant.puts.later.transformer h))
              ((c.in-Err-answer_line.ensures.line.honest (meaning_of g.M.MergeOperator.combine g.T.BlockTransformer.encoded g.T.BlockTransformer.decoded c.args.env.now.operator c.args.env.now.transformer) (run_rules c.args.laws.now.options (meaning_of g.M.MergeOperator.combine g.T.BlockTransformer.encoded g.T.BlockTransformer.decoded c.args.env.now.operator c.args.env.now.transformer) (segments_by g.X.PrefixExtractor.lengths c.args.laws.now.segments)) (c.loop-line.invariant.running premises)).undamaged) part (c.in-Err-answer_line.ensures.line.part part))));
        };
        undamaged = (λ premises.
            ((c.in-Err-answer_line.ensures.line.honest (meaning_of g.M.MergeOperator.combine g.T.BlockTransformer.encoded g.T.BlockTransformer.decoded c.args.env.now.operator c.args.env.now.transformer) (run_rules c.args.laws.now.options (meaning_of g.M.MergeOperator.combine g.T.BlockTransformer.encoded g.T.BlockTransformer.decoded c.args.env.now.operator c.args.env.now.transformer) (segments_by g.X.PrefixExtractor.lengths c.args.laws.now.segments)) (c.loop-line.invariant.running premises)).undamaged));
        told = λ lawful. record {
          said = λ script before is told-is. (slips_on (IsAt (Unit {0}) r script (g.R.Source.left c.loop-line.source) (g.W.Sink.content c.args.sink.now) (g.W.Sink.content c.loop-line.sink) c.args.tally.now c.loop-line.tally c.loop-line.lines c.loop-line.number c.loop-line.session) (AnswersLine r c.in-Ok-Some.line.items c.loop-line.session c.answer_line.new.session (g.W.Sink.content c.loop-line.sink) (g.W.Sink.content c.answer_line.new.sink) c.loop-line.tally c.answer_line.new.tally (failed c.in-Err-answer_line.error))
              (HasSaid r script (g.R.Source.left c.next.new.source) before (g.W.Sink.content c.answer_line.new.sink) (failed c.in-Err-answer_line.error))
              policies seg c.loop-line.session (reach_of g.S.Store g.M.MergeOperator g.T.BlockTransformer c.args.env.now) (reach_of g.S.Store g.M.MergeOperator g.T.BlockTransformer c.loop-line.env) (reach_of g.S.Store g.M.MergeOperator g.T.BlockTransformer c.answer_line.new.env) c.loop-line.invariant.puts.meaning (c.loop-line.invariant.followed lawful.policies lawful.parts) c.answer_line.ensures.line.adds (c.loop-line.invariant.checked script is lawful.policies lawful.parts)
              (λ os settled. c.in-Err-answer_line.ensures.line.checked m r os (record { meaning = c.loop-line.invariant.puts.meaning; rules = ap (λ x. rules_in x m seg) c.loop-line.invariant.settings; settled = settled }))
              (λ at says. line_says c.answer_line.new.session c.answer_line.new.tally before (g.R.Source.left c.next.new.source) (g.W.Sink.content c.answer_line.new.sink) c.in-Err-answer_line.error (its_cause g c) (λ h. (c.in-Err-answer_line.ensures.sink.write_fault (ap Err h)).1) c.in-Err-answer_line.ensures.sink.unanswered (took_told (λ v. v.items) c.in-Ok-Some.field-0 c.in-Ok-Some.line c.in-Ok-Some.line.items (g.R.Source.left c.next.new.source) c.next.new.self c.in-Ok-Some.ensures.told c.in-Ok-Some.ensures.within c.in-Ok-Some.field-0-is refl at) says tt told-is));
          untrue = ((λ damage. untrue_on policies (meaning_of g.M.MergeOperator.combine g.T.BlockTransformer.encoded g.T.BlockTransformer.decoded c.args.env.now.operator c.args.env.now.transformer) (segments_by g.X.PrefixExtractor.lengths c.args.laws.now.segments) c.loop-line.session (g.S.Store.acts c.args.env.now.store.now) (g.S.Store.acts c.loop-line.env.store.now) (g.S.Store.acts c.answer_line.new.env.store.now) (c.loop-line.invariant.followed lawful.policies lawful.parts)
              (subst (λ (m : Meaning). (os : Objects) → IsSettled policies m (segments_by g.X.PrefixExtractor.lengths c.args.laws.now.segments) (Some os) c.loop-line.session.core → IsUntrue os (g.S.Store.acts c.loop-line.env.store.now) (g.S.Store.acts c.answer_line.new.env.store.now)) c.loop-line.invariant.puts.meaning (λ os settled. (c.in-Err-answer_line.ensures.line.told os settled).untrue damage))));
        };
        read = λ script is. record {
          whole = (tt);
          no_error = (tt);
          error = (let took = took_told (λ v. v.items) c.in-Ok-Some.field-0 c.in-Ok-Some.line c.in-Ok-Some.line.items (g.R.Source.left c.next.new.source) c.next.new.self c.in-Ok-Some.ensures.told c.in-Ok-Some.ensures.within c.in-Ok-Some.field-0-is refl (c.loop-line.invariant.told script is) in
              (line_error c.in-Err-answer_line.error took (its_cause g c)));
          too_long = (λ long.
              let kind : c.in-Err-answer_line.error ≡ ScriptTooLong = same_error c.in-Err-answer_line.error ScriptTooLong (Err c.in-Err-answer_line.error) refl long in
              absurd (line_not_long (c.loop-line.number + 1) c.in-Ok-Some.line.items c.in-Err-answer_line.error (its_cause g c) kind));
          taken = (let took = took_told (λ v. v.items) c.in-Ok-Some.field-0 c.in-Ok-Some.line c.in-Ok-Some.line.items (g.R.Source.left c.next.new.source) c.next.new.self c.in-Ok-Some.ensures.told c.in-Ok-Some.ensures.within c.in-Ok-Some.field-0-is refl (c.loop-line.invariant.told script is) in
              line_read took c.in-Ok-Some.ensures.within);
        };
        shown = λ damage. shown_at_end policies (reach_of g.S.Store g.M.MergeOperator g.T.BlockTransformer c.args.env.now) (reach_of g.S.Store g.M.MergeOperator g.T.BlockTransformer c.loop-line.env) (reach_of g.S.Store g.M.MergeOperator g.T.BlockTransformer c.answer_line.new.env) c.loop-line.session.core c.in-Err-answer_line.error c.loop-line.invariant.puts.meaning c.loop-line.invariant.kept c.loop-line.invariant.stored
            ((c.in-Err-answer_line.ensures.line.sound (subst (λ (x : Meaning). IsKept x c.loop-line.session.core) (sym c.loop-line.invariant.puts.meaning) c.loop-line.invariant.kept)).shown damage);
        cause = record {
          kinds = (line_kinds (c.loop-line.number + 1) c.in-Ok-Some.line.items c.in-Err-answer_line.error (its_cause g c));
          read_fault = λ fault. absurd (line_not_read (c.loop-line.number + 1) c.in-Ok-Some.line.items c.in-Err-answer_line.error (its_cause g c) (same_error c.in-Err-answer_line.error ReadFault (Err c.in-Err-answer_line.error) refl fault));
          write_fault = λ fault. rose_from _ _ _ c.loop-line.invariant.sink_later (c.in-Err-answer_line.ensures.sink.write_fault (ap Err (same_error c.in-Err-answer_line.error WriteFault (Err c.in-Err-answer_line.error) refl fault))).0;
          store_fault = (λ fault.
              let kind : c.in-Err-answer_line.error ≡ StoreFault = same_error c.in-Err-answer_line.error StoreFault (Err c.in-Err-answer_line.error) refl fault in
              rose_from _ _ _ c.loop-line.invariant.puts.later.store (store_rose (counts_of (g.S.Store.faults c.loop-line.env.store.now) g.M.MergeOperator.faults g.T.BlockTransformer.faults c.loop-line.env.operator c.loop-line.env.transformer) (counts_of (g.S.Store.faults c.answer_line.new.env.store.now) g.M.MergeOperator.faults g.T.BlockTransformer.faults c.answer_line.new.env.operator c.answer_line.new.env.transformer) c.in-Err-answer_line.error kind (c.in-Err-answer_line.ensures.line.part (subst IsPartError (sym kind) tt))));
          operator_fault = (λ message fault.
              let kind : c.in-Err-answer_line.error ≡ (Callback message) = same_error c.in-Err-answer_line.error (Callback message) (Err c.in-Err-answer_line.error) refl fault in
              rose_from _ _ _ c.loop-line.invariant.puts.later.operator (operator_rose (counts_of (g.S.Store.faults c.loop-line.env.store.now) g.M.MergeOperator.faults g.T.BlockTransformer.faults c.loop-line.env.operator c.loop-line.env.transformer) (counts_of (g.S.Store.faults c.answer_line.new.env.store.now) g.M.MergeOperator.faults g.T.BlockTransformer.faults c.answer_line.new.env.operator c.answer_line.new.env.transformer) c.in-Err-answer_line.error message kind (c.in-Err-answer_line.ensures.line.part (subst IsPartError (sym kind) tt))));
          transform_fault = (λ fault.
              let kind : c.in-Err-answer_line.error ≡ BlockTransformError = same_error c.in-Err-answer_line.error BlockTransformError (Err c.in-Err-answer_line.error) refl fault in
              rose_from _ _ _ c.loop-line.invariant.puts.later.transformer (transformer_rose (counts_of (g.S.Store.faults c.loop-line.env.store.now) g.M.MergeOperator.faults g.T.BlockTransformer.faults c.loop-line.env.operator c.loop-line.env.transformer) (counts_of (g.S.Store.faults c.answer_line.new.env.store.now) g.M.MergeOperator.faults g.T.BlockTransformer.faults c.answer_line.new.env.operator c.answer_line.new.env.transformer) c.in-Err-answer_line.error kind (c.in-Err-answer_line.ensures.line.part (subst IsPartError (sym kind) tt))));
        };
        source_still = inr (unless_error c.in-Ok-Some.field-0 ReadFault c.in-Ok-Some.ensures.still ∙ c.loop-line.invariant.source_still);
        sink_still = error_is_or c.in-Err-answer_line.error WriteFault (Err c.in-Err-answer_line.error) refl c.in-Err-answer_line.ensures.sink.uncounted (λ h. h ∙ c.loop-line.invariant.sink_still);
        parts_still = c.in-Err-answer_line.ensures.line.still ∙ ap (unblamed c.in-Err-answer_line.error) c.loop-line.invariant.parts_still;
        later = (omega (arith, c.loop-line.invariant.source_later, c.next.ensures.later), omega (arith, c.loop-line.invariant.sink_later, c.answer_line.ensures.sink.later));
        puts = puts_then _ _ _ c.loop-line.invariant.puts c.answer_line.ensures.line.puts;
      };
      counts = record {
        honest = λ script is premises. tt;
        told = λ script is lawful. tt;
      };
    }

-- ---- the next turn

pub loop-line-preserved : goal.loop-line-preserved
loop-line-preserved g c =
    let policies = map (λ p. (goal.FilterPolicy-dyn g (p.vtable, p.value)).meaning p.value) c.args.laws.now.policies.items in
    let m = meaning_of g.M.MergeOperator.combine g.T.BlockTransformer.encoded g.T.BlockTransformer.decoded c.args.env.now.operator c.args.env.now.transformer in
    let seg = segments_by g.X.PrefixExtractor.lengths c.args.laws.now.segments in
    let r = run_rules c.args.laws.now.options m seg in
    record {
      told = λ script is. answer_it (Premises policies m (g.S.Store.objects c.args.env.now.store.now)) r script c.in-Ok-Some.line.items (g.R.Source.left c.next.new.source) (g.W.Sink.content c.args.sink.now) (g.W.Sink.content c.loop-line.sink) (g.W.Sink.content c.answer_line.new.sink) c.args.tally.now c.loop-line.tally c.answer_line.new.tally c.next.new.self (c.loop-line.number + 1) c.loop-line.session c.answer_line.new.session
          (took_told (λ v. v.items) c.in-Ok-Some.field-0 c.in-Ok-Some.line c.in-Ok-Some.line.items (g.R.Source.left c.next.new.source) c.next.new.self c.in-Ok-Some.ensures.told c.in-Ok-Some.ensures.within c.in-Ok-Some.field-0-is refl (c.loop-line.invariant.told script is)) c.in-Ok.ensures.line.meant (λ premises. (c.in-Ok.ensures.line.honest m r (c.loop-line.invariant.running premises)).answered);
      checked = λ script is lawful_policies lawful. slips_on (IsAt (Unit {0}) r script (g.R.Source.left c.loop-line.source) (g.W.Sink.content c.args.sink.now) (g.W.Sink.content c.loop-line.sink) c.args.tally.now c.loop-line.tally c.loop-line.lines c.loop-line.number c.loop-line.session) (AnswersLine r c.in-Ok-Some.line.items c.loop-line.session c.answer_line.new.session (g.W.Sink.content c.loop-line.sink) (g.W.Sink.content c.answer_line.new.sink) c.loop-line.tally c.answer_line.new.tally done)
          (IsAt (Unit {0}) r script (g.R.Source.left c.next.new.source) (g.W.Sink.content c.args.sink.now) (g.W.Sink.content c.answer_line.new.sink) c.args.tally.now c.answer_line.new.tally c.next.new.self (c.loop-line.number + 1) c.answer_line.new.session)
          policies seg c.loop-line.session (reach_of g.S.Store g.M.MergeOperator g.T.BlockTransformer c.args.env.now) (reach_of g.S.Store g.M.MergeOperator g.T.BlockTransformer c.loop-line.env) (reach_of g.S.Store g.M.MergeOperator g.T.BlockTransformer c.answer_line.new.env) c.loop-line.invariant.puts.meaning (c.loop-line.invariant.followed lawful_policies lawful) c.answer_line.ensures.line.adds (c.loop-line.invariant.checked script is lawful_policies lawful)
          (λ os settled. c.in-Ok.ensures.line.checked m r os (record { meaning = c.loop-line.invariant.puts.meaning; rules = ap (λ x. rules_in x m seg) c.loop-line.invariant.settings; settled = settled }))
          (λ at says. answer_it (Unit {0}) r script c.in-Ok-Some.line.items (g.R.Source.left c.next.new.source) (g.W.Sink.content c.args.sink.now) (g.W.Sink.content c.loop-line.sink) (g.W.Sink.content c.answer_line.new.sink) c.args.tally.now c.loop-line.tally c.answer_line.new.tally c.next.new.self (c.loop-line.number + 1) c.loop-line.session c.answer_line.new.session
          (took_told (λ v. v.items) c.in-Ok-Some.field-0 c.in-Ok-Some.line c.in-Ok-Some.line.items (g.R.Source.left c.next.new.source) c.next.new.self c.in-Ok-Some.ensures.told c.in-Ok-Some.ensures.within c.in-Ok-Some.field-0-is refl at) c.in-Ok.ensures.line.meant (λ p. says));
      settings = c.in-Ok.ensures.line.settings ∙ c.loop-line.invariant.settings;
      counted =
          let further : c.loop-line.lines.given < c.next.new.self.given = subst (λ o. IfSome o (λ _. c.loop-line.lines.given < c.next.new.self.given)) c.in-Ok-Some.field-0-is c.in-Ok-Some.ensures.further in
          omega (arith, c.loop-line.invariant.counted);
      within = omega (arith, c.in-Ok-Some.ensures.within);
      weighs = omega (arith, c.in-Ok.ensures.line.grows.0, c.loop-line.invariant.weighs);
      loads =
          let taken : c.loop-line.lines.given + length c.in-Ok-Some.line.items ≤ c.next.new.self.given = subst (λ o. IfSome o (λ l. c.loop-line.lines.given + length l.items ≤ c.next.new.self.given)) c.in-Ok-Some.field-0-is c.in-Ok-Some.ensures.counted in
          omega (arith, c.in-Ok.ensures.line.grows.1, c.loop-line.invariant.loads, taken);
      running = λ premises. (c.in-Ok.ensures.line.honest (meaning_of g.M.MergeOperator.combine g.T.BlockTransformer.encoded g.T.BlockTransformer.decoded c.args.env.now.operator c.args.env.now.transformer) (run_rules c.args.laws.now.options (meaning_of g.M.MergeOperator.combine g.T.BlockTransformer.encoded g.T.BlockTransformer.decoded c.args.env.now.operator c.args.env.now.transformer) (segments_by g.X.PrefixExtractor.lengths c.args.laws.now.segments)) (c.loop-line.invariant.running premises)).running;
      kept = subst (λ (x : Meaning). IsKept x c.answer_line.new.session.core) c.loop-line.invariant.puts.meaning
          ((c.in-Ok.ensures.line.sound (subst (λ (x : Meaning). IsKept x c.loop-line.session.core) (sym c.loop-line.invariant.puts.meaning) c.loop-line.invariant.kept)).kept);
      alone = λ premises. (c.in-Ok.ensures.line.honest (meaning_of g.M.MergeOperator.combine g.T.BlockTransformer.encoded g.T.BlockTransformer.decoded c.args.env.now.operator c.args.env.now.transformer) (run_rules c.args.laws.now.options (meaning_of g.M.MergeOperator.combine g.T.BlockTransformer.encoded g.T.BlockTransformer.decoded c.args.env.now.operator c.args.env.now.transformer) (segments_by g.X.PrefixExtractor.lengths c.args.laws.now.segments)) (c.loop-line.invariant.running premises)).alone (c.loop-line.invariant.alone premises);
      followed = λ lawful_policies lawful. follows_on policies (meaning_of g.M.MergeOperator.combine g.T.BlockTransformer.encoded g.T.BlockTransformer.decoded c.args.env.now.operator c.args.env.now.transformer) (segments_by g.X.PrefixExtractor.lengths c.args.laws.now.segments) c.loop-line.session c.answer_line.new.session (g.S.Store.acts c.args.env.now.store.now) (g.S.Store.acts c.loop-line.env.store.now) (g.S.Store.acts c.answer_line.new.env.store.now) (c.loop-line.invariant.followed lawful_policies lawful)
          (subst (λ (m : Meaning). (os : Objects) → IsSettled policies m (segments_by g.X.PrefixExtractor.lengths c.args.laws.now.segments) (Some os) c.loop-line.session.core → Follows policies m (segments_by g.X.PrefixExtractor.lengths c.args.laws.now.segments) os c.answer_line.new.session (g.S.Store.acts c.loop-line.env.store.now) (g.S.Store.acts c.answer_line.new.env.store.now)) c.loop-line.invariant.puts.meaning (λ os settled. (c.in-Ok.ensures.line.told os settled).follows));
      stored = stores_on (tables_of c.loop-line.session.core.events) (tables_of c.answer_line.new.session.core.events) _ _ _ c.loop-line.invariant.stored c.in-Ok.ensures.line.tables;
      reads = λ script is premises known began.
          let at = c.loop-line.invariant.told script is in
          let terms = terms_of c.args.laws.now.options seg policies m in
          let now = reach_of g.S.Store g.M.MergeOperator g.T.BlockTransformer c.loop-line.env in
          let after = reach_of g.S.Store g.M.MergeOperator g.T.BlockTransformer c.answer_line.new.env in
          subst (λ (ls : List (List ℕ)). IsReadSoFar terms ls known after.acts (tables_of c.answer_line.new.session.core.events))
          (sym (lines_grow (λ v. v.items) c.in-Ok-Some.field-0 c.in-Ok-Some.line c.in-Ok-Some.line.items (g.R.Source.left c.next.new.source) c.next.new.self c.in-Ok-Some.ensures.told c.in-Ok-Some.ensures.within c.in-Ok-Some.field-0-is refl at))
          (read_on tt terms c.in-Ok-Some.line.items (lines_of (take c.loop-line.lines.given script)) known m (layout_of c.args.laws.now.options policies seg) seg now after c.loop-line.session c.answer_line.new.session (lines_meant at) c.loop-line.invariant.puts.meaning c.loop-line.invariant.settings
          (is_settled (c.loop-line.invariant.running premises)) (c.loop-line.invariant.alone premises) (lines_stand at premises) c.answer_line.ensures.line.adds c.in-Ok.ensures.line.tables c.in-Ok.ensures.line.asked (c.loop-line.invariant.reads script is premises known began));
      source_later = omega (arith, c.next.ensures.later);
      sink_later = omega (arith, c.answer_line.ensures.sink.later);
      source_still = unless_error c.in-Ok-Some.field-0 ReadFault c.in-Ok-Some.ensures.still ∙ c.loop-line.invariant.source_still;
      sink_still = c.in-Ok.ensures.sink.still ∙ c.loop-line.invariant.sink_still;
      parts_still = c.in-Ok.ensures.line.still ∙ c.loop-line.invariant.parts_still;
      puts = puts_then _ _ _ c.loop-line.invariant.puts c.answer_line.ensures.line.puts;
    }

-- ---- the end

pub returns : goal.returns
returns g c =
    let policies = map (λ p. (goal.FilterPolicy-dyn g (p.vtable, p.value)).meaning p.value) c.args.laws.now.policies.items in
    let r = run_rules c.args.laws.now.options (meaning_of g.M.MergeOperator.combine g.T.BlockTransformer.encoded g.T.BlockTransformer.decoded c.args.env.now.operator c.args.env.now.transformer) (segments_by g.X.PrefixExtractor.lengths c.args.laws.now.segments) in
    record {
      run = record {
        honest = λ script is premises. record {
          said = λ before told-is. let at = c.loop-line.invariant.told script is in end_says c.next.new.self before (g.R.Source.left c.next.new.source) (g.R.Source.left c.next.new.source) at (end_told (λ v. v.items) c.in-Ok-None.field-0 (g.R.Source.left c.next.new.source) c.next.new.self c.in-Ok-None.ensures.told c.in-Ok-None.field-0-is at) premises told-is;
          stored = (let m = meaning_of g.M.MergeOperator.combine g.T.BlockTransformer.encoded g.T.BlockTransformer.decoded c.args.env.now.operator c.args.env.now.transformer in
              let r = run_rules c.args.laws.now.options m (segments_by g.X.PrefixExtractor.lengths c.args.laws.now.segments) in
              let at = c.loop-line.invariant.told script is in
              let end = end_told (λ v. v.items) c.in-Ok-None.field-0 (g.R.Source.left c.next.new.source) c.next.new.self c.in-Ok-None.ensures.told c.in-Ok-None.field-0-is at in
              let running = c.loop-line.invariant.running premises in
              stored_state m (segments_by g.X.PrefixExtractor.lengths c.args.laws.now.segments) r (layout_of c.args.laws.now.options policies (segments_by g.X.PrefixExtractor.lengths c.args.laws.now.segments)) (g.S.Store.objects c.loop-line.env.store.now) c.loop-line.session (after_lines r opening (lines_of script)) running.rules
              (c.close-2.ensures.stores m running.settled.lawful running.settled.kept)
              (subst (λ bs. StandsFor c.loop-line.session (after_lines r opening (lines_of bs))) (sym (end_there c.next.new.self end.0 at end.2).0) (at.session premises))
              (c.loop-line.invariant.alone premises));
          reads = λ known began.
              let at = c.loop-line.invariant.told script is in
              let end = end_told (λ v. v.items) c.in-Ok-None.field-0 (g.R.Source.left c.next.new.source) c.next.new.self c.in-Ok-None.ensures.told c.in-Ok-None.field-0-is at in
              let m = meaning_of g.M.MergeOperator.combine g.T.BlockTransformer.encoded g.T.BlockTransformer.decoded c.args.env.now.operator c.args.env.now.transformer in
              let seg = segments_by g.X.PrefixExtractor.lengths c.args.laws.now.segments in
              let terms = terms_of c.args.laws.now.options seg policies m in
              let now = reach_of g.S.Store g.M.MergeOperator g.T.BlockTransformer c.loop-line.env in
              subst (λ (bs : List ℕ). IsReadInParts terms (lines_of bs) known now.acts now.objects) (lines_end c.next.new.self end.0 at end.2)
              (read_whole terms (lines_of (take c.loop-line.lines.given script)) known now.acts m (layout_of c.args.laws.now.options policies seg) now.objects c.loop-line.session (few_events c.loop-line.session.core c.loop-line.number c.loop-line.lines.given c.loop-line.invariant.weighs c.loop-line.invariant.counted c.loop-line.invariant.within) (c.loop-line.invariant.running premises).settled.tables
              (c.loop-line.invariant.alone premises) (c.loop-line.invariant.reads script is premises known began));
          complete = λ formed none. tt;
        };
        undamaged = λ premises. tt;
        told = λ lawful. record {
          said = λ script before is told-is. (holds_as (IsAt (Unit {0}) r script (g.R.Source.left c.loop-line.source) (g.W.Sink.content c.args.sink.now) (g.W.Sink.content c.loop-line.sink) c.args.tally.now c.loop-line.tally c.loop-line.lines c.loop-line.number c.loop-line.session)
              (HasSaid r script (g.R.Source.left c.next.new.source) before (g.W.Sink.content c.loop-line.sink) done) [] (reach_of g.S.Store g.M.MergeOperator g.T.BlockTransformer c.args.env.now) (reach_of g.S.Store g.M.MergeOperator g.T.BlockTransformer c.loop-line.env)
              (λ at. end_says c.next.new.self before (g.R.Source.left c.next.new.source) (g.R.Source.left c.next.new.source) at (end_told (λ v. v.items) c.in-Ok-None.field-0 (g.R.Source.left c.next.new.source) c.next.new.self c.in-Ok-None.ensures.told c.in-Ok-None.field-0-is at) tt told-is) (c.loop-line.invariant.checked script is lawful.policies lawful.parts));
          untrue = tt;
        };
        read = λ script is. record {
          whole = (let at = c.loop-line.invariant.told script is in
              let end = end_told (λ v. v.items) c.in-Ok-None.field-0 (g.R.Source.left c.next.new.source) c.next.new.self c.in-Ok-None.ensures.told c.in-Ok-None.field-0-is at in
              (end_formed c.next.new.self end.0 at end.2, end.1 ∙ ap Some (end_there c.next.new.self end.0 at end.2).2));
          no_error = (let at = c.loop-line.invariant.told script is in
              let end = end_told (λ v. v.items) c.in-Ok-None.field-0 (g.R.Source.left c.next.new.source) c.next.new.self c.in-Ok-None.ensures.told c.in-Ok-None.field-0-is at in
              end_no_error c.next.new.self end.0 at end.2);
          error = (tt);
          too_long = (λ long.
              absurd (is_no_error long));
          taken = (let at = c.loop-line.invariant.told script is in
              let end = end_told (λ v. v.items) c.in-Ok-None.field-0 (g.R.Source.left c.next.new.source) c.next.new.self c.in-Ok-None.ensures.told c.in-Ok-None.field-0-is at in
              end_read c.next.new.self end.0 (g.R.Source.left c.next.new.source) at end.2 c.in-Ok-None.ensures.within end.1);
        };
        shown = tt;
        cause = record {
          kinds = tt;
          read_fault = λ fault. absurd (is_no_error fault);
          write_fault = λ fault. absurd (is_no_error fault);
          store_fault = λ fault. absurd (is_no_error fault);
          operator_fault = λ message fault. absurd (is_no_error fault);
          transform_fault = λ fault. absurd (is_no_error fault);
        };
        source_still = inr (unless_error c.in-Ok-None.field-0 ReadFault c.in-Ok-None.ensures.still ∙ c.loop-line.invariant.source_still);
        sink_still = inr c.loop-line.invariant.sink_still;
        parts_still = c.loop-line.invariant.parts_still;
        later = (omega (arith, c.loop-line.invariant.source_later, c.next.ensures.later), c.loop-line.invariant.sink_later);
        puts = c.loop-line.invariant.puts;
      };
      counts = record {
        honest = λ script is premises. let at = c.loop-line.invariant.told script is in end_counts c.next.new.self (g.R.Source.left c.next.new.source) at (end_told (λ v. v.items) c.in-Ok-None.field-0 (g.R.Source.left c.next.new.source) c.next.new.self c.in-Ok-None.ensures.told c.in-Ok-None.field-0-is at) premises;
        told = λ script is lawful. (holds_as (IsAt (Unit {0}) r script (g.R.Source.left c.loop-line.source) (g.W.Sink.content c.args.sink.now) (g.W.Sink.content c.loop-line.sink) c.args.tally.now c.loop-line.tally c.loop-line.lines c.loop-line.number c.loop-line.session)
            (c.loop-line.tally ≡ tallied c.args.tally.now (answers r opening (meanings (lines_of script)))) [] (reach_of g.S.Store g.M.MergeOperator g.T.BlockTransformer c.args.env.now) (reach_of g.S.Store g.M.MergeOperator g.T.BlockTransformer c.loop-line.env)
            (λ at. end_counts c.next.new.self (g.R.Source.left c.next.new.source) at (end_told (λ v. v.items) c.in-Ok-None.field-0 (g.R.Source.left c.next.new.source) c.next.new.self c.in-Ok-None.ensures.told c.in-Ok-None.field-0-is at) tt) (c.loop-line.invariant.checked script is lawful.policies lawful.parts));
      };
    }
