use Rattle.std.proofs.Common.{◌≤◌, arith, inl, inr, Option, Some, length, refl, sym, ap, subst, Ok, map}
use Rattle.slate_types.specs.Outside.{Objects, unblamed_by}
use Rattle.slate_types.proofs.Reaching.{puts_none}
use Rattle.slate_store.specs.Reach.{reach_of}
use Rattle.slate_txn.specs.State.{Rules}
use Rattle.slate_db.specs.Flushed.{layout_of}
use Rattle.slate_db.specs.Installs.{runs_of, tables_of}
use Rattle.slate_db.proofs.Adding.{adds_same}
use Rattle.slate_db.specs.Meaning.{Meaning, segments_by}
use Rattle.slate_script.specs.Run.{AnswersLine, IsPartCause}
use Rattle.slate_script.specs.Session.{HasTablesAlone, IsRunning, StepsAs, line_load}
use Rattle.slate_script.proofs.LineAnswers.{failed_answered, meant_answered, silent_answered, silent_line}
use Rattle.slate_script.proofs.LineEnds.{parse_error, parse_cause, parse_no_part, parse_no_damage, parse_wrote, session_cause, session_part, session_wrote, writing_cause, writing_no_part, writing_no_damage, writing_no_error, error_of, meant_line}
use Rattle.slate_script.proofs.LineLoads.{load_of_line}
use Rattle.slate_script.proofs.LineReads.{reply_asked, silent_asked}
use Rattle.slate_script.proofs.RunEnds.{is_no_error}
use Rattle.slate_script.proofs.Slips.{holds_as}
use Rattle.slate_script.proofs.ToldLaws.{follows_itself, line_shown, stores_itself}
use Rattle.slate_script.proofs.Running.{runs_on, is_settled, one_moment, always, not_damage}
use Rattle.slate_script.proofs.run.answer_line.Goals as goal
use Rattle.slate_script.proofs.MeaningOf.{meaning_of, counts_of}

pub answer-requires-clause-moment : goal.answer-requires-clause-moment
answer-requires-clause-moment g c = λ κs lives.
    let meant = rw c.in-Ok-Some.field-0-is at c.in-Ok-Some.ensures.meant in
    one_moment c.args.line.items c.in-Ok-Some.meaning meant.1

pub returns-in-Err-answer : goal.returns-in-Err-answer
returns-in-Err-answer g c =
    let policies = map (λ p. (goal.FilterPolicy-dyn g (p.vtable, p.value)).meaning p.value) c.args.laws.now.policies.items in
    record {
      line = record {
        meant = tt;
        honest = λ m r running. record {
          running = tt;
          answered = failed_answered c.in-Err-answer.error r c.args.line.items c.args.session.now c.answer.new.self (g.W.Sink.content c.args.sink.now) (g.W.Sink.content c.args.sink.now) c.args.tally.now c.args.tally.now (session_wrote _ _ c.args.session.now c.in-Err-answer.error c.in-Err-answer.ensures.cause);
          alone = λ alone. tt;
          undamaged = not_damage _ _ c.in-Err-answer.error (c.in-Err-answer.ensures.honest (is_settled running)).undamaged;
        };
        checked = λ m r os running known began. inl (failed_answered c.in-Err-answer.error r c.args.line.items c.args.session.now c.answer.new.self (g.W.Sink.content c.args.sink.now) (g.W.Sink.content c.args.sink.now) c.args.tally.now c.args.tally.now (session_wrote _ _ c.args.session.now c.in-Err-answer.error c.in-Err-answer.ensures.cause));
        told = λ os settled. record { follows = tt; untrue = (c.in-Err-answer.ensures.told os settled).untrue };
        sound = λ kept. record { kept = tt; shown = line_shown policies c.in-Ok-Some.meaning _ _ c.args.session.now.core c.in-Err-answer.error (c.in-Err-answer.ensures.sound kept).shown };
        settings = tt;
        grows = tt;
        cause = session_cause _ _ c.args.number c.args.line.items c.args.session.now c.in-Err-answer.error c.in-Err-answer.ensures.cause;
        part = session_part _ _ c.args.session.now c.in-Err-answer.error c.in-Err-answer.ensures.cause;
        tables = tt;
        asked = tt;
        adds = c.answer.ensures.adds;
        puts = c.answer.ensures.puts;
        still = c.in-Err-answer.ensures.still;
      };
      sink = record {
        write_fault = λ is. absurd (session_wrote _ _ c.args.session.now c.in-Err-answer.error c.in-Err-answer.ensures.cause (error_of c.in-Err-answer.error is));
        still = tt;
        uncounted = inr refl;
        unanswered = inr refl;
        later = omega arith;
      };
    }

pub returns-in-Ok : goal.returns-in-Ok
returns-in-Ok g c =
    let policies = map (λ p. (goal.FilterPolicy-dyn g (p.vtable, p.value)).meaning p.value) c.args.laws.now.policies.items in
    let seg = segments_by g.X.PrefixExtractor.lengths c.args.laws.now.segments in
    let parts = meaning_of g.M.MergeOperator.combine g.T.BlockTransformer.encoded g.T.BlockTransformer.decoded c.args.env.now.operator c.args.env.now.transformer in
    let meant : (m : Meaning) (r : Rules) (objects : Option Objects) → IsRunning policies m seg r parts objects c.args.session.now → StepsAs parts seg c.args.session.now c.answer.new.self c.in-Ok-Some.meaning (Ok c.in-Ok.answer) →
    AnswersLine r c.args.line.items c.args.session.now c.answer.new.self (g.W.Sink.content c.args.sink.now) (g.W.Sink.content c.write_reply.new.sink) c.args.tally.now c.count.new.self c.write_reply.result = (λ m r objects running.
    let means = rw c.in-Ok-Some.field-0-is at c.in-Ok-Some.ensures.meant in
    meant_answered c.write_reply.result c.args.line.items c.in-Ok-Some.meaning c.in-Ok.answer (g.W.Sink.content c.args.sink.now) (g.W.Sink.content c.write_reply.new.sink) c.args.tally.now c.count.new.self running means.0 means.1 c.count.ensures c.write_reply.ensures.ok c.write_reply.ensures.part) in
    record {
      line = record {
        meant = (let meant = rw c.in-Ok-Some.field-0-is at c.in-Ok-Some.ensures.meant in
            always c.write_reply.result (meant_line c.args.line.items c.in-Ok-Some.meaning meant.1));
        honest = λ m r running. record {
          running = always c.write_reply.result (runs_on running c.answer.ensures.puts.meaning c.in-Ok.ensures.settings (c.in-Ok.ensures.honest (is_settled running)).kept);
          answered = meant m r (g.S.Store.objects c.args.env.now.store.now) running (c.in-Ok.ensures.honest (is_settled running)).step;
          alone = λ alone. (let layout = layout_of c.args.laws.now.options policies (segments_by g.X.PrefixExtractor.lengths c.args.laws.now.segments) in
              always c.write_reply.result (subst (λ (x : Meaning). HasTablesAlone x layout (g.S.Store.objects c.answer.new.env.store.now) (runs_of c.answer.new.self.core.events)) running.meaning
              ((c.in-Ok.ensures.honest (is_settled running)).alone (subst (λ (x : Meaning). HasTablesAlone x layout (g.S.Store.objects c.args.env.now.store.now) (runs_of c.args.session.now.core.events)) (sym running.meaning) alone))));
          undamaged = writing_no_damage _ c.write_reply.result c.write_reply.ensures.cause;
        };
        checked = λ m r os running. holds_as (StepsAs parts seg c.args.session.now c.answer.new.self c.in-Ok-Some.meaning (Ok c.in-Ok.answer))
            (AnswersLine r c.args.line.items c.args.session.now c.answer.new.self (g.W.Sink.content c.args.sink.now) (g.W.Sink.content c.write_reply.new.sink) c.args.tally.now c.count.new.self c.write_reply.result) os
            (reach_of g.S.Store g.M.MergeOperator g.T.BlockTransformer c.args.env.now) (reach_of g.S.Store g.M.MergeOperator g.T.BlockTransformer c.answer.new.env) (meant m r (Some os) running) (c.in-Ok.ensures.told os (is_settled running)).step;
        told = λ os settled. record { follows = always c.write_reply.result (c.in-Ok.ensures.told os settled).follows; untrue = writing_no_damage _ c.write_reply.result c.write_reply.ensures.cause };
        sound = λ kept. record { kept = always c.write_reply.result (c.in-Ok.ensures.sound kept).kept; shown = writing_no_error _ c.write_reply.result c.write_reply.ensures.cause };
        settings = always c.write_reply.result c.in-Ok.ensures.settings;
        grows = (let meant = rw c.in-Ok-Some.field-0-is at c.in-Ok-Some.ensures.meant in
            always c.write_reply.result (c.in-Ok.ensures.grows.0, let few : line_load c.in-Ok-Some.meaning ≤ length c.args.line.items = load_of_line c.args.line.items c.in-Ok-Some.meaning meant.1 in omega (arith, c.in-Ok.ensures.grows.1, few)));
        cause = writing_cause c.write_reply.result c.args.number c.args.line.items c.args.session.now c.write_reply.ensures.cause;
        part = writing_no_part (IsPartCause (counts_of (g.S.Store.faults c.args.env.now.store.now) g.M.MergeOperator.faults g.T.BlockTransformer.faults c.args.env.now.operator c.args.env.now.transformer) (counts_of (g.S.Store.faults c.answer.new.env.store.now) g.M.MergeOperator.faults g.T.BlockTransformer.faults c.answer.new.env.operator c.answer.new.env.transformer)) c.write_reply.result c.write_reply.ensures.cause;
        tables = always c.write_reply.result c.in-Ok.ensures.tables;
        asked = (let means = rw c.in-Ok-Some.field-0-is at c.in-Ok-Some.ensures.meant in
            reply_asked c.write_reply.result c.in-Ok.answer policies c.args.line.items c.in-Ok-Some.meaning (reach_of g.S.Store g.M.MergeOperator g.T.BlockTransformer c.args.env.now) (reach_of g.S.Store g.M.MergeOperator g.T.BlockTransformer c.answer.new.env) c.args.session.now means.0 means.1 c.in-Ok.ensures.asked);
        adds = c.answer.ensures.adds;
        puts = c.answer.ensures.puts;
        still = ap (unblamed_by c.write_reply.result) c.in-Ok.ensures.still;
      };
      sink = record {
        write_fault = (λ is.
            let meant = rw c.in-Ok-Some.field-0-is at c.in-Ok-Some.ensures.meant in
            (c.write_reply.ensures.write_fault is, meant_line c.args.line.items c.in-Ok-Some.meaning meant.1));
        still = c.write_reply.ensures.still;
        uncounted = c.write_reply.ensures.uncounted;
        unanswered = c.write_reply.ensures.unanswered;
        later = c.write_reply.ensures.later;
      };
    }

pub returns-in-Err : goal.returns-in-Err
returns-in-Err g c =
    let by = parse_error c.args.number c.args.line.items c.in-Err.error c.at_line.result c.in-Err.ensures.cause c.at_line.ensures.memory c.at_line.ensures.syntax in
    record {
      line = record {
        meant = tt;
        honest = λ m r running. record {
          running = tt;
          answered = failed_answered c.at_line.result r c.args.line.items c.args.session.now c.args.session.now (g.W.Sink.content c.args.sink.now) (g.W.Sink.content c.args.sink.now) c.args.tally.now c.args.tally.now (parse_wrote c.args.number c.args.line.items c.at_line.result by);
          alone = λ alone. tt;
          undamaged = parse_no_damage c.args.number c.args.line.items c.at_line.result by;
        };
        checked = λ m r os running known began. inl (failed_answered c.at_line.result r c.args.line.items c.args.session.now c.args.session.now (g.W.Sink.content c.args.sink.now) (g.W.Sink.content c.args.sink.now) c.args.tally.now c.args.tally.now (parse_wrote c.args.number c.args.line.items c.at_line.result by));
        told = λ os settled. record { follows = tt; untrue = λ damage. absurd (parse_no_damage c.args.number c.args.line.items c.at_line.result by damage) };
        sound = λ kept. record { kept = tt; shown = λ damage. absurd (parse_no_damage c.args.number c.args.line.items c.at_line.result by damage) };
        settings = tt;
        grows = tt;
        cause = parse_cause c.args.number c.args.line.items c.args.session.now c.at_line.result by;
        part = λ part. absurd (parse_no_part c.args.number c.args.line.items c.at_line.result by part);
        tables = tt;
        asked = tt;
        adds = adds_same _ _ refl;
        puts = puts_none _;
        still = refl;
      };
      sink = record {
        write_fault = λ is. absurd (parse_wrote c.args.number c.args.line.items c.at_line.result by (error_of c.at_line.result is));
        still = tt;
        uncounted = inr refl;
        unanswered = inr refl;
        later = omega arith;
      };
    }

pub returns-in-Ok-None : goal.returns-in-Ok-None
returns-in-Ok-None g c =
    let policies = map (λ p. (goal.FilterPolicy-dyn g (p.vtable, p.value)).meaning p.value) c.args.laws.now.policies.items in
    let silent = c.in-Ok-None.ensures.silent (ap Ok c.in-Ok-None.field-0-is) in
    record {
      line = record {
        meant = silent_line c.args.line.items silent;
        honest = λ m r running. record {
          running = running;
          answered = silent_answered r c.args.line.items c.args.session.now (g.W.Sink.content c.args.sink.now) c.args.tally.now silent;
          alone = λ alone. alone;
          undamaged = tt;
        };
        checked = λ m r os running known began. inl (silent_answered r c.args.line.items c.args.session.now (g.W.Sink.content c.args.sink.now) c.args.tally.now silent);
        told = λ os settled. record { follows = follows_itself policies (meaning_of g.M.MergeOperator.combine g.T.BlockTransformer.encoded g.T.BlockTransformer.decoded c.args.env.now.operator c.args.env.now.transformer) (segments_by g.X.PrefixExtractor.lengths c.args.laws.now.segments) os c.args.session.now (g.S.Store.acts c.args.env.now.store.now) settled; untrue = tt };
        sound = λ kept. record { kept = kept; shown = tt };
        settings = refl;
        grows = (omega arith, omega arith);
        cause = tt;
        part = tt;
        tables = stores_itself (tables_of c.args.session.now.core.events) (g.S.Store.acts c.args.env.now.store.now);
        asked = silent_asked tt policies c.args.line.items (reach_of g.S.Store g.M.MergeOperator g.T.BlockTransformer c.args.env.now) c.args.session.now silent;
        adds = adds_same _ _ refl;
        puts = puts_none _;
        still = refl;
      };
      sink = record {
        write_fault = λ is. absurd (is_no_error is);
        still = refl;
        uncounted = tt;
        unanswered = tt;
        later = omega arith;
      };
    }
