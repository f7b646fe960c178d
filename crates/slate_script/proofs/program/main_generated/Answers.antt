use Rattle.std.proofs.Common.{[], ◌≡◌, ◌⊎◌, ◌≤◌, ℕ, inl, inr, Err, sym, ap, subst, refl, ◌∙◌, arith, map}
use Rattle.slate_types.specs.declared.error.SlateDBError.TheVariants.{WriteFault}
use Rattle.slate_types.specs.Faults.{Rose}
use Rattle.slate_types.specs.Outside.{Counts}
use Rattle.slate_store.specs.Lines.{lines_of}
use Rattle.slate_txn.specs.State.{Rules, opening}
use Rattle.slate_db.specs.Checked.{SlipsFrom}
use Rattle.slate_db.specs.Flushed.{layout_of}
use Rattle.slate_db.specs.Meaning.{Meaning}
use Rattle.slate_language.specs.Generate.{generate, summary}
use Rattle.slate_language.specs.Replies.{after_lines}
use Rattle.slate_script.specs.LineReads.{HasReadByLine}
use Rattle.slate_script.specs.Program.{segments_of, main_rules, parts_of, status, HasSummed, IsShownStatus}
use Rattle.slate_script.specs.Run.{run_rules}
use Rattle.slate_script.specs.StoredState.{IsStoredState}
use Rattle.slate_script.specs.Terms.{terms_of}
use Rattle.slate_script.specs.Told.{IsShown, IsUntrue}
use Rattle.slate_script.proofs.Mains.{lawful, premises, none_rose, rules_are, words_are, words_or_slips}
use Rattle.slate_script.proofs.Written.{cut_or_slips, summed_err, summed_ok, summed_or_slips}
use Rattle.slate_script.proofs.RunEnds.{unless_error}
use Rattle.slate_script.proofs.Statuses.{damage_between, is_damage, is_ended, is_generated, is_store, is_write, status_or, store_or, written_or}
use Rattle.slate_script.proofs.program.main_generated.Goals as goal

pub returns-in-Ok : goal.returns-in-Ok
returns-in-Ok g c =
    record {
      ends = record {
        kinds = inl refl;
        honest = λ lawful_policies empty. record {
          said = λ before told. (let s = c.args.generated.now.settings in
              let script = generate c.args.generated.now.rounds c.args.generated.now.seed in
              let content = g.W.Sink.content c.run_generated-ran.new.sink in
              let says = λ (r : Rules). HasSummed (summary r script) before content (0) in
              subst says (rules_are s c.transformer_of.result c.transformer_of.ensures) (summed_ok _ before content ((c.in-Ok.ensures.honest (premises _ s.operator c.transformer_of.result _ lawful_policies empty)).said before told)));
          stored = λ zero. (let o = c.args.generated.now.settings.options in
              let given = map (λ p. (goal.FilterPolicy-dyn g (p.vtable, p.value)).meaning p.value) c.args.policies.items in
              let objects = g.S.Store.objects c.run_generated-ran.new.env.store.now in
              subst (λ t. IsStoredState (parts_of c.args.generated.now.settings) (main_rules c.args.generated.now.settings) (layout_of o given (segments_of c.args.generated.now.settings)) (g.S.Store.objects t) (after_lines (main_rules c.args.generated.now.settings) opening (lines_of (generate c.args.generated.now.rounds c.args.generated.now.seed)))) (sym (c.store-1.given.1 (sym c.in-Ok.ensures.puts.store)))
              (subst (λ (x : Meaning). IsStoredState x (run_rules o x (segments_of c.args.generated.now.settings)) (layout_of o given (segments_of c.args.generated.now.settings)) objects (after_lines (run_rules o x (segments_of c.args.generated.now.settings)) opening (lines_of (generate c.args.generated.now.rounds c.args.generated.now.seed)))) (words_are c.args.generated.now.settings c.transformer_of.result c.transformer_of.ensures)
              (c.in-Ok.ensures.honest (premises _ c.args.generated.now.settings.operator c.transformer_of.result _ lawful_policies empty)).stored));
          reads = λ zero. (let its = c.args.generated.now.settings in
              let ls = lines_of (generate c.args.generated.now.rounds c.args.generated.now.seed) in
              let given = map (λ p. (goal.FilterPolicy-dyn g (p.vtable, p.value)).meaning p.value) c.args.policies.items in
              let acts = g.S.Store.acts in
              let objects = g.S.Store.objects in
              subst (λ t. HasReadByLine (terms_of its.options (segments_of its) given (parts_of its)) ls (acts c.args.store.now) (acts t) (objects t)) (sym (c.store-1.given.1 (sym c.in-Ok.ensures.puts.store)))
              (subst (λ (x : Meaning). HasReadByLine (terms_of its.options (segments_of its) given x) ls (acts c.args.store.now) (acts c.run_generated-ran.new.env.store.now) (objects c.run_generated-ran.new.env.store.now)) (words_are its c.transformer_of.result c.transformer_of.ensures)
              (c.in-Ok.ensures.honest (premises _ its.operator c.transformer_of.result _ lawful_policies empty)).reads));
          complete = λ no-write no-store. inl refl;
        };
        checked = (λ before told lawful_policies known began.
            let s = c.args.generated.now.settings in
            let script = generate c.args.generated.now.rounds c.args.generated.now.seed in
            let content = g.W.Sink.content c.run_generated-ran.new.sink in
            let says = λ (r : Rules). HasSummed (summary r script) before content (0) in
            let acts = g.S.Store.acts in
            subst (λ t. says (main_rules s) ⊎ SlipsFrom (parts_of s).encode [] (acts c.args.store.now) (acts t)) (sym (c.store-1.given.1 (sym c.in-Ok.ensures.puts.store)))
            (words_or_slips says s c.transformer_of.result c.transformer_of.ensures (acts c.args.store.now) (acts c.run_generated-ran.new.env.store.now)
            (summed_or_slips _ before content ((c.in-Ok.ensures.told (record { policies = lawful_policies; parts = lawful s.operator c.transformer_of.result })).said before told known began))));
        shown = λ which. absurd (omega (arith, (damage_between 0 which).0));
        unwritten = inl refl;
      };
      caused = record {
        write_fault = λ six. absurd (omega (arith, six));
        store_fault = λ seven. absurd (omega (arith, seven));
        sink_still = inr (unless_error _ WriteFault c.in-Ok.ensures.sink_still);
        store_still = inr (subst (λ t. g.S.Store.faults t ≡ g.S.Store.faults c.args.store.now) (sym (c.store-1.given.1 (sym c.in-Ok.ensures.puts.store))) (ap (λ (k : Counts). k.store) c.in-Ok.ensures.parts_still));
        later = c.run_generated-ran.ensures.later;
        store_later = subst (λ t. g.S.Store.faults c.args.store.now ≤ g.S.Store.faults t) (sym (c.store-1.given.1 (sym c.in-Ok.ensures.puts.store))) c.in-Ok.ensures.puts.later.store;
      };
      undamaged = λ lawful_policies empty which. absurd (omega (arith, (damage_between 0 which).0));
      untrue = λ lawful_policies which. absurd (omega (arith, (damage_between 0 which).0));
    }

pub returns-in-Err : goal.returns-in-Err
returns-in-Err g c =
    record {
      ends = record {
        kinds = rw c.status_of-status.ensures (is_generated c.in-Err.error c.in-Err.ensures.outside (λ h. c.in-Err.ensures.cause.read_fault (ap Err h)) (λ message h. none_rose c.args.generated.now.settings.operator c.run_generated-ran.new.env.operator (c.in-Err.ensures.cause.operator_fault message (ap Err h))) (λ h. none_rose c.transformer_of.result c.run_generated-ran.new.env.transformer (c.in-Err.ensures.cause.transform_fault (ap Err h))));
        honest = λ lawful_policies empty. record {
          said = λ before told. (let s = c.args.generated.now.settings in
              let script = generate c.args.generated.now.rounds c.args.generated.now.seed in
              let content = g.W.Sink.content c.run_generated-ran.new.sink in
              let says = λ (r : Rules). HasSummed (summary r script) before content (c.status_of-status.result) in
              subst says (rules_are s c.transformer_of.result c.transformer_of.ensures) (summed_err _ before content c.in-Err.error c.status_of-status.result c.status_of-status.ensures c.in-Err.ensures.cause.kinds ((c.in-Err.ensures.honest (premises _ s.operator c.transformer_of.result _ lawful_policies empty)).said before told)));
          stored = λ zero. absurd (is_ended c.in-Err.error c.in-Err.ensures.cause.kinds (inl (sym c.status_of-status.ensures ∙ zero)));
          reads = λ zero. absurd (is_ended c.in-Err.error c.in-Err.ensures.cause.kinds (inl (sym c.status_of-status.ensures ∙ zero)));
          complete = λ no-write no-store. inr (c.status_of-status.ensures ∙ ap status ((c.in-Err.ensures.honest (premises _ c.args.generated.now.settings.operator c.transformer_of.result _ lawful_policies empty)).complete (record { source_still = λ h. h; sink_still = no-write; store = λ h. no-store (subst (λ t. Rose (g.S.Store.faults c.args.store.now) (g.S.Store.faults t)) (sym (c.store-1.given.1 (sym c.in-Err.ensures.puts.store))) h); operator = none_rose c.args.generated.now.settings.operator c.run_generated-ran.new.env.operator; transformer = none_rose c.transformer_of.result c.run_generated-ran.new.env.transformer })));
        };
        checked = (λ before told lawful_policies known began.
            let s = c.args.generated.now.settings in
            let script = generate c.args.generated.now.rounds c.args.generated.now.seed in
            let content = g.W.Sink.content c.run_generated-ran.new.sink in
            let says = λ (r : Rules). HasSummed (summary r script) before content (c.status_of-status.result) in
            let acts = g.S.Store.acts in
            subst (λ t. says (main_rules s) ⊎ SlipsFrom (parts_of s).encode [] (acts c.args.store.now) (acts t)) (sym (c.store-1.given.1 (sym c.in-Err.ensures.puts.store)))
            (words_or_slips says s c.transformer_of.result c.transformer_of.ensures (acts c.args.store.now) (acts c.run_generated-ran.new.env.store.now)
            (cut_or_slips _ before content c.in-Err.error c.status_of-status.result c.status_of-status.ensures c.in-Err.ensures.cause.kinds ((c.in-Err.ensures.told (record { policies = lawful_policies; parts = lawful s.operator c.transformer_of.result })).said before told known began))));
        shown = (λ which.
            let within = subst (λ (n : ℕ). (12 ≤ n) × (n ≤ 19)) c.status_of-status.ensures (damage_between c.status_of-status.result which) in
            let given = map (λ p. (goal.FilterPolicy-dyn g (p.vtable, p.value)).meaning p.value) c.args.policies.items in
            let acts = g.S.Store.acts in
            subst (λ t. IsShownStatus given (parts_of c.args.generated.now.settings) (acts c.args.store.now) (acts t) c.status_of-status.result) (sym (c.store-1.given.1 (sym c.in-Err.ensures.puts.store))) (
              c.in-Err.error,
              sym c.status_of-status.ensures,
              subst (λ (m : Meaning). IsShown given m (acts c.args.store.now) (acts c.run_generated-ran.new.env.store.now) c.in-Err.error) (words_are c.args.generated.now.settings c.transformer_of.result c.transformer_of.ensures)
                  (c.in-Err.ensures.shown (is_damage c.in-Err.error c.in-Err.ensures.cause.kinds within.0 within.1)),
            ));
        unwritten = written_or c.status_of-status.result c.in-Err.error c.status_of-status.ensures c.in-Err.ensures.unwritten;
      };
      caused = record {
        write_fault = λ six. c.in-Err.ensures.cause.write_fault (ap Err (is_write c.in-Err.error c.in-Err.ensures.cause.kinds (sym c.status_of-status.ensures ∙ six)));
        store_fault = (λ seven.
            let rose = c.in-Err.ensures.cause.store_fault (ap Err (is_store c.in-Err.error c.in-Err.ensures.cause.kinds (sym c.status_of-status.ensures ∙ seven))) in
            subst (λ t. Rose (g.S.Store.faults c.args.store.now) (g.S.Store.faults t)) (sym (c.store-1.given.1 (sym c.in-Err.ensures.puts.store))) rose);
        sink_still = status_or c.in-Err.error WriteFault c.status_of-status.result _ c.status_of-status.ensures refl c.in-Err.ensures.sink_still;
        store_still = subst (λ t. (c.status_of-status.result ≡ 7) ⊎ (g.S.Store.faults t ≡ g.S.Store.faults c.args.store.now)) (sym (c.store-1.given.1 (sym c.in-Err.ensures.puts.store))) (store_or _ _ c.in-Err.error c.status_of-status.result c.status_of-status.ensures c.in-Err.ensures.parts_still);
        later = c.run_generated-ran.ensures.later;
        store_later = subst (λ t. g.S.Store.faults c.args.store.now ≤ g.S.Store.faults t) (sym (c.store-1.given.1 (sym c.in-Err.ensures.puts.store))) c.in-Err.ensures.puts.later.store;
      };
      undamaged = (λ lawful_policies empty which.
          let within = subst (λ (n : ℕ). (12 ≤ n) × (n ≤ 19)) c.status_of-status.ensures (damage_between c.status_of-status.result which) in
          c.in-Err.ensures.undamaged (premises _ c.args.generated.now.settings.operator c.transformer_of.result _ lawful_policies empty) (is_damage c.in-Err.error c.in-Err.ensures.cause.kinds within.0 within.1));
      untrue = (λ lawful_policies which.
          let within = subst (λ (n : ℕ). (12 ≤ n) × (n ≤ 19)) c.status_of-status.ensures (damage_between c.status_of-status.result which) in
          subst (λ t. IsUntrue [] (g.S.Store.acts c.args.store.now) (g.S.Store.acts t)) (sym (c.store-1.given.1 (sym c.in-Err.ensures.puts.store)))
          ((c.in-Err.ensures.told (record { policies = lawful_policies; parts = lawful c.args.generated.now.settings.operator c.transformer_of.result })).untrue (is_damage c.in-Err.error c.in-Err.ensures.cause.kinds within.0 within.1)));
    }
