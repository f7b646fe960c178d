use Rattle.std.proofs.Common.{[], ◌≡◌, ◌⊎◌, ◌≤◌, ℕ, List, Option, inl, inr, Err, Some, sym, ap, subst, refl, ◌∙◌, arith}
use Rattle.slate_types.specs.declared.error.SlateDBError.TheVariants.{ReadFault, WriteFault}
use Rattle.slate_script.specs.LineReads.{HasReadByLine}
use Rattle.slate_script.specs.Program.{segments_of, status}
use Rattle.slate_script.specs.Run.{run_rules, script_error}
use Rattle.slate_script.proofs.Statuses.{is_status, is_ended, is_read, is_write, is_store, is_too_long, is_syntax, is_damage, damage_between, its_own, status_or, store_or}
use Rattle.slate_language.specs.declared.words.Settings.{Settings}
use Rattle.slate_script.specs.Program.{segments_of, main_rules, parts_of, HasSummed, HasWritten, IsShownStatus}
use Rattle.slate_language.specs.Replies.{after_lines}
use Rattle.slate_script.specs.StoredState.{IsStoredState}
use Rattle.slate_script.specs.Terms.{terms_of}
use Rattle.slate_script.specs.Told.{IsShown, IsUntrue}
use Rattle.slate_store.specs.Lines.{lines_of}
use Rattle.slate_txn.specs.State.{Rules, opening}
use Rattle.slate_types.specs.Faults.{Rose}
use Rattle.slate_types.specs.Outside.{Counts, Objects}
use Rattle.slate_db.specs.Checked.{SlipsFrom}
use Rattle.slate_db.specs.Flushed.{layout_of}
use Rattle.slate_db.specs.Meaning.{Meaning}
use Rattle.std.proofs.Common.{map}
use Rattle.std.specs.String.{string_bytes}
use Rattle.slate_language.specs.Generate.{generate, summary}
use Rattle.slate_filter.specs.Laws.{AreValidNames}
use Rattle.slate_filter.specs.Policy.{Policy}
use Rattle.slate_language.specs.Words.{read_generated, read_words, used}
use Rattle.slate_language.specs.declared.words.Generated.{Generated}
use Rattle.slate_script.proofs.Mains.{generated_not_none, names_fit, names_unfit, one_script, read_as, same_generated}
use Rattle.slate_script.proofs.Used.{lawful_kept, valid_used}
use Rattle.slate_script.proofs.Statuses.{generated_not, generated_status}
use Rattle.slate_script.proofs.Mains.{lawful, premises, none_rose, rules_are, same_settings, words_are, words_or_slips, some_not_none}
use Rattle.slate_script.proofs.Written.{refused_or_slips, written_err, written_ok, written_or_slips}
use Rattle.slate_script.proofs.RunEnds.{unless_error}
use Rattle.slate_script.proofs.program.run_main.Goals as goal

-- the names of those that are kept
pub main_generated-requires-clause-names : goal.main_generated-requires-clause-names
main_generated-requires-clause-names g c = valid_used (map string_bytes c.args.words.now) c.args.policies.items c.keep_used-kept.result.items (λ p. (goal.FilterPolicy-dyn g (p.vtable, p.value)).meaning p.value) c.keep_used-kept.ensures (names_fit c.have_valid_names.result c.as_slice.result.now c.args.policies.items (λ p. ((goal.FilterPolicy-dyn g (p.vtable, p.value)).meaning p.value).name) c.have_valid_names.ensures c.as_slice.ensures.value c.if-not-have_valid_names.false)

pub run_script-ran-requires-clause-names : goal.run_script-ran-requires-clause-names
run_script-ran-requires-clause-names g c = λ κs lives. valid_used (map string_bytes c.args.words.now) c.args.policies.items c.keep_used-kept-2.result.items (λ p. (goal.FilterPolicy-dyn g (p.vtable, p.value)).meaning p.value) c.keep_used-kept-2.ensures (names_fit c.have_valid_names.result c.as_slice.result.now c.args.policies.items (λ p. ((goal.FilterPolicy-dyn g (p.vtable, p.value)).meaning p.value).name) c.have_valid_names.ensures c.as_slice.ensures.value c.if-not-have_valid_names.false)

pub returns-in-Ok : goal.returns-in-Ok
returns-in-Ok g c =
    let ws : List (List ℕ) = map string_bytes c.args.words.now in
    let handed : List (List ℕ) = map (λ p. ((goal.FilterPolicy-dyn g (p.vtable, p.value)).meaning p.value).name) c.args.policies.items in
    let fits : AreValidNames handed = names_fit c.have_valid_names.result c.as_slice.result.now c.args.policies.items (λ p. ((goal.FilterPolicy-dyn g (p.vtable, p.value)).meaning p.value).name) c.have_valid_names.ensures c.as_slice.ensures.value c.if-not-have_valid_names.false in
    let generated : c.parse_generated.result ≡ read_generated handed ws = read_as c.parse_generated.result c.as_slice-2.result.now c.args.policies.items (λ p. ((goal.FilterPolicy-dyn g (p.vtable, p.value)).meaning p.value).name) (λ names. read_generated names ws) c.parse_generated.ensures.generated c.as_slice-2.ensures.value in
    let settings : c.parse_words.result ≡ read_words handed ws = read_as c.parse_words.result c.as_slice-3.result.now c.args.policies.items (λ p. ((goal.FilterPolicy-dyn g (p.vtable, p.value)).meaning p.value).name) (λ names. read_words names ws) c.parse_words.ensures.settings c.as_slice-3.ensures.value in
    let fit = lawful_kept ws c.args.policies.items c.keep_used-kept-2.result.items (λ p. (goal.FilterPolicy-dyn g (p.vtable, p.value)).meaning p.value) c.keep_used-kept-2.ensures in
    let no_generated : (x : Generated) → read_generated handed ws ≡ Some x → ⊥ = λ x named. generated_not_none c.parse_generated.result x (generated ∙ named) c.in_default.is in
    record {
      ends = record {
        statuses = inl refl;
        unfit = λ unfit. absurd (unfit fits);
        unknown = λ none other. absurd (some_not_none c.parse_words.result c.in-Some-parse_words.settings c.in-Some-parse_words.is (settings ∙ none));
        script = λ s valid named. record {
          known = λ two. absurd (omega (arith, two));
          honest = λ script is lawful_policies empty. record {
            said = λ before told. (let same : c.in-Some-parse_words.settings ≡ s = same_settings c.parse_words.result c.in-Some-parse_words.settings s c.in-Some-parse_words.is (settings ∙ named) in
                let its = c.in-Some-parse_words.settings in
                let left = g.R.Source.left c.run_script-ran.new.source in
                let content = g.W.Sink.content c.run_script-ran.new.sink in
                let says = λ (r : Rules). HasWritten r script left before content (0) in
                subst (λ (t : Settings). says (main_rules t)) same (subst says (rules_are its c.transformer_of.result c.transformer_of.ensures)
                (written_ok _ script left before content ((c.in-Ok.ensures.honest script is (premises _ its.operator c.transformer_of.result _ (fit lawful_policies) empty)).said before told))));
            stored = λ zero. (let same : c.in-Some-parse_words.settings ≡ s = same_settings c.parse_words.result c.in-Some-parse_words.settings s c.in-Some-parse_words.is (settings ∙ named) in
                let given : List Policy = map (λ p. (goal.FilterPolicy-dyn g (p.vtable, p.value)).meaning p.value) c.args.policies.items in
                let kept : List Policy = map (λ p. (goal.FilterPolicy-dyn g (p.vtable, p.value)).meaning p.value) c.keep_used-kept-2.result.items in
                let ends = λ (x : Meaning) (t : Settings) (ps : List Policy) (objects : Option Objects). IsStoredState x (main_rules t) (layout_of t.options ps (segments_of t)) objects (after_lines (main_rules t) opening (lines_of script)) in
                let objects = g.S.Store.objects c.run_script-ran.new.env.store.now in
                subst (λ t. ends (parts_of s) s (used ws given) (g.S.Store.objects t)) (sym (c.store-1.given.1 (sym c.in-Ok.ensures.puts.store)))
                (subst (λ (ps : List Policy). ends (parts_of s) s ps objects) c.keep_used-kept-2.ensures
                (subst (λ (t : Settings). ends (parts_of t) t kept objects) same
                (subst (λ (x : Meaning). IsStoredState x (run_rules c.in-Some-parse_words.settings.options x (segments_of c.in-Some-parse_words.settings)) (layout_of c.in-Some-parse_words.settings.options kept (segments_of c.in-Some-parse_words.settings)) objects (after_lines (run_rules c.in-Some-parse_words.settings.options x (segments_of c.in-Some-parse_words.settings)) opening (lines_of script))) (words_are c.in-Some-parse_words.settings c.transformer_of.result c.transformer_of.ensures)
                (c.in-Ok.ensures.honest script is (premises _ c.in-Some-parse_words.settings.operator c.transformer_of.result _ (fit lawful_policies) empty)).stored))));
            reads = λ zero. (let its = c.in-Some-parse_words.settings in
                let same : its ≡ s = same_settings c.parse_words.result its s c.in-Some-parse_words.is (settings ∙ named) in
                let given : List Policy = map (λ p. (goal.FilterPolicy-dyn g (p.vtable, p.value)).meaning p.value) c.args.policies.items in
                let kept : List Policy = map (λ p. (goal.FilterPolicy-dyn g (p.vtable, p.value)).meaning p.value) c.keep_used-kept-2.result.items in
                let acts = g.S.Store.acts in
                let objects = g.S.Store.objects in
                let after = acts c.run_script-ran.new.env.store.now in
                let left = objects c.run_script-ran.new.env.store.now in
                subst (λ t. HasReadByLine (terms_of s.options (segments_of s) (used ws given) (parts_of s)) (lines_of script) (acts c.args.store.now) (acts t) (objects t)) (sym (c.store-1.given.1 (sym c.in-Ok.ensures.puts.store)))
                (subst (λ (ps : List Policy). HasReadByLine (terms_of s.options (segments_of s) ps (parts_of s)) (lines_of script) (acts c.args.store.now) after left) c.keep_used-kept-2.ensures
                (subst (λ (t : Settings). HasReadByLine (terms_of t.options (segments_of t) kept (parts_of t)) (lines_of script) (acts c.args.store.now) after left) same
                (subst (λ (x : Meaning). HasReadByLine (terms_of its.options (segments_of its) kept x) (lines_of script) (acts c.args.store.now) after left) (words_are its c.transformer_of.result c.transformer_of.ensures)
                (c.in-Ok.ensures.honest script is (premises _ its.operator c.transformer_of.result _ (fit lawful_policies) empty)).reads))));
            complete = λ formed no-read no-write no-store. inl refl;
          };
          checked = λ script before is told lawful_policies known began. (let same : c.in-Some-parse_words.settings ≡ s = same_settings c.parse_words.result c.in-Some-parse_words.settings s c.in-Some-parse_words.is (settings ∙ named) in
              let its = c.in-Some-parse_words.settings in
              let left = g.R.Source.left c.run_script-ran.new.source in
              let content = g.W.Sink.content c.run_script-ran.new.sink in
              let says = λ (r : Rules). HasWritten r script left before content (0) in
              let acts = g.S.Store.acts in
              let after = acts c.run_script-ran.new.env.store.now in
              subst (λ t. says (main_rules s) ⊎ SlipsFrom (parts_of s).encode [] (acts c.args.store.now) (acts t)) (sym (c.store-1.given.1 (sym c.in-Ok.ensures.puts.store)))
              (subst (λ (t : Settings). says (main_rules t) ⊎ SlipsFrom (parts_of t).encode [] (acts c.args.store.now) after) same
              (words_or_slips says its c.transformer_of.result c.transformer_of.ensures (acts c.args.store.now) after
              (written_or_slips _ script left before content ((c.in-Ok.ensures.told (record { policies = fit lawful_policies; parts = lawful its.operator c.transformer_of.result })).said script before is told known began)))));
          shown = λ which. absurd (omega (arith, (damage_between 0 which).0));
        };
        generated = λ named-g valid named. record {
          kinds = absurd (no_generated named-g named);
          honest = λ lawful_policies empty. record {
            said = λ before told. absurd (no_generated named-g named);
            stored = λ zero. absurd (no_generated named-g named);
            reads = λ zero. absurd (no_generated named-g named);
            complete = λ no-write no-store. absurd (no_generated named-g named);
          };
          checked = λ before told lawful_policies known began. absurd (no_generated named-g named);
          shown = λ which. absurd (no_generated named-g named);
          unwritten = absurd (no_generated named-g named);
        };
        ended = λ script other is zero. (let read = c.in-Ok.ensures.read script is in (read.whole.0, read.whole.1, read.no_error));
        read = record {
          syntax = λ script is three. absurd (omega (arith, three));
          too_long = λ script is four. absurd (omega (arith, four));
          read_fault = λ five. absurd (omega (arith, five));
          source_still = inr (unless_error _ ReadFault c.in-Ok.ensures.source_still);
          all = λ script is four. absurd (omega (arith, four));
          taken = λ script is. (c.run_script-ran.ensures.read script is).taken;
          later = c.run_script-ran.ensures.later.0;
        };
        caused = record {
          write_fault = λ six. absurd (omega (arith, six));
          store_fault = λ seven. absurd (omega (arith, seven));
          sink_still = inr (unless_error _ WriteFault c.in-Ok.ensures.sink_still);
          store_still = inr (subst (λ t. g.S.Store.faults t ≡ g.S.Store.faults c.args.store.now) (sym (c.store-1.given.1 (sym c.in-Ok.ensures.puts.store))) (ap (λ (k : Counts). k.store) c.in-Ok.ensures.parts_still));
          later = c.run_script-ran.ensures.later.1;
          store_later = subst (λ t. g.S.Store.faults c.args.store.now ≤ g.S.Store.faults t) (sym (c.store-1.given.1 (sym c.in-Ok.ensures.puts.store))) c.in-Ok.ensures.puts.later.store;
        };
      };
      undamaged = λ lawful_policies empty which. absurd (omega (arith, (damage_between 0 which).0));
      untrue = λ lawful_policies which. absurd (omega (arith, (damage_between 0 which).0));
      untouched = λ two. (absurd (omega (arith, two)), absurd (omega (arith, two)), absurd (omega (arith, two)));
      alone = λ named-g valid named. absurd (no_generated named-g named);
    }

-- ---- where an error ended the run

pub returns-in-Err : goal.returns-in-Err
returns-in-Err g c =
    let ws : List (List ℕ) = map string_bytes c.args.words.now in
    let handed : List (List ℕ) = map (λ p. ((goal.FilterPolicy-dyn g (p.vtable, p.value)).meaning p.value).name) c.args.policies.items in
    let fits : AreValidNames handed = names_fit c.have_valid_names.result c.as_slice.result.now c.args.policies.items (λ p. ((goal.FilterPolicy-dyn g (p.vtable, p.value)).meaning p.value).name) c.have_valid_names.ensures c.as_slice.ensures.value c.if-not-have_valid_names.false in
    let generated : c.parse_generated.result ≡ read_generated handed ws = read_as c.parse_generated.result c.as_slice-2.result.now c.args.policies.items (λ p. ((goal.FilterPolicy-dyn g (p.vtable, p.value)).meaning p.value).name) (λ names. read_generated names ws) c.parse_generated.ensures.generated c.as_slice-2.ensures.value in
    let settings : c.parse_words.result ≡ read_words handed ws = read_as c.parse_words.result c.as_slice-3.result.now c.args.policies.items (λ p. ((goal.FilterPolicy-dyn g (p.vtable, p.value)).meaning p.value).name) (λ names. read_words names ws) c.parse_words.ensures.settings c.as_slice-3.ensures.value in
    let fit = lawful_kept ws c.args.policies.items c.keep_used-kept-2.result.items (λ p. (goal.FilterPolicy-dyn g (p.vtable, p.value)).meaning p.value) c.keep_used-kept-2.ensures in
    let no_generated : (x : Generated) → read_generated handed ws ≡ Some x → ⊥ = λ x named. generated_not_none c.parse_generated.result x (generated ∙ named) c.in_default.is in
    record {
      ends = record {
        statuses = rw c.status_of-status.ensures (is_status c.in-Err.error c.in-Err.ensures.cause.kinds (λ message h. none_rose c.in-Some-parse_words.settings.operator c.run_script-ran.new.env.operator (c.in-Err.ensures.cause.operator_fault message (ap Err h))) (λ h. none_rose c.transformer_of.result c.run_script-ran.new.env.transformer (c.in-Err.ensures.cause.transform_fault (ap Err h))));
        unfit = λ unfit. absurd (unfit fits);
        unknown = λ none other. absurd (some_not_none c.parse_words.result c.in-Some-parse_words.settings c.in-Some-parse_words.is (settings ∙ none));
        script = λ s valid named. record {
          known = λ two. is_ended c.in-Err.error c.in-Err.ensures.cause.kinds (inr (sym c.status_of-status.ensures ∙ two));
          honest = λ script is lawful_policies empty. record {
            said = λ before told. (let same : c.in-Some-parse_words.settings ≡ s = same_settings c.parse_words.result c.in-Some-parse_words.settings s c.in-Some-parse_words.is (settings ∙ named) in
                let its = c.in-Some-parse_words.settings in
                let left = g.R.Source.left c.run_script-ran.new.source in
                let content = g.W.Sink.content c.run_script-ran.new.sink in
                let says = λ (r : Rules). HasWritten r script left before content (c.status_of-status.result) in
                subst (λ (t : Settings). says (main_rules t)) same (subst says (rules_are its c.transformer_of.result c.transformer_of.ensures)
                (written_err _ script left before content c.in-Err.error c.status_of-status.result c.status_of-status.ensures c.in-Err.ensures.cause.kinds (c.in-Err.ensures.read script is).error ((c.in-Err.ensures.honest script is (premises _ its.operator c.transformer_of.result _ (fit lawful_policies) empty)).said before told))));
            stored = λ zero. absurd (is_ended c.in-Err.error c.in-Err.ensures.cause.kinds (inl (sym c.status_of-status.ensures ∙ zero)));
            reads = λ zero. absurd (is_ended c.in-Err.error c.in-Err.ensures.cause.kinds (inl (sym c.status_of-status.ensures ∙ zero)));
            complete = λ formed no-read no-write no-store. inr (c.status_of-status.ensures ∙ ap status ((c.in-Err.ensures.honest script is (premises _ c.in-Some-parse_words.settings.operator c.transformer_of.result _ (fit lawful_policies) empty)).complete formed (record { source_still = no-read; sink_still = no-write; store = λ h. no-store (subst (λ t. Rose (g.S.Store.faults c.args.store.now) (g.S.Store.faults t)) (sym (c.store-1.given.1 (sym c.in-Err.ensures.puts.store))) h); operator = none_rose c.in-Some-parse_words.settings.operator c.run_script-ran.new.env.operator; transformer = none_rose c.transformer_of.result c.run_script-ran.new.env.transformer })));
          };
          checked = λ script before is told lawful_policies known began. (let same : c.in-Some-parse_words.settings ≡ s = same_settings c.parse_words.result c.in-Some-parse_words.settings s c.in-Some-parse_words.is (settings ∙ named) in
              let its = c.in-Some-parse_words.settings in
              let left = g.R.Source.left c.run_script-ran.new.source in
              let content = g.W.Sink.content c.run_script-ran.new.sink in
              let says = λ (r : Rules). HasWritten r script left before content (c.status_of-status.result) in
              let acts = g.S.Store.acts in
              let after = acts c.run_script-ran.new.env.store.now in
              subst (λ t. says (main_rules s) ⊎ SlipsFrom (parts_of s).encode [] (acts c.args.store.now) (acts t)) (sym (c.store-1.given.1 (sym c.in-Err.ensures.puts.store)))
              (subst (λ (t : Settings). says (main_rules t) ⊎ SlipsFrom (parts_of t).encode [] (acts c.args.store.now) after) same
              (words_or_slips says its c.transformer_of.result c.transformer_of.ensures (acts c.args.store.now) after
              (refused_or_slips _ script left before content c.in-Err.error c.status_of-status.result c.status_of-status.ensures c.in-Err.ensures.cause.kinds (c.in-Err.ensures.read script is).error ((c.in-Err.ensures.told (record { policies = fit lawful_policies; parts = lawful its.operator c.transformer_of.result })).said script before is told known began)))));
          shown = λ which. (let same : c.in-Some-parse_words.settings ≡ s = same_settings c.parse_words.result c.in-Some-parse_words.settings s c.in-Some-parse_words.is (settings ∙ named) in
              let within = subst (λ (n : ℕ). (12 ≤ n) × (n ≤ 19)) c.status_of-status.ensures (damage_between c.status_of-status.result which) in
              let given : List Policy = map (λ p. (goal.FilterPolicy-dyn g (p.vtable, p.value)).meaning p.value) c.args.policies.items in
              let kept : List Policy = map (λ p. (goal.FilterPolicy-dyn g (p.vtable, p.value)).meaning p.value) c.keep_used-kept-2.result.items in
              let acts = g.S.Store.acts in
              let told = acts c.run_script-ran.new.env.store.now in
              subst (λ t. IsShownStatus (used ws given) (parts_of s) (acts c.args.store.now) (acts t) c.status_of-status.result) (sym (c.store-1.given.1 (sym c.in-Err.ensures.puts.store))) (
                c.in-Err.error,
                sym c.status_of-status.ensures,
                subst (λ (ps : List Policy). IsShown ps (parts_of s) (acts c.args.store.now) told c.in-Err.error) c.keep_used-kept-2.ensures
                    (subst (λ (t : Settings). IsShown kept (parts_of t) (acts c.args.store.now) told c.in-Err.error) same
                    (subst (λ (m : Meaning). IsShown kept m (acts c.args.store.now) told c.in-Err.error) (words_are c.in-Some-parse_words.settings c.transformer_of.result c.transformer_of.ensures)
                    (c.in-Err.ensures.shown (is_damage c.in-Err.error c.in-Err.ensures.cause.kinds within.0 within.1)))),
              ));
        };
        generated = λ named-g valid named. record {
          kinds = absurd (no_generated named-g named);
          honest = λ lawful_policies empty. record {
            said = λ before told. absurd (no_generated named-g named);
            stored = λ zero. absurd (no_generated named-g named);
            reads = λ zero. absurd (no_generated named-g named);
            complete = λ no-write no-store. absurd (no_generated named-g named);
          };
          checked = λ before told lawful_policies known began. absurd (no_generated named-g named);
          shown = λ which. absurd (no_generated named-g named);
          unwritten = absurd (no_generated named-g named);
        };
        ended = λ script other is zero. absurd (is_ended c.in-Err.error c.in-Err.ensures.cause.kinds (inl (sym c.status_of-status.ensures ∙ zero)));
        read = record {
          syntax = (λ script is three.
              let which = sym c.status_of-status.ensures ∙ three in
              let kind = is_syntax c.in-Err.error c.in-Err.ensures.cause.kinds which in
              (kind.0, its_own (script_error script) c.in-Err.error (c.in-Err.ensures.read script is).error (inl which) ∙ ap Some kind.1));
          too_long = (λ script is four.
              let which = sym c.status_of-status.ensures ∙ four in
              its_own (script_error script) c.in-Err.error (c.in-Err.ensures.read script is).error (inr which) ∙ ap Some (is_too_long c.in-Err.error c.in-Err.ensures.cause.kinds which));
          read_fault = λ five. c.in-Err.ensures.cause.read_fault (ap Err (is_read c.in-Err.error c.in-Err.ensures.cause.kinds (sym c.status_of-status.ensures ∙ five)));
          source_still = status_or c.in-Err.error ReadFault c.status_of-status.result _ c.status_of-status.ensures refl c.in-Err.ensures.source_still;
          all = λ script is four. (c.in-Err.ensures.read script is).too_long (ap Err (is_too_long c.in-Err.error c.in-Err.ensures.cause.kinds (sym c.status_of-status.ensures ∙ four)));
          taken = λ script is. (c.run_script-ran.ensures.read script is).taken;
          later = c.run_script-ran.ensures.later.0;
        };
        caused = record {
          write_fault = λ six. c.in-Err.ensures.cause.write_fault (ap Err (is_write c.in-Err.error c.in-Err.ensures.cause.kinds (sym c.status_of-status.ensures ∙ six)));
          store_fault = (λ seven.
              let rose = c.in-Err.ensures.cause.store_fault (ap Err (is_store c.in-Err.error c.in-Err.ensures.cause.kinds (sym c.status_of-status.ensures ∙ seven))) in
              subst (λ t. Rose (g.S.Store.faults c.args.store.now) (g.S.Store.faults t)) (sym (c.store-1.given.1 (sym c.in-Err.ensures.puts.store))) rose);
          sink_still = status_or c.in-Err.error WriteFault c.status_of-status.result _ c.status_of-status.ensures refl c.in-Err.ensures.sink_still;
          store_still = subst (λ t. (c.status_of-status.result ≡ 7) ⊎ (g.S.Store.faults t ≡ g.S.Store.faults c.args.store.now)) (sym (c.store-1.given.1 (sym c.in-Err.ensures.puts.store))) (store_or _ _ c.in-Err.error c.status_of-status.result c.status_of-status.ensures c.in-Err.ensures.parts_still);
          later = c.run_script-ran.ensures.later.1;
          store_later = subst (λ t. g.S.Store.faults c.args.store.now ≤ g.S.Store.faults t) (sym (c.store-1.given.1 (sym c.in-Err.ensures.puts.store))) c.in-Err.ensures.puts.later.store;
        };
      };
      undamaged = (λ lawful_policies empty which.
          let within = subst (λ (n : ℕ). (12 ≤ n) × (n ≤ 19)) c.status_of-status.ensures (damage_between c.status_of-status.result which) in
          c.in-Err.ensures.undamaged (premises _ c.in-Some-parse_words.settings.operator c.transformer_of.result _ (fit lawful_policies) empty) (is_damage c.in-Err.error c.in-Err.ensures.cause.kinds within.0 within.1));
      untrue = (λ lawful_policies which.
          let within = subst (λ (n : ℕ). (12 ≤ n) × (n ≤ 19)) c.status_of-status.ensures (damage_between c.status_of-status.result which) in
          subst (λ t. IsUntrue [] (g.S.Store.acts c.args.store.now) (g.S.Store.acts t)) (sym (c.store-1.given.1 (sym c.in-Err.ensures.puts.store)))
          ((c.in-Err.ensures.told (record { policies = fit lawful_policies; parts = lawful c.in-Some-parse_words.settings.operator c.transformer_of.result })).untrue (is_damage c.in-Err.error c.in-Err.ensures.cause.kinds within.0 within.1)));
      untouched = λ two. (absurd (is_ended c.in-Err.error c.in-Err.ensures.cause.kinds (inr (sym c.status_of-status.ensures ∙ two))), absurd (is_ended c.in-Err.error c.in-Err.ensures.cause.kinds (inr (sym c.status_of-status.ensures ∙ two))), absurd (is_ended c.in-Err.error c.in-Err.ensures.cause.kinds (inr (sym c.status_of-status.ensures ∙ two))));
      alone = λ named-g valid named. absurd (no_generated named-g named);
    }

-- ---- where the names won't do

pub returns-then-not-have_valid_names : goal.returns-then-not-have_valid_names
returns-then-not-have_valid_names g c =
    let handed : List (List ℕ) = map (λ p. ((goal.FilterPolicy-dyn g (p.vtable, p.value)).meaning p.value).name) c.args.policies.items in
    let unfit : AreValidNames handed → ⊥ = names_unfit c.have_valid_names.result c.as_slice.result.now c.args.policies.items (λ p. ((goal.FilterPolicy-dyn g (p.vtable, p.value)).meaning p.value).name) c.have_valid_names.ensures c.as_slice.ensures.value c.if-not-have_valid_names.true in
    record {
      ends = record {
        statuses = inr (inl refl);
        unfit = λ not. refl;
        unknown = λ none other. refl;
        script = λ s valid named. record {
          known = λ two. absurd (unfit valid);
          honest = λ script is lawful_policies empty. record {
            said = λ before told. absurd (unfit valid);
            stored = λ zero. absurd (omega (arith, zero));
            reads = λ zero. absurd (omega (arith, zero));
            complete = λ formed no-read no-write no-store. absurd (unfit valid);
          };
          checked = λ script before is told lawful_policies known began. absurd (unfit valid);
          shown = λ which. absurd (omega (arith, (damage_between 2 which).0));
        };
        generated = λ named-g valid named. record {
          kinds = absurd (unfit valid);
          honest = λ lawful_policies empty. record {
            said = λ before told. absurd (unfit valid);
            stored = λ zero. absurd (unfit valid);
            reads = λ zero. absurd (unfit valid);
            complete = λ no-write no-store. absurd (unfit valid);
          };
          checked = λ before told lawful_policies known began. absurd (unfit valid);
          shown = λ which. absurd (unfit valid);
          unwritten = absurd (unfit valid);
        };
        ended = λ script other is zero. absurd (omega (arith, zero));
        read = record {
          syntax = λ script is three. absurd (omega (arith, three));
          too_long = λ script is four. absurd (omega (arith, four));
          read_fault = λ five. absurd (omega (arith, five));
          source_still = inr refl;
          all = λ script is four. absurd (omega (arith, four));
          taken = λ script is. (0, omega arith, is);
          later = omega arith;
        };
        caused = record {
          write_fault = λ six. absurd (omega (arith, six));
          store_fault = λ seven. absurd (omega (arith, seven));
          sink_still = inr refl;
          store_still = inr refl;
          later = omega arith;
          store_later = omega arith;
        };
      };
      undamaged = λ lawful_policies empty which. absurd (omega (arith, (damage_between 2 which).0));
      untrue = λ lawful_policies which. absurd (omega (arith, (damage_between 2 which).0));
      untouched = λ two. (refl, refl, refl);
      alone = λ named-g valid named. absurd (unfit valid);
    }

pub returns-in_default-parse_words : goal.returns-in_default-parse_words
returns-in_default-parse_words g c =
    let ws : List (List ℕ) = map string_bytes c.args.words.now in
    let handed : List (List ℕ) = map (λ p. ((goal.FilterPolicy-dyn g (p.vtable, p.value)).meaning p.value).name) c.args.policies.items in
    let generated : c.parse_generated.result ≡ read_generated handed ws = read_as c.parse_generated.result c.as_slice-2.result.now c.args.policies.items (λ p. ((goal.FilterPolicy-dyn g (p.vtable, p.value)).meaning p.value).name) (λ names. read_generated names ws) c.parse_generated.ensures.generated c.as_slice-2.ensures.value in
    let settings : c.parse_words.result ≡ read_words handed ws = read_as c.parse_words.result c.as_slice-3.result.now c.args.policies.items (λ p. ((goal.FilterPolicy-dyn g (p.vtable, p.value)).meaning p.value).name) (λ names. read_words names ws) c.parse_words.ensures.settings c.as_slice-3.ensures.value in
    let no_generated : (x : Generated) → read_generated handed ws ≡ Some x → ⊥ = λ x named. generated_not_none c.parse_generated.result x (generated ∙ named) c.in_default.is in
    record {
      ends = record {
        statuses = inr (inl refl);
        unfit = λ unfit. refl;
        unknown = λ none other. refl;
        script = λ s valid named. record {
          known = λ two. absurd (some_not_none c.parse_words.result s (settings ∙ named) c.in_default-parse_words.is);
          honest = λ script is lawful_policies empty. record {
            said = λ before told. absurd (some_not_none c.parse_words.result s (settings ∙ named) c.in_default-parse_words.is);
            stored = λ zero. absurd (omega (arith, zero));
            reads = λ zero. absurd (omega (arith, zero));
            complete = λ formed no-read no-write no-store. absurd (some_not_none c.parse_words.result s (settings ∙ named) c.in_default-parse_words.is);
          };
          checked = λ script before is told lawful_policies known began. absurd (some_not_none c.parse_words.result s (settings ∙ named) c.in_default-parse_words.is);
          shown = λ which. absurd (omega (arith, (damage_between 2 which).0));
        };
        generated = λ named-g valid named. record {
          kinds = absurd (no_generated named-g named);
          honest = λ lawful_policies empty. record {
            said = λ before told. absurd (no_generated named-g named);
            stored = λ zero. absurd (no_generated named-g named);
            reads = λ zero. absurd (no_generated named-g named);
            complete = λ no-write no-store. absurd (no_generated named-g named);
          };
          checked = λ before told lawful_policies known began. absurd (no_generated named-g named);
          shown = λ which. absurd (no_generated named-g named);
          unwritten = absurd (no_generated named-g named);
        };
        ended = λ script other is zero. absurd (omega (arith, zero));
        read = record {
          syntax = λ script is three. absurd (omega (arith, three));
          too_long = λ script is four. absurd (omega (arith, four));
          read_fault = λ five. absurd (omega (arith, five));
          source_still = inr refl;
          all = λ script is four. absurd (omega (arith, four));
          taken = λ script is. (0, omega arith, is);
          later = omega arith;
        };
        caused = record {
          write_fault = λ six. absurd (omega (arith, six));
          store_fault = λ seven. absurd (omega (arith, seven));
          sink_still = inr refl;
          store_still = inr refl;
          later = omega arith;
          store_later = omega arith;
        };
      };
      undamaged = λ lawful_policies empty which. absurd (omega (arith, (damage_between 2 which).0));
      untrue = λ lawful_policies which. absurd (omega (arith, (damage_between 2 which).0));
      untouched = λ two. (refl, refl, refl);
      alone = λ named-g valid named. absurd (no_generated named-g named);
    }

pub returns-in-Some : goal.returns-in-Some
returns-in-Some g c =
    let ws : List (List ℕ) = map string_bytes c.args.words.now in
    let handed : List (List ℕ) = map (λ p. ((goal.FilterPolicy-dyn g (p.vtable, p.value)).meaning p.value).name) c.args.policies.items in
    let fits : AreValidNames handed = names_fit c.have_valid_names.result c.as_slice.result.now c.args.policies.items (λ p. ((goal.FilterPolicy-dyn g (p.vtable, p.value)).meaning p.value).name) c.have_valid_names.ensures c.as_slice.ensures.value c.if-not-have_valid_names.false in
    let generated : c.parse_generated.result ≡ read_generated handed ws = read_as c.parse_generated.result c.as_slice-2.result.now c.args.policies.items (λ p. ((goal.FilterPolicy-dyn g (p.vtable, p.value)).meaning p.value).name) (λ names. read_generated names ws) c.parse_generated.ensures.generated c.as_slice-2.ensures.value in
    let fit = lawful_kept ws c.args.policies.items c.keep_used-kept.result.items (λ p. (goal.FilterPolicy-dyn g (p.vtable, p.value)).meaning p.value) c.keep_used-kept.ensures in
    let its : Generated = c.in-Some.generated in
    let read : read_generated handed ws ≡ Some its = sym generated ∙ c.in-Some.is in
    let own = c.main_generated.ensures.ends.kinds in
    let same = λ (x : Generated) (named : read_generated handed ws ≡ Some x). same_generated (read_generated handed ws) its x read named in
    record {
      ends = record {
        statuses = generated_status c.main_generated.result own;
        unfit = λ unfit. absurd (unfit fits);
        unknown = λ none other. absurd (generated_not_none (read_generated handed ws) its read other);
        script = λ s valid named. record {
          known = λ two. one_script handed ws its s read named;
          honest = λ script is lawful_policies empty. record {
            said = λ before told. one_script handed ws its s read named;
            stored = λ zero. one_script handed ws its s read named;
            reads = λ zero. one_script handed ws its s read named;
            complete = λ formed no-read no-write no-store. one_script handed ws its s read named;
          };
          checked = λ script before is told lawful_policies known began. one_script handed ws its s read named;
          shown = λ which. one_script handed ws its s read named;
        };
        generated = λ x valid named. record {
          kinds = own;
          honest = λ lawful_policies empty. record {
            said = λ before told. subst (λ (y : Generated). HasSummed (summary (main_rules y.settings) (generate y.rounds y.seed)) before (g.W.Sink.content c.main_generated.new.sink) c.main_generated.result) (same x named) ((c.main_generated.ensures.ends.honest (fit lawful_policies) empty).said before told);
            stored = λ zero. (let given : List Policy = map (λ p. (goal.FilterPolicy-dyn g (p.vtable, p.value)).meaning p.value) c.args.policies.items in
                let kept : List Policy = map (λ p. (goal.FilterPolicy-dyn g (p.vtable, p.value)).meaning p.value) c.keep_used-kept.result.items in
                let ends = λ (y : Generated) (ps : List Policy). IsStoredState (parts_of y.settings) (main_rules y.settings) (layout_of y.settings.options ps (segments_of y.settings)) (g.S.Store.objects c.main_generated.new.store) (after_lines (main_rules y.settings) opening (lines_of (generate y.rounds y.seed))) in
                subst (λ (ps : List Policy). ends x ps) c.keep_used-kept.ensures
                (subst (λ (y : Generated). ends y kept) (same x named) ((c.main_generated.ensures.ends.honest (fit lawful_policies) empty).stored zero)));
            reads = λ zero. (let given : List Policy = map (λ p. (goal.FilterPolicy-dyn g (p.vtable, p.value)).meaning p.value) c.args.policies.items in
                let kept : List Policy = map (λ p. (goal.FilterPolicy-dyn g (p.vtable, p.value)).meaning p.value) c.keep_used-kept.result.items in
                let read = λ (y : Generated) (ps : List Policy). HasReadByLine (terms_of y.settings.options (segments_of y.settings) ps (parts_of y.settings)) (lines_of (generate y.rounds y.seed)) (g.S.Store.acts c.args.store.now) (g.S.Store.acts c.main_generated.new.store) (g.S.Store.objects c.main_generated.new.store) in
                subst (λ (ps : List Policy). read x ps) c.keep_used-kept.ensures
                (subst (λ (y : Generated). read y kept) (same x named) ((c.main_generated.ensures.ends.honest (fit lawful_policies) empty).reads zero)));
            complete = (c.main_generated.ensures.ends.honest (fit lawful_policies) empty).complete;
          };
          checked = λ before told lawful_policies known began. (let ends = λ (y : Generated). HasSummed (summary (main_rules y.settings) (generate y.rounds y.seed)) before (g.W.Sink.content c.main_generated.new.sink) c.main_generated.result ⊎ SlipsFrom (parts_of y.settings).encode [] (g.S.Store.acts c.args.store.now) (g.S.Store.acts c.main_generated.new.store) in
              subst (λ (y : Generated). ends y) (same x named) (c.main_generated.ensures.ends.checked before told (fit lawful_policies) known began));
          shown = λ which. (let given : List Policy = map (λ p. (goal.FilterPolicy-dyn g (p.vtable, p.value)).meaning p.value) c.args.policies.items in
              let kept : List Policy = map (λ p. (goal.FilterPolicy-dyn g (p.vtable, p.value)).meaning p.value) c.keep_used-kept.result.items in
              let ends = λ (y : Generated) (ps : List Policy). IsShownStatus ps (parts_of y.settings) (g.S.Store.acts c.args.store.now) (g.S.Store.acts c.main_generated.new.store) c.main_generated.result in
              subst (λ (ps : List Policy). ends x ps) c.keep_used-kept.ensures
              (subst (λ (y : Generated). ends y kept) (same x named) (c.main_generated.ensures.ends.shown which)));
          unwritten = c.main_generated.ensures.ends.unwritten;
        };
        ended = λ script other is zero. absurd (generated_not_none (read_generated handed ws) its read other);
        read = record {
          syntax = λ script is three. generated_not c.main_generated.result 3 own three (omega arith) (omega arith);
          too_long = λ script is four. generated_not c.main_generated.result 4 own four (omega arith) (omega arith);
          read_fault = λ five. generated_not c.main_generated.result 5 own five (omega arith) (omega arith);
          source_still = inr refl;
          all = λ script is four. generated_not c.main_generated.result 4 own four (omega arith) (omega arith);
          taken = λ script is. (0, omega arith, is);
          later = omega arith;
        };
        caused = record {
          write_fault = c.main_generated.ensures.caused.write_fault;
          store_fault = c.main_generated.ensures.caused.store_fault;
          sink_still = c.main_generated.ensures.caused.sink_still;
          store_still = c.main_generated.ensures.caused.store_still;
          later = c.main_generated.ensures.caused.later;
          store_later = c.main_generated.ensures.caused.store_later;
        };
      };
      undamaged = λ lawful_policies. c.main_generated.ensures.undamaged (fit lawful_policies);
      untrue = λ lawful_policies. c.main_generated.ensures.untrue (fit lawful_policies);
      untouched = λ two. (refl, generated_not c.main_generated.result 2 own two (omega arith) (omega arith), generated_not c.main_generated.result 2 own two (omega arith) (omega arith));
      alone = λ x valid named. refl;
    }
