use Rattle.std.proofs.Common.{◌≡◌, ◌≤◌, ◌+◌, ◌-◌, ℕ, List, [], Some, map, take}
use Rattle.slate_types.specs.Outside.{Act, Puts}
use Rattle.slate_store.specs.Reach.{reach_of}
use Rattle.slate_store.specs.Lines.{lines_of, script_limit}
use Rattle.slate_table.specs.Filtered.{AreLawful}
use Rattle.slate_txn.specs.Settings.{settings_of}
use Rattle.slate_db.specs.Checked.{OrSlips}
use Rattle.slate_db.specs.Flushed.{layout_of}
use Rattle.slate_db.specs.Installs.{runs_of, tables_of}
use Rattle.slate_db.specs.Load.{weight}
use Rattle.slate_db.specs.Meaning.{IsLawfulMeaning, segments_by}
use Rattle.slate_db.specs.Sound.{IsKept}
use Rattle.slate_script.specs.Run.{run_rules, Premises}
use Rattle.slate_script.specs.Session.{HasTablesAlone, IsRunning, held_load}
use Rattle.slate_script.specs.Terms.{terms_of}
use Rattle.slate_script.specs.Told.{Follows, PutsTables}
use Rattle.slate_script.proofs.ReadSoFar.{IsReadSoFar}
use Rattle.slate_script.proofs.Taken.{IsAt}
use Rattle.slate_script.proofs.run.answer_lines.Given as goal

abbrev pub invariant-loop-line : goal.invariant-loop-line
invariant-loop-line g l =
    let before = reach_of g.S.Store g.M.MergeOperator g.T.BlockTransformer l.initial.env in
    let policies = map (λ p. (goal.FilterPolicy-dyn g (p.vtable, p.value)).meaning p.value) l.laws.policies.items in
    let now = reach_of g.S.Store g.M.MergeOperator g.T.BlockTransformer l.env in
    record {
      told : (script : List ℕ) → g.R.Source.left l.initial.source ≡ Some script
          → IsAt (Premises policies before.meaning before.objects)
          (run_rules l.laws.options before.meaning (segments_by g.X.PrefixExtractor.lengths l.laws.segments))
          script (g.R.Source.left l.source) (g.W.Sink.content l.initial.sink) (g.W.Sink.content l.sink) l.initial.tally l.tally l.lines l.number l.session;
      checked : (script : List ℕ) → g.R.Source.left l.initial.source ≡ Some script → AreLawful policies → IsLawfulMeaning before.meaning
          → OrSlips [] before now (IsAt (Unit {0})
          (run_rules l.laws.options before.meaning (segments_by g.X.PrefixExtractor.lengths l.laws.segments))
          script (g.R.Source.left l.source) (g.W.Sink.content l.initial.sink) (g.W.Sink.content l.sink) l.initial.tally l.tally l.lines l.number l.session);
      settings : l.session.core.settings ≡ settings_of l.laws.options;
      counted : l.number ≤ l.lines.given;
      within : l.lines.given ≤ script_limit;
      weighs : weight l.session.core ≤ l.number + l.number;
      loads : held_load l.session ≤ l.lines.given;
      running : Premises policies before.meaning before.objects
          → IsRunning policies before.meaning (segments_by g.X.PrefixExtractor.lengths l.laws.segments)
          (run_rules l.laws.options before.meaning (segments_by g.X.PrefixExtractor.lengths l.laws.segments))
          now.meaning now.objects l.session;
      kept : IsKept before.meaning l.session.core;
      alone : Premises policies before.meaning before.objects
          → HasTablesAlone before.meaning
          (layout_of l.laws.options policies (segments_by g.X.PrefixExtractor.lengths l.laws.segments)) now.objects (runs_of l.session.core.events);
      followed : AreLawful policies → IsLawfulMeaning before.meaning → Follows policies before.meaning (segments_by g.X.PrefixExtractor.lengths l.laws.segments) [] l.session before.acts now.acts;
      stored : PutsTables [] (tables_of l.session.core.events) before.acts now.acts;
      reads : (script : List ℕ) → g.R.Source.left l.initial.source ≡ Some script → Premises policies before.meaning before.objects → (known : List Act) → before.acts ≡ Some known
          → IsReadSoFar (terms_of l.laws.options (segments_by g.X.PrefixExtractor.lengths l.laws.segments) policies before.meaning) (lines_of (take l.lines.given script)) known now.acts (tables_of l.session.core.events);
      source_later : g.R.Source.faults l.initial.source ≤ g.R.Source.faults l.source;
      sink_later : g.W.Sink.faults l.initial.sink ≤ g.W.Sink.faults l.sink;
      source_still : g.R.Source.faults l.source ≡ g.R.Source.faults l.initial.source;
      sink_still : g.W.Sink.faults l.sink ≡ g.W.Sink.faults l.initial.sink;
      parts_still : now.faults ≡ before.faults;
      puts : Puts before now;
    }

abbrev pub decreases-loop-line : goal.decreases-loop-line
decreases-loop-line g l = script_limit - l.lines.given
