use Rattle.std.proofs.Common.{◌≤◌, None, sym, subst, [], refl}
use Rattle.std.specs.BinaryHeap.{heap_items}
use Rattle.std.proofs.lemmas.Result.{IfOk-weaker, IfErr-weaker}
use Rattle.slate_types.proofs.Calls.{reads_at_none}
use Rattle.slate_types.proofs.Moves.{Moves}
use Rattle.slate_types.proofs.Reaching.{reads_none}
use Rattle.slate_merge.specs.declared.merge_iterator.MergeState.{MergeState}
use Rattle.slate_merge.specs.declared.merge_iterator.MergeState.TheVariants.{New, Begun}
use Rattle.slate_merge.specs.Answering.{IsFaultOr}
use Rattle.slate_merge.specs.NoMoreRows.{AddsNoneByCall}
use Rattle.slate_merge.specs.Offers.{offers}
use Rattle.slate_merge.specs.MergeBringing.{IsHeapedIn, KeepsHeads, merge_offers}
use Rattle.slate_merge.specs.Merging.{merging_bound}
use Rattle.slate_merge.specs.MergeStates.{IsSoundIn, IsWithinIn, bound_in, refuses_in, rest_in}
use Rattle.slate_merge.proofs.MergeStateSteps.{begun_adds, state_begins, state_again, begun_fails, waiting_adds, waiting_fails, again_fails}
use Rattle.slate_merge.proofs.merge_iterator.begin_heads.Goals as goal

pub returns-in-New : goal.returns-in-New
returns-in-New g c =
    let x = c.args.state.now in
    let z = New c.in-New.sources in
    let bound = g.I.RowEntryIterator.bound in
    record {
      moved = λ dedup. IfOk-weaker c.begin_all.result _ (λ heads. Moves (rest_in g.I.RowEntryIterator.rest c.args.order dedup) (IsSoundIn g.I.RowEntryIterator.rest g.I.RowEntryIterator.sound g.I.RowEntryIterator.order c.args.order) (refuses_in g.I.RowEntryIterator.refuses) (g.E.Outside.reach c.args.env.now) (g.E.Outside.reach c.begin_all.new.env) x (Begun heads))
          (λ heads m. state_begins g.I.RowEntryIterator.rest g.I.RowEntryIterator.sound g.I.RowEntryIterator.refuses g.I.RowEntryIterator.order c.args.order dedup (g.E.Outside.reach c.args.env.now) (g.E.Outside.reach c.begin_all.new.env) x z (Begun heads) c.in-New.is tt tt m) c.begin_all.ensures.moved;
      brought = IfOk-weaker c.begin_all.result _ (λ heads. AddsNoneByCall (merge_offers (offers g.I.RowEntryIterator.begins g.I.RowEntryIterator.takes g.I.RowEntryIterator.seeks)) (refuses_in g.I.RowEntryIterator.refuses) (g.E.Outside.reach c.args.env.now) (g.E.Outside.reach c.begin_all.new.env) x (Begun heads))
          (λ heads m. waiting_adds g.I.RowEntryIterator.rest g.I.RowEntryIterator.sound g.I.RowEntryIterator.refuses g.I.RowEntryIterator.order g.I.RowEntryIterator.begins g.I.RowEntryIterator.takes g.I.RowEntryIterator.seeks (g.E.Outside.reach c.args.env.now) (g.E.Outside.reach c.begin_all.new.env) x z (Begun heads) c.in-New.is tt tt m) c.begin_all.ensures.brought;
      heaped = λ _. c.begin_all.ensures.heaped;
      same_rows = IfOk-weaker c.begin_all.result _ (λ heads. KeepsHeads x (Begun heads)) (λ heads k. subst (λ (s : MergeState g.row.I.Denot). KeepsHeads s (Begun heads)) (sym c.in-New.is) (λ never. absurd never)) c.begin_all.ensures.heaped;
      ready = c.begin_all.ensures.ready;
      no_larger = IfOk-weaker c.begin_all.result _ (λ heads. merging_bound bound [] (heap_items heads) ≤ bound_in bound x) (λ heads less. subst (λ (s : MergeState g.row.I.Denot). merging_bound bound [] (heap_items heads) ≤ bound_in bound s) (sym c.in-New.is) less) c.begin_all.ensures.no_larger;
      cause = IfErr-weaker c.begin_all.result _ (λ e. IsFaultOr (refuses_in g.I.RowEntryIterator.refuses) (g.E.Outside.reach c.args.env.now) (g.E.Outside.reach c.begin_all.new.env) x None e)
          (λ e m. waiting_fails g.I.RowEntryIterator.refuses (g.E.Outside.reach c.args.env.now) (g.E.Outside.reach c.begin_all.new.env) None e x z c.in-New.is tt m) c.begin_all.ensures.cause;
      within = λ paths h. c.begin_all.ensures.within paths (subst (λ (s : MergeState g.row.I.Denot). IsWithinIn g.I.RowEntryIterator.within s paths) c.in-New.is h);
      reads = c.begin_all.ensures.reads;
      counts = c.begin_all.ensures.counts;
    }

pub returns-in-Begun : goal.returns-in-Begun
returns-in-Begun g c =
    let x = c.args.state.now in
    let z = Begun c.in-Begun.heads in
    let bound = g.I.RowEntryIterator.bound in
    record {
      moved = λ dedup. IfOk-weaker c.begin_again.result _ (λ heads. Moves (rest_in g.I.RowEntryIterator.rest c.args.order dedup) (IsSoundIn g.I.RowEntryIterator.rest g.I.RowEntryIterator.sound g.I.RowEntryIterator.order c.args.order) (refuses_in g.I.RowEntryIterator.refuses) (g.E.Outside.reach c.args.env.now) (g.E.Outside.reach c.begin_again.new.env) x (Begun heads))
          (λ heads m. state_again g.I.RowEntryIterator.rest g.I.RowEntryIterator.sound g.I.RowEntryIterator.refuses g.I.RowEntryIterator.order c.args.order dedup (g.E.Outside.reach c.args.env.now) (g.E.Outside.reach c.begin_again.new.env) x z (Begun heads) c.in-Begun.is tt tt m) (c.begin_again.ensures.moved c.args.order);
      brought = IfOk-weaker c.begin_again.result _ (λ heads. AddsNoneByCall (merge_offers (offers g.I.RowEntryIterator.begins g.I.RowEntryIterator.takes g.I.RowEntryIterator.seeks)) (refuses_in g.I.RowEntryIterator.refuses) (g.E.Outside.reach c.args.env.now) (g.E.Outside.reach c.begin_again.new.env) x (Begun heads))
          (λ heads m. begun_adds g.I.RowEntryIterator.rest g.I.RowEntryIterator.sound g.I.RowEntryIterator.refuses g.I.RowEntryIterator.order g.I.RowEntryIterator.begins g.I.RowEntryIterator.takes g.I.RowEntryIterator.seeks (g.E.Outside.reach c.args.env.now) (g.E.Outside.reach c.begin_again.new.env) x z (Begun heads) c.in-Begun.is tt tt m) c.begin_again.ensures.brought;
      heaped = λ h. c.begin_again.ensures.heaped c.args.order (subst (λ (s : MergeState g.row.I.Denot). IsHeapedIn c.args.order s) c.in-Begun.is h);
      same_rows = IfOk-weaker c.begin_again.result _ (λ heads. KeepsHeads x (Begun heads)) (λ heads k. subst (λ (s : MergeState g.row.I.Denot). KeepsHeads s (Begun heads)) (sym c.in-Begun.is) (λ begun r has. k r has)) c.begin_again.ensures.same_rows;
      ready = c.begin_again.ensures.ready;
      no_larger = IfOk-weaker c.begin_again.result _ (λ heads. merging_bound bound [] (heap_items heads) ≤ bound_in bound x) (λ heads less. subst (λ (s : MergeState g.row.I.Denot). merging_bound bound [] (heap_items heads) ≤ bound_in bound s) (sym c.in-Begun.is) less) c.begin_again.ensures.no_larger;
      cause = IfErr-weaker c.begin_again.result _ (λ e. IsFaultOr (refuses_in g.I.RowEntryIterator.refuses) (g.E.Outside.reach c.args.env.now) (g.E.Outside.reach c.begin_again.new.env) x None e)
          (λ e m. begun_fails g.I.RowEntryIterator.refuses (g.E.Outside.reach c.args.env.now) (g.E.Outside.reach c.begin_again.new.env) None e x z c.in-Begun.is tt m) c.begin_again.ensures.cause;
      within = λ paths h. c.begin_again.ensures.within paths (subst (λ (s : MergeState g.row.I.Denot). IsWithinIn g.I.RowEntryIterator.within s paths) c.in-Begun.is h);
      reads = c.begin_again.ensures.reads;
      counts = c.begin_again.ensures.counts;
    }

pub returns-in-Refused : goal.returns-in-Refused
returns-in-Refused g c = record {
  moved = λ _. tt;
  brought = tt;
  heaped = λ _. tt;
  same_rows = tt;
  ready = tt;
  no_larger = tt;
  cause = again_fails g.I.RowEntryIterator.refuses (g.E.Outside.reach c.args.env.now) None c.in-Refused.refusal _ c.args.state.now c.in-Refused.is c.copy_of.ensures;
  within = λ paths _. (reads_at_none paths _, tt);
  reads = reads_none _;
  counts = refl;
}
