use Rattle.std.proofs.Common.{arith, ◌∙◌, ap}
use Rattle.slate_types.specs.Outside.{unblamed_by}
use Rattle.std.proofs.lemmas.Result.{IfErr-weaker, IfOk-weaker, on_ok_weaker}
use Rattle.slate_types.proofs.Reaching.{reads_then}
use Rattle.slate_merge.proofs.NoMoreRows.{added_hands}
use Rattle.slate_read.specs.RunBringing.{BringsOpen}
use Rattle.slate_read.specs.RunWalk.{IsOpenWithin, refuses_open}
use Rattle.slate_read.proofs.RunOpen.{find_fails, finds}
use Rattle.slate_read.proofs.Withins.{within_then}
use Rattle.slate_read.proofs.run_walk.find_row.Goals as goal

pub returns-in-Ok : goal.returns-in-Ok
returns-in-Ok g c =
    let s = c.in-Ok.ensures in
    let t = c.take_row.ensures in
    record {
      found = IfOk-weaker c.take_row.result _ _ (λ answer k. finds c.args.order c.args.key.now _ _ _ c.args.current.now c.skip_rows.new.current c.take_row.new.current answer s.sought k) t.step;
      spent = t.spent;
      cause = IfErr-weaker c.take_row.result _ _ (λ e k. find_fails c.args.order c.args.key.now _ _ _ c.args.current.now c.skip_rows.new.current e s.sought s.reads.later k) t.cause;
      smaller = IfOk-weaker c.take_row.result _ _ (λ answer k some. (let less = k some in let first = s.no_larger in omega (arith, less, first))) t.smaller;
      no_larger = on_ok_weaker c.take_row.result (λ k. (let first = s.no_larger in omega (arith, k, first))) t.no_larger;
      hands = IfOk-weaker c.take_row.result _ _ (λ answer k. added_hands (BringsOpen c.args.order) (refuses_open c.args.order) _ _ _ c.args.current.now c.skip_rows.new.current c.take_row.new.current answer s.adds k) t.hands;
      within = within_then IsOpenWithin _ _ _ c.args.current.now c.skip_rows.new.current c.take_row.new.current s.within t.within;
      reads = reads_then _ _ _ s.reads t.reads;
      counts = t.counts ∙ ap (unblamed_by c.take_row.result) s.counts;
    }

pub returns-in-Err : goal.returns-in-Err
returns-in-Err g c = record {
  found = tt;
  spent = tt;
  cause = c.in-Err.ensures.cause;
  smaller = tt;
  no_larger = tt;
  hands = tt;
  within = c.in-Err.ensures.within;
  reads = c.in-Err.ensures.reads;
  counts = c.in-Err.ensures.counts;
}
