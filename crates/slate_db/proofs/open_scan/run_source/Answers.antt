use Rattle.std.proofs.Common.{rules, ◌≡◌, Option, ap, subst, ℕ}
use Rattle.slate_types.specs.declared.iter.IterationOrder.{IterationOrder}
use Rattle.slate_types.proofs.Exits.{if_ok_both}
use Rattle.slate_merge.specs.declared.filter_iterator.MaxSeq.{MaxSeq}
use Rattle.slate_read.specs.RunIterators.{IsRunIterator}
use Rattle.slate_db.specs.OpenScans.{IsRunSource}
use Rattle.slate_db.proofs.SourceLists.{run_is}
use Rattle.slate_db.proofs.open_scan.run_source.Goals as goal

pub returns-clause-source : goal.returns-clause-source
returns-clause-source g c =
    let same : c.in_ok-within.within ≡ c.args.range.now = search rules in
    if_ok_both c.new-2.result _ _ (IsRunSource c.args.range.now c.args.options.now.order c.args.begin c.args.run.now)
    (λ s iterator upto. run_is c.args.range.now c.in_ok-within.within c.args.options.now.order c.args.begin c.args.run.now c.in_ok-tables.tables c.in_ok-rows.rows s iterator (ap (λ (p : MaxSeq). p.max_seq) upto) same c.in_ok-tables.ensures
    (subst (λ (o : IterationOrder). IsRunIterator c.in_ok-within.within c.in_ok-tables.tables o c.in_ok-rows.rows.rows) c.in_ok-how.ensures.order c.in_ok-rows.ensures.rows))
    c.new-2.ensures.iterator c.new-2.ensures.predicate
