use Rattle.std.proofs.Common.{sym, ap, ◌∙◌}
use Rattle.slate_txn.specs.Managers.{Manager, Snapshots}
use Rattle.slate_db.proofs.Keeps.{kept_first}
use Rattle.slate_db.proofs.Segmenting.{segmented_first}
use Rattle.slate_db.proofs.Wholes.{whole_first}
use Rattle.slate_db.proofs.engine.Core.new.Goals as goal

pub invariant_of-result : goal.invariant_of-result
invariant_of-result c = whole_first _ _ c.new.ensures.whole c.new-6.ensures.whole c.new.ensures.nothing.1 c.new.ensures.nothing.0 c.new-3.ensures (ap (λ (m : Snapshots). m.active) c.new-4.ensures) c.new-6.ensures.runs.0 c.new-6.ensures.memory.0 c.new-6.ensures.memory.1 c.new-6.ensures.runs.1 (record {
  stands = c.new-2.ensures.stands;
  newest = ap (λ (m : Manager). m.last) c.new-2.ensures.value ∙ sym c.new.ensures.start.1;
  counted = ap (λ (m : Manager). m.ids) c.new-2.ensures.value ∙ sym c.new.ensures.ids.0;
  opened = ap (λ (m : Manager). m.active) c.new-2.ensures.value;
}) (record {
  counted = ap (λ (m : Snapshots). m.ids) c.new-4.ensures ∙ sym c.new.ensures.ids.1;
  opened = ap (λ (m : Snapshots). m.active) c.new-4.ensures;
  named = tt;
})

pub returns-clause-segmented : goal.returns-clause-segmented
returns-clause-segmented c h = segmented_first h _ c.new-5.ensures c.new.ensures.nothing.0

pub returns-clause-kept : goal.returns-clause-kept
returns-clause-kept c m = kept_first m _ c.new.ensures.nothing.1 c.new.ensures.nothing.0 c.new-3.ensures c.new-6.ensures.memory.1 c.new-6.ensures.memory.0
