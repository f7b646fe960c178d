use Rattle.std.proofs.Common.{◌≡◌, ◌<◌, ◌∙◌, true, false, [], length, ap, sym, subst, arith}
use Rattle.slate_types.specs.Iteration.{IsInOrder, RowList, begins_before, drop_before}
use Rattle.slate_types.proofs.Calls.{call_none}
use Rattle.slate_types.proofs.IterationLaws.{drops_none}
use Rattle.slate_mem.proofs.WalkLaws.{Passed, passes}
use Rattle.slate_mem.proofs.mem_iterator.MemTableIteratorRowEntryIterator.seek.Goals as goal
use Rattle.slate_mem.proofs.mem_iterator.MemTableIteratorRowEntryIterator.seek.Given as given

passed : (g : given.Over) (c : goal.After-drop g) → Passed c.args.self.now.order c.args.key.now c.begins_before.new.self.rows c.pop.new.self.rows
passed g c =
    let order = c.loop-self.invariant.order in
    let same = c.begins_before.ensures.same in
    let begins = (λ i. begins_before (sym order i) c.args.key.now (same i).rows) ∙ sym c.in_ok-begins_before.ensures.test ∙ c.if-branch.true in
    passes c.args.self.now.order c.args.key.now c.begins_before.new.self.rows c.pop.new.self.rows c.in_ok-pop.field-0 begins c.in_ok-pop.ensures.taken

pub loop-self-preserved : goal.loop-self-preserved
loop-self-preserved g c =
    let was = c.loop-self.invariant in
    let same = c.begins_before.ensures.same in
    let order = c.args.self.now.order in
    let step = passed g c in
    let all : length c.begins_before.new.self.rows ≡ length c.loop-self.self.rows = ap (λ (l : RowList). length l.rows) same in
    record {
      rows = step.same ∙ ap (λ (l : RowList). drop_before order c.args.key.now l.rows) same ∙ was.rows;
      order = c.pop.ensures.order ∙ ap (λ (l : RowList). l.order) same ∙ was.order;
      bound = omega (arith, step.fewer, all, was.bound);
      sorted = λ h. step.sorted (subst (λ (l : RowList). IsInOrder order l.rows) (sym same) (was.sorted h));
    }

pub loop-self-smaller : goal.loop-self-smaller
loop-self-smaller g c = subst (λ (l : RowList). length c.pop.new.self.rows < length l.rows) c.begins_before.ensures.same (passed g c).fewer

pub returns-clause-sought : goal.returns-clause-sought
returns-clause-sought g c =
    let was = c.loop-self.invariant in
    let order = was.order in
    let none = (λ i. begins_before (sym order i) c.args.key.now c.loop-self.self.rows) ∙ sym c.in_ok-begins_before.ensures.test ∙ c.if-branch.false in
    ([], call_none _, (ap (λ (l : RowList). l.rows) c.begins_before.ensures.same ∙ sym (drops_none c.args.self.now.order c.args.key.now c.loop-self.self.rows none) ∙ was.rows, λ later at e h. h))
