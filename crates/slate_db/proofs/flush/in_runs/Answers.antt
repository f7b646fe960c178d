use Rattle.std.proofs.Common.{List, ◌∷◌, [], ◌++◌, ◌≡◌, map, length, refl, arith, ap, subst, ◌∙◌, rules, length-append}
use Rattle.slate_db.specs.Flushed.{StandInRuns}
use Rattle.slate_db.specs.declared.flush.StoredTable.{StoredTable}
use Rattle.slate_db.proofs.RunSoFar.{all_laid, one_laid}
use Rattle.slate_db.proofs.flush.in_runs.Goals as goal

pub loop-next-preserved : goal.loop-next-preserved
loop-next-preserved c =
    let popped : c.loop-next.left.items ≡ c.pop.new.self.items ++ (c.in-Some.next ∷ []) =
    search rules in
    let left = ap length popped ∙ length-append c.pop.new.self.items (c.in-Some.next ∷ []) in
    let more = ap length c.push_reserved.ensures.items
    ∙ length-append c.loop-next.tables.items (c.in-Some.next.table ∷ []) in
    record {
      far = one_laid c.args.stored.items c.loop-next.left.items c.pop.new.self.items
          c.in-Some.next c.loop-next.tables.items c.push_reserved.new.self.items
          c.loop-next.runs.items c.add_table.new.runs.items c.loop-next.invariant.far popped
          c.push_reserved.ensures.items c.in_ok-add_table.ensures.handles
          c.in_ok-add_table.ensures.stand;
      room = omega (arith, c.loop-next.invariant.room, left, more, c.push_reserved.ensures.capacity);
    }

pub returns : goal.returns
returns c =
    let far = c.loop-next.invariant.far in
    let empty : c.loop-next.left.items ≡ [] = search rules in
    let done = all_laid c.args.stored.items c.loop-next.left.items c.loop-next.tables.items
    c.loop-next.runs.items far empty in
    record {
      tables = c.from_vec.ensures ∙ far.named ∙ ap (map (λ (t : StoredTable). t.table)) done;
      handles = far.handles ∙ ap (map (λ (t : StoredTable). t.handle)) done;
      stand = subst (λ (ts : List StoredTable). StandInRuns (map (λ (t : StoredTable). t.prefix) ts)
          c.loop-next.runs.items) done far.stand;
      cause = tt;
    }
