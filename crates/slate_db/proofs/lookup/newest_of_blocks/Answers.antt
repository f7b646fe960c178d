use Rattle.std.proofs.Common.{◌≡◌, ◌+◌, ◌∷◌, ◌∙◌, [], suc, true, List, length, rules, ap, sym, subst, arith, inl, refl}
use Rattle.std.proofs.lemmas.List.{nil_from_length}
use Rattle.std.specs.List.{AllByRecursion}
use Rattle.std.specs.Vec.Iter.{into_iter_items, into_iter_len}
use Rattle.std.proofs.lemmas.Result.{IfOk-from_err, err_from_is_err_and}
use Rattle.slate_types.specs.declared.iter.IterationOrder.TheVariants.{Ascending}
use Rattle.slate_types.specs.Iteration.{IsInOrder}
use Rattle.slate_table.specs.Finding.{AreBlocksOf}
use Rattle.slate_mem.specs.Lookup.{is_decided}
use Rattle.slate_db.specs.Model.{Rows}
use Rattle.slate_db.proofs.Shown.{asked_on, blocks_rows, next_block, among_blocks}
use Rattle.slate_db.proofs.Walks.{Walked, walk_next, walk_goes_on, walk_ends, walk_decides}
use Rattle.slate_db.proofs.lookup.newest_of_blocks.Goals as goal

pub returns-then-is_decided : goal.returns-then-is_decided
returns-then-is_decided c =
    record {
      found = (λ lists are order.
          let split : into_iter_items c.loop-block.block-iterator ≡ c.in-Some.block ∷ into_iter_items c.next.new.self = search rules in
          let w = subst (λ bs. Walked c.args.version bs lists c.args.key.now c.args.max_seq c.loop-block.found.items) split (c.loop-block.invariant.walked lists are order) in
          let x = walk_next c.args.version c.in-Some.block (into_iter_items c.next.new.self) lists c.args.key.now c.args.max_seq c.loop-block.found.items w in
          let all = walk_goes_on c.args.version c.in-Some.block (into_iter_items c.next.new.self) lists c.args.key.now c.args.max_seq c.loop-block.found.items c.in_ok-more.more.items c.append.new.self.items x
          c.loop-block.invariant.open_still (c.in_ok-more.ensures.found x.rows x.is x.rising) c.in_ok-append.ensures.items in
          let decided : is_decided c.append.new.self.items ≡ true = search rules in
          walk_decides c.args.version (into_iter_items c.next.new.self) lists c.args.key.now c.args.max_seq c.append.new.self.items all decided);
      asked = asked_on c.args.key.now c.args.max_seq c.loop-block.found.items c.in_ok-more.more.items c.append.new.self.items c.loop-block.invariant.asked c.in_ok-more.ensures.asked c.in_ok-append.ensures.items;
      rows =
          let split : into_iter_items c.loop-block.block-iterator ≡ c.in-Some.block ∷ into_iter_items c.next.new.self = search rules in
          blocks_rows c.args.version c.args.blocks.items c.in-Some.block c.loop-block.found.items c.in_ok-more.more.items c.append.new.self.items (next_block c.args.blocks.items c.in-Some.block _ _ split c.loop-block.invariant.rest).0 c.loop-block.invariant.rows c.in_ok-more.ensures.rows c.in_ok-append.ensures.items;
      whole = λ lists are order. tt;
      cause = tt;
    }

walked_on : (c : goal.After-drop-more-in-loop-block) (lists : List Rows) → AreBlocksOf c.args.version c.args.blocks.items lists → AllByRecursion (IsInOrder Ascending) lists → Walked c.args.version (into_iter_items c.next.new.self) lists c.args.key.now c.args.max_seq c.append.new.self.items
walked_on c lists are order =
    let split : into_iter_items c.loop-block.block-iterator ≡ c.in-Some.block ∷ into_iter_items c.next.new.self = search rules in
    let w = subst (λ bs. Walked c.args.version bs lists c.args.key.now c.args.max_seq c.loop-block.found.items) split (c.loop-block.invariant.walked lists are order) in
    let x = walk_next c.args.version c.in-Some.block (into_iter_items c.next.new.self) lists c.args.key.now c.args.max_seq c.loop-block.found.items w in
    let all = walk_goes_on c.args.version c.in-Some.block (into_iter_items c.next.new.self) lists c.args.key.now c.args.max_seq c.loop-block.found.items c.in_ok-more.more.items c.append.new.self.items x
    c.loop-block.invariant.open_still (c.in_ok-more.ensures.found x.rows x.is x.rising) c.in_ok-append.ensures.items in
    all

pub loop-block-preserved : goal.loop-block-preserved
loop-block-preserved c =
    let split : into_iter_items c.loop-block.block-iterator ≡ c.in-Some.block ∷ into_iter_items c.next.new.self = search rules in
    let fewer : into_iter_len c.next.new.self + 1 ≡ into_iter_len c.loop-block.block-iterator = search rules in
    let size : length (into_iter_items c.loop-block.block-iterator) ≡ length (into_iter_items c.next.new.self) + 1 = ap length split ∙ (let e : suc (length (into_iter_items c.next.new.self)) ≡ length (into_iter_items c.next.new.self) + 1 = omega arith in e) in
    let next = next_block c.args.blocks.items c.in-Some.block _ _ split c.loop-block.invariant.rest in
    record {
      count = omega (arith, c.loop-block.invariant.count, fewer, size);
      open_still = search rules;
      rest = next.1;
      asked = asked_on c.args.key.now c.args.max_seq c.loop-block.found.items c.in_ok-more.more.items c.append.new.self.items c.loop-block.invariant.asked c.in_ok-more.ensures.asked c.in_ok-append.ensures.items;
      rows = blocks_rows c.args.version c.args.blocks.items c.in-Some.block c.loop-block.found.items c.in_ok-more.more.items c.append.new.self.items next.0 c.loop-block.invariant.rows c.in_ok-more.ensures.rows c.in_ok-append.ensures.items;
      walked = walked_on c;
    }

pub returns : goal.returns
returns c =
    record {
      found = (λ lists are order.
          let over : into_iter_len c.loop-block.block-iterator ≡ 0 = search rules in
          let none : into_iter_items c.loop-block.block-iterator ≡ [] = nil_from_length (into_iter_items c.loop-block.block-iterator) (sym c.loop-block.invariant.count ∙ over) in
          walk_ends c.args.version lists c.args.key.now c.args.max_seq c.loop-block.found.items (subst (λ bs. Walked c.args.version bs lists c.args.key.now c.args.max_seq c.loop-block.found.items) none (c.loop-block.invariant.walked lists are order)));
      asked = c.loop-block.invariant.asked;
      rows = c.loop-block.invariant.rows;
      whole = λ lists are order. tt;
      cause = tt;
    }

pub returns-in_err-more-clause-found : goal.returns-in_err-more-clause-found
returns-in_err-more-clause-found c = λ lists are order. IfOk-from_err c.from_residual.result _ c.from_residual.ensures.0

pub returns-in_err-more-clause-rows : goal.returns-in_err-more-clause-rows
returns-in_err-more-clause-rows c = IfOk-from_err c.from_residual.result _ c.from_residual.ensures.0

pub returns-in_err-more-clause-asked : goal.returns-in_err-more-clause-asked
returns-in_err-more-clause-asked c = IfOk-from_err c.from_residual.result _ c.from_residual.ensures.0

pub returns-in_err-more-clause-cause : goal.returns-in_err-more-clause-cause
returns-in_err-more-clause-cause c =
    let split : into_iter_items c.loop-block.block-iterator ≡ c.in-Some.block ∷ into_iter_items c.next.new.self = search rules in
    let p = err_from_is_err_and c.from_residual.result c.from_residual.ensures.1 in
    rw (p.1, p.2) (among_blocks c.args.version c.args.blocks.items c.in-Some.block _ (next_block c.args.blocks.items c.in-Some.block _ _ split c.loop-block.invariant.rest).0 c.in_err-more.ensures.cause)

pub returns-in_err-append : goal.returns-in_err-append
returns-in_err-append c =
    let p = err_from_is_err_and c.from_residual-in_err-append.result c.from_residual-in_err-append.ensures.1 in
    record {
      found = λ lists are order. IfOk-from_err c.from_residual-in_err-append.result _ c.from_residual-in_err-append.ensures.0;
      asked = IfOk-from_err c.from_residual-in_err-append.result _ c.from_residual-in_err-append.ensures.0;
      rows = IfOk-from_err c.from_residual-in_err-append.result _ c.from_residual-in_err-append.ensures.0;
      whole = λ lists are order. let p = err_from_is_err_and c.from_residual-in_err-append.result c.from_residual-in_err-append.ensures.1 in rw (p.1, p.2) refl;
      cause = rw (p.1, p.2) (inl refl);
    }
