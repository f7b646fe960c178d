use Rattle.std.proofs.Common.{List, [], ◌∷◌, ◌++◌, refl, sym, ap, ◌∙◌, arith, inl}
use Rattle.std.proofs.lemmas.Result.{err_from_is_err_and, IfOk-from_err}
use Rattle.slate_types.specs.declared.error.SlateDBError.TheVariants.{OutOfMemory}
use Rattle.slate_types.specs.declared.types.RowEntry.{RowEntry}
use Rattle.slate_block.specs.GroupWalks.{group_left, restart_at}
use Rattle.slate_block.proofs.GroupSteps.{over_left}
use Rattle.slate_block.proofs.BackSteps.{group_begun, group_grown, group_done, refused_or_done}
use Rattle.slate_block.proofs.walk_back_v2.group_rows.Goals as goal

pub returns-in_err-first : goal.returns-in_err-first
returns-in_err-first c =
    let p = err_from_is_err_and c.from_residual-in_err-first.result c.from_residual-in_err-first.ensures.1 in
    record {
      rows = IfOk-from_err c.from_residual-in_err-first.result _ c.from_residual-in_err-first.ensures.0;
      cause = (let whole = restart_at c.args.body.now c.args.offsets.now c.args.number in
          let p = err_from_is_err_and c.from_residual-in_err-first.result c.from_residual-in_err-first.ensures.1 in
          rw (p.1, p.2) (refused_or_done [] whole whole c.in_err-first.field-0.0 OutOfMemory refl c.in_err-first.ensures.cause));
      damage = rw (p.1, p.2) c.in_err-first.ensures.damage;
    }

pub returns-in_err-row : goal.returns-in_err-row
returns-in_err-row c =
    let p = err_from_is_err_and c.from_residual-in_err-row.result c.from_residual-in_err-row.ensures.1 in
    record {
      rows = IfOk-from_err c.from_residual-in_err-row.result _ c.from_residual-in_err-row.ensures.0;
      cause = rw (p.1, p.2) (refused_or_done c.loop-alloc.rows.items (restart_at c.args.body.now c.args.offsets.now c.args.number) _ c.in_err-row.field-0.0 OutOfMemory c.loop-alloc.invariant.rows c.in_err-row.ensures.cause);
      damage = rw (p.1, p.2) c.in_err-row.ensures.damage;
    }

pub returns : goal.returns
returns c =
    record {
      rows = (let over = sym c.is_over.ensures ∙ c.loop-alloc-test.false in
          group_done c.loop-alloc.rows.items (restart_at c.args.body.now c.args.offsets.now c.args.number) (group_left c.args.body.now c.loop-alloc.group) c.loop-alloc.invariant.rows (over_left c.args.body.now c.loop-alloc.group over));
      cause = tt;
      damage = tt;
    }

pub returns-in_err-rows : goal.returns-in_err-rows
returns-in_err-rows c =
    let p = err_from_is_err_and c.from_residual.result c.from_residual.ensures.1 in
    record {
      rows = IfOk-from_err c.from_residual.result _ c.from_residual.ensures.0;
      cause = rw (p.1, p.2) (inl refl);
      damage = rw (p.1, p.2) (inl refl);
    }

pub push_reserved-requires : goal.push_reserved-requires
push_reserved-requires c = omega (arith, c.in_ok-rows.ensures.len, c.in_ok-rows.ensures.capacity)

pub loop-alloc-init : goal.loop-alloc-init
loop-alloc-init c = record {
  rows = group_begun c.in_ok-first.first _ _ _ c.in_ok-first.ensures.found (c.push_reserved.ensures.items ∙ ap (λ (l : List RowEntry). l ++ (c.in_ok-first.first ∷ [])) c.in_ok-rows.ensures.items);
  room = omega (arith, c.in_ok-rows.ensures.len, c.in_ok-rows.ensures.capacity, c.push_reserved.ensures.len, c.push_reserved.ensures.capacity, c.in_ok-first.ensures.room);
}

pub next_of_group-requires : goal.next_of_group-requires
next_of_group-requires c = sym c.loop-alloc-test.ensures

pub push_reserved-requires-in-loop-alloc : goal.push_reserved-requires-in-loop-alloc
push_reserved-requires-in-loop-alloc c = omega (arith, c.loop-alloc.invariant.room, c.in_ok-row.ensures.room)

pub loop-alloc-smaller : goal.loop-alloc-smaller
loop-alloc-smaller c = c.in_ok-row.ensures.room

pub loop-alloc-preserved : goal.loop-alloc-preserved
loop-alloc-preserved c = record {
  rows = group_grown c.loop-alloc.rows.items _ c.in_ok-row.row _ _ _ c.loop-alloc.invariant.rows c.in_ok-row.ensures.found c.push_reserved-in-loop-alloc.ensures.items;
  room = omega (arith, c.loop-alloc.invariant.room, c.in_ok-row.ensures.room, c.push_reserved-in-loop-alloc.ensures.len, c.push_reserved-in-loop-alloc.ensures.capacity);
}
