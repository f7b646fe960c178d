use Rattle.std.proofs.Common.{◌≡◌, [], sym, subst, arith, rules}
use Rattle.std.specs.Vec.Iter.{into_iter_items}
use Rattle.std.proofs.lemmas.List.{nil_from_length}
use Rattle.std.proofs.lemmas.Result.{IfOk-from_err}
use Rattle.slate_types.proofs.Exits.{err_exit}
use Rattle.slate_mem.specs.Slots.{IsPutUpTo}
use Rattle.slate_mem.proofs.SlotLaws.{put_upto_all, put_upto_here, put_upto_none, put_upto_on}
use Rattle.slate_mem.proofs.slots.put_in_turn.Goals as goal

pub loop-row-init : goal.loop-row-init
loop-row-init c =
    let gives : into_iter_items c.into_iter-row-iterator.result ≡ c.args.rows.items = search rules in
    subst (λ rs. IsPutUpTo c.args.slots.now.items c.args.rows.items rs c.args.slots.now.items) (sym gives) (put_upto_none c.args.slots.now.items c.args.rows.items c.requires)

pub put_row-requires : goal.put_row-requires
put_row-requires c = c.loop-row.invariant.put.slots

pub loop-row-preserved : goal.loop-row-preserved
loop-row-preserved c =
    put_upto_on c.args.slots.now.items c.loop-row.slots.items c.put_row.new.slots.items c.args.rows.items (into_iter_items c.loop-row.row-iterator) (into_iter_items c.next.new.self) c.in-Some.row
    c.loop-row.invariant c.in-Some.ensures.steps.0 c.in_ok-put_row.ensures.put

pub returns : goal.returns
returns c =
    let none : into_iter_items c.loop-row.row-iterator ≡ [] = nil_from_length _ (omega (arith, c.in-None.ensures.steps.0)) in
    record { put = put_upto_all c.args.slots.now.items c.loop-row.slots.items c.args.rows.items (into_iter_items c.loop-row.row-iterator) c.loop-row.invariant none; some = tt }

pub returns-in_err-put_row : goal.returns-in_err-put_row
returns-in_err-put_row c =
    record {
      put = IfOk-from_err c.from_residual.result _ c.from_residual.ensures.0;
      some = err_exit c.from_residual.result _ c.from_residual.ensures.1 _ (put_upto_here c.args.slots.now.items c.loop-row.slots.items c.put_row.new.slots.items c.args.rows.items (into_iter_items c.loop-row.row-iterator) c.loop-row.invariant c.in_err-put_row.ensures.same);
    }
