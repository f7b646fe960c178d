use Rattle.std.proofs.Common.{◌∙◌, ◌++◌, ap, sym, reverse, map, append_assoc}
use Rattle.std.proofs.lemmas.Result.{IfOk-from_err}
use Rattle.slate_mem.specs.BatchRows.{stamped, newest_rows}
use Rattle.slate_types.proofs.Exits.{err_exit}
use Rattle.slate_mem.proofs.batch_iterator.rising_rows.Goals as goal

pub loop-key-preserved : goal.loop-key-preserved
loop-key-preserved c =
    let s = c.args.stamps.now in
    let before = c.loop-key.rows.items in
    let left = newest_rows s c.next.new.self in
    ap (λ rs. rs ++ left) c.in_ok-add_rows.ensures.rows
    ∙ append_assoc before (map (stamped s c.in-Some.key.now) (reverse c.as_slice.result.now)) left
    ∙ ap (λ ops. before ++ (map (stamped s c.in-Some.key.now) (reverse ops) ++ left)) c.as_slice.ensures
    ∙ ap (λ es. before ++ newest_rows s es) (sym c.in-Some.ensures.steps)
    ∙ c.loop-key.invariant

pub returns-in_err-add_rows : goal.returns-in_err-add_rows
returns-in_err-add_rows c =
    record {
      rows = IfOk-from_err c.from_residual.result _ c.from_residual.ensures.0;
      cause = err_exit c.from_residual.result _ c.from_residual.ensures.1 _ c.in_err-add_rows.ensures.cause;
    }
