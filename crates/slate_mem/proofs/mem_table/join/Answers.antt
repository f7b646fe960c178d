use Rattle.std.proofs.Common.{◌∙◌, ◌++◌, ap, sym}
use Rattle.std.proofs.lemmas.Result.{IfOk-from_err}
use Rattle.slate_types.specs.Keys.{keys_set}
use Rattle.slate_mem.proofs.TableLaws.{set_moved, set_of_set}
use Rattle.slate_mem.proofs.mem_table.join.Goals as goal

pub loop-prefix-preserved : goal.loop-prefix-preserved
loop-prefix-preserved c =
    let e = c.in_ok-insert.ensures in
    let was = c.loop-prefix.invariant in
    let keys = rw c.in_ok-clone.ensures.cases at e.keys in
    let left = c.in-Some.ensures.steps in
    record {
      both = ap (λ ks. keys_set (c.next.new.self ++ ks)) keys ∙ set_moved c.in-Some.prefix.now c.next.new.self c.loop-prefix.more.keys was.rising ∙ ap (λ ps. keys_set (ps ++ c.loop-prefix.more.keys)) (sym left) ∙ was.both;
      rising = e.ordered;
    }

pub returns-clause-both : goal.returns-clause-both
returns-clause-both c =
    let was = c.loop-prefix.invariant in
    sym (set_of_set _ was.rising) ∙ rw c.in-None.ensures.steps.0 at was.both

pub returns-in_err-clone : goal.returns-in_err-clone
returns-in_err-clone c =
    record {
      rising = IfOk-from_err c.from_residual.result _ c.from_residual.ensures.0;
      both = IfOk-from_err c.from_residual.result _ c.from_residual.ensures.0;
    }

pub returns-in_err-insert : goal.returns-in_err-insert
returns-in_err-insert c =
    record {
      rising = IfOk-from_err c.from_residual-in_err-insert.result _ c.from_residual-in_err-insert.ensures.0;
      both = IfOk-from_err c.from_residual-in_err-insert.result _ c.from_residual-in_err-insert.ensures.0;
    }
