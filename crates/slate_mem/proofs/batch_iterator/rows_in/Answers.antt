use Rattle.std.proofs.Common.{◌∙◌, ◌∷◌, [], sym, subst, ap}
use Rattle.std.proofs.lemmas.Result.{IfOk-weaker}
use Rattle.slate_types.specs.Rows.{of_key}
use Rattle.slate_mem.specs.Kept.{listed, IsWhole}
use Rattle.slate_mem.specs.KeyedOps.{entries_in, one_op}
use Rattle.slate_mem.proofs.BatchRowLaws.{newest_between, no_batch_rows}
use Rattle.slate_mem.proofs.KeyedLaws.{lone_between}
use Rattle.slate_mem.proofs.batch_iterator.rows_in.Goals as goal

pub returns-then-leaves_none-clause-rows : goal.returns-then-leaves_none-clause-rows
returns-then-leaves_none-clause-rows c k =
    let s = c.args.stamps.now in
    ap (of_key k) c.new.ensures.items ∙ sym (no_batch_rows c.args.range.now s.seq s.default_ttl_millis s.create_ts c.args.batch.now.ops k (sym c.leaves_none.ensures ∙ c.if-leaves_none.true))

pub returns-in-Lone-clause-rows : goal.returns-in-Lone-clause-rows
returns-in-Lone-clause-rows c =
    let range = c.args.range.now in
    let s = c.args.stamps.now in
    let batch = c.args.batch.now in
    let e = c.entries.ensures in
    let whole = subst (λ o. IsWhole (entries_in o) batch.held_merge) c.in-Lone.is e.whole in
    let ops = ap (λ o. listed (entries_in o)) (sym c.in-Lone.is) ∙ e.ops in
    IfOk-weaker c.lone_rows.result _ _
    (λ rows is k. ap (of_key k) (is ∙ lone_between range s c.in-Lone.key c.in-Lone.op) ∙ newest_between range s ((c.in-Lone.key, one_op c.in-Lone.op) ∷ []) batch.ops whole.rising whole.kept ops k) c.lone_rows.ensures.rows

pub returns-in-Map-clause-rows : goal.returns-in-Map-clause-rows
returns-in-Map-clause-rows c =
    let range = c.args.range.now in
    let s = c.args.stamps.now in
    let batch = c.args.batch.now in
    let e = c.entries.ensures in
    let whole = subst (λ o. IsWhole (entries_in o) batch.held_merge) c.in-Map.is e.whole in
    let ops = ap (λ o. listed (entries_in o)) (sym c.in-Map.is) ∙ e.ops in
    IfOk-weaker c.map_rows.result _ _ (λ rows is k. is k ∙ newest_between range s _ batch.ops whole.rising whole.kept ops k) c.map_rows.ensures.rows
