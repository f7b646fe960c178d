use Rattle.std.proofs.Common.{◌++◌, ◌∙◌, ap, map, reverse, option_to_list}
use Rattle.std.proofs.lemmas.Result.{on_ok_weaker}
use Rattle.slate_types.specs.Fold.{fold_rows}
use Rattle.slate_mem.specs.BatchRows.{stamped}
use Rattle.slate_mem.proofs.FoldedLaws.{lone_row, own_rows}
use Rattle.slate_mem.proofs.batch.add_key.Goals as goal

pub returns-then-ops-eq1-clause-row : goal.returns-then-ops-eq1-clause-row
returns-then-ops-eq1-clause-row g c =
    let combine = g.M.MergeOperator.combine c.args.operator.now c.args.key.now in
    on_ok_weaker c.add_rows.result
    (λ added. added ∙ ap (λ l. c.args.rows.now.items ++ l) (lone_row combine c.args.stamps.now c.args.key.now c.args.ops.now c.if-ops-eq1.true)) c.add_rows.ensures.rows

pub returns-clause-row : goal.returns-clause-row
returns-clause-row g c =
    let k = c.args.key.now in
    let s = c.args.stamps.now in
    let ops = c.args.ops.now in
    let combine = g.M.MergeOperator.combine c.args.operator.now k in
    let own = c.add_rows-2.new.rows.items in
    let made = own_rows s k ops own (c.in_ok-add_rows.ensures.rows ∙ ap (λ l. l ++ map (stamped s k) (reverse ops)) c.requires.none) c.requires.kept in
    on_ok_weaker c.add_folded.result
    (λ folded. folded ∙ ap (λ l. c.args.rows.now.items ++ option_to_list (fold_rows combine l)) made.turned) (c.add_folded.ensures.row k made.keys made.based)
