use Rattle.std.proofs.Common.{sym, ◌∙◌, arith}
use Rattle.slate_script.proofs.Scanned.{took_all, took_some}
use Rattle.slate_script.proofs.WalkLaws.{none_at_all, some_at_all}
use Rattle.slate_script.proofs.scan.take.Goals as goal

pub returns-then-is_empty-clause-took : goal.returns-then-is_empty-clause-took
returns-then-is_empty-clause-took g c =
    took_all c.take_rows.result _ _ c.args.core.now c.take_rows.new.core c.args.scan.now c.take_rows.new.scan 18446744073709551615 c.args.steps.now c.args.rows.now.items c.take_rows.new.rows.items (none_at_all c.args.steps.now (sym c.is_empty.ensures ∙ c.if-is_empty.true)) (omega (arith, c.take_rows.new.rows.small, c.take_rows.new.rows.ok)) c.take_rows.ensures.took

pub returns-else-is_empty-clause-took : goal.returns-else-is_empty-clause-took
returns-else-is_empty-clause-took g c =
    took_some c.take_steps.result _ _ c.args.core.now c.take_steps.new.core c.args.scan.now c.take_steps.new.scan c.args.steps.now c.args.rows.now.items c.take_steps.new.rows.items (some_at_all c.args.steps.now (sym c.is_empty.ensures ∙ c.if-is_empty.false)) c.take_steps.ensures.took
