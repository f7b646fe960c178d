use Rattle.std.proofs.Common.{◌∙◌, ap, length, subst, sym}
use Rattle.slate_stock.specs.Running.{IsKey}
use Rattle.slate_stock.proofs.CauseLaws.{put_memory}
use Rattle.slate_stock.proofs.PutLaws.{amount_long}
use Rattle.slate_stock.proofs.on_pass.put_amount.Goals as goal

pub returns-in-Err-clause-cause : goal.returns-in-Err-clause-cause
returns-in-Err-clause-cause g c =
    put_memory c.as_slice.result.now c.as_slice-2.result.now c.in-Err.error (subst IsKey (sym c.as_slice.ensures) c.requires.key) (ap length (c.as_slice-2.ensures ∙ c.in_ok-value.ensures) ∙ amount_long c.args.amount) c.in-Err.ensures.cause
