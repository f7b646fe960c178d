use Rattle.std.proofs.Common.{refl, inl}
use Rattle.std.proofs.lemmas.Result.{IfOk-from_err}
use Rattle.slate_table.proofs.PartsLaws.{fresh_stands}
use Rattle.slate_table.proofs.builder.EncodedSsTableBuilder.new.Goals as goal
use Rattle.slate_types.proofs.Exits.{err_exit}

pub invariant_of-result : goal.invariant_of-result
invariant_of-result c =
    fresh_stands _ c.requires.some c.requires.few c.new.ensures.items c.in_ok-block.ensures.builder c.in_ok-block.ensures.counts c.new-4.ensures.items c.new-5.ensures.items c.new-3.ensures.items refl refl

pub returns-in_err-block-clause-begun : goal.returns-in_err-block-clause-begun
returns-in_err-block-clause-begun c = IfOk-from_err c.from_residual.result _ c.from_residual.ensures.0

pub returns-in_err-block-clause-no_codec : goal.returns-in_err-block-clause-no_codec
returns-in_err-block-clause-no_codec c = IfOk-from_err c.from_residual.result _ c.from_residual.ensures.0

pub returns-in_err-block-clause-cause : goal.returns-in_err-block-clause-cause
returns-in_err-block-clause-cause c = err_exit c.from_residual.result _ c.from_residual.ensures.1 _ (inl c.in_err-block.ensures.cause)
