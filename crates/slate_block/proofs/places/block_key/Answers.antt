use Rattle.std.proofs.Common.{sym, ◌∙◌, inr, refl}
use Rattle.std.proofs.lemmas.Result.{IfOk-from_err, err_from_is_err_and}
use Rattle.slate_block.proofs.WalkLaws.{named_some}
use Rattle.slate_block.specs.Walks.{block_reads}
use Rattle.slate_block.proofs.places.block_key.Goals as goal

pub returns-in_err-row-clause-reads : goal.returns-in_err-row-clause-reads
returns-in_err-row-clause-reads c = IfOk-from_err c.from_residual.result _ c.from_residual.ensures.0

pub returns-in_err-row-clause-damage : goal.returns-in_err-row-clause-damage
returns-in_err-row-clause-damage c = let p = err_from_is_err_and c.from_residual.result c.from_residual.ensures.1 in rw (p.1, p.2) c.in_err-row.ensures.damage

pub place_behind-upto-requires : goal.place_behind-upto-requires
place_behind-upto-requires c = named_some c.args.offsets.now (sym c.are_named.ensures ∙ c.if-not-are_named.false)

pub bounds-offsets-0 : goal.bounds-offsets-0
bounds-offsets-0 c = named_some c.args.offsets.now (sym c.are_named.ensures ∙ c.if-not-are_named.false)

pub returns-then-not-are_named : goal.returns-then-not-are_named
unfolding block_reads
returns-then-not-are_named c = record { reads = tt; cause = rw (c.corrupt.ensures, sym c.are_named.ensures ∙ c.if-not-are_named.true) (inr refl); damage = rw c.corrupt.ensures (inr tt) }
