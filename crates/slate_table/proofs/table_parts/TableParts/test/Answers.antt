use Rattle.std.proofs.Common.{◌∙◌, sym, refl, inr, arith}
use Rattle.slate_table.proofs.table_parts.TableParts.test.Goals.{else-len-ge-MAX_BLOCKS-via-then-len-ge-MAX_BLOCKS+else-not-would_fit, else-len-ge-MAX_BLOCKS-via-else-len-ge-MAX_BLOCKS}
use Rattle.slate_table.proofs.table_parts.TableParts.test.Goals as goal

pub returns-then-not-would_fit-clause-past : goal.returns-then-not-would_fit-clause-past
returns-then-not-would_fit-clause-past c = inr (refl, (sym c.would_fit.ensures ∙ c.if-not-would_fit.true, omega arith))

pub returns-clause-room : goal.returns-clause-room
returns-clause-room c =
    λ full. elim c.else-len-ge-MAX_BLOCKS.branch [
      | else-len-ge-MAX_BLOCKS-via-then-len-ge-MAX_BLOCKS+else-not-would_fit w ↦ absurd (cc (full, w.would_fit.ensures, w.if-not-would_fit.false))
      | else-len-ge-MAX_BLOCKS-via-else-len-ge-MAX_BLOCKS w ↦ omega (arith, w.if-len-ge-MAX_BLOCKS.false)
    ]
