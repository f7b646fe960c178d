use Rattle.std.proofs.Common.{ℕ, List, subst}
use Rattle.slate_block.specs.ReadingLaws.{EachIsAByte}
use Rattle.slate_db.proofs.flush.bytes_of.Goals as goal

pub returns-clause-bytes : goal.returns-clause-bytes
returns-clause-bytes c = (c.in_ok-bytes.ensures.whole, subst (λ (bs : List ℕ). EachIsAByte bs) c.as_slice.ensures c.are_bytes.ensures)

pub returns-clause-cause : goal.returns-clause-cause
returns-clause-cause c = tt
