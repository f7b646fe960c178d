use Rattle.std.proofs.Common.{sym}
use Rattle.std.specs.Int.{w16}
use Rattle.slate_block.proofs.FieldLaws.{no_number}
use Rattle.slate_block.proofs.fields.u16_field.Goals as goal

pub returns-in-None : goal.returns-in-None
returns-in-None c =
    record { value = rw c.corrupt.ensures (sym (no_number w16 c.args.bytes.now c.args.at c.in-None.ensures.cases)); damage = rw c.corrupt.ensures c.requires; within = tt }
