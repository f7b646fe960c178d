-- What is refused of a block's rows is damage.
use Rattle.slate_types.specs.declared.error.SlateDBError.{SlateDBError}
use Rattle.slate_types.specs.declared.error.SlateDBError.TheVariants.{CorruptTable, InvalidRowFlags}
use Rattle.slate_types.specs.Refusing.{IsDamage}
use Rattle.slate_block.specs.BlockWalks.{IsBlockDamage}

pub in_block : (e : SlateDBError) → IsBlockDamage e → IsDamage e
in_block (CorruptTable place) h = tt
in_block (InvalidRowFlags b) h = tt
in_block _ h = absurd h
