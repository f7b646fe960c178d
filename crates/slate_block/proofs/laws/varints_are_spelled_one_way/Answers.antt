use Rattle.slate_block.proofs.VarintLaws.{varints_alone, varint_spells, one_varint}
use Rattle.slate_block.proofs.laws.varints_are_spelled_one_way.Goals as goal

pub returns-clause-delimited : goal.returns-clause-delimited
returns-clause-delimited c = varints_alone

pub returns-clause-one_way : goal.returns-clause-one_way
returns-clause-one_way c = (varint_spells, one_varint)
