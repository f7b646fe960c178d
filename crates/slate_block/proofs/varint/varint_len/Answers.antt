use Rattle.std.proofs.Common.{length, arith, ap, sym, ◌∙◌}
use Rattle.slate_block.proofs.RowSizes.{one_group, two_groups, three_groups, four_groups, all_groups}
use Rattle.slate_block.proofs.VarintLaws.{one_varint}
use Rattle.slate_block.proofs.varint.varint_len.Goals as goal

pub returns-in-0-to-127-clause-value : goal.returns-in-0-to-127-clause-value
returns-in-0-to-127-clause-value c = sym (one_group c.args.value (omega arith))

pub returns-in-0-to-127-clause-spelling : goal.returns-in-0-to-127-clause-spelling
returns-in-0-to-127-clause-spelling c = λ text s. ap length (one_varint text c.args.value s) ∙ one_group c.args.value (omega arith)

pub returns-in-128-to-16383-clause-value : goal.returns-in-128-to-16383-clause-value
returns-in-128-to-16383-clause-value c = sym (two_groups c.args.value (omega arith) (omega arith))

pub returns-in-128-to-16383-clause-spelling : goal.returns-in-128-to-16383-clause-spelling
returns-in-128-to-16383-clause-spelling c = λ text s. ap length (one_varint text c.args.value s) ∙ two_groups c.args.value (omega arith) (omega arith)

pub returns-in-16384-to-2097151-clause-value : goal.returns-in-16384-to-2097151-clause-value
returns-in-16384-to-2097151-clause-value c = sym (three_groups c.args.value (omega arith) (omega arith))

pub returns-in-16384-to-2097151-clause-spelling : goal.returns-in-16384-to-2097151-clause-spelling
returns-in-16384-to-2097151-clause-spelling c = λ text s. ap length (one_varint text c.args.value s) ∙ three_groups c.args.value (omega arith) (omega arith)

pub returns-in-2097152-to-268435455-clause-value : goal.returns-in-2097152-to-268435455-clause-value
returns-in-2097152-to-268435455-clause-value c = sym (four_groups c.args.value (omega arith) (omega arith))

pub returns-in-2097152-to-268435455-clause-spelling : goal.returns-in-2097152-to-268435455-clause-spelling
returns-in-2097152-to-268435455-clause-spelling c = λ text s. ap length (one_varint text c.args.value s) ∙ four_groups c.args.value (omega arith) (omega arith)

pub returns-in_default-clause-value : goal.returns-in_default-clause-value
returns-in_default-clause-value c = sym (all_groups c.args.value (omega arith) (omega arith))

pub returns-in_default-clause-spelling : goal.returns-in_default-clause-spelling
returns-in_default-clause-spelling c = λ text s. ap length (one_varint text c.args.value s) ∙ all_groups c.args.value (omega arith) (omega arith)
