use Rattle.std.proofs.Common.{sym, arith}
use Rattle.std.proofs.Math.Facts.{Fits-lt-pow}
use Rattle.std.proofs.lemmas.Nat.{be_bytes_8}
use Rattle.slate_stock.specs.Amounts.{amount_bytes}
use Rattle.slate_stock.proofs.amount.amount.Goals as goal

pub returns-clause-some : goal.returns-clause-some
unfolding amount_bytes
returns-clause-some c = (sym (be_bytes_8 c.args.value.now c.from_be_bytes.result (omega arith) (λ i. Fits-lt-pow (c.type_inv.value i)) c.from_be_bytes.ensures), c.from_be_bytes.type_inv)
