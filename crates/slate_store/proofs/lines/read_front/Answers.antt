use Rattle.std.proofs.Common.{arith, length-take, take}
use Rattle.slate_store.proofs.Ends.{front_told}
use Rattle.slate_store.proofs.lines.read_front.Goals as goal

pub returns-clause-bytes : goal.returns-clause-bytes
returns-clause-bytes g c = λ left told.
    front_told c.read.result (take c.args.room c.args.piece.now) c.read.new.buf _ left _ c.read.auto.buf c.read.ensures.bound (c.read.ensures.front left told) (c.read.ensures.rest left told)
    (c.read.ensures.end (omega (arith, length-take c.args.room c.args.piece.now)) left told)
