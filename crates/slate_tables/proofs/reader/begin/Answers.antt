use Rattle.slate_tables.proofs.Undamaged.{undamaged}
use Rattle.slate_tables.proofs.reader.begin.Goals as goal

pub returns-in-Err-clause-undamaged : goal.returns-in-Err-clause-undamaged
returns-in-Err-clause-undamaged g c = λ w sees h.
    let cause = c.in-Err.ensures.cause in
    undamaged g.I.RowEntryIterator.sound g.I.RowEntryIterator.refuses g.met.I.RowEntryIterator.whole c.args.rows w _ _ c.in-Err.error sees h (cause.0, cause.1, cause.2.0)
