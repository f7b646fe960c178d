use Rattle.slate_db.proofs.TouchedSegments.{runs_of_segments, tables_stand}
use Rattle.slate_db.proofs.WholeFlushes.{flushes_are_whole}
use Rattle.slate_db.proofs.laws.flushes.Goals as goal

pub returns : goal.returns
returns c = record { runs = runs_of_segments; tables = tables_stand; whole = flushes_are_whole }
