use Rattle.slate_db.proofs.ScansLeft.{calls_keep, left_is_open, steps_end_nothing}
use Rattle.slate_db.proofs.laws.open_scans.Goals as goal

pub returns : goal.returns
returns c = record { beside = calls_keep; steps = steps_end_nothing; is_open = left_is_open }
