use Rattle.slate_db.proofs.Scans.{scan_shows}
use Rattle.slate_db.proofs.ScanLists.{have_all}
use Rattle.slate_db.proofs.ScanSources.{core_scans}
use Rattle.slate_db.proofs.laws.scans.Goals as goal

pub returns : goal.returns
returns c = record { seen = scan_shows; of_core = core_scans; have_rows = have_all }
