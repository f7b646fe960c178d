-- What a core's calls say of open ids, and what the next calls need.
use Rattle.std.specs.Prelude.{ℕ, List}
use Rattle.slate_db.specs.Model.{CoreModel}
use Rattle.slate_db.specs.Opened.{StaysOpen}
pub use Rattle.slate_db.proofs.OpenIds.{snapshot_reads, transaction_reads}

-- through two calls
pub stays_on : {first second third : CoreModel} {id : List ℕ} → StaysOpen first second id → StaysOpen second third id → StaysOpen first third id
stays_on a b = record {
  transaction = λ h. b.transaction (a.transaction h);
  snapshot = λ h. b.snapshot (a.snapshot h);
  reads = λ h. b.reads (a.reads h);
  scans = λ n h. b.scans n (a.scans n h);
}
