-- Statistics are compared by their fields.
use Rattle.std.proofs.Common.{◌≡◌, ◌&&◌, ◌==◌, ap}
use Rattle.std.specs.Bool.{Decides}
use Rattle.std.proofs.lemmas.Bool.Decides.{Decides-and, Decides-eqb}
use Rattle.slate_block.specs.declared.block.BlockStats.{BlockStats}

pub counts_decide : (a b : BlockStats) → Decides ((a.num_puts == b.num_puts) && ((a.num_deletes == b.num_deletes) && (a.num_merges == b.num_merges))) (a ≡ b)
counts_decide a b =
    let fields = Decides-and (a.num_puts == b.num_puts) ((a.num_deletes == b.num_deletes) && (a.num_merges == b.num_merges)) (Decides-eqb a.num_puts b.num_puts)
    (Decides-and (a.num_deletes == b.num_deletes) (a.num_merges == b.num_merges) (Decides-eqb a.num_deletes b.num_deletes) (Decides-eqb a.num_merges b.num_merges)) in (
      λ h. let e = fields.0 h in (λ i. record { num_puts = e.0 i; num_deletes = e.1.0 i; num_merges = e.1.1 i }),
      λ e. fields.1 (ap (λ (s : BlockStats). s.num_puts) e, (ap (λ (s : BlockStats). s.num_deletes) e, ap (λ (s : BlockStats). s.num_merges) e)),
    )
