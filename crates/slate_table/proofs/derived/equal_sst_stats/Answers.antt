use Rattle.std.proofs.Common.{◌==◌, ◌∙◌, refl, sym}
use Rattle.std.proofs.lemmas.Bool.Decides.{Decides-and, Decides-eqb}
use Rattle.std.proofs.lemmas.Slice.Eq.{slice_eq-Decides}
use Rattle.slate_table.proofs.EqualStats.{counts_decide}
use Rattle.slate_table.proofs.derived.equal_sst_stats.Goals as goal

pub returns : goal.returns
returns c =
    let a = c.args.a.now in
    let b = c.args.b.now in
    let blocks = slice_eq-Decides counts_decide a.block_stats.items b.block_stats.items _ refl in
    let values = Decides-and (a.raw_val_size == b.raw_val_size) _ (Decides-eqb a.raw_val_size b.raw_val_size) blocks in
    let keys = Decides-and (a.raw_key_size == b.raw_key_size) _ (Decides-eqb a.raw_key_size b.raw_key_size) values in
    let merges = Decides-and (a.num_merges == b.num_merges) _ (Decides-eqb a.num_merges b.num_merges) keys in
    let deletes = Decides-and (a.num_deletes == b.num_deletes) _ (Decides-eqb a.num_deletes b.num_deletes) merges in
    let all = Decides-and (a.num_puts == b.num_puts) _ (Decides-eqb a.num_puts b.num_puts) deletes in (
      λ h. let e = all.0 (sym c.eq.ensures ∙ h) in (e.0, e.1.0, e.1.1.0, e.1.1.1.0, e.1.1.1.1.0, e.1.1.1.1.1),
      λ h. c.eq.ensures ∙ all.1 (h.0, (h.1, (h.2, (h.3, (h.4, h.5))))),
    )
