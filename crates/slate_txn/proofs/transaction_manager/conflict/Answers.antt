use Rattle.std.proofs.Common.{ap, ◌∙◌}
use Rattle.std.specs.List.{list_any}
use Rattle.slate_types.specs.Keys.{among, in_range}
use Rattle.slate_txn.specs.Managers.{Active, newest_kept, is_tracked, later}
use Rattle.slate_txn.proofs.Standing.{tracked_walk}
use Rattle.slate_txn.proofs.transaction_manager.conflict.Goals as goal

pub returns : goal.returns
returns c =
    let s = c.state.inside.started_seq in
    let es = c.args.kept.now.entries in
    let w = c.newest_of_keys-of_writes.ensures ∙ ap (λ ks. newest_kept (λ k. among k ks) s es) c.as_slice.ensures.value in
    let r = c.newest_of_keys-of_reads.ensures ∙ ap (λ ks. newest_kept (λ k. among k ks) s es) c.as_slice-2.ensures.value in
    let g = c.newest_in_ranges-of_ranges.ensures ∙ ap (λ xs. newest_kept (λ k. list_any (λ x. in_range x k) xs) s es) c.as_slice-3.ensures.value in
    let t : Active = record { start = s; writes = c.state.inside.write_keys.items; reads = c.state.inside.read_keys.items; ranges = c.state.inside.read_ranges.items } in
    c.later-2.ensures
    ∙ ap (λ o. later o c.newest_in_ranges-of_ranges.result) c.later.ensures
    ∙ (λ i. later (later (w i) (r i)) (g i))
    ∙ tracked_walk t s es
    ∙ ap (λ (u : Active). newest_kept (is_tracked u) u.start es) c.state.view_is
