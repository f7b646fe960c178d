use Rattle.std.proofs.Common.{◌≡◌, ℕ, List, ◌++◌, [], Option, Some, option_map, ap, subst, ◌∙◌}
use Rattle.std.specs.Prelude.{Result, Ok, Err, OnOk}
use Rattle.std.specs.List.{list_any}
use Rattle.slate_types.specs.Keys.{in_range}
use Rattle.slate_txn.specs.declared.reading.Scanned.{Scanned}
use Rattle.slate_txn.specs.HandedOver.{SameKeys, TakesIn, HandsOver}
use Rattle.slate_txn.specs.Managers.{Active}
use Rattle.slate_txn.specs.Named.{find_named}
use Rattle.slate_txn.specs.Tracking.{Reading, tracks}
use Rattle.slate_txn.proofs.HandOver.{grown_trans, grown_of, found_of, handed_all}
use Rattle.slate_txn.proofs.hand_over.hand_over.Goals as goal

abbrev more_writes : List (List ℕ) → Active → Active
more_writes ks t = record t { writes = t.writes ++ ks }

abbrev more_reads : List (List ℕ) → Active → Active
more_reads ks t = record t { reads = t.reads ++ ks }

both_ok : {X E P Q R : Type 0} (r : Result X E) → (P → Q → R) → OnOk r P → OnOk r Q → OnOk r R
both_ok (Ok x) f h k = f h k
both_ok (Err e) f h k = tt

pub returns-in_err-track_read_keys-clause-grown : goal.returns-in_err-track_read_keys-clause-grown
returns-in_err-track_read_keys-clause-grown c =
    let id = c.args.id.now in
    let w = c.track_write_keys.ensures in
    let r = c.track_read_keys.ensures in
    grown_trans id c.args.manager.now c.track_write_keys.new.self c.track_read_keys.new.self
    (grown_of (more_writes c.args.writes.items) id c.args.manager.now c.track_write_keys.new.self c.track_write_keys.result w.tracked w.same w.stands)
    (grown_of (more_reads c.args.marked.items) id c.track_write_keys.new.self c.track_read_keys.new.self c.track_read_keys.result r.tracked r.same r.stands)

pub returns-in_err-track_read_keys-2-clause-grown : goal.returns-in_err-track_read_keys-2-clause-grown
returns-in_err-track_read_keys-2-clause-grown c =
    let id = c.args.id.now in
    let w = c.track_write_keys.ensures in
    let r = c.track_read_keys.ensures in
    let k = c.track_read_keys-2.ensures in
    grown_trans id c.args.manager.now c.track_read_keys.new.self c.track_read_keys-2.new.self
    (grown_trans id c.args.manager.now c.track_write_keys.new.self c.track_read_keys.new.self
    (grown_of (more_writes c.args.writes.items) id c.args.manager.now c.track_write_keys.new.self c.track_write_keys.result w.tracked w.same w.stands)
    (grown_of (more_reads c.args.marked.items) id c.track_write_keys.new.self c.track_read_keys.new.self c.track_read_keys.result r.tracked r.same r.stands))
    (grown_of (more_reads c.reading.inside.keys.items) id c.track_read_keys.new.self c.track_read_keys-2.new.self c.track_read_keys-2.result k.tracked k.same k.stands)

pub returns-in_err-track_views-clause-grown : goal.returns-in_err-track_views-clause-grown
returns-in_err-track_views-clause-grown c =
    let id = c.args.id.now in
    let w = c.track_write_keys.ensures in
    let r = c.track_read_keys.ensures in
    let k = c.track_read_keys-2.ensures in
    grown_trans id c.args.manager.now c.track_read_keys-2.new.self c.track_views.new.manager
    (grown_trans id c.args.manager.now c.track_read_keys.new.self c.track_read_keys-2.new.self
    (grown_trans id c.args.manager.now c.track_write_keys.new.self c.track_read_keys.new.self
    (grown_of (more_writes c.args.writes.items) id c.args.manager.now c.track_write_keys.new.self c.track_write_keys.result w.tracked w.same w.stands)
    (grown_of (more_reads c.args.marked.items) id c.track_write_keys.new.self c.track_read_keys.new.self c.track_read_keys.result r.tracked r.same r.stands))
    (grown_of (more_reads c.reading.inside.keys.items) id c.track_read_keys.new.self c.track_read_keys-2.new.self c.track_read_keys-2.result k.tracked k.same k.stands))
    c.track_views.ensures.grown

pub returns-clause-grown : goal.returns-clause-grown
returns-clause-grown c =
    let id = c.args.id.now in
    let w = c.track_write_keys.ensures in
    let r = c.track_read_keys.ensures in
    let k = c.track_read_keys-2.ensures in
    grown_trans id c.args.manager.now c.track_views.new.manager c.track_scans.new.manager
    (grown_trans id c.args.manager.now c.track_read_keys-2.new.self c.track_views.new.manager
    (grown_trans id c.args.manager.now c.track_read_keys.new.self c.track_read_keys-2.new.self
    (grown_trans id c.args.manager.now c.track_write_keys.new.self c.track_read_keys.new.self
    (grown_of (more_writes c.args.writes.items) id c.args.manager.now c.track_write_keys.new.self c.track_write_keys.result w.tracked w.same w.stands)
    (grown_of (more_reads c.args.marked.items) id c.track_write_keys.new.self c.track_read_keys.new.self c.track_read_keys.result r.tracked r.same r.stands))
    (grown_of (more_reads c.reading.inside.keys.items) id c.track_read_keys.new.self c.track_read_keys-2.new.self c.track_read_keys-2.result k.tracked k.same k.stands))
    c.track_views.ensures.grown)
    c.track_scans.ensures.grown

pub returns-clause-handed : goal.returns-clause-handed
returns-clause-handed c n e =
    let id = c.args.id.now in
    let ws = c.args.writes.items in
    let ms = c.args.marked.items in
    let keys = c.reading.inside.keys.items in
    let rs : Reading = record { keys = keys; scans = c.reading.inside.scans.items; views = c.reading.inside.views.items } in
    let m0 = c.args.manager.now in
    let m1 = c.track_write_keys.new.self in
    let m2 = c.track_read_keys.new.self in
    let m3 = c.track_read_keys-2.new.self in
    let m4 = c.track_views.new.manager in
    let m5 = c.track_scans.new.manager in
    let t : Active = record { start = n; writes = ws; reads = ms ++ keys; ranges = [] } in
    let f : find_named id m3.active ≡ Some t =
    found_of (more_reads keys) id m2 m3 c.in_ok-track_read_keys-2.ensures.tracked
    ∙ ap (option_map (more_reads keys)) (found_of (more_reads ms) id m1 m2 c.in_ok-track_read_keys.ensures.tracked
    ∙ ap (option_map (more_reads ms)) (found_of (more_writes ws) id m0 m1 c.in_ok-track_write_keys.ensures.tracked ∙ ap (option_map (more_writes ws)) e)) in
    both_ok c.track_scans.result
    (λ same takes. subst (λ (r : Reading). HandsOver n ws ms r (find_named id m5.active)) c.reading.view_is
    (handed_all n ws ms rs (find_named id m4.active) (find_named id m5.active)
    (subst (λ (o : Option Active). SameKeys o (find_named id m4.active)) f c.in_ok-track_views.ensures.same)
    (subst (λ (o : Option Active). TakesIn (λ k. list_any (λ r. in_range r k) c.reading.inside.views.items) o (find_named id m4.active)) f c.in_ok-track_views.ensures.takes)
    same
    (subst (λ (xs : List Scanned). TakesIn (λ k. list_any (λ s. tracks s k) xs) (find_named id m4.active) (find_named id m5.active)) c.as_slice.ensures.value takes)))
    c.track_scans.ensures.same c.track_scans.ensures.takes
