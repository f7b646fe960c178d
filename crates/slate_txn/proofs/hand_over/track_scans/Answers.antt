use Rattle.std.proofs.Common.{◌≡◌, ◌∷◌, ◌+◌, drop, ap, refl, sym, ◌∙◌, add-one, drop-cons}
use Rattle.std.specs.List.{list_any}
use Rattle.std.proofs.lemmas.List.{drop_all}
use Rattle.slate_txn.specs.Named.{find_named}
use Rattle.slate_txn.specs.Tracking.{tracks}
use Rattle.slate_txn.proofs.HandOver.{grown_refl, grown_trans, same_refl, same_trans, rest_start, rest_turn, rest_end}
use Rattle.slate_txn.proofs.hand_over.track_scans.Goals as goal

pub loop-scan-init : goal.loop-scan-init
loop-scan-init c = record {
  grown = grown_refl c.args.id.now c.args.manager.now;
  same = same_refl (find_named c.args.id.now c.args.manager.now.active);
  rest = rest_start (λ s k. tracks s k) c.args.scans.now c.args.scans.now refl (find_named c.args.id.now c.args.manager.now.active);
}

pub loop-scan-preserved : goal.loop-scan-preserved
loop-scan-preserved c =
    let id = c.args.id.now in
    let before = c.loop-scan.manager in
    let after = c.track_scan.new.manager in
    let was = c.loop-scan.invariant in
    let i = c.loop-scan.scan-index in
    let scan = c.scan-item.result in
    let first : drop i c.args.scans.now ≡ scan ∷ drop (i + 1) c.args.scans.now =
    drop-cons c.args.scans.now i scan c.loop-scan-test.true ∙ (let s = sym c.scan-item.is in let n = sym (add-one i) in λ j. s j ∷ drop (n j) c.args.scans.now) in
    record {
      grown = grown_trans id c.args.manager.now before after was.grown c.track_scan.ensures.grown;
      same = same_trans (find_named id c.args.manager.now.active) (find_named id before.active) (find_named id after.active) was.same c.in_ok-track_scan.ensures.same;
      rest = rest_turn (λ k. list_any (λ s. tracks s k) c.args.scans.now) (λ k. list_any (λ s. tracks s k) (drop i c.args.scans.now)) (λ k. list_any (λ s. tracks s k) (drop (i + 1) c.args.scans.now))
          (tracks scan) (λ k. ap (list_any (λ s. tracks s k)) first)
          (find_named id c.args.manager.now.active) (find_named id before.active) (find_named id after.active) was.rest c.in_ok-track_scan.ensures.takes;
    }

pub returns-in_err-track_scan-clause-grown : goal.returns-in_err-track_scan-clause-grown
returns-in_err-track_scan-clause-grown c =
    grown_trans c.args.id.now c.args.manager.now c.loop-scan.manager c.track_scan.new.manager c.loop-scan.invariant.grown c.track_scan.ensures.grown

pub returns-clause-takes : goal.returns-clause-takes
returns-clause-takes c =
    rest_end (λ k. list_any (λ s. tracks s k) c.args.scans.now) (λ k. list_any (λ s. tracks s k) (drop c.loop-scan.scan-index c.args.scans.now))
    (λ k. ap (list_any (λ s. tracks s k)) (drop_all c.loop-scan.scan-index c.args.scans.now c.loop-scan-test.false))
    (find_named c.args.id.now c.args.manager.now.active) (find_named c.args.id.now c.loop-scan.manager.active) c.loop-scan.invariant.rest
