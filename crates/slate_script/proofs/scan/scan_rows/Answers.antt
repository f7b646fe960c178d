use Rattle.std.proofs.Common.{map, ap, ◌∙◌}
use Rattle.std.proofs.lemmas.Result.{err_from_is_err_and}
use Rattle.slate_types.specs.Outside.{unblamed_by}
use Rattle.slate_types.proofs.Reaching.{reads_then}
use Rattle.slate_db.proofs.RowDamage.{opening_scan}
use Rattle.slate_db.specs.Scans.{id_of}
use Rattle.slate_script.proofs.Scanned.{noted_then, opened_by, opens_scan, same_noted, walked, walk_cause, walk_fault}
use Rattle.slate_script.proofs.scan.scan_rows.Goals as goal

pub walk-rows-requires : goal.walk-rows-requires
walk-rows-requires g c =
    let policies = map (λ p. (goal.FilterPolicy-dyn g (p.vtable, p.value)).meaning p.value) c.args.laws.now.policies.items in
    let o = c.in_ok-scan.ensures in
    opens_scan policies _ _ c.args.core.now c.scan-opened.new.self c.args.id.now c.args.order c.args.range c.in_ok-scan.scan (opened_by policies _ _ _ c.args.core.now c.scan-opened.new.self c.args.id.now c.args.order c.args.range c.in_ok-scan.scan c.requires.open o.notes.noted o.opens.names o.opens.opened o.opens.checked o.opens.later.1 o.notes.kept)

pub returns : goal.returns
returns g c =
    let policies = map (λ p. (goal.FilterPolicy-dyn g (p.vtable, p.value)).meaning p.value) c.args.laws.now.policies.items in
    let o = c.in_ok-scan.ensures in
    let h = opened_by policies _ _ _ c.args.core.now c.scan-opened.new.self c.args.id.now c.args.order c.args.range c.in_ok-scan.scan c.requires.open o.notes.noted o.opens.names o.opens.opened o.opens.checked o.opens.later.1 o.notes.kept in
    record {
      noted = noted_then c.args.core.now c.scan-opened.new.self c.walk-rows.new.core c.args.id.now (id_of c.in_ok-scan.scan) h.names.named (_, h.notes) c.walk-rows.ensures.noted;
      scanned = walked policies (λ v. v.items) c.walk-rows.result _ _ _ c.args.core.now c.scan-opened.new.self c.walk-rows.new.core c.args.id.now c.args.order c.args.range c.args.steps.now c.in_ok-scan.scan c.walk-rows.new.scan c.requires.range h c.scan-opened.ensures.opens.reads c.walk-rows.ensures.reads c.walk-rows.ensures.took;
      undamaged = walk_fault policies c.walk-rows.result _ _ _ c.args.core.now c.scan-opened.new.self c.args.id.now c.args.order c.args.range c.in_ok-scan.scan h c.scan-opened.ensures.opens.reads c.walk-rows.ensures.refused;
      cause = walk_cause policies c.walk-rows.result _ _ _ c.args.core.now c.scan-opened.new.self c.args.id.now c.args.order c.args.range c.in_ok-scan.scan h c.scan-opened.ensures.opens.reads c.walk-rows.ensures.refused;
      reads = reads_then _ _ _ c.scan-opened.ensures.opens.reads c.walk-rows.ensures.reads;
      still = c.walk-rows.ensures.still ∙ ap (unblamed_by c.walk-rows.result) c.in_ok-scan.ensures.opens.still;
    }

pub returns-in_err-scan-clause-noted : goal.returns-in_err-scan-clause-noted
returns-in_err-scan-clause-noted g c = same_noted c.args.core.now c.scan-opened.new.self c.args.id.now c.in_err-scan.ensures.notes.same

pub returns-in_err-scan-clause-cause : goal.returns-in_err-scan-clause-cause
returns-in_err-scan-clause-cause g c =
    let p = err_from_is_err_and c.from_residual.result c.from_residual.ensures.1 in
    rw (p.1, p.2) (opening_scan _ _ c.args.core.now c.in_err-scan.field-0.0 (c.in_err-scan.ensures.opens.cause c.requires.range))

pub returns-in_err-scan-clause-undamaged : goal.returns-in_err-scan-clause-undamaged
returns-in_err-scan-clause-undamaged g c answered =
    let p = err_from_is_err_and c.from_residual.result c.from_residual.ensures.1 in
    rw (p.1, p.2) (c.in_err-scan.ensures.opens.undamaged c.requires.range answered)

pub returns-in_err-scan-clause-still : goal.returns-in_err-scan-clause-still
returns-in_err-scan-clause-still g c =
    let p = err_from_is_err_and c.from_residual.result c.from_residual.ensures.1 in
    rw (p.1, p.2) c.in_err-scan.ensures.opens.still

pub returns-in_err-scan-clause-reads : goal.returns-in_err-scan-clause-reads
returns-in_err-scan-clause-reads g c = c.scan-opened.ensures.opens.reads
