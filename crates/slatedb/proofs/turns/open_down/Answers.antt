use Rattle.std.proofs.Common.{◌∙◌, map, refl, subst, sym}
use Rattle.std.proofs.lemmas.Result.{IfOk-from_err, on_ok_weaker}
use Rattle.slate_types.specs.Outside.{Meaning, no_parts}
use Rattle.slate_db.specs.SerialLaws.{IsVouchedCore}
use Rattle.slate_db.proofs.Opened.{stay_on}
use Rattle.slatedb.specs.Turns.{AreBoth}
use Rattle.slatedb.proofs.OpenIds.{transaction_reads}
use Rattle.slatedb.proofs.Turning.{bare_beside, bare_meant, opened_bare, opened_beside, opened_both, opened_left, scan_stands}
use Rattle.slatedb.proofs.Undone.{changes_none, changes_noted, changes_then}
use Rattle.slatedb.proofs.turns.open_down.Goals as goal

pub scan-requires-clause-open : goal.scan-requires-clause-open
scan-requires-clause-open g c κs lives = transaction_reads c.args.core.now c.args.id.now c.requires.begun

pub take_turns-ended-requires-clause-both : goal.take_turns-ended-requires-clause-both
take_turns-ended-requires-clause-both g c κs lives =
    let left = opened_left _ c.args.core.now c.scan.new.self c.args.id.now _ _ c.in_ok-down.down c.open_scans.ensures.steps c.requires.begun c.in_ok-down.ensures.notes.noted c.in_ok-down.ensures.opens.names c.in_ok-down.ensures.opens.left in
    subst (λ (m : Meaning). AreBoth m c.scan.new.self c.args.up.now c.in_ok-down.down) (sym c.scan.ensures.opens.reads.meaning)
    (opened_both _ c.args.core.now c.scan.new.self c.args.id.now _ _ c.in_ok-down.down c.open_scans.ensures.steps c.requires.begun c.in_ok-down.ensures.notes.noted c.in_ok-down.ensures.opens.names
    c.args.up.now c.requires.left.0 c.open_scans.ensures.beside c.open_scans.ensures.is_open c.requires.named c.requires.left.1 left)

pub returns-in_err-down : goal.returns-in_err-down
returns-in_err-down g c = record {
  alone = changes_none _ _ _ c.in_err-down.ensures.notes.same;
  stay = c.scan.ensures.notes.stay;
  meant = c.scan.ensures.opens.reads.meaning;
  vouched = λ stands x. IfOk-from_err c.from_residual.result _ c.from_residual.ensures.0;
}

pub returns : goal.returns
returns g c =
    let policies = map (λ p. (goal.FilterPolicy-dyn g (p.vtable, p.value)).meaning p.value) c.args.laws.now.policies.items in
    let left = opened_left _ c.args.core.now c.scan.new.self c.args.id.now _ _ c.in_ok-down.down c.open_scans.ensures.steps c.requires.begun c.in_ok-down.ensures.notes.noted c.in_ok-down.ensures.opens.names c.in_ok-down.ensures.opens.left in
    record {
      alone = changes_then _ c.args.core.now c.scan.new.self c.take_turns-ended.new.core (changes_noted _ _ _ _ c.in_ok-down.ensures.notes.noted) c.take_turns-ended.ensures.alone;
      stay = stay_on c.args.core.now c.scan.new.self c.take_turns-ended.new.core c.scan.ensures.notes.stay c.take_turns-ended.ensures.stay;
      meant = c.take_turns-ended.ensures.meant ∙ c.scan.ensures.opens.reads.meaning;
      vouched = λ stands x.
          let next = scan_stands policies _ _ _ c.args.core.now c.scan.new.self c.args.id.now _ _ c.in_ok-down.ensures.notes.noted c.in_ok-down.ensures.opens.vouched c.scan.ensures.notes.kept c.scan.ensures.opens.reads stands in
          let bare = opened_bare _ c.args.core.now c.scan.new.self c.args.id.now _ _ c.in_ok-down.down c.open_scans.ensures.steps c.requires.begun c.in_ok-down.ensures.notes.noted c.in_ok-down.ensures.opens.names policies _ _ refl c.in_ok-down.ensures.opens.opened left stands in
          let other = bare_beside _ c.args.core.now c.scan.new.self c.args.up.now c.open_scans.ensures.beside
          (opened_beside no_parts c.args.core.now c.scan.new.self c.args.id.now _ _ c.in_ok-down.down c.open_scans.ensures.steps c.requires.begun c.in_ok-down.ensures.notes.noted c.in_ok-down.ensures.opens.names c.args.up.now) x in
          on_ok_weaker c.take_turns-ended.result (λ v. subst (λ (m : Meaning). IsVouchedCore m c.take_turns-ended.new.core) c.scan.ensures.opens.reads.meaning v)
          (c.take_turns-ended.ensures.vouched next (bare_meant _ _ _ _ (sym c.scan.ensures.opens.reads.meaning) other) (bare_meant _ _ _ _ (sym c.scan.ensures.opens.reads.meaning) bare));
    }
