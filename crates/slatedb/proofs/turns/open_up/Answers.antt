use Rattle.std.proofs.Common.{◌∙◌, List, map, refl, subst, sym}
use Rattle.slate_types.specs.declared.types.RowEntry.{RowEntry}
use Rattle.std.proofs.lemmas.Result.{IfOk-from_err, on_ok_weaker}
use Rattle.slate_types.specs.Outside.{Meaning, no_parts}
use Rattle.slate_db.specs.LeftLaws.{IsLeft}
use Rattle.slate_db.specs.SerialLaws.{IsVouchedCore}
use Rattle.slate_db.proofs.Opened.{stay_on}
use Rattle.slatedb.proofs.OpenIds.{transaction_reads}
use Rattle.slatedb.proofs.Turning.{bare_meant, opened_bare, opened_left, opened_named, scan_stands}
use Rattle.slatedb.proofs.Undone.{changes_none, changes_noted, changes_then}
use Rattle.slatedb.proofs.turns.open_up.Goals as goal

pub scan-requires-clause-open : goal.scan-requires-clause-open
scan-requires-clause-open g c κs lives = transaction_reads c.args.core.now c.args.id.now c.requires.begun

pub open_down-ended-requires-clause-begun : goal.open_down-ended-requires-clause-begun
open_down-ended-requires-clause-begun g c κs lives = (c.scan.ensures.notes.stay c.args.id.now).transaction c.requires.begun

pub open_down-ended-requires-clause-named : goal.open_down-ended-requires-clause-named
open_down-ended-requires-clause-named g c κs lives = opened_named no_parts c.args.core.now c.scan.new.self c.args.id.now _ _ c.in_ok-up.up c.open_scans.ensures.steps c.requires.begun c.in_ok-up.ensures.notes.noted c.in_ok-up.ensures.opens.names

pub open_down-ended-requires-clause-left : goal.open_down-ended-requires-clause-left
open_down-ended-requires-clause-left g c κs lives =
    subst (λ (m : Meaning). (rows : List RowEntry) × IsLeft m c.scan.new.self c.in_ok-up.up rows) (sym c.scan.ensures.opens.reads.meaning)
    (_, opened_left _ c.args.core.now c.scan.new.self c.args.id.now _ _ c.in_ok-up.up c.open_scans.ensures.steps c.requires.begun c.in_ok-up.ensures.notes.noted c.in_ok-up.ensures.opens.names c.in_ok-up.ensures.opens.left)

pub returns-in_err-up : goal.returns-in_err-up
returns-in_err-up g c = record {
  alone = changes_none _ _ _ c.in_err-up.ensures.notes.same;
  stay = c.scan.ensures.notes.stay;
  meant = c.scan.ensures.opens.reads.meaning;
  vouched = λ stands. IfOk-from_err c.from_residual.result _ c.from_residual.ensures.0;
}

pub returns : goal.returns
returns g c =
    let policies = map (λ p. (goal.FilterPolicy-dyn g (p.vtable, p.value)).meaning p.value) c.args.laws.now.policies.items in
    let left = opened_left _ c.args.core.now c.scan.new.self c.args.id.now _ _ c.in_ok-up.up c.open_scans.ensures.steps c.requires.begun c.in_ok-up.ensures.notes.noted c.in_ok-up.ensures.opens.names c.in_ok-up.ensures.opens.left in
    record {
      alone = changes_then _ c.args.core.now c.scan.new.self c.open_down-ended.new.core (changes_noted _ _ _ _ c.in_ok-up.ensures.notes.noted) c.open_down-ended.ensures.alone;
      stay = stay_on c.args.core.now c.scan.new.self c.open_down-ended.new.core c.scan.ensures.notes.stay c.open_down-ended.ensures.stay;
      meant = c.open_down-ended.ensures.meant ∙ c.scan.ensures.opens.reads.meaning;
      vouched = λ stands.
          let next = scan_stands policies _ _ _ c.args.core.now c.scan.new.self c.args.id.now _ _ c.in_ok-up.ensures.notes.noted c.in_ok-up.ensures.opens.vouched c.scan.ensures.notes.kept c.scan.ensures.opens.reads stands in
          let bare = opened_bare _ c.args.core.now c.scan.new.self c.args.id.now _ _ c.in_ok-up.up c.open_scans.ensures.steps c.requires.begun c.in_ok-up.ensures.notes.noted c.in_ok-up.ensures.opens.names policies _ _ refl c.in_ok-up.ensures.opens.opened left stands in
          on_ok_weaker c.open_down-ended.result (λ v. subst (λ (m : Meaning). IsVouchedCore m c.open_down-ended.new.core) c.scan.ensures.opens.reads.meaning v)
          (c.open_down-ended.ensures.vouched next (bare_meant _ _ _ _ (sym c.scan.ensures.opens.reads.meaning) bare));
    }
