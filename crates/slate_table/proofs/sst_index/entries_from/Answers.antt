use Rattle.std.proofs.Common.{None, inr, map, subst, sym}
use Rattle.std.specs.Prelude.{option_map}
use Rattle.std.specs.List.{AllByRecursion}
use Rattle.std.proofs.lemmas.Result.{err_from_is_err_and, IfOk-from_err}
use Rattle.slate_types.proofs.Lists.{AllByRecursion_push}
use Rattle.slate_table.specs.IndexReading.{borrowed_entry, entries_from, entry_in, LiesIn}
use Rattle.slate_table.proofs.IndexReads.{entry_pushed, goes_on, stops, is_done}
use Rattle.slate_table.proofs.sst_index.entries_from.Goals as goal

pub returns-in_err-place : goal.returns-in_err-place
returns-in_err-place c =
    let p = err_from_is_err_and c.from_residual.result c.from_residual.ensures.1 in
    let bytes = c.args.bytes.now in
    record {
      found = IfOk-from_err c.from_residual.result _ c.from_residual.ensures.0;
      within = IfOk-from_err c.from_residual.result _ c.from_residual.ensures.0;
      cause = (rw (p.1, p.2)
          (inr (stops c.in_err-place.field-0.0 (map (entry_in bytes) c.loop.places.items) c.args.count c.loop.counter c.args.end (option_map borrowed_entry c.loop.last) bytes c.loop.at
          (entries_from c.args.count c.args.end None bytes c.args.at) c.loop-test.true c.in_err-place.ensures.cause c.loop.invariant.read)));
    }

pub loop-preserved : goal.loop-preserved
loop-preserved c =
    let bytes = c.args.bytes.now in
    let place = c.in_ok-place.place in
    record {
      within = c.in_ok-place.ensures.within.1;
      places = subst (AllByRecursion (LiesIn bytes)) (sym c.in_ok-push.ensures.items) (AllByRecursion_push (LiesIn bytes) c.loop.places.items place c.loop.invariant.places c.in_ok-place.ensures.within);
      read = (rw (entry_pushed bytes c.loop.places.items _ place c.in_ok-push.ensures.items, c.separator_at.ensures)
          (goes_on (map (entry_in bytes) c.loop.places.items) c.args.count c.loop.counter c.args.end (option_map borrowed_entry c.loop.last) bytes c.loop.at (entry_in bytes place) place.end
          (entries_from c.args.count c.args.end None bytes c.args.at) c.loop-test.true c.in_ok-place.ensures.found c.loop.invariant.read));
    }

pub returns : goal.returns
returns c =
    let bytes = c.args.bytes.now in
    record {
      found = (is_done (map (entry_in bytes) c.loop.places.items) c.args.count c.loop.counter c.args.end (option_map borrowed_entry c.loop.last) bytes c.loop.at
          (entries_from c.args.count c.args.end None bytes c.args.at) c.loop-test.false c.loop.invariant.read);
      within = c.loop.invariant.places;
      cause = tt;
    }
