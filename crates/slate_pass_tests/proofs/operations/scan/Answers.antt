use Rattle.slate_types.specs.Keys.{prefix_range}
use Rattle.slate_types.specs.declared.iter.IterationOrder.TheVariants.{Ascending}
use Rattle.slate_types.proofs.KeyLaws.{whole_subrange}
use Rattle.std.proofs.Common.{[]}
use Rattle.slate_pass_tests.proofs.Scanning.{scan_open, scan_same}
use Rattle.slate_pass_tests.proofs.operations.scan.Goals as goal

pub returns : goal.returns
returns g c =
    let old = c.args.txn.now in
    let new = c.scan.new.self in
    let range = prefix_range [] in
    let a = c.scan.result in
    let h = c.scan.ensures.opened range (whole_subrange []) in
    record {
      same = scan_same old new Ascending range a h.noted h.unnoted;
      within = scan_open old new Ascending range a c.ok.result c.ok.ensures.value h.noted h.names;
    }
