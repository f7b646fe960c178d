use Rattle.slate_types.specs.Keys.{prefix_range}
use Rattle.slate_types.proofs.KeyLaws.{whole_subrange}
use Rattle.std.proofs.Common.{[]}
use Rattle.slate_shared_tests.proofs.Scanning.{scan_open, scan_same}
use Rattle.slate_shared_tests.proofs.scans.scan.Goals as goal

pub returns : goal.returns
returns g c =
    let old = c.args.txn.now in
    let new = c.scan_with_options.new.self in
    let range = prefix_range [] in
    let a = c.scan_with_options.result in
    let h = c.scan_with_options.ensures.opened range (whole_subrange []) in
    record {
      same = scan_same old new c.args.order range a h.noted h.unnoted;
      within = scan_open old new c.args.order range a c.ok.result c.ok.ensures.value h.noted h.names;
    }
