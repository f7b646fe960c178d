use Rattle.std.proofs.Common.{ap}
use Rattle.slate_merge.specs.declared.filter_iterator.MaxSeq.{MaxSeq}
use Rattle.slate_db.proofs.SourceLists.{all_sources, own_is}
use Rattle.slate_db.proofs.open_scan.scan_sources.Goals as goal

pub returns-clause-sources : goal.returns-clause-sources
returns-clause-sources g c ops has =
    let range = c.args.range.now in
    let order = c.args.options.now.order in
    let n = c.args.begin in
    all_sources range order n ops _ _ c.in_ok-own.own c.new-sources.result.items c.push.new.self.items c.append.new.self.items c.append-2.new.self.items c.in_ok-memory.memory.items c.in_ok-runs.runs.items
    c.new-sources.ensures.items c.in_ok-push.ensures.items c.in_ok-append.ensures.items c.in_ok-append-2.ensures.items
    (own_is range order ops c.args.own c.in_ok-own.own c.in_ok-own.ensures.iterator (ap (λ (p : MaxSeq). p.max_seq) c.in_ok-own.ensures.predicate) has)
    c.in_ok-memory.ensures.each
    c.in_ok-runs.ensures.each
