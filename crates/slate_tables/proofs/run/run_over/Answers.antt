use Rattle.std.proofs.Common.{◌≡◌, ◌⊎◌, inl, inr, refl, sym, ap, ◌∙◌, subst, arith}
use Rattle.slate_types.specs.Faults.{faults_of}
use Rattle.slate_types.specs.Outside.{Act, AddsReads}
use Rattle.slate_types.proofs.Reaching.{adds_none}
use Rattle.slate_store.specs.Env.{changed_by}
use Rattle.slate_tables.specs.Finds.{reader_reach}
use Rattle.slate_tables.proofs.FindLaws.{may_open_adds, once_adds, opened_adds, reader_reads, reader_still, reads_add, still_err, still_ok, store_err, store_still}
use Rattle.slate_tables.proofs.RunLaws.{goes_err, goes_none, goes_ok, goes_reading, goes_then, goes_writing, sink_same, sink_told, store_told}
use Rattle.slate_tables.proofs.run.run_over.Goals as goal

pub returns-in-Ok : goal.returns-in-Ok
returns-in-Ok g c =
    let s = g.S.Store in
    let t = g.T.BlockTransformer in
    let k = g.W.Sink.faults in
    let old = c.args.reader.now in
    let a = reader_reach s t old in
    let i = k c.args.sink.now in
    let b = reader_reach s t c.run_each.new.reader in
    let j = k c.run_each.new.sink in
    let l = k c.write_end.new.sink in
    goes_then a b b i j l c.in-Ok.found c.write_end.result c.in-Ok.ensures (goes_writing b j l c.write_end.result c.write_end.ensures)

pub returns-in-Err : goal.returns-in-Err
returns-in-Err g c = c.in-Err.ensures
