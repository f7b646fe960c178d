use Rattle.std.proofs.Common.{◌≡◌, ◌⊎◌, inl, inr, refl, sym, ap, ◌∙◌, subst, arith}
use Rattle.slate_types.specs.Faults.{faults_of}
use Rattle.slate_types.specs.Outside.{Act, AddsReads}
use Rattle.slate_types.proofs.Reaching.{adds_none}
use Rattle.slate_store.specs.Env.{changed_by}
use Rattle.slate_tables.specs.Finds.{reader_reach}
use Rattle.slate_tables.proofs.FindLaws.{may_open_adds, once_adds, opened_adds, reader_reads, reader_still, reads_add, still_err, still_ok, store_err, store_still}
use Rattle.slate_tables.proofs.RunLaws.{goes_err, goes_none, goes_ok, goes_reading, goes_refused, goes_then, goes_writing, sink_same, sink_told, store_told}
use Rattle.slate_tables.proofs.run.show_rows.Goals as goal

pub returns-in-Ok : goal.returns-in-Ok
returns-in-Ok g c =
    let s = g.S.Store in
    let t = g.T.BlockTransformer in
    let k = g.W.Sink.faults in
    let old = c.args.reader.now in
    let a = reader_reach s t old in
    let i = k c.args.sink.now in
    let mid = c.check_table.new.reader in
    let b = reader_reach s t mid in
    let d = reader_reach s t c.rows_of_checked.new.reader in
    goes_then a b d i i (k c.rows_of_checked.new.sink) c.in-Ok.checked c.rows_of_checked.result (goes_reading a b i _ c.check_table.ensures.reads c.in-Ok.ensures.counts) c.rows_of_checked.ensures

pub returns-in-Err : goal.returns-in-Err
returns-in-Err g c =
    let reach = reader_reach g.S.Store g.T.BlockTransformer in
    goes_refused (reach c.args.reader.now) (reach c.check_table.new.reader) (g.W.Sink.faults c.args.sink.now) c.in-Err.error c.check_table.ensures.reads c.in-Err.ensures.counts
