use Rattle.std.proofs.Common.{◌≡◌, ◌⊎◌, inl, inr, refl, sym, ap, ◌∙◌, subst, arith}
use Rattle.slate_types.specs.Faults.{faults_of}
use Rattle.slate_types.specs.Outside.{Act, AddsReads}
use Rattle.slate_types.proofs.Reaching.{adds_none}
use Rattle.slate_store.specs.Env.{changed_by}
use Rattle.slate_tables.specs.Finds.{reader_reach}
use Rattle.slate_tables.proofs.FindLaws.{may_open_adds, once_adds, opened_adds, reader_reads, reader_still, reads_add, still_err, still_ok, store_err, store_still}
use Rattle.slate_tables.proofs.RunLaws.{goes_err, goes_none, goes_ok, goes_reading, goes_then, goes_writing, sink_same, sink_told, store_told}
use Rattle.slate_tables.proofs.run.rows_of_checked.Goals as goal

pub returns-in-Whole : goal.returns-in-Whole
returns-in-Whole g c = c.write_table.ensures

pub returns-in-Damaged : goal.returns-in-Damaged
returns-in-Damaged g c =
    let s = g.S.Store in
    let t = g.T.BlockTransformer in
    let k = g.W.Sink.faults in
    let old = c.args.reader.now in
    let a = reader_reach s t old in
    let i = k c.args.sink.now in
    goes_writing a i (k c.write_flaw.new.sink) c.write_flaw.result c.write_flaw.ensures
