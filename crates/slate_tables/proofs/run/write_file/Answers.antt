use Rattle.std.proofs.Common.{◌≡◌, ◌⊎◌, inl, inr, refl, sym, ap, ◌∙◌, subst, arith}
use Rattle.slate_types.specs.Faults.{faults_of}
use Rattle.slate_types.specs.Outside.{Act, AddsReads}
use Rattle.slate_types.proofs.Reaching.{adds_none}
use Rattle.slate_store.specs.Env.{changed_by}
use Rattle.slate_tables.specs.Finds.{reader_reach}
use Rattle.slate_tables.proofs.FindLaws.{may_open_adds, once_adds, opened_adds, reader_reads, reader_still, reads_add, same_faults, still_err, still_ok, store_err, store_still}
use Rattle.slate_tables.proofs.RunLaws.{goes_call, goes_err, goes_none, goes_ok, goes_reading, goes_then, goes_writing, sink_same, sink_told, store_told}
use Rattle.slate_tables.proofs.run.write_file.Goals as goal

pub returns-in-Ok : goal.returns-in-Ok
returns-in-Ok g c =
    let s = g.S.Store in
    let t = g.T.BlockTransformer in
    let k = g.W.Sink.faults in
    let old = c.args.reader.now in
    let a = reader_reach s t old in
    let i = k c.args.sink.now in
    let mid = c.index.new.reader in
    let b = reader_reach s t mid in
    let d = reader_reach s t c.write_blocks-written.new.reader in
    let call = c.index.ensures in
    let reads = reader_reads s t old mid call.objects call.same_encoded call.same_decoded (reads_add _ _ _ _ _ _ _ c.in-Ok.ensures.found) call.later call.later_transformer in
    let still = same_faults s t old mid (store_still c.in-Ok.index c.in-Ok.ensures.still) (still_ok c.in-Ok.index c.in-Ok.ensures.still_transformer) in
    goes_then a b d i i (k c.write_blocks-written.new.sink) c.in-Ok.index c.write_blocks-written.result (goes_reading a b i _ reads still) c.write_blocks-written.ensures

pub returns-in-Err : goal.returns-in-Err
returns-in-Err g c =
    let s = g.S.Store in
    let t = g.T.BlockTransformer in
    let k = g.W.Sink.faults in
    let old = c.args.reader.now in
    let a = reader_reach s t old in
    let i = k c.args.sink.now in
    let mid = c.index.new.reader in
    let b = reader_reach s t mid in
    let call = c.index.ensures in
    let reads = reader_reads s t old mid call.objects call.same_encoded call.same_decoded (once_adds _ _ _ _ _ _ _ c.in-Err.ensures.once) call.later call.later_transformer in
    goes_call s t old mid i _ reads (store_err c.in-Err.error c.in-Err.ensures.still) (still_err c.in-Err.error c.in-Err.ensures.still_transformer)
