use Rattle.std.proofs.Common.{◌≡◌, ◌⊎◌, inl, inr, refl, sym, ap, ◌∙◌, subst, arith}
use Rattle.slate_types.specs.Faults.{faults_of}
use Rattle.slate_types.specs.Outside.{Act, AddsReads}
use Rattle.slate_types.proofs.Reaching.{adds_none}
use Rattle.slate_store.specs.Env.{changed_by}
use Rattle.slate_tables.specs.Finds.{reader_reach}
use Rattle.slate_tables.proofs.FindLaws.{may_open_adds, once_adds, opened_adds, reader_reads, reader_still, reads_add, same_faults, still_err, still_ok, store_err, store_still}
use Rattle.slate_tables.proofs.RunLaws.{goes_call, goes_err, goes_none, goes_ok, goes_reading, goes_then, goes_writing, sink_same, sink_told, store_told}
use Rattle.slate_tables.proofs.run.write_table.Goals as goal

pub returns-in-Ok : goal.returns-in-Ok
returns-in-Ok g c =
    let s = g.S.Store in
    let t = g.T.BlockTransformer in
    let k = g.W.Sink.faults in
    let old = c.args.reader.now in
    let a = reader_reach s t old in
    let i = k c.args.sink.now in
    let mid = c.open.new.self in
    let b = reader_reach s t mid in
    let d = reader_reach s t c.write_file-written.new.reader in
    let call = c.open.ensures in
    let faults = ap (faults_of t.faults) call.transformer in
    let reads = reader_reads s t old mid call.objects (ap (changed_by t.encoded) call.transformer) (ap (changed_by t.decoded) call.transformer) (opened_adds _ _ _ _ _ _ _ c.in-Ok.ensures.found) call.later (omega (arith, faults)) in
    let still = same_faults s t old mid (store_still c.in-Ok.file c.in-Ok.ensures.still) faults in
    goes_then a b d i i (k c.write_file-written.new.sink) c.in-Ok.file c.write_file-written.result (goes_reading a b i _ reads still) c.write_file-written.ensures

pub returns-in-Err : goal.returns-in-Err
returns-in-Err g c =
    let s = g.S.Store in
    let t = g.T.BlockTransformer in
    let k = g.W.Sink.faults in
    let old = c.args.reader.now in
    let a = reader_reach s t old in
    let i = k c.args.sink.now in
    let mid = c.open.new.self in
    let b = reader_reach s t mid in
    let call = c.open.ensures in
    let faults = ap (faults_of t.faults) call.transformer in
    let reads = reader_reads s t old mid call.objects (ap (changed_by t.encoded) call.transformer) (ap (changed_by t.decoded) call.transformer) (may_open_adds _ _ _ _ c.in-Err.ensures.calls) call.later (omega (arith, faults)) in
    goes_call s t old mid i _ reads (store_err c.in-Err.error c.in-Err.ensures.still) (inr faults)
