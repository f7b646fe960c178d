use Rattle.std.proofs.Common.{◌≡◌, ◌⊎◌, inl, inr, refl, sym, ap, ◌∙◌, subst, arith}
use Rattle.slate_types.specs.Faults.{faults_of}
use Rattle.slate_types.specs.Outside.{Counts}
use Rattle.slate_types.proofs.Reaching.{adds_none}
use Rattle.slate_store.specs.Env.{changed_by}
use Rattle.slate_tables.specs.Finds.{reader_reach}
use Rattle.slate_tables.proofs.FindLaws.{may_open_adds, once_adds, opened_adds, reader_reads, reader_still, reads_add, still_err, still_ok, store_err, store_still}
use Rattle.slate_tables.proofs.RunLaws.{goes_err, goes_none, goes_ok, goes_reading, goes_then, goes_writing, sink_same, sink_told, store_told}
use Rattle.slate_tables.proofs.run.run_to_end.Goals as goal

pub returns-in-Ok : goal.returns-in-Ok
returns-in-Ok g c =
    let s = g.S.Store in
    let t = g.T.BlockTransformer in
    let k = g.W.Sink.faults in
    let old = c.args.reader.now in
    let a = reader_reach s t old in
    let i = k c.args.sink.now in
    let b = reader_reach s t c.run_mode.new.reader in
    let h = c.in-Ok.ensures in
    record {
      objects = h.reads.objects;
      acts = h.reads.acts;
      store = inr (ap (λ (x : Counts). x.store) h.counts);
      sink = inr (sink_same i (k c.run_mode.new.sink) c.in-Ok.found h.sink);
    }

pub returns-in-Err : goal.returns-in-Err
returns-in-Err g c =
    let s = g.S.Store in
    let t = g.T.BlockTransformer in
    let k = g.W.Sink.faults in
    let old = c.args.reader.now in
    let a = reader_reach s t old in
    let i = k c.args.sink.now in
    let b = reader_reach s t c.run_mode.new.reader in
    let h = c.in-Err.ensures in
    record {
      objects = h.reads.objects;
      acts = h.reads.acts;
      store = store_told a.faults b.faults c.in-Err.error c.status_of-status.result c.status_of-status.ensures h.counts;
      sink = sink_told i (k c.run_mode.new.sink) c.in-Err.error c.status_of-status.result c.status_of-status.ensures h.sink;
    }
