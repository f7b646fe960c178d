use Rattle.std.proofs.Common.{refl, arith, Ok, Err, ap}
use Rattle.std.proofs.lemmas.Result.{err_from_is_err_and, on_ok_weaker, IfErr-weaker}
use Rattle.slate_types.specs.Faults.{faults_of}
use Rattle.slate_types.specs.Outside.{unblamed_by}
use Rattle.slate_types.proofs.Calls.{only_reads}
use Rattle.slate_types.proofs.StillLaws.{told_still}
use Rattle.slate_store.specs.Reach.{reach_of}
use Rattle.slate_table.specs.IndexValue.{entries_of}
use Rattle.slate_read.specs.TableWalk.{path_in}
use Rattle.slate_read.proofs.Fetches.{blocks_fetched, blocks_refused, blocks_unkept}
use Rattle.slate_read.proofs.Openings.{call_once, meaning_of}
use Rattle.slate_read.proofs.ReadAhead.{next_within}
use Rattle.slate_read.proofs.Withins.{once_within, read_within}
use Rattle.slate_read.proofs.table_state.Cursor.read_ahead.Goals as goal

pub returns-in_err-found : goal.returns-in_err-found
unfolding path_in
returns-in_err-found g c =
    let p = err_from_is_err_and c.from_residual.result c.from_residual.ensures.1 in
    let e = c.in_err-found.ensures in
    let from = c.next_fetch-blocks.result.start in
    let upto = c.next_fetch-blocks.result.end in
    record {
      fetched = rw p.1 tt;
      cause = rw (p.1, p.2) (blocks_refused _ _ c.args.table.now (entries_of c.args.self.now.index) from upto c.args.order c.in_err-found.field-0.0 e.objects (meaning_of _ _ refl e.same_encoded e.same_decoded)
          (next_within c.args.order c.args.self.now from upto c.next_fetch-blocks.ensures.next) e.once e.cause);
      within = λ paths here. once_within paths _ _ _ _ _ here e.objects (meaning_of _ _ refl e.same_encoded e.same_decoded) e.once;
      reads = only_reads _ _ _ (call_once _ _ _ _ _ e.objects (meaning_of _ _ refl e.same_encoded e.same_decoded) e.once).1 (record { store = e.later; operator = omega arith; transformer = e.later_transformer }) refl;
      counts = rw (p.1, p.2) (told_still (reach_of g.S.Store g.M.MergeOperator g.T.BlockTransformer c.args.env.now).faults (record (reach_of g.S.Store g.M.MergeOperator g.T.BlockTransformer c.args.env.now).faults { store = g.S.Store.faults c.read_blocks.new.store; transformer = faults_of g.T.BlockTransformer.faults c.read_blocks.new.transformer }) (Err c.in_err-found.field-0.0) refl e.still e.still_transformer);
    }

pub returns : goal.returns
unfolding path_in
returns g c =
    let e = c.in_ok-found.ensures in
    let k = c.put_ready.ensures in
    let from = c.next_fetch-blocks.result.start in
    let upto = c.next_fetch-blocks.result.end in
    let blocks = c.in_ok-found.found.items in
    let made = blocks_fetched _ _ c.args.table.now (entries_of c.args.self.now.index) from upto blocks e.objects (meaning_of _ _ refl e.same_encoded e.same_decoded) e.count (e.found c.next_fetch-blocks.ensures.some) in
    record {
      fetched = on_ok_weaker c.put_ready.result (λ ready. (
        made.0,
        made.1,
        record { index = k.index; first = k.first; stop = k.stop; rows = k.rows; from = from; upto = upto; next = c.next_fetch-blocks.ensures; blocks = blocks; ready = ready; fetched = made.2 },
      )) k.ready;
      cause = IfErr-weaker c.put_ready.result _ _ (λ x m. blocks_unkept _ _ c.args.table.now (entries_of c.args.self.now.index) from upto blocks c.args.order x made m) k.cause;
      within = λ paths here. read_within paths _ _ _ _ _ _ here e.objects (meaning_of _ _ refl e.same_encoded e.same_decoded) (e.found c.next_fetch-blocks.ensures.some);
      reads = only_reads _ _ _ made.1 (record { store = e.later; operator = omega arith; transformer = e.later_transformer }) refl;
      counts = ap (unblamed_by c.put_ready.result) (told_still (reach_of g.S.Store g.M.MergeOperator g.T.BlockTransformer c.args.env.now).faults (record (reach_of g.S.Store g.M.MergeOperator g.T.BlockTransformer c.args.env.now).faults { store = g.S.Store.faults c.read_blocks.new.store; transformer = faults_of g.T.BlockTransformer.faults c.read_blocks.new.transformer }) (Ok c.in_ok-found.found) refl e.still e.still_transformer);
    }
