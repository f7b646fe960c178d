use Rattle.std.proofs.Common.{refl, arith, ◌≤◌, length}
use Rattle.slate_table.specs.IndexValue.{entries_of}
use Rattle.slate_read.specs.TableWalk.{max_blocks, path_in}
use Rattle.std.proofs.lemmas.Result.{IfOk-weaker}
use Rattle.slate_types.specs.Faults.{faults_of}
use Rattle.slate_types.proofs.Exits.{if_err_on}
use Rattle.slate_types.proofs.StillLaws.{told_still}
use Rattle.slate_store.specs.Reach.{reach_of}
use Rattle.slate_read.proofs.Openings.{index_opened, index_read_only, index_refused, meaning_of}
use Rattle.slate_read.proofs.Withins.{asked_within}
use Rattle.slate_read.proofs.table_walk.open_index.Goals as goal

pub returns : goal.returns
unfolding path_in
returns g c =
    let e = c.read_index.ensures in
    record {
      found = IfOk-weaker c.read_index.result _ _ (λ index r. index_opened _ _ c.args.table.now (entries_of index) e.objects (meaning_of _ _ refl e.same_encoded e.same_decoded) r) e.found;
      few = IfOk-weaker c.read_index.result _ (λ index. length (entries_of index) ≤ max_blocks) (λ index r. let few = r.2.2.few in omega (arith, few)) e.found;
      cause = if_err_on c.read_index.result _ _ _ (λ x r once. index_refused _ _ c.args.table.now x e.objects (meaning_of _ _ refl e.same_encoded e.same_decoded) r once) e.cause e.once;
      within = λ paths here. asked_within c.read_index.result paths _ _ _ _ _ _ here e.objects (meaning_of _ _ refl e.same_encoded e.same_decoded) e.found e.once;
      reads = index_read_only c.read_index.result _ _ _ _ _ _ e.objects (meaning_of _ _ refl e.same_encoded e.same_decoded) e.found e.once (record { store = e.later; operator = omega arith; transformer = e.later_transformer }) refl;
      counts = told_still (reach_of g.S.Store g.M.MergeOperator g.T.BlockTransformer c.args.env.now).faults (record (reach_of g.S.Store g.M.MergeOperator g.T.BlockTransformer c.args.env.now).faults { store = g.S.Store.faults c.read_index.new.store; transformer = faults_of g.T.BlockTransformer.faults c.read_index.new.transformer }) c.read_index.result refl e.still e.still_transformer;
    }
