use Rattle.std.proofs.Common.{ap, arith, map, refl}
use Rattle.slate_types.specs.Faults.{faults_of}
use Rattle.slate_types.specs.Outside.{Reach}
use Rattle.slate_types.proofs.Reaching.{reads_of}
use Rattle.slate_store.specs.Reach.{reach_of}
use Rattle.slate_table.specs.SectionReading.{changed_by}
use Rattle.slate_db.specs.Shown.{Asking}
use Rattle.slate_db.proofs.Filters.{IsAsking, asked_adds, asked_alone, asked_cause, asked_denied, asked_passes, asked_whole}
use Rattle.slate_db.proofs.TableChecks.{filters_checked}
use Rattle.slate_types.proofs.StillLaws.{told_still}
use Rattle.slate_db.proofs.lookup.lets_through.Goals as goal

pub returns : goal.returns
returns g c =
    let before : Reach = reach_of g.S.Store g.M.MergeOperator g.T.BlockTransformer c.args.env.now in
    let after : Reach = record before {
      objects = g.S.Store.objects c.might_match.new.store;
      acts = g.S.Store.acts c.might_match.new.store;
      meaning = record before.meaning { encode = changed_by g.T.BlockTransformer.encoded c.might_match.new.transformer; decode = changed_by g.T.BlockTransformer.decoded c.might_match.new.transformer };
      faults = record before.faults { store = g.S.Store.faults c.might_match.new.store; transformer = faults_of g.T.BlockTransformer.faults c.might_match.new.transformer };
    } in
    let asking : Asking = record { policies = map (λ p. (goal.FilterPolicy-dyn g (p.vtable, p.value)).meaning p.value) c.args.policies.now; query = c.args.query.now } in
    let known : IsAsking asking c.args.table.now before after c.might_match.result = record {
      objects = c.might_match.ensures.objects;
      combine = refl;
      encode = c.might_match.ensures.same_encoded;
      decode = c.might_match.ensures.same_decoded;
      none = λ no. let n = c.might_match.ensures.none no in (n.0, ap g.S.Store.acts n.1);
      asked = c.might_match.ensures.asked;
      cause = c.might_match.ensures.cause;
      once = c.might_match.ensures.once;
    } in
    record {
      denied = λ key rows os target stored filtered answers. asked_denied asking c.args.table.now before after c.might_match.result key rows os known target stored filtered answers;
      whole = λ key rows os target stored filtered answers. asked_whole asking c.args.table.now before after c.might_match.result key rows os known target stored filtered answers;
      passes = asked_passes asking c.args.table.now before after c.might_match.result known;
      cause = asked_cause asking c.args.table.now before after c.might_match.result known;
      checked = λ rows os stored. filters_checked asking c.args.table.now before after c.might_match.result rows os known stored;
      alone = asked_alone asking c.args.table.now before after c.might_match.result known;
      reads = reads_of _ _ c.might_match.ensures.objects refl c.might_match.ensures.same_encoded c.might_match.ensures.same_decoded
          (asked_adds _ _ _ _ _ _ _ _ c.might_match.result (λ no. let n = c.might_match.ensures.none no in (n.0, ap g.S.Store.acts n.1)) c.might_match.ensures.asked c.might_match.ensures.once)
          (record { store = c.might_match.ensures.later; operator = omega arith; transformer = c.might_match.ensures.later_transformer }) refl;
      still = told_still before.faults after.faults c.might_match.result refl c.might_match.ensures.still c.might_match.ensures.still_transformer;
    }
