use Rattle.std.proofs.Common.{◌≡◌, [], ◌∷◌, None, Option, Some, ap, arith, map, refl, rules, subst, sym, true, ◌∙◌}
use Rattle.std.specs.Prelude.{IfErr, IfOk}
use Rattle.slate_types.specs.declared.filter_policy.FilterQuery.{FilterQuery}
use Rattle.slate_types.specs.Faults.{faults_of}
use Rattle.slate_types.specs.Outside.{Reach}
use Rattle.slate_types.proofs.Calls.{call_none}
use Rattle.slate_types.proofs.Reaching.{reads_of}
use Rattle.slate_store.specs.Reach.{reach_of}
use Rattle.slate_table.specs.SectionReading.{changed_by}
use Rattle.slate_db.specs.ScanFilters.{AsksOf, Covers, FailsAsking, IsLetIn}
use Rattle.slate_db.specs.Shown.{Asking}
use Rattle.slate_db.proofs.Checks.{checks_none}
use Rattle.slate_db.proofs.Filters.{IsAsking, asked_adds}
use Rattle.slate_db.proofs.RangeFilters.{out_of_reach}
use Rattle.slate_db.proofs.ScanFilters.{left_denied, left_let_in, left_refused}
use Rattle.slate_db.proofs.TableChecks.{filters_checked}
use Rattle.slate_types.proofs.StillLaws.{told_still}
use Rattle.slate_db.proofs.scan_filters.is_left.Goals as goal

pub returns-then-not-can_reach-clause-asks : goal.returns-then-not-can_reach-clause-asks
returns-then-not-can_reach-clause-asks g c = record {
  denied = λ rows os stored filtered answers no. out_of_reach (reach_of g.S.Store g.M.MergeOperator g.T.BlockTransformer c.args.env.now).meaning os c.args.table.now c.args.range.now rows stored (search rules);
  checked = λ rows os stored. checks_none os (reach_of g.S.Store g.M.MergeOperator g.T.BlockTransformer c.args.env.now);
  let_in = ([], call_none (reach_of g.S.Store g.M.MergeOperator g.T.BlockTransformer c.args.env.now), (tt, λ yes. cc));
}

pub returns-in_default-clause-asks : goal.returns-in_default-clause-asks
returns-in_default-clause-asks g c =
    let none : c.args.query.now ≡ None = search rules in
    record {
      denied = λ rows os stored filtered answers no. cc;
      checked = λ rows os stored. checks_none os (reach_of g.S.Store g.M.MergeOperator g.T.BlockTransformer c.args.env.now);
      let_in = ([], call_none (reach_of g.S.Store g.M.MergeOperator g.T.BlockTransformer c.args.env.now), (tt, λ yes asked is. let clash : None ≡ Some asked = sym none ∙ is in cc));
    }

pub returns : goal.returns
returns g c =
    let before : Reach = reach_of g.S.Store g.M.MergeOperator g.T.BlockTransformer c.args.env.now in
    let after : Reach = record before {
      objects = g.S.Store.objects c.might_match.new.store;
      acts = g.S.Store.acts c.might_match.new.store;
      meaning = record before.meaning { encode = changed_by g.T.BlockTransformer.encoded c.might_match.new.transformer; decode = changed_by g.T.BlockTransformer.decoded c.might_match.new.transformer };
      faults = record before.faults { store = g.S.Store.faults c.might_match.new.store; transformer = faults_of g.T.BlockTransformer.faults c.might_match.new.transformer };
    } in
    let asking : Asking = record { policies = map (λ p. (goal.FilterPolicy-dyn g (p.vtable, p.value)).meaning p.value) c.args.policies.now; query = c.in-Some.query } in
    let known : IsAsking asking c.args.table.now before after c.might_match.result = record {
      objects = c.might_match.ensures.objects;
      combine = refl;
      encode = c.might_match.ensures.same_encoded;
      decode = c.might_match.ensures.same_decoded;
      none = λ no. let n = c.might_match.ensures.none no in (n.0, ap g.S.Store.acts n.1);
      asked = c.might_match.ensures.asked;
      cause = c.might_match.ensures.cause;
      once = c.might_match.ensures.once;
    } in
    let asked : c.args.query.now ≡ Some c.in-Some.query = search rules in
    let matches = subst (λ (q : Option FilterQuery). Covers q c.args.range.now) asked c.requires in
    record {
      asks = record {
        denied = λ rows os stored filtered answers. left_denied asking c.args.table.now before after c.might_match.result c.args.range.now rows os known matches stored filtered answers;
        checked = λ rows os stored. filters_checked asking c.args.table.now before after c.might_match.result rows os known stored;
        let_in = subst (λ (q : Option FilterQuery). IfOk c.might_match.result (λ passes. AsksOf (c.args.table.now ∷ []) before after (λ reads. passes ≡ true → IsLetIn before.meaning.decode asking.policies q c.args.table.now reads))) (sym asked) (left_let_in asking c.args.table.now before after c.might_match.result known);
      };
      refused = subst (λ (q : Option FilterQuery). IfErr c.might_match.result (FailsAsking asking.policies q before after (c.args.table.now ∷ []))) (sym asked) (left_refused asking c.args.table.now before after c.might_match.result c.args.range.now known matches);
      reads = reads_of _ _ c.might_match.ensures.objects refl c.might_match.ensures.same_encoded c.might_match.ensures.same_decoded
          (asked_adds _ _ _ _ _ _ _ _ c.might_match.result (λ no. let n = c.might_match.ensures.none no in (n.0, ap g.S.Store.acts n.1)) c.might_match.ensures.asked c.might_match.ensures.once)
          (record { store = c.might_match.ensures.later; operator = omega arith; transformer = c.might_match.ensures.later_transformer }) refl;
      still = told_still before.faults after.faults c.might_match.result refl c.might_match.ensures.still c.might_match.ensures.still_transformer;
    }
