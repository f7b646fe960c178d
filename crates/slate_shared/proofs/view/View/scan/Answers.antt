use Rattle.std.proofs.Common.{◌≡◌, ℕ, List, [], map, Option, true, false, refl, sym, ap, subst, ◌∙◌}
use Rattle.std.specs.Prelude.{Err, IfOk, Ok, Result}
use Rattle.std.proofs.lemmas.Result.{IfOk-from_err, err_from_is_err_and}
use Rattle.slate_types.specs.declared.bytes_range.BytesRange.{BytesRange}
use Rattle.slate_types.specs.declared.error.SlateDBError.{SlateDBError}
use Rattle.slate_types.specs.declared.filter_policy.FilterQuery.{FilterQuery}
use Rattle.slate_types.specs.declared.iter.IterationOrder.{IterationOrder}
use Rattle.slate_types.specs.Keys.{in_range, is_refused}
use Rattle.slate_types.proofs.Reaching.{reads_none}
use Rattle.slate_store.specs.Reach.{reach_of}
use Rattle.slate_filter.specs.Policy.{Policy}
use Rattle.slate_txn.specs.Step.{tx_reader}
use Rattle.slate_db.specs.declared.scan.DbIterator.{DbIterator}
use Rattle.slate_db.specs.Model.{CoreModel}
use Rattle.slate_db.specs.OpenScans.{HasRows}
use Rattle.slate_db.specs.RangeShares.{IsOpened, IsPart, IsRangeShare}
use Rattle.slate_db.specs.Scanned.{HasOwn}
use Rattle.slate_db.specs.ScanFilters.{scan_query}
use Rattle.slate_shared.specs.Passes.{Opened}
use Rattle.slate_shared.specs.Viewed.{IsViewed, ViewModel}
use Rattle.slate_shared.proofs.ScanReads.{ranged_as}
use Rattle.slate_shared.proofs.Views.{scan_memory, view_opened, view_reads}
use Rattle.slate_shared.proofs.view.View.scan.Goals as goal
use Rattle.slate_shared.proofs.view.View.scan.Given as given

pub opened-requires-clause-prefix : goal.opened-requires-clause-prefix
opened-requires-clause-prefix g c p k is within = c.requires.prefix p k (sym c.in_ok-how.ensures.prefix ∙ is) within

pub returns-then-leaves_none : goal.returns-then-leaves_none
returns-then-leaves_none g c = record {
  opened = λ fits. let never : true ≡ false = sym c.if-leaves_none.true ∙ c.leaves_none.ensures ∙ fits in absurd cc;
  invalid = λ is. (refl, refl);
  range = tt;
  reads = reads_none _;
}

pub returns-in_err-how : goal.returns-in_err-how
returns-in_err-how g c =
    let p = err_from_is_err_and c.from_residual.result c.from_residual.ensures.1 in
    record {
      opened = λ fits t seen v is.
          scan_memory g.P.Parts.options g.P.Parts.meaning t seen (reach_of g.S.Store g.M.MergeOperator g.T.BlockTransformer c.args.env.now) v c.args.self.now is g.P.Parts.policies (scan_query c.args.range c.args.prefix c.args.options.now.filter_context) c.args.range c.args.options.now.order
          c.from_residual.result (p.1 ∙ ap (λ e. Err e) (p.2 ∙ c.in_err-how.ensures.cause));
      invalid = λ is. let never : true ≡ false = sym is ∙ sym c.leaves_none.ensures ∙ c.if-leaves_none.false in absurd cc;
      range = IfOk-from_err c.from_residual.result _ c.from_residual.ensures.0;
      reads = reads_none _;
    }

pub returns-in_err-own : goal.returns-in_err-own
returns-in_err-own g c =
    let p = err_from_is_err_and c.from_residual-in_err-own.result c.from_residual-in_err-own.ensures.1 in
    record {
      opened = λ fits t seen v is.
          scan_memory g.P.Parts.options g.P.Parts.meaning t seen (reach_of g.S.Store g.M.MergeOperator g.T.BlockTransformer c.args.env.now) v c.args.self.now is g.P.Parts.policies (scan_query c.args.range c.args.prefix c.args.options.now.filter_context) c.args.range c.args.options.now.order
          c.from_residual-in_err-own.result (p.1 ∙ ap (λ e. Err e) (p.2 ∙ c.in_err-own.ensures.cause));
      invalid = λ is. let never : true ≡ false = sym is ∙ sym c.leaves_none.ensures ∙ c.if-leaves_none.false in absurd cc;
      range = IfOk-from_err c.from_residual-in_err-own.result _ c.from_residual-in_err-own.ensures.0;
      reads = reads_none _;
    }

-- of the options, the prefix and the policies that were given
opened_as : (g : given.Over) (c : goal.After-opened g) (v : CoreModel) (t : Opened) →
    IsOpened (map (λ p. (goal.FilterPolicy-dyn g (p.vtable, p.value)).meaning p.value) c.as_slice.result.now) (scan_query c.args.range c.in_ok-how.how.prefix c.in_ok-how.how.filter_context) (reach_of g.S.Store g.M.MergeOperator g.T.BlockTransformer c.args.env.now) (reach_of g.S.Store g.M.MergeOperator g.T.BlockTransformer c.opened.new.env) v c.self.inside.begin t.tx.ops c.args.range c.in_ok-how.how.order c.opened.result →
    IsOpened g.P.Parts.policies (scan_query c.args.range c.args.prefix c.args.options.now.filter_context) (reach_of g.S.Store g.M.MergeOperator g.T.BlockTransformer c.args.env.now) (reach_of g.S.Store g.M.MergeOperator g.T.BlockTransformer c.opened.new.env) v c.args.self.now.begin t.tx.ops c.args.range c.args.options.now.order c.opened.result
opened_as g c v t h =
    let how = c.in_ok-how.ensures in
    let policies = ap (map (λ p. (goal.FilterPolicy-dyn g (p.vtable, p.value)).meaning p.value)) c.as_slice.ensures.value ∙ c.requires.laws.policies in
    subst (λ (x : List Policy × (Option FilterQuery × (ℕ × IterationOrder))). IsOpened x.0 x.1.0 (reach_of g.S.Store g.M.MergeOperator g.T.BlockTransformer c.args.env.now) (reach_of g.S.Store g.M.MergeOperator g.T.BlockTransformer c.opened.new.env) v x.1.1.0 t.tx.ops c.args.range x.1.1.1 c.opened.result)
    (λ i. (policies i, (scan_query c.args.range (how.prefix i) (how.context i), ((c.self.view_is i).begin, how.order i)))) h

pub returns : goal.returns
returns g c =
    let before = reach_of g.S.Store g.M.MergeOperator g.T.BlockTransformer c.args.env.now in
    let after = reach_of g.S.Store g.M.MergeOperator g.T.BlockTransformer c.opened.new.env in
    let how = c.in_ok-how.ensures in
    record {
      opened = λ fits t seen v is.
          view_opened g.P.Parts.options g.P.Parts.meaning t seen before after c.requires.meaning v c.args.self.now is g.P.Parts.policies (scan_query c.args.range c.args.prefix c.args.options.now.filter_context) c.args.range c.args.options.now.order c.opened.result
          (opened_as g c v t
          (c.opened.ensures.opened v c.self.inside.range t.id (tx_reader t.tx) (subst (λ (x : ViewModel). IsRangeShare v x.range x.begin x.share) (sym c.self.view_is) is.taken) (subst (λ (x : ViewModel). IsPart c.args.range x.range) (sym c.self.view_is) c.requires.part)
          (view_reads g.P.Parts.options g.P.Parts.meaning t seen before after c.requires.meaning v c.args.self.now is c.args.range c.in_ok-how.how.order c.in_ok-own.own (subst (λ (order : IterationOrder). HasRows order (HasOwn c.args.range []) c.in_ok-own.own) (sym how.order) c.in_ok-own.ensures.none))));
      invalid = λ is. let never : true ≡ false = sym is ∙ sym c.leaves_none.ensures ∙ c.if-leaves_none.false in absurd cc;
      range = ranged_as c.opened.result c.args.range c.in_ok-how.how.order c.args.options.now.order how.order c.opened.ensures.range c.opened.ensures.order;
      reads = c.opened.ensures.reads;
    }
