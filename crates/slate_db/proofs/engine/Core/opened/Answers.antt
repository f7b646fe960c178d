use Rattle.std.proofs.Common.{inl, ◌≡◌, ℕ, List, Some, map, ap, sym, subst, ◌∙◌, refl}
use Rattle.std.proofs.lemmas.Result.{IfOk-from_err, err_from_is_err_and}
use Rattle.slate_types.specs.Outside.{IsFault}
use Rattle.slate_types.proofs.Exits.{err_exit}
use Rattle.slate_types.proofs.Reaching.{reads_none}
use Rattle.slate_store.specs.Reach.{reach_of}
use Rattle.slate_mem.specs.Table.{MemTableModel}
use Rattle.slate_txn.specs.Step.{Reader, reader}
use Rattle.slate_txn.proofs.NamedLaws.{open_is}
use Rattle.slate_db.specs.Model.{CoreModel, Rows}
use Rattle.slate_db.specs.RangeShares.{HasUpto, IsReaderOf, StandsIn}
use Rattle.slate_db.specs.SharedRuns.{tables_in}
use Rattle.slate_db.specs.View.{unseen_of, view_of}
use Rattle.slate_db.specs.Whole.{IsWhole}
use Rattle.slate_db.proofs.RangeRows.{has_all}
use Rattle.slate_db.proofs.Readers.{own_range_of}
use Rattle.slate_db.proofs.ScanReaders.{fine_reader}
use Rattle.slate_db.proofs.ScanWithin.{none_within}
use Rattle.slate_db.proofs.engine.Core.opened.Goals as goal
use Rattle.slate_db.proofs.engine.Core.opened.Given as given

-- the core's own layers
stands : (g : given.Over) (c : goal.After-opened_over g) → StandsIn c.args.self.now c.args.range c.args.begin c.active.result.now.rows (map (λ (t : MemTableModel). t.rows) c.frozen.result.now) c.runs.result.now
stands g c = record {
  unseen = unseen_of c.self.inside;
  whole = subst (λ (v : CoreModel). IsWhole v (unseen_of c.self.inside)) c.self.view_is c.self.invariant;
  tables = ap tables_in c.runs.ensures;
  frozen_are = c.frozen.ensures ∙ ap (λ (v : CoreModel). v.frozen) c.self.view_is;
  active_has = subst (λ (rows : Rows). HasUpto c.args.range c.args.begin c.args.self.now.active rows) (sym (c.active.ensures ∙ ap (λ (v : CoreModel). v.active) c.self.view_is)) (has_all c.args.range c.args.begin c.args.self.now.active);
}

reads : (g : given.Over) (c : goal.After-opened_over g) (from : Reader) → reader c.args.self.now.state c.args.id.now ≡ Some from → IsReaderOf c.args.self.now c.args.id.now from c.args.range c.args.how.order c.in_ok-own.own
reads g c from found =
    let v = view_of c.self.inside in
    let there : reader v.state c.args.id.now ≡ Some from = ap (λ (u : CoreModel). reader u.state c.args.id.now) c.self.view_is ∙ found in
    let own = c.in_ok-own.ensures in
    subst (λ (k : CoreModel). IsReaderOf k c.args.id.now from c.args.range c.args.how.order c.in_ok-own.own) c.self.view_is (record {
      open_there = there;
      fine = fine_reader v.state c.args.id.now from there c.own_range.ensures.fine;
      own_are = record { rows = own_range_of v.state c.args.id.now from there c.args.range c.in_ok-own.own.rows own.rows own.none; in_order = own.in_order; turn = own.turn; same_order = own.order };
    })

pub returns : goal.returns
returns g c = record {
  opened = λ from found. c.opened_over.ensures.opened c.args.self.now c.args.id.now from (stands g c) (reads g c from found);
  range = c.opened_over.ensures.range;
  order = c.opened_over.ensures.order;
  reads = c.opened_over.ensures.reads;
}

pub returns-in_err-own : goal.returns-in_err-own
returns-in_err-own g c =
    let fault = subst (IsFault (reach_of g.S.Store g.M.MergeOperator g.T.BlockTransformer c.args.env.now) (reach_of g.S.Store g.M.MergeOperator g.T.BlockTransformer c.args.env.now)) (sym c.in_err-own.ensures.cause) tt in
    record {
      opened = λ u at. record {
        opened = λ from a. IfOk-from_err c.from_residual.result _ c.from_residual.ensures.0;
        checked = λ above os r. IfOk-from_err c.from_residual.result _ c.from_residual.ensures.0;
        later = IfOk-from_err c.from_residual.result _ c.from_residual.ensures.0;
        hands = IfOk-from_err c.from_residual.result _ c.from_residual.ensures.0;
        within = none_within _ _ _ c.args.self.now (unseen_of c.self.inside) _ (subst (λ (v : CoreModel). IsWhole v (unseen_of c.self.inside)) c.self.view_is c.self.invariant) (IfOk-from_err c.from_residual.result _ c.from_residual.ensures.0);
        undamaged = λ from a. err_exit c.from_residual.result _ c.from_residual.ensures.1 _ fault;
        cause = err_exit c.from_residual.result _ c.from_residual.ensures.1 _ (inl fault);
        still = refl;
      };
      range = IfOk-from_err c.from_residual.result _ c.from_residual.ensures.0;
      order = IfOk-from_err c.from_residual.result _ c.from_residual.ensures.0;
      reads = reads_none _;
    }
