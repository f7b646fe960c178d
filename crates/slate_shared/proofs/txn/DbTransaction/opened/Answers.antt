use Rattle.std.proofs.Common.{inl, inr, ◌≡◌, ℕ, List, map, Option, refl, sym, ap, subst, ◌∙◌}
use Rattle.std.specs.Prelude.{Err, IfOk, Ok, Result}
use Rattle.std.proofs.lemmas.Result.{IfOk-from_err, err_from_is_err_and}
use Rattle.slate_types.specs.declared.bytes_range.BytesRange.{BytesRange}
use Rattle.slate_types.specs.declared.error.SlateDBError.{SlateDBError}
use Rattle.slate_types.specs.declared.error.SlateDBError.TheVariants.{OutOfMemory}
use Rattle.slate_types.specs.declared.filter_policy.FilterQuery.{FilterQuery}
use Rattle.slate_types.specs.declared.iter.IterationOrder.{IterationOrder}
use Rattle.slate_types.proofs.Reaching.{reads_none}
use Rattle.slate_store.specs.Reach.{reach_of}
use Rattle.slate_filter.specs.Policy.{Policy}
use Rattle.slate_txn.specs.Alone.{own_of}
use Rattle.slate_txn.specs.Step.{tx_reader}
use Rattle.slate_db.specs.declared.scan.DbIterator.{DbIterator}
use Rattle.slate_db.specs.Log.{AreFine}
use Rattle.slate_db.specs.OpenScans.{HasRows}
use Rattle.slate_db.specs.RangeShares.{IsOpened, IsRangeShare}
use Rattle.slate_db.specs.ScanFilters.{scan_query}
use Rattle.slate_db.specs.Scanned.{HasOwn}
use Rattle.slate_shared.specs.Passes.{Opened}
use Rattle.slate_shared.proofs.Lists.{prefix_self}
use Rattle.slate_shared.proofs.ScanReads.{ranged_as, reader_of}
use Rattle.slate_shared.proofs.txn.DbTransaction.opened.Goals as goal
use Rattle.slate_shared.proofs.txn.DbTransaction.opened.Given as given

pub opened-requires-clause-prefix : goal.opened-requires-clause-prefix
opened-requires-clause-prefix g c p k is within = c.requires.prefix p k (sym c.in_ok-how.ensures.prefix ∙ is) within

pub returns-in_err-own : goal.returns-in_err-own
returns-in_err-own g c =
    let p = err_from_is_err_and c.from_residual.result c.from_residual.ensures.1 in
    record {
      same = refl;
      seen = prefix_self _;
      own = subst (λ (x : Opened). x.tx.ops ≡ own_of x.tx.transcript) c.self.view_is c.own_range.ensures.own;
      opened = inl (p.1 ∙ ap (λ e. Err e) (p.2 ∙ c.in_err-own.ensures.cause), refl);
      ranged = IfOk-from_err c.from_residual.result _ c.from_residual.ensures.0;
      reads = reads_none _;
      still = refl;
    }

pub returns-in_err-how : goal.returns-in_err-how
returns-in_err-how g c =
    let p = err_from_is_err_and c.from_residual-in_err-how.result c.from_residual-in_err-how.ensures.1 in
    record {
      same = refl;
      seen = prefix_self _;
      own = subst (λ (x : Opened). x.tx.ops ≡ own_of x.tx.transcript) c.self.view_is c.own_range.ensures.own;
      opened = inl (p.1 ∙ ap (λ e. Err e) (p.2 ∙ c.in_err-how.ensures.cause), refl);
      ranged = IfOk-from_err c.from_residual-in_err-how.result _ c.from_residual-in_err-how.ensures.0;
      reads = reads_none _;
      still = refl;
    }

pub returns-in_err-share : goal.returns-in_err-share
returns-in_err-share g c =
    let p = err_from_is_err_and c.from_residual-in_err-share.result c.from_residual-in_err-share.ensures.1 in
    record {
      same = c.share_range.ensures.same;
      seen = c.share_range.ensures.seen;
      own = subst (λ (x : Opened). x.tx.ops ≡ own_of x.tx.transcript) c.self.view_is c.own_range.ensures.own;
      opened = inl (p.1 ∙ ap (λ e. Err e) (p.2 ∙ c.in_err-share.ensures.cause), refl);
      ranged = IfOk-from_err c.from_residual-in_err-share.result _ c.from_residual-in_err-share.ensures.0;
      reads = reads_none _;
      still = refl;
    }

pub returns : goal.returns
returns g c =
    let t = c.args.self.now in
    let before = reach_of g.S.Store g.M.MergeOperator g.T.BlockTransformer c.args.env.now in
    let after = reach_of g.S.Store g.M.MergeOperator g.T.BlockTransformer c.opened.new.env in
    let range = c.args.range in
    let how = c.in_ok-how.ensures in
    let own : t.tx.ops ≡ own_of t.tx.transcript = subst (λ (x : Opened). x.tx.ops ≡ own_of x.tx.transcript) c.self.view_is c.own_range.ensures.own in
    let fine : AreFine t.tx.ops = subst (λ (x : Opened). AreFine x.tx.ops) c.self.view_is c.own_range.ensures.fine in
    let rows = c.in_ok-own.ensures in
    let has : HasRows c.args.options.now.order (HasOwn range t.tx.ops) c.in_ok-own.own = subst (λ (x : Opened). HasRows c.args.options.now.order (HasOwn range x.tx.ops) c.in_ok-own.own) c.self.view_is (record { rows = rows.rows; in_order = rows.in_order; turn = rows.turn; same_order = rows.order }) in
    let at : c.begin-at.result ≡ t.tx.begin = c.begin-at.ensures ∙ ap (λ (x : Opened). x.tx.begin) c.self.view_is in
    let s = c.in_ok-share.ensures.shared t.tx refl own in
    let mine = reader_of g.P.Parts.options g.P.Parts.meaning t c.share_range.new.self.seen s.0 s.1 range c.in_ok-how.how.order c.in_ok-own.own fine (subst (λ (order : IterationOrder). HasRows order (HasOwn range t.tx.ops) c.in_ok-own.own) (sym how.order) has) in
    let opened = c.opened.ensures.opened s.0 range t.id (tx_reader t.tx) (subst (λ (n : ℕ). IsRangeShare s.0 range n c.in_ok-share.share) (sym at) s.2) (λ k within. within) mine in
    let policies = ap (map (λ p. (goal.FilterPolicy-dyn g (p.vtable, p.value)).meaning p.value)) c.as_slice.ensures.value in
    record {
      same = c.share_range.ensures.same;
      seen = c.share_range.ensures.seen;
      own = own;
      opened = inr (
        s.0,
        s.1,
        subst (λ (x : List Policy × (Option FilterQuery × (ℕ × IterationOrder))). IsOpened x.0 x.1.0 before after s.0 x.1.1.0 t.tx.ops range x.1.1.1 c.opened.result)
            (λ i. (policies i, (scan_query range (how.prefix i) (how.context i), (at i, how.order i)))) opened,
      );
      ranged = ranged_as c.opened.result range c.in_ok-how.how.order c.args.options.now.order how.order c.opened.ensures.range c.opened.ensures.order;
      reads = c.opened.ensures.reads;
      still = c.opened.ensures.still;
    }
