use Rattle.std.proofs.Common.{inl, ◌≡◌, ℕ, ◌++◌, List, map, refl, sym, ap, subst, ◌∙◌}
use Rattle.std.proofs.lemmas.Result.{IfOk-from_err, err_from_is_err_and}
use Rattle.slate_types.specs.Outside.{IsCounted}
use Rattle.slate_store.specs.Reach.{reach_of}
use Rattle.slate_types.proofs.Calls.{call_none}
use Rattle.slate_types.proofs.Reaching.{reads_none}
use Rattle.slate_mem.specs.Lookup.{newest_first}
use Rattle.slate_mem.specs.Table.{newest}
use Rattle.slate_read.specs.declared.sorted_run.SortedRun.{SortedRun}
use Rattle.slate_db.specs.KeyShares.{IsSeen, IsUnder, Stands}
use Rattle.slate_db.specs.Model.{CoreModel, Rows, memory}
use Rattle.slate_db.specs.SharedRuns.{tables_in}
use Rattle.slate_db.specs.Shown.{Asking}
use Rattle.slate_db.specs.View.{view_of, unseen_of}
use Rattle.slate_db.specs.Whole.{IsWhole}
use Rattle.slate_db.proofs.Behind.{asks_none}
use Rattle.slate_db.proofs.Checks.{checks_err}
use Rattle.slate_db.proofs.UnderOwn.{memory_first}
use Rattle.slate_db.proofs.engine.Core.seen.Goals as goal
use Rattle.slate_db.proofs.engine.Core.seen.Given as given

-- memory's rows of the key
abbrev rows : (g : given.Over) → goal.After-seen_behind g → Rows
rows g c = newest c.args.key.now c.args.at (newest_first (memory c.args.self.now))

near : (g : given.Over) (c : goal.After-seen_behind g) → c.in_ok-near.near.items ≡ c.args.own.items ++ rows g c
near g c =
    c.in_ok-near.ensures.found
    ∙ ap (λ (xs : Rows). c.args.own.items ++ xs) (
    (λ i. newest c.args.key.now c.args.at (c.active.ensures i ++ newest_first (c.frozen.ensures i)))
    ∙ ap (λ (v : CoreModel). newest c.args.key.now c.args.at (v.active ++ newest_first v.frozen)) c.self.view_is
    ∙ ap (newest c.args.key.now c.args.at) (sym (memory_first c.args.self.now))
    )

stands : (g : given.Over) (c : goal.After-seen_behind g) → Stands c.args.self.now c.args.key.now c.args.at (rows g c) c.runs.result.now
stands g c = record {
  unseen = unseen_of c.self.inside;
  whole = subst (λ (v : CoreModel). IsWhole v (unseen_of c.self.inside)) c.self.view_is c.self.invariant;
  tables = ap tables_in c.runs.ensures;
  rows = refl;
}

under : (g : given.Over) (c : goal.After-seen_behind g) → IsUnder c.args.self.now c.args.key.now c.args.own.items
under g c = record { operands = c.requires.operands; own = c.requires.own; keys = c.requires.keys; short = c.requires.short }

pub returns-in_err-near : goal.returns-in_err-near
returns-in_err-near g c =
    let p = err_from_is_err_and c.from_residual.result c.from_residual.ensures.1 in
    record {
      read = record {
        answer = λ is. rw p.1 tt;
        undamaged = λ is. rw (p.1, p.2) (subst (IsCounted _ _) (sym c.in_err-near.ensures.cause) tt);
        cause = rw (p.1, p.2) (inl (subst (IsCounted _ _) (sym c.in_err-near.ensures.cause) tt));
        checked = λ os is. checks_err c.from_residual.result os (reach_of g.S.Store g.M.MergeOperator g.T.BlockTransformer c.args.env.now) (reach_of g.S.Store g.M.MergeOperator g.T.BlockTransformer c.args.env.now) c.from_residual.ensures.0;
        reads = reads_none _;
        still = refl;
      };
      asks = asks_none (record { policies = map (λ p. (goal.FilterPolicy-dyn g (p.vtable, p.value)).meaning p.value) c.args.policies.now; query = c.args.query.now }) _ _ _ (call_none _);
      finds = λ above is needs. IfOk-from_err c.from_residual.result _ c.from_residual.ensures.0;
      missing = λ lacks some. IfOk-from_err c.from_residual.result _ c.from_residual.ensures.0;
      merged = λ lacks some. IfOk-from_err c.from_residual.result _ c.from_residual.ensures.0;
    }

pub returns : goal.returns
returns g c = c.seen_behind.ensures c.args.self.now c.args.own.items (rows g c) (near g c) (stands g c) (under g c)
