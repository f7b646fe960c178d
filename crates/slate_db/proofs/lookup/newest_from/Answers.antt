use Rattle.std.proofs.Common.{◌≡◌, ◌⊎◌, inl, inr, [], None, sym, ap, subst, ◌∙◌}
use Rattle.std.proofs.lemmas.Result.{err_from_is_err_and, IfOk-from_err, IfOk-weaker, IfErr-weaker}
use Rattle.slate_types.specs.declared.error.SlateDBError.TheVariants.{OutOfMemory}
use Rattle.slate_types.specs.declared.iter.IterationOrder.TheVariants.{Ascending}
use Rattle.slate_types.specs.Iteration.{NoneBefore, drop_before}
use Rattle.slate_types.specs.World.{nothing}
use Rattle.slate_types.proofs.Calls.{sees_nothing}
use Rattle.slate_block.specs.BlockWalks.{left, rows_of, IsRising, Refuses}
use Rattle.slate_block.specs.EitherVersion.{left_of}
use Rattle.slate_mem.specs.Table.{newest}
use Rattle.slate_db.proofs.Blocks.{seek_memory, seek_refuses, walk_memory}
use Rattle.slate_db.proofs.Shown.{brought_reads}
use Rattle.slate_mem.proofs.WalkLaws.{dropped_none, dropped_same}
use Rattle.slate_db.proofs.lookup.newest_from.Goals as goal

pub returns-in_err-seek : goal.returns-in_err-seek
returns-in_err-seek c =
    let p = err_from_is_err_and c.from_residual.result c.from_residual.ensures.1 in
    record {
      found = λ all is o order. IfOk-from_err c.from_residual.result _ c.from_residual.ensures.0;
      whole = (λ all is.
          let p = err_from_is_err_and c.from_residual.result c.from_residual.ensures.1 in
          rw (p.1, p.2) (seek_memory (left_of c.args.rows.now).reads all _ is c.in_err-seek.ensures.cause.2.0));
      asked = IfOk-from_err c.from_residual.result _ c.from_residual.ensures.0;
      rows = IfOk-from_err c.from_residual.result _ c.from_residual.ensures.0;
      cause = rw (p.1, p.2) (seek_refuses (left_of c.args.rows.now).reads _ c.in_err-seek.ensures.cause.2.0);
    }

fewer : (c : goal.After-newest_of_walk) (e : _) → (e ≡ OutOfMemory) ⊎ Refuses (left_of c.seek.new.self).reads e → (e ≡ OutOfMemory) ⊎ Refuses (left_of c.args.rows.now).reads e
fewer c e (inl m) = inl m
fewer c e (inr r) = inr (c.in_ok-seek.ensures.sought.2.1 [] None e r)

pub returns : goal.returns
returns c =
    record {
      found = (λ all is o order.
          let sound : IsRising (left_of c.args.rows.now).order (left (left_of c.args.rows.now)) = subst (λ x. IsRising x (left (left_of c.args.rows.now))) (sym o) (subst (IsRising Ascending) (sym is) order) in
          let sought : rows_of (left (left_of c.seek.new.self)) ≡ drop_before Ascending c.args.key.now all = c.in_ok-seek.ensures.rows nothing sees_nothing sound ∙ (λ i. drop_before (o i) c.args.key.now (rows_of (is i))) in
          IfOk-weaker c.newest_of_walk.result _ _ (λ found h. h ∙ ap (newest c.args.key.now c.args.max_seq) sought ∙ dropped_same c.args.key.now c.args.max_seq all)
          (c.newest_of_walk.ensures.found (c.seek.ensures.still nothing sees_nothing sound) (c.seek.ensures.order ∙ o) (subst (NoneBefore Ascending c.args.key.now) (sym sought) (dropped_none c.args.key.now all order))));
      whole = λ all is. IfErr-weaker c.newest_of_walk.result _ _ (λ e h. walk_memory (left_of c.args.rows.now).reads all e is (fewer c e h)) c.newest_of_walk.ensures.cause;
      asked = c.newest_of_walk.ensures.asked;
      rows = (let past = c.in_ok-seek.ensures.sought.2.0.0 in
          IfOk-weaker c.newest_of_walk.result _ _ (λ found h. brought_reads (λ (it : _). (left_of it).reads) c.seek.new.self (left_of c.args.rows.now).reads past.front found.items past.parts h) c.newest_of_walk.ensures.brought);
      cause = IfErr-weaker c.newest_of_walk.result _ _ (fewer c) c.newest_of_walk.ensures.cause;
    }
