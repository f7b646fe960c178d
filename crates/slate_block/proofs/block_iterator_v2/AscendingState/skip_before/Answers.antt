use Rattle.std.proofs.Common.{◌≡◌, ◌⊎◌, subst, ap, refl}
use Rattle.std.proofs.lemmas.Result.{IfOk-from_err, err_from_is_err_and}
use Rattle.slate_types.specs.declared.error.SlateDBError.TheVariants.{OutOfMemory}
use Rattle.slate_block.specs.BlockWalks.{ReadsLeft, IsPast, Refuses, StopsAt}
use Rattle.slate_block.specs.GroupWalks.{left_v2}
use Rattle.slate_block.proofs.SeekLaws.{sought}
use Rattle.slate_types.proofs.Exits.{on_err}
use Rattle.slate_block.proofs.block_iterator_v2.AscendingState.skip_before.Goals as goal

pub returns-in_err-self-inside : goal.returns-in_err-self-inside
returns-in_err-self-inside g c =
    let p = err_from_is_err_and c.from_residual.result c.from_residual.ensures.1 in
    record {
      rows = λ h. IfOk-from_err c.from_residual.result _ c.from_residual.ensures.0;
      past = IfOk-from_err c.from_residual.result _ c.from_residual.ensures.0;
      stops = IfOk-from_err c.from_residual.result _ c.from_residual.ensures.0;
      read = IfOk-from_err c.from_residual.result _ c.from_residual.ensures.0;
      order = refl;
      cause = (let e = c.in_err-self-inside.field-0.0 in
          let cause = rw (c.body.ensures, c.offsets.ensures) at c.in_err-self-inside.ensures.cause in
          rw (p.1, p.2) (subst (λ (w : ReadsLeft). (e ≡ OutOfMemory) ⊎ Refuses w.reads e) c.self.view_is cause));
      unchanged = on_err c.from_residual.result refl;
    }

-- ---- the place that was found

pub returns : goal.returns
returns g c =
    let past_holds =
    let block = c.self.inside.block in
    let after = left_v2 (g.B.BlockLike.body_bytes block) (g.B.BlockLike.row_offsets block) c.in_ok-self-inside.field-0 in
    let past = rw (c.body.ensures, c.offsets.ensures) at c.in_ok-self-inside.ensures.past in
    subst (λ (w : ReadsLeft). IsPast w.order c.args.key.now w.reads after) c.self.view_is past in
    let stops_holds =
    let block = c.self.inside.block in
    let after = left_v2 (g.B.BlockLike.body_bytes block) (g.B.BlockLike.row_offsets block) c.in_ok-self-inside.field-0 in
    let stops = rw (c.body.ensures, c.offsets.ensures) at c.in_ok-self-inside.ensures.stops in
    subst (λ (w : ReadsLeft). StopsAt w.order c.args.key.now after) c.self.view_is stops in
    record {
      rows = sought c.args.self.now.order c.args.key.now c.args.self.now.reads _ past_holds stops_holds;
      past = past_holds;
      stops = stops_holds;
      read = rw (c.body.ensures, c.offsets.ensures) at c.in_ok-self-inside.ensures.read;
      order = ap (λ (w : ReadsLeft). w.order) c.self.view_is;
      cause = tt;
      unchanged = tt;
    }
