use Rattle.std.proofs.Common.{◌≡◌, ◌⊎◌, [], ◌∷◌, Some, Ok, Err, ap, subst, refl}
use Rattle.std.specs.Prelude.{slice_get}
use Rattle.std.proofs.lemmas.Result.{IfOk-from_err, err_from_is_err_and}
use Rattle.slate_types.specs.declared.error.SlateDBError.TheVariants.{OutOfMemory}
use Rattle.slate_block.specs.Walks.{all_ok}
use Rattle.slate_block.specs.BlockWalks.{ReadsLeft}
use Rattle.slate_block.specs.GroupWalks.{left_v2}
use Rattle.slate_types.proofs.Exits.{on_err}
use Rattle.slate_block.proofs.block_iterator_v2.AscendingState.next_row.Goals as goal

pub returns-in_err-row : goal.returns-in_err-row
returns-in_err-row g c =
    let p = err_from_is_err_and c.from_residual.result c.from_residual.ensures.1 in
    record {
      read = IfOk-from_err c.from_residual.result _ c.from_residual.ensures.0;
      rows = IfOk-from_err c.from_residual.result _ c.from_residual.ensures.0;
      order = refl;
      cause = (let e = c.in_err-row.field-0.0 in
          let cause = rw (c.body-body.ensures, c.offsets-offsets.ensures) at c.in_err-row.ensures.cause in
          rw (p.1, p.2) (subst (λ (w : ReadsLeft). (e ≡ OutOfMemory) ⊎ (slice_get w.reads 0 ≡ Some (Err e))) c.self.view_is cause));
      damage = rw (p.1, p.2) c.in_err-row.ensures.damage;
      unchanged = on_err c.from_residual.result refl;
    }

-- ---- no row is left

pub returns-then-is_at_end : goal.returns-then-is_at_end
returns-then-is_at_end g c =
    let none = rw c.offsets-offsets.ensures at c.is_at_end.ensures.end (g.B.BlockLike.body_bytes c.self.inside.block) c.if-is_at_end.true in
    let left = subst (λ (w : ReadsLeft). w.reads ≡ []) c.self.view_is none in
    let rows = ap all_ok left in
    record {
      read = (left, left);
      rows = (rows, rows);
      order = refl;
      cause = tt;
      damage = tt;
      unchanged = tt;
    }

-- ---- the next one is taken off

pub next_of_block-requires : goal.next_of_block-requires
next_of_block-requires g c = c.is_at_end.ensures.more c.if-is_at_end.false

pub returns : goal.returns
returns g c =
    let read_holds =
    let block = c.self.inside.block in
    let after = left_v2 (g.B.BlockLike.body_bytes block) (g.B.BlockLike.row_offsets block) c.in_ok-row.place in
    let found = rw (c.body-body.ensures, c.offsets-offsets.ensures) at c.in_ok-row.ensures.found in
    subst (λ (w : ReadsLeft). w.reads ≡ Ok c.in_ok-row.row ∷ after) c.self.view_is found in
    record {
      read = read_holds;
      rows = ap all_ok read_holds;
      order = ap (λ (w : ReadsLeft). w.order) c.self.view_is;
      cause = tt;
      damage = tt;
      unchanged = tt;
    }
