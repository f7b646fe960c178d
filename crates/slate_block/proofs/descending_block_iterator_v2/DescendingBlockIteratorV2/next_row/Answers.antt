use Rattle.std.proofs.Common.{◌≡◌, ◌⊎◌, ◌-◌, [], length, Some, None, Ok, Err, subst, arith, vec_len, sym, ◌∙◌, ap, refl}
use Rattle.std.proofs.lemmas.Bool.{eqb-true}
use Rattle.std.proofs.lemmas.List.{nil_from_length}
use Rattle.std.proofs.lemmas.Result.{err_from_is_err_and, IfOk-from_err}
use Rattle.std.specs.Prelude.{slice_get}
use Rattle.slate_types.specs.declared.error.SlateDBError.TheVariants.{OutOfMemory}
use Rattle.slate_block.specs.Walks.{all_ok}
use Rattle.slate_block.specs.BlockWalks.{ReadsLeft, TakesRead}
use Rattle.slate_block.specs.GroupWalks.{left_back, restart_at}
use Rattle.slate_block.proofs.SeekLaws.{step_left}
use Rattle.slate_block.proofs.BackLaws.{no_rows_back, left_refused_or, more_groups, pop_some, pop_group, rows_held}
use Rattle.slate_types.proofs.Exits.{on_err}
use Rattle.slate_block.proofs.descending_block_iterator_v2.DescendingBlockIteratorV2.next_row.Goals as goal

-- ---- a row is held

pub returns-then-not-is_empty : goal.returns-then-not-is_empty
returns-then-not-is_empty g c =
    let read_holds =
    let it = c.self.inside in
    let body = g.B.BlockLike.body_bytes it.block in
    let offsets = g.B.BlockLike.row_offsets it.block in
    let held = rows_held (vec_len it.rows) (sym c.is_empty.ensures ∙ c.if-not-is_empty.true) in
    subst (λ (w : ReadsLeft). TakesRead w.reads c.pop.result (left_back body offsets it.groups c.pop.new.self.items)) c.self.view_is
    (pop_some body offsets it.groups it.rows.items c.pop.new.self.items c.pop.result c.pop.ensures.items (c.pop.ensures.variant.1 held)) in
    record {
      read = read_holds;
      rows = step_left c.args.self.now.reads _ c.pop.result read_holds;
      order = ap (λ (w : ReadsLeft). w.order) c.self.view_is;
      cause = tt;
      damage = tt;
      unchanged = tt;
    }

-- ---- none is held

pub returns-then-self-eq0 : goal.returns-then-self-eq0
returns-then-self-eq0 g c =
    let it = c.self.inside in
    let size : length it.rows.items ≡ 0 = omega (arith, eqb-true (vec_len it.rows) 0 (sym c.is_empty.ensures ∙ c.if-not-is_empty.false), it.rows.ok.0) in
    let none = no_rows_back (g.B.BlockLike.body_bytes it.block) (g.B.BlockLike.row_offsets it.block) it.groups it.rows.items c.if-self-eq0.true (nil_from_length it.rows.items size) in
    let left : c.args.self.now.reads ≡ [] = subst (λ (w : ReadsLeft). w.reads ≡ []) c.self.view_is none in
    record {
      read = (left, left);
      rows = step_left c.args.self.now.reads c.args.self.now.reads None (left, left);
      order = refl;
      cause = tt;
      damage = tt;
      unchanged = tt;
    }

pub returns-in_err-self-inside : goal.returns-in_err-self-inside
returns-in_err-self-inside g c =
    let p = err_from_is_err_and c.from_residual.result c.from_residual.ensures.1 in
    record {
      read = IfOk-from_err c.from_residual.result _ c.from_residual.ensures.0;
      rows = IfOk-from_err c.from_residual.result _ c.from_residual.ensures.0;
      order = refl;
      cause = (let it = c.self.inside in
          let body = g.B.BlockLike.body_bytes it.block in
          let offsets = g.B.BlockLike.row_offsets it.block in
          let p = err_from_is_err_and c.from_residual.result c.from_residual.ensures.1 in
          let e = c.in_err-self-inside.field-0.0 in
          let size : length it.rows.items ≡ 0 = omega (arith, eqb-true (vec_len it.rows) 0 (sym c.is_empty.ensures ∙ c.if-not-is_empty.false), it.rows.ok.0) in
          let more = more_groups it.groups c.if-self-eq0.false in
          let cause = rw (c.body-body.ensures, c.offsets-offsets.ensures) at c.in_err-self-inside.ensures.cause in
          rw (p.1, p.2) (subst (λ (w : ReadsLeft). (e ≡ OutOfMemory) ⊎ (slice_get w.reads 0 ≡ Some (Err e))) c.self.view_is
          (left_refused_or body offsets it.groups (it.groups - 1) it.rows.items e OutOfMemory (nil_from_length it.rows.items size) more cause)));
      damage = rw (p.1, p.2) c.in_err-self-inside.ensures.damage;
      unchanged = on_err c.from_residual.result refl;
    }

pub returns : goal.returns
returns g c =
    let read_holds =
    let it = c.self.inside in
    let body = g.B.BlockLike.body_bytes it.block in
    let offsets = g.B.BlockLike.row_offsets it.block in
    let read = c.in_ok-self-inside.field-0 in
    let size : length it.rows.items ≡ 0 = omega (arith, eqb-true (vec_len it.rows) 0 (sym c.is_empty.ensures ∙ c.if-not-is_empty.false), it.rows.ok.0) in
    let more = more_groups it.groups c.if-self-eq0.false in
    let whole : all_ok (restart_at body offsets (it.groups - 1)) ≡ Ok read.items = rw (c.body-body.ensures, c.offsets-offsets.ensures) at c.in_ok-self-inside.ensures.rows in
    subst (λ (w : ReadsLeft). TakesRead w.reads c.pop-2.result (left_back body offsets (it.groups - 1) c.pop-2.new.self.items)) c.self.view_is
    (pop_group body offsets it.groups (it.groups - 1) it.rows.items read.items c.pop-2.new.self.items c.pop-2.result (nil_from_length it.rows.items size) more whole c.pop-2.ensures.items
    (λ some. c.pop-2.ensures.variant.1 (omega (arith, some, read.ok.0)))) in
    record {
      read = read_holds;
      rows = step_left c.args.self.now.reads _ c.pop-2.result read_holds;
      order = ap (λ (w : ReadsLeft). w.order) c.self.view_is;
      cause = tt;
      damage = tt;
      unchanged = tt;
    }

pub group_rows-requires : goal.group_rows-requires
group_rows-requires g c =
    let more = more_groups c.self.inside.groups c.if-self-eq0.false in
    rw c.offsets-offsets.ensures (omega (arith, c.self.invariant, more))

pub invariant_of-self : goal.invariant_of-self
invariant_of-self g c = c.self.invariant

pub invariant_of-self-2 : goal.invariant_of-self-2
invariant_of-self-2 g c = omega (arith, c.self.invariant)
