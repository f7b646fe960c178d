use Rattle.std.proofs.Common.{◌≡◌, ◌<◌, ◌⊎◌, List, length, take, subst, sym, arith, ap, refl}
use Rattle.std.proofs.lemmas.List.{length-take}
use Rattle.std.proofs.lemmas.Result.{err_from_is_err_and, IfOk-from_err}
use Rattle.slate_types.specs.declared.error.SlateDBError.TheVariants.{OutOfMemory}
use Rattle.slate_types.specs.declared.iter.IterationOrder.TheVariants.{Descending}
use Rattle.slate_types.specs.declared.types.RowEntry.{RowEntry}
use Rattle.slate_block.specs.BlockWalks.{ReadsLeft, IsPast, Refuses, StopsAt}
use Rattle.slate_block.specs.GroupWalks.{left_back}
use Rattle.slate_block.proofs.SeekLaws.{sought}
use Rattle.slate_block.proofs.BackSteps.{back_of, kept_past, kept_read, kept_stops}
use Rattle.slate_block.proofs.BackLaws.{past_back, refused_held, refused_or_behind}
use Rattle.slate_types.proofs.Exits.{on_err}
use Rattle.slate_block.proofs.descending_block_iterator_v2.DescendingBlockIteratorV2.skip_before.Goals as goal

-- ---- some row of those held stays

pub returns-then-kept-gt0 : goal.returns-then-kept-gt0
returns-then-kept-gt0 g c =
    let past_holds =
    let it = c.self.inside in
    let body = g.B.BlockLike.body_bytes it.block in
    let offsets = g.B.BlockLike.row_offsets it.block in
    let rows = it.rows.items in
    let kept = c.truncate.new.self.items in
    let past = rw c.deref.ensures.value at c.rows_upto_key-kept.ensures.past in
    let held = subst (λ (l : List RowEntry). IsPast Descending c.args.key.now (back_of rows) (back_of l)) (sym c.truncate.ensures.items) past in
    subst (λ (w : ReadsLeft). IsPast w.order c.args.key.now w.reads (left_back body offsets it.groups kept)) c.self.view_is (kept_past Descending c.args.key.now body offsets it.groups rows kept held) in
    let stops_holds =
    let it = c.self.inside in
    let body = g.B.BlockLike.body_bytes it.block in
    let offsets = g.B.BlockLike.row_offsets it.block in
    let left = take c.rows_upto_key-kept.result it.rows.items in
    let within = rw c.deref.ensures.value at c.rows_upto_key-kept.ensures.within in
    let stops = rw c.deref.ensures.value at c.rows_upto_key-kept.ensures.stops in
    let some : 0 < length left = omega (arith, length-take c.rows_upto_key-kept.result it.rows.items, within) in
    let stays : StopsAt Descending c.args.key.now (left_back body offsets it.groups c.truncate.new.self.items) = rw c.truncate.ensures.items (kept_stops Descending c.args.key.now body offsets it.groups left some stops) in
    subst (λ (w : ReadsLeft). StopsAt w.order c.args.key.now (left_back body offsets it.groups c.truncate.new.self.items)) c.self.view_is stays in
    record {
      rows = (let it = c.self.inside in
          let after = left_back (g.B.BlockLike.body_bytes it.block) (g.B.BlockLike.row_offsets it.block) it.groups c.truncate.new.self.items in
          sought c.args.self.now.order c.args.key.now c.args.self.now.reads after past_holds stops_holds);
      past = past_holds;
      stops = stops_holds;
      read = (let it = c.self.inside in
          let left = take c.rows_upto_key-kept.result it.rows.items in
          let within = rw c.deref.ensures.value at c.rows_upto_key-kept.ensures.within in
          let some : 0 < length left = omega (arith, length-take c.rows_upto_key-kept.result it.rows.items, within) in
          rw c.truncate.ensures.items (kept_read (g.B.BlockLike.body_bytes it.block) (g.B.BlockLike.row_offsets it.block) it.groups left some));
      order = ap (λ (w : ReadsLeft). w.order) c.self.view_is;
      cause = tt;
      unchanged = tt;
    }

-- ---- none does

pub returns-in_err-upto : goal.returns-in_err-upto
returns-in_err-upto g c =
    record {
      rows = λ h. IfOk-from_err c.from_residual.result _ c.from_residual.ensures.0;
      past = IfOk-from_err c.from_residual.result _ c.from_residual.ensures.0;
      stops = IfOk-from_err c.from_residual.result _ c.from_residual.ensures.0;
      read = IfOk-from_err c.from_residual.result _ c.from_residual.ensures.0;
      order = refl;
      cause = (let it = c.self.inside in
          let body = g.B.BlockLike.body_bytes it.block in
          let offsets = g.B.BlockLike.row_offsets it.block in
          let p = err_from_is_err_and c.from_residual.result c.from_residual.ensures.1 in
          let e = c.in_err-upto.field-0.0 in
          let cause = rw (c.body-body.ensures, c.offsets-offsets.ensures) at c.in_err-upto.ensures.cause in
          rw (p.1, p.2) (subst (λ (w : ReadsLeft). (e ≡ OutOfMemory) ⊎ Refuses w.reads e) c.self.view_is (refused_held body offsets it.groups it.rows.items e OutOfMemory cause)));
      unchanged = on_err c.from_residual.result refl;
    }

pub returns-in_err-groups : goal.returns-in_err-groups
returns-in_err-groups g c =
    record {
      rows = λ h. IfOk-from_err c.from_residual-in_err-groups.result _ c.from_residual-in_err-groups.ensures.0;
      past = IfOk-from_err c.from_residual-in_err-groups.result _ c.from_residual-in_err-groups.ensures.0;
      stops = IfOk-from_err c.from_residual-in_err-groups.result _ c.from_residual-in_err-groups.ensures.0;
      read = IfOk-from_err c.from_residual-in_err-groups.result _ c.from_residual-in_err-groups.ensures.0;
      order = refl;
      cause = (let it = c.self.inside in
          let body = g.B.BlockLike.body_bytes it.block in
          let offsets = g.B.BlockLike.row_offsets it.block in
          let p = err_from_is_err_and c.from_residual-in_err-groups.result c.from_residual-in_err-groups.ensures.1 in
          let e = c.in_err-groups.field-0.0 in
          let cause = rw (c.body-body.ensures, c.offsets-offsets.ensures) at c.in_err-groups.ensures.cause in
          rw (p.1, p.2) (subst (λ (w : ReadsLeft). (e ≡ OutOfMemory) ⊎ Refuses w.reads e) c.self.view_is
          (refused_or_behind body offsets it.groups c.in_ok-upto.upto it.rows.items e OutOfMemory c.in_ok-upto.ensures.within cause)));
      unchanged = on_err c.from_residual-in_err-groups.result refl;
    }

pub returns : goal.returns
returns g c =
    let past_holds =
    let it = c.self.inside in
    let body = g.B.BlockLike.body_bytes it.block in
    let offsets = g.B.BlockLike.row_offsets it.block in
    let after = left_back body offsets c.in_ok-groups.groups c.in_ok-groups.rows.items in
    let none : c.rows_upto_key-kept.result ≡ 0 = omega arith in
    let held = rw c.deref.ensures.value at c.rows_upto_key-kept.ensures.past in
    let begins = rw (c.body-body.ensures, c.offsets-offsets.ensures) at c.in_ok-upto.ensures.after in
    let whole = rw (c.body-body.ensures, c.offsets-offsets.ensures) at c.in_ok-upto.ensures.read in
    let past = rw (c.body-body.ensures, c.offsets-offsets.ensures) at c.in_ok-groups.ensures.past in
    subst (λ (w : ReadsLeft). IsPast w.order c.args.key.now w.reads after) c.self.view_is
    (past_back Descending c.args.key.now body offsets it.groups c.in_ok-upto.upto c.rows_upto_key-kept.result it.rows.items after none held c.in_ok-upto.ensures.within begins whole past) in
    let stops_holds =
    let it = c.self.inside in
    let after = left_back (g.B.BlockLike.body_bytes it.block) (g.B.BlockLike.row_offsets it.block) c.in_ok-groups.groups c.in_ok-groups.rows.items in
    let found = rw (c.body-body.ensures, c.offsets-offsets.ensures) at c.in_ok-groups.ensures.stops in
    subst (λ (w : ReadsLeft). StopsAt w.order c.args.key.now after) c.self.view_is found in
    record {
      rows = (let it = c.self.inside in
          let after = left_back (g.B.BlockLike.body_bytes it.block) (g.B.BlockLike.row_offsets it.block) c.in_ok-groups.groups c.in_ok-groups.rows.items in
          sought c.args.self.now.order c.args.key.now c.args.self.now.reads after past_holds stops_holds);
      past = past_holds;
      stops = stops_holds;
      read = rw (c.body-body.ensures, c.offsets-offsets.ensures) at c.in_ok-groups.ensures.read;
      order = ap (λ (w : ReadsLeft). w.order) c.self.view_is;
      cause = tt;
      unchanged = tt;
    }

-- ---- groups and rows that are held

pub groups_to_search-requires : goal.groups_to_search-requires
groups_to_search-requires g c = rw c.offsets-offsets.ensures c.self.invariant

pub before_key-requires : goal.before_key-requires
before_key-requires g c = rw c.offsets-offsets.ensures (omega (arith, c.in_ok-upto.ensures.within, c.self.invariant))

pub invariant_of-self : goal.invariant_of-self
invariant_of-self g c = c.self.invariant

pub invariant_of-self-2 : goal.invariant_of-self-2
invariant_of-self-2 g c = omega (arith, c.in_ok-groups.ensures.within, c.in_ok-upto.ensures.within, c.self.invariant)
