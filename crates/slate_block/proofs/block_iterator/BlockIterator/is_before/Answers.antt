use Rattle.std.proofs.Common.{◌≡◌, Some, Ok, subst, List, length, sym, ap, ◌∙◌, arith, ℕ, Option}
use Rattle.std.specs.Prelude.{slice_get, IfSome}
use Rattle.std.proofs.lemmas.Result.{IfOk-from_err, err_from_is_err_and}
use Rattle.slate_types.specs.declared.types.RowEntry.{RowEntry}
use Rattle.slate_types.specs.Iteration.{comes_before}
use Rattle.slate_block.specs.BlockWalks.{ReadsLeft, place_in}
use Rattle.slate_block.specs.Walks.{RowRead, reads_v1}
use Rattle.slate_block.proofs.WalkLaws.{as_many_reads, index_left, place_below, read_in_order, told_at, refused_at}
use Rattle.slate_types.specs.declared.error.SlateDBError.TheVariants.{OutOfMemory}
use Rattle.slate_block.proofs.block_iterator.BlockIterator.is_before.Goals as goal

one_row : (x y : RowEntry) → ◌≡◌ {A = Option RowRead} (Some (Ok x)) (Some (Ok y)) → x ≡ y
one_row x y e = cc

pub place_in-place-requires : goal.place_in-place-requires
place_in-place-requires g c =
    let it = c.self.inside in
    let body = g.B.BlockLike.body_bytes it.block in
    index_left it.order body it.first_key (g.B.BlockLike.row_offsets it.block) (length body) it.start it.end c.args.index c.args.self.now.reads c.self.invariant.0 c.self.invariant.1
    (ap (λ (w : ReadsLeft). w.reads) c.self.view_is) c.requires

pub is_before_at-requires : goal.is_before_at-requires
is_before_at-requires g c =
    let it = c.self.inside in
    let body = g.B.BlockLike.body_bytes it.block in
    let offsets = g.B.BlockLike.row_offsets it.block in
    let within = index_left it.order body it.first_key offsets (length body) it.start it.end c.args.index c.args.self.now.reads c.self.invariant.0 c.self.invariant.1 (ap (λ (w : ReadsLeft). w.reads) c.self.view_is) c.requires in
    rw (c.place_in-place.ensures, c.offsets-offsets.ensures) (place_below it.order it.start it.end c.args.index (length offsets) within c.self.invariant.1)

pub returns-in-Some : goal.returns-in-Some
returns-in-Some g c =
    record {
      before = (let it = c.self.inside in
          let body = g.B.BlockLike.body_bytes it.block in
          let offsets = g.B.BlockLike.row_offsets it.block in
          let reads = reads_v1 body it.first_key offsets (length body) in
          let e = ap (λ (w : ReadsLeft). w.reads) c.self.view_is in
          let within = index_left it.order body it.first_key offsets (length body) it.start it.end c.args.index c.args.self.now.reads c.self.invariant.0 c.self.invariant.1 e c.requires in
          let size = as_many_reads body it.first_key offsets (length body) in
          let there = ap (λ (l : List RowRead). slice_get l c.args.index) (sym e) ∙ read_in_order it.order reads it.start it.end c.args.index within (omega (arith, size, c.self.invariant.1)) in
          let told = rw (c.place_in-place.ensures, c.body-body.ensures, c.offsets-offsets.ensures, c.as_slice-first.ensures) at c.in-Some.ensures in
          subst (λ (w : ReadsLeft). IfSome (Some c.in-Some.before) (λ before. (row : RowEntry) → slice_get c.args.self.now.reads c.args.index ≡ Some (Ok row) → before ≡ comes_before w.order row.key c.args.key.now)) c.self.view_is
          (told_at it.order c.args.key.now c.args.self.now.reads reads c.args.index (place_in it.order it.start it.end c.args.index) (Some c.in-Some.before) there told));
      cause = tt;
    }

pub returns-in_err-row : goal.returns-in_err-row
returns-in_err-row g c =
    let p = err_from_is_err_and c.from_residual.result c.from_residual.ensures.1 in
    record {
      before = IfOk-from_err c.from_residual.result _ c.from_residual.ensures.0;
      cause = rw (p.1, p.2) (refused_at c.args.self.now.reads c.args.index c.in_err-row.field-0.0 OutOfMemory c.in_err-row.ensures.cause c.in_err-row.ensures.damage);
    }

pub returns : goal.returns
returns g c =
    let order = c.self.inside.order in
    let key = c.args.key.now in
    record {
      before = λ row found.
          let same = one_row c.in_ok-row.row row (sym c.in_ok-row.ensures.found ∙ found) in
          c.puts_before-before.ensures ∙ ap (λ (k : List ℕ). comes_before order k key) (c.as_slice.ensures ∙ ap (λ (r : RowEntry). r.key) same) ∙ ap (λ (w : ReadsLeft). comes_before w.order row.key key) c.self.view_is;
      cause = tt;
    }
