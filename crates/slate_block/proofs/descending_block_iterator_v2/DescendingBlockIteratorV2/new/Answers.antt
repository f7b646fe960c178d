use Rattle.std.proofs.Common.{length, sym, ap, ◌∙◌, arith, refl}
use Rattle.slate_block.proofs.BackLaws.{whole_back, read_back, back_is_read, named_is_ok}
use Rattle.slate_block.proofs.GroupSteps.{unnamed_reads}
use Rattle.slate_block.proofs.descending_block_iterator_v2.DescendingBlockIteratorV2.new.Goals as goal

pub returns-then-not-are_named : goal.returns-then-not-are_named
returns-then-not-are_named g c =
    record {
      reads = tt;
      rows = tt;
      only = tt;
      order = tt;
      begins = tt;
      cause = (let none = rw c.offsets.ensures at (sym c.are_named.ensures ∙ c.if-not-are_named.true) in
          rw c.corrupt.ensures (unnamed_reads (g.B.BlockLike.body_bytes c.args.block) (g.B.BlockLike.row_offsets c.args.block) none));
      damage = rw c.corrupt.ensures tt;
    }

pub invariant_of-result : goal.invariant_of-result
invariant_of-result g c = let same = ap length c.offsets-groups.ensures in omega (arith, same)

pub returns : goal.returns
returns g c =
    let reads_holds = whole_back (g.B.BlockLike.body_bytes c.args.block) (g.B.BlockLike.row_offsets c.args.block) _ _ (ap length c.offsets-groups.ensures) c.new.ensures.items in
    let named = rw c.offsets.ensures at (sym c.are_named.ensures ∙ c.if-not-are_named.false) in
    record {
      reads = reads_holds;
      rows = (λ rows. read_back (g.B.BlockLike.body_bytes c.args.block) (g.B.BlockLike.row_offsets c.args.block) _ rows named reads_holds);
      only = (λ rows. back_is_read (g.B.BlockLike.body_bytes c.args.block) (g.B.BlockLike.row_offsets c.args.block) _ rows named reads_holds);
      order = refl;
      begins = named_is_ok (g.B.BlockLike.body_bytes c.args.block) (g.B.BlockLike.row_offsets c.args.block) (rw c.offsets.ensures at (sym c.are_named.ensures ∙ c.if-not-are_named.false));
      cause = tt;
      damage = tt;
    }
