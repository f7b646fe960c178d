use Rattle.std.proofs.Common.{◌≡◌, [], subst}
use Rattle.std.specs.Prelude.{IsTrue}
use Rattle.slate_block.specs.BlockWalks.{ReadsLeft}
use Rattle.slate_block.proofs.BackLaws.{empty_tells}
use Rattle.slate_block.proofs.descending_block_iterator_v2.DescendingBlockIteratorV2.is_empty.Goals as goal

pub returns-then-self-eq0 : goal.returns-then-self-eq0
returns-then-self-eq0 g c =
    let it = c.self.inside in
    subst (λ (w : ReadsLeft). (IsTrue c.is_empty.result → w.reads ≡ []) × (w.reads ≡ [] → IsTrue c.is_empty.result)) c.self.view_is
    (empty_tells (g.B.BlockLike.body_bytes it.block) (g.B.BlockLike.row_offsets it.block) it.groups _ it.rows.items c.is_empty.result c.if-self-eq0.true (it.rows.ok.0) c.is_empty.ensures)
