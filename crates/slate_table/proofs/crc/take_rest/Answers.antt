use Rattle.std.proofs.Common.{ℕ, ◌≡◌, ◌+◌, ◌*◌, ap, ◌∙◌, arith}
use Rattle.slate_table.specs.Checksum.{folded_byte}
use Rattle.slate_table.proofs.FoldLaws.{run, take_step, round_is}
use Rattle.slate_table.proofs.crc.take_rest.Goals as goal

pub loop-group-preserved : goal.loop-group-preserved
loop-group-preserved c =
    take_step c.args.history.now c.args.bytes.now c.folded_at.result c.args.from c.loop-group.group c.loop-group.crc _ c.folded_at.ensures.len c.folded_at.ensures.lanes
    c.loop-group.invariant c.sixteen_more-crc.ensures

pub returns : goal.returns
returns c start lt f =
    let all : 16 * c.loop-group.group ≡ 304 = omega (arith, c.loop-group-test.false, c.loop-group.auto.group-end) in
    c.loop-group.invariant ∙ ap (run (λ (k : ℕ). folded_byte c.args.history.now c.args.bytes.now (c.args.from + k))) all
    ∙ round_is start c.args.from c.args.history.now c.args.bytes.now lt (λ k. omega (arith, c.type_inv.history k)) c.requires.long f
