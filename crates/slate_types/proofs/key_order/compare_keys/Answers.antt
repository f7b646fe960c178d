use Rattle.std.proofs.Common.{◌≡◌, ◌+◌, ◌-◌, ◌∙◌, ℕ, sym, arith, take}
use Rattle.slate_types.proofs.WordOrder.{words, shorter_front, by_lengths}
use Rattle.slate_types.proofs.key_order.compare_keys.Goals as goal

pub loop-at-preserved : goal.loop-at-preserved
loop-at-preserved c =
    let xs = c.args.a.now in
    let ys = c.args.b.now in
    let both = words xs ys (λ k. omega (arith, c.shared_slice_known-1.given k)) (λ k. omega (arith, c.shared_slice_known-2-1.given k)) c.loop-at.at _ _ (omega arith) (omega arith) c.loop-at.invariant.front c.word_at-x.ensures c.word_at-y.ensures in
    record {
      within = omega arith;
      front = shorter_front _ (c.loop-at.at + 8) xs ys (omega arith) (both.alike c.if-x-y.false);
    }

pub returns-then-x-y : goal.returns-then-x-y
returns-then-x-y c =
    let both = words c.args.a.now c.args.b.now (λ k. omega (arith, c.shared_slice_known-1.given k)) (λ k. omega (arith, c.shared_slice_known-2-1.given k)) c.loop-at.at _ _ (omega arith) (omega arith) c.loop-at.invariant.front c.word_at-x.ensures c.word_at-y.ensures in
    c.cmp-then-x-y.ensures ∙ sym (both.apart c.if-x-y.true)

pub returns-then-z-w : goal.returns-then-z-w
returns-then-z-w c =
    let xs = c.args.a.now in
    let ys = c.args.b.now in
    let last : ℕ = c.min-both.result - 8 in
    let front = shorter_front last c.loop-at.at xs ys (omega arith) c.loop-at.invariant.front in
    let both = words xs ys (λ k. omega (arith, c.shared_slice_known-1.given k)) (λ k. omega (arith, c.shared_slice_known-2-1.given k)) last _ _ (omega arith) (omega arith) front c.word_at-z.ensures c.word_at-w.ensures in
    c.cmp-then-z-w.ensures ∙ sym (both.apart c.if-z-w.true)

pub returns : goal.returns
returns c =
    let xs = c.args.a.now in
    let ys = c.args.b.now in
    let last : ℕ = c.min-both.result - 8 in
    let front = shorter_front last c.loop-at.at xs ys (omega arith) c.loop-at.invariant.front in
    let both = words xs ys (λ k. omega (arith, c.shared_slice_known-1.given k)) (λ k. omega (arith, c.shared_slice_known-2-1.given k)) last _ _ (omega arith) (omega arith) front c.word_at-z.ensures c.word_at-w.ensures in
    c.cmp-2.ensures ∙ by_lengths c.min-both.result xs ys c.min-both.ensures (shorter_front c.min-both.result (last + 8) xs ys (omega arith) (both.alike c.if-z-w.false))
