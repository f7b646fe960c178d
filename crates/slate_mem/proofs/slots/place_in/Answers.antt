use Rattle.std.proofs.Common.{◌≡◌, ◌+◌, ◌-◌, ◌/◌, ◌<◌, ◌∙◌, length, drop, refl, sym, subst, arith}
use Rattle.slate_types.specs.declared.sequenced_key.SequencedKey.{SequencedKey}
use Rattle.slate_mem.specs.Slots.{NoneAbove}
use Rattle.slate_mem.proofs.SlotLaws.{before_upto, behind_on, none_left}
use Rattle.slate_mem.proofs.slots.place_in.Goals as goal

pub loop-low-init : goal.loop-low-init
loop-low-init c =
    record {
      ordered = omega arith;
      within = omega arith;
      before = tt;
      behind = none_left (record { user_key = c.args.key.now; seq = c.args.seq }) c.args.rows.now (length c.args.rows.now) refl;
    }

pub loop-low-preserved-then-is_above : goal.loop-low-preserved-then-is_above
loop-low-preserved-then-is_above c =
    let was = c.loop-low.invariant in
    let rows = c.args.rows.now in
    let middle = c.loop-low.low + (c.loop-low.high - c.loop-low.low) / 2 in
    let within : middle < length rows = omega (arith, was.within) in
    record {
      ordered = omega arith;
      within = was.within;
      before = before_upto (record { user_key = c.args.key.now; seq = c.args.seq }) rows middle c.index-rows-middle.result c.requires within c.index-rows-middle.is (sym c.is_above.ensures ∙ c.if-is_above.true);
      behind = was.behind;
    }

pub loop-low-preserved : goal.loop-low-preserved
loop-low-preserved c =
    let was = c.loop-low.invariant in
    let rows = c.args.rows.now in
    let middle = c.loop-low.low + (c.loop-low.high - c.loop-low.low) / 2 in
    let within : middle < length rows = omega (arith, was.within) in
    record {
      ordered = omega arith;
      within = omega (arith, was.within);
      before = was.before;
      behind = behind_on (record { user_key = c.args.key.now; seq = c.args.seq }) rows middle c.index-rows-middle.result c.requires within c.index-rows-middle.is (sym c.is_above.ensures ∙ c.if-is_above.false);
    }

pub returns : goal.returns
returns c =
    let was = c.loop-low.invariant in
    let low : c.loop-low.high ≡ c.loop-low.low = omega (arith, was.ordered) in
    record {
      within = omega (arith, was.within, was.ordered);
      before = was.before;
      behind = subst (λ n. NoneAbove (record { user_key = c.args.key.now; seq = c.args.seq }) (drop n c.args.rows.now)) low was.behind;
    }
