use Rattle.std.proofs.Common.{◌≡◌, ◌+◌, ◌-◌, ◌/◌, ◌<◌, length, take, drop, refl, sym, subst, arith}
use Rattle.slate_mem.specs.Slots.{AreBefore, AreBehind, all_slot_rows}
use Rattle.slate_mem.proofs.SlotLaws.{before_on, behind_last, behind_upto, filled_at, none_behind}
use Rattle.slate_mem.proofs.slots.slot_at.Goals as goal

pub begins_behind-requires : goal.begins_behind-requires
begins_behind-requires c =
    let middle = c.loop-low.low + (c.loop-low.high - c.loop-low.low) / 2 in
    let within : middle < length c.args.slots.now = omega (arith, c.loop-low.invariant.within) in
    (filled_at c.args.slots.now middle c.index-slots-middle.result c.requires within c.index-slots-middle.is).some

pub loop-low-init : goal.loop-low-init
loop-low-init c =
    record {
      ordered = omega arith;
      within = omega arith;
      before = tt;
      behind = none_behind (record { user_key = c.args.key.now; seq = c.args.seq }) c.args.slots.now (length c.args.slots.now) refl;
    }

pub loop-low-preserved-then-begins_behind : goal.loop-low-preserved-then-begins_behind
loop-low-preserved-then-begins_behind c =
    let was = c.loop-low.invariant in
    let slots = c.args.slots.now in
    let middle = c.loop-low.low + (c.loop-low.high - c.loop-low.low) / 2 in
    let within : middle < length slots = omega (arith, was.within) in
    record {
      ordered = omega arith;
      within = omega (arith, was.within);
      before = was.before;
      behind = behind_upto (record { user_key = c.args.key.now; seq = c.args.seq }) slots middle c.index-slots-middle.result c.begins_behind.result c.requires within c.index-slots-middle.is c.begins_behind.ensures c.if-begins_behind.true;
    }

pub loop-low-preserved : goal.loop-low-preserved
loop-low-preserved c =
    let was = c.loop-low.invariant in
    let slots = c.args.slots.now in
    let middle = c.loop-low.low + (c.loop-low.high - c.loop-low.low) / 2 in
    let within : middle < length slots = omega (arith, was.within) in
    record {
      ordered = omega arith;
      within = was.within;
      before = before_on (record { user_key = c.args.key.now; seq = c.args.seq }) slots middle (middle + 1 - 1) c.index-slots-middle.result c.begins_behind.result c.requires within c.index-slots-middle.is c.begins_behind.ensures c.if-begins_behind.false (omega arith);
      behind = was.behind;
    }

pub returns : goal.returns
returns c =
    let was = c.loop-low.invariant in
    let slots = c.args.slots.now in
    let low : c.loop-low.high ≡ c.loop-low.low = omega (arith, was.ordered) in
    record {
      within = λ some. omega (arith, some, was.within, was.ordered, c.saturating_sub.ensures);
      before = subst (λ n. AreBefore (record { user_key = c.args.key.now; seq = c.args.seq }) (all_slot_rows (take n slots))) (sym c.saturating_sub.ensures) was.before;
      behind = behind_last (record { user_key = c.args.key.now; seq = c.args.seq }) slots c.loop-low.low c.saturating_sub.result c.saturating_sub.ensures
          (subst (λ n. AreBehind (record { user_key = c.args.key.now; seq = c.args.seq }) (all_slot_rows (drop n slots))) low was.behind);
    }
