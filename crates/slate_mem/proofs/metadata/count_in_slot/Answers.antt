use Rattle.std.proofs.Common.{◌+◌, length, ap, sym, subst, arith}
use Rattle.slate_mem.specs.declared.metadata.Count.{Count}
use Rattle.slate_mem.specs.Slots.{rows_from, rows_in}
use Rattle.slate_mem.proofs.CountLaws.{Counted, Counts, all_counted, counted_as, counted_on, none_counted, one_counted}
use Rattle.slate_mem.proofs.SlotNewest.{rows_left}
use Rattle.slate_mem.proofs.metadata.count_in_slot.Goals as goal
use Rattle.slate_mem.proofs.metadata.count_in_slot.Goals.{in-Some, in_default}

pub row_at-requires : goal.row_at-requires
row_at-requires c = omega (arith, ap length c.stored-end.ensures)

pub loop-at-init : goal.loop-at-init
loop-at-init c = record { within = omega arith; counted = none_counted c.args.count.now (rows_in c.args.slot.now) c.requires.rows c.requires.bytes }

pub loop-at-preserved : goal.loop-at-preserved
loop-at-preserved c =
    let old = c.args.count.now in
    let now = c.loop-at.count in
    let s = c.args.slot.now in
    let at = c.loop-at.at in
    let all = rows_in s in
    let left = rows_from s (at + 1) in
    let was = c.loop-at.invariant.counted in
    let counted : Counted old c.match-row_at.count all left = elim c.match-row_at.branch [
      | in-Some w ↦
          let e = w.count_row.ensures in
          let next = w.count_row.new.count in
          subst (λ (x : Count). Counted old x all left) (sym w.count-is)
          (counted_on old now next all _ left (one_counted now next w.in-Some.row.now e.rows e.bytes e.tick e.last e.first) (counted_as old now all (rows_from s at) _ w.in-Some.ensures.row was))
      | in_default w ↦ subst (λ (x : Count). Counted old x all left) (sym w.count-is) (counted_as old now all (rows_from s at) left w.in_default.ensures.row was)
    ] in
    record { within = omega arith; counted = counted }

counts : (c : goal.After-loop-at) → Counts c.args.count.now c.loop-at.count (rows_in c.args.slot.now)
counts c =
    let s = c.args.slot.now in
    let at = c.loop-at.at in
    all_counted c.args.count.now c.loop-at.count (rows_in s) (counted_as _ _ (rows_in s) (rows_from s at) _ (rows_left s at (omega (arith, ap length c.stored-end.ensures))) c.loop-at.invariant.counted)

pub returns-clause-rows : goal.returns-clause-rows
returns-clause-rows c = (counts c).rows

pub returns-clause-bytes : goal.returns-clause-bytes
returns-clause-bytes c = (counts c).bytes

pub returns-clause-tick : goal.returns-clause-tick
returns-clause-tick c = (counts c).tick

pub returns-clause-last : goal.returns-clause-last
returns-clause-last c = (counts c).last

pub returns-clause-first : goal.returns-clause-first
returns-clause-first c = (counts c).first
