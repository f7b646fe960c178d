use Rattle.std.proofs.Common.{◌≡◌, ◌+◌, ◌<◌, ◌≤◌, ◌&&◌, Bool, List, nat_le, true, set, length, ap, sym, subst, ◌∙◌, arith}
use Rattle.slate_types.specs.declared.types.RowEntry.{RowEntry}
use Rattle.slate_types.specs.Keys.{in_range}
use Rattle.slate_mem.proofs.MarkLaws.{Marked, all_marked, marked_off, marked_on}
use Rattle.slate_mem.proofs.SlotLaws.{length_set}
use Rattle.slate_mem.proofs.slots.mark_outside.Goals as goal
use Rattle.slate_mem.proofs.slots.mark_outside.Goals.{then-not-is_seen, else-not-is_seen}

pub loop-at-preserved : goal.loop-at-preserved
loop-at-preserved c =
    let keeps : RowEntry → Bool = λ r. in_range c.args.range.now r.key && nat_le r.seq c.args.seq in
    let rows = c.args.rows.now in
    let old = c.args.gone.now in
    let now = c.loop-at.gone in
    let at = c.loop-at.at in
    let row = c.index-rows-at.result in
    let was = c.loop-at.invariant in
    let seen : keeps row ≡ c.is_seen.result = cc (c.is_seen.ensures, c.index-rows-at.is) in
    let marked : Marked (λ r. in_range c.args.range.now r.key && nat_le r.seq c.args.seq) rows old c.if-not-is_seen.gone (at + 1) = elim c.if-not-is_seen.branch [
      | then-not-is_seen w ↦
          subst (λ (gs : List Bool). Marked (λ r. in_range c.args.range.now r.key && nat_le r.seq c.args.seq) rows old gs (at + 1)) (sym w.gone-is)
          (marked_off (λ r. in_range c.args.range.now r.key && nat_le r.seq c.args.seq) rows old now at row was c.index-rows-at.is (seen ∙ w.if-not-is_seen.true) (omega (arith, c.if-not-is_seen.array_long, ap length w.gone-is, length_set now at true, c.min-count.ensures, c.loop-at-test.true)))
      | else-not-is_seen w ↦
          subst (λ (gs : List Bool). Marked (λ r. in_range c.args.range.now r.key && nat_le r.seq c.args.seq) rows old gs (at + 1)) (sym w.gone-is)
          (marked_on (λ r. in_range c.args.range.now r.key && nat_le r.seq c.args.seq) rows old now at row was c.index-rows-at.is (seen ∙ w.if-not-is_seen.false))
    ] in
    marked

pub returns : goal.returns
returns c = λ few.
    let all : length c.args.rows.now ≤ c.loop-at.at = omega (arith, few, c.min-count.ensures, c.loop-at-test.false) in
    all_marked (λ (r : RowEntry). in_range c.args.range.now r.key && nat_le r.seq c.args.seq) c.args.rows.now c.args.gone.now c.loop-at.gone c.loop-at.at c.loop-at.invariant all
