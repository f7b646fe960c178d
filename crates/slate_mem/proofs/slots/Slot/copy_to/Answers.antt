use Rattle.std.proofs.Common.{◌≡◌, ◌+◌, ◌++◌, ◌∷◌, [], append_assoc, append-nil, length, ap, sym, ◌∙◌, arith}
use Rattle.slate_mem.specs.Slots.{rows_from, rows_in}
use Rattle.slate_mem.proofs.SlotNewest.{rows_left}
use Rattle.slate_mem.proofs.slots.Slot.copy_to.Goals as goal
use Rattle.slate_mem.proofs.slots.Slot.copy_to.Goals.{in-Some+in_ok-clone+in_ok-push, in_default}

pub row_at-requires : goal.row_at-requires
row_at-requires c = omega (arith, ap length c.stored-count.ensures)

pub loop-at-preserved : goal.loop-at-preserved
loop-at-preserved c =
    let was = c.loop-at.invariant in
    let at = c.loop-at.at in
    let found = c.loop-at.found.items in
    let rest = rows_from c.args.self.now (at + 1) in
    let copied : c.match-row_at.found.items ++ rest ≡ found ++ rows_from c.args.self.now at = elim c.match-row_at.branch [
      | in-Some+in_ok-clone+in_ok-push w ↦
          let row = w.in-Some.row.now in
          ap (λ v. v.items ++ rest) w.found-is ∙ ap (λ xs. xs ++ rest) (w.in_ok-push.ensures.items ∙ ap (λ r. found ++ (r ∷ [])) w.in_ok-clone.ensures.cases)
          ∙ append_assoc found (row ∷ []) rest ∙ ap (λ xs. found ++ xs) (sym w.in-Some.ensures.row)
      | in_default w ↦ ap (λ v. v.items ++ rest) w.found-is ∙ ap (λ xs. found ++ xs) (sym w.in_default.ensures.row)
    ] in
    record { within = omega arith; copied = copied ∙ was.copied }

pub returns : goal.returns
returns c =
    let was = c.loop-at.invariant in
    let found = c.loop-at.found.items in
    sym (append-nil found) ∙ ap (λ xs. found ++ xs) (sym (rows_left c.args.self.now c.loop-at.at (omega (arith, ap length c.stored-count.ensures)))) ∙ was.copied ∙ ap (λ xs. xs ++ rows_in c.args.self.now) c.reserve.ensures.items
