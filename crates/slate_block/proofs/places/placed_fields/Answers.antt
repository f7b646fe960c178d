use Rattle.std.proofs.Common.{◌≡◌, Ok, Err, ap, sym, ◌∙◌, arith}
use Rattle.slate_block.proofs.KeySteps.{bytes_refused, fields_placed, fields_refused, key_refused}
use Rattle.slate_block.proofs.places.placed_fields.Goals.{then-from-upto-via-then-from-upto, then-from-upto-via-else-from-upto+then-upto-len}
use Rattle.slate_block.proofs.places.placed_fields.Goals as goal

pub returns-then-from-upto-clause-cause : goal.returns-then-from-upto-clause-cause
returns-then-from-upto-clause-cause c =
    bytes_refused c.args.body.now c.args.other.now c.args.from c.args.upto (λ a b.
    elim c.then-from-upto.branch [
      | then-from-upto-via-then-from-upto w ↦ omega (arith, a)
      | then-from-upto-via-else-from-upto+then-upto-len w ↦ omega (arith, b, w.len.ensures.value)
    ])
    ∙ ap Err (sym c.corrupt.ensures)

pub returns-in-Err-clause-cause : goal.returns-in-Err-clause-cause
returns-in-Err-clause-cause c =
    let read = sym (rw c.as_slice.ensures at c.in-Err.ensures.value) in
    fields_refused c.args.body.now c.args.other.now c.args.from c.args.upto c.in-Err.error (omega arith) (omega (arith, c.len.ensures.value)) read ∙ ap Err (sym c.moved.ensures)

pub returns-then-not-is_restored-clause-cause : goal.returns-then-not-is_restored-clause-cause
returns-then-not-is_restored-clause-cause c =
    let read = sym (rw c.as_slice.ensures at c.in-Ok.ensures.value) in
    let is_none = rw c.as_slice.ensures at (sym c.is_restored.ensures ∙ c.if-not-is_restored.true) in
    key_refused c.args.body.now c.args.other.now c.args.from c.args.upto c.in-Ok.row (omega arith) (omega (arith, c.len.ensures.value)) read is_none ∙ ap Err (sym c.corrupt-then-not-is_restored.ensures)

pub returns-clause-found : goal.returns-clause-found
returns-clause-found c =
    let read = sym (rw c.as_slice.ensures at c.in-Ok.ensures.value) in
    let is_one = rw c.as_slice.ensures at (sym c.is_restored.ensures ∙ c.if-not-is_restored.false) in
    fields_placed c.args.body.now c.args.other.now c.args.from c.args.upto c.in-Ok.row (omega arith) (omega (arith, c.len.ensures.value)) read is_one
