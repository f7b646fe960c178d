use Rattle.std.proofs.Common.{ℕ, List, ◌-◌, ◌≡◌, ◌<◌, ◌∙◌, take, ap, sym, arith, inr, rules}
use Rattle.std.proofs.lemmas.Result.{err_from_is_err_and, IfOk-from_err}
use Rattle.slate_types.specs.declared.error.SlateDBError.TheVariants.{OutOfMemory}
use Rattle.slate_block.specs.RowReading.{refusal}
use Rattle.slate_block.proofs.Groups.{IsBytes}
use Rattle.slate_table.specs.declared.section.SectionPlace.{SectionPlace}
use Rattle.slate_table.specs.Parts.{summed}
use Rattle.slate_table.specs.SectionReading.{covered_by, part_in, part_of_sum}
use Rattle.slate_table.proofs.Results.{mapped}
use Rattle.slate_table.proofs.SectionReads.{cover_bytes, part_reads, part_is_front, refused_part}
use Rattle.slate_table.proofs.section.checked_part.Goals as goal
use Rattle.slate_types.proofs.Exits.{err_exit}

covers : (p : SectionPlace) → p.kind < 256 → IsBytes (covered_by p)
covers p small = cover_bytes p.version p.id.0 p.kind p.offset small

pub returns-in_err-len : goal.returns-in_err-len
returns-in_err-len c =
    let p = err_from_is_err_and c.from_residual.result c.from_residual.ensures.1 in
    record {
      found = IfOk-from_err c.from_residual.result _ c.from_residual.ensures.0;
      front = IfOk-from_err c.from_residual.result _ c.from_residual.ensures.0;
      fits = IfOk-from_err c.from_residual.result _ c.from_residual.ensures.0;
      only = (λ part is. rw (p.1, p.2)
          (refused_part (covered_by c.args.place) c.args.bytes.now c.as_slice.result.now part c.in_err-len.field-0.0 OutOfMemory (covers c.args.place (search rules)) c.checked_len.ensures.bytes c.as_slice.ensures c.in_err-len.ensures.cause is));
      cause = err_exit c.from_residual.result _ c.from_residual.ensures.1 _ (inr (ap (λ (b : List ℕ). refusal (part_in (covered_by c.args.place) b)) (sym c.as_slice.ensures) ∙ ap refusal c.in_err-len.ensures.cause));
    }

pub returns-clause-found : goal.returns-clause-found
returns-clause-found c =
    let slice = c.as_slice.result.now in
    let len = c.in_ok-len.len in
    let whole : len - 0 ≡ len = omega arith in
    let front = ap (λ (n : ℕ). take n c.args.bytes.now) whole ∙ ap (take len) (sym c.as_slice.ensures) in
    let stored = sym c.as_slice.ensures ∙ part_reads (covered_by c.args.place) slice (take len slice) c.checked_len.ensures.bytes c.in_ok-len.ensures.found in
    mapped c.slice.result c.map_err.result _ _ _ c.map_err.ensures.cases (λ part is. stored ∙ ap (summed (covered_by c.args.place)) (sym (is ∙ front))) c.slice.ensures.ok

pub returns-clause-front : goal.returns-clause-front
returns-clause-front c =
    let slice = c.as_slice.result.now in
    let len = c.in_ok-len.len in
    let whole : len - 0 ≡ len = omega arith in
    let front = ap (λ (n : ℕ). take n c.args.bytes.now) whole ∙ ap (take len) (sym c.as_slice.ensures)
    ∙ part_is_front (covered_by c.args.place) slice (take len slice) c.in_ok-len.ensures.found ∙ ap part_of_sum c.as_slice.ensures in
    mapped c.slice.result c.map_err.result _ _ _ c.map_err.ensures.cases (λ part is. is ∙ front) c.slice.ensures.ok
