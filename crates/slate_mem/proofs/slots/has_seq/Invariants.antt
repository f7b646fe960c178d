use Rattle.std.proofs.Common.{◌≡◌, ◌==◌, drop}
use Rattle.std.specs.List.{list_any}
use Rattle.slate_mem.proofs.slots.has_seq.Given as goal

abbrev pub invariant-loop-row : goal.invariant-loop-row
invariant-loop-row l = list_any (λ r. r.seq == l.seq) (drop l.row-index l.rows) ≡ list_any (λ r. r.seq == l.seq) l.rows
