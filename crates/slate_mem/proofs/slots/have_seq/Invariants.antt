use Rattle.std.proofs.Common.{◌≡◌, ◌==◌, drop}
use Rattle.std.specs.List.{list_all}
use Rattle.slate_mem.proofs.slots.have_seq.Given as goal

abbrev pub invariant-loop-row : goal.invariant-loop-row
invariant-loop-row l = list_all (λ r. r.seq == l.seq) (drop l.row-index l.rows) ≡ list_all (λ r. r.seq == l.seq) l.rows
