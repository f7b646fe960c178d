use Rattle.std.proofs.Common.{◌≡◌, ℕ, List, ◌++◌, length, Some, None, ap, ◌∙◌}
use Rattle.slate_block.specs.Varint.{IsVarint}
use Rattle.slate_block.specs.Damage.{front_varint}
use Rattle.slate_block.proofs.Groups.{front_again}
use Rattle.slate_block.proofs.reading_laws.varints_are_found.Goals as goal

missed : (bytes text rest : List ℕ) (n : ℕ) → front_varint bytes ≡ None → IsVarint text n → bytes ≡ text ++ rest → ⊥
missed bytes text rest n e s h = let found : front_varint bytes ≡ Some (n, length text) = ap front_varint h ∙ front_again text rest n s in cc

pub returns : goal.returns
returns c = (front_again, missed)
