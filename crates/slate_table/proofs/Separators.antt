-- Separators are fronts of keys.
use Rattle.std.proofs.Common.{◌≡◌, ℕ, ◌+◌, ◌≤◌, true, false, List, length, take, refl, sym, ◌∙◌, arith}
use Rattle.std.specs.Prelude.{bytes_eq}
use Rattle.std.proofs.lemmas.List.{take_all}
use Rattle.slate_block.specs.BlockSpelling.{longest}
use Rattle.slate_table.specs.Parts.{separator}

pub whole_key : (previous key : List ℕ) → bytes_eq previous key ≡ true → take (length key) key ≡ separator previous key
whole_key previous key h = rw h (take_all (length key) key (omega arith))

pub short_front : (previous key : List ℕ) → bytes_eq previous key ≡ false → take (longest previous key + 1) key ≡ separator previous key
short_front previous key h = rw h refl

pub all_shared : (previous key : List ℕ) → bytes_eq previous key ≡ false → length key ≤ longest previous key → take (length key) key ≡ separator previous key
all_shared previous key h le = rw h (take_all (length key) key (omega arith) ∙ sym (take_all (longest previous key + 1) key (omega (arith, le))))
