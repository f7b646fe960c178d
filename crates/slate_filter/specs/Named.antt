-- A named filter as a pair.
use Rattle.std.specs.Prelude.{ℕ, List, string_bytes}
use Rattle.slate_filter.specs.declared.named_filter.NamedFilter.{NamedFilter}

abbrev pub named_pair : NamedFilter → List ℕ × List ℕ
named_pair f = (string_bytes f.name, f.filter)
