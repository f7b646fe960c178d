-- Fields between commas.
--     is_comma b      the byte is a comma
--     first_part v, behind_comma v      the value up to its first comma, and what stands behind that
--     comma_fields      two indexes, of the first part and of the second
use Rattle.std.specs.Prelude.{ℕ, Bool, if◌then◌else◌, nat_eq, List, take, drop, Option, Some, None, option_map}
use Rattle.std.specs.List.{position, position_or_len}
use Rattle.slate_index.specs.Entries.{FieldsModel}

abbrev pub is_comma : ℕ → Bool
is_comma b = nat_eq b 44

abbrev pub first_part : List ℕ → List ℕ
first_part v = take (position_or_len is_comma v) v

abbrev pub behind_comma : List ℕ → Option (List ℕ)
behind_comma v = option_map (λ i. drop 1 (drop i v)) (position is_comma v)

abbrev pub comma_fields : FieldsModel
comma_fields = record {
  count = 2;
  field = λ n v. if nat_eq n 0 then Some (first_part v) else if nat_eq n 1 then option_map first_part (behind_comma v) else None;
}
