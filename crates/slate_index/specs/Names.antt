-- Which byte strings are names: 1 to 32 of the letters a to z and the digits.
use Rattle.std.specs.Prelude.{ℕ, Bool, ◌&&◌, ◌||◌, nat_le, List, length}
use Rattle.std.specs.List.{list_all}

abbrev pub is_letter_or_digit : ℕ → Bool
is_letter_or_digit b = (nat_le 97 b && nat_le b 122) || (nat_le 48 b && nat_le b 57)

abbrev pub is_plain_name : List ℕ → Bool
is_plain_name n = nat_le 1 (length n) && nat_le (length n) 32 && list_all is_letter_or_digit n
