-- The lines of a stream of bytes. A line ends with LF (10), and the last may lack it.
--     lines_of bytes      the bytes of each line, without its LF
--     HasNoEnd bytes      no LF is among them
--     whole_part bytes      the bytes up to the last LF
--     TakesLine line before after      line is the first of `before`, and `after` is what stands behind it
--     GivesLine, IsEnd, KeepsAll      what a call of the line reader makes of the bytes that are left
use Rattle.std.specs.Prelude.{◌≡◌, ℕ, ◌+◌, ◌-◌, ◌^◌, ◌<◌, ◌⊎◌, Bool, not, if◌then◌else◌, ◌==◌, IsTrue, List, [], ◌∷◌, ◌++◌, length}
use Rattle.std.specs.List.{list_any, list_all}

abbrev pub is_end : ℕ → Bool
is_end b = b == 10

abbrev pub prepend_byte : ℕ → List (List ℕ) → List (List ℕ)
prepend_byte b [] = (b ∷ []) ∷ []
prepend_byte b (l ∷ ls) = (b ∷ l) ∷ ls

abbrev pub before_lines : ℕ → List (List ℕ) → List (List ℕ)
before_lines b ls = if is_end b then [] ∷ ls else prepend_byte b ls

abbrev pub lines_of : List ℕ → List (List ℕ)
lines_of [] = []
lines_of (b ∷ bs) = before_lines b (lines_of bs)

abbrev pub HasNoEnd : List ℕ → Type 0
HasNoEnd bytes = IsTrue (list_all (λ b. not (is_end b)) bytes)

abbrev pub whole_part : List ℕ → List ℕ
whole_part [] = []
whole_part (b ∷ bs) = if list_any is_end (b ∷ bs) then b ∷ whole_part bs else []

-- with its LF, or as the last line without one
abbrev pub TakesLine : List ℕ → List ℕ → List ℕ → Type 0
TakesLine line before after = HasNoEnd line
    × ((before ≡ line ++ (10 ∷ after)) ⊎ ((before ≡ line) × (0 < length line) × (after ≡ [])))

-- ---- the line reader

-- at which a script is too long
abbrev pub script_limit : ℕ
script_limit = 2 ^ 32 - 1

-- held: the bytes that were read and not given; given: how many were given, line ends included
pub record LinesModel : Type 0 where
  pub held : List ℕ
  pub given : ℕ

-- `left` and `rest` are what the source has left before and after the call. A last line without LF ends below the limit.
pub record GivesLine (line : List ℕ) (old : LinesModel) (left : List ℕ) (new : LinesModel) (rest : List ℕ) : Type 0 where
  pub takes : TakesLine line (old.held ++ left) (new.held ++ rest)
  pub counts : new.given + length (new.held ++ rest) ≡ old.given + length (old.held ++ left)
  pub below : old.held ++ left ≡ line → new.given < script_limit

pub record IsEnd (old : LinesModel) (left : List ℕ) (new : LinesModel) (rest : List ℕ) : Type 0 where
  pub nothing : old.held ++ left ≡ []
  pub still : new.held ++ rest ≡ []
  pub counts : new.given ≡ old.given
  pub below : new.given < script_limit

pub record KeepsAll (old : LinesModel) (left : List ℕ) (new : LinesModel) (rest : List ℕ) : Type 0 where
  pub bytes : new.held ++ rest ≡ old.held ++ left
  pub counts : new.given ≡ old.given
