-- The laws of lines that a reader of scripts rests on, those of objects, and those of their files.
--     TakenLineIsFirst, LinesHaveNoEnd      on the lines of bytes
--     WholeLinesJoin, WholePartsJoin, WholePartIsWhole, PartialLineIsNotWhole, EndMakesWhole      on the bytes up to the last end
--     PutIsThere, OthersStay      on objects after a put
--     PlacesDiffer, NoPlaceIsBeside      on the files of a folder's objects
use Rattle.std.specs.Prelude.{◌≡◌, ℕ, true, List, [], ◌∷◌, ◌++◌, Some}
use Rattle.std.specs.List.{AllByRecursion}
use Rattle.slate_types.specs.Outside.{Objects}
use Rattle.slate_store.specs.Store.{object_at, with_object}
use Rattle.slate_store.specs.Places.{file_of, has_place, unfinished}
use Rattle.slate_store.specs.Lines.{lines_of, whole_part, HasNoEnd, TakesLine}

-- What a call takes as a line is the first of the lines that are left.
abbrev pub TakenLineIsFirst : Type 0
TakenLineIsFirst = (line before after : List ℕ) → TakesLine line before after → lines_of before ≡ line ∷ lines_of after

-- Behind whole lines the lines go on.
abbrev pub WholeLinesJoin : Type 0
WholeLinesJoin = (a b : List ℕ) → whole_part a ≡ a → lines_of (a ++ b) ≡ lines_of a ++ lines_of b

-- Behind whole lines the whole part goes on.
abbrev pub WholePartsJoin : Type 0
WholePartsJoin = (a b : List ℕ) → whole_part a ≡ a → whole_part (a ++ b) ≡ a ++ whole_part b

-- The whole part is whole.
abbrev pub WholePartIsWhole : Type 0
WholePartIsWhole = (a : List ℕ) → whole_part (whole_part a) ≡ whole_part a

-- A partial line adds nothing to the whole part.
abbrev pub PartialLineIsNotWhole : Type 0
PartialLineIsNotWhole = (a b : List ℕ) → HasNoEnd b → whole_part a ≡ a → whole_part (a ++ b) ≡ a

-- An end makes all before it whole.
abbrev pub EndMakesWhole : Type 0
EndMakesWhole = (a : List ℕ) → whole_part (a ++ (10 ∷ [])) ≡ a ++ (10 ∷ [])

-- No line has an end in it.
abbrev pub LinesHaveNoEnd : Type 0
LinesHaveNoEnd = (bytes : List ℕ) → AllByRecursion HasNoEnd (lines_of bytes)

-- What was put stands at its path.
abbrev pub PutIsThere : Type 0
PutIsThere = (os : Objects) (path bytes : List ℕ) → object_at (with_object os path bytes) path ≡ Some bytes

-- A put changes no other object.
abbrev pub OthersStay : Type 0
OthersStay = (os : Objects) (path bytes other : List ℕ) → ¬ (path ≡ other) → object_at (with_object os path bytes) other ≡ object_at os other

-- Two objects of a folder have two files.
abbrev pub PlacesDiffer : Type 0
PlacesDiffer = (folder path other : List ℕ) → file_of folder path ≡ file_of folder other → path ≡ other

-- None of them is the file as which an object is written.
abbrev pub NoPlaceIsBeside : Type 0
NoPlaceIsBeside = (folder path other : List ℕ) → has_place folder path ≡ true → file_of folder path ≡ file_of folder other ++ unfinished → ⊥
