-- Where the objects of a folder stand.
--     unfinished      what the name of a file ends with that is being written
--     is_path_part name      a part of an object's path: no name of such a file, and none that leads elsewhere
--     is_path path      names with a slash between two
--     has_place folder path      the folder has a name, and the path is one
--     file_of folder path      the path of the object's file
use Rattle.std.specs.Prelude.{ℕ, ◌==◌, List, ◌++◌, length, Bool, not, ◌&&◌, codes, bytes_eq}
use Rattle.std.specs.List.{list_all, slice_split, ends_with}

abbrev pub unfinished : List ℕ
unfinished = codes ".tmp"

abbrev pub is_path_part : List ℕ → Bool
is_path_part name = not (length name == 0) && not (bytes_eq name (codes ".")) && not (bytes_eq name (codes "..")) && not (ends_with (λ a b. a == b) name unfinished)

abbrev pub is_path : List ℕ → Bool
is_path path = list_all is_path_part (slice_split (λ b. b == 47) path)

abbrev pub has_place : List ℕ → List ℕ → Bool
has_place folder path = not (length folder == 0) && is_path path

abbrev pub file_of : List ℕ → List ℕ → List ℕ
file_of folder path = folder ++ codes "/" ++ path
