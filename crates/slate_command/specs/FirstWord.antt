-- The first word of a program.
--     first_word w      what it asks for, where it can be meant
--     names_folder w      it can be meant as the name of a folder
--     is_reserved w      it is a word for which a call means something else
--     sets_option w      `=` stands before its first slash
--     is_mark b      the byte is `=` or a slash
use Rattle.std.specs.Prelude.{ℕ, Bool, true, false, not, ◌&&◌, ◌||◌, if◌then◌else◌, nat_eq, List, [], ◌∷◌, Option, Some, None, bytes_eq, codes}
use Rattle.slate_command.specs.declared.first_word.FirstWord.{FirstWord}
use Rattle.slate_command.specs.declared.first_word.FirstWord.TheVariants as words

abbrev pub is_mark : ℕ → Bool
is_mark b = nat_eq b 61 || nat_eq b 47

abbrev pub sets_option : List ℕ → Bool
sets_option [] = false
sets_option (b ∷ bs) = if is_mark b then nat_eq b 61 else sets_option bs

abbrev pub is_reserved : List ℕ → Bool
is_reserved w = bytes_eq w (codes "help") || bytes_eq w (codes "shell") || bytes_eq w (codes "tell")

abbrev pub names_folder : List ℕ → Bool
names_folder [] = false
names_folder (b ∷ bs) =
    not (nat_eq b 45) && not (is_reserved (b ∷ bs)) && not (sets_option (b ∷ bs))

abbrev pub first_word : List ℕ → Option FirstWord
first_word w =
    if bytes_eq w (codes "--help") || bytes_eq w (codes "-h") then Some words.Help
    else if bytes_eq w (codes "--version") then Some words.Version
    else if bytes_eq w (codes "-") then Some words.Memory
    else if names_folder w then Some words.Folder
    else None
