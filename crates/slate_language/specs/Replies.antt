-- The replies to a script.
--     is_silent line      empty, or a comment
--     meanings ls      what the lines mean, up to the first that means nothing, without the silent ones
--     after_lines r s ls, replies_from r s ls      from a state: the state after the lines, and the reply to each, with a line end behind it
--     replies_to r ls      the replies from the opening
--     replies r script      the replies to a script
--     IsWellFormed script      each line is silent or in the grammar, and the script isn't too long
-- `parse` computes a line's meaning. That it is the relation of the grammar is said by the laws `ReadsTheGrammar` and `ReadsNothingElse`.
use Rattle.std.specs.Prelude.{ℕ, ◌<◌, Bool, true, false, ◌⊎◌, ◌==◌, List, [], ◌∷◌, ◌++◌, flat_map, length, Option, Some, None, IsTrue}
use Rattle.std.specs.List.{AllByRecursion}
use Rattle.slate_store.specs.Lines.{lines_of, script_limit}
use Rattle.slate_txn.specs.declared.line.Line.{Line}
use Rattle.slate_txn.specs.State.{Rules, State, opening}
use Rattle.slate_txn.specs.Reply.{Reply}
use Rattle.slate_txn.specs.Step.{answers, after}
use Rattle.slate_language.specs.Text.{reply_text}
use Rattle.slate_language.specs.Grammar.{IsLine}
use Rattle.slate_language.specs.Parse.{parse}

abbrev pub is_silent : List ℕ → Bool
is_silent [] = true
is_silent (b ∷ bs) = b == 35

-- a silent line, one that means nothing, and one that means something
abbrev pub onto_meanings : Bool → Option Line → List Line → List Line
onto_meanings true line rest = rest
onto_meanings false None rest = []
onto_meanings false (Some line) rest = line ∷ rest

abbrev pub meanings : List (List ℕ) → List Line
meanings [] = []
meanings (l ∷ ls) = onto_meanings (is_silent l) (parse l) (meanings ls)

abbrev pub reply_line : Reply → List ℕ
reply_line a = reply_text a ++ (10 ∷ [])

abbrev pub after_lines : Rules → State → List (List ℕ) → State
after_lines r s ls = after r s (meanings ls)

abbrev pub replies_from : Rules → State → List (List ℕ) → List ℕ
replies_from r s ls = flat_map reply_line (answers r s (meanings ls))

abbrev pub replies_to : Rules → List (List ℕ) → List ℕ
replies_to r ls = replies_from r opening ls

abbrev pub replies : Rules → List ℕ → List ℕ
replies r script = replies_to r (lines_of script)

abbrev pub IsWellFormed : List ℕ → Type 0
IsWellFormed script = (length script < script_limit) × AllByRecursion (λ l. IsTrue (is_silent l) ⊎ ((line : Line) × IsLine l line)) (lines_of script)
