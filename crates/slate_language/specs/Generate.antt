-- The script that a run makes for itself, and the one line that it answers.
--     generate n s      the lines of n rounds, from the number s
--     summary r script      how many replies, the last sequence, and how many gets found a row
use Rattle.std.specs.Prelude.{ℕ, zero, suc, ◌+◌, ◌*◌, ◌/◌, ◌%◌, ◌^◌, ◌==◌, Bool, true, false, if◌then◌else◌, List, [], ◌∷◌, ◌++◌, length, count_by, Some, codes, decimal}
use Rattle.slate_txn.specs.State.{Rules, opening, last}
use Rattle.slate_txn.specs.Reply.{Reply, Found}
use Rattle.slate_txn.specs.Step.{answers, after}
use Rattle.slate_store.specs.Lines.{lines_of}
use Rattle.slate_language.specs.Replies.{meanings}

abbrev pub drawn : ℕ → ℕ
drawn x = (x * 6364136223846793005 + 1442695040888963407) % 2 ^ 64

abbrev pub key_number : ℕ → List ℕ
key_number x = decimal (x / 2 ^ 33 % 1000)

abbrev pub ended : List ℕ → List ℕ
ended line = line ++ (10 ∷ [])

-- a round is a read and a write under one transaction, and after each 64th a flush
abbrev pub round : ℕ → ℕ → ℕ → List ℕ
round i first second = ended (codes "begin t ssi")
    ++ ended (codes "get t 'k" ++ key_number first)
    ++ ended (codes "put t 'k" ++ key_number second ++ codes " 'v" ++ decimal i)
    ++ ended (codes "commit t")
    ++ (if i % 64 == 0 then ended (codes "flush") else [])

abbrev pub rounds : ℕ → ℕ → ℕ → List ℕ
rounds i zero x = []
rounds i (suc n) x = round i (drawn x) (drawn (drawn x)) ++ rounds (i + 1) n (drawn (drawn x))

abbrev pub generate : ℕ → ℕ → List ℕ
generate n s = rounds 1 n s ++ ended (codes "flush")

abbrev pub is_hit : Reply → Bool
is_hit (Found (Some row)) = true
is_hit _ = false

abbrev pub summary : Rules → List ℕ → List ℕ
summary r script = ended (codes "replies " ++ decimal (length (answers r opening (meanings (lines_of script))))
    ++ codes " committed " ++ decimal (last r (after r opening (meanings (lines_of script))))
    ++ codes " hits " ++ decimal (count_by is_hit (answers r opening (meanings (lines_of script)))))
