-- What a run counts of its replies.
--     nothing_from n      the tally of no reply, where sequences start behind n
--     counted t a, tallied t rs      the tally with a reply more, and with more of them
--     tally_text t      its line
use Rattle.std.specs.Prelude.{ℕ, ◌+◌, ◌-◌, ◌^◌, min, if◌then◌else◌, List, [], ◌∷◌, ◌++◌, Some, codes, decimal}
use Rattle.slate_txn.specs.Reply.{Reply, Committed, Written}
use Rattle.slate_language.specs.declared.tally.Tally.{Tally}
use Rattle.slate_language.specs.Generate.{ended, is_hit}

abbrev pub nothing_from : ℕ → Tally
nothing_from n = record { replies = 0; committed = n; hits = 0 }

-- one more, up to the greatest number of 64 bits
abbrev pub one_more : ℕ → ℕ
one_more n = min (n + 1) (2 ^ 64 - 1)

abbrev pub committed_by : ℕ → Reply → ℕ
committed_by n (Committed (Some seq)) = seq
committed_by n (Written (Some seq)) = seq
committed_by n _ = n

abbrev pub counted : Tally → Reply → Tally
counted t a = record {
  replies = one_more t.replies;
  committed = committed_by t.committed a;
  hits = if is_hit a then one_more t.hits else t.hits;
}

abbrev pub tallied : Tally → List Reply → Tally
tallied t [] = t
tallied t (a ∷ rest) = tallied (counted t a) rest

abbrev pub tally_text : Tally → List ℕ
tally_text t = ended (codes "replies " ++ decimal t.replies ++ codes " committed " ++ decimal t.committed ++ codes " hits " ++ decimal t.hits)
