-- What the parts that tests hand in compute.
--     appended_cut u v      v behind u, cut to a short value
--     turned u v      the same turned round
use Rattle.std.specs.Prelude.{ℕ, ◌-◌, ◌^◌, ◌≤◌, List, [], ◌++◌, length, reverse, take, Option, unwrap_or}
use Rattle.std.proofs.Common.{sym, subst}
use Rattle.std.proofs.Math.Nat.{min-le_left}
use Rattle.std.proofs.lemmas.List.{length-reverse, length-take}
use Rattle.slate_types.specs.Fold.{KeepsShort}

abbrev pub appended_cut : Option (List ℕ) → List ℕ → List ℕ
appended_cut u v = take (2 ^ 32 - 1) (unwrap_or u [] ++ v)

pub appended_short : KeepsShort appended_cut
appended_short u v h k =
    subst (λ n. n ≤ 2 ^ 32 - 1) (sym (length-take (2 ^ 32 - 1) (unwrap_or u [] ++ v))) (min-le_left (2 ^ 32 - 1) (length (unwrap_or u [] ++ v)))

abbrev pub turned : Option (List ℕ) → List ℕ → List ℕ
turned u v = reverse (appended_cut u v)

pub turned_short : KeepsShort turned
turned_short u v h k = subst (λ n. n ≤ 2 ^ 32 - 1) (sym (length-reverse (appended_cut u v))) (appended_short u v h k)
