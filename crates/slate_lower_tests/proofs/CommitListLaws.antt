-- What is found in a list of commits is what a conflict asks of them.
use Rattle.std.proofs.Common.{◌≡◌, ℕ, Bool, true, false, cond, ◌&&◌, ltb, List, [], ◌∷◌, map, filter, Some, refl, ap}
use Rattle.std.specs.List.{list_any}
use Rattle.slate_txn.specs.Conflict.{with_greatest, greatest}
use Rattle.slate_txn.specs.Managers.{Active, conflict_among, is_tracked}
use Rattle.slate_txn.specs.State.{Commit}
use Rattle.slate_lower_tests.specs.CommitList.{newest_tracked}

conflict_newest : (p : List ℕ → Bool) (b : ℕ) (cs : List Commit) → newest_tracked p b (map (λ c. (c.seq, c.tracked)) cs) ≡ greatest (map (λ c. c.seq) (filter (λ c. ltb b c.seq && list_any p c.tracked) cs))
conflict_newest p b [] = refl
conflict_newest p b (c ∷ cs) = by (ltb b c.seq && list_any p c.tracked) (conflict_newest p b cs)
  where
    by : (t : Bool) → newest_tracked p b (map (λ d. (d.seq, d.tracked)) cs) ≡ greatest (map (λ d. d.seq) (filter (λ d. ltb b d.seq && list_any p d.tracked) cs)) →
        cond t (with_greatest c.seq (newest_tracked p b (map (λ d. (d.seq, d.tracked)) cs))) (newest_tracked p b (map (λ d. (d.seq, d.tracked)) cs))
        ≡ greatest (map (λ d. d.seq) (cond t (c ∷ filter (λ d. ltb b d.seq && list_any p d.tracked) cs) (filter (λ d. ltb b d.seq && list_any p d.tracked) cs)))
    by true e = ap (with_greatest c.seq) e
    by false e = e

pub conflict_is : (t : Active) (cs : List Commit) → newest_tracked (is_tracked t) t.start (map (λ c. (c.seq, c.tracked)) cs) ≡ conflict_among cs (Some t)
conflict_is t cs = conflict_newest (is_tracked t) t.start cs
