-- What a manager stands for once more is tracked, and once a commit is kept.
use Rattle.std.proofs.Common.{◌≡◌, ℕ, inl, inr, ◌<◌, ◌≤◌, min, length, Bool, true, false, cond, ltb, List, [], ◌∷◌, ◌++◌, bytes_eq, Option, Some, None, refl, sym, ap, subst, ◌∙◌, arith}
use Rattle.std.specs.Prelude.{◌⊎◌, IfSome, Result, Ok, Err, OnOk, OnErr}
use Rattle.std.specs.List.{AllByRecursion}
use Rattle.std.proofs.lemmas.Bool.Decides.{nat_tests}
use Rattle.slate_types.specs.Keys.{among}
use Rattle.slate_txn.specs.State.{Commit}
use Rattle.slate_txn.specs.Named.{find_named, without, update_named}
use Rattle.slate_txn.specs.Managers.{Active, Manager, with_least, least_start, above, latest, KeepsAbove, AllUpTo, StandsFor, written, writes_at, IsWritten, IsCommitOf, with_commit}
use Rattle.slate_txn.specs.ManagersView.{StartsRise, IsKeptWithin, AreKept, IsTidy}
use Rattle.slate_txn.proofs.Newest.{newest, is, newest_more}
use Rattle.slate_txn.proofs.Keeps.{Entries, commit_writes, commits_writes}
use Rattle.slate_txn.proofs.NamedLaws.{update_all}
use Rattle.slate_types.proofs.Lists.{AllByRecursion_push, AllByRecursion_weaken}
use Rattle.slate_txn.proofs.Standing.{Actives, commits_within}

-- ---- what is tracked

module _ (f : Active → Active) (same : (t : Active) → (f t).start ≡ t.start) where
  rise_updated : (id : List ℕ) (ps : Actives) → StartsRise ps → StartsRise (update_named id f ps)
  rise_updated id [] h = tt
  rise_updated id (p ∷ ps) h = by (bytes_eq p.0 id) (rise_updated id ps h.1)
    where
      by : (b : Bool) → StartsRise (update_named id f ps) → StartsRise (cond b ((p.0, f p.1) ∷ ps) (p ∷ update_named id f ps))
      by true rest = (subst (λ (n : ℕ). AllByRecursion (λ (q : List ℕ × Active). n ≤ q.1.start) ps) (sym (same p.1)) h.0, h.1)
      by false rest = (update_all (λ (q : List ℕ × Active). p.1.start ≤ q.1.start) id f ps (λ q a. subst (λ (n : ℕ). p.1.start ≤ n) (sym (same q.1)) a) h.0, rest)

  least_updated : (id : List ℕ) (ps : Actives) → least_start (update_named id f ps) ≡ least_start ps
  least_updated id [] = refl
  least_updated id (p ∷ ps) = by (bytes_eq p.0 id) (least_updated id ps)
    where
      by : (b : Bool) → least_start (update_named id f ps) ≡ least_start ps → least_start (cond b ((p.0, f p.1) ∷ ps) (p ∷ update_named id f ps)) ≡ with_least p.1.start (least_start ps)
      by true rest = ap (λ n. with_least n (least_start ps)) (same p.1)
      by false rest = ap (with_least p.1.start) rest

  tidy_of : (m : Manager) (id : List ℕ) → IsTidy m → IsTidy (record m { active = update_named id f m.active })
  tidy_of m id h = record {
    counted = update_all _ id f m.active (λ p o. o) h.counted;
    rise = rise_updated id m.active h.rise;
    started = update_all (λ (p : List ℕ × Active). p.1.start ≤ m.last) id f m.active (λ p a. subst (λ (n : ℕ). n ≤ m.last) (sym (same p.1)) a) h.started;
    kept = h.kept;
  }

  pub tidy_updated : {X E : Type 0} (m : Manager) (id : List ℕ) (ps : Actives) (r : Result X E) → OnOk r (ps ≡ update_named id f m.active) → OnErr r (ps ≡ m.active) → IsTidy m → IsTidy (record m { active = ps })
  tidy_updated m id ps (Ok x) e g h = subst (λ (qs : Actives). IsTidy (record m { active = qs })) (sym e) (tidy_of m id h)
  tidy_updated m id ps (Err x) e g h = subst (λ (qs : Actives). IsTidy (record m { active = qs })) (sym g) h

  pub stands_updated : {X E : Type 0} (m : Manager) (id : List ℕ) (ps : Actives) (r : Result X E) → OnOk r (ps ≡ update_named id f m.active) → OnErr r (ps ≡ m.active) →
      (cs : List Commit) → StandsFor m cs → StandsFor (record m { active = ps }) cs
  stands_updated m id ps (Ok x) e g cs h = (h.0, subst (λ (o : Option ℕ). IfSome o (λ s. KeepsAbove s m.kept cs)) (sym (ap least_start e ∙ least_updated id m.active)) h.1)
  stands_updated m id ps (Err x) e g cs h = (h.0, subst (λ (o : Option ℕ). IfSome o (λ s. KeepsAbove s m.kept cs)) (sym (ap least_start g)) h.1)

-- ---- a commit

pub are_kept_more : (n m : ℕ) (es : Entries) → n ≤ m → AreKept n es → AreKept m es
are_kept_more n m es l h = record { rising = h.rising; within = AllByRecursion_weaken (IsKeptWithin n) (IsKeptWithin m) (λ e w. let high : e.1 ≤ n = w.1 in (w.0, omega arith)) es h.within }

pub tidy_committed : (m : Manager) (n : ℕ) (fs : Entries) → IsTidy m → m.last < n → AreKept n fs → IsTidy (record m { last = n; kept = fs })
tidy_committed m n fs h l k = record {
  counted = h.counted;
  rise = h.rise;
  started = AllByRecursion_weaken (λ (p : List ℕ × Active). p.1.start ≤ m.last) (λ (p : List ℕ × Active). p.1.start ≤ n) (λ p a. let low : p.1.start ≤ m.last = a in omega arith) m.active h.started;
  kept = k;
}

least_within : (n : ℕ) (ps : Actives) → AllByRecursion (λ p. p.1.start ≤ n) ps → IfSome (least_start ps) (λ s. s ≤ n)
least_within n [] h = tt
least_within n (p ∷ ps) h = by (least_start ps)
  where
    low : p.1.start ≤ n
    low = h.0

    by : (o : Option ℕ) → IfSome (with_least p.1.start o) (λ s. s ≤ n)
    by None = low
    by (Some m) = let l : min p.1.start m ≤ n = omega arith in l

writes_more : (cs : List Commit) (c : Commit) → commit_writes (cs ++ (c ∷ [])) ≡ commit_writes cs ++ ((c.seq, c.tracked) ∷ [])
writes_more [] c = refl
writes_more (d ∷ cs) c = ap (λ ws. (d.seq, d.tracked) ∷ ws) (writes_more cs c)

latest_more : (s n : ℕ) (ks : List (List ℕ)) (cs : List Commit) (c : Commit) → IsCommitOf n ks c → AllUpTo n cs → s < n → (k : List ℕ) → latest s (cs ++ (c ∷ [])) k ≡ cond (among k ks) (Some n) (latest s cs k)
latest_more s n ks cs c is-it within l k =
    commits_writes (is k) s (cs ++ (c ∷ [])) ∙ ap (newest (is k) s) (writes_more cs c)
    ∙ (let q = is-it.0 in let t = is-it.1 in λ i. newest (is k) s (commit_writes cs ++ ((q i, t i) ∷ [])))
    ∙ newest_more (is k) s n ks (commit_writes cs) (commits_within n cs within) l
    ∙ ap (λ o. cond (among k ks) (Some n) o) (sym (commits_writes (is k) s cs))

above_written : (s n : ℕ) → s < n → (b : Bool) (o : Option ℕ) → above s (written n b o) ≡ cond b (Some n) (above s o)
above_written s n l true o = let past : ltb s n ≡ true = grind (arith, nat_tests) in ap (λ t. cond t (Some n) None) past
above_written s n l false o = refl

raise_all : (n m : ℕ) → n ≤ m → (cs : List Commit) → AllUpTo n cs → AllUpTo m cs
raise_all n m l cs h = AllByRecursion_weaken (λ (c : Commit). c.seq ≤ n) (λ (c : Commit). c.seq ≤ m) (λ c a. let low : c.seq ≤ n = a in omega arith) cs h

-- the keys of the commit are kept
pub stands_written : (m : Manager) (n : ℕ) (ks : List (List ℕ)) (fs : Entries) (cs : List Commit) (c : Commit) → IsTidy m → m.last < n → IsWritten n ks m.kept fs → IsCommitOf n ks c → StandsFor m cs →
    StandsFor (record m { last = n; kept = fs }) (cs ++ (c ∷ []))
stands_written m n ks fs cs c tidy l wrote is-it h =
    (AllByRecursion_push (λ (d : Commit). d.seq ≤ n) cs c up (let q : c.seq ≡ n = is-it.0 in omega arith), by (least_start m.active) (least_within m.last m.active tidy.started) h.1)
  where
    up : AllUpTo n cs
    up = raise_all m.last n (omega arith) cs h.0

    by : (o : Option ℕ) → IfSome o (λ s. s ≤ m.last) → IfSome o (λ s. KeepsAbove s m.kept cs) → IfSome o (λ s. KeepsAbove s fs (cs ++ (c ∷ [])))
    by None low keeps = tt
    by (Some s) low keeps = λ k.
        let b : s ≤ m.last = low in
        let past : s < n = omega arith in
        ap (above s) (wrote k) ∙ above_written s n past (among k ks) (find_named k m.kept) ∙ ap (λ o. cond (among k ks) (Some n) o) (keeps k)
        ∙ sym (latest_more s n ks cs c is-it up past k)

-- nothing is added
pub stands_later : (m : Manager) (n : ℕ) (fs : Entries) (cs : List Commit) → m.last < n → ((k : List ℕ) → find_named k fs ≡ find_named k m.kept) → StandsFor m cs → StandsFor (record m { last = n; kept = fs }) cs
stands_later m n fs cs l same h = (raise_all m.last n (omega arith) cs h.0, by (least_start m.active) h.1)
  where
    by : (o : Option ℕ) → IfSome o (λ s. KeepsAbove s m.kept cs) → IfSome o (λ s. KeepsAbove s fs cs)
    by None keeps = tt
    by (Some s) keeps = λ k. ap (above s) (same k) ∙ keeps k

-- the only open transaction
alone : (id : List ℕ) (ps : Actives) (t : Active) → length ps ≤ 1 → find_named id ps ≡ Some t → without id ps ≡ []
alone id [] t l h = cc
alone id (p ∷ []) t l h = by (bytes_eq p.0 id) h
  where
    by : (b : Bool) → cond b (Some p.1) None ≡ Some t → cond b [] (p ∷ []) ≡ []
    by true e = refl
    by false e = cc
alone id (p ∷ q ∷ ps) t l h = absurd (omega arith)

abbrev pub IsOwnKept : Manager → List ℕ → ℕ → Entries → Type 0
IsOwnKept m id n fs = IsWritten n (writes_at (find_named id m.active)) m.kept fs ⊎ ((length m.active ≤ 1) × (fs ≡ m.kept))

pub stands_committed : (m : Manager) (id : List ℕ) (n : ℕ) (fs gs : Entries) → IsTidy m → m.last < n → IsOwnKept m id n fs →
    ((cs : List Commit) → StandsFor (record m { last = n; kept = fs }) cs → StandsFor (record m { last = n; active = without id m.active; kept = gs }) cs) →
    (cs : List Commit) (c : Commit) → IsCommitOf n (writes_at (find_named id m.active)) c → StandsFor m cs → StandsFor (record m { last = n; active = without id m.active; kept = gs }) (with_commit cs c (find_named id m.active))
stands_committed m id n fs gs tidy l how dropped cs c is-it h = by (find_named id m.active) refl how is-it
  where
    by : (o : Option Active) → find_named id m.active ≡ o → (IsWritten n (writes_at o) m.kept fs ⊎ ((length m.active ≤ 1) × (fs ≡ m.kept))) → IsCommitOf n (writes_at o) c →
        StandsFor (record m { last = n; active = without id m.active; kept = gs }) (with_commit cs c o)
    by None e (inl wrote) is = dropped cs (stands_later m n fs cs l wrote h)
    by None e (inr same) is = dropped cs (stands_later m n fs cs l (λ k. ap (find_named k) same.1) h)
    by (Some t) e (inl wrote) is = dropped (cs ++ (c ∷ [])) (stands_written m n t.writes fs cs c tidy l wrote is h)
    by (Some t) e (inr same) is =
        let none = alone id m.active t same.0 e in (
          AllByRecursion_push (λ (d : Commit). d.seq ≤ n) cs c (raise_all m.last n (omega arith) cs h.0) (let q : c.seq ≡ n = is.0 in omega arith),
          subst (λ (ps : Actives). IfSome (least_start ps) (λ s. KeepsAbove s gs (cs ++ (c ∷ [])))) (sym none) tt,
        )

abbrev pub IsBatchKept : Manager → List (List ℕ) → ℕ → Entries → Type 0
IsBatchKept m ks n fs = IsWritten n ks m.kept fs ⊎ ((m.active ≡ []) × (fs ≡ m.kept))

pub stands_batch : (m : Manager) (ks : List (List ℕ)) (n : ℕ) (fs : Entries) → IsTidy m → m.last < n → IsBatchKept m ks n fs →
    (cs : List Commit) (c : Commit) → IsCommitOf n ks c → StandsFor m cs → StandsFor (record m { last = n; kept = fs }) (cs ++ (c ∷ []))
stands_batch m ks n fs tidy l (inl wrote) cs c is-it h = stands_written m n ks fs cs c tidy l wrote is-it h
stands_batch m ks n fs tidy l (inr same) cs c is-it h = (
  AllByRecursion_push (λ (d : Commit). d.seq ≤ n) cs c (raise_all m.last n (omega arith) cs h.0) (let q : c.seq ≡ n = is-it.0 in omega arith),
  subst (λ (ps : Actives). IfSome (least_start ps) (λ s. KeepsAbove s fs (cs ++ (c ∷ [])))) (sym same.0) tt,
)
