-- Which commits a manager stands for, from step to step.
use Rattle.std.proofs.Common.{◌≡◌, ℕ, ◌+◌, ◌^◌, inl, inr, ◌<◌, ◌≤◌, min, Bool, true, false, cond, ◌&&◌, ◌||◌, ltb, List, [], ◌∷◌, ◌++◌, filter, bytes_eq, Option, Some, None, unwrap_or, refl, sym, ap, subst, ◌∙◌, arith}
use Rattle.std.specs.Prelude.{◌⊎◌, IfSome, slice_get}
use Rattle.std.specs.List.{list_any, AllByRecursion}
use Rattle.std.specs.List.Sorted.{IsStrictlySortedBy}
use Rattle.std.specs.Map.{keys_of}
use Rattle.std.proofs.lemmas.Bool.Decides.{nat_tests}
use Rattle.std.specs.BTreeMap.{insert_entry}
use Rattle.std.specs.declared.cmp.Ordering.TheVariants.{Less}
use Rattle.std.proofs.lemmas.Slice.Eq.{bytes_eq-Decides}
use Rattle.slate_types.specs.Keys.{key_cmp, among, in_range}
use Rattle.slate_txn.specs.State.{Commit}
use Rattle.slate_txn.specs.Conflict.{with_greatest}
use Rattle.slate_txn.specs.Named.{find_named, without}
use Rattle.slate_txn.specs.Managers.{Active, Manager, untracked, with_least, least_start, KeepsAbove, AllUpTo, StandsFor, newest_kept, is_tracked, verdict, verdict_of, later, conflict_among}
use Rattle.slate_txn.specs.ManagersView.{StartsRise, IsKeptWithin, AreKept, IsTidy, pruned}
use Rattle.slate_txn.proofs.Newest.{is, none_above}
use Rattle.slate_txn.proofs.Keeps.{Entries, writes_of, kept_writes, commit_writes, commits_writes, newest_of_key, whole, raised, same_test, either_test}
use Rattle.slate_txn.specs.Ids.{id_of}
use Rattle.slate_txn.proofs.IdLaws.{all_past, wider}
use Rattle.slate_txn.proofs.NamedLaws.{all_without, put_last}
use Rattle.slate_types.proofs.Lists.{AllByRecursion_push, AllByRecursion_weaken}

abbrev pub Actives : Type 0
Actives = List (List ℕ × Active)

-- ---- the least start

least_same : (n : ℕ) (ps : Actives) → AllByRecursion (λ p. n ≤ p.1.start) ps → with_least n (least_start ps) ≡ Some n
least_same n [] h = refl
least_same n (p ∷ ps) h =
    let low : n ≤ p.1.start = h.0 in
    by (least_start ps) low (least_same n ps h.1)
  where
    by : (o : Option ℕ) → n ≤ p.1.start → with_least n o ≡ Some n → with_least n (with_least p.1.start o) ≡ Some n
    by None low later = ap Some (let e : min n p.1.start ≡ n = omega arith in e)
    by (Some m) low later = ap Some (let l : min n m ≡ n = ap (λ o. unwrap_or o n) later in let e : min n (min p.1.start m) ≡ n = omega arith in e)

-- starts rise, so the first is the least
pub least_first : (ps : Actives) (p : List ℕ × Active) → slice_get ps 0 ≡ Some p → StartsRise ps → Some p.1.start ≡ least_start ps
least_first [] p e h = cc
least_first (q ∷ ps) p e h =
    let same : q.1.start ≡ p.1.start = ap (λ (o : Option (List ℕ × Active)). (unwrap_or o p).1.start) e in
    sym (least_same q.1.start ps h.0 ∙ ap Some same)

-- a start past all others is not the least of several
abbrev pub or_start : Option ℕ → ℕ → Option ℕ
or_start None n = Some n
or_start (Some m) n = Some m

pub least_more : (ps : Actives) (id : List ℕ) (n : ℕ) → AllByRecursion (λ p. p.1.start ≤ n) ps → least_start (ps ++ ((id, untracked n) ∷ [])) ≡ or_start (least_start ps) n
least_more [] id n h = refl
least_more (p ∷ ps) id n h = ap (with_least p.1.start) (least_more ps id n h.1) ∙ by (least_start ps)
  where
    low : p.1.start ≤ n
    low = h.0

    by : (o : Option ℕ) → with_least p.1.start (or_start o n) ≡ or_start (with_least p.1.start o) n
    by None = ap Some (let e : min p.1.start n ≡ p.1.start = omega arith in e)
    by (Some m) = refl

-- without one of them the least start is no lower
pub record Raised (ps : Actives) (s : ℕ) : Type 0 where
  pub was : ℕ
  pub least : least_start ps ≡ Some was
  pub below : was ≤ s

pub least_without : (id : List ℕ) (ps : Actives) → IfSome (least_start (without id ps)) (λ s. Raised ps s)
least_without id [] = tt
least_without id (p ∷ ps) = by (bytes_eq p.0 id) (least_without id ps)
  where
    same : (o : Option ℕ) → least_start ps ≡ o → IfSome o (λ s. Raised (p ∷ ps) s)
    same None e = tt
    same (Some m) e = record { was = min p.1.start m; least = ap (with_least p.1.start) e; below = omega arith }

    other : (o : Option ℕ) → IfSome o (λ s. Raised ps s) → IfSome (with_least p.1.start o) (λ s. Raised (p ∷ ps) s)
    other None r = from (least_start ps) refl
      where
        from : (o : Option ℕ) → least_start ps ≡ o → Raised (p ∷ ps) p.1.start
        from None e = record { was = p.1.start; least = ap (with_least p.1.start) e; below = omega arith }
        from (Some m) e = record { was = min p.1.start m; least = ap (with_least p.1.start) e; below = omega arith }
    other (Some m) r = let b : r.was ≤ m = r.below in record { was = min p.1.start r.was; least = ap (with_least p.1.start) r.least; below = omega arith }

    by : (t : Bool) → IfSome (least_start (without id ps)) (λ s. Raised ps s) → IfSome (least_start (cond t ps (p ∷ without id ps))) (λ s. Raised (p ∷ ps) s)
    by true r = same (least_start ps) refl
    by false r = other (least_start (without id ps)) r

-- an open transaction began no earlier than the least start
pub record Least (ps : Actives) (n : ℕ) : Type 0 where
  pub start : ℕ
  pub is : least_start ps ≡ Some start
  pub below : start ≤ n

pub least_of : (id : List ℕ) (ps : Actives) (t : Active) → find_named id ps ≡ Some t → Least ps t.start
least_of id [] t h = cc
least_of id (p ∷ ps) t h = by (bytes_eq p.0 id) h (least_of id ps t)
  where
    first : (o : Option ℕ) → least_start ps ≡ o → p.1.start ≡ t.start → Least (p ∷ ps) t.start
    first None e f = record { start = p.1.start; is = ap (with_least p.1.start) e; below = omega arith }
    first (Some m) e f = record { start = min p.1.start m; is = ap (with_least p.1.start) e; below = omega arith }

    later : Least ps t.start → Least (p ∷ ps) t.start
    later l = let b : l.start ≤ t.start = l.below in record { start = min p.1.start l.start; is = ap (with_least p.1.start) l.is; below = omega arith }

    by : (b : Bool) → cond b (Some p.1) (find_named id ps) ≡ Some t → (find_named id ps ≡ Some t → Least ps t.start) → Least (p ∷ ps) t.start
    by true e r = first (least_start ps) refl (ap (λ (o : Option Active). (unwrap_or o t).start) e)
    by false e r = later (r e)

-- ---- verdicts

three : (a b c : Bool) → (a || ((b || false) || c)) ≡ ((a || b) || c)
three true b c = refl
three false true c = refl
three false false c = refl

pub tracked_walk : (t : Active) (s : ℕ) (es : Entries) →
    later (later (newest_kept (λ k. among k t.writes) s es) (newest_kept (λ k. among k t.reads) s es)) (newest_kept (λ k. list_any (λ r. in_range r k) t.ranges) s es) ≡ newest_kept (is_tracked t) s es
tracked_walk t s es =
    ap (λ o. later o (newest_kept (λ k. list_any (λ r. in_range r k) t.ranges) s es)) (sym (either_test (λ k. among k t.writes) (λ k. among k t.reads) s es))
    ∙ sym (either_test (λ k. among k t.writes || among k t.reads) (λ k. list_any (λ r. in_range r k) t.ranges) s es)
    ∙ sym (same_test (is_tracked t) (λ k. (among k t.writes || among k t.reads) || list_any (λ r. in_range r k) t.ranges) s es (λ k. three (among k t.writes) (among k t.reads) (list_any (λ r. in_range r k) t.ranges)))

-- where a manager stands for commits, its verdict is that of all of them
pub verdict_is : (m : Manager) (id : List ℕ) (cs : List Commit) → IsTidy m → StandsFor m cs → verdict m id ≡ conflict_among cs (find_named id m.active)
verdict_is m id cs tidy stands = by (find_named id m.active) refl
  where
    by : (o : Option Active) → find_named id m.active ≡ o → verdict_of m.kept o ≡ conflict_among cs o
    by None e = refl
    by (Some t) e =
        let l = least_of id m.active t e in
        let keeps = subst (λ (o : Option ℕ). IfSome o (λ s. KeepsAbove s m.kept cs)) l.is stands.1 in
        whole (is_tracked t) l.start t.start m.kept cs l.below tidy.kept.rising keeps

-- ---- what is dropped

above_filter : (k : List ℕ) (f : List ℕ × ℕ → Bool) (es : Entries) → AllByRecursion (λ x. key_cmp k x ≡ Less) (keys_of es) → AllByRecursion (λ x. key_cmp k x ≡ Less) (keys_of (filter f es))
above_filter k f [] h = tt
above_filter k f (e ∷ es) h = by (f e) (above_filter k f es h.1)
  where
    by : (t : Bool) → AllByRecursion (λ x. key_cmp k x ≡ Less) (keys_of (filter f es)) → AllByRecursion (λ x. key_cmp k x ≡ Less) (keys_of (cond t (e ∷ filter f es) (filter f es)))
    by true r = (h.0, r)
    by false r = r

rising_filter : (f : List ℕ × ℕ → Bool) (es : Entries) → IsStrictlySortedBy key_cmp (keys_of es) → IsStrictlySortedBy key_cmp (keys_of (filter f es))
unfolding IsStrictlySortedBy
rising_filter f [] h = tt
rising_filter f (e ∷ es) h = by (f e) (rising_filter f es h.1)
  where
    by : (t : Bool) → IsStrictlySortedBy key_cmp (keys_of (filter f es)) → IsStrictlySortedBy key_cmp (keys_of (cond t (e ∷ filter f es) (filter f es)))
    by true r = (above_filter e.0 f es h.0, r)
    by false r = r

all_filter : (P : List ℕ × ℕ → Type 0) (f : List ℕ × ℕ → Bool) (es : Entries) → AllByRecursion P es → AllByRecursion P (filter f es)
all_filter P f [] h = tt
all_filter P f (e ∷ es) h = by (f e) (all_filter P f es h.1)
  where
    by : (t : Bool) → AllByRecursion P (filter f es) → AllByRecursion P (cond t (e ∷ filter f es) (filter f es))
    by true r = (h.0, r)
    by false r = r

pub kept_pruned : (n : ℕ) (o : Option ℕ) (es : Entries) → AreKept n es → AreKept n (pruned o es)
unfolding IsStrictlySortedBy
kept_pruned n None es h = record { rising = tt; within = tt }
kept_pruned n (Some s) es h = record { rising = rising_filter (λ e. ltb s e.1) es h.rising; within = all_filter (IsKeptWithin n) (λ e. ltb s e.1) es h.within }

-- what is dropped at or below s is asked by none that began at s or later
newest_pruned : (p : List ℕ → Bool) (s b : ℕ) → s ≤ b → (es : Entries) → newest_kept p b (filter (λ e. ltb s e.1) es) ≡ newest_kept p b es
newest_pruned p s b l [] = refl
newest_pruned p s b l (e ∷ es) = by (ltb s e.1) refl (newest_pruned p s b l es)
  where
    by : (t : Bool) → ltb s e.1 ≡ t → newest_kept p b (filter (λ e. ltb s e.1) es) ≡ newest_kept p b es →
        newest_kept p b (cond t (e ∷ filter (λ e. ltb s e.1) es) (filter (λ e. ltb s e.1) es)) ≡ newest_kept p b (e ∷ es)
    by true d r = λ i. cond (ltb b e.1 && p e.0) (with_greatest e.1 (r i)) (r i)
    by false d r =
        let low : ltb b e.1 ≡ false = grind (arith, nat_tests) in
        r ∙ sym (ap (λ t. cond (t && p e.0) (with_greatest e.1 (newest_kept p b es)) (newest_kept p b es)) low)

keeps_pruned : (s : ℕ) (es : Entries) (cs : List Commit) → IsStrictlySortedBy key_cmp (keys_of es) → KeepsAbove s es cs → KeepsAbove s (filter (λ e. ltb s e.1) es) cs
keeps_pruned s es cs rising h k =
    let low : s ≤ s = omega arith in
    sym (newest_of_key k s (filter (λ e. ltb s e.1) es) (rising_filter (λ e. ltb s e.1) es rising))
    ∙ newest_pruned (is k) s s low es ∙ newest_of_key k s es rising ∙ h k

-- what a manager keeps once a transaction is forgotten
abbrev pub IsPruned : Option ℕ → Option ℕ → Entries → Entries → Type 0
IsPruned before start es fs = (fs ≡ pruned start es) ⊎ ((before ≡ start) × (fs ≡ es))

pub kept_dropped : (n : ℕ) (before start : Option ℕ) (es fs : Entries) → IsPruned before start es fs → AreKept n es → AreKept n fs
kept_dropped n before start es fs (inl e) h = subst (AreKept n) (sym e) (kept_pruned n start es h)
kept_dropped n before start es fs (inr e) h = subst (AreKept n) (sym e.1) h

pub stands_dropped : (m : Manager) (id : List ℕ) (before : Option ℕ) (fs : Entries) → IsTidy m → IsPruned before (least_start (without id m.active)) m.kept fs →
    (cs : List Commit) → StandsFor m cs → StandsFor (record m { active = without id m.active; kept = fs }) cs
stands_dropped m id before fs tidy how cs h = (h.0, by (least_start (without id m.active)) (least_without id m.active) how)
  where
    at : (s : ℕ) → KeepsAbove s m.kept cs → IsPruned before (Some s) m.kept fs → KeepsAbove s fs cs
    at s k (inl e) = subst (λ (gs : Entries). KeepsAbove s gs cs) (sym e) (keeps_pruned s m.kept cs tidy.kept.rising k)
    at s k (inr e) = subst (λ (gs : Entries). KeepsAbove s gs cs) (sym e.1) k

    by : (o : Option ℕ) → IfSome o (λ s. Raised m.active s) → IsPruned before o m.kept fs → IfSome o (λ s. KeepsAbove s fs cs)
    by None r how = tt
    by (Some s) r how =
        let keeps = subst (λ (o : Option ℕ). IfSome o (λ w. KeepsAbove w m.kept cs)) r.least h.1 in
        at s (raised r.was s m.kept cs r.below tidy.kept.rising keeps) how

find_other : (id other : List ℕ) (ps : Actives) → bytes_eq id other ≡ false → find_named other (without id ps) ≡ find_named other ps
find_other id other [] h = refl
find_other id other (p ∷ ps) h = by (bytes_eq p.0 id) refl (find_other id other ps h)
  where
    by : (t : Bool) → bytes_eq p.0 id ≡ t → find_named other (without id ps) ≡ find_named other ps → find_named other (cond t ps (p ∷ without id ps)) ≡ find_named other (p ∷ ps)
    by true e r =
        let not_it : bytes_eq p.0 other ≡ false = ap (λ x. bytes_eq x other) ((bytes_eq-Decides p.0 id).0 e) ∙ h in
        sym (ap (λ t. cond t (Some p.1) (find_named other ps)) not_it)
    by false e r = ap (λ o. cond (bytes_eq p.0 other) (Some p.1) o) r

-- pruning changes no verdict of an open transaction
pub verdict_dropped : (m : Manager) (id : List ℕ) (before : Option ℕ) (fs : Entries) → IsPruned before (least_start (without id m.active)) m.kept fs →
    (other : List ℕ) → bytes_eq id other ≡ false → verdict (record m { active = without id m.active; kept = fs }) other ≡ verdict m other
verdict_dropped m id before fs how other apart =
    by (find_named other (without id m.active)) refl ∙ ap (verdict_of m.kept) (find_other id other m.active apart)
  where
    at : (t : Active) (l : Least (without id m.active) t.start) → IsPruned before (Some l.start) m.kept fs → newest_kept (is_tracked t) t.start fs ≡ newest_kept (is_tracked t) t.start m.kept
    at t l (inl e) = ap (newest_kept (is_tracked t) t.start) e ∙ newest_pruned (is_tracked t) l.start t.start l.below m.kept
    at t l (inr e) = ap (newest_kept (is_tracked t) t.start) e.1

    by : (o : Option Active) → find_named other (without id m.active) ≡ o → verdict_of fs o ≡ verdict_of m.kept o
    by None e = refl
    by (Some t) e =
        let l = least_of other (without id m.active) t e in
        at t l (subst (λ (s : Option ℕ). IsPruned before s m.kept fs) l.is how)

-- ---- what a manager holds of open transactions

pub rise_without : (id : List ℕ) (ps : Actives) → StartsRise ps → StartsRise (without id ps)
rise_without id [] h = tt
rise_without id (p ∷ ps) h = by (bytes_eq p.0 id) (rise_without id ps h.1)
  where
    by : (b : Bool) → StartsRise (without id ps) → StartsRise (cond b ps (p ∷ without id ps))
    by true rest = h.1
    by false rest = (all_without _ id ps h.0, rest)

pub rise_more : (ps : Actives) (p : List ℕ × Active) → StartsRise ps → AllByRecursion (λ q. q.1.start ≤ p.1.start) ps → StartsRise (ps ++ (p ∷ []))
rise_more [] p h w = (tt, tt)
rise_more (q ∷ ps) p h w = (AllByRecursion_push _ ps p h.0 w.0, rise_more ps p h.1 w.1)

pub tidy_dropped : (m : Manager) (id : List ℕ) (fs : Entries) → IsTidy m → AreKept m.last fs → IsTidy (record m { active = without id m.active; kept = fs })
tidy_dropped m id fs h k = record { counted = all_without _ id m.active h.counted; rise = rise_without id m.active h.rise; started = all_without _ id m.active h.started; kept = k }

-- ---- a new transaction

abbrev pub after_new : Manager → Manager
after_new m = record m { ids = m.ids + 1; active = m.active ++ ((id_of (m.ids + 1), untracked m.last) ∷ []) }

pub put_new : (m : Manager) → IsTidy m → m.ids < 2 ^ 64 → insert_entry key_cmp m.active (id_of (m.ids + 1)) (untracked m.last) ≡ m.active ++ ((id_of (m.ids + 1), untracked m.last) ∷ [])
put_new m h l = put_last (id_of (m.ids + 1)) (untracked m.last) m.active (all_past m.ids (m.ids + 1) m.active (omega arith) (omega arith) h.counted)

pub tidy_new : (m : Manager) → IsTidy m → IsTidy (after_new m)
tidy_new m h = record {
  counted = AllByRecursion_push _ m.active _ (AllByRecursion_weaken _ _ (λ p o. wider m.ids (m.ids + 1) (omega arith) p.0 o) m.active h.counted) (record { count = m.ids + 1; within = omega arith; is = refl });
  rise = rise_more m.active (id_of (m.ids + 1), untracked m.last) h.rise h.started;
  started = AllByRecursion_push _ m.active _ h.started (omega arith);
  kept = h.kept;
}

writes_within : (n : ℕ) (es : Entries) → AllByRecursion (IsKeptWithin n) es → AllByRecursion (λ w. w.0 ≤ n) (writes_of es)
writes_within n [] h = tt
writes_within n (e ∷ es) h = (h.0.1, writes_within n es h.1)

pub commits_within : (n : ℕ) (cs : List Commit) → AllUpTo n cs → AllByRecursion (λ w. w.0 ≤ n) (commit_writes cs)
commits_within n [] h = tt
commits_within n (c ∷ cs) h = (h.0, commits_within n cs h.1)

pub stands_new : (m : Manager) → IsTidy m → (cs : List Commit) → StandsFor m cs → StandsFor (after_new m) cs
stands_new m tidy cs h = (h.0, subst (λ (o : Option ℕ). IfSome o (λ s. KeepsAbove s m.kept cs)) (sym (least_more m.active (id_of (m.ids + 1)) m.last tidy.started)) (by (least_start m.active) h.1))
  where
    none : KeepsAbove m.last m.kept cs
    none k =
        sym (newest_of_key k m.last m.kept tidy.kept.rising) ∙ kept_writes (is k) m.last m.kept ∙ none_above (is k) m.last (writes_of m.kept) (writes_within m.last m.kept tidy.kept.within)
        ∙ sym (commits_writes (is k) m.last cs ∙ none_above (is k) m.last (commit_writes cs) (commits_within m.last cs h.0))

    by : (o : Option ℕ) → IfSome o (λ s. KeepsAbove s m.kept cs) → IfSome (or_start o m.last) (λ s. KeepsAbove s m.kept cs)
    by None k = none
    by (Some s) k = k
