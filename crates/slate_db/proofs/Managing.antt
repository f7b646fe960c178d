-- What ties the managers to the state stays so.
use Rattle.std.proofs.Common.{◌≡◌, ◌⊎◌, inl, inr, IfSome, ℕ, ◌+◌, ◌-◌, ◌<◌, ◌≤◌, Bool, true, false, cond, bytes_eq, List, [], ◌∷◌, ◌++◌, map, Option, Some, None, refl, sym, ap, subst, ◌∙◌, arith}
use Rattle.std.specs.List.{AllByRecursion}
use Rattle.std.proofs.lemmas.List.{map-append}
use Rattle.slate_types.specs.declared.config.IsolationLevel.{IsolationLevel}
use Rattle.slate_txn.specs.Conflict.{tracked_writes}
use Rattle.slate_txn.specs.HandedOver.{Grown}
use Rattle.slate_txn.specs.Tested.{IsTracked}
use Rattle.slate_txn.specs.Ids.{IsOfCount, IsSnapshotOf}
use Rattle.slate_types.proofs.Lists.{AllByRecursion_push, AllByRecursion_weaken}
use Rattle.slate_txn.specs.Managers.{Active, Manager, Snapshots, StandsFor, KeepsAbove, IsCommitOf, least_start, untracked, with_commit, writes_at}
use Rattle.slate_txn.specs.Named.{find_named, without, update_named}
use Rattle.slate_txn.specs.State.{Commit, Tx, begun}
use Rattle.slate_txn.proofs.NamedLaws.{without_last, update_map}
use Rattle.slate_db.specs.Managed.{IsManaged, as_untracked}

pub without_as : (id : List ℕ) (ps : List (List ℕ × Tx)) → without id (map as_untracked ps) ≡ map as_untracked (without id ps)
without_as id [] = refl
without_as id (p ∷ ps) = by (bytes_eq p.0 id) (without_as id ps)
  where
    by : (b : Bool) → without id (map as_untracked ps) ≡ map as_untracked (without id ps) → cond b (map as_untracked ps) (as_untracked p ∷ without id (map as_untracked ps)) ≡ map as_untracked (cond b ps (p ∷ without id ps))
    by true rest = refl
    by false rest = ap (λ xs. as_untracked p ∷ xs) rest

pub find_as : (id : List ℕ) (ps : List (List ℕ × Tx)) (t : Tx) → find_named id ps ≡ Some t → find_named id (map as_untracked ps) ≡ Some (untracked t.begin)
find_as id [] t e = cc
find_as id (p ∷ ps) t e = by (bytes_eq p.0 id) e (find_as id ps t)
  where
    by : (b : Bool) → cond b (Some p.1) (find_named id ps) ≡ Some t → (find_named id ps ≡ Some t → find_named id (map as_untracked ps) ≡ Some (untracked t.begin)) → cond b (Some (untracked p.1.begin)) (find_named id (map as_untracked ps)) ≡ Some (untracked t.begin)
    by true e rest = let same : p.1 ≡ t = cc in ap (λ (u : Tx). Some (untracked u.begin)) same
    by false e rest = rest e

all_as : (ids : ℕ) (ps : List (List ℕ × Tx)) → AllByRecursion (λ p. IsOfCount ids p.0) ps → AllByRecursion (λ p. IsOfCount ids p.0) (map as_untracked ps)
all_as ids [] h = tt
all_as ids (p ∷ ps) h = (h.0, all_as ids ps h.1)

-- an opening that is taken back: all other ids are earlier ones
pub back_named : (m n : Manager) (id : List ℕ) (a : Active) (ids : ℕ) (ps : List (List ℕ × Tx)) → n ≡ record m { ids = m.ids + 1; active = m.active ++ ((id, a) ∷ []) } → find_named id m.active ≡ None → m.ids ≡ ids → m.active ≡ map as_untracked ps →
    AllByRecursion (λ p. IsOfCount ids p.0) ps → AllByRecursion (λ p. IsOfCount (n.ids - 1) p.0) (without id n.active)
back_named m n id a ids ps is fresh counted opened h =
    subst (λ (x : Manager). AllByRecursion (λ p. IsOfCount (x.ids - 1) p.0) (without id x.active)) (sym is)
    (subst (λ (qs : List (List ℕ × Active)). AllByRecursion (λ p. IsOfCount (m.ids + 1 - 1) p.0) qs) (sym (without_last id a m.active fresh))
    (subst (λ (k : ℕ). AllByRecursion (λ p. IsOfCount k p.0) m.active) (let e : ids ≡ m.ids + 1 - 1 = omega arith in e)
    (subst (λ (qs : List (List ℕ × Active)). AllByRecursion (λ p. IsOfCount ids p.0) qs) (sym opened) (all_as ids ps h))))

pub managed_back : (m n o : Manager) (id : List ℕ) (a : Active) (ids last : ℕ) (cs : List Commit) (ps : List (List ℕ × Tx)) → n ≡ record m { ids = m.ids + 1; active = m.active ++ ((id, a) ∷ []) } → find_named id m.active ≡ None →
    o ≡ record n { ids = n.ids - 1; active = without id n.active; kept = o.kept } → (StandsFor m cs → StandsFor o cs) → IsManaged m ids last cs ps → IsManaged o ids last cs ps
managed_back m n o id a ids last cs ps is fresh back stands w = record {
  stands = stands w.stands;
  newest = ap (λ (x : Manager). x.last) back ∙ ap (λ (x : Manager). x.last) is ∙ w.newest;
  counted = ap (λ (x : Manager). x.ids) back ∙ ap (λ (x : Manager). x.ids - 1) is ∙ (let e : m.ids + 1 - 1 ≡ ids = omega (arith, w.counted) in e);
  opened = ap (λ (x : Manager). x.active) back ∙ ap (λ (x : Manager). without id x.active) is ∙ without_last id a m.active fresh ∙ w.opened;
}

pub managed_begun : (m n : Manager) (ids last : ℕ) (cs : List Commit) (ps : List (List ℕ × Tx)) (id : List ℕ) (level : IsolationLevel) →
    n ≡ record m { ids = m.ids + 1; active = m.active ++ ((id, untracked last) ∷ []) } → (StandsFor m cs → StandsFor n cs) → IsManaged m ids last cs ps → IsManaged n (ids + 1) last cs (ps ++ ((id, begun level last) ∷ []))
managed_begun m n ids last cs ps id level is stands w = record {
  stands = stands w.stands;
  newest = ap (λ (x : Manager). x.last) is ∙ w.newest;
  counted = ap (λ (x : Manager). x.ids) is ∙ ap (λ i. i + 1) w.counted;
  opened = ap (λ (x : Manager). x.active) is ∙ ap (λ xs. xs ++ ((id, untracked last) ∷ [])) w.opened ∙ sym (map-append as_untracked ps ((id, begun level last) ∷ []));
}

pub managed_ended : (m n : Manager) (ids last : ℕ) (cs : List Commit) (ps : List (List ℕ × Tx)) (id : List ℕ) →
    n ≡ record m { active = without id m.active; kept = n.kept } → (StandsFor m cs → StandsFor n cs) → IsManaged m ids last cs ps → IsManaged n ids last cs (without id ps)
managed_ended m n ids last cs ps id is stands w = record {
  stands = stands w.stands;
  newest = ap (λ (x : Manager). x.last) is ∙ w.newest;
  counted = ap (λ (x : Manager). x.ids) is ∙ w.counted;
  opened = ap (λ (x : Manager). x.active) is ∙ ap (without id) w.opened ∙ without_as id ps;
}

pub managed_changed : (m : Manager) (ids last : ℕ) (cs : List Commit) (ps : List (List ℕ × Tx)) (id : List ℕ) (f : Tx → Tx) → ((t : Tx) → (f t).begin ≡ t.begin) → IsManaged m ids last cs ps → IsManaged m ids last cs (update_named id f ps)
managed_changed m ids last cs ps id f same w = record {
  stands = w.stands;
  newest = w.newest;
  counted = w.counted;
  opened = w.opened ∙ sym (update_map as_untracked id f ps (λ p. ap (λ n. (p.0, untracked n)) (same p.1)));
}

pub managed_written : (m n : Manager) (ids last seq : ℕ) (cs : List Commit) (ps : List (List ℕ × Tx)) (c : Commit) → n ≡ record m { last = seq; kept = n.kept } → (StandsFor m cs → StandsFor n (cs ++ (c ∷ []))) → IsManaged m ids last cs ps →
    IsManaged n ids seq (cs ++ (c ∷ [])) ps
managed_written m n ids last seq cs ps c is stands w = record {
  stands = stands w.stands;
  newest = ap (λ (x : Manager). x.last) is;
  counted = ap (λ (x : Manager). x.ids) is ∙ w.counted;
  opened = ap (λ (x : Manager). x.active) is ∙ w.opened;
}

-- a commit by itself, of which the manager was given the keys, or anything where nothing is open
pub stands_tracked : (m n : Manager) (seq : ℕ) (cs : List Commit) (c : Commit) (keys : List (List ℕ)) → n ≡ record m { last = seq; kept = n.kept } → m.last < seq → c.seq ≡ seq → (m.active ≡ []) ⊎ (keys ≡ c.tracked)
    → ((ds : List Commit) (d : Commit) → IsCommitOf seq keys d → StandsFor m ds → StandsFor n (ds ++ (d ∷ []))) → StandsFor m cs → StandsFor n (cs ++ (c ∷ []))
stands_tracked m n seq cs c keys is later number (inl idle) stands s =
    let last : n.last ≡ seq = ap (λ (x : Manager). x.last) is in
    let none : n.active ≡ [] = ap (λ (x : Manager). x.active) is ∙ idle in (
      AllByRecursion_push (λ d. d.seq ≤ n.last) cs c (AllByRecursion_weaken (λ d. d.seq ≤ m.last) (λ d. d.seq ≤ n.last) (λ d h. omega (arith, h, last, later)) cs s.0) (omega (arith, number, last)),
      subst (λ (ps : List (List ℕ × Active)). IfSome (least_start ps) (λ start. KeepsAbove start n.kept (cs ++ (c ∷ [])))) (sym none) tt,
    )
stands_tracked m n seq cs c keys is later number (inr tracked) stands s = stands cs c (number, sym tracked) s

-- of the same manager, but for what it keeps
pub managed_same : (m n : Manager) (ids last : ℕ) (cs : List Commit) (ps : List (List ℕ × Tx)) → n ≡ m → IsManaged m ids last cs ps → IsManaged n ids last cs ps
managed_same m n ids last cs ps is w = subst (λ (x : Manager). IsManaged x ids last cs ps) (sym is) w

-- a transaction that handed over, and is then forgotten, or has committed
pub managed_dropped : (m g n : Manager) (ids last : ℕ) (cs : List Commit) (ps : List (List ℕ × Tx)) (id : List ℕ) → Grown id m g → n ≡ record g { active = without id g.active; kept = n.kept } → (StandsFor g cs → StandsFor n cs) → IsManaged m ids last cs ps →
    IsManaged n ids last cs (without id ps)
managed_dropped m g n ids last cs ps id grown is stands w = record {
  stands = stands (grown.stands cs w.stands);
  newest = ap (λ (x : Manager). x.last) is ∙ ap (λ (x : Manager). x.last) grown.others ∙ w.newest;
  counted = ap (λ (x : Manager). x.ids) is ∙ ap (λ (x : Manager). x.ids) grown.others ∙ w.counted;
  opened = ap (λ (x : Manager). x.active) is ∙ grown.apart ∙ ap (without id) w.opened ∙ without_as id ps;
}

pub managed_committed : (m g n : Manager) (ids last seq : ℕ) (cs : List Commit) (ps : List (List ℕ × Tx)) (id : List ℕ) (t : Tx) (c : Commit) → Grown id m g → IsTracked g id t → c.seq ≡ seq → c.tracked ≡ tracked_writes t →
    n ≡ record g { last = seq; active = without id g.active; kept = n.kept } → (IsCommitOf seq (writes_at (find_named id g.active)) c → StandsFor g cs → StandsFor n (with_commit cs c (find_named id g.active))) → IsManaged m ids last cs ps →
    IsManaged n ids seq (cs ++ (c ∷ [])) (without id ps)
managed_committed m g n ids last seq cs ps id t c grown held at keys is stands w = record {
  stands = subst (λ (o : Option Active). StandsFor n (with_commit cs c o)) held.found (stands (at, keys ∙ sym held.writes ∙ sym (ap writes_at held.found)) (grown.stands cs w.stands));
  newest = ap (λ (x : Manager). x.last) is;
  counted = ap (λ (x : Manager). x.ids) is ∙ ap (λ (x : Manager). x.ids) grown.others ∙ w.counted;
  opened = ap (λ (x : Manager). x.active) is ∙ grown.apart ∙ ap (without id) w.opened ∙ without_as id ps;
}

-- ---- snapshots

-- an opening that is taken back
pub back_shown : (m n : Snapshots) (id : List ℕ) (seq : ℕ) → n ≡ record m { ids = m.ids + 1; active = m.active ++ ((id, seq) ∷ []) } → find_named id m.active ≡ None → AllByRecursion (λ p. IsSnapshotOf m.ids p.0) m.active →
    AllByRecursion (λ p. IsSnapshotOf (n.ids - 1) p.0) (without id n.active)
back_shown m n id seq is fresh h =
    subst (λ (x : Snapshots). AllByRecursion (λ p. IsSnapshotOf (x.ids - 1) p.0) (without id x.active)) (sym is)
    (subst (λ (qs : List (List ℕ × ℕ)). AllByRecursion (λ p. IsSnapshotOf (m.ids + 1 - 1) p.0) qs) (sym (without_last id seq m.active fresh))
    (subst (λ (k : ℕ). AllByRecursion (λ p. IsSnapshotOf k p.0) m.active) (let e : m.ids ≡ m.ids + 1 - 1 = omega arith in e) h))

pub shown_back : (m n o : Snapshots) (id : List ℕ) (seq : ℕ) → n ≡ record m { ids = m.ids + 1; active = m.active ++ ((id, seq) ∷ []) } → find_named id m.active ≡ None →
    o ≡ record n { ids = n.ids - 1; active = without id n.active } → o ≡ m
shown_back m n o id seq is fresh back =
    back
    ∙ ap (λ (x : Snapshots). record x { ids = x.ids - 1; active = without id x.active }) is
    ∙ (let ids : m.ids + 1 - 1 ≡ m.ids = omega arith in let same = without_last id seq m.active fresh in λ i. record m { ids = ids i; active = same i })
