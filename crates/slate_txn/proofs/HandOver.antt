-- What a manager tracks once a transaction has handed over its own part.
use Rattle.std.proofs.Common.{◌≡◌, ℕ, Bool, true, false, cond, not, ◌&&◌, ◌||◌, ltb, List, [], ◌∷◌, ◌++◌, map, filter, bytes_eq, Option, Some, None, option_map, refl, sym, ap, subst, ◌∙◌, Ordering, Less, Equal, Greater}
use Rattle.std.specs.Prelude.{Result, Ok, Err, OnOk, OnErr}
use Rattle.std.specs.Ordering.{is_lt, is_le, ordering_reverse}
use Rattle.std.specs.List.{list_any}
use Rattle.std.proofs.lemmas.List.Folds.{list_any-append}
use Rattle.slate_types.specs.declared.bytes_range.BytesRange.{BytesRange}
use Rattle.slate_types.specs.Keys.{key_cmp, key_lt, key_le, among, in_range, common_range}
use Rattle.slate_types.proofs.KeyOrder.{turned_key}
use Rattle.slate_types.proofs.RangeLaws.{common_is_both, no_common_key}
use Rattle.slate_txn.specs.Conflict.{greatest, conflict_of}
use Rattle.slate_txn.specs.HandedOver.{AreKeysOf, Grown, SameKeys, TakesIn, HandsOver}
use Rattle.slate_txn.specs.Managers.{Active, Manager, StandsFor, reading_of, conflict_among}
use Rattle.slate_txn.specs.Named.{find_named, without, update_named}
use Rattle.slate_txn.specs.State.{Commit}
use Rattle.slate_txn.specs.Tracking.{Reading, tracks, is_read}
use Rattle.slate_txn.proofs.Standing.{Actives}
use Rattle.std.proofs.Math.Bool.{or-false, or_assoc}

-- ---- the part of a scan

pub le_not_lt : (a b : List ℕ) → key_le a b ≡ not (key_lt b a)
le_not_lt a b = by (key_cmp a b) ∙ sym (ap (λ o. not (is_lt o)) (turned_key b a))
  where
    by : (o : Ordering) → is_le o ≡ not (is_lt (ordering_reverse o))
    by Less = refl
    by Equal = refl
    by Greater = refl

pub common_keys : (r near : BytesRange) (f : List ℕ → Bool) → ((k : List ℕ) → in_range near k ≡ f k) → (o : Option BytesRange) → o ≡ common_range r near → AreKeysOf (λ k. in_range r k && f k) o
common_keys r near f h None e = λ k. ap (λ b. in_range r k && b) (sym (h k)) ∙ no_common_key r near k (sym e)
common_keys r near f h (Some s) e = λ k. common_is_both r near s k (sym e) ∙ ap (λ b. in_range r k && b) (h k)

-- ---- one more is tracked

without_updated : (id : List ℕ) (f : Active → Active) (ps : Actives) → without id (update_named id f ps) ≡ without id ps
without_updated id f [] = refl
without_updated id f (p ∷ ps) = by (bytes_eq p.0 id) refl (without_updated id f ps)
  where
    by : (b : Bool) → bytes_eq p.0 id ≡ b → without id (update_named id f ps) ≡ without id ps → without id (cond b ((p.0, f p.1) ∷ ps) (p ∷ update_named id f ps)) ≡ cond b ps (p ∷ without id ps)
    by true e r = ap (λ t. cond t ps ((p.0, f p.1) ∷ without id ps)) e
    by false e r = ap (λ t. cond t (update_named id f ps) (p ∷ without id (update_named id f ps))) e ∙ ap (λ qs. p ∷ qs) r

find_updated : (id : List ℕ) (f : Active → Active) (ps : Actives) → find_named id (update_named id f ps) ≡ option_map f (find_named id ps)
find_updated id f [] = refl
find_updated id f (p ∷ ps) = by (bytes_eq p.0 id) refl (find_updated id f ps)
  where
    by : (b : Bool) → bytes_eq p.0 id ≡ b → find_named id (update_named id f ps) ≡ option_map f (find_named id ps) → find_named id (cond b ((p.0, f p.1) ∷ ps) (p ∷ update_named id f ps)) ≡ option_map f (cond b (Some p.1) (find_named id ps))
    by true e r = ap (λ t. cond t (Some (f p.1)) (find_named id ps)) e
    by false e r = ap (λ t. cond t (Some p.1) (find_named id (update_named id f ps))) e ∙ r

pub grown_trans : (id : List ℕ) (a b c : Manager) → Grown id a b → Grown id b c → Grown id a c
grown_trans id a b c f g = record {
  others = g.others ∙ (let e = f.others in λ i. record (e i) { active = c.active });
  apart = g.apart ∙ f.apart;
  stands = λ cs h. g.stands cs (f.stands cs h);
}

pub grown_of : {X E : Type 0} (f : Active → Active) (id : List ℕ) (a b : Manager) (r : Result X E) → OnOk r (b ≡ record a { active = update_named id f a.active }) → OnErr r (b ≡ a) → ((cs : List Commit) → StandsFor a cs → StandsFor b cs) → Grown id a b
grown_of f id a b (Ok x) e g s = record {
  others = e ∙ (let q = sym e in λ i. record a { active = (q i).active });
  apart = ap (λ (m : Manager). without id m.active) e ∙ without_updated id f a.active;
  stands = s;
}
grown_of f id a b (Err x) e g s = record {
  others = g ∙ (let q = sym g in λ i. record a { active = (q i).active });
  apart = ap (λ (m : Manager). without id m.active) g;
  stands = s;
}

pub found_of : (f : Active → Active) (id : List ℕ) (a b : Manager) → b ≡ record a { active = update_named id f a.active } → find_named id b.active ≡ option_map f (find_named id a.active)
found_of f id a b e = ap (λ (m : Manager). find_named id m.active) e ∙ find_updated id f a.active

-- ---- its ranges

pub same_refl : (o : Option Active) → SameKeys o o
same_refl None = refl
same_refl (Some t) = (refl, refl, refl)

pub same_trans : (a b c : Option Active) → SameKeys a b → SameKeys b c → SameKeys a c
same_trans None None c h k = k
same_trans None (Some u) c h k = let clash : Some u ≡ None = h in cc
same_trans (Some t) None c h k = absurd h
same_trans (Some t) (Some u) None h k = absurd k
same_trans (Some t) (Some u) (Some v) h k = (k.0 ∙ h.0, k.1 ∙ h.1, k.2 ∙ h.2)

-- what is left to be taken in passes the second test
abbrev pub TakesRest : (List ℕ → Bool) → (List ℕ → Bool) → Option Active → Option Active → Type 0
TakesRest f g None o = o ≡ None
TakesRest f g (Some t) None = ⊥
TakesRest f g (Some t) (Some u) = (k : List ℕ) → (list_any (λ r. in_range r k) u.ranges || g k) ≡ (list_any (λ r. in_range r k) t.ranges || f k)

pub rest_first : (f : List ℕ → Bool) (o : Option Active) → TakesRest f f o o
rest_first f None = refl
rest_first f (Some t) = λ k. refl

pub rest_turn : (f g h one : List ℕ → Bool) → ((k : List ℕ) → g k ≡ (one k || h k)) → (a b c : Option Active) → TakesRest f g a b → TakesIn one b c → TakesRest f h a c
rest_turn f g h one is None None c r t = t
rest_turn f g h one is None (Some u) c r t = let clash : Some u ≡ None = r in cc
rest_turn f g h one is (Some s) None c r t = absurd r
rest_turn f g h one is (Some s) (Some u) None r t = absurd t
rest_turn f g h one is (Some s) (Some u) (Some v) r t = λ k.
    ap (λ b. b || h k) (t k) ∙ or_assoc (list_any (λ x. in_range x k) u.ranges) (one k) (h k) ∙ ap (λ b. list_any (λ x. in_range x k) u.ranges || b) (sym (is k)) ∙ r k

pub rest_end : (f g : List ℕ → Bool) → ((k : List ℕ) → g k ≡ false) → (a b : Option Active) → TakesRest f g a b → TakesIn f a b
rest_end f g none None b r = r
rest_end f g none (Some t) None r = r
rest_end f g none (Some t) (Some u) r = λ k.
    sym (or-false (list_any (λ x. in_range x k) u.ranges)) ∙ ap (λ b. list_any (λ x. in_range x k) u.ranges || b) (sym (none k)) ∙ r k

same_range : (r : BytesRange) (o : Option Active) → SameKeys o (option_map (λ (t : Active). record t { ranges = t.ranges ++ (r ∷ []) }) o)
same_range r None = refl
same_range r (Some t) = (refl, refl, refl)

takes_range : (r : BytesRange) (f : List ℕ → Bool) → ((k : List ℕ) → in_range r k ≡ f k) → (o : Option Active) → TakesIn f o (option_map (λ (t : Active). record t { ranges = t.ranges ++ (r ∷ []) }) o)
takes_range r f h None = refl
takes_range r f h (Some t) = λ k.
    list_any-append (λ x. in_range x k) t.ranges (r ∷ []) ∙ ap (λ b. list_any (λ x. in_range x k) t.ranges || b) (or-false (in_range r k) ∙ h k)

pub same_after : (r : BytesRange) (id : List ℕ) (a b : Manager) → b ≡ record a { active = update_named id (λ t. record t { ranges = t.ranges ++ (r ∷ []) }) a.active } → SameKeys (find_named id a.active) (find_named id b.active)
same_after r id a b e = subst (SameKeys (find_named id a.active)) (sym (found_of (λ t. record t { ranges = t.ranges ++ (r ∷ []) }) id a b e)) (same_range r (find_named id a.active))

pub takes_after : (r : BytesRange) (f : List ℕ → Bool) → ((k : List ℕ) → in_range r k ≡ f k) → (id : List ℕ) (a b : Manager) → b ≡ record a { active = update_named id (λ t. record t { ranges = t.ranges ++ (r ∷ []) }) a.active } → TakesIn f (find_named id a.active) (find_named id b.active)
takes_after r f h id a b e = subst (TakesIn f (find_named id a.active)) (sym (found_of (λ t. record t { ranges = t.ranges ++ (r ∷ []) }) id a b e)) (takes_range r f h (find_named id a.active))

-- ---- all of it

four : (a b v s : Bool) → (((a || b) || false) || (v || s)) ≡ (a || ((b || s) || v))
four true b v s = refl
four false true v s = refl
four false false true true = refl
four false false true false = refl
four false false false true = refl
four false false false false = refl

pub handed_all : (n : ℕ) (ws ms : List (List ℕ)) (rs : Reading) (a b : Option Active) →
    SameKeys (Some (record { start = n; writes = ws; reads = ms ++ rs.keys; ranges = [] })) a → TakesIn (λ k. list_any (λ r. in_range r k) rs.views) (Some (record { start = n; writes = ws; reads = ms ++ rs.keys; ranges = [] })) a →
    SameKeys a b → TakesIn (λ k. list_any (λ s. tracks s k) rs.scans) a b → HandsOver n ws ms rs b
handed_all n ws ms rs None b s t u v = absurd s
handed_all n ws ms rs (Some x) None s t u v = absurd u
handed_all n ws ms rs (Some x) (Some y) s t u v = (
  u.0 ∙ s.0,
  u.1 ∙ s.1,
  λ k.
      (let keys = ap (among k) (u.2 ∙ s.2) ∙ list_any-append (λ j. bytes_eq j k) ms rs.keys in let ranges = v k ∙ ap (λ b. b || list_any (λ z. tracks z k) rs.scans) (t k) in λ i. (keys i || false) || ranges i)
      ∙ four (among k ms) (among k rs.keys) (list_any (λ r. in_range r k) rs.views) (list_any (λ z. tracks z k) rs.scans),
)

-- ---- what a conflict makes of it

list_any_same : {X : Type 0} (p q : X → Bool) → ((x : X) → p x ≡ q x) → (xs : List X) → list_any p xs ≡ list_any q xs
list_any_same p q h [] = refl
list_any_same p q h (x ∷ xs) = let r = list_any_same p q h xs in λ i. h x i || r i

filter_same : {X : Type 0} (p q : X → Bool) → ((x : X) → p x ≡ q x) → (xs : List X) → filter p xs ≡ filter q xs
filter_same p q h [] = refl
filter_same p q h (x ∷ xs) = let r = filter_same p q h xs in λ i. cond (h x i) (x ∷ r i) (r i)

pub conflict_handed : (cs : List Commit) (n : ℕ) (ws ms : List (List ℕ)) (rs : Reading) (o : Option Active) → HandsOver n ws ms rs o → conflict_among cs o ≡ conflict_of cs n (ws ++ ms) rs
conflict_handed cs n ws ms rs None h = absurd h
conflict_handed cs n ws ms rs (Some t) h =
    ap (λ ds. greatest (map (λ (c : Commit). c.seq) ds))
    (filter_same (λ (c : Commit). ltb t.start c.seq && list_any (λ k. among k t.writes || is_read (reading_of t) k) c.tracked) (λ (c : Commit). ltb n c.seq && list_any (λ k. among k (ws ++ ms) || is_read rs k) c.tracked)
    (λ c. let start = h.0 in let keys = list_any_same (λ k. among k t.writes || is_read (reading_of t) k) (λ k. among k (ws ++ ms) || is_read rs k) each c.tracked in λ i. ltb (start i) c.seq && keys i) cs)
  where
    each : (k : List ℕ) → (among k t.writes || is_read (reading_of t) k) ≡ (among k (ws ++ ms) || is_read rs k)
    each k =
        (let w = h.1 in let r = h.2 k in λ i. among k (w i) || r i)
        ∙ sym (or_assoc (among k ws) (among k ms) (is_read rs k))
        ∙ ap (λ b. b || is_read rs k) (sym (list_any-append (λ j. bytes_eq j k) ws ms))

pub grown_refl : (id : List ℕ) (a : Manager) → Grown id a a
grown_refl id a = record { others = refl; apart = refl; stands = λ cs h. h }

-- nothing was taken in yet, and all of the list is left
pub rest_start : {X : Type 0} (test : X → List ℕ → Bool) (xs ys : List X) → ys ≡ xs → (o : Option Active) → TakesRest (λ k. list_any (λ x. test x k) xs) (λ k. list_any (λ x. test x k) ys) o o
rest_start test xs ys e None = refl
rest_start test xs ys e (Some t) = λ k. ap (λ zs. list_any (λ r. in_range r k) t.ranges || list_any (λ x. test x k) zs) e
