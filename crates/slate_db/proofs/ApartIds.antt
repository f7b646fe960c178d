-- Ids of transactions and of snapshots in one list: new ones are none of those before.
use Rattle.std.proofs.Common.{◌≡◌, ℕ, ◌+◌, ◌<◌, ◌≤◌, ◌^◌, inl, inr, Bool, true, false, cond, List, [], ◌∷◌, Some, None, refl, ap, subst, arith, bytes_eq}
use Rattle.std.specs.Prelude.{IsSome}
use Rattle.std.specs.List.{AllByRecursion}
use Rattle.std.proofs.lemmas.Bool.{false_from_ne_true}
use Rattle.std.proofs.lemmas.Slice.Eq.{bytes_eq-Decides}
use Rattle.slate_types.specs.Keys.{among}
use Rattle.slate_txn.specs.Ids.{id_of, snapshot_id}
use Rattle.slate_txn.specs.Named.{find_named, without}
use Rattle.slate_txn.proofs.IdLaws.{count_not_snapshot, other, snapshot_not_count, snapshot_other, wider, wider_snapshot}
use Rattle.slate_db.specs.Log.{IsIdOf}

pub wider_id : (n m shown given : ℕ) → n ≤ m → shown ≤ given → (id : List ℕ) → IsIdOf n shown id → IsIdOf m given id
wider_id n m shown given h k id (inl o) = inl (wider n m h id o)
wider_id n m shown given h k id (inr s) = inr (wider_snapshot shown given k id s)

-- the next id of a transaction, and that of a snapshot
pub next_id : (n shown : ℕ) (id : List ℕ) → n < 2 ^ 64 → shown < 2 ^ 64 → IsIdOf n shown id → bytes_eq id (id_of (n + 1)) ≡ false
next_id n shown id few given (inl o) = other n (n + 1) id (omega arith) (omega arith) o
next_id n shown id few given (inr s) = count_not_snapshot shown (n + 1) id given (omega arith) s

pub next_snapshot : (n shown : ℕ) (id : List ℕ) → n < 2 ^ 64 → shown < 2 ^ 64 → IsIdOf n shown id → bytes_eq id (snapshot_id (shown + 1)) ≡ false
next_snapshot n shown id few given (inl o) = snapshot_not_count n shown id (omega arith) given o
next_snapshot n shown id few given (inr s) = snapshot_other shown id given s

pub not_among : (P : List ℕ → Type 0) (x : List ℕ) → ((id : List ℕ) → P id → bytes_eq id x ≡ false) → (ids : List (List ℕ)) → AllByRecursion P ids → among x ids ≡ false
not_among P x differ [] h = refl
not_among P x differ (id ∷ ids) h = rw (differ id h.0) (not_among P x differ ids h.1)

-- ---- what stands under an id

-- nothing, where each name is of another kind
pub none_named : {X : Type 0} (P : List ℕ → Type 0) (x : List ℕ) → (P x → ⊥) → (ps : List (List ℕ × X)) → AllByRecursion (λ p. P p.0) ps → find_named x ps ≡ None
none_named P x apart [] h = refl
none_named P x apart (p ∷ ps) h = rw (false_from_ne_true (bytes_eq p.0 x) (λ t. apart (subst P ((bytes_eq-Decides p.0 x).0 t) h.0))) (none_named P x apart ps h.1)

-- the name of what stands is of their kind
pub named_is : {X : Type 0} (P : List ℕ → Type 0) (x : List ℕ) (ps : List (List ℕ × X)) → AllByRecursion (λ p. P p.0) ps → IsSome (find_named x ps) → P x
named_is P x [] h some = cc
named_is P x (p ∷ ps) h some = by (bytes_eq p.0 x) refl some (named_is P x ps h.1)
  where
    by : (b : Bool) → bytes_eq p.0 x ≡ b → IsSome (cond b (Some p.1) (find_named x ps)) → (IsSome (find_named x ps) → P x) → P x
    by true e some rest = subst P ((bytes_eq-Decides p.0 x).0 e) h.0
    by false e some rest = rest some

pub without_none : {X : Type 0} (x : List ℕ) (ps : List (List ℕ × X)) → find_named x ps ≡ None → without x ps ≡ ps
without_none x [] h = refl
without_none x (p ∷ ps) h = by (bytes_eq p.0 x) h (without_none x ps)
  where
    by : (b : Bool) → cond b (Some p.1) (find_named x ps) ≡ None → (find_named x ps ≡ None → without x ps ≡ ps) → cond b ps (p ∷ without x ps) ≡ p ∷ ps
    by true e rest = cc
    by false e rest = ap (λ qs. p ∷ qs) (rest e)
