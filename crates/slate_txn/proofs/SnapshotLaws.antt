-- The least of the sequences of snapshots, and their ids.
use Rattle.std.proofs.Common.{◌≡◌, ℕ, ◌+◌, ◌^◌, ◌<◌, min, List, [], ◌∷◌, ◌++◌, Option, Some, None, refl, sym, ap, ◌∙◌, arith}
use Rattle.std.specs.Int.{w128, from_be_bytes}
use Rattle.std.specs.List.{AllByRecursion}
use Rattle.std.specs.BTreeMap.{insert_entry}
use Rattle.uuid.proofs.OrderLemmas.{from_be_bytes-to_be_bytes_16}
use Rattle.slate_types.specs.Keys.{key_cmp}
use Rattle.slate_txn.specs.Ids.{id_of, IsOfCount}
use Rattle.slate_txn.specs.Managers.{with_least, sooner_of}
use Rattle.slate_txn.proofs.IdLaws.{all_past, wider}
use Rattle.slate_txn.proofs.NamedLaws.{put_last}
use Rattle.slate_types.proofs.Lists.{AllByRecursion_push, AllByRecursion_weaken}

abbrev pub joined : Option ℕ → Option ℕ → Option ℕ
joined None o = o
joined (Some n) o = with_least n o

pub joined_none : (o : Option ℕ) → joined o None ≡ o
joined_none None = refl
joined_none (Some n) = refl

pub joined_turn : (o : Option ℕ) (n : ℕ) (r : Option ℕ) → joined (sooner_of o n) r ≡ joined o (with_least n r)
joined_turn None n r = refl
joined_turn (Some m) n None = refl
joined_turn (Some m) n (Some l) = ap Some (let e : min (min m n) l ≡ min m (min n l) = omega arith in e)

pub put_snapshot : (n seq : ℕ) (ps : List (List ℕ × ℕ)) → n < 2 ^ 64 → AllByRecursion (λ p. IsOfCount (2 ^ 127 + n) p.0) ps → insert_entry key_cmp ps (id_of (2 ^ 127 + (n + 1))) seq ≡ ps ++ ((id_of (2 ^ 127 + (n + 1)), seq) ∷ [])
put_snapshot n seq ps l h = put_last (id_of (2 ^ 127 + (n + 1))) seq ps (all_past (2 ^ 127 + n) (2 ^ 127 + (n + 1)) ps (omega arith) (omega arith) h)

pub counted_more : (n seq : ℕ) (ps : List (List ℕ × ℕ)) → AllByRecursion (λ p. IsOfCount (2 ^ 127 + n) p.0) ps → AllByRecursion (λ p. IsOfCount (2 ^ 127 + (n + 1)) p.0) (ps ++ ((id_of (2 ^ 127 + (n + 1)), seq) ∷ []))
counted_more n seq ps h =
    AllByRecursion_push _ ps _ (AllByRecursion_weaken _ _ (λ p o. wider (2 ^ 127 + n) (2 ^ 127 + (n + 1)) (omega arith) p.0 o) ps h) (record { count = 2 ^ 127 + (n + 1); within = omega arith; is = refl })

-- no id of a count below the highest bit is one of a snapshot
pub apart_ids : (n m : ℕ) → n < 2 ^ 64 → m < 2 ^ 64 → id_of (2 ^ 127 + (n + 1)) ≡ id_of m → ⊥
apart_ids n m l k e =
    let big : 2 ^ 127 + (n + 1) < 2 ^ 128 = omega arith in
    let small : m < 2 ^ 128 = omega arith in
    let same : 2 ^ 127 + (n + 1) ≡ m = sym (from_be_bytes-to_be_bytes_16 (2 ^ 127 + (n + 1)) big) ∙ ap (λ bs. from_be_bytes w128 bs) e ∙ from_be_bytes-to_be_bytes_16 m small in
    omega arith
