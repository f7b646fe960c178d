-- The puts of a flush's tables leave the same objects in the other order.
--     objects_turned      of two objects at different paths
--     puts_turned      the put of the first table, before those of the others
use Rattle.std.proofs.Common.{◌≡◌, ℕ, ◌+◌, ◌^◌, ◌<◌, List, [], ◌∷◌, refl, sym, ap, ◌∙◌, arith, Ordering, Less, Equal, Greater}
use Rattle.std.specs.BTreeMap.{insert_entry}
use Rattle.std.specs.Ordering.{match_ordering, ordering_reverse}
use Rattle.std.proofs.lemmas.Cmp.{nat_list_cmp_total}
use Rattle.slate_types.specs.declared.types.Ulid.{Ulid}
use Rattle.slate_types.specs.Keys.{key_cmp}
use Rattle.slate_types.specs.Outside.{Objects}
use Rattle.slate_types.proofs.KeyOrder.{equal_keys, turned_key}
use Rattle.slate_store.specs.Store.{with_object}
use Rattle.slate_table.specs.Paths.{path_of, table_id}
use Rattle.slate_db.specs.Flushed.{with_tables}
use Rattle.slate_db.specs.Installs.{ArePlaced, root}
use Rattle.slate_db.proofs.PathsApart.{ids_same}

-- p < q
below_turned : (os : Objects) (p q a b : List ℕ) → key_cmp p q ≡ Less →
    with_object (with_object os p a) q b ≡ with_object (with_object os q b) p a
below_turned [] p q a b less =
    let more : key_cmp q p ≡ Greater = turned_key q p ∙ ap ordering_reverse less in
    rw (less, more) refl
below_turned (o ∷ os) p q a b less =
    by (key_cmp p o.0) (key_cmp q o.0) refl refl (below_turned os p q a b less)
  where
    more : key_cmp q p ≡ Greater
    more = turned_key q p ∙ ap ordering_reverse less

    both : key_cmp p o.0 ≡ Greater → key_cmp q o.0 ≡ Greater
    both above = turned_key q o.0 ∙ ap ordering_reverse
        (nat_list_cmp_total.trans o.0 p q (turned_key o.0 p ∙ ap ordering_reverse above) less)

    by : (r s : Ordering) → key_cmp p o.0 ≡ r → key_cmp q o.0 ≡ s →
        with_object (with_object os p a) q b ≡ with_object (with_object os q b) p a →
        with_object (match_ordering r ((p, a) ∷ o ∷ os) ((o.0, a) ∷ os)
        (o ∷ insert_entry key_cmp os p a)) q b
        ≡ with_object (match_ordering s ((q, b) ∷ o ∷ os) ((o.0, b) ∷ os)
        (o ∷ insert_entry key_cmp os q b)) p a
    by Less Less is that rest = rw (more, that, less) refl
    by Less Equal is that rest = rw (more, that, is) refl
    by Less Greater is that rest = rw (more, that, is) refl
    by Equal Less is that rest = let e : Less ≡ Greater =
        sym that ∙ ap (key_cmp q) (sym (equal_keys p o.0 is)) ∙ more in cc
    by Equal Equal is that rest = let e : Equal ≡ Greater =
        sym that ∙ ap (key_cmp q) (sym (equal_keys p o.0 is)) ∙ more in cc
    by Equal Greater is that rest = rw (that, is) refl
    by Greater Less is that rest = let e : Less ≡ Greater = sym that ∙ both is in cc
    by Greater Equal is that rest = let e : Equal ≡ Greater = sym that ∙ both is in cc
    by Greater Greater is that rest = rw (that, is) (ap (λ (xs : Objects). o ∷ xs) rest)

pub objects_turned : (os : Objects) (p q a b : List ℕ) → (p ≡ q → ⊥) →
    with_object (with_object os p a) q b ≡ with_object (with_object os q b) p a
objects_turned os p q a b other = by (key_cmp p q) refl
  where
    by : (o : Ordering) → key_cmp p q ≡ o →
        with_object (with_object os p a) q b ≡ with_object (with_object os q b) p a
    by Less is = below_turned os p q a b is
    by Equal is = absurd (other (equal_keys p q is))
    by Greater is =
        sym (below_turned os q p b a (turned_key q p ∙ ap ordering_reverse is))

pub puts_turned : (os : Objects) (n p : ℕ) (t : Ulid × List ℕ) (us : List (Ulid × List ℕ)) →
    n < 2 ^ 64 → p < 2 ^ 64 → t.0.0 ≡ table_id n p → ArePlaced n (p + 1) us →
    with_tables os (t ∷ us) ≡ with_tables (with_object os (path_of root t.0.0) t.1) us
puts_turned os n p t us fits place id placed = by (p + 1) us (omega arith) placed
  where
    by : (q : ℕ) (us : List (Ulid × List ℕ)) → p < q → ArePlaced n q us →
        with_tables os (t ∷ us) ≡ with_tables (with_object os (path_of root t.0.0) t.1) us
    by q [] later placed = refl
    by q (u ∷ us) later placed =
        objects_turned (with_tables os us) (path_of root u.0.0) (path_of root t.0.0) u.1 t.1
        (λ same. let is = ids_same n n p q fits fits place placed.1
        (sym (ap (path_of root) id) ∙ sym same ∙ ap (path_of root) placed.0) in
        omega (arith, is.1, later))
        ∙ ap (λ (o : Objects). with_object o (path_of root u.0.0) u.1)
        (by (q + 1) us (omega (arith, later)) placed.2)
