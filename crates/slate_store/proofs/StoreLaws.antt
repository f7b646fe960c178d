-- Objects by their paths, and ranges of their bytes.
use Rattle.std.proofs.Common.{◌≡◌, ℕ, Bool, true, false, List, [], ◌∷◌, Some, refl, sym, ap, ◌∙◌, Ordering, Less, Equal, Greater}
use Rattle.std.specs.Prelude.{bytes_eq}
use Rattle.std.specs.BTreeMap.{is_at, insert_entry}
use Rattle.std.specs.Ordering.{is_eq, match_ordering}
use Rattle.std.specs.Map.{lookup}
use Rattle.std.proofs.lemmas.Map.Text.{is_eq-slice_cmp}
use Rattle.std.proofs.lemmas.Slice.Eq.{bytes_eq-Decides}
use Rattle.slate_types.specs.Keys.{key_cmp}
use Rattle.slate_types.specs.Outside.{Objects}
use Rattle.slate_types.proofs.KeyOrder.{equal_keys}
use Rattle.slate_store.specs.Store.{object_at, with_object}

eq_turned : (a b : List ℕ) → bytes_eq a b ≡ bytes_eq b a
eq_turned a b = by (bytes_eq a b) (bytes_eq b a) refl refl
  where
    by : (s t : Bool) → bytes_eq a b ≡ s → bytes_eq b a ≡ t → s ≡ t
    by true true e f = refl
    by false false e f = refl
    by true false e f = sym ((bytes_eq-Decides b a).1 (sym ((bytes_eq-Decides a b).0 e))) ∙ f
    by false true e f = sym e ∙ (bytes_eq-Decides a b).1 (sym ((bytes_eq-Decides b a).0 f))

at_path : (a b : List ℕ) → is_at (key_cmp b) a ≡ bytes_eq a b
at_path a b = is_eq-slice_cmp b a ∙ eq_turned b a

-- a map's look-up finds the object
pub found_object : (os : Objects) (path : List ℕ) → lookup (is_at (key_cmp path)) os ≡ object_at os path
found_object [] path = refl
found_object (o ∷ os) path = rw (at_path o.0 path, found_object os path)

same_bytes : (a : List ℕ) → bytes_eq a a ≡ true
same_bytes a = (bytes_eq-Decides a a).1 refl

other_bytes : (a b : List ℕ) → ¬ (a ≡ b) → bytes_eq a b ≡ false
other_bytes a b n = by (bytes_eq a b) refl
  where
    by : (t : Bool) → bytes_eq a b ≡ t → t ≡ false
    by true e = absurd (n ((bytes_eq-Decides a b).0 e))
    by false e = refl

-- what was put is there
pub put_is_there : (os : Objects) (path bytes : List ℕ) → object_at (with_object os path bytes) path ≡ Some bytes
put_is_there [] path bytes = rw (same_bytes path) refl
put_is_there (o ∷ os) path bytes = by (key_cmp path o.0) refl (put_is_there os path bytes)
  where
    by : (r : Ordering) → key_cmp path o.0 ≡ r → object_at (with_object os path bytes) path ≡ Some bytes → object_at (match_ordering r ((path, bytes) ∷ o ∷ os) ((o.0, bytes) ∷ os) (o ∷ insert_entry key_cmp os path bytes)) path ≡ Some bytes
    by Less e h = rw (same_bytes path) refl
    by Equal e h = let is : bytes_eq o.0 path ≡ true = sym (at_path o.0 path) ∙ ap is_eq e in rw is refl
    by Greater e h = let is : bytes_eq o.0 path ≡ false = sym (at_path o.0 path) ∙ ap is_eq e in rw is h

-- a put changes no other object
pub others_stay : (os : Objects) (path bytes other : List ℕ) → ¬ (path ≡ other) → object_at (with_object os path bytes) other ≡ object_at os other
others_stay [] path bytes other n = rw (other_bytes path other n) refl
others_stay (o ∷ os) path bytes other n = by (key_cmp path o.0) refl (others_stay os path bytes other n)
  where
    by : (r : Ordering) → key_cmp path o.0 ≡ r → object_at (with_object os path bytes) other ≡ object_at os other → object_at (match_ordering r ((path, bytes) ∷ o ∷ os) ((o.0, bytes) ∷ os) (o ∷ insert_entry key_cmp os path bytes)) other ≡ object_at (o ∷ os) other
    by Less e h = rw (other_bytes path other n) refl
    by Equal e h = let is : bytes_eq o.0 other ≡ false = other_bytes o.0 other (λ same. n (equal_keys path o.0 e ∙ same)) in rw is refl
    by Greater e h = rw h refl
