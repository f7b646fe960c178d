-- What commits record of segment prefixes, and what is kept of them.
use Rattle.std.proofs.Common.{◌≡◌, ℕ, ℤ, Bool, true, false, ◌&&◌, ◌||◌, not, List, [], ◌∷◌, ◌++◌, map, reverse, Option, Some, None, bytes_eq, refl, sym, ap, subst, ◌∙◌, append-nil, arith, inl, inr}
use Rattle.std.specs.Prelude.{◌⊎◌, flat_map, is_some, nat_eq, IfOk, OnErr, Result, Ok, Err}
use Rattle.std.specs.List.{AllByRecursion, starts_with}
use Rattle.std.proofs.lemmas.Bool.Decides.{nat_tests}
use Rattle.std.proofs.lemmas.Grind.{flat_map-append}
use Rattle.std.proofs.lemmas.Slice.Eq.{bytes_eq-Decides}
use Rattle.slate_types.specs.declared.error.SlateDBError.{SlateDBError}
use Rattle.slate_types.specs.Keys.{among, keys_set}
use Rattle.slate_types.specs.Outside.{Counts, IsCounted, Objects, Reach}
use Rattle.slate_mem.specs.Batch.{Ops, batch_keys, kept}
use Rattle.slate_mem.specs.KeyTests.{Segments, key_refusal, merges_refusal, nest, nest_refusals, prefixes, segment_refusal, test_refusals, ttl_refusal}
use Rattle.slate_mem.specs.Refusals.{first_refusal}
use Rattle.slate_mem.specs.RowOf.{op_expiry}
use Rattle.slate_mem.specs.Segments.{NeverNest}
use Rattle.slate_mem.proofs.NestLaws.{never_nest, set_of_front}
use Rattle.slate_txn.specs.State.{Commit}
use Rattle.slate_db.specs.Flushed.{IsFlushed, Layout, idle, stored}
use Rattle.slate_db.specs.Frozen.{IsFrozen}
use Rattle.slate_db.specs.Meaning.{Meaning}
use Rattle.slate_db.specs.Model.{CoreModel, IsSame}
use Rattle.slate_db.specs.Segmented.{HavePrefixes, IsSegmented, recorded_by}
use Rattle.slate_db.specs.SegmentLaws.{HaveOneSegment, NestNowhere, SegmentsStandApart}
use Rattle.slate_db.proofs.Tests.{fine_before, fine_behind}
use Rattle.slate_types.proofs.Plain.{both_true}
use Rattle.slate_types.proofs.Lists.{AllByRecursion_push}

-- ---- what is kept

-- of the same commits and prefixes
pub segmented_as : (g : Segments) (c d : CoreModel) → d.segments ≡ c.segments → d.state.commits ≡ c.state.commits → IsSegmented g c → IsSegmented g d
segmented_as g c d segments commits z = record {
  recorded = segments ∙ z.recorded ∙ ap (recorded_by g) (sym commits);
  each = subst (HavePrefixes g) (sym commits) z.each;
  apart = subst NeverNest (sym segments) z.apart;
}

pub segmented_same : (g : Segments) (a b : CoreModel) → IsSame a b → IsSegmented g a → IsSegmented g b
segmented_same g a b same z = subst (λ (v : CoreModel). IsSegmented g v) (sym same) (segmented_as g a (record a { spare = b.spare }) refl refl z)

-- of none
pub segmented_first : (g : Segments) (c : CoreModel) → c.segments ≡ [] → c.state.commits ≡ [] → IsSegmented g c
segmented_first g c segments commits = record {
  recorded = segments ∙ ap (recorded_by g) (sym commits);
  each = subst (HavePrefixes g) (sym commits) tt;
  apart = subst NeverNest (sym segments) (λ p q h. let is : false ≡ true = h in cc);
}

-- each key of a batch that no test refuses has a prefix, where there is an extractor
key_has : (g : Segments) (d : Option ℕ) (now : ℤ) (ops : Ops) (k : List ℕ) → key_refusal g d now ops k ≡ None → segment_refusal g k ≡ None
key_has g d now ops k h = first (segment_refusal g k) (ttl_refusal k (reverse (map (op_expiry d now) (kept ops k))) ∷ []) h
  where
    first : (o : Option SlateDBError) (es : List (Option SlateDBError)) → first_refusal (o ∷ es) ≡ None → o ≡ None
    first None es e = refl
    first (Some x) es e = cc

have_prefixes : (g : Segments) (d : Option ℕ) (now : ℤ) (ops : Ops) (ks : List (List ℕ)) → first_refusal (map (key_refusal g d now ops) ks) ≡ None → AllByRecursion (λ k. segment_refusal g k ≡ None) ks
have_prefixes g d now ops [] h = tt
have_prefixes g d now ops (k ∷ ks) h = by (key_refusal g d now ops k) refl (have_prefixes g d now ops ks) h
  where
    by : (o : Option SlateDBError) → key_refusal g d now ops k ≡ o → (first_refusal (map (key_refusal g d now ops) ks) ≡ None → AllByRecursion (λ k. segment_refusal g k ≡ None) ks) →
        first_refusal (o ∷ map (key_refusal g d now ops) ks) ≡ None → AllByRecursion (λ k. segment_refusal g k ≡ None) (k ∷ ks)
    by None e later rest = (key_has g d now ops k e, later rest)
    by (Some x) e later rest = cc

fine_rest : (o : Option SlateDBError) (es : List (Option SlateDBError)) → first_refusal (o ∷ es) ≡ None → first_refusal es ≡ None
fine_rest None es h = h
fine_rest (Some x) es h = cc

-- of one commit more, which no test refuses
pub segmented_more : {C : Type 0} (o : Option C) (g : Segments) (c d : CoreModel) (millis : Option ℕ) (now : ℤ) (held : Bool) (x : Commit) →
    d.segments ≡ keys_set (c.segments ++ prefixes g x.ops) → d.state.commits ≡ c.state.commits ++ (x ∷ []) →
    first_refusal (test_refusals (is_some o) held g millis now x.ops ++ nest_refusals c.segments (prefixes g x.ops)) ≡ None → IsSegmented g c → IsSegmented g d
segmented_more o g c d millis now held x segments commits tested z = record {
  recorded = segments
      ∙ ap (λ ps. keys_set (ps ++ own)) z.recorded
      ∙ set_of_front (flat_map each_of c.state.commits) own
      ∙ ap (λ ps. keys_set (flat_map each_of c.state.commits ++ ps)) (sym (append-nil own))
      ∙ ap keys_set (sym (flat_map-append each_of c.state.commits (x ∷ [])))
      ∙ ap (recorded_by g) (sym commits);
  each = subst (HavePrefixes g) (sym commits) (AllByRecursion_push _ c.state.commits x z.each (have_prefixes g millis now x.ops (batch_keys x.ops) (fine_rest (merges_refusal (is_some o) held) keys (fine_before tests nests tested))));
  apart = subst NeverNest (sym segments) (never_nest c.segments own z.apart (fine_behind tests nests tested));
}
  where
    own : List (List ℕ)
    own = prefixes g x.ops

    each_of : Commit → List (List ℕ)
    each_of y = prefixes g y.ops

    keys : List (Option SlateDBError)
    keys = map (key_refusal g millis now x.ops) (batch_keys x.ops)

    tests : List (Option SlateDBError)
    tests = test_refusals (is_some o) held g millis now x.ops

    nests : List (Option SlateDBError)
    nests = nest_refusals c.segments own

-- of a freeze, and of a flush behind it
pub segmented_frozen : (g : Segments) (old new : CoreModel) → IsFrozen old new → IsSegmented g old → IsSegmented g new
segmented_frozen g old new (inl frozen) z = subst (λ (v : CoreModel). IsSegmented g v) (sym frozen.1) z
segmented_frozen g old new (inr frozen) z = subst (λ (v : CoreModel). IsSegmented g v) (sym frozen.1) (segmented_as g old _ refl refl z)

pub segmented_flushed : (r : Result ℕ SlateDBError) (m : Meaning) (layout : Layout) (between new : CoreModel) (before after : Option Objects) → IfOk r (λ n. IsFlushed m layout between new n before after) → OnErr r (IsSame between new) →
    (g : Segments) → IsSegmented g between → IsSegmented g new
segmented_flushed (Ok n) m layout between new before after (idle none is left) same g z = subst (λ (v : CoreModel). IsSegmented g v) (sym is) (segmented_as g between _ refl refl z)
segmented_flushed (Ok n) m layout between new before after (stored ts is tables taken) same g z = subst (λ (v : CoreModel). IsSegmented g v) (sym is) (segmented_as g between _ refl refl z)
segmented_flushed (Err e) m layout between new before after flushed same g z = segmented_same g between new same z

-- ---- the laws

or_true : (b : Bool) → (b || true) ≡ true
or_true true = refl
or_true false = refl

-- of two that begin a key one begins the other
both_begin : (k p q : List ℕ) → starts_with nat_eq k p ≡ true → starts_with nat_eq k q ≡ true → (starts_with nat_eq p q || starts_with nat_eq q p) ≡ true
both_begin k p [] f h = refl
both_begin k [] (y ∷ q) f h = refl
both_begin [] (x ∷ p) (y ∷ q) f h = cc
both_begin (z ∷ k) (x ∷ p) (y ∷ q) f h =
    let first = both_true (nat_eq x z) (starts_with nat_eq k p) f in
    let second = both_true (nat_eq y z) (starts_with nat_eq k q) h in
    let front : nat_eq y x ≡ true = grind (arith, nat_tests, first.0, second.0) in
    let back : nat_eq x y ≡ true = grind (arith, nat_tests, first.0, second.0) in
    (λ i. (front i && starts_with nat_eq p q) || (back i && starts_with nat_eq q p)) ∙ both_begin k p q first.1 second.1

-- prefixes that don't nest and of which one begins the other are the same
same_prefix : (p q : List ℕ) → nest p q ≡ false → (starts_with nat_eq p q || starts_with nat_eq q p) ≡ true → p ≡ q
same_prefix p q apart begins = by (bytes_eq p q) refl apart
  where
    by : (b : Bool) → bytes_eq p q ≡ b → (not b && (starts_with nat_eq p q || starts_with nat_eq q p)) ≡ false → p ≡ q
    by true e h = (bytes_eq-Decides p q).0 e
    by false e h = let is : true ≡ false = sym begins ∙ h in cc

pub segments_apart : SegmentsStandApart
segments_apart g c z = (
  λ p q is-p is-q begins. same_prefix p q (z.apart p q is-p is-q) (ap (λ b. starts_with nat_eq p q || b) begins ∙ or_true (starts_with nat_eq p q)),
  λ k p q is-p is-q first second. same_prefix p q (z.apart p q is-p is-q) (both_begin k p q first second),
)
