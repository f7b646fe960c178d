-- The tests of a batch's keys, by its entries.
use Rattle.std.proofs.Common.{◌≡◌, ℕ, Bool, true, false, cond, not, List, [], ◌∷◌, ◌++◌, map, reverse, Option, Some, None, ℤ, refl, sym, ap, ◌∙◌}
use Rattle.std.specs.Ordering.{int_eq}
use Rattle.std.specs.Option.{option_eq}
use Rattle.std.specs.List.{cons_option}
use Rattle.std.specs.Map.{keys_of}
use Rattle.std.proofs.lemmas.Bool.Decides.{Decides-int_eq}
use Rattle.slate_types.specs.declared.error.SlateDBError.{SlateDBError}
use Rattle.slate_mem.specs.declared.WriteOp.{WriteOp}
use Rattle.slate_mem.specs.Batch.{batch_keys}
use Rattle.slate_mem.specs.KeyTests.{Segments, first_other, segment_refusal, ttl_refusal, key_refusal, entry_refusals}
use Rattle.slate_mem.specs.Kept.{Entries, items_at, listed, IsWhole}
use Rattle.slate_mem.specs.Refusals.{first_refusal}
use Rattle.slate_mem.specs.RowOf.{op_expiry}
use Rattle.slate_mem.proofs.KeptLaws.{Gives, gives_each, kept_listed, keys_listed}

by_entries : (f : List ℕ → List WriteOp) (segments : Segments) (default_millis : Option ℕ) (now : ℤ) (es : Entries) → Gives f es →
    map (λ k. first_refusal (segment_refusal segments k ∷ ttl_refusal k (reverse (map (op_expiry default_millis now) (f k))) ∷ [])) (keys_of es) ≡ entry_refusals segments default_millis now es
by_entries f segments default_millis now [] h = refl
by_entries f segments default_millis now (e ∷ es) h = λ i.
    first_refusal (segment_refusal segments e.0 ∷ ttl_refusal e.0 (reverse (map (op_expiry default_millis now) (h.0 i))) ∷ []) ∷ by_entries f segments default_millis now es h.1 i

-- the refusals of the keys of a batch are those of its entries
pub tests_listed : (segments : Segments) (default_millis : Option ℕ) (now : ℤ) (es : Entries) (held : Bool) → IsWhole es held →
    map (key_refusal segments default_millis now (listed es)) (batch_keys (listed es)) ≡ entry_refusals segments default_millis now es
tests_listed segments default_millis now es held w =
    (λ i. map (λ k. first_refusal (segment_refusal segments k ∷ ttl_refusal k (reverse (map (op_expiry default_millis now) (kept_listed es k w.rising w.kept i))) ∷ [])) (keys_listed es w.rising w.kept i))
    ∙ by_entries (items_at es) segments default_millis now es (gives_each es w.rising)

-- what passed is no refusal
pub passed : (o : Option SlateDBError) (os : List (Option SlateDBError)) → o ≡ None → first_refusal os ≡ first_refusal (o ∷ os)
passed o os h = sym (ap (λ x. first_refusal (x ∷ os)) h)

pub refused_here : (o : Option SlateDBError) (os : List (Option SlateDBError)) (e : SlateDBError) → o ≡ Some e → first_refusal (o ∷ os) ≡ Some e
refused_here o os e h = ap (λ x. first_refusal (x ∷ os)) h

pub prefix_first : (o : Option (List ℕ)) (ps qs : List (List ℕ)) → cons_option o ps ++ qs ≡ cons_option o (ps ++ qs)
prefix_first None ps qs = refl
prefix_first (Some p) ps qs = refl

-- ---- expiries

same_expiry : (x y : Option ℤ) → x ≡ y → option_eq int_eq x y ≡ true
same_expiry x y e = sym (ap (option_eq int_eq x) e) ∙ itself x
  where
    itself : (z : Option ℤ) → option_eq int_eq z z ≡ true
    itself None = refl
    itself (Some z) = (Decides-int_eq z z).1 refl

other_expiry : (x y : Option ℤ) → (x ≡ y → ⊥) → option_eq int_eq x y ≡ false
other_expiry x y differ = by (option_eq int_eq x y) refl
  where
    from : (x y : Option ℤ) → option_eq int_eq x y ≡ true → x ≡ y
    from None None h = refl
    from None (Some y) h = cc
    from (Some x) None h = cc
    from (Some x) (Some y) h = ap Some ((Decides-int_eq x y).0 h)

    by : (t : Bool) → option_eq int_eq x y ≡ t → t ≡ false
    by true e = absurd (differ (from x y e))
    by false e = refl

pub skips_same : (e x : Option ℤ) (xs : List (Option ℤ)) → x ≡ e → first_other e (x ∷ xs) ≡ first_other e xs
skips_same e x xs is = ap (λ t. cond (not t) (Some x) (first_other e xs)) (same_expiry x e is)

pub finds_other : (e x : Option ℤ) (xs : List (Option ℤ)) → (x ≡ e → ⊥) → first_other e (x ∷ xs) ≡ Some x
finds_other e x xs differ = ap (λ t. cond (not t) (Some x) (first_other e xs)) (other_expiry x e differ)
