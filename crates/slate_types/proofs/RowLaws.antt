-- The order of keys with sequences.
use Rattle.std.proofs.Common.{◌≡◌, ℕ, Bool, true, false, cond, ◌&&◌, ◌||◌, ◌==◌, rules, refl, sym, ap, ◌∙◌, arith, ltb, Ordering, Less, Equal, Greater}
use Rattle.std.specs.Prelude.{nat_lt}
use Rattle.std.specs.Cmp.{IsTotalOrder}
use Rattle.std.specs.Cmp.Rules.{comparing}
use Rattle.std.specs.Ordering.{is_lt, is_eq, nat_cmp, ordering_then}
use Rattle.std.proofs.lemmas.Bool.Decides.{nat_tests}
use Rattle.std.proofs.lemmas.Map.Text.{is_eq-slice_cmp}
use Rattle.slate_types.specs.declared.types.RowEntry.{RowEntry}
use Rattle.slate_types.specs.declared.sequenced_key.SequencedKey.{SequencedKey}
use Rattle.slate_types.specs.Keys.{key_cmp}
use Rattle.slate_types.specs.Rows.{row_lt, sequenced_cmp, sequenced}
use Rattle.slate_types.proofs.KeyOrder.{equal_keys}

pub sequenced_total : IsTotalOrder sequenced_cmp
sequenced_total = Prim.search (comparing, rules)

same_number : (m n : ℕ) → nat_cmp m n ≡ Equal → m ≡ n
same_number m n e = by (ltb m n) (m == n) refl e
  where
    by : (l t : Bool) → (m == n) ≡ t → cond l Less (cond t Equal Greater) ≡ Equal → m ≡ n
    by true t f h = cc
    by false true f h = grind (arith, nat_tests, f)
    by false false f h = cc

both_equal : (o p : Ordering) → ordering_then o p ≡ Equal → (o ≡ Equal) × (p ≡ Equal)
both_equal Less p h = cc
both_equal Equal p h = (refl, h)
both_equal Greater p h = cc

pub sequenced_same : (a b : SequencedKey) → sequenced_cmp a b ≡ Equal → a ≡ b
sequenced_same a b h =
    let parts = both_equal (key_cmp a.user_key b.user_key) (nat_cmp b.seq a.seq) h in
    λ i. record { user_key = equal_keys a.user_key b.user_key parts.0 i; seq = sym (same_number b.seq a.seq parts.1) i }

before : (o : Ordering) (below same : Bool) → (is_lt o || (is_eq o && below)) ≡ is_lt (ordering_then o (cond below Less (cond same Equal Greater)))
before Less below same = refl
before Equal true same = refl
before Equal false true = refl
before Equal false false = refl
before Greater below same = refl

pub rows_by_sequenced : (r s : RowEntry) → row_lt r s ≡ is_lt (sequenced_cmp (sequenced r) (sequenced s))
rows_by_sequenced r s =
    ap (λ t. is_lt (key_cmp r.key s.key) || (t && nat_lt s.seq r.seq)) (sym (is_eq-slice_cmp r.key s.key))
    ∙ before (key_cmp r.key s.key) (ltb s.seq r.seq) (s.seq == r.seq)
