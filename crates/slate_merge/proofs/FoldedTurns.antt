-- Of rows in turn none rises above the operand before it.
use Rattle.std.proofs.Common.{◌≡◌, refl, sym, ap, ◌∙◌, ℕ, ltb, ◌&&◌, Bool, true, false, List, [], ◌∷◌, Option, arith}
use Rattle.std.specs.Prelude.{nat_le, nat_lt}
use Rattle.std.proofs.lemmas.Bool.Decides.{nat_tests}
use Rattle.std.proofs.lemmas.Map.Text.{is_eq-slice_cmp}
use Rattle.std.proofs.lemmas.Slice.Eq.{bytes_eq-Decides}
use Rattle.std.specs.Ordering.{is_lt, is_eq, nat_cmp, ordering_then}
use Rattle.std.specs.declared.cmp.Ordering.{Ordering}
use Rattle.std.specs.declared.cmp.Ordering.TheVariants.{Less, Equal, Greater}
use Rattle.slate_types.specs.declared.types.RowEntry.{RowEntry}
use Rattle.slate_types.specs.declared.iter.IterationOrder.{IterationOrder}
use Rattle.slate_types.specs.declared.iter.IterationOrder.TheVariants.{Ascending, Descending}
use Rattle.slate_types.specs.Keys.{key_cmp}
use Rattle.slate_types.specs.RowTurns.{NoneEarlier, key_order, row_before}
use Rattle.slate_merge.specs.FoldedReads.{NoneRisesInTurn}
use Rattle.slate_merge.specs.FoldedLaws.{linked_key}
use Rattle.slate_merge.specs.Folding.{begins_linked, links, rises}

equal_is : (o : Ordering) → is_eq o ≡ true → o ≡ Equal
equal_is Less h = cc
equal_is Equal h = refl
equal_is Greater h = cc

same_key : (key : List ℕ) → key_cmp key key ≡ Equal
same_key key = equal_is (key_cmp key key) (is_eq-slice_cmp key key ∙ (bytes_eq-Decides key key).1 refl)

same_order : (order : IterationOrder) (key : List ℕ) → key_order order key key ≡ Equal
same_order Ascending key = same_key key
same_order Descending key = same_key key

less_is : (m n : ℕ) → nat_le n m ≡ false → nat_cmp m n ≡ Less
less_is m n h = let below : ltb m n ≡ true = grind (arith, nat_tests, h) in rw below refl

not_less : (m n : ℕ) → nat_le n m ≡ true → nat_lt m n ≡ false
not_less m n h = grind (arith, nat_tests, h)

-- a row in turn behind one of its key has no greater sequence
pub not_greater : (order : IterationOrder) (r s : RowEntry) → s.key ≡ r.key → row_before order s r ≡ false → nat_le s.seq r.seq ≡ true
not_greater order r s same turn = by (nat_le s.seq r.seq) refl
  where
    by : (b : Bool) → nat_le s.seq r.seq ≡ b → b ≡ true
    by true e = refl
    by false e =
        let before : row_before order s r ≡ true = ap (λ k. is_lt (ordering_then (key_order order s.key k) (nat_cmp r.seq s.seq))) (sym same)
        ∙ ap (λ o. is_lt (ordering_then o (nat_cmp r.seq s.seq))) (same_order order s.key) ∙ ap is_lt (less_is r.seq s.seq e) in
        let never : false ≡ true = sym turn ∙ before in cc

none_rises_first : (order : IterationOrder) (different : Bool) (barrier : Option ℕ) (r : RowEntry) (rows : List RowEntry) → NoneEarlier (row_before order) r rows → begins_linked (rises different barrier) r rows ≡ false
none_rises_first order different barrier r [] h = refl
none_rises_first order different barrier r (s ∷ rows) h = by (links different barrier r s) refl
  where
    by : (b : Bool) → links different barrier r s ≡ b → (b && nat_lt r.seq s.seq) ≡ false
    by true e = not_less r.seq s.seq (not_greater order r s (linked_key different barrier r s e) h.0)
    by false e = refl

pub none_rises_in_turn : NoneRisesInTurn
none_rises_in_turn order different barrier [] h = tt
none_rises_in_turn order different barrier (r ∷ rows) h = (none_rises_first order different barrier r rows h.0, none_rises_in_turn order different barrier rows h.1)
