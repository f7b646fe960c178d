-- What a merge hands out comes in the order.
--     none_before_decided      of rows of which none comes before a key no decided one does
--     shown_in_order      rows in the order are so without those that dedup drops
--     left_in_turn, shown_left      what sources have left is in turn, and what is shown of it comes in the order
use Rattle.std.specs.Prelude.{ℕ, Bool, true, false, List, [], ◌∷◌, Option, None}
use Rattle.std.proofs.Common.{inl, inr}
use Rattle.slate_types.specs.declared.types.RowEntry.{RowEntry}
use Rattle.slate_types.specs.declared.iter.IterationOrder.{IterationOrder}
use Rattle.slate_types.specs.Iteration.{NoneBefore, IsInOrder}
use Rattle.slate_merge.specs.declared.head.Head.{Head}
use Rattle.slate_types.specs.RowTurns.{row_before, AreInTurn}
use Rattle.slate_merge.specs.Merge.{is_hidden, decides, decided_after, shown_rows}
use Rattle.slate_merge.specs.Merging.{placed_before, left_placed, left_rows}
use Rattle.slate_merge.specs.Turns.{both, in_turn_is}
use Rattle.slate_merge.specs.RowOrder.{placed_ranked, in_order_turn, rows_in_turn}

pub none_before_decided : (order : IterationOrder) (key : List ℕ) (hidden : Option (List ℕ)) (rows : List RowEntry) → NoneBefore order key rows → NoneBefore order key (decided_after hidden rows)
none_before_decided order key hidden [] h = tt
none_before_decided order key hidden (r ∷ rows) h = elim (both (is_hidden hidden r.key)) as (λ _. NoneBefore order key (decided_after hidden (r ∷ rows))) [
  | inl e ↦ rw e (none_before_decided order key hidden rows h.1)
  | inr e ↦ rw e (h.0, none_before_decided order key (decides r) rows h.1)
]

in_order_decided : (order : IterationOrder) (hidden : Option (List ℕ)) (rows : List RowEntry) → IsInOrder order rows → IsInOrder order (decided_after hidden rows)
in_order_decided order hidden [] h = tt
in_order_decided order hidden (r ∷ rows) h = elim (both (is_hidden hidden r.key)) as (λ _. IsInOrder order (decided_after hidden (r ∷ rows))) [
  | inl e ↦ rw e (in_order_decided order hidden rows h.1)
  | inr e ↦ rw e (none_before_decided order r.key (decides r) rows h.0, in_order_decided order (decides r) rows h.1)
]

pub shown_in_order : (order : IterationOrder) (dedup : Bool) (rows : List RowEntry) → IsInOrder order rows → IsInOrder order (shown_rows dedup rows)
shown_in_order order true rows h = in_order_decided order None rows h
shown_in_order order false rows h = h

-- the rows that are left come in turn
pub left_in_turn : {S : Type 0} (rest : S → List RowEntry) (order : IterationOrder) (waiting : List S) (heads : List (Head S)) → AreInTurn (row_before order) (left_rows rest order waiting heads)
left_in_turn rest order waiting heads = rows_in_turn order _ (in_turn_is (placed_before order) (placed_ranked order) (left_placed rest waiting heads))

pub shown_left : {S : Type 0} (rest : S → List RowEntry) (order : IterationOrder) (dedup : Bool) (waiting : List S) (heads : List (Head S)) → IsInOrder order (shown_rows dedup (left_rows rest order waiting heads))
shown_left rest order dedup waiting heads = shown_in_order order dedup (left_rows rest order waiting heads) (in_order_turn order (left_rows rest order waiting heads) (left_in_turn rest order waiting heads))
