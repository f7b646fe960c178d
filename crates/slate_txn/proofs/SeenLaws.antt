-- What a scan answers stands in the state: each row of a reader's list is what the reader sees at its key, and the answers of `next` are rows of the list.
use Rattle.std.proofs.Common.{◌≡◌, ℕ, List, [], ◌∷◌, ◌++◌, map, filter, filter_map, Option, Some, None, refl, ap, ◌∙◌}
use Rattle.std.specs.List.{AllByRecursion, cons_option}
use Rattle.slate_types.specs.declared.types.RowEntry.{RowEntry}
use Rattle.slate_types.specs.declared.types.KeyValue.{KeyValue}
use Rattle.slate_types.specs.declared.iter.IterationOrder.{IterationOrder}
use Rattle.slate_types.specs.Iteration.{in_order}
use Rattle.slate_types.specs.Keys.{in_range}
use Rattle.slate_types.specs.Rows.{key_value}
use Rattle.slate_txn.specs.declared.event.TranscriptStep.{TranscriptStep}
use Rattle.slate_txn.specs.declared.event.TranscriptStep.TheVariants as steps
use Rattle.slate_txn.specs.State.{Rules, Commit}
use Rattle.slate_txn.specs.Reads.{seen, keys_seen}
use Rattle.slate_txn.specs.Alone.{AloneFrom}
use Rattle.slate_txn.specs.Laws.{RowsAreSeen}
use Rattle.slate_txn.proofs.PartLaws.{IsOfKeys}
use Rattle.slate_txn.proofs.PlaceLaws.{own_seen}

abbrev pub AreSeen : (List ℕ → Option RowEntry) → List RowEntry → Type 0
AreSeen f rows = AllByRecursion (λ x. f x.key ≡ Some x) rows

found : (f : List ℕ → Option RowEntry) → IsOfKeys f → (ks : List (List ℕ)) → AreSeen f (filter_map f ks)
found f own [] = tt
found f own (k ∷ ks) = by (f k) refl (found f own ks)
  where
    by : (o : Option RowEntry) → f k ≡ o → AreSeen f (filter_map f ks) → AreSeen f (cons_option o (filter_map f ks))
    by None e later = later
    by (Some x) e later = (ap f (own k x e) ∙ e, later)

pub rows_are_seen : RowsAreSeen
rows_are_seen r cs n ops order range = found (seen r cs n ops) (own_seen r cs n ops) (in_order order (filter (in_range range) (keys_seen cs n ops)))

-- a row that is seen, as a reader gets it
pub record IsOfRow (f : List ℕ → Option RowEntry) (kv : KeyValue) : Type 0 where
  pub row : RowEntry
  pub stands : f row.key ≡ Some row
  pub is : kv ≡ key_value row

pub answers_are_seen : (r : Rules) (cs : List Commit) (n : ℕ) (f : List ℕ → Option RowEntry) (order : IterationOrder) (rows : List RowEntry) (kvs : List KeyValue) (more : List TranscriptStep) → AreSeen f rows →
    AloneFrom r cs n [] ((order, rows) ∷ []) (map (λ kv. steps.Next 0 (Some kv)) kvs ++ more) → AllByRecursion (IsOfRow f) kvs
answers_are_seen r cs n f order rows [] more h a = tt
answers_are_seen r cs n f order [] (kv ∷ kvs) more h a = no a.0
  where
    no : {P : Type 0} → Some kv ≡ None → P
    no e = cc
answers_are_seen r cs n f order (x ∷ rows) (kv ∷ kvs) more h a = (record { row = x; stands = h.0; is = same (key_value x) a.0 }, answers_are_seen r cs n f order rows kvs more h.1 a.1)
  where
    same : (y : KeyValue) → Some kv ≡ Some y → kv ≡ y
    same y e = cc
