-- The fold of a group, by its parts.
use Rattle.std.proofs.Common.{◌≡◌, refl, sym, ap, ◌∙◌, subst, ℕ, ◌<◌, false, List, [], ◌∷◌, ◌++◌, Option, Some, None, arith, map, length, reverse, ℤ}
use Rattle.std.specs.List.{list_any}
use Rattle.slate_types.specs.declared.types.RowEntry.{RowEntry}
use Rattle.slate_types.specs.declared.types.ValueDeletable.{ValueDeletable}
use Rattle.slate_types.specs.declared.types.ValueDeletable.TheVariants.{Value, Merge, Tombstone}
use Rattle.slate_types.specs.Fold.{Combine, merge_all, onto, value_of_taken, fold_rows, fold_taken, greatest_seq, latest_creation, earliest_expiry}
use Rattle.slate_types.specs.Rows.{operand, is_base}
use Rattle.slate_merge.specs.Folding.{AreOperands}
use Rattle.slate_merge.specs.FoldedLaws.{reverse_front}

-- operands combined onto a value
pub merged_onto : (c : Combine) (v : List ℕ) (rows : List RowEntry) → merge_all c (Some v) (map operand rows) ≡ Some (onto c v rows)
merged_onto c v [] = refl
merged_onto c v (r ∷ rows) = merged_onto c (c (Some v) (operand r)) rows

same_some : {A : Type 0} (x y : A) → Some x ≡ Some y → x ≡ y
same_some x y e = cc

none_fewer : {A : Type 0} → 0 < 0 → A
none_fewer h = absurd (omega (arith, h))

pub value_put : (c : Combine) (o : ValueDeletable) (v made : List ℕ) (rows : List RowEntry) (operands : List (List ℕ)) → o ≡ Value v → 0 < length rows → operands ≡ map operand rows → merge_all c (Some v) operands ≡ Some made → Value made ≡ value_of_taken c o rows
value_put c o v made [] operands is some ops h = none_fewer some
value_put c o v made (r ∷ rows) operands is some ops h =
    ap Value (same_some _ _ (sym h ∙ ap (merge_all c (Some v)) ops ∙ merged_onto c v (r ∷ rows))) ∙ sym (ap (λ x. value_of_taken c x (r ∷ rows)) is)

pub value_deleted : (c : Combine) (o : ValueDeletable) (made : List ℕ) (rows : List RowEntry) (operands : List (List ℕ)) → o ≡ Tombstone → 0 < length rows → operands ≡ map operand rows → merge_all c None operands ≡ Some made → Value made ≡ value_of_taken c o rows
value_deleted c o made [] operands is some ops h = none_fewer some
value_deleted c o made (r ∷ rows) operands is some ops h =
    ap Value (same_some _ _ (sym h ∙ ap (merge_all c None) ops ∙ merged_onto c (c None (operand r)) rows)) ∙ sym (ap (λ x. value_of_taken c x (r ∷ rows)) is)

pub value_merged : (c : Combine) (o : ValueDeletable) (v made : List ℕ) (rows : List RowEntry) (operands : List (List ℕ)) → o ≡ Merge v → 0 < length rows → operands ≡ v ∷ map operand rows → merge_all c None operands ≡ Some made → Merge made ≡ value_of_taken c o rows
value_merged c o v made [] operands is some ops h = none_fewer some
value_merged c o v made (r ∷ rows) operands is some ops h =
    ap Merge (same_some _ _ (sym h ∙ ap (merge_all c None) ops ∙ merged_onto c (c None v) (r ∷ rows))) ∙ sym (ap (λ x. value_of_taken c x (r ∷ rows)) is)

-- ---- the fold of a group

operands_append : (rows others : List RowEntry) → AreOperands rows → AreOperands others → AreOperands (rows ++ others)
operands_append [] others h j = j
operands_append (r ∷ rows) others h j = (h.0, operands_append rows others h.1 j)

operands_reversed : (rows : List RowEntry) → AreOperands rows → AreOperands (reverse rows)
operands_reversed [] h = tt
operands_reversed (r ∷ rows) h = subst AreOperands (sym (reverse_front r rows)) (operands_append (reverse rows) (r ∷ []) (operands_reversed rows h.1) (h.0, tt))

no_base : (rows : List RowEntry) → AreOperands rows → list_any is_base rows ≡ false
no_base [] h = refl
no_base (r ∷ rows) h = rw h.0 (no_base rows h.1)

all_taken : (c : Combine) (o : RowEntry) (rows : List RowEntry) → AreOperands rows → fold_rows c (o ∷ rows) ≡ fold_taken c (o ∷ rows)
all_taken c o rows h = rw (no_base rows h) refl

pub fold_is : (c : Combine) (o made : RowEntry) (newer rows : List RowEntry) → AreOperands newer → rows ≡ reverse newer → fold_taken c (o ∷ rows) ≡ Some made → fold_rows c (o ∷ reverse newer) ≡ Some made
fold_is c o made newer rows h is e = all_taken c o (reverse newer) (operands_reversed newer h) ∙ sym (ap (λ l. fold_taken c (o ∷ l)) is) ∙ e

pub fold_alone : (c : Combine) (o : RowEntry) (newer : List RowEntry) → newer ≡ [] → fold_rows c (o ∷ reverse newer) ≡ Some o
fold_alone c o newer e = ap (λ l. fold_rows c (o ∷ reverse l)) e

pub made_of : (c : Combine) (o : RowEntry) (rows seen_seq seen_created seen_expires seen_value : List RowEntry) (seq : ℕ) (created expires : Option ℤ) (value : ValueDeletable) → seen_seq ≡ rows → seq ≡ greatest_seq o.seq seen_seq → seen_created ≡ rows → created ≡ latest_creation o.create_ts seen_created
    → seen_expires ≡ rows → expires ≡ earliest_expiry o.expire_ts seen_expires → seen_value ≡ rows → value ≡ value_of_taken c o.value seen_value
    → fold_taken c (o ∷ rows) ≡ Some (record { key = o.key; value = value; seq = seq; create_ts = created; expire_ts = expires })
made_of c o rows a b d f seq created expires value ea es eb ec ed ee ef ev =
    sym (ap (λ s. Some (record { key = o.key; value = value; seq = s; create_ts = created; expire_ts = expires })) (es ∙ ap (greatest_seq o.seq) ea)
    ∙ ap (λ t. Some (record { key = o.key; value = value; seq = greatest_seq o.seq rows; create_ts = t; expire_ts = expires })) (ec ∙ ap (latest_creation o.create_ts) eb)
    ∙ ap (λ t. Some (record { key = o.key; value = value; seq = greatest_seq o.seq rows; create_ts = latest_creation o.create_ts rows; expire_ts = t })) (ee ∙ ap (earliest_expiry o.expire_ts) ed)
    ∙ ap (λ v. Some (record { key = o.key; value = v; seq = greatest_seq o.seq rows; create_ts = latest_creation o.create_ts rows; expire_ts = earliest_expiry o.expire_ts rows })) (ev ∙ ap (value_of_taken c o.value) ef))
