-- Steps of a fold by one call of the operator.
use Rattle.std.proofs.Common.{◌≡◌, ℕ, ◌<◌, List, [], ◌∷◌, length, map, reverse, Option, Some, None, option_to_list, ℤ, refl, sym, ap, subst, ◌∙◌, arith}
use Rattle.std.specs.List.{AllByRecursion}
use Rattle.slate_types.specs.declared.types.RowEntry.{RowEntry}
use Rattle.slate_types.specs.declared.types.ValueDeletable.{ValueDeletable}
use Rattle.slate_types.specs.declared.types.ValueDeletable.TheVariants.{Value, Merge, Tombstone}
use Rattle.slate_types.specs.Fold.{Combine, merge_all, onto, value_of_taken, fold_rows, fold_taken, greatest_seq, latest_creation, earliest_expiry, from_last}
use Rattle.slate_types.specs.Rows.{operand, is_base}
use Rattle.slate_mem.specs.Table.{to_base}
use Rattle.slate_mem.proofs.MemLaws.{taken_newest}
use Rattle.slate_mem.proofs.FlushLaws.{all_turned}

-- operands combined onto a value
merged_onto : (c : Combine) (v : List ℕ) (rows : List RowEntry) → merge_all c (Some v) (map operand rows) ≡ Some (onto c v rows)
merged_onto c v [] = refl
merged_onto c v (r ∷ rows) = merged_onto c (c (Some v) (operand r)) rows

same_some : {A : Type 0} (x y : A) → Some x ≡ Some y → x ≡ y
same_some x y e = cc

none_fewer : {A : Type 0} → 0 < 0 → A
none_fewer h = absurd (omega (arith, h))

pub value_put : (c : Combine) (o : ValueDeletable) (v made : List ℕ) (rows : List RowEntry) (operands : List (List ℕ)) → o ≡ Value v → 0 < length rows → operands ≡ map operand rows → merge_all c (Some v) operands ≡ Some made → Value made ≡ value_of_taken c o rows
value_put c o v made [] operands is some ops h = none_fewer some
value_put c o v made (r ∷ rows) operands is some ops h =
    ap Value (same_some _ _ (sym h ∙ ap (merge_all c (Some v)) ops ∙ merged_onto c v (r ∷ rows))) ∙ sym (ap (λ x. value_of_taken c x (r ∷ rows)) is)

pub value_deleted : (c : Combine) (o : ValueDeletable) (made : List ℕ) (rows : List RowEntry) (operands : List (List ℕ)) → o ≡ Tombstone → 0 < length rows → operands ≡ map operand rows → merge_all c None operands ≡ Some made → Value made ≡ value_of_taken c o rows
value_deleted c o made [] operands is some ops h = none_fewer some
value_deleted c o made (r ∷ rows) operands is some ops h =
    ap Value (same_some _ _ (sym h ∙ ap (merge_all c None) ops ∙ merged_onto c (c None (operand r)) rows)) ∙ sym (ap (λ x. value_of_taken c x (r ∷ rows)) is)

pub value_merged : (c : Combine) (o : ValueDeletable) (v made : List ℕ) (rows : List RowEntry) (operands : List (List ℕ)) → o ≡ Merge v → 0 < length rows → operands ≡ v ∷ map operand rows → merge_all c None operands ≡ Some made → Merge made ≡ value_of_taken c o rows
value_merged c o v made [] operands is some ops h = none_fewer some
value_merged c o v made (r ∷ rows) operands is some ops h =
    ap Merge (same_some _ _ (sym h ∙ ap (merge_all c None) ops ∙ merged_onto c (c None v) (r ∷ rows))) ∙ sym (ap (λ x. value_of_taken c x (r ∷ rows)) is)

-- a row with these fields is the fold
pub fold_made : (c : Combine) (o : RowEntry) (rows : List RowEntry) (value : ValueDeletable) (seq : ℕ) (created expires : Option ℤ) → value ≡ value_of_taken c o.value rows → seq ≡ greatest_seq o.seq rows → created ≡ latest_creation o.create_ts rows → expires ≡ earliest_expiry o.expire_ts rows →
    fold_taken c (o ∷ rows) ≡ Some (record { key = o.key; value = value; seq = seq; create_ts = created; expire_ts = expires })
fold_made c o rows value seq created expires v s t e = λ i. Some (record { key = o.key; value = sym v i; seq = sym s i; create_ts = sym t i; expire_ts = sym e i })

-- the rows of a key, of which the last was taken off and the others turned
pub fold_of_group : (combine : List ℕ → Combine) (k : List ℕ) (o made : RowEntry) (rows left newer : List RowEntry) → AllByRecursion (λ r. r.key ≡ k) rows → to_base rows ≡ rows → reverse rows ≡ o ∷ reverse left → newer ≡ reverse left →
    fold_taken (combine o.key) (o ∷ newer) ≡ Some made → made ∷ [] ≡ option_to_list (fold_rows (combine k) (reverse rows))
fold_of_group combine k o made rows left newer keys based split turned h =
    let key : o.key ≡ k = (subst (AllByRecursion (λ (r : RowEntry). r.key ≡ k)) split (all_turned (λ (r : RowEntry). r.key ≡ k) rows keys)).0 in
    let whole : from_last is_base (reverse rows) ≡ reverse rows = sym (taken_newest rows) ∙ ap reverse based in
    sym (ap (λ xs. option_to_list (fold_taken (combine k) xs)) (whole ∙ split ∙ ap (λ xs. o ∷ xs) (sym turned)) ∙ ap (λ j. option_to_list (fold_taken (combine j) (o ∷ newer))) (sym key) ∙ ap option_to_list h)
