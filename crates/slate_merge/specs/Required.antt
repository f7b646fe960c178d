-- What is refused where operands are.
--     IsRequiring iterator it      it has the rows of the iterator, and no operand came
--     StaysRequired takes stays before m reads at e after      an operand came, and it keeps that; or the source refuses
--     required_more, required_whole      what it owes as an iterator
use Rattle.std.specs.Prelude.{◌≡◌, ℕ, true, false, List, ◌++◌, Option, Some}
use Rattle.std.proofs.Common.{◌⊎◌, inl, inr, sym, subst}
use Rattle.slate_types.specs.declared.error.SlateDBError.{SlateDBError}
use Rattle.slate_types.specs.declared.error.SlateDBError.TheVariants.{MergeOperatorMissing}
use Rattle.slate_types.specs.declared.types.RowEntry.{RowEntry}
use Rattle.slate_types.specs.Outside.{Act, Meaning}
use Rattle.slate_types.specs.Refusing.{IsDamage}
use Rattle.slate_types.specs.Rows.{is_operand}
use Rattle.slate_merge.specs.declared.required_iterator.MergeOperatorRequiredIterator.{MergeOperatorRequiredIterator}

pub record IsRequiring {S : Type 0} (iterator : S) (it : MergeOperatorRequiredIterator S) : Type 0 where
  pub rows : it.iterator ≡ iterator
  pub none : it.missing ≡ false

abbrev pub StaysRequired : {S : Type 0} → (S → Meaning → List Act → Option RowEntry → S → Type 0) → (S → Meaning → List Act → Option (List ℕ) → SlateDBError → S → Type 0)
    → MergeOperatorRequiredIterator S → Meaning → List Act → Option (List ℕ) → SlateDBError → MergeOperatorRequiredIterator S → Type 0
StaysRequired {S} takes stays before m reads at e after =
    ((e ≡ MergeOperatorMissing) × (after.missing ≡ true) × ((before.missing ≡ true) ⊎ ((row : RowEntry) × (is_operand row ≡ true) × takes before.iterator m reads (Some row) after.iterator)))
    ⊎ ((after.missing ≡ false) × stays before.iterator m reads at e after.iterator)

pub required_more : (refuses : List Act → Option (List ℕ) → SlateDBError → Type 0) (done : List Act) → ((reads : List Act) (at : Option (List ℕ)) (e : SlateDBError) → refuses reads at e → refuses (done ++ reads) at e)
    → (reads : List Act) (at : Option (List ℕ)) (e : SlateDBError) → (e ≡ MergeOperatorMissing) ⊎ refuses reads at e → (e ≡ MergeOperatorMissing) ⊎ refuses (done ++ reads) at e
required_more refuses done more reads at e (inl is) = inl is
required_more refuses done more reads at e (inr h) = inr (more reads at e h)

pub required_whole : (refuses : Type 0) (e : SlateDBError) → (refuses → ¬ IsDamage e) → (e ≡ MergeOperatorMissing) ⊎ refuses → ¬ IsDamage e
required_whole refuses e fine (inl is) = subst (λ d. ¬ IsDamage d) (sym is) (λ d. d)
required_whole refuses e fine (inr h) = fine h
