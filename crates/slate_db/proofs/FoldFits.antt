-- What fits memory stays so under a fold.
use Rattle.std.proofs.Common.{◌≡◌, ℕ, List, [], ◌∷◌, Option, Some, None, option_to_list, ℤ, refl, ap}
use Rattle.std.specs.Prelude.{option_map}
use Rattle.std.specs.List.{AllByRecursion}
use Rattle.slate_types.specs.declared.types.RowEntry.{RowEntry}
use Rattle.slate_types.specs.declared.types.ValueDeletable.{ValueDeletable}
use Rattle.slate_types.specs.declared.types.ValueDeletable.TheVariants.{Value, Merge, Tombstone}
use Rattle.slate_types.specs.Fold.{Combine, IsShort, KeepsShort, earliest_expiry, fold_rows, fold_taken, greatest_seq, latest_creation, operator_at, taken, value_of_taken}
use Rattle.slate_types.specs.Rows.{is_base, operand}
use Rattle.slate_block.specs.BlockSpelling.{as_read}
use Rattle.slate_block.specs.RowSpelling.{read_expiry}
use Rattle.slate_db.specs.Layers.{FitsMemory}
use Rattle.slate_db.specs.Model.{Rows}
use Rattle.slate_db.proofs.Short.{all_from_last, value_short}
use Rattle.slate_types.proofs.Lists.{AllByRecursion_weaken}

-- an operator keeps short values short where its law says so, and what stands without one does
pub operator_short : {M : Type 0} (combine : M → List ℕ → Combine) (o : Option M) → ((operator : M) (k : List ℕ) → KeepsShort (combine operator k)) → (k : List ℕ) → KeepsShort (operator_at (option_map combine o) k)
operator_short combine None short k = λ u v given held. held
operator_short combine (Some operator) short k = short operator k

-- a tombstone that nothing is folded onto is read as it was, and no other fold is a tombstone
expiry_read : (c : Combine) (v : ValueDeletable) (e : Option ℤ) (rs : Rows) → read_expiry v e ≡ e → read_expiry (value_of_taken c v rs) (earliest_expiry e rs) ≡ earliest_expiry e rs
expiry_read c v e [] h = h
expiry_read c (Value v) e (r ∷ rs) h = refl
expiry_read c Tombstone e (r ∷ rs) h = refl
expiry_read c (Merge v) e (r ∷ rs) h = refl

pub fold_fits : (c : Combine) → KeepsShort c → (rows : Rows) → AllByRecursion FitsMemory rows → AllByRecursion FitsMemory (option_to_list (fold_rows c rows))
fold_fits c keeps rows h = by (taken rows) (all_from_last FitsMemory is_base rows h)
  where
    by : (rs : Rows) → AllByRecursion FitsMemory rs → AllByRecursion FitsMemory (option_to_list (fold_taken c rs))
    by [] h = tt
    by (r ∷ rs) h = (
      record {
        key = h.0.key;
        value = value_short c keeps r.value rs h.0.value (AllByRecursion_weaken FitsMemory (λ s. IsShort (operand s)) (λ s f. f.value) rs h.1);
        read = λ i. record {
          key = r.key;
          value = value_of_taken c r.value rs;
          seq = greatest_seq r.seq rs;
          create_ts = latest_creation r.create_ts rs;
          expire_ts = expiry_read c r.value r.expire_ts rs (ap (λ (x : RowEntry). x.expire_ts) h.0.read) i;
        };
      },
      tt,
    )
