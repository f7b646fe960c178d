-- The steps of a change: how they end, by what its calls say.
use Rattle.std.proofs.Common.{◌≡◌, ℕ, ◌⊎◌, inl, inr, List, [], ◌∷◌, ◌++◌, Option, Some, None, refl, sym, ap, subst, ◌∙◌}
use Rattle.std.specs.Prelude.{IfSome}
use Rattle.slate_types.specs.declared.config.IsolationLevel.TheVariants.{SerializableSnapshot}
use Rattle.slate_types.specs.declared.error.SlateDBError.{SlateDBError}
use Rattle.slate_types.specs.declared.error.SlateDBError.TheVariants.{OutOfMemory}
use Rattle.slate_types.specs.declared.types.KeyValue.{KeyValue}
use Rattle.slate_types.specs.Outside.{Reach}
use Rattle.slate_types.proofs.Reaching.{reads_none}
use Rattle.slate_filter.specs.Policy.{Policy}
use Rattle.slate_mem.specs.KeyTests.{Segments}
use Rattle.slate_txn.specs.declared.event.TranscriptStep.{TranscriptStep}
use Rattle.slate_txn.specs.declared.event.TranscriptStep.TheVariants.{Get}
use Rattle.slate_db.specs.Model.{CoreModel}
use Rattle.slate_steps.specs.Reads.{IsChecked, IsFaultSettled, IsReadError}
use Rattle.slate_steps.specs.Steps.{IsWithin, Sees}
use Rattle.slate_index.specs.declared.error.IndexError.{IndexError}
use Rattle.slate_index.specs.declared.error.IndexError.TheVariants.{Db}
use Rattle.slate_index.specs.Calls.{faults, of_db, reads, refused}
use Rattle.slate_index.specs.Changes.{change_puts}
use Rattle.slate_index.specs.Commits.{change_ops, value_of}
use Rattle.slate_index.specs.Entries.{FieldsModel, record_key}
use Rattle.slate_index.specs.Refusals.{change_refusal, delete_refusal, put_refusal}
use Rattle.slate_index.specs.Shown.{steps_of}
use Rattle.slate_index.specs.Taken.{HasTaken, IsStopped}
use Rattle.slate_index.proofs.Changing.{read_value, sees_own, within_counts}
use Rattle.slate_index.proofs.ShownLaws.{steps_again}

module _ (policies : List Policy) (before after : Reach) (fs : FieldsModel) (id : List ℕ) (new : Option (List ℕ)) (c : CoreModel) (tx : List ℕ) (d : CoreModel) where
  memory_stopped : (ts : List TranscriptStep) (e : IndexError) → IsWithin c tx SerializableSnapshot ts d → e ≡ Db OutOfMemory → IsStopped policies before after fs id new c tx d e
  memory_stopped ts e within is = record {
    steps = ts;
    within = within;
    cause = of_db OutOfMemory is (faults tt);
    checked = λ g h. inr (OutOfMemory, is, λ s k. tt);
  }

  -- before the read
  pub key_stopped : (e : IndexError) → IsWithin c tx SerializableSnapshot [] d → e ≡ Db OutOfMemory → IsStopped policies before after fs id new c tx d e
  key_stopped e within is = memory_stopped [] e within is

  -- the read is refused; begun: the core that it is of
  pub read_stopped : (begun : CoreModel) (x : SlateDBError) → IsWithin c tx SerializableSnapshot [] begun → d ≡ begun → IsReadError policies before after begun x →
      IsFaultSettled policies before after c x → IsStopped policies before after fs id new c tx d (Db x)
  read_stopped begun x within same error undamaged = record {
    steps = [];
    within = subst (IsWithin c tx SerializableSnapshot []) (sym same) within;
    cause = of_db x refl (reads tx SerializableSnapshot (record {
      taken = [];
      core = begun;
      within = within;
      from = before;
      upto = after;
      first = reads_none before;
      later = reads_none after;
      refused = error;
    }));
    checked = λ g h. inr (x, refl, undamaged);
  }

  -- what the change does is refused
  pub change_stopped : (begun : CoreModel) (row : Option KeyValue) (e : IndexError) → IsWithin c tx SerializableSnapshot (Get (record_key id) row ∷ []) begun →
      ((g : Segments) → IsChecked policies g before after c → Sees before.meaning c (Get (record_key id) row ∷ [])) →
      (us : List TranscriptStep) × IsWithin c tx SerializableSnapshot ((Get (record_key id) row ∷ []) ++ us) d →
      ((new ≡ None) × (delete_refusal id (value_of row) ≡ Some e)) ⊎ (e ≡ Db OutOfMemory) → IsStopped policies before after fs id new c tx d e
  change_stopped begun row e within sees still (inr memory) = memory_stopped ((Get (record_key id) row ∷ []) ++ still.0) e still.1 memory
  change_stopped begun row e within sees still (inl (none, is)) = record {
    steps = (Get (record_key id) row ∷ []) ++ still.0;
    within = still.1;
    cause = refused row here;
    checked = λ g h. inl (ap (λ v. change_refusal fs id v new) (sym (read_value before.meaning c (within_counts c begun tx SerializableSnapshot (Get (record_key id) row ∷ []) within) fs id row new (sees_own before.meaning c fs id row new (sees g h)))) ∙ here);
  }
    where
      here : change_refusal fs id (value_of row) new ≡ Some e
      here = ap (change_refusal fs id (value_of row)) none ∙ is

  -- all of it is done
  pub all_taken : (row : Option KeyValue) → IfSome new (λ v. put_refusal fs v ≡ None) → (new ≡ None → delete_refusal id (value_of row) ≡ None) →
      ((g : Segments) → IsChecked policies g before after c → Sees before.meaning c (Get (record_key id) row ∷ [])) →
      IsWithin c tx SerializableSnapshot ((Get (record_key id) row ∷ []) ++ steps_of (change_ops (change_puts fs id (value_of row) new))) d → HasTaken policies before after fs id new c tx d
  all_taken row accepted there sees within = record {
    answer = row;
    within = subst (λ us. IsWithin c tx SerializableSnapshot (Get (record_key id) row ∷ us) d) (steps_again (change_puts fs id (value_of row) new)) within;
    passes = by new refl accepted;
    sees = λ g h. sees_own before.meaning c fs id row new (sees g h);
  }
    where
      by : (o : Option (List ℕ)) → new ≡ o → IfSome o (λ v. put_refusal fs v ≡ None) → change_refusal fs id (value_of row) new ≡ None
      by None is h = ap (change_refusal fs id (value_of row)) is ∙ there is
      by (Some v) is h = ap (change_refusal fs id (value_of row)) is ∙ h
