-- The batch of a line's operations.
use Rattle.std.proofs.Common.{◌≡◌, ℕ, ◌⊎◌, inl, inr, List, [], ◌∷◌, ◌++◌, map, Some, None, refl, sym, ap, ◌∙◌, subst, append_assoc}
use Rattle.std.proofs.lemmas.List.{append-nil}
use Rattle.slate_types.specs.declared.error.SlateDBError.{SlateDBError}
use Rattle.slate_mem.specs.declared.WriteOp.{WriteOp}
use Rattle.slate_mem.specs.Batch.{Ops}
use Rattle.slate_mem.specs.BatchModel.{BatchModel, IsBatchOf, no_ops}
use Rattle.slate_mem.specs.Refusals.{first_refusal, op_refusal}
use Rattle.slate_db.specs.Log.{AreFine}

-- rest: the operations that aren't added yet
pub record Batched (ops rest : Ops) (b : BatchModel) : Type 0 where
  pub done : Ops
  pub split : done ++ rest ≡ ops
  pub batch : IsBatchOf done b
  pub fine : AreFine done

pub batched_none : (ops : Ops) (b : BatchModel) → b ≡ no_ops → Batched ops ops b
batched_none ops b is = record { done = []; split = refl; batch = subst (IsBatchOf []) (sym is) (refl, refl); fine = tt }

fine_more : (ops : Ops) (k : List ℕ) (op : WriteOp) → AreFine ops → op_refusal k op ≡ None → AreFine (ops ++ ((k, op) ∷ []))
fine_more [] k op h is = (is, tt)
fine_more (o ∷ os) k op h is = (h.0, fine_more os k op h.1 is)

pub batched_more : (ops rest : Ops) (k : List ℕ) (op : WriteOp) (b new : BatchModel) (old : Batched ops ((k, op) ∷ rest) b) → op_refusal k op ≡ None → IsBatchOf (old.done ++ ((k, op) ∷ [])) new → Batched ops rest new
batched_more ops rest k op b new old fine batch = record {
  done = old.done ++ ((k, op) ∷ []);
  split = append_assoc old.done ((k, op) ∷ []) rest ∙ old.split;
  batch = batch;
  fine = fine_more old.done k op old.fine fine;
}

refused_behind : (done rest : Ops) (k : List ℕ) (op : WriteOp) (e : SlateDBError) → AreFine done → op_refusal k op ≡ Some e → first_refusal (map (λ o. op_refusal o.0 o.1) (done ++ ((k, op) ∷ rest))) ≡ Some e
refused_behind [] rest k op e h is = ap (λ x. first_refusal (x ∷ map (λ o. op_refusal o.0 o.1) rest)) is
refused_behind (o ∷ os) rest k op e h is = ap (λ x. first_refusal (x ∷ map (λ o. op_refusal o.0 o.1) (os ++ ((k, op) ∷ rest)))) h.0 ∙ refused_behind os rest k op e h.1 is

pub batched_refused : (ops rest : Ops) (k : List ℕ) (op : WriteOp) (b : BatchModel) (e : SlateDBError) → Batched ops ((k, op) ∷ rest) b → op_refusal k op ≡ Some e → first_refusal (map (λ o. op_refusal o.0 o.1) ops) ≡ Some e
batched_refused ops rest k op b e old is = ap (λ os. first_refusal (map (λ o. op_refusal o.0 o.1) os)) (sym old.split) ∙ refused_behind old.done rest k op e old.fine is

pub batched_all : (ops : Ops) (b : BatchModel) → Batched ops [] b → IsBatchOf ops b
batched_all ops b h = subst (λ os. IsBatchOf os b) (sym (append-nil h.done) ∙ h.split) h.batch

pub fine_all : (ops : Ops) (b : BatchModel) → Batched ops [] b → AreFine ops
fine_all ops b h = subst AreFine (sym (append-nil h.done) ∙ h.split) h.fine

pub or_refused : {A B C : Type 0} → A ⊎ B → (B → C) → A ⊎ C
or_refused (inl a) f = inl a
or_refused (inr b) f = inr (f b)
