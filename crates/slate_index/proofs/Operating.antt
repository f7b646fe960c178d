-- Operations that a batch takes, and how a call's refusals end.
use Rattle.std.proofs.Common.{◌≡◌, ℕ, ◌<◌, ◌≤◌, ◌⊎◌, inl, inr, Bool, true, false, not, List, [], ◌∷◌, ◌++◌, filter, Option, Some, None, Result, Ok, Err, refl, sym, ap, ◌∙◌, arith}
use Rattle.std.specs.Prelude.{IfErr, IfSome, IsOkUnless, nat_lt}
use Rattle.std.proofs.lemmas.Bool.Decides.{nat_tests}
use Rattle.slate_types.specs.declared.config.PutOptions.{PutOptions}
use Rattle.slate_types.specs.declared.error.SlateDBError.{SlateDBError}
use Rattle.slate_types.specs.declared.error.SlateDBError.TheVariants.{OutOfMemory}
use Rattle.slate_mem.specs.declared.WriteOp.TheVariants.{Put}
use Rattle.slate_types.specs.Keys.{among}
use Rattle.slate_mem.specs.BatchModel.{holds_merge, plain_put}
use Rattle.slate_mem.specs.Refusals.{value_refusal}
use Rattle.slate_txn.specs.Alone.{own_of}
use Rattle.slate_types.specs.declared.types.KeyValue.{KeyValue}
use Rattle.slate_index.specs.Calls.{change_steps}
use Rattle.slate_index.specs.Changes.{change_puts, deletes, entry_puts}
use Rattle.slate_index.specs.Commits.{change_ops, op_of, value_of}
use Rattle.slate_index.specs.Entries.{FieldsModel, entries_if, record_key}
use Rattle.slate_index.specs.Refusals.{IsFine, put_refusal}
use Rattle.slate_index.proofs.Changing.{own_is}
use Rattle.slate_index.proofs.Refusing.{value_passes}

same_value : (v w : List ℕ) (o : PutOptions) → Put v o ≡ plain_put w → v ≡ w
same_value v w o e = cc

some_none : {X : Type 0} {P : Type 0} (x : X) → None ≡ Some x → P
some_none x e = cc

-- a put that is fine has the default options
pub fine_put : (k v : List ℕ) (o : PutOptions) → IsFine (k, Put v o) → Put v o ≡ plain_put v
fine_put k v o h = by h.value h.plain
  where
    by : (x : Option (List ℕ)) → Put v o ≡ op_of x → Put v o ≡ plain_put v
    by None e = cc
    by (Some w) e = e ∙ ap plain_put (sym (same_value v w o e))

pub only_memory : {X : Type 0} (result : Result X SlateDBError) (o : Option SlateDBError) → o ≡ None → IfErr result (λ e. (e ≡ OutOfMemory) ⊎ (o ≡ Some e)) → IsOkUnless result OutOfMemory
only_memory (Ok x) o n h = tt
only_memory (Err e) o n (inl is) = is
only_memory (Err e) o n (inr is) = some_none e (sym n ∙ is)

pub values_pass : (fs : FieldsModel) (new : Option (List ℕ)) → IfSome new (λ v. put_refusal fs v ≡ None) → IfSome new (λ v. value_refusal v ≡ None)
values_pass fs None h = tt
values_pass fs (Some v) h = value_passes fs v h

-- ---- a change's operations

no_merges : (ps : List (List ℕ × Option (List ℕ))) → holds_merge (change_ops ps) ≡ false
no_merges [] = refl
no_merges (p ∷ ps) = by p.1 (no_merges ps)
  where
    by : (o : Option (List ℕ)) → holds_merge (change_ops ps) ≡ false → holds_merge ((p.0, op_of o) ∷ change_ops ps) ≡ false
    by None later = later
    by (Some v) later = later

not_empty : (xs : List (List ℕ × Option (List ℕ))) (y : List ℕ × Option (List ℕ)) (ys : List (List ℕ × Option (List ℕ))) → change_ops (xs ++ (y ∷ ys)) ≡ [] → ⊥
not_empty [] y ys e = cc
not_empty (x ∷ xs) y ys e = cc

module _ (fs : FieldsModel) (id : List ℕ) (answer : Option KeyValue) (new : Option (List ℕ)) where
  pub merges_none : holds_merge (own_of (change_steps fs id answer new)) ≡ false
  merges_none = ap holds_merge (own_is (change_puts fs id (value_of answer) new)) ∙ no_merges (change_puts fs id (value_of answer) new)

  pub puts_some : own_of (change_steps fs id answer new) ≡ [] → ⊥
  puts_some e = not_empty (deletes (filter (λ k. not (among k (entries_if fs id new))) (entries_if fs id (value_of answer)))) (record_key id, new) (entry_puts (entries_if fs id new))
      (sym (own_is (change_puts fs id (value_of answer) new)) ∙ e)

-- below the last, where it isn't the last
pub room_below : (m last : ℕ) → last ≤ m → (last ≡ m → ⊥) → last < m
room_below m last h other = by (nat_lt last m) refl
  where
    yes : nat_lt last m ≡ true → last < m
    yes e = grind (arith, nat_tests)

    no : nat_lt last m ≡ false → last ≡ m
    no e = let past : m ≤ last = grind (arith, nat_tests) in omega (arith, past, h)

    by : (b : Bool) → nat_lt last m ≡ b → last < m
    by true e = yes e
    by false e = absurd (other (no e))
