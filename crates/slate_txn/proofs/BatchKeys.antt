-- A batch with operations keeps some.
use Rattle.std.proofs.Common.{ℕ, ◌<◌, List, [], ◌∷◌, length, sym, subst, Ordering, Less, Equal, Greater, arith}
use Rattle.std.specs.Bool.{⊤}
use Rattle.std.specs.Ordering.{match_ordering}
use Rattle.std.specs.BTreeSet.{insert_key}
use Rattle.slate_types.specs.Keys.{key_cmp}
use Rattle.slate_mem.specs.declared.WriteOp.{WriteOp}
use Rattle.slate_mem.specs.Batch.{Ops, batch_keys, kept_ops}
use Rattle.slate_mem.proofs.BatchLaws.{keeps_its_keys}

abbrev pub HasSome : {A : Type 0} → List A → Type 0
HasSome [] = ⊥
HasSome (x ∷ xs) = ⊤

pub some_length : {A : Type 0} (xs : List A) → HasSome xs → 0 < length xs
some_length [] h = absurd h
some_length (x ∷ xs) h = omega arith

some_insert : (k : List ℕ) (ks : List (List ℕ)) → HasSome (insert_key key_cmp ks k)
some_insert k [] = tt
some_insert k (x ∷ xs) = by (key_cmp k x)
  where
    by : (o : Ordering) → HasSome (match_ordering o (k ∷ x ∷ xs) (x ∷ xs) (x ∷ insert_key key_cmp xs k))
    by Less = tt
    by Equal = tt
    by Greater = tt

some_keys : (ops : Ops) → HasSome (batch_keys ops) → HasSome ops
some_keys [] h = h
some_keys (o ∷ os) h = tt

pub some_kept : (o : List ℕ × WriteOp) (os : Ops) → HasSome (kept_ops (o ∷ os))
some_kept o os = some_keys (kept_ops (o ∷ os)) (subst HasSome (sym (keeps_its_keys (o ∷ os))) (some_insert o.0 (batch_keys os)))
