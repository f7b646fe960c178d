-- Operands: which of a core's operations may be merges, and what an operator makes of them.
--     OwnNone ps      no open transaction took a merge
use Rattle.std.proofs.Common.{◌≡◌, Bool, true, false, cond, bytes_eq, ◌||◌, List, [], ◌∷◌, ◌++◌, map, flat_map, ℕ, Option, Some, None, refl, ap, sym, subst, ◌∙◌}
use Rattle.std.specs.Prelude.{option_map}
use Rattle.std.specs.List.{AllByRecursion}
use Rattle.std.proofs.lemmas.List.Folds.{list_any-append}
use Rattle.slate_store.specs.Env.{combine_of}
use Rattle.slate_mem.specs.declared.WriteOp.{WriteOp}
use Rattle.slate_mem.specs.declared.WriteOp.TheVariants.{Put, Delete, Merge}
use Rattle.slate_mem.specs.Batch.{Ops, kept, kept_ops, batch_keys, replaces}
use Rattle.slate_mem.specs.BatchModel.{is_merge_op, holds_merge}
use Rattle.slate_txn.specs.Named.{find_named, update_named, without}
use Rattle.slate_txn.specs.State.{Commit, Tx}
use Rattle.slate_txn.proofs.NamedLaws.{all_without, update_all}
use Rattle.slate_db.specs.Meaning.{Meaning}
use Rattle.slate_db.specs.Model.{CoreModel}
use Rattle.slate_db.specs.Sound.{HasNoMerge, IsOperable}
use Rattle.slate_db.proofs.Plain.{kept_replace}
use Rattle.slate_types.proofs.Lists.{AllByRecursion_push}

-- what slate_store says of an operator is what slate_mem says
pub combine_is : {M C : Type 0} (f : M → C) (o : Option M) → combine_of f o ≡ option_map f o
combine_is f None = refl
combine_is f (Some operator) = refl

abbrev pub OwnNone : List (List ℕ × Tx) → Type 0
OwnNone ps = AllByRecursion (λ p. holds_merge p.1.ops ≡ false) ps

-- ---- operations that hold no merge

pub none_append : (xs ys : Ops) → holds_merge xs ≡ false → holds_merge ys ≡ false → holds_merge (xs ++ ys) ≡ false
none_append xs ys h g = list_any-append is_merge_op xs ys ∙ (λ i. h i || g i)

not_merge : (k : List ℕ) (op : WriteOp) → replaces op ≡ true → is_merge_op (k, op) ≡ false
not_merge k (Put v o) h = refl
not_merge k Delete h = refl
not_merge k (Merge v o) h = cc

none_tagged : (k : List ℕ) (ops : List WriteOp) → AllByRecursion (λ op. replaces op ≡ true) ops → holds_merge (map (λ op. (k, op)) ops) ≡ false
none_tagged k [] h = refl
none_tagged k (op ∷ ops) h = (λ i. not_merge k op h.0 i || none_tagged k ops h.1 i)

-- what a batch keeps holds none either
pub plain_kept : (ops : Ops) → holds_merge ops ≡ false → holds_merge (kept_ops ops) ≡ false
plain_kept ops h = by (batch_keys ops)
  where
    by : (ks : List (List ℕ)) → holds_merge (flat_map (λ k. map (λ op. (k, op)) (kept ops k)) ks) ≡ false
    by [] = refl
    by (k ∷ ks) = none_append (map (λ op. (k, op)) (kept ops k)) (flat_map (λ j. map (λ op. (j, op)) (kept ops j)) ks) (none_tagged k (kept ops k) (kept_replace ops k h)) (by ks)

-- ---- open transactions

pub own_without : (id : List ℕ) (ps : List (List ℕ × Tx)) → OwnNone ps → OwnNone (without id ps)
own_without id ps h = all_without (λ p. holds_merge p.1.ops ≡ false) id ps h

pub own_updated : (id : List ℕ) (f : Tx → Tx) (ps : List (List ℕ × Tx)) → ((t : Tx) → holds_merge t.ops ≡ false → holds_merge (f t).ops ≡ false) → OwnNone ps → OwnNone (update_named id f ps)
own_updated id f ps same h = update_all (λ p. holds_merge p.1.ops ≡ false) id f ps (λ p. same p.1) h

pub found_plain : (id : List ℕ) (ps : List (List ℕ × Tx)) (t : Tx) → OwnNone ps → find_named id ps ≡ Some t → holds_merge t.ops ≡ false
found_plain id [] t h e = cc
found_plain id (p ∷ ps) t h e = by (bytes_eq p.0 id) e (found_plain id ps t h.1)
  where
    by : (b : Bool) → cond b (Some p.1) (find_named id ps) ≡ Some t → (find_named id ps ≡ Some t → holds_merge t.ops ≡ false) → holds_merge t.ops ≡ false
    by true e rest = let same : p.1 ≡ t = cc in subst (λ (u : Tx). holds_merge u.ops ≡ false) same h.0
    by false e rest = rest e

-- ---- a core

-- of other open transactions, and the same commits
pub operable_own : (m : Meaning) (c d : CoreModel) → d.state.commits ≡ c.state.commits → (m.combine ≡ None → OwnNone c.state.txns → OwnNone d.state.txns) → IsOperable m c → IsOperable m d
operable_own m c d commits own h none =
    let z : HasNoMerge c = h none in
    record { own = own none z.own; commits = subst (λ (cs : List Commit). AllByRecursion (λ d. holds_merge d.ops ≡ false) cs) (sym commits) z.commits }

-- of one commit more
pub operable_commit : (m : Meaning) (c d : CoreModel) (x : Commit) → d.state.commits ≡ c.state.commits ++ (x ∷ []) → (m.combine ≡ None → OwnNone c.state.txns → OwnNone d.state.txns) → (m.combine ≡ None → HasNoMerge c → holds_merge x.ops ≡ false) → IsOperable m c → IsOperable m d
operable_commit m c d x commits own one h none =
    let z : HasNoMerge c = h none in
    record {
      own = own none z.own;
      commits = subst (λ (cs : List Commit). AllByRecursion (λ d. holds_merge d.ops ≡ false) cs) (sym commits) (AllByRecursion_push (λ d. holds_merge d.ops ≡ false) c.state.commits x z.commits (one none z));
    }
