-- A change of one open transaction: what becomes of the core, and the model's step.
use Rattle.std.proofs.Common.{◌≡◌, ℕ, true, false, ◌||◌, ◌⊎◌, inl, inr, List, [], ◌∷◌, Option, Some, None, refl, sym, ap, subst, ◌∙◌}
use Rattle.std.specs.Prelude.{is_none, is_some, Result, Ok, Err, OnOk, OnErr, IfErr, IsSome}
use Rattle.slate_store.specs.Env.{combine_of}
use Rattle.slate_types.specs.declared.error.SlateDBError.{SlateDBError}
use Rattle.slate_types.specs.declared.error.SlateDBError.TheVariants.{MergeOperatorMissing, OutOfMemory}
use Rattle.slate_mem.specs.declared.WriteOp.{WriteOp}
use Rattle.slate_mem.specs.BatchModel.{holds_merge, is_merge_op}
use Rattle.slate_mem.specs.Refusals.{first_refusal, op_refusal, when}
use Rattle.slate_txn.specs.Named.{find_named, update_named}
use Rattle.slate_txn.specs.Open.{Transactions}
use Rattle.slate_txn.specs.Reply.{Reply, Done, Refused}
use Rattle.slate_txn.specs.State.{State, Tx, begun}
use Rattle.slate_txn.specs.Step.{operate, change, with_op}
use Rattle.slate_db.specs.declared.engine.Core.TheInside.{Inside}
use Rattle.slate_db.specs.Meaning.{Meaning}
use Rattle.slate_db.specs.Model.{CoreModel}
use Rattle.slate_db.specs.Operated.{operated}
use Rattle.slate_db.specs.Sound.{IsKept}
use Rattle.slate_db.specs.View.{view_of, unseen_of, IsWholeInside}
use Rattle.slate_db.proofs.Keeps.{kept_event}
use Rattle.slate_db.proofs.Operands.{OwnNone, none_append, own_updated}
use Rattle.slate_db.proofs.Wholes.{KeepsOwn, whole_changed}
use Rattle.slate_txn.proofs.NamedLaws.{IsNamed, open_is}

-- the core, of a call that changed one transaction or none
pub whole_either : {X E : Type 0} (r : Result X E) (s : Inside) (ts : Transactions) (id : List ℕ) (f : Tx → Tx) → ((t : Tx) → begun (f t).level (f t).begin ≡ begun t.level t.begin) → KeepsOwn f → OnOk r (ts ≡ update_named id f s.transactions) → OnErr r (ts ≡ s.transactions) →
    IsWholeInside s → IsWholeInside (record s { transactions = ts })
whole_either (Ok x) s ts id f same own changed err w = subst (λ (us : Transactions). IsWholeInside (record s { transactions = us })) (sym changed) (whole_changed (view_of s) (unseen_of s) id f same own w)
whole_either (Err e) s ts id f same own changed err w = subst (λ (us : Transactions). IsWholeInside (record s { transactions = us })) (sym err) w

own_either : {X E : Type 0} (r : Result X E) (s : Inside) (ts : Transactions) (id : List ℕ) (f : Tx → Tx) → OnOk r (ts ≡ update_named id f s.transactions) → OnErr r (ts ≡ s.transactions) →
    ((t : Tx) → holds_merge t.ops ≡ false → OnOk r (holds_merge (f t).ops ≡ false)) → OwnNone s.transactions → OwnNone ts
own_either (Ok x) s ts id f changed err plain own = subst OwnNone (sym changed) (own_updated id f s.transactions plain own)
own_either (Err e) s ts id f changed err plain own = subst OwnNone (sym err) own

-- an operation that is no merge, and none
pub own_none : {X E : Type 0} (r : Result X E) (k : List ℕ) (op : WriteOp) → is_merge_op (k, op) ≡ false → (t : Tx) → holds_merge t.ops ≡ false → OnOk r (holds_merge (with_op k op t).ops ≡ false)
own_none (Ok x) k op plain t h = none_append t.ops ((k, op) ∷ []) h (ap (λ b. b || false) plain)
own_none (Err e) k op plain t h = tt

pub own_kept : {X E : Type 0} (r : Result X E) (t : Tx) → holds_merge t.ops ≡ false → OnOk r (holds_merge t.ops ≡ false)
own_kept (Ok x) t h = h
own_kept (Err e) t h = tt

pub kept_either : {X E : Type 0} (r : Result X E) (m : Meaning) (s : Inside) (c : CoreModel) (ts : Transactions) (id : List ℕ) (f : Tx → Tx) → view_of s ≡ c → OnOk r (ts ≡ update_named id f s.transactions) → OnErr r (ts ≡ s.transactions) →
    (m.combine ≡ None → (t : Tx) → holds_merge t.ops ≡ false → OnOk r (holds_merge (f t).ops ≡ false)) → IsKept m c → IsKept m (view_of (record s { transactions = ts }))
kept_either r m s c ts id f is changed err plain k =
    kept_event m (view_of s) (record (view_of s).state { txns = ts }) (view_of s).events (view_of s).spare refl refl refl (λ none own. own_either r s ts id f changed err (plain none) own) (subst (λ (v : CoreModel). IsKept m v) (sym is) k)

pub operated_is : (s : Inside) (c : CoreModel) (ts : Transactions) (id : List ℕ) (f : Tx → Tx) → view_of s ≡ c → ts ≡ update_named id f s.transactions → view_of (record s { transactions = ts }) ≡ operated c id f
operated_is s c ts id f is changed = ap (λ (us : Transactions). view_of (record s { transactions = us })) changed ∙ ap (λ (v : CoreModel). operated v id f) is

pub same_is : (s : Inside) (c : CoreModel) (ts : Transactions) → view_of s ≡ c → ts ≡ s.transactions → view_of (record s { transactions = ts }) ≡ c
same_is s c ts is same = ap (λ (us : Transactions). view_of (record s { transactions = us })) same ∙ is

-- ---- the model

-- with an operator a merge is refused as any operation is
merge_refusal : {C : Type 0} (combine : Option C) (o : Option SlateDBError) → is_some combine ≡ true → first_refusal (when (is_none combine) MergeOperatorMissing ∷ o ∷ []) ≡ o
merge_refusal None o h = cc
merge_refusal (Some f) None h = refl
merge_refusal (Some f) (Some e) h = refl

pub some_combine : {M C : Type 0} (f : M → C) (o : Option M) → is_some o ≡ true → is_some (combine_of f o) ≡ true
some_combine f None h = cc
some_combine f (Some operator) h = refl

pub step_merged : {C : Type 0} (combine : Option C) (s : State) (id k : List ℕ) (op : WriteOp) → IsSome (find_named id s.txns) → is_some combine ≡ true → op_refusal k op ≡ None →
    operate s id k op (first_refusal (when (is_none combine) MergeOperatorMissing ∷ op_refusal k op ∷ [])) (find_named id s.txns) ≡ (record s { txns = update_named id (with_op k op) s.txns }, Done)
step_merged combine s id k op held there fine = (let free = merge_refusal combine (op_refusal k op) there ∙ fine in let t = open_is (find_named id s.txns) held in λ i. operate s id k op (free i) (t.is i))

pub step_refused_merge : {C : Type 0} (combine : Option C) (s : State) (id k : List ℕ) (op : WriteOp) (e : SlateDBError) → IsSome (find_named id s.txns) → is_some combine ≡ true → op_refusal k op ≡ Some e →
    operate s id k op (first_refusal (when (is_none combine) MergeOperatorMissing ∷ op_refusal k op ∷ [])) (find_named id s.txns) ≡ (s, Refused e)
step_refused_merge combine s id k op e held there is = (let refused = merge_refusal combine (op_refusal k op) there ∙ is in let t = open_is (find_named id s.txns) held in λ i. operate s id k op (refused i) (t.is i))

pub step_operated : (s : State) (id k : List ℕ) (op : WriteOp) → IsSome (find_named id s.txns) → op_refusal k op ≡ None → operate s id k op (op_refusal k op) (find_named id s.txns) ≡ (record s { txns = update_named id (with_op k op) s.txns }, Done)
step_operated s id k op held fine = let t = open_is (find_named id s.txns) held in (λ i. operate s id k op (fine i) (t.is i))

pub step_refused_op : (s : State) (id k : List ℕ) (op : WriteOp) (e : SlateDBError) → IsSome (find_named id s.txns) → op_refusal k op ≡ Some e → operate s id k op (op_refusal k op) (find_named id s.txns) ≡ (s, Refused e)
step_refused_op s id k op e held is = let t = open_is (find_named id s.txns) held in (λ i. operate s id k op (is i) (t.is i))

pub step_changed : (s : State) (id : List ℕ) (f : Tx → Tx) → IsSome (find_named id s.txns) → change s id f (find_named id s.txns) ≡ (record s { txns = update_named id f s.txns }, Done)
step_changed s id f held = let t = open_is (find_named id s.txns) held in ap (change s id f) t.is

pub refused_map : (r : Result (Unit {0}) SlateDBError) (P Q : SlateDBError → Type 0) → ((e : SlateDBError) → P e → Q e) → IfErr r (λ e. (e ≡ OutOfMemory) ⊎ P e) → IfErr r (λ e. (e ≡ OutOfMemory) ⊎ Q e)
refused_map (Ok x) P Q f h = tt
refused_map (Err e) P Q f (inl m) = inl m
refused_map (Err e) P Q f (inr p) = inr (f e p)
