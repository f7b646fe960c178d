-- A transaction's transcript stays vouched for.
use Rattle.std.proofs.Common.{◌≡◌, ◌≢◌, ℕ, ◌+◌, ◌≤◌, ◌<◌, Bool, true, false, cond, bytes_eq, List, [], ◌∷◌, ◌++◌, Option, Some, None, option_map, refl, ℤ, sym, ap, subst, ◌∙◌, arith}
use Rattle.std.specs.Prelude.{Result, Ok, Err, IfOk, OnOk, OnErr}
use Rattle.std.specs.List.{AllByRecursion}
use Rattle.std.proofs.lemmas.Option.{same_Some}
use Rattle.std.proofs.lemmas.Slice.Eq.{bytes_eq-Decides}
use Rattle.slate_types.specs.declared.config.IsolationLevel.{IsolationLevel}
use Rattle.slate_types.specs.declared.types.KeyValue.{KeyValue}
use Rattle.slate_types.specs.Rows.{key_value}
use Rattle.slate_mem.specs.declared.WriteOp.{WriteOp}
use Rattle.slate_mem.specs.Batch.{Ops, batch_keys, kept_ops}
use Rattle.slate_txn.specs.declared.event.TranscriptStep.TheVariants as steps
use Rattle.slate_txn.specs.declared.line.Line.TheVariants as lines
use Rattle.slate_txn.specs.Alone.{IsVouched, own_of}
use Rattle.slate_txn.specs.Conflict.{tracked_writes}
use Rattle.slate_txn.specs.Named.{find_named, update_named, without}
use Rattle.slate_txn.specs.Reads.{seen}
use Rattle.slate_txn.specs.Reply.{Reply, Flushed}
use Rattle.slate_txn.specs.State.{Rules, Commit, State, Tx, begun}
use Rattle.slate_txn.specs.Step.{step, with_op}
use Rattle.slate_txn.proofs.ReadLaws.{alone_more, alone_same, same_commits}
use Rattle.slate_db.specs.Committed.{IsCommitted, IsNextOf}
use Rattle.slate_db.specs.Meaning.{Meaning, rules_of}
use Rattle.slate_db.specs.Model.{CoreModel, Rows}
use Rattle.slate_db.specs.Operated.{operated}
use Rattle.slate_db.specs.Vouched.{IsVouchedFor}
use Rattle.slate_db.specs.Whole.{IsWhole, Unseen}
use Rattle.slate_db.specs.Written.{after_write}
use Rattle.slate_db.proofs.Seen.{found_all}
use Rattle.slate_db.proofs.Wholes.{after_begin, after_end}
use Rattle.slate_types.proofs.Lists.{AllByRecursion_weaken}

-- ---- values under names

-- what is under a name, after a change of what is under one
pub found_updated : {X : Type 0} (P : X → Type 0) (id k : List ℕ) (f : X → X) (ps : List (List ℕ × X)) → ((x : X) → find_named id ps ≡ Some x → P x → P (f x)) → ((x : X) → find_named k ps ≡ Some x → P x) → (x : X) → find_named k (update_named id f ps) ≡ Some x → P x
found_updated P id k f [] g h x e = h x e
found_updated P id k f (p ∷ ps) g h x e = by (bytes_eq p.0 id) g e (λ d. found_updated P id k f ps d)
  where
    here : (b : Bool) → ((y : _) → cond b (Some p.1) (find_named k ps) ≡ Some y → P y) → (P p.1 → P (f p.1)) → cond b (Some (f p.1)) (find_named k ps) ≡ Some x → P x
    here true h g e = subst P (same_Some (f p.1) x e) (g (h p.1 refl))
    here false h g e = h x e

    there : (b : Bool) → ((y : _) → cond b (Some p.1) (find_named k ps) ≡ Some y → P y) → (((y : _) → find_named k ps ≡ Some y → P y) → (y : _) → find_named k (update_named id f ps) ≡ Some y → P y) → cond b (Some p.1) (find_named k (update_named id f ps)) ≡ Some x → P x
    there true h rest e = h x e
    there false h rest e = rest h x e

    by : (a : Bool) → ((y : _) → cond a (Some p.1) (find_named id ps) ≡ Some y → P y → P (f y)) → find_named k (cond a ((p.0, f p.1) ∷ ps) (p ∷ update_named id f ps)) ≡ Some x →
        (((y : _) → find_named id ps ≡ Some y → P y → P (f y)) → ((y : _) → find_named k ps ≡ Some y → P y) → (y : _) → find_named k (update_named id f ps) ≡ Some y → P y) → P x
    by true g e rest = here (bytes_eq p.0 k) h (g p.1 refl) e
    by false g e rest = there (bytes_eq p.0 k) h (rest g) e

-- a new name is under the last
found_last : {X : Type 0} (P : X → Type 0) (k : List ℕ) (x : X) (ps : List (List ℕ × X)) → find_named k ps ≡ None → P x → (y : X) → find_named k (ps ++ ((k, x) ∷ [])) ≡ Some y → P y
found_last P k x [] fresh h y e = by (bytes_eq k k) e
  where
    by : (b : Bool) → cond b (Some x) None ≡ Some y → P y
    by true e = subst P (same_Some x y e) h
    by false e = cc
found_last P k x (p ∷ ps) fresh h y e = by (bytes_eq p.0 k) fresh e (found_last P k x ps)
  where
    by : (b : Bool) → cond b (Some p.1) (find_named k ps) ≡ None → cond b (Some p.1) (find_named k (ps ++ ((k, x) ∷ []))) ≡ Some y →
        (find_named k ps ≡ None → P x → (z : _) → find_named k (ps ++ ((k, x) ∷ [])) ≡ Some z → P z) → P y
    by true fresh e rest = cc
    by false fresh e rest = rest fresh h y e

-- another value more
found_more : {X : Type 0} (P : X → Type 0) (id k : List ℕ) (x : X) (ps : List (List ℕ × X)) → P x → ((y : X) → find_named k ps ≡ Some y → P y) → (y : X) → find_named k (ps ++ ((id, x) ∷ [])) ≡ Some y → P y
found_more P id k x [] new h y e = by (bytes_eq id k) e
  where
    by : (b : Bool) → cond b (Some x) None ≡ Some y → P y
    by true e = subst P (same_Some x y e) new
    by false e = cc
found_more P id k x (p ∷ ps) new h y e = by (bytes_eq p.0 k) h e (found_more P id k x ps new)
  where
    by : (b : Bool) → ((z : _) → cond b (Some p.1) (find_named k ps) ≡ Some z → P z) → cond b (Some p.1) (find_named k (ps ++ ((id, x) ∷ []))) ≡ Some y →
        (((z : _) → find_named k ps ≡ Some z → P z) → (z : _) → find_named k (ps ++ ((id, x) ∷ [])) ≡ Some z → P z) → P y
    by true h e rest = h y e
    by false h e rest = rest h y e

-- another value less
found_without : {X : Type 0} (P : X → Type 0) (id k : List ℕ) (ps : List (List ℕ × X)) → k ≢ id → ((y : X) → find_named k ps ≡ Some y → P y) → (y : X) → find_named k (without id ps) ≡ Some y → P y
found_without P id k [] apart h y e = h y e
found_without P id k (p ∷ ps) apart h y e = by (bytes_eq p.0 id) refl e (found_without P id k ps apart)
  where
    past : (b : Bool) → bytes_eq p.0 k ≡ b → ((z : _) → cond b (Some p.1) (find_named k ps) ≡ Some z → P z) → bytes_eq p.0 id ≡ true → find_named k ps ≡ Some y → P y
    past true at h is e = absurd (apart (sym ((bytes_eq-Decides p.0 k).0 at) ∙ (bytes_eq-Decides p.0 id).0 is))
    past false at h is e = h y e

    there : (b : Bool) → ((z : _) → cond b (Some p.1) (find_named k ps) ≡ Some z → P z) → (((z : _) → find_named k ps ≡ Some z → P z) → (z : _) → find_named k (without id ps) ≡ Some z → P z) → cond b (Some p.1) (find_named k (without id ps)) ≡ Some y → P y
    there true h rest e = h y e
    there false h rest e = rest h y e

    by : (a : Bool) → bytes_eq p.0 id ≡ a → find_named k (cond a ps (p ∷ without id ps)) ≡ Some y → (((z : _) → find_named k ps ≡ Some z → P z) → (z : _) → find_named k (without id ps) ≡ Some z → P z) → P y
    by true is e rest = past (bytes_eq p.0 k) refl h is e
    by false is e rest = there (bytes_eq p.0 k) h rest e

-- ---- one transaction

-- commits above its begin
commits_vouched : (r : Rules) (cs later : List Commit) (t : Tx) → AllByRecursion (λ c. t.begin < c.seq) later → IsVouched r cs t → IsVouched r (cs ++ later) t
commits_vouched r cs later t above h = alone_same r cs (cs ++ later) t.begin [] [] t.transcript (sym (same_commits t.begin cs later above)) h

pub own_vouched : (k : List ℕ) (op : WriteOp) (r : Rules) (cs : List Commit) (t : Tx) → IsVouched r cs t → IsVouched r cs (with_op k op t)
own_vouched k op r cs t h = alone_more r cs t.begin [] [] t.transcript (steps.Own k op ∷ []) h tt

pub get_vouched : (r : Rules) (cs : List Commit) (k : List ℕ) (a : Option KeyValue) (t : Tx) → t.ops ≡ own_of t.transcript → a ≡ option_map key_value (seen r cs t.begin t.ops k) → IsVouched r cs t →
    IsVouched r cs (record t { transcript = t.transcript ++ (steps.Get k a ∷ []) })
get_vouched r cs k a t own is h = alone_more r cs t.begin [] [] t.transcript (steps.Get k a ∷ []) h (subst (λ (os : Ops). a ≡ option_map key_value (seen r cs t.begin os k)) own is, tt)

-- ---- a core

pub vouched_begin : (m : Meaning) (c : CoreModel) (id : List ℕ) (level : IsolationLevel) (n : ℕ) → find_named id c.state.txns ≡ None →
    IsVouchedFor m (record c { state = record c.state { txns = c.state.txns ++ ((id, begun level n) ∷ []) } }) id
vouched_begin m c id level n fresh = found_last (IsVouched (rules_of c.settings m) c.state.commits) id (begun level n) c.state.txns fresh tt

-- of the same commits and open transactions
pub vouched_same : (m : Meaning) (old new : CoreModel) (k : List ℕ) → new.settings ≡ old.settings → new.state.commits ≡ old.state.commits → new.state.txns ≡ old.state.txns → IsVouchedFor m old k → IsVouchedFor m new k
vouched_same m old new k settings commits txns h t e =
    subst (λ (r : Rules). IsVouched r new.state.commits t) (sym (ap (λ s. rules_of s m) settings))
    (subst (λ (cs : List Commit). IsVouched (rules_of old.settings m) cs t) (sym commits) (h t (sym (ap (find_named k) txns) ∙ e)))

pub vouched_flushed : {E : Type 0} (r : Result ℕ E) (old new : CoreModel) → IfOk r (λ n. (m : Meaning) → step (rules_of old.settings m) old.state lines.Flush ≡ (new.state, Flushed n)) → new.settings ≡ old.settings →
    OnOk r ((m : Meaning) (k : List ℕ) → IsVouchedFor m old k → IsVouchedFor m new k)
vouched_flushed (Ok n) old new steps settings = λ m k h.
    vouched_same m old new k settings (sym (ap (λ (p : State × Reply). p.0.commits) (steps m))) (sym (ap (λ (p : State × Reply). p.0.txns) (steps m))) h
vouched_flushed (Err e) old new steps settings = tt

-- of a change that keeps it
abbrev pub KeepsVouched : (Tx → Tx) → Type 0
KeepsVouched f = (r : Rules) (cs : List Commit) (t : Tx) → IsVouched r cs t → IsVouched r cs (f t)

pub vouched_either : {E : Type 0} (r : Result (Unit {0}) E) (m : Meaning) (c d : CoreModel) (id k : List ℕ) (f : Tx → Tx) → KeepsVouched f → OnOk r (d ≡ operated c id f) → OnErr r (d ≡ c) → IsVouchedFor m c k → IsVouchedFor m d k
vouched_either (Ok x) m c d id k f keeps ok err h = subst (λ (v : CoreModel). IsVouchedFor m v k) (sym ok)
    (found_updated (IsVouched (rules_of c.settings m) c.state.commits) id k f c.state.txns (λ t e g. keeps (rules_of c.settings m) c.state.commits t g) h)
vouched_either (Err e) m c d id k f keeps ok err h = subst (λ (v : CoreModel). IsVouchedFor m v k) (sym err) h

pub others_begin : (m : Meaning) (c : CoreModel) (id k : List ℕ) (level : IsolationLevel) (n spare : ℕ) → IsVouchedFor m c k → IsVouchedFor m (after_begin c level n id spare) k
others_begin m c id k level n spare h = found_more (IsVouched (rules_of c.settings m) c.state.commits) id k (begun level n) c.state.txns tt h

pub others_end : (m : Meaning) (c : CoreModel) (id k : List ℕ) (spare : ℕ) → k ≢ id → IsVouchedFor m c k → IsVouchedFor m (after_end c id spare) k
others_end m c id k spare apart h = found_without (IsVouched (rules_of c.settings m) c.state.commits) id k c.state.txns apart h

abbrev pub AreBelow : ℕ → CoreModel → Type 0
AreBelow n c = AllByRecursion (λ p. p.1.begin < n) c.state.txns

pub below_next : (c : CoreModel) (x : Unseen) → IsWhole c x → AreBelow (x.last + 1) c
below_next c x w = AllByRecursion_weaken _ _ (λ p h. let k : p.1.begin ≤ x.last = h.1 in omega arith) c.state.txns w.tied.begins

pub vouched_write : (m : Meaning) (c : CoreModel) (k : List ℕ) (n : ℕ) (now : ℤ) (ops : Ops) (rows : Rows) (spare : ℕ) → AreBelow n c → IsVouchedFor m c k → IsVouchedFor m (after_write c n now ops rows spare) k
vouched_write m c k n now ops rows spare below h t e =
    commits_vouched (rules_of c.settings m) c.state.commits (record { seq = n; now = now; ops = ops; tracked = batch_keys ops } ∷ []) t (found_all (λ (t : Tx). t.begin < n) k c.state.txns t below e, tt) (h t e)

-- what a commit makes stands above the begins of all others
after_others : (m : Meaning) (c : CoreModel) (id k : List ℕ) (made : List Commit) → k ≢ id → ((t : Tx) → find_named k c.state.txns ≡ Some t → AllByRecursion (λ c. t.begin < c.seq) made) → IsVouchedFor m c k →
    (t : Tx) → find_named k (without id c.state.txns) ≡ Some t → IsVouched (rules_of c.settings m) (c.state.commits ++ made) t
after_others m c id k made apart above h = found_without (IsVouched (rules_of c.settings m) (c.state.commits ++ made)) id k c.state.txns apart (λ t e. commits_vouched (rules_of c.settings m) c.state.commits made t (above t e) (h t e))

pub others_commit : (m : Meaning) (c d : CoreModel) (id k : List ℕ) (last : ℕ) (n : Option ℕ) (now : ℤ) (t : Tx) → k ≢ id → AreBelow (last + 1) c → IsNextOf last t.ops n → IsCommitted c d id n now t → IsVouchedFor m c k → IsVouchedFor m d k
others_commit m c d id k last None now t apart below next is h = subst (λ (v : CoreModel). IsVouchedFor m v k) (sym is.1) (after_others m c id k [] apart (λ u e. tt) h)
others_commit m c d id k last (Some n) now t apart below next is h = subst (λ (v : CoreModel). IsVouchedFor m v k) (sym is)
    (after_others m c id k (record { seq = n; now = now; ops = kept_ops t.ops; tracked = tracked_writes t } ∷ []) apart
    (λ u e. (subst (λ (j : ℕ). u.begin < j) (sym next.0) (found_all (λ (u : Tx). u.begin < last + 1) k c.state.txns u below e), tt)) h)
