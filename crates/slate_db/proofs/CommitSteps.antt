-- The model's step of a commit.
use Rattle.std.proofs.Common.{◌≡◌, ℕ, ◌+◌, ◌-◌, ◌<◌, ◌^◌, List, [], ◌∷◌, ◌++◌, Option, Some, None, refl, sym, ap, ◌∙◌, append-nil}
use Rattle.std.specs.Prelude.{is_some, option_map}
use Rattle.slate_types.specs.declared.error.SlateDBError.{SlateDBError}
use Rattle.slate_types.specs.declared.error.SlateDBError.TheVariants as errors
use Rattle.slate_mem.specs.Batch.{Ops, kept_ops}
use Rattle.slate_mem.specs.BatchModel.{holds_merge}
use Rattle.slate_mem.specs.KeyTests.{merges_refusal}
use Rattle.slate_mem.specs.Refusals.{first_refusal}
use Rattle.slate_txn.specs.declared.line.Line.TheVariants as lines
use Rattle.slate_txn.specs.Conflict.{conflict, tracked_writes}
use Rattle.slate_txn.specs.Named.{find_named, without}
use Rattle.slate_txn.specs.Refusals.{commit_refusal, unless_empty, exhausted_refusal, batch_refusals}
use Rattle.slate_txn.specs.Replay.{commit_made}
use Rattle.slate_txn.specs.Reply.{Committed, Refused}
use Rattle.slate_txn.specs.State.{Rules, State, Tx, last_of}
use Rattle.slate_txn.specs.Step.{step, of_open, commit, refused_or, with_reply, as_commit, closed}
use Rattle.slate_db.specs.BatchTests.{test_refusal}
use Rattle.slate_db.specs.Segmented.{recorded_by}
use Rattle.slate_db.proofs.Refused.{not_exhausted, exhausted}
use Rattle.slate_db.proofs.Tests.{commit_tests, tested_merges}

-- the state that is left
abbrev pub closing : State → List ℕ → State
closing s id = record s { txns = without id s.txns }

-- no snapshot has the id
closed_is : (s : State) (id : List ℕ) → without id s.snapshots ≡ s.snapshots → closed s id ≡ closing s id
closed_is s id none = λ i. record s { txns = without id s.txns; snapshots = none i }

step_is : (r : Rules) (s : State) (id : List ℕ) (t : Tx) → find_named id s.txns ≡ Some t → step r s (lines.Commit id) ≡ commit r s id t
step_is r s id t found = ap (λ o. of_open s id o (commit r s id)) found

refused_by : (r : Rules) (s : State) (id : List ℕ) (t : Tx) (e : SlateDBError) → find_named id s.txns ≡ Some t → without id s.snapshots ≡ s.snapshots → commit_refusal r s t ≡ Some e → step r s (lines.Commit id) ≡ (closing s id, Refused e)
refused_by r s id t e found none is =
    step_is r s id t found
    ∙ ap (λ o. refused_or o (closed s id) (with_reply Committed (as_commit r (closed s id) t.ops (tracked_writes t)))) is
    ∙ ap (λ x. (x, Refused e)) (closed_is s id none)

-- ---- refusals

pub step_conflict : (r : Rules) (s : State) (id : List ℕ) (t : Tx) (n : ℕ) → find_named id s.txns ≡ Some t → without id s.snapshots ≡ s.snapshots → conflict s.commits t ≡ Some n → step r s (lines.Commit id) ≡ (closing s id, Refused (errors.TransactionConflict n))
step_conflict r s id t n found none is =
    refused_by r s id t (errors.TransactionConflict n) found none
    (ap (λ o. first_refusal (option_map errors.TransactionConflict o ∷ unless_empty t.ops (exhausted_refusal r s ∷ batch_refusals r s t.ops))) is)

some_tests : (ops : Ops) (es : List (Option SlateDBError)) → (ops ≡ [] → ⊥) → unless_empty ops es ≡ es
some_tests [] es some = absurd (some refl)
some_tests (o ∷ os) es some = refl

free_refusal : (r : Rules) (s : State) (t : Tx) → conflict s.commits t ≡ None → commit_refusal r s t ≡ first_refusal (unless_empty t.ops (exhausted_refusal r s ∷ batch_refusals r s t.ops))
free_refusal r s t free = ap (λ o. first_refusal (option_map errors.TransactionConflict o ∷ unless_empty t.ops (exhausted_refusal r s ∷ batch_refusals r s t.ops))) free

some_refusal : (r : Rules) (s : State) (t : Tx) → conflict s.commits t ≡ None → (t.ops ≡ [] → ⊥) → commit_refusal r s t ≡ first_refusal (exhausted_refusal r s ∷ batch_refusals r s t.ops)
some_refusal r s t free some = free_refusal r s t free ∙ ap first_refusal (some_tests t.ops (exhausted_refusal r s ∷ batch_refusals r s t.ops) some)

pub step_full : (r : Rules) (s : State) (id : List ℕ) (t : Tx) (n : ℕ) → find_named id s.txns ≡ Some t → without id s.snapshots ≡ s.snapshots → conflict s.commits t ≡ None → (t.ops ≡ [] → ⊥) → n ≡ last_of r.start_seq s.commits → n ≡ 2 ^ 64 - 2 →
    step r s (lines.Commit id) ≡ (closing s id, Refused errors.SequenceExhausted)
step_full r s id t n found none free some last full = refused_by r s id t errors.SequenceExhausted found none (some_refusal r s t free some ∙ exhausted r s n (batch_refusals r s t.ops) last full)

-- where its merges are no reason
pub step_tests : (r : Rules) (s : State) (recorded : List (List ℕ)) (id : List ℕ) (t : Tx) (n : ℕ) (e : SlateDBError) → find_named id s.txns ≡ Some t → without id s.snapshots ≡ s.snapshots → conflict s.commits t ≡ None → (t.ops ≡ [] → ⊥) → n ≡ last_of r.start_seq s.commits → n < 2 ^ 64 - 2 → recorded ≡ recorded_by r.segment s.commits →
    merges_refusal (is_some r.combine) (holds_merge t.ops) ≡ None → test_refusal r.combine r.segment recorded r.default_millis s.now t.ops ≡ Some e → step r s (lines.Commit id) ≡ (closing s id, Refused e)
step_tests r s recorded id t n e found none free some last fits are merges is =
    refused_by r s id t e found none (some_refusal r s t free some ∙ not_exhausted r s n (batch_refusals r s t.ops) last fits ∙ commit_tests r s recorded t.ops are merges ∙ is)

-- ---- what commits

-- the state after a commit
abbrev pub committed : State → List ℕ → Option ℕ → Tx → State
committed s id n t = record (closing s id) { commits = s.commits ++ commit_made n s.now (kept_ops t.ops) (tracked_writes t) }

passed : (r : Rules) (s : State) (id : List ℕ) (t : Tx) → find_named id s.txns ≡ Some t → without id s.snapshots ≡ s.snapshots → commit_refusal r s t ≡ None →
    step r s (lines.Commit id) ≡ with_reply Committed (as_commit r (closing s id) t.ops (tracked_writes t))
passed r s id t found none is =
    step_is r s id t found
    ∙ ap (λ o. refused_or o (closed s id) (with_reply Committed (as_commit r (closed s id) t.ops (tracked_writes t)))) is
    ∙ ap (λ x. with_reply Committed (as_commit r x t.ops (tracked_writes t))) (closed_is s id none)

pub step_idle : (r : Rules) (s : State) (id : List ℕ) (t : Tx) → find_named id s.txns ≡ Some t → without id s.snapshots ≡ s.snapshots → conflict s.commits t ≡ None → t.ops ≡ [] → step r s (lines.Commit id) ≡ (committed s id None t, Committed None)
step_idle r s id t found none free idle =
    passed r s id t found none (free_refusal r s t free ∙ ap (λ ops. first_refusal (unless_empty ops (exhausted_refusal r s ∷ batch_refusals r s ops))) idle)
    ∙ ap (λ ops. with_reply Committed (as_commit r (closing s id) ops (tracked_writes t))) idle
    ∙ (let back = sym (append-nil s.commits) in λ i. (record (closing s id) { commits = back i }, Committed None))

made_of : (r : Rules) (s : State) (n : ℕ) (ops : Ops) (tracked : List (List ℕ)) → (ops ≡ [] → ⊥) → n ≡ last_of r.start_seq s.commits →
    with_reply Committed (as_commit r s ops tracked) ≡ (record s { commits = s.commits ++ commit_made (Some (n + 1)) s.now (kept_ops ops) tracked }, Committed (Some (n + 1)))
made_of r s n [] tracked some last = absurd (some refl)
made_of r s n (o ∷ os) tracked some last = (let l = sym last in λ i. (record s { commits = s.commits ++ (record { seq = l i + 1; now = s.now; ops = kept_ops (o ∷ os); tracked = tracked } ∷ []) }, Committed (Some (l i + 1))))

pub step_commits : (r : Rules) (s : State) (recorded : List (List ℕ)) (id : List ℕ) (t : Tx) (n : ℕ) → find_named id s.txns ≡ Some t → without id s.snapshots ≡ s.snapshots → conflict s.commits t ≡ None → (t.ops ≡ [] → ⊥) → test_refusal r.combine r.segment recorded r.default_millis s.now t.ops ≡ None → recorded ≡ recorded_by r.segment s.commits →
    n ≡ last_of r.start_seq s.commits → n < 2 ^ 64 - 2 → step r s (lines.Commit id) ≡ (committed s id (Some (n + 1)) t, Committed (Some (n + 1)))
step_commits r s recorded id t n found none free some tested are last fits =
    passed r s id t found none (some_refusal r s t free some ∙ not_exhausted r s n (batch_refusals r s t.ops) last fits ∙ commit_tests r s recorded t.ops are (tested_merges r.combine r.segment recorded r.default_millis s.now (holds_merge t.ops) t.ops tested) ∙ tested)
    ∙ made_of r (closing s id) n t.ops (tracked_writes t) some last
