-- What is read behind a first put, a flush and a begin.
use Rattle.std.proofs.Common.{◌≡◌, ℕ, true, cond, List, [], ◌∷◌, ◌++◌, map, Option, Some, None, option_map, pos, refl, sym, ap, ◌∙◌, subst}
use Rattle.std.specs.Prelude.{bytes_eq, filter_map}
use Rattle.std.proofs.lemmas.Slice.Eq.{bytes_eq-Decides}
use Rattle.slate_types.specs.declared.config.IsolationLevel.{IsolationLevel}
use Rattle.slate_types.specs.declared.error.SlateDBError.{SlateDBError}
use Rattle.slate_types.specs.declared.types.KeyValue.{KeyValue}
use Rattle.slate_types.specs.Fold.{Combine, fold_rows, shown, from_last}
use Rattle.slate_types.specs.Rows.{key_value}
use Rattle.slate_mem.specs.declared.WriteOp.{WriteOp}
use Rattle.slate_mem.specs.Batch.{Ops, batch_keys, kept, kept_ops, replaces}
use Rattle.slate_mem.specs.BatchModel.{plain_put}
use Rattle.slate_mem.specs.RowOf.{op_row}
use Rattle.slate_mem.proofs.BatchLaws.{keeps_what_is_kept}
use Rattle.slate_txn.specs.declared.line.Line.TheVariants as lines
use Rattle.slate_txn.specs.Reads.{seen}
use Rattle.slate_txn.specs.Refusals.{write_refusal}
use Rattle.slate_txn.specs.Reply as replies
use Rattle.slate_txn.specs.State.{Rules, Commit, State, opening, begun}
use Rattle.slate_txn.specs.Step.{step, get, get_found, reader_or_snapshot, refused_or, with_reply, as_commit}
use Rattle.slatedb.specs.FirstSteps.{first_put}

-- no operator, no segments, and the options' defaults
abbrev pub plain : Rules
plain = record { default_millis = None; start_seq = 0; combine = None; segment = None }

bytes_eq_refl : (k : List ℕ) → bytes_eq k k ≡ true
bytes_eq_refl k = (bytes_eq-Decides k k).1 refl

-- ---- the commit

abbrev pub put_op : List ℕ → List ℕ → Ops
put_op k v = (k, plain_put v) ∷ []

abbrev pub first_commit : Ops → List (List ℕ) → Commit
first_commit ops tracked = record { seq = 1; now = pos 0; ops = ops; tracked = tracked }

kept_one : (k v : List ℕ) → kept (put_op k v) k ≡ plain_put v ∷ []
kept_one k v = ap (λ b. from_last replaces (map (λ (o : List ℕ × WriteOp). o.1) (cond b (put_op k v) []))) (bytes_eq_refl k)

pub kept_first : (k v : List ℕ) (ops : Ops) → ops ≡ kept_ops (put_op k v) → kept ops k ≡ plain_put v ∷ []
kept_first k v ops is = ap (λ os. kept os k) is ∙ keeps_what_is_kept (put_op k v) k ∙ kept_one k v

abbrev plain_combine : Combine
plain_combine u v = v

pub seen_first : (k v : List ℕ) (ops : Ops) (tracked : List (List ℕ)) → kept ops k ≡ plain_put v ∷ [] → option_map key_value (seen plain (first_commit ops tracked ∷ []) 1 [] k) ≡ Some (first_put k v)
seen_first k v ops tracked e =
    subst (λ (ps : List WriteOp). option_map key_value (shown plain_combine (filter_map (λ (c : Commit). fold_rows plain_combine (map (op_row k 1 None (pos 0)) ps)) (first_commit ops tracked ∷ []) ++ [])) ≡ Some (first_put k v)) (sym e) refl

-- ---- the steps

-- a put that is taken is the first commit
pub is_first : (k v : List ℕ) (after : State) (n : Option ℕ) → step plain opening (lines.Write (put_op k v)) ≡ (after, replies.Written n) → n ≡ Some 1
is_first k v after n stepped = by (write_refusal plain opening (put_op k v)) stepped
  where
    by : (o : Option SlateDBError) → refused_or o opening (with_reply replies.Written (as_commit plain opening (put_op k v) (batch_keys (put_op k v)))) ≡ (after, replies.Written n) → n ≡ Some 1
    by (Some e) h = absurd (refused e n (ap (λ p. p.1) h))
      where
        refused : (e : SlateDBError) (n : Option ℕ) → replies.Refused e ≡ replies.Written n → ⊥
        refused e n h = cc
    by None h = written n (ap (λ p. p.1) h)
      where
        written : (n : Option ℕ) → replies.Written (Some 1) ≡ replies.Written n → n ≡ Some 1
        written n h = cc

found_same : (a b : Option KeyValue) → replies.Found a ≡ replies.Found b → b ≡ a
found_same a b h = cc

-- the state of the first commit, and what a flush and a begin make of it
abbrev pub written_state : Ops → List (List ℕ) → State
written_state ops tracked = record opening { commits = first_commit ops tracked ∷ [] }

abbrev pub flushed_state : Ops → List (List ℕ) → State
flushed_state ops tracked = record (written_state ops tracked) { flushed = 1 }

abbrev pub begun_state : Ops → List (List ℕ) → List ℕ → IsolationLevel → State
begun_state ops tracked id level = record (flushed_state ops tracked) { txns = (id, begun level 1) ∷ [] }

read_first : (k v id : List ℕ) (level : IsolationLevel) (ops : Ops) (tracked : List (List ℕ)) (after : State) (a : Option KeyValue) → kept ops k ≡ plain_put v ∷ [] →
    step plain (begun_state ops tracked id level) (lines.Get id k) ≡ (after, replies.Found a) → a ≡ Some (first_put k v)
read_first k v id level ops tracked after a e stepped = found_same _ a (ap (λ p. p.1) got) ∙ seen_first k v ops tracked e
  where
    s : State
    s = begun_state ops tracked id level

    got : get_found s id k (seen plain (first_commit ops tracked ∷ []) 1 [] k) ≡ (after, replies.Found a)
    got = sym (ap (λ b. get plain s id k (reader_or_snapshot (cond b (Some (begun level 1)) None) None)) (bytes_eq_refl id)) ∙ stepped

-- ---- what is open

pub opened_is : (id : List ℕ) (level : IsolationLevel) (ops : Ops) (tracked : List (List ℕ)) (put flushed opened : State) (n start : ℕ) →
    put ≡ written_state ops tracked → step plain put lines.Flush ≡ (flushed, replies.Flushed n) → step plain flushed (lines.Begin id level) ≡ (opened, replies.Begun id start) →
    opened ≡ begun_state ops tracked id level
opened_is id level ops tracked put flushed opened n start written stored begins = sym (ap (λ p. p.0) begins) ∙ ap (λ s. (step plain s (lines.Begin id level)).0) flushed_is
  where
    flushed_is : flushed ≡ flushed_state ops tracked
    flushed_is = sym (ap (λ p. p.0) stored) ∙ ap (λ s. (step plain s lines.Flush).0) written

pub reads_first : (k v id : List ℕ) (level : IsolationLevel) (ops : Ops) (tracked : List (List ℕ)) (opened after : State) (a : Option KeyValue) → ops ≡ kept_ops (put_op k v) →
    opened ≡ begun_state ops tracked id level → step plain opened (lines.Get id k) ≡ (after, replies.Found a) → a ≡ Some (first_put k v)
reads_first k v id level ops tracked opened after a is opened_is reads =
    read_first k v id level ops tracked after a (kept_first k v ops is) (subst (λ s. step plain s (lines.Get id k) ≡ (after, replies.Found a)) opened_is reads)
