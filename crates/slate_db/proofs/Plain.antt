-- Operations that hold no merge; and what a batch keeps of those that it took.
use Rattle.std.proofs.Common.{◌≡◌, ℕ, ◌+◌, ◌-◌, ◌<◌, ◌^◌, Bool, true, false, ◌||◌, cond, List, [], ◌∷◌, ◌++◌, map, filter, length, Some, None, refl, sym, ap, ◌∙◌, arith, bytes_eq}
use Rattle.std.specs.List.{AllByRecursion, list_any}
use Rattle.slate_types.specs.declared.error.SlateDBError.TheVariants as errors
use Rattle.slate_types.specs.Fold.{from_last}
use Rattle.slate_mem.specs.declared.WriteOp.{WriteOp}
use Rattle.slate_mem.specs.declared.WriteOp.TheVariants.{Put, Delete, Merge as MergeOp}
use Rattle.slate_mem.specs.Batch.{Ops, kept, ops_of, batch_keys, kept_ops, replaces}
use Rattle.slate_mem.specs.BatchModel.{BatchModel, IsBatchOf, is_merge_op, holds_merge}
use Rattle.slate_txn.specs.declared.line.Line.TheVariants as lines
use Rattle.slate_txn.specs.Refusals.{write_refusal}
use Rattle.slate_txn.specs.Reply.{Written, Refused}
use Rattle.slate_txn.specs.State.{Rules, State, last_of}
use Rattle.slate_txn.specs.Step.{step, refused_or, with_reply, as_commit}
use Rattle.slate_txn.proofs.BatchKeys.{some_kept, HasSome}
use Rattle.slate_db.specs.Log.{AreFine}
use Rattle.slate_db.proofs.Refused.{refusal_is, exhausted, step_refused}
use Rattle.slate_types.proofs.Plain.{neither}

-- ---- each operation replaces what is below it

AllReplace : List WriteOp → Type 0
AllReplace xs = AllByRecursion (λ op. replaces op ≡ true) xs

pub no_merge : (o : List ℕ × WriteOp) → is_merge_op o ≡ false → replaces o.1 ≡ true
no_merge (k, Put v p) h = refl
no_merge (k, Delete) h = refl
no_merge (k, MergeOp v p) h = cc

all_replace : (ops : Ops) (k : List ℕ) → holds_merge ops ≡ false → AllReplace (ops_of ops k)
unfolding AllReplace
all_replace [] k h = tt
all_replace (o ∷ os) k h = let both = neither (is_merge_op o) (holds_merge os) h in by (bytes_eq o.0 k) (no_merge o both.0) (all_replace os k both.1)
  where
    by : (b : Bool) → replaces o.1 ≡ true → AllByRecursion (λ op. replaces op ≡ true) (ops_of os k) →
        AllByRecursion (λ op. replaces op ≡ true) (map (λ p. p.1) (cond b (o ∷ filter (λ p. bytes_eq p.0 k) os) (filter (λ p. bytes_eq p.0 k) os)))
    by true this later = (this, later)
    by false this later = later

last_replace : (xs : List WriteOp) → AllReplace xs → AllByRecursion (λ op. replaces op ≡ true) (from_last replaces xs)
unfolding AllReplace
last_replace [] h = tt
last_replace (x ∷ xs) h = by (list_any replaces xs) (last_replace xs h.1)
  where
    by : (b : Bool) → AllByRecursion (λ op. replaces op ≡ true) (from_last replaces xs) → AllByRecursion (λ op. replaces op ≡ true) (cond b (from_last replaces xs) (x ∷ xs))
    by true rest = rest
    by false rest = (h.0, h.1)

pub kept_replace : (ops : Ops) (k : List ℕ) → holds_merge ops ≡ false → AllByRecursion (λ op. replaces op ≡ true) (kept ops k)
kept_replace ops k h = last_replace (ops_of ops k) (all_replace ops k h)

-- ---- the batch's operations against all that it took

pub some_ops : (ops : Ops) → (ops ≡ [] → ⊥) → 0 < length ops
some_ops [] h = absurd (h refl)
some_ops (o ∷ os) h = omega arith

pub empty_kept : (ops : Ops) → kept_ops ops ≡ [] → ops ≡ []
empty_kept [] h = refl
empty_kept (o ∷ os) h = absurd (none (kept_ops (o ∷ os)) (some_kept o os) h)
  where
    none : (xs : Ops) → HasSome xs → xs ≡ [] → ⊥
    none [] s e = s
    none (x ∷ xs) s e = cc

pub has_some : (ops : Ops) (b : BatchModel) → IsBatchOf ops b → (b.ops ≡ [] → ⊥) → ops ≡ [] → ⊥
has_some ops b of some e = some (of.0 ∙ ap kept_ops e)

-- an empty batch commits nothing
pub step_nothing : (r : Rules) (s : State) (ops : Ops) (b : BatchModel) → IsBatchOf ops b → b.ops ≡ [] → step r s (lines.Write ops) ≡ (s, Written None)
step_nothing r s ops b of none = ap (λ os. step r s (lines.Write os)) (empty_kept ops (sym of.0 ∙ none))

pub written_as : (r : Rules) (s : State) (ops made : Ops) (n : ℕ) → (ops ≡ [] → ⊥) → kept_ops ops ≡ made → batch_keys ops ≡ batch_keys made → last_of r.start_seq s.commits ≡ n → write_refusal r s ops ≡ None →
    step r s (lines.Write ops) ≡ (record s { commits = s.commits ++ (record { seq = n + 1; now = s.now; ops = made; tracked = batch_keys made } ∷ []) }, Written (Some (n + 1)))
written_as r s [] made n some kept keys last fine = absurd (some refl)
written_as r s (o ∷ os) made n some kept keys last fine =
    ap (λ e. refused_or e s (with_reply Written (as_commit r s (o ∷ os) (batch_keys (o ∷ os))))) fine
    ∙ (λ i. (record s { commits = s.commits ++ (record { seq = last i + 1; now = s.now; ops = kept i; tracked = keys i } ∷ []) }, Written (Some (last i + 1))))

pub step_exhausted : (r : Rules) (s : State) (ops : Ops) (b : BatchModel) (n : ℕ) → IsBatchOf ops b → (b.ops ≡ [] → ⊥) → AreFine ops → n ≡ last_of r.start_seq s.commits → n ≡ 2 ^ 64 - 2 →
    step r s (lines.Write ops) ≡ (s, Refused errors.SequenceExhausted)
step_exhausted r s ops b n of some fine last full =
    step_refused r s ops errors.SequenceExhausted (refusal_is r s ops (has_some ops b of some) fine ∙ exhausted r s n _ last full)
