-- The refusals of a write.
use Rattle.std.proofs.Common.{◌≡◌, ℕ, ◌-◌, ◌<◌, ◌^◌, true, false, List, [], ◌∷◌, ◌++◌, map, Option, Some, None, refl, ap, ◌∙◌, arith}
use Rattle.std.specs.List.{AllByRecursion}
use Rattle.std.specs.Prelude.{◌==◌, is_some}
use Rattle.std.proofs.lemmas.Bool.Decides.{nat_tests}
use Rattle.slate_types.specs.declared.error.SlateDBError.{SlateDBError}
use Rattle.slate_types.specs.declared.error.SlateDBError.TheVariants as errors
use Rattle.slate_mem.specs.Batch.{Ops, batch_keys}
use Rattle.slate_mem.specs.BatchModel.{holds_merge}
use Rattle.slate_txn.specs.State.{Rules, State, last_of}
use Rattle.slate_txn.specs.declared.line.Line.TheVariants as lines
use Rattle.slate_txn.specs.Step.{step, refused_or, with_reply, as_commit}
use Rattle.slate_txn.specs.Reply.{Refused, Written}
use Rattle.slate_mem.specs.Refusals.{when, first_refusal, op_refusal}
use Rattle.slate_mem.specs.KeyTests.{merges_refusal}
use Rattle.slate_txn.specs.Refusals.{exhausted_refusal, write_refusal, batch_refusals}

pub skip_none : (ops : Ops) (es : List (Option SlateDBError)) → AllByRecursion (λ o. op_refusal o.0 o.1 ≡ None) ops → first_refusal (map (λ o. op_refusal o.0 o.1) ops ++ es) ≡ first_refusal es
skip_none [] es h = refl
skip_none (o ∷ os) es h = (λ i. first_refusal (h.0 i ∷ (map (λ o. op_refusal o.0 o.1) os ++ es))) ∙ skip_none os es h.1

-- what is left of the tests, for a batch that is not empty
pub refusal_is : (r : Rules) (s : State) (ops : Ops) → (ops ≡ [] → ⊥) → AllByRecursion (λ o. op_refusal o.0 o.1 ≡ None) ops →
    write_refusal r s ops ≡ first_refusal (exhausted_refusal r s ∷ merges_refusal (is_some r.combine) (holds_merge ops) ∷ batch_refusals r s ops)
refusal_is r s [] some fine = absurd (some refl)
refusal_is r s (o ∷ os) some fine = skip_none (o ∷ os) (exhausted_refusal r s ∷ merges_refusal (is_some r.combine) (holds_merge (o ∷ os)) ∷ batch_refusals r s (o ∷ os)) fine

pub step_refused : (r : Rules) (s : State) (ops : Ops) (e : SlateDBError) → write_refusal r s ops ≡ Some e → step r s (lines.Write ops) ≡ (s, Refused e)
step_refused r s ops e is = ap (λ o. refused_or o s (with_reply Written (as_commit r s ops (batch_keys ops)))) is

-- a sequence is left
pub not_exhausted : (r : Rules) (s : State) (n : ℕ) (es : List (Option SlateDBError)) → n ≡ last_of r.start_seq s.commits → n < 2 ^ 64 - 2 → first_refusal (exhausted_refusal r s ∷ es) ≡ first_refusal es
not_exhausted r s n es last fits = ap (λ b. first_refusal (when b errors.SequenceExhausted ∷ es)) differs
  where
    differs : (last_of r.start_seq s.commits == 2 ^ 64 - 2) ≡ false
    differs = let l : n ≡ last_of r.start_seq s.commits = last in grind (arith, nat_tests)

pub exhausted : (r : Rules) (s : State) (n : ℕ) (es : List (Option SlateDBError)) → n ≡ last_of r.start_seq s.commits → n ≡ 2 ^ 64 - 2 → first_refusal (exhausted_refusal r s ∷ es) ≡ Some errors.SequenceExhausted
exhausted r s n es last full = ap (λ b. first_refusal (when b errors.SequenceExhausted ∷ es)) same
  where
    same : (last_of r.start_seq s.commits == 2 ^ 64 - 2) ≡ true
    same = let l : n ≡ last_of r.start_seq s.commits = last in grind (arith, nat_tests)
