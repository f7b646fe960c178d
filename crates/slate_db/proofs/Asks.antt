-- A call that asks the operator, and reaches nothing else.
use Rattle.std.proofs.Common.{◌≡◌, ℕ, ◌≤◌, List, [], ◌++◌, Option, Some, refl, sym, ap, subst, ◌∙◌, append-nil, arith}
use Rattle.std.specs.Prelude.{option_map}
use Rattle.slate_store.specs.declared.env.Env.{Env}
use Rattle.slate_store.specs.declared.store.Store as stores
use Rattle.slate_store.specs.Reach.{reach_of}
use Rattle.slate_types.specs.declared.block_transformer.BlockTransformer as transformers
use Rattle.slate_types.specs.declared.error.SlateDBError.{SlateDBError}
use Rattle.slate_types.specs.declared.error.SlateDBError.TheVariants.{Callback, OutOfMemory}
use Rattle.slate_types.specs.declared.merge_operator.MergeOperator as operators
use Rattle.slate_types.specs.Faults.{faults_of}
use Rattle.slate_types.specs.Outside.{Act, IsFault, IsLater, Meaning, OnlyReads, Reach}
use Rattle.slate_types.specs.World.{IsCall}
use Rattle.slate_types.proofs.Reaching.{adds_none, reads_none}
use Rattle.slate_mem.specs.Lookup.{IsCallback}
use Rattle.slate_db.proofs.Operands.{combine_is}

-- nothing was reached
pub call_none : (r : Reach) → IsCall r r []
call_none r = record { objects = refl; meaning = refl; adds = λ known is. is ∙ ap (λ (l : List Act). Some l) (sym (append-nil known)); each = tt; answered = λ os is. tt }

abbrev with_operator : {S M T : Type 0} → Env S M T → Option M → Env S M T
with_operator env o = record env { operator = o }

module _ {S M T : Type 0} (s : stores.Ghosts S) (m : operators.Ghosts M) (t : transformers.Ghosts T) (env : Env S M T) (o : Option M) (same : option_map m.combine o ≡ option_map m.combine env.operator) where
  pub asked_meaning : (reach_of s m t (with_operator env o)).meaning ≡ (reach_of s m t env).meaning
  asked_meaning = (let e = combine_is m.combine o ∙ same ∙ sym (combine_is m.combine env.operator) in λ i. record (reach_of s m t env).meaning { combine = e i })

  pub asked_call : IsCall (reach_of s m t env) (reach_of s m t (with_operator env o)) []
  asked_call = record { objects = refl; meaning = asked_meaning; adds = λ known is. is ∙ ap (λ (l : List Act). Some l) (sym (append-nil known)); each = tt; answered = λ os is. tt }

  pub asked_reads : faults_of m.faults env.operator ≤ faults_of m.faults o → OnlyReads (reach_of s m t env) (reach_of s m t (with_operator env o))
  asked_reads later = record { objects = refl; meaning = asked_meaning; acts = adds_none (reach_of s m t env).acts; later = record { store = omega arith; operator = later; transformer = omega arith }; store = refl }

-- ---- why it refuses

pub short_fault : (before after : Reach) (e : SlateDBError) → e ≡ OutOfMemory → IsFault before after e
short_fault before after e is = subst (IsFault before after) (sym is) tt

pub callback_fault : (before after : Reach) (e : SlateDBError) → IsCallback before.faults.operator after.faults.operator e → IsFault before after e
callback_fault before after (Callback message) h = h
callback_fault before after _ h = absurd h
