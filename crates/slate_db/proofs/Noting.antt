-- What is noted of an answer, by the two ways in which a call ends.
use Rattle.std.proofs.Common.{◌≡◌, ℕ, ◌++◌, ◌∷◌, [], List, refl, sym, ap, subst}
use Rattle.std.specs.Prelude.{Result, Ok, Err}
use Rattle.slate_types.specs.declared.error.SlateDBError.{SlateDBError}
use Rattle.slate_txn.specs.declared.event.TranscriptStep.{TranscriptStep}
use Rattle.slate_txn.specs.State.{Tx}
use Rattle.slate_txn.specs.Step as model
use Rattle.slate_db.specs.Calls.Common.{Notes, noted_in}
use Rattle.slate_db.specs.Meaning.{Meaning}
use Rattle.slate_db.specs.Model.{CoreModel}
use Rattle.slate_db.specs.Sound.{IsKept}
use Rattle.slate_db.proofs.Keeps.{kept_event}
use Rattle.slate_db.proofs.Opened.{stay_noted, stay_same}
use Rattle.slate_db.proofs.Operands.{own_updated}

kept_noted : (m : Meaning) (c : CoreModel) (id : List ℕ) (ts : List TranscriptStep) → IsKept m c → IsKept m (noted_in c id ts)
kept_noted m c id ts k = kept_event m c (model.noted c.state id ts) c.events c.spare refl refl refl
    (λ none own. own_updated id (λ (t : Tx). record t { transcript = t.transcript ++ ts }) c.state.txns (λ t h. h) own) k

pub notes_ok : {A : Type 0} (id : List ℕ) (step : A → TranscriptStep) (old new : CoreModel) (a : A) → new ≡ noted_in old id (step a ∷ []) → (let r : Result A SlateDBError = Ok a in Notes id step old new r)
notes_ok id step old new a is = record {
  noted = is;
  same = tt;
  kept = λ m k. subst (IsKept m) (sym is) (kept_noted m old id (step a ∷ []) k);
  settings = ap (λ (c : CoreModel). c.settings) is;
  stay = stay_noted old new id (step a) is;
}

pub notes_err : {A : Type 0} (id : List ℕ) (step : A → TranscriptStep) (old new : CoreModel) (e : SlateDBError) → new ≡ old → (let r : Result A SlateDBError = Err e in Notes id step old new r)
notes_err id step old new e same = record {
  noted = tt;
  same = same;
  kept = λ m k. subst (IsKept m) (sym same) k;
  settings = ap (λ (c : CoreModel). c.settings) same;
  stay = stay_same old new same;
}

-- of a call that ends by `?`
pub notes_refused : {A : Type 0} (id : List ℕ) (step : A → TranscriptStep) (old new : CoreModel) (e : SlateDBError) (result : Result A SlateDBError) → result ≡ Err e → new ≡ old → Notes id step old new result
notes_refused id step old new e result is same = subst (Notes id step old new) (sym is) (notes_err id step old new e same)
