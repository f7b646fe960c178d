-- What a session makes of a line that asks nothing outside, from what its core makes of it.
--     still_within, leaves_within, ran_within, failed_within      a line that changes nothing, one that installs nothing, an operation that ran, and a line that failed
use Rattle.std.proofs.Common.{◌≡◌, ℕ, ◌≤◌, ◌+◌, ◌⊎◌, List, length, Result, Ok, Err, OnOk, ℤ, refl, sym, subst, arith}
use Rattle.std.specs.Prelude.{IfErr, OnErr}
use Rattle.slate_types.specs.declared.error.SlateDBError.{SlateDBError}
use Rattle.slate_types.specs.declared.error.SlateDBError.TheVariants as errors
use Rattle.slate_mem.specs.KeyTests.{Segments}
use Rattle.slate_txn.specs.declared.line.Line.{Line}
use Rattle.slate_txn.specs.Reply as replies
use Rattle.slate_txn.specs.State.{Tx}
use Rattle.slate_db.specs.Meaning.{Meaning}
use Rattle.slate_db.specs.Model.{CoreModel}
use Rattle.slate_db.specs.Operated.{operated}
use Rattle.slate_db.specs.Segmented.{IsSegmented}
use Rattle.slate_db.specs.Sound.{IsKept}
use Rattle.slate_language.specs.declared.reply.Answer.{Answer}
use Rattle.slate_script.specs.Calls.Line.{AnswersWithin}
use Rattle.slate_script.specs.Session.{SessionModel, StepsAs, IsDone, IsLimit, IsRefusal, line_load}
use Rattle.slate_script.proofs.Growth.{Takes, grows, grows_where, takes_ran}
use Rattle.slate_script.proofs.SessionLeaves.{Leaves, leaves_ran, segmented_ran, stores, stores_where}
use Rattle.slate_script.proofs.SessionOperations.{AnswersBy, Stepped, ran_as, ran_cause}

pub still_within : {e old : SessionModel} (line : Line) (a : Answer) → e ≡ old → ((m : Meaning) (seg : Segments) → StepsAs m seg e e line (Ok a)) → AnswersWithin line old old (Ok a)
still_within {e = e} line a view steps = subst (λ (v : SessionModel). AnswersWithin line v v (Ok a)) view (record {
  step = steps;
  stores = λ m seg. record { settings = refl; runs = refl; later = omega arith; kept = λ k. k; segmented = λ k. k };
  grows = (omega arith, omega arith);
  cause = tt;
})

-- e: what is inside the session that was there
pub leaves_within : {old : SessionModel} (line : Line) (e : SessionModel) (core : CoreModel) (names snapshot_names : List (List ℕ × List ℕ)) (now : ℤ) (a : Answer) → e ≡ old → ((m : Meaning) (seg : Segments) → StepsAs m seg e (record { core = core; names = names; snapshot_names = snapshot_names; now = now }) line (Ok a)) →
    Leaves e.core core → ((m : Meaning) → IsKept m e.core → IsKept m core) → ((seg : Segments) → IsSegmented seg e.core → IsSegmented seg core) → Takes e.core core 0 →
    AnswersWithin line old (record { core = core; names = names; snapshot_names = snapshot_names; now = now }) (Ok a)
leaves_within line e core names snapshot_names now a view steps leaves kept segmented takes = subst (λ (v : SessionModel). AnswersWithin line v (record { core = core; names = names; snapshot_names = snapshot_names; now = now }) (Ok a)) view (record {
  step = steps;
  stores = stores e core names snapshot_names now leaves kept segmented;
  grows = grows e core names snapshot_names now line 0 (omega arith) takes;
  cause = tt;
})

-- inner: the core's line; line: the session's; n: how many operations the transaction gets
pub ran_within : {T : Type 0} {old : SessionModel} {named : Line} (inner line : Line) (e : SessionModel) (core : CoreModel) (id : List ℕ) (f : Tx → Tx) (n : ℕ) (ran : Result T SlateDBError) (result : Result Answer SlateDBError) →
    e ≡ old → line ≡ named → ((m : Meaning) (seg : Segments) → AnswersBy m seg e core inner line) → n ≤ line_load line → ((t : Tx) → length (f t).ops ≡ length t.ops + n) →
    OnOk ran ((m : Meaning) (seg : Segments) → Stepped m seg e inner core replies.Done) → IfErr ran (λ x. (x ≡ errors.OutOfMemory) ⊎ ((m : Meaning) (seg : Segments) → Stepped m seg e inner e.core (replies.Refused x))) →
    OnOk ran (core ≡ operated e.core id f) → OnErr ran (core ≡ e.core) → ((m : Meaning) → IsKept m e.core → IsKept m core) → IfErr ran (λ x. (x ≡ errors.OutOfMemory) ⊎ IsRefusal x) → IsDone ran result →
    AnswersWithin named old (record e { core = core }) result
ran_within {named = named} inner line e core id f n ran result view is model few adds step refused taken same kept cause done =
    subst (λ (v : SessionModel). AnswersWithin named v (record e { core = core }) result) view (subst (λ (l : Line). AnswersWithin l e (record e { core = core }) result) is (record {
      step = λ m seg. ran_as m seg e core inner line ran result (model m seg) step refused same done;
      stores = stores_where result (stores e core e.names e.snapshot_names e.now (leaves_ran ran e.core core id f taken same) kept (segmented_ran ran e.core core id f taken same));
      grows = grows_where result line e (record e { core = core }) (grows e core e.names e.snapshot_names e.now line n few (takes_ran ran e.core core id f n taken same adds));
      cause = ran_cause (λ x. IsLimit e x) ran result done cause;
    }))

pub failed_within : {x : SlateDBError} (line : Line) (old new : SessionModel) (result : Result Answer SlateDBError) → result ≡ Err x → (x ≡ errors.OutOfMemory) ⊎ IsLimit old x → AnswersWithin line old new result
failed_within {x = x} line old new result is cause = subst (λ (r : Result Answer SlateDBError). AnswersWithin line old new r) (sym is) (record { step = λ m seg s stands. tt; stores = tt; grows = tt; cause = cause })
