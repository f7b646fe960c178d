use Rattle.std.proofs.Common.{inl, inr, refl, false, ◌≡◌, ℕ, List, None, ◌+◌, ◌++◌, ◌∷◌, [], ◌≤◌, ap, sym, subst, ◌∙◌, Greater}
use Rattle.std.specs.List.{AllByRecursion}
use Rattle.std.specs.Prelude.{Result, Err}
use Rattle.std.proofs.lemmas.Result.{err_from_is_err_and}
use Rattle.slate_types.specs.declared.config.IsolationLevel.{IsolationLevel}
use Rattle.slate_types.specs.declared.error.SlateDBError.{SlateDBError}
use Rattle.slate_types.specs.declared.error.SlateDBError.TheVariants as errors
use Rattle.slate_types.specs.Keys.{key_cmp}
use Rattle.slate_txn.specs.declared.line.Line.TheVariants as lines
use Rattle.slate_txn.specs.Ids.{id_of}
use Rattle.slate_txn.specs.Managers.{untracked}
use Rattle.slate_txn.specs.Named.{find_named}
use Rattle.slate_txn.specs.Reply.{Begun}
use Rattle.slate_txn.specs.State.{begun, is_open}
use Rattle.slate_txn.specs.Step.{step}
use Rattle.slate_db.specs.declared.engine.Core.TheInside.{Inside}
use Rattle.slate_db.specs.Calls.Open.{Begins, IsShortOfPlace}
use Rattle.slate_db.specs.Flushed.{NoPlace}
use Rattle.slate_db.specs.Log.{LIMIT, IsLog}
use Rattle.slate_db.specs.Meaning.{rules_in}
use Rattle.slate_db.specs.Model.{CoreModel}
use Rattle.slate_db.specs.View.{view_of, unseen_of, IsWholeInside}
use Rattle.slate_db.specs.Segmented.{IsSegmented}
use Rattle.slate_db.specs.Sound.{IsKept}
use Rattle.slate_db.specs.Vouched.{IsVouchedFor}
use Rattle.slate_db.proofs.Calls.{begun_is, event_begun, only_short_begin, past_place, placed}
use Rattle.slate_db.proofs.Managing.{back_named, managed_back}
use Rattle.slate_db.proofs.Opened.{has_named, stay_begun, stay_same, unopened}
use Rattle.slate_db.proofs.Segmenting.{segmented_as}
use Rattle.slate_db.proofs.Steps.{step_begin}
use Rattle.slate_db.proofs.Vouches.{others_begin, vouched_begin}
use Rattle.slate_db.proofs.Wholes.{after_begin, whole_begin, whole_manager, kept_begin, past_begun, fresh_begun, unshown_begun, within_newest}
use Rattle.slate_db.proofs.engine.Core.begin.Goals as goal

pub enter-requires-clause-past : goal.enter-requires-clause-past
enter-requires-clause-past c =
    let id = c.in_ok-id.ensures.id ∙ ap (λ n. id_of (n + 1)) c.self.invariant.tied.manager.counted in
    subst (λ (id : List ℕ). AllByRecursion (λ p. key_cmp id p.0 ≡ Greater) c.self.inside.transactions) (sym id) (past_begun (view_of c.self.inside) (unseen_of c.self.inside) c.self.invariant)

pub enter-requires-clause-newest : goal.enter-requires-clause-newest
enter-requires-clause-newest c =
    let start = c.in_ok-id.ensures.opened.0 ∙ c.self.invariant.tied.manager.newest in
    subst (λ (n : ℕ). AllByRecursion (λ p. p.1.begin ≤ n) c.self.inside.transactions) (sym start) (within_newest c.self.inside.layers.floor c.self.inside.log.last c.self.inside.transactions c.self.invariant.tied.begins)

pub enter-requires-clause-fresh : goal.enter-requires-clause-fresh
enter-requires-clause-fresh c =
    let id = c.in_ok-id.ensures.id ∙ ap (λ n. id_of (n + 1)) c.self.invariant.tied.manager.counted in
    subst (λ (id : List ℕ). find_named id c.self.inside.transactions ≡ None) (sym id) (fresh_begun (view_of c.self.inside) (unseen_of c.self.inside) c.self.invariant)

pub take_back-requires-clause-newest : goal.take_back-requires-clause-newest
take_back-requires-clause-newest c = back_named c.self.inside.manager c.new_transaction.new.self c.in_ok-id.id (untracked c.in_ok-id.start) c.self.inside.log.ids c.self.inside.transactions c.in_ok-id.ensures.opened.1 c.in_ok-id.ensures.fresh
    c.self.invariant.tied.manager.counted c.self.invariant.tied.manager.opened c.self.invariant.tied.named

pub invariant_of-self-in-Err : goal.invariant_of-self-in-Err
invariant_of-self-in-Err c =
    let log = sym c.in-Err.ensures.same_log in
    let txns = sym c.in-Err.ensures.same in
    let s = c.self.inside in
    subst IsWholeInside (λ i. record c.self.inside { log = log i; transactions = txns i; manager = c.take_back.new.self })
    (whole_manager (view_of s) (unseen_of s) c.take_back.new.self
    (managed_back s.manager c.new_transaction.new.self c.take_back.new.self c.in_ok-id.id (untracked c.in_ok-id.start) s.log.ids s.log.last s.log.commits s.transactions c.in_ok-id.ensures.opened.1 c.in_ok-id.ensures.fresh c.take_back.ensures.value
    (λ h. c.take_back.ensures.stands _ (c.in_ok-id.ensures.stands _ h)) c.self.invariant.tied.manager) c.self.invariant)

pub invariant_of-self-in_default : goal.invariant_of-self-in_default
invariant_of-self-in_default c =
    let s = c.self.inside in
    let n = c.new_transaction.new.self in
    let id = c.in_ok-id.ensures.id ∙ ap (λ n. id_of (n + 1)) c.self.invariant.tied.manager.counted in
    let start = c.in_ok-id.ensures.opened.0 ∙ c.self.invariant.tied.manager.newest in
    let managed : n ≡ record s.manager { ids = s.manager.ids + 1; active = s.manager.active ++ ((id_of (s.log.ids + 1), untracked s.log.last) ∷ []) } =
    c.in_ok-id.ensures.opened.1 ∙ (λ i. record s.manager { ids = s.manager.ids + 1; active = s.manager.active ++ ((id i, untracked (start i)) ∷ []) }) in
    subst IsWholeInside (begun_is s c.enter.new.log c.enter.new.transactions n c.args.level c.in_ok-id.id c.in_ok-id.start id start c.in_default.ensures.log c.in_default.ensures.opened)
    (whole_begin (view_of s) (unseen_of s) c.args.level c.enter.new.log.spare n managed (c.in_ok-id.ensures.stands _) (subst IsLog c.in_default.ensures.log c.in_default.ensures.whole) c.self.invariant)

pub returns : goal.returns
returns c =
    let s = c.self.inside in
    let id = c.in_ok-id.ensures.id ∙ ap (λ n. id_of (n + 1)) c.self.invariant.tied.manager.counted in
    let start = c.in_ok-id.ensures.opened.0 ∙ c.self.invariant.tied.manager.newest in
    let becomes = begun_is s c.enter.new.log c.enter.new.transactions c.new_transaction.new.self c.args.level c.in_ok-id.id c.in_ok-id.start id start c.in_default.ensures.log c.in_default.ensures.opened in
    record {
      step = λ m h. sym (ap (λ (v : CoreModel). step (rules_in v.settings m h) v.state (lines.Begin c.in_ok-id.id c.args.level)) c.self.view_is)
          ∙ (λ i. step (rules_in (view_of c.self.inside).settings m h) (view_of c.self.inside).state (lines.Begin (id i) c.args.level))
          ∙ step_begin m (view_of c.self.inside) (unseen_of c.self.inside) c.args.level c.enter.new.log.spare c.self.invariant
          ∙ (let ids = sym id in let at = sym start in λ i. ((view_of (becomes i)).state, Begun (ids i) (at i)));
      event = event_begun s c.args.self.now c.enter.new.log c.enter.new.transactions c.args.level c.in_ok-id.id c.in_ok-id.start c.self.view_is id start c.in_default.ensures.log;
      vouched = λ m. subst (λ (s : Inside). IsVouchedFor m (view_of s) c.in_ok-id.id) becomes
          (subst (λ (i : List ℕ). IsVouchedFor m (after_begin (view_of s) c.args.level s.log.last (id_of (s.log.ids + 1)) c.enter.new.log.spare) i) (sym id)
          (vouched_begin m (view_of s) (id_of (s.log.ids + 1)) c.args.level s.log.last (fresh_begun (view_of s) (unseen_of s) c.self.invariant)));
      others = λ m k h. subst (λ (s : Inside). IsVouchedFor m (view_of s) k) becomes
          (others_begin m (view_of s) (id_of (s.log.ids + 1)) k c.args.level s.log.last c.enter.new.log.spare (subst (λ (v : CoreModel). IsVouchedFor m v k) (sym c.self.view_is) h));
      segmented = λ h z. subst (λ (s : Inside). IsSegmented h (view_of s)) becomes
          (segmented_as h (view_of c.self.inside) _ refl refl (subst (λ (v : CoreModel). IsSegmented h v) (sym c.self.view_is) z));
      kept = λ m k. subst (λ (s : Inside). IsKept m (view_of s)) becomes
          (kept_begin m (view_of c.self.inside) c.args.level c.self.inside.log.last (id_of (c.self.inside.log.ids + 1)) c.enter.new.log.spare
          (subst (λ (v : CoreModel). IsKept m v) (sym c.self.view_is) k));
      same = tt;
      limit = placed (view_of s) c.args.self.now (unseen_of s) 2 c.self.view_is c.self.invariant c.in_ok-place.ensures.place;
      cause = tt;
      «open» = has_named _ s.transactions c.in_ok-id.id (begun c.args.level c.in_ok-id.start)
          (subst (λ (i : List ℕ). find_named i s.transactions ≡ None) (sym id) (fresh_begun (view_of s) (unseen_of s) c.self.invariant)) c.in_default.ensures.opened;
      fresh = subst (λ (v : CoreModel). is_open v.state c.in_ok-id.id ≡ false) c.self.view_is
          (subst (λ (i : List ℕ). is_open (view_of s).state i ≡ false) (sym id)
          (unopened (view_of s).state _ (fresh_begun (view_of s) (unseen_of s) c.self.invariant) (unshown_begun (view_of s) (unseen_of s) c.self.invariant)));
      stay = stay_begun c.args.self.now _ c.in_ok-id.id (begun c.args.level c.in_ok-id.start)
          (subst (λ (v : CoreModel). find_named c.in_ok-id.id v.state.snapshots ≡ None) c.self.view_is
          (subst (λ (i : List ℕ). find_named i (view_of s).state.snapshots ≡ None) (sym id) (unshown_begun (view_of s) (unseen_of s) c.self.invariant)))
          (c.in_default.ensures.opened ∙ ap (λ (v : CoreModel). v.state.txns ++ ((c.in_ok-id.id, begun c.args.level c.in_ok-id.start) ∷ [])) c.self.view_is)
          (ap (λ (v : CoreModel). v.state.snapshots) c.self.view_is);
    }

-- ---- refusals: nothing is opened

refused : (level : IsolationLevel) (old new : CoreModel) (e : SlateDBError) → new ≡ old → (NoPlace 2 old → e ≡ errors.LimitReached LIMIT) → IsShortOfPlace 2 old e → (let r : Result (List ℕ × ℕ) SlateDBError = Err e in Begins level old new r)
refused level old new e same limit cause = record {
  step = tt;
  event = tt;
  vouched = tt;
  others = tt;
  segmented = tt;
  kept = tt;
  same = same;
  limit = λ past. ap Err (limit past);
  cause = cause;
  «open» = tt;
  fresh = tt;
  stay = stay_same old new same;
}

pub returns-in-Err : goal.returns-in-Err
returns-in-Err c =
    let s = c.self.inside in
    let log = c.in-Err.ensures.same_log in
    let txns = c.in-Err.ensures.same in
    refused c.args.level c.args.self.now _ _ ((λ i. view_of (record s { log = log i; transactions = txns i })) ∙ c.self.view_is)
    (placed (view_of s) c.args.self.now (unseen_of s) 2 c.self.view_is c.self.invariant c.in_ok-place.ensures.place) (inl c.in-Err.ensures.cause)

pub returns-in_err-id : goal.returns-in_err-id
returns-in_err-id c =
    let s = c.self.inside in
    let p = err_from_is_err_and c.from_residual-in_err-id.result c.from_residual-in_err-id.ensures.1 in
    subst (Begins c.args.level c.args.self.now _) (sym (p.1 ∙ ap Err p.2)) (refused c.args.level c.args.self.now _ _ c.self.view_is
    (placed (view_of s) c.args.self.now (unseen_of s) 2 c.self.view_is c.self.invariant c.in_ok-place.ensures.place)
    (inl (only_short_begin (view_of s) (unseen_of s) _ c.self.invariant c.in_err-id.ensures.cause)))

pub returns-in_err-place : goal.returns-in_err-place
returns-in_err-place c =
    let s = c.self.inside in
    let p = err_from_is_err_and c.from_residual.result c.from_residual.ensures.1 in
    let limit = c.in_err-place.ensures.limit in
    subst (Begins c.args.level c.args.self.now _) (sym (p.1 ∙ ap Err p.2)) (refused c.args.level c.args.self.now _ _ refl (λ past. limit.0)
    (inr (limit.0, past_place (view_of s) c.args.self.now (unseen_of s) 2 c.self.view_is c.self.invariant limit.1)))
