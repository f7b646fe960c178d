-- An order's attempt on a database that threads share: what its steps take, and what its commit makes of the amounts.
use Rattle.std.proofs.Common.{◌≡◌, ◌+◌, ◌<◌, ◌≤◌, ℕ, ℤ, zero, suc, Bool, true, false, bytes_eq, List, [], ◌∷◌, ◌++◌, map, length, take, get_or, Option, Some, None, Result, Ok, Err, refl, sym, ap, subst, ◌∙◌, arith}
use Rattle.std.proofs.lemmas.List.{take_all, take_more}
use Rattle.std.proofs.lemmas.Slice.Eq.{bytes_eq-Decides}
use Rattle.std.specs.Prelude.{◌≢◌, Contains, IfOk, OnErr, OnOk}
use Rattle.std.specs.List.{zip}
use mathlib.Core.List.{IsPrefix}
use Rattle.slate_types.specs.declared.config.IsolationLevel.TheVariants.{SerializableSnapshot}
use Rattle.slate_types.specs.declared.config.Options.{Options}
use Rattle.slate_types.specs.Fold.{shown}
use Rattle.slate_types.specs.Outside.{Meaning, OnlyReads, Reach}
use Rattle.slate_types.proofs.Reaching.{reads_none}
use Rattle.slate_filter.specs.Policy.{Policy}
use Rattle.slate_mem.specs.Batch.{Ops, batch_keys, kept_ops}
use Rattle.slate_mem.proofs.BatchLaws.{keeps_its_keys}
use Rattle.slate_txn.specs.declared.event.Event.{Event}
use Rattle.slate_txn.specs.declared.event.Event.TheVariants as events
use Rattle.slate_txn.specs.declared.event.TranscriptStep.{TranscriptStep}
use Rattle.slate_txn.specs.declared.event.TranscriptStep.TheVariants as steps
use Rattle.slate_txn.specs.Alone.{IsAlone, own_of}
use Rattle.slate_txn.specs.Audited.{AreOfKindFrom, IsOfKindAt, IsOfKindBy, Kind}
use Rattle.slate_txn.specs.Laws.{Counts}
use Rattle.slate_txn.specs.Reads.{key_rows, state_at, up_to}
use Rattle.slate_txn.specs.Replay.{IsLegal, apply, apply_all, replay}
use Rattle.slate_txn.specs.Settings.{settings_of}
use Rattle.slate_txn.specs.State.{Commit, Rules, State, Tx, combine_at, last_of, opening}
use Rattle.slate_txn.proofs.SequenceLaws.{counts_more, legal_counts}
use Rattle.slate_txn.proofs.StepLaws.{own_append}
use Rattle.slate_db.specs.Meaning.{rules_of}
use Rattle.slate_shared.specs.Passes.{Opened, PassModel}
use Rattle.slate_shared.proofs.Lists.{prefix_self, prefix_trans}
use Rattle.slate_steps.specs.Attempts.{HasCommittedBehind, IsAttempt, IsStoreTrue, IsVouchedThere, SeesOnly}
use Rattle.slate_steps.proofs.Attempts.{applied_both, attempt_begins, attempt_ops, attempt_vouched, legal_before, same_up_to}
use Rattle.slate_steps.proofs.OpenThere.{committed_open}
use Rattle.slate_steps.proofs.StoreTruth.{store_within}
use Rattle.slate_stock.specs.declared.error.StockError.{StockError}
use Rattle.slate_stock.specs.declared.order.Order.{Order}
use Rattle.slate_stock.specs.Amounts.{Amounts, amount_at, amount_in, put_amounts}
use Rattle.slate_stock.specs.Orders.{order_keys, order_moves, order_refusal, stepped}
use Rattle.slate_stock.specs.Commits.{HasNames, IsOrderBy, own_puts, puts}
use Rattle.slate_stock.specs.Journals.{IsOrders, order_kind}
use Rattle.slate_stock.specs.Legs.{AreSteps, IsRead}
use Rattle.slate_stock.specs.Attempting.{HasBegunAt, HasGotOn, HasOrderedOn, HasReadOn, HasSteppedOn, HasTakenOn, OrdersGoOn, amounts_behind, amounts_since, row_behind}
use Rattle.slate_stock.proofs.JournalLaws.{at_is}
use Rattle.slate_stock.proofs.LegLaws.{keys_moved, reads_again, zip_moves}
use Rattle.slate_stock.proofs.OrderLaws.{Agree, moves_fit, same_moves, same_refusal}
use Rattle.slate_stock.proofs.PutLaws.{AllFit, after_puts, final, or_else, or_old, put_finally, where_is}
use Rattle.slate_stock.proofs.ReadingLaws.{all_fit}
use Rattle.slate_stock.proofs.StepLaws.{agree_reads, gets_own, own_puts_own, reads_there, some_moves, steps_more}

-- ---- a pass that stayed as it was

pub stays_only : (old new : PassModel) → new ≡ old → SeesOnly old new
stays_only old new same = record {
  more = record { table = ap (λ (p : PassModel). p.table) same; parts = ap (λ (p : PassModel). p.parts) same; seen = subst (λ (p : PassModel). IsPrefix old.seen p.seen) (sym same) (prefix_self old.seen) };
  own = ap (λ (p : PassModel). p.own) same;
}

-- ---- a store over a part of the call, and by a journal that begins what is seen in the end

module _ (policies : List Policy) (m : Meaning) (es all : List Event) (a b c : Reach) (begins : IsPrefix es all) (first : OnlyReads a b) (last : OnlyReads b c) (holds : IsStoreTrue policies m all a c) where
  pub true_first : IsStoreTrue policies m es a b
  true_first = store_within policies m all es a a b c holds begins (reads_none a) first last

  pub true_last : IsStoreTrue policies m es b c
  true_last = store_within policies m all es a b c c holds begins first last (reads_none c)

-- ---- one read more

pub first_read : (o : Options) (from : List Event) (ns : List ℕ) (t : Opened) → ns ≡ [] → IsAttempt o from SerializableSnapshot [] t → HasReadOn o from [] ns t
first_read o from ns t none h = record { taken = []; within = h; read = subst (λ xs. AreSteps IsRead [] xs []) (sym none) tt }

pub more_read : (o : Options) (from : List Event) (keys : List (List ℕ)) (i : ℕ) (k0 k : List ℕ) (ns : List ℕ) (n : ℕ) (vs : List ℕ) (t u : Opened) → i < length keys → k ≡ get_or keys i k0 → vs ≡ ns ++ (n ∷ []) →
    (old : HasReadOn o from (take i keys) ns t) → HasGotOn o from old.taken k n u → HasReadOn o from (take (i + 1) keys) vs u
more_read o from keys i k0 k ns n vs t u within is pushed old got = record {
  taken = old.taken ++ (steps.Get k got.answer ∷ []);
  within = got.within;
  read =
      subst (λ ks. AreSteps IsRead ks vs (old.taken ++ (steps.Get k got.answer ∷ []))) (sym (take_more keys i k0 within ∙ ap (λ j. take i keys ++ (j ∷ [])) (sym is)))
      (subst (λ xs. AreSteps IsRead (take i keys ++ (k ∷ [])) xs (old.taken ++ (steps.Get k got.answer ∷ []))) (sym pushed)
      (steps_more IsRead (take i keys) ns old.taken k n (steps.Get k got.answer) old.read (refl, got.is)));
}

pub whole_read : (o : Options) (from : List Event) (keys : List (List ℕ)) (i : ℕ) (ns : List ℕ) (t : Opened) → length keys ≤ i → HasReadOn o from (take i keys) ns t → HasReadOn o from keys ns t
whole_read o from keys i ns t past h = record { taken = h.taken; within = h.within; read = subst (λ ks. AreSteps IsRead ks ns h.taken) (take_all i keys past) h.read }

-- ---- an order's transcript

pub taken_on : (o : Options) (from : List Event) (t u : Opened) (order : Order) (m : Amounts) (keys : List (List ℕ)) (ns : List ℕ) → HasNames order → keys ≡ order_keys order → order_refusal m order ≡ None →
    (h : HasReadOn o from keys ns t) → ns ≡ map m (order_keys order) → IsAttempt o from SerializableSnapshot (h.taken ++ own_puts (order_moves m order)) u → HasTakenOn o from order u
taken_on o from t u order m keys ns names same fits h are within = record {
  taken = all;
  within = within;
  amounts = m;
  own = own;
  by = record {
    names = names;
    fits = fits;
    reads = h.taken;
    read = reads_again m (order_keys order) h.taken (subst (λ ks. AreSteps IsRead ks (map m (order_keys order)) h.taken) same (subst (λ xs. AreSteps IsRead keys xs h.taken) are h.read));
    whole = refl;
    kept = ap kept_ops own;
    keys = sym (keeps_its_keys (own_of all));
  };
}
  where
    all : List TranscriptStep
    all = h.taken ++ own_puts (order_moves m order)

    own : own_of all ≡ puts (order_moves m order)
    own = own_append h.taken (own_puts (order_moves m order)) ∙ ap (λ (os : Ops). os ++ own_of (own_puts (order_moves m order))) (gets_own keys ns h.taken h.read) ∙ own_puts_own (order_moves m order)

pub whole_put : (o : Options) (from : List Event) (t : Opened) (ts : List TranscriptStep) (m : Amounts) (order : Order) (vs : List ℕ) (keys : List (List ℕ)) → vs ≡ map (λ p. p.1) (order_moves m order) → keys ≡ order_keys order →
    IsAttempt o from SerializableSnapshot (ts ++ own_puts (zip keys vs)) t → IsAttempt o from SerializableSnapshot (ts ++ own_puts (order_moves m order)) t
whole_put o from t ts m order vs keys new same h =
    subst (λ (ps : List (List ℕ × ℕ)). IsAttempt o from SerializableSnapshot (ts ++ own_puts ps) t) ((λ i. zip (same i) (new i)) ∙ zip_moves m order) h

-- its commit, at the moment that the call was given
pub committed_then : (o : Options) (t : Opened) (n : Option ℕ) (y z : ℤ) (old new : PassModel) → y ≡ z → HasCommittedBehind o t n y old new → HasCommittedBehind o t n z old new
committed_then o t n y z old new same h = subst (λ (now : ℤ). HasCommittedBehind o t n now old new) same h

pub ordered_on : (o : Options) (order : Order) (now : ℤ) (n : ℕ) (old new : PassModel) (t : Opened) → HasTakenOn o old.seen order t → HasCommittedBehind o t (Some n) now old new → IsLegal o.start_seq new.seen →
    HasOrderedOn o order now n old new
ordered_on o order now n old new t h committed legal = record { t = t; taken = h; committed = committed; legal = legal }

pub some_taken : (o : Options) (from : List Event) (order : Order) (t : Opened) → HasTakenOn o from order t → t.tx.ops ≢ []
some_taken o from order t h none = some_moves h.amounts order (sym (attempt_ops o from SerializableSnapshot h.taken t h.within ∙ h.own) ∙ none)

-- so its commit has a sequence
pub never_none : (o : Options) (order : Order) (now : ℤ) (old new : PassModel) (t : Opened) → HasTakenOn o old.seen order t → HasCommittedBehind o t None now old new → ⊥
never_none o order now old new t h committed = some_taken o old.seen order t h committed.next

-- ---- what was read stands in the state, by a legal journal that begins with what was seen

module _ (o : Options) (m : Meaning) (from : List Event) (ts : List TranscriptStep) (t : Opened) (es : List Event) (h : IsAttempt o from SerializableSnapshot ts t) (later : IsPrefix t.seen es) (legal : IsLegal o.start_seq es) where
  abbrev r : Rules
  r = rules_of (settings_of o) m

  pub alone_since : IsVouchedThere o m t → IsAlone r (replay es).commits t.tx.begin ts
  alone_since v = attempt_vouched o from SerializableSnapshot ts t h m es later legal v

  pub at_its_start : HasBegunAt o from es h.start
  at_its_start = record {
    id = t.id;
    known = h.known;
    begun = subst (λ (n : ℕ). IsPrefix (h.start ++ (events.Begin t.id SerializableSnapshot n ∷ [])) es) h.newest (prefix_trans _ t.seen es h.begun later);
  }

  same_begin : up_to t.tx.begin (replay es).commits ≡ up_to (last_of o.start_seq (replay h.start).commits) (replay h.start).commits
  same_begin =
      same_up_to o.start_seq t.tx.begin h.start h.start es h.newest (prefix_self h.start) (prefix_trans h.start t.seen es (attempt_begins o from SerializableSnapshot ts t h) later) legal
      ∙ ap (λ (n : ℕ). up_to n (replay h.start).commits) h.newest

  pub row_at_start : (k : List ℕ) → state_at r (replay es).commits t.tx.begin k ≡ row_behind o m h.start k
  row_at_start k = ap (λ (cs : List Commit). shown (combine_at r k) (key_rows r k cs)) same_begin

  pub amounts_at_start : amounts_since o m es t.tx.begin ≡ amounts_behind o m h.start
  amounts_at_start i k = amount_in (row_at_start k i)

pub read_since : (o : Options) (m : Meaning) (from : List Event) (keys : List (List ℕ)) (ns : List ℕ) (t : Opened) (es : List Event) → HasReadOn o from keys ns t → IsPrefix t.seen es → IsLegal o.start_seq es → IsVouchedThere o m t →
    ns ≡ map (amounts_since o m es t.tx.begin) keys
read_since o m from keys ns t es h later legal v = reads_there (rules_of (settings_of o) m) (replay es).commits t.tx.begin keys ns h.taken h.read (alone_since o m from h.taken t es h.within later legal v)

-- the amounts that an order read are those at its start
module _ (o : Options) (m : Meaning) (from : List Event) (order : Order) (t : Opened) (es : List Event) (h : HasTakenOn o from order t) (later : IsPrefix t.seen es) (legal : IsLegal o.start_seq es) (v : IsVouchedThere o m t) where
  pub agree_start : Agree h.amounts (amounts_behind o m h.within.start) (order_keys order)
  agree_start = subst (λ (x : Amounts). Agree h.amounts x (order_keys order)) (amounts_at_start o m from h.taken t es h.within later legal)
      (agree_reads (rules_of (settings_of o) m) (replay es).commits t.tx.begin h.amounts (order_keys order) h.by.reads (own_puts (order_moves h.amounts order)) h.by.read
      (subst (IsAlone (rules_of (settings_of o) m) (replay es).commits t.tx.begin) h.by.whole (alone_since o m from h.taken t es h.within later legal v)))

  pub fits_start : order_refusal (amounts_behind o m h.within.start) order ≡ None
  fits_start = sym (same_refusal h.amounts (amounts_behind o m h.within.start) order agree_start) ∙ h.by.fits

-- ---- keys of puts, and all others

final_some : (ps : List (List ℕ × ℕ)) (k : List ℕ) → Contains (map (λ p. p.0) ps) k → (n : ℕ) × (final ps k ≡ Some n)
final_some [] k (i, within, is) = absurd (omega (arith, within))
final_some (p ∷ ps) k (zero, within, is) = by (final ps k)
  where
    by : (o : Option ℕ) → (n : ℕ) × (or_else o (where_is (bytes_eq p.0 k) p.1) ≡ Some n)
    by (Some n) = (n, refl)
    by None = (p.1, ap (λ (b : Bool). where_is b p.1) ((bytes_eq-Decides p.0 k).1 is))
final_some (p ∷ ps) k (suc i, within, is) = let rest = final_some ps k (i, omega (arith, within), is) in (rest.0, ap (λ (o : Option ℕ). or_else o (where_is (bytes_eq p.0 k) p.1)) rest.1)

final_none : (ps : List (List ℕ × ℕ)) (k : List ℕ) → (Contains (map (λ p. p.0) ps) k → ⊥) → final ps k ≡ None
final_none [] k h = refl
final_none (p ∷ ps) k h =
    ap (λ (o : Option ℕ). or_else o (where_is (bytes_eq p.0 k) p.1)) (final_none ps k (λ c. h (suc c.0, omega (arith, c.1), c.2))) ∙ by (bytes_eq p.0 k) refl
  where
    by : (b : Bool) → bytes_eq p.0 k ≡ b → where_is b p.1 ≡ None
    by true e = absurd (h (zero, omega arith, (bytes_eq-Decides p.0 k).0 e))
    by false e = refl

pub put_at : (m n : Amounts) (ps : List (List ℕ × ℕ)) (k : List ℕ) → Contains (map (λ p. p.0) ps) k → put_amounts m ps k ≡ put_amounts n ps k
put_at m n ps k c =
    let is = final_some ps k c in
    put_finally m ps k ∙ ap (λ (o : Option ℕ). or_old o (m k)) is.1 ∙ sym (ap (λ (o : Option ℕ). or_old o (n k)) is.1) ∙ sym (put_finally n ps k)

pub put_beside : (m : Amounts) (ps : List (List ℕ × ℕ)) (k : List ℕ) → (Contains (map (λ p. p.0) ps) k → ⊥) → put_amounts m ps k ≡ m k
put_beside m ps k none = put_finally m ps k ∙ ap (λ (o : Option ℕ). or_old o (m k)) (final_none ps k none)

-- ---- what the commit makes of the amounts

same_le : (x : ℕ) → x ≤ x
same_le x = omega arith

module _ (o : Options) (m : Meaning) (order : Order) (now : ℤ) (n : ℕ) (old new : PassModel) (h : HasOrderedOn o order now n old new) where
  abbrev rs : Rules
  rs = rules_of (settings_of o) m

  abbrev t : Opened
  t = h.t

  abbrev before : List Event
  before = h.committed.before

  abbrev made : Commit
  made = record { seq = n; now = now; ops = kept_ops t.tx.ops; tracked = batch_keys t.tx.ops }

  abbrev event : Event
  event = events.Commit t.id (Some n) now (kept_ops t.tx.ops) (batch_keys t.tx.ops) t.tx.transcript

  before_begins : IsPrefix before new.seen
  before_begins = (event ∷ [], sym h.committed.after)

  seen_begins : IsPrefix t.seen new.seen
  seen_begins = prefix_trans t.seen before new.seen h.committed.known before_begins

  counts : Counts o.start_seq (replay before).commits
  counts = legal_counts o.start_seq before opening [] tt (legal_before o.start_seq before new.seen before_begins h.legal)

  one_more : (replay new.seen).commits ≡ (replay before).commits ++ (made ∷ [])
  one_more = ap (λ (l : List Event). (replay l).commits) h.committed.after ∙ ap (λ (s : State). s.commits) (applied_both opening before (event ∷ []))

  abbrev at_start : Amounts
  at_start = amounts_behind o m h.taken.within.start

  abbrev moves_there : List (List ℕ × ℕ)
  moves_there = order_moves at_start order

  pub stepped_on : IsVouchedThere o m t → IsVouchedThere o m (record t { seen = new.seen }) → HasSteppedOn o m order now n old new
  stepped_on v vouched = record {
    done = h;
    vouched = vouched;
    after = put_amounts at_start moves_there;
    step = ap (λ z. stepped z (put_amounts at_start moves_there)) (fits_start o m old.seen order t new.seen h.taken seen_begins h.legal v);
    at_keys = λ k c. state k ∙ put_at (amounts_behind o m before) at_start moves_there k (subst (λ (ks : List (List ℕ)). Contains ks k) (sym (keys_moved at_start order)) c);
    others = λ k none. state k ∙ put_beside (amounts_behind o m before) moves_there k (λ c. none (subst (λ (ks : List (List ℕ)). Contains ks k) (keys_moved at_start order) c));
  }
    where
      moves : order_moves h.taken.amounts order ≡ moves_there
      moves = same_moves h.taken.amounts at_start order (agree_start o m old.seen order t new.seen h.taken seen_begins h.legal v)

      fit : AllFit moves_there
      fit = subst AllFit moves (moves_fit h.taken.amounts order (all_fit h.taken.amounts (order_keys order) h.taken.by.reads h.taken.by.read) h.taken.by.fits)

      kept : made.ops ≡ kept_ops (puts moves_there)
      kept = ap kept_ops (attempt_ops o old.seen SerializableSnapshot h.taken.taken t h.taken.within ∙ h.taken.own) ∙ ap (λ ps. kept_ops (puts ps)) moves

      state : (k : List ℕ) → amounts_behind o m new.seen k ≡ put_amounts (amounts_behind o m before) moves_there k
      state k =
          ap (λ (cs : List Commit). amount_at rs cs (last_of o.start_seq cs) k) one_more
          ∙ at_is rs ((replay before).commits ++ (made ∷ [])) (last_of o.start_seq ((replay before).commits ++ (made ∷ []))) o.start_seq k (counts_more o.start_seq (replay before).commits made counts h.committed.next.0) (same_le _)
          ∙ after_puts rs (replay before).commits made moves_there k kept fit
          ∙ ap (λ (x : Amounts). put_amounts x moves_there k) (λ i j. sym (at_is rs (replay before).commits (last_of o.start_seq (replay before).commits) o.start_seq j counts (same_le _)) i)

  -- ---- and of the journal

  is_ours : IsOfKindAt order_kind (replay before) event
  is_ours =
      subst (λ (x : Option Tx). IsOfKindBy order_kind x (Some n) now (kept_ops t.tx.ops) (batch_keys t.tx.ops) t.tx.transcript)
      (sym (committed_open o old.seen SerializableSnapshot h.taken.taken t h.taken.within (Some n) now old new h.committed h.legal))
      (record {
        serializable = refl;
        order = order;
        amounts = h.taken.amounts;
        by = subst (λ (x : Tx). IsOrderBy order h.taken.amounts (kept_ops x.ops) (batch_keys x.ops) x.transcript) (sym h.taken.within.is) h.taken.by;
      })

  of_kind_last : (kind : Kind) (s : State) (es : List Event) (e : Event) → AreOfKindFrom kind s es → IsOfKindAt kind (apply_all s es) e → AreOfKindFrom kind s (es ++ (e ∷ []))
  of_kind_last kind s [] e are is = (is, tt)
  of_kind_last kind s (x ∷ es) e are is = (are.0, of_kind_last kind (apply s x) es e are.1 is)

  pub orders_go_on : OrdersGoOn old new
  orders_go_on = record {
    before = before;
    event = event;
    known = h.committed.seen;
    added = h.committed.after;
    orders = λ are. subst IsOrders (sym h.committed.after) (of_kind_last order_kind opening before event are is_ours);
  }

pub stepped_by : (o : Options) (m : Meaning) (order : Order) (now : ℤ) (n : ℕ) (old new : PassModel) (t : Opened) → HasTakenOn o old.seen order t → HasCommittedBehind o t (Some n) now old new → IsLegal o.start_seq new.seen → IsVouchedThere o m t →
    IsVouchedThere o m (record t { seen = new.seen }) → HasSteppedOn o m order now n old new
stepped_by o m order now n old new t h committed legal v vouched = stepped_on o m order now n old new (record { t = t; taken = h; committed = committed; legal = legal }) v vouched

-- ---- of what a call answers

pub ordered_then : (o : Options) (order : Order) (y z : ℤ) (old new : PassModel) (r : Result ℕ StockError) → y ≡ z → IfOk r (λ n. HasOrderedOn o order y n old new) → IfOk r (λ n. HasOrderedOn o order z n old new)
ordered_then o order y z old new r same h = subst (λ (now : ℤ). IfOk r (λ n. HasOrderedOn o order now n old new)) same h

pub stepped_then : (o : Options) (m : Meaning) (order : Order) (y z : ℤ) (old new : PassModel) (r : Result ℕ StockError) → y ≡ z → IfOk r (λ n. HasSteppedOn o m order y n old new) → IfOk r (λ n. HasSteppedOn o m order z n old new)
stepped_then o m order y z old new r same h = subst (λ (now : ℤ). IfOk r (λ n. HasSteppedOn o m order now n old new)) same h

pub orders_then : (o : Options) (m : Meaning) (order : Order) (now : ℤ) (old new : PassModel) (r : Result ℕ StockError) → IfOk r (λ n. HasOrderedOn o order now n old new) → OnOk r (OrdersGoOn old new)
orders_then o m order now old new (Ok n) h = orders_go_on o m order now n old new h
orders_then o m order now old new (Err e) h = tt

pub same_then : (o : Options) (order : Order) (now : ℤ) (old new : PassModel) (r : Result ℕ StockError) → IfOk r (λ n. HasOrderedOn o order now n old new) → OnErr r (SeesOnly old new) → (new.table ≡ old.table) × (new.parts ≡ old.parts)
same_then o order now old new (Ok n) h only = (h.committed.more.table, h.committed.more.parts)
same_then o order now old new (Err e) h only = (only.more.table, only.more.parts)
