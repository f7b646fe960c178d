-- An order's transaction ends: what is known of the call by what its steps answer.
use Rattle.std.proofs.Common.{◌≡◌, ◌-◌, ◌^◌, ◌+◌, ◌≤◌, ◌⊎◌, inl, inr, ℕ, ℤ, List, [], ◌∷◌, ◌++◌, Option, Some, None, Result, Ok, Err, refl, sym, ap, subst, ◌∙◌}
use Rattle.std.specs.Prelude.{IfOk, OnErr}
use Rattle.slate_types.specs.declared.config.IsolationLevel.TheVariants.{SerializableSnapshot}
use Rattle.slate_types.specs.declared.error.SlateDBError.{SlateDBError}
use Rattle.slate_types.specs.declared.error.SlateDBError.TheVariants as errors
use Rattle.slate_types.specs.Outside.{IsFault, Meaning, OnlyReads, Reach}
use Rattle.slate_types.proofs.Reaching.{fault_earlier}
use Rattle.slate_filter.specs.Policy.{Policy}
use Rattle.slate_mem.specs.KeyTests.{Segments}
use Rattle.slate_txn.specs.declared.event.TranscriptStep.{TranscriptStep}
use Rattle.slate_txn.specs.Alone.{IsAlone}
use Rattle.slate_db.specs.Load.{load, weight}
use Rattle.slate_db.specs.Meaning.{rules_of}
use Rattle.slate_db.specs.Model.{CoreModel}
use Rattle.slate_db.specs.Segmented.{IsSegmented}
use Rattle.slate_db.specs.SerialLaws.{IsVouchedCore}
use Rattle.slate_db.specs.Settled.{IsSettledIn}
use Rattle.slate_db.specs.Sound.{IsKept}
use Rattle.slate_steps.specs.Reads.{IsChecked, IsFaultSettled}
use Rattle.slate_steps.specs.Steps.{HasCommitted, IsBeginError, newest}
use Rattle.slate_steps.proofs.Settling.{committed_settled}
use Rattle.slate_steps.proofs.StoreTruth.{checked_before, checked_in}
use Rattle.slate_stock.specs.declared.order.Order.{Order}
use Rattle.slate_stock.specs.declared.error.StockError.{StockError}
use Rattle.slate_stock.specs.declared.error.StockError.TheVariants.{SameName, SameAsset, TooMuch, BadAmount, AlreadyIssued, NotEnough, Db, ForeignCommit}
use Rattle.slate_stock.specs.Amounts.{Amounts}
use Rattle.slate_stock.specs.Journals.{IsOrders}
use Rattle.slate_stock.specs.Orders.{amount_refusals, first_of, form_refusals, order_keys, order_moves, order_refusal, order_step}
use Rattle.slate_stock.specs.Commits.{own_puts}
use Rattle.slate_stock.specs.Running.{HasOrdered, HasTaken, IsDb, IsDbCause, IsDbTruth, IsLeft, IsOrderCause, IsOrderTruth, IsTakeCause, IsTakeTruth, amounts_of}
use Rattle.slate_stock.proofs.CauseLaws.{db_is, db_map, settled_as}
use Rattle.slate_stock.proofs.OrderLaws.{Agree, same_refusal}
use Rattle.slate_stock.proofs.StepLaws.{agree_reads}
use Rattle.slate_stock.proofs.CoreLaws.{left_grows, left_orders, left_settled, left_vouched, ordered_grows, ordered_next, ordered_orders, ordered_steps, ordered_vouched, taken_some}

-- ---- the commit

abbrev pub IsFull : CoreModel → SlateDBError → Type 0
IsFull c x = (x ≡ errors.SequenceExhausted) × (newest c ≡ 2 ^ 64 - 2)

pub has_ordered : (policies : List Policy) (before after : Reach) (c d e : CoreModel) (id : List ℕ) (o : Order) (now : ℤ) (n : ℕ) → (h : HasTaken policies before after c id o d) → HasCommitted c id SerializableSnapshot h.taken (Some n) now e →
    HasOrdered policies before after c o now n e
has_ordered policies before after c d e id o now n h committed = record { id = id; taken = h.taken; committed = committed; amounts = h.amounts; own = h.own; by = h.by; seen = h.seen }

-- at the moment that the call was given
pub ordered_at : (policies : List Policy) (before after : Reach) (c d : CoreModel) (o : Order) (y z : ℤ) (r : Result ℕ StockError) → y ≡ z → IfOk r (λ n. HasOrdered policies before after c o y n d) → IfOk r (λ n. HasOrdered policies before after c o z n d)
ordered_at policies before after c d o y z r same h = subst (λ (now : ℤ). IfOk r (λ n. HasOrdered policies before after c o now n d)) same h

-- what reads no more behind it
pub taken_upto : (policies : List Policy) (before now after : Reach) (c d : CoreModel) (id : List ℕ) (o : Order) → OnlyReads before now → OnlyReads now after → HasTaken policies before now c id o d → HasTaken policies before after c id o d
taken_upto policies before now after c d id o reads later h = record {
  taken = h.taken;
  within = h.within;
  amounts = h.amounts;
  own = h.own;
  by = h.by;
  seen = λ g store. h.seen g (checked_before policies g before now after c reads later store);
}

pub committed_at : (c d : CoreModel) (id : List ℕ) (ts : List TranscriptStep) (y z : ℤ) (n : Option ℕ) → y ≡ z → HasCommitted c id SerializableSnapshot ts n y d → HasCommitted c id SerializableSnapshot ts n z d
committed_at c d id ts y z n same h = subst (λ (now : ℤ). HasCommitted c id SerializableSnapshot ts n now d) same h

-- an order puts something, so it has a sequence
pub some_committed : (policies : List Policy) (before after : Reach) (c d e : CoreModel) (id : List ℕ) (o : Order) (now : ℤ) → (h : HasTaken policies before after c id o d) → HasCommitted c id SerializableSnapshot h.taken None now e → ⊥
some_committed policies before after c d e id o now h committed = taken_some policies before after c id o d h committed.next

pub never_full : {A : Type 0} (r : Result A SlateDBError) (x : A) → r ≡ Ok x → (r ≡ Err errors.SequenceExhausted) ⊎ (r ≡ Err errors.OutOfMemory) → ⊥
never_full r x is (inl full) = cc
never_full r x is (inr wanting) = cc

-- where what was read is checked it fits the amounts there
pub taken_fits : (policies : List Policy) (g : Segments) (before after : Reach) (c d : CoreModel) (id : List ℕ) (o : Order) → HasTaken policies before after c id o d → IsChecked policies g before after c → order_refusal (amounts_of before.meaning c) o ≡ None
taken_fits policies g before after c d id o h store = sym (same_refusal h.amounts (amounts_of before.meaning c) o agree) ∙ h.by.fits
  where
    agree : Agree h.amounts (amounts_of before.meaning c) (order_keys o)
    agree = agree_reads (rules_of c.settings before.meaning) c.state.commits (newest c) h.amounts (order_keys o) h.by.reads (own_puts (order_moves h.amounts o)) h.by.read
        (subst (IsAlone (rules_of c.settings before.meaning) c.state.commits (newest c)) h.by.whole (h.seen g store))

-- ---- the causes

pub put_cause : (policies : List Policy) (a z : Reach) (c : CoreModel) (id : List ℕ) (o : Order) (m : Amounts) (e : StockError) → (e ≡ Db errors.OutOfMemory) ⊎ (order_refusal m o ≡ Some e) → IsTakeCause policies a z c id o e
put_cause policies a z c id o m e (inl is) = inl (inl (db_is _ e errors.OutOfMemory is (inl refl)))
put_cause policies a z c id o m e (inr refused) = inr (m, refused)

pub put_truth : (P : SlateDBError → Type 0) (m : Meaning) (c : CoreModel) (o : Order) (e : StockError) → P errors.OutOfMemory → (e ≡ Db errors.OutOfMemory) ⊎ (order_refusal (amounts_of m c) o ≡ Some e) → IsTakeTruth P m c o e
put_truth P m c o e wanting (inl is) = inl (inl (db_is P e errors.OutOfMemory is wanting))
put_truth P m c o e wanting (inr refused) = inr refused

fault_or_full : (policies : List Policy) (a b z : Reach) (c : CoreModel) (x : SlateDBError) → OnlyReads a b → IsFault b z x ⊎ IsFull c x → IsDbCause policies a z c x
fault_or_full policies a b z c x reads (inl f) = IsDbCause.fault (fault_earlier a b z x reads.later f)
fault_or_full policies a b z c x reads (inr full) = IsDbCause.last full.0 full.1

pub end_cause : (policies : List Policy) (a b z : Reach) (c : CoreModel) (o : Order) (e : StockError) → OnlyReads a b → IsDb (λ x. IsFault b z x ⊎ IsFull c x) e → IsOrderCause policies a z c o e
end_cause policies a b z c o e reads h = inl (db_map (λ x. IsFault b z x ⊎ IsFull c x) (IsDbCause policies a z c) e (λ x f. fault_or_full policies a b z c x reads f) h)

pub end_truth : (P : SlateDBError → Type 0) (m : Meaning) (b z : Reach) (c : CoreModel) (o : Order) (e : StockError) → ((x : SlateDBError) → IsFault b z x → P x) → order_refusal (amounts_of m c) o ≡ None → IsDb (λ x. IsFault b z x ⊎ IsFull c x) e →
    IsOrderTruth P m c o e
end_truth P m b z c o (Db x) faults fits (inl f) = inl (IsDbTruth.fault (faults x f))
end_truth P m b z c o (Db x) faults fits (inr full) = inr (inr (inr (ap Db full.0, full.1, fits)))
end_truth P m b z c o SameName faults fits h = absurd h
end_truth P m b z c o SameAsset faults fits h = absurd h
end_truth P m b z c o TooMuch faults fits h = absurd h
end_truth P m b z c o (BadAmount k) faults fits h = absurd h
end_truth P m b z c o (AlreadyIssued x) faults fits h = absurd h
end_truth P m b z c o (NotEnough k n l) faults fits h = absurd h
end_truth P m b z c o (ForeignCommit n) faults fits h = absurd h

pub take_cause : (policies : List Policy) (a z : Reach) (c : CoreModel) (id : List ℕ) (o : Order) (e : StockError) → IsTakeCause policies a z c id o e → IsOrderCause policies a z c o e
take_cause policies a z c id o e (inl (inl h)) =
    inl (db_map _ (IsDbCause policies a z c) e (λ x. elim [ inl m ↦ IsDbCause.fault (subst (IsFault a z) (sym m) tt) | inr f ↦ IsDbCause.read id f ]) h)
take_cause policies a z c id o e (inl (inr bad)) = inr (inl bad)
take_cause policies a z c id o e (inr refused) = inr (inr refused)

pub take_truth : (P : SlateDBError → Type 0) (m : Meaning) (c : CoreModel) (o : Order) (e : StockError) → IsTakeTruth P m c o e → IsOrderTruth P m c o e
take_truth P m c o e (inl (inl h)) = inl (db_map P (IsDbTruth P c) e (λ x f. IsDbTruth.fault f) h)
take_truth P m c o e (inl (inr bad)) = inr (inl bad)
take_truth P m c o e (inr refused) = inr (inr (inl refused))

-- on a settled core
pub truth_settled : (policies : List Policy) (g : Segments) (a z : Reach) (m : Meaning) (c : CoreModel) (o : Order) (e : StockError) → IsSettledIn policies g a c → IsOrderTruth (IsFaultSettled policies a z c) m c o e → IsOrderTruth (IsFault a z) m c o e
truth_settled policies g a z m c o e settled (inl h) = inl (db_map (IsDbTruth (IsFaultSettled policies a z c) c) (IsDbTruth (IsFault a z) c) e by h)
  where
    by : (x : SlateDBError) → IsDbTruth (IsFaultSettled policies a z c) c x → IsDbTruth (IsFault a z) c x
    by x (IsDbTruth.fault f) = IsDbTruth.fault (f g settled)
    by x (IsDbTruth.full is place) = IsDbTruth.full is place
truth_settled policies g a z m c o e settled (inr h) = inr h

pub begin_cause : (policies : List Policy) (a z : Reach) (c : CoreModel) (o : Order) (x : SlateDBError) → IsBeginError c x → IsOrderCause policies a z c o (Db x)
begin_cause policies a z c o x (inl m) = inl (IsDbCause.fault (subst (IsFault a z) (sym m) tt))
begin_cause policies a z c o x (inr full) = inl (IsDbCause.full full.0 full.1)

pub begin_truth : (P : SlateDBError → Type 0) (m : Meaning) (c : CoreModel) (o : Order) (x : SlateDBError) → P errors.OutOfMemory → IsBeginError c x → IsOrderTruth P m c o (Db x)
begin_truth P m c o x wanting (inl is) = inl (IsDbTruth.fault (subst P (sym is) wanting))
begin_truth P m c o x wanting (inr full) = inl (IsDbTruth.full full.0 full.1)

-- what the order alone shows is the first that is tested
first_stays : (xs ys : List (Option StockError)) (e : StockError) → first_of xs ≡ Some e → first_of (xs ++ ys) ≡ Some e
first_stays [] ys e h = cc
first_stays (None ∷ xs) ys e h = first_stays xs ys e h
first_stays (Some d ∷ xs) ys e h = h

pub form_refused : (m : Amounts) (o : Order) (e : StockError) → first_of (form_refusals o) ≡ Some e → order_refusal m o ≡ Some e
form_refused m o e h = first_stays (form_refusals o) (amount_refusals m o) e h

pub first_shown : {A : Type 0} (x e : StockError) → Some x ≡ Some e → ◌≡◌ {A = Result A StockError} (Err x) (Err e)
first_shown x e is = cc

-- ---- the whole call

-- r: what it answers
module _ (policies : List Policy) (a z : Reach) (c d : CoreModel) (o : Order) (now : ℤ) (r : Result ℕ StockError) (ordered : IfOk r (λ n. HasOrdered policies a z c o now n d)) (left : OnErr r (IsLeft c d)) where
  either : (P : Type 0) → ((n : ℕ) → HasOrdered policies a z c o now n d → P) → (IsLeft c d → P) → P
  either P made refused = by r ordered left
    where
      by : (x : Result ℕ StockError) → IfOk x (λ n. HasOrdered policies a z c o now n d) → OnErr x (IsLeft c d) → P
      by (Ok n) h k = made n h
      by (Err e) h k = refused k

  pub call_answers : (g : Segments) → IsChecked policies g a z c →
      IfOk r (λ n. (n ≡ newest c + 1) × ((after : Amounts) × (order_step (amounts_of a.meaning c) o ≡ Ok after) × ((k : List ℕ) → amounts_of a.meaning d k ≡ after k)))
  call_answers g store = by r ordered
    where
      by : (x : Result ℕ StockError) → IfOk x (λ n. HasOrdered policies a z c o now n d) →
          IfOk x (λ n. (n ≡ newest c + 1) × ((after : Amounts) × (order_step (amounts_of a.meaning c) o ≡ Ok after) × ((k : List ℕ) → amounts_of a.meaning d k ≡ after k)))
      by (Ok n) h = let to = ordered_steps policies a z c o now n d h g store in (ordered_next policies a z c o now n d h, (to.after, to.step, to.state))
      by (Err e) h = tt

  pub call_settled : (g : Segments) → OnlyReads a z → (IsKept a.meaning c → IsKept a.meaning d) → (IsSegmented g c → IsSegmented g d) → IsSettledIn policies g a c → IsSettledIn policies g z d
  call_settled g reads kept segmented settled = settled_as policies g a z d reads (either (IsSettledIn policies g a d)
      (λ n h. committed_settled policies a.meaning g a.objects c d h.id SerializableSnapshot h.taken (Some n) now h.committed kept segmented settled)
      (λ l. left_settled policies a.meaning g a.objects c d l settled))

  pub call_vouched : (g : Segments) → IsSettledIn policies g a c → IsVouchedCore a.meaning c → IsVouchedCore a.meaning d
  call_vouched g settled vouched = either (IsVouchedCore a.meaning d) (λ n h. ordered_vouched policies a z c o now n d h g (checked_in policies g a z c settled) vouched) (λ l. left_vouched a.meaning c d l vouched)

  pub call_orders : IsOrders c.events → IsOrders d.events
  call_orders are = either (IsOrders d.events) (λ n h. ordered_orders policies a z c o now n d h are) (λ l. left_orders c d l are)

  pub call_grows : (weight d ≤ weight c + 2) × (load d ≤ load c + 4)
  call_grows = either ((weight d ≤ weight c + 2) × (load d ≤ load c + 4)) (λ n h. ordered_grows policies a z c o now n d h) (λ l. left_grows c d l)
