-- What an order reads and puts in a transaction on a core, and what its commit makes of the amounts.
use Rattle.std.proofs.Common.{◌≡◌, ◌+◌, ◌<◌, ◌≤◌, inl, inr, ℕ, ℤ, false, List, [], ◌∷◌, ◌++◌, map, length, take, get_or, Option, Some, None, Ok, refl, sym, ap, subst, ◌∙◌, arith}
use Rattle.std.proofs.lemmas.List.{take_all, take_more}
use Rattle.std.specs.Prelude.{◌≢◌}
use Rattle.std.specs.List.{zip}
use Rattle.slate_types.specs.declared.config.IsolationLevel.TheVariants.{SerializableSnapshot}
use Rattle.slate_types.specs.Outside.{Meaning, Objects, OnlyReads, Reach}
use Rattle.slate_filter.specs.Policy.{Policy}
use Rattle.slate_mem.specs.Batch.{Ops, batch_keys, kept_ops}
use Rattle.slate_mem.specs.BatchModel.{holds_merge}
use Rattle.slate_mem.proofs.BatchLaws.{keeps_its_keys}
use Rattle.slate_mem.specs.KeyTests.{Segments}
use Rattle.slate_txn.specs.declared.event.TranscriptStep.{TranscriptStep}
use Rattle.slate_txn.specs.declared.event.TranscriptStep.TheVariants as steps
use Rattle.slate_txn.specs.Alone.{IsAlone, own_of}
use Rattle.slate_txn.specs.Laws.{Counts}
use Rattle.slate_txn.specs.Reads.{seen}
use Rattle.slate_txn.specs.State.{Commit, Rules, last_of, opening}
use Rattle.slate_txn.proofs.ReadLaws.{alone_more}
use Rattle.slate_txn.proofs.SequenceLaws.{counts_more, legal_counts}
use Rattle.slate_txn.proofs.StepLaws.{own_append}
use Rattle.slate_db.specs.Load.{load, weight}
use Rattle.slate_db.specs.Meaning.{rules_of}
use Rattle.slate_db.specs.Model.{CoreModel}
use Rattle.slate_db.specs.SerialLaws.{IsVouchedCore}
use Rattle.slate_db.specs.Settled.{IsSettled}
use Rattle.slate_steps.specs.Reads.{IsChecked}
use Rattle.slate_steps.specs.Steps.{HasEnded, IsWithin, Sees, newest}
use Rattle.slate_steps.proofs.Settling.{committed_kind, committed_vouched, committed_weight, ended_kind, ended_load, ended_settled, ended_vouched, ended_weight}
use Rattle.slate_steps.proofs.StoreTruth.{checked_before, checked_behind}
use Rattle.slate_stock.specs.declared.order.Order.{Order}
use Rattle.slate_stock.specs.declared.order.Order.TheVariants.{Issue, Pay, Trade}
use Rattle.slate_stock.specs.Amounts.{Amounts, amount_at, put_amounts}
use Rattle.slate_stock.specs.Orders.{order_keys, order_moves, order_refusal, order_step, stepped}
use Rattle.slate_stock.specs.Commits.{HasNames, own_puts, puts}
use Rattle.slate_stock.specs.Journals.{IsOrders, order_kind}
use Rattle.slate_stock.specs.Legs.{AreSteps, IsRead}
use Rattle.slate_stock.specs.Running.{HasGot, HasOrdered, HasRead, HasTaken, IsLeft, amounts_of}
use Rattle.slate_stock.proofs.JournalLaws.{amounts, at_is}
use Rattle.slate_stock.proofs.LegLaws.{reads_again, zip_moves}
use Rattle.slate_stock.proofs.OrderLaws.{Agree, moves_fit, same_moves, same_refusal}
use Rattle.slate_stock.proofs.PutLaws.{AllFit, after_puts}
use Rattle.slate_stock.proofs.ReadingLaws.{all_fit}
use Rattle.slate_stock.proofs.StepLaws.{steps_more, agree_reads, four_moves, gets_own, no_merges, own_puts_own, owns_alone, reads_there, some_moves}

-- ---- an order's transcript

abbrev whole_steps : List TranscriptStep → Amounts → Order → List TranscriptStep
whole_steps taken m o = taken ++ own_puts (order_moves m o)

pub has_taken : (policies : List Policy) (before after : Reach) (c d e : CoreModel) (id : List ℕ) (o : Order) (m : Amounts) (keys : List (List ℕ)) (ns : List ℕ) → HasNames o → keys ≡ order_keys o → order_refusal m o ≡ None →
    (h : HasRead policies before after c id keys ns d) → ns ≡ map m (order_keys o) → IsWithin c id SerializableSnapshot (h.taken ++ own_puts (order_moves m o)) e → HasTaken policies before after c id o e
has_taken policies before after c d e id o m keys ns names same fits h are within = record {
  taken = all;
  within = within;
  amounts = m;
  own = own;
  by = record {
    names = names;
    fits = fits;
    reads = h.taken;
    read = reads_again m (order_keys o) h.taken (subst (λ ks. AreSteps IsRead ks (map m (order_keys o)) h.taken) same (subst (λ xs. AreSteps IsRead keys xs h.taken) are h.read));
    whole = refl;
    kept = ap kept_ops own;
    keys = sym (keeps_its_keys (own_of all));
  };
  seen = λ g store. alone_more (rules_of c.settings before.meaning) c.state.commits (newest c) [] [] h.taken (own_puts (order_moves m o)) (h.seen g store)
      (owns_alone (rules_of c.settings before.meaning) c.state.commits (newest c) _ _ (order_moves m o));
}
  where
    all : List TranscriptStep
    all = whole_steps h.taken m o

    own : own_of all ≡ puts (order_moves m o)
    own = own_append h.taken (own_puts (order_moves m o)) ∙ ap (λ (os : Ops). os ++ own_of (own_puts (order_moves m o))) (gets_own keys ns h.taken h.read) ∙ own_puts_own (order_moves m o)

module _ (policies : List Policy) (before after : Reach) (c : CoreModel) (id : List ℕ) (o : Order) (d : CoreModel) (h : HasTaken policies before after c id o d) where
  pub taken_plain : holds_merge (own_of h.taken) ≡ false
  taken_plain = ap holds_merge h.own ∙ no_merges (order_moves h.amounts o)

  pub taken_some : own_of h.taken ≢ []
  taken_some e = some_moves h.amounts o (sym h.own ∙ e)

-- ---- what was read stands in the state

pub read_there : (policies : List Policy) (g : Segments) (before after : Reach) (c d : CoreModel) (id : List ℕ) (keys : List (List ℕ)) (ns : List ℕ) → (h : HasRead policies before after c id keys ns d) → IsChecked policies g before after c → ns ≡ map (amounts_of before.meaning c) keys
read_there policies g before after c d id keys ns h store = reads_there (rules_of c.settings before.meaning) c.state.commits (newest c) keys ns h.taken h.read (h.seen g store)

-- ---- what the commit makes of the amounts

same_le : (x : ℕ) → x ≤ x
same_le x = omega arith

equal_le : (x y : ℕ) → x ≡ y → x ≤ y
equal_le x y p = omega arith

pub record StepsTo (m : Meaning) (c d : CoreModel) (o : Order) : Type 0 where
  pub after : Amounts
  pub step : order_step (amounts_of m c) o ≡ Ok after
  pub state : (k : List ℕ) → amounts_of m d k ≡ after k

module _ (policies : List Policy) (before after : Reach) (c : CoreModel) (o : Order) (now : ℤ) (n : ℕ) (d : CoreModel) (h : HasOrdered policies before after c o now n d) where
  abbrev r : Rules
  r = rules_of c.settings before.meaning

  abbrev made : Commit
  made = record { seq = n; now = now; ops = kept_ops (own_of h.taken); tracked = batch_keys (own_of h.taken) }

  counts : Counts c.settings.start_seq c.state.commits
  counts = subst (Counts c.settings.start_seq) h.committed.replays.commits (legal_counts c.settings.start_seq c.events opening [] tt h.committed.legal)

  pub ordered_next : n ≡ newest c + 1
  ordered_next = h.committed.next.0

  abbrev old : Amounts
  old = amounts_of before.meaning c

  pub ordered_steps : (g : Segments) → IsChecked policies g before after c → StepsTo before.meaning c d o
  ordered_steps g store = record {
    after = put_amounts old (order_moves old o);
    step = ap (λ z. stepped z (put_amounts old (order_moves old o))) (sym (same_refusal h.amounts old o agree) ∙ h.by.fits);
    state = λ k.
        ap (λ (v : CoreModel). amount_at (rules_of v.settings before.meaning) v.state.commits (newest v) k) h.committed.is
        ∙ at_is r (c.state.commits ++ (made ∷ [])) (newest_after) c.settings.start_seq k (counts_more c.settings.start_seq c.state.commits made counts ordered_next) (same_le newest_after)
        ∙ after_puts r c.state.commits made (order_moves old o) k kept fit
        ∙ ap (λ (m : Amounts). put_amounts m (order_moves old o) k) (λ i j. sym (at_is r c.state.commits (newest c) c.settings.start_seq j counts (same_le (newest c))) i);
  }
    where
      newest_after : ℕ
      newest_after = last_of c.settings.start_seq (c.state.commits ++ (made ∷ []))

      agree : Agree h.amounts old (order_keys o)
      agree = agree_reads r c.state.commits (newest c) h.amounts (order_keys o) h.by.reads (own_puts (order_moves h.amounts o)) h.by.read (subst (IsAlone r c.state.commits (newest c)) h.by.whole (h.seen g store))

      moves : order_moves h.amounts o ≡ order_moves old o
      moves = same_moves h.amounts old o agree

      fit : AllFit (order_moves old o)
      fit = subst AllFit moves (moves_fit h.amounts o (all_fit h.amounts (order_keys o) h.by.reads h.by.read) h.by.fits)

      kept : made.ops ≡ kept_ops (puts (order_moves old o))
      kept = h.by.kept ∙ ap (λ ps. kept_ops (puts ps)) moves

  pub ordered_vouched : (g : Segments) → IsChecked policies g before after c → IsVouchedCore before.meaning c → IsVouchedCore before.meaning d
  ordered_vouched g store vouched = committed_vouched c d h.id SerializableSnapshot h.taken (Some n) now h.committed before.meaning (h.seen g store) vouched

  pub ordered_orders : IsOrders c.events → IsOrders d.events
  ordered_orders are = committed_kind order_kind c d h.id SerializableSnapshot h.taken (Some n) now h.committed
      (record { serializable = refl; order = o; amounts = h.amounts; by = h.by }) are

  pub ordered_grows : (weight d ≤ weight c + 2) × (load d ≤ load c + 4)
  ordered_grows =
      let more : weight d ≡ weight c + 2 = committed_weight c d h.id SerializableSnapshot h.taken (Some n) now h.committed in
      let rows : load d ≤ load c + length (own_of h.taken) = h.committed.load in
      let few : length (own_of h.taken) ≤ 4 = subst (λ (os : Ops). length os ≤ 4) (sym h.own) (four_moves h.amounts o) in
      (omega (arith, more), omega (arith, rows, few))

-- ---- and a refused order leaves them

abbrev Left_by : (P : CoreModel → Type 0) → CoreModel → CoreModel → Type 0
Left_by P c d = P c → P d

left_either : (P : CoreModel → Type 0) (c d : CoreModel) → ((id : List ℕ) → HasEnded c id SerializableSnapshot d → P c → P d) → IsLeft c d → P c → P d
left_either P c d ended (inl same) h = subst P (sym same) h
left_either P c d ended (inr (id, e)) h = ended id e h

pub left_settled : (policies : List Policy) (m : Meaning) (g : Segments) (objects : Option Objects) (c d : CoreModel) → IsLeft c d → IsSettled policies m g objects c → IsSettled policies m g objects d
left_settled policies m g objects c d left = left_either (IsSettled policies m g objects) c d (λ id e. ended_settled policies m g objects c d id SerializableSnapshot e) left

pub left_vouched : (m : Meaning) (c d : CoreModel) → IsLeft c d → IsVouchedCore m c → IsVouchedCore m d
left_vouched m c d left = left_either (IsVouchedCore m) c d (λ id e. ended_vouched m c d id SerializableSnapshot e) left

pub left_orders : (c d : CoreModel) → IsLeft c d → IsOrders c.events → IsOrders d.events
left_orders c d left = left_either (λ v. IsOrders v.events) c d (λ id e. ended_kind order_kind c d id SerializableSnapshot e) left

pub left_grows : (c d : CoreModel) → IsLeft c d → (weight d ≤ weight c + 2) × (load d ≤ load c + 4)
left_grows c d (inl same) =
    let w : weight d ≡ weight c = ap (λ v. weight v) same in
    let l : load d ≡ load c = ap (λ v. load v) same in
    (omega (arith, w), omega (arith, l))
left_grows c d (inr (id, e)) =
    let w : weight d ≡ weight c + 2 = ended_weight c d id SerializableSnapshot e in
    let l : load d ≡ load c = ended_load c d id SerializableSnapshot e in
    (omega (arith, w), omega (arith, l))

-- ---- one read more

pub read_first : (policies : List Policy) (before after : Reach) (c d : CoreModel) (id : List ℕ) (ns : List ℕ) → ns ≡ [] → IsWithin c id SerializableSnapshot [] d → HasRead policies before after c id [] ns d
read_first policies before after c d id ns none h = record {
  taken = [];
  within = h;
  read = subst (λ xs. AreSteps IsRead [] xs []) (sym none) tt;
  seen = λ g store. tt;
}

pub read_more : (policies : List Policy) (before now after : Reach) (c d e : CoreModel) (id : List ℕ) (keys : List (List ℕ)) (i : ℕ) (k0 k : List ℕ) (ns : List ℕ) (n : ℕ) (vs : List ℕ) → OnlyReads before now → OnlyReads now after → i < length keys → k ≡ get_or keys i k0 → vs ≡ ns ++ (n ∷ []) →
    (old : HasRead policies before now c id (take i keys) ns d) → HasGot policies now after c id old.taken k n e → HasRead policies before after c id (take (i + 1) keys) vs e
read_more policies before now after c d e id keys i k0 k ns n vs reads later within is pushed old got = record {
  taken = old.taken ++ (steps.Get k got.answer ∷ []);
  within = got.within;
  read =
      subst (λ ks. AreSteps IsRead ks vs (old.taken ++ (steps.Get k got.answer ∷ []))) (sym (take_more keys i k0 within ∙ ap (λ j. take i keys ++ (j ∷ [])) (sym is)))
      (subst (λ xs. AreSteps IsRead (take i keys ++ (k ∷ [])) xs (old.taken ++ (steps.Get k got.answer ∷ []))) (sym pushed)
      (steps_more IsRead (take i keys) ns old.taken k n (steps.Get k got.answer) old.read (refl, got.is)));
  seen = λ g store. subst (λ (m : Meaning). Sees m c (old.taken ++ (steps.Get k got.answer ∷ []))) reads.meaning
      (got.seen g (checked_behind policies g before now after c reads later store)
      (subst (λ (m : Meaning). Sees m c old.taken) (sym reads.meaning) (old.seen g (checked_before policies g before now after c reads later store))));
}

pub all_read : (policies : List Policy) (before after : Reach) (c d : CoreModel) (id : List ℕ) (keys : List (List ℕ)) (i : ℕ) (ns : List ℕ) → length keys ≤ i → HasRead policies before after c id (take i keys) ns d → HasRead policies before after c id keys ns d
all_read policies before after c d id keys i ns past h = record {
  taken = h.taken;
  within = h.within;
  read = subst (λ ks. AreSteps IsRead ks ns h.taken) (take_all i keys past) h.read;
  seen = h.seen;
}

-- ---- the puts of an order

pub long_new : (m : Amounts) (o : Order) (vs : List ℕ) (keys : List (List ℕ)) → vs ≡ map (λ p. p.1) (order_moves m o) → keys ≡ order_keys o → length vs ≡ length keys
long_new m o vs keys new same = ap length new ∙ as_many o ∙ sym (ap length same)
  where
    as_many : (x : Order) → length (map (λ p. p.1) (order_moves m x)) ≡ length (order_keys x)
    as_many (Issue a name n) = refl
    as_many (Pay a from to n) = refl
    as_many (Trade a buyer seller q p) = refl

pub put_whole : (c d : CoreModel) (id : List ℕ) (ts : List TranscriptStep) (m : Amounts) (o : Order) (vs : List ℕ) (keys : List (List ℕ)) → vs ≡ map (λ p. p.1) (order_moves m o) → keys ≡ order_keys o →
    IsWithin c id SerializableSnapshot (ts ++ own_puts (zip keys vs)) d → IsWithin c id SerializableSnapshot (ts ++ own_puts (order_moves m o)) d
put_whole c d id ts m o vs keys new same h = subst (λ (ps : List (List ℕ × ℕ)). IsWithin c id SerializableSnapshot (ts ++ own_puts ps) d) ((λ i. zip (same i) (new i)) ∙ zip_moves m o) h
