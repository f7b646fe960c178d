-- Two threads that pay over a store into which a third one flushes.
use Rattle.std.proofs.Common.{◌≡◌, ◌⊎◌, inl, inr, ℕ, ℤ, ◌+◌, List, [], ◌++◌, Option}
use Rattle.std.proofs.Common.{Result, Ok, Err, refl, sym, ap, subst, ◌∙◌}
use Rattle.std.proofs.Common.{arith, length, length-append}
use Rattle.std.specs.Prelude.{IfOk, OnErr}
use mathlib.Core.List.{IsPrefix}
use Rattle.slate_types.specs.Config.{defaults}
use Rattle.slate_types.specs.Outside.{Act, Objects, OnlyReads, Reach, no_faults, no_parts}
use Rattle.slate_types.proofs.Reaching.{later_none, reads_none}
use Rattle.slate_txn.specs.declared.event.Event.{Event}
use Rattle.slate_txn.specs.Audited.{Kind}
use Rattle.slate_txn.specs.Settings.{settings_of}
use Rattle.slate_db.specs.Flushed.{Layout}
use Rattle.slate_shared.specs.Errands.{HasLanded, KeepsOn}
use Rattle.slate_shared.specs.Passes.{PassModel}
use Rattle.slate_shared.specs.Shared.{IsOwner, OwnsAll, all_parts}
use Rattle.slate_shared.proofs.Lists.{prefix_self, prefix_trans}
use Rattle.slate_steps.specs.Attempts.{IsStoreChecked, SeesOnly}
use Rattle.slate_steps.specs.Reads.{IsMetBy}
use Rattle.slate_steps.proofs.StoreTruth.{checked_earlier}
use Rattle.slate_stock.specs.declared.error.StockError.{StockError}
use Rattle.slate_stock.specs.declared.order.Order.{Order}
use Rattle.slate_stock.specs.Attempting.{HasOrderedOn, HasSteppedOn}
use Rattle.slate_stock.specs.Journals.{IsOrders, order_kind}
use Rattle.slate_threads.specs.Own.{IsNoInstall, OwnInstallNothing}
use Rattle.slate_threads.specs.Passes.{IsWholeCopy, Joins, PassIsVouched}
use Rattle.slate_threads.specs.Readers.{KeepsTables}
use Rattle.slate_threads.specs.Workers.{made_by}
use Rattle.slate_threads.proofs.OwnPlaces.{are_joined}
use Rattle.slate_threads.proofs.Counting.{each_is_counted}
use Rattle.slate_threads.proofs.FlushLaws.{flush_keeps, idle_keeps, new_keeps, tables_are_stored}
use Rattle.slate_threads.proofs.KindLaws.{commit_of_kind, flush_of_kind, join_of_kind}
use Rattle.slate_threads.proofs.KindLaws.{longer_of_kind, new_of_kind, whole_of_kind}
use Rattle.slate_threads.proofs.PassLaws.{flush_stays, join_stays, longer_stays, new_is_vouched}
use Rattle.slate_threads.proofs.PassLaws.{whole_is_vouched}
use Rattle.slate_threads.proofs.ReaderLaws.{nothing_read, one_read, read_goes_on, seeing_read}
use Rattle.slate_threads.proofs.WorkerLaws.{new_works}
use Rattle.slate_services.specs.Leaving.{AreServed, LeftByThree}
use Rattle.slate_services.specs.Payments.{AreBooks}
use Rattle.slate_services.specs.Plain.{plain_rules}
use Rattle.slate_services.specs.Stores.{HoldsTablesOf, IsCountBeside, PlainFlushed, PlainRead}
use Rattle.slate_services.specs.Stores.{plain_told}
use Rattle.slate_services.proofs.PaymentLaws.{books_of, order_commits, order_is, order_vouched}

-- ---- what a store tells by itself

abbrev pub told_in : Reach → Reach
told_in x = plain_told x.objects x.acts

reads_told : (a b : Reach) → OnlyReads a b → OnlyReads (told_in a) (told_in b)
reads_told a b h = record {
  objects = h.objects;
  meaning = refl;
  acts = h.acts;
  later = later_none no_faults;
  store = refl;
}

met_within : (os : Objects) (a b : Reach) → IsMetBy no_parts os (told_in a) (told_in b) →
    IsMetBy no_parts os a b
met_within os a b (inl h) = inl h
met_within os a b (inr h) = inr (record { known = h.known; tells = h.tells; none = h.none })

checked_within : (es : List Event) (a b : Reach) →
    IsStoreChecked [] no_parts es (told_in a) (told_in b) → IsStoreChecked [] no_parts es a b
checked_within es a b s = record {
  os = s.os;
  lawful = s.lawful;
  lawful_policies = s.lawful_policies;
  filtered = s.filtered;
  holds = s.holds;
  met = met_within s.os a b s.met;
}

-- ---- one attempt

pub order_read : (order : Order) (now : ℤ) (old new : PassModel) (before after : Reach)
    (r : Result ℕ StockError) → OnlyReads before after →
    IfOk r (λ n. HasOrderedOn defaults order now n old new) →
    (IsStoreChecked [] no_parts new.seen before after →
    IfOk r (λ n. HasSteppedOn defaults no_parts order now n old new)) →
    OnErr r (SeesOnly old new) →
    PlainRead order_kind old new (told_in before) (told_in after) (made_by r)
order_read order now old new before after (Ok n) reads h stepped only = record {
  read = one_read defaults no_parts [] old new (told_in before) (told_in after)
      (order_commits order now n old new h) (reads_told before after reads)
      (λ store. order_vouched order now n old new
      (stepped (checked_within new.seen before after store)));
  of_kind = commit_of_kind order_kind defaults old new (order_commits order now n old new h)
      (order_is order now n old new h);
}
order_read order now old new before after (Err e) reads h stepped only = record {
  read = seeing_read defaults no_parts [] old new (told_in before) (told_in after)
      (reads_told before after reads) only;
  of_kind = longer_of_kind order_kind old new only.more.seen only.own;
}

pub nothing_plain_read : (kind : Kind) (p : PassModel) (before : Reach) →
    PlainRead kind p p before before 0
nothing_plain_read kind p before = record {
  read = nothing_read defaults no_parts [] p before before (reads_none before);
  of_kind = λ h. h;
}

pub plain_read_goes_on : (kind : Kind) (old mid new : PassModel) (before between after : Reach)
    (made more : ℕ) → PlainRead kind old mid before between made →
    PlainRead kind mid new between after more → PlainRead kind old new before after (made + more)
plain_read_goes_on kind old mid new before between after made more h k = record {
  read = read_goes_on defaults no_parts [] old mid new before between after made more h.read k.read;
  of_kind = λ w. k.of_kind (h.of_kind w);
}

-- a loop's count
pub plain_read_on : (kind : Kind) (old mid new : PassModel) (before between after : Reach)
    (made more now : ℕ) → PlainRead kind old mid before between made →
    PlainRead kind mid new between after more → now ≡ made + more →
    PlainRead kind old new before after now
plain_read_on kind old mid new before between after made more now h k is =
    subst (λ (n : ℕ). PlainRead kind old new before after n) (sym is)
    (plain_read_goes_on kind old mid new before between after made more h k)

-- ---- a flush

keeps_same : (journal : List Event) (before after : Option Objects) → after ≡ before →
    KeepsOn journal before after
keeps_same journal before after same os told = (os, same ∙ told, λ known begins h. h)

module _ (kind : Kind) where
  idle_flushed : (old new : PassModel) (before after : Reach) → new.table ≡ old.table →
      new.parts ≡ old.parts → IsPrefix old.seen new.seen → new.own ≡ old.own →
      KeepsOn new.seen before.objects after.objects → PlainFlushed kind old new before after
  idle_flushed old new before after table parts seen own keeps = record {
    flushed = record {
      table = table;
      parts = parts;
      seen = seen;
      vouched = longer_stays defaults no_parts old new seen own;
      keeps = idle_keeps old new before.objects after.objects seen own keeps;
    };
    of_kind = longer_of_kind kind old new seen own;
  }

  landed : (layout : Layout) (n : ℕ) (old new : PassModel) (before after : Reach) →
      new.table ≡ old.table → new.parts ≡ old.parts → IsPrefix old.seen new.seen →
      HasLanded (settings_of defaults) no_parts layout n before.objects after.objects
      old.seen old.own new.seen new.own →
      PlainFlushed kind old new before after
  landed layout n old new before after table parts seen h = record {
    flushed = record {
      table = table;
      parts = parts;
      seen = seen;
      vouched = flush_stays defaults no_parts layout n before.objects after.objects old new h;
      keeps = flush_keeps defaults no_parts layout n before.objects after.objects old new h;
    };
    of_kind = flush_of_kind kind (settings_of defaults) no_parts layout n before.objects
        after.objects old new h;
  }

  -- what is the same is nothing else, as of an environment that no call changed; x, y: the
  -- store's objects before and after
  pub flushed : {E : Type 0} (layout : Layout) (old new : PassModel) (x y : Option Objects)
      (acts later : Option (List Act)) (Same : Type 0) (r : Result ℕ E) → (Same → y ≡ x) →
      new.table ≡ old.table → new.parts ≡ old.parts → IsPrefix old.seen new.seen →
      IfOk r (λ n. ((new.own ≡ old.own) × Same)
      ⊎ HasLanded (settings_of defaults) no_parts layout n x y
      old.seen old.own new.seen new.own) →
      OnErr r ((new.own ≡ old.own) × KeepsOn new.seen x y) →
      PlainFlushed kind old new (plain_told x acts) (plain_told y later)
  flushed layout old new x y acts later Same (Ok n) same table parts seen (inl h) refused =
      idle_flushed old new (plain_told x acts) (plain_told y later) table parts seen h.0
      (keeps_same new.seen x y (same h.1))
  flushed layout old new x y acts later Same (Ok n) same table parts seen (inr h) refused =
      landed layout n old new (plain_told x acts) (plain_told y later) table parts seen h
  flushed layout old new x y acts later Same (Err e) same table parts seen own refused =
      idle_flushed old new (plain_told x acts) (plain_told y later) table parts seen refused.0
      refused.1

  -- ---- several

  pub nothing_flushed : (p : PassModel) (before : Reach) → PlainFlushed kind p p before before
  nothing_flushed p before =
      idle_flushed p p before before refl refl (prefix_self p.seen) refl
      (keeps_same p.seen before.objects before.objects refl)

  pub flush_goes_on : (old mid new : PassModel) (before between after : Reach) →
      PlainFlushed kind old mid before between → PlainFlushed kind mid new between after →
      PlainFlushed kind old new before after
  flush_goes_on old mid new before between after h k = record {
    flushed = record {
      table = k.flushed.table ∙ h.flushed.table;
      parts = k.flushed.parts ∙ h.flushed.parts;
      seen = prefix_trans old.seen mid.seen new.seen h.flushed.seen k.flushed.seen;
      vouched = λ v. k.flushed.vouched (h.flushed.vouched v);
      keeps = λ w. k.flushed.keeps (h.flushed.keeps w);
    };
    of_kind = λ w. k.of_kind (h.of_kind w);
  }

-- ---- what is left

pub if_ok : {X E : Type 0} (P Q : X → Type 0) (r : Result X E) → IfOk r P →
    ((x : X) → P x → Q x) → IfOk r Q
if_ok P Q (Ok x) h f = f x h
if_ok P Q (Err e) h f = tt

pub left_three : (a b c two all : PassModel) (es core : List Event) → Joins a b two →
    Joins two c all → all.parts ≡ all_parts → IsWholeCopy defaults all es core →
    LeftByThree a b c es
left_three a b c two all es core j k parts copy = record {
  legal = copy.legal;
  first = prefix_trans a.seen two.seen es j.seen begins;
  second = prefix_trans b.seen two.seen es j.other_seen begins;
  third = prefix_trans c.seen all.seen es k.other_seen copy.seen;
  own = subst (λ (own : List ℕ). IsOwner own es) places copy.own;
  whole = subst (λ (own : List ℕ). OwnsAll own es) places (copy.whole parts);
}
  where
    begins : IsPrefix two.seen es
    begins = prefix_trans two.seen all.seen es k.seen copy.seen

    places : all.own ≡ (a.own ++ b.own) ++ c.own
    places = k.own ∙ ap (λ (own : List ℕ). own ++ c.own) j.own

pub sums : (a b c d : ℕ × ℕ) → a ≡ c → b ≡ d →
    (a.0 + a.1) + (b.0 + b.1) ≡ (c.0 + c.1) + (d.0 + d.1)
sums a b c d p q =
    ap (λ (x : ℕ × ℕ). (x.0 + x.1) + (b.0 + b.1)) p
    ∙ ap (λ (y : ℕ × ℕ). (c.0 + c.1) + (y.0 + y.1)) q

-- ---- all three

-- what three threads did, by passes that had done nothing
pub record ThreeServed (a0 a b0 b c0 c : PassModel) (x y u v w z : Reach) (m n : ℕ)
    (es : List Event) : Type 0 where
  pub first : PlainRead order_kind a0 a x y m
  pub second : PlainRead order_kind b0 b u v n
  pub third : PlainFlushed order_kind c0 c w z
  pub left : LeftByThree a b c es
  pub first_new : a0.own ≡ []
  pub second_new : b0.own ≡ []
  pub third_new : c0.own ≡ []

module _ (a0 a b0 b c0 c : PassModel) (x y u v w z : Reach) (m n : ℕ) (es : List Event)
    (t : ThreeServed a0 a b0 b c0 c x y u v w z m n es) where
  abbrev one : PassModel
  one = record a { seen = es; own = a.own ++ b.own }

  abbrev all : PassModel
  all = record a { seen = es; own = (a.own ++ b.own) ++ c.own }

  two_join : Joins a b one
  two_join = record { seen = t.left.first; other_seen = t.left.second; own = refl }

  all_join : Joins one c all
  all_join = record { seen = prefix_self es; other_seen = t.left.third; own = refl }

  served_orders : IsOrders es
  served_orders =
      whole_of_kind order_kind all es (prefix_self es) t.left.whole
      (join_of_kind order_kind one c all all_join
      (join_of_kind order_kind a b one two_join
      (t.first.of_kind (new_of_kind order_kind a0 t.first_new))
      (t.second.of_kind (new_of_kind order_kind b0 t.second_new)))
      (t.third.of_kind (new_of_kind order_kind c0 t.third_new)))

  first_vouched : IsStoreChecked [] no_parts es x y → PassIsVouched defaults no_parts a
  first_vouched s =
      t.first.read.vouched
      (checked_earlier [] no_parts a.seen es x y y t.left.first t.first.read.reads (reads_none y) s)
      (new_is_vouched defaults no_parts a0 t.first_new)

  second_vouched : IsStoreChecked [] no_parts es u v → PassIsVouched defaults no_parts b
  second_vouched s =
      t.second.read.vouched
      (checked_earlier [] no_parts b.seen es u v v t.left.second t.second.read.reads
      (reads_none v) s)
      (new_is_vouched defaults no_parts b0 t.second_new)

  served_books : IsStoreChecked [] no_parts es x y → IsStoreChecked [] no_parts es u v →
      AreBooks plain_rules es
  served_books r s =
      books_of es t.left.legal served_orders
      (whole_is_vouched defaults no_parts all es (prefix_self es) t.left.whole
      (join_stays defaults no_parts one c all all_join
      (join_stays defaults no_parts a b one two_join (first_vouched r) (second_vouched s))
      (t.third.flushed.vouched (new_is_vouched defaults no_parts c0 t.third_new))))

  empty : (p : PassModel) → p.own ≡ [] → OwnInstallNothing p.own p.seen
  empty p none = (new_works defaults no_parts p none).installs_nothing

  nothing_installed : OwnInstallNothing (a.own ++ b.own) es
  nothing_installed =
      are_joined (λ before e. IsNoInstall e) a.own b.own a.seen b.seen es t.left.first
      t.left.second
      (t.first.read.installs_nothing (empty a0 t.first_new))
      (t.second.read.installs_nothing (empty b0 t.second_new))

  served_tables : HoldsTablesOf es w z
  served_tables os told =
      tables_are_stored c z.objects (a.own ++ b.own) es t.left.third t.left.whole
      nothing_installed
      (t.third.flushed.keeps (subst (KeepsTables c0) (sym told) (new_keeps c0 os t.third_new)))

  served_count : IsCountBeside es (m + n)
  served_count = (length c.own, each_is_counted all.own es t.left.whole t.left.own ∙ places)
    where
      places : length ((a.own ++ b.own) ++ c.own) ≡ m + n + length c.own
      places =
          let x = ap length t.first_new in let y = ap length t.second_new in
          let p = t.first.read.counted in let q = t.second.read.counted in
          let v = length-append (a.own ++ b.own) c.own in let w = length-append a.own b.own in
          omega (arith, x, y, p, q, v, w)

  pub are_served : (paid : ℕ) → paid ≡ m + n → AreServed es paid x y u v w z
  are_served paid is = record {
    orders = served_orders;
    counted = subst (λ (k : ℕ). IsCountBeside es k) (sym is) served_count;
    books = served_books;
    stored = served_tables;
  }
