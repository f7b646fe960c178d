-- What an attempt at an order does of a worker's, and what the journal of orders says.
use Rattle.std.proofs.Common.{◌≡◌, ℕ, ℤ, List, [], ◌∷◌, ◌++◌, Some, Result, Ok, Err, refl, sym}
use Rattle.std.proofs.Common.{subst}
use Rattle.std.specs.Prelude.{IfOk, OnErr}
use Rattle.slate_types.specs.Config.{defaults}
use Rattle.slate_types.specs.Outside.{no_parts}
use Rattle.slate_types.specs.declared.config.IsolationLevel.TheVariants.{SerializableSnapshot}
use Rattle.slate_mem.specs.Batch.{Ops, batch_keys, kept_ops}
use Rattle.slate_txn.specs.declared.event.Event.{Event}
use Rattle.slate_txn.specs.declared.event.Event.TheVariants as events
use Rattle.slate_txn.specs.declared.event.TranscriptStep.{TranscriptStep}
use Rattle.slate_txn.specs.Replay.{IsLegal}
use Rattle.slate_txn.specs.State.{Tx}
use Rattle.slate_txn.specs.Vouched.{AreVouched}
use Rattle.slate_txn.proofs.PlaceLaws.{each_at_its_place}
use Rattle.slate_db.specs.Installs.{tables_of}
use Rattle.slate_shared.specs.Passes.{PassModel}
use Rattle.slate_steps.specs.Attempts.{SeesOnly}
use Rattle.slate_stock.specs.declared.error.StockError.{StockError}
use Rattle.slate_stock.specs.declared.order.Order.{Order}
use Rattle.slate_stock.specs.Attempting.{HasOrderedOn, HasSteppedOn}
use Rattle.slate_stock.specs.Commits.{IsOrderBy}
use Rattle.slate_stock.specs.Journals.{AreAuditedOrders, IsOrders, order_kind}
use Rattle.slate_stock.proofs.JournalLaws.{balances_add_up, each_is_a_step, tracks_all}
use Rattle.slate_threads.specs.Passes.{Commits, CommitsVouched, IsVouchedCopy, IsWholeCopy}
use Rattle.slate_threads.specs.Workers.{made_by}
use Rattle.slate_threads.proofs.Serial.{are_serial}
use Rattle.slate_services.specs.Payments.{AreBooks, AreSteps}
use Rattle.slate_services.specs.Plain.{PlainWorked, plain_rules}
use Rattle.slate_services.proofs.PlainLaws.{AllWorked, copy_of_kind, one_plain, only_plain}

-- the commit of an order
abbrev pub order_commits : (order : Order) (now : ℤ) (n : ℕ) (old new : PassModel) →
    HasOrderedOn defaults order now n old new → Commits defaults old new
order_commits order now n old new h = record {
  from = old.seen;
  level = SerializableSnapshot;
  steps = h.taken.taken;
  txn = h.t;
  seq = Some n;
  now = now;
  attempt = h.taken.within;
  committed = h.committed;
  legal = h.legal;
}

pub order_vouched : (order : Order) (now : ℤ) (n : ℕ) (old new : PassModel) →
    HasSteppedOn defaults no_parts order now n old new → CommitsVouched defaults no_parts old new
order_vouched order now n old new h = record {
  commit = order_commits order now n old new h.done;
  answers = h.vouched;
}

-- it is an order's
pub order_is : (order : Order) (now : ℤ) (n : ℕ) (old new : PassModel)
    (h : HasOrderedOn defaults order now n old new) →
    order_kind SerializableSnapshot now (kept_ops h.t.tx.ops) (batch_keys h.t.tx.ops)
    h.t.tx.transcript
order_is order now n old new h = record {
  serializable = refl;
  order = order;
  amounts = h.taken.amounts;
  by = subst
      (λ (x : Tx). IsOrderBy order h.taken.amounts (kept_ops x.ops) (batch_keys x.ops) x.transcript)
      (sym h.taken.within.is) h.taken.by;
}

-- one attempt, whose answers are known if the journal names no table then
pub order_worked : (order : Order) (now : ℤ) (old new : PassModel) (r : Result ℕ StockError) →
    IfOk r (λ n. HasOrderedOn defaults order now n old new) →
    (tables_of new.seen ≡ [] →
    IfOk r (λ n. HasSteppedOn defaults no_parts order now n old new)) →
    OnErr r (SeesOnly old new) → PlainWorked order_kind old new (made_by r)
order_worked order now old new (Ok n) h stepped only =
    one_plain order_kind old new (order_commits order now n old new h)
    (order_is order now n old new h)
    (λ none. order_vouched order now n old new (stepped none))
order_worked order now old new (Err e) h stepped only = only_plain order_kind old new only

-- ---- the journal

steps_of : (es : List Event) → IsLegal defaults.start_seq es → IsOrders es →
    AreVouched plain_rules es → AreSteps plain_rules es
steps_of es legal orders vouched before later id n now ops tracked ts is =
    each_is_a_step plain_rules before later id n now ops tracked ts
    (subst (λ (l : List Event). AreAuditedOrders defaults.start_seq l) is
    (record { legal = legal; orders = orders }))
    (subst (λ (l : List Event). AreVouched plain_rules l) is vouched)

pub books_of : (es : List Event) → IsLegal defaults.start_seq es → IsOrders es →
    AreVouched plain_rules es → AreBooks plain_rules es
books_of es legal orders vouched = record {
  balances = λ n asset plain.
      balances_add_up plain_rules es n asset (record { legal = legal; orders = orders }) vouched
      plain;
  steps = steps_of es legal orders vouched;
  serial = are_serial plain_rules order_kind es tracks_all orders
      (each_at_its_place plain_rules es legal vouched);
  orders = orders;
}

pub are_books : (p : PassModel) (es core : List Event) (made : ℕ) →
    AllWorked order_kind p made → IsWholeCopy defaults p es core →
    IsVouchedCopy defaults no_parts es → AreBooks plain_rules es
are_books p es core made h copy vouched =
    books_of es copy.legal (copy_of_kind order_kind p es core made h copy) vouched.vouched
