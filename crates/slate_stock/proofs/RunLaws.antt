-- A run goes on as its books do.
use Rattle.std.proofs.Common.{◌≡◌, ◌+◌, ◌-◌, ◌^◌, ◌<◌, ◌≤◌, ◌==◌, ◌⊎◌, inl, inr, ℕ, ℤ, Bool, true, false, cond, List, [], ◌∷◌, ◌++◌, map, length, Option, Some, None, Result, Ok, Err, refl, sym, ap, subst, ◌∙◌, arith}
use Rattle.std.specs.Prelude.{Contains, IfErr, IfOk, OnErr}
use Rattle.std.specs.List.{AllByRecursion}
use Rattle.std.proofs.lemmas.Bool.Decides.{nat_tests}
use Rattle.std.proofs.lemmas.List.Elements.{All-contains, All-from_recursion}
use Rattle.slate_types.specs.declared.error.SlateDBError.{SlateDBError}
use Rattle.slate_types.specs.declared.error.SlateDBError.TheVariants as errors
use Rattle.slate_types.specs.declared.types.KeyValue.{KeyValue}
use Rattle.slate_types.specs.Outside.{IsFault, Meaning, OnlyReads, Reach}
use Rattle.slate_types.specs.Rows.{key_value}
use Rattle.slate_types.proofs.Reaching.{reads_none}
use Rattle.slate_filter.specs.Policy.{Policy}
use Rattle.slate_mem.specs.KeyTests.{Segments}
use Rattle.slate_store.specs.Run.{IsProgramError}
use Rattle.slate_txn.specs.Reads.{keys_seen}
use Rattle.slate_txn.specs.Replay.{IsLegal}
use Rattle.slate_db.specs.Flushed.{NoPlace}
use Rattle.slate_db.specs.Installs.{Replays}
use Rattle.slate_db.specs.Load.{weight}
use Rattle.slate_db.specs.Log.{LIMIT}
use Rattle.slate_db.specs.Model.{CoreModel}
use Rattle.slate_db.specs.SerialLaws.{IsVouchedCore}
use Rattle.slate_db.specs.Settled.{IsSettledIn}
use Rattle.slate_steps.specs.Steps.{newest}
use Rattle.slate_steps.proofs.Settling.{ended_weight}
use Rattle.slate_steps.proofs.StoreTruth.{checked_in}
use Rattle.slate_stock.specs.declared.error.StockError.{StockError}
use Rattle.slate_stock.specs.declared.error.StockError.TheVariants.{SameName, SameAsset, TooMuch, BadAmount, AlreadyIssued, NotEnough, Db, ForeignCommit}
use Rattle.slate_stock.specs.declared.line.StockLine.{StockLine}
use Rattle.slate_stock.specs.declared.line.StockLine.TheVariants as lines
use Rattle.slate_stock.specs.declared.order.Order.{Order}
use Rattle.slate_stock.specs.declared.order.Order.TheVariants.{Issue, Pay, Trade}
use Rattle.slate_stock.specs.declared.total.AssetTotal.{AssetTotal}
use Rattle.slate_stock.specs.Amounts.{Amounts, issued_key}
use Rattle.slate_stock.specs.Commits.{IsPlainName}
use Rattle.slate_stock.specs.Journals.{IsOrders}
use Rattle.slate_stock.specs.Lines.{Books, books_total, line_step, moved, ok_words, or_exhausted, order_answer, refused_words, total_words}
use Rattle.slate_stock.specs.Orders.{amount_refusals, first_of, form_refusals, order_refusal, stepped, where_true}
use Rattle.slate_stock.specs.Running.{HasOrdered, IsBad, IsBadAmount, IsDb, IsDbCause, IsDbTruth, IsLeft, IsOrderCause, IsOrderTruth, amounts_of}
use Rattle.slate_stock.specs.Runs.{IsRunError, IsRunning, StandsFor, is_limit}
use Rattle.slate_stock.specs.Totals.{IsSumRefusal, IsTotal, IsTotalCause, IsTotalTruth, balance_rows, values_sum}
use Rattle.slate_stock.specs.Words.{has_reply, is_said}
use Rattle.slate_stock.proofs.BookLaws.{balances_long, books_moved, none_bad, sum_fits, sum_of_books}
use Rattle.slate_stock.proofs.CoreLaws.{StepsTo, left_orders, left_vouched, ordered_steps}
use Rattle.slate_stock.proofs.ErrorKinds.{fault_ends, read_ends}

-- ---- what ends a run

said_or : {A : Type 0} (x : SlateDBError) → has_reply x ≡ true → has_reply x ≡ false → A
said_or x a b = let clash : true ≡ false = sym a ∙ b in cc

abbrev NoDb : Option StockError → Type 0
NoDb o = (x : SlateDBError) → o ≡ Some (Db x) → ⊥

none_where : (b : Bool) (e : StockError) → NoDb (Some e) → NoDb (where_true b e)
none_where true e h x is = h x is
none_where false e h x is = cc

none_first : (es : List (Option StockError)) → AllByRecursion NoDb es → NoDb (first_of es)
none_first [] h x is = cc
none_first (None ∷ es) h x is = none_first es h.1 x is
none_first (Some e ∷ es) h x is = h.0 x is

pub no_db : (m : Amounts) (o : Order) → NoDb (order_refusal m o)
no_db m (Issue asset name n) = none_first (form_refusals (Issue asset name n) ++ amount_refusals m (Issue asset name n)) (none_where _ _ (λ x is. cc), (none_where _ _ (λ x is. cc), tt))
no_db m (Pay asset from to n) = none_first (form_refusals (Pay asset from to n) ++ amount_refusals m (Pay asset from to n)) (none_where _ _ (λ x is. cc), (none_where _ _ (λ x is. cc), (none_where _ _ (λ x is. cc), tt)))
no_db m (Trade asset buyer seller q p) = none_first (form_refusals (Trade asset buyer seller q p) ++ amount_refusals m (Trade asset buyer seller q p))
    (none_where _ _ (λ x is. cc), (none_where _ _ (λ x is. cc), (none_where _ _ (λ x is. cc), (none_where _ _ (λ x is. cc), (none_where _ _ (λ x is. cc), (none_where _ _ (λ x is. cc), (none_where _ _ (λ x is. cc), tt)))))))

truth_ends : (before after : Reach) (c : CoreModel) (x : SlateDBError) → IsDbTruth (IsFault before after) c x → IsFault before after x ⊎ (is_limit x ≡ true)
truth_ends before after c x (IsDbTruth.fault f) = inl f
truth_ends before after c x (IsDbTruth.full is place) = inr (ap is_limit is)

truth_unsaid : (before after : Reach) (c : CoreModel) (x : SlateDBError) → IsDbTruth (IsFault before after) c x → has_reply x ≡ false
truth_unsaid before after c x (IsDbTruth.fault f) = (fault_ends before.faults after.faults x f).unsaid
truth_unsaid before after c x (IsDbTruth.full is place) = ap has_reply is

run_ends : (policies : List Policy) (before after : Reach) (c d : CoreModel) (x : SlateDBError) → IsDbCause policies before after c x → has_reply x ≡ false → weight c ≤ weight d →
    (IsSettledIn policies None before c → IsFault before after x ⊎ (is_limit x ≡ true)) → IsRunError policies before after c d x
run_ends policies before after c d x db unsaid heavier settled = by db
  where
    plain : IsProgramError x → (is_limit x ≡ true → NoPlace 2 d) → IsRunError policies before after c d x
    plain apart limit = record { apart = apart; settled = settled; limit = limit; cause = record { from = before; upto = after; core = c; first = reads_none before; later = reads_none after; refused = db } }

    no_limit : is_limit x ≡ false → is_limit x ≡ true → NoPlace 2 d
    no_limit a b = let clash : true ≡ false = sym b ∙ a in cc

    by : IsDbCause policies before after c x → IsRunError policies before after c d x
    by (IsDbCause.fault f) = let e = fault_ends before.faults after.faults x f in plain e.apart (no_limit e.unlimited)
    by (IsDbCause.read id f) = let e = read_ends policies f.from f.upto f.core x f.refused in plain e.apart (no_limit e.unlimited)
    by (IsDbCause.full is place) = plain (subst IsProgramError (sym is) tt) (λ _. let less : LIMIT < weight c + 2 = place in omega (arith, less, heavier))
    by (IsDbCause.last is last) = said_or x (ap has_reply is) unsaid

pub memory_ends : (policies : List Policy) (before after : Reach) (c d : CoreModel) (x : SlateDBError) → x ≡ errors.OutOfMemory → IsRunError policies before after c d x
memory_ends policies before after c d x is = subst (IsRunError policies before after c d) (sym is) (record {
  apart = tt;
  settled = λ h. inl tt;
  limit = λ e. cc;
  cause = record { from = before; upto = after; core = c; first = reads_none before; later = reads_none after; refused = IsDbCause.fault tt };
})

-- ---- a core that was left as it was

left_state : (c d : CoreModel) → IsLeft c d → (d.state ≡ c.state) × (d.settings ≡ c.settings)
left_state c d (inl same) = (ap (λ (v : CoreModel). v.state) same, ap (λ (v : CoreModel). v.settings) same)
left_state c d (inr (id, ended)) = (ap (λ (v : CoreModel). v.state) ended.is, ap (λ (v : CoreModel). v.settings) ended.is)

no_lighter : (c d : CoreModel) → IsLeft c d → weight c ≤ weight d
no_lighter c d (inl same) = let is : weight d ≡ weight c = ap (λ (v : CoreModel). weight v) same in omega (arith, is)
no_lighter c d (inr (id, ended)) = let is : weight d ≡ weight c + 2 = ended_weight c d id _ ended in omega (arith, is)

still_stands : (m : Meaning) (c d : CoreModel) (b : Books) → IsLeft c d → StandsFor m c b → StandsFor m d b
still_stands m c d b left h = by (left_state c d left)
  where
    by : (d.state ≡ c.state) × (d.settings ≡ c.settings) → StandsFor m d b
    by (state, settings) = record {
      amounts = λ k. (λ i. amounts_of m (record d { state = state i; settings = settings i }) k) ∙ h.amounts k;
      keys = (λ i. let v : CoreModel = record d { state = state i; settings = settings i } in keys_seen v.state.commits (newest v) []) ∙ h.keys;
      bytes = h.bytes;
      seq = (λ i. newest (record d { state = state i; settings = settings i })) ∙ h.seq;
    }

left_running : (policies : List Policy) (before after : Reach) (c d : CoreModel) (b : Books) → OnlyReads before after → IsLeft c d → (IsSettledIn policies None before c → IsSettledIn policies None after d) → IsRunning policies before c b → IsRunning policies after d b
left_running policies before after c d b reads left settled h = record {
  settled = settled h.settled;
  orders = left_orders c d left h.orders;
  vouched = subst (λ (x : Meaning). IsVouchedCore x d) (sym reads.meaning) (left_vouched before.meaning c d left h.vouched);
  stands = subst (λ (x : Meaning). StandsFor x d b) (sym reads.meaning) (still_stands before.meaning c d b left h.stands);
}

-- ---- an order

-- what the call says
pub record IsOrderCall (policies : List Policy) (o : Order) (now : ℤ) (before after : Reach) (c d : CoreModel) (made : Result ℕ StockError) : Type 0 where
  pub committed : IfOk made (λ n. HasOrdered policies before after c o now n d)
  pub left : OnErr made (IsLeft c d)
  pub cause : IfErr made (IsOrderCause policies before after c o)
  pub refused : (g : Segments) → IsSettledIn policies g before c → IfErr made (IsOrderTruth (IsFault before after) before.meaning c o)
  pub exhausted : newest c ≡ 2 ^ 64 - 2 → IfOk made (λ _. ⊥)
  pub settled : IsSettledIn policies None before c → IsSettledIn policies None after d
  pub vouched : (g : Segments) → IsSettledIn policies g before c → IsVouchedCore before.meaning c → IsVouchedCore before.meaning d
  pub orders : IsOrders c.events → IsOrders d.events
  pub grows : weight d ≤ weight c + 2
  pub reads : OnlyReads before after
  pub legal : IsLegal c.settings.start_seq c.events
  pub replays : Replays c.events c.state

equal_test : (n m : ℕ) → n ≡ m → (n == m) ≡ true
equal_test n m h = grind (arith, nat_tests)

unequal_test : (n m : ℕ) → (n ≡ m → ⊥) → (n == m) ≡ false
unequal_test n m h = by (n == m) refl
  where
    same : (n == m) ≡ true → n ≡ m
    same e = grind (arith, nat_tests)

    by : (t : Bool) → (n == m) ≡ t → (n == m) ≡ false
    by false e = e
    by true e = absurd (h (same e))

module _ (policies : List Policy) (o : Order) (now : ℤ) (before after : Reach) (c d : CoreModel) (b : Books) (h : IsRunning policies before c b) where
  abbrev old : Amounts
  old = amounts_of before.meaning c

  same_old : old ≡ b.amounts
  same_old i k = h.stands.amounts k i

  step_none : order_refusal old o ≡ None → (b.seq ≡ 2 ^ 64 - 2 → ⊥) → line_step b (lines.Order o) ≡ (moved b o, ok_words)
  step_none none room =
      ap (λ (z : Option StockError). order_answer (or_exhausted z b.seq) b o) (ap (λ (m : Amounts). order_refusal m o) (sym same_old) ∙ none)
      ∙ ap (λ (t : Bool). order_answer (cond t (Some (Db errors.SequenceExhausted)) None) b o) (unequal_test b.seq (2 ^ 64 - 2) room)

  step_last : order_refusal old o ≡ None → b.seq ≡ 2 ^ 64 - 2 → line_step b (lines.Order o) ≡ (b, refused_words (Db errors.SequenceExhausted))
  step_last none last =
      ap (λ (z : Option StockError). order_answer (or_exhausted z b.seq) b o) (ap (λ (m : Amounts). order_refusal m o) (sym same_old) ∙ none)
      ∙ ap (λ (t : Bool). order_answer (cond t (Some (Db errors.SequenceExhausted)) None) b o) (equal_test b.seq (2 ^ 64 - 2) last)

  step_refused : (e : StockError) → order_refusal old o ≡ Some e → line_step b (lines.Order o) ≡ (b, refused_words e)
  step_refused e is = ap (λ (z : Option StockError). order_answer (or_exhausted z b.seq) b o) (ap (λ (m : Amounts). order_refusal m o) (sym same_old) ∙ is)

  fits_of : (z : Option StockError) (x y : Amounts) → stepped z x ≡ Ok y → z ≡ None
  fits_of None x y e = refl
  fits_of (Some s) x y e = cc

  pub order_made : (n : ℕ) → IsOrderCall policies o now before after c d (Ok n) → (line_step b (lines.Order o) ≡ (moved b o, ok_words)) × IsRunning policies after d (moved b o)
  order_made n call = (
    step_none (fits_of (order_refusal old o) _ steps.after steps.step) (λ last. call.exhausted (h.stands.seq ∙ last)),
    record {
      settled = call.settled h.settled;
      orders = call.orders h.orders;
      vouched = subst (λ (x : Meaning). IsVouchedCore x d) (sym call.reads.meaning) (call.vouched None h.settled h.vouched);
      stands = subst (λ (x : Meaning). StandsFor x d (moved b o)) (sym call.reads.meaning) (books_moved policies None before after c d o now n call.committed h.settled b h.stands);
    },
  )
    where
      steps : StepsTo before.meaning c d o
      steps = ordered_steps policies before after c o now n d call.committed None (checked_in policies None before after c h.settled)

  pub order_refused : (e : StockError) → IsOrderCall policies o now before after c d (Err e) → is_said e ≡ true → (line_step b (lines.Order o) ≡ (b, refused_words e)) × IsRunning policies after d b
  order_refused e call said = (by e said (call.refused None h.settled), left_running policies before after c d b call.reads call.left call.settled h)
    where
      bad : (k : List ℕ) → IsBadAmount before.meaning c k → ⊥
      bad k x = none_bad before.meaning c call.legal call.replays h.orders h.vouched k x

      by : (y : StockError) → is_said y ≡ true → IsOrderTruth (IsFault before after) before.meaning c o y → line_step b (lines.Order o) ≡ (b, refused_words y)
      by (Db x) s (inl truth) = said_or x s (truth_unsaid before after c x truth)
      by (Db x) s (inr (inl wrong)) = absurd wrong
      by (BadAmount k) s (inr (inl (among, wrong))) = absurd (bad k wrong)
      by (BadAmount k) s (inl wrong) = absurd wrong
      by SameName s (inl wrong) = absurd wrong
      by SameName s (inr (inl wrong)) = absurd wrong
      by SameAsset s (inl wrong) = absurd wrong
      by SameAsset s (inr (inl wrong)) = absurd wrong
      by TooMuch s (inl wrong) = absurd wrong
      by TooMuch s (inr (inl wrong)) = absurd wrong
      by (AlreadyIssued a) s (inl wrong) = absurd wrong
      by (AlreadyIssued a) s (inr (inl wrong)) = absurd wrong
      by (NotEnough k n m) s (inl wrong) = absurd wrong
      by (NotEnough k n m) s (inr (inl wrong)) = absurd wrong
      by (ForeignCommit n) s (inl wrong) = absurd wrong
      by (ForeignCommit n) s (inr (inl wrong)) = absurd wrong
      by y s (inr (inr (inl refused))) = step_refused y refused
      by y s (inr (inr (inr (is, last, none)))) = step_last none (sym h.stands.seq ∙ last) ∙ ap (λ (z : StockError). (b, refused_words z)) (sym is)

-- what isn't answered ends the run
pub order_ends : (policies : List Policy) (o : Order) (now : ℤ) (before after : Reach) (c d : CoreModel) (x : SlateDBError) → IsOrderCall policies o now before after c d (Err (Db x)) → has_reply x ≡ false → IsRunError policies before after c d x
order_ends policies o now before after c d x call unsaid = by call.cause
  where
    truth : IsOrderTruth (IsFault before after) before.meaning c o (Db x) → IsFault before after x ⊎ (is_limit x ≡ true)
    truth (inl t) = truth_ends before after c x t
    truth (inr (inl wrong)) = absurd wrong
    truth (inr (inr (inl refused))) = absurd (no_db (amounts_of before.meaning c) o x refused)
    truth (inr (inr (inr (is, last, none)))) = said_or x (ap has_reply (one is)) unsaid
      where
        one : {y : SlateDBError} → Db x ≡ Db y → x ≡ y
        one e = cc

    by : IsOrderCause policies before after c o (Db x) → IsRunError policies before after c d x
    by (inl cause) = run_ends policies before after c d x cause unsaid (no_lighter c d call.left) (λ h. truth (call.refused None h))
    by (inr (inl wrong)) = absurd wrong
    by (inr (inr (m, refused))) = absurd (no_db m o x refused)

-- ---- a total

pub record IsTotalCall (policies : List Policy) (asset : List ℕ) (before after : Reach) (c d : CoreModel) (result : Result AssetTotal StockError) : Type 0 where
  pub total : (g : Segments) → IsSettledIn policies g before c → IfOk result (IsTotal before.meaning c asset)
  pub refused : (g : Segments) → IsSettledIn policies g before c → IfErr result (IsTotalTruth before after c asset)
  pub cause : IfErr result (IsTotalCause policies before after c)
  pub left : IsLeft c d
  pub reads : OnlyReads before after
  pub settled : IsSettledIn policies None before c → IsSettledIn policies None after d
  pub legal : IsLegal c.settings.start_seq c.events
  pub replays : Replays c.events c.state
  pub named : IsPlainName asset

module _ (policies : List Policy) (asset : List ℕ) (before after : Reach) (c d : CoreModel) (b : Books) (h : IsRunning policies before c b) where
  pub total_found : (t : AssetTotal) → IsTotalCall policies asset before after c d (Ok t) → (line_step b (lines.Total asset) ≡ (b, total_words t.sum t.issued)) × IsRunning policies after d b
  total_found t call = (
    (λ i. (b, total_words (sym sum i) (sym issued i))),
    left_running policies before after c d b call.reads call.left call.settled h,
  )
    where
      there : IsTotal before.meaning c asset t
      there = call.total None h.settled

      sum : t.sum ≡ books_total b asset
      sum = there.0 ∙ sum_of_books before.meaning c call.legal call.replays h.orders h.vouched asset call.named b h.stands

      issued : t.issued ≡ b.amounts (issued_key asset)
      issued = there.1 ∙ h.stands.amounts (issued_key asset)

  -- no total that is refused is answered
  pub total_unsaid : (e : StockError) → IsTotalCall policies asset before after c d (Err e) → is_said e ≡ true → ⊥
  total_unsaid e call said = by (call.refused None h.settled)
    where
      bad : (k : List ℕ) → IsBadAmount before.meaning c k → ⊥
      bad k x = none_bad before.meaning c call.legal call.replays h.orders h.vouched k x

      of_db : (y : StockError) → is_said y ≡ true → IsDb (IsDbTruth (IsFault before after) c) y → ⊥
      of_db (Db x) s truth = said_or x s (truth_unsaid before after c x truth)
      of_db SameName s truth = truth
      of_db SameAsset s truth = truth
      of_db TooMuch s truth = truth
      of_db (BadAmount k) s truth = truth
      of_db (AlreadyIssued a) s truth = truth
      of_db (NotEnough k n m) s truth = truth
      of_db (ForeignCommit n) s truth = truth

      of_sum : IsSumRefusal (map key_value (balance_rows before.meaning c asset)) e → ⊥
      of_sum (IsSumRefusal.memory is) = let clash : true ≡ false = sym said ∙ ap is_said is in cc
      of_sum (IsSumRefusal.bad row here long is) = long (All-contains (λ (r : KeyValue). length r.value ≡ 8) rows row (All-from_recursion (λ (r : KeyValue). length r.value ≡ 8) rows (balances_long before.meaning c call.legal call.replays h.orders h.vouched asset)) here)
        where
          rows : List KeyValue
          rows = map key_value (balance_rows before.meaning c asset)
      of_sum (IsSumRefusal.past much is) = let fits : values_sum (map key_value (balance_rows before.meaning c asset)) < 2 ^ 64 = sum_fits before.meaning c call.legal call.replays h.orders h.vouched asset call.named b h.stands in omega (arith, much, fits)

      by : IsTotalTruth before after c asset e → ⊥
      by (IsTotalTruth.database truth) = of_db e said truth
      by (IsTotalTruth.issued is wrong) = bad (issued_key asset) wrong
      by (IsTotalTruth.refused refusal) = of_sum refusal

pub total_ends : (policies : List Policy) (asset : List ℕ) (before after : Reach) (c d : CoreModel) (x : SlateDBError) → IsTotalCall policies asset before after c d (Err (Db x)) → has_reply x ≡ false → IsRunError policies before after c d x
total_ends policies asset before after c d x call unsaid = by call.cause
  where
    one : {y : SlateDBError} → Db x ≡ Db y → x ≡ y
    one e = cc

    sum : IsSumRefusal (map key_value (balance_rows before.meaning c asset)) (Db x) → IsFault before after x ⊎ (is_limit x ≡ true)
    sum (IsSumRefusal.memory is) = inl (subst (IsFault before after) (sym (one is)) tt)
    sum (IsSumRefusal.bad row here long is) = cc
    sum (IsSumRefusal.past much is) = cc

    truth : IsTotalTruth before after c asset (Db x) → IsFault before after x ⊎ (is_limit x ≡ true)
    truth (IsTotalTruth.database t) = truth_ends before after c x t
    truth (IsTotalTruth.issued is wrong) = cc
    truth (IsTotalTruth.refused refusal) = sum refusal

    by : IsTotalCause policies before after c (Db x) → IsRunError policies before after c d x
    by (inl cause) = run_ends policies before after c d x cause unsaid (no_lighter c d call.left) (λ h. truth (call.refused None h))
    by (inr (inl wrong)) = absurd wrong
    by (inr (inr is)) = cc
