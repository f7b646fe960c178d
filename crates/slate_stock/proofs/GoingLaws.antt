-- A run over lines: what it keeps from line to line, how it begins, and how it ends.
use Rattle.std.proofs.Common.{◌≡◌, ℕ, ◌+◌, ◌*◌, ◌<◌, ◌≤◌, ◌⊎◌, inl, inr, Bool, true, false, ◌||◌, List, [], ◌∷◌, ◌++◌, length, is_some, Option, Some, None, Result, Ok, Err, ℤ, refl, sym, ap, subst, ◌∙◌, arith}
use Rattle.std.specs.Prelude.{IfErr, IfOk, IsSome}
use Rattle.std.specs.Global.{Vec}
use Rattle.slate_types.specs.declared.error.SlateDBError.{SlateDBError}
use Rattle.slate_types.specs.declared.error.SlateDBError.TheVariants as errors
use Rattle.slate_types.specs.declared.config.Options.{Options}
use Rattle.slate_types.specs.Outside.{Counts, IsFault, IsStill, Meaning, Objects, Reach, unblamed}
use Rattle.slate_types.proofs.Reaching.{reads_none}
use Rattle.slate_filter.specs.Policy.{Policy}
use Rattle.slate_store.specs.Lines.{script_limit}
use Rattle.slate_store.specs.Run.{IsRunCause, LineSays, Says}
use Rattle.slate_mem.specs.KeyTests.{Segments}
use Rattle.slate_txn.specs.declared.event.Event.{Event}
use Rattle.slate_txn.specs.Named.{find_named}
use Rattle.slate_txn.specs.Reads.{keys_seen}
use Rattle.slate_txn.specs.Settings.{Settings, settings_of}
use Rattle.slate_txn.specs.Alone.{IsVouched}
use Rattle.slate_txn.specs.State.{State, Tx, last_of, opening}
use Rattle.slate_txn.specs.Vouched.{AreVouched}
use Rattle.slate_db.specs.Installs.{tables_of}
use Rattle.slate_db.specs.Load.{weight}
use Rattle.slate_db.specs.Log.{LIMIT, ends_of}
use Rattle.slate_db.specs.Meaning.{rules_of}
use Rattle.slate_db.specs.Model.{CoreModel}
use Rattle.slate_db.specs.Readable.{AreFiltered}
use Rattle.slate_db.specs.Segmented.{IsSegmented}
use Rattle.slate_db.specs.Settled.{HasTables, IsSettledIn}
use Rattle.slate_db.specs.Sound.{IsKept}
use Rattle.slate_db.specs.SerialLaws.{IsVouchedCore}
use Rattle.slate_steps.specs.Reads.{IsStillBy, unblamed_if}
use Rattle.slate_steps.proofs.Reading.{if_ok_map}
use Rattle.slate_language.specs.Replies.{is_silent}
use Rattle.slate_stock.specs.declared.error.StockError.{StockError}
use Rattle.slate_stock.specs.declared.error.StockError.TheVariants.{Db}
use Rattle.slate_stock.specs.declared.line.StockLine.{StockLine}
use Rattle.slate_stock.specs.declared.line.StockLine.TheVariants as lines
use Rattle.slate_stock.specs.declared.order.Order.{Order}
use Rattle.slate_stock.specs.declared.total.AssetTotal.{AssetTotal}
use Rattle.slate_stock.specs.Journals.{IsOrders}
use Rattle.slate_stock.specs.Lines.{Books, after_by, is_stock_line, line_step, ok_words, opening_books, read_line, refused_words, replies_on, reply_of_words, said_by, total_words}
use Rattle.slate_stock.specs.Running.{amounts_of, db_error}
use Rattle.slate_stock.specs.Runs.{Answers, Goes, IsRunError, IsRunning, Premises, RunEnds, RunsAs, is_limit}
use Rattle.slate_stock.specs.Onward.{EndsBetween, GoesBetween}
use Rattle.slate_stock.specs.Words.{has_reply, is_said}
use Rattle.slate_stock.proofs.CoreLaws.{left_grows}
use Rattle.slate_stock.proofs.RunLaws.{IsOrderCall, IsTotalCall, memory_ends, order_ends, order_made, order_refused, total_ends, total_found, total_unsaid}

-- ---- what is said

pub line_said : (r : Books) (line : List ℕ) (l : StockLine) → is_silent line ≡ false → read_line line ≡ Some l → (rest : List (List ℕ)) →
    replies_on r (line ∷ rest) ≡ reply_of_words (line_step r l).1 ++ replies_on (line_step r l).0 rest
line_said r line l s m rest = λ i. said_by (s i) (m i) r ++ replies_on (after_by (s i) (m i) r) rest

pub silence_said : (r : Books) (line : List ℕ) → is_silent line ≡ true → (rest : List (List ℕ)) → replies_on r (line ∷ rest) ≡ replies_on r rest
silence_said r line s rest = λ i. said_by (s i) (read_line line) r ++ replies_on (after_by (s i) (read_line line) r) rest

-- ---- one line

-- an error that a line is answered blames no part
blames_none : (x : SlateDBError) (a : Counts) → has_reply x ≡ true → unblamed x a ≡ a
unfolding unblamed
blames_none errors.StoreFault a said = cc
blames_none (errors.Callback m) a said = cc
blames_none errors.BlockTransformError a said = cc
blames_none _ a said = refl

said_still : (e : StockError) (a b : Counts) → is_said e ≡ true → unblamed_if (db_error e) b ≡ unblamed_if (db_error e) a → b ≡ a
said_still (Db x) a b said same = sym (blames_none x b said) ∙ same ∙ blames_none x a said
said_still _ a b said same = same

-- of what a call says of the counts, and of what its result is answered
pub answered_still : {A : Type 0} (a b : Counts) (made : Result A StockError) (result : Result (Vec ℕ) SlateDBError) → IsStillBy db_error a b made → ((e : StockError) → made ≡ Err e → IfOk result (λ v. is_said e ≡ true)) →
    IfErr result (λ x. ((x ≡ errors.OutOfMemory) × IfErr made (λ e. is_said e ≡ true)) ⊎ ((made ≡ Err (Db x)) × (has_reply x ≡ false))) → IsStill a b result
answered_still {A = A} a b made (Ok v) still refused cause = by made still refused
  where
    by : (k : Result A StockError) → IsStillBy db_error a b k → ((e : StockError) → k ≡ Err e → is_said e ≡ true) → b ≡ a
    by (Ok n) same said = same
    by (Err e) same said = said_still e a b (said e refl) same
answered_still {A = A} a b made (Err x) still refused (inl memory) = ap (unblamed x) (by made still memory.1)
  where
    by : (k : Result A StockError) → IsStillBy db_error a b k → IfErr k (λ e. is_said e ≡ true) → b ≡ a
    by (Ok n) same said = same
    by (Err e) same said = said_still e a b said same
answered_still {A = A} a b made (Err x) still refused (inr why) = subst (λ (k : Result A StockError). IsStillBy db_error a b k) why.0 still

module _ (policies : List Policy) (before after : Reach) (c d : CoreModel) (line : StockLine) (result : Result (Vec ℕ) SlateDBError) where
  pub order_answers : (o : Order) (now : ℤ) (made : Result ℕ StockError) → line ≡ lines.Order o → IsOrderCall policies o now before after c d made →
      ((n : ℕ) → made ≡ Ok n → IfOk result (λ v. v.items ≡ reply_of_words ok_words)) →
      ((e : StockError) → made ≡ Err e → IfOk result (λ v. (v.items ≡ reply_of_words (refused_words e)) × (is_said e ≡ true))) →
      IfErr result (λ x. ((x ≡ errors.OutOfMemory) × IfErr made (λ e. is_said e ≡ true)) ⊎ ((made ≡ Err (Db x)) × (has_reply x ≡ false))) → IsStillBy db_error before.faults after.faults made →
      Answers policies line before after c d result
  order_answers o now made asks call done refused cause counts = record {
    said = λ b h. by_result b h result done refused;
    settled = call.settled;
    grows = call.grows;
    reads = call.reads;
    still = answered_still before.faults after.faults made result counts (λ e is. if_ok_map result _ _ (λ v t. t.1) (refused e is)) cause;
    cause = by_error result cause;
  }
    where
      by_result : (b : Books) → IsRunning policies before c b → (q : Result (Vec ℕ) SlateDBError) → ((n : ℕ) → made ≡ Ok n → IfOk q (λ v. v.items ≡ reply_of_words ok_words)) →
          ((e : StockError) → made ≡ Err e → IfOk q (λ v. (v.items ≡ reply_of_words (refused_words e)) × (is_said e ≡ true))) →
          IfOk q (λ text. (text.items ≡ reply_of_words (line_step b line).1) × IsRunning policies after d (line_step b line).0)
      by_result b h (Err x) done refused = tt
      by_result b h (Ok v) done refused = by made refl
        where
          by : (k : Result ℕ StockError) → made ≡ k → (v.items ≡ reply_of_words (line_step b line).1) × IsRunning policies after d (line_step b line).0
          by (Ok n) is =
              let at = order_made policies o now before after c d b h n (subst (IsOrderCall policies o now before after c d) is call) in
              let step_is = ap (line_step b) asks ∙ at.0 in
              (done n is ∙ ap (λ (p : Books × List (List ℕ)). reply_of_words p.1) (sym step_is), subst (λ (p : Books × List (List ℕ)). IsRunning policies after d p.0) (sym step_is) at.1)
          by (Err e) is =
              let said = refused e is in
              let at = order_refused policies o now before after c d b h e (subst (IsOrderCall policies o now before after c d) is call) said.1 in
              let step_is = ap (line_step b) asks ∙ at.0 in
              (said.0 ∙ ap (λ (p : Books × List (List ℕ)). reply_of_words p.1) (sym step_is), subst (λ (p : Books × List (List ℕ)). IsRunning policies after d p.0) (sym step_is) at.1)

      by_error : (q : Result (Vec ℕ) SlateDBError) → IfErr q (λ x. ((x ≡ errors.OutOfMemory) × IfErr made (λ e. is_said e ≡ true)) ⊎ ((made ≡ Err (Db x)) × (has_reply x ≡ false))) → IfErr q (IsRunError policies before after c d)
      by_error (Ok v) h = tt
      by_error (Err x) (inl memory) = memory_ends policies before after c d x memory.0
      by_error (Err x) (inr (is, unsaid)) = order_ends policies o now before after c d x (subst (IsOrderCall policies o now before after c d) is call) unsaid

  pub total_answers : (asset : List ℕ) (total : Result AssetTotal StockError) → line ≡ lines.Total asset → IsTotalCall policies asset before after c d total →
      ((t : AssetTotal) → total ≡ Ok t → IfOk result (λ v. v.items ≡ reply_of_words (total_words t.sum t.issued))) →
      ((e : StockError) → total ≡ Err e → IfOk result (λ v. (v.items ≡ reply_of_words (refused_words e)) × (is_said e ≡ true))) →
      IfErr result (λ x. ((x ≡ errors.OutOfMemory) × IfErr total (λ e. is_said e ≡ true)) ⊎ ((total ≡ Err (Db x)) × (has_reply x ≡ false))) → IsStillBy db_error before.faults after.faults total →
      Answers policies line before after c d result
  total_answers asset total asks call found refused cause counts = record {
    said = λ b h. by_result b h result found refused;
    settled = call.settled;
    grows = (left_grows c d call.left).0;
    reads = call.reads;
    still = answered_still before.faults after.faults total result counts (λ e is. if_ok_map result _ _ (λ v t. t.1) (refused e is)) cause;
    cause = by_error result cause;
  }
    where
      by_result : (b : Books) → IsRunning policies before c b → (q : Result (Vec ℕ) SlateDBError) → ((t : AssetTotal) → total ≡ Ok t → IfOk q (λ v. v.items ≡ reply_of_words (total_words t.sum t.issued))) →
          ((e : StockError) → total ≡ Err e → IfOk q (λ v. (v.items ≡ reply_of_words (refused_words e)) × (is_said e ≡ true))) →
          IfOk q (λ text. (text.items ≡ reply_of_words (line_step b line).1) × IsRunning policies after d (line_step b line).0)
      by_result b h (Err x) found refused = tt
      by_result b h (Ok v) found refused = by total refl
        where
          by : (k : Result AssetTotal StockError) → total ≡ k → (v.items ≡ reply_of_words (line_step b line).1) × IsRunning policies after d (line_step b line).0
          by (Ok t) is =
              let at = total_found policies asset before after c d b h t (subst (IsTotalCall policies asset before after c d) is call) in
              let step_is = ap (line_step b) asks ∙ at.0 in
              (found t is ∙ ap (λ (p : Books × List (List ℕ)). reply_of_words p.1) (sym step_is), subst (λ (p : Books × List (List ℕ)). IsRunning policies after d p.0) (sym step_is) at.1)
          by (Err e) is = absurd (total_unsaid policies asset before after c d b h e (subst (IsTotalCall policies asset before after c d) is call) (refused e is).1)

      by_error : (q : Result (Vec ℕ) SlateDBError) → IfErr q (λ x. ((x ≡ errors.OutOfMemory) × IfErr total (λ e. is_said e ≡ true)) ⊎ ((total ≡ Err (Db x)) × (has_reply x ≡ false))) → IfErr q (IsRunError policies before after c d)
      by_error (Ok v) h = tt
      by_error (Err x) (inl memory) = memory_ends policies before after c d x memory.0
      by_error (Err x) (inr (is, unsaid)) = total_ends policies asset before after c d x (subst (IsTotalCall policies asset before after c d) is call) unsaid

-- ---- a new core

no_truth : {A : Type 0} → false ≡ true → A
no_truth e = cc

new_vouched : (m : Meaning) (c : CoreModel) → c.state ≡ opening → c.events ≡ [] → IsVouchedCore m c
new_vouched m c state none = record {
  journal = subst (λ (es : List Event). AreVouched (rules_of c.settings m) es) (sym none) tt;
  transactions = λ id. subst (λ (s : State). (t : Tx) → find_named id s.txns ≡ Some t → IsVouched (rules_of c.settings m) s.commits t) (sym state) (λ t e. cc);
}

pub new_running : (policies : List Policy) (before : Reach) (c : CoreModel) (n0 : ℕ) → Premises policies before → c.settings.start_seq ≡ n0 → c.state ≡ opening → c.events ≡ [] → ((m : Meaning) → IsKept m c) →
    ((g : Segments) → IsSegmented g c) → IsRunning policies before c (opening_books n0)
new_running policies before c n0 premises start state none kept segmented = record {
  settled = record {
    lawful_policies = premises.lawful_policies;
    lawful = premises.lawful;
    kept = kept before.meaning;
    segmented = segmented None;
    tables = subst (HasTables before.objects) (sym none) (tables before.objects premises.objects);
    filtered = subst (λ (es : List Event). AreFiltered before.meaning.encode policies (tables_of es)) (sym none) tt;
  };
  orders = subst IsOrders (sym none) tt;
  vouched = new_vouched before.meaning c state none;
  stands = record {
    amounts = λ k. ap (λ (s : State). amounts_of before.meaning (record c { state = s }) k) state;
    keys = ap (λ (s : State). keys_seen s.commits (last_of c.settings.start_seq s.commits) []) state;
    bytes = tt;
    seq = ap (λ (s : State). last_of c.settings.start_seq s.commits) state ∙ start;
  };
}
  where
    tables : (o : Option Objects) → IsSome o → HasTables o []
    tables None h = no_truth h
    tables (Some os) h = record { holds = tt; numbered = tt; few = omega arith }

-- so the lines to come are answered
pub runs_new : (policies : List Policy) (before : Reach) (c : CoreModel) (options : Options) → Premises policies before → c.settings ≡ settings_of options → c.state ≡ opening → c.events ≡ [] → ((m : Meaning) → IsKept m c) →
    ((g : Segments) → IsSegmented g c) → RunsAs policies before c (replies_on (opening_books options.start_seq))
runs_new policies before c options premises settings state none kept segmented =
    (opening_books options.start_seq, new_running policies before c options.start_seq premises (ap (λ (o : Settings). o.start_seq) settings) state none kept segmented, λ ls. refl)

pub new_weight : (c : CoreModel) → c.state ≡ opening → c.events ≡ [] → weight c ≡ 0
new_weight c state none = λ i. length (none i) + ends_of (state i)

-- no limit is reached by as many lines as a run can take
pub no_limit : (policies : List Policy) (before after : Reach) (c d : CoreModel) (n : ℕ) (e : SlateDBError) → (Premises policies before → IsSettledIn policies None before c) → weight c ≡ 0 → n ≤ script_limit → Goes policies before after c d n →
    IsRunError policies before after c d e → unblamed e after.faults ≡ unblamed e before.faults → RunEnds policies before after e
no_limit policies before after c d n e settled light few goes error still = by (is_limit e) refl
  where
    by : (b : Bool) → is_limit e ≡ b → RunEnds policies before after e
    by true is =
        let full : LIMIT < weight d + 2 = error.limit is in
        let less : weight d ≤ weight c + 2 * n = goes.grows in
        absurd (omega (arith, full, less, light, few))
    by false is = record {
      apart = error.apart;
      unlimited = is;
      still = still;
      lawful = λ h. at (error.settled (settled h));
      cause = error.cause;
    }
      where
        at : IsFault before after e ⊎ (is_limit e ≡ true) → IsFault before after e
        at (inl fault) = fault
        at (inr limit) = let clash : true ≡ false = sym limit ∙ is in cc

-- ---- what is said for a line

module _ (policies : List Policy) (before after : Reach) (c d : CoreModel) (f : Says) (line : List ℕ) where
  pub silence_says : is_silent line ≡ true → RunsAs policies before c f → LineSays f (RunsAs policies before c) line []
  silence_says silent h = record { later = f; answers = h; said = λ rest. h.2 (line ∷ rest) ∙ silence_said h.0 line silent rest ∙ sym (h.2 rest) }

  pub line_answers : (l : StockLine) (text : Vec ℕ) → is_silent line ≡ false → read_line line ≡ Some l → Answers policies l before after c d (Ok text) → RunsAs policies before c f → LineSays f (RunsAs policies after d) line text.items
  line_answers l text loud means answers h =
      let said = answers.said h.0 h.1 in
      record {
        later = replies_on (line_step h.0 l).0;
        answers = ((line_step h.0 l).0, said.1, λ ls. refl);
        said = λ rest. h.2 (line ∷ rest) ∙ line_said h.0 line l loud means rest ∙ ap (λ bs. bs ++ replies_on (line_step h.0 l).0 rest) (sym said.0);
      }

pub taken_line : (line : List ℕ) (l : StockLine) → read_line line ≡ Some l → is_stock_line line ≡ true
taken_line line l means = ap (λ o. is_silent line || is_some o) means ∙ or_true (is_silent line)
  where
    or_true : (b : Bool) → (b || true) ≡ true
    or_true true = refl
    or_true false = refl

pub taken_silence : (line : List ℕ) → is_silent line ≡ true → is_stock_line line ≡ true
taken_silence line silent = ap (λ b. b || is_some (read_line line)) silent

pub not_taken : (line : List ℕ) → is_silent line ≡ false → read_line line ≡ None → is_stock_line line ≡ false
not_taken line loud none = λ i. loud i || is_some (none i)

-- ---- how a line ends

pub goes_silent : (policies : List Policy) (a : Reach) (x : CoreModel) → Goes policies a a x x 1
goes_silent policies a x = record { settled = λ h. h; grows = omega arith; reads = reads_none a }

pub goes_line : (policies : List Policy) (line : StockLine) (before after : Reach) (c d : CoreModel) (result : Result (Vec ℕ) SlateDBError) → Answers policies line before after c d result → Goes policies before after c d 1
goes_line policies line before after c d result h = record { settled = h.settled; grows = let few : weight d ≤ weight c + 2 = h.grows in omega (arith, few); reads = h.reads }

-- a line that isn't read: want of memory, or none that asks for something
pub unread_line : (policies : List Policy) (before after : Reach) (c d : CoreModel) (line : List ℕ) (n : ℕ) (e : SlateDBError) →
    (e ≡ errors.OutOfMemory) ⊎ ((e ≡ errors.ScriptSyntax n) × (is_silent line ≡ false) × (read_line line ≡ None)) →
    ((e ≡ errors.ScriptSyntax n) × (is_stock_line line ≡ false)) ⊎ IsRunError policies before after c d e
unread_line policies before after c d line n e (inl memory) = inr (memory_ends policies before after c d e memory)
unread_line policies before after c d line n e (inr (syntax_is, loud, none)) = inl (syntax_is, not_taken line loud none)

-- ---- how a run ends

pub cause_map : (A B : Type 0) (P Q : SlateDBError → Type 0) (e : SlateDBError) → (P e → Q e) → IsRunCause A B P e → IsRunCause A B Q e
cause_map A B P Q e f (inl h) = inl h
cause_map A B P Q e f (inr (inl h)) = inr (inl h)
cause_map A B P Q e f (inr (inr (inl h))) = inr (inr (inl h))
cause_map A B P Q e f (inr (inr (inr (inl h)))) = inr (inr (inr (inl h)))
cause_map A B P Q e f (inr (inr (inr (inr (inl h))))) = inr (inr (inr (inr (inl h))))
cause_map A B P Q e f (inr (inr (inr (inr (inr h))))) = inr (inr (inr (inr (inr (f h)))))

pub run_ends : {V P : Type 0} {policies : P → List Policy} {reach : P → Reach} {core : P → CoreModel} {ended : P → Bool} {p q : P} {n : ℕ} {after : Reach} (A B : Type 0) (result : Result V SlateDBError) → GoesBetween policies reach core ended p q n →
    IfErr result (IsRunCause A B (EndsBetween policies reach core ended p q)) → reach q ≡ after → (Premises (policies p) (reach p) → IsSettledIn (policies p) None (reach p) (core p)) → weight (core p) ≡ 0 → n ≤ script_limit →
    IfErr result (IsRunCause A B (RunEnds (policies p) (reach p) after))
run_ends A B (Ok v) goes cause same settled light few = tt
run_ends {policies = policies} {reach = reach} {core = core} {ended = ended} {p = p} {q = q} {n = n} {after = after} A B (Err e) goes cause same settled light few =
    cause_map A B (EndsBetween policies reach core ended p q) (RunEnds (policies p) (reach p) after) e (λ x. subst (λ t. RunEnds (policies p) (reach p) t e) same (no_limit (policies p) (reach p) (reach q) (core p) (core q) n e settled light few goes.goes x.error x.still)) cause
