-- A run over lines: what it keeps from line to line, how it begins, and how it ends.
use Rattle.std.proofs.Common.{◌≡◌, ℕ, ◌+◌, ◌*◌, ◌<◌, ◌≤◌, ◌⊎◌, inl, inr, Bool, true, false, ◌||◌, List, [], ◌∷◌, ◌++◌, length, is_some, Option, Some, None, Result, Ok, Err, ℤ, refl, sym, ap, subst, ◌∙◌, arith}
use Rattle.std.specs.Prelude.{IfErr, IfOk, IsSome}
use Rattle.std.specs.Global.{Vec}
use Rattle.slate_types.specs.declared.error.SlateDBError.{SlateDBError}
use Rattle.slate_types.specs.declared.error.SlateDBError.TheVariants as errors
use Rattle.slate_types.specs.declared.config.Options.{Options}
use Rattle.slate_types.specs.Outside.{Counts, IsFault, IsStill, Meaning, Objects, Reach, unblamed}
use Rattle.slate_types.proofs.Reaching.{reads_none}
use Rattle.slate_filter.specs.Policy.{Policy}
use Rattle.slate_store.specs.Lines.{script_limit}
use Rattle.slate_store.specs.Run.{IsRunCause, LineSays, Says}
use Rattle.slate_mem.specs.KeyTests.{Segments}
use Rattle.slate_txn.specs.declared.event.Event.{Event}
use Rattle.slate_txn.specs.Replay.{IsLegal}
use Rattle.slate_txn.specs.Settings.{Settings, settings_of}
use Rattle.slate_txn.specs.Alone.{IsVouched}
use Rattle.slate_txn.specs.Named.{find_named}
use Rattle.slate_txn.specs.State.{State, Tx, last_of, opening}
use Rattle.slate_txn.specs.Vouched.{AreVouched}
use Rattle.slate_db.specs.Meaning.{rules_of}
use Rattle.slate_db.specs.Installs.{tables_of}
use Rattle.slate_db.specs.Load.{weight}
use Rattle.slate_db.specs.Log.{LIMIT, ends_of}
use Rattle.slate_db.specs.Model.{CoreModel}
use Rattle.slate_db.specs.Readable.{AreFiltered}
use Rattle.slate_db.specs.Segmented.{IsSegmented}
use Rattle.slate_db.specs.Settled.{HasTables, IsSettledIn}
use Rattle.slate_db.specs.Sound.{IsKept}
use Rattle.slate_steps.specs.Reads.{IsStillBy, unblamed_if}
use Rattle.slate_steps.proofs.Reading.{if_ok_map}
use Rattle.slate_language.specs.Replies.{is_silent}
use Rattle.slate_index.specs.declared.error.IndexError.{IndexError}
use Rattle.slate_index.specs.declared.error.IndexError.TheVariants.{Db}
use Rattle.slate_index.specs.declared.line.Line.{Line}
use Rattle.slate_index.specs.Calls.{IsChangeCall, db_error, faults, values_in}
use Rattle.slate_index.specs.Entries.{FieldsModel, record_key}
use Rattle.slate_index.specs.Journals.{AreChanges}
use Rattle.slate_index.specs.Looking.{IsLookup}
use Rattle.slate_index.specs.Refusals.{change_refusal}
use Rattle.slate_index.specs.Running.{Answers, Goes, IsRunError, IsRunning, Premises, RunEnds, RunsAs, is_limit}
use Rattle.slate_index.specs.Script.{Reply, Run, after_by, begun, committed, found, is_taken, meaning, record_at, reply_line, said_by, says, stepped, with_change}
use Rattle.slate_index.specs.Onward.{EndsBetween, GoesBetween}
use Rattle.slate_index.specs.Words.{has_reply, is_said}
use Rattle.slate_index.proofs.Runs.{change_ends, change_made, change_refused, search_ends, search_found, search_unsaid}

-- ---- what is said

pub line_said : (fs : FieldsModel) (r : Run) (line : List ℕ) (l : Line) → is_silent line ≡ false → meaning fs line ≡ Some l → (rest : List (List ℕ)) →
    says fs r (line ∷ rest) ≡ reply_line (stepped fs r l).1 ++ says fs (stepped fs r l).0 rest
line_said fs r line l s m rest = λ i. said_by fs (s i) (m i) r ++ says fs (after_by fs (s i) (m i) r) rest

pub silence_said : (fs : FieldsModel) (r : Run) (line : List ℕ) → is_silent line ≡ true → (rest : List (List ℕ)) → says fs r (line ∷ rest) ≡ says fs r rest
silence_said fs r line s rest = λ i. said_by fs (s i) (meaning fs line) r ++ says fs (after_by fs (s i) (meaning fs line) r) rest

-- ---- one line

-- an error that a line is answered blames no part
blames_none : (x : SlateDBError) (a : Counts) → has_reply x ≡ true → unblamed x a ≡ a
unfolding unblamed
blames_none errors.StoreFault a said = cc
blames_none (errors.Callback m) a said = cc
blames_none errors.BlockTransformError a said = cc
blames_none _ a said = refl

said_still : (e : IndexError) (a b : Counts) → is_said e ≡ true → unblamed_if (db_error e) b ≡ unblamed_if (db_error e) a → b ≡ a
said_still (Db x) a b said same = sym (blames_none x b said) ∙ same ∙ blames_none x a said
said_still _ a b said same = same

-- of what a call says of the counts, and of what its result is answered
pub answered_still : {A : Type 0} (a b : Counts) (made : Result A IndexError) (result : Result (Vec ℕ) SlateDBError) → IsStillBy db_error a b made → ((e : IndexError) → made ≡ Err e → IfOk result (λ v. is_said e ≡ true)) →
    IfErr result (λ x. ((x ≡ errors.OutOfMemory) × IfErr made (λ e. is_said e ≡ true)) ⊎ ((made ≡ Err (Db x)) × (has_reply x ≡ false))) → IsStill a b result
answered_still {A = A} a b made (Ok v) still refused cause = by made still refused
  where
    by : (k : Result A IndexError) → IsStillBy db_error a b k → ((e : IndexError) → k ≡ Err e → is_said e ≡ true) → b ≡ a
    by (Ok n) same said = same
    by (Err e) same said = said_still e a b (said e refl) same
answered_still {A = A} a b made (Err x) still refused (inl memory) = ap (unblamed x) (by made still memory.1)
  where
    by : (k : Result A IndexError) → IsStillBy db_error a b k → IfErr k (λ e. is_said e ≡ true) → b ≡ a
    by (Ok n) same said = same
    by (Err e) same said = said_still e a b said same
answered_still {A = A} a b made (Err x) still refused (inr why) = subst (λ (k : Result A IndexError). IsStillBy db_error a b k) why.0 still

memory_ends : (policies : List Policy) (before after : Reach) (c d : CoreModel) (x : SlateDBError) → x ≡ errors.OutOfMemory → IsRunError policies before after c d x
memory_ends policies before after c d x is = subst (IsRunError policies before after c d) (sym is) (record {
  apart = tt;
  settled = λ h. inl tt;
  limit = λ e. cc;
  cause = record { from = before; upto = after; core = c; first = reads_none before; later = reads_none after; refused = faults tt };
})

module _ (policies : List Policy) (fs : FieldsModel) (before after : Reach) (c d : CoreModel) (line : Line) (result : Result (Vec ℕ) SlateDBError) where
  pub change_answers : (id : List ℕ) (new : Option (List ℕ)) (now : ℤ) (change : Result ℕ IndexError) →
      ((r : Run) → stepped fs r line ≡ committed r (change_refusal fs id (record_at r.records id) new) (with_change id new r.records)) →
      IsChangeCall policies None fs id new now before after c d change →
      ((n : ℕ) → change ≡ Ok n → IfOk result (λ v. v.items ≡ reply_line Reply.Done)) →
      ((e : IndexError) → change ≡ Err e → IfOk result (λ v. (v.items ≡ reply_line (Reply.Refused e)) × (is_said e ≡ true))) →
      IfErr result (λ x. ((x ≡ errors.OutOfMemory) × IfErr change (λ e. is_said e ≡ true)) ⊎ ((change ≡ Err (Db x)) × (has_reply x ≡ false))) → IsStillBy db_error before.faults after.faults change →
      Answers policies fs line before after c d result
  change_answers id new now change step call done refused cause counts = record {
    said = λ r h. by_result r h result done refused;
    settled = call.settled;
    grows = call.events;
    reads = call.reads;
    still = answered_still before.faults after.faults change result counts (λ e is. if_ok_map result _ _ (λ v t. t.1) (refused e is)) cause;
    cause = by_error result cause;
  }
    where
      by_result : (r : Run) → IsRunning policies fs before c r → (q : Result (Vec ℕ) SlateDBError) → ((n : ℕ) → change ≡ Ok n → IfOk q (λ v. v.items ≡ reply_line Reply.Done)) →
          ((e : IndexError) → change ≡ Err e → IfOk q (λ v. (v.items ≡ reply_line (Reply.Refused e)) × (is_said e ≡ true))) →
          IfOk q (λ text. (text.items ≡ reply_line (stepped fs r line).1) × IsRunning policies fs after d (stepped fs r line).0)
      by_result r h (Err x) done refused = tt
      by_result r h (Ok v) done refused = by change refl
        where
          by : (k : Result ℕ IndexError) → change ≡ k → (v.items ≡ reply_line (stepped fs r line).1) × IsRunning policies fs after d (stepped fs r line).0
          by (Ok n) is =
              let made = change_made policies fs id new now before after c d r h n (subst (IsChangeCall policies None fs id new now before after c d) is call) in
              let stepped_is = step r ∙ made.0 in
              (done n is ∙ ap (λ (p : Run × Reply). reply_line p.1) (sym stepped_is), subst (λ (p : Run × Reply). IsRunning policies fs after d p.0) (sym stepped_is) made.1)
          by (Err e) is =
              let said = refused e is in
              let left = change_refused policies fs id new now before after c d r h e (subst (IsChangeCall policies None fs id new now before after c d) is call) (λ x same. ap is_said (sym same) ∙ said.1) in
              let stepped_is = step r ∙ left.0 in
              (said.0 ∙ ap (λ (p : Run × Reply). reply_line p.1) (sym stepped_is), subst (λ (p : Run × Reply). IsRunning policies fs after d p.0) (sym stepped_is) left.1)

      by_error : (q : Result (Vec ℕ) SlateDBError) → IfErr q (λ x. ((x ≡ errors.OutOfMemory) × IfErr change (λ e. is_said e ≡ true)) ⊎ ((change ≡ Err (Db x)) × (has_reply x ≡ false))) → IfErr q (IsRunError policies before after c d)
      by_error (Ok v) h = tt
      by_error (Err x) (inl memory) = memory_ends policies before after c d x memory.0
      by_error (Err x) (inr (is, unsaid)) = change_ends policies fs id new now before after c d x (subst (IsChangeCall policies None fs id new now before after c d) is call) unsaid

  pub search_answers : (n : ℕ) (f : List ℕ) (ids : Result (Vec (List ℕ)) IndexError) → ((r : Run) → stepped fs r line ≡ (r, Reply.FoundAre (found fs n f r.records))) →
      IsLegal c.settings.start_seq c.events → n < fs.count → IsLookup policies None n f before after c d ids →
      ((v : Vec (List ℕ)) → ids ≡ Ok v → IfOk result (λ t. t.items ≡ reply_line (Reply.FoundAre v.items))) →
      ((e : IndexError) → ids ≡ Err e → IfOk result (λ t. is_said e ≡ true)) →
      IfErr result (λ x. ((x ≡ errors.OutOfMemory) × IfErr ids (λ e. is_said e ≡ true)) ⊎ ((ids ≡ Err (Db x)) × (has_reply x ≡ false))) → IsStillBy db_error before.faults after.faults ids →
      Answers policies fs line before after c d result
  search_answers n f ids step legal below call done refused cause counts = record {
    said = λ r h. by_result r h result done refused;
    settled = call.settled;
    grows = call.events;
    reads = call.reads;
    still = answered_still before.faults after.faults ids result counts refused cause;
    cause = by_error result cause;
  }
    where
      by_result : (r : Run) → IsRunning policies fs before c r → (q : Result (Vec ℕ) SlateDBError) → ((v : Vec (List ℕ)) → ids ≡ Ok v → IfOk q (λ t. t.items ≡ reply_line (Reply.FoundAre v.items))) →
          ((e : IndexError) → ids ≡ Err e → IfOk q (λ t. is_said e ≡ true)) → IfOk q (λ text. (text.items ≡ reply_line (stepped fs r line).1) × IsRunning policies fs after d (stepped fs r line).0)
      by_result r h (Err x) done refused = tt
      by_result r h (Ok t) done refused = by ids refl
        where
          by : (k : Result (Vec (List ℕ)) IndexError) → ids ≡ k → (t.items ≡ reply_line (stepped fs r line).1) × IsRunning policies fs after d (stepped fs r line).0
          by (Ok v) is =
              let made = search_found policies fs n f before after c d v r legal below (subst (IsLookup policies None n f before after c d) is call) h in (
                done v is ∙ ap (λ ks. reply_line (Reply.FoundAre ks)) made.0 ∙ ap (λ (p : Run × Reply). reply_line p.1) (sym (step r)),
                subst (λ (p : Run × Reply). IsRunning policies fs after d p.0) (sym (step r)) made.1,
              )
          by (Err e) is = search_unsaid policies fs n f before after c d e h.settled (subst (IsLookup policies None n f before after c d) is call) (λ x same. ap is_said (sym same) ∙ refused e is)

      by_error : (q : Result (Vec ℕ) SlateDBError) → IfErr q (λ x. ((x ≡ errors.OutOfMemory) × IfErr ids (λ e. is_said e ≡ true)) ⊎ ((ids ≡ Err (Db x)) × (has_reply x ≡ false))) → IfErr q (IsRunError policies before after c d)
      by_error (Ok v) h = tt
      by_error (Err x) (inl memory) = memory_ends policies before after c d x memory.0
      by_error (Err x) (inr (is, unsaid)) = search_ends policies fs n f before after c d x (Db x) refl (subst (IsLookup policies None n f before after c d) is call) unsaid

-- ---- a new core

no_truth : {A : Type 0} → false ≡ true → A
no_truth e = cc

pub new_running : (policies : List Policy) (fs : FieldsModel) (before : Reach) (c : CoreModel) (n0 : ℕ) → Premises policies before → c.settings.start_seq ≡ n0 → c.state ≡ opening → c.events ≡ [] → ((m : Meaning) → IsKept m c) →
    ((g : Segments) → IsSegmented g c) → IsRunning policies fs before c (begun n0)
new_running policies fs before c n0 premises start state none kept segmented = record {
  settled = record {
    lawful_policies = premises.lawful_policies;
    lawful = premises.lawful;
    kept = kept before.meaning;
    segmented = segmented None;
    tables = subst (HasTables before.objects) (sym none) (tables before.objects premises.objects);
    filtered = subst (λ (es : List Event). AreFiltered before.meaning.encode policies (tables_of es)) (sym none) tt;
  };
  form = subst (AreChanges fs) (sym none) tt;
  vouched = record {
    journal = subst (AreVouched (rules_of c.settings before.meaning)) (sym none) tt;
    transactions = λ id. subst (λ (s : State). (t : Tx) → find_named id s.txns ≡ Some t → IsVouched (rules_of c.settings before.meaning) s.commits t) (sym state) (λ t e. cc);
  };
  stands = record {
    once = tt;
    records = λ id. ap (λ (s : State). values_in before.meaning (record c { state = s }) (record_key id)) state;
    last = ap (λ (s : State). last_of c.settings.start_seq s.commits) state ∙ start;
  };
}
  where
    tables : (o : Option Objects) → IsSome o → HasTables o []
    tables None h = no_truth h
    tables (Some os) h = record { holds = tt; numbered = tt; few = omega arith }

-- so the lines to come are answered
pub runs_new : (policies : List Policy) (fs : FieldsModel) (before : Reach) (c : CoreModel) (options : Options) → Premises policies before → c.settings ≡ settings_of options → c.state ≡ opening → c.events ≡ [] → ((m : Meaning) → IsKept m c) →
    ((g : Segments) → IsSegmented g c) → RunsAs policies fs before c (says fs (begun options.start_seq))
runs_new policies fs before c options premises settings state none kept segmented =
    (begun options.start_seq, new_running policies fs before c options.start_seq premises (ap (λ (o : Settings). o.start_seq) settings) state none kept segmented, λ ls. refl)

pub new_weight : (c : CoreModel) → c.state ≡ opening → c.events ≡ [] → weight c ≡ 0
new_weight c state none = λ i. length (none i) + ends_of (state i)

-- no limit is reached by as many lines as a run can take
pub no_limit : (policies : List Policy) (before after : Reach) (c d : CoreModel) (n : ℕ) (e : SlateDBError) → (Premises policies before → IsSettledIn policies None before c) → weight c ≡ 0 → n ≤ script_limit → Goes policies before after c d n →
    IsRunError policies before after c d e → unblamed e after.faults ≡ unblamed e before.faults → RunEnds policies before after e
no_limit policies before after c d n e settled light few goes error still = by (is_limit e) refl
  where
    by : (b : Bool) → is_limit e ≡ b → RunEnds policies before after e
    by true is =
        let full : LIMIT < weight d + 2 = error.limit is in
        let less : weight d ≤ weight c + 2 * n = goes.grows in
        absurd (omega (arith, full, less, light, few))
    by false is = record {
      apart = error.apart;
      unlimited = is;
      still = still;
      lawful = λ h. at (error.settled (settled h));
      cause = error.cause;
    }
      where
        at : IsFault before after e ⊎ (is_limit e ≡ true) → IsFault before after e
        at (inl fault) = fault
        at (inr limit) = let clash : true ≡ false = sym limit ∙ is in cc

-- ---- what is said for a line

module _ (policies : List Policy) (fs : FieldsModel) (before after : Reach) (c d : CoreModel) (f : Says) (line : List ℕ) where
  pub silence_says : is_silent line ≡ true → RunsAs policies fs before c f → LineSays f (RunsAs policies fs before c) line []
  silence_says silent h = record { later = f; answers = h; said = λ rest. h.2 (line ∷ rest) ∙ silence_said fs h.0 line silent rest ∙ sym (h.2 rest) }

  pub line_answers : (l : Line) (text : Vec ℕ) → is_silent line ≡ false → meaning fs line ≡ Some l → Answers policies fs l before after c d (Ok text) → RunsAs policies fs before c f → LineSays f (RunsAs policies fs after d) line text.items
  line_answers l text loud means answers h =
      let said = answers.said h.0 h.1 in
      record {
        later = says fs (stepped fs h.0 l).0;
        answers = ((stepped fs h.0 l).0, said.1, λ ls. refl);
        said = λ rest. h.2 (line ∷ rest) ∙ line_said fs h.0 line l loud means rest ∙ ap (λ bs. bs ++ says fs (stepped fs h.0 l).0 rest) (sym said.0);
      }

pub taken_line : (fs : FieldsModel) (line : List ℕ) (l : Line) → meaning fs line ≡ Some l → is_taken fs line ≡ true
taken_line fs line l means = ap (λ o. is_silent line || is_some o) means ∙ or_true (is_silent line)
  where
    or_true : (b : Bool) → (b || true) ≡ true
    or_true true = refl
    or_true false = refl

pub taken_silence : (fs : FieldsModel) (line : List ℕ) → is_silent line ≡ true → is_taken fs line ≡ true
taken_silence fs line silent = ap (λ b. b || is_some (meaning fs line)) silent

pub not_taken : (fs : FieldsModel) (line : List ℕ) → is_silent line ≡ false → meaning fs line ≡ None → is_taken fs line ≡ false
not_taken fs line loud none = λ i. loud i || is_some (none i)

-- ---- how a line ends

pub goes_silent : (policies : List Policy) (a : Reach) (x : CoreModel) → Goes policies a a x x 1
goes_silent policies a x = record { settled = λ h. h; grows = omega arith; reads = reads_none a }

pub goes_line : (policies : List Policy) (fs : FieldsModel) (line : Line) (before after : Reach) (c d : CoreModel) (result : Result (Vec ℕ) SlateDBError) → Answers policies fs line before after c d result → Goes policies before after c d 1
goes_line policies fs line before after c d result h = record { settled = h.settled; grows = let few : weight d ≤ weight c + 2 = h.grows in omega (arith, few); reads = h.reads }

-- a line that isn't read: want of memory, or none that asks for something
pub unread_line : (policies : List Policy) (fs : FieldsModel) (before after : Reach) (c d : CoreModel) (line : List ℕ) (n : ℕ) (e : SlateDBError) →
    (e ≡ errors.OutOfMemory) ⊎ ((e ≡ errors.ScriptSyntax n) × (is_silent line ≡ false) × (meaning fs line ≡ None)) →
    ((e ≡ errors.ScriptSyntax n) × (is_taken fs line ≡ false)) ⊎ IsRunError policies before after c d e
unread_line policies fs before after c d line n e (inl memory) = inr (memory_ends policies before after c d e memory)
unread_line policies fs before after c d line n e (inr (syntax_is, loud, none)) = inl (syntax_is, not_taken fs line loud none)

-- ---- how a run ends

pub cause_map : (A B : Type 0) (P Q : SlateDBError → Type 0) (e : SlateDBError) → (P e → Q e) → IsRunCause A B P e → IsRunCause A B Q e
cause_map A B P Q e f (inl h) = inl h
cause_map A B P Q e f (inr (inl h)) = inr (inl h)
cause_map A B P Q e f (inr (inr (inl h))) = inr (inr (inl h))
cause_map A B P Q e f (inr (inr (inr (inl h)))) = inr (inr (inr (inl h)))
cause_map A B P Q e f (inr (inr (inr (inr (inl h))))) = inr (inr (inr (inr (inl h))))
cause_map A B P Q e f (inr (inr (inr (inr (inr h))))) = inr (inr (inr (inr (inr (f h)))))

pub run_ends : {V P : Type 0} {policies : P → List Policy} {reach : P → Reach} {core : P → CoreModel} {ended : P → Bool} {p q : P} {n : ℕ} {after : Reach} (A B : Type 0) (result : Result V SlateDBError) → GoesBetween policies reach core ended p q n →
    IfErr result (IsRunCause A B (EndsBetween policies reach core ended p q)) → reach q ≡ after → (Premises (policies p) (reach p) → IsSettledIn (policies p) None (reach p) (core p)) → weight (core p) ≡ 0 → n ≤ script_limit →
    IfErr result (IsRunCause A B (RunEnds (policies p) (reach p) after))
run_ends A B (Ok v) goes cause same settled light few = tt
run_ends {policies = policies} {reach = reach} {core = core} {ended = ended} {p = p} {q = q} {n = n} {after = after} A B (Err e) goes cause same settled light few =
    cause_map A B (EndsBetween policies reach core ended p q) (RunEnds (policies p) (reach p) after) e (λ x. subst (λ t. RunEnds (policies p) (reach p) t e) same (no_limit (policies p) (reach p) (reach q) (core p) (core q) n e settled light few goes.goes x.error x.still)) cause
