-- A line of the program, by what its call says and by the text that was made.
use Rattle.std.proofs.Common.{Vec, Global, ◌≡◌, ◌≢◌, ◌⊎◌, inl, inr, ℕ, ◌+◌, ℤ, Bool, true, false, cond, nat_eq, nat_le, ◌||◌, is_some, List, [], ◌∷◌, ◌++◌, map, length, Option, Some, None, Result, Ok, Err, refl, sym, ap, subst, ◌∙◌}
use Rattle.std.specs.Prelude.{IfOk, IfErr}
use Rattle.slate_types.specs.declared.error.SlateDBError.{SlateDBError}
use Rattle.slate_types.specs.declared.error.SlateDBError.TheVariants.{OutOfMemory, ScriptSyntax, SequenceExhausted}
use Rattle.slate_types.specs.Outside.{Counts, IsStill, Reach, unblamed}
use Rattle.slate_store.specs.Run.{LineSays, Says}
use Rattle.slate_filter.specs.Policy.{Policy}
use Rattle.slate_mem.specs.declared.WriteOp.TheVariants.{Delete}
use Rattle.slate_mem.specs.Batch.{Ops, batch_keys, kept_ops}
use Rattle.slate_mem.specs.KeyTests.{Segments}
use Rattle.slate_mem.proofs.BatchLaws.{keeps_its_keys}
use Rattle.slate_txn.specs.Alone.{own_of}
use Rattle.slate_db.specs.Meaning.{Meaning}
use Rattle.slate_db.specs.Model.{CoreModel}
use Rattle.slate_steps.specs.Reads.{unblamed_if}
use Rattle.slate_steps.proofs.Reading.{if_err_map, if_ok_map}
use Rattle.slate_language.specs.Replies.{is_silent}
use Rattle.slate_queue.specs.declared.claims.Claim.{Claim}
use Rattle.slate_queue.specs.declared.error.QueueError.{QueueError}
use Rattle.slate_queue.specs.declared.error.QueueError.TheVariants as errors
use Rattle.slate_queue.specs.declared.line.Line.{Line}
use Rattle.slate_queue.specs.declared.line.Line.TheVariants as lines
use Rattle.slate_queue.specs.Stored.{Job, counter_in, job_bytes, job_key}
use Rattle.slate_queue.specs.Jobs as model
use Rattle.slate_queue.specs.Jobs.{Queue, Call, last_number, leased, queue_step}
use Rattle.slate_queue.specs.Feed.{feed_of}
use Rattle.slate_queue.specs.Commits.{added, put_of}
use Rattle.slate_queue.specs.Standing.{job_in}
use Rattle.slate_queue.specs.CallSteps.{ClaimStops, counter_refusal, job_refusal, value_of}
use Rattle.slate_queue.specs.Calls.{AddRefuses, CallsAs, ClaimEnds, ClaimRefuses, Commits, FinishRefuses, Form, IsAddOf, IsClaimOf, IsFinishOf, Leaves, StandsIn, StepRefuses, claim_answer, db_error}
use Rattle.slate_queue.specs.Runs.{AnswersBy, Ends, IsReply, IsRunAt}
use Rattle.slate_queue.specs.Script.{Reply, Run, after_by, called, keys_of, meaning, reply_line, said_by, says, stepped, takes}
use Rattle.slate_queue.specs.Words.{fed_pair}
use Rattle.slate_queue.proofs.CallLaws.{ended_stands}
use Rattle.slate_queue.proofs.RunLaws.{called_done, called_none, called_refused, ends_by, ends_memory, more_run, run_left, run_more}

-- the run behind a line, and its reply
pub record IsSaidAt (policies : List Policy) (seg : Segments) (after : Reach) (d : CoreModel) (p : Run × Reply) (reply : Reply) : Type 0 where
  pub run : IsRunAt policies seg after d p.0
  pub is : p.1 ≡ reply

pub said_text : (policies : List Policy) (seg : Segments) (after : Reach) (d : CoreModel) (p : Run × Reply) (reply : Reply) (result : Result (Vec ℕ Global) SlateDBError) → IsSaidAt policies seg after d p reply →
    IfOk result (λ v. v.items ≡ reply_line reply) → IfOk result (λ v. IsRunAt policies seg after d p.0 × (v.items ≡ reply_line p.1))
said_text policies seg after d p reply result said text = if_ok_map result _ _ (λ v t. (said.run, t ∙ ap reply_line (sym said.is))) text

left_stands : (m : Meaning) (c d : CoreModel) (q : Queue) → Leaves c d → StandsIn m c q → StandsIn m d q
left_stands m c d q (inl same) h = subst (λ (v : CoreModel). StandsIn m v q) (sym same) h
left_stands m c d q (inr ended) h = ended_stands m c d ended.0 q ended.1 h

module _ {T : Type 0} (ends : T → Type 0) (answer : T → model.Answer) (call : Call) (own : QueueError → Type 0) (policies : List Policy) (seg : Segments) (before after : Reach) (c d : CoreModel) where
  done_at : (r : Run) → IsRunAt policies seg before c r → (a : T) (keys : ℕ) (form : Form) (now : ℤ) → CallsAs ends answer call own policies seg before after c d (Ok a) → (h : Commits form now c d) →
      length (batch_keys (kept_ops (own_of h.steps))) ≡ keys → keys_of (answer a) ≡ Some keys → IsSaidAt policies seg after d (called r (queue_step r.queue call)) (Reply.Answered (answer a))
  done_at r at a keys form now done h long has =
      let step : (p : Queue) × (queue_step r.queue call ≡ Ok (p, answer a)) × StandsIn before.meaning d p = (done.steps seg r.queue at.settled at.stands).done in
      let more = run_more policies seg before after c d r step.0 keys form now done.reads h long done.keeps step.2 at in
      let is : called r (queue_step r.queue call) ≡ (more_run r step.0 keys, Reply.Answered (answer a)) = called_done r step.0 (answer a) keys (queue_step r.queue call) step.1 has more.0 in
      record { run = subst (λ (x : Run × Reply). IsRunAt policies seg after d x.0) (sym is) more.1; is = ap (λ (x : Run × Reply). x.1) is }

  none_at : (r : Run) → IsRunAt policies seg before c r → (a : T) → CallsAs ends answer call own policies seg before after c d (Ok a) → Leaves c d → keys_of (answer a) ≡ None →
      IsSaidAt policies seg after d (called r (queue_step r.queue call)) (Reply.Answered (answer a))
  none_at r at a done left has =
      let step : (p : Queue) × (queue_step r.queue call ≡ Ok (p, answer a)) × StandsIn before.meaning d p = (done.steps seg r.queue at.settled at.stands).done in
      let is : called r (queue_step r.queue call) ≡ (r, Reply.Answered (answer a)) = called_none r step.0 (answer a) (queue_step r.queue call) step.1 has in
      let run : IsRunAt policies seg after d r = run_left policies seg before after c d r done.reads left done.keeps (left_stands before.meaning c d r.queue left at.stands) at in
      record { run = subst (λ (x : Run × Reply). IsRunAt policies seg after d x.0) (sym is) run; is = ap (λ (x : Run × Reply). x.1) is }

  refused_at : (r : Run) → IsRunAt policies seg before c r → (e : QueueError) → CallsAs ends answer call own policies seg before after c d (Err e) → IsReply e →
      IsSaidAt policies seg after d (called r (queue_step r.queue call)) (Reply.Refused e)
  refused_at r at e refused reply =
      let step : StandsIn before.meaning d r.queue × StepRefuses r.queue call before after c e = (refused.steps seg r.queue at.settled at.stands).refused in
      let is : called r (queue_step r.queue call) ≡ (r, Reply.Refused e) = called_refused r (queue_step r.queue call) before after c call e refl at.newest step.1 reply in
      let run : IsRunAt policies seg after d r = run_left policies seg before after c d r refused.reads refused.refused refused.keeps step.0 at in
      record { run = subst (λ (x : Run × Reply). IsRunAt policies seg after d x.0) (sym is) run; is = ap (λ (x : Run × Reply). x.1) is }

  pub refused_text : (r : Run) → IsRunAt policies seg before c r → (e : QueueError) (result : Result (Vec ℕ Global) SlateDBError) → CallsAs ends answer call own policies seg before after c d (Err e) →
      IfOk result (λ v. IsReply e × (v.items ≡ reply_line (Reply.Refused e))) → IfOk result (λ v. IsRunAt policies seg after d (called r (queue_step r.queue call)).0 × (v.items ≡ reply_line (called r (queue_step r.queue call)).1))
  refused_text r at e result refused text =
      if_ok_map result _ _ (λ v t. let said = refused_at r at e refused t.0 in (said.run, t.1 ∙ ap reply_line (sym said.is))) text

  pub refused_ends : ((x : SlateDBError) → own (errors.Db x) → ⊥) → (e : QueueError) (result : Result (Vec ℕ Global) SlateDBError) → CallsAs ends answer call own policies seg before after c d (Err e) →
      IfErr result (λ x. ((x ≡ OutOfMemory) × IsReply e) ⊎ ((e ≡ errors.Db x) × (x ≢ SequenceExhausted))) → IfErr result (Ends policies seg before after c d)
  refused_ends none e result refused cause = if_err_map result _ _ by cause
    where
      by : (x : SlateDBError) → ((x ≡ OutOfMemory) × IsReply e) ⊎ ((e ≡ errors.Db x) × (x ≢ SequenceExhausted)) → Ends policies seg before after c d x
      by x (inl memory) = ends_memory policies seg before after c d x memory.0
      by x (inr why) = ends_by own policies seg before after c d e x none refused.refused why.0 why.1 refused.cause

pub text_ends : (policies : List Policy) (seg : Segments) (before after : Reach) (c d : CoreModel) (result : Result (Vec ℕ Global) SlateDBError) → IfErr result (λ x. x ≡ OutOfMemory) → IfErr result (Ends policies seg before after c d)
text_ends policies seg before after c d result cause = if_err_map result _ _ (λ x memory. ends_memory policies seg before after c d x memory) cause

-- ---- the counts of faults

-- a refusal that is a reply blames no part
reply_still : (e : QueueError) (a b : Counts) → IsReply e → unblamed_if (db_error e) b ≡ unblamed_if (db_error e) a → b ≡ a
unfolding unblamed
reply_still (errors.Db x) a b reply same = subst (λ (y : SlateDBError). unblamed y b ≡ unblamed y a) reply same
reply_still _ a b reply same = same

pub refused_still : (e : QueueError) (a b : Counts) (result : Result (Vec ℕ Global) SlateDBError) → unblamed_if (db_error e) b ≡ unblamed_if (db_error e) a → IfOk result (λ v. IsReply e × (v.items ≡ reply_line (Reply.Refused e))) →
    IfErr result (λ x. ((x ≡ OutOfMemory) × IsReply e) ⊎ ((e ≡ errors.Db x) × (x ≢ SequenceExhausted))) → IsStill a b result
refused_still e a b (Ok v) same text cause = reply_still e a b text.0 same
refused_still e a b (Err x) same text (inl memory) = ap (unblamed x) (reply_still e a b memory.1 same)
refused_still e a b (Err x) same text (inr why) = subst (λ (q : QueueError). unblamed_if (db_error q) b ≡ unblamed_if (db_error q) a) why.0 same

-- ---- how many keys were changed

keys_are : (some changes : Ops) (n : ℕ) → kept_ops some ≡ kept_ops changes → length (batch_keys changes) ≡ n → length (batch_keys (kept_ops some)) ≡ n
keys_are some changes n is long = ap (λ ops. length (batch_keys ops)) is ∙ ap length (keeps_its_keys changes) ∙ long

-- ---- of an add

pub add_apart : (payload : List ℕ) (policies : List Policy) (before after : Reach) (c d : CoreModel) (x : SlateDBError) → AddRefuses payload policies before after c d (errors.Db x) → ⊥
add_apart payload policies before after c d x (inl long) = no long.1
  where
    no : errors.Db x ≡ errors.PayloadTooLong (length payload) → ⊥
    no e = cc
add_apart payload policies before after c d x (inr stops) = by (counter_in (value_of stops.all.answer)) stops.all.refusal
  where
    on : (b : Bool) → cond b (Some errors.IdsSpent) None ≡ Some (errors.Db x) → ⊥
    on true e = cc
    on false e = cc

    by : (o : Option ℕ) → counter_refusal o ≡ Some (errors.Db x) → ⊥
    by None e = cc
    by (Some counter) e = on (nat_le last_number counter) e

pub added_at : (policies : List Policy) (seg : Segments) (before after : Reach) (c d : CoreModel) (payload : List ℕ) (now : ℤ) (id : ℕ) (r : Run) → IsRunAt policies seg before c r →
    CallsAs (λ id. Commits (IsAddOf payload id) now c d) model.Answer.Added (Call.Add payload) (AddRefuses payload policies before after c d) policies seg before after c d (Ok id) →
    IsSaidAt policies seg after d (called r (queue_step r.queue (Call.Add payload))) (Reply.Answered (model.Answer.Added id))
added_at policies seg before after c d payload now id r at done =
    let h : Commits (IsAddOf payload id) now c d = done.done in
    done_at (λ id. Commits (IsAddOf payload id) now c d) model.Answer.Added (Call.Add payload) (AddRefuses payload policies before after c d) policies seg before after c d r at id 2 (IsAddOf payload id) now done h
    (keys_are (own_of h.steps) (added (h.is.0.counter + 1) h.is.0.payload) 2 h.is.0.by.kept refl) refl

-- ---- of a finish

pub finish_apart : (id lease : ℕ) (policies : List Policy) (before after : Reach) (c d : CoreModel) (x : SlateDBError) → FinishRefuses id lease policies before after c d (errors.Db x) → ⊥
finish_apart id lease policies before after c d x stops = by (job_in (value_of stops.all.answer)) stops.all.refusal
  where
    on : (a b : Bool) (n : ℕ) → cond a (cond b (Some (errors.StaleLease n)) None) (Some (errors.StaleLease n)) ≡ Some (errors.Db x) → ⊥
    on true true n e = cc
    on true false n e = cc
    on false b n e = cc

    by : (o : Option (Option Job)) → job_refusal id lease o ≡ Some (errors.Db x) → ⊥
    by None e = cc
    by (Some None) e = cc
    by (Some (Some j)) e = on (nat_eq j.lease lease) (nat_eq lease 0) j.lease e

pub finished_at : (policies : List Policy) (seg : Segments) (before after : Reach) (c d : CoreModel) (id lease : ℕ) (now : ℤ) (done : Unit) (r : Run) → IsRunAt policies seg before c r →
    CallsAs {T = Unit} (λ done. Commits (IsFinishOf id lease) now c d) (λ done. model.Answer.Finished) (Call.Finish id lease) (FinishRefuses id lease policies before after c d) policies seg before after c d (Ok done) →
    IsSaidAt policies seg after d (called r (queue_step r.queue (Call.Finish id lease))) (Reply.Answered model.Answer.Finished)
finished_at policies seg before after c d id lease now done r at call =
    let h : Commits (IsFinishOf id lease) now c d = call.done in
    done_at {T = Unit} (λ done. Commits (IsFinishOf id lease) now c d) (λ done. model.Answer.Finished) (Call.Finish id lease) (FinishRefuses id lease policies before after c d) policies seg before after c d r at done 1 (IsFinishOf id lease) now call h
    (keys_are (own_of h.steps) ((job_key h.is.0.id, Delete) ∷ []) 1 h.is.0.by.kept refl) refl

-- ---- of a claim

pub claim_apart : (now : ℤ) (policies : List Policy) (before after : Reach) (c d : CoreModel) (x : SlateDBError) → ClaimRefuses now policies before after c d (errors.Db x) → ⊥
claim_apart now policies before after c d x stops = by stops.all
  where
    by : ClaimStops now (errors.Db x) stops.steps → ⊥
    by (ClaimStops.bad passed kv passes bad steps) = no bad.4
      where
        no : errors.Db x ≡ errors.BadJob kv.key → ⊥
        no e = cc
    by (ClaimStops.spent kv id job takes spent is) = no is
      where
        no : errors.Db x ≡ errors.LeasesSpent id → ⊥
        no e = cc

pub claimed_at : (policies : List Policy) (seg : Segments) (before after : Reach) (c d : CoreModel) (now : ℤ) (ms : ℕ) (claim : Claim) (r : Run) → IsRunAt policies seg before c r →
    CallsAs (ClaimEnds now ms policies before after c d) claim_answer (Call.Claim now ms) (ClaimRefuses now policies before after c d) policies seg before after c d (Ok (Some claim)) →
    IsSaidAt policies seg after d (called r (queue_step r.queue (Call.Claim now ms))) (Reply.Answered (model.Answer.Claimed claim.id claim.lease claim.payload))
claimed_at policies seg before after c d now ms claim r at done =
    let h : Commits (IsClaimOf now ms claim) now c d = done.done in
    done_at (ClaimEnds now ms policies before after c d) claim_answer (Call.Claim now ms) (ClaimRefuses now policies before after c d) policies seg before after c d r at (Some claim) 1 (IsClaimOf now ms claim) now done h
    (keys_are (own_of h.steps) ((h.is.0.row.key, put_of (job_bytes (leased now h.is.0.ms h.is.0.job))) ∷ []) 1 h.is.0.by.kept refl) refl

pub none_claimed_at : (policies : List Policy) (seg : Segments) (before after : Reach) (c d : CoreModel) (now : ℤ) (ms : ℕ) (r : Run) → IsRunAt policies seg before c r →
    CallsAs (ClaimEnds now ms policies before after c d) claim_answer (Call.Claim now ms) (ClaimRefuses now policies before after c d) policies seg before after c d (Ok None) →
    IsSaidAt policies seg after d (called r (queue_step r.queue (Call.Claim now ms))) (Reply.Answered model.Answer.NoneFree)
none_claimed_at policies seg before after c d now ms r at done = none_at (ClaimEnds now ms policies before after c d) claim_answer (Call.Claim now ms) (ClaimRefuses now policies before after c d) policies seg before after c d r at None done (inr (done.done.id, done.done.ended)) refl

-- ---- what a line is answered

abbrev pub SaysAs : List Policy → Segments → Reach → Reach → CoreModel → CoreModel → Result (Vec ℕ Global) SlateDBError → Line → Type 0
SaysAs policies seg before after c d result line = (r : Run) → IsRunAt policies seg before c r → IfOk result (λ v. IsRunAt policies seg after d (stepped r line).0 × (v.items ≡ reply_line (stepped r line).1))

pub says_as : (policies : List Policy) (seg : Segments) (before after : Reach) (c d : CoreModel) (result : Result (Vec ℕ Global) SlateDBError) (line other : Line) → line ≡ other → SaysAs policies seg before after c d result other → SaysAs policies seg before after c d result line
says_as policies seg before after c d result line other same h = subst (SaysAs policies seg before after c d result) (sym same) h

pub feed_says : (policies : List Policy) (seg : Segments) (reach : Reach) (c : CoreModel) (result : Result (Vec ℕ Global) SlateDBError) (n : ℕ) →
    IfOk result (λ v. v.items ≡ reply_line (Reply.FeedIs (map fed_pair (feed_of n c.events)))) → SaysAs policies seg reach reach c c result (lines.Feed n)
feed_says policies seg reach c result n text = λ r at. if_ok_map result _ _ (λ v t. (at, t ∙ ap (λ es. reply_line (Reply.FeedIs es)) (at.fed n))) text

line_said : (r : Run) (line : List ℕ) (l : Line) → is_silent line ≡ false → meaning line ≡ Some l → (rest : List (List ℕ)) → says r (line ∷ rest) ≡ reply_line (stepped r l).1 ++ says (stepped r l).0 rest
line_said r line l s m rest = λ i. said_by (s i) (m i) r ++ says (after_by (s i) (m i) r) rest

silence_said : (r : Run) (line : List ℕ) → is_silent line ≡ true → (rest : List (List ℕ)) → says r (line ∷ rest) ≡ says r rest
silence_said r line s rest = λ i. said_by (s i) (meaning line) r ++ says (after_by (s i) (meaning line) r) rest

pub line_says : (policies : List Policy) (seg : Segments) (before after : Reach) (c d : CoreModel) (line : List ℕ) (l : Line) (text : Vec ℕ Global) (f : Says) → (is_silent line ≡ false) × (meaning line ≡ Some l) → SaysAs policies seg before after c d (Ok text) l →
    AnswersBy policies seg before c f → LineSays f (AnswersBy policies seg after d) line text.items
line_says policies seg before after c d line l text f means says_it h =
    let said = says_it h.0 h.1 in
    record {
      later = says (stepped h.0 l).0;
      answers = ((stepped h.0 l).0, said.0, λ ls. refl);
      said = λ rest. h.2 (line ∷ rest) ∙ line_said h.0 line l means.0 means.1 rest ∙ ap (λ bs. bs ++ says (stepped h.0 l).0 rest) (sym said.1);
    }

pub silence_says : (policies : List Policy) (seg : Segments) (reach : Reach) (c : CoreModel) (line : List ℕ) (f : Says) → is_silent line ≡ true → AnswersBy policies seg reach c f → LineSays f (AnswersBy policies seg reach c) line []
silence_says policies seg reach c line f silent h = record { later = f; answers = h; said = λ rest. h.2 (line ∷ rest) ∙ silence_said h.0 line silent rest ∙ sym (h.2 rest) }

pub taken_line : (line : List ℕ) (l : Line) → meaning line ≡ Some l → takes line ≡ true
taken_line line l means = ap (λ o. is_silent line || is_some o) means ∙ or_true (is_silent line)
  where
    or_true : (b : Bool) → (b || true) ≡ true
    or_true true = refl
    or_true false = refl

pub taken_silence : (line : List ℕ) → is_silent line ≡ true → takes line ≡ true
taken_silence line silent = ap (λ b. b || is_some (meaning line)) silent

not_taken : (line : List ℕ) → is_silent line ≡ false → meaning line ≡ None → takes line ≡ false
not_taken line loud none = λ i. loud i || is_some (none i)

-- a line that can't be read
pub unread : (policies : List Policy) (seg : Segments) (reach : Reach) (c : CoreModel) (line : List ℕ) (number : ℕ) (e : SlateDBError) → (e ≡ OutOfMemory) ⊎ ((e ≡ ScriptSyntax number) × (is_silent line ≡ false) × (meaning line ≡ None)) →
    ((e ≡ ScriptSyntax number) × (takes line ≡ false)) ⊎ Ends policies seg reach reach c c e
unread policies seg reach c line number e (inl memory) = inr (ends_memory policies seg reach reach c c e memory)
unread policies seg reach c line number e (inr why) = inl (why.0, not_taken line why.1 why.2)

-- the same call, whose moment is written otherwise
pub call_at : (policies : List Policy) (seg : Segments) (before after : Reach) (c d : CoreModel) (y z : ℤ) (ms : ℕ) (result : Result (Option Claim) QueueError) → y ≡ z →
    CallsAs (ClaimEnds y ms policies before after c d) claim_answer (Call.Claim y ms) (ClaimRefuses y policies before after c d) policies seg before after c d result → CallsAs (ClaimEnds z ms policies before after c d) claim_answer (Call.Claim z ms) (ClaimRefuses z policies before after c d) policies seg before after c d result
call_at policies seg before after c d y z ms result same h = subst (λ (now : ℤ). CallsAs (ClaimEnds now ms policies before after c d) claim_answer (Call.Claim now ms) (ClaimRefuses now policies before after c d) policies seg before after c d result) same h

-- ---- a refusal that is a reply

pub refused_db : (q : QueueError) (e : SlateDBError) (result : Result (Vec ℕ Global) SlateDBError) → q ≡ errors.Db e → IfOk result (λ v. (e ≡ SequenceExhausted) × (v.items ≡ reply_line (Reply.Refused (errors.Db e)))) →
    IfOk result (λ v. IsReply q × (v.items ≡ reply_line (Reply.Refused q)))
refused_db q e result is h = subst (λ (x : QueueError). IfOk result (λ v. IsReply x × (v.items ≡ reply_line (Reply.Refused x)))) (sym is) h

pub unsaid_db : (q : QueueError) (e : SlateDBError) (result : Result (Vec ℕ Global) SlateDBError) → q ≡ errors.Db e → IfErr result (λ x. ((x ≡ OutOfMemory) × (e ≡ SequenceExhausted)) ⊎ ((e ≡ x) × (x ≢ SequenceExhausted))) →
    IfErr result (λ x. ((x ≡ OutOfMemory) × IsReply q) ⊎ ((q ≡ errors.Db x) × (x ≢ SequenceExhausted)))
unsaid_db q e result is h = if_err_map result _ _ by h
  where
    by : (x : SlateDBError) → ((x ≡ OutOfMemory) × (e ≡ SequenceExhausted)) ⊎ ((e ≡ x) × (x ≢ SequenceExhausted)) → ((x ≡ OutOfMemory) × IsReply q) ⊎ ((q ≡ errors.Db x) × (x ≢ SequenceExhausted))
    by x (inl memory) = inl (memory.0, subst IsReply (sym is) memory.1)
    by x (inr why) = inr (is ∙ ap errors.Db why.0, why.1)

pub exhausted_text : (e : SlateDBError) (result : Result (Vec ℕ Global) SlateDBError) → e ≡ SequenceExhausted → IfOk result (λ v. v.items ≡ reply_line (Reply.Refused (errors.Db SequenceExhausted))) →
    IfOk result (λ v. (e ≡ SequenceExhausted) × (v.items ≡ reply_line (Reply.Refused (errors.Db e))))
exhausted_text e result is h = if_ok_map result _ _ (λ v t. (is, t ∙ ap (λ x. reply_line (Reply.Refused (errors.Db x))) (sym is))) h

pub reply_other : (q : QueueError) → ((e : SlateDBError) → q ≡ errors.Db e → ⊥) → IsReply q
reply_other (errors.PayloadTooLong len) other = tt
reply_other (errors.NoJob id) other = tt
reply_other (errors.StaleLease current) other = tt
reply_other (errors.LeasesSpent id) other = tt
reply_other errors.IdsSpent other = tt
reply_other (errors.BadJob key) other = tt
reply_other (errors.Db e) other = absurd (other e refl)
reply_other (errors.ForeignCommit seq) other = tt
