-- What a line is answered, from what is answered to its kind.
--     unasked      a line that reaches nothing, and is no get, does nothing
--     of_line, within_answers, read_answers, write_answers, failed_answers      a line that asks nothing outside, a get or a scan, one that may call the operator, and one that failed
use Rattle.std.proofs.Common.{◌≡◌, ◌⊎◌, inl, inr, ℕ, List, Option, Some, Result, Ok, Err, OnOk, refl, sym, subst}
use Rattle.std.specs.Prelude.{IfErr}
use Rattle.slate_types.specs.declared.error.SlateDBError.{SlateDBError}
use Rattle.slate_types.specs.Outside.{Objects, Reach, IsFault, IsStill, OnlyReads, Puts}
use Rattle.slate_types.specs.World.{Made}
use Rattle.slate_types.proofs.Reaching.{reads_none, reads_put_nothing}
use Rattle.slate_filter.specs.Policy.{Policy}
use Rattle.slate_txn.specs.declared.line.Line.{Line}
use Rattle.slate_txn.specs.declared.line.Line.TheVariants as lines
use Rattle.slate_db.specs.Answered.{AddsActs}
use Rattle.slate_db.specs.Checked.{OrSlips}
use Rattle.slate_db.specs.Flushed.{Layout}
use Rattle.slate_db.specs.Parts.{IsTableError}
use Rattle.slate_db.specs.Readable.{reader_at}
use Rattle.slate_db.specs.Sound.{IsKept}
use Rattle.slate_db.specs.Settled.{IsSettled, IsSettledIn}
use Rattle.slate_db.proofs.Settled.{settled_answered, settled_readable, true_answered}
use Rattle.slate_language.specs.declared.reply.Answer.{Answer}
use Rattle.slate_script.specs.Calls.Line.{Answers, AnswersByRead, AnswersWithin, AnswersByWrite, AsksAt}
use Rattle.slate_script.specs.Session.{SessionModel, StepsAs, Grows, IsLimit, StoresNothing}
use Rattle.slate_script.specs.Told.{IsRefusedAt, IsUntrue, asking_for}
use Rattle.slate_script.proofs.LineReads.{nothing_added, nothing_put}
use Rattle.slate_script.proofs.Running.{always, not_damage}
use Rattle.slate_script.proofs.LineEnds.{keeps_core, keeps_settings, keeps_settled, limit_between, memory_or_limit, no_damage, no_error, or_damage, or_limit, stores_at}
use Rattle.slate_script.proofs.SessionScans.{scan_limit}
use Rattle.slate_script.proofs.Slips.{adds_reads, always_holds}
use Rattle.slate_script.proofs.TablesAlone.{stays_where}
use Rattle.slate_script.proofs.ToldLaws.{follows_reads, stores_none, untrue_get}

-- of a line that is this one
pub of_line : {layout : Layout} {line named : Line} {before after : Reach} {old new : SessionModel} {result : Result Answer SlateDBError} → line ≡ named → Answers layout line before after old new result → Answers layout named before after old new result
of_line {layout = layout} {before = before} {after = after} {old = old} {new = new} {result = result} is a = subst (λ (l : Line). Answers layout l before after old new result) is a

pub unasked : (policies : List Policy) (line : Line) (reach : Reach) (old : SessionModel) (result : Result Answer SlateDBError) → ((name k : List ℕ) → line ≡ lines.Get name k → ⊥) → AsksAt policies line reach reach old result
unasked policies (lines.Get name k) reach old result others = absurd (others name k refl)
unasked policies (lines.Scan name order start end sts) reach old result others = (reads_none reach).acts
unasked policies (lines.Prefix name order p start end sts) reach old result others = (reads_none reach).acts
unasked policies lines.Flush reach old result others = always result (nothing_put reach.acts)
unasked policies line reach old result others = always result (nothing_added reach.acts)

-- a line that stores nothing, and puts nothing
quiet : (layout : Layout) (line : Line) (before after : Reach) (old new : SessionModel) (result : Result Answer SlateDBError) →
    (IsSettledIn layout.policies layout.segments before old.core → StepsAs before.meaning layout.segments old new line result) →
    ((os : Objects) → IsSettled layout.policies before.meaning layout.segments (Some os) old.core → OrSlips os before after (StepsAs before.meaning layout.segments old new line result)) →
    OnOk result (StoresNothing before.meaning layout.segments old new) → OnOk result (Grows line old new) →
    IfErr result (λ e. IsFault before after e ⊎ IsLimit old e ⊎ IsTableError e) →
    (IsSettledIn layout.policies layout.segments before old.core → IfErr result (λ e. IsFault before after e ⊎ IsLimit old e)) →
    ((os : Objects) → IsSettled layout.policies before.meaning layout.segments (Some os) old.core → IfErr result (λ e. IsTableError e → IsUntrue os before.acts after.acts)) →
    IfErr result (λ e. IsTableError e → Made before after (λ reads. IsRefusedAt layout.policies line before.meaning old.core reads e)) → OnlyReads before after → IsStill before.faults after.faults result →
    AsksAt layout.policies line before after old result → Answers layout line before after old new result
quiet layout line before after old new result step checked stores grows cause undamaged untrue shown reads still asked = record {
  honest = λ settled. record {
    step = step settled;
    kept = keeps_settled result layout.policies before.meaning layout.segments before.objects after.objects old new reads.objects stores settled;
    alone = stays_where before.meaning layout.segments result before.meaning layout before.objects after.objects old new reads.objects stores;
    undamaged = undamaged settled;
  };
  told = λ os settled. record {
    step = checked os settled;
    follows = follows_reads result layout.policies before.meaning layout.segments os old new before.acts after.acts reads.acts stores settled;
    untrue = untrue os settled;
  };
  sound = λ kept. record { kept = keeps_core result before.meaning layout.segments old new stores kept; shown = shown };
  settings = keeps_settings before.meaning layout.segments result old new stores;
  grows = grows;
  cause = cause;
  tables = stores_none before.meaning layout.segments result old new before.acts after.acts reads.acts stores;
  asked = asked;
  adds = adds_reads before.acts after.acts reads.acts;
  puts = reads_put_nothing before after reads;
  still = still;
}

pub within_answers : (layout : Layout) (line : Line) (reach : Reach) (old new : SessionModel) (result : Result Answer SlateDBError) → AnswersWithin line old new result → AsksAt layout.policies line reach reach old result → Answers layout line reach reach old new result
within_answers layout line reach old new result a asked =
    let cause = memory_or_limit result reach.faults reach.faults old a.cause in
    quiet layout line reach reach old new result (λ settled. a.step reach.meaning layout.segments) (λ os settled. always_holds _ os reach reach (a.step reach.meaning layout.segments))
    (stores_at result reach.meaning layout.segments old new a.stores) a.grows (or_damage result reach.faults reach.faults old cause) (λ settled. cause)
    (λ os settled. no_damage _ result reach.faults reach.faults old cause) (no_error _ result reach.faults reach.faults old cause) (reads_none reach) refl asked

-- given: had of a settled session
pub write_answers : {given : Type 0} (layout : Layout) (line : Line) (before after : Reach) (old new : SessionModel) (result : Result Answer SlateDBError) → ((objects : Option Objects) → IsSettled layout.policies before.meaning layout.segments objects old.core → given) →
    AnswersByWrite given layout.segments line before after old new result → AsksAt layout.policies line before after old result → Answers layout line before after old new result
write_answers layout line before after old new result given a asked =
    quiet layout line before after old new result (λ settled. a.step (given before.objects settled)) (λ os settled. always_holds _ os before after (a.step (given (Some os) settled)))
    a.stores a.grows (or_damage result before.faults after.faults old a.cause) (λ settled. a.cause)
    (λ os settled. no_damage _ result before.faults after.faults old a.cause) (no_error _ result before.faults after.faults old a.cause) a.reads a.still asked

read_cause : (policies : List Policy) (line : Line) (result : Result Answer SlateDBError) (before after : Reach) (e : SessionModel) → IfErr result (λ x. IsFault before after x ⊎ Made before after (λ reads. IsRefusedAt policies line before.meaning e.core reads x)) →
    IfErr result (λ x. IsFault before after x ⊎ IsLimit e x ⊎ IsTableError x)
read_cause policies line (Ok v) before after e cause = tt
read_cause policies (lines.Get name key) (Err x) before after e (inl fault) = inl fault
read_cause policies (lines.Get name key) (Err x) before after e (inr made) = limit_between {V = Answer} (Err x) (asking_for policies key) (reader_at e.core.state made.2.0) before after e (inr (made.0, made.1, made.2.1))
read_cause policies (lines.Scan name order start end sts) (Err x) before after e cause = scan_limit {V = Answer} policies (Err x) before after e cause
read_cause policies (lines.Prefix name order p start end sts) (Err x) before after e cause = scan_limit {V = Answer} policies (Err x) before after e cause
read_cause policies line (Err x) before after e (inl fault) = inl fault
read_cause policies line (Err x) before after e (inr made) = absurd made.2

read_shown : (policies : List Policy) (line : Line) (result : Result Answer SlateDBError) (before after : Reach) (e : SessionModel) → IfErr result (λ x. IsFault before after x ⊎ Made before after (λ reads. IsRefusedAt policies line before.meaning e.core reads x)) →
    IfErr result (λ x. IsTableError x → Made before after (λ reads. IsRefusedAt policies line before.meaning e.core reads x))
read_shown policies line (Ok v) before after e cause = tt
read_shown policies line (Err x) before after e (inl fault) = λ error. absurd (not_damage {X = Unit {0}} before.faults after.faults x (inl fault) error)
read_shown policies line (Err x) before after e (inr made) = λ error. made

pub read_answers : (layout : Layout) (line : Line) (before after : Reach) (old new : SessionModel) (result : Result Answer SlateDBError) → AnswersByRead layout.policies line before after old new result → AsksAt layout.policies line before after old result → Answers layout line before after old new result
read_answers layout line before after old new result a asked =
    quiet layout line before after old new result (λ settled. a.step (settled_answered layout.policies before after old.core settled) layout.segments) (λ os settled. a.checked os (settled_readable layout.policies before.meaning os old.core settled) layout.segments)
    (stores_at result before.meaning layout.segments old new a.stores) a.grows (read_cause layout.policies line result before after old a.cause)
    (λ settled. or_limit result before.faults after.faults old (a.undamaged (settled_answered layout.policies before after old.core settled)))
    (λ os settled. untrue_get result os before.acts after.acts before.faults after.faults a.reads.acts (λ answers. a.undamaged (true_answered layout.policies before after os old.core settled (inr answers))))
    (read_shown layout.policies line result before after old a.cause) a.reads a.still asked

-- sound: which error it is, where what is kept of the rows holds
pub failed_answers : {x : SlateDBError} (layout : Layout) (line : Line) (before after : Reach) (old new : SessionModel) (result : Result Answer SlateDBError) → result ≡ Err x → IsFault before after x ⊎ IsLimit old x ⊎ IsTableError x → (IsKept before.meaning old.core → IsFault before after x ⊎ IsLimit old x) →
    AddsActs before.acts after.acts → Puts before after → IsStill {A = Answer} before.faults after.faults (Err x) → AsksAt {A = Answer} layout.policies line before after old (Err x) → Answers layout line before after old new result
failed_answers {x = x} layout line before after old new result is cause sound adds puts still asked = subst (λ (r : Result Answer SlateDBError). Answers layout line before after old new r) (sym is) (record {
  honest = λ settled. record { step = λ s stands. tt; kept = tt; alone = λ alone. tt; undamaged = sound settled.kept };
  told = λ os settled. record {
    step = always_holds _ os before after (λ s stands. tt);
    follows = tt;
    untrue = λ damage. absurd (not_damage before.faults after.faults x (sound settled.kept) damage);
  };
  sound = λ kept. record { kept = tt; shown = λ error. absurd (not_damage before.faults after.faults x (sound kept) error) };
  settings = tt;
  grows = tt;
  cause = cause;
  tables = tt;
  asked = asked;
  adds = adds;
  puts = puts;
  still = still;
})
