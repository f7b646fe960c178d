-- A run over lines, from line to line: what one line keeps, what some lines keep, what more of them keep behind these, and what ends a run behind them.
--     RepliesTo policies seg line n before after c d result      the reply to the line with this number, and what it keeps
--     GoesBetween policies reach core ended p q n      what so many lines keep, from a program's value to another
--     EndsBetween policies reach core ended p q e      what ends a run between them
use Rattle.std.proofs.Common.{◌≡◌, ◌⊎◌, inl, inr, ℕ, ◌+◌, ◌*◌, ◌≤◌, Bool, true, false, List, Option, Result, None, option_map, refl, sym, ap, subst, ◌∙◌, arith}
use Rattle.std.specs.Prelude.{IfErr, IfOk, OnOk}
use Rattle.std.specs.Global.{Vec}
use Rattle.slate_types.specs.declared.error.SlateDBError.{SlateDBError}
use Rattle.slate_types.specs.declared.error.SlateDBError.TheVariants as errors
use Rattle.slate_types.specs.declared.error.SlateDBError.TheVariants.{LimitReached, OutOfMemory, StoreFault, Callback, BlockTransformError}
use Rattle.slate_types.specs.Lawful.{Lengths}
use Rattle.slate_types.specs.Outside.{IsCounted, IsFault, IsStill, Counts, Meaning, Reach, unblamed}
use Rattle.slate_types.proofs.Reaching.{fault_earlier, reads_none, reads_then}
use Rattle.slate_store.specs.Run.{IsProgramError, LineSays, Says, said_by}
use Rattle.slate_filter.specs.Policy.{Policy}
use Rattle.slate_mem.specs.KeyTests.{Segments}
use Rattle.slate_db.specs.Flushed.{NoPlace}
use Rattle.slate_db.specs.Load.{weight}
use Rattle.slate_db.specs.Log.{LIMIT}
use Rattle.slate_db.specs.Meaning.{segments_by}
use Rattle.slate_db.specs.Model.{CoreModel}
use Rattle.slate_db.specs.Readable.{reader_at}
use Rattle.slate_db.specs.Parts.{IsTableError}
use Rattle.slate_db.specs.SerialLaws.{IsVouchedCore}
use Rattle.slate_db.proofs.RowDamage.{in_scan_kind}
use Rattle.slate_db.proofs.Shown.{refused_kind}
use Rattle.slate_steps.specs.Reads.{IsReadError}
use Rattle.slate_queue.specs.Runs.{AnswersBy, Ends, GoesOn, WhyEnds}
use Rattle.slate_queue.specs.Script.{takes}

-- ---- one line

pub record RepliesTo (policies : List Policy) (seg : Segments) (line : List ℕ) (n : ℕ) (before after : Reach) (c d : CoreModel) (result : Result (Option (Vec ℕ)) SlateDBError) : Type 0 where
  pub own : OnOk result (takes line ≡ true)
  pub said : (f : Says) → AnswersBy policies seg before c f → IfOk result (λ o. LineSays f (AnswersBy policies seg after d) line (said_by (option_map (λ t. t.items) o)))
  pub goes : GoesOn policies seg before after c d 1
  pub still : IsStill before.faults after.faults result
  pub cause : IfErr result (λ e. ((e ≡ errors.ScriptSyntax n) × (takes line ≡ false)) ⊎ Ends policies seg before after c d e)

-- the same where no key has a segment
pub replies_plain : {X : Type 0} {policies : List Policy} {line : List ℕ} {n : ℕ} {a b : Reach} {c d : CoreModel} {result : Result (Option (Vec ℕ)) SlateDBError} (lengths : X → Lengths) (o : Option X) → o ≡ None →
    RepliesTo policies (segments_by lengths o) line n a b c d result → RepliesTo policies None line n a b c d result
replies_plain {policies = policies} {line = line} {n = n} {a = a} {b = b} {c = c} {d = d} {result = result} lengths o none h = subst (λ x. RepliesTo policies (segments_by lengths x) line n a b c d result) none h

-- ---- lines behind lines

pub goes_none : (policies : List Policy) (seg : Segments) (a : Reach) (c : CoreModel) → GoesOn policies seg a a c c 0
goes_none policies seg a c = record { reads = reads_none a; settled = λ s. s; vouched = λ s v. v; queue = λ h. h; grows = omega arith }

pub goes_same : (policies : List Policy) (seg : Segments) (a : Reach) (c : CoreModel) → GoesOn policies seg a a c c 1
goes_same policies seg a c = record { reads = reads_none a; settled = λ s. s; vouched = λ s v. v; queue = λ h. h; grows = omega arith }

goes_then : (policies : List Policy) (seg : Segments) (a b e : Reach) (c d f : CoreModel) (n m : ℕ) → GoesOn policies seg a b c d n → GoesOn policies seg b e d f m → GoesOn policies seg a e c f (n + m)
goes_then policies seg a b e c d f n m p q = record {
  reads = reads_then a b e p.reads q.reads;
  settled = λ s. q.settled (p.settled s);
  vouched = λ s v. subst (λ (x : Meaning). IsVouchedCore x f) p.reads.meaning (q.vouched (p.settled s) (subst (λ (x : Meaning). IsVouchedCore x d) (sym p.reads.meaning) (p.vouched s v)));
  queue = λ h. q.queue (p.queue h);
  grows = let x : weight d ≤ weight c + 2 * n = p.grows in let y : weight f ≤ weight d + 2 * m = q.grows in omega arith;
}

ends_later : (policies : List Policy) (seg : Segments) (a b e : Reach) (c d f : CoreModel) (n : ℕ) (x : SlateDBError) → GoesOn policies seg a b c d n → Ends policies seg b e d f x → Ends policies seg a e c f x
ends_later policies seg a b e c d f n x p h = record { why = by h.why; settled = λ s. on (h.settled (p.settled s)) }
  where
    by : WhyEnds policies seg b e d f x → WhyEnds policies seg a e c f x
    by (WhyEnds.by_fault fault) = WhyEnds.by_fault (fault_earlier a b e x p.reads.later fault)
    by (WhyEnds.by_read m between k id q r) = WhyEnds.by_read (n + m) between k id (goes_then policies seg a b between c d k n m p q) r
    by (WhyEnds.by_limit is place) = WhyEnds.by_limit is place

    on : IsFault b e x ⊎ ((x ≡ LimitReached LIMIT) × NoPlace 2 f) → IsFault a e x ⊎ ((x ≡ LimitReached LIMIT) × NoPlace 2 f)
    on (inl fault) = inl (fault_earlier a b e x p.reads.later fault)
    on (inr limit) = inr limit

-- ---- which errors end a run

counted_program : (i j : Counts) (x : SlateDBError) → IsCounted i j x → IsProgramError x
counted_program i j OutOfMemory h = tt
counted_program i j StoreFault h = tt
counted_program i j (Callback m) h = tt
counted_program i j BlockTransformError h = tt
counted_program i j _ h = absurd h

table_program : (x : SlateDBError) → IsTableError x → IsProgramError x
table_program (errors.ChecksumMismatch s t) h = tt
table_program (errors.InvalidRowFlags f) h = tt
table_program (errors.CorruptTable at) h = tt
table_program (errors.InvalidFilterBlock n) h = tt
table_program (errors.InvalidSequenceOrder s t) h = tt
table_program errors.MergeOperatorMissing h = tt
table_program _ h = absurd h

read_program : (policies : List Policy) (a b : Reach) (c : CoreModel) (x : SlateDBError) → IsReadError policies a b c x → IsProgramError x
read_program policies a b c x (IsReadError.of_get id query (inl fault)) = counted_program a.faults b.faults x fault
read_program policies a b c x (IsReadError.of_get id query (inr made)) = table_program x (refused_kind (record { policies = policies; query = query }) (reader_at c.state id) a.meaning c made.0 x made.2)
read_program policies a b c x (IsReadError.of_scan (inl fault)) = counted_program a.faults b.faults x fault
read_program policies a b c x (IsReadError.of_scan (inr made)) = table_program x (in_scan_kind policies a.meaning c made.0 x made.2)

program_error : (policies : List Policy) (seg : Segments) (a b : Reach) (c d : CoreModel) (x : SlateDBError) → Ends policies seg a b c d x → IsProgramError x
program_error policies seg a b c d x h = by h.why
  where
    by : WhyEnds policies seg a b c d x → IsProgramError x
    by (WhyEnds.by_fault fault) = counted_program a.faults b.faults x fault
    by (WhyEnds.by_read m between k id q r) = read_program policies r.from r.upto r.core x r.refused
    by (WhyEnds.by_limit is place) = subst IsProgramError (sym is) tt

-- ---- between a program's values

-- P: the values of a program; policies, reach, core, ended: what each of them holds. Where no line has ended the run, no count of faults rose
pub record GoesBetween {P : Type 0} (policies : P → List Policy) (reach : P → Reach) (core : P → CoreModel) (ended : P → Bool) (p q : P) (n : ℕ) : Type 0 where
  pub same : policies q ≡ policies p
  pub goes : GoesOn (policies p) None (reach p) (reach q) (core p) (core q) n
  pub still : ended q ≡ false → (ended p ≡ false) × ((reach q).faults ≡ (reach p).faults)

pub record EndsBetween {P : Type 0} (policies : P → List Policy) (reach : P → Reach) (core : P → CoreModel) (ended : P → Bool) (p q : P) (e : SlateDBError) : Type 0 where
  pub error : Ends (policies p) None (reach p) (reach q) (core p) (core q) e
  pub going : ended p ≡ false
  pub still : unblamed e (reach q).faults ≡ unblamed e (reach p).faults

pub between_none : {P : Type 0} (policies : P → List Policy) (reach : P → Reach) (core : P → CoreModel) (ended : P → Bool) (p : P) → GoesBetween policies reach core ended p p 0
between_none policies reach core ended p = record { same = refl; goes = goes_none (policies p) None (reach p) (core p); still = λ h. (h, refl) }

pub between_both : {P : Type 0} {policies : P → List Policy} {reach : P → Reach} {core : P → CoreModel} {ended : P → Bool} {a b c : P} {n m : ℕ} →
    GoesBetween policies reach core ended a b n → GoesBetween policies reach core ended b c m → GoesBetween policies reach core ended a c (n + m)
between_both {policies = policies} {reach = reach} {core = core} {a = a} {b = b} {c = c} {n = n} {m = m} p q = record {
  same = q.same ∙ p.same;
  goes = goes_then (policies a) None (reach a) (reach b) (reach c) (core a) (core b) (core c) n m p.goes (subst (λ ps. GoesOn ps None (reach b) (reach c) (core b) (core c) m) p.same q.goes);
  still = λ h. let later = q.still h in let first = p.still later.0 in (first.0, later.1 ∙ first.1);
}

pub between_ended : {P A : Type 0} {policies : P → List Policy} {reach : P → Reach} {core : P → CoreModel} {ended : P → Bool} {p q : P} {e : SlateDBError} → ended p ≡ false → unblamed e (reach q).faults ≡ unblamed e (reach p).faults →
    A ⊎ Ends (policies p) None (reach p) (reach q) (core p) (core q) e → A ⊎ EndsBetween policies reach core ended p q e
between_ended going still (inl h) = inl h
between_ended going still (inr h) = inr (record { error = h; going = going; still = still })

pub between_later : {P : Type 0} {policies : P → List Policy} {reach : P → Reach} {core : P → CoreModel} {ended : P → Bool} {a b c : P} {n : ℕ} {e : SlateDBError} →
    GoesBetween policies reach core ended a b n → EndsBetween policies reach core ended b c e → EndsBetween policies reach core ended a c e
between_later {policies = policies} {reach = reach} {core = core} {a = a} {b = b} {c = c} {n = n} {e = e} p q =
    let first = p.still q.going in
    record {
      error = ends_later (policies a) None (reach a) (reach b) (reach c) (core a) (core b) (core c) n e p.goes (subst (λ ps. Ends ps None (reach b) (reach c) (core b) (core c) e) p.same q.error);
      going = first.0;
      still = q.still ∙ ap (unblamed e) first.1;
    }

pub between_apart : {P : Type 0} {policies : P → List Policy} {reach : P → Reach} {core : P → CoreModel} {ended : P → Bool} {a b : P} {e : SlateDBError} → EndsBetween policies reach core ended a b e → IsProgramError e
between_apart {policies = policies} {reach = reach} {core = core} {a = a} {b = b} {e = e} p = program_error (policies a) None (reach a) (reach b) (core a) (core b) e p.error
