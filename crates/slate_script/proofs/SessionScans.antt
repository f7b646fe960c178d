-- The steps of lines that scan, under what a session stands for.
use Rattle.std.proofs.Common.{◌≡◌, ℕ, ◌⊎◌, inl, inr, List, ◌∷◌, Option, Some, None, Result, Ok, Err, IfErr, refl, sym, ap, ◌∙◌, subst}
use Rattle.std.specs.Prelude.{Bool, true, false, cond, IfSome, IsSome}
use Rattle.std.proofs.lemmas.Option.{same_Some}
use Rattle.std.specs.declared.ops.Bound.{Bound}
use Rattle.slate_types.specs.declared.bytes_range.BytesRange.{BytesRange}
use Rattle.slate_types.specs.declared.error.SlateDBError.{SlateDBError}
use Rattle.slate_types.specs.declared.error.SlateDBError.TheVariants as errors
use Rattle.slate_types.specs.declared.iter.IterationOrder.{IterationOrder}
use Rattle.slate_types.specs.declared.types.KeyValue.{KeyValue}
use Rattle.slate_types.specs.Keys.{behind, is_refused, prefix_end, prefix_start, prefix_subrange, range_of}
use Rattle.slate_script.proofs.BeginsLaws.{begins_in}
use Rattle.slate_types.specs.Outside.{IsFault, Reach}
use Rattle.slate_types.specs.World.{Made}
use Rattle.slate_mem.specs.KeyTests.{Segments}
use Rattle.slate_txn.specs.declared.event.TranscriptStep.{TranscriptStep}
use Rattle.slate_txn.specs.declared.event.TranscriptStep.TheVariants as steps
use Rattle.slate_txn.specs.declared.line.ScanStep.{ScanStep}
use Rattle.slate_txn.specs.declared.line.Line.TheVariants as lines
use Rattle.slate_txn.specs.Reads.{handed, rows_seen, walk}
use Rattle.slate_txn.specs.Reply as replies
use Rattle.slate_txn.specs.Reply.{Reply}
use Rattle.slate_txn.specs.State.{Commit, Rules, State}
use Rattle.slate_txn.specs.Step.{Reader, noted, reader, scan, scan_walked, step}
use Rattle.slate_db.proofs.RowDamage.{in_scan_kind}
use Rattle.slate_db.specs.Meaning.{Meaning, rules_in}
use Rattle.slate_db.specs.Model.{CoreModel}
use Rattle.slate_db.specs.Parts.{IsTableError}
use Rattle.slate_filter.specs.Policy.{Policy}
use Rattle.slate_db.specs.Scans.{IsRefusedInScan, IsScanError}
use Rattle.slate_language.specs.declared.reply.Answer.{Answer}
use Rattle.slate_language.specs.declared.reply.Answer.TheVariants as answers
use Rattle.slate_language.specs.Answers.{reply_of}
use Rattle.slate_script.specs.Scanning.{BeginsWith, EndsBelow, HandsOut, ScansAs}
use Rattle.slate_script.specs.Session.{SessionModel, IsLimit, IsStep, NamesStand, reader_id, reader_under}
use Rattle.slate_script.proofs.Running.{not_damage}
use Rattle.slate_script.proofs.SessionSteps.{ReadsAs, ReadsUnder, reads_as}

-- ---- the ranges of lines

pub range_same : (range : BytesRange) → is_refused range.start range.end ≡ false → range_of range.start range.end ≡ Some range
range_same range fits = ap (λ b. cond b None (Some range)) fits

pub bounds_fit : (start end : Bound (List ℕ)) (o : Option BytesRange) → o ≡ range_of start end → IfSome o (λ r. is_refused r.start r.end ≡ false)
bounds_fit start end o is = subst (λ (q : Option BytesRange). IfSome q (λ r. is_refused r.start r.end ≡ false)) (sym is) (by (is_refused start end) refl)
  where
    by : (b : Bool) → is_refused start end ≡ b → IfSome (cond b None (Some (record { start = start; end = end }))) (λ (r : BytesRange). is_refused r.start r.end ≡ false)
    by true e = tt
    by false e = e

pub composed_fits : (p : List ℕ) (start end : Bound (List ℕ)) (o : Option BytesRange) → o ≡ prefix_subrange p start end → IfSome o (λ r. is_refused r.start r.end ≡ false)
composed_fits p start end o is = bounds_fit (behind p start (prefix_start p)) (behind p end (prefix_end p)) o is

-- without a prefix there is nothing to begin with
pub begins_none : (o : Option BytesRange) → IfSome o (λ r. BeginsWith None r)
begins_none None = tt
begins_none (Some r) = λ p k e within. cc

-- each key of a composed range begins with what is asked for
pub begins_behind : (p : List ℕ) (start end : Bound (List ℕ)) (given : Option (List ℕ)) (o : Option BytesRange) → IfSome given (λ q. (q ≡ p) × EndsBelow q) → o ≡ prefix_subrange p start end → IfSome o (λ r. BeginsWith given r)
begins_behind p start end given None asked is = tt
begins_behind p start end given (Some r) asked is = λ q k e within.
    let here = subst (λ (x : Option (List ℕ)). IfSome x (λ q. (q ≡ p) × EndsBelow q)) e asked in
    begins_in q start end r k here.1 (ap (λ x. prefix_subrange x start end) here.0 ∙ sym is) within

-- ---- scans

pub scan_refused : (m : Meaning) (seg : Segments) (e : SessionModel) (name : List ℕ) (order : IterationOrder) (range : Option BytesRange) (sts : List ScanStep) (o : Option (List ℕ)) → ReadsUnder e name o → o ≡ None →
    ScansAs m seg e e name order range sts (Ok (answers.Refused (errors.UnknownTransaction name)))
scan_refused m seg e name order range sts o reads none s h =
    subst (λ p. IsStep e (scan (rules_in e.core.settings m seg) s name order range sts p) (answers.Refused (errors.UnknownTransaction name)))
    (sym (reads s h ∙ ap (reader_under e.core.state) none)) (h, refl)

-- a range that is none
pub range_refused : (m : Meaning) (seg : Segments) (e : SessionModel) (name id : List ℕ) (order : IterationOrder) (given : Option BytesRange) (sts : List ScanStep) (o : Option (List ℕ)) → ReadsUnder e name o → IfSome o (λ i. IsSome (reader e.core.state i)) → o ≡ Some id → given ≡ None →
    ScansAs m seg e e name order given sts (Ok (answers.Refused errors.InvalidRange))
range_refused m seg e name id order given sts o reads live is none s h = by (reader e.core.state id) refl (subst (λ p. IfSome p (λ i. IsSome (reader e.core.state i))) is live)
  where
    by : (p : Option Reader) → reader e.core.state id ≡ p → IsSome p → IsStep e (scan (rules_in e.core.settings m seg) s name order given sts (reader s name)) (answers.Refused errors.InvalidRange)
    by None there some = cc
    by (Some from) there some =
        subst (λ q. IsStep e (scan (rules_in e.core.settings m seg) s name order given sts q) (answers.Refused errors.InvalidRange)) (sym (reads s h ∙ ap (reader_under e.core.state) is ∙ there))
        (subst (λ range. IsStep e (scan (rules_in e.core.settings m seg) s name order range sts (Some from)) (answers.Refused errors.InvalidRange)) (sym none) (h, refl))

-- the core's answer is the model's
pub scan_found : (m : Meaning) (seg : Segments) (e : SessionModel) (core : CoreModel) (name id : List ℕ) (order : IterationOrder) (given : Option BytesRange) (range : BytesRange) (sts : List ScanStep) (rows : List KeyValue) (a : Answer) →
    NamesStand e.names e.snapshot_names e.core.state.txns e.core.state.snapshots → reader_id e name ≡ Some id → given ≡ Some range → is_refused range.start range.end ≡ false →
    step (rules_in e.core.settings m seg) e.core.state (lines.Scan id order range.start range.end sts) ≡ (core.state, replies.RowsAre rows) → reply_of a ≡ replies.RowsAre rows →
    ScansAs m seg e (record e { core = core }) name order given sts (Ok a)
scan_found m seg e core name id order given range sts rows a stand known some fits stepped is s h =
    subst (λ o. IsStep after (scan r s name order given sts o) a) (sym reads.here)
    (subst (λ q. IsStep after (scan r s name order q sts (Some reads.from)) a) (sym some) (
      reads.notes (steps.Scan order range ∷ taken s.commits) core (sym (ap (λ p. p.0) core_step) ∙ noted_same),
      is ∙ sym (ap (λ p. p.1) core_step) ∙ ap (λ cs. replies.RowsAre (handed (taken cs))) (sym h.commits),
    ))
  where
    r : Rules
    r = rules_in e.core.settings m seg

    c : State
    c = e.core.state

    after : SessionModel
    after = record e { core = core }

    reads : ReadsAs e s name id
    reads = reads_as e s name id h stand known

    taken : List Commit → List TranscriptStep
    taken cs = walk order reads.from.scans (rows_seen r cs reads.from.at reads.from.ops order range) sts

    core_step : scan_walked c id order range (taken c.commits) ≡ (core.state, replies.RowsAre rows)
    core_step =
        sym (ap (λ q. scan r c id order q sts (reader c id)) (range_same range fits)
        ∙ ap (scan r c id order (Some range) sts) reads.there)
        ∙ stepped

    noted_same : noted c id (steps.Scan order range ∷ taken c.commits) ≡ noted c id (steps.Scan order range ∷ taken s.commits)
    noted_same = ap (λ cs. noted c id (steps.Scan order range ∷ taken cs)) (sym h.commits)

-- what the scan of the core handed out, by the session's own fields
pub scan_handed : (m : Meaning) (seg : Segments) (before e : SessionModel) (core : CoreModel) (name id : List ℕ) (order : IterationOrder) (given : Option BytesRange) (range : BytesRange) (sts slice : List ScanStep) (rows : List KeyValue) (a : Answer) → before ≡ e →
    NamesStand before.names before.snapshot_names before.core.state.txns before.core.state.snapshots → reader_id before name ≡ Some id → given ≡ Some range → is_refused range.start range.end ≡ false → slice ≡ sts → reply_of a ≡ replies.RowsAre rows →
    HandsOut m seg before.core core id order range slice rows → ScansAs m seg e (record before { core = core }) name order given sts (Ok a)
scan_handed m seg before e core name id order given range sts slice rows a same stand known some fits taken is hands =
    subst (λ (v : SessionModel). ScansAs m seg v (record before { core = core }) name order given sts (Ok a)) same
    (scan_found m seg before core name id order given range sts rows a stand known some fits (subst (λ (l : List ScanStep). HandsOut m seg before.core core id order range l rows) taken hands) is)

-- ---- why it is refused

pub scan_limit : {V : Type 0} (policies : List Policy) (result : Result V SlateDBError) (before after : Reach) (e : SessionModel) → IfErr result (IsScanError policies before after e.core) → IfErr result (λ x. IsFault before after x ⊎ IsLimit e x ⊎ IsTableError x)
scan_limit policies (Ok v) before after e cause = tt
scan_limit policies (Err x) before after e (inl fault) = inl fault
scan_limit policies (Err x) before after e (inr made) = inr (inr (in_scan_kind policies before.meaning e.core made.0 x made.2))

pub scan_shown : {V : Type 0} (policies : List Policy) (result : Result V SlateDBError) (before after : Reach) (e : SessionModel) → IfErr result (IsScanError policies before after e.core) → IfErr result (λ x. IsTableError x → Made before after (λ reads. IsRefusedInScan policies before.meaning e.core reads x))
scan_shown policies (Ok v) before after e cause = tt
scan_shown policies (Err x) before after e (inl fault) = λ error. absurd (not_damage {X = Unit {0}} before.faults after.faults x (inl fault) error)
scan_shown policies (Err x) before after e (inr made) = λ error. made
