-- Calls on a scan, one after the other.
use Rattle.std.proofs.Common.{◌≡◌, ℕ, ◌+◌, ◌<◌, ◌≤◌, ◌⊎◌, inl, inr, false, cond, List, [], ◌∷◌, ◌++◌, length, drop, get_or, Option, Some, None, Result, Ok, Err, IfOk, IfErr, OnOk, refl, sym, ap, ◌∙◌, subst, append-nil, append_assoc, arith}
use Rattle.std.specs.Prelude.{IsSome, OnErr, count_by}
use Rattle.std.proofs.lemmas.List.{length-append}
use Rattle.slate_types.specs.declared.bytes_range.BytesRange.{BytesRange}
use Rattle.slate_types.specs.declared.error.SlateDBError.{SlateDBError}
use Rattle.slate_types.specs.declared.error.SlateDBError.TheVariants.{OutOfMemory}
use Rattle.slate_types.specs.declared.filter_policy.FilterQuery.{FilterQuery}
use Rattle.slate_types.specs.declared.iter.IterationOrder.{IterationOrder}
use Rattle.slate_types.specs.declared.types.KeyValue.{KeyValue}
use Rattle.slate_types.specs.declared.types.RowEntry.{RowEntry}
use Rattle.slate_types.specs.Iteration.{drop_before}
use Rattle.slate_types.specs.Keys.{is_refused}
use Rattle.slate_types.specs.Outside.{Act, IsFault, Objects, OnlyReads, Reach}
use Rattle.slate_types.specs.Refusing.{NoMore}
use Rattle.slate_types.specs.World.{World, Checks, Made, Sees}
use Rattle.slate_types.proofs.Calls.{call_none, call_both, checks_none, checks_both, no_more_both, sees_first, sees_last}
use Rattle.slate_types.proofs.Reaching.{fault_earlier}
use Rattle.slate_filter.specs.Policy.{Policy}
use Rattle.slate_mem.specs.KeyTests.{Segments}
use Rattle.slate_txn.specs.declared.event.TranscriptStep.{TranscriptStep}
use Rattle.slate_txn.specs.declared.event.TranscriptStep.TheVariants as steps
use Rattle.slate_txn.specs.declared.line.ScanStep.{ScanStep}
use Rattle.slate_txn.specs.declared.line.ScanStep.TheVariants.{Rows, Seek}
use Rattle.slate_txn.specs.declared.line.Line.TheVariants as lines
use Rattle.slate_txn.specs.Alone.{first_left}
use Rattle.slate_txn.specs.Named.{find_named}
use Rattle.slate_txn.specs.Reads.{handed, rows_seen, walk}
use Rattle.slate_txn.specs.Reply.{RowsAre}
use Rattle.slate_txn.specs.State.{Rules, Tx}
use Rattle.slate_txn.specs.Step.{Reader, is_scan, noted, reader, scan, scan_walked, step}
use Rattle.slate_db.specs.declared.scan.TxnIterator.{TxnIterator}
use Rattle.slate_db.specs.Checked.{OrSlips}
use Rattle.slate_db.specs.Meaning.{rules_in, Meaning, rules_of}
use Rattle.slate_db.specs.Model.{CoreModel}
use Rattle.slate_db.specs.Readable.{IsAnswered, IsReadable}
use Rattle.slate_db.specs.Scans.{IsOpenScan, IsRefusedByScan, IsRefusedByTables, IsScanError, IsScanOf, IsWorldOf, Leaves, LeavesIn, ScanRefuses, id_of, number_of, scan_of}
use Rattle.slate_db.specs.Sound.{IsKept}
use Rattle.slate_db.proofs.RowDamage.{by_tables}
use Rattle.slate_db.proofs.ScanWorlds.{or_slips_world, world_holds}
use Rattle.slate_script.specs.Scanning.{Took, Fails, HandsOut, HasScanned, IsNoted}
use Rattle.slate_script.specs.Walking.{Means, TakesStep, TakesSteps, Walks}
use Rattle.slate_script.proofs.Answers.{answers_first, answers_sees}
use Rattle.slate_script.proofs.Slips.{slips_between}
use Rattle.slate_script.proofs.Noting.{noted_none, noted_both, noted_reads, noted_scan, noted_scans}
use Rattle.slate_script.proofs.SessionSteps.{named_of}
use Rattle.slate_script.proofs.WalkLaws.{first_ended, first_filled, first_one, handed_both, rest_all, rest_one, walks_all, walks_some, TakesFirst, TakesNext, TakesRest}

abbrev given : Option KeyValue → List KeyValue
given None = []
given (Some row) = row ∷ []

given_handed : (n : ℕ) (a : Option KeyValue) → handed (steps.Next n a ∷ []) ≡ given a
given_handed n None = refl
given_handed n (Some row) = refl

pub same_noted : (c d : CoreModel) (id : List ℕ) → d ≡ c → IsNoted c d id
same_noted c d id same = ([], same ∙ ap (λ s. record c { state = s }) (noted_none c.state id))

pub noted_then : (c d e : CoreModel) (id other : List ℕ) → other ≡ id → IsNoted c d id → IsNoted d e other → IsNoted c e id
noted_then c d e id other same (ts, f) (us, g) = (
  ts ++ us,
  g ∙ (λ i. let n = f i in record n { state = noted n.state (same i) us }) ∙ ap (λ s. record c { state = s }) (noted_both c.state id ts us),
)

pub noted_call : {T E : Type 0} (r : Result T E) (c d : CoreModel) (id : List ℕ) (ts : List TranscriptStep) → OnOk r (d ≡ record c { state = noted c.state id ts }) → OnErr r (d ≡ c) → IsNoted c d id
noted_call (Ok t) c d id ts is same = (ts, is)
noted_call (Err e) c d id ts is same = same_noted c d id same

-- ---- no call, and calls one after the other

same_scan : (x : TxnIterator) → IsScanOf (id_of x) (number_of x) (scan_of x).order (scan_of x).range x
same_scan x = record { named = refl; number = refl; ordered = refl; ranged = refl }

pub took_none : (means : Means) (a : Reach) (c : CoreModel) (x : TxnIterator) (old : List KeyValue) → ((rows : List RowEntry) → means rows rows []) → Took means a a c c x x old old
took_none means a c x old none = record {
  ts = [];
  notes = ap (λ s. record c { state = s }) (noted_none c.state (id_of x));
  hands = sym (append-nil old);
  names = same_scan x;
  rows = λ w rows leaves sees. (rows, leaves, none rows);
  checked = λ w rows leaves. checks_none w a;
  later = ([], call_none a, λ later at e h. h);
  kept = λ m k. k;
}

pub took_both : (first second means : Means) (a b c : Reach) (k l m : CoreModel) (x y z : TxnIterator) (old mid new : List KeyValue) → Took first a b k l x y old mid → Took second b c l m y z mid new →
    ((rows between left : List RowEntry) (ts us : List TranscriptStep) → first rows between ts → second between left us → means rows left (ts ++ us)) → Took means a c k m x z old new
took_both first second means a b c k l m x y z old mid new f g both = record {
  ts = f.ts ++ g.ts;
  notes =
      g.notes ∙ (λ i. let n = f.notes i in record n { state = noted n.state (f.names.named i) g.ts })
      ∙ ap (λ s. record k { state = s }) (noted_both k.state (id_of x) f.ts g.ts);
  hands =
      g.hands ∙ ap (λ rs. rs ++ handed g.ts) f.hands ∙ append_assoc old (handed f.ts) (handed g.ts)
      ∙ ap (λ rs. old ++ rs) (sym (handed_both f.ts g.ts));
  names = record { named = g.names.named ∙ f.names.named; number = g.names.number ∙ f.names.number; ordered = g.names.ordered ∙ f.names.ordered; ranged = g.names.ranged ∙ f.names.ranged };
  rows = (λ w rows leaves sees.
      let one = f.rows w rows leaves (sees_first w a b c f.later.0 g.later.0 f.later.1 g.later.1 sees) in
      let two = g.rows w one.0 one.1 (sees_last w a b c f.later.0 g.later.0 f.later.1 g.later.1 sees) in
      (two.0, two.1, both rows one.0 two.0 f.ts g.ts one.2 two.2));
  checked = λ w rows leaves. checks_both w a b c f.later.0 g.later.0 f.later.1 g.later.1 (f.checked w rows leaves) (λ sees. let one = f.rows w rows leaves sees in g.checked w one.0 one.1);
  later = (
    f.later.0 ++ g.later.0,
    call_both a b c f.later.0 g.later.0 f.later.1 g.later.1,
    no_more_both (ScanRefuses (scan_of x) a.meaning) (ScanRefuses (scan_of y) a.meaning) (ScanRefuses (scan_of z) a.meaning) f.later.0 g.later.0 f.later.2
        (subst (λ (p : Meaning). NoMore (ScanRefuses (scan_of y) p) g.later.0 (ScanRefuses (scan_of z) p)) f.later.1.meaning g.later.2),
  );
  kept = λ p h. g.kept p (f.kept p h);
}

pub took_as : (first means : Means) (a b : Reach) (c d : CoreModel) (x y : TxnIterator) (old new : List KeyValue) (f : Took first a b c d x y old new) →
    ((rows left : List RowEntry) → first rows left f.ts → means rows left f.ts) → Took means a b c d x y old new
took_as first means a b c d x y old new f weaker = record {
  ts = f.ts;
  notes = f.notes;
  hands = f.hands;
  names = f.names;
  rows = λ w rows leaves sees. let one = f.rows w rows leaves sees in (one.0, one.1, weaker rows one.0 one.2);
  checked = f.checked;
  later = f.later;
  kept = f.kept;
}

-- ---- one call

-- what a call for the next row leaves, where it is answered
pub record Nexts (a b : Reach) (c d : CoreModel) (x y : TxnIterator) (answer : Option KeyValue) : Type 0 where
  pub notes : d ≡ record c { state = noted c.state (id_of x) (steps.Next (number_of x) answer ∷ []) }
  pub names : IsScanOf (id_of x) (number_of x) (scan_of x).order (scan_of x).range y
  pub rows : (w : World) (rows : List RowEntry) → Leaves (scan_of x) w rows → Sees w a b → (answer ≡ first_left rows) × Leaves (scan_of y) w (drop 1 rows)
  pub checked : (w : World) (rows : List RowEntry) → Leaves (scan_of x) w rows → Checks w a b
  pub later : Made a b (λ reads. NoMore (ScanRefuses (scan_of x) a.meaning) reads (ScanRefuses (scan_of y) a.meaning))
  pub kept : (m : Meaning) → IsKept m c → IsKept m d

took_next : (a b : Reach) (c d : CoreModel) (x y : TxnIterator) (answer : Option KeyValue) (old : List KeyValue) → Nexts a b c d x y answer → Took (TakesNext (number_of x) answer) a b c d x y old (old ++ given answer)
took_next a b c d x y answer old h = record {
  ts = steps.Next (number_of x) answer ∷ [];
  notes = h.notes;
  hands = ap (λ rs. old ++ rs) (sym (given_handed (number_of x) answer));
  names = h.names;
  rows = λ w left leaves sees. let one = h.rows w left leaves sees in (drop 1 left, one.1, (refl, one.0, refl));
  checked = h.checked;
  later = h.later;
  kept = h.kept;
}

-- one row more
pub took_row : (a b c : Reach) (k l m : CoreModel) (x y z : TxnIterator) (i : ℕ) (answer : Option KeyValue) (row : KeyValue) (old mid new : List KeyValue) → Took (TakesFirst (number_of x) i) a b k l x y old mid → Nexts b c l m y z answer → answer ≡ Some row →
    new ≡ mid ++ (row ∷ []) → Took (TakesFirst (number_of x) (i + 1)) a c k m x z old new
took_row a b c k l m x y z i answer row old mid new f g is pushed =
    took_both (TakesFirst (number_of x) i) (TakesNext (number_of y) (Some row)) (TakesFirst (number_of x) (i + 1)) a b c k l m x y z old mid new f next
    (λ rows between left ts us first second. first_one (number_of x) i row rows between left ts us first (subst (λ n. TakesNext n (Some row) between left us) f.names.number second))
  where
    next : Took (TakesNext (number_of y) (Some row)) b c l m y z mid new
    next = subst (λ (rs : List KeyValue). Took (TakesNext (number_of y) (Some row)) b c l m y z mid rs) (sym pushed)
        (subst (λ (o : Option KeyValue). Took (TakesNext (number_of y) o) b c l m y z mid (mid ++ given o)) is (took_next b c l m y z answer mid g))

-- the end
pub took_end : (a b c : Reach) (k l m : CoreModel) (x y z : TxnIterator) (i count : ℕ) (answer : Option KeyValue) (old mid : List KeyValue) → Took (TakesFirst (number_of x) i) a b k l x y old mid → Nexts b c l m y z answer → answer ≡ None → i < count →
    Took (TakesStep (number_of x) (scan_of x).order (Rows count)) a c k m x z old mid
took_end a b c k l m x y z i count answer old mid f g is below =
    took_both (TakesFirst (number_of x) i) (TakesNext (number_of y) None) (TakesStep (number_of x) (scan_of x).order (Rows count)) a b c k l m x y z old mid mid f next
    (λ rows between left ts us first second. first_ended (number_of x) i count (scan_of x).order rows between left ts us below first (subst (λ n. TakesNext n None between left us) f.names.number second))
  where
    next : Took (TakesNext (number_of y) None) b c l m y z mid mid
    next = subst (λ (rs : List KeyValue). Took (TakesNext (number_of y) None) b c l m y z mid rs) (append-nil mid)
        (subst (λ (o : Option KeyValue). Took (TakesNext (number_of y) o) b c l m y z mid (mid ++ given o)) is (took_next b c l m y z answer mid g))

pub took_filled : (a b : Reach) (k l : CoreModel) (x y : TxnIterator) (i count : ℕ) (old new : List KeyValue) → Took (TakesFirst (number_of x) i) a b k l x y old new → i ≡ count → Took (TakesStep (number_of x) (scan_of x).order (Rows count)) a b k l x y old new
took_filled a b k l x y i count old new f all =
    took_as (TakesFirst (number_of x) i) (TakesStep (number_of x) (scan_of x).order (Rows count)) a b k l x y old new f (λ rows left first. first_filled (number_of x) i count (scan_of x).order rows left f.ts all first)

-- one step more
pub took_step : (a b c : Reach) (k l m : CoreModel) (x y z : TxnIterator) (j : ℕ) (sts : List ScanStep) (st d : ScanStep) (old mid new : List KeyValue) → j < length sts → st ≡ get_or sts j d → Took (TakesRest (number_of x) (scan_of x).order sts j) a b k l x y old mid →
    Took (TakesStep (number_of y) (scan_of y).order st) b c l m y z mid new → Took (TakesRest (number_of x) (scan_of x).order sts (j + 1)) a c k m x z old new
took_step a b c k l m x y z j sts st d old mid new within is f g =
    took_both (TakesRest (number_of x) (scan_of x).order sts j) (TakesStep (number_of y) (scan_of y).order st) (TakesRest (number_of x) (scan_of x).order sts (j + 1)) a b c k l m x y z old mid new f g
    (λ rows between left ts us rest step. rest_one (number_of x) j (scan_of x).order sts d rows between left ts us within rest
    (subst (λ (s : ScanStep). TakesStep (number_of x) (scan_of x).order s between left us) is (subst (λ o. TakesStep (number_of x) o st between left us) f.names.ordered (subst (λ n. TakesStep n (scan_of y).order st between left us) f.names.number step))))

pub took_steps : (a b : Reach) (k l : CoreModel) (x y : TxnIterator) (j : ℕ) (sts : List ScanStep) (old new : List KeyValue) → length sts ≤ j → Took (TakesRest (number_of x) (scan_of x).order sts j) a b k l x y old new → Took (TakesSteps (number_of x) (scan_of x).order sts) a b k l x y old new
took_steps a b k l x y j sts old new past f =
    took_as (TakesRest (number_of x) (scan_of x).order sts j) (TakesSteps (number_of x) (scan_of x).order sts) a b k l x y old new f (λ rows left rest. rest_all (number_of x) j (scan_of x).order sts rows left f.ts past rest)

-- all that a line asks for
pub took_all : {E : Type 0} (r : Result (Unit {0}) E) (a b : Reach) (k l : CoreModel) (x y : TxnIterator) (count : ℕ) (sts : List ScanStep) (old new : List KeyValue) → sts ≡ [] → length new < count →
    OnOk r (Took (TakesStep (number_of x) (scan_of x).order (Rows count)) a b k l x y old new) → OnOk r (Took (Walks (number_of x) (scan_of x).order sts) a b k l x y old new)
took_all (Err e) a b k l x y count sts old new none few f = tt
took_all (Ok u) a b k l x y count sts old new none few f =
    subst (λ (us : List ScanStep). Took (Walks (number_of x) (scan_of x).order us) a b k l x y old new) (sym none)
    (took_as (TakesStep (number_of x) (scan_of x).order (Rows count)) (Walks (number_of x) (scan_of x).order []) a b k l x y old new f
    (λ rows left step. let all : length new ≡ length old + length (handed f.ts) = ap length f.hands ∙ length-append old (handed f.ts) in walks_all (number_of x) count (scan_of x).order rows left f.ts (omega (arith, all, few)) step))

pub took_some : {E : Type 0} (r : Result (Unit {0}) E) (a b : Reach) (k l : CoreModel) (x y : TxnIterator) (sts : List ScanStep) (old new : List KeyValue) → 0 < length sts →
    OnOk r (Took (TakesSteps (number_of x) (scan_of x).order sts) a b k l x y old new) → OnOk r (Took (Walks (number_of x) (scan_of x).order sts) a b k l x y old new)
took_some (Err e) a b k l x y sts old new some f = tt
took_some (Ok u) a b k l x y sts old new some f =
    took_as (TakesSteps (number_of x) (scan_of x).order sts) (Walks (number_of x) (scan_of x).order sts) a b k l x y old new f (λ rows left steps. walks_some (number_of x) (scan_of x).order sts rows left f.ts some steps)

pub took_seek : (a b : Reach) (c d : CoreModel) (x y : TxnIterator) (key : List ℕ) (old : List KeyValue) →
    d ≡ record c { state = noted c.state (id_of x) (steps.Seek (number_of x) key ∷ []) } → IsScanOf (id_of x) (number_of x) (scan_of x).order (scan_of x).range y →
    ((w : World) (rows : List RowEntry) → Leaves (scan_of x) w rows → Sees w a b → Leaves (scan_of y) w (drop_before (scan_of x).order key rows)) →
    ((w : World) (rows : List RowEntry) → Leaves (scan_of x) w rows → Checks w a b) →
    Made a b (λ reads. NoMore (ScanRefuses (scan_of x) a.meaning) reads (ScanRefuses (scan_of y) a.meaning)) → ((m : Meaning) → IsKept m c → IsKept m d) →
    Took (TakesStep (number_of x) (scan_of x).order (Seek key)) a b c d x y old old
took_seek a b c d x y key old noted names rows checked later kept = record {
  ts = steps.Seek (number_of x) key ∷ [];
  notes = noted;
  hands = sym (append-nil old);
  names = names;
  rows = λ w left leaves sees. (drop_before (scan_of x).order key left, rows w left leaves sees, (refl, refl));
  checked = checked;
  later = later;
  kept = kept;
}

-- what is open where the core has noted something is open where it is the core by now
stays_open : (c d : CoreModel) (id : List ℕ) (ts : List TranscriptStep) (y : TxnIterator) → d ≡ record c { state = noted c.state id ts } → id_of y ≡ id → IsSome (reader (noted c.state id ts) id) →
    ((t : Tx) → find_named id (noted c.state id ts).txns ≡ Some t → number_of y < count_by is_scan t.transcript) → IsOpenScan d y
stays_open c d id ts y notes named some below = subst (λ (e : CoreModel). IsOpenScan e y) (sym notes)
    (subst (λ i. IsSome (reader (noted c.state id ts) i) × ((t : Tx) → find_named i (noted c.state id ts).txns ≡ Some t → number_of y < count_by is_scan t.transcript)) (sym named) (some, below))

-- the scan stays open
pub noted_open : (c d : CoreModel) (x y : TxnIterator) → IsNoted c d (id_of x) → id_of y ≡ id_of x → number_of y ≡ number_of x → IsOpenScan c x → IsOpenScan d y
noted_open c d x y (ts, is) named number (some, below) = stays_open c d (id_of x) ts y is named (noted_reads c.state (id_of x) ts some)
    (λ t found. subst (λ n. n < count_by is_scan t.transcript) (sym number) (noted_scans c.state (id_of x) ts (number_of x) below t found))

pub open_on : {means : Means} {a b : Reach} {old new : List KeyValue} (c d : CoreModel) (x y : TxnIterator) → Took means a b c d x y old new → IsOpenScan c x → IsOpenScan d y
open_on c d x y f live = noted_open c d x y (f.ts, f.notes) f.names.named f.names.number live

-- ---- refusals

-- a call behind others failed
pub fails_on : {means : Means} {old new : List KeyValue} (a b c : Reach) (k l : CoreModel) (x y : TxnIterator) (e : SlateDBError) → Took means a b k l x y old new → OnlyReads a b → Fails b c y e → Fails a c x e
fails_on a b c k l x y e f reads g = record {
  undamaged = (λ w rows leaves sees.
      let one = f.rows w rows leaves (sees_first w a b c f.later.0 g.cause.0 f.later.1 g.cause.1 sees) in
      fault_earlier a b c e reads.later (g.undamaged w one.0 one.1 (sees_last w a b c f.later.0 g.cause.0 f.later.1 g.cause.1 sees)));
  cause = (f.later.0 ++ g.cause.0, call_both a b c f.later.0 g.cause.0 f.later.1 g.cause.1, by g.cause.2);
}
  where
    by : IsFault b c e ⊎ ((at : Option (List ℕ)) × ScanRefuses (scan_of y) b.meaning g.cause.0 at e) → IsFault a c e ⊎ ((at : Option (List ℕ)) × ScanRefuses (scan_of x) a.meaning (f.later.0 ++ g.cause.0) at e)
    by (inl fault) = inl (fault_earlier a b c e reads.later fault)
    by (inr (at, refuses)) = inr (at, f.later.2 g.cause.0 at e (subst (λ (p : Meaning). ScanRefuses (scan_of y) p g.cause.0 at e) f.later.1.meaning refuses))

-- memory was wanting behind them
pub fails_memory : {means : Means} {old new : List KeyValue} (a b : Reach) (k l : CoreModel) (x y : TxnIterator) → Took means a b k l x y old new → Fails a b x OutOfMemory
fails_memory a b k l x y f = record { undamaged = λ w rows leaves sees. tt; cause = (f.later.0, f.later.1, inl tt) }

pub fails_call : (a b : Reach) (x : TxnIterator) (at : Option (List ℕ)) (e : SlateDBError) →
    ((w : World) (rows : List RowEntry) → Leaves (scan_of x) w rows → Sees w a b → IsFault a b e) → Made a b (λ reads. IsFault a b e ⊎ ScanRefuses (scan_of x) a.meaning reads at e) → Fails a b x e
fails_call a b x at e undamaged made = record { undamaged = undamaged; cause = (made.0, made.1, by made.2) }
  where
    by : IsFault a b e ⊎ ScanRefuses (scan_of x) a.meaning made.0 at e → IsFault a b e ⊎ ((q : Option (List ℕ)) × ScanRefuses (scan_of x) a.meaning made.0 q e)
    by (inl fault) = inl fault
    by (inr refuses) = inr (at, refuses)

-- ---- a whole scan

-- what an opening leaves for the calls behind it
pub record Opened (policies : List Policy) (a b : Reach) (k l : CoreModel) (id : List ℕ) (order : IterationOrder) (range : BytesRange) (x : TxnIterator) : Type 0 where
  pub from : Reader
  pub found : reader k.state id ≡ Some from
  pub notes : l ≡ record k { state = noted k.state id (steps.Scan order range ∷ []) }
  pub names : IsScanOf id from.scans order range x
  pub left : (is : IsAnswered policies a b k) → LeavesIn is.os a.meaning x (rows_seen (rules_of k.settings a.meaning) k.state.commits from.at from.ops order range)
  pub checked : (os : Objects) → IsReadable policies a.meaning os k → OrSlips os a b (LeavesIn os a.meaning x (rows_seen (rules_of k.settings a.meaning) k.state.commits from.at from.ops order range))
  pub later : Made a b (λ reads. (later : List Act) (at : Option (List ℕ)) (e : SlateDBError) → ScanRefuses (scan_of x) a.meaning later at e → IsRefusedByTables a.meaning k (reads ++ later) at e)
  pub kept : (m : Meaning) → IsKept m k → IsKept m l

pub opened_by : (policies : List Policy) (query : Option FilterQuery) (a b : Reach) (k l : CoreModel) (id : List ℕ) (order : IterationOrder) (range : BytesRange) (x : TxnIterator) → IsSome (reader k.state id) → l ≡ record k { state = noted k.state id (steps.Scan order range ∷ []) } →
    ((from : Reader) → reader k.state id ≡ Some from → IsScanOf id from.scans order range x) →
    ((from : Reader) → reader k.state id ≡ Some from → (is : IsAnswered policies a b k) → LeavesIn is.os a.meaning x (rows_seen (rules_of k.settings a.meaning) k.state.commits from.at from.ops order range)) →
    ((from : Reader) → reader k.state id ≡ Some from → (os : Objects) → IsReadable policies a.meaning os k → OrSlips os a b (LeavesIn os a.meaning x (rows_seen (rules_of k.settings a.meaning) k.state.commits from.at from.ops order range))) →
    Made a b (λ reads. (later : List Act) (at : Option (List ℕ)) (e : SlateDBError) → ScanRefuses (scan_of x) a.meaning later at e → IsRefusedByScan policies query a.meaning k reads (reads ++ later) at e) → ((m : Meaning) → IsKept m k → IsKept m l) →
    Opened policies a b k l id order range x
opened_by policies query a b k l id order range x some notes names left checked later kept =
    let from = named_of (reader k.state id) some in
    record { from = from.value; found = from.is; notes = notes; names = names from.value from.is; left = left from.value from.is; checked = checked from.value from.is; later = (later.0, later.1, λ more at e h. by_tables a.meaning k later.0 (later.0 ++ more) at e (later.2 more at e h)); kept = kept }

pub opens_scan : (policies : List Policy) (a b : Reach) (k l : CoreModel) (id : List ℕ) (order : IterationOrder) (range : BytesRange) (x : TxnIterator) → Opened policies a b k l id order range x → IsOpenScan l x
opens_scan policies a b k l id order range x h = stays_open k l id (steps.Scan order range ∷ []) x h.notes h.names.named (noted_reads k.state id (steps.Scan order range ∷ []) (subst IsSome (sym h.found) refl))
    (λ t found. subst (λ n. n < count_by is_scan t.transcript) (sym h.names.number) (noted_scan k.state id order range h.from h.found t found))

pub scan_whole : (policies : List Policy) (a b c : Reach) (k l m : CoreModel) (id : List ℕ) (order : IterationOrder) (range : BytesRange) (sts : List ScanStep) (x y : TxnIterator) (rows : List KeyValue) → is_refused range.start range.end ≡ false →
    Opened policies a b k l id order range x → OnlyReads a b → OnlyReads b c → Took (Walks (number_of x) (scan_of x).order sts) b c l m x y [] rows → HasScanned policies a c k m id order range sts rows
scan_whole policies a b c k l m id order range sts x y rows some h before behind f = record {
  ts = f.ts;
  notes = notes;
  kept = λ p was. f.kept p (h.kept p was);
  answers = answers;
  checked = λ seg os readable. slips_between (LeavesIn os a.meaning x seen) (HandsOut a.meaning seg k m id order range sts rows) os a b c before behind (h.checked os readable) (walked_in seg os);
}
  where
    n : ℕ
    n = h.from.scans

    seen : List RowEntry
    seen = rows_seen (rules_of k.settings a.meaning) k.state.commits h.from.at h.from.ops order range

    notes : m ≡ record k { state = noted k.state id (steps.Scan order range ∷ f.ts) }
    notes =
        f.notes ∙ (λ i. let v = h.notes i in record v { state = noted v.state (h.names.named i) f.ts })
        ∙ ap (λ s. record k { state = s }) (noted_both k.state id (steps.Scan order range ∷ []) f.ts)

    -- where the walk met the world that the opening left
    hands : (seg : Segments) (w : World) → Leaves (scan_of x) w seen → Sees w b c → HandsOut a.meaning seg k m id order range sts rows
    hands seg w leaves sees =
        ap (λ b. scan r k.state id order (cond b None (Some range)) sts (reader k.state id)) some
        ∙ ap (scan r k.state id order (Some range) sts) h.found
        ∙ ap (scan_walked k.state id order range) (sym noted_is)
        ∙ (λ i. ((sym (ap (λ (v : CoreModel). v.state) notes)) i, RowsAre (sym f.hands i)))
      where
        r : Rules
        r = rules_in k.settings a.meaning seg

        taken : (left : List RowEntry) × Leaves (scan_of y) w left × Walks (number_of x) (scan_of x).order sts seen left f.ts
        taken = f.rows w seen leaves sees

        noted_is : f.ts ≡ walk order n seen sts
        noted_is = taken.2 ∙ (λ i. walk (h.names.ordered i) (h.names.number i) seen sts)

    answers : (seg : Segments) → IsAnswered policies a c k → HandsOut a.meaning seg k m id order range sts rows
    answers seg is =
        hands seg (h.left early).0 (h.left early).2
        (answers_sees (h.left early).0 is.os a b c h.later.0 f.later.0 h.later.1 f.later.1 (h.left early).1.meaning (world_holds is.os a.meaning (h.left early).0 (h.left early).1) is.answers)
      where
        early : IsAnswered policies a b k
        early = record { os = is.os; readable = is.readable; answers = answers_first is.os a b c h.later.0 f.later.0 h.later.1 f.later.1 is.answers }

    walked_in : (seg : Segments) (os : Objects) → LeavesIn os a.meaning x seen → OrSlips os b c (HandsOut a.meaning seg k m id order range sts rows)
    walked_in seg os left =
        or_slips_world os left.0 b c f.later.0 (HandsOut a.meaning seg k m id order range sts rows) (subst (λ (p : Meaning). IsWorldOf os p left.0) (sym h.later.1.meaning) left.1) f.later.1 (f.checked left.0 seen left.2)
        (hands seg left.0 left.2)

pub scan_fault : (policies : List Policy) (a b c : Reach) (k l : CoreModel) (id : List ℕ) (order : IterationOrder) (range : BytesRange) (x : TxnIterator) (e : SlateDBError) → Opened policies a b k l id order range x → OnlyReads a b → Fails b c x e → IsAnswered policies a c k → IsFault a c e
scan_fault policies a b c k l id order range x e h reads g is =
    fault_earlier a b c e reads.later (g.undamaged (h.left early).0 _ (h.left early).2
    (answers_sees (h.left early).0 is.os a b c h.later.0 g.cause.0 h.later.1 g.cause.1 (h.left early).1.meaning (world_holds is.os a.meaning (h.left early).0 (h.left early).1) is.answers))
  where
    early : IsAnswered policies a b k
    early = record { os = is.os; readable = is.readable; answers = answers_first is.os a b c h.later.0 g.cause.0 h.later.1 g.cause.1 is.answers }

pub scan_cause : (policies : List Policy) (a b c : Reach) (k l : CoreModel) (id : List ℕ) (order : IterationOrder) (range : BytesRange) (x : TxnIterator) (e : SlateDBError) → Opened policies a b k l id order range x → OnlyReads a b → Fails b c x e → IsScanError policies a c k e
scan_cause policies a b c k l id order range x e h reads g = by g.cause.2
  where
    by : IsFault b c e ⊎ ((at : Option (List ℕ)) × ScanRefuses (scan_of x) b.meaning g.cause.0 at e) → IsScanError policies a c k e
    by (inl fault) = inl (fault_earlier a b c e reads.later fault)
    by (inr (at, refuses)) = inr (
      h.later.0 ++ g.cause.0,
      call_both a b c h.later.0 g.cause.0 h.later.1 g.cause.1,
      inl (at, h.later.2 g.cause.0 at e (subst (λ (p : Meaning). ScanRefuses (scan_of x) p g.cause.0 at e) h.later.1.meaning refuses)),
    )

-- ---- by the result of a call

pub sought : {E : Type 0} (r : Result (Unit {0}) E) (a b : Reach) (c d : CoreModel) (x y : TxnIterator) (st : ScanStep) (key bytes : List ℕ) (old : List KeyValue) → st ≡ Seek key → bytes ≡ key →
    OnOk r (d ≡ record c { state = noted c.state (id_of x) (steps.Seek (number_of x) bytes ∷ []) }) → IsScanOf (id_of x) (number_of x) (scan_of x).order (scan_of x).range y →
    ((w : World) (rows : List RowEntry) → Leaves (scan_of x) w rows → Sees w a b → OnOk r (Leaves (scan_of y) w (drop_before (scan_of x).order bytes rows))) →
    ((w : World) (rows : List RowEntry) → Leaves (scan_of x) w rows → OnOk r (Checks w a b)) →
    OnOk r (Made a b (λ reads. NoMore (ScanRefuses (scan_of x) a.meaning) reads (ScanRefuses (scan_of y) a.meaning))) → ((m : Meaning) → IsKept m c → IsKept m d) →
    OnOk r (Took (TakesStep (number_of x) (scan_of x).order st) a b c d x y old old)
sought (Err e) a b c d x y st key bytes old is same noted names rows checked later kept = tt
sought (Ok u) a b c d x y st key bytes old is same noted names rows checked later kept =
    subst (λ (s : ScanStep). Took (TakesStep (number_of x) (scan_of x).order s) a b c d x y old old) (ap Seek same ∙ sym is)
    (took_seek a b c d x y bytes old noted names rows checked later kept)

pub seek_failed : {T : Type 0} (r : Result T SlateDBError) (a b : Reach) (x : TxnIterator) (at : Option (List ℕ)) →
    ((w : World) (rows : List RowEntry) → Leaves (scan_of x) w rows → Sees w a b → IfErr r (IsFault a b)) → IfErr r (λ e. Made a b (λ reads. IsFault a b e ⊎ ScanRefuses (scan_of x) a.meaning reads at e)) → IfErr r (Fails a b x)
seek_failed (Ok t) a b x at undamaged made = tt
seek_failed (Err e) a b x at undamaged made = fails_call a b x at e undamaged made

pub walked : {V : Type 0} (policies : List Policy) (items : V → List KeyValue) (r : Result V SlateDBError) (a b c : Reach) (k l m : CoreModel) (id : List ℕ) (order : IterationOrder) (range : BytesRange) (sts : List ScanStep) (x y : TxnIterator) → is_refused range.start range.end ≡ false → Opened policies a b k l id order range x → OnlyReads a b → OnlyReads b c →
    IfOk r (λ v. Took (Walks (number_of x) (scan_of x).order sts) b c l m x y [] (items v)) → IfOk r (λ v. HasScanned policies a c k m id order range sts (items v))
walked policies items (Err e) a b c k l m id order range sts x y some h before behind f = tt
walked policies items (Ok v) a b c k l m id order range sts x y some h before behind f = scan_whole policies a b c k l m id order range sts x y (items v) some h before behind f

pub walk_cause : {T : Type 0} (policies : List Policy) (r : Result T SlateDBError) (a b c : Reach) (k l : CoreModel) (id : List ℕ) (order : IterationOrder) (range : BytesRange) (x : TxnIterator) → Opened policies a b k l id order range x → OnlyReads a b → IfErr r (Fails b c x) → IfErr r (IsScanError policies a c k)
walk_cause policies (Ok t) a b c k l id order range x h reads g = tt
walk_cause policies (Err e) a b c k l id order range x h reads g = scan_cause policies a b c k l id order range x e h reads g

pub walk_fault : {T : Type 0} (policies : List Policy) (r : Result T SlateDBError) (a b c : Reach) (k l : CoreModel) (id : List ℕ) (order : IterationOrder) (range : BytesRange) (x : TxnIterator) → Opened policies a b k l id order range x → OnlyReads a b → IfErr r (Fails b c x) → IsAnswered policies a c k → IfErr r (IsFault a c)
walk_fault policies (Ok t) a b c k l id order range x h reads g is = tt
walk_fault policies (Err e) a b c k l id order range x h reads g is = scan_fault policies a b c k l id order range x e h reads g is
