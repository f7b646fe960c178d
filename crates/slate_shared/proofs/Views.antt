-- What a view is, and what its gets and scans answer.
use Rattle.std.proofs.Common.{inl, inr, ◌≡◌, ◌⊎◌, ℕ, ◌≤◌, Bool, List, [], ◌∷◌, ◌++◌, map, reverse, true, false, Some, None, Option, option_map, refl, sym, ap, subst, ◌∙◌}
use Rattle.std.specs.Prelude.{Result, Ok, Err, IfOk, IfErr, if◌then◌else◌}
use mathlib.Core.List.{IsPrefix}
use Rattle.slate_types.specs.declared.bytes_range.BytesRange.{BytesRange}
use Rattle.slate_types.specs.declared.config.Options.{Options}
use Rattle.slate_types.specs.declared.error.SlateDBError.{SlateDBError}
use Rattle.slate_types.specs.declared.error.SlateDBError.TheVariants.{OutOfMemory}
use Rattle.slate_types.specs.declared.filter_policy.FilterQuery.{FilterQuery}
use Rattle.slate_types.specs.declared.iter.IterationOrder.{IterationOrder}
use Rattle.slate_types.specs.declared.types.KeyValue.{KeyValue}
use Rattle.slate_types.specs.declared.types.RowEntry.{RowEntry}
use Rattle.slate_types.specs.Iteration.{IsInOrder, RowList}
use Rattle.slate_types.specs.Keys.{in_range, is_refused}
use Rattle.slate_types.specs.RowTurns.{AreInTurn, row_before}
use Rattle.slate_types.specs.Outside.{IsCounted, IsFault, Meaning, Reach}
use Rattle.slate_types.specs.World.{World}
use Rattle.slate_types.specs.Rows.{key_value, of_key}
use Rattle.slate_types.proofs.Calls.{call_none}
use Rattle.slate_filter.specs.Policy.{Policy}
use Rattle.slate_mem.specs.Batch.{Ops, kept}
use Rattle.slate_mem.specs.BatchModel.{holds_merge}
use Rattle.slate_mem.specs.RowOf.{own_row}
use Rattle.slate_txn.specs.declared.event.Event.{Event}
use Rattle.slate_txn.specs.declared.event.TranscriptStep.TheVariants as steps
use Rattle.slate_txn.specs.Alone.{IsVouched, own_of}
use Rattle.slate_txn.specs.Named.{find_named}
use Rattle.slate_txn.specs.Reads.{rows_seen}
use Rattle.slate_txn.specs.Replay.{replay}
use Rattle.slate_txn.specs.Settings.{Settings, settings_of}
use Rattle.slate_txn.specs.State.{Commit, Rules, Tx, begun}
use Rattle.slate_txn.specs.Step.{reader_or_snapshot, tx_reader}
use Rattle.slate_txn.proofs.ReadLaws.{alone_more}
use Rattle.slate_db.specs.declared.scan.DbIterator.{DbIterator}
use Rattle.slate_db.specs.KeyShares.{IsFolded, IsKeyRead, IsOwnAnswer, IsSeen, IsShown}
use Rattle.slate_db.specs.Log.{AreFine}
use Rattle.slate_db.specs.Meaning.{rules_of}
use Rattle.slate_db.specs.Model.{CoreModel}
use Rattle.slate_db.specs.OpenScans.{HasRows}
use Rattle.slate_db.specs.RangeShares.{IsOpened, IsRangeShare, IsReaderOf, LeavesSeen}
use Rattle.slate_db.specs.Readable.{IsAnswered, decides_own}
use Rattle.slate_db.specs.Scanned.{HasOwn}
use Rattle.slate_db.specs.Scans.{IsWorldOf, Leaves}
use Rattle.slate_db.specs.Shown.{Asking}
use Rattle.slate_db.proofs.ScanWithin.{none_within}
use Rattle.slate_db.proofs.UnderKeys.{read_on, read_refused, read_under, seen_refused}
use Rattle.slate_shared.specs.KeyReads.{IsAnsweredBy, IsCoreOf}
use Rattle.slate_shared.specs.Passes.{Opened}
use Rattle.slate_shared.specs.Viewed.{IsView, IsViewGet, IsViewScan, IsViewed, ViewModel, untouched, viewed}
use Rattle.slate_shared.proofs.Gets.{Read, answered_core, asked_first, found_stored, seen_fault, seen_row, shows, visible}

pub view_vouched : (r : Rules) (cs : List Commit) (range : BytesRange) (t : Tx) → IsVouched r cs t → IsVouched r cs (viewed range t)
view_vouched r cs range t h = alone_more r cs t.begin [] [] t.transcript (steps.View range ∷ []) h tt

-- ---- what a transaction's `view` answers

module _ (o : Options) (m : Meaning) (range : BytesRange) (old n z : Opened) (fits : is_refused range.start range.end ≡ false) (grown : n ≡ record old { seen = n.seen }) (seen : IsPrefix old.seen n.seen) where
  is_range : {Q : Type 0} → is_refused range.start range.end ≡ true → Q
  is_range is = let clash : true ≡ false = sym is ∙ fits in cc

  pub is_view : z ≡ record n { tx = viewed range n.tx } → (v : ViewModel) → v.begin ≡ old.tx.begin → v.range ≡ range →
      ((x : Tx) → begun x.level x.begin ≡ begun old.tx.level old.tx.begin → x.ops ≡ own_of x.transcript → (c : CoreModel) × IsCoreOf o m (record old { tx = x }) n.seen c × IsRangeShare c range x.begin v.share) →
      IsView o m range old z (Ok v)
  is_view noted v begins ranged taken = record {
    invalid = λ is. is_range is;
    cause = λ is. tt;
    noted = noted ∙ (λ i. record (grown i) { tx = viewed range (grown i).tx }) ∙ (λ i. record old { seen = same i; tx = viewed range old.tx });
    unnoted = tt;
    seen = subst (IsPrefix old.seen) same seen;
    of = (
      begins,
      ranged,
      (
        core.0,
        record {
          core = subst (λ (es : List Event). IsCoreOf o m (untouched old) es core.0) same core.1;
          bare = ap (begun old.tx.level) (sym begins);
          taken = subst (λ (r : BytesRange). IsRangeShare core.0 r v.begin v.share) (sym ranged) (subst (λ (b : ℕ). IsRangeShare core.0 range b v.share) (sym begins) core.2);
        },
      ),
    );
    vouched = λ h. subst (IsVouched (rules_of (settings_of o) m) (replay z.seen).commits) (sym tx) (view_vouched (rules_of (settings_of o) m) (replay z.seen).commits range old.tx h);
  }
    where
      same : n.seen ≡ z.seen
      same = sym (ap (λ (x : Opened). x.seen) noted)

      tx : z.tx ≡ viewed range old.tx
      tx = ap (λ (x : Opened). x.tx) noted ∙ ap (λ (x : Opened). viewed range x.tx) grown

      core : (c : CoreModel) × IsCoreOf o m (untouched old) n.seen c × IsRangeShare c range old.tx.begin v.share
      core = taken (begun old.tx.level old.tx.begin) refl refl

  pub no_view : z ≡ n → (r : Result ViewModel SlateDBError) → r ≡ Err OutOfMemory → IsView o m range old z r
  no_view same r is = subst (IsView o m range old z) (sym is) (record {
    invalid = λ is. is_range is;
    cause = λ is. refl;
    noted = tt;
    unnoted = same ∙ grown ∙ (λ i. record old { seen = (sym same i).seen });
    seen = subst (λ (x : Opened). IsPrefix old.seen x.seen) (sym same) seen;
    of = tt;
    vouched = subst (λ (x : Opened). IsVouched (rules_of (settings_of o) m) (replay x.seen).commits old.tx → IsVouched (rules_of (settings_of o) m) (replay x.seen).commits x.tx) (sym same)
        (λ h. subst (IsVouched (rules_of (settings_of o) m) (replay n.seen).commits) (sym (ap (λ (x : Opened). x.tx) grown)) h);
  })

-- ---- a transaction that did nothing

module _ (o : Options) (m : Meaning) (t : Opened) (seen : List Event) (a b : Reach) (same : a.meaning ≡ m) (c : CoreModel) (level_is : t.tx ≡ begun t.tx.level t.tx.begin) (core : IsCoreOf o m t seen c) where
  none_done : t.tx.ops ≡ []
  none_done = ap (λ (x : Tx). x.ops) level_is

  answered_so : (policies : List Policy) → IsAnsweredBy policies m seen [] a b → IsAnsweredBy policies m seen t.tx.ops a b
  answered_so policies is = record { os = is.os; lawful = is.lawful; lawful_policies = is.lawful_policies; filtered = is.filtered; holds = is.holds; operable = λ lacks. ap holds_merge none_done ∙ is.operable lacks; answers = is.answers }

  undecided : (k : List ℕ) → decides_own k t.tx.ops ≡ false
  undecided k = ap (decides_own k) none_done

  never : {Q : Type 0} (k : List ℕ) → decides_own k t.tx.ops ≡ true → Q
  never k some = let clash : true ≡ false = sym some ∙ undecided k in cc

  -- a get
  module _ (k : List ℕ) (by : Asking) where
    pub get_ok : (row : Option RowEntry) (x : Option KeyValue) → x ≡ visible row → IsSeen by a b c k t.tx.begin [] (Ok row) → IsViewGet o m by k t seen c a b (Ok x)
    get_ok row x is s = record {
      answer = λ d. is ∙ seen_row o m by.policies t seen a b same k by refl row (λ some. never k some) (λ none. inr (c, core, read)) (answered_so by.policies d);
      undamaged = λ d. tt;
      asks = λ d set. asked_first o m t seen a b same k by IsFolded (Ok row) (λ none. inr (c, core, read)) (λ some. never k some) (answered_so by.policies d) set;
      finds = λ d needs. found_stored o m t seen a b same k by IsFolded (Ok row) (λ none. inr (c, core, read)) (answered_so by.policies d) needs;
      read = read_on by a b c k t.tx IsFolded IsShown row x (λ f rows h. shows f rows row x is h) read;
    }
      where
        read : IsKeyRead by a b c k t.tx IsFolded (Ok row)
        read = read_under by a b c k t.tx [] (Ok row) core.above_floor (ap (λ (ops : Ops). map (own_row k) (reverse (kept ops k))) (sym none_done)) s

    pub get_err : (e : SlateDBError) (r : Result (Option KeyValue) SlateDBError) → r ≡ Err e → IsSeen by a b c k t.tx.begin [] (Err e) → IsViewGet o m by k t seen c a b r
    get_err e r is s = subst (IsViewGet o m by k t seen c a b) (sym is) (record {
      answer = λ d. tt;
      undamaged = λ d. seen_fault o m by.policies t seen a b same k by refl e (λ some. never k some) (λ none. inr (c, core, read)) (answered_so by.policies d);
      asks = λ d set. asked_first o m t seen a b same k by IsFolded (Err e) (λ none. inr (c, core, read)) (λ some. never k some) (answered_so by.policies d) set;
      finds = λ d needs. tt;
      read = read_refused by a b c k t.tx IsFolded IsShown e read;
    })
      where
        read : IsKeyRead by a b c k t.tx IsFolded (Err e)
        read = read_under by a b c k t.tx [] (Err e) core.above_floor (ap (λ (ops : Ops). map (own_row k) (reverse (kept ops k))) (sym none_done)) s

  -- a scan
  pub reads_of : (range : BytesRange) (order : IterationOrder) (own : RowList) → HasRows order (HasOwn range []) own → IsReaderOf c t.id (tx_reader t.tx) range order own
  reads_of range order own h = record {
    open_there = ap (λ (x : Option Tx). reader_or_snapshot x (find_named t.id c.state.snapshots)) core.open_there;
    fine = subst (λ (ops : Ops). AreFine ops) (sym none_done) tt;
    own_are = subst (λ (ops : Ops). HasRows order (HasOwn range ops) own) (sym none_done) h;
  }

  module _ (policies : List Policy) (query : Option FilterQuery) (range : BytesRange) (order : IterationOrder) (r : Result DbIterator SlateDBError) where
    pub scan_opened : IsOpened policies query a b c t.tx.begin t.tx.ops range order r → IsViewScan o m policies query t seen c range order a b r
    unfolding answered_so answered_core
    scan_opened h = record {
      leaves = λ d.
          subst (λ (x : Meaning × (Settings × (List Commit × Ops))). IfOk r (λ it. (w : World) × IsWorldOf d.os x.0 w × Leaves it w (rows_seen (rules_of x.1.0 x.0) x.1.1.0 t.tx.begin x.1.1.1 order range)))
          (λ i. (same i, (core.settings i, (commits i, none_done i)))) (h.opened core.above_floor (answered_core o m policies t seen a b same c core (answered_so policies d)));
      undamaged = λ d. h.undamaged core.above_floor (answered_core o m policies t seen a b same c core (answered_so policies d));
      opened = subst (λ (ops : Ops). IsOpened policies query a b c t.tx.begin ops range order r) none_done h;
    }
      where
        commits : c.state.commits ≡ (replay seen).commits
        commits = sym core.replays.commits ∙ ap (λ (es : List Event). (replay es).commits) core.events

-- ---- what was read, of the key, the sequence and the policies that were given

pub seen_as : {X : Type 0} (f : X → Policy) (xs ys : List X) (policies : List Policy) (q : FilterQuery) (query : List ℕ → FilterQuery) (a b : Reach) (c : CoreModel) (k key : List ℕ) (n begin : ℕ) (r : Result (Option RowEntry) SlateDBError) →
    xs ≡ ys → map f ys ≡ policies → q ≡ query k → k ≡ key → n ≡ begin → IsSeen (record { policies = map f xs; query = q }) a b c k n [] r → IsSeen (record { policies = policies; query = query key }) a b c key begin [] r
seen_as f xs ys policies q query a b c k key n begin r items given asked named at s = subst (λ (x : (List Policy × FilterQuery) × (List ℕ × ℕ)). IsSeen (record { policies = x.0.0; query = x.0.1 }) a b c x.1.0 x.1.1 [] r) (λ i. ((meant i, query_is i), (named i, at i))) s
  where
    meant : map f xs ≡ policies
    meant = ap (map f) items ∙ given

    query_is : q ≡ query key
    query_is = asked ∙ ap query named

-- ---- a view of it

module _ (o : Options) (m : Meaning) (t : Opened) (seen : List Event) (a b : Reach) (same : a.meaning ≡ m) (c : CoreModel) (v : ViewModel) (is : IsViewed o m t seen c v) where
  begins : t.tx.begin ≡ v.begin
  begins = ap (λ (x : Tx). x.begin) is.bare

  nothing_done : t.tx ≡ begun t.tx.level t.tx.begin
  nothing_done = is.bare ∙ ap (begun t.tx.level) (sym begins)

  module _ (k : List ℕ) (by : Asking) where
    pub view_ok : (row : Option RowEntry) (x : Option KeyValue) → x ≡ visible row → IsSeen by a b c k v.begin [] (Ok row) → IsViewGet o m by k t seen c a b (Ok x)
    view_ok row x shown s = get_ok o m t seen a b same c nothing_done is.core k by row x shown (subst (λ (n : ℕ). IsSeen by a b c k n [] (Ok row)) (sym begins) s)

    pub view_err : (e : SlateDBError) (r : Result (Option KeyValue) SlateDBError) → r ≡ Err e → IsSeen by a b c k v.begin [] (Err e) → IsViewGet o m by k t seen c a b r
    view_err e r out s = get_err o m t seen a b same c nothing_done is.core k by e r out (subst (λ (n : ℕ). IsSeen by a b c k n [] (Err e)) (sym begins) s)

  pub view_reads : (range : BytesRange) (order : IterationOrder) (own : RowList) → HasRows order (HasOwn range []) own → IsReaderOf c t.id (tx_reader t.tx) range order own
  view_reads range order own h = reads_of o m t seen a b same c nothing_done is.core range order own h

  pub view_opened : (policies : List Policy) (query : Option FilterQuery) (range : BytesRange) (order : IterationOrder) (r : Result DbIterator SlateDBError) → IsOpened policies query a b c v.begin t.tx.ops range order r → IsViewScan o m policies query t seen c range order a b r
  view_opened policies query range order r h = scan_opened o m t seen a b same c nothing_done is.core policies query range order r (subst (λ (n : ℕ). IsOpened policies query a b c n t.tx.ops range order r) (sym begins) h)

-- want of memory, before anything was reached
pub get_memory : (o : Options) (m : Meaning) (t : Opened) (seen : List Event) (a : Reach) (same : a.meaning ≡ m) (c : CoreModel) (v : ViewModel) (is : IsViewed o m t seen c v) (k : List ℕ) (by : Asking) (r : Result (Option KeyValue) SlateDBError) → r ≡ Err OutOfMemory →
    IsViewGet o m by k t seen c a a r
get_memory o m t seen a same c v is k by r out = view_err o m t seen a a same c v is k by OutOfMemory r out (seen_refused by a c k v.begin [] (Err OutOfMemory) refl)

pub scan_memory : (o : Options) (m : Meaning) (t : Opened) (seen : List Event) (a : Reach) (c : CoreModel) (v : ViewModel) → IsViewed o m t seen c v → (policies : List Policy) (query : Option FilterQuery) (range : BytesRange) (order : IterationOrder) (r : Result DbIterator SlateDBError) → r ≡ Err OutOfMemory →
    IsViewScan o m policies query t seen c range order a a r
scan_memory o m t seen a c v is policies query range order r out = subst (IsViewScan o m policies query t seen c range order a a) (sym out) (record {
  leaves = λ d. tt;
  undamaged = λ d. tt;
  opened = record {
    opened = λ above d. tt;
    checked = λ above os d. tt;
    later = tt;
    hands = tt;
    within = none_within policies query a c is.taken.unseen (λ left. Unit {0}) is.taken.whole tt;
    undamaged = λ above d. tt;
    cause = inl tt;
    still = refl;
  };
})

-- the rows of no operations
pub own_none : (range : BytesRange) (order : IterationOrder) (r : Result RowList SlateDBError) → IfOk r (λ it. it.rows ≡ []) → IfOk r (λ it. IsInOrder order it.rows) → IfOk r (λ it. AreInTurn (row_before order) it.rows) → IfOk r (λ it. it.order ≡ order) → IfOk r (HasRows order (HasOwn range []))
own_none range order (Ok it) none ordered turn same = record { rows = λ k. ap (of_key k) none ∙ by (in_range range k); in_order = ordered; turn = turn; same_order = same }
  where
    nothing : List RowEntry
    nothing = []

    by : (b : Bool) → nothing ≡ (if b then nothing else nothing)
    by true = refl
    by false = refl
own_none range order (Err e) none ordered turn same = tt
