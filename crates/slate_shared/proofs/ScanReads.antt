-- What the opening of a transaction's scan answers, and what its steps leave.
use Rattle.std.proofs.Common.{inl, inr, ◌≡◌, ◌⊎◌, ℕ, ◌-◌, ◌<◌, Bool, true, false, List, [], ◌∷◌, ◌++◌, drop, length, map, Some, None, Option, refl, sym, ap, subst, ◌∙◌}
use Rattle.std.specs.Prelude.{Result, Ok, Err, IfOk, IfErr, IsOkUnless, OnErr, OnOk, count_by, if◌then◌else◌, nat_eq, slice_get, slice_index}
use Rattle.std.specs.List.{starts_with}
use Rattle.std.specs.declared.ops.Bound.{Bound}
use Rattle.std.proofs.lemmas.Option.{get_or_from_slice_get, same_Some}
use mathlib.Core.List.{IsPrefix}
use Rattle.slate_types.specs.declared.bytes_range.BytesRange.{BytesRange}
use Rattle.slate_types.specs.declared.config.Options.{Options}
use Rattle.slate_types.specs.declared.error.SlateDBError.{SlateDBError}
use Rattle.slate_types.specs.declared.error.SlateDBError.TheVariants.{InvalidRange, OutOfMemory}
use Rattle.slate_types.specs.declared.filter_policy.FilterQuery.{FilterQuery}
use Rattle.slate_types.specs.declared.iter.IterationOrder.{IterationOrder}
use Rattle.slate_types.specs.declared.types.KeyValue.{KeyValue}
use Rattle.slate_types.specs.declared.types.RowEntry.{RowEntry}
use Rattle.slate_types.specs.Iteration.{RowList, drop_before}
use Rattle.slate_types.specs.Keys.{behind, in_range, is_refused, prefix_end, prefix_start, prefix_subrange, range_of}
use Rattle.slate_types.specs.Outside.{IsCounted, IsFault, Meaning, Objects, Reach, unblamed}
use Rattle.slate_types.specs.World.{World}
use Rattle.slate_types.proofs.Reaching.{reads_none}
use Rattle.slate_filter.specs.Policy.{Policy}
use Rattle.slate_mem.specs.Batch.{Ops}
use Rattle.slate_read.specs.TableWalk.{path_in}
use Rattle.slate_txn.specs.declared.event.Event.{Event}
use Rattle.slate_txn.specs.declared.event.TranscriptStep.{TranscriptStep}
use Rattle.slate_txn.specs.declared.event.TranscriptStep.TheVariants as steps
use Rattle.slate_txn.specs.Alone.{IsVouched, first_left, own_of, scans_left}
use Rattle.slate_txn.specs.Named.{find_named}
use Rattle.slate_txn.specs.Reads.{rows_seen}
use Rattle.slate_txn.specs.Replay.{replay}
use Rattle.slate_txn.specs.Settings.{Settings, settings_of}
use Rattle.slate_txn.specs.State.{Commit, Rules, Tx, begun}
use Rattle.slate_txn.specs.Step.{is_scan, reader_or_snapshot, tx_reader}
use Rattle.slate_txn.proofs.ScanLaws.{count_left, next_alone, next_moves, opened_left, scan_alone, seek_alone, seek_moves}
use Rattle.slate_db.specs.declared.scan.DbIterator.{DbIterator}
use Rattle.slate_db.specs.declared.scan.TxnIterator.{TxnIterator}
use Rattle.slate_db.specs.Log.{AreFine}
use Rattle.slate_db.specs.Meaning.{rules_of}
use Rattle.slate_db.specs.Model.{CoreModel}
use Rattle.slate_db.specs.OpenScans.{HasRows}
use Rattle.slate_db.specs.Prefixes.{asked_prefix}
use Rattle.slate_db.specs.RangeShares.{IsOpened, IsReaderOf}
use Rattle.slate_db.specs.Scanned.{HasOwn}
use Rattle.slate_db.specs.Scans.{IsScanOf, IsScanWithin, IsWorldOf, Leaves, LeavesIn, OpensAlone, id_of, number_of, scan_of}
use Rattle.slate_db.proofs.BeginsLaws.{begins_in}
use Rattle.slate_db.proofs.ScanNotes.{get_within}
use Rattle.slate_db.proofs.ScanWithin.{within_as}
use Rattle.slate_shared.specs.KeyReads.{IsAnsweredBy, IsCoreOf}
use Rattle.slate_shared.specs.Passes.{Opened}
use Rattle.slate_shared.specs.Scans.{IsLeftOf, IsOpening, IsScanOpened, rows_of_range, rows_in, noted_scan, sought_to, noted_next}
use Rattle.slate_shared.proofs.Gets.{answered_core}
use Rattle.slate_shared.proofs.Lists.{prefix_self}

-- it is a reader of the core that its answers speak of
pub reader_of : (o : Options) (m : Meaning) (t : Opened) (seen : List Event) (c : CoreModel) → IsCoreOf o m t seen c → (range : BytesRange) (order : IterationOrder) (own : RowList) → AreFine t.tx.ops → HasRows order (HasOwn range t.tx.ops) own → IsReaderOf c t.id (tx_reader t.tx) range order own
reader_of o m t seen c core range order own fine has = record { open_there = ap (λ (x : Option Tx). reader_or_snapshot x (find_named t.id c.state.snapshots)) core.open_there; fine = fine; own_are = has }

abbrev no_rows : SlateDBError → Result DbIterator SlateDBError
no_rows e = Err e

abbrev no_scan : SlateDBError → Result TxnIterator SlateDBError
no_scan e = Err e

module _ (o : Options) (m : Meaning) (policies : List Policy) (query : Option FilterQuery) (range : BytesRange) (order : IterationOrder) (old n : Opened) (a b : Reach) (same : a.meaning ≡ m) (quiet : Type 0) where
  abbrev rules : Rules
  rules = rules_of (settings_of o) m

  pub scan_refused : (e : SlateDBError) → IsOpening o m policies query range order old n a b quiet (Err e) → (r : Result TxnIterator SlateDBError) → r ≡ Err e → IsScanOpened o m policies query range order old n a b quiet r
  scan_refused e h r is = subst (IsScanOpened o m policies query range order old n a b quiet) (sym is) (record {
    noted = tt;
    unnoted = h.same;
    seen = h.seen;
    names = tt;
    leaves = λ d. tt;
    left = tt;
    undamaged = λ d. fault d h.opened;
    vouched = λ k. subst (IsVouched rules (replay n.seen).commits) (sym (ap (λ (x : Opened). x.tx) h.same)) k;
    opened = by h.opened;
    reads = h.reads;
    still = h.still;
  })
    where
      fault : IsAnsweredBy policies m n.seen old.tx.ops a b → ((no_rows e ≡ Err OutOfMemory) × quiet) ⊎ ((c : CoreModel) × IsCoreOf o m old n.seen c × IsOpened policies query a b c old.tx.begin old.tx.ops range order (Err e)) → IsFault a b e
      fault d (inl out) = let same_error : e ≡ OutOfMemory = cc out.0 in subst (IsCounted a.faults b.faults) (sym same_error) tt
      fault d (inr (c, core, io)) = io.undamaged core.above_floor (answered_core o m policies old n.seen a b same c core d)

      by : ((no_rows e ≡ Err OutOfMemory) × quiet) ⊎ ((c : CoreModel) × IsCoreOf o m old n.seen c × IsOpened policies query a b c old.tx.begin old.tx.ops range order (Err e)) →
          ((no_scan e ≡ Err OutOfMemory) × quiet) ⊎ ((c : CoreModel) × IsCoreOf o m old n.seen c × (((no_scan e ≡ Err OutOfMemory) × OpensAlone policies query a b c) ⊎ IsOpened policies query a b c old.tx.begin old.tx.ops range order (Err e)))
      by (inl out) = let same_error : e ≡ OutOfMemory = cc out.0 in inl (ap (λ (d : SlateDBError). Err d) same_error, out.1)
      by (inr (c, core, io)) = inr (c, core, inr io)

  -- its rows were opened, and the opening is noted, or memory is wanting
  module _ (it : DbIterator) (h : IsOpening o m policies query range order old n a b quiet (Ok it)) (z : Opened) where
    tx : n.tx ≡ old.tx
    tx = ap (λ (x : Opened). x.tx) h.same

    pub scan_unnoted : z ≡ n → (r : Result TxnIterator SlateDBError) → r ≡ Err OutOfMemory → IsScanOpened o m policies query range order old z a b quiet r
    scan_unnoted still r is = subst (λ (x : Opened). IsScanOpened o m policies query range order old x a b quiet r) (sym still) (subst (IsScanOpened o m policies query range order old n a b quiet) (sym is) (record {
      noted = tt;
      unnoted = h.same;
      seen = h.seen;
      names = tt;
      leaves = λ d. tt;
      left = tt;
      undamaged = λ d. tt;
      vouched = λ k. subst (IsVouched rules (replay n.seen).commits) (sym tx) k;
      opened = by h.opened;
      reads = h.reads;
      still = ap (unblamed OutOfMemory) h.still;
    }))
      where
        by : ((Ok it ≡ Err OutOfMemory) × quiet) ⊎ ((c : CoreModel) × IsCoreOf o m old n.seen c × IsOpened policies query a b c old.tx.begin old.tx.ops range order (Ok it)) →
            ((no_scan OutOfMemory ≡ Err OutOfMemory) × quiet) ⊎ ((c : CoreModel) × IsCoreOf o m old n.seen c × (((no_scan OutOfMemory ≡ Err OutOfMemory) × OpensAlone policies query a b c) ⊎ IsOpened policies query a b c old.tx.begin old.tx.ops range order (Err OutOfMemory)))
        by (inl out) = cc out.0
        by (inr (c, core, io)) = inr (c, core, inl (refl, within_as policies query a b a.meaning c (λ left. IsScanWithin it (map path_in left)) (λ left. Unit {0}) (λ left h. tt) io.within))

    module _ (x : TxnIterator) (noted : z ≡ record n { tx = noted_scan order it.range n.tx }) (named : id_of x ≡ n.id) (number : number_of x ≡ count_by is_scan n.tx.transcript) (rows : scan_of x ≡ it) where
      longer : n.seen ≡ z.seen
      longer = sym (ap (λ (y : Opened). y.seen) noted)

      new_tx : z.tx ≡ noted_scan order range old.tx
      new_tx = ap (λ (y : Opened). y.tx) noted ∙ (λ i. noted_scan order (h.ranged.0 i) (tx i))

      ordered : (scan_of x).order ≡ order
      ordered = ap (λ (d : DbIterator). d.order) rows ∙ h.ranged.1

      numbered : number_of x ≡ count_by is_scan old.tx.transcript
      numbered = number ∙ ap (λ (t : Tx). count_by is_scan t.transcript) tx

      left_is : slice_get (scans_left rules (replay z.seen).commits z.tx.begin z.tx.transcript) (number_of x) ≡ Some ((scan_of x).order, rows_of_range o m z.seen old.tx order range)
      left_is =
          (λ i. slice_get (scans_left rules (replay z.seen).commits (new_tx i).begin (new_tx i).transcript) (numbered i))
          ∙ opened_left rules (replay z.seen).commits old.tx.begin old.tx.transcript order range
          ∙ (λ i. Some (sym ordered i, rows_seen rules (replay z.seen).commits old.tx.begin (sym h.own i) order range))

      pub scan_is_noted : IsScanOpened o m policies query range order old z a b quiet (Ok x)
      unfolding answered_core
      scan_is_noted = record {
        noted = (λ i. record (noted i) { seen = z.seen }) ∙ (λ i. record (h.same i) { seen = z.seen; tx = noted_scan order (h.ranged.0 i) (tx i) });
        unnoted = tt;
        seen = subst (IsPrefix old.seen) longer h.seen;
        names = record { named = named ∙ ap (λ (y : Opened). y.id) h.same; number = numbered; ordered = ordered; ranged = ap (λ (d : DbIterator). d.range) rows ∙ h.ranged.0 };
        leaves = λ d. leaves d h.opened;
        left = left_is;
        undamaged = λ d. tt;
        vouched = λ k. subst (IsVouched rules (replay z.seen).commits) (sym new_tx) (scan_alone rules (replay z.seen).commits old.tx.begin old.tx.transcript order range k);
        opened = by h.opened;
        reads = h.reads;
        still = h.still;
      }
        where
          leaves : (d : IsAnsweredBy policies m z.seen old.tx.ops a b) → ((Ok it ≡ Err OutOfMemory) × quiet) ⊎ ((c : CoreModel) × IsCoreOf o m old n.seen c × IsOpened policies query a b c old.tx.begin old.tx.ops range order (Ok it)) → LeavesIn d.os m x (rows_of_range o m z.seen old.tx order range)
          leaves d (inl out) = cc out.0
          leaves d (inr (c, core0, io)) =
              let core : IsCoreOf o m old z.seen c = subst (λ (es : List Event). IsCoreOf o m old es c) longer core0 in
              let commits : c.state.commits ≡ (replay z.seen).commits = sym core.replays.commits ∙ ap (λ (es : List Event). (replay es).commits) core.events in
              subst (λ (y : Meaning × (Settings × (List Commit × DbIterator))). (w : World) × IsWorldOf d.os y.0 w × Leaves y.1.1.1 w (rows_seen (rules_of y.1.0 y.0) y.1.1.0 old.tx.begin old.tx.ops order range))
              (λ i. (same i, (core.settings i, (commits i, sym rows i)))) (io.opened core.above_floor (answered_core o m policies old z.seen a b same c core d))

          by : ((Ok it ≡ Err OutOfMemory) × quiet) ⊎ ((c : CoreModel) × IsCoreOf o m old n.seen c × IsOpened policies query a b c old.tx.begin old.tx.ops range order (Ok it)) →
              ((Ok x ≡ Err OutOfMemory) × quiet) ⊎ ((c : CoreModel) × IsCoreOf o m old z.seen c × (((Ok x ≡ Err OutOfMemory) × OpensAlone policies query a b c) ⊎ IsOpened policies query a b c old.tx.begin old.tx.ops range order (rows_in (Ok x))))
          by (inl out) = cc out.0
          by (inr (c, core, io)) = inr (
            c,
            subst (λ (es : List Event). IsCoreOf o m old es c) longer core,
            inr (subst (λ (d : DbIterator). IsOpened policies query a b c old.tx.begin old.tx.ops range order (Ok d)) (sym rows) io),
          )

  pub scan_noted : (it : DbIterator) → IsOpening o m policies query range order old n a b quiet (Ok it) → (z : Opened) (r : Result TxnIterator SlateDBError) →
      IfOk r (λ x. (z ≡ record n { tx = noted_scan order it.range n.tx }) × (id_of x ≡ n.id) × (number_of x ≡ count_by is_scan n.tx.transcript) × (scan_of x ≡ it)) → OnErr r (z ≡ n) → IsOkUnless r OutOfMemory → IsScanOpened o m policies query range order old z a b quiet r
  scan_noted it h z (Ok x) noted still out = scan_is_noted it h z x noted.0 noted.1 noted.2 noted.3
  scan_noted it h z (Err e) noted still out = scan_unnoted it h z still (Err e) (ap (λ (d : SlateDBError). Err d) out)

-- ---- steps

pub err_so : {A : Type 0} {P Q : Type 0} (r : Result A SlateDBError) → (P → Q) → OnErr r P → OnErr r Q
err_so (Ok a) f h = tt
err_so (Err e) f h = f h

pub ok_so : {A : Type 0} {P Q : Type 0} (r : Result A SlateDBError) → (P → Q) → OnOk r P → OnOk r Q
ok_so (Ok a) f h = f h
ok_so (Err e) f h = tt

pub ranged_as : (r : Result DbIterator SlateDBError) (range : BytesRange) (order other : IterationOrder) → order ≡ other → IfOk r (λ it. it.range ≡ range) → IfOk r (λ it. it.order ≡ order) → IfOk r (λ it. (it.range ≡ range) × (it.order ≡ other))
ranged_as (Ok it) range order other same within turned = (within, turned ∙ same)
ranged_as (Err e) range order other same within turned = tt

-- a note leaves the level and the begin
pub noted_begun : {A : Type 0} (r : Result A SlateDBError) (f : A → Tx → Tx) → ((a : A) (t : Tx) → begun (f a t).level (f a t).begin ≡ begun t.level t.begin) → (old new : Tx) → IfOk r (λ a. new ≡ f a old) → OnErr r (new ≡ old) → begun new.level new.begin ≡ begun old.level old.begin
noted_begun (Ok a) f keeps old new noted same = ap (λ (t : Tx). begun t.level t.begin) noted ∙ keeps a old
noted_begun (Err e) f keeps old new noted same = ap (λ (t : Tx). begun t.level t.begin) same

-- so does one that may be refused by another error
pub kept_begun : {A E : Type 0} (r : Result A E) (old new : Tx) (ts : List TranscriptStep) → OnOk r (new ≡ record old { transcript = ts }) → OnErr r (new ≡ old) → begun new.level new.begin ≡ begun old.level old.begin
kept_begun (Ok a) old new ts noted same = ap (λ (t : Tx). begun t.level t.begin) noted
kept_begun (Err e) old new ts noted same = ap (λ (t : Tx). begun t.level t.begin) same

pub sought_begun : {A : Type 0} (r : Result A SlateDBError) (f : Tx → Tx) → ((t : Tx) → begun (f t).level (f t).begin ≡ begun t.level t.begin) → (old new : Tx) → OnOk r (new ≡ f old) → OnErr r (new ≡ old) → begun new.level new.begin ≡ begun old.level old.begin
sought_begun (Ok a) f keeps old new noted same = ap (λ (t : Tx). begun t.level t.begin) noted ∙ keeps old
sought_begun (Err e) f keeps old new noted same = ap (λ (t : Tx). begun t.level t.begin) same

module _ (o : Options) (m : Meaning) (t z : Opened) (it x : TxnIterator) (number : number_of x ≡ number_of it) (order : (scan_of x).order ≡ (scan_of it).order) where
  pub next_leaves : (r : Result (Option KeyValue) SlateDBError) → IfOk r (λ a. z ≡ record t { tx = noted_next (number_of it) a t.tx }) → (rows : List RowEntry) → IsLeftOf o m t it rows → OnOk r (IsLeftOf o m z x (drop 1 rows))
  next_leaves (Ok a) noted rows left =
      (λ i. slice_get (scans_left (rules_of (settings_of o) m) (replay (noted i).seen).commits (noted i).tx.begin (noted i).tx.transcript) (number i))
      ∙ next_moves (rules_of (settings_of o) m) (replay t.seen).commits t.tx.begin t.tx.transcript (number_of it) a ((scan_of it).order, rows) left
      ∙ ap (λ (d : IterationOrder). Some (d, drop 1 rows)) (sym order)
  next_leaves (Err e) noted rows left = tt

  pub next_vouched : (r : Result (Option KeyValue) SlateDBError) → IfOk r (λ a. z ≡ record t { tx = noted_next (number_of it) a t.tx }) → OnErr r (z ≡ t) → (rows : List RowEntry) → IsLeftOf o m t it rows → IfOk r (λ a. a ≡ first_left rows) →
      IsVouched (rules_of (settings_of o) m) (replay t.seen).commits t.tx → IsVouched (rules_of (settings_of o) m) (replay t.seen).commits z.tx
  next_vouched (Ok a) noted same rows left is h =
      subst (λ (y : Opened). IsVouched (rules_of (settings_of o) m) (replay t.seen).commits y.tx) (sym noted)
      (next_alone (rules_of (settings_of o) m) (replay t.seen).commits t.tx.begin t.tx.transcript (number_of it) a ((scan_of it).order, rows) left is h)
  next_vouched (Err e) noted same rows left is h = subst (λ (y : Opened). IsVouched (rules_of (settings_of o) m) (replay t.seen).commits y.tx) (sym same) h

  pub seek_leaves : {A : Type 0} (key : List ℕ) (r : Result A SlateDBError) → OnOk r (z ≡ record t { tx = sought_to (number_of it) key t.tx }) → (rows : List RowEntry) → IsLeftOf o m t it rows → OnOk r (IsLeftOf o m z x (drop_before (scan_of it).order key rows))
  seek_leaves key (Ok a) noted rows left =
      (λ i. slice_get (scans_left (rules_of (settings_of o) m) (replay (noted i).seen).commits (noted i).tx.begin (noted i).tx.transcript) (number i))
      ∙ seek_moves (rules_of (settings_of o) m) (replay t.seen).commits t.tx.begin t.tx.transcript (number_of it) key ((scan_of it).order, rows) left
      ∙ ap (λ (d : IterationOrder). Some (d, drop_before (scan_of it).order key rows)) (sym order)
  seek_leaves key (Err e) noted rows left = tt

  pub seek_vouched : {A : Type 0} (key : List ℕ) (r : Result A SlateDBError) → OnOk r (z ≡ record t { tx = sought_to (number_of it) key t.tx }) → OnErr r (z ≡ t) → number_of it < count_by is_scan t.tx.transcript →
      IsVouched (rules_of (settings_of o) m) (replay t.seen).commits t.tx → IsVouched (rules_of (settings_of o) m) (replay t.seen).commits z.tx
  seek_vouched key (Ok a) noted same opened h =
      subst (λ (y : Opened). IsVouched (rules_of (settings_of o) m) (replay t.seen).commits y.tx) (sym noted)
      (seek_alone (rules_of (settings_of o) m) (replay t.seen).commits t.tx.begin t.tx.transcript (number_of it) key
      (get_within (scans_left (rules_of (settings_of o) m) (replay t.seen).commits t.tx.begin t.tx.transcript) (number_of it)
      (subst (λ (n : ℕ). number_of it < n) (sym (count_left (rules_of (settings_of o) m) (replay t.seen).commits t.tx.begin t.tx.transcript)) opened)) h)
  seek_vouched key (Err e) noted same opened h = subst (λ (y : Opened). IsVouched (rules_of (settings_of o) m) (replay t.seen).commits y.tx) (sym same) h

-- ---- composed ranges

pub composed_fits : (p : List ℕ) (start end : Bound (List ℕ)) (r : BytesRange) → prefix_subrange p start end ≡ Some r → is_refused r.start r.end ≡ false
composed_fits p start end r is = by (behind p start (prefix_start p)) (behind p end (prefix_end p)) is
  where
    by : (a b : Bound (List ℕ)) → range_of a b ≡ Some r → is_refused r.start r.end ≡ false
    by a b h = fits (is_refused a b) refl h
      where
        fits : (t : Bool) → is_refused a b ≡ t → (if t then None else Some (record { start = a; end = b })) ≡ Some r → is_refused r.start r.end ≡ false
        fits true e k = cc
        fits false e k = ap (λ (x : BytesRange). is_refused x.start x.end) (sym (same_Some (record { start = a; end = b }) r k)) ∙ e

-- where there is a range, only memory is wanting
pub memory_or_none : (x : Option BytesRange) (r : BytesRange) → x ≡ Some r → (e : SlateDBError) → (e ≡ OutOfMemory) ⊎ ((e ≡ InvalidRange) × (x ≡ None)) → e ≡ OutOfMemory
memory_or_none x r is e (inl out) = out
memory_or_none x r is e (inr refused) = let clash : None ≡ Some r = sym refused.1 ∙ is in cc

-- each key of a composed range begins with what is asked for
pub begins_asked : (p : List ℕ) (start end : Bound (List ℕ)) (r : BytesRange) → prefix_subrange p start end ≡ Some r → (q k : List ℕ) → asked_prefix p ≡ Some q → in_range r k ≡ true → starts_with nat_eq k q ≡ true
begins_asked p start end r is q k asked within = by (nat_eq (slice_index p (length p - 1)) 255) refl asked
  where
    last : (slice_index p (length p - 1) ≡ 255 → ⊥) → slice_get p (length p - 1) ≡ Some 255 → ⊥
    last other h = other (get_or_from_slice_get p (length p - 1) 255 0 h)

    by : (t : Bool) → nat_eq (slice_index p (length p - 1)) 255 ≡ t → (if t then None else Some p) ≡ Some q → starts_with nat_eq k q ≡ true
    by true e h = cc
    by false e h = subst (λ (x : List ℕ). starts_with nat_eq k x ≡ true) (same_Some p q h)
        (begins_in p start end r k (last (λ s. let clash : true ≡ false = sym (ap (λ (x : ℕ). nat_eq x 255) s) ∙ e in cc)) is within)

-- want of memory, before anything was reached
pub scan_memory : (o : Options) (m : Meaning) (policies : List Policy) (query : Option FilterQuery) (range : BytesRange) (order : IterationOrder) (t : Opened) (a : Reach) (quiet : Type 0) → quiet → (e : SlateDBError) (r : Result TxnIterator SlateDBError) → r ≡ Err e → e ≡ OutOfMemory →
    IsScanOpened o m policies query range order t t a a quiet r
scan_memory o m policies query range order t a quiet held e r is out = subst (IsScanOpened o m policies query range order t t a a quiet) (sym (is ∙ ap (λ (d : SlateDBError). Err d) out)) (record {
  noted = tt;
  unnoted = refl;
  seen = prefix_self t.seen;
  names = tt;
  leaves = λ d. tt;
  left = tt;
  undamaged = λ d. tt;
  vouched = λ h. h;
  opened = inl (refl, held);
  reads = reads_none a;
  still = refl;
})
