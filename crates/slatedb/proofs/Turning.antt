-- What the calls around two turns leave of two scans of one transaction. What the laws of slate_db say is handed in, as their calls gave it.
use Rattle.std.proofs.Common.{◌≡◌, ◌≢◌, ◌<◌, ℕ, List, [], ◌∷◌, ◌++◌, drop, Option, Some, None, inl, refl, sym, ap, subst, ◌∙◌, arith, ℤ, count_by}
use Rattle.std.specs.Prelude.{IsSome}
use Rattle.slate_types.specs.declared.bytes_range.BytesRange.{BytesRange}
use Rattle.slate_types.specs.declared.config.IsolationLevel.{IsolationLevel}
use Rattle.slate_types.specs.declared.iter.IterationOrder.{IterationOrder}
use Rattle.slate_types.specs.declared.types.KeyValue.{KeyValue}
use Rattle.slate_types.specs.declared.types.RowEntry.{RowEntry}
use Rattle.slate_types.specs.Outside.{Objects, OnlyReads, Reach, no_parts, object_at}
use Rattle.slate_types.specs.World.{Sees, World}
use Rattle.slate_filter.specs.Policy.{Policy}
use Rattle.slate_mem.specs.KeyTests.{Segments}
use Rattle.slate_txn.specs.declared.event.Event.{Event}
use Rattle.slate_txn.specs.declared.event.Event.TheVariants as events
use Rattle.slate_txn.specs.declared.event.TranscriptStep.TheVariants as steps
use Rattle.slate_txn.specs.declared.line.Line.TheVariants as lines
use Rattle.slate_txn.specs.Alone.{first_left}
use Rattle.slate_txn.specs.Named.{find_named}
use Rattle.slate_txn.specs.Reads.{rows_seen}
use Rattle.slate_txn.specs.Replay.{IsLegal}
use Rattle.slate_txn.specs.Reply.{Flushed}
use Rattle.slate_txn.specs.Settings.{Settings}
use Rattle.slate_txn.specs.State.{State, Tx}
use Rattle.slate_txn.specs.Step.{Reader, is_scan, noted, reader, reader_or_snapshot, step, tx_reader}
use Rattle.slate_txn.specs.Vouched.{AreAlone, AreVouched}
use Rattle.slate_db.specs.declared.scan.TxnIterator.{TxnIterator}
use Rattle.slate_db.specs.Committed.{IsCommitted}
use Rattle.slate_db.specs.Flushed.{Flushes, Layout}
use Rattle.slate_db.specs.Frozen.{IsFrozen}
use Rattle.slate_db.specs.Installs.{Holds, Replays, tables_of}
use Rattle.slate_db.specs.LeftLaws.{CallsBesideKeepWhatIsLeft, IsBeside, IsLeft, StepsEndNothing, WhatIsLeftIsOpen, recorded, stepped}
use Rattle.slate_db.specs.Meaning.{Meaning, rules_in, rules_of}
use Rattle.slate_db.specs.Model.{CoreModel}
use Rattle.slate_db.specs.HeldOn.{FiltersOn, HoldsOn}
use Rattle.slate_db.specs.Readable.{AreFiltered, IsAnswered, IsReadable}
use Rattle.slate_db.specs.Opened.{HasTransaction}
use Rattle.slate_db.specs.Scans.{HasLeft, IsScanOf, Leaves, LeavesIn, id_of, number_of, scan_of}
use Rattle.slate_db.specs.SerialLaws.{CommitsKeepItVouched, CommitsStandAtTheirPlaces, IsVouchedCore, OtherEventsKeepItVouched, StayVouched, WritesKeepCoresVouched}
use Rattle.slate_db.specs.Sound.{IsKept}
use Rattle.slate_db.specs.Vouched.{IsVouchedFor}
use Rattle.slatedb.specs.Turns.{AreBoth, IsBare, Stands}
use Rattle.slatedb.proofs.FirstTable.{holds_after, none_more}

-- ---- two scans

pub swapped : (m : Meaning) (c : CoreModel) (x y : TxnIterator) → AreBoth m c x y → AreBoth m c y x
swapped m c x y h = record { first = h.second; second = h.first; x_left = h.y_left; y_left = h.x_left; one = sym h.one; apart = λ e. h.apart (sym e) }

pub both_beside : (m : Meaning) (c d : CoreModel) (x y : TxnIterator) → CallsBesideKeepWhatIsLeft → IsBeside x c d → IsBeside y c d → AreBoth m c x y → AreBoth m d x y
both_beside m c d x y law of_x of_y h =
    record { first = h.first; second = h.second; x_left = law m c d x h.first of_x h.x_left; y_left = law m c d y h.second of_y h.y_left; one = h.one; apart = h.apart }

pub bare_beside : (m : Meaning) (c d : CoreModel) (it : TxnIterator) → CallsBesideKeepWhatIsLeft → IsBeside it c d → IsBare m c it → IsBare m d it
bare_beside m c d it law of_it h = record { rows = h.rows; left = law m c d it h.rows of_it h.left; world = h.world; bare = h.bare; meant = h.meant; leaves = h.leaves }

-- ---- what stands

stands_same : (policies : List Policy) (r : Reach) (os : Objects) (c d : CoreModel) → d.settings ≡ c.settings → d.events ≡ c.events → (IsKept r.meaning c → IsKept r.meaning d) → StayVouched r.meaning c d → Stands policies r os c → Stands policies r os d
stands_same policies r os c d settings same keeps stay h = record {
  told = h.told;
  readable = record {
    lawful = h.readable.lawful;
    lawful_policies = h.readable.lawful_policies;
    filtered = subst (λ (es : List Event). AreFiltered r.meaning.encode policies (tables_of es)) (sym same) h.readable.filtered;
    kept = keeps h.readable.kept;
    holds = subst (λ (es : List Event). Holds os (tables_of es)) (sym same) h.readable.holds;
  };
  vouched = record {
    journal = subst (λ (o : Settings). AreVouched (rules_of o r.meaning) d.events) (sym settings) (subst (AreVouched (rules_of c.settings r.meaning)) (sym same) h.vouched.journal);
    transactions = λ id. stay id (h.vouched.transactions id);
  };
}

stands_later : (policies : List Policy) (r s : Reach) (os : Objects) (c : CoreModel) → s.objects ≡ r.objects → s.meaning ≡ r.meaning → Stands policies r os c → Stands policies s os c
stands_later policies r s os c objects meaning h = record {
  told = objects ∙ h.told;
  readable = subst (λ (m : Meaning). IsReadable policies m os c) (sym meaning) h.readable;
  vouched = subst (λ (m : Meaning). IsVouchedCore m c) (sym meaning) h.vouched;
}

-- ---- a row that is taken

next_left : (m : Meaning) (c d : CoreModel) (x z : TxnIterator) (a : Option KeyValue) (order : IterationOrder) (range : BytesRange) (rows : List RowEntry) → StepsEndNothing →
    d ≡ record c { state = noted c.state (id_of x) (steps.Next (number_of x) a ∷ []) } → IsScanOf (id_of x) (number_of x) order range z →
    ((m : Meaning) (rows : List RowEntry) → HasLeft m c x rows → HasLeft m d z (drop 1 rows)) → IsLeft m c x rows → IsLeft m d z (drop 1 rows)
next_left m c d x z a order range rows law is names left h = record {
  is_open = subst (HasTransaction d) (sym names.named) (law c d (id_of x) (id_of x) (steps.Next (number_of x) a ∷ []) is h.is_open);
  left = left m rows h.left;
}

passed_by : (c d : CoreModel) (x y : TxnIterator) (a : Option KeyValue) → d ≡ record c { state = noted c.state (id_of x) (steps.Next (number_of x) a ∷ []) } → number_of x ≢ number_of y → IsBeside y c d
passed_by c d x y a is apart = recorded (id_of x) (steps.Next (number_of x) a) (λ same. apart) is

pub next_both : (m : Meaning) (c d : CoreModel) (x z y : TxnIterator) (a : Option KeyValue) (order : IterationOrder) (range : BytesRange) → CallsBesideKeepWhatIsLeft → StepsEndNothing →
    d ≡ record c { state = noted c.state (id_of x) (steps.Next (number_of x) a ∷ []) } → IsScanOf (id_of x) (number_of x) order range z →
    ((m : Meaning) (rows : List RowEntry) → HasLeft m c x rows → HasLeft m d z (drop 1 rows)) → AreBoth m c x y → AreBoth m d z y
next_both m c d x z y a order range beside law is names left h = record {
  first = drop 1 h.first;
  second = h.second;
  x_left = next_left m c d x z a order range h.first law is names left h.x_left;
  y_left = beside m c d y h.second (passed_by c d x y a is h.apart) h.y_left;
  one = h.one ∙ sym names.named;
  apart = λ same. h.apart (sym names.number ∙ same);
}

pub record HasTurned (policies : List Policy) (r s : Reach) (os : Objects) (d : CoreModel) (x y : TxnIterator) : Type 0 where
  pub stands : Stands policies s os d
  pub x_bare : IsBare r.meaning d x
  pub y_bare : IsBare r.meaning d y

pub next_stands : (policies : List Policy) (r s : Reach) (os : Objects) (c d : CoreModel) (x z y : TxnIterator) (a : Option KeyValue) (order : IterationOrder) (range : BytesRange) → CallsBesideKeepWhatIsLeft → StepsEndNothing →
    d ≡ record c { state = noted c.state (id_of x) (steps.Next (number_of x) a ∷ []) } → IsScanOf (id_of x) (number_of x) order range z →
    ((m : Meaning) (rows : List RowEntry) → HasLeft m c x rows → HasLeft m d z (drop 1 rows)) →
    ((w : World) (rows : List RowEntry) → Leaves (scan_of x) w rows → Sees w r s → (a ≡ first_left rows) × Leaves (scan_of z) w (drop 1 rows)) →
    ((w : World) (rows : List RowEntry) → Leaves (scan_of x) w rows → Sees w r s → HasLeft r.meaning c x rows → (other : List ℕ) → IsVouchedFor r.meaning c other → IsVouchedFor r.meaning d other) →
    ((m : Meaning) → IsKept m c → IsKept m d) → OnlyReads r s → number_of x ≢ number_of y →
    Stands policies r os c → IsBare r.meaning c x → IsBare r.meaning c y → HasTurned policies r s os d z y
next_stands policies r s os c d x z y a order range beside law is names left rows vouched keeps reads apart h b other = record {
  stands = stands_later policies r s os d reads.objects reads.meaning
      (stands_same policies r os c d (ap (λ (v : CoreModel). v.settings) is) (ap (λ (v : CoreModel). v.events) is) (keeps r.meaning) (vouched b.world b.rows b.leaves sees b.left.left) h);
  x_bare = record {
    rows = drop 1 b.rows;
    left = next_left r.meaning c d x z a order range b.rows law is names left b.left;
    world = b.world;
    bare = b.bare;
    meant = b.meant;
    leaves = (rows b.world b.rows b.leaves sees).1;
  };
  y_bare = bare_beside r.meaning c d y beside (passed_by c d x y a is apart) other;
}
  where
    sees : Sees b.world r s
    sees = record { meaning = b.meant; met = inl (record { os = os; tells = h.told; holds = λ path kept at. absurd (b.bare path kept at) }) }

-- ---- a get and a put

pub get_beside : (c d : CoreModel) (it : TxnIterator) (id k : List ℕ) (a : Option KeyValue) → d ≡ record c { state = noted c.state id (steps.Get k a ∷ []) } → IsBeside it c d
get_beside c d it id k a is = recorded id (steps.Get k a) (λ same. tt) is

pub get_stands : (policies : List Policy) (r s : Reach) (os : Objects) (c d : CoreModel) (id k : List ℕ) (a : Option KeyValue) → d ≡ record c { state = noted c.state id (steps.Get k a ∷ []) } →
    (IsAnswered policies r s c → (other : List ℕ) → IsVouchedFor r.meaning c other → IsVouchedFor r.meaning d other) → ((m : Meaning) → IsKept m c → IsKept m d) → OnlyReads r s → Stands policies r os c → Stands policies s os d
get_stands policies r s os c d id k a is vouched keeps reads h =
    stands_later policies r s os d reads.objects reads.meaning
    (stands_same policies r os c d (ap (λ (v : CoreModel). v.settings) is) (ap (λ (v : CoreModel). v.events) is) (keeps r.meaning) (vouched (record { os = os; readable = h.readable; answers = inl h.told })) h)

pub put_stands : (policies : List Policy) (r : Reach) (os : Objects) (c d : CoreModel) → d.settings ≡ c.settings → d.events ≡ c.events → ((m : Meaning) → IsKept m c → IsKept m d) →
    ((m : Meaning) (other : List ℕ) → IsVouchedFor m c other → IsVouchedFor m d other) → Stands policies r os c → Stands policies r os d
put_stands policies r os c d settings same keeps vouched h = stands_same policies r os c d settings same (keeps r.meaning) (vouched r.meaning) h

-- ---- between two turns, by three calls

pub between_both : (m : Meaning) (c d e f : CoreModel) (x y : TxnIterator) → CallsBesideKeepWhatIsLeft → ((it : TxnIterator) → IsBeside it c d) → ((it : TxnIterator) → IsBeside it d e) → ((it : TxnIterator) → IsBeside it e f) →
    AreBoth m c x y → AreBoth m f x y
between_both m c d e f x y law first second third h =
    both_beside m e f x y law (third x) (third y) (both_beside m d e x y law (second x) (second y) (both_beside m c d x y law (first x) (first y) h))

pub between_bare : (m : Meaning) (c d e f : CoreModel) (it : TxnIterator) → CallsBesideKeepWhatIsLeft → ((it : TxnIterator) → IsBeside it c d) → ((it : TxnIterator) → IsBeside it d e) → ((it : TxnIterator) → IsBeside it e f) →
    IsBare m c it → IsBare m f it
between_bare m c d e f it law first second third h = bare_beside m e f it law (third it) (bare_beside m d e it law (second it) (bare_beside m c d it law (first it) h))

pub bare_meant : (m n : Meaning) (c : CoreModel) (it : TxnIterator) → m ≡ n → IsBare m c it → IsBare n c it
bare_meant m n c it same h = subst (λ (p : Meaning). IsBare p c it) same h

-- ---- a flush

pub flush_beside : (c d : CoreModel) (n : ℕ) → d.settings ≡ c.settings → ((m : Meaning) (g : Segments) → step (rules_in c.settings m g) c.state lines.Flush ≡ (d.state, Flushed n)) → (it : TxnIterator) → IsBeside it c d
flush_beside c d n settings is it = stepped (rules_in c.settings no_parts None) lines.Flush (Flushed n) tt settings (is no_parts None)

pub record HasFlushed (policies : List Policy) (s : Reach) (d : CoreModel) : Type 0 where
  pub os : Objects
  pub stands : Stands policies s os d

pub flush_stands : (policies : List Policy) (r s : Reach) (layout : Layout) (os : Objects) (c between d : CoreModel) (n : ℕ) → WritesKeepCoresVouched → IsFrozen c between → Flushes layout r s between d n →
    HoldsOn r s c d → FiltersOn policies r.meaning c d → (IsKept r.meaning c → IsKept r.meaning d) → s.meaning ≡ r.meaning → Stands policies r os c → HasFlushed policies s d
flush_stands policies r s layout os c between d n writes frozen flushed held filtered keeps meaning h =
    let after = holds_after s.objects d.events (held os h.told h.readable.holds) in
    record {
      os = after.os;
      stands = record {
        told = after.is;
        readable = subst (λ (m : Meaning). IsReadable policies m after.os d) (sym meaning) (record {
          lawful = h.readable.lawful;
          lawful_policies = h.readable.lawful_policies;
          filtered = filtered h.readable.filtered;
          kept = keeps h.readable.kept;
          holds = after.holds;
        });
        vouched = subst (λ (m : Meaning). IsVouchedCore m d) (sym meaning) ((writes r.meaning between d ((writes r.meaning c between h.vouched).1 frozen)).2 layout r s n flushed);
      };
    }

-- ---- an opening

pub record IsFound (o : Option Tx) : Type 0 where
  pub tx : Tx
  pub is : o ≡ Some tx

pub found_of : (o : Option Tx) → IsSome o → IsFound o
found_of None h = cc
found_of (Some t) h = record { tx = t; is = refl }

pub reads_as : (s : State) (id : List ℕ) (t : Tx) → find_named id s.txns ≡ Some t → reader s id ≡ Some (tx_reader t)
reads_as s id t found = ap (λ (o : Option Tx). reader_or_snapshot o (find_named id s.snapshots)) found

-- by the clauses of an opening of a scan
module _ (m : Meaning) (c d : CoreModel) (id : List ℕ) (order : IterationOrder) (range : BytesRange) (it : TxnIterator)
    (law : StepsEndNothing) (begun_there : HasTransaction c id) (is : d ≡ record c { state = noted c.state id (steps.Scan order range ∷ []) })
    (names : (from : Reader) → reader c.state id ≡ Some from → IsScanOf id from.scans order range it) where
  abbrev opener : Tx
  opener = (found_of (find_named id c.state.txns) begun_there).tx

  opens : reader c.state id ≡ Some (tx_reader opener)
  opens = reads_as c.state id opener (found_of (find_named id c.state.txns) begun_there).is

  abbrev fixed : List RowEntry
  fixed = rows_seen (rules_of c.settings m) c.state.commits opener.begin opener.ops order range

  pub opened_named : id_of it ≡ id
  opened_named = (names (tx_reader opener) opens).named

  pub opened_beside : (other : TxnIterator) → IsBeside other c d
  opened_beside other = recorded id (steps.Scan order range) (λ same. tt) is

  pub opened_left : ((from : Reader) → reader c.state id ≡ Some from → HasLeft m d it (rows_seen (rules_of c.settings m) c.state.commits from.at from.ops order range)) → IsLeft m d it fixed
  opened_left left = record { is_open = subst (HasTransaction d) (sym opened_named) (law c d id id (steps.Scan order range ∷ []) is begun_there); left = left (tx_reader opener) opens }

  pub opened_both : (x : TxnIterator) (rows : List RowEntry) → CallsBesideKeepWhatIsLeft → WhatIsLeftIsOpen → id_of x ≡ id → IsLeft m c x rows → IsLeft m d it fixed → AreBoth m d x it
  opened_both x rows beside opened of_x h left = record {
    first = rows;
    second = fixed;
    x_left = beside m c d x rows (opened_beside x) h;
    y_left = left;
    one = opened_named ∙ sym of_x;
    apart = λ same.
        let below : number_of x < count_by is_scan opener.transcript = (opened m c x rows h).1 opener (ap (λ (k : List ℕ). find_named k c.state.txns) of_x ∙ (found_of (find_named id c.state.txns) begun_there).is) in
        let next : number_of it ≡ count_by is_scan opener.transcript = (names (tx_reader opener) opens).number in
        omega (arith, same);
  }

  pub opened_bare : (policies : List Policy) (r s : Reach) → r.meaning ≡ m →
      ((from : Reader) → reader c.state id ≡ Some from → (a : IsAnswered policies r s c) → LeavesIn a.os m it (rows_seen (rules_of c.settings m) c.state.commits from.at from.ops order range)) →
      IsLeft m d it fixed → Stands policies r [] c → IsBare m d it
  opened_bare policies r s meant opened left h = record {
    rows = fixed;
    left = left;
    world = leaves.0;
    bare = λ path kept at. no_object path kept.bytes (leaves.1.tables path kept at).there;
    meant = leaves.1.meaning;
    leaves = leaves.2;
  }
    where
      leaves : LeavesIn [] m it fixed
      leaves = opened (tx_reader opener) opens (record { os = []; readable = h.readable; answers = inl h.told })

      no_object : (path bytes : List ℕ) → object_at [] path ≡ Some bytes → ⊥
      no_object path bytes at = cc

pub scan_stands : (policies : List Policy) (r s : Reach) (os : Objects) (c d : CoreModel) (id : List ℕ) (order : IterationOrder) (range : BytesRange) → d ≡ record c { state = noted c.state id (steps.Scan order range ∷ []) } →
    ((m : Meaning) (other : List ℕ) → IsVouchedFor m c other → IsVouchedFor m d other) → ((m : Meaning) → IsKept m c → IsKept m d) → OnlyReads r s → Stands policies r os c → Stands policies s os d
scan_stands policies r s os c d id order range is vouched keeps reads h =
    stands_later policies r s os d reads.objects reads.meaning
    (stands_same policies r os c d (ap (λ (v : CoreModel). v.settings) is) (ap (λ (v : CoreModel). v.events) is) (keeps r.meaning) (vouched r.meaning) h)

-- ---- a begin and a commit

pub begin_stands : (policies : List Policy) (r : Reach) (os : Objects) (c d : CoreModel) (id : List ℕ) (level : IsolationLevel) (n : ℕ) → OtherEventsKeepItVouched →
    d ≡ record c { state = d.state; events = c.events ++ (events.Begin id level n ∷ []); spare = d.spare } → ((m : Meaning) (other : List ℕ) → IsVouchedFor m c other → IsVouchedFor m d other) → ((m : Meaning) → IsKept m c → IsKept m d) →
    Stands policies r os c → Stands policies r os d
begin_stands policies r os c d id level n others is vouched keeps h = record {
  told = h.told;
  readable = record {
    lawful = h.readable.lawful;
    lawful_policies = h.readable.lawful_policies;
    filtered = subst (AreFiltered r.meaning.encode policies) (sym tables) h.readable.filtered;
    kept = keeps r.meaning h.readable.kept;
    holds = subst (Holds os) (sym tables) h.readable.holds;
  };
  vouched = record {
    journal = others r.meaning c d (events.Begin id level n) tt (ap (λ (v : CoreModel). v.settings) is) (ap (λ (v : CoreModel). v.events) is) h.vouched.journal;
    transactions = λ other. vouched r.meaning other (h.vouched.transactions other);
  };
}
  where
    tables : tables_of d.events ≡ tables_of c.events
    tables = ap (λ (v : CoreModel). tables_of v.events) is ∙ none_more c.events (events.Begin id level n) refl

pub commit_alone : (m : Meaning) (c d : CoreModel) (id : List ℕ) (n : Option ℕ) (now : ℤ) → CommitsKeepItVouched → CommitsStandAtTheirPlaces → HasTransaction c id → Replays c.events c.state →
    ((t : Tx) → find_named id c.state.txns ≡ Some t → IsCommitted c d id n now t) → IsLegal d.settings.start_seq d.events → IsVouchedCore m c → AreAlone (rules_of d.settings m) d.events
commit_alone m c d id n now commits places begun_there replays event legal h =
    let here = found_of (find_named id c.state.txns) begun_there in
    places m d legal (commits m c d id n now here.tx replays here.is (h.transactions id) (event here.tx here.is) h.journal)
