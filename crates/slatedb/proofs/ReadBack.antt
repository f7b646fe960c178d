-- What a get reads behind a write and a flush of one pass, of whose journal all commits, writes and installs are its own.
use Rattle.std.proofs.Common.{◌≡◌, ◌⊎◌, inl, inr, ℕ, zero, suc, ◌+◌, ◌<◌, true, false, eqb, List, [], ◌∷◌, ◌++◌, length, Option, Some, None, Result, Ok, Err, pos, ℤ, refl, sym, ap, ◌∙◌, subst, arith, length-append}
use Rattle.std.specs.List.{AllByRecursion}
use Rattle.std.specs.Prelude.{IfOk, OnOk, filter, option_map, slice_get, ◌≢◌}
use Rattle.std.proofs.lemmas.Bool.Decides.{eqb_tells}
use mathlib.Core.List.{IsPrefix}
use Rattle.slate_types.specs.Config.{defaults}
use Rattle.slate_types.specs.declared.config.IsolationLevel.TheVariants.{Snapshot}
use Rattle.slate_types.specs.declared.config.Options.{Options}
use Rattle.slate_types.specs.declared.error.SlateDBError.{SlateDBError}
use Rattle.slate_types.specs.declared.types.KeyValue.{KeyValue}
use Rattle.slate_types.specs.Outside.{Objects, Reach, no_parts}
use Rattle.slate_types.specs.Rows.{key_value}
use Rattle.slate_filter.specs.Policy.{Policy}
use Rattle.slate_mem.specs.Batch.{Ops, kept, kept_ops, batch_keys}
use Rattle.slate_mem.specs.BatchModel.{BatchModel, no_ops, plain_put, with_op}
use Rattle.slate_mem.specs.KeyTests.{Segments}
use Rattle.slate_txn.specs.declared.event.Event.{Event}
use Rattle.slate_txn.specs.declared.event.Event.TheVariants as events
use Rattle.slate_txn.specs.Places.{above_install, is_above}
use Rattle.slate_txn.specs.Reads.{key_rows, seen}
use Rattle.slate_txn.specs.Replay.{replay}
use Rattle.slate_txn.specs.Settings.{Settings, settings_of}
use Rattle.slate_txn.specs.State.{Commit, Tx, begun, last_of}
use Rattle.slate_db.specs.Flushed.{AreTablesOfFlush, Layout, layout_of}
use Rattle.slate_db.specs.Installs.{Holds, tables_of}
use Rattle.slate_db.specs.Meaning.{Meaning, rules_of}
use Rattle.slate_db.specs.Readable.{AreFiltered}
use Rattle.slate_db.specs.Shown.{Asking}
use Rattle.slate_db.specs.Sound.{above}
use Rattle.slate_shared.specs.Ended.{HasWritten}
use Rattle.slate_shared.specs.Errands.{HasLanded, barrier_of}
use Rattle.slate_shared.specs.KeyReads.{IsAnsweredBy, IsGet, seen_by}
use Rattle.slate_shared.specs.Passes.{Opened, PassModel}
use Rattle.slate_shared.specs.Shared.{OwnsAll, times}
use Rattle.slate_shared.proofs.AllKnown.{Within, held_landed, own_before, tables_known, tables_written, within_landed, within_none, within_written}
use Rattle.slate_shared.proofs.Lists.{prefix_length, prefix_more, prefix_self, prefix_trans, same-ne, times-append}
use Rattle.slatedb.specs.FirstSteps.{first_put}
use Rattle.slatedb.specs.ReadBack.{IsAllOwn, IsReadBy, TakesFirstPut, put_commit}
use Rattle.slatedb.proofs.FirstCalls.{lawful_without}
use Rattle.slatedb.proofs.FirstRead as first
use Rattle.slatedb.proofs.FirstRead.{put_op}
use Rattle.slatedb.proofs.OneWrite.{AddsNoInstall, IsInstallBehind, commit_of, commits_one, get_last, no_install, none_before, none_last, nothing_installed}

-- ---- a get of a transaction of its own

-- whether it finds a row or is refused, the transaction is of the same database
pub get_table : (by : Asking) (k : List ℕ) (t u : Opened) (x y : Reach) (r : Result (Option KeyValue) SlateDBError) → IsGet defaults no_parts by k t u x y r → u.table ≡ t.table
get_table by k t u x y (Ok a) get = ap (λ (v : Opened). v.table) get.noted
get_table by k t u x y (Err e) get = ap (λ (v : Opened). v.table) get.unnoted

-- from: the journal behind which it began; later: that behind which it ended
pub read_by : (by : Asking) (k : List ℕ) (p q : PassModel) (t u : Opened) (x y : Reach) (from later : List Event) (e f : Event) (r : Result (Option KeyValue) SlateDBError) → by.policies ≡ [] → IsGet defaults no_parts by k t u x y r →
    t.tx ≡ begun Snapshot t.tx.begin → t.tx.begin ≡ last_of defaults.start_seq (replay from).commits → IsPrefix p.seen from → t.seen ≡ from ++ e ∷ [] → IsPrefix u.seen later → q.seen ≡ later ++ f ∷ [] → IfOk r (IsReadBy k p q x y)
read_by by k p q t u x y from later e f r none get bare start known opened within ended = each r get.answer
  where
    plain : t.tx ≡ begun Snapshot (last_of defaults.start_seq (replay from).commits)
    plain = bare ∙ ap (begun Snapshot) start

    each : (r : Result (Option KeyValue) SlateDBError) → (IsAnsweredBy by.policies no_parts u.seen t.tx.ops x y → IfOk r (λ a. a ≡ option_map key_value (seen_by defaults no_parts u.seen t.tx k))) → IfOk r (IsReadBy k p q x y)
    each (Ok a) answer = record {
      from = from;
      seen = u.seen;
      known = known;
      begins = prefix_trans from t.seen u.seen (subst (IsPrefix from) (sym opened) (e ∷ [], refl)) get.seen;
      ends = subst (IsPrefix u.seen) (sym ended) (prefix_more u.seen later (f ∷ []) within);
      answer = λ answered.
          answer (subst (λ (ps : List Policy). IsAnsweredBy ps no_parts u.seen t.tx.ops x y) (sym none) (subst (λ (v : Tx). IsAnsweredBy [] no_parts u.seen v.ops x y) (sym plain) answered))
          ∙ ap (λ (v : Tx). option_map key_value (seen_by defaults no_parts u.seen v k)) plain;
    }
    each (Err error) answer = tt

-- what was seen before it is seen then
seen_on : (k : List ℕ) (p q : PassModel) (x y : Reach) (a : Option KeyValue) → IsReadBy k p q x y a → IsPrefix p.seen q.seen
seen_on k p q x y a h = prefix_trans p.seen h.from q.seen h.known (prefix_trans h.from h.seen q.seen h.begins h.ends)

-- ---- what the store holds then

-- what a store holds of what is named
record HoldsNamed (m : Meaning) (after : Option Objects) (es : List Event) : Type 0 where
  os : Objects
  is : after ≡ Some os
  holds : Holds os (tables_of es)
  filtered : AreFiltered m.encode [] (tables_of es)

-- the flush stored nothing and touched nothing, or landed
pub still_objects : {E : Type 0} (own own' : List ℕ) (x y : E) (objects : E → Option Objects) (P : Type 0) → ((own' ≡ own) × (y ≡ x)) ⊎ P → ((own' ≡ own) × (objects y ≡ objects x)) ⊎ P
still_objects own own' x y objects P (inl idle) = inl (idle.0, ap objects idle.1)
still_objects own own' x y objects P (inr landed) = inr landed

-- p: the pass at the database's start; q: behind the write; s: behind the flush; t: what the transaction had seen behind its get; es: all events, which are known at the end
module _ (fault : SlateDBError → Type 0) (m : Meaning) (g : Segments) (a : Options) (o : Settings) (now : ℤ) (b : BatchModel) (p q s : PassModel) (w : Result (Option ℕ) SlateDBError) (t es : List Event) (before after : Option Objects) (n : ℕ)
    (starts : p.seen ≡ []) (owns : p.own ≡ []) (written : HasWritten fault m g o now b p q w) (flushed : IsPrefix q.seen s.seen) (opened : IsPrefix s.seen t) (ends : IsPrefix t es) (all : OwnsAll s.own es)
  where
    first_within : Within p.own p.seen
    first_within = subst (λ (ns : List ℕ). Within ns p.seen) (sym owns) (within_none p.seen)

    mine : Within q.own q.seen
    mine = within_written fault m g o now b p q w written first_within

    whole : IsPrefix s.seen es
    whole = prefix_trans s.seen t es opened ends

    none_named : ((i : ℕ) → 0 < times i s.own → i < length q.seen → 0 < times i q.own) → tables_of q.seen ≡ []
    none_named earlier = tables_written fault m g o now b p q w written first_within s.own es earlier all (prefix_trans q.seen s.seen es flushed whole) ∙ ap tables_of starts

    named_held : (os : Objects) → before ≡ Some os → ((s.own ≡ q.own) × (after ≡ before)) ⊎ HasLanded o m (layout_of a [] g) n before after q.seen q.own s.seen s.own → HoldsNamed m after t
    named_held os told (inl idle) =
        let places : (i : ℕ) → 0 < times i s.own → 0 < times i q.own = λ i some. subst (λ (ns : List ℕ). 0 < times i ns) idle.0 some in
        let none : tables_of t ≡ [] = tables_known s.own q.seen t es (λ i some short. mine i (places i some)) all (prefix_trans q.seen s.seen t flushed opened) ends ∙ none_named (λ i some short. places i some) in
        record {
          os = os;
          is = idle.1 ∙ told;
          holds = subst (Holds os) (sym none) tt;
          filtered = subst (AreFiltered m.encode []) (sym none) tt;
        }
    named_held os told (inr landed) =
        let none : tables_of q.seen ≡ [] = none_named (own_before o m (layout_of a [] g) n before after q.seen q.own s.seen s.own landed mine) in
        let left = held_landed o m (layout_of a [] g) n before after q.seen q.own s.seen s.own landed mine es all whole os told (subst (Holds os) (sym none) tt) in
        let same : tables_of t ≡ tables_of s.seen = tables_known s.own s.seen t es (λ i some short. within_landed o m (layout_of a [] g) n before after q.seen q.own s.seen s.own landed mine i some) all opened ends in
        record {
          os = left.0;
          is = left.1;
          holds = subst (Holds left.0) (sym same) left.2;
          filtered = subst (AreFiltered m.encode []) (sym same) landed.filtered;
        }

answered_named : (t : List Event) (before after : Reach) → HoldsNamed no_parts before.objects t → IsAnsweredBy [] no_parts t [] before after
answered_named t before after h = record {
  os = h.os;
  lawful = lawful_without no_parts _ _ refl (λ d. refl);
  lawful_policies = record { distinct = tt; each = tt };
  filtered = h.filtered;
  holds = h.holds;
  operable = λ none. refl;
  answers = inl h.is;
}

-- ---- what it commits

one_place : (i n : ℕ) → 0 < times i (n ∷ []) → i ≡ n
one_place i n some = by (eqb_tells i n)
  where
    by : ((eqb i n ≡ true) × (i ≡ n)) ⊎ ((eqb i n ≡ false) × (i ≢ n)) → i ≡ n
    by (inl is) = is.1
    by (inr other) = let z = same-ne i n other.1 in absurd (omega (arith, z, some))

-- own: the places behind a write at k; own': those behind a flush
module _ (k n : ℕ) (o : Settings) (m : Meaning) (layout : Layout) (before after : Option Objects) (q : List Event) (own : List ℕ) (s : List Event) (own' : List ℕ) (es : List Event) (one : own ≡ k ∷ []) (long : length q ≡ k + 1) (until : IsPrefix s es) where
  own_places : (P : Type 0) → ((own' ≡ own) × P) ⊎ HasLanded o m layout n before after q own s own' → (i : ℕ) → 0 < times i own' → (i ≡ k) ⊎ IsInstallBehind es k i
  own_places P (inl idle) i some = inl (one_place i k (subst (λ (ns : List ℕ). 0 < times i ns) (idle.0 ∙ one) some))
  own_places P (inr landed) i some = by (times i own) refl (times-append i own (length landed.journal ∷ []))
    where
      mine : 0 < times i (own ++ length landed.journal ∷ [])
      mine = subst (λ (ns : List ℕ). 0 < times i ns) landed.place some

      by : (c : ℕ) → times i own ≡ c → times i (own ++ length landed.journal ∷ []) ≡ times i own + times i (length landed.journal ∷ []) → (i ≡ k) ⊎ IsInstallBehind es k i
      by zero is sum =
          let last = one_place i (length landed.journal) (omega (arith, sum, is, mine)) in
          let more = prefix_length q landed.journal landed.seen in
          inr (record {
            later = omega (arith, last, more, long);
            through = n;
            tables = landed.tables;
            stands = subst (λ (j : ℕ). slice_get es j ≡ Some (events.Install n landed.tables)) (sym last) (get_last landed.journal es (events.Install n landed.tables) (subst (λ (xs : List Event). IsPrefix xs es) landed.event until));
          })
      by (suc c) is sum = inl (one_place i k (subst (λ (ns : List ℕ). 0 < times i ns) one (omega (arith, is))))

-- over a journal whose one commit is the put, a transaction that began behind it sees its row
sees_put : (k v : List ℕ) (n start : ℕ) (ops : Ops) (journal : List Event) → ops ≡ kept_ops (put_op k v) → n ≡ 1 → start ≡ n → (replay journal).commits ≡ commit_of n (pos 0) ops ∷ [] → option_map key_value (seen_by defaults no_parts journal (begun Snapshot start) k) ≡ Some (first_put k v)
sees_put k v n start ops journal is one begins commits =
    ap (λ (cs : List Commit). option_map key_value (seen (rules_of (settings_of defaults) no_parts) cs start [] k)) commits
    ∙ ap (λ (i : ℕ). option_map key_value (seen (rules_of (settings_of defaults) no_parts) (commit_of n (pos 0) ops ∷ []) i [] k)) begins
    ∙ ap (λ (i : ℕ). option_map key_value (seen (rules_of (settings_of defaults) no_parts) (commit_of i (pos 0) ops ∷ []) i [] k)) one
    ∙ first.seen_first k v ops (batch_keys ops) (first.kept_first k v ops is)

-- the write of the put, and what stands behind it; x, y: what the get's call reaches before and after
module _ (fault : SlateDBError → Type 0) (g : Segments) (b : BatchModel) (p q s z : PassModel) (w : Result (Option ℕ) SlateDBError) (before : Option Objects) (x y : Reach) (through : ℕ) (k v : List ℕ) (es : List Event)
    (starts : p.seen ≡ []) (owns : p.own ≡ []) (batch : b ≡ with_op no_ops k (plain_put v)) (written : HasWritten fault no_parts g (settings_of defaults) (pos 0) b p q w) (flushed : IsPrefix q.seen s.seen)
    (own : ((s.own ≡ q.own) × (x.objects ≡ before)) ⊎ HasLanded (settings_of defaults) no_parts (layout_of defaults [] g) through before x.objects q.seen q.own s.seen s.own) (all : IsAllOwn z es) (same : z.own ≡ s.own) (os : Objects) (told : before ≡ Some os)
  where
    owns_all : OwnsAll s.own es
    owns_all = subst (λ (ns : List ℕ). OwnsAll ns es) same all.owns

    ops_are : b.ops ≡ kept_ops (put_op k v)
    ops_are = ap (λ (c : BatchModel). c.ops) batch

    some_ops : b.ops ≢ []
    some_ops none = let h : [] ≡ plain_put v ∷ [] = sym (ap (λ (ops : Ops). kept ops k) none) ∙ first.kept_first k v b.ops ops_are in cc h

    found : (r : Result (Option ℕ) SlateDBError) → HasWritten fault no_parts g (settings_of defaults) (pos 0) b p q r → (n : Option ℕ) → r ≡ Ok n → (a : Option KeyValue) → IsReadBy k s z x y a → a ≡ Some (first_put k v)
    found (Err e) h n is a read = absurd (cc is)
    found (Ok None) h n is a read = absurd (some_ops h.is.next)
    found (Ok (Some n)) h _ is a read = read.answer (answered_named read.seen x y held) ∙ sees_put k v n (last_of 0 (replay read.from).commits) b.ops read.seen ops_are one (ap (last_of 0) from_one) seen_one
      where
        until : IsPrefix read.seen es
        until = prefix_trans read.seen z.seen es read.ends all.begins

        begins : IsPrefix s.seen read.seen
        begins = prefix_trans s.seen read.from read.seen read.known read.begins

        held : HoldsNamed no_parts x.objects read.seen
        held = named_held fault no_parts g defaults (settings_of defaults) (pos 0) b p q s (Ok (Some n)) read.seen es before x.objects through starts owns h flushed begins until owns_all os told own

        own_one : q.own ≡ length h.before ∷ []
        own_one = h.own ∙ ap (λ (ns : List ℕ). ns ++ length h.before ∷ []) owns

        long : length q.seen ≡ length h.before + 1
        long = ap length h.after ∙ length-append h.before (events.Write n (pos 0) b.ops ∷ [])

        places : (i : ℕ) → 0 < times i s.own → (i ≡ length h.before) ⊎ IsInstallBehind es (length h.before) i
        places = own_places (length h.before) through (settings_of defaults) no_parts (layout_of defaults [] g) before x.objects q.seen q.own s.seen s.own es own_one long (prefix_trans s.seen read.seen es begins until) (x.objects ≡ before) own

        write_begins : (j : List Event) → IsPrefix s.seen j → IsPrefix (h.before ++ events.Write n (pos 0) b.ops ∷ []) j
        write_begins j pre = subst (λ (xs : List Event). IsPrefix xs j) h.after (prefix_trans q.seen s.seen j flushed pre)

        written_in : IsPrefix (h.before ++ events.Write n (pos 0) b.ops ∷ []) es
        written_in = write_begins es (prefix_trans s.seen read.seen es begins until)

        one : n ≡ 1
        one = h.is.next.0 ∙ ap (λ cs. last_of 0 cs + 1) (none_before s.own es h.before n (pos 0) b.ops owns_all written_in places)

        seen_one : (replay read.seen).commits ≡ commit_of n (pos 0) b.ops ∷ []
        seen_one = commits_one s.own es h.before n (pos 0) b.ops owns_all written_in places read.seen (write_begins read.seen begins) until

        from_one : (replay read.from).commits ≡ commit_of n (pos 0) b.ops ∷ []
        from_one = commits_one s.own es h.before n (pos 0) b.ops owns_all written_in places read.from (write_begins read.from read.known) (prefix_trans read.from read.seen es read.begins until)

    -- what the store took: through, newest, last: as the flush says them
    stored : (r : Result (Option ℕ) SlateDBError) → HasWritten fault no_parts g (settings_of defaults) (pos 0) b p q r → (n : Option ℕ) → r ≡ Ok n → IsPrefix s.seen z.seen → (j : List Event) → IsPrefix q.seen j → IsPrefix j s.seen → through ≡ last_of 0 (replay j).commits →
        AllByRecursion (λ c. through < c.seq) (above_install s.seen) → g ≡ None → TakesFirstPut k v before x.objects
    stored (Err e) h n is later j known ends newest last none = absurd (cc is)
    stored (Ok None) h n is later j known ends newest last none = absurd (some_ops h.is.next)
    stored (Ok (Some n)) h _ is later j known ends newest last none = by own
      where
        until : IsPrefix s.seen es
        until = prefix_trans s.seen z.seen es later all.begins

        own_one : q.own ≡ length h.before ∷ []
        own_one = h.own ∙ ap (λ (ns : List ℕ). ns ++ length h.before ∷ []) owns

        long : length q.seen ≡ length h.before + 1
        long = ap length h.after ∙ length-append h.before (events.Write n (pos 0) b.ops ∷ [])

        places : (i : ℕ) → 0 < times i s.own → (i ≡ length h.before) ⊎ IsInstallBehind es (length h.before) i
        places = own_places (length h.before) through (settings_of defaults) no_parts (layout_of defaults [] g) before x.objects q.seen q.own s.seen s.own es own_one long until (x.objects ≡ before) own

        begun_by : (l : List Event) → IsPrefix q.seen l → IsPrefix (h.before ++ events.Write n (pos 0) b.ops ∷ []) l
        begun_by l pre = subst (λ (xs : List Event). IsPrefix xs l) h.after pre

        written_in : IsPrefix (h.before ++ events.Write n (pos 0) b.ops ∷ []) es
        written_in = begun_by es (prefix_trans q.seen s.seen es flushed until)

        commits_are : (l : List Event) → IsPrefix q.seen l → IsPrefix l es → (replay l).commits ≡ commit_of n (pos 0) b.ops ∷ []
        commits_are l pre post = commits_one s.own es h.before n (pos 0) b.ops owns_all written_in places l (begun_by l pre) post

        clear : (l : List Event) → IsPrefix l es → ((i : ℕ) → 0 < times i s.own → i < length l → i ≡ length h.before) → AddsNoInstall l
        clear l pre only = no_install s.own es h.before n (pos 0) b.ops owns_all written_in places l pre only

        one : n ≡ 1
        one = h.is.next.0 ∙ ap (λ cs. last_of 0 cs + 1) (none_before s.own es h.before n (pos 0) b.ops owns_all written_in places)

        commit_is : commit_of n (pos 0) b.ops ≡ put_commit k v
        commit_is = λ i. record { seq = one i; now = pos 0; ops = ops_are i; tracked = batch_keys (ops_are i) }

        by : ((s.own ≡ q.own) × (x.objects ≡ before)) ⊎ HasLanded (settings_of defaults) no_parts (layout_of defaults [] g) through before x.objects q.seen q.own s.seen s.own → TakesFirstPut k v before x.objects
        by (inl idle) = absurd (omega (arith, passed, newest_is))
          where
            nowhere : AddsNoInstall s.seen
            nowhere = clear s.seen until (λ i some short. one_place i (length h.before) (subst (λ (ns : List ℕ). 0 < times i ns) (idle.0 ∙ own_one) some))

            newest_is : through ≡ n
            newest_is = newest ∙ ap (last_of 0) (commits_are j known (prefix_trans j s.seen es ends until))

            all_above : above_install s.seen ≡ commit_of n (pos 0) b.ops ∷ []
            all_above = ap (λ o. filter (λ (c : Commit). is_above o c.seq) (replay s.seen).commits) (none_last s.seen nowhere) ∙ ap (λ cs. filter (λ (c : Commit). is_above None c.seq) cs) (commits_are s.seen flushed until)

            passed : through < n
            passed = (subst (λ (cs : List Commit). AllByRecursion (λ c. through < c.seq) cs) all_above last).0
        by (inr landed) = record {
          layers = landed.layers;
          rows = λ i.
              landed.taken.rows i
              ∙ ap (λ (a : ℕ). key_rows (rules_of (settings_of defaults) no_parts) i (above a (replay landed.from).commits)) (nothing_installed landed.from (clear landed.from within_all only))
              ∙ ap (λ (cs : List Commit). key_rows (rules_of (settings_of defaults) no_parts) i (above 0 cs)) (commits_are landed.from landed.taken.known within_all ∙ ap (λ (c : Commit). c ∷ []) commit_is);
          number = landed.number;
          barrier = barrier_of (settings_of defaults) landed.from;
          tables = landed.tables;
          made = subst (λ (seg : Segments). AreTablesOfFlush no_parts (layout_of defaults [] seg) landed.number (barrier_of (settings_of defaults) landed.from) landed.layers landed.tables) none landed.put.made;
          taken = landed.put.taken;
        }
          where
            in_whole : IsPrefix landed.journal es
            in_whole = prefix_trans landed.journal s.seen es (subst (IsPrefix landed.journal) (sym landed.event) (prefix_more landed.journal landed.journal (events.Install through landed.tables ∷ []) (prefix_self landed.journal))) until

            within_all : IsPrefix landed.from es
            within_all = prefix_trans landed.from landed.journal es landed.taken.later in_whole

            only : (i : ℕ) → 0 < times i s.own → i < length landed.from → i ≡ length h.before
            only i some short = at_write (times i q.own) refl (times-append i q.own (length landed.journal ∷ []))
              where
                mine : 0 < times i (q.own ++ length landed.journal ∷ [])
                mine = subst (λ (ns : List ℕ). 0 < times i ns) landed.place some

                at_write : (c : ℕ) → times i q.own ≡ c → times i (q.own ++ length landed.journal ∷ []) ≡ times i q.own + times i (length landed.journal ∷ []) → i ≡ length h.before
                at_write zero none_here sum =
                    let end = one_place i (length landed.journal) (omega (arith, sum, none_here, mine)) in
                    let more = prefix_length landed.from landed.journal landed.taken.later in
                    absurd (omega (arith, end, more, short))
                at_write (suc c) some_here sum = one_place i (length h.before) (subst (λ (ns : List ℕ). 0 < times i ns) own_one (omega (arith, some_here)))

    -- so where a read of its own answered then
    pub taken_on : (r : Result (Option KeyValue) SlateDBError) → IfOk r (IsReadBy k s z x y) → (n : Option ℕ) → w ≡ Ok n → ((j : List Event) × IsPrefix q.seen j × IsPrefix j s.seen × (through ≡ last_of 0 (replay j).commits)) → AllByRecursion (λ c. through < c.seq) (above_install s.seen) → g ≡ None → OnOk r (TakesFirstPut k v before x.objects)
    taken_on (Ok a) read n is newest last none = stored w written n is (seen_on k s z x y a read) newest.0 newest.1 newest.2 newest.3 last none
    taken_on (Err e) read n is newest last none = tt

    pub found_put : (n : Option ℕ) → w ≡ Ok n → (a : Option KeyValue) → IsReadBy k s z x y a → a ≡ Some (first_put k v)
    found_put n is a read = found w written n is a read
