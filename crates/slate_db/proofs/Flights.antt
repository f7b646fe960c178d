-- A flush on its way: what each call of a core keeps of it, and what its install keeps of the core.
use Rattle.std.proofs.Common.{◌≡◌, inl, inr, ℕ, ◌+◌, ◌≤◌, ◌<◌, Bool, true, false, cond, List, [], ◌∷◌, ◌++◌, length, length-append, map, filter, take, drop, Option, Some, None, unwrap_or, refl, sym, ap, subst, ◌∙◌, arith, append-nil, append_assoc, nat_le, nat_lt}
use Rattle.std.specs.List.{AllByRecursion}
use Rattle.std.proofs.lemmas.Bool.Decides.{nat_tests}
use Rattle.std.proofs.lemmas.Grind.{flat_map-append}
use Rattle.std.proofs.lemmas.List.{append_cancel_left, length-map, take-append-drop}
use Rattle.std.proofs.lemmas.List.Elements.{filter-append, filter_map-append}
use Rattle.slate_types.specs.declared.types.RowEntry.{RowEntry}
use Rattle.slate_types.specs.declared.types.Ulid.{Ulid}
use Rattle.slate_types.specs.Fold.{fold_rows, AreShort}
use Rattle.slate_types.proofs.Lists.{AllByRecursion_append, AllByRecursion_front, AllByRecursion_behind, AllByRecursion_weaken, AllByRecursion_filter}
use Rattle.slate_mem.specs.KeyTests.{Segments}
use Rattle.slate_mem.specs.Table.{MemTableModel}
use Rattle.slate_read.specs.declared.sorted_run.SortedRun.{SortedRun}
use Rattle.slate_table.specs.Table.{AreInOrder}
use Rattle.slate_txn.specs.declared.event.Event.{Event}
use Rattle.slate_txn.specs.declared.event.Event.TheVariants as events
use Rattle.slate_txn.specs.Open.{least_start}
use Rattle.slate_txn.specs.Places.{above_install, install_of, is_above, last_install, newer_or}
use Rattle.slate_txn.specs.Reads.{up_to, key_rows}
use Rattle.slate_txn.specs.Replay.{replay, apply, apply_all}
use Rattle.slate_txn.specs.State.{Rules, Commit, State, opening, last_of}
use Rattle.slate_txn.proofs.BarrierLaws.{start_above, start_begins, start_shows, start_within}
use Rattle.slate_db.specs.declared.engine.Core.TheInside.{Inside}
use Rattle.slate_db.specs.declared.flight.Flight.{Flight}
use Rattle.slate_db.specs.Cut.{AreCut}
use Rattle.slate_db.specs.Flushed.{CanFlush, IsFolded}
use Rattle.slate_db.specs.Flying.{IsFlying, HasTaken, IsTaken, TakesOff, after_flight, took}
use Rattle.slate_db.specs.Frozen.{IsFrozen}
use Rattle.slate_db.specs.Installs.{ArePlaced, AreRunsOf, NumberedFrom, installed, runs_of, tables_of}
use Rattle.slate_db.specs.Layers.{AreLayers, AreRising, FitsMemory, LayersModel}
use Rattle.slate_db.specs.Log.{HasPlace, IsLog, LogModel, Rising, ends_of, with_install_through}
use Rattle.slate_db.specs.Meaning.{Meaning, rules_of, combine_of, IsLawfulMeaning}
use Rattle.slate_db.specs.Model.{CoreModel, IsSame, Rows, memory, versions, versions_in}
use Rattle.slate_db.specs.Segmented.{IsSegmented}
use Rattle.slate_db.specs.Sound.{HasNoMerge, at_most, above, IsKept, IsSound, AreTables, AreBases}
use Rattle.slate_db.specs.Whole.{IsWhole, Unseen, log_of, layers_of}
use Rattle.slate_db.proofs.AllRows.{flush_fold}
use Rattle.slate_db.proofs.Bases.{folded_bases}
use Rattle.slate_db.proofs.Cuts.{parts_all, versions_cut}
use Rattle.slate_db.proofs.FlushRows.{none_among, rising_front}
use Rattle.slate_db.proofs.Folds.{wider}
use Rattle.slate_db.proofs.Installs.{can_flush, cut_layers, tables_append}
use Rattle.slate_db.proofs.Journals.{apply_more, legal_more, used_more}
use Rattle.slate_db.proofs.Lists.{all_both}
use Rattle.slate_db.proofs.Logs.{numbered_more, tables_more}
use Rattle.slate_db.proofs.MemoryLayers.{frozen_rise}
use Rattle.slate_db.proofs.MemoryRows.{rising_behind}
use Rattle.slate_db.proofs.NoMerges.{memory_bases}
use Rattle.slate_db.proofs.Quiet.{quiet_more}
use Rattle.slate_db.proofs.Rises.{folded_within, rows_above, tables_rise}
use Rattle.slate_db.proofs.Runs.{runs_both}
use Rattle.slate_db.proofs.RunsOf.{runs_more}
use Rattle.slate_db.proofs.Short.{commits_short, fold_short, fine_short, AreShortOps}
use Rattle.slate_db.proofs.Split.{all_up_to, none_up_to, rising_from, split_at}
use Rattle.slate_db.proofs.Versions.{short_versions, short_by_key}
use Rattle.slate_db.proofs.Wholes.{with_runs}

-- ---- the parts

-- the first tables are left out
pub layers_left : (y : LayersModel) (n : ℕ) (runs : List SortedRun) (floor freeze : ℕ) → AreLayers y → AreLayers (record y { frozen = drop n y.frozen; runs = runs; floor = floor; for_freeze = freeze })
layers_left y n runs floor freeze w = record {
  active_order = w.active_order;
  frozen_order = left AreInOrder w.frozen_order;
  frozen_some = left (λ rows. 0 < length rows) w.frozen_some;
  fit = AllByRecursion_behind (λ (rows : Rows). AllByRecursion FitsMemory rows) (take n y.frozen) (drop n y.frozen ++ (y.active ∷ [])) (subst (AllByRecursion (λ (rows : Rows). AllByRecursion FitsMemory rows)) (sym cut) w.fit);
  rise = λ k. rising_behind (versions_in k (take n y.frozen)) (versions_in k (drop n y.frozen ++ (y.active ∷ []))) (subst (λ (xs : Rows). AreRising xs) (flat_map-append (versions k) (take n y.frozen) (drop n y.frozen ++ (y.active ∷ []))) (subst (λ (ls : List Rows). AreRising (versions_in k ls)) (sym cut) (w.rise k)));
}
  where
    left : (P : Rows → Type 0) → AllByRecursion P y.frozen → AllByRecursion P (drop n y.frozen)
    left P h = AllByRecursion_behind P (take n y.frozen) (drop n y.frozen) (subst (AllByRecursion P) (sym (take-append-drop n y.frozen)) h)

    cut : take n y.frozen ++ (drop n y.frozen ++ (y.active ∷ [])) ≡ y.frozen ++ (y.active ∷ [])
    cut = sym (append_assoc (take n y.frozen) (drop n y.frozen) (y.active ∷ [])) ∙ ap (λ ls. ls ++ (y.active ∷ [])) (take-append-drop n y.frozen)

pub log_installed_through : (l : LogModel) (through : ℕ) (ts : List (Ulid × List ℕ)) (spare : ℕ) → HasPlace 1 l → spare + 1 ≡ l.spare → ArePlaced (l.installs + 1) 0 ts → installed l.events ≤ through → through ≤ l.last → IsLog l → IsLog (with_install_through l through ts spare)
log_installed_through l through ts spare place room placed behind within w = record {
  legal = legal_more l.start opening [] l.events e w.legal (behind, (let h : l.last ≡ last_of l.start (replay l.events).commits = w.last ∙ ap (λ cs. last_of l.start cs) (sym w.replays) in omega arith));
  replays = ap (λ s. s.commits) more ∙ w.replays;
  last = w.last;
  last_fits = w.last_fits;
  rising = w.rising;
  fine = w.fine;
  used = rw used_more w.used;
  counted = rw length-append (let h : l.ids ≤ length l.events = w.counted in omega arith);
  snapshots_counted = rw length-append (let h : l.snapshot_ids ≤ length l.events = w.snapshots_counted in omega arith);
  installed_within = subst (λ (n : ℕ). n ≤ l.last) (sym goes) within;
  flushed_within = within;
  flushed_through = ap (λ i. up_to i l.commits) (sym goes);
  numbered = subst (NumberedFrom 1) (sym (runs_more l.events e)) (numbered_more 1 (runs_of l.events) ts w.numbered
      (subst (λ (n : ℕ). ArePlaced n 0 ts) (let h : l.installs ≡ length (runs_of l.events) = w.installs in let z : l.installs + 1 ≡ 1 + length (runs_of l.events) = omega arith in z) placed));
  installs = (let h : l.installs ≡ length (runs_of l.events) = w.installs in let z : l.installs + 1 ≡ length (runs_of l.events) + length (ts ∷ []) = omega arith in z) ∙ sym (ap length (runs_more l.events e) ∙ length-append (runs_of l.events) (ts ∷ []));
  installs_within = rw length-append (let h : l.installs ≤ length l.events = w.installs_within in omega arith);
  ends = w.ends ∙ ap ends_of (sym more);
  room = omega (arith, place.room);
  bound = rw length-append (omega (arith, place.place));
}
  where
    e : Event
    e = events.Install through ts

    more : replay (l.events ++ (e ∷ [])) ≡ apply (replay l.events) e
    more = apply_more opening l.events e

    goes : installed (l.events ++ (e ∷ [])) ≡ through
    goes = ap (λ s. s.flushed) more

-- ---- what is behind the tables that it took

drop_past : {X : Type 0} (xs ys : List X) → drop (length xs) (xs ++ ys) ≡ ys
drop_past [] ys = refl
drop_past (x ∷ xs) ys = drop_past xs ys

behind_is : (f : Flight) (c : CoreModel) (y : IsFlying f c) → drop f.tables c.frozen ≡ y.later
behind_is f c y = (λ i. drop (y.count i) (y.frozen i)) ∙ drop_past (took f) y.later

pub took_within : (f : Flight) (c : CoreModel) → IsFlying f c → f.tables ≤ length c.frozen
took_within f c y =
    let all : length c.frozen ≡ length (took f) + length y.later = ap length y.frozen ∙ length-append (took f) y.later in
    let n : f.tables ≡ length (took f) = y.count in
    omega arith

memory_is : (f : Flight) (c : CoreModel) (y : IsFlying f c) → took f ++ (y.later ++ (c.active ∷ [])) ≡ memory c
memory_is f c y = sym (append_assoc (took f) y.later (c.active ∷ [])) ∙ ap (λ ls. ls ++ (c.active ∷ [])) (sym y.frozen)

of_took : (P : Rows → Type 0) (f : Flight) (c : CoreModel) → IsFlying f c → AllByRecursion P (memory c) → AllByRecursion P (took f)
of_took P f c y h = AllByRecursion_front P (took f) (y.later ++ (c.active ∷ [])) (subst (AllByRecursion P) (sym (memory_is f c y)) h)

-- ---- commits

rising_up_to : (n i : ℕ) (cs : List Commit) → Rising n cs → Rising n (up_to i cs)
rising_up_to n i cs r = front n (up_to i cs) (above i cs) (subst (Rising n) (sym (split_at n i cs r)) r)
  where
    front : (n : ℕ) (xs ys : List Commit) → Rising n (xs ++ ys) → Rising n xs
    front n [] ys r = tt
    front n (x ∷ xs) ys r = (r.0, front x.seq xs ys r.1)

above_above : (i t : ℕ) (cs : List Commit) → i ≤ t → above i (above t cs) ≡ above t cs
above_above i t [] h = refl
above_above i t (c ∷ cs) h = by (nat_lt t c.seq) refl (above_above i t cs h)
  where
    by : (b : Bool) → nat_lt t c.seq ≡ b → above i (above t cs) ≡ above t cs → above i (cond b (c ∷ above t cs) (above t cs)) ≡ cond b (c ∷ above t cs) (above t cs)
    by true e rest = let k : nat_lt i c.seq ≡ true = grind (arith, nat_tests) in rw k (ap (λ xs. c ∷ xs) rest)
    by false e rest = rest

up_to_up_to : (i t : ℕ) (cs : List Commit) → i ≤ t → up_to i (up_to t cs) ≡ up_to i cs
up_to_up_to i t [] h = refl
up_to_up_to i t (c ∷ cs) h = by (nat_le c.seq t) refl (up_to_up_to i t cs h)
  where
    by : (b : Bool) → nat_le c.seq t ≡ b → up_to i (up_to t cs) ≡ up_to i cs → up_to i (cond b (c ∷ up_to t cs) (up_to t cs)) ≡ cond (nat_le c.seq i) (c ∷ up_to i cs) (up_to i cs)
    by true e rest = ap (λ ds. cond (nat_le c.seq i) (c ∷ ds) ds) rest
    by false e rest = let k : nat_le c.seq i ≡ false = grind (arith, nat_tests) in rw k rest

pub above_split : (start i t : ℕ) (cs : List Commit) → Rising start cs → i ≤ t → above i cs ≡ above i (up_to t cs) ++ above t cs
above_split start i t cs r h =
    ap (above i) (sym (split_at start t cs r)) ∙ filter-append (λ c. nat_lt i c.seq) (up_to t cs) (above t cs) ∙ ap (λ ds. above i (up_to t cs) ++ ds) (above_above i t cs h)

-- ---- the install

pub whole_landed : (c : CoreModel) (x : Unseen) (f : Flight) (ts : List (Ulid × List ℕ)) (runs : List SortedRun) (spare freeze : ℕ) → AreRunsOf ts runs → IsFlying f c →
    IsLog (log_of (after_flight c f ts spare) (with_runs x runs freeze)) → AreLayers (layers_of (after_flight c f ts spare) (with_runs x runs freeze)) → IsWhole c x →
    IsWhole (after_flight c f ts spare) (with_runs x runs freeze)
whole_landed c x f ts runs spare freeze kept y log layers w = record {
  log = log;
  layers = layers;
  tied = record {
    txns = ap (λ s. s.txns) more ∙ w.tied.txns;
    snapshots = ap (λ s. s.snapshots) more ∙ w.tied.snapshots;
    shown = w.tied.shown;
    named = w.tied.named;
    floor_within = let b : f.barrier ≤ f.through = y.barrier in let t : f.through ≤ last_of c.settings.start_seq c.state.commits = y.within in let l : x.last ≡ last_of c.settings.start_seq c.state.commits = w.log.last in omega arith;
    begins = all_both _ _ _ (λ p h k. (h, k.1)) c.state.txns y.begins w.tied.begins;
    shows = all_both _ _ _ (λ p h k. (h, k.1)) c.state.snapshots y.shows w.tied.shows;
    own = w.tied.own;
    all_installed = λ active frozen. ap (λ i. up_to i c.state.commits) (ap (λ s. s.flushed) more) ∙ y.rest active (sym (behind_is f c y) ∙ frozen);
    runs = subst (λ (us : List (Ulid × List ℕ)). AreRunsOf us (x.runs ++ runs)) (sym (tables_more c.events e)) (runs_both (tables_of c.events) ts x.runs runs w.tied.runs kept);
    quiet = λ idle. quiet_more c.events e refl refl (w.tied.quiet idle);
    manager = w.tied.manager;
    rows_within = subst (λ (ls : List Rows). AllByRecursion (λ rows. AllByRecursion (λ r. r.seq ≤ x.last) rows) (ls ++ (c.active ∷ []))) (sym (behind_is f c y))
        (AllByRecursion_behind (λ (rows : Rows). AllByRecursion (λ (r : RowEntry). r.seq ≤ x.last) rows) (took f) (y.later ++ (c.active ∷ [])) (subst (AllByRecursion (λ (rows : Rows). AllByRecursion (λ (r : RowEntry). r.seq ≤ x.last) rows)) (sym (memory_is f c y)) w.tied.rows_within));
  };
}
  where
    e : Event
    e = events.Install f.through ts

    more : replay (c.events ++ (e ∷ [])) ≡ apply (replay c.events) e
    more = apply_more opening c.events e

pub kept_landed : (m : Meaning) (c : CoreModel) (u : Unseen) (f : Flight) (ts : List (Ulid × List ℕ)) (spare : ℕ) (g : Segments) (limit : ℕ) (rows : Rows) (parts : List Rows) →
    IsWhole c u → IsFlying f c → HasTaken m f c → AreTables m ts parts → AreInOrder rows → AreCut g limit rows parts → IsFolded m f.barrier (took f) rows → IsKept m c →
    IsKept m (after_flight c f ts spare)
kept_landed m c u f ts spare g limit rows parts w y has tables order cut folded kept = (
  λ k. ap (λ ls. versions_in k (ls ++ (c.active ∷ []))) (behind_is f c y) ∙ left k ∙ ap (λ i. key_rows r k (above i cs)) (sym through),
  λ law. let z : IsSound m c = kept.1 law in record {
    layers = z.layers ++ parts;
    tables = subst (λ (xs : List (Ulid × List ℕ)). AreTables m xs (z.layers ++ parts)) (sym (tables_more c.events (events.Install f.through ts))) (tables_append m (tables_of c.events) ts z.layers parts z.tables tables);
    short = AllByRecursion_append AreShort z.layers parts z.short (of_parts _ (short_by_key rows (λ k.
        subst (λ (xs : Rows). AreShort xs) (sym (folded k)) (AllByRecursion_append _ _ _ (fold_short (combine_of m k) (law.short k) _ (AllByRecursion_filter _ _ _ (memory_short k law))) (AllByRecursion_filter _ _ _ (memory_short k law))))));
    bases = λ none. AllByRecursion_append AreBases z.layers parts (z.bases none) (of_parts _ (folded_bases m f.barrier (took f) rows (of_took AreBases f c y (memory_bases m c none kept.0 kept.2)) folded));
    within = subst (λ (i : ℕ). AllByRecursion (λ layer. AllByRecursion (λ r. r.seq ≤ i) layer) (z.layers ++ parts)) (sym through)
        (AllByRecursion_append _ z.layers parts (AllByRecursion_weaken _ _ (wider (installed c.events) f.through y.behind) z.layers z.within) (of_parts _ (folded_within m f.barrier f.through (took f) rows y.rows folded)));
    rise = λ k. subst (λ (xs : Rows). AreRising xs) (sym (same k z.layers))
        (tables_rise m f.barrier (installed c.events) k z.layers (took f) rows folded (z.rise k) z.within (took_rises k) (subst (AllByRecursion (λ x. installed c.events < x.seq)) (sym (has k)) (rows_above r k (installed c.events) ds)));
    folds = λ k x h.
        let below : c.floor ≤ x = (let b : c.floor ≤ f.barrier = y.floor in omega arith) in
        ap (λ xs. fold_rows (combine_of m k) (at_most x xs)) (same k z.layers ∙ flat_map-append (versions k) z.layers (rows ∷ []) ∙ ap (λ xs. versions_in k z.layers ++ xs) (append-nil (versions k rows)))
        ∙ ap (fold_rows (combine_of m k)) (filter-append (λ r. nat_le r.seq x) (versions_in k z.layers) (versions k rows))
        ∙ ap (λ xs. fold_rows (combine_of m k) (at_most x (versions_in k z.layers) ++ at_most x xs)) (folded k)
        ∙ flush_fold r k (law.operator k) (law.short k) start (installed c.events) f.barrier x ds (versions_in k z.layers) (versions_in k (took f)) h (rising_up_to start f.through cs w.log.rising) short_commits
        (short_versions k z.layers z.short) (has k) (z.folds k x below ∙ ap (λ es. fold_rows (combine_of m k) (key_rows r k (up_to x es))) (sym (up_to_up_to (installed c.events) f.through cs y.behind)))
        ∙ ap (λ i. fold_rows (combine_of m k) (key_rows r k (up_to x (up_to i cs)))) (sym through);
  },
  λ none. let z : HasNoMerge c = kept.2 none in record { own = z.own; commits = z.commits },
)
  where
    r : Rules
    r = rules_of c.settings m

    cs : List Commit
    cs = c.state.commits

    ds : List Commit
    ds = up_to f.through c.state.commits

    start : ℕ
    start = c.settings.start_seq

    -- what is true of each row is true of the rows of each table
    of_parts : (P : RowEntry → Type 0) → AllByRecursion P rows → AllByRecursion (λ xs. AllByRecursion P xs) parts
    of_parts P h = parts_all P parts (subst (AllByRecursion P) (sym cut.all) h)

    same : (k : List ℕ) (layers : List Rows) → versions_in k (layers ++ parts) ≡ versions_in k (layers ++ (rows ∷ []))
    same k layers = cut_layers k layers parts rows (versions_cut g limit parts k (subst AreInOrder (sym cut.all) order) cut.ended ∙ ap (versions k) cut.all)

    through : installed (c.events ++ (events.Install f.through ts ∷ [])) ≡ f.through
    through = ap (λ s. s.flushed) (apply_more opening c.events (events.Install f.through ts))

    -- the rows that it didn't take are those of the commits behind
    left : (k : List ℕ) → versions_in k (y.later ++ (c.active ∷ [])) ≡ key_rows (rules_of c.settings m) k (above f.through c.state.commits)
    left k = append_cancel_left (versions_in k (took f)) _ _
        (sym (flat_map-append (versions k) (took f) (y.later ++ (c.active ∷ [])))
        ∙ ap (versions_in k) (memory_is f c y)
        ∙ kept.0 k
        ∙ ap (key_rows (rules_of c.settings m) k) (above_split c.settings.start_seq (installed c.events) f.through c.state.commits w.log.rising y.behind)
        ∙ filter_map-append _ (above (installed c.events) (up_to f.through c.state.commits)) (above f.through c.state.commits)
        ∙ ap (λ xs. xs ++ key_rows (rules_of c.settings m) k (above f.through c.state.commits)) (sym (has k)))

    took_rises : (k : List ℕ) → AreRising (versions_in k (took f))
    took_rises k = rising_front (versions_in k (took f)) (versions_in k y.later) (subst (λ (xs : Rows). AreRising xs) (ap (versions_in k) y.frozen ∙ flat_map-append (versions k) (took f) y.later) (frozen_rise (layers_of c u) w.layers k))

    short_commits : AllByRecursion (λ x. AreShortOps x.ops) (up_to f.through c.state.commits)
    short_commits = AllByRecursion_filter _ _ c.state.commits (AllByRecursion_weaken _ _ (λ x. fine_short x.ops) c.state.commits w.log.fine)

    memory_short : (k : List ℕ) → IsLawfulMeaning m → AreShort (versions_in k (took f))
    memory_short k law = subst (λ (xs : Rows). AreShort xs) (sym (has k)) (commits_short (rules_of c.settings m) k (law.short k) _ (AllByRecursion_filter _ _ _ short_commits))

-- ---- its begin

-- where all is frozen, it takes all that waits
pub takes_off : (c : CoreModel) (u : Unseen) (f : Flight) (tables : List MemTableModel) → IsWhole c u → c.active ≡ [] → 0 < length c.frozen → f.number ≡ u.installs + 1 → f.barrier ≡ least_start (last_of c.settings.start_seq c.state.commits) c.state → f.through ≡ u.last →
    f.tables ≡ length tables → f.taken.value.items ≡ tables → map (λ t. t.rows) tables ≡ c.frozen → TakesOff f tables c
takes_off c u f tables w idle some number barrier through count taken shared = record {
  flying = record {
    number = number ∙ ap (λ n. n + 1) w.log.installs;
    behind = let i : installed c.events ≤ u.last = w.log.installed_within in omega arith;
    within = let n : f.through ≡ last_of c.settings.start_seq c.state.commits = newest in omega arith;
    floor = subst (λ (n : ℕ). c.floor ≤ n) (sym least) (start_above c.floor (last_of c.settings.start_seq c.state.commits) c.state (let l : c.floor ≤ u.last = w.tied.floor_within in let q : u.last ≡ last_of c.settings.start_seq c.state.commits = w.log.last in omega arith) (AllByRecursion_weaken _ _ (λ p h. h.0) c.state.txns w.tied.begins) (AllByRecursion_weaken _ _ (λ p h. h.0) c.state.snapshots w.tied.shows));
    barrier = let h : least_start (last_of c.settings.start_seq c.state.commits) c.state ≤ last_of c.settings.start_seq c.state.commits = start_within (last_of c.settings.start_seq c.state.commits) c.state in let n : f.through ≡ last_of c.settings.start_seq c.state.commits = newest in omega arith;
    begins = subst (λ (n : ℕ). AllByRecursion (λ p. n ≤ p.1.begin) c.state.txns) (sym least) (start_begins (last_of c.settings.start_seq c.state.commits) c.state);
    shows = subst (λ (n : ℕ). AllByRecursion (λ p. n ≤ p.1) c.state.snapshots) (sym least) (start_shows (last_of c.settings.start_seq c.state.commits) c.state);
    later = [];
    frozen = sym took_is ∙ sym (append-nil (took f));
    count = count ∙ sym (length-map tables (λ (t : MemTableModel). t.rows)) ∙ ap (λ (ts : List MemTableModel). length (map (λ (t : MemTableModel). t.rows) ts)) (sym taken);
    rows = subst (λ (n : ℕ). AllByRecursion (λ rows. AllByRecursion (λ r. r.seq ≤ n) rows) (took f)) (sym through) (subst (λ (ls : List Rows). AllByRecursion (λ rows. AllByRecursion (λ r. r.seq ≤ u.last) rows) ls) (sym took_is) (AllByRecursion_front _ c.frozen (c.active ∷ []) w.tied.rows_within));
    rest = λ active later. all_up_to c.settings.start_seq f.through c.state.commits w.log.rising (let n : f.through ≡ last_of c.settings.start_seq c.state.commits = newest in omega arith);
  };
  ready = subst CanFlush (sym took_is) (can_flush c u w some);
  newest = newest;
  barrier = least ∙ ap (λ n. least_start n c.state) (sym newest);
  frozen = sym took_is;
  shared = ap (λ (ts : List MemTableModel). map (λ (t : MemTableModel). t.rows) ts) (sym taken);
}
  where
    newest : f.through ≡ last_of c.settings.start_seq c.state.commits
    newest = through ∙ w.log.last

    least : f.barrier ≡ least_start (last_of c.settings.start_seq c.state.commits) c.state
    least = barrier

    took_is : took f ≡ c.frozen
    took_is = ap (λ (ts : List MemTableModel). map (λ (t : MemTableModel). t.rows) ts) taken ∙ shared

pub is_taken : (m : Meaning) (c : CoreModel) (u : Unseen) (f : Flight) (tables : List MemTableModel) → IsWhole c u → c.active ≡ [] → TakesOff f tables c → IsKept m c → IsTaken m f c
is_taken m c u f tables w idle off kept = record {
  rows = rows;
  tied = λ k. rows k ∙ ap (λ ds. key_rows (rules_of c.settings m) k (above (installed c.events) ds)) (sym (all_up_to c.settings.start_seq f.through c.state.commits w.log.rising (let n : f.through ≡ last_of c.settings.start_seq c.state.commits = off.newest in omega arith)));
  plain = λ none. none_among (took f) (of_took AreBases f c off.flying (memory_bases m c none kept.0 kept.2));
}
  where
    rows : (k : List ℕ) → versions_in k (took f) ≡ key_rows (rules_of c.settings m) k (above (installed c.events) c.state.commits)
    rows k =
        ap (versions_in k) (sym off.frozen)
        ∙ sym (append-nil (versions_in k c.frozen))
        ∙ sym (ap (λ a. versions_in k c.frozen ++ versions_in k (a ∷ [])) idle)
        ∙ sym (flat_map-append (versions k) c.frozen (c.active ∷ []))
        ∙ kept.0 k

-- nothing is above the last install where nothing is in memory
last_is : (s : State) (es : List Event) → (apply_all s es).flushed ≡ unwrap_or (last_install es) s.flushed
last_is s [] = refl
last_is s (e ∷ es) = last_is (apply s e) es ∙ by e
  where
    newer : (o : Option ℕ) (n t : ℕ) → unwrap_or o n ≡ unwrap_or (newer_or o (Some n)) t
    newer None n t = refl
    newer (Some k) n t = refl

    older : (o : Option ℕ) (t : ℕ) → unwrap_or o t ≡ unwrap_or (newer_or o None) t
    older None t = refl
    older (Some k) t = refl

    by : (e : Event) → unwrap_or (last_install es) (apply s e).flushed ≡ unwrap_or (newer_or (last_install es) (install_of e)) s.flushed
    by (events.Begin id level start) = older (last_install es) s.flushed
    by (events.End id) = older (last_install es) s.flushed
    by (events.Commit id n now ops tracked ts) = older (last_install es) s.flushed
    by (events.Write n now ops) = older (last_install es) s.flushed
    by events.Freeze = older (last_install es) s.flushed
    by (events.Install through tables) = newer (last_install es) through s.flushed
    by (events.Snapshot id n) = older (last_install es) s.flushed
    by (events.Release id) = older (last_install es) s.flushed

none_kept : (n : ℕ) (cs : List Commit) → up_to n cs ≡ cs → Rising n cs → cs ≡ []
none_kept n [] all r = refl
none_kept n (c ∷ cs) all r =
    let none : up_to n (c ∷ cs) ≡ [] = none_up_to n n (c ∷ cs) (omega arith) r in
    sym all ∙ none

nothing_above : (n : ℕ) (cs : List Commit) → above n (up_to n cs) ≡ []
nothing_above n [] = refl
nothing_above n (x ∷ xs) = by (nat_le x.seq n) refl (nothing_above n xs)
  where
    by : (b : Bool) → nat_le x.seq n ≡ b → above n (up_to n xs) ≡ [] → above n (cond b (x ∷ up_to n xs) (up_to n xs)) ≡ []
    by true e rest = let k : nat_lt n x.seq ≡ false = grind (arith, nat_tests) in rw k rest
    by false e rest = rest

pub above_none : (c : CoreModel) (u : Unseen) → IsWhole c u → c.active ≡ [] → c.frozen ≡ [] → above_install c.events ≡ []
above_none c u w active frozen = ap (filter (λ (x : Commit). is_above (last_install c.events) x.seq)) w.log.replays ∙ by (last_install c.events) (last_is opening c.events)
  where
    all : up_to (installed c.events) c.state.commits ≡ c.state.commits
    all = w.tied.all_installed active frozen

    by : (o : Option ℕ) → installed c.events ≡ unwrap_or o 0 → filter (λ (x : Commit). is_above o x.seq) c.state.commits ≡ []
    by None e =
        let none : c.state.commits ≡ [] = none_kept 0 c.state.commits (ap (λ i. up_to i c.state.commits) (sym e) ∙ all) (rising_from 0 c.settings.start_seq c.state.commits (omega arith) w.log.rising) in
        ap (filter (λ (x : Commit). is_above None x.seq)) none
    by (Some n) e = ap (above n) (sym (ap (λ i. up_to i c.state.commits) (sym e) ∙ all)) ∙ nothing_above n c.state.commits

-- a freeze commits nothing
pub frozen_newest : (c d : CoreModel) → IsFrozen c d → last_of d.settings.start_seq d.state.commits ≡ last_of c.settings.start_seq c.state.commits
frozen_newest c d (inl s) = ap (λ (v : CoreModel). last_of v.settings.start_seq v.state.commits) s.1
frozen_newest c d (inr s) = ap (λ (v : CoreModel). last_of v.settings.start_seq v.state.commits) s.1

-- ---- the core after an install

abbrev pub layers_landed_of : LayersModel → ℕ → List SortedRun → ℕ → ℕ → LayersModel
layers_landed_of y n runs floor freeze = record y { frozen = drop n y.frozen; runs = y.runs ++ runs; floor = floor; for_freeze = freeze }

pub landed_is : (s : Inside) (l0 l : LogModel) (y : LayersModel) (n through floor : ℕ) (ts : List (Ulid × List ℕ)) (runs : List SortedRun) → l0 ≡ record s.log { spare = l0.spare } → l ≡ with_install_through l0 through ts l.spare → y ≡ layers_landed_of s.layers n runs floor y.for_freeze →
    record s { log = with_install_through s.log through ts l.spare; layers = layers_landed_of s.layers n runs floor y.for_freeze } ≡ record s { log = l; layers = y }
landed_is s l0 l y n through floor ts runs room log layers =
    let a = sym (log ∙ ap (λ (x : LogModel). with_install_through x through ts l.spare) room) in
    let b = sym layers in
    λ i. record s { log = a i; layers = b i }

pub segmented_landed : (g : Segments) (c : CoreModel) (f : Flight) (ts : List (Ulid × List ℕ)) (spare : ℕ) → IsSegmented g c → IsSegmented g (after_flight c f ts spare)
segmented_landed g c f ts spare h = record { recorded = h.recorded; each = h.each; apart = h.apart }

pub segmented_same : (g : Segments) (c d : CoreModel) → IsSame c d → IsSegmented g c → IsSegmented g d
segmented_same g c d same h = subst (IsSegmented g) (sym same) (record { recorded = h.recorded; each = h.each; apart = h.apart })

pub next_placed : (c : CoreModel) (u : Unseen) (f : Flight) (ts : List (Ulid × List ℕ)) → IsWhole c u → IsFlying f c → ArePlaced f.number 0 ts → ArePlaced (u.installs + 1) 0 ts
next_placed c u f ts w y placed = subst (λ (n : ℕ). ArePlaced n 0 ts) (y.number ∙ ap (λ n. n + 1) (sym w.log.installs)) placed
