-- What a core's calls make of its parts.
--     placed, past_place, only_short      whether the journal has a place for so many events more; that of ids there is always one
--     room_in_log, room_to_freeze      room was made
--     begun_is, ended_is, shown_is, released_is, frozen_is, written_is, installed_is      the parts after a call, from what is said of each
use Rattle.std.proofs.Common.{◌≡◌, ℕ, ◌+◌, ◌≤◌, ◌<◌, List, [], ◌∷◌, ◌++◌, length, ◌⊎◌, inl, inr, ◌^◌, ◌-◌, ℤ, sym, ap, subst, ◌∙◌, arith}
use Rattle.slate_types.specs.declared.config.IsolationLevel.{IsolationLevel}
use Rattle.slate_types.specs.declared.error.SlateDBError.{SlateDBError}
use Rattle.slate_types.specs.declared.error.SlateDBError.TheVariants as errors
use Rattle.slate_types.specs.declared.types.Ulid.{Ulid}
use Rattle.slate_read.specs.declared.sorted_run.SortedRun.{SortedRun}
use Rattle.slate_mem.specs.Batch.{Ops}
use Rattle.slate_txn.specs.declared.event.Event.TheVariants as events
use Rattle.slate_txn.specs.Ids.{id_of, snapshot_id}
use Rattle.slate_txn.specs.Managers.{Manager, Snapshots}
use Rattle.slate_txn.specs.Named.{without}
use Rattle.slate_txn.specs.Open.{Transactions}
use Rattle.slate_txn.specs.State.{begun, last_of}
use Rattle.slate_db.specs.declared.engine.Core.TheInside.{Inside}
use Rattle.slate_db.specs.Flushed.{NoPlace}
use Rattle.slate_db.specs.Layers.{LayersModel}
use Rattle.slate_db.specs.Load.{weight}
use Rattle.slate_db.specs.Log.{IsLog, LogModel, LIMIT, with_begin, with_end, with_snapshot, with_release, with_freeze, with_write, with_install}
use Rattle.slate_db.specs.Model.{CoreModel, Rows}
use Rattle.slate_db.specs.View.{view_of, unseen_of, IsWholeInside}
use Rattle.slate_db.specs.Whole.{IsWhole, Unseen}
use Rattle.slate_db.proofs.Wholes.{ends_are, whole_room}

-- ---- places

pub placed : {A : Type 0} (c d : CoreModel) (x : Unseen) (n : ℕ) → c ≡ d → IsWhole c x → length c.events + x.ends + n ≤ LIMIT → NoPlace n d → A
placed c d x n same w place past =
    let over : NoPlace n c = subst (NoPlace n) (sym same) past in
    absurd (omega (arith, ends_are c x w))

pub place_for : (c d : CoreModel) (x : Unseen) (n : ℕ) → c ≡ d → IsWhole c x → length c.events + x.ends + n ≤ LIMIT → weight d + n ≤ LIMIT
place_for c d x n same w place =
    let here : weight c + n ≤ LIMIT = omega (arith, ends_are c x w, place) in
    subst (λ (v : CoreModel). weight v + n ≤ LIMIT) same here

pub past_place : (c d : CoreModel) (x : Unseen) (n : ℕ) → c ≡ d → IsWhole c x → LIMIT < length c.events + x.ends + n → NoPlace n d
past_place c d x n same w past =
    let over : NoPlace n c = omega (arith, ends_are c x w) in
    subst (NoPlace n) same over

pub place_in : (c d : CoreModel) (x : Unseen) (n : ℕ) → c ≡ d → IsWhole c x → weight d + n ≤ LIMIT → length c.events + x.ends + n ≤ LIMIT
place_in c d x n same w place =
    let free : weight c + n ≤ LIMIT = subst (λ (v : CoreModel). weight v + n ≤ LIMIT) (sym same) place in
    omega (arith, ends_are c x w)

-- no sequence is left, and one is
pub none_left : {A : Type 0} (c d : CoreModel) (x : Unseen) (n : ℕ) → c ≡ d → IsWhole c x → x.last < n → last_of d.settings.start_seq d.state.commits ≡ n → A
none_left c d x n same w below full =
    let last : x.last ≡ n = w.log.last ∙ ap (λ (v : CoreModel). last_of v.settings.start_seq v.state.commits) same ∙ full in
    absurd (omega arith)

-- ---- room

pub room_in_log : (s : Inside) (l : LogModel) → l ≡ record s.log { spare = l.spare } → IsLog l → IsWholeInside s → IsWholeInside (record s { log = l })
room_in_log s l is log w =
    subst IsWholeInside (ap (λ (x : LogModel). record s { log = x }) (sym is)) (whole_room (view_of s) (unseen_of s) l.spare s.layers.for_freeze (subst IsLog is log) w)

pub room_to_freeze : (s : Inside) (y : LayersModel) → y ≡ record s.layers { for_freeze = y.for_freeze } → IsWholeInside s → IsWholeInside (record s { layers = y })
room_to_freeze s y is w =
    subst IsWholeInside (ap (λ (x : LayersModel). record s { layers = x }) (sym is)) (whole_room (view_of s) (unseen_of s) s.log.spare y.for_freeze w.log w)

-- no contract sees it
pub unseen_freeze : (s : Inside) (y : LayersModel) → y ≡ record s.layers { for_freeze = y.for_freeze } → view_of (record s { layers = y }) ≡ view_of s
unseen_freeze s y is = ap (λ (x : LayersModel). view_of (record s { layers = x })) is

-- ---- a begin and an end

pub begun_is : (s : Inside) (l : LogModel) (ts : Transactions) (n : Manager) (level : IsolationLevel) (id : List ℕ) (at : ℕ) → id ≡ id_of (s.log.ids + 1) → at ≡ s.log.last → l ≡ with_begin s.log level l.spare → ts ≡ s.transactions ++ ((id, begun level at) ∷ []) →
    record s { log = with_begin s.log level l.spare; transactions = s.transactions ++ ((id_of (s.log.ids + 1), begun level s.log.last) ∷ []); manager = n } ≡ record s { log = l; transactions = ts; manager = n }
begun_is s l ts n level id at ids ats log txns =
    let a = sym log in
    let b : s.transactions ++ ((id_of (s.log.ids + 1), begun level s.log.last) ∷ []) ≡ ts = sym (txns ∙ (λ i. s.transactions ++ ((ids i, begun level (ats i)) ∷ []))) in
    λ i. record s { log = a i; transactions = b i; manager = n }

pub event_begun : (s : Inside) (c : CoreModel) (l : LogModel) (ts : Transactions) (level : IsolationLevel) (id : List ℕ) (at : ℕ) → view_of s ≡ c → id ≡ id_of (s.log.ids + 1) → at ≡ s.log.last → l ≡ with_begin s.log level l.spare →
    view_of (record s { log = l; transactions = ts }) ≡ record c { state = (view_of (record s { log = l; transactions = ts })).state; events = c.events ++ (events.Begin id level at ∷ []); spare = l.spare }
event_begun s c l ts level id at is ids ats log =
    (λ i. record (view_of (record s { log = log i; transactions = ts })) { state = (view_of (record s { log = l; transactions = ts })).state })
    ∙ (let a = sym ids in let b = sym ats in λ i. record (view_of s) { state = (view_of (record s { log = l; transactions = ts })).state; events = s.log.events ++ (events.Begin (a i) level (b i) ∷ []); spare = l.spare })
    ∙ ap (λ (v : CoreModel). record v { state = (view_of (record s { log = l; transactions = ts })).state; events = v.events ++ (events.Begin id level at ∷ []); spare = l.spare }) is

pub ended_is : (s : Inside) (l : LogModel) (ts : Transactions) (n : Manager) (id : List ℕ) → l ≡ with_end s.log id l.spare → ts ≡ without id s.transactions →
    record s { log = with_end s.log id l.spare; transactions = without id s.transactions; manager = n } ≡ record s { log = l; transactions = ts; manager = n }
ended_is s l ts n id log txns = let a = sym log in let b = sym txns in λ i. record s { log = a i; transactions = b i; manager = n }

pub event_ended : (s : Inside) (c : CoreModel) (l : LogModel) (ts : Transactions) (id : List ℕ) → view_of s ≡ c → l ≡ with_end s.log id l.spare →
    view_of (record s { log = l; transactions = ts }) ≡ record c { state = (view_of (record s { log = l; transactions = ts })).state; events = c.events ++ (events.End id ∷ []); spare = l.spare }
event_ended s c l ts id is log =
    (λ i. record (view_of (record s { log = log i; transactions = ts })) { state = (view_of (record s { log = l; transactions = ts })).state })
    ∙ ap (λ (v : CoreModel). record v { state = (view_of (record s { log = l; transactions = ts })).state; events = v.events ++ (events.End id ∷ []); spare = l.spare }) is

-- ---- a snapshot and its release

abbrev pub shown_more : Inside → Snapshots
shown_more s = record s.snapshots { ids = s.snapshots.ids + 1; active = s.snapshots.active ++ ((snapshot_id (s.log.snapshot_ids + 1), s.log.last) ∷ []) }

pub shown_is : (s : Inside) (l : LogModel) (n : Snapshots) → l ≡ with_snapshot s.log l.spare → n ≡ shown_more s → record s { log = with_snapshot s.log l.spare; snapshots = shown_more s } ≡ record s { log = l; snapshots = n }
shown_is s l n log shown = let a = sym log in let b = sym shown in λ i. record s { log = a i; snapshots = b i }

-- no count of ids is at its end
pub only_short_begin : (c : CoreModel) (x : Unseen) (e : SlateDBError) → IsWhole c x → (e ≡ errors.OutOfMemory) ⊎ ((e ≡ errors.LimitReached (2 ^ 64 - 1)) × (x.manager.ids ≡ 2 ^ 64 - 1)) → e ≡ errors.OutOfMemory
only_short_begin c x e w (inl short) = short
only_short_begin c x e w (inr (limit, full)) =
    let ids : x.manager.ids ≡ x.ids = w.tied.manager.counted in
    let most : length c.events + x.ends ≤ LIMIT = w.log.bound in
    let given : x.ids ≤ length c.events = w.log.counted in
    absurd (omega arith)

pub only_short : (c : CoreModel) (x : Unseen) (e : SlateDBError) → IsWhole c x → (e ≡ errors.OutOfMemory) ⊎ ((e ≡ errors.LimitReached (2 ^ 64 - 1)) × (x.snapshots.ids ≡ 2 ^ 64 - 1)) → e ≡ errors.OutOfMemory
only_short c x e w (inl short) = short
only_short c x e w (inr (limit, full)) =
    let ids : x.snapshots.ids ≡ x.snapshot_ids = w.tied.shown.counted in
    let most : length c.events + x.ends ≤ LIMIT = w.log.bound in
    let given : x.snapshot_ids ≤ length c.events = w.log.snapshots_counted in
    absurd (omega arith)

pub released_is : (s : Inside) (l : LogModel) (n : Snapshots) (id : List ℕ) → l ≡ with_release s.log id l.spare → n ≡ record s.snapshots { active = without id s.snapshots.active } →
    record s { log = with_release s.log id l.spare; snapshots = record s.snapshots { active = without id s.snapshots.active } } ≡ record s { log = l; snapshots = n }
released_is s l n id log shown = let a = sym log in let b = sym shown in λ i. record s { log = a i; snapshots = b i }

pub event_released : (s : Inside) (c : CoreModel) (l : LogModel) (n : Snapshots) (id : List ℕ) → view_of s ≡ c → l ≡ with_release s.log id l.spare →
    view_of (record s { log = l; snapshots = n }) ≡ record c { state = (view_of (record s { log = l; snapshots = n })).state; events = c.events ++ (events.Release id ∷ []); spare = l.spare }
event_released s c l n id is log =
    (λ i. record (view_of (record s { log = log i; snapshots = n })) { state = (view_of (record s { log = l; snapshots = n })).state })
    ∙ ap (λ (v : CoreModel). record v { state = (view_of (record s { log = l; snapshots = n })).state; events = v.events ++ (events.Release id ∷ []); spare = l.spare }) is

pub event_shown : (s : Inside) (c : CoreModel) (l : LogModel) (n : Snapshots) (id : List ℕ) (at : ℕ) → view_of s ≡ c → id ≡ snapshot_id (s.log.snapshot_ids + 1) → at ≡ s.log.last → l ≡ with_snapshot s.log l.spare →
    view_of (record s { log = l; snapshots = n }) ≡ record c { state = (view_of (record s { log = l; snapshots = n })).state; events = c.events ++ (events.Snapshot id at ∷ []); spare = l.spare }
event_shown s c l n id at is ids ats log =
    (λ i. record (view_of (record s { log = log i; snapshots = n })) { state = (view_of (record s { log = l; snapshots = n })).state })
    ∙ (let a = sym ids in let b = sym ats in λ i. record (view_of s) { state = (view_of (record s { log = l; snapshots = n })).state; events = s.log.events ++ (events.Snapshot (a i) (b i) ∷ []); spare = l.spare })
    ∙ ap (λ (v : CoreModel). record v { state = (view_of (record s { log = l; snapshots = n })).state; events = v.events ++ (events.Snapshot id at ∷ []); spare = l.spare }) is

-- ---- a freeze, a write, an install

abbrev pub layers_frozen_of : LayersModel → ℕ → LayersModel
layers_frozen_of y room = record y { active = []; frozen = y.frozen ++ (y.active ∷ []); for_freeze = room }

pub frozen_is : (s : Inside) (l0 l : LogModel) (y0 y : LayersModel) → l0 ≡ record s.log { spare = l0.spare } → l ≡ with_freeze l0 l.spare → y0 ≡ record s.layers { for_freeze = y0.for_freeze } → y ≡ layers_frozen_of y0 y.for_freeze →
    record s { log = with_freeze s.log l.spare; layers = layers_frozen_of s.layers y.for_freeze } ≡ record s { log = l; layers = y }
frozen_is s l0 l y0 y room log fit layers =
    let a = sym (log ∙ ap (λ (x : LogModel). with_freeze x l.spare) room) in
    let b = sym (layers ∙ ap (λ (x : LayersModel). layers_frozen_of x y.for_freeze) fit) in
    λ i. record s { log = a i; layers = b i }

pub written_is : (s : Inside) (l0 l : LogModel) (y : LayersModel) (n : Manager) (now at : ℤ) (ops made : Ops) (rows : Rows) → l0 ≡ record s.log { spare = l0.spare } → at ≡ now → made ≡ ops → l ≡ with_write l0 at made l.spare → y ≡ record s.layers { active = rows } →
    record s { log = with_write s.log now ops l.spare; layers = record s.layers { active = rows }; manager = n } ≡ record s { log = l; layers = y; manager = n }
written_is s l0 l y n now at ops made rows room ats ops_are log layers =
    let a = sym (log ∙ (λ i. with_write (room i) (ats i) (ops_are i) l.spare)) in
    let b = sym layers in
    λ i. record s { log = a i; layers = b i; manager = n }

abbrev pub layers_installed_of : LayersModel → List SortedRun → ℕ → ℕ → LayersModel
layers_installed_of y runs floor freeze = record y { frozen = []; runs = y.runs ++ runs; floor = floor; for_freeze = freeze }

pub installed_is : (s : Inside) (l0 l : LogModel) (y : LayersModel) (ts : List (Ulid × List ℕ)) (runs : List SortedRun) (barrier floor : ℕ) → l0 ≡ record s.log { spare = l0.spare } → l ≡ with_install l0 ts l.spare →
    y ≡ layers_installed_of s.layers runs barrier y.for_freeze → barrier ≡ floor → record s { log = with_install s.log ts l.spare; layers = layers_installed_of s.layers runs floor y.for_freeze } ≡ record s { log = l; layers = y }
installed_is s l0 l y ts runs barrier floor room log layers floors =
    let a = sym (log ∙ ap (λ (x : LogModel). with_install x ts l.spare) room) in
    let b = sym (layers ∙ ap (λ f. layers_installed_of s.layers runs f y.for_freeze) floors) in
    λ i. record s { log = a i; layers = b i }
