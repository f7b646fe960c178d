-- The rule of the table, and what each step tells. A seat is a thread's, or an open transaction's; its view is what it knows.
--     IsSized z      a table of one word and one slot
--     same a b, times p xs      1 where the numbers are equal; how often the number stands in the list
--     is_own e      the event is a commit, a write or an install, which have an owner
--     IsOpen journal o, IsLive txn journal      the transaction is open behind these events, with that level and begin; where a seat has one it is
--     newcomer parts seen      a new seat's view
--     holding v h      the view once the lock is taken, with what lay behind it
--     txn_after, flight_after, own_after      the open transaction, the flight and the own places after a step
--     MayFly v b g      a seat with the flight v that found b may leave g: what it found, one where there was none, and none in place of its own
--     after_event v e g, after_none v g      the view after the lock was let go with one event more, and with none
--     longer xs ys, joined v w      the first list and what the second has beyond it; the view of two seats that became one
--     after_look v, less v      the view after a look, and after a part was handed out
--     IsOwner own journal      each of these places has such an event, and stands once among them
--     all_parts, total_parts vs      the parts that all seats have together, and those of these views
--     OwnsAll own journal      these places are those of all commits, writes and installs, each once
--     IsMine k t u e      a seat with so many parts, this transaction and this flight may add the event
--     IsNew journal e      a begin's id isn't open
--     May v e      both
--     NoInstall journal n      no install stands at that place or later
--     Flies t n journal flight      the flight that a seat has is on its way, and there was no install since the seat saw n events
--     Knows      what a seat's view says of the journal
--     IsAuthored      which places have an owner
--     KeepsRule s      the rule: there is one journal that all of it speaks of
--     IsSameSeat s t      the same seat of the same table
--     acquired, appended, let_go, looked      what a step tells: that which takes the lock, which lets it go with an event or without one, and which only looks
use Rattle.std.specs.Prelude.{◌≡◌, ◌≢◌, ℕ, suc, ◌+◌, ◌-◌, ◌*◌, ◌^◌, ◌<◌, ◌≤◌, ◌==◌, Bool, true, false, if◌then◌else◌, List, [], ◌∷◌, ◌++◌, length, slice_get, slice_index, Option, Some, None}
use mathlib.Core.Option.{some}
use mathlib.Core.List.{IsPrefix}
use lib.ListN.{get_elem?}
use Rattle.atomic_table.specs.Table.{State, Me, Step}
use Rattle.atomic_table.specs.Seated.{TableId}
use Rattle.atomic_table.specs.declared.shared.Seat.{Seat}
use Rattle.slate_txn.specs.declared.event.Event.{Event}
use Rattle.slate_txn.specs.declared.event.Event.TheVariants.{Begin, End, Commit, Write, Freeze, Install, Snapshot, Release}
use Rattle.slate_types.specs.declared.types.Ulid.{Ulid}
use Rattle.slate_txn.specs.Named.{find_named}
use Rattle.slate_txn.specs.Replay.{replay}
use Rattle.slate_txn.specs.State.{Tx, begun}
use Rattle.slate_db.specs.declared.flight.Flight.{Flight}
use Rattle.slate_shared.specs.LockedModel.{LockedModel, holds_at}
use Rattle.slate_shared.specs.declared.board.View.{View}

-- one word and one slot
abbrev pub IsSized : TableId → Type 0
IsSized z = (z.words ≡ 1) × (z.slots ≡ 1)

-- 1 where the numbers are equal
abbrev pub same : ℕ → ℕ → ℕ
same a b = if a == b then 1 else 0

-- how often p stands in the list
abbrev pub times : ℕ → List ℕ → ℕ
times p [] = 0
times p (x ∷ xs) = same p x + times p xs

-- commits, writes and installs have an owner
abbrev pub is_own : Event → Bool
is_own (Begin id level start) = false
is_own (End id) = false
is_own (Commit id n now ops tracked ts) = true
is_own (Write n now ops) = true
is_own Freeze = false
is_own (Install through tables) = true
is_own (Snapshot id n) = false
is_own (Release id) = false

-- the open transaction of a seat is open after these events
abbrev pub IsOpen : List Event → List ℕ × Tx → Type 0
IsOpen journal o = find_named o.0 (replay journal).txns ≡ Some o.1

abbrev pub IsLive : Option (List ℕ × Tx) → List Event → Type 0
IsLive txn journal = (o : List ℕ × Tx) → txn ≡ Some o → IsOpen journal o

abbrev pub newcomer : ℕ → List Event → View
newcomer parts seen = record { parts = parts; seen = seen; told = []; own = []; txn = None; flight = None; holds = false; base = []; base_flight = None }

abbrev pub holding : View → LockedModel → View
holding v h = record { parts = v.parts; seen = v.seen; told = v.told; own = v.own; txn = v.txn; flight = v.flight; holds = true; base = h.events; base_flight = h.flight }

-- the open transaction after an event of the seat
abbrev pub txn_after : Option (List ℕ × Tx) → Event → Option (List ℕ × Tx)
txn_after t (Begin id level start) = Some (id, begun level start)
txn_after t (End id) = None
txn_after t (Commit id n now ops tracked ts) = None
txn_after t (Write n now ops) = t
txn_after t Freeze = t
txn_after t (Install through tables) = t
txn_after t (Snapshot id n) = t
txn_after t (Release id) = t

-- the flight of a seat that found the flight b, and leaves the flight g
abbrev pub flight_after : Option Flight → Option Flight → Option Flight → Option Flight
flight_after v None None = v
flight_after v None (Some f) = Some f
flight_after v (Some b) None = None
flight_after v (Some b) (Some f) = v

-- it may leave what it found, set one where there was none, and clear its own
abbrev pub MayFly : Option Flight → Option Flight → Option Flight → Type 0
MayFly v None None = Unit {0}
MayFly v None (Some f) = Unit {0}
MayFly v (Some b) None = v ≡ Some b
MayFly v (Some b) (Some f) = b ≡ f

abbrev pub own_after : List ℕ → ℕ → Event → List ℕ
own_after own place e = if is_own e then own ++ place ∷ [] else own

abbrev pub after_event : View → Event → Option Flight → View
after_event v e g = record { parts = v.parts; seen = v.base ++ e ∷ []; told = []; own = own_after v.own (length v.base) e; txn = txn_after v.txn e; flight = flight_after v.flight v.base_flight g; holds = false; base = []; base_flight = None }

abbrev pub after_none : View → Option Flight → View
after_none v g = record { parts = v.parts; seen = v.base; told = []; own = v.own; txn = v.txn; flight = flight_after v.flight v.base_flight g; holds = false; base = []; base_flight = None }

-- the first list, and what the second has beyond its length
abbrev pub longer : List Event → List Event → List Event
longer xs [] = xs
longer [] (y ∷ ys) = y ∷ ys
longer (x ∷ xs) (y ∷ ys) = x ∷ longer xs ys

abbrev pub either_txn : Option (List ℕ × Tx) → Option (List ℕ × Tx) → Option (List ℕ × Tx)
either_txn None t = t
either_txn (Some o) t = Some o

abbrev pub either_flight : Option Flight → Option Flight → Option Flight
either_flight None t = t
either_flight (Some o) t = Some o

abbrev pub joined : View → View → View
joined v w = record { parts = v.parts + w.parts; seen = longer v.seen w.seen; told = w.seen; own = v.own ++ w.own; txn = either_txn v.txn w.txn; flight = either_flight v.flight w.flight; holds = v.holds; base = v.base; base_flight = v.base_flight }

-- the view after a look
abbrev pub after_look : View → View
after_look v = record { parts = v.parts; seen = v.seen; told = []; own = v.own; txn = v.txn; flight = v.flight; holds = v.holds; base = v.base; base_flight = v.base_flight }

-- each of these places has a commit or a write, and stands once among them
abbrev pub IsOwner : List ℕ → List Event → Type 0
IsOwner own journal = (p : ℕ) → 0 < times p own → (times p own ≡ 1) × ((e : Event) × (slice_get journal p ≡ Some e) × (is_own e ≡ true))

-- a part is handed out
abbrev pub less : View → View
less v = record { parts = v.parts - 1; seen = v.seen; told = v.told; own = v.own; txn = v.txn; flight = v.flight; holds = v.holds; base = v.base; base_flight = v.base_flight }

-- all parts: who has them knows every commit, write and install of the journal
abbrev pub all_parts : ℕ
all_parts = 2 ^ 64

abbrev pub total_parts : List View → ℕ
total_parts [] = 0
total_parts (v ∷ vs) = v.parts + total_parts vs

-- these places are all that the commits, writes and installs have, each once
abbrev pub OwnsAll : List ℕ → List Event → Type 0
OwnsAll own journal = (p : ℕ) (e : Event) → slice_get journal p ≡ Some e → is_own e ≡ true → times p own ≡ 1

-- the event may be this seat's, which has so many parts
abbrev pub IsMine : ℕ → Option (List ℕ × Tx) → Option Flight → Event → Type 0
IsMine k t u (Begin id level start) = t ≡ None
IsMine k t u (End id) = (x : Tx) × (t ≡ Some (id, x))
IsMine k t u (Commit id n now ops tracked ts) = (x : Tx) × (t ≡ Some (id, x)) × (0 < k)
IsMine k t u (Write n now ops) = 0 < k
IsMine k t u Freeze = Unit {0}
IsMine k t u (Install through tables) = (f : Flight) × (u ≡ Some f) × (0 < k)
IsMine k t u (Snapshot id n) = ⊥
IsMine k t u (Release id) = ⊥

-- the id of a begin is none that is open
abbrev pub IsNew : List Event → Event → Type 0
IsNew journal (Begin id level start) = find_named id (replay journal).txns ≡ None
IsNew journal _ = Unit {0}

abbrev pub May : View → Event → Type 0
May v e = IsNew v.base e × IsMine v.parts v.txn v.flight e

-- no install stands at the place n or later
abbrev pub NoInstall : List Event → ℕ → Type 0
NoInstall journal n = (p through : ℕ) (tables : List (Ulid × List ℕ)) → n ≤ p → slice_get journal p ≡ Some (Install through tables) → ⊥

-- what the holder of a flight knows of the state
abbrev pub Flies : Option Flight → ℕ → List Event → Option Flight → Type 0
Flies t n journal flight = (f : Flight) → t ≡ Some f → (flight ≡ Some f) × NoInstall journal n

-- What a seat knows of the journal. The author of a place is one more than its seat, and 0 where it has none.
-- The user of an id is the seat that has it open.
pub record Knows (journal : List Event) (flight : Option Flight) (held holder pilot : ℕ) (author : ℕ → ℕ) (user : List ℕ → ℕ) (seat : ℕ) (v : View) : Type 0 where
  pub seen : IsPrefix v.seen journal
  pub told : IsPrefix v.told journal
  pub own : (p : ℕ) → times p v.own ≡ same (author p) (suc seat)
  pub within : (p : ℕ) → 0 < times p v.own → p < length v.seen
  pub txn : (o : List ℕ × Tx) → v.txn ≡ Some o → (user o.0 ≡ seat) × IsOpen journal o
  pub idle : v.parts ≡ 0 → (p : ℕ) → times p v.own ≡ 0
  pub lock : v.holds ≡ true → (held ≡ 1) × (holder ≡ seat) × (holds_at v.base v.base_flight ≡ holds_at journal flight)
  pub flies : (f : Flight) → v.flight ≡ Some f → (flight ≡ Some f) × (pilot ≡ seat) × NoInstall journal (length v.seen)

-- Which places have an author: those of the commits and writes
pub record IsAuthored (journal : List Event) (seats : ℕ) (author : ℕ → ℕ) : Type 0 where
  pub beyond : (p : ℕ) → length journal ≤ p → author p ≡ 0
  pub owned : (p : ℕ) (e : Event) → slice_get journal p ≡ Some e → is_own e ≡ true → 0 < author p
  pub unowned : (p : ℕ) (e : Event) → slice_get journal p ≡ Some e → is_own e ≡ false → author p ≡ 0
  pub known : (p : ℕ) → author p ≤ seats

-- The word is twice the journal's length, and one more while a seat has the lock. Else the slot has the engine of the journal.
pub record KeepsRule (s : State (Option LockedModel) View) : Type 0 where
  pub journal : List Event
  pub flight : Option Flight
  pub held : ℕ
  pub holder : ℕ
  pub pilot : ℕ
  pub author : ℕ → ℕ
  pub user : List ℕ → ℕ
  pub one_word : length s.words ≡ 1
  pub one_slot : length s.homes ≡ 1
  pub bit : held < 2
  pub word : slice_index s.words 0 ≡ 2 * length journal + held
  pub home : held ≡ 0 → get_elem? s.homes 0 ≡ some (some (Some (holds_at journal flight)))
  pub authored : IsAuthored journal (length s.views) author
  pub total : total_parts s.views ≡ all_parts
  pub each_seat : (j : ℕ) (v : View) → get_elem? s.views j ≡ some v → Knows journal flight held holder pilot author user j v

abbrev Sat : Type 0
Sat = Me (Option LockedModel) View

abbrev At : Type 0
At = Step (Option LockedModel)

abbrev pub IsSameSeat : Seat (Option LockedModel) View → Seat (Option LockedModel) View → Type 0
IsSameSeat s t = (t.table_id ≡ s.table_id) × (t.id ≡ s.id)

-- the lock was taken with the state that lay there, or the word was another and nothing changed
abbrev pub acquired : At → Sat → ℕ → Sat → Type 0
acquired st m found m' =
    (found ≡ st.first → (y : LockedModel) × (m' ≡ (holding m.0 y, (0, Some y) ∷ m.1)) × (found ≡ 2 * length y.events)
    × IsPrefix m.0.seen y.events × IsPrefix m.0.told y.events × IsLive m.0.txn y.events × IsOwner m.0.own y.events × Flies m.0.flight (length m.0.seen) y.events y.flight × (m.0.parts ≡ all_parts → OwnsAll m.0.own y.events))
    × (found ≢ st.first → m' ≡ m)

-- the event stands at the journal's end
abbrev pub appended : At → Sat → ℕ → Sat → Type 0
appended st m stored m' = (e : Event) (g : Option Flight) → m.1 ≡ (0, Some (holds_at (m.0.base ++ e ∷ []) g)) ∷ [] → m' ≡ (after_event m.0 e g, [])

abbrev pub let_go : At → Sat → ℕ → Sat → Type 0
let_go st m stored m' = (g : Option Flight) → m.1 ≡ (0, Some (holds_at m.0.base g)) ∷ [] → m' ≡ (after_none m.0 g, [])

-- what the seat has seen and was told of are beginnings of one journal, in which its own places stand
abbrev pub looked : At → Sat → ℕ → Sat → Type 0
looked st m found m' = (y : List Event) × (m' ≡ (after_look m.0, m.1)) × IsPrefix m.0.seen y × IsPrefix m.0.told y × IsOwner m.0.own y
