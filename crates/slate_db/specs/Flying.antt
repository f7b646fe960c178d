-- What is known while a flush is on its way.
--     took f      the rows of the frozen tables that it took, the oldest table first
--     IsFlying f c      it is the core's next flush, began behind the last install, and folds to a barrier at or below each reader; the first frozen tables are those that it took, with rows up to its last sequence; and where nothing is in memory behind them, there are no later commits
--     HasTaken m f c      what it took are the rows of the commits above the last install, up to its last sequence
--     TakesOff f tables c      it begins: it took all that waits, up to the newest sequence, and folds to the least one that a reader stands at
--     IsTaken m f c      what it took then are the rows of the commits above the last install, and without an operator none is an operand
--     IsAloft m o c      where a flush is on its way, both are known of it
--     after_flight c f ts spare      the core after its tables were installed
use Rattle.std.specs.Prelude.{◌≡◌, ℕ, ◌+◌, ◌≤◌, false, None, List, [], ◌∷◌, ◌++◌, map, length, drop, Option, IfSome}
use Rattle.std.specs.List.{AllByRecursion}
use Rattle.slate_types.specs.declared.types.Ulid.{Ulid}
use Rattle.slate_mem.specs.Lookup.{is_merge_among, newest_first}
use Rattle.slate_mem.specs.Table.{MemTableModel}
use Rattle.slate_txn.specs.declared.event.Event.TheVariants as events
use Rattle.slate_txn.specs.Open.{least_start}
use Rattle.slate_txn.specs.Reads.{up_to, key_rows}
use Rattle.slate_txn.specs.State.{last_of}
use Rattle.slate_db.specs.declared.flight.Flight.{Flight}
use Rattle.slate_db.specs.Flushed.{CanFlush}
use Rattle.slate_db.specs.Installs.{installed, runs_of}
use Rattle.slate_db.specs.Meaning.{Meaning, rules_of}
use Rattle.slate_db.specs.Model.{CoreModel, Rows, versions_in}
use Rattle.slate_db.specs.Sound.{above}

abbrev pub took : Flight → List Rows
took f = map (λ t. t.rows) f.taken.value.items

pub record IsFlying (f : Flight) (c : CoreModel) : Type 0 where
  pub number : f.number ≡ length (runs_of c.events) + 1
  pub behind : installed c.events ≤ f.through
  pub within : f.through ≤ last_of c.settings.start_seq c.state.commits
  pub floor : c.floor ≤ f.barrier
  pub barrier : f.barrier ≤ f.through
  pub begins : AllByRecursion (λ p. f.barrier ≤ p.1.begin) c.state.txns
  pub shows : AllByRecursion (λ p. f.barrier ≤ p.1) c.state.snapshots
  pub later : List Rows
  pub frozen : c.frozen ≡ took f ++ later
  pub count : f.tables ≡ length (took f)
  pub rows : AllByRecursion (λ rows. AllByRecursion (λ r. r.seq ≤ f.through) rows) (took f)
  pub rest : c.active ≡ [] → later ≡ [] → up_to f.through c.state.commits ≡ c.state.commits

abbrev pub HasTaken : Meaning → Flight → CoreModel → Type 0
HasTaken m f c = (k : List ℕ) → versions_in k (took f) ≡ key_rows (rules_of c.settings m) k (above (installed c.events) (up_to f.through c.state.commits))

-- tables: what it took, shared
pub record TakesOff (f : Flight) (tables : List MemTableModel) (c : CoreModel) : Type 0 where
  pub flying : IsFlying f c
  pub ready : CanFlush (took f)
  pub newest : f.through ≡ last_of c.settings.start_seq c.state.commits
  pub barrier : f.barrier ≡ least_start f.through c.state
  pub frozen : c.frozen ≡ took f
  pub shared : map (λ t. t.rows) tables ≡ took f

pub record IsTaken (m : Meaning) (f : Flight) (c : CoreModel) : Type 0 where
  pub rows : (k : List ℕ) → versions_in k (took f) ≡ key_rows (rules_of c.settings m) k (above (installed c.events) c.state.commits)
  pub tied : HasTaken m f c
  pub plain : m.combine ≡ None → is_merge_among (newest_first (took f)) ≡ false

abbrev pub IsAloft : Meaning → Option Flight → CoreModel → Type 0
IsAloft m o c = IfSome o (λ f. IsFlying f c × HasTaken m f c)

abbrev pub after_flight : CoreModel → Flight → List (Ulid × List ℕ) → ℕ → CoreModel
after_flight c f ts spare = record c {
  state = record c.state { flushed = f.through };
  events = c.events ++ (events.Install f.through ts ∷ []);
  spare = spare;
  frozen = drop f.tables c.frozen;
  floor = f.barrier;
}
