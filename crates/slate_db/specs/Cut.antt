-- How a flush cuts its rows into tables.
--     segment_of segments k      the segment prefix of a key, empty where it has none
--     begins_key before r, begins_segment segments before r      the row has another key than the one before it, and another segment
--     ends_before segments limit table r      the row has another key than the last of these rows, and they have the size, or it is of another segment
--     GoesOn segments limit table      a table doesn't end before one of its own rows
--     AreEnded segments limit tables      each table but the last ends before the first row of the next one
--     AreCut segments limit rows tables      the rows in their order, in tables that end there and nowhere else
--     AreOfSegment segments prefix rows, AreOfSegments segments tables prefixes      all keys of the rows have the prefix; those of each table have the one in its place
--     StandsIn segments prefix r      the row's key has this segment prefix; without segments any
use Rattle.std.specs.Prelude.{◌≡◌, ◌<◌, ℕ, nat_le, Bool, true, false, ◌&&◌, ◌||◌, not, List, [], ◌∷◌, ◌++◌, length, sum_by, flat_map, Option, Some, None, unwrap_or, bytes_eq}
use Rattle.std.specs.List.{AllByRecursion}
use Rattle.slate_types.specs.declared.types.RowEntry.{RowEntry}
use Rattle.slate_types.specs.Rows.{estimated_size}
use Rattle.slate_mem.specs.Gathered.{last_row}
use Rattle.slate_mem.specs.KeyTests.{Segments, prefix_by, prefix_of_len}
use Rattle.slate_db.specs.Model.{Rows}

abbrev pub segment_of : Segments → List ℕ → List ℕ
segment_of segments k = unwrap_or (prefix_by segments k) []

-- before: the row before it, where there is one
abbrev pub begins_key : Option RowEntry → RowEntry → Bool
begins_key None r = false
begins_key (Some before) r = not (bytes_eq before.key r.key)

abbrev pub begins_segment : Segments → Option RowEntry → RowEntry → Bool
begins_segment segments None r = false
begins_segment segments (Some before) r = not (bytes_eq (segment_of segments before.key) (segment_of segments r.key))

abbrev pub ends_before : Segments → ℕ → Rows → RowEntry → Bool
ends_before segments limit table r = begins_key (last_row table) r && (nat_le limit (sum_by estimated_size table) || begins_segment segments (last_row table) r)

abbrev pub GoesOn : Segments → ℕ → Rows → Type 0
GoesOn segments limit table = (front : Rows) (r : RowEntry) (rest : Rows) → table ≡ front ++ (r ∷ rest) → ends_before segments limit front r ≡ false

abbrev pub EndsAt : Segments → ℕ → Rows → Rows → Type 0
EndsAt segments limit table [] = Unit {0}
EndsAt segments limit table (r ∷ rest) = ends_before segments limit table r ≡ true

abbrev pub AreEnded : Segments → ℕ → List Rows → Type 0
AreEnded segments limit [] = Unit {0}
AreEnded segments limit (table ∷ tables) = EndsAt segments limit table (flat_map (λ rows. rows) tables) × AreEnded segments limit tables

-- limit: the size, by the estimates of the rows
pub record AreCut (segments : Segments) (limit : ℕ) (rows : Rows) (tables : List Rows) : Type 0 where
  pub all : flat_map (λ rows. rows) tables ≡ rows
  pub some : AllByRecursion (λ table. 0 < length table) tables
  pub go_on : AllByRecursion (GoesOn segments limit) tables
  pub ended : AreEnded segments limit tables

abbrev pub AreOfSegment : Segments → List ℕ → Rows → Type 0
AreOfSegment segments prefix rows = AllByRecursion (λ r. segment_of segments r.key ≡ prefix) rows

abbrev pub AreOfSegments : Segments → List Rows → List (List ℕ) → Type 0
AreOfSegments segments [] [] = Unit {0}
AreOfSegments segments (rows ∷ tables) (prefix ∷ prefixes) = AreOfSegment segments prefix rows × AreOfSegments segments tables prefixes
AreOfSegments segments [] (prefix ∷ prefixes) = ⊥
AreOfSegments segments (rows ∷ tables) [] = ⊥

abbrev pub StandsIn : Segments → List ℕ → RowEntry → Type 0
StandsIn None prefix r = Unit {0}
StandsIn (Some f) prefix r = prefix_of_len r.key (f r.key) ≡ Some prefix
