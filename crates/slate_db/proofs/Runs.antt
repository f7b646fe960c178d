-- What is kept of the tables of a flush, and of those of all installs.
use Rattle.std.proofs.Common.{◌≡◌, ℕ, ◌+◌, ◌<◌, Bool, true, false, ◌&&◌, List, [], ◌∷◌, ◌++◌, length, map, flat_map, Some, refl, sym, ap, subst, ◌∙◌, arith}
use Rattle.std.specs.Prelude.{nat_eq}
use Rattle.std.specs.List.{AllByRecursion, starts_with}
use Rattle.std.proofs.lemmas.Grind.{flat_map-append}
use Rattle.slate_types.specs.declared.types.Ulid.{Ulid}
use Rattle.slate_types.specs.Keys.{key_lt}
use Rattle.slate_read.specs.declared.sorted_run.SortedRun.{SortedRun}
use Rattle.slate_table.specs.declared.info.SsTableHandle.{SsTableHandle}
use Rattle.slate_table.specs.Finding.{encloses, is_from, is_upto}
use Rattle.slate_table.specs.InfoReading.{seen_info}
use Rattle.slate_table.specs.Parts.{Encode, last_key}
use Rattle.slate_table.specs.Table.{AreInOrder, some_first, some_last}
use Rattle.slate_table.specs.TableEnd.{HasInfo}
use Rattle.slate_table.proofs.CutLaws.{cut_keeps}
use Rattle.slate_table.proofs.TableFinds.{info_keys}
use Rattle.slate_mem.specs.KeyTests.{Segments}
use Rattle.slate_txn.specs.declared.event.Event.{Event}
use Rattle.slate_db.specs.Cut.{AreCut, AreEnded, AreOfSegments}
use Rattle.slate_db.specs.Flushed.{AreTablesAt, IsTableAt, Layout}
use Rattle.slate_db.specs.Installs.{AreApart, AreHandles, ArePlaced, AreRuns, AreRunsOf, BeginsWith, EndsBelow, IsHandle, handles_of, prefixes_of, tables_of}
use Rattle.slate_db.specs.Model.{Rows}
use Rattle.slate_db.proofs.Cuts.{keys_after, order_behind}
use Rattle.slate_db.proofs.Prefixes.{begins_itself, between}
use Rattle.slate_types.proofs.Plain.{both_true}
use Rattle.slate_types.proofs.Lists.{AllByRecursion_front, AllByRecursion_behind, AllByRecursion_weaken}

-- ---- the tables of a journal

pub handles_more : (ts us : List (Ulid × List ℕ)) (hs ks : List SsTableHandle) → AreHandles ts hs → AreHandles us ks → AreHandles (ts ++ us) (hs ++ ks)
handles_more [] us [] ks are is = is
handles_more (x ∷ ts) us (y ∷ hs) ks are is = (are.0, handles_more ts us hs ks are.1 is)
handles_more [] us (y ∷ hs) ks are is = absurd are
handles_more (x ∷ ts) us [] ks are is = absurd are

handles_flat : (groups : List (List (Ulid × List ℕ))) (runs : List SortedRun) → AreRuns groups runs → AreHandles (flat_map (λ ts. ts) groups) (handles_of runs)
handles_flat [] [] are = tt
handles_flat (ts ∷ groups) (run ∷ runs) are = handles_more ts (flat_map (λ xs. xs) groups) run.tables.items (handles_of runs) are.0.handles (handles_flat groups runs are.1)
handles_flat [] (run ∷ runs) are = absurd are
handles_flat (ts ∷ groups) [] are = absurd are

pub all_handles : (es : List Event) (runs : List SortedRun) → AreRunsOf (tables_of es) runs → AreHandles (tables_of es) (handles_of runs)
all_handles es runs are = subst (λ (ts : List (Ulid × List ℕ)). AreHandles ts (handles_of runs)) are.are (handles_flat are.groups runs are.each)

runs_append : (groups more : List (List (Ulid × List ℕ))) (runs others : List SortedRun) → AreRuns groups runs → AreRuns more others → AreRuns (groups ++ more) (runs ++ others)
runs_append [] more [] others are is = is
runs_append (ts ∷ groups) more (run ∷ runs) others are is = (are.0, runs_append groups more runs others are.1 is)
runs_append [] more (run ∷ runs) others are is = absurd are
runs_append (ts ∷ groups) more [] others are is = absurd are

pub runs_both : (ts us : List (Ulid × List ℕ)) (runs more : List SortedRun) → AreRunsOf ts runs → AreRunsOf us more → AreRunsOf (ts ++ us) (runs ++ more)
runs_both ts us runs more are is = record {
  groups = are.groups ++ is.groups;
  are = flat_map-append (λ (xs : List (Ulid × List ℕ)). xs) are.groups is.groups ∙ (λ i. are.are i ++ is.are i);
  each = runs_append are.groups is.groups runs more are.each is.each;
}

-- ---- the tables of one flush

pub are_placed : (encode : Encode) (layout : Layout) (number place : ℕ) (parts : List Rows) (ts : List (Ulid × List ℕ)) → AreTablesAt encode layout number place parts ts → ArePlaced number place ts
are_placed encode layout number place [] [] h = tt
are_placed encode layout number place (rows ∷ parts) (t ∷ ts) h = (h.0.id, h.0.fits, are_placed encode layout number (place + 1) parts ts h.1)
are_placed encode layout number place [] (t ∷ ts) h = absurd h
are_placed encode layout number place (rows ∷ parts) [] h = absurd h

pub made_more : (encode : Encode) (layout : Layout) (number place : ℕ) (parts : List Rows) (ts : List (Ulid × List ℕ)) (rows : Rows) (t : Ulid × List ℕ) → AreTablesAt encode layout number place parts ts →
    IsTableAt encode layout number (place + length ts) rows t → AreTablesAt encode layout number place (parts ++ (rows ∷ [])) (ts ++ (t ∷ []))
made_more encode layout number place [] [] rows t h is = (subst (λ (p : ℕ). IsTableAt encode layout number p rows t) (let z : place + 0 ≡ place = omega arith in z) is, tt)
made_more encode layout number place (x ∷ parts) (u ∷ ts) rows t h is =
    (h.0, made_more encode layout number (place + 1) parts ts rows t h.1 (subst (λ (p : ℕ). IsTableAt encode layout number p rows t) (let z : place + length (u ∷ ts) ≡ (place + 1) + length ts = omega arith in z) is))
made_more encode layout number place [] (u ∷ ts) rows t h is = absurd h
made_more encode layout number place (x ∷ parts) [] rows t h is = absurd h

-- the keys that are kept of a table
kept_keys : (encode : Encode) (layout : Layout) (number place : ℕ) (rows : Rows) (t : Ulid × List ℕ) (h : SsTableHandle) → IsTableAt encode layout number place rows t → IsHandle t h →
    (h.info.first_entry ≡ some_first rows) × (h.info.last_entry ≡ some_last rows)
kept_keys encode layout number place rows t h made kept =
    let info = subst (λ (x : Ulid). HasInfo t.1 h.format_version x.0 (seen_info h.info)) kept.id kept.info in
    let keys = info_keys encode t.1 h.format_version t.0.0 (seen_info h.info) layout.version _ _ made.built info in
    (keys.0 ∙ ap some_first (cut_keeps layout.block_size layout.version rows), keys.1 ∙ ap some_last (cut_keeps layout.block_size layout.version rows))

ends_below : (encode : Encode) (layout : Layout) (number place : ℕ) (parts : List Rows) (ts : List (Ulid × List ℕ)) (hs : List SsTableHandle) (h : SsTableHandle) (last : List ℕ) → h.info.last_entry ≡ Some last →
    AllByRecursion (λ rows. 0 < length rows) parts → AllByRecursion (λ s. key_lt last s.key ≡ true) (flat_map (λ rows. rows) parts) → AreTablesAt encode layout number place parts ts → AreHandles ts hs → AllByRecursion (EndsBelow h) hs
ends_below encode layout number place [] [] [] h last is some below made kept = tt
ends_below encode layout number place ([] ∷ parts) (t ∷ ts) (g ∷ hs) h last is some below made kept = absurd (omega (arith, some.0))
ends_below encode layout number place ((r ∷ rs) ∷ parts) (t ∷ ts) (g ∷ hs) h last is some below made kept = (
  record { last = last; first = r.key; ends = is; begins = (kept_keys encode layout number place (r ∷ rs) t g made.0 kept.0).0; below = below.0 },
  ends_below encode layout number (place + 1) parts ts hs h last is some.1 (AllByRecursion_behind _ (r ∷ rs) (flat_map (λ rows. rows) parts) below) made.1 kept.1,
)
ends_below encode layout number place [] [] (g ∷ hs) h last is some below made kept = absurd kept
ends_below encode layout number place [] (t ∷ ts) hs h last is some below made kept = absurd made
ends_below encode layout number place (rows ∷ parts) [] hs h last is some below made kept = absurd made
ends_below encode layout number place (rows ∷ parts) (t ∷ ts) [] h last is some below made kept = absurd kept

pub kept_apart : (encode : Encode) (layout : Layout) (number place : ℕ) (g : Segments) (limit : ℕ) (parts : List Rows) (ts : List (Ulid × List ℕ)) (hs : List SsTableHandle) → AreInOrder (flat_map (λ rows. rows) parts) → AllByRecursion (λ rows. 0 < length rows) parts →
    AreEnded g limit parts → AreTablesAt encode layout number place parts ts → AreHandles ts hs → AreApart hs
kept_apart encode layout number place g limit [] [] [] order some ended made kept = tt
kept_apart encode layout number place g limit ([] ∷ parts) (t ∷ ts) (h ∷ hs) order some ended made kept = absurd (omega (arith, some.0))
kept_apart encode layout number place g limit ((r ∷ rs) ∷ parts) (t ∷ ts) (h ∷ hs) order some ended made kept = (
  ends_below encode layout number (place + 1) parts ts hs h (last_key r.key rs) (kept_keys encode layout number place (r ∷ rs) t h made.0 kept.0).1 some.1
      (keys_after g limit r rs (flat_map (λ rows. rows) parts) order ended.0) made.1 kept.1,
  kept_apart encode layout number (place + 1) g limit parts ts hs (order_behind (r ∷ rs) (flat_map (λ rows. rows) parts) order) some.1 ended.1 made.1 kept.1,
)
kept_apart encode layout number place g limit [] [] (h ∷ hs) order some ended made kept = absurd kept
kept_apart encode layout number place g limit [] (t ∷ ts) hs order some ended made kept = absurd made
kept_apart encode layout number place g limit (rows ∷ parts) [] hs order some ended made kept = absurd made
kept_apart encode layout number place g limit (rows ∷ parts) (t ∷ ts) [] order some ended made kept = absurd kept

-- ---- the runs of one flush

abbrev AllBegin : List (List ℕ) → List SsTableHandle → Type 0
AllBegin [] [] = Unit {0}
AllBegin (prefix ∷ prefixes) (h ∷ hs) = BeginsWith prefix h × AllBegin prefixes hs
AllBegin [] (h ∷ hs) = ⊥
AllBegin (prefix ∷ prefixes) [] = ⊥

last_key_is : (P : List ℕ → Type 0) (k : List ℕ) (rows : Rows) → P k → AllByRecursion (λ r. P r.key) rows → P (last_key k rows)
last_key_is P k [] h all = h
last_key_is P k (r ∷ rows) h all = last_key_is P r.key rows all.0 all.1

all_begin : (encode : Encode) (layout : Layout) (number place : ℕ) (parts : List Rows) (ts : List (Ulid × List ℕ)) (hs : List SsTableHandle) (prefixes : List (List ℕ)) → AllByRecursion (λ rows. 0 < length rows) parts →
    AreTablesAt encode layout number place parts ts → AreHandles ts hs → AreOfSegments layout.segments parts prefixes → AllBegin prefixes hs
all_begin encode layout number place [] [] [] [] some made kept are = tt
all_begin encode layout number place ([] ∷ parts) (t ∷ ts) (h ∷ hs) (prefix ∷ prefixes) some made kept are = absurd (omega (arith, some.0))
all_begin encode layout number place ((r ∷ rs) ∷ parts) (t ∷ ts) (h ∷ hs) (prefix ∷ prefixes) some made kept are =
    let keys = kept_keys encode layout number place (r ∷ rs) t h made.0 kept.0 in
    let begins : AllByRecursion (λ s. starts_with nat_eq s.key prefix ≡ true) (r ∷ rs) =
    AllByRecursion_weaken _ _ (λ s is. subst (λ (p : List ℕ). starts_with nat_eq s.key p ≡ true) is (begins_itself layout.segments s.key)) (r ∷ rs) are.0 in (
      record { first = r.key; last = last_key r.key rs; begins = keys.0; ends = keys.1; first_begins = begins.0; last_begins = last_key_is (λ k. starts_with nat_eq k prefix ≡ true) r.key rs begins.0 begins.1 },
      all_begin encode layout number (place + 1) parts ts hs prefixes some.1 made.1 kept.1 are.1,
    )
all_begin encode layout number place [] [] [] (prefix ∷ prefixes) some made kept are = absurd are
all_begin encode layout number place [] [] (h ∷ hs) prefixes some made kept are = absurd kept
all_begin encode layout number place [] (t ∷ ts) hs prefixes some made kept are = absurd made
all_begin encode layout number place (rows ∷ parts) [] hs prefixes some made kept are = absurd made
all_begin encode layout number place (rows ∷ parts) (t ∷ ts) [] prefixes some made kept are = absurd kept
all_begin encode layout number place (rows ∷ parts) (t ∷ ts) (h ∷ hs) [] some made kept are = absurd are

begin_front : (prefix : List ℕ) (hs ks : List SsTableHandle) (prefixes : List (List ℕ)) → AllBegin (map (λ h. prefix) hs ++ prefixes) (hs ++ ks) → AllByRecursion (BeginsWith prefix) hs
begin_front prefix [] ks prefixes begin = tt
begin_front prefix (h ∷ hs) ks prefixes begin = (begin.0, begin_front prefix hs ks prefixes begin.1)

begin_behind : (prefix : List ℕ) (hs ks : List SsTableHandle) (prefixes : List (List ℕ)) → AllBegin (map (λ h. prefix) hs ++ prefixes) (hs ++ ks) → AllBegin prefixes ks
begin_behind prefix [] ks prefixes begin = begin
begin_behind prefix (h ∷ hs) ks prefixes begin = begin_behind prefix hs ks prefixes begin.1

apart_front : (hs ks : List SsTableHandle) → AreApart (hs ++ ks) → AreApart hs
apart_front [] ks apart = tt
apart_front (h ∷ hs) ks apart = (AllByRecursion_front _ hs ks apart.0, apart_front hs ks apart.1)

apart_behind : (hs ks : List SsTableHandle) → AreApart (hs ++ ks) → AreApart ks
apart_behind [] ks apart = apart
apart_behind (h ∷ hs) ks apart = apart_behind hs ks apart.1

record CutHandles (ts : List (Ulid × List ℕ)) (hs ks : List SsTableHandle) : Type 0 where
  pub front : List (Ulid × List ℕ)
  pub back : List (Ulid × List ℕ)
  pub is : front ++ back ≡ ts
  pub first : AreHandles front hs
  pub rest : AreHandles back ks

cut_handles : (ts : List (Ulid × List ℕ)) (hs ks : List SsTableHandle) → AreHandles ts (hs ++ ks) → CutHandles ts hs ks
cut_handles ts [] ks kept = record { front = []; back = ts; is = refl; first = tt; rest = kept }
cut_handles [] (h ∷ hs) ks kept = absurd kept
cut_handles (t ∷ ts) (h ∷ hs) ks kept =
    let c = cut_handles ts hs ks kept.1 in
    record { front = t ∷ c.front; back = c.back; is = ap (λ xs. t ∷ xs) c.is; first = (kept.0, c.first); rest = c.rest }

group : (ts : List (Ulid × List ℕ)) (runs : List SortedRun) → AreHandles ts (handles_of runs) → AreApart (handles_of runs) → AllBegin (prefixes_of runs) (handles_of runs) → AreRunsOf ts runs
group [] [] kept apart begin = record { groups = []; are = refl; each = tt }
group (t ∷ ts) [] kept apart begin = absurd kept
group ts (run ∷ runs) kept apart begin =
    let c = cut_handles ts run.tables.items (handles_of runs) kept in
    let rest = group c.back runs c.rest (apart_behind run.tables.items (handles_of runs) apart) (begin_behind run.prefix run.tables.items (handles_of runs) (prefixes_of runs) begin) in
    record {
      groups = c.front ∷ rest.groups;
      are = ap (λ xs. c.front ++ xs) rest.are ∙ c.is;
      each = (
        record {
          begin = begin_front run.prefix run.tables.items (handles_of runs) (prefixes_of runs) begin;
          handles = c.first;
          apart = apart_front run.tables.items (handles_of runs) apart;
        },
        rest.each,
      );
    }

-- the tables of a flush stand in its runs
pub runs_kept : (encode : Encode) (layout : Layout) (number : ℕ) (rows : Rows) (parts : List Rows) (prefixes : List (List ℕ)) (ts : List (Ulid × List ℕ)) (runs : List SortedRun) → AreInOrder rows → AreCut layout.segments layout.table_bytes rows parts →
    AreTablesAt encode layout number 0 parts ts → AreHandles ts (handles_of runs) → AreOfSegments layout.segments parts prefixes → prefixes_of runs ≡ prefixes → AreRunsOf ts runs
runs_kept encode layout number rows parts prefixes ts runs order cut made kept are each =
    group ts runs kept (kept_apart encode layout number 0 layout.segments layout.table_bytes parts ts (handles_of runs) (subst AreInOrder (sym cut.all) order) cut.some cut.ended made kept)
    (subst (λ (ps : List (List ℕ)). AllBegin ps (handles_of runs)) (sym each) (all_begin encode layout number 0 parts ts (handles_of runs) prefixes cut.some made kept are))

-- ---- reads of them

-- a key of a table begins with the prefix of its run
pub enclosed_begins : (prefix k : List ℕ) (h : SsTableHandle) → BeginsWith prefix h → encloses (seen_info h.info) k ≡ true → starts_with nat_eq k prefix ≡ true
enclosed_begins prefix k h begin e =
    let both = both_true (is_from h.info.first_entry k) (is_upto h.info.last_entry k) e in
    between prefix begin.first k begin.last (sym (ap (λ o. is_from o k) begin.begins) ∙ both.0) (sym (ap (λ o. is_upto o k) begin.ends) ∙ both.1) begin.first_begins begin.last_begins
