-- The tables of flushes have the filters of the flushes' policies.
use Rattle.std.proofs.Common.{◌≡◌, ℕ, ◌+◌, List, [], ◌∷◌, ◌++◌, sym, ap, subst}
use Rattle.slate_types.specs.declared.types.Ulid.{Ulid}
use Rattle.slate_types.specs.Outside.{Reach}
use Rattle.slate_filter.specs.Policy.{Policy, filters_of}
use Rattle.slate_table.specs.Filtered.{HasFiltersOf}
use Rattle.slate_table.specs.Parts.{Encode}
use Rattle.slate_table.specs.Table.{IsTableOf, cut}
use Rattle.slate_table.proofs.CutLaws.{cut_keeps}
use Rattle.slate_txn.specs.declared.event.Event.{Event}
use Rattle.slate_txn.specs.declared.event.Event.TheVariants as events
use Rattle.slate_db.specs.Flushed.{AreTablesAt, Flushes, IsTableAt, Layout, idle, stored}
use Rattle.slate_db.specs.Frozen.{IsFrozen}
use Rattle.slate_db.specs.Installs.{tables_in, tables_of}
use Rattle.slate_db.specs.Model.{CoreModel, Rows}
use Rattle.slate_db.specs.Readable.{AreFiltered}
use Rattle.slate_db.proofs.Logs.{tables_more, tables_same}
use Rattle.slate_db.proofs.Puttings.{frozen_tables}
use Rattle.slate_types.proofs.Lists.{AllByRecursion_append}

-- ---- tables

pub table_filtered : (encode : Encode) (layout : Layout) (number place : ℕ) (rows : Rows) (t : Ulid × List ℕ) → IsTableAt encode layout number place rows t → HasFiltersOf encode layout.policies t.0.0 t.1
table_filtered encode layout number place rows t made = record {
  version = layout.version;
  min = layout.min_filter_keys;
  blocks = cut layout.block_size layout.version rows;
  is = subst (λ (rs : Rows). IsTableOf encode t.1 layout.version t.0.0 (cut layout.block_size layout.version rows) (filters_of layout.policies layout.min_filter_keys rs)) (sym (cut_keeps layout.block_size layout.version rows)) made.built;
}

pub tables_filtered : (encode : Encode) (layout : Layout) (number place : ℕ) (parts : List Rows) (ts : List (Ulid × List ℕ)) → AreTablesAt encode layout number place parts ts → AreFiltered encode layout.policies ts
tables_filtered encode layout number place [] [] made = tt
tables_filtered encode layout number place (rows ∷ parts) (t ∷ ts) made = (table_filtered encode layout number place rows t made.0, tables_filtered encode layout number (place + 1) parts ts made.1)
tables_filtered encode layout number place [] (t ∷ ts) made = absurd made
tables_filtered encode layout number place (rows ∷ parts) [] made = absurd made

-- ---- journals

pub still_filtered : (encode : Encode) (policies : List Policy) (old new : List Event) → tables_of new ≡ tables_of old → AreFiltered encode policies (tables_of old) → AreFiltered encode policies (tables_of new)
still_filtered encode policies old new same h = subst (AreFiltered encode policies) (sym same) h

pub filtered_frozen : (encode : Encode) (policies : List Policy) (old new : CoreModel) → IsFrozen old new → AreFiltered encode policies (tables_of old.events) → AreFiltered encode policies (tables_of new.events)
filtered_frozen encode policies old new froze = still_filtered encode policies old.events new.events (frozen_tables old new froze)

pub filtered_flush : (layout : Layout) (before after : Reach) (old new : CoreModel) (n : ℕ) → Flushes layout before after old new n → AreFiltered before.meaning.encode layout.policies (tables_of old.events) →
    AreFiltered before.meaning.encode layout.policies (tables_of new.events)
filtered_flush layout before after old new n (idle none is kept) h = still_filtered before.meaning.encode layout.policies old.events new.events (ap (λ (c : CoreModel). tables_of c.events) is) h
filtered_flush layout before after old new n (stored ts is made taken) h =
    still_filtered before.meaning.encode layout.policies (old.events ++ (events.Install n ts ∷ [])) new.events (ap (λ (c : CoreModel). tables_of c.events) is)
    (subst (AreFiltered before.meaning.encode layout.policies) (sym (tables_more old.events (events.Install n ts)))
    (AllByRecursion_append (λ (t : Ulid × List ℕ). HasFiltersOf before.meaning.encode layout.policies t.0.0 t.1) (tables_of old.events) ts h (tables_filtered before.meaning.encode layout _ 0 made.parts ts made.built)))

-- a flush with its freeze
pub filtered_flushed : (layout : Layout) (before after : Reach) (old between new : CoreModel) (n : ℕ) → IsFrozen old between → Flushes layout before after between new n → AreFiltered before.meaning.encode layout.policies (tables_of old.events) →
    AreFiltered before.meaning.encode layout.policies (tables_of new.events)
filtered_flushed layout before after old between new n froze flushes h =
    filtered_flush layout before after between new n flushes (filtered_frozen before.meaning.encode layout.policies old between froze h)
