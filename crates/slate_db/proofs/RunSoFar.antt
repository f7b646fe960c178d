-- The tables of a flush, of which some last ones are stored.
--     IsSoFar before now layout number parts left ts handles      these tables were put of the last
--                lists of rows, and the others are left
--     PrefixesSoFar all left ts      these tables have the last of the prefixes
--     AreLaid stored left tables runs      of some first tables, not of those that are left, the
--                list and the runs are made
use Rattle.std.proofs.Common.{◌≡◌, ℕ, ◌+◌, ◌<◌, ◌⊎◌, inl, inr, List, [], ◌∷◌, ◌++◌, length, map, reverse, Option, Some, None, refl, sym, ap, subst, ◌∙◌, append-nil, append_assoc, length-append}
use Rattle.std.proofs.lemmas.List.{map-append, reverse-append}
use Rattle.std.specs.List.{AllByRecursion}
use Rattle.std.specs.Prelude.{IfOk, OnErr, Result, Ok, Err}
use Rattle.slate_types.specs.declared.error.SlateDBError.{SlateDBError}
use Rattle.slate_types.specs.declared.error.SlateDBError.TheVariants.{OutOfMemory, MergeOperatorMissing}
use Rattle.slate_types.specs.declared.types.Ulid.{Ulid}
use Rattle.slate_types.specs.Outside.{Counts, IsCounted, IsFault, IsLater, Objects, Reach}
use Rattle.slate_types.proofs.Reaching.{fault_earlier}
use Rattle.slate_table.specs.declared.info.SsTableHandle.{SsTableHandle}
use Rattle.slate_table.specs.Parts.{Encode}
use Rattle.slate_table.specs.Table.{AreInOrder}
use Rattle.slate_mem.specs.KeyTests.{Segments}
use Rattle.slate_mem.specs.Lookup.{IsCallback}
use Rattle.slate_read.specs.declared.sorted_run.SortedRun.{SortedRun}
use Rattle.slate_db.specs.Answered.{AddsPuts}
use Rattle.slate_db.specs.Cut.{AreCut, AreOfSegments}
use Rattle.slate_db.specs.declared.flush.StoredTable.{StoredTable}
use Rattle.slate_db.specs.Flushed.{AreSomeOfFlush, AreTablesAt, HasTooLarge, IsFolded, IsPut, IsTableAt, IsTooLarge, Layout, MayTakeTables, StandInRuns, TakesTables, WantsOperator}
use Rattle.slate_db.specs.Installs.{AreHandles, handles_of}
use Rattle.slate_db.specs.Layers.{FitsMemory}
use Rattle.slate_db.specs.Meaning.{Meaning}
use Rattle.slate_db.specs.Model.{Rows}
use Rattle.slate_db.specs.StoredParts.{AreLastParts, ArePartsPut, CanBuild, IsOneTable, IsPartTooLarge, IsTablePut}
use Rattle.slate_db.proofs.Causes.{callback_fault}
use Rattle.slate_db.proofs.Cuts.{parts_all, parts_order}
use Rattle.slate_db.proofs.Puttings.{adds_more, may_as, may_more, takes_more}
use Rattle.slate_db.proofs.Runs.{runs_kept}
use Rattle.slate_types.proofs.Lists.{AllByRecursion_behind, AllByRecursion_front}

pub record IsSoFar (before now : Reach) (layout : Layout) (number : ℕ) (parts left : List Rows)
    (ts : List (Ulid × List ℕ)) (handles : List SsTableHandle) : Type 0 where
  pub done : List Rows
  pub split : left ++ done ≡ parts
  pub made : AreTablesAt before.meaning.encode layout number (length left) done ts
  pub kept : AreHandles ts handles
  pub taken : TakesTables ts before.objects now.objects
  pub acts : AddsPuts ts before.acts now.acts

-- before the first put
pub none_so_far : (before : Reach) (layout : Layout) (number : ℕ) (parts left : List Rows)
    (ts : List (Ulid × List ℕ)) (handles : List SsTableHandle) → left ≡ parts → ts ≡ [] →
    handles ≡ [] → IsSoFar before before layout number parts left ts handles
none_so_far before layout number parts left ts handles all none empty =
    subst (λ (xs : List (Ulid × List ℕ)).
    IsSoFar before before layout number parts left xs handles) (sym none)
    (subst (λ (xs : List SsTableHandle). IsSoFar before before layout number parts left [] xs)
    (sym empty)
    (record {
      done = [];
      split = append-nil left ∙ all;
      made = tt;
      kept = tt;
      taken = same before.objects;
      acts = refl;
    }))
  where
    same : (o : Option Objects) → TakesTables [] o o
    same None = tt
    same (Some os) = refl

-- the next is one that can be built
pub next_builds : (before now : Reach) (layout : Layout) (number : ℕ) (parts left rest : List Rows)
    (rows : Rows) (ts : List (Ulid × List ℕ)) (handles : List SsTableHandle) →
    IsSoFar before now layout number parts left ts handles → left ≡ rest ++ (rows ∷ []) →
    AllByRecursion CanBuild parts → CanBuild rows
next_builds before now layout number parts left rest rows ts handles far next each =
    (AllByRecursion_behind CanBuild rest (rows ∷ []) (subst (AllByRecursion CanBuild) next
    (AllByRecursion_front CanBuild left far.done
    (subst (AllByRecursion CanBuild) (sym far.split) each)))).0

-- the lists with the next one among those that are done
one_split : (parts left rest done : List Rows) (rows : Rows) → left ++ done ≡ parts →
    left ≡ rest ++ (rows ∷ []) → rest ++ (rows ∷ done) ≡ parts
one_split parts left rest done rows split next =
    sym (append_assoc rest (rows ∷ []) done) ∙ ap (λ xs. xs ++ done) (sym next) ∙ split

-- the next table before those that are made
one_made : (encode now : Encode) (layout : Layout) (number : ℕ) (left rest done : List Rows)
    (rows : Rows) (ts : List (Ulid × List ℕ)) (t : Ulid × List ℕ) → now ≡ encode →
    left ≡ rest ++ (rows ∷ []) → IsTableAt now layout number (length rest) rows t →
    AreTablesAt encode layout number (length left) done ts →
    AreTablesAt encode layout number (length rest) (rows ∷ done) (t ∷ ts)
one_made encode now layout number left rest done rows ts t same next is made = (
  subst (λ (e : Encode). IsTableAt e layout number (length rest) rows t) same is,
  subst (λ (p : ℕ). AreTablesAt encode layout number p done ts)
      (ap length next ∙ length-append rest (rows ∷ [])) made,
)

pub one_so_far : (before now after : Reach) (layout : Layout) (number : ℕ)
    (parts left rest : List Rows) (rows : Rows) (ts us : List (Ulid × List ℕ))
    (handles more : List SsTableHandle) (t : Ulid × List ℕ) (h : SsTableHandle) →
    IsSoFar before now layout number parts left ts handles → left ≡ rest ++ (rows ∷ []) →
    now.meaning.encode ≡ before.meaning.encode →
    IsTablePut now.meaning.encode layout number (length rest) rows t h now.objects after.objects →
    AddsPuts (t ∷ []) now.acts after.acts → us ≡ t ∷ ts → more ≡ h ∷ handles →
    IsSoFar before after layout number parts rest us more
one_so_far before now after layout number parts left rest rows ts us handles more t h far next same put acts tables kept =
    subst (λ (xs : List (Ulid × List ℕ)). IsSoFar before after layout number parts rest xs more)
    (sym tables)
    (subst (λ (xs : List SsTableHandle). IsSoFar before after layout number parts rest (t ∷ ts) xs)
    (sym kept)
    (record {
      done = rows ∷ far.done;
      split = one_split parts left rest far.done rows far.split next;
      made = one_made before.meaning.encode now.meaning.encode layout number left rest far.done rows
          ts t same next put.made far.made;
      kept = (put.kept, far.kept);
      taken = takes_more ts (t ∷ []) before.objects now.objects after.objects far.taken put.taken;
      acts = adds_more ts (t ∷ []) before.acts now.acts after.acts far.acts acts;
    }))

pub all_stored : (before now : Reach) (layout : Layout) (number : ℕ) (parts left : List Rows)
    (ts : List (Ulid × List ℕ)) (handles : List SsTableHandle) →
    IsSoFar before now layout number parts left ts handles → left ≡ [] →
    ArePartsPut before.meaning.encode layout number parts ts handles before.objects now.objects
all_stored before now layout number parts left ts handles far none = record {
  made = subst (λ (xs : List Rows). AreTablesAt before.meaning.encode layout number 0 xs ts)
      (ap (λ xs. xs ++ far.done) (sym none) ∙ far.split)
      (subst (λ (xs : List Rows). AreTablesAt before.meaning.encode layout number (length xs)
      far.done ts) none far.made);
  kept = far.kept;
  taken = far.taken;
}

-- said of equal lists
pub put_as : (encode : Encode) (layout : Layout) (number : ℕ) (parts : List Rows)
    (ts us : List (Ulid × List ℕ)) (hs ks : List SsTableHandle) (before after : Option Objects) →
    us ≡ ts → ks ≡ hs → ArePartsPut encode layout number parts ts hs before after →
    ArePartsPut encode layout number parts us ks before after
put_as encode layout number parts ts us hs ks before after tables handles put =
    subst (λ (xs : List (Ulid × List ℕ)).
    ArePartsPut encode layout number parts xs ks before after) (sym tables)
    (subst (λ (xs : List SsTableHandle). ArePartsPut encode layout number parts ts xs before after)
    (sym handles) put)

-- all are some last ones
pub parts_may : (encode : Encode) (layout : Layout) (number : ℕ) (parts : List Rows)
    (ts : List (Ulid × List ℕ)) (hs : List SsTableHandle) (before after : Option Objects) →
    ArePartsPut encode layout number parts ts hs before after →
    MayTakeTables (AreLastParts encode layout number parts) before after
parts_may encode layout number parts ts hs None after put = tt
parts_may encode layout number parts ts hs (Some os) after put =
    inr (ts, record { left = []; done = parts; split = refl; made = put.made }, put.taken)

-- ---- refused

pub some_taken : (before now after : Reach) (layout : Layout) (number : ℕ)
    (parts left rest : List Rows) (rows : Rows) (ts : List (Ulid × List ℕ))
    (handles : List SsTableHandle) → IsSoFar before now layout number parts left ts handles →
    left ≡ rest ++ (rows ∷ []) → now.meaning.encode ≡ before.meaning.encode →
    MayTakeTables (IsOneTable now.meaning.encode layout number (length rest) rows) now.objects
    after.objects → MayTakeTables (AreLastParts before.meaning.encode layout number parts)
    before.objects after.objects
some_taken before now after layout number parts left rest rows ts handles far next same may =
    may_more (IsOneTable now.meaning.encode layout number (length rest) rows)
    (AreLastParts before.meaning.encode layout number parts) ts before.objects now.objects
    after.objects far.taken
    (record { left = left; done = far.done; split = far.split; made = far.made })
    one_more may
  where
    one_more : (us : List (Ulid × List ℕ)) →
        IsOneTable now.meaning.encode layout number (length rest) rows us →
        AreLastParts before.meaning.encode layout number parts (us ++ ts)
    one_more us (t, is, made) = subst (λ (xs : List (Ulid × List ℕ)).
        AreLastParts before.meaning.encode layout number parts (xs ++ ts)) (sym is) (record {
          left = rest;
          done = rows ∷ far.done;
          split = one_split parts left rest far.done rows far.split next;
          made = one_made before.meaning.encode now.meaning.encode layout number left rest far.done rows
              ts t same next made far.made;
        })

pub part_too_large : (before now : Reach) (layout : Layout) (number : ℕ) (parts left rest : List Rows) (rows : Rows) (ts : List (Ulid × List ℕ)) (handles : List SsTableHandle) (e : SlateDBError) → IsSoFar before now layout number parts left ts handles → left ≡ rest ++ (rows ∷ []) →
    IsTooLarge layout rows e → IsPartTooLarge layout parts e
part_too_large before now layout number parts left rest rows ts handles e far next large =
    record {
      before = rest;
      table = rows;
      behind = far.done;
      split = one_split parts left rest far.done rows far.split next;
      large = large;
    }

-- what the store is refused for, behind the tables that were stored
pub refused_run : (before now after : Reach) (layout : Layout) (number : ℕ) (parts left rest : List Rows) (rows : Rows) (ts : List (Ulid × List ℕ)) (handles : List SsTableHandle) (e : SlateDBError) → IsSoFar before now layout number parts left ts handles → left ≡ rest ++ (rows ∷ []) →
    IsLater before.faults now.faults → IsFault now after e ⊎ IsTooLarge layout rows e → IsFault before after e ⊎ IsPartTooLarge layout parts e
refused_run before now after layout number parts left rest rows ts handles e far next later (inl fault) = inl (fault_earlier before now after e later fault)
refused_run before now after layout number parts left rest rows ts handles e far next later (inr large) = inr (part_too_large before now layout number parts left rest rows ts handles e far next large)

-- ---- their runs

-- of a field of the tables, which stand in the order of their puts
pub one_turned : {X Y : Type 0} (f : X → Y) (items more : List X) (x : X) →
    more ≡ items ++ (x ∷ []) → map f (reverse more) ≡ f x ∷ map f (reverse items)
one_turned f items more x is = ap (map f) (ap reverse is ∙ reverse-append items (x ∷ []))

-- all: the prefixes of all tables; left: of those that aren't stored; ps: of those that are
pub record PrefixesSoFar (all left ps : List (List ℕ)) : Type 0 where
  pub split : left ++ ps ≡ all

pub one_prefix : (all left rest ps more : List (List ℕ)) (prefix : List ℕ) →
    PrefixesSoFar all left ps → left ≡ rest ++ (prefix ∷ []) → more ≡ prefix ∷ ps →
    PrefixesSoFar all rest more
one_prefix all left rest ps more prefix far next is = record {
  split = ap (λ xs. rest ++ xs) is ∙ sym (append_assoc rest (prefix ∷ []) ps)
      ∙ ap (λ xs. xs ++ ps) (sym next) ∙ far.split;
}

-- tables: what an install names
pub record AreLaid (stored left : List StoredTable) (tables : List (Ulid × List ℕ))
    (runs : List SortedRun) : Type 0 where
  pub done : List StoredTable
  pub split : done ++ reverse left ≡ reverse stored
  pub named : tables ≡ map (λ t. t.table) done
  pub handles : handles_of runs ≡ map (λ t. t.handle) done
  pub stand : StandInRuns (map (λ t. t.prefix) done) runs

pub none_laid : (stored left : List StoredTable) (tables : List (Ulid × List ℕ))
    (runs : List SortedRun) → left ≡ stored → tables ≡ [] → runs ≡ [] →
    AreLaid stored left tables runs
none_laid stored left tables runs is none empty = record {
  done = [];
  split = ap reverse is;
  named = none;
  handles = ap handles_of empty;
  stand = subst (StandInRuns []) (sym empty) (record { each = refl; some = tt; differ = tt });
}

pub one_laid : (stored left rest : List StoredTable) (next : StoredTable)
    (tables ts : List (Ulid × List ℕ)) (runs more : List SortedRun) →
    AreLaid stored left tables runs → left ≡ rest ++ (next ∷ []) →
    ts ≡ tables ++ (next.table ∷ []) → handles_of more ≡ handles_of runs ++ (next.handle ∷ []) →
    ((prefixes : List (List ℕ)) → StandInRuns prefixes runs →
    StandInRuns (prefixes ++ (next.prefix ∷ [])) more) → AreLaid stored rest ts more
one_laid stored left rest next tables ts runs more far is named kept adds = record {
  done = far.done ++ (next ∷ []);
  split = append_assoc far.done (next ∷ []) (reverse rest)
      ∙ ap (λ xs. far.done ++ xs) (sym (ap reverse is ∙ reverse-append rest (next ∷ [])))
      ∙ far.split;
  named = named ∙ ap (λ xs. xs ++ (next.table ∷ [])) far.named
      ∙ sym (map-append (λ (t : StoredTable). t.table) far.done (next ∷ []));
  handles = kept ∙ ap (λ xs. xs ++ (next.handle ∷ [])) far.handles
      ∙ sym (map-append (λ (t : StoredTable). t.handle) far.done (next ∷ []));
  stand = subst (λ (ps : List (List ℕ)). StandInRuns ps more)
      (sym (map-append (λ (t : StoredTable). t.prefix) far.done (next ∷ [])))
      (adds (map (λ (t : StoredTable). t.prefix) far.done) far.stand);
}

pub all_laid : (stored left : List StoredTable) (tables : List (Ulid × List ℕ))
    (runs : List SortedRun) → (far : AreLaid stored left tables runs) → left ≡ [] →
    far.done ≡ reverse stored
all_laid stored left tables runs far none =
    sym (append-nil far.done) ∙ ap (λ xs. far.done ++ reverse xs) (sym none) ∙ far.split

-- ---- the whole run

pub parts_build : (tables : List Rows) → AllByRecursion (λ rows. 0 < length rows) tables → AllByRecursion AreInOrder tables → AllByRecursion (λ rows. AllByRecursion FitsMemory rows) tables → AllByRecursion CanBuild tables
parts_build [] some order fit = tt
parts_build (t ∷ ts) some order fit = (record { some = some.0; order = order.0; fit = fit.0 }, parts_build ts some.1 order.1 fit.1)

pub can_build : (g : Segments) (limit : ℕ) (rows : Rows) (parts : List Rows) → AreCut g limit rows parts → AreInOrder rows → AllByRecursion FitsMemory rows → AllByRecursion CanBuild parts
can_build g limit rows parts cut order fit =
    parts_build parts cut.some (parts_order parts (subst AreInOrder (sym cut.all) order)) (parts_all FitsMemory parts (subst (AllByRecursion FitsMemory) (sym cut.all) fit))

pub run_is_put : (m : Meaning) (layout : Layout) (number barrier : ℕ) (layers : List Rows) (rows : Rows) (parts : List Rows) (prefixes : List (List ℕ)) (ts : List (Ulid × List ℕ)) (runs : List SortedRun) (before after : Option Objects) → 0 < length rows →
    IsFolded m barrier layers rows → AreInOrder rows → AreCut layout.segments layout.table_bytes rows parts → AreOfSegments layout.segments parts prefixes → StandInRuns prefixes runs →
    ArePartsPut m.encode layout number parts ts (handles_of runs) before after → IsPut m layout number barrier layers ts runs before after
run_is_put m layout number barrier layers rows parts prefixes ts runs before after some folded order cut segments stand put = record {
  kept = runs_kept m.encode layout number rows parts prefixes ts runs order cut put.made put.kept segments stand.each;
  made = record {
    rows = rows;
    some = some;
    folded = folded;
    order = order;
    parts = parts;
    cut = cut;
    built = put.made;
  };
  prefixes = prefixes;
  segments = segments;
  stand = stand;
  taken = put.taken;
}

-- all tables are some last ones
pub put_may : (m : Meaning) (layout : Layout) (number barrier : ℕ) (layers : List Rows) (ts : List (Ulid × List ℕ)) (runs : List SortedRun) (before after : Option Objects) → IsPut m layout number barrier layers ts runs before after →
    MayTakeTables (AreSomeOfFlush m layout number barrier layers) before after
put_may m layout number barrier layers ts runs None after put = tt
put_may m layout number barrier layers ts runs (Some os) after put = inr (ts, ([], put.made), put.taken)

pub some_of_flush : (m : Meaning) (layout : Layout) (number barrier : ℕ) (layers : List Rows) (rows : Rows) (parts : List Rows) (before after : Option Objects) → 0 < length rows → IsFolded m barrier layers rows → AreInOrder rows →
    AreCut layout.segments layout.table_bytes rows parts → MayTakeTables (AreLastParts m.encode layout number parts) before after → MayTakeTables (AreSomeOfFlush m layout number barrier layers) before after
some_of_flush m layout number barrier layers rows parts before after some folded order cut may =
    may_as (AreLastParts m.encode layout number parts) (AreSomeOfFlush m layout number barrier layers) before after
    (λ ts p. (p.left, record { rows = rows; some = some; folded = folded; order = order; parts = p.done; cut = subst (AreCut layout.segments layout.table_bytes rows) (sym p.split) cut; built = p.made })) may

pub has_too_large : (layout : Layout) (rows : Rows) (parts : List Rows) (e : SlateDBError) → AreCut layout.segments layout.table_bytes rows parts → IsPartTooLarge layout parts e → HasTooLarge layout rows e
has_too_large layout rows parts e cut p = record { before = p.before; table = p.table; behind = p.behind; cut = subst (AreCut layout.segments layout.table_bytes rows) (sym p.split) cut; large = p.large }

-- ---- of results

-- why no rows were made
pub rows_cause : {D : Type 0} (a b : Counts) (m : Meaning) (layers : List Rows) (e : SlateDBError) → (e ≡ MergeOperatorMissing → WantsOperator m layers e) →
    (e ≡ OutOfMemory) ⊎ (e ≡ MergeOperatorMissing) ⊎ IsCallback a.operator b.operator e → IsCounted a b e ⊎ D ⊎ WantsOperator m layers e
rows_cause a b m layers e wants (inl is) = inl (subst (IsCounted a b) (sym is) tt)
rows_cause a b m layers e wants (inr (inl is)) = inr (inr (wants is))
rows_cause a b m layers e wants (inr (inr f)) = inl (callback_fault a b e f)

-- why no table of them was
pub run_cause : {P D W : Type 0} (before now after : Reach) (e : SlateDBError) → IsLater before.faults now.faults → (P → D) → IsFault now after e ⊎ P → IsFault before after e ⊎ D ⊎ W
run_cause before now after e later large (inl f) = inl (fault_earlier before now after e later f)
run_cause before now after e later large (inr p) = inr (inl (large p))
