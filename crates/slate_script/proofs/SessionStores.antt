-- What a flush and other lines leave of the store's tables.
use Rattle.std.proofs.Common.{◌≡◌, ℕ, ◌+◌, ◌≤◌, inl, inr, List, [], ◌∷◌, ◌++◌, flat_map, length, Option, Some, None, IfSome, refl, sym, ap, ◌∙◌, subst, arith}
use Rattle.std.specs.List.{AllByRecursion}
use Rattle.std.proofs.lemmas.List.{length-append}
use Rattle.slate_types.specs.declared.types.Ulid.{Ulid}
use Rattle.slate_types.specs.Outside.{Objects}
use Rattle.slate_filter.specs.Policy.{Policy, filters_of}
use Rattle.slate_table.specs.Parts.{Encode}
use Rattle.slate_table.specs.Table.{IsTableOf, cut}
use Rattle.slate_table.proofs.CutLaws.{cut_keeps}
use Rattle.slate_mem.specs.KeyTests.{Segments}
use Rattle.slate_txn.specs.declared.event.Event.{Event}
use Rattle.slate_txn.specs.declared.event.Event.TheVariants as events
use Rattle.slate_db.specs.Flushed.{AreTablesAt, IsFlushed, idle, stored, Layout, with_tables}
use Rattle.slate_db.specs.Frozen.{IsFrozen}
use Rattle.slate_db.specs.Installs.{runs_of, tables_of, ArePlaced, Holds, HoldsTables, NumberedFrom}
use Rattle.slate_db.specs.Meaning.{Meaning}
use Rattle.slate_db.specs.Model.{CoreModel, Rows}
use Rattle.slate_db.specs.Readable.{AreFiltered}
use Rattle.slate_db.specs.Log.{LIMIT}
use Rattle.slate_db.specs.Segmented.{IsSegmented}
use Rattle.slate_db.specs.Sound.{IsKept}
use Rattle.slate_db.specs.Settled.{HasTables, IsSettled}
use Rattle.slate_db.proofs.Settled as cores
use Rattle.slate_script.specs.Session.{SessionModel, StoresNothing}
use Rattle.slate_db.proofs.Runs.{are_placed}
use Rattle.slate_db.proofs.RunsOf.{runs_more, runs_same, tables_are}
use Rattle.slate_db.proofs.Logs.{numbered_more, tables_more, tables_same}
use Rattle.slate_db.proofs.PathsApart.{IsEarlier, earlier_all, holds_puts}
use Rattle.slate_script.proofs.SessionLeaves.{leaves_frozen}

pub same_tables : (es fs : List Event) → runs_of es ≡ runs_of fs → tables_of es ≡ tables_of fs
same_tables es fs same = tables_are es ∙ ap (flat_map (λ (ts : List (Ulid × List ℕ)). ts)) same ∙ sym (tables_are fs)

-- a freeze installs nothing
frozen_tables : (old mid : CoreModel) (objects : Option Objects) → IsFrozen old mid → HasTables objects old.events → HasTables objects mid.events
frozen_tables old mid objects (inl same) h = subst (λ (c : CoreModel). HasTables objects c.events) (sym same.1) h
frozen_tables old mid objects (inr frozen) h = subst (λ (c : CoreModel). HasTables objects c.events) (sym frozen.1) (record {
  holds = by objects h.holds;
  numbered = subst (NumberedFrom 1) (sym runs) h.numbered;
  few = let n : length (old.events ++ (events.Freeze ∷ [])) ≡ length old.events + 1 = length-append old.events (events.Freeze ∷ []) in subst (λ rs. length rs ≤ length (old.events ++ (events.Freeze ∷ []))) (sym runs) (omega (arith, n, h.few));
})
  where
    runs : runs_of (old.events ++ (events.Freeze ∷ [])) ≡ runs_of old.events
    runs = runs_same old.events events.Freeze refl

    same : tables_of (old.events ++ (events.Freeze ∷ [])) ≡ tables_of old.events
    same = tables_same old.events events.Freeze refl

    by : (o : Option Objects) → HoldsTables o old.events → HoldsTables o (old.events ++ (events.Freeze ∷ []))
    by None holds = holds
    by (Some os) holds = subst (Holds os) (sym same) holds

frozen_length : (old mid : CoreModel) → IsFrozen old mid → length mid.events ≤ length old.events + 1
frozen_length old mid (inl same) = subst (λ (c : CoreModel). length c.events ≤ length old.events + 1) (sym same.1) (omega arith)
frozen_length old mid (inr frozen) = subst (λ (c : CoreModel). length c.events ≤ length old.events + 1) (sym frozen.1) (let n : length (old.events ++ (events.Freeze ∷ [])) ≡ length old.events + 1 = length-append old.events (events.Freeze ∷ []) in omega (arith, n))

-- a flush puts what it installs
pub flushed_tables : (m : Meaning) (layout : Layout) (old mid new : CoreModel) (n : ℕ) (before after : Option Objects) → IsFrozen old mid → IsFlushed m layout mid new n before after → length old.events ≤ LIMIT → HasTables before old.events → HasTables after new.events
flushed_tables m layout old mid new n before after frozen flushed room h = by flushed (frozen_tables old mid before frozen h)
  where
    size : length mid.events ≤ 9223372036854775808
    size = let a : length mid.events ≤ length old.events + 1 = frozen_length old mid frozen in let b : length old.events ≤ 9223372036854775807 = room in omega arith

    put : (o : Option Objects) (ts : List (Ulid × List ℕ)) → HasTables o mid.events → ArePlaced (length (runs_of mid.events) + 1) 0 ts → IfSome o (λ os. after ≡ Some (with_tables os ts)) → HasTables after (mid.events ++ (events.Install n ts ∷ []))
    put None ts k places takes = absurd k.holds
    put (Some os) ts k places takes = subst (λ o. HasTables o (mid.events ++ (events.Install n ts ∷ []))) (sym takes) (record {
      holds = subst (Holds (with_tables os ts)) (sym (tables_more mid.events (events.Install n ts)))
          (holds_puts os (length (runs_of mid.events) + 1) 0 (tables_of mid.events) ts (omega (arith, k.few, size))
          (subst (AllByRecursion (IsEarlier (length (runs_of mid.events) + 1) 0)) (sym (tables_are mid.events)) (earlier_all 1 (length (runs_of mid.events) + 1) (runs_of mid.events) k.numbered (omega arith))) places k.holds);
      numbered = subst (NumberedFrom 1) (sym more) (numbered_more 1 (runs_of mid.events) ts k.numbered (subst (λ (i : ℕ). ArePlaced i 0 ts) (turn (length (runs_of mid.events))) places));
      few = subst (λ rs. length rs ≤ length (mid.events ++ (events.Install n ts ∷ []))) (sym more)
          (let a : length (mid.events ++ (events.Install n ts ∷ [])) ≡ length mid.events + 1 = length-append mid.events (events.Install n ts ∷ []) in
          let b : length (runs_of mid.events ++ (ts ∷ [])) ≡ length (runs_of mid.events) + 1 = length-append (runs_of mid.events) (ts ∷ []) in omega (arith, a, b, k.few));
    })
      where
        turn : (i : ℕ) → i + 1 ≡ 1 + i
        turn i = omega arith

        more : runs_of (mid.events ++ (events.Install n ts ∷ [])) ≡ runs_of mid.events ++ (ts ∷ [])
        more = runs_more mid.events (events.Install n ts)

    by : IsFlushed m layout mid new n before after → HasTables before mid.events → HasTables after new.events
    by (idle none is same) k = subst (λ (c : CoreModel). HasTables after c.events) (sym is) (subst (λ o. HasTables o mid.events) (sym same) k)
    by (stored ts is made takes) k = subst (λ (c : CoreModel). HasTables after c.events) (sym is) (put before ts k (are_placed m.encode layout _ 0 made.parts ts made.built) takes)

-- ---- with the filters of the policies

filtered_both : (encode : Encode) (policies : List Policy) (ts us : List (Ulid × List ℕ)) → AreFiltered encode policies ts → AreFiltered encode policies us → AreFiltered encode policies (ts ++ us)
filtered_both encode policies [] us h k = k
filtered_both encode policies (t ∷ ts) us h k = (h.0, filtered_both encode policies ts us h.1 k)

built_filtered : (encode : Encode) (layout : Layout) (n p : ℕ) (parts : List Rows) (ts : List (Ulid × List ℕ)) → AreTablesAt encode layout n p parts ts → AreFiltered encode layout.policies ts
built_filtered encode layout n p [] [] h = tt
built_filtered encode layout n p (rows ∷ parts) (t ∷ ts) h = (
  record {
    version = layout.version;
    min = layout.min_filter_keys;
    blocks = cut layout.block_size layout.version rows;
    is = subst (λ (rs : Rows). IsTableOf encode t.1 layout.version t.0.0 (cut layout.block_size layout.version rows) (filters_of layout.policies layout.min_filter_keys rs)) (sym (cut_keeps layout.block_size layout.version rows)) h.0.built;
  },
  built_filtered encode layout n (p + 1) parts ts h.1,
)
built_filtered encode layout n p [] (t ∷ ts) h = absurd h
built_filtered encode layout n p (rows ∷ parts) [] h = absurd h

flushed_filtered : (m : Meaning) (layout : Layout) (old mid new : CoreModel) (n : ℕ) (before after : Option Objects) → IsFrozen old mid → IsFlushed m layout mid new n before after →
    AreFiltered m.encode layout.policies (tables_of old.events) → AreFiltered m.encode layout.policies (tables_of new.events)
flushed_filtered m layout old mid new n before after frozen flushed h = by flushed
  where
    same : tables_of mid.events ≡ tables_of old.events
    same = same_tables mid.events old.events (leaves_frozen old mid frozen).runs

    here : AreFiltered m.encode layout.policies (tables_of mid.events)
    here = subst (AreFiltered m.encode layout.policies) (sym same) h

    by : IsFlushed m layout mid new n before after → AreFiltered m.encode layout.policies (tables_of new.events)
    by (idle none is untouched) = subst (λ (c : CoreModel). AreFiltered m.encode layout.policies (tables_of c.events)) (sym is) here
    by (stored ts is made takes) =
        subst (AreFiltered m.encode layout.policies) (sym (ap (λ (c : CoreModel). tables_of c.events) is ∙ tables_more mid.events (events.Install n ts)))
        (filtered_both m.encode layout.policies (tables_of mid.events) ts here (built_filtered m.encode layout _ 0 made.parts ts made.built))

pub flush_settled : (m : Meaning) (seg : Segments) (layout : Layout) (objects after : Option Objects) (e : SessionModel) (mid core : CoreModel) (n : ℕ) → IsFrozen e.core mid → IsFlushed m layout mid core n objects after → length e.core.events ≤ LIMIT →
    (IsKept m e.core → IsKept m core) → (IsSegmented seg e.core → IsSegmented seg core) → IsSettled layout.policies m seg objects e.core → IsSettled layout.policies m seg after core
flush_settled m seg layout objects after e mid core n frozen flushed room kept segmented h = record {
  lawful_policies = h.lawful_policies;
  lawful = h.lawful;
  kept = kept h.kept;
  segmented = segmented h.segmented;
  tables = flushed_tables m layout e.core mid core n objects after frozen flushed room h.tables;
  filtered = flushed_filtered m layout e.core mid core n objects after frozen flushed h.filtered;
}

-- what a line leaves that stores nothing
pub tables_still : {m : Meaning} {seg : Segments} (e new : SessionModel) → StoresNothing m seg e new → tables_of new.core.events ≡ tables_of e.core.events
tables_still e new s = same_tables new.core.events e.core.events s.runs

pub stays_settled : (policies : List Policy) (m : Meaning) (seg : Segments) (objects : Option Objects) (e new : SessionModel) → StoresNothing m seg e new → IsSettled policies m seg objects e.core → IsSettled policies m seg objects new.core
stays_settled policies m seg objects e new s = cores.stays_settled policies m seg objects e.core new.core s.runs s.later s.kept s.segmented
