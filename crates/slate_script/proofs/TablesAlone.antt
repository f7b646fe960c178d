-- What a flush and other lines leave of what a store holds, and what that is at the end of a run.
use Rattle.std.proofs.Common.{◌≡◌, ℕ, ◌+◌, ◌≤◌, ◌<◌, ◌^◌, ◌⊎◌, inl, inr, List, [], ◌∷◌, ◌++◌, append-nil, flat_map, length, Option, Some, IfSome, Result, Ok, Err, OnOk, refl, sym, ap, subst, ◌∙◌, arith, append_assoc, Ordering, Less, Equal, Greater}
use Rattle.std.specs.BTreeMap.{insert_entry}
use Rattle.std.specs.List.{AllByRecursion}
use Rattle.std.specs.Ordering.{match_ordering}
use Rattle.std.proofs.lemmas.Grind.{flat_map-append}
use Rattle.std.proofs.lemmas.List.{length-append}
use Rattle.std.proofs.lemmas.List.Elements.{Contains-append_left, Contains-append_right}
use Rattle.slate_types.specs.declared.types.Ulid.{Ulid}
use Rattle.slate_types.specs.Fold.{shown}
use Rattle.slate_types.specs.Keys.{key_cmp}
use Rattle.slate_types.specs.Outside.{Objects}
use Rattle.slate_types.specs.Rows.{of_key}
use Rattle.slate_types.proofs.KeyOrder.{equal_keys}
use Rattle.slate_types.proofs.Lists.{AllByRecursion_append, AllByRecursion_behind, AllByRecursion_front, AllByRecursion_weaken}
use Rattle.slate_store.specs.Store.{IsEmpty, with_object}
use Rattle.slate_table.specs.Parts.{Encode}
use Rattle.slate_table.specs.Paths.{path_of, table_id}
use Rattle.slate_table.specs.Stored.{HoldRows, by_seq}
use Rattle.slate_table.specs.Table.{IsBuilt, IsTable}
use Rattle.slate_table.proofs.CutLaws.{built_has}
use Rattle.slate_mem.specs.KeyTests.{Segments}
use Rattle.slate_txn.specs.declared.event.Event.TheVariants as events
use Rattle.slate_txn.specs.Reads.{state_at}
use Rattle.slate_txn.specs.State.{Rules, State}
use Rattle.slate_db.specs.Flushed.{AreTablesAt, IsFlushed, IsTableAt, Layout, TakesTables, idle, stored, with_tables}
use Rattle.slate_db.specs.Frozen.{IsFrozen}
use Rattle.slate_db.specs.Installs.{root, runs_of}
use Rattle.slate_db.specs.Meaning.{Meaning, combine_of, rules_in}
use Rattle.slate_db.specs.Model.{CoreModel, Rows, versions_in}
use Rattle.slate_db.specs.Segmented.{HavePrefixes}
use Rattle.slate_db.specs.Sound.{AreTables, IsTied}
use Rattle.slate_db.specs.StoredState.{StoresState}
use Rattle.slate_db.specs.Layers.{AreRising}
use Rattle.slate_db.specs.Log.{LIMIT}
use Rattle.slate_script.specs.Session.{SessionModel, StandsFor, StoresNothing, IsTableUpTo, HasTablesAlone}
use Rattle.slate_script.specs.StoredState.{IsObjectOf, IsStoredState, IsTableObject}
use Rattle.slate_script.proofs.BySequence.{one_table_more}
use Rattle.slate_db.proofs.OneSegment.{InOneSegment, flushed_stand}
use Rattle.slate_db.proofs.RunsOf.{runs_more, tables_are}
use Rattle.slate_db.proofs.PathsApart.{ids_same}
use Rattle.slate_db.proofs.Runs.{are_placed}
use Rattle.slate_script.proofs.SessionLeaves.{leaves_frozen}
use Rattle.slate_script.proofs.TurnedPuts.{puts_turned}

-- the objects on both sides of a path that none of them has
record IsPutAmong (os : Objects) (path bytes : List ℕ) : Type 0 where
  pub a : Objects
  pub b : Objects
  pub before : os ≡ a ++ b
  pub after : with_object os path bytes ≡ a ++ ((path, bytes) ∷ b)

put_among : (os : Objects) (path bytes : List ℕ) → AllByRecursion (λ o. path ≡ o.0 → ⊥) os → IsPutAmong os path bytes
put_among [] path bytes apart = record { a = []; b = []; before = refl; after = refl }
put_among (o ∷ os) path bytes apart =
    let p = place (key_cmp path o.0) refl (put_among os path bytes apart.1) in
    record { a = p.0; b = p.1; before = p.2; after = p.3 }
  where
    place : (r : Ordering) → key_cmp path o.0 ≡ r → IsPutAmong os path bytes → (a : Objects) × (b : Objects) × (o ∷ os ≡ a ++ b) × (match_ordering r ((path, bytes) ∷ o ∷ os) ((o.0, bytes) ∷ os) (o ∷ insert_entry key_cmp os path bytes) ≡ a ++ ((path, bytes) ∷ b))
    place Less e rest = ([], o ∷ os, refl, refl)
    place Equal e rest = absurd (apart.0 (equal_keys path o.0 e))
    place Greater e rest = (o ∷ rest.a, rest.b, ap (λ xs. o ∷ xs) rest.before, ap (λ xs. o ∷ xs) rest.after)

record AreHeldApart (encode : Encode) (a b : Objects) (rows : Rows) : Type 0 where
  pub first : Rows
  pub last : Rows
  pub here : HoldRows encode a first
  pub there : HoldRows encode b last
  pub are : rows ≡ first ++ last

held_apart : (encode : Encode) (a b : Objects) (rows : Rows) → HoldRows encode (a ++ b) rows → AreHeldApart encode a b rows
held_apart encode [] b rows h = record { first = []; last = rows; here = refl; there = h; are = refl }
held_apart encode (o ∷ a) b rows (inl (here, rest, is, others, same)) =
    let p = held_apart encode a b rest others in
    record { first = here ++ p.first; last = p.last; here = inl (here, p.first, is, p.here, refl); there = p.there; are = same ∙ ap (λ xs. here ++ xs) p.are ∙ sym (append_assoc here p.first p.last) }
held_apart encode (o ∷ a) b rows (inr (none, others)) =
    let p = held_apart encode a b rows others in
    record { first = p.first; last = p.last; here = inr (none, p.here); there = p.there; are = p.are }

held_together : (encode : Encode) (a b : Objects) (first last : Rows) → HoldRows encode a first → HoldRows encode b last → HoldRows encode (a ++ b) (first ++ last)
held_together encode [] b first last h k = subst (λ (xs : Rows). HoldRows encode b (xs ++ last)) (sym h) k
held_together encode (o ∷ a) b first last (inl (here, rest, is, others, same)) k =
    inl (here, rest ++ last, is, held_together encode a b rest last others k, ap (λ xs. xs ++ last) same ∙ append_assoc here rest last)
held_together encode (o ∷ a) b first last (inr (none, others)) k = inr (none, held_together encode a b first last others k)

tables_more : (m : Meaning) (ts : List (Ulid × List ℕ)) (t : Ulid × List ℕ) (version : ℕ) (layers : List Rows) (rows : Rows) → AreTables m ts layers → IsTable m.encode t.1 version t.0.0 rows → AreTables m (ts ++ (t ∷ [])) (layers ++ (rows ∷ []))
tables_more m [] t version layers rows h is = (version, rows, [], is, refl, ap (λ ls. ls ++ (rows ∷ [])) h)
tables_more m (x ∷ ts) t version layers rows (v, first, rest, table, others, same) is =
    (v, first, rest ++ (rows ∷ []), table, tables_more m ts t version rest rows others is, ap (λ ls. ls ++ (rows ∷ [])) same)

-- ---- one table more

-- an object is a table of an earlier flush than this one, or of an earlier place in it
abbrev IsTableBefore : Meaning → Layout → ℕ → ℕ → List ℕ × List ℕ → Type 0
IsTableBefore m layout n p o = (t : IsTableObject m layout o) × ((t.number < n) ⊎ ((t.number ≡ n) × (t.place < p)))

-- what a store holds while the tables of a flush are put
record HoldsAlone (m : Meaning) (layout : Layout) (n p : ℕ) (objects : Objects) (ts : List (Ulid × List ℕ)) : Type 0 where
  pub each : AllByRecursion (IsTableBefore m layout n p) objects
  pub named : AllByRecursion (IsObjectOf ts) objects
  pub layers : List Rows
  pub tables : AreTables m ts layers
  pub rows : Rows
  pub held : HoldRows m.encode objects rows
  pub sorted : (k : List ℕ) → AreRising (versions_in k layers) → by_seq (of_key k rows) ≡ versions_in k layers

later_place : (m : Meaning) (layout : Layout) (n p : ℕ) (o : List ℕ × List ℕ) → IsTableBefore m layout n p o → IsTableBefore m layout n (p + 1) o
later_place m layout n p o (t, h) = (t, by h)
  where
    by : (t.number < n) ⊎ ((t.number ≡ n) × (t.place < p)) → (t.number < n) ⊎ ((t.number ≡ n) × (t.place < p + 1))
    by (inl below) = inl below
    by (inr (same, below)) = inr (same, omega arith)

path_apart : (m : Meaning) (layout : Layout) (n p : ℕ) (o : List ℕ × List ℕ) → n < 2 ^ 64 → p < 2 ^ 64 → IsTableBefore m layout n p o → path_of root (table_id n p) ≡ o.0 → ⊥
path_apart m layout n p o fits place (t, h) same = by h
  where
    is : (n ≡ t.number) × (p ≡ t.place)
    is = ids_same n t.number p t.place fits t.fits place t.place_fits (same ∙ t.path)

    by : (t.number < n) ⊎ ((t.number ≡ n) × (t.place < p)) → ⊥
    by (inl below) = let e : n ≡ t.number = is.0 in omega arith
    by (inr (number, below)) = let e : p ≡ t.place = is.1 in omega arith

named_more : (os : Objects) (ts : List (Ulid × List ℕ)) (t : Ulid × List ℕ) (a b after : Objects) → os ≡ a ++ b → after ≡ a ++ ((path_of root t.0.0, t.1) ∷ b) → AllByRecursion (IsObjectOf ts) os → AllByRecursion (IsObjectOf (ts ++ (t ∷ []))) after
named_more os ts t a b after before then_is h =
    let each : AllByRecursion (IsObjectOf (ts ++ (t ∷ []))) (a ++ b) = AllByRecursion_weaken (IsObjectOf ts) (IsObjectOf (ts ++ (t ∷ []))) (λ o n. (n.0, Contains-append_left ts (t ∷ []) n.0 n.1, n.2)) (a ++ b) (subst (AllByRecursion (IsObjectOf ts)) before h) in
    subst (AllByRecursion (IsObjectOf (ts ++ (t ∷ [])))) (sym then_is)
    (AllByRecursion_append (IsObjectOf (ts ++ (t ∷ []))) a ((path_of root t.0.0, t.1) ∷ b) (AllByRecursion_front _ a b each) ((t, Contains-append_right ts (t ∷ []) t (0, omega arith, refl), refl), AllByRecursion_behind _ a b each))

table_alone : (m : Meaning) (layout : Layout) (n p : ℕ) (os : Objects) (ts : List (Ulid × List ℕ)) (t : Ulid × List ℕ) (here : Rows) → 1 ≤ n → n < 2 ^ 64 → IsTableAt m.encode layout n p here t → InOneSegment layout.segments here → HoldsAlone m layout n p os ts →
    HoldsAlone m layout n (p + 1) (with_object os (path_of root t.0.0) t.1) (ts ++ (t ∷ []))
table_alone m layout n p os ts t here first fits made one h =
    let is : IsTable m.encode t.1 layout.version t.0.0 here = subst (IsTable m.encode t.1 layout.version t.0.0) made.read (built_has m.encode layout.policies layout.min_filter_keys layout.block_size layout.version t.0.0 t.1 here made.built) in
    let place : IsPutAmong os (path_of root t.0.0) t.1 = put_among os (path_of root t.0.0) t.1 (AllByRecursion_weaken _ _ (λ o b same. path_apart m layout n p o fits made.fits b (sym (ap (path_of root) made.id) ∙ same)) os h.each) in
    let parts : AreHeldApart m.encode place.a place.b h.rows = held_apart m.encode place.a place.b h.rows (subst (λ (x : Objects). HoldRows m.encode x h.rows) place.before h.held) in
    let each : AllByRecursion (IsTableBefore m layout n (p + 1)) (place.a ++ place.b) = subst (AllByRecursion (IsTableBefore m layout n (p + 1))) place.before (AllByRecursion_weaken (IsTableBefore m layout n p) _ (later_place m layout n p) os h.each) in
    let new : IsTableBefore m layout n (p + 1) (path_of root t.0.0, t.1) =
    (record { number = n; first = first; fits = fits; place = p; place_fits = made.fits; rows = here; path = ap (path_of root) made.id; built = subst (λ (id : ℕ). IsBuilt m.encode layout.policies layout.min_filter_keys layout.block_size layout.version id t.1 here) made.id made.built; prefix = one.0; one = one.1 }, inr (refl, omega arith)) in
    record {
      each = subst (AllByRecursion (IsTableBefore m layout n (p + 1))) (sym place.after) (AllByRecursion_append _ place.a ((path_of root t.0.0, t.1) ∷ place.b) (AllByRecursion_front _ place.a place.b each) (new, AllByRecursion_behind _ place.a place.b each));
      named = named_more os ts t place.a place.b (with_object os (path_of root t.0.0) t.1) place.before place.after h.named;
      layers = h.layers ++ (here ∷ []);
      tables = tables_more m ts t layout.version h.layers here h.tables is;
      rows = parts.first ++ (here ++ parts.last);
      held = subst (λ (x : Objects). HoldRows m.encode x (parts.first ++ (here ++ parts.last))) (sym place.after)
          (held_together m.encode place.a ((path_of root t.0.0, t.1) ∷ place.b) parts.first (here ++ parts.last) parts.here (inl (here, parts.last, (root, t.0.0, layout.version, refl, is), parts.there, refl)));
      sorted = λ k. one_table_more k h.layers parts.first here parts.last h.rows parts.are (h.sorted k);
    }

tables_alone : (m : Meaning) (layout : Layout) (n p : ℕ) (os : Objects)
    (ts us : List (Ulid × List ℕ)) (parts : List Rows) → 1 ≤ n → n < 2 ^ 64 →
    AreTablesAt m.encode layout n p parts us → AllByRecursion (InOneSegment layout.segments) parts →
    HoldsAlone m layout n p os ts →
    (q : ℕ) × HoldsAlone m layout n q (with_tables os us) (ts ++ us)
tables_alone m layout n p os ts [] [] first fits made one h =
    (p, subst (HoldsAlone m layout n p os) (sym (append-nil ts)) h)
tables_alone m layout n p os ts (t ∷ us) (rows ∷ parts) first fits made one h =
    let path : List ℕ = path_of root t.0.0 in
    let all = tables_alone m layout n (p + 1) (with_object os path t.1) (ts ++ (t ∷ [])) us parts
    first fits made.1 one.1 (table_alone m layout n p os ts t rows first fits made.0 one.0 h) in (
      all.0,
      subst (λ (o : Objects). HoldsAlone m layout n all.0 o (ts ++ (t ∷ us)))
          (sym (puts_turned os n p t us fits made.0.fits made.0.id
          (are_placed m.encode layout n (p + 1) parts us made.1)))
          (subst (HoldsAlone m layout n all.0 (with_tables (with_object os path t.1) us))
          (append_assoc ts (t ∷ []) us) all.1),
    )
tables_alone m layout n p os ts (t ∷ us) [] first fits made one h = absurd made
tables_alone m layout n p os ts [] (rows ∷ parts) first fits made one h = absurd made

-- a flush more
run_alone : (m : Meaning) (layout : Layout) (runs : List (List (Ulid × List ℕ))) (us : List (Ulid × List ℕ)) (parts : List Rows) (before after : Option Objects) → length runs + 1 < 2 ^ 64 → AreTablesAt m.encode layout (length runs + 1) 0 parts us →
    AllByRecursion (InOneSegment layout.segments) parts → TakesTables us before after → HasTablesAlone m layout before runs → HasTablesAlone m layout after (runs ++ (us ∷ []))
run_alone m layout runs us parts before after few made one takes h =
    let n : ℕ = length runs + 1 in
    let size : length (runs ++ (us ∷ [])) ≡ length runs + 1 = length-append runs (us ∷ []) in
    let start : HoldsAlone m layout (length runs + 1) 0 h.os (flat_map (λ ts. ts) runs) = record {
      each = AllByRecursion_weaken (IsTableUpTo m layout (length runs)) _ (λ o b. (b.0, inl (omega (arith, b.1)))) h.os h.each;
      named = h.named;
      layers = h.layers;
      tables = h.tables;
      rows = h.rows;
      held = h.held;
      sorted = h.sorted;
    } in
    let end = (tables_alone m layout (length runs + 1) 0 h.os (flat_map (λ ts. ts) runs) us parts (omega arith) few made one start).1 in
    let flat : flat_map (λ (ts : List (Ulid × List ℕ)). ts) (runs ++ (us ∷ [])) ≡ flat_map (λ ts. ts) runs ++ us =
    flat_map-append (λ (ts : List (Ulid × List ℕ)). ts) runs (us ∷ []) ∙ ap (λ ts. flat_map (λ xs. xs) runs ++ ts) (append-nil us) in
    record {
      os = with_tables h.os us;
      told = subst (λ o. IfSome o (λ os. after ≡ Some (with_tables os us))) h.told takes;
      each = AllByRecursion_weaken _ (IsTableUpTo m layout (length (runs ++ (us ∷ [])))) (λ o b. (b.0, within b.0.number b.0.place (tables_alone m layout (length runs + 1) 0 h.os (flat_map (λ ts. ts) runs) us parts (omega arith) few made one start).0 b.1)) (with_tables h.os us) end.each;
      named = subst (λ (ts : List (Ulid × List ℕ)). AllByRecursion (IsObjectOf ts) (with_tables h.os us)) (sym flat) end.named;
      layers = end.layers;
      tables = subst (λ (ts : List (Ulid × List ℕ)). AreTables m ts end.layers) (sym flat) end.tables;
      rows = end.rows;
      held = end.held;
      sorted = end.sorted;
    }
  where
    within : (i p q : ℕ) → (i < length runs + 1) ⊎ ((i ≡ length runs + 1) × (p < q)) → i ≤ length (runs ++ (us ∷ []))
    within i p q (inl below) = let size : length (runs ++ (us ∷ [])) ≡ length runs + 1 = length-append runs (us ∷ []) in omega arith
    within i p q (inr (same, below)) = let size : length (runs ++ (us ∷ [])) ≡ length runs + 1 = length-append runs (us ∷ []) in omega arith

pub flush_alone : (m : Meaning) (layout : Layout) (old mid new : CoreModel) (n : ℕ) (before after : Option Objects) → IsFrozen old mid → IsFlushed m layout mid new n before after → IsTied m old → HavePrefixes layout.segments old.state.commits →
    length (runs_of old.events) ≤ length old.events → length old.events ≤ LIMIT → HasTablesAlone m layout before (runs_of old.events) → HasTablesAlone m layout after (runs_of new.events)
flush_alone m layout old mid new n before after frozen flushed tied have few room h = by flushed
  where
    same : runs_of mid.events ≡ runs_of old.events
    same = (leaves_frozen old mid frozen).runs

    alone : HasTablesAlone m layout before (runs_of mid.events)
    alone = subst (HasTablesAlone m layout before) (sym same) h

    small : length (runs_of mid.events) + 1 < 2 ^ 64
    small = let size : length (runs_of mid.events) ≡ length (runs_of old.events) = ap length same in let bound : length old.events ≤ 9223372036854775807 = room in omega (arith, size, few, bound)

    by : IsFlushed m layout mid new n before after → HasTablesAlone m layout after (runs_of new.events)
    by (idle none is untouched) = subst (λ (c : CoreModel). HasTablesAlone m layout after (runs_of c.events)) (sym is) (subst (λ o. HasTablesAlone m layout o (runs_of mid.events)) (sym untouched) alone)
    by (stored ts is made takes) =
        subst (HasTablesAlone m layout after) (sym (ap (λ (c : CoreModel). runs_of c.events) is ∙ runs_more mid.events (events.Install n ts)))
        (run_alone m layout (runs_of mid.events) ts made.parts before after small made.built (flushed_stand m layout old mid _ _ ts frozen tied have made) takes alone)

-- ---- lines that store nothing, and the beginning

pub stays_alone : {n : Meaning} {seg : Segments} (m : Meaning) (layout : Layout) (objects after : Option Objects) (e new : SessionModel) → after ≡ objects → StoresNothing n seg e new → HasTablesAlone m layout objects (runs_of e.core.events) → HasTablesAlone m layout after (runs_of new.core.events)
stays_alone m layout objects after e new same stores h =
    subst (HasTablesAlone m layout after) (sym stores.runs) (subst (λ o. HasTablesAlone m layout o (runs_of e.core.events)) (sym same) h)

pub stays_where : {V E : Type 0} (n : Meaning) (seg : Segments) (result : Result V E) (m : Meaning) (layout : Layout) (objects after : Option Objects) (e new : SessionModel) → after ≡ objects → OnOk result (StoresNothing n seg e new) →
    HasTablesAlone m layout objects (runs_of e.core.events) → OnOk result (HasTablesAlone m layout after (runs_of new.core.events))
stays_where n seg (Ok v) m layout objects after e new same stores h = stays_alone m layout objects after e new same stores h
stays_where n seg (Err x) m layout objects after e new same stores h = tt

pub begins_alone : (m : Meaning) (layout : Layout) (objects : Option Objects) (e : SessionModel) → IsEmpty objects → e.core.events ≡ [] → HasTablesAlone m layout objects (runs_of e.core.events)
begins_alone m layout objects e empty none = subst (λ es. HasTablesAlone m layout objects (runs_of es)) (sym none)
    (record { os = []; told = empty; each = tt; named = tt; layers = []; tables = refl; rows = []; held = refl; sorted = λ k rise. refl })

-- ---- the end

pub stored_state : (m : Meaning) (seg : Segments) (r : Rules) (layout : Layout) (objects : Option Objects) (e : SessionModel) (s : State) → rules_in e.core.settings m seg ≡ r → StoresState m e.core → StandsFor e s →
    HasTablesAlone m layout objects (runs_of e.core.events) → IsStoredState m r layout objects s
stored_state m seg r layout objects e s rules stores stands h = record {
  os = h.os;
  told = h.told;
  each = AllByRecursion_weaken _ (IsTableObject m layout) (λ o p. p.0) h.os h.each;
  rows = h.rows;
  held = h.held;
  folds = λ k.
      let state = stores h.layers (subst (λ (ts : List (Ulid × List ℕ)). AreTables m ts h.layers) (sym (tables_are e.core.events)) h.tables) k in
      ap (shown (combine_of m k)) (h.sorted k state.0) ∙ state.1
      ∙ (let commits = sym stands.commits in let flushed = sym stands.flushed in λ i. state_at (rules i) (commits i) (flushed i) k);
}
