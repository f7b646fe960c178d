-- Listed tables are tables that the objects hold.
use Rattle.std.proofs.Common.{◌≡◌, ◌⊎◌, inl, inr, ℕ, ◌^◌, ◌<◌, Bool, true, false, cond, List, [], ◌∷◌, ◌++◌, map, Option, Some, bytes_eq, refl, sym, ap, subst, ◌∙◌, Ordering, Less, Equal, Greater}
use Rattle.std.specs.Ordering.{is_lt}
use Rattle.std.specs.List.{AllByRecursion}
use Rattle.std.specs.List.Sorted.{IsStrictlySortedBy}
use Rattle.std.proofs.lemmas.Slice.Eq.{bytes_eq-Decides}
use Rattle.slate_types.specs.declared.types.RowEntry.{RowEntry}
use Rattle.slate_types.specs.declared.types.Ulid.{Ulid}
use Rattle.slate_types.specs.Keys.{key_cmp}
use Rattle.slate_types.specs.Outside.{Meaning, Objects, object_at}
use Rattle.slate_types.proofs.KeyOrder.{lt_irreflexive}
use Rattle.slate_store.specs.Store.{IsRising}
use Rattle.slate_block.specs.ReadingLaws.{EachIsAByte}
use Rattle.slate_merge.specs.Merge.{all_rows}
use Rattle.slate_table.specs.Parts.{Encode}
use Rattle.slate_table.specs.Paths.{path_of}
use Rattle.slate_table.specs.Stored.{HoldRows}
use Rattle.slate_table.specs.Table.{IsTable}
use Rattle.slate_table.proofs.StoredLaws.{same_held}
use Rattle.slate_read.specs.TableWalk.{root}
use Rattle.slate_tables.specs.Listed.{IsListed, ListedTablesAreHere, StandsAtItsPath}
use Rattle.slate_tables.specs.Merging.{MatchEach}
use Rattle.slate_tables.specs.Opened.{AreTablesOf, IsTableHere}
use Rattle.slate_tables.proofs.PathsApart.{one_id}

-- each object stands at its path
here_too : (o : List ℕ × List ℕ) (os : Objects) → AllByRecursion (λ x. key_cmp o.0 x ≡ Less) (map (λ p. p.0) os) → (all : Objects) → AllByRecursion (λ p. object_at all p.0 ≡ Some p.1) os → AllByRecursion (λ p. object_at (o ∷ all) p.0 ≡ Some p.1) os
here_too o [] below all h = tt
here_too o (p ∷ os) below all h = (by (bytes_eq o.0 p.0) refl, here_too o os below.1 all h.1)
  where
    by : (b : Bool) → bytes_eq o.0 p.0 ≡ b → cond b (Some o.1) (object_at all p.0) ≡ Some p.1
    by true e =
        let same : o.0 ≡ p.0 = (bytes_eq-Decides o.0 p.0).0 e in
        let under : key_cmp p.0 p.0 ≡ Less = subst (λ (k : List ℕ). key_cmp k p.0 ≡ Less) same below.0 in
        lt_irreflexive p.0 (ap is_lt under)
    by false e = h.0

all_here : (os : Objects) → IsStrictlySortedBy key_cmp (map (λ o. o.0) os) → AllByRecursion (λ o. object_at os o.0 ≡ Some o.1) os
unfolding IsStrictlySortedBy
all_here [] h = tt
all_here (o ∷ os) h = (ap (λ (b : Bool). cond b (Some o.1) (object_at os o.0)) ((bytes_eq-Decides o.0 o.0).1 refl), here_too o os h.0 os (all_here os h.1))

record Listed (encode : Encode) (all os : Objects) (ids : List Ulid) : Type 0 where
  tables : List (List RowEntry)
  are : AreTablesOf encode all ids tables
  held : HoldRows encode os (all_rows tables)

first_same : {X : Type 0} (x y : X) (xs ys : List X) → x ∷ xs ≡ y ∷ ys → x ≡ y
first_same x y xs ys h = cc

rest_same : {X : Type 0} (x y : X) (xs ys : List X) → x ∷ xs ≡ y ∷ ys → xs ≡ ys
rest_same x y xs ys h = cc

listed : (encode : Encode) (all os : Objects) (ids : List Ulid) → AllByRecursion (StandsAtItsPath encode) os → AllByRecursion (λ o. EachIsAByte o.1) os → AllByRecursion (λ o. object_at all o.0 ≡ Some o.1) os →
    map (λ (id : Ulid). path_of root id.0) ids ≡ map (λ o. o.0) os → AllByRecursion (λ (id : Ulid). id.0 < 2 ^ 128) ids → Listed encode all os ids
listed encode all [] [] each bytes here paths fit = record { tables = []; are = tt; held = refl }
listed encode all (o ∷ os) (id ∷ ids) each bytes here paths fit =
    let t = each.0 in
    let path : path_of root id.0 ≡ o.0 = first_same _ _ _ _ paths in
    let same : t.id ≡ id.0 = one_id t.id id.0 t.table.2.named fit.0 (sym t.path ∙ sym path) in
    let table : IsTable encode o.1 t.version id.0 t.rows = subst (λ (n : ℕ). IsTable encode o.1 t.version n t.rows) same t.table in
    let later = listed encode all os ids each.1 bytes.1 here.1 (rest_same _ _ _ _ paths) fit.1 in
    record {
      tables = t.rows ∷ later.tables;
      are = (record { bytes = o.1; version = t.version; there = ap (object_at all) path ∙ here.0; each = bytes.0; table = table }, later.are);
      held = inl (t.rows, all_rows later.tables, (root, id.0, t.version, sym path, table), later.held, refl);
    }
listed encode all [] (id ∷ ids) each bytes here paths fit = cc
listed encode all (o ∷ os) [] each bytes here paths fit = cc

pub listed_tables_are_here : ListedTablesAreHere
listed_tables_are_here m os ids rows lawful each bytes of held =
    let l = listed m.encode os os ids each bytes (all_here os of.rise) of.paths of.fit in
    (l.tables, l.are, same_held m.encode m.decode lawful os (all_rows l.tables) rows l.held held)
