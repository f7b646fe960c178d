-- What calls of an iterator over one stored table do to the rows that it may hand out.
use Rattle.std.proofs.Common.{◌≡◌, List, ◌++◌, Option, subst, ℕ}
use Rattle.std.proofs.lemmas.List.Elements.{Contains-append_left}
use Rattle.slate_types.specs.declared.types.RowEntry.{RowEntry}
use Rattle.slate_types.specs.Outside.{Act, Meaning}
use Rattle.slate_table.specs.declared.info.SsTableHandle.{SsTableHandle}
use Rattle.slate_merge.specs.declared.filter_iterator.FilterIterator.{FilterIterator}
use Rattle.slate_merge.specs.declared.newest_first.NewestFirst.{NewestFirst}
use Rattle.slate_merge.specs.declared.progress.Progress.{Progress}
use Rattle.slate_merge.specs.NoMoreRows.{HandsOut, NoMoreRows}
use Rattle.slate_merge.specs.Filtering.{TakesKept}
use Rattle.slate_merge.specs.Handing.{HandsHeld, SeeksHeld, brings_held, held_in}
use Rattle.slate_merge.specs.NewestFirst.{Begins}
use Rattle.slate_merge.proofs.Tellings.{begun_tells, held_grows, held_new, held_tells, kept_tells, sought_tells}
use Rattle.slate_read.specs.declared.range_rows.InRange.{InRange}
use Rattle.slate_read.specs.declared.table_state.TableState.{TableState}
use Rattle.slate_read.specs.declared.table_state.TableWalk.{TableWalk}
use Rattle.slate_read.specs.Bringing.{brings_in}
use Rattle.slate_read.specs.SstBringing.{UnopenedWalksBring, brings_walked, brings_sst, walk_begins, walk_seeks, walk_takes}
use Rattle.slate_read.specs.TableWalk.{is_in}
use Rattle.slate_read.proofs.Bringings.{Within, walk_grows}

-- ---- the rows in a range

abbrev pub walked_begins : FilterIterator TableWalk InRange → Meaning → List Act → FilterIterator TableWalk InRange → Type 0
walked_begins before m reads after = walk_begins before.iterator m reads after.iterator × (after.predicate ≡ before.predicate)

abbrev pub walked_takes : FilterIterator TableWalk InRange → Meaning → List Act → Option RowEntry → FilterIterator TableWalk InRange → Type 0
walked_takes before m reads answer after = TakesKept (λ x rs a y. walk_takes x m rs a y) (is_in before.predicate.range) before.iterator reads answer after.iterator × (after.predicate ≡ before.predicate)

abbrev pub walked_seeks : FilterIterator TableWalk InRange → Meaning → List Act → List ℕ → FilterIterator TableWalk InRange → Type 0
walked_seeks before m reads key after = walk_seeks before.iterator m reads key after.iterator × (after.predicate ≡ before.predicate)

walked_grows : (m : Meaning) (x : FilterIterator TableWalk InRange) (reads all : List Act) (r : RowEntry) → Within reads all → brings_walked m x reads r → brings_walked m x all r
walked_grows m x reads all r within k = walk_grows x.iterator.state x.iterator.table x.iterator.order m reads all r within k

walked_later : (m : Meaning) (x : FilterIterator TableWalk InRange) (reads later : List Act) (r : RowEntry) → brings_walked m x reads r → brings_walked m x (reads ++ later) r
walked_later m x reads later r k = walked_grows m x reads (reads ++ later) r (λ a c. Contains-append_left reads later a c) k

walked_tells : (m : Meaning) (x y : FilterIterator TableWalk InRange) (reads : List Act) (answer : Option RowEntry) → walked_takes x m reads answer y → HandsOut (brings_walked m x) reads answer (brings_walked m y)
walked_tells m x y reads answer t = kept_tells (λ (u : TableWalk) acts q. brings_in u.state u.table u.order m acts q) (λ u rs a v. walk_takes u m rs a v) (λ u v rs a k. k.3) (is_in x.predicate.range) x.iterator y.iterator reads answer t.0

-- ---- the newest of each key first

pub sst_tells : (m : Meaning) (x y : FilterIterator TableWalk InRange) (s p : Progress) (reads : List Act) (answer : Option RowEntry) → HandsHeld walked_takes (x, held_in s) m reads answer (y, held_in p) →
    HandsOut (brings_held (brings_walked m) (x, held_in s)) reads answer (brings_held (brings_walked m) (y, held_in p))
sst_tells m x y s p reads answer h = held_tells (brings_walked m) walked_takes m (λ u v rs a k. walked_tells m u v rs a k) (λ u rs later r k. walked_later m u rs later r k) (x, held_in s) (y, held_in p) reads answer h

pub sst_sought : (m : Meaning) (x y : FilterIterator TableWalk InRange) (s p : Progress) (reads : List Act) (key : List ℕ) → SeeksHeld walked_seeks (x, held_in s) m reads key (y, held_in p) →
    NoMoreRows (brings_held (brings_walked m) (x, held_in s)) reads (brings_held (brings_walked m) (y, held_in p))
sst_sought m x y s p reads key h = sought_tells (brings_walked m) walked_seeks m (λ u v rs k t. t.0.3) (x, held_in s) (y, held_in p) reads key h

pub sst_begun : (m : Meaning) (x y : FilterIterator TableWalk InRange) (s p : Progress) (reads : List Act) → Begins s p → walked_begins x m reads y → NoMoreRows (brings_held (brings_walked m) (x, held_in s)) reads (brings_held (brings_walked m) (y, held_in p))
sst_begun m x y s p reads b begins = begun_tells (brings_walked m) x y s p reads b begins.0.2

-- what some reads bring, more do
pub sst_grows : (it : NewestFirst (FilterIterator TableWalk InRange)) (m : Meaning) (reads : List Act) (r : RowEntry) → brings_sst it m reads r → (all : List Act) → Within reads all → brings_sst it m all r
sst_grows it m reads r k all within = held_grows (brings_walked m) (it.iterator, held_in it.progress) reads all r (λ b. walked_grows m it.iterator reads all r within b) k

-- ---- one that wasn't opened

pub unopened_bring : UnopenedWalksBring
unopened_bring range table order it is m reads r k = (
  it.iterator.iterator.order,
  subst (λ (s : TableState). brings_in s table it.iterator.iterator.order m reads r) is.unopened
      (subst (λ (h : SsTableHandle). brings_in it.iterator.iterator.state h it.iterator.iterator.order m reads r) is.over_table (held_new (brings_walked m) it.iterator it.progress reads r is.fresh k)),
)
