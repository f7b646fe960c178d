-- What is counted of rows, as far as a walk over them has come.
use Rattle.std.proofs.Common.{◌≡◌, ℕ, ◌+◌, ◌-◌, ◌^◌, ◌≤◌, max, min, List, [], ◌∷◌, ◌++◌, length, length-append, Option, Some, ℤ, refl, sym, ap, ◌∙◌, arith}
use Rattle.std.specs.List.{sum_by}
use Rattle.std.proofs.lemmas.List.Sums.{sum_by-append, sum_by-cons}
use Rattle.slate_types.specs.declared.types.RowEntry.{RowEntry}
use Rattle.slate_types.specs.Rows.{estimated_size, latest}
use Rattle.slate_types.specs.Fold.{greatest_seq, latest_creation}
use Rattle.slate_mem.specs.declared.metadata.Count.{Count}
use Rattle.slate_mem.specs.Table.{least_seq, lesser}

-- what was counted at first, with all rows, is what is counted now, with those that are left
pub record Counted (old now : Count) (all left : List RowEntry) : Type 0 where
  pub few : now.rows ≤ 2 ^ 64 - 1
  pub fits : now.bytes ≤ 2 ^ 64 - 1
  pub rows : min (now.rows + length left) (2 ^ 64 - 1) ≡ min (old.rows + length all) (2 ^ 64 - 1)
  pub bytes : min (now.bytes + sum_by estimated_size left) (2 ^ 64 - 1) ≡ min (old.bytes + sum_by estimated_size all) (2 ^ 64 - 1)
  pub tick : latest_creation now.tick left ≡ latest_creation old.tick all
  pub last : greatest_seq now.last left ≡ greatest_seq old.last all
  pub first : least_seq now.first left ≡ least_seq old.first all

pub none_counted : (old : Count) (all : List RowEntry) → old.rows ≤ 2 ^ 64 - 1 → old.bytes ≤ 2 ^ 64 - 1 → Counted old old all all
none_counted old all few fits = record { few = few; fits = fits; rows = refl; bytes = refl; tick = refl; last = refl; first = refl }

-- the same rows, in other words
pub counted_as : (old now : Count) (all left next : List RowEntry) → left ≡ next → Counted old now all left → Counted old now all next
counted_as old now all left next is c =
    record {
      few = c.few;
      fits = c.fits;
      rows = ap (λ rs. min (now.rows + length rs) (2 ^ 64 - 1)) (sym is) ∙ c.rows;
      bytes = ap (λ rs. min (now.bytes + sum_by estimated_size rs) (2 ^ 64 - 1)) (sym is) ∙ c.bytes;
      tick = ap (latest_creation now.tick) (sym is) ∙ c.tick;
      last = ap (greatest_seq now.last) (sym is) ∙ c.last;
      first = ap (least_seq now.first) (sym is) ∙ c.first;
    }

creation_append : (t : Option ℤ) (xs ys : List RowEntry) → latest_creation t (xs ++ ys) ≡ latest_creation (latest_creation t xs) ys
creation_append t [] ys = refl
creation_append t (x ∷ xs) ys = creation_append (latest t x.create_ts) xs ys

seq_append : (n : ℕ) (xs ys : List RowEntry) → greatest_seq n (xs ++ ys) ≡ greatest_seq (greatest_seq n xs) ys
seq_append n [] ys = refl
seq_append n (x ∷ xs) ys = seq_append (max n x.seq) xs ys

least_append : (n : Option ℕ) (xs ys : List RowEntry) → least_seq n (xs ++ ys) ≡ least_seq (least_seq n xs) ys
least_append n [] ys = refl
least_append n (x ∷ xs) ys = least_append (Some (lesser n x.seq)) xs ys

-- rows that were counted by one call
pub record Counts (old new : Count) (more : List RowEntry) : Type 0 where
  pub rows : new.rows ≡ min (old.rows + length more) (2 ^ 64 - 1)
  pub bytes : new.bytes ≡ min (old.bytes + sum_by estimated_size more) (2 ^ 64 - 1)
  pub tick : new.tick ≡ latest_creation old.tick more
  pub last : new.last ≡ greatest_seq old.last more
  pub first : new.first ≡ least_seq old.first more

pub counted_on : (old now next : Count) (all rows left : List RowEntry) → Counts now next rows → Counted old now all (rows ++ left) → Counted old next all left
counted_on old now next all rows left s c =
    let count : length (rows ++ left) ≡ length rows + length left = length-append rows left in
    let sum : sum_by estimated_size (rows ++ left) ≡ sum_by estimated_size rows + sum_by estimated_size left = sum_by-append estimated_size rows left in
    record {
      few = omega (arith, s.rows);
      fits = omega (arith, s.bytes);
      rows = omega (arith, s.rows, count, c.rows);
      bytes = omega (arith, s.bytes, sum, c.bytes);
      tick = ap (λ t. latest_creation t left) s.tick ∙ sym (creation_append now.tick rows left) ∙ c.tick;
      last = ap (λ n. greatest_seq n left) s.last ∙ sym (seq_append now.last rows left) ∙ c.last;
      first = ap (λ n. least_seq n left) s.first ∙ sym (least_append now.first rows left) ∙ c.first;
    }

-- all rows were counted
pub all_counted : (old now : Count) (all : List RowEntry) → Counted old now all [] → Counts old now all
all_counted old now all c =
    record {
      rows = omega (arith, c.few, c.rows);
      bytes = omega (arith, c.fits, c.bytes);
      tick = c.tick;
      last = c.last;
      first = c.first;
    }

pub one_counted : (now next : Count) (row : RowEntry) → next.rows ≡ min (now.rows + 1) (2 ^ 64 - 1) → next.bytes ≡ min (now.bytes + estimated_size row) (2 ^ 64 - 1) → next.tick ≡ latest now.tick row.create_ts → next.last ≡ max now.last row.seq →
    next.first ≡ Some (lesser now.first row.seq) → Counts now next (row ∷ [])
one_counted now next row rows bytes tick last first =
    let size : sum_by estimated_size (row ∷ []) ≡ estimated_size row + sum_by estimated_size [] = sum_by-cons estimated_size row [] in
    record { rows = rows; bytes = omega (arith, bytes, size); tick = tick; last = last; first = first }
