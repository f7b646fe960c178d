-- What a commit that puts amounts makes of the amounts in the state.
use Rattle.std.proofs.Common.{◌≡◌, ℕ, length, ◌+◌, ◌<◌, ◌^◌, Bool, true, false, cond, List, [], ◌∷◌, ◌++◌, map, filter, bytes_eq, Option, Some, None, refl, sym, ap, ◌∙◌, append-nil}
use Rattle.std.specs.List.{list_any, cons_option}
use Rattle.std.specs.Option.{option_and_then}
use Rattle.std.specs.Prelude.{ℤ}
use Rattle.std.proofs.lemmas.Nat.{from_be_bytes-to_be_bytes_8}
use Rattle.slate_types.specs.declared.types.RowEntry.{RowEntry}
use Rattle.slate_types.specs.Rows.{is_base, hide_tombstone}
use Rattle.slate_types.specs.Fold.{Combine, fold_taken, fold_rows, shown, from_last}
use Rattle.slate_mem.specs.declared.WriteOp.{WriteOp}
use Rattle.slate_mem.specs.Batch.{replaces, ops_of, kept, kept_ops}
use Rattle.slate_mem.specs.RowOf.{op_row, row_of}
use Rattle.slate_mem.proofs.BatchLaws.{keeps_what_is_kept}
use Rattle.slate_mem.proofs.KeptLaws.{from_last_passes}
use Rattle.slate_txn.specs.State.{Rules, Commit, combine_at}
use Rattle.slate_txn.specs.Reads.{key_rows}
use Rattle.slate_txn.proofs.Growing.{rows_more}
use Rattle.slate_stock.specs.Amounts.{Amounts, put_amount, put_amounts, amount_bytes, amount_of, amount_in}
use Rattle.slate_stock.specs.Commits.{amount_put, puts}

-- the last amount that is put at a key
abbrev pub or_else : Option ℕ → Option ℕ → Option ℕ
or_else (Some n) o = Some n
or_else None o = o

abbrev pub where_is : Bool → ℕ → Option ℕ
where_is true n = Some n
where_is false n = None

abbrev pub final : List (List ℕ × ℕ) → List ℕ → Option ℕ
final [] k = None
final (p ∷ ps) k = or_else (final ps k) (where_is (bytes_eq p.0 k) p.1)

abbrev pub or_old : Option ℕ → ℕ → ℕ
or_old (Some n) old = n
or_old None old = old

pub put_finally : (m : Amounts) (ps : List (List ℕ × ℕ)) (k : List ℕ) → put_amounts m ps k ≡ or_old (final ps k) (m k)
put_finally m [] k = refl
put_finally m (p ∷ ps) k = put_finally (put_amount m p.0 p.1) ps k ∙ by (final ps k) (bytes_eq p.0 k)
  where
    by : (o : Option ℕ) (b : Bool) → or_old o (cond b p.1 (m k)) ≡ or_old (or_else o (where_is b p.1)) (m k)
    by (Some n) b = refl
    by None true = refl
    by None false = refl

-- ---- what is kept of puts

abbrev listed : Option ℕ → List WriteOp
listed None = []
listed (Some n) = amount_put n ∷ []

-- the operations of the key, and whether there are any
abbrev AreKept : List WriteOp → Option ℕ → Type 0
AreKept os None = os ≡ []
AreKept os (Some n) = (list_any replaces os ≡ true) × (from_last replaces os ≡ amount_put n ∷ [])

kept_puts : (ps : List (List ℕ × ℕ)) (k : List ℕ) → AreKept (ops_of (puts ps) k) (final ps k)
kept_puts [] k = refl
kept_puts (p ∷ ps) k = by (bytes_eq p.0 k) (final ps k) (kept_puts ps k)
  where
    rest : List (List ℕ × WriteOp)
    rest = filter (λ o. bytes_eq o.0 k) (puts ps)

    by : (b : Bool) (o : Option ℕ) → AreKept (map (λ x. x.1) rest) o → AreKept (map (λ x. x.1) (cond b ((p.0, amount_put p.1) ∷ rest) rest)) (or_else o (where_is b p.1))
    by true None h = (refl, ap (λ (xs : List WriteOp). from_last replaces (amount_put p.1 ∷ xs)) h)
    by true (Some n) h = (refl, ap (λ (b : Bool). cond b (from_last replaces (map (λ x. x.1) rest)) (amount_put p.1 ∷ map (λ x. x.1) rest)) h.0 ∙ h.1)
    by false None h = h
    by false (Some n) h = h

pub kept_is : (ps : List (List ℕ × ℕ)) (k : List ℕ) → kept (kept_ops (puts ps)) k ≡ listed (final ps k)
kept_is ps k = keeps_what_is_kept (puts ps) k ∙ by (final ps k) (kept_puts ps k)
  where
    by : (o : Option ℕ) → AreKept (ops_of (puts ps) k) o → kept (puts ps) k ≡ listed o
    by None h = ap (from_last replaces) h
    by (Some n) h = h.1

-- ---- the row of the commit

abbrev pub row_put : List ℕ → ℕ → Option ℕ → ℤ → Option ℕ → Option RowEntry
row_put k seq default now None = None
row_put k seq default now (Some n) = Some (op_row k seq default now (amount_put n))

pub row_is : (c : Combine) (default : Option ℕ) (seq : ℕ) (now : ℤ) (ps : List (List ℕ × ℕ)) (k : List ℕ) → row_of c default seq now (kept_ops (puts ps)) k ≡ row_put k seq default now (final ps k)
row_is c default seq now ps k = ap (λ os. fold_rows c (map (op_row k seq default now) os)) (kept_is ps k) ∙ by (final ps k)
  where
    by : (o : Option ℕ) → fold_rows c (map (op_row k seq default now) (listed o)) ≡ row_put k seq default now o
    by None = refl
    by (Some n) = refl

-- ---- the state after it

pub amount_again : (n : ℕ) → n < 2 ^ 64 → amount_of (amount_bytes n) ≡ n
unfolding amount_of amount_bytes
amount_again n h = from_be_bytes-to_be_bytes_8 n h

pub amount_long : (n : ℕ) → length (amount_bytes n) ≡ 8
unfolding amount_bytes
amount_long n = refl

-- the amount in the rows of a key
abbrev pub amount_among : Combine → List RowEntry → ℕ
amount_among c rows = amount_in (shown c rows)

IfBelow : Option ℕ → Type 0
IfBelow None = Unit {0}
IfBelow (Some n) = n < 2 ^ 64

newest : (c : Combine) (rows : List RowEntry) (k : List ℕ) (seq : ℕ) (default : Option ℕ) (now : ℤ) (o : Option ℕ) → IfBelow o → amount_among c (rows ++ cons_option (row_put k seq default now o) []) ≡ or_old o (amount_among c rows)
unfolding IfBelow
newest c rows k seq default now None h = ap (amount_among c) (append-nil rows)
newest c rows k seq default now (Some n) h = ap (λ rs. amount_in (shown_of rs)) (from_last_passes is_base rows (op_row k seq default now (amount_put n)) refl) ∙ amount_again n h
  where
    shown_of : List RowEntry → Option RowEntry
    shown_of rs = option_and_then (λ r. hide_tombstone r.value r) (fold_taken c rs)

abbrev pub AllFit : List (List ℕ × ℕ) → Type 0
AllFit [] = Unit {0}
AllFit (p ∷ ps) = (p.1 < 2 ^ 64) × AllFit ps

all_below : (ps : List (List ℕ × ℕ)) (k : List ℕ) → AllFit ps → IfBelow (final ps k)
unfolding IfBelow
all_below [] k h = tt
all_below (p ∷ ps) k h = by (final ps k) (bytes_eq p.0 k) (all_below ps k h.1)
  where
    by : (o : Option ℕ) (b : Bool) → IfBelow o → IfBelow (or_else o (where_is b p.1))
    by (Some n) b g = g
    by None true g = h.0
    by None false g = tt

-- the amounts after a commit that puts some
pub after_puts : (r : Rules) (cs : List Commit) (c : Commit) (ps : List (List ℕ × ℕ)) (k : List ℕ) → c.ops ≡ kept_ops (puts ps) → AllFit ps →
    amount_among (combine_at r k) (key_rows r k (cs ++ (c ∷ []))) ≡ put_amounts (λ j. amount_among (combine_at r j) (key_rows r j cs)) ps k
after_puts r cs c ps k e h =
    ap (amount_among (combine_at r k)) (rows_more r k cs c)
    ∙ ap (λ (o : Option RowEntry). amount_among (combine_at r k) (key_rows r k cs ++ cons_option o [])) (ap (λ os. row_of (combine_at r k) r.default_millis c.seq c.now os k) e ∙ row_is (combine_at r k) r.default_millis c.seq c.now ps k)
    ∙ newest (combine_at r k) (key_rows r k cs) k c.seq r.default_millis c.now (final ps k) (all_below ps k h)
    ∙ sym (put_finally (λ j. amount_among (combine_at r j) (key_rows r j cs)) ps k)
