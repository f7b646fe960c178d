-- On an audited journal whose transcripts are vouched each stored value is an amount.
use Rattle.std.proofs.Common.{◌≡◌, ◌<◌, ◌≤◌, ◌^◌, ℕ, ℤ, Bool, true, false, cond, List, [], ◌∷◌, ◌++◌, length, bytes_eq, Option, Some, None, refl, sym, ap, subst, ◌∙◌, arith, append-nil}
use Rattle.std.specs.List.{cons_option}
use Rattle.std.specs.Option.{option_and_then}
use Rattle.slate_types.specs.declared.types.RowEntry.{RowEntry}
use Rattle.slate_types.specs.Rows.{hide_tombstone, is_base, operand}
use Rattle.slate_types.specs.Fold.{Combine, fold_taken, shown}
use Rattle.slate_mem.specs.Batch.{kept_ops}
use Rattle.slate_mem.specs.RowOf.{op_row, row_of}
use Rattle.slate_mem.proofs.KeptLaws.{from_last_passes}
use Rattle.slate_txn.specs.declared.event.Event.{Event}
use Rattle.slate_txn.specs.Audited.{PassesOn}
use Rattle.slate_txn.specs.Reads.{key_rows, state_at, up_to}
use Rattle.slate_txn.specs.Replay.{replay}
use Rattle.slate_txn.specs.State.{Commit, Rules, combine_at, last_of, opening}
use Rattle.slate_txn.specs.Vouched.{AreVouched}
use Rattle.slate_txn.proofs.Growing.{all_up_to, rows_more}
use Rattle.slate_txn.proofs.KindLaws.{holds_of_all}
use Rattle.slate_txn.proofs.SequenceLaws.{legal_counts}
use Rattle.slate_stock.specs.Amounts.{amount_bytes, amount_in, amount_of}
use Rattle.slate_stock.specs.Commits.{amount_put, puts}
use Rattle.slate_stock.specs.Journals.{AreAuditedOrders, order_kind}
use Rattle.slate_stock.specs.Orders.{order_moves}
use Rattle.slate_stock.proofs.JournalLaws.{amounts, fits_here, tracks_all}
use Rattle.slate_stock.proofs.PutLaws.{AllFit, amount_again, amount_long, final, or_else, row_is, row_put, where_is}

abbrev pub IsStored : Option RowEntry → Type 0
IsStored None = Unit {0}
IsStored (Some row) = (n : ℕ) × (operand row ≡ amount_bytes n) × (n < 2 ^ 64)

abbrev IsFit : Option ℕ → Type 0
IsFit None = Unit {0}
IsFit (Some n) = n < 2 ^ 64

final_fits : (ps : List (List ℕ × ℕ)) (k : List ℕ) → AllFit ps → IsFit (final ps k)
final_fits [] k h = tt
final_fits (p ∷ ps) k h = by (final ps k) (bytes_eq p.0 k) (final_fits ps k h.1)
  where
    by : (o : Option ℕ) (b : Bool) → IsFit o → IsFit (or_else o (where_is b p.1))
    by (Some n) b g = g
    by None true g = h.0
    by None false g = tt

-- the row of a commit more
stored_newest : (c : Combine) (rows : List RowEntry) (k : List ℕ) (seq : ℕ) (default : Option ℕ) (now : ℤ) (o : Option ℕ) → IsFit o → IsStored (shown c rows) → IsStored (shown c (rows ++ cons_option (row_put k seq default now o) []))
stored_newest c rows k seq default now None fit h = subst (λ (rs : List RowEntry). IsStored (shown c rs)) (sym (append-nil rows)) h
stored_newest c rows k seq default now (Some n) fit h = subst (λ (rs : List RowEntry). IsStored (shown_of rs)) (sym (from_last_passes is_base rows (op_row k seq default now (amount_put n)) refl)) (n, refl, fit)
  where
    shown_of : List RowEntry → Option RowEntry
    shown_of rs = option_and_then (λ r. hide_tombstone r.value r) (fold_taken c rs)

stored_after : (r : Rules) (cs : List Commit) (c : Commit) (ps : List (List ℕ × ℕ)) (k : List ℕ) → c.ops ≡ kept_ops (puts ps) → AllFit ps → IsStored (shown (combine_at r k) (key_rows r k cs)) →
    IsStored (shown (combine_at r k) (key_rows r k (cs ++ (c ∷ []))))
stored_after r cs c ps k e fit h =
    subst (λ (rs : List RowEntry). IsStored (shown (combine_at r k) rs)) (sym (rows_more r k cs c))
    (subst (λ (o : Option RowEntry). IsStored (shown (combine_at r k) (key_rows r k cs ++ cons_option o [])))
    (sym (ap (λ os. row_of (combine_at r k) r.default_millis c.seq c.now os k) e ∙ row_is (combine_at r k) r.default_millis c.seq c.now ps k))
    (stored_newest (combine_at r k) (key_rows r k cs) k c.seq r.default_millis c.now (final ps k) (final_fits ps k fit) h))

abbrev AllStored : Rules → List Commit → Type 0
AllStored r cs = (k : List ℕ) → IsStored (shown (combine_at r k) (key_rows r k cs))

same_le : (x : ℕ) → x ≤ x
same_le x = omega arith

goes_on : (r : Rules) → PassesOn r order_kind (AllStored r)
goes_on r = record {
  first = λ k. tt;
  more = λ cs c ts on k.
      let f = fits_here r cs (last_of r.start_seq cs) r.start_seq on.of_kind.order on.of_kind.amounts c.ops c.tracked ts on.counts (same_le (last_of r.start_seq cs)) on.of_kind.by on.alone in
      stored_after r cs c (order_moves (amounts r cs) f.order) k f.kept f.fit (on.before k);
}

pub all_stored : (r : Rules) (es : List Event) (n : ℕ) (k : List ℕ) → AreAuditedOrders r.start_seq es → AreVouched r es → last_of r.start_seq (replay es).commits ≤ n → IsStored (state_at r (replay es).commits n k)
all_stored r es n k audited vouched l =
    subst (λ (cs : List Commit). IsStored (shown (combine_at r k) (key_rows r k cs))) (sym (all_up_to r.start_seq n (replay es).commits (legal_counts r.start_seq es opening [] tt audited.legal) l))
    (holds_of_all r order_kind (AllStored r) tracks_all (goes_on r) es audited.legal vouched audited.orders k)

pub stored_long : (o : Option RowEntry) (row : RowEntry) → IsStored o → o ≡ Some row → length (operand row) ≡ 8
stored_long o row h is = by (subst IsStored is h)
  where
    by : IsStored (Some row) → length (operand row) ≡ 8
    by (n, bytes, fit) = ap length bytes ∙ amount_long n

pub stored_fits : (o : Option RowEntry) → IsStored o → amount_in o < 2 ^ 64
stored_fits None h = omega arith
stored_fits (Some row) (n, bytes, fit) = subst (λ (m : ℕ). m < 2 ^ 64) (sym (ap amount_of bytes ∙ amount_again n fit)) fit
