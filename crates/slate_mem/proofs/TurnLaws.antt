-- Rows whose keys are in order, and of which those of a key come newest first, are in turn.
use Rattle.std.proofs.Common.{◌≡◌, ℕ, ◌==◌, ltb, Bool, true, false, cond, List, [], ◌∷◌, map, filter, reverse, bytes_eq, Option, Some, None, refl, sym, ap, subst, ◌∙◌, inl, inr, arith, ℤ, Ordering, Less, Equal, Greater}
use Rattle.std.specs.Prelude.{nat_lt}
use Rattle.std.specs.List.{AllByRecursion}
use Rattle.std.specs.List.Sorted.{IsStrictlySortedBy}
use Rattle.std.specs.Map.{keys_of, values_of}
use Rattle.std.specs.Ordering.{is_lt, nat_cmp, ordering_then}
use Rattle.std.proofs.lemmas.Bool.{cases_Bool}
use Rattle.std.proofs.lemmas.Bool.Decides.{nat_tests}
use Rattle.std.proofs.lemmas.Cmp.{nat_list_cmp_total, tied_itself}
use Rattle.std.proofs.lemmas.Slice.Eq.{bytes_eq-Decides}
use Rattle.slate_types.specs.declared.bytes_range.BytesRange.{BytesRange}
use Rattle.slate_types.specs.declared.iter.IterationOrder.{IterationOrder}
use Rattle.slate_types.specs.declared.iter.IterationOrder.TheVariants.{Ascending, Descending}
use Rattle.slate_types.specs.declared.types.RowEntry.{RowEntry}
use Rattle.slate_types.specs.Iteration.{comes_before, NoneBefore, IsInOrder}
use Rattle.slate_types.specs.Keys.{key_cmp, in_range}
use Rattle.slate_types.specs.RowTurns.{key_order, row_before, NoneEarlier, AreInTurn}
use Rattle.slate_types.specs.Rows.{sequenced, sequenced_cmp, of_key}
use Rattle.slate_types.proofs.KeyOrder.{equal_keys, bytes_eq_same}
use Rattle.slate_mem.specs.declared.WriteOp.{WriteOp}
use Rattle.slate_mem.specs.Batch.{Ops, kept}
use Rattle.slate_mem.specs.BatchRows.{batch_rows}
use Rattle.slate_mem.specs.RowOf.{row_at}
use Rattle.slate_mem.specs.Table.{ranged}
use Rattle.slate_mem.specs.Tied.{TableEntries, IsRows}
use Rattle.slate_mem.proofs.TableLaws.{AreKeyed, tied_keyed}

abbrev pub newer : RowEntry → RowEntry → Bool
newer r s = nat_lt s.seq r.seq

-- ---- by keys, and within a key

lower_is : (m n : ℕ) → is_lt (nat_cmp m n) ≡ ltb m n
lower_is m n = by (ltb m n) (m == n)
  where
    by : (l t : Bool) → is_lt (cond l Less (cond t Equal Greater)) ≡ l
    by true t = refl
    by false true = refl
    by false false = refl

comes_is : (order : IterationOrder) (a b : List ℕ) → is_lt (key_order order a b) ≡ comes_before order a b
comes_is Ascending a b = refl
comes_is Descending a b = refl

tied_key : (order : IterationOrder) (a b : List ℕ) → key_order order a b ≡ Equal → a ≡ b
tied_key Ascending a b e = equal_keys a b e
tied_key Descending a b e = sym (equal_keys b a e)

neither : (o p : Ordering) → is_lt o ≡ false → (o ≡ Equal → is_lt p ≡ false) → is_lt (ordering_then o p) ≡ false
neither Less p h k = cc
neither Equal p h k = k refl
neither Greater p h k = refl

none_earlier : (order : IterationOrder) (r : RowEntry) (rows : List RowEntry) → NoneBefore order r.key rows → NoneEarlier newer r (of_key r.key rows) → NoneEarlier (row_before order) r rows
none_earlier order r [] h k = tt
none_earlier order r (s ∷ rows) h k = (neither (key_order order s.key r.key) (nat_cmp r.seq s.seq) (comes_is order s.key r.key ∙ h.0) here, none_earlier order r rows h.1 (later (bytes_eq s.key r.key) k))
  where
    one : (b : Bool) → b ≡ true → NoneEarlier newer r (cond b (s ∷ of_key r.key rows) (of_key r.key rows)) → ltb r.seq s.seq ≡ false
    one true e n = n.0
    one false e n = cc

    here : key_order order s.key r.key ≡ Equal → is_lt (nat_cmp r.seq s.seq) ≡ false
    here e = lower_is r.seq s.seq ∙ one (bytes_eq s.key r.key) ((bytes_eq-Decides s.key r.key).1 (tied_key order s.key r.key e)) k

    later : (b : Bool) → NoneEarlier newer r (cond b (s ∷ of_key r.key rows) (of_key r.key rows)) → NoneEarlier newer r (of_key r.key rows)
    later true n = n.1
    later false n = n

pub in_turn : (order : IterationOrder) (rows : List RowEntry) → IsInOrder order rows → ((k : List ℕ) → AreInTurn newer (of_key k rows)) → AreInTurn (row_before order) rows
in_turn order [] h k = tt
in_turn order (r ∷ rows) h k = (none_earlier order r rows h.0 (own (bytes_eq r.key r.key) (bytes_eq_same r.key) (k r.key)), in_turn order rows h.1 (λ j. later j (bytes_eq r.key j) (k j)))
  where
    own : (b : Bool) → b ≡ true → AreInTurn newer (cond b (r ∷ of_key r.key rows) (of_key r.key rows)) → NoneEarlier newer r (of_key r.key rows)
    own true e t = t.0
    own false e t = cc

    later : (j : List ℕ) (b : Bool) → AreInTurn newer (cond b (r ∷ of_key j rows) (of_key j rows)) → AreInTurn newer (of_key j rows)
    later j true t = t.1
    later j false t = t

-- ---- rows of one sequence

at_seq : (k : List ℕ) (n : ℕ) (default_millis : Option ℕ) (moment : Option ℤ) (op : WriteOp) → (row_at k n default_millis moment op).seq ≡ n
at_seq k n default_millis None op = refl
at_seq k n default_millis (Some now) op = refl

not_lower : (m n p : ℕ) → m ≡ p → n ≡ p → ltb m n ≡ false
not_lower m n p e d = grind (arith, nat_tests)

none_newer : (k : List ℕ) (n : ℕ) (default_millis : Option ℕ) (moment : Option ℤ) (r : RowEntry) (ops : List WriteOp) → r.seq ≡ n → NoneEarlier newer r (map (row_at k n default_millis moment) ops)
none_newer k n default_millis moment r [] e = tt
none_newer k n default_millis moment r (op ∷ ops) e = (not_lower r.seq (row_at k n default_millis moment op).seq n e (at_seq k n default_millis moment op), none_newer k n default_millis moment r ops e)

one_seq : (k : List ℕ) (n : ℕ) (default_millis : Option ℕ) (moment : Option ℤ) (ops : List WriteOp) → AreInTurn newer (map (row_at k n default_millis moment) ops)
one_seq k n default_millis moment [] = tt
one_seq k n default_millis moment (op ∷ ops) = (none_newer k n default_millis moment (row_at k n default_millis moment op) ops (at_seq k n default_millis moment op), one_seq k n default_millis moment ops)

batch_turn : (range : BytesRange) (n : ℕ) (default_millis : Option ℕ) (moment : Option ℤ) (ops : Ops) (k : List ℕ) → AreInTurn newer (batch_rows range n default_millis moment ops k)
batch_turn range n default_millis moment ops k = by (in_range range k)
  where
    by : (b : Bool) → AreInTurn newer (cond b (map (row_at k n default_millis moment) (reverse (kept ops k))) [])
    by true = one_seq k n default_millis moment (reverse (kept ops k))
    by false = tt

pub batch_in_turn : (range : BytesRange) (n : ℕ) (default_millis : Option ℕ) (moment : Option ℤ) (ops : Ops) (order : IterationOrder) (rows : List RowEntry) →
    ((k : List ℕ) → of_key k rows ≡ batch_rows range n default_millis moment ops k) → IsInOrder order rows → AreInTurn (row_before order) rows
batch_in_turn range n default_millis moment ops order rows is h = in_turn order rows h (λ k. subst (AreInTurn newer) (sym (is k)) (batch_turn range n default_millis moment ops k))

-- ---- rows of a table

none_filtered : (before : RowEntry → RowEntry → Bool) (p : RowEntry → Bool) (r : RowEntry) (rows : List RowEntry) → NoneEarlier before r rows → NoneEarlier before r (filter p rows)
none_filtered before p r [] h = tt
none_filtered before p r (s ∷ rows) h = by (p s) (none_filtered before p r rows h.1)
  where
    by : (b : Bool) → NoneEarlier before r (filter p rows) → NoneEarlier before r (cond b (s ∷ filter p rows) (filter p rows))
    by true rest = (h.0, rest)
    by false rest = rest

turn_filtered : (before : RowEntry → RowEntry → Bool) (p : RowEntry → Bool) (rows : List RowEntry) → AreInTurn before rows → AreInTurn before (filter p rows)
turn_filtered before p [] h = tt
turn_filtered before p (r ∷ rows) h = by (p r) (turn_filtered before p rows h.1)
  where
    by : (b : Bool) → AreInTurn before (filter p rows) → AreInTurn before (cond b (r ∷ filter p rows) (filter p rows))
    by true rest = (none_filtered before p r rows h.0, rest)
    by false rest = rest

filters_turn : (p q : RowEntry → Bool) (rows : List RowEntry) → filter p (filter q rows) ≡ filter q (filter p rows)
filters_turn p q [] = refl
filters_turn p q (r ∷ rows) =
    elim (cases_Bool (p r)) as (λ _. filter p (filter q (r ∷ rows)) ≡ filter q (filter p (r ∷ rows))) [
      | inl e ↦ elim (cases_Bool (q r)) as (λ _. filter p (filter q (r ∷ rows)) ≡ filter q (filter p (r ∷ rows))) [
        | inl f ↦ rw (e, f, e) (ap (λ xs. r ∷ xs) (filters_turn p q rows))
        | inr f ↦ rw (e, f) (filters_turn p q rows)
      ]
      | inr e ↦ elim (cases_Bool (q r)) as (λ _. filter p (filter q (r ∷ rows)) ≡ filter q (filter p (r ∷ rows))) [
        | inl f ↦ rw (e, f, e) (filters_turn p q rows)
        | inr f ↦ rw (e, f) (filters_turn p q rows)
      ]
    ]

later_lower : (m n : ℕ) → nat_cmp m n ≡ Less → ltb n m ≡ false
later_lower m n h = by (ltb m n) (m == n) refl h
  where
    by : (l t : Bool) → ltb m n ≡ l → cond l Less (cond t Equal Greater) ≡ Less → ltb n m ≡ false
    by true t e d = grind (arith, nat_tests)
    by false true e d = cc
    by false false e d = cc

older : (r s : RowEntry) → s.key ≡ r.key → sequenced_cmp (sequenced r) (sequenced s) ≡ Less → ltb r.seq s.seq ≡ false
older r s same h =
    later_lower s.seq r.seq (sym (ap (λ k. ordering_then (key_cmp r.key k) (nat_cmp s.seq r.seq)) same ∙ ap (λ o. ordering_then o (nat_cmp s.seq r.seq)) (tied_itself nat_list_cmp_total r.key)) ∙ h)

all_older : (k : List ℕ) (r : RowEntry) (es : TableEntries) → r.key ≡ k → AreKeyed es → AllByRecursion (λ q. sequenced_cmp (sequenced r) q ≡ Less) (keys_of es) → NoneEarlier newer r (of_key k (values_of es))
all_older k r [] is t h = tt
all_older k r (e ∷ es) is t h = by (bytes_eq e.1.key k) refl (all_older k r es is t.1 h.1)
  where
    by : (b : Bool) → bytes_eq e.1.key k ≡ b → NoneEarlier newer r (of_key k (values_of es)) → NoneEarlier newer r (cond b (e.1 ∷ of_key k (values_of es)) (of_key k (values_of es)))
    by true d rest = (older r e.1 ((bytes_eq-Decides e.1.key k).0 d ∙ sym is) (ap (sequenced_cmp (sequenced r)) (sym t.0) ∙ h.0), rest)
    by false d rest = rest

key_turn : (k : List ℕ) (es : TableEntries) → AreKeyed es → IsStrictlySortedBy sequenced_cmp (keys_of es) → AreInTurn newer (of_key k (values_of es))
unfolding IsStrictlySortedBy
key_turn k [] t h = tt
key_turn k (e ∷ es) t h = by (bytes_eq e.1.key k) refl (key_turn k es t.1 h.1)
  where
    by : (b : Bool) → bytes_eq e.1.key k ≡ b → AreInTurn newer (of_key k (values_of es)) → AreInTurn newer (cond b (e.1 ∷ of_key k (values_of es)) (of_key k (values_of es)))
    by true d rest = (all_older k e.1 es ((bytes_eq-Decides e.1.key k).0 d) t.1 (subst (λ q. AllByRecursion (λ x. sequenced_cmp q x ≡ Less) (keys_of es)) t.0 h.0), rest)
    by false d rest = rest

pub ranged_in_turn : (range : BytesRange) (es : TableEntries) (order : IterationOrder) (rows : List RowEntry) → IsRows es → IsInOrder order rows → ((k : List ℕ) → of_key k rows ≡ of_key k (ranged range (values_of es))) → AreInTurn (row_before order) rows
ranged_in_turn range es order rows w h is =
    in_turn order rows h (λ k. subst (AreInTurn newer) (sym (is k ∙ filters_turn (λ r. bytes_eq r.key k) (λ r. in_range range r.key) (values_of es)))
    (turn_filtered newer (λ r. in_range range r.key) (of_key k (values_of es)) (key_turn k es (tied_keyed es w.tied) w.rising)))
