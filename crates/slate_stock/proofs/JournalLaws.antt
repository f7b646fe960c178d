-- On an audited journal whose transcripts are vouched each commit is its order's step, and so the balances add up.
use Rattle.std.proofs.Common.{◌≡◌, ℕ, ◌+◌, ◌<◌, ◌≤◌, ◌^◌, Bool, true, false, cond, ◌||◌, leb, List, [], ◌∷◌, ◌++◌, map, flat_map, bytes_eq, Option, Some, None, option_map, refl, sym, ap, subst, ◌∙◌, arith, append-nil, append_assoc}
use Rattle.std.specs.List.{list_any}
use Rattle.std.proofs.lemmas.Bool.Decides.{nat_tests}
use Rattle.std.proofs.lemmas.List.Folds.{list_any-append}
use Rattle.std.proofs.lemmas.Slice.Eq.{bytes_eq-Decides}
use Rattle.slate_types.specs.declared.types.RowEntry.{RowEntry}
use Rattle.slate_types.specs.Keys.{among, keys_set}
use Rattle.slate_types.specs.Rows.{key_value}
use Rattle.slate_types.specs.Fold.{shown}
use Rattle.slate_types.proofs.KeyOrder.{bytes_eq_same}
use Rattle.slate_types.proofs.KeySetLaws.{set_keeps}
use Rattle.slate_mem.specs.Batch.{Ops, batch_keys, kept_ops}
use Rattle.slate_mem.proofs.BatchLaws.{keeps_its_keys}
use Rattle.slate_txn.specs.declared.event.Event.{Event}
use Rattle.slate_txn.specs.declared.event.Event.TheVariants as events
use Rattle.slate_txn.specs.declared.event.TranscriptStep.{TranscriptStep}
use Rattle.slate_txn.specs.declared.event.TranscriptStep.TheVariants as steps
use Rattle.slate_txn.specs.State.{Rules, Commit, State, opening, last, last_of, combine_at}
use Rattle.slate_txn.specs.Reads.{up_to, key_rows, seen}
use Rattle.slate_txn.specs.Replay.{apply, apply_all, replay}
use Rattle.slate_txn.specs.Alone.{AloneFrom, IsAlone}
use Rattle.slate_txn.specs.Audited.{TracksAll, ComesNext, PassesOn}
use Rattle.slate_txn.specs.Laws.{Counts}
use Rattle.slate_txn.proofs.SequenceLaws.{counts_more}
use Rattle.slate_txn.proofs.Growing.{all_up_to, up_to_more, last_more}
use Rattle.slate_txn.proofs.KindLaws.{holds_of_all, stands_before}
use Rattle.slate_stock.specs.declared.order.Order.{Order}
use Rattle.slate_stock.specs.Amounts.{Amounts, balance_key, issued_key, is_balance_of, balances_sum, put_amounts, amount_in, amount_of, amount_at}
use Rattle.slate_stock.specs.Orders.{order_keys, order_refusal, order_moves, stepped}
use Rattle.slate_stock.specs.Commits.{HasNames, IsPlainName, IsAmount, AreReads, puts, own_puts, IsOrderBy}
use Rattle.slate_stock.specs.Journals.{order_kind}
use Rattle.slate_stock.specs.Laws.{BalancesAddUp, NoneIsAboveTheIssued, EachIsAStep, IsOrderStep}
use Rattle.slate_stock.proofs.KeyLaws.{is_of_asset}
use Rattle.slate_stock.proofs.SumLaws.{share, total, total_same, total_puts, Within, within_puts, pushed, paid, gained, sum_same}
use Rattle.slate_stock.proofs.PutLaws.{AllFit, amount_among, after_puts, amount_again}
use Rattle.slate_stock.proofs.OrderLaws.{Agree, AllBelow, conserved, issued, issues, same_moves, same_refusal, moves_fit}

-- ---- the map after some commits

abbrev pub amounts : Rules → List Commit → Amounts
amounts r cs k = amount_among (combine_at r k) (key_rows r k cs)

abbrev pub written : List Commit → List (List ℕ)
written cs = flat_map (λ c. batch_keys c.ops) cs ++ batch_keys []

AddUp : Rules → List Commit → Type 0
AddUp r cs = (asset : List ℕ) → IsPlainName asset → total (amounts r cs) asset (written cs) ≡ amounts r cs (issued_key asset)

record Balanced (r : Rules) (cs : List Commit) : Type 0 where
  adds : AddUp r cs
  within : Within (amounts r cs) (written cs)

record Sound (r : Rules) (cs : List Commit) : Type 0 where
  whole : Balanced r cs
  always : (n : ℕ) → Balanced r (up_to n cs)

-- ---- keys

pub written_more : (cs : List Commit) (c : Commit) (k : List ℕ) → among k (written (cs ++ (c ∷ []))) ≡ (among k (batch_keys c.ops) || among k (written cs))
written_more [] c k = list_any-append (λ x. bytes_eq x k) (batch_keys c.ops ++ []) [] ∙ ap (λ xs. list_any (λ x. bytes_eq x k) xs || false) (append-nil (batch_keys c.ops))
written_more (x ∷ cs) c k =
    ap (λ ks. among k ks) (append_assoc (batch_keys x.ops) (flat_map (λ c. batch_keys c.ops) (cs ++ (c ∷ []))) [])
    ∙ list_any-append (λ y. bytes_eq y k) (batch_keys x.ops) (written (cs ++ (c ∷ [])))
    ∙ ap (λ b. among k (batch_keys x.ops) || b) (written_more cs c k)
    ∙ swapped (among k (batch_keys x.ops)) (among k (batch_keys c.ops)) (among k (written cs))
    ∙ ap (λ b. among k (batch_keys c.ops) || b) (sym (list_any-append (λ y. bytes_eq y k) (batch_keys x.ops) (written cs)) ∙ ap (λ ks. among k ks) (sym (append_assoc (batch_keys x.ops) (flat_map (λ c. batch_keys c.ops) cs) [])))
  where
    swapped : (a b c : Bool) → (a || (b || c)) ≡ (b || (a || c))
    swapped true true c = refl
    swapped true false c = refl
    swapped false b c = refl

pushed_has : (ps : List (List ℕ × ℕ)) (ks : List (List ℕ)) (k : List ℕ) → among k (pushed ks ps) ≡ (among k (map (λ o. o.0) (puts ps)) || among k ks)
pushed_has [] ks k = refl
pushed_has (p ∷ ps) ks k = pushed_has ps (p.0 ∷ ks) k ∙ swapped (among k (map (λ o. o.0) (puts ps))) (bytes_eq p.0 k) (among k ks)
  where
    swapped : (a b c : Bool) → (a || (b || c)) ≡ ((b || a) || c)
    swapped true true c = refl
    swapped true false c = refl
    swapped false true c = refl
    swapped false false c = refl

-- the keys of the puts, by the batch that is kept of them
same_keys : (cs : List Commit) (c : Commit) (ps : List (List ℕ × ℕ)) (k : List ℕ) → c.ops ≡ kept_ops (puts ps) → among k (written (cs ++ (c ∷ []))) ≡ among k (pushed (written cs) ps)
same_keys cs c ps k e =
    written_more cs c k
    ∙ ap (λ os. among k (batch_keys os) || among k (written cs)) e
    ∙ ap (λ ks. among k ks || among k (written cs)) (keeps_its_keys (puts ps))
    ∙ ap (λ b. b || among k (written cs)) (set_keeps (map (λ o. o.0) (puts ps)) k)
    ∙ sym (pushed_has ps (written cs) k)

-- ---- one more order

more_within : (r : Rules) (cs : List Commit) (c : Commit) (ps : List (List ℕ × ℕ)) → c.ops ≡ kept_ops (puts ps) → AllFit ps → Within (amounts r cs) (written cs) → Within (amounts r (cs ++ (c ∷ []))) (written (cs ++ (c ∷ [])))
more_within r cs c ps e fit h k none = after_puts r cs c ps k e fit ∙ within_puts (amounts r cs) ps (written cs) h k (sym (same_keys cs c ps k e) ∙ none)

more_adds : (r : Rules) (cs : List Commit) (c : Commit) (o : Order) → c.ops ≡ kept_ops (puts (order_moves (amounts r cs) o)) → AllFit (order_moves (amounts r cs) o) →
    HasNames o → order_refusal (amounts r cs) o ≡ None → Within (amounts r cs) (written cs) → AddUp r cs → AddUp r (cs ++ (c ∷ []))
unfolding AddUp
more_adds r cs c o e fit names none h adds asset name =
    let ps : List (List ℕ × ℕ) = order_moves (amounts r cs) o in
    let new : total (amounts r (cs ++ (c ∷ []))) asset (written (cs ++ (c ∷ []))) ≡ total (put_amounts (amounts r cs) ps) asset (pushed (written cs) ps) =
    total_same (amounts r (cs ++ (c ∷ []))) asset (written (cs ++ (c ∷ []))) (pushed (written cs) ps) (λ k. same_keys cs c ps k e)
    ∙ sum_same (amounts r (cs ++ (c ∷ []))) (put_amounts (amounts r cs) ps) asset (keys_set (pushed (written cs) ps)) (λ k. after_puts r cs c ps k e fit) in
    let sums = total_puts (amounts r cs) asset ps (written cs) h in
    let gain = conserved (amounts r cs) o asset names name none in
    let old : total (amounts r cs) asset (written cs) ≡ amounts r cs (issued_key asset) = adds asset name in
    let there : amounts r (cs ++ (c ∷ [])) (issued_key asset) ≡ amounts r cs (issued_key asset) + issues asset o = after_puts r cs c ps (issued_key asset) e fit ∙ issued (amounts r cs) o asset none in
    close (total (amounts r (cs ++ (c ∷ []))) asset (written (cs ++ (c ∷ [])))) (total (put_amounts (amounts r cs) ps) asset (pushed (written cs) ps)) (paid (amounts r cs) asset ps) (total (amounts r cs) asset (written cs)) (gained asset ps) (issues asset o) (amounts r cs (issued_key asset)) (amounts r (cs ++ (c ∷ [])) (issued_key asset)) new sums gain old there
  where
    close : (t u p v g i a b : ℕ) → t ≡ u → u + p ≡ v + g → g ≡ p + i → v ≡ a → b ≡ a + i → t ≡ b
    close t u p v g i a b h1 h2 h3 h4 h5 = omega arith

-- ---- at each sequence

more_always : (r : Rules) (cs : List Commit) (c : Commit) (n0 : ℕ) → Counts n0 cs → c.seq ≡ last_of n0 cs + 1 → Balanced r (cs ++ (c ∷ [])) → ((n : ℕ) → Balanced r (up_to n cs)) → (n : ℕ) → Balanced r (up_to n (cs ++ (c ∷ [])))
more_always r cs c n0 counts e new old n = subst (Balanced r) (sym (up_to_more n cs c)) (by (leb c.seq n) refl)
  where
    past : leb c.seq n ≡ true → last_of n0 cs ≤ n
    past f = grind (arith, nat_tests)

    by : (b : Bool) → leb c.seq n ≡ b → Balanced r (up_to n cs ++ cond b (c ∷ []) [])
    by true f = subst (λ xs. Balanced r (xs ++ (c ∷ []))) (sym (all_up_to n0 n cs counts (past f))) new
    by false f = subst (Balanced r) (sym (append-nil (up_to n cs))) (old n)

-- ---- what was read

pub known : (n : ℕ) (o : Option RowEntry) → IsAmount n (option_map key_value o) → (n ≡ amount_in o) × (n < 2 ^ 64)
known n None h = (h, omega arith)
known n (Some row) h = (sym (ap amount_of h.0 ∙ amount_again n h.1), h.1)

seen_is : (r : Rules) (cs : List Commit) (n n0 : ℕ) (k : List ℕ) → Counts n0 cs → last_of n0 cs ≤ n → seen r cs n [] k ≡ shown (combine_at r k) (key_rows r k cs)
seen_is r cs n n0 k counts l = ap (shown (combine_at r k)) (append-nil (key_rows r k (up_to n cs)) ∙ ap (key_rows r k) (all_up_to n0 n cs counts l))

read_known : (r : Rules) (cs : List Commit) (n n0 : ℕ) (m : Amounts) (ks : List (List ℕ)) (ts more : List TranscriptStep) → Counts n0 cs → last_of n0 cs ≤ n → AreReads m ks ts → AloneFrom r cs n [] [] (ts ++ more) → Agree m (amounts r cs) ks × AllBelow m ks
read_known r cs n n0 m [] ts more counts l h a = (tt, tt)
read_known r cs n n0 m (k ∷ ks) [] more counts l h a = absurd h
read_known r cs n n0 m (k ∷ ks) (steps.Get j b ∷ ts) more counts l h a =
    let later = read_known r cs n n0 m ks ts more counts l h.1 a.1 in
    let is = known (m k) (shown (combine_at r k) (key_rows r k cs)) (subst (IsAmount (m k)) (a.0 ∙ ap (option_map key_value) (ap (λ x. seen r cs n [] x) h.0.0 ∙ seen_is r cs n n0 k counts l)) h.0.1) in
    ((is.0, later.0), (is.1, later.1))
read_known r cs n n0 m (k ∷ ks) (steps.Scan o g ∷ ts) more counts l h a = absurd h.0
read_known r cs n n0 m (k ∷ ks) (steps.Next i b ∷ ts) more counts l h a = absurd h.0
read_known r cs n n0 m (k ∷ ks) (steps.Seek i j ∷ ts) more counts l h a = absurd h.0
read_known r cs n n0 m (k ∷ ks) (steps.View g ∷ ts) more counts l h a = absurd h.0
read_known r cs n n0 m (k ∷ ks) (steps.Own j o ∷ ts) more counts l h a = absurd h.0

-- what one commit of the crate is, on the state just before it
pub record Fits (r : Rules) (cs : List Commit) (ops : Ops) (tracked : List (List ℕ)) : Type 0 where
  pub order : Order
  pub names : HasNames order
  pub none : order_refusal (amounts r cs) order ≡ None
  pub fit : AllFit (order_moves (amounts r cs) order)
  pub kept : ops ≡ kept_ops (puts (order_moves (amounts r cs) order))
  pub keys : tracked ≡ batch_keys ops

pub fits_here : (r : Rules) (cs : List Commit) (n n0 : ℕ) (o : Order) (m : Amounts) (ops : Ops) (tracked : List (List ℕ)) (ts : List TranscriptStep) → Counts n0 cs → last_of n0 cs ≤ n →
    IsOrderBy o m ops tracked ts → IsAlone r cs n ts → Fits r cs ops tracked
fits_here r cs n n0 o m ops tracked ts counts l by alone =
    let is : Agree m (amounts r cs) (order_keys o) × AllBelow m (order_keys o) = read_known r cs n n0 m (order_keys o) by.reads (own_puts (order_moves m o)) counts l by.read (subst (IsAlone r cs n) by.whole alone) in
    let moves : order_moves m o ≡ order_moves (amounts r cs) o = same_moves m (amounts r cs) o is.0 in
    record {
      order = o;
      names = by.names;
      none = sym (same_refusal m (amounts r cs) o is.0) ∙ by.fits;
      fit = subst AllFit moves (moves_fit m o is.1 by.fits);
      kept = by.kept ∙ ap (λ ps. kept_ops (puts ps)) moves;
      keys = by.keys;
    }

sound_more : (r : Rules) (cs : List Commit) (c : Commit) → Counts r.start_seq cs → c.seq ≡ last_of r.start_seq cs + 1 → Sound r cs → Fits r cs c.ops c.tracked → Sound r (cs ++ (c ∷ []))
sound_more r cs c counts e s f = record { whole = new; always = more_always r cs c r.start_seq counts e new s.always }
  where
    new : Balanced r (cs ++ (c ∷ []))
    new = record {
      adds = more_adds r cs c f.order f.kept f.fit f.names f.none s.whole.within s.whole.adds;
      within = more_within r cs c (order_moves (amounts r cs) f.order) f.kept f.fit s.whole.within;
    }

same_le : (x : ℕ) → x ≤ x
same_le x = omega arith

fits_on : (r : Rules) (cs : List Commit) (c : Commit) (ts : List TranscriptStep) → ComesNext r order_kind (Sound r) cs c ts → Fits r cs c.ops c.tracked
fits_on r cs c ts on = fits_here r cs (last_of r.start_seq cs) r.start_seq on.of_kind.order on.of_kind.amounts c.ops c.tracked ts on.counts (same_le (last_of r.start_seq cs)) on.of_kind.by on.alone

-- ---- all events

balanced_at_first : (r : Rules) → Balanced r []
unfolding AddUp
balanced_at_first r = record { adds = λ asset name. refl; within = λ k none. refl }

sound_at_first : (r : Rules) → Sound r []
sound_at_first r = record { whole = balanced_at_first r; always = λ n. balanced_at_first r }

pub tracks_all : TracksAll order_kind
tracks_all = record { serializable = λ level now ops tracked ts h. h.serializable; tracks = λ level now ops tracked ts h. h.by.keys }

goes_on : (r : Rules) → PassesOn r order_kind (Sound r)
goes_on r = record { first = sound_at_first r; more = λ cs c ts on. sound_more r cs c on.counts on.next on.before (fits_on r cs c ts on) }

pub balances_add_up : BalancesAddUp
unfolding AddUp
balances_add_up r es n asset audited vouched name =
    ((holds_of_all r order_kind (Sound r) tracks_all (goes_on r) es audited.legal vouched audited.orders).always n).adds asset name

-- ---- a part of a sum is at most the sum

part_of : (m : Amounts) (asset k : List ℕ) (ks : List (List ℕ)) → is_balance_of asset k ≡ true → among k ks ≡ true → m k ≤ balances_sum m asset ks
part_of m asset k [] own is = cc
part_of m asset k (j ∷ ks) own is = by (bytes_eq j k) refl is (part_of m asset k ks own)
  where
    by : (b : Bool) → bytes_eq j k ≡ b → (b || among k ks) ≡ true → (among k ks ≡ true → m k ≤ balances_sum m asset ks) → m k ≤ share asset j (m j) + balances_sum m asset ks
    by true e f later =
        let same : share asset j (m j) ≡ m k = ap (λ x. share asset x (m x)) ((bytes_eq-Decides j k).0 e) ∙ ap (λ b. cond b (m k) 0) own in
        omega arith
    by false e f later = let rest : m k ≤ balances_sum m asset ks = later f in omega arith

at_most : (m : Amounts) (asset k : List ℕ) (ks : List (List ℕ)) → Within m ks → is_balance_of asset k ≡ true → m k ≤ total m asset ks
at_most m asset k ks within own = by (among k ks) refl
  where
    by : (b : Bool) → among k ks ≡ b → m k ≤ total m asset ks
    by true e = part_of m asset k (keys_set ks) own (set_keeps ks k ∙ e)
    by false e = let none : m k ≡ 0 = within k e in omega arith

pub none_is_above : NoneIsAboveTheIssued
unfolding AddUp
none_is_above r es n asset name audited vouched own holder =
    let b : Balanced r (up_to n (replay es).commits) = (holds_of_all r order_kind (Sound r) tracks_all (goes_on r) es audited.legal vouched audited.orders).always n in
    subst (λ x. amounts r (up_to n (replay es).commits) (balance_key asset name) ≤ x) (b.adds asset own)
    (at_most (amounts r (up_to n (replay es).commits)) asset (balance_key asset name) (written (up_to n (replay es).commits)) b.within (is_of_asset asset asset name own own ∙ bytes_eq_same asset))

-- ---- each commit is a step

apply_last : (before : List Event) (e : Event) (s : State) → apply_all s (before ++ (e ∷ [])) ≡ apply (apply_all s before) e
apply_last [] e s = refl
apply_last (x ∷ before) e s = apply_last before e (apply s x)

pub at_is : (r : Rules) (cs : List Commit) (n n0 : ℕ) (k : List ℕ) → Counts n0 cs → last_of n0 cs ≤ n → amount_at r cs n k ≡ amounts r cs k
at_is r cs n n0 k counts l = ap (λ xs. amount_in (shown (combine_at r k) (key_rows r k xs))) (all_up_to n0 n cs counts l)

pub each_is_a_step : EachIsAStep
each_is_a_step r before later id n now ops tracked ts audited vouched = made (fits_on r s.commits c ts on)
  where
    s : State
    s = replay before

    c : Commit
    c = record { seq = n; now = now; ops = ops; tracked = tracked }

    on : ComesNext r order_kind (Sound r) s.commits c ts
    on = stands_before r order_kind (Sound r) tracks_all (goes_on r) before later id c ts audited.legal vouched audited.orders

    old : Amounts
    old = amount_at r s.commits (last r s)

    old_is : (k : List ℕ) → old k ≡ amounts r s.commits k
    old_is k = at_is r s.commits (last r s) r.start_seq k on.counts (same_le (last r s))

    equal_le : (x y : ℕ) → x ≡ y → x ≤ y
    equal_le x y p = omega arith

    made : Fits r s.commits ops tracked → IsOrderStep r before (events.Commit id (Some n) now ops tracked ts) n
    made x =
        let counts : Counts r.start_seq (s.commits ++ (c ∷ [])) = counts_more r.start_seq s.commits c on.counts on.next in
        record {
          order = x.order;
          after = put_amounts old (order_moves old x.order);
          step = ap (λ (m : Amounts). stepped (order_refusal m x.order) (put_amounts old (order_moves old x.order))) (λ i k. old_is k i) ∙ ap (λ z. stepped z (put_amounts old (order_moves old x.order))) x.none;
          state = λ k.
              ap (λ t. amount_at r t.commits n k) (apply_last before (events.Commit id (Some n) now ops tracked ts) opening)
              ∙ at_is r (s.commits ++ (c ∷ [])) n r.start_seq k counts (equal_le (last_of r.start_seq (s.commits ++ (c ∷ []))) n (last_more r.start_seq s.commits c))
              ∙ after_puts r s.commits c (order_moves (amounts r s.commits) x.order) k x.kept x.fit
              ∙ sym (ap (λ (m : Amounts). put_amounts m (order_moves m x.order) k) (λ i j. old_is j i));
        }
