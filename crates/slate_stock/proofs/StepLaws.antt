-- The steps of an order's transcript: what they put, and what they read.
use Rattle.std.proofs.Common.{◌≡◌, ◌+◌, ◌<◌, ◌≤◌, ℕ, suc, false, List, [], ◌∷◌, ◌++◌, map, length, take, get_or, append-nil, append_assoc, Option, Some, None, option_map, refl, sym, ap, subst, ◌∙◌, arith}
use Rattle.std.specs.Prelude.{◌≢◌}
use Rattle.std.specs.List.{zip}
use Rattle.slate_types.specs.declared.types.KeyValue.{KeyValue}
use Rattle.slate_types.specs.declared.types.RowEntry.{RowEntry}
use Rattle.slate_types.specs.Fold.{shown}
use Rattle.slate_types.specs.Rows.{key_value, operand}
use Rattle.slate_mem.specs.Batch.{Ops}
use Rattle.slate_mem.specs.BatchModel.{holds_merge}
use Rattle.slate_txn.specs.declared.event.TranscriptStep.{TranscriptStep}
use Rattle.slate_txn.specs.declared.event.TranscriptStep.TheVariants as steps
use Rattle.slate_txn.specs.Alone.{AloneFrom, Left, own_of}
use Rattle.slate_txn.specs.Reads.{key_rows, seen, state_at, up_to}
use Rattle.slate_txn.specs.State.{Commit, Rules, combine_at}
use Rattle.slate_stock.specs.declared.order.Order.{Order}
use Rattle.slate_stock.specs.declared.order.Order.TheVariants.{Issue, Pay, Trade}
use Rattle.slate_stock.specs.Amounts.{Amounts, amount_at}
use Rattle.slate_stock.specs.Orders.{order_moves}
use Rattle.slate_stock.specs.Commits.{AreReads, IsAmount, amount_put, own_puts, puts}
use Rattle.slate_stock.specs.Legs.{AreSteps, IsRead}
use Rattle.slate_stock.proofs.JournalLaws.{known}
use Rattle.slate_stock.proofs.LegLaws.{Step, zip_more}
use Rattle.slate_stock.proofs.OrderLaws.{Agree}

-- ---- steps

pub steps_more : (P : Step) (ks : List (List ℕ)) (ns : List ℕ) (ts : List TranscriptStep) (k : List ℕ) (n : ℕ) (t : TranscriptStep) → AreSteps P ks ns ts → P k n t → AreSteps P (ks ++ (k ∷ [])) (ns ++ (n ∷ [])) (ts ++ (t ∷ []))
steps_more P [] [] [] k n t h one = (one, tt)
steps_more P [] [] (x ∷ ts) k n t h one = absurd h
steps_more P [] (m ∷ ns) ts k n t h one = absurd h
steps_more P (j ∷ ks) [] ts k n t h one = absurd h
steps_more P (j ∷ ks) (m ∷ ns) [] k n t h one = absurd h
steps_more P (j ∷ ks) (m ∷ ns) (x ∷ ts) k n t h one = (h.0, steps_more P ks ns ts k n t h.1 one)

pub long_steps : (P : Step) (ks : List (List ℕ)) (ns : List ℕ) (ts : List TranscriptStep) → AreSteps P ks ns ts → length ns ≡ length ks
long_steps P [] [] [] h = refl
long_steps P [] [] (x ∷ ts) h = absurd h
long_steps P [] (m ∷ ns) ts h = absurd h
long_steps P (j ∷ ks) [] ts h = absurd h
long_steps P (j ∷ ks) (m ∷ ns) [] h = absurd h
long_steps P (j ∷ ks) (m ∷ ns) (x ∷ ts) h = ap suc (long_steps P ks ns ts h.1)

-- reads put nothing
pub gets_own : (ks : List (List ℕ)) (ns : List ℕ) (ts : List TranscriptStep) → AreSteps IsRead ks ns ts → own_of ts ≡ []
gets_own [] [] [] h = refl
gets_own [] [] (x ∷ ts) h = absurd h
gets_own [] (m ∷ ns) ts h = absurd h
gets_own (j ∷ ks) [] ts h = absurd h
gets_own (j ∷ ks) (m ∷ ns) [] h = refl
gets_own (j ∷ ks) (m ∷ ns) (steps.Get k a ∷ ts) h = gets_own ks ns ts h.1
gets_own (j ∷ ks) (m ∷ ns) (steps.Scan o g ∷ ts) h = absurd h.0
gets_own (j ∷ ks) (m ∷ ns) (steps.Next i b ∷ ts) h = absurd h.0
gets_own (j ∷ ks) (m ∷ ns) (steps.Seek i k ∷ ts) h = absurd h.0
gets_own (j ∷ ks) (m ∷ ns) (steps.View g ∷ ts) h = absurd h.0
gets_own (j ∷ ks) (m ∷ ns) (steps.Own k o ∷ ts) h = absurd h.0

pub own_puts_own : (ps : List (List ℕ × ℕ)) → own_of (own_puts ps) ≡ puts ps
own_puts_own [] = refl
own_puts_own (p ∷ ps) = ap (λ (os : Ops). (p.0, amount_put p.1) ∷ os) (own_puts_own ps)

pub owns_alone : (r : Rules) (cs : List Commit) (n : ℕ) (ops : Ops) (scans : List Left) (ps : List (List ℕ × ℕ)) → AloneFrom r cs n ops scans (own_puts ps)
owns_alone r cs n ops scans [] = tt
owns_alone r cs n ops scans (p ∷ ps) = owns_alone r cs n (ops ++ ((p.0, amount_put p.1) ∷ [])) scans ps

-- what is read behind nothing put is what stands in the state
pub seen_there : (r : Rules) (cs : List Commit) (n : ℕ) (k : List ℕ) → seen r cs n [] k ≡ state_at r cs n k
seen_there r cs n k = ap (shown (combine_at r k)) (append-nil (key_rows r k (up_to n cs)))

-- ---- the puts of an order

pub no_merges : (ps : List (List ℕ × ℕ)) → holds_merge (puts ps) ≡ false
no_merges [] = refl
no_merges (p ∷ ps) = no_merges ps

pub some_moves : (m : Amounts) (o : Order) → puts (order_moves m o) ≢ []
some_moves m (Issue a name n) = λ e. cc
some_moves m (Pay a from to n) = λ e. cc
some_moves m (Trade a buyer seller q p) = λ e. cc

pub four_moves : (m : Amounts) (o : Order) → length (puts (order_moves m o)) ≤ 4
four_moves m (Issue a name n) = omega arith
four_moves m (Pay a from to n) = omega arith
four_moves m (Trade a buyer seller q p) = omega arith

own_last : (ps : List (List ℕ × ℕ)) (p : List ℕ × ℕ) → own_puts (ps ++ (p ∷ [])) ≡ own_puts ps ++ (steps.Own p.0 (amount_put p.1) ∷ [])
own_last [] p = refl
own_last (q ∷ ps) p = ap (λ (ts : List TranscriptStep). steps.Own q.0 (amount_put q.1) ∷ ts) (own_last ps p)

-- one put more
pub put_more : (ts : List TranscriptStep) (ks : List (List ℕ)) (vs : List ℕ) (i : ℕ) (k d : List ℕ) (v : ℕ) → i < length ks → i < length vs → k ≡ get_or ks i d → v ≡ get_or vs i 0 →
    (ts ++ own_puts (take i (zip ks vs))) ++ (steps.Own k (amount_put v) ∷ []) ≡ ts ++ own_puts (take (i + 1) (zip ks vs))
put_more ts ks vs i k d v within also key amount =
    append_assoc ts (own_puts (take i (zip ks vs))) (steps.Own k (amount_put v) ∷ [])
    ∙ ap (λ us. ts ++ us) (sym (own_last (take i (zip ks vs)) (k, v)) ∙ ap own_puts (sym (zip_more ks vs i k d v within also key amount)))

-- ---- what was read stands in the state

pub reads_there : (r : Rules) (cs : List Commit) (n : ℕ) (ks : List (List ℕ)) (ns : List ℕ) (ts : List TranscriptStep) → AreSteps IsRead ks ns ts → AloneFrom r cs n [] [] ts → ns ≡ map (amount_at r cs n) ks
reads_there r cs n [] [] [] h a = refl
reads_there r cs n [] [] (x ∷ ts) h a = absurd h
reads_there r cs n [] (m ∷ ns) ts h a = absurd h
reads_there r cs n (j ∷ ks) [] ts h a = absurd h
reads_there r cs n (j ∷ ks) (m ∷ ns) [] h a = absurd h
reads_there r cs n (j ∷ ks) (m ∷ ns) (steps.Get k b ∷ ts) h a =
    let is = known m (state_at r cs n j) (subst (IsAmount m) (a.0 ∙ ap (option_map key_value) (ap (λ x. seen r cs n [] x) h.0.0 ∙ seen_there r cs n j)) h.0.1) in
    let later = reads_there r cs n ks ns ts h.1 a.1 in
    λ i. is.0 i ∷ later i
reads_there r cs n (j ∷ ks) (m ∷ ns) (steps.Scan o g ∷ ts) h a = absurd h.0
reads_there r cs n (j ∷ ks) (m ∷ ns) (steps.Next i b ∷ ts) h a = absurd h.0
reads_there r cs n (j ∷ ks) (m ∷ ns) (steps.Seek i k ∷ ts) h a = absurd h.0
reads_there r cs n (j ∷ ks) (m ∷ ns) (steps.View g ∷ ts) h a = absurd h.0
reads_there r cs n (j ∷ ks) (m ∷ ns) (steps.Own k o ∷ ts) h a = absurd h.0

-- a value of another length
pub bad_there : (r : Rules) (cs : List Commit) (n : ℕ) (k : List ℕ) (a : Option KeyValue) (row : KeyValue) → a ≡ option_map key_value (seen r cs n [] k) → a ≡ Some row → length row.value ≢ 8 →
    (there : RowEntry) × (state_at r cs n k ≡ Some there) × (length (operand there) ≢ 8)
bad_there r cs n k a row is found long = by (state_at r cs n k) refl (sym found ∙ is ∙ ap (option_map key_value) (seen_there r cs n k))
  where
    by : (o : Option RowEntry) → state_at r cs n k ≡ o → Some row ≡ option_map key_value o → (there : RowEntry) × (state_at r cs n k ≡ Some there) × (length (operand there) ≢ 8)
    by None at e = cc
    by (Some there) at e = (there, at, λ eight. long (ap (λ (o : Option KeyValue). length_of o) e ∙ eight))
      where
        length_of : Option KeyValue → ℕ
        length_of None = 0
        length_of (Some kv) = length kv.value

pub agree_reads : (r : Rules) (cs : List Commit) (n : ℕ) (m : Amounts) (ks : List (List ℕ)) (ts more : List TranscriptStep) → AreReads m ks ts → AloneFrom r cs n [] [] (ts ++ more) → Agree m (amount_at r cs n) ks
agree_reads r cs n m [] ts more h a = tt
agree_reads r cs n m (k ∷ ks) [] more h a = absurd h
agree_reads r cs n m (k ∷ ks) (steps.Get j b ∷ ts) more h a =
    ((known (m k) (state_at r cs n k) (subst (IsAmount (m k)) (a.0 ∙ ap (option_map key_value) (ap (λ x. seen r cs n [] x) h.0.0 ∙ seen_there r cs n k)) h.0.1)).0, agree_reads r cs n m ks ts more h.1 a.1)
agree_reads r cs n m (k ∷ ks) (steps.Scan o g ∷ ts) more h a = absurd h.0
agree_reads r cs n m (k ∷ ks) (steps.Next i b ∷ ts) more h a = absurd h.0
agree_reads r cs n m (k ∷ ks) (steps.Seek i j ∷ ts) more h a = absurd h.0
agree_reads r cs n m (k ∷ ks) (steps.View g ∷ ts) more h a = absurd h.0
agree_reads r cs n m (k ∷ ks) (steps.Own j o ∷ ts) more h a = absurd h.0
