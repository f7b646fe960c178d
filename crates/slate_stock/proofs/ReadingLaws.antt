-- A commit that is an order's shows which.
use Rattle.std.proofs.Common.{◌≡◌, ℕ, ◌+◌, ◌-◌, ◌*◌, ◌/◌, ◌<◌, ◌≤◌, ◌^◌, Bool, true, false, cond, nat_eq, bytes_eq, List, [], ◌∷◌, ◌++◌, map, Option, Some, None, refl, sym, ap, ◌∙◌, arith, append_assoc}
use Rattle.std.proofs.lemmas.Bool.Decides.{nat_tests}
use Rattle.slate_types.specs.declared.types.KeyValue.{KeyValue}
use Rattle.slate_txn.specs.declared.event.TranscriptStep.{TranscriptStep}
use Rattle.slate_txn.specs.declared.event.TranscriptStep.TheVariants as steps
use Rattle.slate_mem.specs.Batch.{Ops, kept_ops}
use Rattle.slate_stock.specs.declared.order.Order.{Order}
use Rattle.slate_stock.specs.declared.order.Order.TheVariants.{Issue, Pay, Trade}
use Rattle.slate_stock.specs.Amounts.{Amounts, amount_of, balance_key, issued_key, money}
use Rattle.slate_stock.specs.Orders.{order_keys, order_refusal, order_moves, form_refusals, amount_refusals, first_of, where_true, too_much, too_little}
use Rattle.slate_stock.specs.declared.error.StockError.{StockError}
use Rattle.slate_stock.specs.declared.error.StockError.TheVariants.{SameName, SameAsset}
use Rattle.std.proofs.lemmas.Nat.{div-mul-add}
use Rattle.slate_stock.specs.Commits.{IsPlainName, IsAmount, AreReads, HasNames, puts, own_puts, IsOrderBy}
use Rattle.slate_stock.specs.Reading.{cut_name, front_of, balance_of, amount_answered, gets, put_values, of_two, of_four, price, order_by, order_read, plain_order}
use Rattle.slate_stock.proofs.KeyLaws.{NoColon, of_name, unequal}
use Rattle.slate_stock.proofs.PutLaws.{AllFit, amount_again}
use Rattle.slate_stock.proofs.OrderLaws.{AllBelow, clear, enough, moves_fit}

-- ---- keys

cut_is : (asset name : List ℕ) → NoColon asset → cut_name (asset ++ (58 ∷ name)) ≡ Some (asset, name)
cut_is [] name h = refl
cut_is (b ∷ bs) name h = ap (λ t. cond t (Some ([], bs ++ (58 ∷ name))) (front_of b (cut_name (bs ++ (58 ∷ name))))) (unequal b 58 h.0) ∙ ap (front_of b) (cut_is bs name h.1)

balance_is : (asset name : List ℕ) → IsPlainName asset → balance_of (balance_key asset name) ≡ Some (asset, name)
balance_is asset name h = ap cut_name (append_assoc asset (58 ∷ []) name) ∙ cut_is asset name (of_name asset h)

-- ---- what was read and put

pub answered_is : (n : ℕ) (a : Option KeyValue) → IsAmount n a → amount_answered a ≡ n
answered_is n None h = sym h
answered_is n (Some kv) h = ap amount_of h.0 ∙ amount_again n h.1

no_gets : (ps : List (List ℕ × ℕ)) → gets (own_puts ps) ≡ []
no_gets [] = refl
no_gets (p ∷ ps) = refl

gets_are : (m : Amounts) (ks : List (List ℕ)) (reads : List TranscriptStep) (ps : List (List ℕ × ℕ)) → AreReads m ks reads → gets (reads ++ own_puts ps) ≡ map (λ k. (k, m k)) ks
gets_are m [] [] ps h = no_gets ps
gets_are m [] (t ∷ ts) ps h = absurd h
gets_are m (k ∷ ks) [] ps h = absurd h
gets_are m (k ∷ ks) (steps.Get j a ∷ ts) ps h = λ i. (h.0.0 i, answered_is (m k) a h.0.1 i) ∷ gets_are m ks ts ps h.1 i
gets_are m (k ∷ ks) (steps.Scan o g ∷ ts) ps h = absurd h.0
gets_are m (k ∷ ks) (steps.Next i b ∷ ts) ps h = absurd h.0
gets_are m (k ∷ ks) (steps.Seek i j ∷ ts) ps h = absurd h.0
gets_are m (k ∷ ks) (steps.View g ∷ ts) ps h = absurd h.0
gets_are m (k ∷ ks) (steps.Own j o ∷ ts) ps h = absurd h.0

values_are : (ps : List (List ℕ × ℕ)) → AllFit ps → put_values (own_puts ps) ≡ map (λ p. p.1) ps
values_are [] h = refl
values_are (p ∷ ps) h = λ i. amount_again p.1 h.0 i ∷ values_are ps h.1 i

puts_are : (m : Amounts) (ks : List (List ℕ)) (reads : List TranscriptStep) (ps : List (List ℕ × ℕ)) → AreReads m ks reads → AllFit ps → put_values (reads ++ own_puts ps) ≡ map (λ p. p.1) ps
puts_are m [] [] ps h f = values_are ps f
puts_are m [] (t ∷ ts) ps h f = absurd h
puts_are m (k ∷ ks) [] ps h f = absurd h
puts_are m (k ∷ ks) (steps.Get j a ∷ ts) ps h f = puts_are m ks ts ps h.1 f
puts_are m (k ∷ ks) (steps.Scan o g ∷ ts) ps h f = absurd h.0
puts_are m (k ∷ ks) (steps.Next i b ∷ ts) ps h f = absurd h.0
puts_are m (k ∷ ks) (steps.Seek i j ∷ ts) ps h f = absurd h.0
puts_are m (k ∷ ks) (steps.View g ∷ ts) ps h f = absurd h.0
puts_are m (k ∷ ks) (steps.Own j o ∷ ts) ps h f = absurd h.0

fit : (n : ℕ) (a : Option KeyValue) → IsAmount n a → n < 2 ^ 64
fit n None h = omega arith
fit n (Some kv) h = h.1

pub all_fit : (m : Amounts) (ks : List (List ℕ)) (reads : List TranscriptStep) → AreReads m ks reads → AllBelow m ks
all_fit m [] reads h = tt
all_fit m (k ∷ ks) [] h = absurd h
all_fit m (k ∷ ks) (steps.Get j a ∷ ts) h = (fit (m k) a h.0.1, all_fit m ks ts h.1)
all_fit m (k ∷ ks) (steps.Scan o g ∷ ts) h = absurd h.0
all_fit m (k ∷ ks) (steps.Next i b ∷ ts) h = absurd h.0
all_fit m (k ∷ ks) (steps.Seek i j ∷ ts) h = absurd h.0
all_fit m (k ∷ ks) (steps.View g ∷ ts) h = absurd h.0
all_fit m (k ∷ ks) (steps.Own j o ∷ ts) h = absurd h.0

-- ---- the order

taken_off : (x n : ℕ) → n ≤ x → x - (x - n) ≡ n
taken_off x n h = omega arith

add_none : (x : ℕ) → x ≡ x + 0
add_none x = omega arith

price_is : (p q : ℕ) → price (p * q) q ≡ cond (nat_eq q 0) 0 p
price_is p q = by (nat_eq q 0) refl
  where
    by : (b : Bool) → nat_eq q 0 ≡ b → cond b 0 (p * q / q) ≡ cond b 0 p
    by true e = refl
    by false e = quotient
      where
        above : 0 < q
        above = grind (arith, nat_tests)

        quotient : p * q / q ≡ p
        quotient = ap (λ x. x / q) (add_none (p * q)) ∙ div-mul-add p q 0 above

pub order_there : (o : Order) (m : Amounts) → HasNames o → order_refusal m o ≡ None → order_by (map (λ k. (k, m k)) (order_keys o)) (map (λ p. p.1) (order_moves m o)) ≡ Some (plain_order o)
order_there (Issue a name n) m names none = ap (λ x. of_two (Some a) None x (m (issued_key a)) n) (balance_is a name names.0)
order_there (Pay a from to n) m names none =
    let is = clear (form_refusals (Pay a from to n) ++ amount_refusals m (Pay a from to n)) none in
    ap (λ x. of_two None x (balance_of (balance_key a to)) (m (balance_key a from)) (m (balance_key a from) - n)) (balance_is a from names.0)
    ∙ ap (λ x. of_two None (Some (a, from)) x (m (balance_key a from)) (m (balance_key a from) - n)) (balance_is a to names.0)
    ∙ ap (λ x. Some (Pay a from to x)) (taken_off (m (balance_key a from)) n (enough m (balance_key a from) n is.1.0))
order_there (Trade a buyer seller q p) m names none =
    let is = clear (form_refusals (Trade a buyer seller q p) ++ amount_refusals m (Trade a buyer seller q p)) none in
    let quantity : m (balance_key a seller) - (m (balance_key a seller) - q) ≡ q = taken_off (m (balance_key a seller)) q (enough m (balance_key a seller) q is.1.1.1.0) in
    let cost : m (balance_key money buyer) - (m (balance_key money buyer) - p * q) ≡ p * q = taken_off (m (balance_key money buyer)) (p * q) (enough m (balance_key money buyer) (p * q) is.1.1.1.1.0) in
    (λ i. of_four (balance_is a seller names.0 i) (balance_is a buyer names.0 i) (quantity i) (cost i))
    ∙ ap (λ x. Some (Trade a buyer seller q x)) (price_is p q)

pub read_is : (o : Order) (m : Amounts) (ops : Ops) (tracked : List (List ℕ)) (ts : List TranscriptStep) → IsOrderBy o m ops tracked ts → order_read ts ≡ Some (plain_order o)
read_is o m ops tracked ts h =
    let f = moves_fit m o (all_fit m (order_keys o) h.reads h.read) h.fits in
    ap order_read h.whole
    ∙ (λ i. order_by (gets_are m (order_keys o) h.reads (order_moves m o) h.read i) (puts_are m (order_keys o) h.reads (order_moves m o) h.read f i))
    ∙ order_there o m h.names h.fits

-- a trade of quantity 0 does the same at any price
pub plain_by : (o : Order) (m : Amounts) (ops : Ops) (tracked : List (List ℕ)) (ts : List TranscriptStep) → IsOrderBy o m ops tracked ts → IsOrderBy (plain_order o) m ops tracked ts
plain_by (Issue a name n) m ops tracked ts h = h
plain_by (Pay a from to n) m ops tracked ts h = h
plain_by (Trade a buyer seller q p) m ops tracked ts h = by (nat_eq q 0) refl
  where
    by : (b : Bool) → nat_eq q 0 ≡ b → IsOrderBy (Trade a buyer seller q (cond b 0 p)) m ops tracked ts
    by false e = h
    by true e =
        let zero : q ≡ 0 = none_of e in
        let same : p * q ≡ 0 * q = ap (λ x. p * x) zero ∙ omega arith in
        record {
          names = h.names;
          fits = ap refusal_at (sym same) ∙ h.fits;
          reads = h.reads;
          read = h.read;
          whole = h.whole ∙ ap (λ c. h.reads ++ own_puts (moves_at c)) same;
          kept = h.kept ∙ ap (λ c. kept_ops (puts (moves_at c))) same;
          keys = h.keys;
        }
      where
        refusal_at : ℕ → Option StockError
        refusal_at c = first_of (where_true (bytes_eq buyer seller) SameName ∷ where_true (bytes_eq a money) SameAsset ∷ too_much c ∷
            too_little m (balance_key a seller) q ∷ too_little m (balance_key money buyer) c ∷ too_much (m (balance_key a buyer) + q) ∷ too_much (m (balance_key money seller) + c) ∷ [])

        moves_at : ℕ → List (List ℕ × ℕ)
        moves_at c = (balance_key a seller, m (balance_key a seller) - q) ∷ (balance_key a buyer, m (balance_key a buyer) + q) ∷
            (balance_key money buyer, m (balance_key money buyer) - c) ∷ (balance_key money seller, m (balance_key money seller) + c) ∷ []

        none_of : nat_eq q 0 ≡ true → q ≡ 0
        none_of x = grind (arith, nat_tests)
