-- A map that has the amounts which are read at an order's keys, and what the order does on it.
use Rattle.std.proofs.Common.{◌≡◌, ℕ, ◌+◌, ◌-◌, ◌*◌, Bool, true, false, cond, nat_lt, nat_le, bytes_eq, List, [], ◌∷◌, ◌++◌, map, length, get_or, Option, Some, None, refl, sym, ap, ◌∙◌, arith}
use Rattle.slate_types.proofs.KeyOrder.{bytes_eq_same}
use Rattle.slate_stock.specs.declared.order.Order.{Order}
use Rattle.slate_stock.specs.declared.order.Order.TheVariants.{Issue, Pay, Trade}
use Rattle.slate_stock.specs.declared.error.StockError.{StockError}
use Rattle.slate_stock.specs.declared.error.StockError.TheVariants.{SameName, SameAsset, AlreadyIssued, NotEnough}
use Rattle.slate_stock.specs.Amounts.{Amounts, balance_key, issued_key, money, head}
use Rattle.slate_stock.specs.Orders.{order_keys, order_refusal, order_moves, form_refusals, amount_refusals, first_of, where_true, too_much}
use Rattle.slate_stock.specs.Commits.{HasNames}
use Rattle.slate_stock.proofs.SumLaws.{turned_eq}
use Rattle.slate_stock.proofs.OrderLaws.{Clear, clear, test_clear, same_tail, apart_assets}

abbrev pub known : List (List ℕ) → List ℕ → Amounts
known [] ns j = 0
known (k ∷ ks) [] j = 0
known (k ∷ ks) (n ∷ ns) j = cond (bytes_eq k j) n (known ks ns j)

abbrev Apart : List ℕ → List (List ℕ) → Type 0
Apart k [] = Unit {0}
Apart k (j ∷ js) = (bytes_eq k j ≡ false) × Apart k js

abbrev Distinct : List (List ℕ) → Type 0
Distinct [] = Unit {0}
Distinct (k ∷ ks) = Apart k ks × Distinct ks

behind : (k : List ℕ) (n : ℕ) (ks : List (List ℕ)) (ns : List ℕ) (js : List (List ℕ)) → Apart k js → map (known (k ∷ ks) (n ∷ ns)) js ≡ map (known ks ns) js
behind k n ks ns [] h = refl
behind k n ks ns (j ∷ js) h = λ i. cond (h.0 i) n (known ks ns j) ∷ behind k n ks ns js h.1 i

known_there : (ks : List (List ℕ)) (ns : List ℕ) → Distinct ks → length ns ≡ length ks → ns ≡ map (known ks ns) ks
known_there [] [] d e = refl
known_there [] (n ∷ ns) d e = absurd (omega arith)
known_there (k ∷ ks) [] d e = absurd (omega arith)
known_there (k ∷ ks) (n ∷ ns) d e =
    let l : length ns ≡ length ks = omega arith in
    λ i. sym (ap (λ b. cond b n (known ks ns k)) (bytes_eq_same k)) i ∷ (known_there ks ns d.1 l ∙ sym (behind k n ks ns ks d.0)) i

distinct_keys : (o : Order) → HasNames o → first_of (form_refusals o) ≡ None → Distinct (order_keys o)
distinct_keys (Issue a name n) names none = ((refl, tt), (tt, tt))
distinct_keys (Pay a from to n) names none =
    let is : Clear (form_refusals (Pay a from to n)) = clear (form_refusals (Pay a from to n)) none in
    ((same_tail (head a) from to ∙ test_clear (bytes_eq from to) _ is.0, tt), (tt, tt))
distinct_keys (Trade a buyer seller q p) names none =
    let is : Clear (form_refusals (Trade a buyer seller q p)) = clear (form_refusals (Trade a buyer seller q p)) none in
    let other : bytes_eq buyer seller ≡ false = test_clear (bytes_eq buyer seller) _ is.0 in
    let stranger : bytes_eq a money ≡ false = test_clear (bytes_eq a money) _ is.1.0 in (
      (
        same_tail (head a) seller buyer ∙ turned_eq seller buyer ∙ other,
        (apart_assets a money seller buyer names.0 refl stranger, (apart_assets a money seller seller names.0 refl stranger, tt)),
      ),
      (
        (apart_assets a money buyer buyer names.0 refl stranger, (apart_assets a money buyer seller names.0 refl stranger, tt)),
        ((same_tail (head money) buyer seller ∙ other, tt), (tt, tt)),
      ),
    )

pub known_is : (o : Order) (ks : List (List ℕ)) (ns : List ℕ) → HasNames o → first_of (form_refusals o) ≡ None → ks ≡ order_keys o → length ns ≡ length (order_keys o) → ns ≡ map (known (order_keys o) ns) (order_keys o)
known_is o ks ns names none same long = known_there (order_keys o) ns (distinct_keys o names none) long

-- ---- the refusal, where the order alone shows none

rest_of : (xs ys : List (Option StockError)) → first_of xs ≡ None → first_of (xs ++ ys) ≡ first_of ys
rest_of [] ys h = refl
rest_of (None ∷ xs) ys h = rest_of xs ys h
rest_of (Some e ∷ xs) ys h = cc

form_clear : (xs ys : List (Option StockError)) → first_of (xs ++ ys) ≡ None → first_of xs ≡ None
form_clear [] ys h = refl
form_clear (None ∷ xs) ys h = form_clear xs ys h
form_clear (Some e ∷ xs) ys h = cc

pub no_form_refusal : (m : Amounts) (o : Order) → order_refusal m o ≡ None → first_of (form_refusals o) ≡ None
no_form_refusal m o h = form_clear (form_refusals o) (amount_refusals m o) h

-- the tests on the amounts at the keys
abbrev pub issue_tests : List ℕ → ℕ → ℕ → ℕ → List (Option StockError)
issue_tests a n x y = where_true (nat_lt 0 x) (AlreadyIssued a) ∷ too_much (y + n) ∷ []

abbrev pub pay_tests : List ℕ → List ℕ → ℕ → ℕ → ℕ → List (Option StockError)
pay_tests a from n x y = where_true (nat_lt x n) (NotEnough (balance_key a from) x n) ∷ too_much (y + n) ∷ []

abbrev pub trade_tests : List ℕ → List ℕ → List ℕ → ℕ → ℕ → ℕ → ℕ → ℕ → ℕ → List (Option StockError)
trade_tests a buyer seller q c x y z w =
    where_true (nat_lt x q) (NotEnough (balance_key a seller) x q) ∷ where_true (nat_lt z c) (NotEnough (balance_key money buyer) z c) ∷ too_much (y + q) ∷ too_much (w + c) ∷ []

pub issue_refusal : (m : Amounts) (o : Order) (a name : List ℕ) (n : ℕ) (ns : List ℕ) → o ≡ Issue a name n → ns ≡ map m (order_keys o) → order_refusal m o ≡ first_of (issue_tests a n (get_or ns 0 0) (get_or ns 1 0))
issue_refusal m o a name n ns is e =
    let t : ns ≡ map m (order_keys (Issue a name n)) = e ∙ ap (λ x. map m (order_keys x)) is in
    ap (order_refusal m) is ∙ (λ i. first_of (issue_tests a n (get_or (sym t i) 0 0) (get_or (sym t i) 1 0)))

pub pay_refusal : (m : Amounts) (o : Order) (a from to : List ℕ) (n : ℕ) (ns : List ℕ) → o ≡ Pay a from to n → first_of (form_refusals o) ≡ None → ns ≡ map m (order_keys o) → order_refusal m o ≡ first_of (pay_tests a from n (get_or ns 0 0) (get_or ns 1 0))
pay_refusal m o a from to n ns is none e =
    let t : ns ≡ map m (order_keys (Pay a from to n)) = e ∙ ap (λ x. map m (order_keys x)) is in
    rest_of (form_refusals o) (amount_refusals m o) none ∙ ap (λ x. first_of (amount_refusals m x)) is
    ∙ (λ i. first_of (pay_tests a from n (get_or (sym t i) 0 0) (get_or (sym t i) 1 0)))

pub trade_refusal : (m : Amounts) (o : Order) (a buyer seller : List ℕ) (q p : ℕ) (ns : List ℕ) → o ≡ Trade a buyer seller q p → first_of (form_refusals o) ≡ None → ns ≡ map m (order_keys o) →
    order_refusal m o ≡ first_of (trade_tests a buyer seller q (p * q) (get_or ns 0 0) (get_or ns 1 0) (get_or ns 2 0) (get_or ns 3 0))
trade_refusal m o a buyer seller q p ns is none e =
    let t : ns ≡ map m (order_keys (Trade a buyer seller q p)) = e ∙ ap (λ x. map m (order_keys x)) is in
    rest_of (form_refusals o) (amount_refusals m o) none ∙ ap (λ x. first_of (amount_refusals m x)) is
    ∙ (λ i. first_of (trade_tests a buyer seller q (p * q) (get_or (sym t i) 0 0) (get_or (sym t i) 1 0) (get_or (sym t i) 2 0) (get_or (sym t i) 3 0)))

-- ---- the new amounts

pub issue_moves : (m : Amounts) (o : Order) (a name : List ℕ) (n : ℕ) (ns : List ℕ) → o ≡ Issue a name n → ns ≡ map m (order_keys o) → n ∷ (get_or ns 1 0 + n) ∷ [] ≡ map (λ p. p.1) (order_moves m o)
issue_moves m o a name n ns is e =
    let t : ns ≡ map m (order_keys (Issue a name n)) = e ∙ ap (λ x. map m (order_keys x)) is in
    (λ i. n ∷ (get_or (t i) 1 0 + n) ∷ []) ∙ sym (ap (λ x. map (λ p. p.1) (order_moves m x)) is)

pub pay_moves : (m : Amounts) (o : Order) (a from to : List ℕ) (n : ℕ) (ns : List ℕ) → o ≡ Pay a from to n → ns ≡ map m (order_keys o) → (get_or ns 0 0 - n) ∷ (get_or ns 1 0 + n) ∷ [] ≡ map (λ p. p.1) (order_moves m o)
pay_moves m o a from to n ns is e =
    let t : ns ≡ map m (order_keys (Pay a from to n)) = e ∙ ap (λ x. map m (order_keys x)) is in
    (λ i. (get_or (t i) 0 0 - n) ∷ (get_or (t i) 1 0 + n) ∷ []) ∙ sym (ap (λ x. map (λ p. p.1) (order_moves m x)) is)

pub trade_moves : (m : Amounts) (o : Order) (a buyer seller : List ℕ) (q p : ℕ) (ns : List ℕ) → o ≡ Trade a buyer seller q p → ns ≡ map m (order_keys o) →
    (get_or ns 0 0 - q) ∷ (get_or ns 1 0 + q) ∷ (get_or ns 2 0 - p * q) ∷ (get_or ns 3 0 + p * q) ∷ [] ≡ map (λ p. p.1) (order_moves m o)
trade_moves m o a buyer seller q p ns is e =
    let t : ns ≡ map m (order_keys (Trade a buyer seller q p)) = e ∙ ap (λ x. map m (order_keys x)) is in
    (λ i. (get_or (t i) 0 0 - q) ∷ (get_or (t i) 1 0 + q) ∷ (get_or (t i) 2 0 - p * q) ∷ (get_or (t i) 3 0 + p * q) ∷ []) ∙ sym (ap (λ x. map (λ p. p.1) (order_moves m x)) is)

-- ---- first of two and of four tests

pub none_of_two : (b c : Bool) (e f : StockError) → b ≡ false → c ≡ false → first_of (where_true b e ∷ where_true c f ∷ []) ≡ None
none_of_two b c e f h g = λ i. first_of (where_true (h i) e ∷ where_true (g i) f ∷ [])

pub first_is : (b : Bool) (e : StockError) (es : List (Option StockError)) → b ≡ true → first_of (where_true b e ∷ es) ≡ Some e
first_is b e es h = λ i. first_of (where_true (h i) e ∷ es)

pub not_first : (b : Bool) (e : StockError) (es : List (Option StockError)) (o : Option StockError) → b ≡ false → first_of es ≡ o → first_of (where_true b e ∷ es) ≡ o
not_first b e es o h g = (λ i. first_of (where_true (h i) e ∷ es)) ∙ g
