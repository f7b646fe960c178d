-- An order that isn't refused takes as much from an asset's balances as it adds, but for what it issues.
use Rattle.std.proofs.Common.{◌≡◌, ℕ, ◌+◌, ◌-◌, ◌*◌, ◌<◌, ◌≤◌, ◌^◌, Bool, true, false, cond, nat_lt, nat_le, nat_eq, List, [], ◌∷◌, ◌++◌, ◌&&◌, bytes_eq, Option, Some, None, refl, sym, ap, ◌∙◌, arith}
use Rattle.std.proofs.lemmas.Bool.Decides.{nat_tests}
use Rattle.std.proofs.lemmas.Slice.Eq.{bytes_eq-Decides}
use Rattle.slate_types.proofs.KeyOrder.{bytes_eq_same}
use Rattle.slate_stock.specs.declared.order.Order.{Order}
use Rattle.slate_stock.specs.declared.order.Order.TheVariants.{Issue, Pay, Trade}
use Rattle.slate_stock.specs.declared.error.StockError.{StockError}
use Rattle.slate_stock.specs.declared.error.StockError.TheVariants.{SameName, SameAsset, TooMuch, AlreadyIssued, NotEnough}
use Rattle.slate_stock.specs.Amounts.{Amounts, balance_key, issued_key, money, is_balance_of, put_amount, put_amounts, head}
use Rattle.slate_stock.specs.Orders.{order_keys, order_refusal, order_moves, first_of, where_true, too_much, too_little, form_refusals, amount_refusals}
use Rattle.slate_stock.specs.Commits.{IsPlainName, HasNames}
use Rattle.slate_stock.proofs.SumLaws.{share, paid, gained, put_elsewhere, turned_eq}
use Rattle.slate_stock.proofs.PutLaws.{AllFit}
use Rattle.slate_stock.proofs.KeyLaws.{is_of_asset}

-- ---- what no refusal says

abbrev pub Clear : List (Option StockError) → Type 0
Clear [] = Unit {0}
Clear (e ∷ es) = (e ≡ None) × Clear es

pub clear : (es : List (Option StockError)) → first_of es ≡ None → Clear es
clear [] h = tt
clear (None ∷ es) h = (refl, clear es h)
clear (Some e ∷ es) h = cc

pub test_clear : (b : Bool) (e : StockError) → where_true b e ≡ None → b ≡ false
test_clear true e h = cc
test_clear false e h = refl

pub fits : (n : ℕ) → too_much n ≡ None → n < 2 ^ 64
fits n h = let e : nat_le (2 ^ 64) n ≡ false = test_clear (nat_le (2 ^ 64) n) TooMuch h in grind (arith, nat_tests)

pub enough : (m : Amounts) (k : List ℕ) (n : ℕ) → too_little m k n ≡ None → n ≤ m k
enough m k n h = let e : nat_lt (m k) n ≡ false = test_clear (nat_lt (m k) n) (NotEnough k (m k) n) h in grind (arith, nat_tests)

-- ---- keys apart

nat_same : (n : ℕ) → nat_eq n n ≡ true
nat_same n = grind (arith, nat_tests)

-- names behind one head
pub same_tail : (p x y : List ℕ) → bytes_eq (p ++ x) (p ++ y) ≡ bytes_eq x y
same_tail [] x y = refl
same_tail (b ∷ bs) x y = ap (λ t. t && bytes_eq (bs ++ x) (bs ++ y)) (nat_same b) ∙ same_tail bs x y

pub apart_assets : (a o x y : List ℕ) → IsPlainName a → IsPlainName o → bytes_eq a o ≡ false → bytes_eq (balance_key a x) (balance_key o y) ≡ false
apart_assets a o x y h g e = by (bytes_eq (balance_key a x) (balance_key o y)) refl
  where
    by : (b : Bool) → bytes_eq (balance_key a x) (balance_key o y) ≡ b → bytes_eq (balance_key a x) (balance_key o y) ≡ false
    by false f = f
    by true f =
        let is : true ≡ false = sym (is_of_asset a a x h h ∙ bytes_eq_same a) ∙ ap (is_balance_of a) ((bytes_eq-Decides (balance_key a x) (balance_key o y)).0 f) ∙ is_of_asset a o y h g ∙ e in
        cc

-- ---- the sums

abbrev pub issues : List ℕ → Order → ℕ
issues asset (Issue a name n) = cond (bytes_eq asset a) n 0
issues asset (Pay a from to n) = 0
issues asset (Trade a buyer seller q p) = 0

share_is : (asset a name : List ℕ) (n : ℕ) → IsPlainName asset → IsPlainName a → share asset (balance_key a name) n ≡ cond (bytes_eq asset a) n 0
share_is asset a name n h g = ap (λ b. cond b n 0) (is_of_asset asset a name h g)

issue_sum : (b : Bool) (old n : ℕ) → cond b (old + n) 0 + 0 ≡ (cond b old 0 + 0) + cond b n 0
issue_sum true old n = omega arith
issue_sum false old n = omega arith

pay_sum : (b : Bool) (x y n : ℕ) → n ≤ x → cond b (x - n) 0 + (cond b (y + n) 0 + 0) ≡ (cond b x 0 + (cond b y 0 + 0)) + 0
pay_sum true x y n h = omega arith
pay_sum false x y n h = refl

trade_sum : (b d : Bool) (x y z w q c : ℕ) → q ≤ x → c ≤ z →
    cond b (x - q) 0 + (cond b (y + q) 0 + (cond d (z - c) 0 + (cond d (w + c) 0 + 0))) ≡ (cond b x 0 + (cond b y 0 + (cond d z 0 + (cond d w 0 + 0)))) + 0
trade_sum true true x y z w q c h g = omega arith
trade_sum true false x y z w q c h g = omega arith
trade_sum false true x y z w q c h g = omega arith
trade_sum false false x y z w q c h g = refl

pub conserved : (m : Amounts) (o : Order) (asset : List ℕ) → HasNames o → IsPlainName asset → order_refusal m o ≡ None → gained asset (order_moves m o) ≡ paid m asset (order_moves m o) + issues asset o
conserved m (Issue a name n) asset names h none =
    let g : share asset (balance_key a name) (m (balance_key a name) + n) ≡ cond (bytes_eq asset a) (m (balance_key a name) + n) 0 = share_is asset a name (m (balance_key a name) + n) h names.0 in
    let o : share asset (balance_key a name) (m (balance_key a name)) ≡ cond (bytes_eq asset a) (m (balance_key a name)) 0 = share_is asset a name (m (balance_key a name)) h names.0 in
    let s = issue_sum (bytes_eq asset a) (m (balance_key a name)) n in
    omega arith
conserved m (Pay a from to n) asset names h none = whole
  where
    F : List ℕ
    F = balance_key a from

    T : List ℕ
    T = balance_key a to

    is : Clear (form_refusals (Pay a from to n) ++ amount_refusals m (Pay a from to n))
    is = clear (form_refusals (Pay a from to n) ++ amount_refusals m (Pay a from to n)) none

    apart : bytes_eq F T ≡ false
    apart = same_tail (head a) from to ∙ test_clear (bytes_eq from to) _ is.0

    whole : gained asset (order_moves m (Pay a from to n)) ≡ paid m asset (order_moves m (Pay a from to n)) + 0
    whole =
        let g1 : share asset F (m F - n) ≡ cond (bytes_eq asset a) (m F - n) 0 = share_is asset a from (m F - n) h names.0 in
        let g2 : share asset T (m T + n) ≡ cond (bytes_eq asset a) (m T + n) 0 = share_is asset a to (m T + n) h names.0 in
        let o1 : share asset F (m F) ≡ cond (bytes_eq asset a) (m F) 0 = share_is asset a from (m F) h names.0 in
        let o2 : share asset T (put_amount m F (m F - n) T) ≡ cond (bytes_eq asset a) (m T) 0 = ap (share asset T) (put_elsewhere m F (m F - n) T apart) ∙ share_is asset a to (m T) h names.0 in
        let s = pay_sum (bytes_eq asset a) (m F) (m T) n (enough m F n is.1.0) in
        cc
conserved m (Trade a buyer seller q p) asset names h none = whole
  where
    S : List ℕ
    S = balance_key a seller

    B : List ℕ
    B = balance_key a buyer

    C : List ℕ
    C = balance_key money buyer

    D : List ℕ
    D = balance_key money seller

    is : Clear (form_refusals (Trade a buyer seller q p) ++ amount_refusals m (Trade a buyer seller q p))
    is = clear (form_refusals (Trade a buyer seller q p) ++ amount_refusals m (Trade a buyer seller q p)) none

    other : bytes_eq buyer seller ≡ false
    other = test_clear (bytes_eq buyer seller) _ is.0

    stranger : bytes_eq a money ≡ false
    stranger = test_clear (bytes_eq a money) _ is.1.0

    SB : bytes_eq S B ≡ false
    SB = same_tail (head a) seller buyer ∙ turned_eq seller buyer ∙ other

    CD : bytes_eq C D ≡ false
    CD = same_tail (head money) buyer seller ∙ other

    m1 : Amounts
    m1 = put_amount m S (m S - q)

    m2 : Amounts
    m2 = put_amount m1 B (m B + q)

    m3 : Amounts
    m3 = put_amount m2 C (m C - p * q)

    at_B : m1 B ≡ m B
    at_B = put_elsewhere m S (m S - q) B SB

    at_C : m2 C ≡ m C
    at_C = put_elsewhere m1 B (m B + q) C (apart_assets a money buyer buyer names.0 refl stranger) ∙ put_elsewhere m S (m S - q) C (apart_assets a money seller buyer names.0 refl stranger)

    at_D : m3 D ≡ m D
    at_D = put_elsewhere m2 C (m C - p * q) D CD ∙ put_elsewhere m1 B (m B + q) D (apart_assets a money buyer seller names.0 refl stranger) ∙ put_elsewhere m S (m S - q) D (apart_assets a money seller seller names.0 refl stranger)

    whole : gained asset (order_moves m (Trade a buyer seller q p)) ≡ paid m asset (order_moves m (Trade a buyer seller q p)) + 0
    whole =
        let g1 : share asset S (m S - q) ≡ cond (bytes_eq asset a) (m S - q) 0 = share_is asset a seller (m S - q) h names.0 in
        let g2 : share asset B (m B + q) ≡ cond (bytes_eq asset a) (m B + q) 0 = share_is asset a buyer (m B + q) h names.0 in
        let g3 : share asset C (m C - p * q) ≡ cond (bytes_eq asset money) (m C - p * q) 0 = share_is asset money buyer (m C - p * q) h refl in
        let g4 : share asset D (m D + p * q) ≡ cond (bytes_eq asset money) (m D + p * q) 0 = share_is asset money seller (m D + p * q) h refl in
        let o1 : share asset S (m S) ≡ cond (bytes_eq asset a) (m S) 0 = share_is asset a seller (m S) h names.0 in
        let o2 : share asset B (m1 B) ≡ cond (bytes_eq asset a) (m B) 0 = ap (share asset B) at_B ∙ share_is asset a buyer (m B) h names.0 in
        let o3 : share asset C (m2 C) ≡ cond (bytes_eq asset money) (m C) 0 = ap (share asset C) at_C ∙ share_is asset money buyer (m C) h refl in
        let o4 : share asset D (m3 D) ≡ cond (bytes_eq asset money) (m D) 0 = ap (share asset D) at_D ∙ share_is asset money seller (m D) h refl in
        let s = trade_sum (bytes_eq asset a) (bytes_eq asset money) (m S) (m B) (m C) (m D) q (p * q) (enough m S q is.1.1.1.0) (enough m C (p * q) is.1.1.1.1.0) in
        cc

-- what is issued
pub issued : (m : Amounts) (o : Order) (asset : List ℕ) → order_refusal m o ≡ None → put_amounts m (order_moves m o) (issued_key asset) ≡ m (issued_key asset) + issues asset o
issued m (Issue a name n) asset none = by (bytes_eq a asset) refl
  where
    is : Clear (form_refusals (Issue a name n) ++ amount_refusals m (Issue a name n))
    is = clear (form_refusals (Issue a name n) ++ amount_refusals m (Issue a name n)) none

    by : (b : Bool) → bytes_eq a asset ≡ b → cond (bytes_eq a asset) n (m (issued_key asset)) ≡ m (issued_key asset) + cond (bytes_eq asset a) n 0
    by true e =
        let same : a ≡ asset = (bytes_eq-Decides a asset).0 e in
        let old : m (issued_key a) ≡ 0 = none_yet (m (issued_key a)) (test_clear (nat_lt 0 (m (issued_key a))) _ is.0) in
        let was : m (issued_key asset) ≡ 0 = ap (λ x. m (issued_key x)) (sym same) ∙ old in
        let l : cond (bytes_eq a asset) n (m (issued_key asset)) ≡ n = ap (λ b. cond b n (m (issued_key asset))) e in
        let g : cond (bytes_eq asset a) n 0 ≡ n = ap (λ b. cond b n 0) (turned_eq asset a ∙ e) in
        omega arith
      where
        none_yet : (x : ℕ) → nat_lt 0 x ≡ false → x ≡ 0
        none_yet x f = grind (arith, nat_tests)
    by false e =
        let l : cond (bytes_eq a asset) n (m (issued_key asset)) ≡ m (issued_key asset) = ap (λ b. cond b n (m (issued_key asset))) e in
        let g : cond (bytes_eq asset a) n 0 ≡ 0 = ap (λ b. cond b n 0) (turned_eq asset a ∙ e) in
        omega arith
issued m (Pay a from to n) asset none = omega arith
issued m (Trade a buyer seller q p) asset none = omega arith

-- ---- an order reads what it moves

abbrev pub Agree : Amounts → Amounts → List (List ℕ) → Type 0
Agree m o [] = Unit {0}
Agree m o (k ∷ ks) = (m k ≡ o k) × Agree m o ks

pub same_moves : (m o : Amounts) (x : Order) → Agree m o (order_keys x) → order_moves m x ≡ order_moves o x
same_moves m o (Issue a name n) h = λ i. (issued_key a, n) ∷ (balance_key a name, h.1.0 i + n) ∷ []
same_moves m o (Pay a from to n) h = λ i. (balance_key a from, h.0 i - n) ∷ (balance_key a to, h.1.0 i + n) ∷ []
same_moves m o (Trade a buyer seller q p) h = λ i.
    (balance_key a seller, h.0 i - q) ∷ (balance_key a buyer, h.1.0 i + q) ∷ (balance_key money buyer, h.1.1.0 i - p * q) ∷ (balance_key money seller, h.1.1.1.0 i + p * q) ∷ []

pub same_refusal : (m o : Amounts) (x : Order) → Agree m o (order_keys x) → order_refusal m x ≡ order_refusal o x
same_refusal m o (Issue a name n) h = λ i.
    first_of (where_true (nat_lt 0 (h.0 i)) (AlreadyIssued a) ∷ too_much (h.1.0 i + n) ∷ [])
same_refusal m o (Pay a from to n) h = λ i.
    first_of (where_true (bytes_eq from to) SameName ∷ where_true (nat_lt (h.0 i) n) (NotEnough (balance_key a from) (h.0 i) n) ∷ too_much (h.1.0 i + n) ∷ [])
same_refusal m o (Trade a buyer seller q p) h = λ i.
    first_of (where_true (bytes_eq buyer seller) SameName ∷ where_true (bytes_eq a money) SameAsset ∷ too_much (p * q) ∷
    where_true (nat_lt (h.0 i) q) (NotEnough (balance_key a seller) (h.0 i) q) ∷ where_true (nat_lt (h.1.1.0 i) (p * q)) (NotEnough (balance_key money buyer) (h.1.1.0 i) (p * q)) ∷
    too_much (h.1.0 i + q) ∷ too_much (h.1.1.1.0 i + p * q) ∷ [])

-- ---- what it moves fits

abbrev pub AllBelow : Amounts → List (List ℕ) → Type 0
AllBelow m [] = Unit {0}
AllBelow m (k ∷ ks) = (m k < 2 ^ 64) × AllBelow m ks

pub moves_fit : (m : Amounts) (o : Order) → AllBelow m (order_keys o) → order_refusal m o ≡ None → AllFit (order_moves m o)
moves_fit m (Issue a name n) h none =
    let is = clear (form_refusals (Issue a name n) ++ amount_refusals m (Issue a name n)) none in
    let f : m (balance_key a name) + n < 2 ^ 64 = fits (m (balance_key a name) + n) is.1.0 in
    (omega arith, (f, tt))
moves_fit m (Pay a from to n) h none =
    let is = clear (form_refusals (Pay a from to n) ++ amount_refusals m (Pay a from to n)) none in
    let below : m (balance_key a from) < 2 ^ 64 = h.0 in
    (omega arith, (fits (m (balance_key a to) + n) is.1.1.0, tt))
moves_fit m (Trade a buyer seller q p) h none =
    let is = clear (form_refusals (Trade a buyer seller q p) ++ amount_refusals m (Trade a buyer seller q p)) none in
    (less (m (balance_key a seller)) q h.0, (fits (m (balance_key a buyer) + q) is.1.1.1.1.1.0, (less (m (balance_key money buyer)) (p * q) h.1.1.0, (fits (m (balance_key money seller) + p * q) is.1.1.1.1.1.1.0, tt))))
  where
    less : (x y : ℕ) → x < 2 ^ 64 → x - y < 2 ^ 64
    less x y g = omega arith
