-- Which order keys and amounts show.
use Rattle.std.proofs.Common.{◌≡◌, ℕ, ◌+◌, ◌-◌, ◌<◌, Bool, true, false, cond, nat_eq, List, [], ◌∷◌, ◌++◌, map, length, take, drop, get_or, Option, Some, None, refl, sym, ap, subst, ◌∙◌, ◌⊎◌, inl, inr, arith, add-one, append-nil, append_assoc}
use Rattle.std.proofs.Math.Seq.{drop-cons, take-suc}
use Rattle.slate_stock.specs.declared.order.Order.{Order}
use Rattle.slate_stock.specs.declared.order.Order.TheVariants.{Issue, Pay, Trade}
use Rattle.slate_stock.specs.Amounts.{Amounts}
use Rattle.slate_stock.specs.Commits.{HasNames}
use Rattle.slate_stock.specs.Reading.{cut_name, front_of, balance_of, issued_of, of_two, of_four, price, plain_order}
use Rattle.slate_stock.specs.Legs.{AreLegsOf}
use Rattle.slate_stock.proofs.ReadingLaws.{order_there}

-- ---- the cut at a colon

abbrev pub behind : List ℕ → Option (List ℕ × List ℕ) → Option (List ℕ × List ℕ)
behind xs None = None
behind xs (Some p) = Some (xs ++ p.0, p.1)

behind_none : (o : Option (List ℕ × List ℕ)) → behind [] o ≡ o
behind_none None = refl
behind_none (Some p) = refl

behind_front : (xs : List ℕ) (b : ℕ) (o : Option (List ℕ × List ℕ)) → behind xs (front_of b o) ≡ behind (xs ++ (b ∷ [])) o
behind_front xs b None = refl
behind_front xs b (Some p) = ap (λ ys. Some (ys, p.1)) (sym (append_assoc xs (b ∷ []) p.0))

pub cut_begins : (text : List ℕ) → cut_name text ≡ behind [] (cut_name text)
cut_begins text = sym (behind_none (cut_name text))

drop_here : (text : List ℕ) (place b : ℕ) → place < length text → b ≡ get_or text place 0 → drop place text ≡ b ∷ drop (place + 1) text
drop_here text place b within is = rw is (rw (add-one, drop-cons text place 0))

take_more : (text : List ℕ) (place b : ℕ) → place < length text → b ≡ get_or text place 0 → take (place + 1) text ≡ take place text ++ (b ∷ [])
take_more text place b within is = rw is (rw (add-one, take-suc text place 0))

pub cut_goes : (text : List ℕ) (place b : ℕ) → place < length text → b ≡ get_or text place 0 → nat_eq b 58 ≡ false → cut_name text ≡ behind (take place text) (cut_name (drop place text)) → cut_name text ≡ behind (take (place + 1) text) (cut_name (drop (place + 1) text))
cut_goes text place b within is other h =
    h ∙ ap (λ xs. behind (take place text) (cut_name xs)) (drop_here text place b within is)
    ∙ ap (λ t. behind (take place text) (cond t (Some ([], drop (place + 1) text)) (front_of b (cut_name (drop (place + 1) text))))) other
    ∙ behind_front (take place text) b (cut_name (drop (place + 1) text))
    ∙ ap (λ xs. behind xs (cut_name (drop (place + 1) text))) (sym (take_more text place b within is))

pub cut_here : (text : List ℕ) (place b : ℕ) → place < length text → b ≡ get_or text place 0 → nat_eq b 58 ≡ true → cut_name text ≡ behind (take place text) (cut_name (drop place text)) → cut_name text ≡ Some (take place text, drop (place + 1) text)
cut_here text place b within is colon h =
    h ∙ ap (λ xs. behind (take place text) (cut_name xs)) (drop_here text place b within is)
    ∙ ap (λ t. behind (take place text) (cond t (Some ([], drop (place + 1) text)) (front_of b (cut_name (drop (place + 1) text))))) colon
    ∙ ap (λ xs. Some (xs, drop (place + 1) text)) (append-nil (take place text))

pub cut_ends : (text rest : List ℕ) (place : ℕ) → rest ≡ [] → cut_name text ≡ behind (take place text) (cut_name rest) → cut_name text ≡ None
cut_ends text rest place none h = h ∙ ap (λ xs. behind (take place text) (cut_name xs)) none

-- ---- orders

pub plain_names : (o : Order) → HasNames o → HasNames (plain_order o)
plain_names (Issue a name n) h = h
plain_names (Pay a from to n) h = h
plain_names (Trade a buyer seller q p) h = h

pub two_show : (o : Order) (m : Amounts) (ks js : List (List ℕ)) (ns vs : List ℕ) → AreLegsOf o m ks ns js vs → length ks ≡ 2 → (first d second e : List ℕ) (had put : ℕ) → first ≡ get_or ks 0 d → second ≡ get_or ks 1 e → had ≡ get_or ns 0 0 → put ≡ get_or vs 0 0 →
    of_two (issued_of first) (balance_of first) (balance_of second) had put ≡ Some (plain_order o)
two_show (Issue a name n) m ks js ns vs made two first d second e had put f s h p =
    let f' = f ∙ ap (λ xs. get_or xs 0 d) made.keys in
    let s' = s ∙ ap (λ xs. get_or xs 1 e) made.keys in
    let h' = h ∙ ap (λ xs. get_or xs 0 0) made.read in
    let p' = p ∙ ap (λ xs. get_or xs 0 0) made.new in
    (λ i. of_two (issued_of (f' i)) (balance_of (f' i)) (balance_of (s' i)) (h' i) (p' i)) ∙ order_there (Issue a name n) m made.names made.fits
two_show (Pay a from to n) m ks js ns vs made two first d second e had put f s h p =
    let f' = f ∙ ap (λ xs. get_or xs 0 d) made.keys in
    let s' = s ∙ ap (λ xs. get_or xs 1 e) made.keys in
    let h' = h ∙ ap (λ xs. get_or xs 0 0) made.read in
    let p' = p ∙ ap (λ xs. get_or xs 0 0) made.new in
    (λ i. of_two (issued_of (f' i)) (balance_of (f' i)) (balance_of (s' i)) (h' i) (p' i)) ∙ order_there (Pay a from to n) m made.names made.fits
two_show (Trade a buyer seller q r) m ks js ns vs made two first d second e had put f s h p =
    let l : length ks ≡ 4 = ap length made.keys in
    absurd (omega arith)

pub four_show : (o : Order) (m : Amounts) (ks js : List (List ℕ)) (ns vs : List ℕ) → AreLegsOf o m ks ns js vs → length ks ≡ 4 → (first d second e : List ℕ) (q cost : ℕ) → first ≡ get_or ks 0 d → second ≡ get_or ks 1 e →
    q ≡ get_or ns 0 0 - get_or vs 0 0 → cost ≡ get_or ns 2 0 - get_or vs 2 0 → of_four (balance_of first) (balance_of second) q cost ≡ Some (plain_order o)
four_show (Issue a name n) m ks js ns vs made four first d second e q cost f s h p =
    let l : length ks ≡ 2 = ap length made.keys in
    absurd (omega arith)
four_show (Pay a from to n) m ks js ns vs made four first d second e q cost f s h p =
    let l : length ks ≡ 2 = ap length made.keys in
    absurd (omega arith)
four_show (Trade a buyer seller n r) m ks js ns vs made four first d second e q cost f s h p =
    let f' = f ∙ ap (λ xs. get_or xs 0 d) made.keys in
    let s' = s ∙ ap (λ xs. get_or xs 1 e) made.keys in
    let h' = h ∙ (λ i. get_or (made.read i) 0 0 - get_or (made.new i) 0 0) in
    let p' = p ∙ (λ i. get_or (made.read i) 2 0 - get_or (made.new i) 2 0) in
    (λ i. of_four (balance_of (f' i)) (balance_of (s' i)) (h' i) (p' i)) ∙ order_there (Trade a buyer seller n r) m made.names made.fits

-- two keys with two amounts, or four with four
pub lengths : (o : Order) (m : Amounts) (ks js : List (List ℕ)) (ns vs : List ℕ) → AreLegsOf o m ks ns js vs →
    ((length ks ≡ 2) × (length ns ≡ 2) × (length vs ≡ 2)) ⊎ ((length ks ≡ 4) × (length ns ≡ 4) × (length vs ≡ 4))
lengths (Issue a name n) m ks js ns vs made = inl (ap length made.keys, ap length made.read, ap length made.new)
lengths (Pay a from to n) m ks js ns vs made = inl (ap length made.keys, ap length made.read, ap length made.new)
lengths (Trade a buyer seller q p) m ks js ns vs made = inr (ap length made.keys, ap length made.read, ap length made.new)

-- ---- which order two or four keys show

some_is : {X : Type 0} (x y : X) → Some x ≡ Some y → x ≡ y
some_is x y e = cc

none_some : {X P : Type 0} (x : X) → None ≡ Some x → P
none_some x e = cc

pub two_none : {P : Type 0} (i : Option (List ℕ)) (f s : Option (List ℕ × List ℕ)) (had put : ℕ) (o : Order) → s ≡ None → of_two i f s had put ≡ Some o → P
two_none (Some a) f None had put o n e = none_some o e
two_none (Some a) f (Some p) had put o n e = none_some p (sym n)
two_none None (Some p) None had put o n e = none_some o e
two_none None (Some p) (Some q) had put o n e = none_some q (sym n)
two_none None None s had put o n e = none_some o e

pub two_issue : (i : Option (List ℕ)) (f s : Option (List ℕ × List ℕ)) (had put : ℕ) (o : Order) (asset : List ℕ) (p : List ℕ × List ℕ) → i ≡ Some asset → s ≡ Some p → of_two i f s had put ≡ Some o → Issue asset p.1 put ≡ o
two_issue i f s had put o asset p a b e = some_is (Issue asset p.1 put) o ((λ j. of_two (sym a j) f (sym b j) had put) ∙ e)

pub two_first : {P : Type 0} (i : Option (List ℕ)) (f s : Option (List ℕ × List ℕ)) (had put : ℕ) (o : Order) → i ≡ None → f ≡ None → of_two i f s had put ≡ Some o → P
two_first i f s had put o a b e = none_some o ((λ j. of_two (sym a j) (sym b j) s had put) ∙ e)

pub two_pay : (i : Option (List ℕ)) (f s : Option (List ℕ × List ℕ)) (had put : ℕ) (o : Order) (p q : List ℕ × List ℕ) → i ≡ None → f ≡ Some p → s ≡ Some q → of_two i f s had put ≡ Some o → Pay p.0 p.1 q.1 (had - put) ≡ o
two_pay i f s had put o p q a b c e = some_is (Pay p.0 p.1 q.1 (had - put)) o ((λ j. of_two (sym a j) (sym b j) (sym c j) had put) ∙ e)

pub four_first : {P : Type 0} (f s : Option (List ℕ × List ℕ)) (q cost : ℕ) (o : Order) → f ≡ None → of_four f s q cost ≡ Some o → P
four_first f s q cost o a e = none_some o ((λ j. of_four (sym a j) s q cost) ∙ e)

pub four_second : {P : Type 0} (f s : Option (List ℕ × List ℕ)) (q cost : ℕ) (o : Order) (p : List ℕ × List ℕ) → f ≡ Some p → s ≡ None → of_four f s q cost ≡ Some o → P
four_second f s q cost o p a b e = none_some o ((λ j. of_four (sym a j) (sym b j) q cost) ∙ e)

pub four_trade : (f s : Option (List ℕ × List ℕ)) (q cost : ℕ) (o : Order) (p r : List ℕ × List ℕ) → f ≡ Some p → s ≡ Some r → of_four f s q cost ≡ Some o → Trade p.0 r.1 p.1 q (price cost q) ≡ o
four_trade f s q cost o p r a b e = some_is (Trade p.0 r.1 p.1 q (price cost q)) o ((λ j. of_four (sym a j) (sym b j) q cost) ∙ e)
