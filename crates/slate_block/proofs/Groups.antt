-- The groups of a number, written and read one by one.
use Rattle.std.proofs.Common.{◌≡◌, ℕ, zero, suc, ◌+◌, ◌-◌, ◌&&◌, set, append_assoc, ◌*◌, ◌/◌, ◌%◌, ◌^◌, ◌<◌, ◌≤◌, Bool, true, false, cond, eqb, ltb, List, [], ◌∷◌, ◌++◌, length, get_or, take, drop, Option, Some, None, Result, Ok, Err, add-one, refl, sym, ap, subst, ◌∙◌, arith}
use Rattle.std.specs.Prelude.{IfOk, IfErr, IfSome}
use Rattle.std.specs.Result.{result_ok}
use Rattle.slate_types.specs.declared.error.SlateDBError.{SlateDBError}
use Rattle.std.proofs.lemmas.List.{take_more_set, take-append-drop, at_drop_more, at_drop_all}
use Rattle.std.proofs.lemmas.Bool.{ltb-true, ltb-false, le-ltb, lt-ltb}
use Rattle.std.proofs.lemmas.Bool.Decides.{nat_tests}
use Rattle.std.proofs.Math.Nat.{mul-le-mul, mul-le-mul_right}
use Rattle.slate_block.specs.Varint.{SpellsVarint, IsVarint, varint_within}
use Rattle.slate_block.specs.Groups.{completed}
use Rattle.slate_block.proofs.VarintLaws.{spells_group}
use Rattle.slate_block.specs.Damage.{front_groups, before_high, of_32_bits, front_varint}
use Rattle.std.proofs.Math.Bool.{and-false}

-- what a group is worth
abbrev pub weight_of : ℕ → ℕ
weight_of zero = 1
weight_of (suc k) = 128 * weight_of k

-- after so many groups of a number of 32 bits, this is left
abbrev pub IsRest : ℕ → ℕ → Type 0
IsRest zero rest = rest < 2 ^ 32
IsRest (suc zero) rest = rest < 2 ^ 25
IsRest (suc (suc zero)) rest = rest < 2 ^ 18
IsRest (suc (suc (suc zero))) rest = rest < 2 ^ 11
IsRest (suc (suc (suc (suc zero)))) rest = rest < 2 ^ 4
IsRest (suc (suc (suc (suc (suc k))))) rest = ⊥

pub one_group : (k n : ℕ) → n < 128 → varint_within (suc k) n ≡ n ∷ []
one_group k n p = rw lt-ltb refl

pub more_groups : (k n : ℕ) → 128 ≤ n → varint_within (suc k) n ≡ (128 + n % 128) ∷ varint_within k (n / 128)
more_groups k n p = rw le-ltb refl

-- ---- written

pub rest_more : (len rest : ℕ) → IsRest len rest → 128 ≤ rest → (len < 4) × IsRest (len + 1) (rest / 128)
rest_more zero rest h p = (omega arith, omega arith)
rest_more (suc zero) rest h p = (omega arith, omega arith)
rest_more (suc (suc zero)) rest h p = (omega arith, omega arith)
rest_more (suc (suc (suc zero))) rest h p = (omega arith, omega arith)
rest_more (suc (suc (suc (suc zero)))) rest h p = absurd (omega arith)
rest_more (suc (suc (suc (suc (suc k))))) rest h p = absurd h

pub rest_len : (len rest : ℕ) → IsRest len rest → len < 5
rest_len zero rest h = omega arith
rest_len (suc zero) rest h = omega arith
rest_len (suc (suc zero)) rest h = omega arith
rest_len (suc (suc (suc zero))) rest h = omega arith
rest_len (suc (suc (suc (suc zero)))) rest h = omega arith
rest_len (suc (suc (suc (suc (suc k))))) rest h = absurd h

pub group_written : (groups : List ℕ) (len rest : ℕ) (whole : List ℕ) → length groups ≡ 5 → len < 4 → 128 ≤ rest → take len groups ++ varint_within (5 - len) rest ≡ whole →
    take (len + 1) (set groups len (rest % 128 + 128)) ++ varint_within (5 - (len + 1)) (rest / 128) ≡ whole
group_written groups len rest whole long lt far h =
    let k : 5 - len ≡ suc (5 - (len + 1)) = omega arith in
    let one : varint_within (5 - len) rest ≡ (128 + rest % 128) ∷ varint_within (5 - (len + 1)) (rest / 128) = rw k (more_groups (5 - (len + 1)) rest far) in
    let same : rest % 128 + 128 ≡ 128 + rest % 128 = omega arith in
    let front : take (len + 1) (set groups len (rest % 128 + 128)) ≡ take len groups ++ (128 + rest % 128) ∷ [] = rw same (take_more_set groups len (128 + rest % 128) (omega arith)) in
    rw front (append_assoc (take len groups) ((128 + rest % 128) ∷ []) (varint_within (5 - (len + 1)) (rest / 128)) ∙ ap (λ (l : List ℕ). take len groups ++ l) (sym one) ∙ h)

pub last_written : (groups : List ℕ) (len rest : ℕ) (whole : List ℕ) → length groups ≡ 5 → len < 5 → rest < 128 → take len groups ++ varint_within (5 - len) rest ≡ whole →
    take (len + 1) (set groups len rest) ≡ whole
last_written groups len rest whole long lt near h =
    let k : 5 - len ≡ suc (5 - (len + 1)) = omega arith in
    let one : varint_within (5 - len) rest ≡ rest ∷ [] = rw k (one_group (5 - (len + 1)) rest near) in
    take_more_set groups len rest (omega arith) ∙ ap (λ (l : List ℕ). take len groups ++ l) (sym one) ∙ h

-- ---- read

pub weight_small : (i : ℕ) → i < 5 → weight_of i ≤ 2 ^ 28
weight_small zero p = omega arith
weight_small (suc zero) p = omega arith
weight_small (suc (suc zero)) p = omega arith
weight_small (suc (suc (suc zero))) p = omega arith
weight_small (suc (suc (suc (suc zero)))) p = omega arith
weight_small (suc (suc (suc (suc (suc k))))) p = absurd (omega arith)

regrouped : (low weight d h : ℕ) → low + weight * (d + 128 * h) ≡ low + d * weight + weight * 128 * h
regrouped low weight d h = omega arith

-- one group more, which isn't the last
pub completed_more : (weight low index b : ℕ) (found : Option (ℕ × ℕ)) →
    completed weight low index (before_high b found) ≡ completed (weight * 128) (low + (b - 128) * weight) (index + 1) found
completed_more weight low index b None = refl
completed_more weight low index b (Some x) = by (eqb x.0 0) refl
  where
    by : (t : Bool) → eqb x.0 0 ≡ t → completed weight low index (cond t None (Some (b - 128 + 128 * x.0, x.1 + 1))) ≡ cond (ltb 0 (index + 1) && t) None (Some (low + (b - 128) * weight + weight * 128 * x.0, index + 1 + x.1))
    by true e = rw (lt-ltb 0 (index + 1) (omega arith)) refl
    by false e =
        let some : 0 < x.0 = grind (arith, nat_tests) in
        let not_0 : eqb (b - 128 + 128 * x.0) 0 ≡ false = grind (arith, nat_tests) in
        let number : low + weight * (b - 128 + 128 * x.0) ≡ low + (b - 128) * weight + weight * 128 * x.0 = regrouped low weight (b - 128) x.0 in
        let long : index + (x.1 + 1) ≡ index + 1 + x.1 = omega arith in
        rw (not_0, and-false (ltb 0 index), and-false (ltb 0 (index + 1))) (λ i. Some (number i, long i))

pub too_long : (weight low index : ℕ) (found : Option (ℕ × ℕ)) → 0 < index → 2 ^ 32 ≤ weight → of_32_bits (completed weight low index found) ≡ None
too_long weight low index None p q = refl
too_long weight low index (Some x) p q = by (eqb x.0 0) refl
  where
    by : (t : Bool) → eqb x.0 0 ≡ t → of_32_bits (cond (ltb 0 index && t) None (Some (low + weight * x.0, index + x.1))) ≡ None
    by true e = rw (lt-ltb 0 index p) refl
    by false e =
        let some : 1 ≤ x.0 = grind (arith, nat_tests) in
        let far : 2 ^ 32 * 1 ≤ weight * x.0 = mul-le-mul q some in
        rw (and-false (ltb 0 index), le-ltb (low + weight * x.0) (2 ^ 32) (omega arith)) refl

-- ---- what begins with a number

abbrev pub IsBytes : List ℕ → Type 0
IsBytes bytes = (i : ℕ) → get_or bytes i 0 < 256

IsBytes_rest : (b : ℕ) (bytes : List ℕ) → IsBytes (b ∷ bytes) → IsBytes bytes
IsBytes_rest b bytes h i = h (suc i)

abbrev found_in : List ℕ → ℕ × ℕ → Type 0
found_in bytes x = (x.1 ≤ length bytes) × SpellsVarint (take x.1 bytes) x.0

some_is : (x y : ℕ × ℕ) → Some x ≡ Some y → x ≡ y
some_is x y e = cc

groups_found : (bytes : List ℕ) (x : ℕ × ℕ) → IsBytes bytes → front_groups bytes ≡ Some x → found_in bytes x
groups_found [] x fits e = absurd cc
groups_found (b ∷ bs) x fits e = by (ltb b 128) refl e (front_groups bs) refl (λ h is. groups_found bs h (IsBytes_rest b bs fits) is)
  where
    high : (h : ℕ × ℕ) (t : Bool) → eqb h.0 0 ≡ t → cond t None (Some (b - 128 + 128 * h.0, h.1 + 1)) ≡ Some x → 128 ≤ b → found_in bs h → found_in (b ∷ bs) x
    high h true z f far g = absurd cc
    high h false z f far g =
        let some : 0 < h.0 = grind (arith, nat_tests) in
        let below : b < 256 = fits 0 in
        let spelled : SpellsVarint (b ∷ take h.1 bs) (b - 128 + 128 * h.0) = spells_group b (take h.1 bs) h.0 (b - 128 + 128 * h.0) far below some (omega arith) g.1 in
        let whole : found_in (b ∷ bs) (b - 128 + 128 * h.0, suc h.1) = (omega (arith, g.0), spelled) in
        let one : h.1 + 1 ≡ suc h.1 = omega arith in
        subst (found_in (b ∷ bs)) (some_is (b - 128 + 128 * h.0, h.1 + 1) x f) (subst (λ k. found_in (b ∷ bs) (b - 128 + 128 * h.0, k)) (sym one) whole)

    by : (t : Bool) → ltb b 128 ≡ t → cond t (Some (b, 1)) (before_high b (front_groups bs)) ≡ Some x → (o : Option (ℕ × ℕ)) → front_groups bs ≡ o → ((h : ℕ × ℕ) → front_groups bs ≡ Some h → found_in bs h) → found_in (b ∷ bs) x
    by true t-is f o o-is behind =
        let whole : found_in (b ∷ bs) (b, 1) = (omega arith, (ltb-true b 128 t-is, refl)) in
        subst (found_in (b ∷ bs)) (some_is (b, 1) x f) whole
    by false t-is f None o-is behind = let nothing : before_high b None ≡ Some x = ap (before_high b) (sym o-is) ∙ f in absurd cc
    by false t-is f (Some h) o-is behind = high h (eqb h.0 0) refl (ap (before_high b) (sym o-is) ∙ f) (ltb-false b 128 t-is) (behind h o-is)

groups_again : (text rest : List ℕ) (n : ℕ) → SpellsVarint text n → front_groups (text ++ rest) ≡ Some (n, length text)
groups_again [] rest n s = absurd s
groups_again (b ∷ []) rest n s = rw (lt-ltb b 128 s.0) (λ i. Some (sym s.1 i, 1))
groups_again (b ∷ c ∷ bs) rest n s =
    let high = groups_again (c ∷ bs) rest s.2 s.5 in
    let some : eqb s.2 0 ≡ false = grind (arith, nat_tests, s.3) in
    let number : b - 128 + 128 * s.2 ≡ n = omega (arith, s.0, s.4) in
    let long : length (c ∷ bs) + 1 ≡ length (b ∷ c ∷ bs) = omega arith in
    rw (le-ltb b 128 s.0, high, some) (λ i. Some (number i, long i))

pub front_found : (bytes : List ℕ) (x : ℕ × ℕ) → IsBytes bytes → front_varint bytes ≡ Some x → (x.1 ≤ length bytes) × IsVarint (take x.1 bytes) x.0
front_found bytes x fits e = by (front_groups bytes) refl e
  where
    small : (y : ℕ × ℕ) (t : Bool) → ltb y.0 (2 ^ 32) ≡ t → cond t (Some y) None ≡ Some x → front_groups bytes ≡ Some y → (x.1 ≤ length bytes) × IsVarint (take x.1 bytes) x.0
    small y true t-is f g =
        let found = groups_found bytes x fits (g ∙ f) in
        let same : y ≡ x = some_is y x f in
        (found.0, (subst (λ (z : ℕ × ℕ). z.0 < 2 ^ 32) same (ltb-true y.0 (2 ^ 32) t-is), found.1))
    small y false t-is f g = absurd cc

    by : (o : Option (ℕ × ℕ)) → front_groups bytes ≡ o → of_32_bits o ≡ Some x → (x.1 ≤ length bytes) × IsVarint (take x.1 bytes) x.0
    by None o-is f = absurd cc
    by (Some y) o-is f = small y (ltb y.0 (2 ^ 32)) refl f o-is

pub front_again : (text rest : List ℕ) (n : ℕ) → IsVarint text n → front_varint (text ++ rest) ≡ Some (n, length text)
front_again text rest n s = ap of_32_bits (groups_again text rest n s.1) ∙ rw (lt-ltb n (2 ^ 32) s.0) refl

pub none_begins : (bytes : List ℕ) (n used : ℕ) → front_varint bytes ≡ None → IsVarint (take used bytes) n → ⊥
none_begins bytes n used e s =
    let found : front_varint bytes ≡ Some (n, length (take used bytes)) = ap front_varint (sym (take-append-drop used bytes)) ∙ front_again (take used bytes) (drop used bytes) n s in
    cc

-- ---- one byte after the other

pub goes_on : (input : List ℕ) (weight low index b : ℕ) → index < length input → b ≡ get_or input index 0 → 128 ≤ b → front_groups input ≡ completed weight low index (front_groups (drop index input)) →
    front_groups input ≡ completed (weight * 128) (low + (b - 128) * weight) (index + 1) (front_groups (drop (index + 1) input))
goes_on input weight low index b lt is far so_far =
    let rest = drop (index + 1) input in
    let here : front_groups (drop index input) ≡ front_groups (b ∷ rest) = at_drop_more front_groups input index 0 lt ∙ ap (λ (x : ℕ). front_groups (x ∷ rest)) (sym is) in
    let group : front_groups (b ∷ rest) ≡ before_high b (front_groups rest) = rw (le-ltb b 128 far) refl in
    so_far ∙ ap (completed weight low index) (here ∙ group) ∙ completed_more weight low index b (front_groups rest)

pub ends_at : (input : List ℕ) (weight low index b : ℕ) → index < length input → b ≡ get_or input index 0 → b < 128 → front_groups input ≡ completed weight low index (front_groups (drop index input)) →
    of_32_bits (completed weight low index (Some (b, 1))) ≡ front_varint input
ends_at input weight low index b lt is near so_far =
    let rest = drop (index + 1) input in
    let here : front_groups (drop index input) ≡ front_groups (b ∷ rest) = at_drop_more front_groups input index 0 lt ∙ ap (λ (x : ℕ). front_groups (x ∷ rest)) (sym is) in
    let group : front_groups (b ∷ rest) ≡ Some (b, 1) = rw (lt-ltb b 128 near) refl in
    ap of_32_bits (sym (so_far ∙ ap (completed weight low index) (here ∙ group)))

pub cut_at : (input : List ℕ) (weight low index : ℕ) → length input ≤ index → front_groups input ≡ completed weight low index (front_groups (drop index input)) → None ≡ front_varint input
cut_at input weight low index le so_far = ap of_32_bits (sym (so_far ∙ ap (completed weight low index) (at_drop_all front_groups input index le)))

pub stops_at : (input : List ℕ) (weight low index : ℕ) → index ≡ 5 → weight ≡ weight_of index → front_groups input ≡ completed weight low index (front_groups (drop index input)) → None ≡ front_varint input
stops_at input weight low index five worth so_far =
    let all : weight ≡ 2 ^ 35 = worth ∙ ap weight_of five in
    sym (ap of_32_bits so_far ∙ too_long weight low index (front_groups (drop index input)) (omega (arith, five)) (omega (arith, all)))

pub low_more : (low weight b : ℕ) → low < weight → b < 256 → low + (b - 128) * weight < weight * 128
low_more low weight b lt byte =
    let part : (b - 128) * weight ≤ 127 * weight = mul-le-mul_right weight (omega arith) in
    omega (arith, part)

pub worth_more : (weight index : ℕ) → weight ≡ weight_of index → weight * 128 ≡ weight_of (index + 1)
worth_more weight index worth = rw add-one (omega (arith, worth))

-- ---- what the reader answers

pub decoded : (bytes : List ℕ) (r : Result (ℕ × ℕ) SlateDBError) → IsBytes bytes → front_varint bytes ≡ result_ok r → IfOk r (λ x. (x.1 ≤ length bytes) × IsVarint (take x.1 bytes) x.0)
decoded bytes (Ok x) fits e = front_found bytes x fits e
decoded bytes (Err d) fits e = tt

pub front_within : (bytes : List ℕ) (r : Option (ℕ × ℕ)) → IsBytes bytes → r ≡ front_varint bytes → IfSome r (λ x. x.1 ≤ length bytes)
front_within bytes None fits e = tt
front_within bytes (Some x) fits e = (front_found bytes x fits (sym e)).0

pub refused : (bytes : List ℕ) (r : Result (ℕ × ℕ) SlateDBError) → front_varint bytes ≡ result_ok r → IfErr r (λ e. (n used : ℕ) → IsVarint (take used bytes) n → ⊥)
refused bytes (Ok x) e = tt
refused bytes (Err d) e = λ n used. none_begins bytes n used e
