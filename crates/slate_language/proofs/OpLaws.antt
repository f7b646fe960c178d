-- The operations of a write, read one after the other.
use Rattle.std.proofs.Common.{◌≡◌, ℕ, zero, suc, ◌+◌, ◌-◌, ◌<◌, ◌≤◌, Bool, true, false, cond, List, [], ◌∷◌, ◌++◌, length, take, drop, get_or, Option, Some, None, option_map, is_some, codes, bytes_eq, refl, sym, ap, ◌∙◌, arith, add-one, append_assoc}
use Rattle.std.specs.declared.ops.Bound.{Bound}
use Rattle.std.proofs.lemmas.List.{length-drop}
use Rattle.std.proofs.Math.Seq.{drop-cons}
use Rattle.slate_mem.specs.declared.WriteOp.TheVariants as ops
use Rattle.slate_types.specs.declared.config.IsolationLevel.{IsolationLevel}
use Rattle.slate_types.specs.declared.config.Ttl.{Ttl}
use Rattle.slate_types.specs.declared.iter.IterationOrder.{IterationOrder}
use Rattle.slate_mem.specs.Batch.{Ops}
use Rattle.slate_txn.specs.declared.line.ScanStep.{ScanStep}
use Rattle.slate_txn.specs.declared.line.Line.TheVariants as lines
use Rattle.slate_language.specs.Parse.{both, three, only_if, ◌>>=◌, read_bound, read_bytes, read_level, read_name, read_order, read_pair, read_step, read_ttl, read_all, read_way, named, keyed, many_keyed, OpWord, PutWord, MergeWord, DeleteWord, op_word, op_as, Groups, group_token, grouped, ops_of_groups}
use Rattle.slate_language.specs.Built.{is_op_word, Op, built_begin, built_scan, built_prefix, built_put_op, built_merge_op, built_delete_op, built_op, built_ops}
use Rattle.slate_types.proofs.Lists.{take_behind}
use Rattle.slate_types.proofs.Plain.{none_some}
use Rattle.slate_language.proofs.ParseOnly.{Some_is}

-- ---- the tokens of the first operation

front_take : (ts : List (List ℕ)) → take (length (grouped ts).0) ts ≡ (grouped ts).0
front_take [] = refl
front_take (t ∷ ts) = by (op_word t) (front_take ts)
  where
    by : (o : Option OpWord) → take (length (grouped ts).0) ts ≡ (grouped ts).0 →
        take (length (group_token o t (grouped ts)).0) (t ∷ ts) ≡ (group_token o t (grouped ts)).0
    by None later = ap (λ us. t ∷ us) later
    by (Some w) later = refl

rest_grouped : (ts : List (List ℕ)) → grouped (drop (length (grouped ts).0) ts) ≡ ([], (grouped ts).1)
rest_grouped [] = refl
rest_grouped (t ∷ ts) = by (op_word t) refl (rest_grouped ts)
  where
    by : (o : Option OpWord) → op_word t ≡ o → grouped (drop (length (grouped ts).0) ts) ≡ ([], (grouped ts).1) →
        grouped (drop (length (group_token o t (grouped ts)).0) (t ∷ ts)) ≡ ([], (group_token o t (grouped ts)).1)
    by None e later = later
    by (Some w) e later = ap (λ o. group_token o t (grouped ts)) e

pub front_within : (ts : List (List ℕ)) → length (grouped ts).0 ≤ length ts
front_within [] = omega arith
front_within (t ∷ ts) = by (op_word t) (front_within ts)
  where
    by : (o : Option OpWord) → length (grouped ts).0 ≤ length ts → length (group_token o t (grouped ts)).0 ≤ length (t ∷ ts)
    by None later = omega (arith, later)
    by (Some w) later = omega arith

-- ---- one operation, and those behind it

delete_as : (ts : List (List ℕ)) → op_as DeleteWord ts ≡ built_delete_op ts
delete_as [] = refl
delete_as (k ∷ []) = refl
delete_as (k ∷ t ∷ ts) = refl

abbrev word_by : Bool → Bool → Bool → Option OpWord
word_by p m d = cond p (Some PutWord) (cond m (Some MergeWord) (only_if d DeleteWord))

op_is : (w : List ℕ) (ts : List (List ℕ)) → (op_word w >>= λ x. op_as x ts) ≡ built_op w ts
op_is w ts = by (bytes_eq w (codes "put")) (bytes_eq w (codes "merge")) (bytes_eq w (codes "delete"))
  where
    by : (p m d : Bool) → (word_by p m d >>= λ x. op_as x ts) ≡ cond p (built_put_op ts) (cond m (built_merge_op ts) (cond d (built_delete_op ts) None))
    by true m d = refl
    by false true d = refl
    by false false true = delete_as ts
    by false false false = refl

ops_step : (w : List ℕ) (ts : List (List ℕ)) → built_ops (w ∷ ts) ≡ both ◌∷◌ (built_op w (grouped ts).0) (built_ops (drop (length (grouped ts).0) ts))
ops_step w ts = by (op_word w) ∙ (λ i. both ◌∷◌ (op_is w (grouped ts).0 i) (behind i))
  where
    found : Option Ops
    found = read_all (λ p. op_as p.0 p.1) (grouped ts).1

    behind : found ≡ built_ops (drop (length (grouped ts).0) ts)
    behind = sym (ap ops_of_groups (rest_grouped ts))

    by : (o : Option OpWord) → ops_of_groups (group_token o w (grouped ts)) ≡ both ◌∷◌ (o >>= λ x. op_as x (grouped ts).0) found
    by None = refl
    by (Some x) = refl

-- ---- tokens from a place on

drop_nothing : {A : Type 0} (n : ℕ) → let none : List A = [] in drop n none ≡ none
drop_nothing zero = refl
drop_nothing (suc n) = refl

drop_add : {A : Type 0} (i j : ℕ) (l : List A) → drop (i + j) l ≡ drop j (drop i l)
drop_add zero j l = let same : 0 + j ≡ j = omega arith in ap (λ n. drop n l) same
drop_add (suc i) j [] = drop_nothing (suc i + j) ∙ sym (drop_nothing j)
drop_add (suc i) j (x ∷ l) = let more : suc i + j ≡ suc (i + j) = omega arith in ap (λ n. drop n (x ∷ l)) more ∙ drop_add i j l

tokens_from : (ts : List (List ℕ)) (i : ℕ) (d : List ℕ) → i < length ts → drop i ts ≡ get_or ts i d ∷ drop (i + 1) ts
tokens_from ts i d within = drop-cons ts i d within ∙ ap (λ n. get_or ts i d ∷ drop n ts) (sym (add-one i))

-- how many tokens of the first operation stand from a place on
abbrev pub own_from : List (List ℕ) → ℕ → ℕ
own_from ts i = length (grouped (drop i ts)).0

word_some : (t : List ℕ) (g : Groups) → is_op_word t ≡ true → length (group_token (op_word t) t g).0 ≡ 0
word_some t g h = by (op_word t) h
  where
    by : (o : Option OpWord) → is_some o ≡ true → length (group_token o t g).0 ≡ 0
    by None e = cc
    by (Some w) e = refl

word_none : (t : List ℕ) (g : Groups) → is_op_word t ≡ false → length (group_token (op_word t) t g).0 ≡ suc (length g.0)
word_none t g h = by (op_word t) h
  where
    by : (o : Option OpWord) → is_some o ≡ false → length (group_token o t g).0 ≡ suc (length g.0)
    by None e = refl
    by (Some w) e = cc

pub own_ends : (ts : List (List ℕ)) (i : ℕ) (d : List ℕ) → i < length ts → is_op_word (get_or ts i d) ≡ true → own_from ts i ≡ 0
own_ends ts i d within is = ap (λ us. length (grouped us).0) (tokens_from ts i d within) ∙ word_some (get_or ts i d) (grouped (drop (i + 1) ts)) is

pub own_more : (ts : List (List ℕ)) (i : ℕ) (d : List ℕ) → i < length ts → is_op_word (get_or ts i d) ≡ false → own_from ts i ≡ own_from ts (i + 1) + 1
own_more ts i d within is =
    ap (λ us. length (grouped us).0) (tokens_from ts i d within)
    ∙ word_none (get_or ts i d) (grouped (drop (i + 1) ts)) is ∙ sym (add-one (own_from ts (i + 1)))

-- The operations from a place on are the one there, and those behind its tokens.
pub ops_more : (ts : List (List ℕ)) (at n : ℕ) (d : List ℕ) → at < length ts → n ≡ own_from ts (at + 1) →
    built_ops (drop at ts) ≡ both ◌∷◌ (built_op (get_or ts at d) (take n (drop (at + 1) ts))) (built_ops (drop (at + 1 + n) ts))
ops_more ts at n d within is =
    ap built_ops (tokens_from ts at d within) ∙ ops_step (get_or ts at d) us
    ∙ (λ i. both ◌∷◌ (built_op (get_or ts at d) (front i)) (built_ops (later i)))
  where
    us : List (List ℕ)
    us = drop (at + 1) ts

    front : (grouped us).0 ≡ take n us
    front = sym (front_take us) ∙ ap (λ k. take k us) (sym is)

    later : drop (length (grouped us).0) us ≡ drop (at + 1 + n) ts
    later = ap (λ k. drop k us) (sym is) ∙ sym (drop_add (at + 1) n ts)

-- ---- a turn of the loop over them

take_whole : {A : Type 0} (n : ℕ) (l : List A) → length l ≤ n → take n l ≡ l
take_whole zero [] h = refl
take_whole zero (x ∷ l) h = absurd (omega (arith, h))
take_whole (suc n) [] h = refl
take_whole (suc n) (x ∷ l) h = ap (λ ys. x ∷ ys) (take_whole n l (omega (arith, h)))

pub own_within : {A : Type 0} (ts : List A) (at n : ℕ) → at < length ts → n ≤ length (take (length ts - (at + 1)) (drop (at + 1) ts)) → at + 1 + n ≤ length ts
own_within ts at n within h =
    let size : length (take (length ts - (at + 1)) (drop (at + 1) ts)) ≡ length ts - (at + 1) = ap length (take_behind ts (at + 1)) ∙ length-drop (at + 1) ts in
    omega (arith, size, h)

-- the tokens' operation at a place, as the code names its parts
abbrev op_at : List (List ℕ) → ℕ → ℕ → List ℕ → Option Op
op_at ts at n d = built_op (get_or ts at d) (take (at + 1 + n - (at + 1)) (drop (at + 1) ts))

abbrev own_at : List (List ℕ) → ℕ → ℕ
own_at ts at = length (grouped (take (length ts - (at + 1)) (drop (at + 1) ts))).0

turn : (ts : List (List ℕ)) (at n : ℕ) (d : List ℕ) (o : Option Op) → at < length ts → n ≡ own_at ts at → o ≡ op_at ts at n d →
    built_ops (drop at ts) ≡ both ◌∷◌ o (built_ops (drop (at + 1 + n) ts))
turn ts at n d o within len is =
    let own : n ≡ own_from ts (at + 1) = len ∙ ap (λ us. length (grouped us).0) (take_behind ts (at + 1)) in
    let count : n ≡ at + 1 + n - (at + 1) = omega arith in
    ops_more ts at n d within own
    ∙ ap (λ p. both ◌∷◌ p (built_ops (drop (at + 1 + n) ts))) (ap (λ k. built_op (get_or ts at d) (take k (drop (at + 1) ts))) count ∙ sym is)

pub ops_refused : (ts : List (List ℕ)) (at n : ℕ) (d : List ℕ) (held : Ops) (o : Option Op) → at < length ts →
    option_map (λ os. held ++ os) (built_ops (drop at ts)) ≡ built_ops ts → n ≡ own_at ts at → o ≡ op_at ts at n d → o ≡ None → None ≡ built_ops ts
ops_refused ts at n d held o within kept len is none =
    let later = built_ops (drop (at + 1 + n) ts) in
    sym (ap (λ p. option_map (λ os. held ++ os) (both ◌∷◌ p later)) none) ∙ ap (λ b. option_map (λ os. held ++ os) b) (sym (turn ts at n d o within len is)) ∙ kept

push_one : {X : Type 0} (held : List X) (x : X) (b : Option (List X)) → option_map (λ os. (held ++ (x ∷ [])) ++ os) b ≡ option_map (λ os. held ++ os) (both ◌∷◌ (Some x) b)
push_one held x None = refl
push_one held x (Some os) = ap Some (append_assoc held (x ∷ []) os)

pub ops_taken : (ts : List (List ℕ)) (at n : ℕ) (d : List ℕ) (held : Ops) (o : Option Op) (x : Op) → at < length ts →
    option_map (λ os. held ++ os) (built_ops (drop at ts)) ≡ built_ops ts → n ≡ own_at ts at → o ≡ op_at ts at n d → o ≡ Some x →
    option_map (λ os. (held ++ (x ∷ [])) ++ os) (built_ops (drop (at + 1 + n) ts)) ≡ built_ops ts
ops_taken ts at n d held o x within kept len is some =
    let later = built_ops (drop (at + 1 + n) ts) in
    push_one held x later ∙ ap (λ p. option_map (λ os. held ++ os) (both ◌∷◌ p later)) (sym some) ∙ ap (λ b. option_map (λ os. held ++ os) b) (sym (turn ts at n d o within len is)) ∙ kept

-- ---- keys and steps, each read from one token, one after the other

each_turn : {A : Type 0} (f : List ℕ → Option A) (ts : List (List ℕ)) (i : ℕ) (d : List ℕ) → i < length ts →
    read_all f (drop i ts) ≡ both ◌∷◌ (f (get_or ts i d)) (read_all f (drop (i + 1) ts))
each_turn f ts i d within = ap (read_all f) (tokens_from ts i d within)

pub each_refused : {A : Type 0} (f : List ℕ → Option A) (ts : List (List ℕ)) (i : ℕ) (d : List ℕ) (held : List A) (o : Option A) → i < length ts →
    option_map (λ xs. held ++ xs) (read_all f (drop i ts)) ≡ read_all f ts → o ≡ f (get_or ts i d) → o ≡ None → None ≡ read_all f ts
each_refused f ts i d held o within kept read none =
    let later = read_all f (drop (i + 1) ts) in
    sym (ap (λ p. option_map (λ xs. held ++ xs) (both ◌∷◌ p later)) (sym read ∙ none)) ∙ ap (option_map (λ xs. held ++ xs)) (sym (each_turn f ts i d within)) ∙ kept

pub each_taken : {A : Type 0} (f : List ℕ → Option A) (ts : List (List ℕ)) (i : ℕ) (d : List ℕ) (held : List A) (o : Option A) (x : A) → i < length ts →
    option_map (λ xs. held ++ xs) (read_all f (drop i ts)) ≡ read_all f ts → o ≡ f (get_or ts i d) → o ≡ Some x →
    option_map (λ xs. (held ++ (x ∷ [])) ++ xs) (read_all f (drop (i + 1) ts)) ≡ read_all f ts
each_taken f ts i d held o x within kept read some =
    let later = read_all f (drop (i + 1) ts) in
    push_one held x later ∙ ap (λ p. option_map (λ xs. held ++ xs) (both ◌∷◌ p later)) (sym some ∙ read) ∙ ap (option_map (λ xs. held ++ xs)) (sym (each_turn f ts i d within)) ∙ kept

-- ---- tokens that a pattern takes apart

-- a pair and a third, where both are there
abbrev pub with_third : {A B C : Type 0} → Option (A × B) → Option C → Option (A × B × C)
with_third p o = p >>= λ q. o >>= λ z. Some (q.0, q.1, z)

both_three : {A B C : Type 0} (a : Option A) (b : Option B) (o : Option C) → with_third (both (λ x y. (x, y)) a b) o ≡ three (λ x y z. (x, y, z)) a b o
both_three None b o = refl
both_three (Some x) None o = refl
both_three (Some x) (Some y) None = refl
both_three (Some x) (Some y) (Some z) = refl

without_third : {A B C : Type 0} (p : Option (A × B)) → ◌≡◌ {A = Option (A × B × C)} None (with_third p None)
without_third None = refl
without_third (Some q) = refl

-- a key, a value, and the tokens behind them
pub pair_is : (ts : List (List ℕ)) (k v : List ℕ) (p : Option (List ℕ × List ℕ)) (o : Option Ttl) → 2 ≤ length ts → k ≡ get_or ts 0 k → v ≡ get_or ts 1 v →
    p ≡ both (λ x y. (x, y)) (read_bytes k) (read_bytes v) → o ≡ read_ttl (take (length ts - 2) (drop 2 ts)) → with_third p o ≡ read_pair (λ x y ttl. (x, y, ttl)) ts
pair_is [] k v p o some at_k at_v e f = absurd (omega (arith, some))
pair_is (t ∷ []) k v p o some at_k at_v e f = absurd (omega (arith, some))
pair_is (t ∷ u ∷ us) k v p o some at_k at_v e f =
    (λ i. with_third (e i) ((f ∙ ap read_ttl (take_behind (t ∷ u ∷ us) 2)) i))
    ∙ (λ i. with_third (both (λ x y. (x, y)) (read_bytes (at_k i)) (read_bytes (at_v i))) (read_ttl us)) ∙ both_three (read_bytes t) (read_bytes u) (read_ttl us)

pub pair_unread : (ts : List (List ℕ)) → 2 ≤ length ts → read_ttl (take (length ts - 2) (drop 2 ts)) ≡ None → ◌≡◌ {A = Option (List ℕ × List ℕ × Ttl)} None (read_pair (λ k v ttl. (k, v, ttl)) ts)
pair_unread [] some e = refl
pair_unread (t ∷ []) some e = refl
pair_unread (t ∷ u ∷ us) some e =
    let keyed = both (λ k v. (k, v)) (read_bytes t) (read_bytes u) in
    without_third keyed ∙ pair_is (t ∷ u ∷ us) t u keyed None some refl refl refl (sym e)

-- two bounds, and the steps behind them
pub way_is : (ts : List (List ℕ)) (a b : List ℕ) (p : Option (Bound (List ℕ) × Bound (List ℕ))) (o : Option (List ScanStep)) → 2 ≤ length ts → a ≡ get_or ts 0 a → b ≡ get_or ts 1 b →
    p ≡ both (λ x y. (x, y)) (read_bound a) (read_bound b) → o ≡ read_all read_step (take (length ts - 2) (drop 2 ts)) → with_third p o ≡ read_way (λ start end sts. (start, end, sts)) ts
way_is [] a b p o some at_a at_b e f = absurd (omega (arith, some))
way_is (t ∷ []) a b p o some at_a at_b e f = absurd (omega (arith, some))
way_is (t ∷ u ∷ us) a b p o some at_a at_b e f =
    (λ i. with_third (e i) ((f ∙ ap (read_all read_step) (take_behind (t ∷ u ∷ us) 2)) i))
    ∙ (λ i. with_third (both (λ x y. (x, y)) (read_bound (at_a i)) (read_bound (at_b i))) (read_all read_step us)) ∙ both_three (read_bound t) (read_bound u) (read_all read_step us)

-- what is made of two bounds and steps
pub way_made : {A : Type 0} (make : Bound (List ℕ) → Bound (List ℕ) → List ScanStep → A) (ts : List (List ℕ)) (p : Option (Bound (List ℕ) × Bound (List ℕ) × List ScanStep)) →
    p ≡ read_way (λ start end sts. (start, end, sts)) ts → option_map (λ (q : Bound (List ℕ) × Bound (List ℕ) × List ScanStep). make q.0 q.1 q.2) p ≡ read_way make ts
way_made {A} make ts p e = ap (option_map (λ (q : Bound (List ℕ) × Bound (List ℕ) × List ScanStep). make q.0 q.1 q.2)) e ∙ by ts
  where
    made : (a b : Option (Bound (List ℕ))) (o : Option (List ScanStep)) →
        option_map (λ (q : Bound (List ℕ) × Bound (List ℕ) × List ScanStep). make q.0 q.1 q.2) (three (λ start end sts. (start, end, sts)) a b o) ≡ three make a b o
    made None b o = refl
    made (Some a) None o = refl
    made (Some a) (Some b) None = refl
    made (Some a) (Some b) (Some sts) = refl

    by : (us : List (List ℕ)) → option_map (λ (q : Bound (List ℕ) × Bound (List ℕ) × List ScanStep). make q.0 q.1 q.2) (read_way (λ start end sts. (start, end, sts)) us) ≡ read_way make us
    by [] = refl
    by (t ∷ []) = refl
    by (t ∷ u ∷ us) = made (read_bound t) (read_bound u) (read_all read_step us)

-- what is made of a key, a value and a time to live
pub pair_made : {A : Type 0} (make : List ℕ → List ℕ → Ttl → A) (ts : List (List ℕ)) (p : Option (List ℕ × List ℕ × Ttl)) → p ≡ read_pair (λ k v ttl. (k, v, ttl)) ts →
    option_map (λ (q : List ℕ × List ℕ × Ttl). make q.0 q.1 q.2) p ≡ read_pair make ts
pair_made {A} make ts p e = ap (option_map (λ (q : List ℕ × List ℕ × Ttl). make q.0 q.1 q.2)) e ∙ by ts
  where
    made : (a b : Option (List ℕ)) (o : Option Ttl) → option_map (λ (q : List ℕ × List ℕ × Ttl). make q.0 q.1 q.2) (three (λ k v ttl. (k, v, ttl)) a b o) ≡ three make a b o
    made None b o = refl
    made (Some k) None o = refl
    made (Some k) (Some v) None = refl
    made (Some k) (Some v) (Some ttl) = refl

    by : (us : List (List ℕ)) → option_map (λ (q : List ℕ × List ℕ × Ttl). make q.0 q.1 q.2) (read_pair (λ k v ttl. (k, v, ttl)) us) ≡ read_pair make us
    by [] = refl
    by (k ∷ []) = refl
    by (k ∷ v ∷ us) = made (read_bytes k) (read_bytes v) (read_ttl us)

-- a name and a key
pub keyed_is : {A : Type 0} (make : List ℕ → List ℕ → A) (ts : List (List ℕ)) (n k : List ℕ) (p : Option (List ℕ × List ℕ)) → length ts ≡ 2 → n ≡ get_or ts 0 n → k ≡ get_or ts 1 k →
    p ≡ both (λ x y. (x, y)) (read_name n) (read_bytes k) → option_map (λ (q : List ℕ × List ℕ). make q.0 q.1) p ≡ keyed make ts
keyed_is {A} make [] n k p two at_n at_k e = absurd (omega (arith, two))
keyed_is {A} make (t ∷ []) n k p two at_n at_k e = absurd (omega (arith, two))
keyed_is {A} make (t ∷ u ∷ v ∷ us) n k p two at_n at_k e = absurd (omega (arith, two))
keyed_is {A} make (t ∷ u ∷ []) n k p two at_n at_k e =
    ap (option_map (λ (q : List ℕ × List ℕ). make q.0 q.1)) (e ∙ (λ i. both (λ x y. (x, y)) (read_name (at_n i)) (read_bytes (at_k i)))) ∙ by (read_name t) (read_bytes u)
  where
    by : (a b : Option (List ℕ)) → option_map (λ (q : List ℕ × List ℕ). make q.0 q.1) (both (λ x y. (x, y)) a b) ≡ both make a b
    by None b = refl
    by (Some x) None = refl
    by (Some x) (Some y) = refl

-- a name and a level
pub begin_read : (ts : List (List ℕ)) (n l : List ℕ) (p : Option (List ℕ)) (o : Option IsolationLevel) → length ts ≡ 2 → n ≡ get_or ts 0 n → l ≡ get_or ts 1 l →
    p ≡ read_name n → o ≡ read_level l → both lines.Begin p o ≡ built_begin ts
begin_read [] n l p o two at_n at_l e f = absurd (omega (arith, two))
begin_read (t ∷ []) n l p o two at_n at_l e f = absurd (omega (arith, two))
begin_read (t ∷ u ∷ v ∷ us) n l p o two at_n at_l e f = absurd (omega (arith, two))
begin_read (t ∷ u ∷ []) n l p o two at_n at_l e f = λ i. both lines.Begin ((e ∙ ap read_name at_n) i) ((f ∙ ap read_level at_l) i)

pub begin_unread : (ts : List (List ℕ)) (n l : List ℕ) → length ts ≡ 2 → n ≡ get_or ts 0 n → l ≡ get_or ts 1 l → read_level l ≡ None → None ≡ built_begin ts
begin_unread ts n l two at_n at_l e = nothing (read_name n) ∙ begin_read ts n l (read_name n) None two at_n at_l refl (sym e)
  where
    nothing : (p : Option (List ℕ)) → None ≡ both lines.Begin p None
    nothing None = refl
    nothing (Some x) = refl

-- a name alone
pub named_is : {A : Type 0} (make : List ℕ → A) (ts : List (List ℕ)) (n : List ℕ) (p : Option (List ℕ)) → length ts ≡ 1 → n ≡ get_or ts 0 n → p ≡ read_name n → option_map make p ≡ named make ts
named_is {A} make [] n p one at_n e = absurd (omega (arith, one))
named_is {A} make (t ∷ u ∷ us) n p one at_n e = absurd (omega (arith, one))
named_is {A} make (t ∷ []) n p one at_n e = ap (option_map make) (e ∙ ap read_name at_n)

-- a name, and one key or more
pub many_is : {A : Type 0} (make : List ℕ → List (List ℕ) → A) (ts : List (List ℕ)) (p : Option (List ℕ × List (List ℕ))) → p ≡ many_keyed (λ n ks. (n, ks)) ts →
    option_map (λ (q : List ℕ × List (List ℕ)). make q.0 q.1) p ≡ many_keyed make ts
many_is {A} make ts p e = ap (option_map (λ (q : List ℕ × List (List ℕ)). make q.0 q.1)) e ∙ by ts
  where
    made : (a : Option (List ℕ)) (b : Option (List (List ℕ))) → option_map (λ (q : List ℕ × List (List ℕ)). make q.0 q.1) (both (λ n ks. (n, ks)) a b) ≡ both make a b
    made None b = refl
    made (Some n) None = refl
    made (Some n) (Some ks) = refl

    by : (us : List (List ℕ)) → option_map (λ (q : List ℕ × List (List ℕ)). make q.0 q.1) (many_keyed (λ n ks. (n, ks)) us) ≡ many_keyed make us
    by [] = refl
    by (n ∷ []) = refl
    by (n ∷ k ∷ ks) = made (read_name n) (read_all read_bytes (k ∷ ks))

-- a key alone
pub delete_read : (ts : List (List ℕ)) (k : List ℕ) (p : Option (List ℕ)) → length ts ≡ 1 → k ≡ get_or ts 0 k → p ≡ read_bytes k →
    option_map (λ (key : List ℕ). (key, ops.Delete)) p ≡ built_delete_op ts
delete_read [] k p one at_k e = absurd (omega (arith, one))
delete_read (t ∷ u ∷ us) k p one at_k e = absurd (omega (arith, one))
delete_read (t ∷ []) k p one at_k e = ap (option_map (λ (key : List ℕ). (key, ops.Delete))) (e ∙ ap read_bytes at_k)

-- a name, an order, and a way
scan_step : {A : Type 0} (a : Option (List ℕ)) (o : Option IterationOrder) (name : List ℕ) (order : IterationOrder) (then : List ℕ → IterationOrder → Option A) → Some name ≡ a → Some order ≡ o →
    then name order ≡ (a >>= λ x. o >>= λ y. then x y)
scan_step a o name order then is_name is_order = λ i. (is_name i >>= λ x. is_order i >>= λ y. then x y)

pub scan_is : (ts : List (List ℕ)) (n t name : List ℕ) (order : IterationOrder) (p : Option (Bound (List ℕ) × Bound (List ℕ) × List ScanStep)) → 2 ≤ length ts →
    n ≡ get_or ts 0 n → t ≡ get_or ts 1 t → Some name ≡ read_name n → Some order ≡ read_order t → p ≡ read_way (λ start end sts. (start, end, sts)) (take (length ts - 2) (drop 2 ts)) →
    option_map (λ (q : Bound (List ℕ) × Bound (List ℕ) × List ScanStep). lines.Scan name order q.0 q.1 q.2) p ≡ built_scan ts
scan_is [] n t name order p some at_n at_t e f g = absurd (omega (arith, some))
scan_is (u ∷ []) n t name order p some at_n at_t e f g = absurd (omega (arith, some))
scan_is (u ∷ v ∷ us) n t name order p some at_n at_t e f g =
    way_made (lines.Scan name order) us p (g ∙ ap (read_way (λ start end sts. (start, end, sts))) (take_behind (u ∷ v ∷ us) 2))
    ∙ scan_step (read_name u) (read_order v) name order (λ x y. read_way (lines.Scan x y) us) (e ∙ ap read_name at_n) (f ∙ ap read_order at_t)

-- a name, an order, a prefix, and a way
prefix_step : {A : Type 0} (a b : Option (List ℕ)) (o : Option IterationOrder) (name prefix : List ℕ) (order : IterationOrder) (then : List ℕ → IterationOrder → List ℕ → Option A) →
    ◌≡◌ {A = Option (List ℕ × List ℕ)} (Some (name, prefix)) (both (λ x y. (x, y)) a b) → Some order ≡ o → then name order prefix ≡ (a >>= λ x. o >>= λ y. b >>= λ z. then x y z)
prefix_step None b o name prefix order then e f = none_some (name, prefix) (sym e)
prefix_step (Some x) None o name prefix order then e f = none_some (name, prefix) (sym e)
prefix_step (Some x) (Some z) o name prefix order then e f =
    let same = Some_is (name, prefix) (x, z) e in
    λ i. (f i >>= λ y. then (same i).0 y (same i).1)

prefix_none : {A : Type 0} (a b : Option (List ℕ)) (o : Option IterationOrder) (then : List ℕ → IterationOrder → List ℕ → Option A) →
    ◌≡◌ {A = Option (List ℕ × List ℕ)} None (both (λ x y. (x, y)) a b) → None ≡ (a >>= λ x. o >>= λ y. b >>= λ z. then x y z)
prefix_none None b o then e = refl
prefix_none (Some x) None None then e = refl
prefix_none (Some x) None (Some y) then e = refl
prefix_none (Some x) (Some z) o then e = none_some (x, z) e

pub prefix_is : (ts : List (List ℕ)) (n t k name prefix : List ℕ) (order : IterationOrder) (p : Option (Bound (List ℕ) × Bound (List ℕ) × List ScanStep)) → 3 ≤ length ts →
    n ≡ get_or ts 0 n → t ≡ get_or ts 1 t → k ≡ get_or ts 2 k →
    ◌≡◌ {A = Option (List ℕ × List ℕ)} (Some (name, prefix)) (both (λ x y. (x, y)) (read_name n) (read_bytes k)) → Some order ≡ read_order t →
    p ≡ read_way (λ start end sts. (start, end, sts)) (take (length ts - 3) (drop 3 ts)) →
    option_map (λ (q : Bound (List ℕ) × Bound (List ℕ) × List ScanStep). lines.Prefix name order prefix q.0 q.1 q.2) p ≡ built_prefix ts
prefix_is [] n t k name prefix order p some at_n at_t at_k e f g = absurd (omega (arith, some))
prefix_is (u ∷ []) n t k name prefix order p some at_n at_t at_k e f g = absurd (omega (arith, some))
prefix_is (u ∷ v ∷ []) n t k name prefix order p some at_n at_t at_k e f g = absurd (omega (arith, some))
prefix_is (u ∷ v ∷ w ∷ us) n t k name prefix order p some at_n at_t at_k e f g =
    way_made (lines.Prefix name order prefix) us p (g ∙ ap (read_way (λ start end sts. (start, end, sts))) (take_behind (u ∷ v ∷ w ∷ us) 3))
    ∙ prefix_step (read_name u) (read_bytes w) (read_order v) name prefix order (λ x y z. read_way (lines.Prefix x y z) us)
    (e ∙ (λ i. both (λ x y. (x, y)) (read_name (at_n i)) (read_bytes (at_k i)))) (f ∙ ap read_order at_t)

pub prefix_unread : (ts : List (List ℕ)) (n k : List ℕ) → 3 ≤ length ts → n ≡ get_or ts 0 n → k ≡ get_or ts 2 k →
    ◌≡◌ {A = Option (List ℕ × List ℕ)} None (both (λ x y. (x, y)) (read_name n) (read_bytes k)) → None ≡ built_prefix ts
prefix_unread [] n k some at_n at_k e = absurd (omega (arith, some))
prefix_unread (u ∷ []) n k some at_n at_k e = absurd (omega (arith, some))
prefix_unread (u ∷ v ∷ []) n k some at_n at_k e = absurd (omega (arith, some))
prefix_unread (u ∷ v ∷ w ∷ us) n k some at_n at_k e =
    prefix_none (read_name u) (read_bytes w) (read_order v) (λ x y z. read_way (lines.Prefix x y z) us) (e ∙ (λ i. both (λ x y. (x, y)) (read_name (at_n i)) (read_bytes (at_k i))))
