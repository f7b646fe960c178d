-- The newest rows of a key, layer by layer.
use Rattle.std.proofs.Common.{◌≡◌, ℕ, zero, suc, ◌+◌, ◌-◌, ◌<◌, ◌≤◌, Bool, true, false, cond, ◌&&◌, List, [], ◌∷◌, ◌++◌, length, get_or, take, drop, map, reverse, refl, sym, ap, ◌∙◌, arith, bytes_eq, nat_le, append-nil, append_assoc}
use Rattle.std.specs.Prelude.{flat_map, slice_get}
use Rattle.std.proofs.lemmas.Grind.{flat_map-append}
use Rattle.std.proofs.lemmas.List.{drop_all, reverse-append, take-append-drop}
use Rattle.std.proofs.lemmas.List.Elements.{filter-append}
use Rattle.slate_types.specs.declared.types.RowEntry.{RowEntry}
use Rattle.slate_types.specs.Rows.{is_base}
use Rattle.slate_mem.specs.Table.{to_base, up_to, newest}
use Rattle.slate_mem.specs.Lookup.{is_last_base, is_decided, newest_first}

-- ---- rows to the first that decides

decided_more : (r x : RowEntry) (xs : List RowEntry) → is_decided (r ∷ x ∷ xs) ≡ is_decided (x ∷ xs)
decided_more r x xs =
    ap (λ n. is_last_base (slice_get (r ∷ x ∷ xs) n)) (let e : length (r ∷ x ∷ xs) - 1 ≡ suc (length xs) = omega arith in e)
    ∙ ap (λ n. is_last_base (slice_get (x ∷ xs) n)) (let e : length xs ≡ length (x ∷ xs) - 1 = omega arith in e)

pub base_rest : (xs ys : List RowEntry) → cond (is_decided (to_base xs)) (to_base xs) (to_base xs ++ to_base ys) ≡ to_base (xs ++ ys)
base_rest [] ys = refl
base_rest (r ∷ rs) ys = by (is_base r) refl (base_rest rs ys)
  where
    push : (t : Bool) (bs cs ds : List RowEntry) → cond t bs cs ≡ ds → cond t (r ∷ bs) (r ∷ cs) ≡ r ∷ ds
    push true bs cs ds h = ap (λ xs. r ∷ xs) h
    push false bs cs ds h = ap (λ xs. r ∷ xs) h

    tail : is_base r ≡ false → (bs : List RowEntry) → cond (is_decided bs) bs (bs ++ to_base ys) ≡ to_base (rs ++ ys) → cond (is_decided (r ∷ bs)) (r ∷ bs) (r ∷ (bs ++ to_base ys)) ≡ r ∷ to_base (rs ++ ys)
    tail is [] h = ap (λ t. cond t (r ∷ []) (r ∷ to_base ys)) is ∙ ap (λ xs. r ∷ xs) h
    tail is (x ∷ xs) h = ap (λ t. cond t (r ∷ x ∷ xs) (r ∷ ((x ∷ xs) ++ to_base ys))) (decided_more r x xs) ∙ push (is_decided (x ∷ xs)) (x ∷ xs) ((x ∷ xs) ++ to_base ys) (to_base (rs ++ ys)) h

    by : (b : Bool) → is_base r ≡ b → cond (is_decided (to_base rs)) (to_base rs) (to_base rs ++ to_base ys) ≡ to_base (rs ++ ys) →
        cond (is_decided (cond b (r ∷ []) (r ∷ to_base rs))) (cond b (r ∷ []) (r ∷ to_base rs)) (cond b (r ∷ []) (r ∷ to_base rs) ++ to_base ys) ≡ cond b (r ∷ []) (r ∷ to_base (rs ++ ys))
    by true is rest = ap (λ t. cond t (r ∷ []) ((r ∷ []) ++ to_base ys)) is
    by false is rest = tail is (to_base rs) rest

pub both : (k : List ℕ) (n : ℕ) (xs ys : List RowEntry) → up_to k n (xs ++ ys) ≡ up_to k n xs ++ up_to k n ys
both k n xs ys = filter-append (λ r. bytes_eq r.key k && nat_le r.seq n) xs ys

newest_both : (k : List ℕ) (n : ℕ) (xs ys : List RowEntry) → cond (is_decided (newest k n xs)) (newest k n xs) (newest k n xs ++ newest k n ys) ≡ newest k n (xs ++ ys)
newest_both k n xs ys = base_rest (up_to k n xs) (up_to k n ys) ∙ ap to_base (sym (both k n xs ys))

-- where the last row decides, older rows don't count
pub stays : (k : List ℕ) (n : ℕ) (xs ys found : List RowEntry) → found ≡ newest k n xs → is_decided found ≡ true → found ≡ newest k n (xs ++ ys)
stays k n xs ys found h d = h ∙ sym (ap (λ t. cond t (newest k n xs) (newest k n xs ++ newest k n ys)) (ap is_decided (sym h) ∙ d)) ∙ newest_both k n xs ys

pub goes_on : (k : List ℕ) (n : ℕ) (xs ys found : List RowEntry) → found ≡ newest k n xs → is_decided found ≡ false → found ++ newest k n ys ≡ newest k n (xs ++ ys)
goes_on k n xs ys found h d =
    ap (λ f. f ++ newest k n ys) h ∙ sym (ap (λ t. cond t (newest k n xs) (newest k n xs ++ newest k n ys)) (ap is_decided (sym h) ∙ d)) ∙ newest_both k n xs ys

-- ---- layers

pub first_more : (x : List RowEntry) (layers : List (List RowEntry)) → newest_first (x ∷ layers) ≡ newest_first layers ++ x
first_more x layers =
    ap (λ ls. flat_map (λ rows. rows) ls) (reverse-append (x ∷ []) layers)
    ∙ flat_map-append (λ rows. rows) (reverse layers) (x ∷ [])
    ∙ ap (λ ys. newest_first layers ++ ys) (append-nil x)

pub first_both : (older newer : List (List RowEntry)) → newest_first (older ++ newer) ≡ newest_first newer ++ newest_first older
first_both [] newer = sym (append-nil (newest_first newer))
first_both (x ∷ older) newer =
    first_more x (older ++ newer) ∙ ap (λ ys. ys ++ x) (first_both older newer)
    ∙ append_assoc (newest_first newer) (newest_first older) x
    ∙ ap (λ ys. newest_first newer ++ ys) (sym (first_more x older))

-- ---- one layer more

pub layers_begin : (k : List ℕ) (n i : ℕ) (above found : List RowEntry) (layers : List (List RowEntry)) → found ≡ newest k n above → length layers ≡ i → found ≡ newest k n (above ++ newest_first (drop i layers))
layers_begin k n i above found layers h e =
    h ∙ ap (newest k n) (sym (append-nil above)) ∙ ap (λ ls. newest k n (above ++ newest_first ls)) (sym (drop_all i layers (omega (arith, e))))

pub layer_step : (k : List ℕ) (n i : ℕ) (above found more all rows : List RowEntry) (layers : List (List RowEntry)) → drop i layers ≡ rows ∷ drop (i + 1) layers → found ≡ newest k n (above ++ newest_first (drop (i + 1) layers)) → is_decided found ≡ false →
    more ≡ newest k n rows → all ≡ found ++ more → all ≡ newest k n (above ++ newest_first (drop i layers))
layer_step k n i above found more all rows layers here h d m is =
    is ∙ ap (λ ys. found ++ ys) m ∙ goes_on k n (above ++ newest_first (drop (i + 1) layers)) rows found h d
    ∙ ap (newest k n) (append_assoc above (newest_first (drop (i + 1) layers)) rows ∙ ap (λ ys. above ++ ys) (sym (first_more rows (drop (i + 1) layers)) ∙ ap newest_first (sym here)))

-- the layers that were looked at decide, or are all
pub layers_decide : (k : List ℕ) (n i : ℕ) (above found : List RowEntry) (layers : List (List RowEntry)) → found ≡ newest k n (above ++ newest_first (drop i layers)) → is_decided found ≡ true → found ≡ newest k n (above ++ newest_first layers)
layers_decide k n i above found layers h d =
    stays k n (above ++ newest_first (drop i layers)) (newest_first (take i layers)) found h d
    ∙ ap (newest k n) (append_assoc above (newest_first (drop i layers)) (newest_first (take i layers)) ∙ ap (λ ys. above ++ ys) (sym (first_both (take i layers) (drop i layers)) ∙ ap newest_first (take-append-drop i layers)))

pub layers_end : (k : List ℕ) (n i : ℕ) (above found : List RowEntry) (layers : List (List RowEntry)) → found ≡ newest k n (above ++ newest_first (drop i layers)) → i ≤ 0 → found ≡ newest k n (above ++ newest_first layers)
layers_end k n i above found layers h e = h ∙ ap (λ j. newest k n (above ++ newest_first (drop j layers))) (let z : i ≡ 0 = omega (arith, e) in z)

pub mapped_here : {X Y : Type 0} (f : X → Y) (xs : List X) (i : ℕ) (x : X) → x ≡ get_or xs i x → i < length xs → drop i (map f xs) ≡ f x ∷ drop (i + 1) (map f xs)
mapped_here f [] i x is h = absurd (omega (arith, h))
mapped_here f (y ∷ ys) zero x is h = ap (λ z. f z ∷ map f ys) (sym is)
mapped_here f (y ∷ ys) (suc i) x is h =
    let place : suc (i + 1) ≡ suc i + 1 = omega arith in
    mapped_here f ys i x is (omega (arith, h)) ∙ ap (λ n. f x ∷ drop n (map f (y ∷ ys))) place
