-- Rows that are found behind own operands.
use Rattle.std.proofs.Common.{◌≡◌, ◌≢◌, ◌||◌, append-nil, ℕ, suc, ◌+◌, ◌-◌, ◌≤◌, Bool, true, false, not, List, [], ◌∷◌, ◌++◌, length, drop, refl, sym, ap, ◌∙◌, arith, append_assoc}
use Rattle.std.specs.Prelude.{slice_get}
use Rattle.std.specs.List.{AllByRecursion}
use Rattle.std.proofs.lemmas.List.Folds.{list_any-append}
use Rattle.slate_types.specs.declared.types.RowEntry.{RowEntry}
use Rattle.slate_types.specs.Rows.{is_base, is_operand}
use Rattle.slate_mem.specs.Table.{newest}
use Rattle.slate_mem.specs.Lookup.{is_last_base, is_decided, is_merge_among, newest_first}
use Rattle.slate_mem.proofs.LayerLaws.{layer_step, layers_begin, layers_decide, layers_end, first_both, stays}
use Rattle.slate_db.specs.Lookup.{Extends}
use Rattle.slate_db.specs.Model.{CoreModel, Rows, memory}

-- ---- what decides

decided_more : (r x : RowEntry) (xs : Rows) → is_decided (r ∷ x ∷ xs) ≡ is_decided (x ∷ xs)
decided_more r x xs =
    ap (λ n. is_last_base (slice_get (r ∷ x ∷ xs) n)) (let e : length (r ∷ x ∷ xs) - 1 ≡ suc (length xs) = omega arith in e)
    ∙ ap (λ n. is_last_base (slice_get (x ∷ xs) n)) (let e : length xs ≡ length (x ∷ xs) - 1 = omega arith in e)

pub decided_last : (xs : Rows) (r : RowEntry) → is_decided (xs ++ (r ∷ [])) ≡ is_base r
decided_last [] r = refl
decided_last (x ∷ []) r = decided_more x r []
decided_last (x ∷ y ∷ ys) r = decided_more x y (ys ++ (r ∷ [])) ∙ decided_last (y ∷ ys) r

pub decided_behind : (own xs : Rows) → AllByRecursion (λ r. is_operand r ≡ true) own → is_decided (own ++ xs) ≡ is_decided xs
decided_behind [] xs h = refl
decided_behind (o ∷ os) xs h = by (os ++ xs) (decided_behind os xs h.1)
  where
    by : (zs : Rows) → is_decided zs ≡ is_decided xs → is_decided (o ∷ zs) ≡ is_decided xs
    by [] e = ap not h.0 ∙ e
    by (z ∷ zs) e = decided_more o z zs ∙ e

-- ---- what is behind newer rows

pub extends_none : (newer : Rows) → Extends newer newer
extends_none newer = ([], sym (append-nil newer))

pub extends_more : (newer found more all : Rows) → Extends newer found → all ≡ found ++ more → Extends newer all
extends_more newer found more all h is = (h.0 ++ more, is ∙ ap (λ xs. xs ++ more) h.1 ∙ append_assoc newer h.0 more)

pub extends_both : (newer found all : Rows) → Extends newer found → Extends found all → Extends newer all
extends_both newer found all h k = extends_more newer found k.0 all h k.1

-- an operand that was found first is still there
pub operand_found : (own near found : Rows) → AllByRecursion (λ r. is_operand r ≡ true) own → own ≢ [] → Extends (own ++ near) found → is_merge_among found ≡ true
operand_found [] near found operands some h = absurd (some refl)
operand_found (o ∷ os) near found operands some h = ap is_merge_among h.1 ∙ ap (λ b. b || is_merge_among ((os ++ near) ++ h.0)) operands.0

-- the rows in memory
pub memory_first : (c : CoreModel) → newest_first (memory c) ≡ c.active ++ newest_first c.frozen
memory_first c = first_both c.frozen (c.active ∷ []) ∙ ap (λ (xs : Rows). xs ++ newest_first c.frozen) (append-nil c.active)

-- and so is one behind own rows
pub merge_found : (own near found : Rows) → is_merge_among near ≡ true → Extends (own ++ near) found → is_merge_among found ≡ true
merge_found own near found some h =
    ap is_merge_among h.1
    ∙ list_any-append is_operand (own ++ near) h.0
    ∙ ap (λ b. b || is_merge_among h.0) (list_any-append is_operand own near ∙ ap (λ b. is_merge_among own || b) some ∙ or_true (is_merge_among own))
  where
    or_true : (b : Bool) → (b || true) ≡ true
    or_true true = refl
    or_true false = refl

module _ (k : List ℕ) (n : ℕ) (own : Rows) (operands : AllByRecursion (λ r. is_operand r ≡ true) own) where
  rest_decided : (xs found : Rows) (b : Bool) → found ≡ own ++ xs → is_decided found ≡ b → is_decided xs ≡ b
  rest_decided xs found b h d = sym (decided_behind own xs operands) ∙ ap is_decided (sym h) ∙ d

  -- ---- layers

  pub behind_begin : (i : ℕ) (above found : Rows) (layers : List Rows) → found ≡ own ++ newest k n above → length layers ≡ i → found ≡ own ++ newest k n (above ++ newest_first (drop i layers))
  behind_begin i above found layers h e = h ∙ ap (λ xs. own ++ xs) (layers_begin k n i above (newest k n above) layers refl e)

  pub behind_step : (i : ℕ) (above found more all rows : Rows) (layers : List Rows) → drop i layers ≡ rows ∷ drop (i + 1) layers → found ≡ own ++ newest k n (above ++ newest_first (drop (i + 1) layers)) → is_decided found ≡ false →
      more ≡ newest k n rows → all ≡ found ++ more → all ≡ own ++ newest k n (above ++ newest_first (drop i layers))
  behind_step i above found more all rows layers here h d m is =
      let so_far : Rows = newest k n (above ++ newest_first (drop (i + 1) layers)) in
      is ∙ ap (λ xs. xs ++ more) h ∙ append_assoc own so_far more
      ∙ ap (λ xs. own ++ xs) (layer_step k n i above so_far more (so_far ++ more) rows layers here refl (rest_decided so_far found false h d) m refl)

  pub behind_decide : (i : ℕ) (above found : Rows) (layers : List Rows) → found ≡ own ++ newest k n (above ++ newest_first (drop i layers)) → is_decided found ≡ true → found ≡ own ++ newest k n (above ++ newest_first layers)
  behind_decide i above found layers h d =
      let so_far : Rows = newest k n (above ++ newest_first (drop i layers)) in
      h ∙ ap (λ xs. own ++ xs) (layers_decide k n i above so_far layers refl (rest_decided so_far found true h d))

  pub behind_end : (i : ℕ) (above found : Rows) (layers : List Rows) → found ≡ own ++ newest k n (above ++ newest_first (drop i layers)) → i ≤ 0 → found ≡ own ++ newest k n (above ++ newest_first layers)
  behind_end i above found layers h e = h ∙ ap (λ xs. own ++ xs) (layers_end k n i above (newest k n (above ++ newest_first (drop i layers))) layers refl e)

  -- where the last row decides, older rows don't count
  pub behind_stays : (xs ys found : Rows) → found ≡ own ++ newest k n xs → is_decided found ≡ true → found ≡ own ++ newest k n (xs ++ ys)
  behind_stays xs ys found h d = h ∙ ap (λ zs. own ++ zs) (stays k n xs ys (newest k n xs) refl (rest_decided (newest k n xs) found true h d))
