-- The rows that steps of an iterator brought.
use Rattle.std.proofs.Common.{◌≡◌, ◌⊎◌, inl, inr, ℕ, zero, suc, Bool, true, false, cond, ◌&&◌, bytes_eq, nat_le, filter, List, [], ◌∷◌, ◌++◌, Option, Some, sym, subst, arith}
use Rattle.std.specs.Prelude.{Contains}
use Rattle.std.specs.List.{AllByRecursion}
use Rattle.std.proofs.lemmas.List.Elements.{Contains-append_left, Contains-append_right, Contains-push}
use Rattle.slate_types.specs.declared.types.RowEntry.{RowEntry}
use Rattle.slate_types.specs.Iteration.{Steps}
use Rattle.slate_types.specs.Outside.{Act, Meaning, no_parts}
use Rattle.slate_types.specs.Rows.{is_base}
use Rattle.slate_types.proofs.IterationLaws.{steps_more}
use Rattle.slate_types.proofs.Lists.{AllByRecursion_append}
use Rattle.slate_mem.specs.Lookup.{Brings}
use Rattle.slate_mem.specs.Table.{newest, to_base, up_to}

-- up to where the iterator stands
abbrev pub Brought : {A : Type 0} → (A → Option RowEntry → A → Type 0) → A → List RowEntry → A → Type 0
Brought {A} step before found after = (rows : List RowEntry) × Steps step before rows after × AllByRecursion (Contains rows) found

wider : (rows : List RowEntry) (row : RowEntry) (found : List RowEntry) → AllByRecursion (Contains rows) found → AllByRecursion (Contains (rows ++ (row ∷ []))) found
wider rows row [] h = tt
wider rows row (r ∷ rs) h = (Contains-append_left rows (row ∷ []) r h.0, wider rows row rs h.1)

brought_on : {A : Type 0} (step : A → Option RowEntry → A → Type 0) (before now after : A) (row : RowEntry) (found more : List RowEntry) → Brought step before found now → step now (Some row) after → (more ≡ found) ⊎ (more ≡ found ++ (row ∷ [])) → Brought step before more after
brought_on step before now after row found more (rows, steps, each) s is = (rows ++ (row ∷ []), steps_more step before now after rows row steps s, by is)
  where
    by : (more ≡ found) ⊎ (more ≡ found ++ (row ∷ [])) → AllByRecursion (Contains (rows ++ (row ∷ []))) more
    by (inl same) = subst (AllByRecursion (Contains (rows ++ (row ∷ [])))) (sym same) (wider rows row found each)
    by (inr one) = subst (AllByRecursion (Contains (rows ++ (row ∷ [])))) (sym one) (AllByRecursion_append (Contains (rows ++ (row ∷ []))) found (row ∷ []) (wider rows row found each) (Contains-push rows row, tt))

-- of an iterator that reaches nothing outside
pub brought_more : {A : Type 0} (takes : A → Meaning → List Act → Option RowEntry → A → Type 0) (before now after : A) (row : RowEntry) (found more : List RowEntry) → Brought (λ u answer v. (reads : List Act) × takes u no_parts reads answer v) before found now →
    (reads : List Act) → takes now no_parts reads (Some row) after → (more ≡ found) ⊎ (more ≡ found ++ (row ∷ [])) → Brought (λ u answer v. (reads : List Act) × takes u no_parts reads answer v) before more after
brought_more takes before now after row found more b reads h is = brought_on (λ u answer v. (reads : List Act) × takes u no_parts reads answer v) before now after row found more b (reads, h) is

pub brings : {A : Type 0} (takes : A → Meaning → List Act → Option RowEntry → A → Type 0) (before after : A) (found : List RowEntry) → Brought (λ u answer v. (reads : List Act) × takes u no_parts reads answer v) before found after →
    Brings (λ u answer v. (reads : List Act) × takes u no_parts reads answer v) before found
brings takes before after found b = (b.0, after, b.1, b.2)

-- ---- the newest rows of a key are among all

-- behind the first row
first_or : (x r : RowEntry) (xs ys : List RowEntry) → (Contains ys r → Contains xs r) → Contains (x ∷ ys) r → Contains (x ∷ xs) r
first_or x r xs ys next (zero, lt, is) = (0, omega arith, is)
first_or x r xs ys next (suc k, lt, is) = Contains-append_right (x ∷ []) xs r (next (k, omega (arith, lt), is))

base_among : (rows : List RowEntry) (r : RowEntry) → Contains (to_base rows) r → Contains rows r
base_among [] r (k, lt, is) = absurd (omega (arith, lt))
base_among (x ∷ xs) r among = by (is_base x) (base_among xs r) among
  where
    by : (t : Bool) → (Contains (to_base xs) r → Contains xs r) → Contains (cond t (x ∷ []) (x ∷ to_base xs)) r → Contains (x ∷ xs) r
    by true next h = Contains-append_left (x ∷ []) xs r h
    by false next h = first_or x r xs (to_base xs) next h

kept_among : (t : RowEntry → Bool) (rows : List RowEntry) (r : RowEntry) → Contains (filter t rows) r → Contains rows r
kept_among t [] r (k, lt, is) = absurd (omega (arith, lt))
kept_among t (x ∷ xs) r among = by (t x) (kept_among t xs r) among
  where
    by : (b : Bool) → (Contains (filter t xs) r → Contains xs r) → Contains (cond b (x ∷ filter t xs) (filter t xs)) r → Contains (x ∷ xs) r
    by false next h = Contains-append_right (x ∷ []) xs r (next h)
    by true next h = first_or x r xs (filter t xs) next h

pub newest_among : (k : List ℕ) (n : ℕ) (rows : List RowEntry) (r : RowEntry) → Contains (newest k n rows) r → Contains rows r
newest_among k n rows r among = kept_among (λ r. bytes_eq r.key k && nat_le r.seq n) rows r (base_among (up_to k n rows) r among)
