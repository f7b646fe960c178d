-- Folding rows at or below a barrier changes nothing that is seen from the barrier on.
use Rattle.std.proofs.Common.{◌≡◌, ℕ, ◌≤◌, max, Bool, true, false, cond, leb, List, [], ◌∷◌, ◌++◌, Option, option_to_list, refl, sym, ap, subst, ◌∙◌, arith}
use Rattle.std.specs.List.{AllByRecursion}
use Rattle.std.proofs.lemmas.Bool.{le-leb}
use Rattle.slate_types.specs.declared.types.ValueDeletable.{ValueDeletable}
use Rattle.slate_types.specs.declared.types.ValueDeletable.TheVariants.{Value, Merge, Tombstone}
use Rattle.slate_types.specs.declared.types.RowEntry.{RowEntry}
use Rattle.slate_types.specs.Fold.{Combine, fold_rows, AreShort, IsLawful, KeepsShort}
use Rattle.slate_types.specs.Join.{picked, join}
use Rattle.slate_types.specs.Laws.{rows_to}
use Rattle.slate_types.proofs.FoldLaws.{fold_joins, fold_middle, joins}

abbrev AreUpTo : ℕ → List RowEntry → Type 0
AreUpTo b rows = AllByRecursion (λ r. r.seq ≤ b) rows

picked_upto : (v : ValueDeletable) (b x y : ℕ) → x ≤ b → y ≤ b → picked v (max x y) y ≤ b
picked_upto (Value v) b x y h k = k
picked_upto Tombstone b x y h k = k
picked_upto (Merge v) b x y h k = omega (arith, h, k)

joins_upto : (c : Combine) (b : ℕ) (r : RowEntry) (rs : List RowEntry) → r.seq ≤ b → AreUpTo b rs → (joins c r rs).seq ≤ b
joins_upto c b r [] h hs = h
joins_upto c b r (s ∷ rs) h hs = joins_upto c b (join c r s) rs (picked_upto s.value b r.seq s.seq h hs.0) hs.1

fold_upto : (c : Combine) → IsLawful c → KeepsShort c → (b : ℕ) (rows : List RowEntry) → AreShort rows → AreUpTo b rows → AreUpTo b (option_to_list (fold_rows c rows))
fold_upto c law keeps b [] short h = tt
fold_upto c law keeps b (r ∷ rs) short h =
    let P : Option RowEntry → Type 0 = λ o. AreUpTo b (option_to_list o) in
    subst P (sym (fold_joins c law keeps r rs short.0 short.1)) (joins_upto c b r rs h.0 h.1, tt)

rows_to_append : (n : ℕ) (xs ys : List RowEntry) → rows_to n (xs ++ ys) ≡ rows_to n xs ++ rows_to n ys
rows_to_append n [] ys = refl
rows_to_append n (x ∷ xs) ys = by (leb x.seq n) (rows_to_append n xs ys)
  where
    by : (t : Bool) → rows_to n (xs ++ ys) ≡ rows_to n xs ++ rows_to n ys → cond t (x ∷ rows_to n (xs ++ ys)) (rows_to n (xs ++ ys)) ≡ cond t (x ∷ rows_to n xs) (rows_to n xs) ++ rows_to n ys
    by true later = ap (λ rs. x ∷ rs) later
    by false later = later

rows_to_all : (b n : ℕ) → b ≤ n → (rows : List RowEntry) → AreUpTo b rows → rows_to n rows ≡ rows
rows_to_all b n below [] h = refl
rows_to_all b n below (r ∷ rs) h =
    ap (λ t. cond t (r ∷ rows_to n rs) (rows_to n rs)) (le-leb r.seq n (omega (arith, below, h.0))) ∙ ap (λ qs. r ∷ qs) (rows_to_all b n below rs h.1)

rows_to_short : (n : ℕ) (rows : List RowEntry) → AreShort rows → AreShort (rows_to n rows)
rows_to_short n [] h = tt
rows_to_short n (r ∷ rs) h = by (leb r.seq n) (rows_to_short n rs h.1)
  where
    by : (t : Bool) → AreShort (rows_to n rs) → AreShort (cond t (r ∷ rows_to n rs) (rows_to n rs))
    by true later = (h.0, later)
    by false later = later

parts : (b n : ℕ) → b ≤ n → (older low high : List RowEntry) → AreUpTo b low → rows_to n (older ++ (low ++ high)) ≡ rows_to n older ++ (low ++ rows_to n high)
parts b n below older low high h =
    rows_to_append n older (low ++ high)
    ∙ ap (λ rs. rows_to n older ++ rs) (rows_to_append n low high ∙ ap (λ rs. rs ++ rows_to n high) (rows_to_all b n below low h))

pub flush_keeps : (c : Combine) → IsLawful c → KeepsShort c → (b n : ℕ) → b ≤ n → (older low high : List RowEntry) → AreShort older → AreShort low → AreShort high → AreUpTo b low →
    fold_rows c (rows_to n (older ++ (low ++ high))) ≡ fold_rows c (rows_to n (older ++ (option_to_list (fold_rows c low) ++ high)))
flush_keeps c law keeps b n below older low high ho hl hh upto =
    ap (fold_rows c) (parts b n below older low high upto)
    ∙ fold_middle c law keeps (rows_to n older) low (rows_to n high) (rows_to_short n older ho) hl (rows_to_short n high hh)
    ∙ sym (ap (fold_rows c) (parts b n below older (option_to_list (fold_rows c low)) high (fold_upto c law keeps b low hl upto)))
