-- Lines, read token by token.
use Rattle.std.proofs.Common.{◌≡◌, ℕ, List, [], ◌∷◌, get_or, length, Option, Some, None, option_map, refl, sym, ap, ◌∙◌, arith}
use Rattle.std.specs.Prelude.{nat_le}
use Rattle.slate_language.specs.Parse.{both, only_if, read_bytes, ◌>>=◌}
use Rattle.slate_index.specs.declared.line.Line.TheVariants as lines
use Rattle.slate_index.specs.Entries.{FieldsModel, longest_field}
use Rattle.slate_index.specs.Script.{delete_line, field_in, find_line, name_in, number_in, put_line}

-- ---- by the tokens behind it

pub put_read : (ts : List (List ℕ)) (t u : List ℕ) (p : Option (List ℕ × List ℕ)) → length ts ≡ 2 → t ≡ get_or ts 0 t → u ≡ get_or ts 1 u → p ≡ both (λ x y. (x, y)) (name_in t) (read_bytes u) →
    option_map (λ (q : List ℕ × List ℕ). lines.Put q.0 q.1) p ≡ put_line ts
put_read [] t u p two at_t at_u e = absurd (omega (arith, two))
put_read (x ∷ []) t u p two at_t at_u e = absurd (omega (arith, two))
put_read (x ∷ y ∷ z ∷ zs) t u p two at_t at_u e = absurd (omega (arith, two))
put_read (x ∷ y ∷ []) t u p two at_t at_u e =
    ap (option_map (λ (q : List ℕ × List ℕ). lines.Put q.0 q.1)) (e ∙ (λ i. both (λ n v. (n, v)) (name_in (at_t i)) (read_bytes (at_u i)))) ∙ by (name_in x) (read_bytes y)
  where
    by : (a b : Option (List ℕ)) → option_map (λ (q : List ℕ × List ℕ). lines.Put q.0 q.1) (both (λ n v. (n, v)) a b) ≡ both lines.Put a b
    by None b = refl
    by (Some n) None = refl
    by (Some n) (Some v) = refl

pub delete_read : (ts : List (List ℕ)) (t : List ℕ) (a : Option (List ℕ)) → length ts ≡ 1 → t ≡ get_or ts 0 t → a ≡ name_in t → option_map lines.Delete a ≡ delete_line ts
delete_read [] t a one at_t e = absurd (omega (arith, one))
delete_read (x ∷ y ∷ ys) t a one at_t e = absurd (omega (arith, one))
delete_read (x ∷ []) t a one at_t e = ap (option_map lines.Delete) (e ∙ ap name_in at_t)

pub find_read : (fs : FieldsModel) (ts : List (List ℕ)) (t u : List ℕ) (a : Option ℕ) (b : Option (List ℕ)) → length ts ≡ 2 → t ≡ get_or ts 0 t → u ≡ get_or ts 1 u → a ≡ number_in fs t → b ≡ field_in u → both lines.Find a b ≡ find_line fs ts
find_read fs [] t u a b two at_t at_u e f = absurd (omega (arith, two))
find_read fs (x ∷ []) t u a b two at_t at_u e f = absurd (omega (arith, two))
find_read fs (x ∷ y ∷ z ∷ zs) t u a b two at_t at_u e f = absurd (omega (arith, two))
find_read fs (x ∷ y ∷ []) t u a b two at_t at_u e f = λ i. both lines.Find ((e ∙ ap (number_in fs) at_t) i) ((f ∙ ap field_in at_u) i)

-- ---- tokens

pub no_field : (t : List ℕ) → read_bytes t ≡ None → None ≡ field_in t
no_field t is = ap (λ (o : Option (List ℕ)). o >>= λ f. only_if (nat_le (length f) longest_field) f) (sym is)

pub field_read : (t f : List ℕ) → read_bytes t ≡ Some f → only_if (nat_le (length f) longest_field) f ≡ field_in t
field_read t f is = ap (λ (o : Option (List ℕ)). o >>= λ f. only_if (nat_le (length f) longest_field) f) (sym is)

-- no number of an index
pub find_unread : (fs : FieldsModel) (ts : List (List ℕ)) (t u : List ℕ) → length ts ≡ 2 → t ≡ get_or ts 0 t → u ≡ get_or ts 1 u → number_in fs t ≡ None → None ≡ find_line fs ts
find_unread fs ts t u two at_t at_u e = find_read fs ts t u None (field_in u) two at_t at_u (sym e) refl
