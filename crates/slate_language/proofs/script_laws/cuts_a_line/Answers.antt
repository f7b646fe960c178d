use Rattle.std.proofs.Common.{◌≡◌, ℕ, Bool, true, false, cond, not, ◌&&◌, ◌==◌, List, [], ◌∷◌, ◌++◌, refl, ap, ◌∙◌}
use Rattle.std.specs.List.{list_all}
use Rattle.slate_store.specs.Lines.{lines_of, before_lines, prepend_byte}
use Rattle.slate_language.proofs.script_laws.cuts_a_line.Goals as goal

first : (a b : Bool) → (not a && b) ≡ true → (a ≡ false) × (b ≡ true)
first true b h = cc
first false b h = (refl, h)

cut : (line rest : List ℕ) → list_all (λ b. not (b == 10)) line ≡ true → lines_of (line ++ (10 ∷ rest)) ≡ line ∷ lines_of rest
cut [] rest h = refl
cut (b ∷ bs) rest h =
    let parts = first (b == 10) (list_all (λ c. not (c == 10)) bs) h in
    ap (before_lines b) (cut bs rest parts.1)
    ∙ ap (λ t. cond t ([] ∷ bs ∷ lines_of rest) (prepend_byte b (bs ∷ lines_of rest))) parts.0

pub returns : goal.returns
returns c = cut
