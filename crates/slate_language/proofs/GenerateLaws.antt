-- The rounds of a script, one after another.
use Rattle.std.proofs.Common.{◌≡◌, ℕ, suc, ◌+◌, ◌-◌, ◌<◌, List, ◌++◌, sym, ap, ◌∙◌, arith, append_assoc, append-nil}
use Rattle.slate_language.specs.Generate.{drawn, round, rounds}

-- the rounds that are made, with one more, and those that will be
pub one_round : (n done s x : ℕ) (script next : List ℕ) → done < n → script ++ rounds (done + 1) (n - done) x ≡ rounds 1 n s
    → next ≡ script ++ round (done + 1) (drawn x) (drawn (drawn x)) → next ++ rounds (done + 1 + 1) (n - (done + 1)) (drawn (drawn x)) ≡ rounds 1 n s
one_round n done s x script next more made is =
    let left : n - done ≡ suc (n - (done + 1)) = omega arith in
    ap (λ bs. bs ++ rounds (done + 1 + 1) (n - (done + 1)) (drawn (drawn x))) is
    ∙ append_assoc script (round (done + 1) (drawn x) (drawn (drawn x))) (rounds (done + 1 + 1) (n - (done + 1)) (drawn (drawn x)))
    ∙ ap (λ m. script ++ rounds (done + 1) m x) (sym left) ∙ made

-- where none will be
pub all_rounds : (n done s x : ℕ) (script : List ℕ) → n - done ≡ 0 → script ++ rounds (done + 1) (n - done) x ≡ rounds 1 n s → script ≡ rounds 1 n s
all_rounds n done s x script none made = sym (append-nil script) ∙ ap (λ m. script ++ rounds (done + 1) m x) (sym none) ∙ made
