use Rattle.std.proofs.Common.{rules, ◌<◌, ℕ, sym, ap, subst}
use Rattle.slate_shared.proofs.Moves.{splits}
use Rattle.slate_shared.proofs.pass.Pass.split.Goals as goal

pub split_seat-seat-requires : goal.split_seat-seat-requires
split_seat-seat-requires g c =
    (search rules, search rules, splits _ _ (subst (λ (n : ℕ). 1 < n) (sym (ap (λ p. p.parts) c.self.view_is)) c.requires.1))
