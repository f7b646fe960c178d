use Rattle.std.proofs.Common.{◌≡◌, ◌-◌, List, ℕ, Some}
use Rattle.slate_store.specs.Lines.{script_limit, KeepsAll, HasNoEnd}
use Rattle.slate_store.specs.Held.{model_of, held_bytes, IsWhole}
use Rattle.slate_store.proofs.lines.Held.next.Given as goal

abbrev pub invariant-loop-line : goal.invariant-loop-line
invariant-loop-line g l = record {
  whole : IsWhole l.self;
  given : (model_of l.self).given ≡ (model_of l.initial.self).given;
  told : (left : List ℕ) → g.R.Source.left l.initial.source ≡ Some left →
      (rest : List ℕ) × (g.R.Source.left l.source ≡ Some rest) × KeepsAll (model_of l.initial.self) left (model_of l.self) rest;
  first : (HasNoEnd (held_bytes l.initial.self) → ⊥) → (l.source ≡ l.initial.source) × (held_bytes l.self ≡ held_bytes l.initial.self);
  still : g.R.Source.faults l.source ≡ g.R.Source.faults l.initial.source;
}

abbrev pub decreases-loop-line : goal.decreases-loop-line
decreases-loop-line g l = script_limit - l.self.taken
