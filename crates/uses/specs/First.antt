-- An operator that keeps the first of what it is given.
--     first_of u v      u where there is one, else v
--     first_short      of short values that is short
--     claiming      what the parts of a database with this operator mean
use Rattle.std.specs.Prelude.{ℕ, List, Option, Some, None}
use Rattle.slate_types.specs.Fold.{KeepsShort}
use Rattle.slate_types.specs.Outside.{Meaning}

abbrev pub first_of : Option (List ℕ) → List ℕ → List ℕ
first_of None v = v
first_of (Some u) v = u

pub first_short : KeepsShort first_of
first_short None v h hv = hv
first_short (Some u) v h hv = h

abbrev pub claiming : Meaning
claiming = record {
  combine = Some (λ _ existing value. first_of existing value);
  encode = λ bytes. bytes;
  decode = λ bytes. bytes;
}
