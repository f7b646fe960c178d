-- What the parts of a call make, where there are any.
--     combine_of combine operator      what the operator makes of a key, an existing value and an operand, and none without one
--     changed_by change transformer      what the transformer makes of bytes, which are the same without one
use Rattle.std.specs.Prelude.{ℕ, List, Option, Some, None}

abbrev pub combine_of : {M C : Type 0} → (M → C) → Option M → Option C
combine_of combine None = None
combine_of combine (Some operator) = Some (combine operator)

abbrev pub changed_by : {T : Type 0} → (T → List ℕ → List ℕ) → Option T → List ℕ → List ℕ
changed_by decoded None bytes = bytes
changed_by decoded (Some transformer) bytes = decoded transformer bytes
