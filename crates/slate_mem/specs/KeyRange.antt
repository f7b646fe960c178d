-- Ranges of keys as ranges of keys with sequences: of a key, the greatest sequence stands first.
--     first_place start, last_place end      the bounds of all sequences of the keys that the bounds let through
use Rattle.std.specs.Prelude.{ℕ, ◌-◌, ◌^◌, List}
use Rattle.std.specs.declared.ops.Bound.{Bound}
use Rattle.std.specs.declared.ops.Bound.TheVariants.{Included, Excluded, Unbounded}
use Rattle.slate_types.specs.declared.sequenced_key.SequencedKey.{SequencedKey}

abbrev pub at_sequences : Bound (List ℕ) → ℕ → ℕ → Bound SequencedKey
at_sequences (Included k) included excluded = Included (record { user_key = k; seq = included })
at_sequences (Excluded k) included excluded = Excluded (record { user_key = k; seq = excluded })
at_sequences Unbounded included excluded = Unbounded

abbrev pub first_place : Bound (List ℕ) → Bound SequencedKey
first_place start = at_sequences start (2 ^ 64 - 1) 0

abbrev pub last_place : Bound (List ℕ) → Bound SequencedKey
last_place end = at_sequences end 0 (2 ^ 64 - 1)
