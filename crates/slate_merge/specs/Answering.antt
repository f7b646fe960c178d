-- What callers know of a call by the reads that it made, in words that don't name the iterator.
--     AnswersBy does refuses before after x y      it did so by these reads, and behind them nothing is refused that wasn't before
--     IsFaultOr refuses before after x at e      the error is a fault, or what may be refused by these reads
--     FailsBy refuses stays before after x at e y      so it is; it stays so by these reads, and behind them nothing is refused that
--                                                      wasn't before, but for this very error
--     no_words      nothing is said of what a call reads and leaves
use Rattle.std.specs.Prelude.{◌⊎◌, ℕ, List, Option}
use Rattle.slate_types.specs.declared.error.SlateDBError.{SlateDBError}
use Rattle.slate_types.specs.declared.types.RowEntry.{RowEntry}
use Rattle.slate_types.specs.Outside.{Act, IsFault, Meaning, Reach}
use Rattle.slate_types.specs.Refusing.{NoMore, NoMoreBut}
use Rattle.slate_types.specs.World.{Made}

abbrev pub AnswersBy : {A : Type 0} → (A → Meaning → List Act → A → Type 0) → (A → Meaning → List Act → Option (List ℕ) → SlateDBError → Type 0) → Reach → Reach → A → A → Type 0
AnswersBy {A} does refuses before after x y = Made before after (λ reads. does x before.meaning reads y × NoMore (refuses x before.meaning) reads (refuses y before.meaning))

abbrev pub IsFaultOr : {A : Type 0} → (A → Meaning → List Act → Option (List ℕ) → SlateDBError → Type 0) → Reach → Reach → A → Option (List ℕ) → SlateDBError → Type 0
IsFaultOr {A} refuses before after x at e = Made before after (λ reads. IsFault before after e ⊎ refuses x before.meaning reads at e)

abbrev pub FailsBy : {A : Type 0} → (A → Meaning → List Act → Option (List ℕ) → SlateDBError → Type 0) → (A → Meaning → List Act → Option (List ℕ) → SlateDBError → A → Type 0)
    → Reach → Reach → A → Option (List ℕ) → SlateDBError → A → Type 0
FailsBy {A} refuses stays before after x at e y =
    Made before after (λ reads. (IsFault before after e ⊎ refuses x before.meaning reads at e) × stays x before.meaning reads at e y × NoMoreBut e (refuses x before.meaning) reads (refuses y before.meaning))

-- of what a call reads and leaves nothing is said
abbrev pub no_words : {A : Type 0} → A → Meaning → List Act → Option RowEntry → A → Type 0
no_words x p reads answer y = Unit {0}
