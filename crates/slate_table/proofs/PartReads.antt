-- Refusals of a section are those of its part, and of the transformer where the checksum fits.
use Rattle.std.specs.Prelude.{Result}
use Rattle.std.proofs.Common.{◌≡◌, ℕ, List, Option, Some, Ok, Err, ◌⊎◌, inl, inr, ap, ◌∙◌}
use Rattle.slate_types.specs.declared.error.SlateDBError.{SlateDBError}
use Rattle.slate_types.specs.declared.error.SlateDBError.TheVariants.{BlockTransformError, OutOfMemory}
use Rattle.slate_types.specs.Outside.{Objects}
use Rattle.slate_store.specs.Store.{Act}
use Rattle.slate_block.specs.RowReading.{refusal}
use Rattle.slate_table.specs.declared.section.SectionPlace.{SectionPlace}
use Rattle.slate_table.specs.Parts.{Encode, summed}
use Rattle.slate_table.specs.SectionReading.{IsTransformFault, covered_by}
use Rattle.slate_table.specs.Reading.{Reads, SectionRead, read_at, stored_in, FailsDecoding, IsRefused}

pub refused : {A B : Type 0} (objects : Option Objects) (before after : Option (List Act)) (path : List ℕ) (start size : ℕ) (decode : Encode) (of : Option (List ℕ) → SectionRead) (is : List ℕ → Option SlateDBError) (e : SlateDBError) →
    A ⊎ B ⊎ Reads objects before after path start size (λ answer. refusal (stored_in (of answer)) ≡ Some e) → A ⊎ B ⊎ Reads objects before after path start size (λ answer. IsRefused decode is (of answer) e)
refused objects before after path start size decode of is e (inl a) = inl a
refused objects before after path start size decode of is e (inr (inl b)) = inr (inl b)
refused objects before after path start size decode of is e (inr (inr r)) = inr (inr (r.0, r.1, inl r.2))

-- where the checksum fits
pub fails_decoding : {A : Type 0} (before after : ℕ) (place : SectionPlace) (bytes stored : List ℕ) (e : SlateDBError) → bytes ≡ summed (covered_by place) stored → IsTransformFault before after e →
    (e ≡ OutOfMemory) ⊎ FailsDecoding before after (read_at place (Some bytes)) e ⊎ A
fails_decoding before after place bytes stored e is (inl memory) = inl memory
fails_decoding before after place bytes stored e is (inr fault) = inr (inl (fault.0, fault.1, (stored, ap (λ (l : List ℕ). Some l) is)))

-- a transformer's count where the call is Ok
pub still_ok : {T P : Type 0} (value : T) → (Ok value ≡ Err BlockTransformError) ⊎ P → P
still_ok value (inl failed) = absurd cc
still_ok value (inr same) = same

pub still_longer : {P : Type 0} (a b c : ℕ) → b ≡ a → P ⊎ (c ≡ b) → P ⊎ (c ≡ a)
still_longer a b c same (inl p) = inl p
still_longer a b c same (inr e) = inr (e ∙ same)

pub refused_section : {A B : Type 0} (decode : Encode) (is : List ℕ → Option SlateDBError) (s : SectionRead) (e : SlateDBError) →
    A ⊎ B ⊎ (refusal (stored_in s) ≡ Some e) → A ⊎ B ⊎ IsRefused decode is s e
refused_section decode is s e (inl a) = inl a
refused_section decode is s e (inr (inl b)) = inr (inl b)
refused_section decode is s e (inr (inr r)) = inr (inr (inl r))

-- the same error as another result
pub still_err : {T U P : Type 0} (e : SlateDBError) →
    (◌≡◌ {A = Result T SlateDBError} (Err e) (Err BlockTransformError)) ⊎ P → (◌≡◌ {A = Result U SlateDBError} (Err e) (Err BlockTransformError)) ⊎ P
still_err e (inl failed) = let is : e ≡ BlockTransformError = cc in inl (ap (λ (x : SlateDBError). Err x) is)
still_err e (inr same) = inr same
