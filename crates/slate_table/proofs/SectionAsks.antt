-- What the filters of a section answer, from what those of its part do.
use Rattle.std.proofs.Common.{◌≡◌, ℕ, Bool, true, false, not, is_some, List, Option, Some, None, Ok, ◌⊎◌, inl, inr, ap, refl}
use Rattle.std.specs.Prelude.{Result, IfOk, IfErr}
use Rattle.std.proofs.lemmas.Result.{IfOk-weaker, IfErr-weaker}
use Rattle.slate_types.specs.declared.error.SlateDBError.{SlateDBError}
use Rattle.slate_types.specs.declared.filter_policy.FilterQuery.{FilterQuery}
use Rattle.slate_block.proofs.Groups.{IsBytes}
use Rattle.slate_filter.specs.Policy.{Policy}
use Rattle.slate_table.specs.declared.section.SectionPlace.{SectionPlace}
use Rattle.slate_table.specs.Filtered.{AnswersFilterPart, RefusesFilterPart, IsAsked, RefusesQuery}
use Rattle.slate_table.specs.Reading.{IsPart, read_at, unchanged}
use Rattle.slate_table.specs.SectionReading.{changed_by, covered_by, part_in}
use Rattle.slate_table.proofs.SectionReads.{part_reads}

-- the part before a checksum that fits
is_front : (place : SectionPlace) (bytes part : List ℕ) → IsBytes bytes → part_in (covered_by place) bytes ≡ Ok part → IsPart unchanged (read_at place (Some bytes)) part
is_front place bytes part fits reads = (part, ap (λ (l : List ℕ). Some l) (part_reads (covered_by place) bytes part fits reads), refl)

pub front_answers : (ps : List Policy) (q : FilterQuery) (place : SectionPlace) (bytes part : List ℕ) (r : Result Bool SlateDBError) → IsBytes bytes → part_in (covered_by place) bytes ≡ Ok part →
    IfOk r (AnswersFilterPart ps q part) → IfOk r (IsAsked unchanged ps q (read_at place (Some bytes)))
front_answers ps q place bytes part r fits reads =
    IfOk-weaker r (AnswersFilterPart ps q part) (IsAsked unchanged ps q (read_at place (Some bytes)))
    (λ passes h. (h.0, (part, is_front place bytes part fits reads, h.1), h.2))

refused : (ps : List Policy) (q : FilterQuery) (place : SectionPlace) (bytes part : List ℕ) (e : SlateDBError) → IsPart unchanged (read_at place (Some bytes)) part →
    RefusesFilterPart ps q part e → RefusesQuery unchanged ps q (read_at place (Some bytes)) e
refused ps q place bytes part e is (inl none) = inl (inr (part, is, none))
refused ps q place bytes part e is (inr (filters, are, says, sized)) = inr (part, filters, is, are, says, sized)

pub front_refuses : (ps : List Policy) (q : FilterQuery) (place : SectionPlace) (bytes part : List ℕ) (r : Result Bool SlateDBError) → IsBytes bytes → part_in (covered_by place) bytes ≡ Ok part →
    IfErr r (RefusesFilterPart ps q part) → IfErr r (RefusesQuery unchanged ps q (read_at place (Some bytes)))
front_refuses ps q place bytes part r fits reads =
    IfErr-weaker r (RefusesFilterPart ps q part) (RefusesQuery unchanged ps q (read_at place (Some bytes)))
    (λ e h. refused ps q place bytes part e (is_front place bytes part fits reads) h)

-- without a transformer bytes stay as they are
pub untransformed : {X : Type 0} (decoded : X → List ℕ → List ℕ) (t : Option X) (none : Bool) → is_some t ≡ not none → none ≡ true → unchanged ≡ changed_by decoded t
untransformed decoded None none is holds = refl
untransformed decoded (Some x) true is holds = absurd cc
untransformed decoded (Some x) false is holds = absurd cc

-- a refusal, beside those of a transformer
pub no_transformer : {A B C : Type 0} → A ⊎ C → A ⊎ B ⊎ C
no_transformer (inl a) = inl a
no_transformer (inr c) = inr (inr c)
