-- What a call that asks the filters of a table answers, from the calls that read their part and ask them.
use Rattle.std.proofs.Common.{◌≡◌, ℕ, Bool, List, Option, Some, Ok, Err, ◌⊎◌, inl, inr, subst}
use Rattle.std.specs.Prelude.{Result, IfErr}
use Rattle.slate_types.specs.declared.error.SlateDBError.{SlateDBError}
use Rattle.slate_types.specs.declared.filter_policy.FilterQuery.{FilterQuery}
use Rattle.slate_types.specs.Outside.{Objects}
use Rattle.slate_store.specs.Store.{Act}
use Rattle.slate_block.specs.RowReading.{refusal}
use Rattle.slate_filter.specs.Policy.{Policy}
use Rattle.slate_table.specs.Filtered.{RefusesFilterPart, RefusesQuery}
use Rattle.slate_table.specs.Parts.{Encode}
use Rattle.slate_table.specs.Reading.{Reads, SectionRead, stored_in, IsPart, RefusesFilters}

pub section_refused : {A B : Type 0} (objects : Option Objects) (before after : Option (List Act)) (path : List ℕ) (start size : ℕ) (decode : Encode) (of : Option (List ℕ) → SectionRead) (e : SlateDBError) →
    A ⊎ B ⊎ Reads objects before after path start size (λ answer. refusal (stored_in (of answer)) ≡ Some e) → A ⊎ B ⊎ Reads objects before after path start size (λ answer. RefusesFilters decode (of answer) e)
section_refused objects before after path start size decode of e (inl a) = inl a
section_refused objects before after path start size decode of e (inr (inl b)) = inr (inl b)
section_refused objects before after path start size decode of e (inr (inr r)) = inr (inr (r.0, r.1, inl r.2))

pub query_refused : {A B : Type 0} (objects : Option Objects) (before after : Option (List Act)) (path : List ℕ) (start size : ℕ) (decode : Encode) (of : Option (List ℕ) → SectionRead) (policies : List Policy) (query : FilterQuery) (e : SlateDBError) →
    A ⊎ B ⊎ Reads objects before after path start size (λ answer. RefusesFilters decode (of answer) e) → A ⊎ B ⊎ Reads objects before after path start size (λ answer. RefusesQuery decode policies query (of answer) e)
query_refused objects before after path start size decode of policies query e (inl a) = inl a
query_refused objects before after path start size decode of policies query e (inr (inl b)) = inr (inl b)
query_refused objects before after path start size decode of policies query e (inr (inr r)) = inr (inr (r.0, r.1, inl r.2))

-- ---- the filters were asked

when_err : {T : Type 0} (r : Result T SlateDBError) (P Q : SlateDBError → Type 0) → ((e : SlateDBError) → P e → Q e) → IfErr r P → IfErr r Q
when_err (Ok x) P Q f p = tt
when_err (Err e) P Q f p = f e p

-- what a part is refused for the section is
refused_in : (objects : Option Objects) (before after : Option (List Act)) (path : List ℕ) (start size : ℕ) (decode : Encode) (of : Option (List ℕ) → SectionRead) (policies : List Policy) (query : FilterQuery) (part : List ℕ) (e : SlateDBError) →
    Reads objects before after path start size (λ answer. IsPart decode (of answer) part) → RefusesFilterPart policies query part e → Reads objects before after path start size (λ answer. RefusesQuery decode policies query (of answer) e)
refused_in objects before after path start size decode of policies query part e (answer, read, p) (inl none) = (answer, read, inl (inr (part, p, none)))
refused_in objects before after path start size decode of policies query part e (answer, read, p) (inr (filters, is, refused, says)) = (answer, read, inr (part, filters, p, is, refused, says))

pub asked_refuses : (A B : SlateDBError → Type 0) (objects : Option Objects) (before after : Option (List Act)) (path : List ℕ) (start size : ℕ) (decode : Encode) (of : Option (List ℕ) → SectionRead) (policies : List Policy) (query : FilterQuery) (part taken : List ℕ) (r : Result Bool SlateDBError) →
    taken ≡ part → Reads objects before after path start size (λ answer. IsPart decode (of answer) part) → IfErr r (RefusesFilterPart policies query taken) →
    IfErr r (λ e. A e ⊎ B e ⊎ Reads objects before after path start size (λ answer. RefusesQuery decode policies query (of answer) e))
asked_refuses A B objects before after path start size decode of policies query part taken r same read refuses =
    when_err r (RefusesFilterPart policies query taken) (λ e. A e ⊎ B e ⊎ Reads objects before after path start size (λ answer. RefusesQuery decode policies query (of answer) e))
    (λ e h. inr (inr (refused_in objects before after path start size decode of policies query part e read (subst (λ (l : List ℕ). RefusesFilterPart policies query l e) same h)))) refuses
