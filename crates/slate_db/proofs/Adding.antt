-- What calls add to the acts that a store tells.
--     adds_same, adds_then      nothing, and one call after another
--     adds_act, adds_puts, adds_tables      one act, and the puts of tables
--     adds_refused      a put that was refused
use Rattle.std.proofs.Common.{◌≡◌, ◌⊎◌, inl, inr, ℕ, List, [], ◌∷◌, ◌++◌, Option, Some, sym, ap, ◌∙◌, append-nil, append_assoc}
use Rattle.slate_types.specs.declared.types.Ulid.{Ulid}
use Rattle.slate_types.specs.Outside.{Act, Objects}
use Rattle.slate_store.specs.Store.{AddsAct, LeftAlone, RefusesPut, TookPut}
use Rattle.slate_table.specs.Paths.{path_of}
use Rattle.slate_db.specs.Answered.{AddsActs, AddsPuts, AddsTables}
use Rattle.slate_db.specs.Installs.{root}

pub adds_same : (before after : Option (List Act)) → after ≡ before → AddsActs before after
adds_same before after same known is = ([], same ∙ is ∙ ap (λ (l : List Act). Some l) (sym (append-nil known)))

pub adds_then : (first middle last : Option (List Act)) → AddsActs first middle → AddsActs middle last → AddsActs first last
adds_then first middle last f l known is =
    let some = f known is in
    let rest = l (known ++ some.0) some.1 in
    (some.0 ++ rest.0, rest.1 ∙ ap (λ (a : List Act). Some a) (append_assoc known some.0 rest.0))

pub adds_act : (before after : Option (List Act)) (act : Act) → AddsAct before act after → AddsActs before after
adds_act before after act adds known is = (act ∷ [], adds known is)

pub adds_puts : (ts : List (Ulid × List ℕ)) (before after : Option (List Act)) → AddsPuts ts before after → AddsActs before after
adds_puts [] before after same = adds_same before after same
adds_puts (t ∷ ts) before after (middle, rest, put) =
    adds_then before middle after (adds_puts ts before middle rest)
    (adds_act middle after (Act.put (path_of root t.0.0) t.1) put)

pub adds_tables : (old new : List (Ulid × List ℕ)) (before after : Option (List Act)) → AddsTables old new before after → AddsActs before after
adds_tables old new before after (ts, grown, puts) = adds_puts ts before after puts

-- it told nothing, or was taken and told
pub adds_refused : {S : Type 0} (objects : S → Option Objects) (acts : S → Option (List Act)) (path bytes : List ℕ) (before after : S) → RefusesPut objects acts path bytes before after → AddsActs (acts before) (acts after)
adds_refused objects acts path bytes before after (inl left) = adds_same (acts before) (acts after) left.told
adds_refused objects acts path bytes before after (inr took) = adds_act (acts before) (acts after) (Act.put path bytes) took.told
