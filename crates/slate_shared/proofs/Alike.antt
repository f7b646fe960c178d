-- Tables of one plan are the same.
--     tables_from g limit table rows      the tables of rows, of which the first has begun with these
--     all_tables g limit rows      the tables of rows
use Rattle.std.proofs.Common.{◌≡◌, ℕ, ◌+◌, ◌<◌, false, cond, List, [], ◌∷◌, ◌++◌, length, map, flat_map, refl, sym, ap, subst, ◌∙◌, arith, append-nil, append_assoc}
use Rattle.std.specs.List.{AllByRecursion}
use Rattle.slate_mem.specs.KeyTests.{Segments}
use Rattle.slate_table.specs.Parts.{Encode}
use Rattle.slate_table.specs.Table.{cut, table_bytes}
use Rattle.slate_table.specs.TableEnd.{EncodedTable}
use Rattle.slate_filter.specs.Policy.{filters_of}
use Rattle.slate_db.specs.Cut.{AreCut, AreEnded, EndsAt, GoesOn, ends_before}
use Rattle.slate_db.specs.Flushed.{Layout}
use Rattle.slate_db.specs.Model.{Rows}
use Rattle.slate_shared.specs.Encoded.{AreEncodedFrom, AreTablesOfPlan, IsEncodedAt, PlansAreAlike, bytes_by_id}

abbrev tables_from : Segments → ℕ → Rows → Rows → List Rows
tables_from g limit table [] = table ∷ []
tables_from g limit table (r ∷ rs) = cond (ends_before g limit table r) (table ∷ tables_from g limit (r ∷ []) rs) (tables_from g limit (table ++ (r ∷ [])) rs)

abbrev all_tables : Segments → ℕ → Rows → List Rows
all_tables g limit [] = []
all_tables g limit (r ∷ rs) = tables_from g limit (r ∷ []) rs

-- a table takes all rows before which it goes on
walk : (g : Segments) (limit : ℕ) (front more rest : Rows) → GoesOn g limit (front ++ more) → tables_from g limit front (more ++ rest) ≡ tables_from g limit (front ++ more) rest
walk g limit front [] rest on = ap (λ (t : Rows). tables_from g limit t rest) (sym (append-nil front))
walk g limit front (r ∷ more) rest on =
    ap (λ b. cond b (front ∷ tables_from g limit (r ∷ []) (more ++ rest)) (tables_from g limit (front ++ (r ∷ [])) (more ++ rest))) (on front r more refl)
    ∙ walk g limit (front ++ (r ∷ [])) more rest (subst (GoesOn g limit) (sym (append_assoc front (r ∷ []) more)) on)
    ∙ ap (λ (t : Rows). tables_from g limit t rest) (append_assoc front (r ∷ []) more)

behind : (g : Segments) (limit : ℕ) (table : Rows) (ts : List Rows) → AreEnded g limit (table ∷ ts) → AllByRecursion (GoesOn g limit) ts → AllByRecursion (λ t. 0 < length t) ts → tables_from g limit table (flat_map (λ rows. rows) ts) ≡ table ∷ ts
behind g limit table [] ended on some = refl
behind g limit table ([] ∷ ts) ended on some = absurd (let none = some.0 in omega (arith, none))
behind g limit table ((r ∷ rs) ∷ ts) ended on some =
    ap (λ b. cond b (table ∷ tables_from g limit (r ∷ []) (rs ++ flat_map (λ rows. rows) ts)) (tables_from g limit (table ++ (r ∷ [])) (rs ++ flat_map (λ rows. rows) ts))) ended.0
    ∙ ap (λ l. table ∷ l) (walk g limit (r ∷ []) rs (flat_map (λ rows. rows) ts) on.0 ∙ behind g limit (r ∷ rs) ts ended.1 on.1 some.1)

-- there is one way to cut rows
cut_is : (g : Segments) (limit : ℕ) (rows : Rows) (parts : List Rows) → AreCut g limit rows parts → all_tables g limit rows ≡ parts
cut_is g limit rows parts are = ap (all_tables g limit) (sym are.all) ∙ by parts are.some are.go_on are.ended
  where
    by : (ts : List Rows) → AllByRecursion (λ t. 0 < length t) ts → AllByRecursion (GoesOn g limit) ts → AreEnded g limit ts → all_tables g limit (flat_map (λ rows. rows) ts) ≡ ts
    by [] some on ended = refl
    by ([] ∷ ts) some on ended = absurd (let none = some.0 in omega (arith, none))
    by ((r ∷ rs) ∷ ts) some on ended = walk g limit (r ∷ []) rs (flat_map (λ rows. rows) ts) on.0 ∙ behind g limit (r ∷ rs) ts ended on.1 some.1

table_is : (encode : Encode) (layout : Layout) (number place : ℕ) (rows : Rows) (t u : EncodedTable) → IsEncodedAt encode layout number place rows t → IsEncodedAt encode layout number place rows u → bytes_by_id t ≡ bytes_by_id u
table_is encode layout number place rows t u h k =
    let id : t.id.0 ≡ u.id.0 = h.id ∙ sym k.id in
    let bytes : t.bytes ≡ u.bytes =
    h.built.is ∙ ap (λ (n : ℕ). table_bytes encode layout.version n (cut layout.block_size layout.version rows) (filters_of layout.policies layout.min_filter_keys rows)) id ∙ sym k.built.is in
    λ i. (id i, bytes i)

tables_are : (encode : Encode) (layout : Layout) (number place : ℕ) (parts : List Rows) (ts us : List EncodedTable) → AreEncodedFrom encode layout number place parts ts → AreEncodedFrom encode layout number place parts us →
    map bytes_by_id ts ≡ map bytes_by_id us
tables_are encode layout number place [] [] [] h k = refl
tables_are encode layout number place [] (t ∷ ts) us h k = absurd h
tables_are encode layout number place [] [] (u ∷ us) h k = absurd k
tables_are encode layout number place (p ∷ parts) [] us h k = absurd h
tables_are encode layout number place (p ∷ parts) (t ∷ ts) [] h k = absurd k
tables_are encode layout number place (p ∷ parts) (t ∷ ts) (u ∷ us) h k =
    let first = table_is encode layout number place p t u h.0 k.0 in
    let later = tables_are encode layout number (place + 1) parts ts us h.1 k.1 in
    λ i. first i ∷ later i

pub plans_alike : PlansAreAlike
plans_alike encode layout number rows ts us h k =
    let parts = sym (cut_is layout.segments layout.table_bytes rows k.parts k.cut) in
    tables_are encode layout number 0 h.parts ts us h.made
    (subst (λ (ps : List Rows). AreEncodedFrom encode layout number 0 ps us) (parts ∙ cut_is layout.segments layout.table_bytes rows h.parts h.cut) k.made)
