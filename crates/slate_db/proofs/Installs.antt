-- What a flush keeps.
use Rattle.std.proofs.Common.{◌≡◌, ℕ, ◌+◌, ◌≤◌, ◌<◌, List, [], ◌∷◌, ◌++◌, length, refl, sym, ap, subst, ◌∙◌, arith, append-nil, nat_le}
use Rattle.std.specs.List.{AllByRecursion}
use Rattle.std.proofs.lemmas.Grind.{flat_map-append}
use Rattle.std.proofs.lemmas.List.Elements.{filter-append}
use Rattle.slate_types.specs.declared.types.RowEntry.{RowEntry}
use Rattle.slate_types.specs.declared.types.Ulid.{Ulid}
use Rattle.slate_types.specs.Fold.{fold_rows, AreShort}
use Rattle.slate_mem.specs.KeyTests.{Segments}
use Rattle.slate_table.specs.Parts.{Encode}
use Rattle.slate_table.specs.Table.{AreInOrder, IsTable}
use Rattle.slate_table.proofs.CutLaws.{built_has}
use Rattle.slate_txn.proofs.BarrierLaws.{start_above}
use Rattle.slate_txn.specs.declared.event.Event.TheVariants as events
use Rattle.slate_txn.specs.State.{Rules, Commit, opening, last_of}
use Rattle.slate_txn.specs.Reads.{up_to, key_rows}
use Rattle.slate_db.specs.Meaning.{Meaning, rules_of, combine_of, IsLawfulMeaning}
use Rattle.slate_db.specs.Model.{CoreModel, Rows, versions, versions_in}
use Rattle.slate_db.specs.Installs.{tables_of, installed}
use Rattle.slate_db.specs.Sound.{HasNoMerge, at_most, above, IsKept, IsSound, AreTables, AreBases}
use Rattle.slate_db.specs.Layers.{AreRising}
use Rattle.slate_db.specs.Whole.{IsWhole, Unseen, layers_of}
use Rattle.slate_txn.specs.Open.{least_start}
use Rattle.slate_db.specs.Flushed.{AreTablesAt, IsFolded, IsTableAt, Layout, CanFlush, after_install}
use Rattle.slate_db.specs.Cut.{AreCut}
use Rattle.slate_db.proofs.Cuts.{parts_all, versions_cut}
use Rattle.slate_db.proofs.Folds.{wider}
use Rattle.slate_db.proofs.Journals.{apply_more}
use Rattle.slate_db.proofs.Split.{none_above, all_up_to}
use Rattle.slate_db.proofs.Bases.{folded_bases}
use Rattle.slate_db.proofs.NoMerges.{memory_bases}
use Rattle.slate_db.proofs.Rises.{folded_within, rows_above, tables_rise}
use Rattle.slate_db.proofs.Short.{commits_short, fold_short, fine_short, AreShortOps}
use Rattle.slate_db.proofs.AllRows.{flush_fold}
use Rattle.slate_db.proofs.Logs.{tables_more}
use Rattle.slate_db.proofs.MemoryLayers.{frozen_rise}
use Rattle.slate_db.proofs.Versions.{short_versions, short_by_key}
use Rattle.slate_types.proofs.Lists.{AllByRecursion_append, AllByRecursion_front, AllByRecursion_weaken, AllByRecursion_filter}

pub tables_append : (m : Meaning) (ts us : List (Ulid × List ℕ)) (layers more : List Rows) → AreTables m ts layers → AreTables m us more → AreTables m (ts ++ us) (layers ++ more)
tables_append m [] us layers more h is = subst (λ (ls : List Rows). AreTables m us (ls ++ more)) (sym h) is
tables_append m (x ∷ ts) us layers more (v, first, rest, table, others, same) is =
    (v, first, rest ++ more, table, tables_append m ts us rest more others is, ap (λ ls. ls ++ more) same)

-- the layers of a run's tables have the versions of all its rows
pub cut_layers : (k : List ℕ) (layers parts : List Rows) (rows : Rows) → versions_in k parts ≡ versions k rows → versions_in k (layers ++ parts) ≡ versions_in k (layers ++ (rows ∷ []))
cut_layers k layers parts rows same =
    flat_map-append (versions k) layers parts ∙ ap (λ xs. versions_in k layers ++ xs) (same ∙ sym (append-nil (versions k rows))) ∙ sym (flat_map-append (versions k) layers (rows ∷ []))

pub kept_install : (m : Meaning) (c : CoreModel) (u : Unseen) (ts : List (Ulid × List ℕ)) (spare : ℕ) (g : Segments) (limit : ℕ) (rows : Rows) (parts : List Rows) →
    IsWhole c u → c.active ≡ [] → AreTables m ts parts → AreInOrder rows → AreCut g limit rows parts → IsFolded m (least_start u.last c.state) c.frozen rows → IsKept m c →
    IsKept m (after_install c u.last ts spare)
kept_install m c u ts spare g limit rows parts w idle tables order cut folded kept = (
  λ k. ap (λ a. versions_in k (a ∷ [])) idle ∙ sym (ap (λ i. key_rows r k (above i cs)) through ∙ ap (key_rows r k) (none_above start u.last cs w.log.rising last)),
  λ law. let z : IsSound m c = kept.1 law in record {
    layers = z.layers ++ parts;
    tables = subst (λ (xs : List (Ulid × List ℕ)). AreTables m xs (z.layers ++ parts)) (sym (tables_more c.events (events.Install u.last ts))) (tables_append m (tables_of c.events) ts z.layers parts z.tables tables);
    short = AllByRecursion_append AreShort z.layers parts z.short (of_parts _ (short_by_key rows (λ k.
        subst (λ (xs : Rows). AreShort xs) (sym (folded k)) (AllByRecursion_append _ _ _ (fold_short (combine_of m k) (law.short k) _ (AllByRecursion_filter _ _ _ (memory_short k law))) (AllByRecursion_filter _ _ _ (memory_short k law))))));
    bases = λ none. AllByRecursion_append AreBases z.layers parts (z.bases none) (of_parts _ (folded_bases m (least_start u.last c.state) c.frozen rows (AllByRecursion_front _ c.frozen (c.active ∷ []) (memory_bases m c none kept.0 kept.2)) folded));
    within = subst (λ (i : ℕ). AllByRecursion (λ layer. AllByRecursion (λ r. r.seq ≤ i) layer) (z.layers ++ parts)) (sym through)
        (AllByRecursion_append _ z.layers parts (AllByRecursion_weaken _ _ (wider (installed c.events) u.last w.log.installed_within) z.layers z.within) (of_parts _ (folded_within m (least_start u.last c.state) u.last c.frozen rows (AllByRecursion_front _ c.frozen (c.active ∷ []) w.tied.rows_within) folded)));
    rise = λ k. subst (λ (xs : Rows). AreRising xs) (sym (same k z.layers))
        (tables_rise m (least_start u.last c.state) (installed c.events) k z.layers c.frozen rows folded (z.rise k) z.within (frozen_rise (layers_of c u) w.layers k) (subst (AllByRecursion (λ x. installed c.events < x.seq)) (sym (tied k)) (rows_above r k (installed c.events) cs)));
    folds = λ k x h.
        let below : c.floor ≤ x = (let f : c.floor ≤ least_start u.last c.state = start_above c.floor u.last c.state w.tied.floor_within (AllByRecursion_weaken _ _ (λ p h. h.0) c.state.txns w.tied.begins) (AllByRecursion_weaken _ _ (λ p h. h.0) c.state.snapshots w.tied.shows) in omega arith) in
        ap (λ xs. fold_rows (combine_of m k) (at_most x xs)) (same k z.layers ∙ flat_map-append (versions k) z.layers (rows ∷ []) ∙ ap (λ xs. versions_in k z.layers ++ xs) (append-nil (versions k rows)))
        ∙ ap (fold_rows (combine_of m k)) (filter-append (λ r. nat_le r.seq x) (versions_in k z.layers) (versions k rows))
        ∙ ap (λ xs. fold_rows (combine_of m k) (at_most x (versions_in k z.layers) ++ at_most x xs)) (folded k)
        ∙ flush_fold r k (law.operator k) (law.short k) start (installed c.events) (least_start u.last c.state) x cs (versions_in k z.layers) (versions_in k c.frozen) h w.log.rising short_commits
        (short_versions k z.layers z.short) (tied k) (z.folds k x below)
        ∙ ap (λ ds. fold_rows (combine_of m k) (key_rows r k (up_to x ds))) (sym (ap (λ i. up_to i cs) through ∙ all_up_to start u.last cs w.log.rising last));
  },
  λ none. let z : HasNoMerge c = kept.2 none in record { own = z.own; commits = z.commits },
)
  where
    r : Rules
    r = rules_of c.settings m

    cs : List Commit
    cs = c.state.commits

    start : ℕ
    start = c.settings.start_seq

    -- what is true of each row is true of the rows of each table
    of_parts : (P : RowEntry → Type 0) → AllByRecursion P rows → AllByRecursion (λ xs. AllByRecursion P xs) parts
    of_parts P h = parts_all P parts (subst (AllByRecursion P) (sym cut.all) h)

    same : (k : List ℕ) (layers : List Rows) → versions_in k (layers ++ parts) ≡ versions_in k (layers ++ (rows ∷ []))
    same k layers = cut_layers k layers parts rows (versions_cut g limit parts k (subst AreInOrder (sym cut.all) order) cut.ended ∙ ap (versions k) cut.all)

    through : installed (c.events ++ (events.Install u.last ts ∷ [])) ≡ u.last
    through = ap (λ s. s.flushed) (apply_more opening c.events (events.Install u.last ts))

    last : last_of c.settings.start_seq c.state.commits ≤ u.last
    last = let e : u.last ≡ last_of c.settings.start_seq c.state.commits = w.log.last in omega arith

    tied : (k : List ℕ) → versions_in k c.frozen ≡ key_rows (rules_of c.settings m) k (above (installed c.events) c.state.commits)
    tied k = sym (append-nil (versions_in k c.frozen)) ∙ sym (ap (λ a. versions_in k c.frozen ++ versions_in k (a ∷ [])) idle) ∙ sym (flat_map-append (versions k) c.frozen (c.active ∷ [])) ∙ kept.0 k

    short_commits : AllByRecursion (λ x. AreShortOps x.ops) c.state.commits
    short_commits = AllByRecursion_weaken _ _ (λ x. fine_short x.ops) c.state.commits w.log.fine

    memory_short : (k : List ℕ) → IsLawfulMeaning m → AreShort (versions_in k c.frozen)
    memory_short k law = subst (λ (xs : Rows). AreShort xs) (sym (tied k)) (commits_short (rules_of c.settings m) k (law.short k) _ (AllByRecursion_filter _ _ c.state.commits short_commits))

-- ---- the rows and the table of a flush

pub can_flush : (c : CoreModel) (u : Unseen) → IsWhole c u → 0 < length c.frozen → CanFlush c.frozen
can_flush c u w some = record {
  some = some;
  each = w.layers.frozen_some;
  fit = AllByRecursion_front _ c.frozen (c.active ∷ []) w.layers.fit;
  rise = frozen_rise (layers_of c u) w.layers;
}

pub tables_of_parts : (m : Meaning) (encode : Encode) (layout : Layout) (number place : ℕ) (parts : List Rows) (ts : List (Ulid × List ℕ)) → m.encode ≡ encode → AreTablesAt encode layout number place parts ts → AreTables m ts parts
tables_of_parts m encode layout number place [] [] same h = refl
tables_of_parts m encode layout number place (rows ∷ parts) (t ∷ ts) same h =
    (layout.version, rows, parts, subst (λ (e : Encode). IsTable e t.1 layout.version t.0.0 rows) (sym same) (table_is h.0), tables_of_parts m encode layout number (place + 1) parts ts same h.1, refl)
  where
    table_is : IsTableAt encode layout number place rows t → IsTable encode t.1 layout.version t.0.0 rows
    table_is p = subst (IsTable encode t.1 layout.version t.0.0) p.read (built_has encode layout.policies layout.min_filter_keys layout.block_size layout.version t.0.0 t.1 rows p.built)
tables_of_parts m encode layout number place [] (t ∷ ts) same h = absurd h
tables_of_parts m encode layout number place (rows ∷ parts) [] same h = absurd h

pub moved : (F : ℕ → ℕ → List Rows → Type 0) (r k b d : ℕ) (xs ys : List Rows) → r ≡ k → b ≡ d → xs ≡ ys → F r b xs → F k d ys
moved F r k b d xs ys number barrier layers h = subst (λ (n : ℕ). F n d ys) number (subst (λ (n : ℕ). F r n ys) barrier (subst (λ (ls : List Rows). F r b ls) layers h))
