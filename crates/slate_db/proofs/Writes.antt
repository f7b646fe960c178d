-- What a write keeps.
use Rattle.std.proofs.Common.{◌≡◌, ℕ, ◌+◌, ◌-◌, ◌<◌, ◌≤◌, ◌^◌, true, false, cond, List, [], ◌∷◌, ◌++◌, length, Option, Some, None, option_to_list, ℤ, refl, sym, ap, subst, ◌∙◌, arith, nat_lt, append_assoc, append-nil, length-append}
use Rattle.std.specs.List.{AllByRecursion, cons_option}
use Rattle.std.proofs.lemmas.Bool.Decides.{nat_tests}
use Rattle.std.proofs.lemmas.Grind.{flat_map-append}
use Rattle.std.proofs.lemmas.List.Elements.{filter-append, filter_map-append}
use Rattle.slate_types.specs.declared.types.Ulid.{Ulid}
use Rattle.slate_types.specs.declared.types.RowEntry.{RowEntry}
use Rattle.slate_types.specs.Fold.{fold_rows}
use Rattle.slate_mem.specs.Batch.{Ops, batch_keys, kept_ops}
use Rattle.slate_mem.specs.BatchModel.{holds_merge}
use Rattle.slate_mem.specs.RowOf.{row_of}
use Rattle.slate_table.specs.Table.{AreInOrder}
use Rattle.slate_txn.specs.declared.event.Event.{Event}
use Rattle.slate_txn.specs.declared.event.Event.TheVariants as events
use Rattle.slate_txn.specs.State.{Rules, Commit, opening, last_of}
use Rattle.slate_txn.specs.Reads.{up_to, key_rows}
use Rattle.slate_txn.specs.Replay.{replay, apply}
use Rattle.slate_db.specs.Meaning.{Meaning, rules_of, combine_of}
use Rattle.slate_db.specs.Model.{CoreModel, Rows, versions, versions_in}
use Rattle.slate_db.specs.Installs.{tables_of, installed, NumberedFrom, AreHandles}
use Rattle.slate_db.specs.Sound.{above, IsKept, IsSound, AreTables}
use Rattle.slate_db.specs.Layers.{FitsMemory, AreRising}
use Rattle.slate_db.specs.Log.{LIMIT, AreFine}
use Rattle.slate_db.specs.Whole.{IsWhole, Unseen}
use Rattle.slate_db.specs.Written.{after_write}
use Rattle.slate_db.proofs.Journals.{apply_more, used_more, legal_more}
use Rattle.slate_db.proofs.Operands.{operable_commit}
use Rattle.slate_db.proofs.Split.{rising_more, last_more, up_to_more}
use Rattle.slate_db.proofs.Logs.{tables_same}
use Rattle.slate_types.proofs.Lists.{AllByRecursion_front, AllByRecursion_push, AllByRecursion_weaken}
use Rattle.slate_db.proofs.CommitWholes.{cons_list}

pub kept_write : (m : Meaning) (c : CoreModel) (u : Unseen) (now : ℤ) (ops : Ops) (rows : Rows) (spare : ℕ) →
    ((k : List ℕ) → versions k rows ≡ versions k c.active ++ option_to_list (row_of (combine_of m k) c.settings.default_millis (u.last + 1) now ops k)) →
    (m.combine ≡ None → holds_merge ops ≡ false) → IsWhole c u → IsKept m c → IsKept m (after_write c (u.last + 1) now ops rows spare)
kept_write m c u now ops rows spare each plain w kept = (
  λ k.
      flat_map-append (versions k) c.frozen (rows ∷ [])
      ∙ ap (λ xs. versions_in k c.frozen ++ xs) (append-nil (versions k rows) ∙ each k ∙ ap (λ xs. xs ++ option_to_list (row k)) (sym (append-nil (versions k c.active))))
      ∙ sym (append_assoc (versions_in k c.frozen) (versions_in k (c.active ∷ [])) (option_to_list (row k)))
      ∙ ap (λ xs. xs ++ option_to_list (row k)) (sym (flat_map-append (versions k) c.frozen (c.active ∷ [])) ∙ kept.0 k)
      ∙ ap (λ xs. key_rows r k (above (installed c.events) c.state.commits) ++ xs) (sym (cons_list (row k)))
      ∙ sym (filter_map-append _ (above (installed c.events) c.state.commits) (commit ∷ []))
      ∙ ap (λ cs. key_rows r k (above (installed c.events) c.state.commits ++ cs)) (sym (ap (λ b. cond b (commit ∷ []) []) new))
      ∙ ap (key_rows r k) (sym (filter-append (λ x. nat_lt (installed c.events) x.seq) c.state.commits (commit ∷ [])))
      ∙ ap (λ i. key_rows r k (above i (c.state.commits ++ (commit ∷ [])))) (sym through),
  λ law. let z : IsSound m c = kept.1 law in record {
    layers = z.layers;
    tables = subst (λ (ts : List (Ulid × List ℕ)). AreTables m ts z.layers) (sym (tables_same c.events e refl)) z.tables;
    short = z.short;
    bases = z.bases;
    within = subst (λ (i : ℕ). AllByRecursion (λ rows. AllByRecursion (λ r. r.seq ≤ i) rows) z.layers) (sym through) z.within;
    rise = z.rise;
    folds = λ k x h. z.folds k x h
        ∙ ap (λ cs. fold_rows (combine_of m k) (key_rows r k (up_to x cs))) (sym (up_to_more (installed c.events) c.state.commits commit old))
        ∙ ap (λ i. fold_rows (combine_of m k) (key_rows r k (up_to x (up_to i (c.state.commits ++ (commit ∷ [])))))) (sym through);
  },
  operable_commit m c (after_write c (u.last + 1) now ops rows spare) commit refl (λ none own. own) (λ none z. plain none) kept.2,
)
  where
    r : Rules
    r = rules_of c.settings m

    row : List ℕ → Option RowEntry
    row k = row_of (combine_of m k) c.settings.default_millis (u.last + 1) now ops k

    e : Event
    e = events.Write (u.last + 1) now ops

    commit : Commit
    commit = record { seq = u.last + 1; now = now; ops = ops; tracked = batch_keys ops }

    through : installed (c.events ++ (events.Write (u.last + 1) now ops ∷ [])) ≡ installed c.events
    through = ap (λ s. s.flushed) (apply_more opening c.events (events.Write (u.last + 1) now ops))

    new : nat_lt (installed c.events) (u.last + 1) ≡ true
    new = let h : installed c.events ≤ u.last = w.log.installed_within in grind (arith, nat_tests)

    old : installed c.events < u.last + 1
    old = let h : installed c.events ≤ u.last = w.log.installed_within in omega arith
