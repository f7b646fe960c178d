-- What is kept where nothing that counts is changed.
use Rattle.std.proofs.Common.{◌≡◌, ℕ, ◌≤◌, false, None, List, [], ◌∷◌, ◌++◌, refl, sym, ap, subst, ◌∙◌}
use Rattle.std.specs.List.{AllByRecursion}
use Rattle.slate_types.specs.Fold.{fold_rows}
use Rattle.slate_types.specs.declared.types.Ulid.{Ulid}
use Rattle.slate_txn.specs.Reads.{key_rows, up_to}
use Rattle.slate_mem.specs.BatchModel.{holds_merge}
use Rattle.slate_txn.specs.State.{Commit, State}
use Rattle.slate_txn.specs.declared.event.Event.{Event}
use Rattle.slate_db.specs.declared.engine.Core.TheInside.{Inside}
use Rattle.slate_db.specs.View.{view_of}
use Rattle.slate_db.specs.Log.{LogModel}
use Rattle.slate_db.specs.Meaning.{Meaning, rules_of, combine_of}
use Rattle.slate_db.specs.Model.{CoreModel, Rows, memory, versions_in, IsSame}
use Rattle.slate_db.specs.Installs.{tables_of, installed}
use Rattle.slate_db.specs.Sound.{HasNoMerge, IsKept, AreTables, IsSound, above}
use Rattle.slate_db.proofs.Operands.{OwnNone, operable_own}

-- of an empty journal
pub kept_first : (m : Meaning) (c : CoreModel) → c.events ≡ [] → c.state.commits ≡ [] → c.state.txns ≡ [] → c.frozen ≡ [] → c.active ≡ [] → IsKept m c
kept_first m c e s t f a = (
  λ k. (λ i. versions_in k (f i ++ (a i ∷ []))) ∙ sym (ap (λ cs. key_rows (rules_of c.settings m) k (above (installed c.events) cs)) s),
  λ law. record {
    layers = [];
    tables = subst (λ (es : List Event). AreTables m (tables_of es) []) (sym e) refl;
    short = tt;
    bases = λ none. tt;
    within = tt;
    rise = λ k. tt;
    folds = λ k n h. sym (ap (λ cs. fold_rows (combine_of m k) (key_rows (rules_of c.settings m) k (up_to n (up_to (installed c.events) cs)))) s);
  },
  λ none. record {
    own = subst OwnNone (sym t) tt;
    commits = subst (λ (cs : List Commit). AllByRecursion (λ d. holds_merge d.ops ≡ false) cs) (sym s) tt;
  },
)

-- of a state with the same commits, over a journal with the same tables
pub kept_event : (m : Meaning) (c : CoreModel) (s : State) (es : List Event) (spare : ℕ) → s.commits ≡ c.state.commits → installed es ≡ installed c.events → tables_of es ≡ tables_of c.events →
    (m.combine ≡ None → OwnNone c.state.txns → OwnNone s.txns) → IsKept m c → IsKept m (record c { state = s; events = es; spare = spare })
kept_event m c s es spare commits install tables own kept = (
  λ k. kept.0 k ∙ (λ i. key_rows (rules_of c.settings m) k (above (same_install i) (same_commits i))),
  λ law. let z : IsSound m c = kept.1 law in
      record {
        layers = z.layers;
        tables = subst (λ (ts : List (Ulid × List ℕ)). AreTables m ts z.layers) (sym tables) z.tables;
        short = z.short;
        bases = z.bases;
        within = subst (λ (i : ℕ). AllByRecursion (λ rows. AllByRecursion (λ r. r.seq ≤ i) rows) z.layers) same_install z.within;
        rise = z.rise;
        folds = λ k n h. z.folds k n h ∙ (λ i. fold_rows (combine_of m k) (key_rows (rules_of c.settings m) k (up_to n (up_to (same_install i) (same_commits i)))));
      },
  operable_own m c (record c { state = s; events = es; spare = spare }) commits own kept.2,
)
  where
    same_install : installed c.events ≡ installed es
    same_install = sym install

    same_commits : c.state.commits ≡ s.commits
    same_commits = sym commits

-- room was made in the log
pub room_made : (s : Inside) (l : LogModel) → l ≡ record s.log { spare = l.spare } → IsSame (view_of s) (view_of (record s { log = l }))
room_made s l is = ap (λ (x : LogModel). view_of (record s { log = x })) is

-- of the same rows of each key in memory, cut otherwise
pub kept_rows : (m : Meaning) (c : CoreModel) (active : Rows) (frozen : List Rows) → ((k : List ℕ) → versions_in k (frozen ++ (active ∷ [])) ≡ versions_in k (memory c)) → IsKept m c → IsKept m (record c { active = active; frozen = frozen })
kept_rows m c active frozen same kept = (
  λ k. same k ∙ kept.0 k,
  λ law. let z : IsSound m c = kept.1 law in record { layers = z.layers; tables = z.tables; short = z.short; bases = z.bases; within = z.within; rise = z.rise; folds = z.folds },
  λ none. let z : HasNoMerge c = kept.2 none in record { own = z.own; commits = z.commits },
)

pub kept_same : (m : Meaning) (a b : CoreModel) → IsSame a b → IsKept m a → IsKept m b
kept_same m a b same k = subst (λ (v : CoreModel). IsKept m v) (sym same) (kept_event m a a.state a.events b.spare refl refl refl (λ none own. own) k)

-- other prefixes are recorded
pub kept_recorded : (m : Meaning) (c : CoreModel) (ps : List (List ℕ)) → IsKept m c → IsKept m (record c { segments = ps })
kept_recorded m c ps kept = (
  kept.0,
  λ law. let z : IsSound m c = kept.1 law in record { layers = z.layers; tables = z.tables; short = z.short; bases = z.bases; within = z.within; rise = z.rise; folds = z.folds },
  λ none. let z : HasNoMerge c = kept.2 none in record { own = z.own; commits = z.commits },
)
