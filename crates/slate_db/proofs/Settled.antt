-- What a settled core reads, and what stays settled.
use Rattle.std.proofs.Common.{◌≡◌, ℕ, ◌+◌, ◌≤◌, inl, List, flat_map, length, Option, Some, None, refl, sym, ap, ◌∙◌, subst, arith}
use Rattle.slate_types.specs.declared.types.Ulid.{Ulid}
use Rattle.slate_types.specs.Outside.{Objects, Reach}
use Rattle.slate_filter.specs.Policy.{Policy}
use Rattle.slate_mem.specs.KeyTests.{Segments}
use Rattle.slate_txn.specs.declared.event.Event.{Event}
use Rattle.slate_db.specs.Answered.{AnswersFrom}
use Rattle.slate_db.specs.Installs.{Holds, HoldsTables, NumberedFrom, runs_of, tables_of}
use Rattle.slate_db.specs.Meaning.{Meaning}
use Rattle.slate_db.specs.Model.{CoreModel}
use Rattle.slate_db.specs.Readable.{AreFiltered, IsAnswered, IsReadable}
use Rattle.slate_db.specs.Segmented.{IsSegmented}
use Rattle.slate_db.specs.Settled.{IsSettled, IsSettledIn}
use Rattle.slate_db.specs.Sound.{IsKept}
use Rattle.slate_db.proofs.RunsOf.{tables_are}

-- ---- reads

pub settled_readable : (policies : List Policy) (m : Meaning) {seg : Segments} (os : Objects) (c : CoreModel) → IsSettled policies m seg (Some os) c → IsReadable policies m os c
settled_readable policies m os c settled = record { lawful = settled.lawful; lawful_policies = settled.lawful_policies; filtered = settled.filtered; kept = settled.kept; holds = settled.tables.holds }

pub true_answered : (policies : List Policy) {seg : Segments} (before after : Reach) (os : Objects) (c : CoreModel) → IsSettled policies before.meaning seg (Some os) c → AnswersFrom os before after → IsAnswered policies before after c
true_answered policies before after os c settled answers = record { os = os; readable = settled_readable policies before.meaning os c settled; answers = answers }

pub settled_answered : (policies : List Policy) {seg : Segments} (before after : Reach) (c : CoreModel) → IsSettledIn policies seg before c → IsAnswered policies before after c
settled_answered policies before after c settled = by before.objects refl settled.tables.holds
  where
    by : (objects : Option Objects) → before.objects ≡ objects → HoldsTables objects c.events → IsAnswered policies before after c
    by None is held = absurd held
    by (Some os) is held = record { os = os; readable = record { lawful = settled.lawful; lawful_policies = settled.lawful_policies; filtered = settled.filtered; kept = settled.kept; holds = held }; answers = inl is }

-- ---- calls that install nothing

same_tables : (es fs : List Event) → runs_of es ≡ runs_of fs → tables_of es ≡ tables_of fs
same_tables es fs same = tables_are es ∙ ap (flat_map (λ (ts : List (Ulid × List ℕ)). ts)) same ∙ sym (tables_are fs)

pub stays_settled : (policies : List Policy) (m : Meaning) (seg : Segments) (objects : Option Objects) (old new : CoreModel) → runs_of new.events ≡ runs_of old.events → length old.events ≤ length new.events → (IsKept m old → IsKept m new) → (IsSegmented seg old → IsSegmented seg new) →
    IsSettled policies m seg objects old → IsSettled policies m seg objects new
stays_settled policies m seg objects old new runs later kept segmented h = record {
  lawful_policies = h.lawful_policies;
  lawful = h.lawful;
  kept = kept h.kept;
  segmented = segmented h.segmented;
  tables = record {
    holds = by objects h.tables.holds;
    numbered = subst (NumberedFrom 1) (sym runs) h.tables.numbered;
    few = let a : length (runs_of new.events) ≡ length (runs_of old.events) = ap length runs in omega (arith, a, h.tables.few, later);
  };
  filtered = subst (AreFiltered m.encode policies) (sym tables) h.filtered;
}
  where
    tables : tables_of new.events ≡ tables_of old.events
    tables = same_tables new.events old.events runs

    by : (o : Option Objects) → HoldsTables o old.events → HoldsTables o new.events
    by None holds = holds
    by (Some os) holds = subst (Holds os) (sym tables) holds
