-- What is true of a store over several calls is so of each, and of each journal before.
use Rattle.std.proofs.Common.{◌≡◌, inl, inr, List, ◌++◌, Option, Some, None, false, refl, sym, ap, subst, ◌∙◌}
use Rattle.std.proofs.lemmas.Grind.{flat_map-append}
use mathlib.Core.List.{IsPrefix}
use Rattle.slate_types.specs.declared.config.Options.{Options}
use Rattle.slate_types.specs.Outside.{Objects, OnlyReads, Reach}
use Rattle.slate_store.specs.Store.{object_at}
use Rattle.slate_types.proofs.Lists.{AllByRecursion_front}
use Rattle.slate_types.proofs.Reaching.{reads_then}
use Rattle.slate_filter.specs.Policy.{Policy}
use Rattle.slate_mem.specs.Batch.{Ops}
use Rattle.slate_mem.specs.BatchModel.{holds_merge}
use Rattle.slate_mem.specs.KeyTests.{Segments}
use Rattle.slate_table.specs.Filtered.{HasFiltersOf}
use Rattle.slate_table.specs.Paths.{path_of}
use Rattle.slate_txn.specs.declared.event.Event.{Event}
use Rattle.slate_db.specs.Answered.{AnswersFrom}
use Rattle.slate_db.specs.Installs.{Holds, HoldsTables, root, tables_in, tables_of}
use Rattle.slate_db.specs.Meaning.{Meaning}
use Rattle.slate_db.specs.Model.{CoreModel}
use Rattle.slate_db.specs.Readable.{AreFiltered, IsReadable}
use Rattle.slate_db.specs.Settled.{IsSettled, IsSettledIn}
use Rattle.slate_db.proofs.Checks.{slips_first, slips_last}
use Rattle.slate_steps.proofs.Between.{from_first, from_last}
use Rattle.slate_shared.specs.KeyReads.{IsAnsweredBy, IsCoreOf}
use Rattle.slate_shared.specs.Passes.{Opened}
use Rattle.slate_steps.specs.Attempts.{IsStoreChecked, IsStoreTrue}
use Rattle.slate_steps.specs.Reads.{IsChecked, IsMetBy, IsUnslipped}

pub tables_begin : (seen final : List Event) → (p : IsPrefix seen final) → tables_of final ≡ tables_of seen ++ tables_of p.0
tables_begin seen final p = ap tables_of (sym p.1) ∙ flat_map-append tables_in seen p.0

-- of what a journal names before, and of a call between others that only read: by the same objects
unfoldable pub store_within : (policies : List Policy) (m : Meaning) (final seen : List Event) (before x y after : Reach) → IsStoreTrue policies m final before after → IsPrefix seen final →
    OnlyReads before x → OnlyReads x y → OnlyReads y after → IsStoreTrue policies m seen x y
store_within policies m final seen before x y after s p first call last = record {
  os = s.os;
  lawful = s.lawful;
  lawful_policies = s.lawful_policies;
  filtered = AllByRecursion_front (λ t. HasFiltersOf m.encode policies t.0.0 t.1) (tables_of seen) (tables_of p.0) (subst (AreFiltered m.encode policies) (tables_begin seen final p) s.filtered);
  holds = AllByRecursion_front (λ t. object_at s.os (path_of root t.0.0) ≡ Some t.1) (tables_of seen) (tables_of p.0) (subst (Holds s.os) (tables_begin seen final p) s.holds);
  operable = s.operable;
  answers = from_last s.os before x y first call (from_first s.os before y after (reads_then before x y first call) last s.answers);
}

pub within_os : (policies : List Policy) (m : Meaning) (final seen : List Event) (before x y after : Reach) (s : IsStoreTrue policies m final before after) (p : IsPrefix seen final) →
    (first : OnlyReads before x) (call : OnlyReads x y) (last : OnlyReads y after) → (store_within policies m final seen before x y after s p first call last).os ≡ s.os
unfolding store_within
within_os policies m final seen before x y after s p first call last = refl

-- what the objects answered in a call between others
pub answers_within : (policies : List Policy) (m : Meaning) (final : List Event) (before x y after : Reach) (s : IsStoreTrue policies m final before after) → OnlyReads before x → OnlyReads x y → OnlyReads y after → AnswersFrom s.os x y
answers_within policies m final before x y after s first call last = from_last s.os before x y first call (from_first s.os before y after (reads_then before x y first call) last s.answers)

-- for a transaction whose own operations have no merge, so that its reads need no operator
unfoldable pub store_answered : (policies : List Policy) (m : Meaning) (es : List Event) (ops : Ops) (before after : Reach) → holds_merge ops ≡ false → IsStoreTrue policies m es before after → IsAnsweredBy policies m es ops before after
store_answered policies m es ops before after plain s = record {
  os = s.os;
  lawful = s.lawful;
  lawful_policies = s.lawful_policies;
  filtered = s.filtered;
  holds = s.holds;
  operable = λ none. plain;
  answers = s.answers;
}

-- ---- where no section slipped

unslipped_first : (m : Meaning) (os : Objects) (a b c : Reach) → OnlyReads b c → IsUnslipped m os a c → IsUnslipped m os a b
unslipped_first m os a b c later u = record { known = u.known; tells = u.tells; none = λ s. u.none (slips_first m.encode os a b c later s) }

unslipped_last : (m : Meaning) (os : Objects) (a b c : Reach) → OnlyReads a b → IsUnslipped m os a c → IsUnslipped m os b c
unslipped_last m os a b c first u =
    let more = first.acts u.known u.tells in
    record { known = u.known ++ more.0; tells = more.1; none = λ s. u.none (slips_last m.encode os a b c first u.known u.tells s) }

pub met_first : (m : Meaning) (os : Objects) (a b c : Reach) → OnlyReads a b → OnlyReads b c → IsMetBy m os a c → IsMetBy m os a b
met_first m os a b c first later (inl h) = inl (from_first os a b c first later h)
met_first m os a b c first later (inr u) = inr (unslipped_first m os a b c later u)

pub met_last : (m : Meaning) (os : Objects) (a b c : Reach) → OnlyReads a b → OnlyReads b c → IsMetBy m os a c → IsMetBy m os b c
met_last m os a b c first later (inl h) = inl (from_last os a b c first later h)
met_last m os a b c first later (inr u) = inr (unslipped_last m os a b c first u)

-- of what a journal names before, and of the first calls: by the same objects
unfoldable pub checked_earlier : (policies : List Policy) (m : Meaning) (seen all : List Event) (a b c : Reach) → IsPrefix seen all → OnlyReads a b → OnlyReads b c → IsStoreChecked policies m all a c → IsStoreChecked policies m seen a b
checked_earlier policies m seen all a b c p first later s = record {
  os = s.os;
  lawful = s.lawful;
  lawful_policies = s.lawful_policies;
  filtered = AllByRecursion_front (λ t. HasFiltersOf m.encode policies t.0.0 t.1) (tables_of seen) (tables_of p.0) (subst (AreFiltered m.encode policies) (tables_begin seen all p) s.filtered);
  holds = AllByRecursion_front (λ t. object_at s.os (path_of root t.0.0) ≡ Some t.1) (tables_of seen) (tables_of p.0) (subst (Holds s.os) (tables_begin seen all p) s.holds);
  met = met_first m s.os a b c first later s.met;
}

pub earlier_checked_os : (policies : List Policy) (m : Meaning) (seen all : List Event) (a b c : Reach) (p : IsPrefix seen all) (first : OnlyReads a b) (later : OnlyReads b c) (s : IsStoreChecked policies m all a c) →
    (checked_earlier policies m seen all a b c p first later s).os ≡ s.os
unfolding checked_earlier
earlier_checked_os policies m seen all a b c p first later s = refl

-- of the calls behind the first, by the same objects
abbrev pub checked_later : (policies : List Policy) (m : Meaning) (es : List Event) (a b c : Reach) → OnlyReads a b → OnlyReads b c → IsStoreChecked policies m es a c → IsStoreChecked policies m es b c
checked_later policies m es a b c first later s =
    record { os = s.os; lawful = s.lawful; lawful_policies = s.lawful_policies; filtered = s.filtered; holds = s.holds; met = met_last m s.os a b c first later s.met }

abbrev pub checked_of : (policies : List Policy) (m : Meaning) (es : List Event) (before after : Reach) → IsStoreTrue policies m es before after → IsStoreChecked policies m es before after
checked_of policies m es before after s = record { os = s.os; lawful = s.lawful; lawful_policies = s.lawful_policies; filtered = s.filtered; holds = s.holds; met = inl s.answers }

abbrev pub true_of : (policies : List Policy) (m : Meaning) (es : List Event) (before after : Reach) → (s : IsStoreChecked policies m es before after) → AnswersFrom s.os before after → IsStoreTrue policies m es before after
true_of policies m es before after s answers = record { os = s.os; lawful = s.lawful; lawful_policies = s.lawful_policies; filtered = s.filtered; holds = s.holds; operable = λ none. refl; answers = answers }

-- what a transaction without merges of its own reads
pub readable_core : (o : Options) (m : Meaning) (policies : List Policy) (t : Opened) (seen : List Event) (before after : Reach) → before.meaning ≡ m → (c : CoreModel) → IsCoreOf o m t seen c → holds_merge t.tx.ops ≡ false →
    (s : IsStoreChecked policies m seen before after) → IsReadable policies before.meaning s.os c
readable_core o m policies t seen before after same c core plain s = subst (λ (x : Meaning). IsReadable policies x s.os c) (sym same) (record {
  lawful = s.lawful;
  lawful_policies = s.lawful_policies;
  filtered = subst (λ (es : List Event). AreFiltered m.encode policies (tables_of es)) (sym core.events) s.filtered;
  kept = (core.tied, core.sound, core.operable (λ none. plain));
  holds = subst (λ (es : List Event). Holds s.os (tables_of es)) (sym core.events) s.holds;
})

-- ---- of a core

pub met_next : (os : Objects) (a b c : Reach) → OnlyReads a b → OnlyReads b c → IsMetBy a.meaning os a c → IsMetBy b.meaning os b c
met_next os a b c first later met = subst (λ (m : Meaning). IsMetBy m os b c) (sym first.meaning) (met_last a.meaning os a b c first later met)

told_in : (policies : List Policy) (g : Segments) (before : Reach) (c : CoreModel) → IsSettledIn policies g before c → (os : Objects) × (before.objects ≡ Some os)
told_in policies g before c settled = by before.objects refl settled.tables.holds
  where
    by : (o : Option Objects) → before.objects ≡ o → HoldsTables o c.events → (os : Objects) × (before.objects ≡ Some os)
    by None is held = absurd held
    by (Some os) is held = (os, is)

-- over a store that tells its objects
pub record IsToldIn (policies : List Policy) (g : Segments) (before after : Reach) (c : CoreModel) : Type 0 where
  pub checked : IsChecked policies g before after c
  pub told : before.objects ≡ Some checked.os

pub checked_told : (policies : List Policy) (g : Segments) (before after : Reach) (c : CoreModel) → IsSettledIn policies g before c → IsToldIn policies g before after c
checked_told policies g before after c settled =
    let told : (os : Objects) × (before.objects ≡ Some os) = told_in policies g before c settled in
    record { checked = record { os = told.0; settled = subst (λ (o : Option Objects). IsSettled policies before.meaning g o c) told.1 settled; met = inl (inl told.1) }; told = told.1 }

pub checked_in : (policies : List Policy) (g : Segments) (before after : Reach) (c : CoreModel) → IsSettledIn policies g before c → IsChecked policies g before after c
checked_in policies g before after c settled = (checked_told policies g before after c settled).checked

abbrev pub checked_before : (policies : List Policy) (g : Segments) (a b z : Reach) (c : CoreModel) → OnlyReads a b → OnlyReads b z → IsChecked policies g a z c → IsChecked policies g a b c
checked_before policies g a b z c first later s = record { os = s.os; settled = s.settled; met = met_first a.meaning s.os a b z first later s.met }

abbrev pub checked_behind : (policies : List Policy) (g : Segments) (a b z : Reach) (c : CoreModel) → OnlyReads a b → OnlyReads b z → IsChecked policies g a z c → IsChecked policies g b z c
checked_behind policies g a b z c first later s =
    record { os = s.os; settled = subst (λ (m : Meaning). IsSettled policies m g (Some s.os) c) (sym first.meaning) s.settled; met = met_next s.os a b z first later s.met }
