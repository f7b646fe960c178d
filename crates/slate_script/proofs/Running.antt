-- What is kept from line to line.
use Rattle.std.proofs.Common.{◌≡◌, ℕ, List, [], Option, Some, Result, Ok, Err, OnOk, IsTrue, ◌⊎◌, inl, inr, refl, sym, ap, ◌∙◌, subst, arith}
use Rattle.slate_types.specs.declared.config.Options.{Options}
use Rattle.slate_types.specs.declared.error.SlateDBError.{SlateDBError}
use Rattle.slate_types.specs.declared.error.SlateDBError.TheVariants.{ChecksumMismatch, InvalidRowFlags, CorruptTable, InvalidFilterBlock, InvalidSequenceOrder, MergeOperatorMissing, LimitReached}
use Rattle.slate_types.specs.Outside.{Objects, Counts, IsCounted}
use Rattle.slate_filter.specs.Policy.{Policy}
use Rattle.slate_txn.specs.declared.line.Line.{Line}
use Rattle.slate_txn.specs.declared.line.Line.TheVariants as lines
use Rattle.slate_txn.specs.Settings.{settings_of}
use Rattle.slate_txn.specs.State.{Rules}
use Rattle.slate_mem.specs.KeyTests.{Segments}
use Rattle.slate_db.specs.Installs.{HoldsTables, tables_of}
use Rattle.slate_db.specs.Meaning.{Meaning, rules_in}
use Rattle.slate_db.specs.Parts.{IsTableError}
use Rattle.slate_db.specs.Readable.{AreFiltered}
use Rattle.slate_db.specs.Segmented.{IsSegmented}
use Rattle.slate_db.specs.Sound.{IsKept}
use Rattle.slate_db.specs.Settled.{HasTables, IsSettled}
use Rattle.slate_language.specs.Parse.{parse}
use Rattle.slate_script.specs.Run.{run_rules, Premises}
use Rattle.slate_script.specs.Session.{SessionModel, IsRunning, has_moment}
use Rattle.slate_language.specs.Grammar.{IsLine}
use Rattle.slate_language.proofs.ParseOnly.{parse_only}

pub is_settled : {policies : List Policy} {m : Meaning} {seg : Segments} {r : Rules} {parts : Meaning} {objects : Option Objects} {e : SessionModel} → IsRunning policies m seg r parts objects e → IsSettled policies parts seg objects e.core
is_settled {policies = policies} {seg = seg} {objects = objects} {e = e} h = subst (λ (x : Meaning). IsSettled policies x seg objects e.core) (sym h.meaning) h.settled

pub its_rules : {policies : List Policy} {m : Meaning} {seg : Segments} {r : Rules} {parts : Meaning} {objects : Option Objects} {e : SessionModel} → IsRunning policies m seg r parts objects e → rules_in e.core.settings parts seg ≡ r
its_rules {seg = seg} {e = e} h = ap (λ x. rules_in e.core.settings x seg) h.meaning ∙ h.rules

-- a line later
pub runs_on : {policies : List Policy} {m : Meaning} {seg : Segments} {r : Rules} {parts now : Meaning} {objects after : Option Objects} {e new : SessionModel} → IsRunning policies m seg r parts objects e → now ≡ parts → new.core.settings ≡ e.core.settings →
    IsSettled policies parts seg after new.core → IsRunning policies m seg r now after new
runs_on {policies = policies} {m = m} {seg = seg} {after = after} {new = new} h same settings settled = record {
  meaning = same ∙ h.meaning;
  rules = ap (λ x. rules_in x m seg) settings ∙ h.rules;
  settled = subst (λ (x : Meaning). IsSettled policies x seg after new.core) h.meaning settled;
}

-- ---- the beginning

pub begins : (policies : List Policy) (m : Meaning) (seg : Segments) (o : Options) (objects : Option Objects) (e : SessionModel) → Premises policies m objects → e.core.settings ≡ settings_of o → e.core.events ≡ [] → ((n : Meaning) → IsKept n e.core) → ((sg : Segments) → IsSegmented sg e.core) → IsRunning policies m seg (run_rules o m seg) m objects e
begins policies m seg o objects e p settings none kept segmented = record {
  meaning = refl;
  rules = ap (λ x. rules_in x m seg) settings;
  settled = record {
    lawful_policies = p.lawful_policies;
    lawful = p.lawful;
    kept = kept m;
    segmented = segmented seg;
    tables = subst (HasTables objects) (sym none) (record { holds = subst (λ os. HoldsTables os []) (sym p.empty) tt; numbered = tt; few = omega arith });
    filtered = subst (λ es. AreFiltered m.encode policies (tables_of es)) (sym none) tt;
  };
}

-- ---- of a line that means something, and of results

pub one_moment : (l : List ℕ) (line : Line) → parse l ≡ Some line → IsTrue (has_moment line)
one_moment l line h = by line (parse_only l line h)
  where
    by : (x : Line) → IsLine l x → IsTrue (has_moment x)
    by (lines.Now m) is = is.1.1.0
    by (lines.Begin name level) is = refl
    by (lines.Snapshot name) is = refl
    by (lines.Get name k) is = refl
    by (lines.Scan name order start end sts) is = refl
    by (lines.Prefix name order p start end sts) is = refl
    by (lines.Put name k v ttl) is = refl
    by (lines.Merge name k v ttl) is = refl
    by (lines.Delete name k) is = refl
    by (lines.Mark name ks) is = refl
    by (lines.Unmark name ks) is = refl
    by (lines.Commit name) is = refl
    by (lines.Rollback name) is = refl
    by (lines.Write ops) is = refl
    by lines.Freeze is = refl
    by lines.Flush is = refl
    by lines.Journal is = refl

pub always : {V E P : Type 0} (result : Result V E) → P → OnOk result P
always (Ok v) p = p
always (Err e) p = tt

damage_outer : (before after : Counts) (e : SlateDBError) → IsCounted before after e → IsTableError e → ⊥
damage_outer before after (ChecksumMismatch stored computed) h d = h
damage_outer before after (InvalidRowFlags flags) h d = h
damage_outer before after (CorruptTable place) h d = h
damage_outer before after (InvalidFilterBlock len) h d = h
damage_outer before after (InvalidSequenceOrder a b) h d = h
damage_outer before after MergeOperatorMissing h d = h
damage_outer before after e h d = d

pub not_damage : {X : Type 0} (before after : Counts) (e : SlateDBError) → IsCounted before after e ⊎ ((n : ℕ) × (e ≡ LimitReached n) × X) → IsTableError e → ⊥
not_damage before after e (inl h) d = damage_outer before after e h d
not_damage before after e (inr h) d = subst IsTableError h.1 d
