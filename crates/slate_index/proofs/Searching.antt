-- How a search ends: with what it found, or refused.
use Rattle.std.proofs.Common.{◌≡◌, ℕ, suc, ◌+◌, ◌<◌, ◌≤◌, inl, inr, true, List, [], ◌∷◌, get_or, map, length, append-nil, Option, Some, None, Result, Ok, Err, is_some, option_map, refl, sym, ap, subst, arith}
use Rattle.std.specs.Prelude.{IfErr, IsOkUnless}
use Rattle.std.specs.Global.{Vec}
use Rattle.slate_types.specs.declared.config.IsolationLevel.TheVariants.{Snapshot}
use Rattle.slate_types.specs.declared.error.SlateDBError.{SlateDBError}
use Rattle.slate_types.specs.declared.error.SlateDBError.TheVariants.{OutOfMemory}
use Rattle.slate_types.specs.declared.iter.IterationOrder.TheVariants.{Ascending}
use Rattle.slate_types.specs.Fold.{shown}
use Rattle.slate_types.specs.Keys.{AreBytes, prefix_range}
use Rattle.slate_types.specs.Outside.{IsFault, Meaning, Objects, OnlyReads, Reach}
use Rattle.slate_types.specs.Rows.{operand}
use Rattle.slate_types.proofs.Reaching.{reads_none}
use Rattle.slate_filter.specs.Policy.{Policy}
use Rattle.slate_mem.specs.KeyTests.{Segments}
use Rattle.slate_txn.specs.Reads.{key_rows, rows_seen, seen, up_to}
use Rattle.slate_txn.specs.Replay.{IsLegal}
use Rattle.slate_txn.specs.State.{Commit, Rules, combine_at}
use Rattle.slate_db.specs.Installs.{HoldsTables, Replays}
use Rattle.slate_db.specs.Load.{weight}
use Rattle.slate_db.specs.Meaning.{rules_of}
use Rattle.slate_db.specs.Model.{CoreModel}
use Rattle.slate_db.specs.Settled.{IsSettledIn}
use Rattle.slate_steps.specs.Reads.{IsChecked, IsReadError, of_scan}
use Rattle.slate_steps.specs.Steps.{HasEnded, IsBeginError, IsWithin, newest}
use Rattle.slate_steps.proofs.Settling.{ended_kind, ended_load, ended_settled, ended_vouched, ended_weight}
use Rattle.slate_index.specs.declared.error.IndexError.TheVariants.{Db}
use Rattle.slate_index.specs.Calls.{IsAuditedCore, begins, reads, values_in}
use Rattle.slate_index.specs.Changes.{HasEntries}
use Rattle.slate_index.specs.Commits.{IsPlainName}
use Rattle.slate_index.specs.Entries.{FieldsModel, entry_prefix, longest_field, record_key}
use Rattle.slate_index.specs.Finds.{Finds, names_behind}
use Rattle.slate_index.specs.Journals.{change_kind, values_at}
use Rattle.slate_index.specs.Looking.{IsLookup}
use Rattle.slate_index.proofs.Behind.{settled_on}
use Rattle.slate_index.proofs.Finding.{finds}
use Rattle.slate_index.proofs.JournalLaws.{entries_are_those_of_records, records_have_names}

-- it didn't begin
pub not_looked : (policies : List Policy) (seg : Segments) (n : ℕ) (f : List ℕ) (r : Reach) (c d : CoreModel) (x : SlateDBError) → d ≡ c → IsBeginError c x → IsLookup policies seg n f r r c d (Err (Db x))
not_looked policies seg n f r c d x same error = subst (λ v. IsLookup policies seg n f r r c v (Err (Db x))) (sym same) (record {
  looked = inl refl;
  form = λ fs h. h;
  found = λ fs g below store audited. tt;
  undamaged = λ g h. (x, refl, inl error);
  settled = λ h. h;
  vouched = λ m h. h;
  kept = λ m h. h;
  cause = (x, refl, begins error);
  events = omega arith;
  rows = refl;
  reads = reads_none r;
})

-- the entries of a core's records
module _ (m : Meaning) (c : CoreModel) (legal : IsLegal c.settings.start_seq c.events) (replays : Replays c.events c.state) (fs : FieldsModel) (audited : IsAuditedCore fs m c) where
  abbrev r : Rules
  r = rules_of c.settings m

  core_entries : HasEntries fs (values_in m c)
  core_entries = subst (λ (cs : List Commit). HasEntries fs (values_at r cs (newest c))) replays.commits (entries_are_those_of_records fs r c.events (newest c) audited.audited audited.vouched)

  core_names : (id : List ℕ) → is_some (values_in m c (record_key id)) ≡ true → IsPlainName id
  core_names id = subst (λ (cs : List Commit). is_some (values_at r cs (newest c) (record_key id)) ≡ true → IsPlainName id) replays.commits (records_have_names fs r c.events (newest c) id audited.audited audited.vouched)

  core_seen : (k : List ℕ) → option_map operand (seen r c.state.commits (newest c) [] k) ≡ values_in m c k
  core_seen k = ap (λ rs. option_map operand (shown (combine_at r k) rs)) (append-nil (key_rows r k (up_to (newest c) c.state.commits)))

module _ (policies : List Policy) (seg : Segments) (n : ℕ) (f : List ℕ) (before after : Reach) (c d e : CoreModel) (tx : List ℕ) (within : IsWithin c tx Snapshot [] d) (ended : HasEnded c tx Snapshot e) (only : OnlyReads before after) where
  pub search_done : (ids : Vec (List ℕ)) → n < 256 → length f ≤ longest_field → AreBytes f →
      ((g : Segments) → IsChecked policies g before after c → ids.items ≡ names_behind (entry_prefix n f) (map (λ x. x.key) (rows_seen (rules_of c.settings before.meaning) c.state.commits (newest c) [] Ascending (prefix_range (entry_prefix n f))))) →
      IsLookup policies seg n f before after c e (Ok ids)
  search_done ids small short bytes are = record {
    looked = inr (tx, ended);
    form = λ fs. ended_kind (change_kind fs) c e tx Snapshot ended;
    found = λ fs g below store audited.
        subst (Finds fs n f (values_in before.meaning c)) (sym (are g store))
        (finds fs n f (values_in before.meaning c) (rules_of c.settings before.meaning) c.state.commits (newest c)
        (core_seen before.meaning c within.legal within.replays fs audited) (core_entries before.meaning c within.legal within.replays fs audited) (core_names before.meaning c within.legal within.replays fs audited)
        below small short bytes);
    undamaged = λ g h. tt;
    settled = λ h. settled_on policies seg before after e only (ended_settled policies before.meaning seg before.objects c e tx Snapshot ended h);
    vouched = λ m. ended_vouched m c e tx Snapshot ended;
    kept = ended.kept;
    cause = tt;
    events = let more : weight e ≡ weight c + 2 = ended_weight c e tx Snapshot ended in omega (arith, more);
    rows = ended_load c e tx Snapshot ended;
    reads = only;
  }

  pub search_refused : (x : SlateDBError) → IsReadError policies before after d x → ((g : Segments) → IsSettledIn policies g before c → IsFault before after x) → IsLookup policies seg n f before after c e (Err (Db x))
  search_refused x error undamaged = record {
    looked = inr (tx, ended);
    form = λ fs. ended_kind (change_kind fs) c e tx Snapshot ended;
    found = λ fs g below store audited. tt;
    undamaged = λ g h. (x, refl, inr (undamaged g h));
    settled = λ h. settled_on policies seg before after e only (ended_settled policies before.meaning seg before.objects c e tx Snapshot ended h);
    vouched = λ m. ended_vouched m c e tx Snapshot ended;
    kept = ended.kept;
    cause = (
      x,
      refl,
      reads tx Snapshot (record {
        taken = [];
        core = d;
        within = within;
        from = before;
        upto = after;
        first = reads_none before;
        later = reads_none after;
        refused = error;
      }),
    );
    events = let more : weight e ≡ weight c + 2 = ended_weight c e tx Snapshot ended in omega (arith, more);
    rows = ended_load c e tx Snapshot ended;
    reads = only;
  }

-- ---- while it goes on

-- a settled core stands over a store that tells its objects
module _ (policies : List Policy) (g : Segments) (r : Reach) (c : CoreModel) (settled : IsSettledIn policies g r c) where
  pub at_objects : {P : Type 0} → ((os : Objects) → r.objects ≡ Some os → P) → P
  at_objects {P} use_it = by r.objects refl settled.tables.holds
    where
      by : (o : Option Objects) → r.objects ≡ o → HoldsTables o c.events → P
      by None e h = absurd h
      by (Some os) e h = use_it os e

pub memory_fault : (a z : Reach) (e : SlateDBError) → e ≡ OutOfMemory → IsFault a z e
memory_fault a z e is = subst (IsFault a z) (sym is) tt

pub memory_read : (policies : List Policy) (a z : Reach) (c : CoreModel) (e : SlateDBError) → e ≡ OutOfMemory → IsReadError policies a z c e
memory_read policies a z c e is = of_scan (inl (memory_fault a z e is))

pub unless_fault : {X : Type 0} (result : Result X SlateDBError) (a z : Reach) → IsOkUnless result OutOfMemory → IfErr result (IsFault a z)
unless_fault (Ok x) a z h = tt
unless_fault (Err e) a z h = memory_fault a z e h

pub unless_read : {X : Type 0} (result : Result X SlateDBError) (policies : List Policy) (a z : Reach) (c : CoreModel) → IsOkUnless result OutOfMemory → IfErr result (IsReadError policies a z c)
unless_read (Ok x) policies a z c h = tt
unless_read (Err e) policies a z c h = memory_read policies a z c e h

pub all_bytes : (bs : List ℕ) → ((i : ℕ) → get_or bs i 0 < 256) → AreBytes bs
all_bytes [] h = tt
all_bytes (b ∷ bs) h = (h 0, all_bytes bs (λ i. h (suc i)))
