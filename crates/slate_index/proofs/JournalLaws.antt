-- On an audited journal whose transcripts are vouched each commit changes a record from the value that stands, and so the entries are those of the records.
use Rattle.std.proofs.Common.{◌≡◌, ℕ, ◌+◌, ◌≤◌, Bool, true, false, cond, leb, List, [], ◌∷◌, ◌++◌, bytes_eq, Option, is_some, refl, sym, ap, subst, ◌∙◌, arith, append-nil}
use Rattle.std.proofs.lemmas.Bool.Decides.{nat_tests}
use Rattle.std.proofs.lemmas.Slice.Eq.{bytes_eq-Decides}
use Rattle.slate_txn.specs.declared.event.TranscriptStep.{TranscriptStep}
use Rattle.slate_txn.specs.State.{Rules, Commit, last_of}
use Rattle.slate_txn.specs.Reads.{up_to}
use Rattle.slate_txn.specs.Alone.{IsAlone}
use Rattle.slate_txn.specs.Audited.{TracksAll, ComesNext, PassesOn}
use Rattle.slate_txn.specs.Laws.{Counts}
use Rattle.slate_txn.proofs.Growing.{all_up_to, up_to_more}
use Rattle.slate_txn.proofs.KindLaws.{holds_of_all}
use Rattle.slate_index.specs.Entries.{FieldsModel, record_key}
use Rattle.slate_index.specs.Changes.{Values, changed, change_puts, HasEntries}
use Rattle.slate_index.specs.Commits.{IsPlainName, value_of}
use Rattle.slate_index.specs.Journals.{change_kind}
use Rattle.slate_index.specs.Laws.{EntriesAreThoseOfRecords, RecordsHaveNames}
use Rattle.slate_index.proofs.Following.{follow, at_first, at_record}
use Rattle.slate_index.proofs.CommitLaws.{values, after_change, value_read}

record Stands (fs : FieldsModel) (m : Values) : Type 0 where
  entries : HasEntries fs m
  names : (id : List ℕ) → is_some (m (record_key id)) ≡ true → IsPlainName id

record Sound (fs : FieldsModel) (r : Rules) (cs : List Commit) : Type 0 where
  whole : Stands fs (values r cs)
  always : (n : ℕ) → Stands fs (values r (up_to n cs))

-- ---- one change

stands_changed : (fs : FieldsModel) (m : Values) (id : List ℕ) (new : Option (List ℕ)) → IsPlainName id → Stands fs m → Stands fs (changed m (change_puts fs id (m (record_key id)) new))
stands_changed fs m id new name s = record { entries = follow fs m id new s.entries; names = λ other there. by other (bytes_eq id other) refl there }
  where
    by : (other : List ℕ) (b : Bool) → bytes_eq id other ≡ b → is_some (changed m (change_puts fs id (m (record_key id)) new) (record_key other)) ≡ true → IsPlainName other
    by other true e there = subst IsPlainName ((bytes_eq-Decides id other).0 e) name
    by other false e there = s.names other (ap is_some (sym (at_record fs m id (m (record_key id)) new other ∙ ap (λ b. cond b new (m (record_key other))) e)) ∙ there)

-- the value that it read is the one that stands
reads_the_old : (fs : FieldsModel) (r : Rules) (cs : List Commit) (c : Commit) (ts : List TranscriptStep) (on : ComesNext r (change_kind fs) (Sound fs r) cs c ts) → value_of on.of_kind.answer ≡ values r cs (record_key on.of_kind.id)
reads_the_old fs r cs c ts on =
    let read = subst (IsAlone r cs (last_of r.start_seq cs)) on.of_kind.whole on.alone in
    value_read r cs (record_key on.of_kind.id) on.of_kind.answer on.counts read.0

stands_more : (fs : FieldsModel) (r : Rules) (cs : List Commit) (c : Commit) (ts : List TranscriptStep) → ComesNext r (change_kind fs) (Sound fs r) cs c ts → Stands fs (values r (cs ++ (c ∷ [])))
stands_more fs r cs c ts on = subst (Stands fs) (λ i k. sym (after k) i) (stands_changed fs (values r cs) id on.of_kind.new on.of_kind.name on.before.whole)
  where
    id : List ℕ
    id = on.of_kind.id

    puts : Option (List ℕ) → List (List ℕ × Option (List ℕ))
    puts old = change_puts fs id old on.of_kind.new

    after : (k : List ℕ) → values r (cs ++ (c ∷ [])) k ≡ changed (values r cs) (puts (values r cs (record_key id))) k
    after k =
        after_change r cs c (puts (value_of on.of_kind.answer)) k on.counts on.next on.of_kind.kept
        ∙ ap (λ old. changed (values r cs) (puts old) k) (reads_the_old fs r cs c ts on)

-- ---- at each sequence

more_always : (fs : FieldsModel) (r : Rules) (cs : List Commit) (c : Commit) → Counts r.start_seq cs → c.seq ≡ last_of r.start_seq cs + 1 → Stands fs (values r (cs ++ (c ∷ []))) → ((n : ℕ) → Stands fs (values r (up_to n cs))) →
    (n : ℕ) → Stands fs (values r (up_to n (cs ++ (c ∷ []))))
more_always fs r cs c counts e new old n = subst (λ xs. Stands fs (values r xs)) (sym (up_to_more n cs c)) (by (leb c.seq n) refl)
  where
    past : leb c.seq n ≡ true → last_of r.start_seq cs ≤ n
    past f = grind (arith, nat_tests)

    by : (b : Bool) → leb c.seq n ≡ b → Stands fs (values r (up_to n cs ++ cond b (c ∷ []) []))
    by true f = subst (λ xs. Stands fs (values r (xs ++ (c ∷ [])))) (sym (all_up_to r.start_seq n cs counts (past f))) new
    by false f = subst (λ xs. Stands fs (values r xs)) (sym (append-nil (up_to n cs))) (old n)

-- ---- all events

stands_at_first : (fs : FieldsModel) (r : Rules) → Stands fs (values r [])
stands_at_first fs r = record { entries = at_first fs; names = λ id there. none there }
  where
    none : {A : Type 0} → false ≡ true → A
    none e = cc

tracks_all : (fs : FieldsModel) → TracksAll (change_kind fs)
tracks_all fs = record { serializable = λ level now ops tracked ts h. h.serializable; tracks = λ level now ops tracked ts h. h.keys }

goes_on : (fs : FieldsModel) (r : Rules) → PassesOn r (change_kind fs) (Sound fs r)
goes_on fs r = record {
  first = record { whole = stands_at_first fs r; always = λ n. stands_at_first fs r };
  more = λ cs c ts on. record { whole = stands_more fs r cs c ts on; always = more_always fs r cs c on.counts on.next (stands_more fs r cs c ts on) on.before.always };
}

pub entries_are_those_of_records : EntriesAreThoseOfRecords
entries_are_those_of_records fs r es n audited vouched = ((holds_of_all r (change_kind fs) (Sound fs r) (tracks_all fs) (goes_on fs r) es audited.legal vouched audited.changes).always n).entries

pub records_have_names : RecordsHaveNames
records_have_names fs r es n id audited vouched there = ((holds_of_all r (change_kind fs) (Sound fs r) (tracks_all fs) (goes_on fs r) es audited.legal vouched audited.changes).always n).names id there
