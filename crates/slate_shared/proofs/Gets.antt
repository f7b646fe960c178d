-- What a get answers, and what it leaves.
use Rattle.std.proofs.Common.{inl, inr, ◌≡◌, ◌≢◌, ◌⊎◌, ℕ, List, [], ◌∷◌, ◌++◌, map, Bool, true, false, Some, None, Option, option_map, refl, sym, ap, subst, ◌∙◌}
use Rattle.std.specs.Prelude.{Result, Ok, Err, IfOk, IfErr, OnErr, IsOkUnless, option_and_then}
use Rattle.slate_types.specs.declared.config.Options.{Options}
use Rattle.slate_types.specs.declared.error.SlateDBError.{SlateDBError}
use Rattle.slate_types.specs.declared.error.SlateDBError.TheVariants.{MergeOperatorMissing, OutOfMemory}
use Rattle.slate_types.specs.declared.types.KeyValue.{KeyValue}
use Rattle.slate_types.specs.declared.types.RowEntry.{RowEntry}
use Rattle.slate_types.specs.Fold.{Combine, IsLawful, KeepsShort, fold_rows}
use Rattle.slate_types.specs.Outside.{Act, IsCounted, IsFault, IsStill, Reach, unblamed_by}
use Rattle.slate_types.specs.declared.types.Ulid.{Ulid}
use Rattle.slate_types.specs.Rows.{hide_tombstone, key_value}
use Rattle.slate_types.specs.World.{IsCall, Made}
use Rattle.slate_types.proofs.Calls.{call_none}
use Rattle.slate_table.specs.Parts.{Encode}
use Rattle.slate_filter.specs.Policy.{Policy}
use Rattle.slate_mem.specs.Batch.{kept}
use Rattle.slate_mem.specs.RowOf.{own_row}
use Rattle.slate_txn.specs.declared.event.Event.{Event}
use Rattle.slate_txn.specs.Alone.{IsVouched, own_of}
use Rattle.slate_txn.specs.Reads.{key_rows, up_to}
use Rattle.slate_txn.specs.Replay.{replay}
use Rattle.slate_txn.specs.Settings.{settings_of}
use Rattle.slate_txn.specs.State.{Tx}
use Rattle.slate_db.specs.Asked.{ReadsFiltersFirst, ReadsKey, needs_tables, takes_flushed}
use Rattle.slate_db.specs.Installs.{Holds, tables_of}
use Rattle.slate_db.specs.KeyShares.{IsFolded, IsKeyRead, IsOwnAnswer, IsShown, rows_of}
use Rattle.slate_db.specs.Meaning.{Meaning, combine_of, rules_of}
use Rattle.slate_db.specs.Model.{CoreModel, Rows}
use Rattle.slate_db.specs.Readable.{AreFiltered, IsAnswered, IsReadable, decides_own, keeps_merge}
use Rattle.slate_db.specs.Shown.{Asking}
use Rattle.slate_db.proofs.UnderKeys.{decided_fold, own_on, own_unnoted, plain_keeps, read_on, read_refused, read_unnoted}
use Rattle.slate_db.proofs.Vouches.{get_vouched}
use Rattle.slate_shared.specs.KeyReads.{IsAnsweredBy, IsCoreOf, IsGet, NeedsStored, got, seen_by}
use Rattle.slate_shared.specs.Passes.{Opened}

-- what is seen of a row
abbrev pub visible : Option RowEntry → Option KeyValue
visible row = option_map key_value (option_and_then (λ r. hide_tombstone r.value r) row)

pub shows : (f : Combine) (rows : Rows) (row : Option RowEntry) (a : Option KeyValue) → a ≡ visible row → IsFolded f rows row → IsShown f rows a
shows f rows row a is folded = is ∙ ap visible folded

-- a read that its own operations don't decide
abbrev pub Read : {A : Type 0} → Options → Meaning → Opened → List Event → Asking → Reach → Reach → List ℕ → (Combine → Rows → A → Type 0) → Result A SlateDBError → Type 0
Read o m t seen by a b k means r = ((r ≡ Err OutOfMemory) × (b ≡ a)) ⊎ ((c : CoreModel) × IsCoreOf o m t seen c × IsKeyRead by a b c k t.tx means r)

-- ---- over the journal that was seen

module _ (o : Options) (m : Meaning) (policies : List Policy) (t : Opened) (seen : List Event) (a b : Reach) (same : a.meaning ≡ m) where
  unfoldable pub answered_core : (c : CoreModel) → IsCoreOf o m t seen c → IsAnsweredBy policies m seen t.tx.ops a b → IsAnswered policies a b c
  answered_core c core is = record {
    os = is.os;
    readable = subst (λ (x : Meaning). IsReadable policies x is.os c) (sym same) (record {
      lawful = is.lawful;
      lawful_policies = is.lawful_policies;
      filtered = subst (λ (es : List Event). AreFiltered m.encode policies (tables_of es)) (sym core.events) is.filtered;
      kept = (core.tied, core.sound, core.operable is.operable);
      holds = subst (λ (es : List Event). Holds is.os (tables_of es)) (sym core.events) is.holds;
    });
    answers = is.answers;
  }

  -- the rows of the core are those of the journal
  same_rows : (c : CoreModel) (k : List ℕ) → IsCoreOf o m t seen c →
      fold_rows (combine_of a.meaning k) (rows_of (rules_of c.settings a.meaning) c k t.tx) ≡ fold_rows (combine_of m k) (key_rows (rules_of (settings_of o) m) k (up_to t.tx.begin (replay seen).commits) ++ map (own_row k) (kept t.tx.ops k))
  same_rows c k core = λ i. fold_rows (combine_of (same i) k) (key_rows (rules_of (core.settings i) (same i)) k (up_to t.tx.begin (commits i)) ++ map (own_row k) (kept t.tx.ops k))
    where
      commits : c.state.commits ≡ (replay seen).commits
      commits = sym core.replays.commits ∙ ap (λ (es : List Event). (replay es).commits) core.events

module _ (o : Options) (m : Meaning) (policies : List Policy) (t : Opened) (seen : List Event) (a b : Reach) (same : a.meaning ≡ m) (k : List ℕ) (query : Asking) (set : query.policies ≡ policies) where
  pub seen_row : (row : Option RowEntry) → (decides_own k t.tx.ops ≡ true → IsOwnAnswer a b k t.tx IsFolded (Ok row)) → (decides_own k t.tx.ops ≡ false → Read o m t seen query a b k IsFolded (Ok row)) →
      IsAnsweredBy policies m seen t.tx.ops a b → visible row ≡ option_map key_value (seen_by o m seen t.tx k)
  seen_row row decided read is = ap visible (by (decides_own k t.tx.ops) refl)
    where
      older : Rows
      older = key_rows (rules_of (settings_of o) m) k (up_to t.tx.begin (replay seen).commits)

      all : Option RowEntry
      all = fold_rows (combine_of m k) (older ++ map (own_row k) (kept t.tx.ops k))

      from : Read o m t seen query a b k IsFolded (Ok row) → row ≡ all
      from (inl nothing) = cc nothing.0
      from (inr (c, core, r)) = r.read.answer (subst (λ (ps : List Policy). IsAnswered ps a b c) (sym set) (answered_core o m policies t seen a b same c core is)) ∙ same_rows o m policies t seen a b same c k core

      by : (d : Bool) → decides_own k t.tx.ops ≡ d → row ≡ all
      by true some =
          (decided some).folded (subst (λ (x : Meaning). IsLawful (combine_of x k)) (sym same) (is.lawful.operator k)) (subst (λ (x : Meaning). KeepsShort (combine_of x k)) (sym same) (is.lawful.short k))
          ∙ ap (λ (x : Meaning). fold_rows (combine_of x k) (map (own_row k) (kept t.tx.ops k))) same
          ∙ decided_fold (combine_of m k) k t.tx.ops older some
      by false none = from (read none)

  pub seen_fault : (e : SlateDBError) → (decides_own k t.tx.ops ≡ true → IsOwnAnswer a b k t.tx IsFolded (Err e)) → (decides_own k t.tx.ops ≡ false → Read o m t seen query a b k IsFolded (Err e)) →
      IsAnsweredBy policies m seen t.tx.ops a b → IsFault a b e
  seen_fault e decided read is = by (decides_own k t.tx.ops) refl
    where
      from : Read o m t seen query a b k IsFolded (Err e) → IsFault a b e
      from (inl nothing) = let out : e ≡ OutOfMemory = cc nothing.0 in subst (IsCounted a.faults b.faults) (sym out) tt
      from (inr (c, core, r)) = r.read.undamaged (subst (λ (ps : List Policy). IsAnswered ps a b c) (sym set) (answered_core o m policies t seen a b same c core is))

      own : IsFault a b e ⊎ ((e ≡ MergeOperatorMissing) × (a.meaning.combine ≡ None) × (keeps_merge k t.tx.ops ≡ true)) → IsFault a b e
      own (inl f) = f
      own (inr (is_missing, lacks, some)) = let clash : true ≡ false = sym some ∙ plain_keeps k t.tx.ops (is.operable (ap (λ (x : Meaning). x.combine) (sym same) ∙ lacks)) in cc

      by : (d : Bool) → decides_own k t.tx.ops ≡ d → IsFault a b e
      by true some = own (decided some).cause
      by false none = from (read none)

-- ---- what was asked

none_split : (before : List Act) (act : Act) (after : List Act) → [] ≡ before ++ (act ∷ after) → ⊥
none_split [] act after is = cc
none_split (b ∷ before) act after is = cc

pub asks_nothing : (encode : Encode) (query : Asking) (tables : List (Ulid × List ℕ)) (a b : Reach) → IsCall a b [] → Made a b (ReadsFiltersFirst encode query tables)
asks_nothing encode query tables a b call = ([], call, λ before act after split table among version blocks filters t some place at covers. absurd (none_split before act after split))

pub all_ok : {A E Q : Type 0} (r : Result A E) → Q → IfOk r (λ x. Q)
all_ok (Ok x) q = q
all_ok (Err e) q = tt

module _ {A : Type 0} (o : Options) (m : Meaning) (t : Opened) (seen : List Event) (a b : Reach) (same : a.meaning ≡ m) (k : List ℕ) (query : Asking) (means : Combine → Rows → A → Type 0) (r : Result A SlateDBError) (read : decides_own k t.tx.ops ≡ false → Read o m t seen query a b k means r) where
  pub asked_first : (decides_own k t.tx.ops ≡ true → IsOwnAnswer a b k t.tx means r) → IsAnsweredBy query.policies m seen t.tx.ops a b → query.policies ≢ [] → Made a b (ReadsFiltersFirst m.encode query (tables_of seen))
  asked_first decided is set = by (decides_own k t.tx.ops) refl
    where
      from : Read o m t seen query a b k means r → Made a b (ReadsFiltersFirst m.encode query (tables_of seen))
      from (inl nothing) = asks_nothing m.encode query (tables_of seen) a b (subst (λ (x : Reach). IsCall a x []) (sym nothing.1) (call_none a))
      from (inr (c, core, d)) = subst (λ (x : Meaning × List Event). Made a b (ReadsFiltersFirst x.0.encode query (tables_of x.1))) (λ i. (same i, core.events i)) (d.asks (answered_core o m query.policies t seen a b same c core is) set)

      by : (d : Bool) → decides_own k t.tx.ops ≡ d → Made a b (ReadsFiltersFirst m.encode query (tables_of seen))
      by true some = asks_nothing m.encode query (tables_of seen) a b (decided some).quiet
      by false none = from (read none)

  pub found_stored : IsAnsweredBy query.policies m seen t.tx.ops a b → NeedsStored o m seen t.tx k → IfOk r (λ x. Made a b (ReadsKey m.encode k (tables_of seen)))
  found_stored is needs = from (read needs.0)
    where
      needed : (c : CoreModel) → IsCoreOf o m t seen c → needs_tables (rules_of c.settings a.meaning) c.state t.tx.begin t.tx.ops k ≡ true
      needed c core = (λ i. takes_flushed (record (replay seen) { flushed = flushed i }) (key_rows (rules_of (core.settings i) (same i)) k (up_to t.tx.begin (commits i)) ++ map (own_row k) (kept t.tx.ops k))) ∙ needs.1
        where
          flushed : c.state.flushed ≡ (replay seen).flushed
          flushed = core.flushed ∙ ap (λ (es : List Event). (replay es).flushed) core.events

          commits : c.state.commits ≡ (replay seen).commits
          commits = sym core.replays.commits ∙ ap (λ (es : List Event). (replay es).commits) core.events

      from : Read o m t seen query a b k means r → IfOk r (λ x. Made a b (ReadsKey m.encode k (tables_of seen)))
      from (inl nothing) = subst (λ (d : Result A SlateDBError). IfOk d (λ x. Made a b (ReadsKey m.encode k (tables_of seen)))) (sym nothing.0) tt
      from (inr (c, core, d)) = subst (λ (x : Meaning × List Event). IfOk r (λ y. Made a b (ReadsKey x.0.encode k (tables_of x.1)))) (λ i. (same i, core.events i)) (d.finds (answered_core o m query.policies t seen a b same c core is) (needed c core))

-- ---- what a note leaves

abbrev pub Noted : Opened → List ℕ → Option RowEntry → Opened → Result (Option KeyValue) SlateDBError → Type 0
Noted n k row z r = IfOk r (λ a. (a ≡ visible row) × (z ≡ record n { tx = got k a n.tx }))

module _ (t n z : Opened) (k : List ℕ) (row : Option RowEntry) (grown : n ≡ record t { seen = n.seen }) where
  same_seen : (r : Result (Option KeyValue) SlateDBError) → Noted n k row z r → OnErr r (z ≡ n) → z.seen ≡ n.seen
  same_seen (Ok a) noted same = ap (λ (x : Opened). x.seen) noted.1
  same_seen (Err e) noted same = ap (λ (x : Opened). x.seen) same

  pub note_seen : (r : Result (Option KeyValue) SlateDBError) → Noted n k row z r → OnErr r (z ≡ n) → n.seen ≡ z.seen
  note_seen r noted same = sym (same_seen r noted same)

  pub note_ok : (r : Result (Option KeyValue) SlateDBError) → Noted n k row z r → IfOk r (λ a. z ≡ record t { seen = z.seen; tx = got k a t.tx })
  note_ok (Ok a) noted = noted.1 ∙ (λ i. record (grown i) { tx = got k a (grown i).tx }) ∙ (λ i. record t { seen = (sym noted.1 i).seen; tx = got k a t.tx })
  note_ok (Err e) noted = tt

  pub note_err : (r : Result (Option KeyValue) SlateDBError) → OnErr r (z ≡ n) → OnErr r (z ≡ record t { seen = z.seen })
  note_err (Ok a) same = tt
  note_err (Err e) same = same ∙ grown ∙ (λ i. record t { seen = (sym same i).seen })

  pub note_shows : (r : Result (Option KeyValue) SlateDBError) (x : Option KeyValue) → Noted n k row z r → visible row ≡ x → IfOk r (λ a. a ≡ x)
  note_shows (Ok a) x noted is = noted.0 ∙ is
  note_shows (Err e) x noted is = tt

  pub note_own : (r : Result (Option KeyValue) SlateDBError) (a b : Reach) → Noted n k row z r → IsOkUnless r OutOfMemory → IsOwnAnswer a b k t.tx IsFolded (Ok row) → IsOwnAnswer a b k t.tx IsShown r
  note_own (Ok x) a b noted out own = own_on a b k t.tx IsFolded IsShown row x (λ f rows h. shows f rows row x noted.0 h) own
  note_own (Err e) a b noted out own = subst (λ (d : SlateDBError). IsOwnAnswer a b k t.tx IsShown (Err d)) (sym out) (own_unnoted a b k t.tx IsFolded IsShown row own)

  pub note_read : (r : Result (Option KeyValue) SlateDBError) (by : Asking) (a b : Reach) (c : CoreModel) → Noted n k row z r → IsOkUnless r OutOfMemory → IsKeyRead by a b c k t.tx IsFolded (Ok row) → IsKeyRead by a b c k t.tx IsShown r
  note_read (Ok x) by a b c noted out read = read_on by a b c k t.tx IsFolded IsShown row x (λ f rows h. shows f rows row x noted.0 h) read
  note_read (Err e) by a b c noted out read = subst (λ (d : SlateDBError). IsKeyRead by a b c k t.tx IsShown (Err d)) (sym out) (read_unnoted by a b c k t.tx IsFolded IsShown row read)

  pub note_vouched : (o : Options) (m : Meaning) (r : Result (Option KeyValue) SlateDBError) → Noted n k row z r → OnErr r (z ≡ n) → t.tx.ops ≡ own_of t.tx.transcript → visible row ≡ option_map key_value (seen_by o m z.seen t.tx k) →
      IsVouched (rules_of (settings_of o) m) (replay z.seen).commits t.tx → IsVouched (rules_of (settings_of o) m) (replay z.seen).commits z.tx
  note_vouched o m (Ok a) noted same own is h =
      let tx : got k a t.tx ≡ z.tx = (λ i. got k a (sym grown i).tx) ∙ sym (ap (λ (x : Opened). x.tx) noted.1) in
      subst (IsVouched (rules_of (settings_of o) m) (replay z.seen).commits) tx
      (get_vouched (rules_of (settings_of o) m) (replay z.seen).commits k a t.tx own (noted.0 ∙ is) h)
  note_vouched o m (Err e) noted same own is h = subst (IsVouched (rules_of (settings_of o) m) (replay z.seen).commits) (sym (ap (λ (x : Opened). x.tx) same ∙ ap (λ (x : Opened). x.tx) grown)) h

  pub note_fault : (r : Result (Option KeyValue) SlateDBError) (a b : Reach) → IsOkUnless r OutOfMemory → IfErr r (IsFault a b)
  note_fault (Ok x) a b out = tt
  note_fault (Err e) a b out = subst (IsCounted a.faults b.faults) (sym out) tt

  pub note_on : (o : Options) (m : Meaning) (by : Asking) (a b : Reach) (r : Result (Option KeyValue) SlateDBError) → Noted n k row z r → IsOkUnless r OutOfMemory → Read o m t z.seen by a b k IsFolded (Ok row) → Read o m t z.seen by a b k IsShown r
  note_on o m by a b r noted out (inl nothing) = cc nothing.0
  note_on o m by a b r noted out (inr (c, core, read)) = inr (c, core, note_read r by a b c noted out read)

pub refused_on : (o : Options) (m : Meaning) (t : Opened) (seen : List Event) (by : Asking) (a b : Reach) (k : List ℕ) (e : SlateDBError) → Read o m t seen by a b k IsFolded (Err e) → Read o m t seen by a b k IsShown (Err e)
refused_on o m t seen by a b k e (inl nothing) = let out : e ≡ OutOfMemory = cc nothing.0 in inl (ap (λ (d : SlateDBError). Err d) out, nothing.1)
refused_on o m t seen by a b k e (inr (c, core, r)) = inr (c, core, read_refused by a b c k t.tx IsFolded IsShown e r)

-- ---- no failure is passed over

pub get_still : (o : Options) (m : Meaning) (by : Asking) (k : List ℕ) (t u : Opened) (before after : Reach) (r : Result (Option KeyValue) SlateDBError) → IsGet o m by k t u before after r → IsStill before.faults after.faults r
get_still o m by k t u before after r g = at (decides_own k t.tx.ops) refl
  where
    at : (d : Bool) → decides_own k t.tx.ops ≡ d → IsStill before.faults after.faults r
    at true some = (g.decided some).1.still
    at false none = from (g.read none)
      where
        from : ((r ≡ Err OutOfMemory) × (after ≡ before)) ⊎ ((c : CoreModel) × IsCoreOf o m t u.seen c × IsKeyRead by before after c k t.tx IsShown r) → IsStill before.faults after.faults r
        from (inl nothing) = ap (λ (x : Reach). unblamed_by r x.faults) nothing.1
        from (inr (c, core, read)) = read.read.still
