use Rattle.std.proofs.Common.{◌≡◌, ℕ, ◌+◌, ◌-◌, ◌^◌, ◌≤◌, ◌<◌, ◌⊎◌, inl, inr, ◌++◌, ◌∷◌, [], List, Option, Some, None, length, ℤ, refl, ap, sym, subst, ◌∙◌, arith, w64}
use Rattle.std.specs.Prelude.{IsSome}
use Rattle.std.specs.List.{AllByRecursion}
use Rattle.std.proofs.lemmas.Int.{to_z-of_z}
use Rattle.slate_types.specs.declared.error.SlateDBError.{SlateDBError}
use Rattle.slate_types.specs.declared.error.SlateDBError.TheVariants.{OutOfMemory}
use Rattle.slate_types.specs.Fold.{Combine, operator_at}
use Rattle.slate_mem.specs.KeyTests.{Segments}
use Rattle.slate_txn.specs.declared.event.Event.TheVariants as events
use Rattle.slate_txn.specs.Named.{find_named, without}
use Rattle.slate_txn.specs.State.{Tx, last_of}
use Rattle.slate_db.specs.declared.engine.Core.TheInside.{Inside}
use Rattle.slate_db.specs.declared.prepared.Prepared.{Prepared}
use Rattle.slate_db.specs.BatchTests.{test_refusal}
use Rattle.slate_db.specs.Committed.{IsEnded, IsCommitted, IsNextOf, after_commit, recorded_at, without_txn}
use Rattle.slate_db.specs.Layers.{AreLayers, in_memory}
use Rattle.slate_db.specs.Load.{load}
use Rattle.slate_db.specs.Log.{IsLog, with_commit, with_end}
use Rattle.slate_db.specs.Managed.{IsManaged}
use Rattle.slate_db.specs.Meaning.{Meaning, combine_of}
use Rattle.slate_db.specs.Model.{CoreModel}
use Rattle.slate_db.specs.Prepared.{IsPrepared, WasPrepared, own_batch, prepared_for}
use Rattle.slate_db.specs.Segmented.{IsSegmented}
use Rattle.slate_db.specs.Sound.{IsKept}
use Rattle.slate_db.specs.Vouched.{IsVouchedFor}
use Rattle.slate_db.specs.View.{view_of, unseen_of, IsWholeInside}
use Rattle.slate_db.proofs.Commits.{Commits, RowsAfter, core_after, may_commit, committed_is, managed_made, whole_made, kept_made, load_made, event_made, segmented_made, load_ended, refused_parts_are, same_txn}
use Rattle.slate_db.proofs.Opened.{stay_but_ended, stay_committed}
use Rattle.slate_db.proofs.Managing.{find_as, managed_dropped}
use Rattle.slate_db.proofs.PreparedOf.{decided_as, of_parts, prepared_cause, named_there}
use Rattle.slate_db.proofs.Vouches.{below_next, others_commit, others_end}
use Rattle.slate_db.proofs.Keeps.{kept_recorded}
use Rattle.slate_db.proofs.Segmenting.{segmented_as}
use Rattle.slate_db.proofs.Wholes.{named_in_journal, whole_end, whole_recorded, kept_end}
use Rattle.slate_db.proofs.engine.Core.commit_prepared.Goals as goal

-- ---- what the commit is made of

pub make_prepared-made-requires-clause-fits : goal.make_prepared-made-requires-clause-fits
make_prepared-made-requires-clause-fits c = let h : c.self.inside.log.last ≤ 2 ^ 64 - 2 = c.self.invariant.log.last_fits in omega (arith, c.last-last.ensures)

pub make_prepared-made-requires-clause-whole : goal.make_prepared-made-requires-clause-whole
make_prepared-made-requires-clause-whole c = c.self.invariant.layers

pub make_prepared-made-requires-clause-within : goal.make_prepared-made-requires-clause-within
make_prepared-made-requires-clause-within c = subst (λ (n : ℕ). AllByRecursion (λ rows. AllByRecursion (λ r. r.seq ≤ n) rows) (in_memory c.self.inside.layers)) (sym c.last-last.ensures) c.self.invariant.tied.rows_within

pub make_prepared-made-requires-clause-newest : goal.make_prepared-made-requires-clause-newest
make_prepared-made-requires-clause-newest c = c.self.invariant.tied.manager.newest ∙ sym c.last-last.ensures

pub make_prepared-made-requires-clause-held : goal.make_prepared-made-requires-clause-held
make_prepared-made-requires-clause-held c = ap (find_named c.args.id.now) c.self.invariant.tied.manager.opened ∙ find_as c.args.id.now c.self.inside.transactions c.in-Some.owned (sym c.in-Some.ensures.taken)

pub make_prepared-made-requires-clause-prepared : goal.make_prepared-made-requires-clause-prepared
make_prepared-made-requires-clause-prepared c =
    (c.args.self.now.settings.default_millis, c.args.now, c.requires.prepared c.in-Some.owned (named_there (view_of c.self.inside) c.args.self.now c.args.id.now c.in-Some.owned c.self.view_is (sym c.in-Some.ensures.taken)))

pub push_commit-requires : goal.push_commit-requires
push_commit-requires c =
    may_commit (view_of c.self.inside) (unseen_of c.self.inside) c.args.id.now c.in-Some.owned c.in-Ok.made.seq c.in-Ok.made.ops c.in-Ok.made.tracked c.in-Ok.made.transcript c.self.invariant (sym c.in-Some.ensures.taken)
    (c.in-Ok.ensures.free c.self.inside.log.commits c.self.invariant.tied.manager.stands)
    (subst (λ (k : ℕ). IsNextOf k c.in-Some.owned.ops c.in-Ok.made.seq) c.last-last.ensures c.in-Ok.ensures.made.next)
    c.in-Ok.ensures.made.ops c.in-Ok.ensures.made.tracked c.in-Ok.ensures.made.steps c.in-Ok.ensures.made.fine

abbrev short : SlateDBError → Type 0
short e = e ≡ OutOfMemory

-- ---- what is committed, with this operator and these segments

abbrev Ready : goal.After-push_commit → Option (List ℕ → Combine) → Segments → Type 0
Ready c o k = IsPrepared (prepared_for o k c.self.inside.default_millis c.args.now (own_batch c.in-Some.owned.ops)) c.args.prepared

-- some operator, and some segments
there : (c : goal.After-push_commit) → WasPrepared c.self.inside.default_millis c.args.now (own_batch c.in-Some.owned.ops) c.args.prepared
there c = subst (λ (v : CoreModel). WasPrepared v.settings.default_millis c.args.now (own_batch c.in-Some.owned.ops) c.args.prepared) (sym c.self.view_is)
    (c.requires.prepared c.in-Some.owned (named_there (view_of c.self.inside) c.args.self.now c.args.id.now c.in-Some.owned c.self.view_is (sym c.in-Some.ensures.taken)))

tested : (c : goal.After-push_commit) (o : Option (List ℕ → Combine)) (k : Segments) → Ready c o k → test_refusal o k c.self.inside.segments c.self.inside.default_millis c.args.now c.in-Some.owned.ops ≡ None
tested c o k p = (c.in-Ok.ensures.puts o k c.self.inside.default_millis c.args.now p).tested

next : (c : goal.After-push_commit) → IsNextOf c.self.inside.log.last c.in-Some.owned.ops c.in-Ok.made.seq
next c = subst (λ (k : ℕ). IsNextOf k c.in-Some.owned.ops c.in-Ok.made.seq) c.last-last.ensures c.in-Ok.ensures.made.next

made : (c : goal.After-push_commit) (o : Option (List ℕ → Combine)) (k : Segments) → Ready c o k → Commits (operator_at o) k c.self.inside c.push_commit.new.self c.make_prepared-made.new.layers c.make_prepared-made.new.segments c.take.new.self c.args.id.now c.in-Ok.made.seq c.args.now c.in-Some.owned
made c o k p = record {
  log = c.push_commit.ensures.value
      ∙ (λ i. with_commit c.self.inside.log c.args.id.now c.in-Ok.made.seq (to_z-of_z w64 c.args.now c.ranges.now i) (c.in-Ok.ensures.made.ops i) (c.in-Ok.ensures.made.tracked i) (c.in-Ok.ensures.made.steps i) c.push_commit.new.self.spare);
  layers = (c.in-Ok.ensures.puts o k c.self.inside.default_millis c.args.now p).put;
  recorded = (c.in-Ok.ensures.puts o k c.self.inside.default_millis c.args.now p).recorded ∙ ap (λ ops. recorded_at k c.in-Ok.made.seq ops c.self.inside.segments) c.in-Ok.ensures.made.ops;
  txns = c.in-Some.ensures.left;
  next = next c;
}

abbrev core : goal.After-push_commit → Inside
core c = record c.self.inside { log = c.push_commit.new.self; layers = c.make_prepared-made.new.layers; transactions = c.take.new.self; manager = c.make_prepared-made.new.manager; segments = c.make_prepared-made.new.segments }

becomes : (c : goal.After-push_commit) (o : Option (List ℕ → Combine)) (k : Segments) → Ready c o k → core_after (operator_at o) k c.self.inside c.args.id.now c.in-Ok.made.seq c.args.now c.in-Some.owned c.push_commit.new.self.spare c.make_prepared-made.new.manager ≡ core c
becomes c o k p = committed_is (operator_at o) k c.self.inside c.push_commit.new.self c.make_prepared-made.new.layers c.make_prepared-made.new.segments c.take.new.self c.make_prepared-made.new.manager c.args.id.now c.in-Ok.made.seq c.args.now c.in-Some.owned (made c o k p)

pub invariant_of-self : goal.invariant_of-self
invariant_of-self c =
    let s : Inside = c.self.inside in
    let w = there c in
    let f = operator_at w.combine in
    subst IsWholeInside (becomes c w.combine w.segments w.is)
    (whole_recorded (after_commit (view_of s) c.args.id.now c.in-Ok.made.seq c.args.now c.in-Some.owned (RowsAfter f (view_of s) c.in-Ok.made.seq c.args.now c.in-Some.owned) c.push_commit.new.self.spare) _ _
    (whole_made f (view_of s) (unseen_of s) c.args.id.now c.in-Ok.made.seq c.args.now c.in-Some.owned c.push_commit.new.self.spare c.make_prepared-made.new.manager (next c)
    (managed_made c.make_prepared-made.new.manager s.log.ids _ s.log.last s.log.commits _ c.in-Ok.made.seq c.args.now c.args.now _ _ _ _ c.last-last.ensures refl c.in-Ok.ensures.made.ops c.in-Ok.ensures.made.tracked
    (c.in-Ok.ensures.committed c.args.now s.log.ids s.log.commits s.transactions (subst (λ (k : ℕ). IsManaged s.manager s.log.ids k s.log.commits s.transactions) (sym c.last-last.ensures) c.self.invariant.tied.manager)))
    (subst IsLog (made c w.combine w.segments w.is).log c.push_commit.ensures.whole) (subst AreLayers (made c w.combine w.segments w.is).layers c.in-Ok.ensures.whole) c.self.invariant))

-- what was prepared for the transaction of the core
ready : (c : goal.After-push_commit) (o : Option (List ℕ → Combine)) (k : Segments) (t : Tx) → find_named c.args.id.now c.args.self.now.state.txns ≡ Some t → IsPrepared (prepared_for o k c.args.self.now.settings.default_millis c.args.now (own_batch t.ops)) c.args.prepared → Ready c o k
ready c o k t named p = of_parts (view_of c.self.inside) c.args.self.now c.args.id.now c.in-Some.owned t o k c.args.now c.args.prepared c.self.view_is (sym c.in-Some.ensures.taken) named p

committed : (c : goal.After-push_commit) → IsCommitted (view_of c.self.inside) (view_of (core c)) c.args.id.now c.in-Ok.made.seq c.args.now c.in-Some.owned
committed c =
    let w = there c in
    subst (λ (s : Inside). IsCommitted (view_of c.self.inside) (view_of s) c.args.id.now c.in-Ok.made.seq c.args.now c.in-Some.owned) (becomes c w.combine w.segments w.is)
    (event_made (operator_at w.combine) w.segments (view_of c.self.inside) c.self.inside.log.last c.args.id.now c.in-Ok.made.seq c.args.now c.in-Some.owned c.push_commit.new.self.spare (next c))

pub returns-in-Ok : goal.returns-in-Ok
returns-in-Ok c = record {
  event = λ t named.
      subst (λ (u : Tx). IsCommitted c.args.self.now (view_of (core c)) c.args.id.now c.in-Ok.made.seq c.args.now u) (same_txn (view_of c.self.inside) c.args.self.now c.args.id.now c.in-Some.owned t c.self.view_is (sym c.in-Some.ensures.taken) named)
      (subst (λ (v : CoreModel). IsCommitted v (view_of (core c)) c.args.id.now c.in-Ok.made.seq c.args.now c.in-Some.owned) c.self.view_is (committed c));
  ended = tt;
  others = λ m k apart h.
      others_commit m (view_of c.self.inside) (view_of (core c)) c.args.id.now k c.self.inside.log.last c.in-Ok.made.seq c.args.now c.in-Some.owned apart (below_next (view_of c.self.inside) (unseen_of c.self.inside) c.self.invariant) (next c) (committed c)
      (subst (λ (v : CoreModel). IsVouchedFor m v k) (sym c.self.view_is) h);
  kept = λ m k t named p kept.
      let r = ready c m.combine k t named p in
      subst (λ (s : Inside). IsKept m (view_of s)) (becomes c m.combine k r)
      (kept_recorded m (after_commit (view_of c.self.inside) c.args.id.now c.in-Ok.made.seq c.args.now c.in-Some.owned (RowsAfter (combine_of m) (view_of c.self.inside) c.in-Ok.made.seq c.args.now c.in-Some.owned) c.push_commit.new.self.spare) _
      (kept_made m (view_of c.self.inside) (unseen_of c.self.inside) c.args.id.now c.in-Ok.made.seq c.args.now c.in-Some.owned c.push_commit.new.self.spare k c.self.inside.segments (next c) (tested c m.combine k r) c.self.invariant
      (subst (λ (v : CoreModel). IsKept m v) (sym c.self.view_is) kept)));
  kept_refused = tt;
  segmented = λ m k t named p z.
      let r = ready c m.combine k t named p in
      subst (λ (s : Inside). IsSegmented k (view_of s)) (becomes c m.combine k r)
      (segmented_made m k (view_of c.self.inside) c.args.id.now c.in-Ok.made.seq c.args.now c.in-Some.owned c.push_commit.new.self.spare (tested c m.combine k r)
      (subst (λ (v : CoreModel). IsSegmented k v) (sym c.self.view_is) z));
  segmented_refused = tt;
  load = λ t named.
      let w = there c in
      subst (λ (u : Tx). load (view_of (core c)) ≤ load c.args.self.now + length u.ops) (same_txn (view_of c.self.inside) c.args.self.now c.args.id.now c.in-Some.owned t c.self.view_is (sym c.in-Some.ensures.taken) named)
      (subst (λ (v : CoreModel). load (view_of (core c)) ≤ load v + length c.in-Some.owned.ops) c.self.view_is
      (subst (λ (s : Inside). load (view_of s) ≤ load (view_of c.self.inside) + length c.in-Some.owned.ops) (becomes c w.combine w.segments w.is)
      (load_made (operator_at w.combine) (view_of c.self.inside) c.args.id.now c.in-Ok.made.seq c.args.now c.in-Some.owned c.push_commit.new.self.spare)));
  decided = λ m k t named p.
      decided_as short m.combine k c.args.now (view_of c.self.inside) c.args.self.now c.in-Some.owned t _ c.self.view_is (same_txn (view_of c.self.inside) c.args.self.now c.args.id.now c.in-Some.owned t c.self.view_is (sym c.in-Some.ensures.taken) named)
      (record {
        next = subst (λ (n : ℕ). IsNextOf n c.in-Some.owned.ops c.in-Ok.made.seq) c.self.invariant.log.last (next c);
        free = c.in-Ok.ensures.free c.self.inside.log.commits c.self.invariant.tied.manager.stands;
        tested = tested c m.combine k (ready c m.combine k t named p);
        cause = tt;
      });
  stay = stay_committed c.args.self.now (view_of (core c)) c.args.id.now c.in-Ok.made.seq c.args.now c.in-Some.owned
      (subst (λ (v : CoreModel). IsCommitted v (view_of (core c)) c.args.id.now c.in-Ok.made.seq c.args.now c.in-Some.owned) c.self.view_is (committed c));
}

-- ---- what is refused

pub push_end-requires : goal.push_end-requires
push_end-requires c = named_in_journal (view_of c.self.inside) (unseen_of c.self.inside) c.args.id.now c.self.invariant (subst (λ (v : CoreModel). IsSome (find_named c.args.id.now v.state.txns)) (sym c.self.view_is) c.requires.open)

abbrev left : goal.After-push_end → Inside
left c = record c.self.inside { log = c.push_end.new.self; layers = c.make_prepared-made.new.layers; transactions = c.take.new.self; manager = c.drop_txn.new.self; segments = c.make_prepared-made.new.segments }

ends : (c : goal.After-push_end) → record c.self.inside { log = with_end c.self.inside.log c.args.id.now c.push_end.new.self.spare; transactions = without c.args.id.now c.self.inside.transactions; manager = c.drop_txn.new.self } ≡ left c
ends c = refused_parts_are c.self.inside c.push_end.new.self c.make_prepared-made.new.layers c.make_prepared-made.new.segments c.take.new.self c.drop_txn.new.self c.args.id.now c.push_end.ensures.value c.in-Err.ensures.left.layers c.in-Err.ensures.left.segments c.in-Some.ensures.left

pub invariant_of-self-in-Err : goal.invariant_of-self-in-Err
invariant_of-self-in-Err c =
    let s : Inside = c.self.inside in
    subst IsWholeInside (ends c)
    (whole_end (view_of s) (unseen_of s) c.args.id.now c.push_end.new.self.spare c.drop_txn.new.self
    (managed_dropped s.manager c.make_prepared-made.new.manager c.drop_txn.new.self s.log.ids s.log.last s.log.commits s.transactions c.args.id.now c.in-Err.ensures.left.grown c.drop_txn.ensures.dropped (c.drop_txn.ensures.stands _) c.self.invariant.tied.manager)
    (subst IsLog c.push_end.ensures.value c.push_end.ensures.whole) c.self.invariant)

ended_so : (c : goal.After-push_end) → IsEnded c.args.self.now (view_of (left c)) c.args.id.now
ended_so c = sym (ap view_of (ends c)) ∙ ap (λ (v : CoreModel). record v { state = without_txn v.state c.args.id.now; events = v.events ++ (events.End c.args.id.now ∷ []); spare = c.push_end.new.self.spare }) c.self.view_is

still_kept : (c : goal.After-push_end) (m : Meaning) → IsKept m c.args.self.now → IsKept m (view_of (left c))
still_kept c m k =
    subst (λ (s : Inside). IsKept m (view_of s)) (ends c)
    (kept_end m (view_of c.self.inside) c.args.id.now c.push_end.new.self.spare (subst (λ (v : CoreModel). IsKept m v) (sym c.self.view_is) k))

still_segmented : (c : goal.After-push_end) (h : Segments) → IsSegmented h c.args.self.now → IsSegmented h (view_of (left c))
still_segmented c h z =
    subst (λ (s : Inside). IsSegmented h (view_of s)) (ends c)
    (segmented_as h (view_of c.self.inside) _ refl refl (subst (λ (v : CoreModel). IsSegmented h v) (sym c.self.view_is) z))

-- what was prepared for the transaction of the core
asked : (c : goal.After-push_end) (o : Option (List ℕ → Combine)) (k : Segments) (t : Tx) → find_named c.args.id.now c.args.self.now.state.txns ≡ Some t → IsPrepared (prepared_for o k c.args.self.now.settings.default_millis c.args.now (own_batch t.ops)) c.args.prepared →
    IsPrepared (prepared_for o k c.self.inside.default_millis c.args.now (own_batch c.in-Some.owned.ops)) c.args.prepared
asked c o k t named p = of_parts (view_of c.self.inside) c.args.self.now c.args.id.now c.in-Some.owned t o k c.args.now c.args.prepared c.self.view_is (sym c.in-Some.ensures.taken) named p

pub returns-in-Err : goal.returns-in-Err
returns-in-Err c = record {
  event = λ t named. tt;
  ended = ended_so c;
  others = λ m k apart h.
      subst (λ (s : Inside). IsVouchedFor m (view_of s) k) (ends c)
      (others_end m (view_of c.self.inside) c.args.id.now k c.push_end.new.self.spare apart (subst (λ (v : CoreModel). IsVouchedFor m v k) (sym c.self.view_is) h));
  kept = λ m k t named p kept. still_kept c m kept;
  kept_refused = λ m k. still_kept c m k;
  segmented = λ m k t named p z. still_segmented c k z;
  segmented_refused = λ h z. still_segmented c h z;
  load = λ t named.
      subst (λ (v : CoreModel). load (view_of (left c)) ≤ load v + length t.ops) c.self.view_is
      (subst (λ (s : Inside). load (view_of s) ≤ load (view_of c.self.inside) + length t.ops) (ends c) (load_ended (view_of c.self.inside) c.args.id.now c.push_end.new.self.spare (length t.ops)));
  decided = λ m k t named p.
      decided_as short m.combine k c.args.now (view_of c.self.inside) c.args.self.now c.in-Some.owned t _ c.self.view_is (same_txn (view_of c.self.inside) c.args.self.now c.args.id.now c.in-Some.owned t c.self.view_is (sym c.in-Some.ensures.taken) named)
      (record {
        next = tt;
        free = tt;
        tested = tt;
        cause = prepared_cause m.combine k (view_of c.self.inside) c.last-last.result (last_of c.self.inside.log.start c.self.inside.log.commits) c.args.now c.in-Some.owned c.in-Err.error (c.last-last.ensures ∙ c.self.invariant.log.last)
            (c.in-Err.ensures.cause m.combine k c.self.inside.default_millis c.args.now (asked c m.combine k t named p) c.self.inside.log.commits c.self.invariant.tied.manager.stands);
      });
  stay = stay_but_ended c.args.self.now (view_of (left c)) c.args.id.now (ended_so c);
}
