use Rattle.std.proofs.Common.{◌≡◌, ℕ, ◌-◌, ◌^◌, ◌≤◌, List, Option, option_map, ◌⊎◌, inl, inr, refl, ap, sym, subst, ◌∙◌, arith, w64, of_z, to_z}
use Rattle.std.specs.Prelude.{IsSome, Ok, Err}
use Rattle.std.specs.List.{AllByRecursion}
use Rattle.std.proofs.lemmas.Int.{to_z-of_z}
use Rattle.slate_store.specs.Reach.{reach_of}
use Rattle.slate_types.specs.declared.error.SlateDBError.{SlateDBError}
use Rattle.slate_types.specs.declared.error.SlateDBError.TheVariants.{OutOfMemory}
use Rattle.slate_types.specs.Fold.{Combine}
use Rattle.slate_mem.specs.Lookup.{IsCallback}
use Rattle.slate_mem.specs.KeyTests.{Segments}
use Rattle.slate_types.specs.Outside.{IsFault, Meaning, Reach}
use Rattle.slate_txn.specs.Conflict.{conflict}
use Rattle.slate_txn.specs.Named.{find_named, without}
use Rattle.slate_db.specs.declared.engine.Core.TheInside.{Inside}
use Rattle.slate_db.specs.Calls.Commit.{AsksNobody}
use Rattle.slate_db.specs.Calls.Common.{Given, given_by}
use Rattle.slate_db.specs.Committed.{IsNextOf, after_commit, recorded_at}
use Rattle.slate_db.specs.Layers.{AreLayers, in_memory}
use Rattle.slate_db.specs.Log.{IsLog, with_commit, with_end}
use Rattle.slate_db.specs.Managed.{IsManaged}
use Rattle.slate_db.specs.Meaning.{combine_of, segments_by}
use Rattle.slate_db.specs.Model.{CoreModel}
use Rattle.slate_db.specs.View.{view_of, unseen_of, IsWholeInside}
use Rattle.slate_db.proofs.Asks.{asked_call, asked_reads, callback_fault, short_fault}
use Rattle.slate_db.proofs.Committing.{commits_err, commits_moved, commits_ok, unasked_moved, verdict_as, verdict_by, verdict_inside}
use Rattle.slate_db.proofs.Commits.{Commits, RowsAfter, core_after, may_commit, committed_is, managed_made, put_as, whole_made, refused_parts_are}
use Rattle.slate_db.proofs.Operands.{combine_is}
use Rattle.slate_db.proofs.Managing.{find_as, managed_dropped}
use Rattle.slate_db.proofs.Tests.{test_refusal_as}
use Rattle.slate_db.proofs.Verdicts.{decided_none, decides_err_as, decides_ok_as, none_free}
use Rattle.slate_db.proofs.Wholes.{named_in_journal, whole_end, whole_recorded}
use Rattle.slate_db.proofs.engine.Core.commit.Goals as goal
use Rattle.slate_db.proofs.engine.Core.commit.Given as given

-- ---- what the commit is made of

pub make-made-requires-clause-fits : goal.make-made-requires-clause-fits
make-made-requires-clause-fits g c = λ κs lives. let h : c.self.inside.log.last ≤ 2 ^ 64 - 2 = c.self.invariant.log.last_fits in omega (arith, c.last-last.ensures)

pub make-made-requires-clause-whole : goal.make-made-requires-clause-whole
make-made-requires-clause-whole g c = λ κs lives. c.self.invariant.layers

pub make-made-requires-clause-within : goal.make-made-requires-clause-within
make-made-requires-clause-within g c = λ κs lives. subst (λ (n : ℕ). AllByRecursion (λ rows. AllByRecursion (λ r. r.seq ≤ n) rows) (in_memory c.self.inside.layers)) (sym c.last-last.ensures) c.self.invariant.tied.rows_within

pub make-made-requires-clause-newest : goal.make-made-requires-clause-newest
make-made-requires-clause-newest g c = λ κs lives. c.self.invariant.tied.manager.newest ∙ sym c.last-last.ensures

pub make-made-requires-clause-held : goal.make-made-requires-clause-held
make-made-requires-clause-held g c = λ κs lives. ap (find_named c.args.id.now) c.self.invariant.tied.manager.opened ∙ find_as c.args.id.now c.self.inside.transactions c.in-Some.owned (sym c.in-Some.ensures.taken)

pub push_commit-requires : goal.push_commit-requires
push_commit-requires g c =
    may_commit (view_of c.self.inside) (unseen_of c.self.inside) c.args.id.now c.in-Some.owned c.in-Ok.made.seq c.in-Ok.made.ops c.in-Ok.made.tracked c.in-Ok.made.transcript c.self.invariant (sym c.in-Some.ensures.taken)
    (none_free (conflict c.self.inside.log.commits c.in-Some.owned) c.last-last.result c.in-Some.owned.ops _ (decided_none _ _ c.in-Ok.made (c.in-Ok.ensures.commits.answer c.self.inside.log.commits c.self.invariant.tied.manager.stands).decides))
    (subst (λ (k : ℕ). IsNextOf k c.in-Some.owned.ops c.in-Ok.made.seq) c.last-last.ensures c.in-Ok.ensures.commits.makes.made.next)
    c.in-Ok.ensures.commits.makes.made.ops c.in-Ok.ensures.commits.makes.made.tracked c.in-Ok.ensures.commits.makes.made.steps c.in-Ok.ensures.commits.makes.made.fine

-- ---- what is committed

abbrev meaning : (g : given.Over) → goal.After-push_commit g → Meaning
meaning g c = (reach_of g.S.Store g.M.MergeOperator g.T.BlockTransformer c.args.env.now).meaning

abbrev asked : (g : given.Over) → goal.After-push_commit g → List ℕ → Combine
asked g c = combine_of (meaning g c)

-- the segments of the laws
abbrev by : (g : given.Over) → goal.After-push_commit g → Segments
by g c = segments_by g.X.PrefixExtractor.lengths c.args.laws.now.segments

abbrev terms : (g : given.Over) → goal.After-push_commit g → Given
terms g c = given_by (reach_of g.S.Store g.M.MergeOperator g.T.BlockTransformer c.args.env.now) (by g c) c.args.now

made : (g : given.Over) (c : goal.After-push_commit g) → Commits (asked g c) (by g c) c.self.inside c.push_commit.new.self c.make-made.new.layers c.make-made.new.segments c.take.new.self c.args.id.now c.in-Ok.made.seq c.args.now c.in-Some.owned
made g c = record {
  log = c.push_commit.ensures.value
      ∙ (λ i. with_commit c.self.inside.log c.args.id.now c.in-Ok.made.seq (to_z-of_z w64 c.args.now c.ranges.now i) (c.in-Ok.ensures.commits.makes.made.ops i) (c.in-Ok.ensures.commits.makes.made.tracked i) (c.in-Ok.ensures.commits.makes.made.steps i) c.push_commit.new.self.spare);
  layers = put_as (option_map g.M.MergeOperator.combine c.args.env.now.operator) (meaning g c).combine c.self.inside.default_millis c.in-Ok.made.seq _ c.args.now c.in-Some.owned.ops c.self.inside.layers c.make-made.new.layers c.in-Ok.ensures.commits.makes.put (sym (combine_is g.M.MergeOperator.combine c.args.env.now.operator)) (to_z-of_z w64 c.args.now c.ranges.now);
  recorded = c.in-Ok.ensures.commits.makes.recorded ∙ ap (λ ops. recorded_at (by g c) c.in-Ok.made.seq ops c.self.inside.segments) c.in-Ok.ensures.commits.makes.made.ops;
  txns = c.in-Some.ensures.left;
  next = subst (λ (k : ℕ). IsNextOf k c.in-Some.owned.ops c.in-Ok.made.seq) c.last-last.ensures c.in-Ok.ensures.commits.makes.made.next;
}

abbrev core : (g : given.Over) (c : goal.After-push_commit g) → Inside
core g c = record c.self.inside { log = c.push_commit.new.self; layers = c.make-made.new.layers; transactions = c.take.new.self; manager = c.make-made.new.manager; segments = c.make-made.new.segments }

becomes : (g : given.Over) (c : goal.After-push_commit g) → core_after (asked g c) (by g c) c.self.inside c.args.id.now c.in-Ok.made.seq c.args.now c.in-Some.owned c.push_commit.new.self.spare c.make-made.new.manager ≡ core g c
becomes g c = committed_is (asked g c) (by g c) c.self.inside c.push_commit.new.self c.make-made.new.layers c.make-made.new.segments c.take.new.self c.make-made.new.manager c.args.id.now c.in-Ok.made.seq c.args.now c.in-Some.owned (made g c)

pub invariant_of-self : goal.invariant_of-self
invariant_of-self g c =
    let s : Inside = c.self.inside in
    subst IsWholeInside (becomes g c)
    (whole_recorded (after_commit (view_of s) c.args.id.now c.in-Ok.made.seq c.args.now c.in-Some.owned (RowsAfter (asked g c) (view_of s) c.in-Ok.made.seq c.args.now c.in-Some.owned) c.push_commit.new.self.spare) _ _
    (whole_made (asked g c) (view_of s) (unseen_of s) c.args.id.now c.in-Ok.made.seq c.args.now c.in-Some.owned c.push_commit.new.self.spare c.make-made.new.manager (made g c).next
    (managed_made c.make-made.new.manager s.log.ids _ s.log.last s.log.commits _ c.in-Ok.made.seq _ c.args.now _ _ _ _ c.last-last.ensures (to_z-of_z w64 c.args.now c.ranges.now) c.in-Ok.ensures.commits.makes.made.ops c.in-Ok.ensures.commits.makes.made.tracked
    (c.in-Ok.ensures.committed s.log.ids s.log.commits s.transactions (subst (λ (k : ℕ). IsManaged s.manager s.log.ids k s.log.commits s.transactions) (sym c.last-last.ensures) c.self.invariant.tied.manager)))
    (subst IsLog (made g c).log c.push_commit.ensures.whole) (subst AreLayers (made g c).layers c.in-Ok.ensures.whole) c.self.invariant))

-- the parts' verdict is the core's
abbrev parts_ok : (g : given.Over) → goal.After-push_commit g → Option SlateDBError
parts_ok g c = verdict_by (option_map g.M.MergeOperator.combine c.args.env.now.operator) (by g c) c.self.inside c.in-Some.owned c.last-last.result (to_z w64 (of_z w64 c.args.now))

verdict_ok : (g : given.Over) (c : goal.After-push_commit g) → parts_ok g c ≡ verdict_inside (terms g c) c.self.inside c.in-Some.owned
verdict_ok g c = verdict_as (terms g c) c.self.inside c.in-Some.owned (option_map g.M.MergeOperator.combine c.args.env.now.operator) c.last-last.result _
    (test_refusal_as (option_map g.M.MergeOperator.combine c.args.env.now.operator) (meaning g c).combine (by g c) c.self.inside.segments c.self.inside.default_millis _ c.args.now c.in-Some.owned.ops (sym (combine_is g.M.MergeOperator.combine c.args.env.now.operator)) (to_z-of_z w64 c.args.now c.ranges.now)) c.last-last.ensures

pub returns-in-Ok-clause-commits : goal.returns-in-Ok-clause-commits
returns-in-Ok-clause-commits g c t named =
    let before : Reach = reach_of g.S.Store g.M.MergeOperator g.T.BlockTransformer c.args.env.now in
    let after : Reach = reach_of g.S.Store g.M.MergeOperator g.T.BlockTransformer (record c.args.env.now { operator = c.make-made.new.operator }) in
    commits_moved (terms g c) c.args.id.now (view_of c.self.inside) c.args.self.now (view_of (core_after (asked g c) (by g c) c.self.inside c.args.id.now c.in-Ok.made.seq c.args.now c.in-Some.owned c.push_commit.new.self.spare c.make-made.new.manager)) (view_of (core g c)) c.in-Some.owned t before after (Ok c.in-Ok.made.seq)
    c.self.view_is (ap view_of (becomes g c)) (sym c.in-Some.ensures.taken) named
    (commits_ok (terms g c) c.self.inside c.args.id.now c.in-Ok.made.seq c.in-Some.owned c.push_commit.new.self.spare c.make-made.new.manager before after c.self.invariant (sym c.in-Some.ensures.taken)
    (decides_ok_as (parts_ok g c) (verdict_inside (terms g c) c.self.inside c.in-Some.owned) _ (IsFault before after) c.in-Ok.made c.in-Ok.made.seq (verdict_ok g c) (c.in-Ok.ensures.commits.answer c.self.inside.log.commits c.self.invariant.tied.manager.stands).decides) (made g c).next
    (record {
      call = asked_call g.S.Store g.M.MergeOperator g.T.BlockTransformer c.args.env.now c.make-made.new.operator c.make-made.ensures.same;
      reads = asked_reads g.S.Store g.M.MergeOperator g.T.BlockTransformer c.args.env.now c.make-made.new.operator c.make-made.ensures.same c.make-made.ensures.later;
      still = c.in-Ok.ensures.still;
    }))

-- ---- what is refused

pub push_end-requires : goal.push_end-requires
push_end-requires g c = named_in_journal (view_of c.self.inside) (unseen_of c.self.inside) c.args.id.now c.self.invariant (subst (λ (v : CoreModel). IsSome (find_named c.args.id.now v.state.txns)) (sym c.self.view_is) c.requires)

abbrev left : (g : given.Over) (c : goal.After-push_end g) → Inside
left g c = record c.self.inside { log = c.push_end.new.self; layers = c.make-made.new.layers; transactions = c.take.new.self; manager = c.drop_txn.new.self; segments = c.make-made.new.segments }

ends : (g : given.Over) (c : goal.After-push_end g) → record c.self.inside { log = with_end c.self.inside.log c.args.id.now c.push_end.new.self.spare; transactions = without c.args.id.now c.self.inside.transactions; manager = c.drop_txn.new.self } ≡ left g c
ends g c = refused_parts_are c.self.inside c.push_end.new.self c.make-made.new.layers c.make-made.new.segments c.take.new.self c.drop_txn.new.self c.args.id.now c.push_end.ensures.value c.in-Err.ensures.left.layers c.in-Err.ensures.left.segments c.in-Some.ensures.left

abbrev before : (g : given.Over) → goal.After-push_end g → Reach
before g c = reach_of g.S.Store g.M.MergeOperator g.T.BlockTransformer c.args.env.now

abbrev after : (g : given.Over) → goal.After-push_end g → Reach
after g c = reach_of g.S.Store g.M.MergeOperator g.T.BlockTransformer (record c.args.env.now { operator = c.make-made.new.operator })

abbrev fault : (g : given.Over) → goal.After-push_end g → SlateDBError → Type 0
fault g c = IsFault (before g c) (after g c)

abbrev with : (g : given.Over) → goal.After-push_end g → Given
with g c = given_by (before g c) (segments_by g.X.PrefixExtractor.lengths c.args.laws.now.segments) c.args.now

abbrev parts_err : (g : given.Over) → goal.After-push_end g → Option SlateDBError
parts_err g c = verdict_by (option_map g.M.MergeOperator.combine c.args.env.now.operator) (with g c).segments c.self.inside c.in-Some.owned c.last-last.result (to_z w64 (of_z w64 c.args.now))

verdict_err : (g : given.Over) (c : goal.After-push_end g) → parts_err g c ≡ verdict_inside (with g c) c.self.inside c.in-Some.owned
verdict_err g c = verdict_as (with g c) c.self.inside c.in-Some.owned (option_map g.M.MergeOperator.combine c.args.env.now.operator) c.last-last.result _
    (test_refusal_as (option_map g.M.MergeOperator.combine c.args.env.now.operator) (before g c).meaning.combine (with g c).segments c.self.inside.segments c.self.inside.default_millis _ c.args.now c.in-Some.owned.ops (sym (combine_is g.M.MergeOperator.combine c.args.env.now.operator)) (to_z-of_z w64 c.args.now c.ranges.now)) c.last-last.ensures

fault_of : (g : given.Over) (c : goal.After-push_end g) → (c.in-Err.error ≡ OutOfMemory) ⊎ IsCallback (before g c).faults.operator (after g c).faults.operator c.in-Err.error → fault g c c.in-Err.error
fault_of g c (inl short) = short_fault (before g c) (after g c) c.in-Err.error short
fault_of g c (inr called) = callback_fault (before g c) (after g c) c.in-Err.error called

pub invariant_of-self-in-Err : goal.invariant_of-self-in-Err
invariant_of-self-in-Err g c =
    let s : Inside = c.self.inside in
    subst IsWholeInside (ends g c)
    (whole_end (view_of s) (unseen_of s) c.args.id.now c.push_end.new.self.spare c.drop_txn.new.self
    (managed_dropped s.manager c.make-made.new.manager c.drop_txn.new.self s.log.ids s.log.last s.log.commits s.transactions c.args.id.now c.in-Err.ensures.left.grown c.drop_txn.ensures.dropped (c.drop_txn.ensures.stands _) c.self.invariant.tied.manager)
    (subst IsLog c.push_end.ensures.value c.push_end.ensures.whole) c.self.invariant)

pub returns-in-Err-clause-commits : goal.returns-in-Err-clause-commits
returns-in-Err-clause-commits g c t named =
    commits_moved (with g c) c.args.id.now (view_of c.self.inside) c.args.self.now (view_of (record c.self.inside { log = with_end c.self.inside.log c.args.id.now c.push_end.new.self.spare; transactions = without c.args.id.now c.self.inside.transactions; manager = c.drop_txn.new.self })) (view_of (left g c)) c.in-Some.owned t (before g c) (after g c) (Err c.in-Err.error)
    c.self.view_is (ap view_of (ends g c)) (sym c.in-Some.ensures.taken) named
    (commits_err (with g c) c.self.inside c.args.id.now c.in-Some.owned c.push_end.new.self.spare c.drop_txn.new.self c.in-Err.error (before g c) (after g c) c.self.invariant (sym c.in-Some.ensures.taken)
    (decides_err_as _ (Option ℕ) (parts_err g c) (verdict_inside (with g c) c.self.inside c.in-Some.owned) _ (fault g c) c.in-Err.error (verdict_err g c) (fault_of g c) (c.in-Err.ensures.commits.answer c.self.inside.log.commits c.self.invariant.tied.manager.stands).decides)
    (record {
      call = asked_call g.S.Store g.M.MergeOperator g.T.BlockTransformer c.args.env.now c.make-made.new.operator c.make-made.ensures.same;
      reads = asked_reads g.S.Store g.M.MergeOperator g.T.BlockTransformer c.args.env.now c.make-made.new.operator c.make-made.ensures.same c.make-made.ensures.later;
      still = c.in-Err.ensures.still;
    }))

pub returns-in-Ok-clause-outside : goal.returns-in-Ok-clause-outside
returns-in-Ok-clause-outside g c = refl

pub returns-in-Err-clause-outside : goal.returns-in-Err-clause-outside
returns-in-Err-clause-outside g c = refl

-- ---- whether the operator was asked

pub returns-in-Ok-clause-unasked : goal.returns-in-Ok-clause-unasked
returns-in-Ok-clause-unasked g c t named unasked =
    ap (λ o. record c.args.env.now { operator = o }) ((c.make-made.ensures.commits.answer c.self.inside.log.commits c.self.invariant.tied.manager.stands).asks
    (subst (λ (v : Option SlateDBError). AsksNobody v c.in-Some.owned.ops) (sym (verdict_ok g c)) (unasked_moved (terms g c) c.self.inside c.args.self.now c.args.id.now c.in-Some.owned t c.self.invariant c.self.view_is (sym c.in-Some.ensures.taken) named unasked)))

pub returns-in-Err-clause-unasked : goal.returns-in-Err-clause-unasked
returns-in-Err-clause-unasked g c t named unasked =
    ap (λ o. record c.args.env.now { operator = o }) ((c.make-made.ensures.commits.answer c.self.inside.log.commits c.self.invariant.tied.manager.stands).asks
    (subst (λ (v : Option SlateDBError). AsksNobody v c.in-Some.owned.ops) (sym (verdict_err g c)) (unasked_moved (with g c) c.self.inside c.args.self.now c.args.id.now c.in-Some.owned t c.self.invariant c.self.view_is (sym c.in-Some.ensures.taken) named unasked)))
