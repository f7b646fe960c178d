use Rattle.std.proofs.Common.{Bool, ◌≡◌, ◌⊎◌, inl, inr, length, None, ℕ, ◌+◌, ◌-◌, ◌^◌, ◌<◌, ◌≤◌, ◌++◌, ◌∷◌, [], List, Option, Some, ℤ, refl, ap, sym, subst, ◌∙◌, arith, true, false, w64}
use Rattle.std.proofs.lemmas.Result.{IfOk-from_err, err_from_is_err_and}
use Rattle.std.specs.List.{AllByRecursion}
use Rattle.std.proofs.lemmas.Int.{to_z-of_z}
use Rattle.slate_types.specs.declared.error.SlateDBError.TheVariants.{OutOfMemory}
use Rattle.slate_types.specs.Fold.{Combine, operator_at}
use Rattle.slate_types.specs.Keys.{keys_set}
use Rattle.slate_mem.specs.Batch.{Ops, batch_keys}
use Rattle.slate_mem.specs.BatchModel.{BatchModel}
use Rattle.slate_mem.specs.CommitRows.{commit_rows}
use Rattle.slate_mem.specs.KeyTests.{Segments, prefixes}
use Rattle.slate_mem.specs.Table.{put_rows}
use Rattle.slate_txn.specs.State.{last_of}
use Rattle.slate_db.specs.declared.engine.Core.TheInside.{Inside}
use Rattle.slate_db.specs.Flushed.{NoPlace}
use Rattle.slate_db.specs.Layers.{AreLayers, LayersModel, in_memory}
use Rattle.slate_db.specs.Load.{load}
use Rattle.slate_db.specs.Log.{IsLog, LogModel, IsWhollyKept, with_write}
use Rattle.slate_db.specs.Meaning.{Meaning, combine_of}
use Rattle.slate_db.specs.Model.{CoreModel, Rows, IsSame}
use Rattle.slate_db.specs.Prepared.{IsPrepared, PreparedWith, prepared_for}
use Rattle.slate_db.specs.Segmented.{IsSegmented}
use Rattle.slate_db.specs.Sound.{IsKept}
use Rattle.slate_db.specs.View.{view_of, unseen_of, IsWholeInside}
use Rattle.slate_db.specs.Vouched.{IsVouchedFor}
use Rattle.slate_db.specs.Written.{IsWritten, after_write}
use Rattle.slate_db.proofs.Calls.{past_place, room_in_log, written_is}
use Rattle.slate_db.proofs.Keeps.{kept_recorded, room_made}
use Rattle.slate_db.proofs.Loads.{write_load}
use Rattle.slate_db.proofs.Managing.{managed_written}
use Rattle.slate_db.proofs.MemoryRows.{commit_within, puts_all}
use Rattle.slate_db.proofs.Opened.{stay_room, stay_same, stay_written}
use Rattle.slate_db.proofs.PreparedOf.{accepted_as, at_default, refused_alone, wholly}
use Rattle.slate_db.proofs.Puts.{some_more, versions_more, active_within}
use Rattle.slate_db.proofs.Segmenting.{segmented_more}
use Rattle.slate_db.proofs.Tests.{tested_plain}
use Rattle.slate_db.proofs.Vouches.{below_next, vouched_write}
use Rattle.slate_db.proofs.Wholes.{whole_recorded, whole_write}
use Rattle.slate_db.proofs.Writes.{kept_write}
use Rattle.slate_db.proofs.engine.Core.write_prepared.Goals as goal
use Rattle.slate_types.proofs.Lists.{AllByRecursion_behind, AllByRecursion_weaken}

-- ---- what is asked before

pub put_alone-requires-clause-fits : goal.put_alone-requires-clause-fits
put_alone-requires-clause-fits c = omega (arith, c.if-last-ge18446744073709551614.false)

pub put_alone-requires-clause-whole : goal.put_alone-requires-clause-whole
put_alone-requires-clause-whole c = c.self.invariant.layers

pub put_alone-requires-clause-within : goal.put_alone-requires-clause-within
put_alone-requires-clause-within c = subst (λ (n : ℕ). AllByRecursion (λ rows. AllByRecursion (λ r. r.seq ≤ n) rows) (in_memory c.self.inside.layers)) (sym c.last-last.ensures) c.self.invariant.tied.rows_within

pub put_alone-requires-clause-newest : goal.put_alone-requires-clause-newest
put_alone-requires-clause-newest c = c.self.invariant.tied.manager.newest ∙ sym c.last-last.ensures

pub put_alone-requires-clause-logged : goal.put_alone-requires-clause-logged
put_alone-requires-clause-logged c = c.self.invariant.log

pub put_alone-requires-clause-prepared : goal.put_alone-requires-clause-prepared
put_alone-requires-clause-prepared c = (_, c.requires.prepared.1.is)

some : (b : Bool) (ops : Ops) → (ops ≡ [] → b ≡ true) → b ≡ false → ops ≡ [] → ⊥
some b ops full left none = let t : true ≡ false = sym (full none) ∙ left in cc

pub push_write-requires : goal.push_write-requires
push_write-requires c = record {
  place = c.in_ok-ops.ensures.place;
  next = subst (λ (l : LogModel). l.last < 2 ^ 64 - 2) (sym c.put_alone.ensures.room.0) (let h : c.self.inside.log.last < 2 ^ 64 - 2 = omega (arith, c.last-last.ensures, c.if-last-ge18446744073709551614.false) in h);
  kept = subst IsWhollyKept (sym c.in_ok-ops.ensures.ops) (wholly _ c.args.prepared c.requires.prepared.1.is (some c.is_empty.result c.args.prepared.ops c.is_empty.ensures.1 c.if-is_empty.false));
}

-- ---- what is written, with this operator and these segments

abbrev With : goal.After-push_write → Option (List ℕ → Combine) → Segments → BatchModel → PreparedWith
With c o k b = prepared_for o k c.self.inside.default_millis c.args.now b

abbrev written : goal.After-push_write → Option (List ℕ → Combine) → BatchModel → Rows
written c o b = put_rows c.self.inside.layers.active (commit_rows (operator_at o) c.self.inside.default_millis (c.self.inside.log.last + 1) c.args.now b.ops)

layers : (c : goal.After-push_write) (o : Option (List ℕ → Combine)) (k : Segments) (b : BatchModel) → IsPrepared (With c o k b) c.args.prepared → c.put_alone.new.layers ≡ record c.self.inside.layers { active = written c o b }
layers c o k b p = (c.in_ok-ops.ensures.puts (With c o k b) p).put ∙ ap (λ (n : ℕ). record c.self.inside.layers { active = put_rows c.self.inside.layers.active (commit_rows (operator_at o) c.self.inside.default_millis (n + 1) c.args.now b.ops) }) c.last-last.ensures

ops_are : (c : goal.After-push_write) (o : Option (List ℕ → Combine)) (k : Segments) (b : BatchModel) → IsPrepared (With c o k b) c.args.prepared → c.in_ok-ops.ops ≡ b.ops
ops_are c o k b p = c.in_ok-ops.ensures.ops ∙ p.ops

abbrev core : goal.After-push_write → Inside
core c = record c.self.inside { log = c.push_write.new.self; layers = c.put_alone.new.layers; manager = c.put_alone.new.manager; segments = c.put_alone.new.segments }

becomes : (c : goal.After-push_write) (o : Option (List ℕ → Combine)) (k : Segments) (b : BatchModel) (p : IsPrepared (With c o k b) c.args.prepared) →
    record c.self.inside { log = with_write c.self.inside.log c.args.now b.ops c.push_write.new.self.spare; layers = record c.self.inside.layers { active = written c o b }; manager = c.put_alone.new.manager; segments = c.put_alone.new.segments } ≡ core c
becomes c o k b p = written_is (record c.self.inside { segments = c.put_alone.new.segments }) c.put_alone.new.log c.push_write.new.self c.put_alone.new.layers c.put_alone.new.manager c.args.now _ b.ops _ _ c.put_alone.ensures.room.0 (to_z-of_z w64 c.args.now c.ranges.now) (ops_are c o k b p) c.push_write.ensures.value (layers c o k b p)

log_is : (c : goal.After-push_write) (o : Option (List ℕ → Combine)) (k : Segments) (b : BatchModel) → IsPrepared (With c o k b) c.args.prepared → c.push_write.new.self ≡ with_write c.self.inside.log c.args.now b.ops c.push_write.new.self.spare
log_is c o k b p = c.push_write.ensures.value ∙ (λ i. with_write (c.put_alone.ensures.room.0 i) (to_z-of_z w64 c.args.now c.ranges.now i) (ops_are c o k b p i) c.push_write.new.self.spare)

-- some operator, and some segments
there : (c : goal.After-push_write) → IsPrepared (With c c.requires.prepared.1.combine c.requires.prepared.1.segments c.requires.prepared.0) c.args.prepared
there c = at_default (view_of c.self.inside) c.args.self.now _ _ c.args.now c.requires.prepared.0 c.args.prepared c.self.view_is c.requires.prepared.1.is

higher : (n m : ℕ) → m ≤ n → m ≤ n + 1
higher n m h = omega arith

pub invariant_of-self-2 : goal.invariant_of-self-2
invariant_of-self-2 c =
    let s : Inside = c.self.inside in
    let n : ℕ = s.log.last in
    let w = c.requires.prepared.1 in
    let b = c.requires.prepared.0 in
    let f = operator_at w.combine in
    let p = there c in
    let seq : c.last-last.result + 1 ≡ n + 1 = ap (λ n. n + 1) c.last-last.ensures in
    subst IsWholeInside (becomes c w.combine w.segments b p)
    (whole_recorded (after_write (view_of s) (n + 1) c.args.now b.ops (written c w.combine b) c.push_write.new.self.spare) _ c.put_alone.new.segments
    (whole_write (view_of s) (unseen_of s) c.args.now b.ops (written c w.combine b) c.push_write.new.self.spare
    (some_more f s.default_millis (n + 1) c.args.now b.ops s.layers.active (λ e. some c.is_empty.result c.args.prepared.ops c.is_empty.ensures.1 c.if-is_empty.false (p.ops ∙ e)))
    (puts_all _ s.layers.active _ (AllByRecursion_weaken _ _ (λ r h. higher n r.seq h) _ (AllByRecursion_behind (λ rows. AllByRecursion (λ r. r.seq ≤ n) rows) s.layers.frozen (s.layers.active ∷ []) c.self.invariant.tied.rows_within).0) (commit_within f s.default_millis (n + 1) c.args.now b.ops))
    c.put_alone.new.manager
    (managed_written s.manager c.put_alone.new.manager s.log.ids n (n + 1) s.log.commits s.transactions (record { seq = n + 1; now = c.args.now; ops = b.ops; tracked = batch_keys b.ops })
    (subst (λ (k : ℕ). c.put_alone.new.manager ≡ record s.manager { last = k; kept = c.put_alone.new.manager.kept }) seq c.in_ok-ops.ensures.committed)
    ((c.in_ok-ops.ensures.puts (With c w.combine w.segments b) p).stands _ _ (sym seq, refl)) c.self.invariant.tied.manager)
    (subst IsLog (log_is c w.combine w.segments b p) c.push_write.ensures.whole) (subst AreLayers (layers c w.combine w.segments b p) c.put_alone.ensures.whole) c.self.invariant))

-- what was prepared for the core
ready : (c : goal.After-push_write) (o : Option (List ℕ → Combine)) (k : Segments) (b : BatchModel) → IsPrepared (prepared_for o k c.args.self.now.settings.default_millis c.args.now b) c.args.prepared → IsPrepared (With c o k b) c.args.prepared
ready c o k b p = at_default (view_of c.self.inside) c.args.self.now o k c.args.now b c.args.prepared c.self.view_is p

event : (c : goal.After-push_write) → IsWritten c.args.self.now (view_of (core c)) (Some (c.last-last.result + 1)) c.args.now c.args.prepared.ops
event c =
    let w = c.requires.prepared.1 in
    let b = c.requires.prepared.0 in
    let p = there c in
    let n : ℕ = c.self.inside.log.last in
    sym (ap view_of (becomes c w.combine w.segments b p)) ∙ ap (λ (v : CoreModel). record (after_write v (n + 1) c.args.now b.ops (written c w.combine b) c.push_write.new.self.spare) { segments = c.put_alone.new.segments }) c.self.view_is
    ∙ (let s = sym (ap (λ n. n + 1) c.last-last.ensures) in let rows = sym (ap (λ (y : LayersModel). y.active) (layers c w.combine w.segments b p)) in let ops = sym p.ops in λ i. record (after_write c.args.self.now (s i) c.args.now (ops i) (rows i) c.push_write.new.self.spare) { segments = c.put_alone.new.segments })

below : (c : goal.After-push_write) → c.self.inside.log.last < 2 ^ 64 - 2
below c = omega (arith, c.last-last.ensures, c.if-last-ge18446744073709551614.false)

pub returns : goal.returns
returns c =
    let n : ℕ = c.self.inside.log.last in
    record {
      event = event c;
      vouched = λ m k h.
          let w = c.requires.prepared.1 in
          let b = c.requires.prepared.0 in
          subst (λ (s : Inside). IsVouchedFor m (view_of s) k) (becomes c w.combine w.segments b (there c))
          (vouched_write m (view_of c.self.inside) k (n + 1) c.args.now b.ops (written c w.combine b) c.push_write.new.self.spare (below_next (view_of c.self.inside) (unseen_of c.self.inside) c.self.invariant)
          (subst (λ (v : CoreModel). IsVouchedFor m v k) (sym c.self.view_is) h));
      kept = λ m k b q kept.
          let p = ready c m.combine k b q in
          let old : IsKept m (view_of c.self.inside) = subst (λ (v : CoreModel). IsKept m v) (sym c.self.view_is) kept in
          subst (λ (s : Inside). IsKept m (view_of s)) (becomes c m.combine k b p)
          (kept_recorded m (after_write (view_of c.self.inside) (n + 1) c.args.now b.ops (written c m.combine b) c.push_write.new.self.spare) c.put_alone.new.segments
          (kept_write m (view_of c.self.inside) (unseen_of c.self.inside) c.args.now b.ops _ c.push_write.new.self.spare
          (λ j. versions_more (combine_of m) c.self.inside.default_millis (n + 1) c.args.now b.ops c.self.inside.layers.active j (active_within m (view_of c.self.inside) (unseen_of c.self.inside) c.self.invariant old j))
          (λ none. p.plain (tested_plain m.combine k c.self.inside.segments b.held_merge c.self.inside.default_millis c.args.now b.ops none ((c.in_ok-ops.ensures.puts (With c m.combine k b) p).tested)))
          c.self.invariant old));
      segmented = λ m k b q z.
          let p = ready c m.combine k b q in
          subst (λ (s : Inside). IsSegmented k (view_of s)) (becomes c m.combine k b p)
          (segmented_more m.combine k (view_of c.self.inside) (record (after_write (view_of c.self.inside) (n + 1) c.args.now b.ops (written c m.combine b) c.push_write.new.self.spare) { segments = c.put_alone.new.segments })
          c.self.inside.default_millis c.args.now b.held_merge (record { seq = n + 1; now = c.args.now; ops = b.ops; tracked = batch_keys b.ops }) ((c.in_ok-ops.ensures.puts (With c m.combine k b) p).recorded) refl ((c.in_ok-ops.ensures.puts (With c m.combine k b) p).tested)
          (subst (λ (v : CoreModel). IsSegmented k v) (sym c.self.view_is) z));
      load =
          let w = c.requires.prepared.1 in
          let b = c.requires.prepared.0 in
          let p = there c in
          subst (λ (os : Ops). load (view_of (core c)) ≤ load c.args.self.now + length os) (sym p.ops)
          (subst (λ (v : CoreModel). load (view_of (core c)) ≤ load v + length b.ops) c.self.view_is
          (subst (λ (s : Inside). load (view_of s) ≤ load (view_of c.self.inside) + length b.ops) (becomes c w.combine w.segments b p)
          (write_load (view_of c.self.inside) (operator_at w.combine) c.self.inside.default_millis (n + 1) c.args.now b.ops b.ops (sym p.kept))));
      same = tt;
      accepted = λ m k b q.
          let p = ready c m.combine k b q in
          accepted_as (λ e. e ≡ OutOfMemory) m.combine k c.args.now (view_of c.self.inside) c.args.self.now (NoPlace 1 c.args.self.now) b _ c.self.view_is
          (record {
            next = (ap (λ n. n + 1) (c.last-last.ensures ∙ c.self.invariant.log.last), subst (λ (k : ℕ). k < 2 ^ 64 - 2) c.self.invariant.log.last (below c), λ none. some c.is_empty.result c.args.prepared.ops c.is_empty.ensures.1 c.if-is_empty.false (p.ops ∙ none));
            tested = λ some. (c.in_ok-ops.ensures.puts (With c m.combine k b) p).tested;
            cause = tt;
          });
      stay = stay_written c.args.self.now _ (Some (c.last-last.result + 1)) c.args.now c.args.prepared.ops (event c);
    }

-- ---- nothing to commit, and no sequence left

pub returns-then-is_empty : goal.returns-then-is_empty
returns-then-is_empty c = record {
  event = (c.is_empty.ensures.0 c.if-is_empty.true, refl);
  vouched = λ m k h. h;
  kept = λ m k b q kept. kept;
  segmented = λ m k b q z. z;
  load = omega arith;
  same = tt;
  accepted = λ m k b q. record { next = sym q.ops ∙ c.is_empty.ensures.0 c.if-is_empty.true; tested = λ some. absurd (some (sym q.ops ∙ c.is_empty.ensures.0 c.if-is_empty.true)); cause = tt };
  stay = stay_same c.args.self.now _ refl;
}

pub returns-then-last-ge18446744073709551614 : goal.returns-then-last-ge18446744073709551614
returns-then-last-ge18446744073709551614 c = record {
  event = tt;
  vouched = tt;
  kept = λ m k b q. tt;
  segmented = λ m k b q. tt;
  load = tt;
  same = refl;
  accepted = λ m k b q.
      let fits : c.self.inside.log.last ≤ 2 ^ 64 - 2 = c.self.invariant.log.last_fits in
      let full : c.self.inside.log.last ≡ 2 ^ 64 - 2 = omega (arith, fits, c.last-last.ensures, c.if-last-ge18446744073709551614.true) in
      record {
        next = tt;
        tested = tt;
        cause = inr (inl (refl, (λ none. let t : true ≡ false = sym (c.is_empty.ensures.1 (q.ops ∙ none)) ∙ c.if-is_empty.false in cc), sym (c.self.invariant.log.last ∙ ap (λ (v : CoreModel). last_of v.settings.start_seq v.state.commits) c.self.view_is) ∙ full));
      };
  stay = stay_same c.args.self.now _ refl;
}

-- ---- refusals: at most room was made

pub invariant_of-self : goal.invariant_of-self
invariant_of-self c = subst IsWholeInside (let y = sym c.in_err-ops.ensures.same_layers in let m = sym c.in_err-ops.ensures.same in let ps = sym c.in_err-ops.ensures.same_segments in λ i. record c.self.inside { log = c.put_alone.new.log; layers = y i; manager = m i; segments = ps i })
    (room_in_log c.self.inside c.put_alone.new.log c.put_alone.ensures.room.0 c.put_alone.ensures.room.1 c.self.invariant)

pub returns-in_err-ops : goal.returns-in_err-ops
returns-in_err-ops c =
    let q = err_from_is_err_and c.from_residual.result c.from_residual.ensures.1 in
    let left : Inside = record c.self.inside { log = c.put_alone.new.log; layers = c.put_alone.new.layers; manager = c.put_alone.new.manager; segments = c.put_alone.new.segments } in
    let room : IsSame c.args.self.now (view_of left) =
    subst (λ (v : CoreModel). IsSame v (view_of left)) c.self.view_is
    (subst (λ (s : Inside). IsSame (view_of c.self.inside) (view_of s)) (let y = sym c.in_err-ops.ensures.same_layers in let m = sym c.in_err-ops.ensures.same in let ps = sym c.in_err-ops.ensures.same_segments in λ i. record c.self.inside { log = c.put_alone.new.log; layers = y i; manager = m i; segments = ps i })
    (room_made c.self.inside c.put_alone.new.log c.put_alone.ensures.room.0)) in
    record {
      event = IfOk-from_err c.from_residual.result _ c.from_residual.ensures.0;
      vouched = IfOk-from_err c.from_residual.result _ c.from_residual.ensures.0;
      kept = λ m k b p. IfOk-from_err c.from_residual.result _ c.from_residual.ensures.0;
      segmented = λ m k b p. IfOk-from_err c.from_residual.result _ c.from_residual.ensures.0;
      load = IfOk-from_err c.from_residual.result _ c.from_residual.ensures.0;
      same = rw q.1 room;
      accepted = λ m k b given.
          let p = at_default (view_of c.self.inside) c.args.self.now m.combine k c.args.now b c.args.prepared c.self.view_is given in
          let below : c.self.inside.log.last < 2 ^ 64 - 2 = omega (arith, c.last-last.ensures, c.if-last-ge18446744073709551614.false) in
          rw (q.1, q.2)
          (accepted_as (λ e. e ≡ OutOfMemory) m.combine k c.args.now (view_of c.self.inside) c.args.self.now (NoPlace 1 c.args.self.now) b _ c.self.view_is
          (refused_alone m.combine k (view_of c.self.inside) (NoPlace 1 c.args.self.now) c.args.now b c.in_err-ops.field-0.0 (λ none. let t : true ≡ false = sym (c.is_empty.ensures.1 (p.ops ∙ none)) ∙ c.if-is_empty.false in cc)
          (subst (λ (k : ℕ). k < 2 ^ 64 - 2) c.self.invariant.log.last below)
          (λ past. past_place (view_of c.self.inside) c.args.self.now (unseen_of c.self.inside) 1 c.self.view_is c.self.invariant past)
          (c.in_err-ops.ensures.cause (prepared_for m.combine k c.self.inside.default_millis c.args.now b) p)));
      stay = stay_room c.args.self.now _ room;
    }
