use Rattle.std.proofs.Common.{◌≡◌, ◌⊎◌, length, option_map, None, ℕ, ◌+◌, ◌-◌, ◌^◌, ◌<◌, ◌≤◌, ◌++◌, ◌∷◌, [], List, Option, Some, ℤ, refl, ap, sym, subst, ◌∙◌, arith, inr, true, false, w64, inl, true≢false, Err}
use Rattle.std.proofs.lemmas.Result.{IfOk-from_err, err_from_is_err_and}
use Rattle.std.specs.List.{AllByRecursion}
use Rattle.std.proofs.lemmas.Int.{to_z-of_z}
use Rattle.slate_txn.specs.State.{last_of}
use Rattle.slate_types.specs.declared.error.SlateDBError.TheVariants as errors
use Rattle.slate_types.specs.Fold.{Combine, operator_at}
use Rattle.slate_mem.specs.Batch.{Ops, batch_keys}
use Rattle.slate_mem.specs.CommitRows.{commit_rows}
use Rattle.slate_mem.specs.KeyTests.{Segments, prefixes}
use Rattle.slate_mem.specs.Table.{put_rows}
use Rattle.slate_mem.proofs.NestLaws.{set_of_rest}
use Rattle.slate_types.specs.Keys.{keys_set}
use Rattle.slate_txn.specs.declared.line.Line.TheVariants as lines
use Rattle.slate_txn.specs.Reply.{Written, Refused}
use Rattle.slate_txn.specs.Step.{step}
use Rattle.slate_db.specs.declared.engine.Core.TheInside.{Inside}
use Rattle.slate_db.specs.BatchTests.{batch_refusal}
use Rattle.slate_db.specs.Calls.Common.{Given, given_by}
use Rattle.slate_db.specs.Calls.Write.{refusal_of, write_verdict}
use Rattle.slate_db.specs.Load.{load}
use Rattle.slate_db.specs.Meaning.{rules_in, combine_of, segments_by}
use Rattle.slate_db.specs.Model.{CoreModel, Rows, at, versions, versions_in, IsSame}
use Rattle.slate_db.specs.View.{view_of, unseen_of, IsWholeInside}
use Rattle.slate_db.specs.Segmented.{IsSegmented}
use Rattle.slate_db.specs.Sound.{IsKept}
use Rattle.slate_db.specs.Vouched.{IsVouchedFor}
use Rattle.slate_db.specs.Layers.{AreLayers, LayersModel, FitsMemory, AreRising}
use Rattle.slate_db.specs.Log.{LIMIT, IsLog, LogModel, IsWhollyKept, with_write}
use Rattle.slate_db.specs.Written.{IsWritten, after_write}
use Rattle.slate_types.proofs.StillLaws.{stays_at}
use Rattle.slate_types.specs.Outside.{IsFault, Meaning}
use Rattle.slate_types.proofs.Reaching.{reads_none}
use Rattle.slate_store.specs.Reach.{reach_of}
use Rattle.slate_db.proofs.Asks.{asked_call, asked_reads, call_none, callback_fault, short_fault}
use Rattle.slate_db.proofs.Keeps.{kept_recorded, kept_same, room_made}
use Rattle.slate_db.proofs.Segmenting.{segmented_more, segmented_same}
use Rattle.slate_db.proofs.Calls.{none_left, past_place, placed, room_in_log, written_is}
use Rattle.slate_db.proofs.Loads.{write_load}
use Rattle.slate_db.proofs.Managing.{managed_written, stands_tracked}
use Rattle.slate_db.proofs.MemoryRows.{commit_within, puts_all, rise_more}
use Rattle.slate_db.proofs.Opened.{stay_room, stay_same, stay_written}
use Rattle.slate_db.proofs.Operands.{combine_is}
use Rattle.slate_db.proofs.Plain.{step_nothing, step_exhausted, some_ops}
use Rattle.slate_db.proofs.Puts.{some_more, versions_more, active_within}
use Rattle.slate_db.proofs.Logs.{has_place}
use Rattle.slate_db.proofs.TakenBack.{commit_seqs, older_rows}
use Rattle.slate_db.proofs.Tests.{batch_refusal_as, first_moved, none_some, refusal_asked, refusal_known, step_test_refused, step_tested, tested_merges, tested_plain}
use Rattle.slate_db.proofs.Unasked.{asked}
use Rattle.slate_db.proofs.Vouches.{below_next, vouched_write}
use Rattle.slate_db.proofs.Wholes.{whole_recorded, whole_write}
use Rattle.slate_db.proofs.Verdicts.{decides_err, decides_ok}
use Rattle.slate_db.proofs.WriteVerdicts.{asks_made, decides_either, decides_fault, decides_memory}
use Rattle.slate_db.proofs.Writes.{kept_write}
use Rattle.slate_db.proofs.Writing.{verdict_crowded, verdict_none, verdict_tested, write_idle, write_refused, write_spent}
use Rattle.slate_db.proofs.engine.Core.write.Goals as goal
use Rattle.slate_types.proofs.Lists.{AllByRecursion_behind, AllByRecursion_weaken}

pub returns-then-is_empty : goal.returns-then-is_empty
returns-then-is_empty g c =
    let before = reach_of g.S.Store g.M.MergeOperator g.T.BlockTransformer c.args.env.now in
    write_idle (given_by before (segments_by g.X.PrefixExtractor.lengths c.args.laws.now.segments) c.args.now) c.args.batch before _ _ c.args.self.now (c.is_empty.ensures.0 c.if-is_empty.true) refl refl

pub returns-then-last-ge18446744073709551614 : goal.returns-then-last-ge18446744073709551614
returns-then-last-ge18446744073709551614 g c =
    let before = reach_of g.S.Store g.M.MergeOperator g.T.BlockTransformer c.args.env.now in
    let fits : c.self.inside.log.last ≤ 2 ^ 64 - 2 = c.self.invariant.log.last_fits in
    let last : c.self.inside.log.last ≡ 2 ^ 64 - 2 = omega (arith, fits, c.last.ensures) in
    write_spent (given_by before (segments_by g.X.PrefixExtractor.lengths c.args.laws.now.segments) c.args.now) c.args.batch before _ _ c.self.inside c.args.self.now c.self.invariant c.self.view_is
    (λ none. true≢false (sym (c.is_empty.ensures.1 none) ∙ c.if-is_empty.false)) last refl refl

-- why the tests refused it, and why the rows weren't made
by_test : {Short Test Verdict : Type 0} → (Test → Verdict) → Short ⊎ Test → Short ⊎ Verdict
by_test f (inl short) = inl short
by_test f (inr test) = inr (f test)

either : {A B P : Type 0} → (A → P) → (B → P) → A ⊎ B → P
either f m (inl a) = f a
either f m (inr b) = m b

-- the commit's rows, of the operations at the next sequence
made : (a b : Option (List ℕ → Combine)) (d : Option ℕ) (n seq : ℕ) (at now : ℤ) (ops : Ops) (rows : Rows) → rows ≡ commit_rows (operator_at a) d seq at ops → a ≡ b → seq ≡ n → at ≡ now → rows ≡ commit_rows (operator_at b) d n now ops
made a b d n seq at now ops rows is operators seqs ats = is ∙ (λ i. commit_rows (operator_at (operators i)) d (seqs i) (ats i) ops)

higher : (n m : ℕ) → m ≤ n → m ≤ n + 1
higher n m h = omega arith

pub rows_of_batch-requires : goal.rows_of_batch-requires
rows_of_batch-requires g c = tested_merges (option_map g.M.MergeOperator.combine c.args.env.now.operator) (segments_by g.X.PrefixExtractor.lengths c.args.laws.now.segments) c.self.inside.segments c.self.inside.default_millis _ c.args.batch.held_merge c.args.batch.ops c.in_ok-prefixes.ensures.tested

pub put_batch-requires : goal.put_batch-requires
put_batch-requires g c =
    let f : List ℕ → Combine = combine_of (reach_of g.S.Store g.M.MergeOperator g.T.BlockTransformer c.args.env.now).meaning in
    let n : ℕ = c.self.inside.log.last in
    let seq : c.last-seq.result + 1 ≡ n + 1 = ap (λ n. n + 1) (c.last-seq.ensures ∙ ap (λ (l : LogModel). l.last) c.reserve.ensures.value) in
    let rows : c.in_ok-rows.rows.items ≡ commit_rows f c.self.inside.default_millis (n + 1) c.args.now c.args.batch.ops =
    made (option_map g.M.MergeOperator.combine c.args.env.now.operator) (reach_of g.S.Store g.M.MergeOperator g.T.BlockTransformer c.args.env.now).meaning.combine c.self.inside.default_millis (n + 1) (c.last-seq.result + 1) _ c.args.now c.args.batch.ops c.in_ok-rows.rows.items c.in_ok-rows.ensures.rows (sym (combine_is g.M.MergeOperator.combine c.args.env.now.operator)) seq (to_z-of_z w64 c.args.now c.ranges.now) in
    record {
      whole = c.self.invariant.layers;
      fit = c.in_ok-rows.ensures.fit c.ops.ensures.fine;
      rise = λ k. subst (λ (rows : Rows). AreRising (versions_in k (c.self.inside.layers.frozen ++ (put_rows c.self.inside.layers.active rows ∷ [])))) (sym rows)
          (rise_more (view_of c.self.inside) f c.self.inside.default_millis n c.args.now c.args.batch.ops c.self.invariant.tied.rows_within c.self.invariant.layers.rise k);
      seqs = subst (λ (k : ℕ). AllByRecursion (λ r. r.seq ≡ k) c.in_ok-rows.rows.items) (sym seq) (subst (AllByRecursion (λ r. r.seq ≡ n + 1)) (sym rows) (commit_seqs f c.self.inside.default_millis (n + 1) c.args.now c.args.batch.ops));
      older = subst (λ (k : ℕ). AllByRecursion (λ r. r.seq < k) c.self.inside.layers.active) (sym seq) (older_rows (view_of c.self.inside) n c.self.invariant.tied.rows_within);
      later = let newest : c.self.inside.manager.last ≡ n = c.self.invariant.tied.manager.newest in omega (arith, seq);
    }

pub push_write-requires : goal.push_write-requires
push_write-requires g c = record {
  place = has_place c.self.inside.log c.reserve.new.self c.reserve.ensures.value c.in_ok-reserve.ensures.room c.in_ok-place.ensures.place;
  next = subst (λ (l : LogModel). l.last < 2 ^ 64 - 2) (sym c.reserve.ensures.value) (let h : c.self.inside.log.last < 2 ^ 64 - 2 = omega (arith, c.last.ensures) in h);
  kept = subst IsWhollyKept (sym (c.from_vec.ensures ∙ c.in_ok-ops.ensures.ops)) (record { some = some_ops c.args.batch.ops (λ e. let t : true ≡ false = sym (c.is_empty.ensures.1 e) ∙ c.if-is_empty.false in cc); kept = c.ops.ensures.kept; fine = c.ops.ensures.fine });
}

pub invariant_of-self-2 : goal.invariant_of-self-2
invariant_of-self-2 g c =
    let f : List ℕ → Combine = combine_of (reach_of g.S.Store g.M.MergeOperator g.T.BlockTransformer c.args.env.now).meaning in
    let n : ℕ = c.self.inside.log.last in
    let seq : c.last-seq.result + 1 ≡ n + 1 = ap (λ n. n + 1) (c.last-seq.ensures ∙ ap (λ (l : LogModel). l.last) c.reserve.ensures.value) in
    let rows : c.in_ok-rows.rows.items ≡ commit_rows f c.self.inside.default_millis (n + 1) c.args.now c.args.batch.ops =
    made (option_map g.M.MergeOperator.combine c.args.env.now.operator) (reach_of g.S.Store g.M.MergeOperator g.T.BlockTransformer c.args.env.now).meaning.combine c.self.inside.default_millis (n + 1) (c.last-seq.result + 1) _ c.args.now c.args.batch.ops c.in_ok-rows.rows.items c.in_ok-rows.ensures.rows (sym (combine_is g.M.MergeOperator.combine c.args.env.now.operator)) (ap (λ n. n + 1) (c.last-seq.ensures ∙ ap (λ (l : LogModel). l.last) c.reserve.ensures.value)) (to_z-of_z w64 c.args.now c.ranges.now) in
    let layers : c.put_batch.new.layers ≡ record c.self.inside.layers { active = put_rows c.self.inside.layers.active (commit_rows f c.self.inside.default_millis (n + 1) c.args.now c.args.batch.ops) } =
    c.in_ok-put_batch.ensures.put ∙ ap (λ rs. record c.self.inside.layers { active = put_rows c.self.inside.layers.active rs }) rows in
    let log : c.push_write.new.self ≡ with_write c.self.inside.log c.args.now c.args.batch.ops c.push_write.new.self.spare =
    c.push_write.ensures.value ∙ (λ i. with_write (c.reserve.ensures.value i) (to_z-of_z w64 c.args.now c.ranges.now i) ((c.from_vec.ensures ∙ c.in_ok-ops.ensures.ops) i) c.push_write.new.self.spare) in
    subst IsWholeInside (written_is (record c.self.inside { segments = c.put_batch.new.segments }) c.reserve.new.self c.push_write.new.self c.put_batch.new.layers c.put_batch.new.manager c.args.now _ c.args.batch.ops _ _ c.reserve.ensures.value (to_z-of_z w64 c.args.now c.ranges.now) (c.from_vec.ensures ∙ c.in_ok-ops.ensures.ops) c.push_write.ensures.value layers)
    (whole_recorded (after_write (view_of c.self.inside) (n + 1) c.args.now c.args.batch.ops (put_rows c.self.inside.layers.active (commit_rows f c.self.inside.default_millis (n + 1) c.args.now c.args.batch.ops)) c.push_write.new.self.spare) _ c.put_batch.new.segments
    (whole_write (view_of c.self.inside) (unseen_of c.self.inside) c.args.now c.args.batch.ops (put_rows c.self.inside.layers.active (commit_rows f c.self.inside.default_millis (n + 1) c.args.now c.args.batch.ops)) c.push_write.new.self.spare
    (some_more f c.self.inside.default_millis (n + 1) c.args.now c.args.batch.ops c.self.inside.layers.active (λ e. let t : true ≡ false = sym (c.is_empty.ensures.1 e) ∙ c.if-is_empty.false in cc))
    (puts_all _ c.self.inside.layers.active _ (AllByRecursion_weaken _ _ (λ r h. higher n r.seq h) _ (AllByRecursion_behind (λ rows. AllByRecursion (λ r. r.seq ≤ n) rows) c.self.inside.layers.frozen (c.self.inside.layers.active ∷ []) c.self.invariant.tied.rows_within).0) (commit_within f c.self.inside.default_millis (n + 1) c.args.now c.args.batch.ops))
    c.put_batch.new.manager
    (managed_written c.self.inside.manager c.put_batch.new.manager c.self.inside.log.ids n (n + 1) c.self.inside.log.commits c.self.inside.transactions (record { seq = n + 1; now = c.args.now; ops = c.args.batch.ops; tracked = batch_keys c.args.batch.ops })
    (subst (λ (k : ℕ). c.put_batch.new.manager ≡ record c.self.inside.manager { last = k; kept = c.put_batch.new.manager.kept }) seq c.in_ok-put_batch.ensures.committed)
    (stands_tracked c.self.inside.manager c.put_batch.new.manager (c.last-seq.result + 1) c.self.inside.log.commits (record { seq = n + 1; now = c.args.now; ops = c.args.batch.ops; tracked = batch_keys c.args.batch.ops }) c.in_ok-keys.keys.items c.in_ok-put_batch.ensures.committed
    (let newest : c.self.inside.manager.last ≡ n = c.self.invariant.tied.manager.newest in omega (arith, newest, seq)) (sym seq) c.in_ok-keys.ensures.keys c.in_ok-put_batch.ensures.stands) c.self.invariant.tied.manager)
    (subst IsLog log c.push_write.ensures.whole) (subst AreLayers layers c.put_batch.ensures.whole) c.self.invariant))

pub returns : goal.returns
returns g c =
    let m : Meaning = (reach_of g.S.Store g.M.MergeOperator g.T.BlockTransformer c.args.env.now).meaning in
    let f : List ℕ → Combine = combine_of (reach_of g.S.Store g.M.MergeOperator g.T.BlockTransformer c.args.env.now).meaning in
    let n : ℕ = c.self.inside.log.last in
    let seq : c.last-seq.result + 1 ≡ n + 1 = ap (λ n. n + 1) (c.last-seq.ensures ∙ ap (λ (l : LogModel). l.last) c.reserve.ensures.value) in
    let rows : c.in_ok-rows.rows.items ≡ commit_rows f c.self.inside.default_millis (n + 1) c.args.now c.args.batch.ops =
    made (option_map g.M.MergeOperator.combine c.args.env.now.operator) (reach_of g.S.Store g.M.MergeOperator g.T.BlockTransformer c.args.env.now).meaning.combine c.self.inside.default_millis (n + 1) (c.last-seq.result + 1) _ c.args.now c.args.batch.ops c.in_ok-rows.rows.items c.in_ok-rows.ensures.rows (sym (combine_is g.M.MergeOperator.combine c.args.env.now.operator)) seq (to_z-of_z w64 c.args.now c.ranges.now) in
    let written : Rows = put_rows c.self.inside.layers.active (commit_rows f c.self.inside.default_millis (n + 1) c.args.now c.args.batch.ops) in
    let layers : c.put_batch.new.layers ≡ record c.self.inside.layers { active = put_rows c.self.inside.layers.active (commit_rows f c.self.inside.default_millis (n + 1) c.args.now c.args.batch.ops) } =
    c.in_ok-put_batch.ensures.put ∙ ap (λ rs. record c.self.inside.layers { active = put_rows c.self.inside.layers.active rs }) rows in
    let by : Segments = segments_by g.X.PrefixExtractor.lengths c.args.laws.now.segments in
    let recorded : c.put_batch.new.segments ≡ keys_set (c.self.inside.segments ++ prefixes by c.args.batch.ops) =
    c.in_ok-put_batch.ensures.recorded ∙ ap (λ ps. keys_set (c.self.inside.segments ++ ps)) c.in_ok-prefixes.ensures.prefixes ∙ set_of_rest c.self.inside.segments (prefixes by c.args.batch.ops) in
    let becomes = written_is (record c.self.inside { segments = c.put_batch.new.segments }) c.reserve.new.self c.push_write.new.self c.put_batch.new.layers c.put_batch.new.manager c.args.now _ c.args.batch.ops _ _ c.reserve.ensures.value (to_z-of_z w64 c.args.now c.ranges.now) (c.from_vec.ensures ∙ c.in_ok-ops.ensures.ops) c.push_write.ensures.value layers in
    let below : n < 2 ^ 64 - 2 = omega (arith, c.last.ensures) in
    let tested : batch_refusal m.combine by c.self.inside.segments c.self.inside.default_millis c.args.now c.args.batch ≡ None =
    sym (batch_refusal_as (option_map g.M.MergeOperator.combine c.args.env.now.operator) m.combine by c.self.inside.segments c.self.inside.default_millis _ c.args.now c.args.batch (sym (combine_is g.M.MergeOperator.combine c.args.env.now.operator)) (to_z-of_z w64 c.args.now c.ranges.now)) ∙ c.in_ok-prefixes.ensures.tested in
    let event : IsWritten c.args.self.now (view_of (record c.self.inside { log = c.push_write.new.self; layers = c.put_batch.new.layers; manager = c.put_batch.new.manager; segments = c.put_batch.new.segments })) (Some (c.last-seq.result + 1)) c.args.now c.args.batch.ops =
    sym (ap view_of becomes) ∙ ap (λ (v : CoreModel). record (after_write v (n + 1) c.args.now c.args.batch.ops (put_rows c.self.inside.layers.active (commit_rows f c.self.inside.default_millis (n + 1) c.args.now c.args.batch.ops)) c.push_write.new.self.spare) { segments = c.put_batch.new.segments }) c.self.view_is
    ∙ (let s = sym seq in let rows = sym (ap (λ (y : LayersModel). y.active) layers) in λ i. record (after_write c.args.self.now (s i) c.args.now c.args.batch.ops (rows i) c.push_write.new.self.spare) { segments = c.put_batch.new.segments }) in
    let before = reach_of g.S.Store g.M.MergeOperator g.T.BlockTransformer c.args.env.now in
    let after = reach_of g.S.Store g.M.MergeOperator g.T.BlockTransformer (record c.args.env.now { operator = c.rows_of_batch.new.operator }) in
    let d : Given = given_by before by c.args.now in
    let some : c.args.batch.ops ≡ [] → ⊥ = λ none. true≢false (sym (c.is_empty.ensures.1 none) ∙ c.if-is_empty.false) in
    let known : refusal_of d c.args.self.now c.args.batch ≡ None = ap (λ (v : CoreModel). batch_refusal m.combine by v.segments v.settings.default_millis c.args.now c.args.batch) (sym c.self.view_is) ∙ tested in
    let free : write_verdict d c.args.self.now c.args.batch ≡ None = verdict_none d c.args.batch c.self.inside c.args.self.now c.self.invariant c.self.view_is below known c.in_ok-place.ensures.place in
    record {
      answer = decides_ok (write_verdict d c.args.self.now c.args.batch) (IsFault before after) (Some (c.last-seq.result + 1)) free;
      idle = λ none. absurd (some none);
      exhausted = λ some. none_left (view_of c.self.inside) c.args.self.now (unseen_of c.self.inside) (2 ^ 64 - 2) c.self.view_is c.self.invariant below;
      step = (λ z ops of fine.
          sym (ap (λ (v : CoreModel). step (rules_in v.settings m by) (at c.args.now v.state) (lines.Write ops)) c.self.view_is)
          ∙ step_tested (rules_in (view_of c.self.inside).settings m by) (at c.args.now (view_of c.self.inside).state) c.self.inside.segments ops c.args.batch n of (λ e. let t : true ≡ false = sym (c.is_empty.ensures.1 e) ∙ c.if-is_empty.false in cc) tested fine (subst (λ (v : CoreModel). IsSegmented by v) (sym c.self.view_is) z).recorded c.self.invariant.log.last below
          ∙ (let s = sym seq in λ i. (at c.args.now (view_of (becomes i)).state, Written (Some (s i)))));
      refused = λ z. tt;
      event = event;
      vouched = (λ m k h.
          subst (λ (s : Inside). IsVouchedFor m (view_of s) k) becomes
          (vouched_write m (view_of c.self.inside) k (n + 1) c.args.now c.args.batch.ops written c.push_write.new.self.spare (below_next (view_of c.self.inside) (unseen_of c.self.inside) c.self.invariant)
          (subst (λ (v : CoreModel). IsVouchedFor m v k) (sym c.self.view_is) h)));
      keeps = record {
        own = record {
          rows = (λ k.
              let old : IsKept m (view_of c.self.inside) = subst (λ (v : CoreModel). IsKept m v) (sym c.self.view_is) k in
              subst (λ (s : Inside). IsKept m (view_of s)) becomes
              (kept_recorded m (after_write (view_of c.self.inside) (n + 1) c.args.now c.args.batch.ops written c.push_write.new.self.spare) c.put_batch.new.segments
              (kept_write m (view_of c.self.inside) (unseen_of c.self.inside) c.args.now c.args.batch.ops _ c.push_write.new.self.spare
              (λ j. versions_more f c.self.inside.default_millis (n + 1) c.args.now c.args.batch.ops c.self.inside.layers.active j (active_within m (view_of c.self.inside) (unseen_of c.self.inside) c.self.invariant old j))
              (λ none. c.ops.ensures.plain (tested_plain m.combine by c.self.inside.segments c.args.batch.held_merge c.self.inside.default_millis c.args.now c.args.batch.ops none tested))
              c.self.invariant old)));
          segments = (λ z.
              subst (λ (s : Inside). IsSegmented by (view_of s)) becomes
              (segmented_more m.combine by (view_of c.self.inside) (record (after_write (view_of c.self.inside) (n + 1) c.args.now c.args.batch.ops written c.push_write.new.self.spare) { segments = c.put_batch.new.segments })
              c.self.inside.default_millis c.args.now c.args.batch.held_merge (record { seq = n + 1; now = c.args.now; ops = c.args.batch.ops; tracked = batch_keys c.args.batch.ops }) recorded refl tested
              (subst (λ (v : CoreModel). IsSegmented by v) (sym c.self.view_is) z)));
        };
        refused = tt;
      };
      grows = (λ ops of.
          subst (λ (v : CoreModel). load (view_of (record c.self.inside { log = c.push_write.new.self; layers = c.put_batch.new.layers; manager = c.put_batch.new.manager; segments = c.put_batch.new.segments })) ≤ load v + length ops) c.self.view_is
          (subst (λ (s : Inside). load (view_of s) ≤ load (view_of c.self.inside) + length ops) becomes
          (write_load (view_of c.self.inside) f c.self.inside.default_millis (n + 1) c.args.now c.args.batch.ops ops of.0)));
      same = tt;
      stay = stay_written c.args.self.now _ (Some (c.last-seq.result + 1)) c.args.now c.args.batch.ops event;
      outside = refl;
      asks = record {
        call = asked_call g.S.Store g.M.MergeOperator g.T.BlockTransformer c.args.env.now c.rows_of_batch.new.operator c.rows_of_batch.ensures.same;
        reads = asked_reads g.S.Store g.M.MergeOperator g.T.BlockTransformer c.args.env.now c.rows_of_batch.new.operator c.rows_of_batch.ensures.same c.rows_of_batch.ensures.later;
        still = c.in_ok-rows.ensures.still;
      };
      unasked = asks_made (write_verdict d c.args.self.now c.args.batch) c.args.batch free some (λ plain. ap (λ o. record c.args.env.now { operator = o }) (c.rows_of_batch.ensures.plain plain));
    }

-- ---- refusals: at most room was made

pub invariant_of-self : goal.invariant_of-self
invariant_of-self g c = room_in_log c.self.inside c.reserve.new.self c.reserve.ensures.value c.reserve.ensures.whole c.self.invariant

pub invariant_of-self-in_err-rows : goal.invariant_of-self-in_err-rows
invariant_of-self-in_err-rows g c = room_in_log c.self.inside c.reserve.new.self c.reserve.ensures.value c.reserve.ensures.whole c.self.invariant

pub invariant_of-self-in_err-ops : goal.invariant_of-self-in_err-ops
invariant_of-self-in_err-ops g c = room_in_log c.self.inside c.reserve.new.self c.reserve.ensures.value c.reserve.ensures.whole c.self.invariant

pub invariant_of-self-in_err-keys : goal.invariant_of-self-in_err-keys
invariant_of-self-in_err-keys g c = room_in_log c.self.inside c.reserve.new.self c.reserve.ensures.value c.reserve.ensures.whole c.self.invariant

pub invariant_of-self-in_err-put_batch : goal.invariant_of-self-in_err-put_batch
invariant_of-self-in_err-put_batch g c = subst IsWholeInside (let y = sym c.in_err-put_batch.ensures.same_layers in let m = sym c.in_err-put_batch.ensures.same in let ps = sym c.in_err-put_batch.ensures.same_segments in λ i. record c.self.inside { log = c.reserve.new.self; layers = y i; manager = m i; segments = ps i })
    (room_in_log c.self.inside c.reserve.new.self c.reserve.ensures.value c.reserve.ensures.whole c.self.invariant)

pub returns-in_err-prefixes : goal.returns-in_err-prefixes
returns-in_err-prefixes g c =
    let p = err_from_is_err_and c.from_residual.result c.from_residual.ensures.1 in
    let before = reach_of g.S.Store g.M.MergeOperator g.T.BlockTransformer c.args.env.now in
    let by : Segments = segments_by g.X.PrefixExtractor.lengths c.args.laws.now.segments in
    let d : Given = given_by before by c.args.now in
    let s = c.self.inside in
    let old = c.args.self.now in
    let b = c.args.batch in
    let below : s.log.last < 2 ^ 64 - 2 = omega (arith, c.last.ensures) in
    let some : b.ops ≡ [] → ⊥ = λ none. true≢false (sym (c.is_empty.ensures.1 none) ∙ c.if-is_empty.false) in
    write_refused d b before before _ _ s old _ c.in_err-prefixes.field-0.0 c.from_residual.result c.self.invariant c.self.view_is
    refl some below
    (decides_either (Option ℕ) (write_verdict d old b) (IsFault before before) c.in_err-prefixes.field-0.0 tt
    (by_test (λ test. verdict_tested d b s old c.in_err-prefixes.field-0.0 c.self.invariant c.self.view_is some below
    (refusal_known (option_map g.M.MergeOperator.combine c.args.env.now.operator) before.meaning.combine by (view_of s) old _ c.args.now b _ (sym (combine_is g.M.MergeOperator.combine c.args.env.now.operator)) c.self.view_is (to_z-of_z w64 c.args.now c.ranges.now) test)) c.in_err-prefixes.ensures.cause))
    refl (record { call = call_none before; reads = reads_none before; still = stays_at _ _ c.in_err-prefixes.field-0.0 refl })
    (λ h. refl) (p.1 ∙ ap Err p.2)

pub returns-in_err-place : goal.returns-in_err-place
returns-in_err-place g c =
    let p = err_from_is_err_and c.from_residual-in_err-place.result c.from_residual-in_err-place.ensures.1 in
    let before = reach_of g.S.Store g.M.MergeOperator g.T.BlockTransformer c.args.env.now in
    let by : Segments = segments_by g.X.PrefixExtractor.lengths c.args.laws.now.segments in
    let d : Given = given_by before by c.args.now in
    let s = c.self.inside in
    let old = c.args.self.now in
    let b = c.args.batch in
    let below : s.log.last < 2 ^ 64 - 2 = omega (arith, c.last.ensures) in
    let some : b.ops ≡ [] → ⊥ = λ none. true≢false (sym (c.is_empty.ensures.1 none) ∙ c.if-is_empty.false) in
    let known : refusal_of d old b ≡ None = refusal_known (option_map g.M.MergeOperator.combine c.args.env.now.operator) before.meaning.combine by (view_of s) old _ c.args.now b _ (sym (combine_is g.M.MergeOperator.combine c.args.env.now.operator)) c.self.view_is (to_z-of_z w64 c.args.now c.ranges.now) c.in_ok-prefixes.ensures.tested in
    write_refused d b before before _ _ s old _ (errors.LimitReached LIMIT) c.from_residual-in_err-place.result c.self.invariant c.self.view_is
    refl some below
    (decides_err (Option ℕ) (write_verdict d old b) (IsFault before before) (errors.LimitReached LIMIT)
    (verdict_crowded d b s old c.self.invariant c.self.view_is some below known (past_place (view_of s) old (unseen_of s) 1 c.self.view_is c.self.invariant c.in_err-place.ensures.limit.1)))
    refl (record { call = call_none before; reads = reads_none before; still = refl })
    (λ h. refl) (p.1 ∙ ap Err (p.2 ∙ c.in_err-place.ensures.limit.0))

pub returns-in_err-reserve : goal.returns-in_err-reserve
returns-in_err-reserve g c =
    let p = err_from_is_err_and c.from_residual-in_err-reserve.result c.from_residual-in_err-reserve.ensures.1 in
    let before = reach_of g.S.Store g.M.MergeOperator g.T.BlockTransformer c.args.env.now in
    let by : Segments = segments_by g.X.PrefixExtractor.lengths c.args.laws.now.segments in
    let d : Given = given_by before by c.args.now in
    let s = c.self.inside in
    let old = c.args.self.now in
    let b = c.args.batch in
    let below : s.log.last < 2 ^ 64 - 2 = omega (arith, c.last.ensures) in
    let some : b.ops ≡ [] → ⊥ = λ none. true≢false (sym (c.is_empty.ensures.1 none) ∙ c.if-is_empty.false) in
    write_refused d b before before _ _ s old _ errors.OutOfMemory c.from_residual-in_err-reserve.result c.self.invariant c.self.view_is
    (subst (λ (v : CoreModel). IsSame v (view_of (record s { log = c.reserve.new.self }))) c.self.view_is (room_made s c.reserve.new.self c.reserve.ensures.value)) some below
    (decides_memory (Option ℕ) (write_verdict d old b) (IsFault before before) tt)
    refl (record { call = call_none before; reads = reads_none before; still = refl })
    (λ h. refl) (p.1 ∙ ap Err p.2)

pub returns-in_err-rows : goal.returns-in_err-rows
returns-in_err-rows g c =
    let p = err_from_is_err_and c.from_residual-in_err-rows.result c.from_residual-in_err-rows.ensures.1 in
    let before = reach_of g.S.Store g.M.MergeOperator g.T.BlockTransformer c.args.env.now in
    let after = reach_of g.S.Store g.M.MergeOperator g.T.BlockTransformer (record c.args.env.now { operator = c.rows_of_batch.new.operator }) in
    let by : Segments = segments_by g.X.PrefixExtractor.lengths c.args.laws.now.segments in
    let d : Given = given_by before by c.args.now in
    let s = c.self.inside in
    let old = c.args.self.now in
    let b = c.args.batch in
    let below : s.log.last < 2 ^ 64 - 2 = omega (arith, c.last.ensures) in
    let some : b.ops ≡ [] → ⊥ = λ none. true≢false (sym (c.is_empty.ensures.1 none) ∙ c.if-is_empty.false) in
    let known : refusal_of d old b ≡ None = refusal_known (option_map g.M.MergeOperator.combine c.args.env.now.operator) before.meaning.combine by (view_of s) old _ c.args.now b _ (sym (combine_is g.M.MergeOperator.combine c.args.env.now.operator)) c.self.view_is (to_z-of_z w64 c.args.now c.ranges.now) c.in_ok-prefixes.ensures.tested in
    let free : write_verdict d old b ≡ None = verdict_none d b s old c.self.invariant c.self.view_is below known c.in_ok-place.ensures.place in
    write_refused d b before after _ _ s old _ c.in_err-rows.field-0.0 c.from_residual-in_err-rows.result c.self.invariant c.self.view_is
    (subst (λ (v : CoreModel). IsSame v (view_of (record s { log = c.reserve.new.self }))) c.self.view_is (room_made s c.reserve.new.self c.reserve.ensures.value)) some below
    (decides_fault (Option ℕ) (write_verdict d old b) (IsFault before after) c.in_err-rows.field-0.0 free
    (either (short_fault before after c.in_err-rows.field-0.0) (callback_fault before after c.in_err-rows.field-0.0) c.in_err-rows.ensures.cause))
    refl (record { call = asked_call g.S.Store g.M.MergeOperator g.T.BlockTransformer c.args.env.now c.rows_of_batch.new.operator c.rows_of_batch.ensures.same; reads = asked_reads g.S.Store g.M.MergeOperator g.T.BlockTransformer c.args.env.now c.rows_of_batch.new.operator c.rows_of_batch.ensures.same c.rows_of_batch.ensures.later; still = c.in_err-rows.ensures.still })
    (asks_made (write_verdict d old b) b free some (λ plain. ap (λ o. record c.args.env.now { operator = o }) (c.rows_of_batch.ensures.plain plain))) (p.1 ∙ ap Err p.2)

pub returns-in_err-ops : goal.returns-in_err-ops
returns-in_err-ops g c =
    let p = err_from_is_err_and c.from_residual-in_err-ops.result c.from_residual-in_err-ops.ensures.1 in
    let before = reach_of g.S.Store g.M.MergeOperator g.T.BlockTransformer c.args.env.now in
    let after = reach_of g.S.Store g.M.MergeOperator g.T.BlockTransformer (record c.args.env.now { operator = c.rows_of_batch.new.operator }) in
    let by : Segments = segments_by g.X.PrefixExtractor.lengths c.args.laws.now.segments in
    let d : Given = given_by before by c.args.now in
    let s = c.self.inside in
    let old = c.args.self.now in
    let b = c.args.batch in
    let below : s.log.last < 2 ^ 64 - 2 = omega (arith, c.last.ensures) in
    let some : b.ops ≡ [] → ⊥ = λ none. true≢false (sym (c.is_empty.ensures.1 none) ∙ c.if-is_empty.false) in
    let known : refusal_of d old b ≡ None = refusal_known (option_map g.M.MergeOperator.combine c.args.env.now.operator) before.meaning.combine by (view_of s) old _ c.args.now b _ (sym (combine_is g.M.MergeOperator.combine c.args.env.now.operator)) c.self.view_is (to_z-of_z w64 c.args.now c.ranges.now) c.in_ok-prefixes.ensures.tested in
    let free : write_verdict d old b ≡ None = verdict_none d b s old c.self.invariant c.self.view_is below known c.in_ok-place.ensures.place in
    write_refused d b before after _ _ s old _ errors.OutOfMemory c.from_residual-in_err-ops.result c.self.invariant c.self.view_is
    (subst (λ (v : CoreModel). IsSame v (view_of (record s { log = c.reserve.new.self }))) c.self.view_is (room_made s c.reserve.new.self c.reserve.ensures.value)) some below
    (decides_memory (Option ℕ) (write_verdict d old b) (IsFault before after) tt)
    refl (record { call = asked_call g.S.Store g.M.MergeOperator g.T.BlockTransformer c.args.env.now c.rows_of_batch.new.operator c.rows_of_batch.ensures.same; reads = asked_reads g.S.Store g.M.MergeOperator g.T.BlockTransformer c.args.env.now c.rows_of_batch.new.operator c.rows_of_batch.ensures.same c.rows_of_batch.ensures.later; still = c.in_ok-rows.ensures.still })
    (asks_made (write_verdict d old b) b free some (λ plain. ap (λ o. record c.args.env.now { operator = o }) (c.rows_of_batch.ensures.plain plain))) (p.1 ∙ ap Err (p.2 ∙ c.in_err-ops.ensures.cause))

pub returns-in_err-keys : goal.returns-in_err-keys
returns-in_err-keys g c =
    let p = err_from_is_err_and c.from_residual-in_err-keys.result c.from_residual-in_err-keys.ensures.1 in
    let before = reach_of g.S.Store g.M.MergeOperator g.T.BlockTransformer c.args.env.now in
    let after = reach_of g.S.Store g.M.MergeOperator g.T.BlockTransformer (record c.args.env.now { operator = c.rows_of_batch.new.operator }) in
    let by : Segments = segments_by g.X.PrefixExtractor.lengths c.args.laws.now.segments in
    let d : Given = given_by before by c.args.now in
    let s = c.self.inside in
    let old = c.args.self.now in
    let b = c.args.batch in
    let below : s.log.last < 2 ^ 64 - 2 = omega (arith, c.last.ensures) in
    let some : b.ops ≡ [] → ⊥ = λ none. true≢false (sym (c.is_empty.ensures.1 none) ∙ c.if-is_empty.false) in
    let known : refusal_of d old b ≡ None = refusal_known (option_map g.M.MergeOperator.combine c.args.env.now.operator) before.meaning.combine by (view_of s) old _ c.args.now b _ (sym (combine_is g.M.MergeOperator.combine c.args.env.now.operator)) c.self.view_is (to_z-of_z w64 c.args.now c.ranges.now) c.in_ok-prefixes.ensures.tested in
    let free : write_verdict d old b ≡ None = verdict_none d b s old c.self.invariant c.self.view_is below known c.in_ok-place.ensures.place in
    write_refused d b before after _ _ s old _ errors.OutOfMemory c.from_residual-in_err-keys.result c.self.invariant c.self.view_is
    (subst (λ (v : CoreModel). IsSame v (view_of (record s { log = c.reserve.new.self }))) c.self.view_is (room_made s c.reserve.new.self c.reserve.ensures.value)) some below
    (decides_memory (Option ℕ) (write_verdict d old b) (IsFault before after) tt)
    refl (record { call = asked_call g.S.Store g.M.MergeOperator g.T.BlockTransformer c.args.env.now c.rows_of_batch.new.operator c.rows_of_batch.ensures.same; reads = asked_reads g.S.Store g.M.MergeOperator g.T.BlockTransformer c.args.env.now c.rows_of_batch.new.operator c.rows_of_batch.ensures.same c.rows_of_batch.ensures.later; still = c.in_ok-rows.ensures.still })
    (asks_made (write_verdict d old b) b free some (λ plain. ap (λ o. record c.args.env.now { operator = o }) (c.rows_of_batch.ensures.plain plain))) (p.1 ∙ ap Err (p.2 ∙ c.in_err-keys.ensures.cause))

pub returns-in_err-put_batch : goal.returns-in_err-put_batch
returns-in_err-put_batch g c =
    let p = err_from_is_err_and c.from_residual-in_err-put_batch.result c.from_residual-in_err-put_batch.ensures.1 in
    let before = reach_of g.S.Store g.M.MergeOperator g.T.BlockTransformer c.args.env.now in
    let after = reach_of g.S.Store g.M.MergeOperator g.T.BlockTransformer (record c.args.env.now { operator = c.rows_of_batch.new.operator }) in
    let by : Segments = segments_by g.X.PrefixExtractor.lengths c.args.laws.now.segments in
    let d : Given = given_by before by c.args.now in
    let s = c.self.inside in
    let old = c.args.self.now in
    let b = c.args.batch in
    let below : s.log.last < 2 ^ 64 - 2 = omega (arith, c.last.ensures) in
    let some : b.ops ≡ [] → ⊥ = λ none. true≢false (sym (c.is_empty.ensures.1 none) ∙ c.if-is_empty.false) in
    let known : refusal_of d old b ≡ None = refusal_known (option_map g.M.MergeOperator.combine c.args.env.now.operator) before.meaning.combine by (view_of s) old _ c.args.now b _ (sym (combine_is g.M.MergeOperator.combine c.args.env.now.operator)) c.self.view_is (to_z-of_z w64 c.args.now c.ranges.now) c.in_ok-prefixes.ensures.tested in
    let free : write_verdict d old b ≡ None = verdict_none d b s old c.self.invariant c.self.view_is below known c.in_ok-place.ensures.place in
    write_refused d b before after _ _ s old _ errors.OutOfMemory c.from_residual-in_err-put_batch.result c.self.invariant c.self.view_is
    ((let y = c.in_err-put_batch.ensures.same_layers in let ps = c.in_err-put_batch.ensures.same_segments in λ i. view_of (record s { log = c.reserve.new.self; layers = y i; segments = ps i })) ∙ subst (λ (v : CoreModel). IsSame v (view_of (record s { log = c.reserve.new.self }))) c.self.view_is (room_made s c.reserve.new.self c.reserve.ensures.value)) some below
    (decides_memory (Option ℕ) (write_verdict d old b) (IsFault before after) tt)
    refl (record { call = asked_call g.S.Store g.M.MergeOperator g.T.BlockTransformer c.args.env.now c.rows_of_batch.new.operator c.rows_of_batch.ensures.same; reads = asked_reads g.S.Store g.M.MergeOperator g.T.BlockTransformer c.args.env.now c.rows_of_batch.new.operator c.rows_of_batch.ensures.same c.rows_of_batch.ensures.later; still = c.in_ok-rows.ensures.still })
    (asks_made (write_verdict d old b) b free some (λ plain. ap (λ o. record c.args.env.now { operator = o }) (c.rows_of_batch.ensures.plain plain))) (p.1 ∙ ap Err (p.2 ∙ c.in_err-put_batch.ensures.cause))
