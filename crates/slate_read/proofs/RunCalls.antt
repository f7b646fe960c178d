-- What the calls of a walk over a run do.
use Rattle.std.proofs.Common.{◌≡◌, ◌≢◌, ◌⊎◌, inl, inr, ◌<◌, ◌≤◌, ℕ, List, [], Option, Some, None, refl, sym, subst, ◌∙◌, arith}
use Rattle.slate_types.specs.declared.bytes_range.BytesRange.{BytesRange}
use Rattle.slate_types.specs.declared.error.SlateDBError.{SlateDBError}
use Rattle.slate_types.specs.declared.error.SlateDBError.TheVariants.{IteratorNotInitialized, OutOfMemory}
use Rattle.slate_types.specs.declared.types.RowEntry.{RowEntry}
use Rattle.slate_types.specs.declared.iter.IterationOrder.{IterationOrder}
use Rattle.slate_types.specs.Outside.{Act, IsFault, Meaning, Reach}
use Rattle.slate_types.specs.Refusing.{IsDamage, IsReady, NoMoreBut}
use Rattle.slate_types.specs.Steps.{Step}
use Rattle.slate_types.specs.World.{World, Made, Sees}
use Rattle.slate_types.proofs.Calls.{call_none, seen}
use Rattle.slate_types.proofs.Moves.{Moves}
use Rattle.slate_merge.specs.Kept.{Copies}
use Rattle.slate_merge.specs.Answering.{no_words}
use Rattle.slate_read.specs.declared.run_state.OpenTable.{OpenTable}
use Rattle.slate_read.specs.declared.run_state.RunCursor.{RunCursor}
use Rattle.slate_read.specs.declared.run_state.RunState.{RunState}
use Rattle.slate_read.specs.declared.run_state.RunState.TheVariants.{New, Going, Refused}
use Rattle.slate_read.specs.RunLaws.{run_whole}
use Rattle.slate_read.specs.RunWalk.{bound_run, bound_run_in, IsSoundRun, IsUnrefusedRun, KeepsRun, RefusesOpen, StaysRunIn, refuses_run, refuses_run_in, rest_run, rest_run_in, sound_run_in}
use Rattle.slate_read.specs.TableWalk.{Sought}
use Rattle.slate_read.proofs.Walks.{outer_undamaged}

-- a walk is its state and its cursor
abbrev pub At : Type 0
At = RunState × RunCursor

abbrev pub rest_pair : BytesRange → IterationOrder → At → World → List RowEntry
rest_pair range order p w = rest_run_in p.0 range order p.1 w

abbrev pub sound_pair : BytesRange → IterationOrder → At → World → Type 0
sound_pair range order p w = sound_run_in p.0 range order p.1 w

abbrev pub refuses_pair : IterationOrder → At → Meaning → List Act → Option (List ℕ) → SlateDBError → Type 0
refuses_pair order p m reads at e = refuses_run_in p.0 order p.1 m reads at e

-- ---- it goes on

pub going_step : (range : BytesRange) (order : IterationOrder) (a b : Reach) (s : RunState) (x y : RunCursor) (answer : Option RowEntry) → s ≡ Going → Step (rest_run range order) (IsSoundRun range order) (refuses_run order) no_words a b x answer y →
    Step (rest_pair range order) (sound_pair range order) (refuses_pair order) no_words a b (s, x) answer (s, y)
going_step range order a b s x y answer is n = subst (λ (u : RunState). Step (rest_pair range order) (sound_pair range order) (refuses_pair order) no_words a b (u, x) answer (u, y)) (sym is) here
  where
    here : Step (rest_pair range order) (sound_pair range order) (refuses_pair order) no_words a b (Going, x) answer (Going, y)
    here = record { rows = n.rows; still = n.still; checked = n.checked; taken = n.taken }

pub going_sought : (range : BytesRange) (order : IterationOrder) (key : List ℕ) (a b : Reach) (s : RunState) (x y : RunCursor) → s ≡ Going → Sought (rest_run range order) (IsSoundRun range order) (refuses_run order) order key a b x y →
    Sought (rest_pair range order) (sound_pair range order) (refuses_pair order) order key a b (s, x) (s, y)
going_sought range order key a b s x y is n = subst (λ (u : RunState). Sought (rest_pair range order) (sound_pair range order) (refuses_pair order) order key a b (u, x) (u, y)) (sym is) here
  where
    here : Sought (rest_pair range order) (sound_pair range order) (refuses_pair order) order key a b (Going, x) (Going, y)
    here = record { rows = n.rows; still = n.still; checked = n.checked; made = n.made }

-- ---- it is begun

pub begun : (range : BytesRange) (order : IterationOrder) (a b : Reach) (s t : RunState) (x y : RunCursor) → s ≡ New → t ≡ Going → Moves (rest_run range order) (IsSoundRun range order) (refuses_run order) a b x y →
    Moves (rest_pair range order) (sound_pair range order) (refuses_pair order) a b (s, x) (t, y)
begun range order a b s t x y new going m =
    subst (λ (u : RunState). Moves (rest_pair range order) (sound_pair range order) (refuses_pair order) a b (u, x) (t, y)) (sym new)
    (subst (λ (v : RunState). Moves (rest_pair range order) (sound_pair range order) (refuses_pair order) a b (New, x) (v, y)) (sym going) here)
  where
    here : Moves (rest_pair range order) (sound_pair range order) (refuses_pair order) a b (New, x) (Going, y)
    here = record { rows = m.rows; still = m.still; checked = m.checked; made = (m.made.0, m.made.1, λ later at e r. inr (m.made.2 later at e r)) }

never_begun : (order : IterationOrder) (x : RunCursor) (m : Meaning) (reads : List Act) (at : Option (List ℕ)) → ¬ refuses_run order x m reads at IteratorNotInitialized
never_begun order x m reads at (inl k) = of_open x.current k
  where
    of_open : (o : Option OpenTable) → RefusesOpen order o m reads IteratorNotInitialized → ⊥
    of_open None r = r
    of_open (Some o) r = r.0
never_begun order x m reads at (inr k) = k.0

pub going_ready : (order : IterationOrder) (s : RunState) (x : RunCursor) (m : Meaning) → s ≡ Going → IsReady (refuses_pair order (s, x) m)
going_ready order s x m is = λ reads at r. never_begun order x m reads at (subst (λ (u : RunState). refuses_run_in u order x m reads at IteratorNotInitialized) is r)

-- ---- a refusal

pub going_fails : (order : IterationOrder) (a b : Reach) (s : RunState) (x : RunCursor) (at : Option (List ℕ)) (e : SlateDBError) → s ≡ Going → Made a b (λ reads. IsFault a b e ⊎ refuses_run order x a.meaning reads None e) →
    Made a b (λ reads. IsFault a b e ⊎ refuses_run_in s order x a.meaning reads at e)
going_fails order a b s x at e is (reads, call, inl k) = (reads, call, inl k)
going_fails order a b s x at e is (reads, call, inr k) = (reads, call, inr (subst (λ (u : RunState). refuses_run_in u order x a.meaning reads at e) (sym is) k))

pub new_fails : (order : IterationOrder) (a b : Reach) (s : RunState) (x : RunCursor) (at : Option (List ℕ)) (e : SlateDBError) → s ≡ New → Made a b (λ reads. IsFault a b e ⊎ refuses_run order x a.meaning reads None e) →
    Made a b (λ reads. IsFault a b e ⊎ refuses_run_in s order x a.meaning reads at e)
new_fails order a b s x at e is (reads, call, inl k) = (reads, call, inl k)
new_fails order a b s x at e is (reads, call, inr k) = (reads, call, inr (subst (λ (u : RunState). refuses_run_in u order x a.meaning reads at e) (sym is) (inr k)))

kept_again : (order : IterationOrder) (m : Meaning) (t : RunState) (y : RunCursor) (e : SlateDBError) (before : List Act → Option (List ℕ) → SlateDBError → Type 0) (reads : List Act) → KeepsRun e t → NoMoreBut e before reads (λ later at d. refuses_run_in t order y m later at d)
kept_again order m t y e before reads (inl k) = λ later at d r. inr ((subst (λ (u : RunState). refuses_run_in u order y m later at d) k r).1)
kept_again order m t y e before reads (inr k) = λ later at d r. absurd ((subst (λ (u : RunState). refuses_run_in u order y m later at d) k r).0 refl)

pub run_refused : {W : Type 0} → W → (order : IterationOrder) (a b : Reach) (s t : RunState) (x y : RunCursor) (at : Option (List ℕ)) (e : SlateDBError) → KeepsRun e t → Made a b (λ reads. IsFault a b e ⊎ refuses_run_in s order x a.meaning reads at e) →
    Made a b (λ reads. (IsFault a b e ⊎ refuses_run_in s order x a.meaning reads at e) × W × NoMoreBut e (λ later k d. refuses_run_in s order x a.meaning later k d) reads (λ later k d. refuses_run_in t order y a.meaning later k d))
run_refused {W} stays order a b s t x y at e k (reads, call, why) = (reads, call, (why, stays, kept_again order a.meaning t y e (λ later n d. refuses_run_in s order x a.meaning later n d) reads k))

pub refused_still : (range : BytesRange) (order : IterationOrder) (a b : Reach) (s t : RunState) (x y : RunCursor) (at : Option (List ℕ)) (e : SlateDBError) → KeepsRun e t → Made a b (λ reads. IsFault a b e ⊎ refuses_run_in s order x a.meaning reads at e) →
    (w : World) → Sees w a b → sound_run_in s range order x w → sound_run_in t range order y w
refused_still range order a b s t x y at e k (reads, call, why) w sees sound = by k
  where
    undamaged : ¬ IsDamage e
    undamaged = fine why
      where
        fine : IsFault a b e ⊎ refuses_run_in s order x a.meaning reads at e → ¬ IsDamage e
        fine (inl o) = outer_undamaged a.faults b.faults e o
        fine (inr r) = run_whole range order s x w reads at e sound (seen w a b reads sees call) (subst (λ (m : Meaning). refuses_run_in s order x m reads at e) (sym sees.meaning) r)

    by : KeepsRun e t → sound_run_in t range order y w
    by (inl is) = subst (λ (u : RunState). sound_run_in u range order y w) (sym is) undamaged
    by (inr is) = subst (λ (u : RunState). sound_run_in u range order y w) (sym is) (λ (d : IsDamage OutOfMemory). d)

-- a kept refusal is answered again, and the state stays
pub again_refused : {W : Type 0} → W → (order : IterationOrder) (t : Reach) (s : RunState) (x : RunCursor) (kept e : SlateDBError) (at : Option (List ℕ)) → s ≡ Refused kept → Copies kept e →
    Made t t (λ reads. (IsFault t t e ⊎ refuses_run_in s order x t.meaning reads at e) × W × NoMoreBut e (λ later k d. refuses_run_in s order x t.meaning later k d) reads (λ later k d. refuses_run_in s order x t.meaning later k d))
again_refused {W} stays order t s x kept e at is why = ([], call_none t, (blamed why, stays, λ later k d r. inl r))
  where
    is_memory : (d : SlateDBError) → (d ≡ OutOfMemory) ⊎ (d ≢ OutOfMemory)
    is_memory OutOfMemory = inl refl
    is_memory d = inr (λ h. cc)

    blamed : (e ≡ kept) ⊎ (e ≡ OutOfMemory) → IsFault t t e ⊎ refuses_run_in s order x t.meaning [] at e
    blamed (inr m) = inl (subst (IsFault t t) (sym m) tt)
    blamed (inl same) = by (is_memory kept)
      where
        by : (kept ≡ OutOfMemory) ⊎ (kept ≢ OutOfMemory) → IsFault t t e ⊎ refuses_run_in s order x t.meaning [] at e
        by (inl m) = inl (subst (IsFault t t) (sym (same ∙ m)) tt)
        by (inr other) = inr (subst (λ (u : RunState). refuses_run_in u order x t.meaning [] at e) (sym is) (other, same))

-- it wasn't begun
pub unbegun_refused : {W : Type 0} → W → (order : IterationOrder) (t : Reach) (s : RunState) (x : RunCursor) (at : Option (List ℕ)) → s ≡ New →
    Made t t (λ reads. (IsFault t t IteratorNotInitialized ⊎ refuses_run_in s order x t.meaning reads at IteratorNotInitialized) × W × NoMoreBut IteratorNotInitialized (λ later k d. refuses_run_in s order x t.meaning later k d) reads (λ later k d. refuses_run_in s order x t.meaning later k d))
unbegun_refused {W} stays order t s x at is = ([], call_none t, (inr (subst (λ (u : RunState). refuses_run_in u order x t.meaning [] at IteratorNotInitialized) (sym is) (inl refl)), stays, λ later k d r. inl r))

-- ---- what becomes of it

pub unrefused_new : (s : RunState) → s ≡ New → IsUnrefusedRun s
unrefused_new s is = subst IsUnrefusedRun (sym is) tt

pub unrefused_going : (s : RunState) → s ≡ Going → IsUnrefusedRun s
unrefused_going s is = subst IsUnrefusedRun (sym is) tt

pub stays_new : (s : RunState) (at : Option (List ℕ)) → s ≡ New → StaysRunIn s at IteratorNotInitialized s
stays_new s at is = subst (λ (u : RunState). StaysRunIn u at IteratorNotInitialized u) (sym is) (inl (refl, refl))

pub stays_same : (s : RunState) (at : Option (List ℕ)) (kept e : SlateDBError) → s ≡ Refused kept → Copies kept e → StaysRunIn s at e s
stays_same s at kept e is why = subst (λ (u : RunState). StaysRunIn u at e u) (sym is) (why, refl)

pub stays_going : (s t : RunState) (at : Option (List ℕ)) (e : SlateDBError) → s ≡ Going → KeepsRun e t → StaysRunIn s at e t
stays_going s t at e is keeps = subst (λ (u : RunState). StaysRunIn u at e t) (sym is) keeps

pub stays_begun : (s t : RunState) (e : SlateDBError) → s ≡ New → KeepsRun e t → StaysRunIn s None e t
stays_begun s t e is keeps = subst (λ (u : RunState). StaysRunIn u None e t) (sym is) (inr (refl, keeps))

-- ---- numbers

pub begun_bound : (s t : RunState) (x y : RunCursor) → s ≡ New → t ≡ Going → bound_run y ≤ bound_run x → bound_run_in t y ≤ bound_run_in s x
begun_bound s t x y new going le = subst (λ (u : RunState). bound_run_in t y ≤ bound_run_in u x) (sym new) (subst (λ (v : RunState). bound_run_in v y ≤ bound_run x) (sym going) le)

pub going_bound : (s : RunState) (x y : RunCursor) → s ≡ Going → bound_run y ≤ bound_run x → bound_run_in s y ≤ bound_run_in s x
going_bound s x y is le = subst (λ (u : RunState). bound_run_in u y ≤ bound_run_in u x) (sym is) le

pub going_less : (s : RunState) (x y : RunCursor) → s ≡ Going → bound_run y < bound_run x → bound_run_in s y < bound_run_in s x
going_less s x y is lt = subst (λ (u : RunState). bound_run_in u y < bound_run_in u x) (sym is) lt

pub refused_bound : (t : RunState) (y : RunCursor) (e : SlateDBError) (n : ℕ) → KeepsRun e t → bound_run_in t y ≤ n
refused_bound t y e n (inl is) = subst (λ (u : RunState). bound_run_in u y ≤ n) (sym is) (omega arith)
refused_bound t y e n (inr is) = subst (λ (u : RunState). bound_run_in u y ≤ n) (sym is) (omega arith)
