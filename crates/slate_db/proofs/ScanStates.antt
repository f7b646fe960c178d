-- What a call of a scan's iterator leaves, by what its sources leave.
use Rattle.std.proofs.Common.{◌≡◌, ◌⊎◌, inl, inr, ℕ, Bool, true, false, ◌&&◌, List, [], ◌∷◌, ◌++◌, filter, drop, Option, None, refl, sym, ap, subst, ◌∙◌}
use Rattle.std.specs.List.{AllByRecursion}
use Rattle.std.specs.Prelude.{Result, Ok, Err, IfOk, IfErr, IfSome, OnOk}
use Rattle.std.proofs.lemmas.Result.{IfErr-weaker, on_ok_weaker}
use Rattle.std.specs.declared.ops.Bound.{Bound}
use Rattle.std.specs.declared.ops.Bound.TheVariants.{Included, Excluded, Unbounded}
use Rattle.slate_types.specs.declared.bytes_range.BytesRange.{BytesRange}
use Rattle.slate_types.specs.declared.error.SlateDBError.{SlateDBError}
use Rattle.slate_types.specs.declared.iter.IterationOrder.{IterationOrder}
use Rattle.slate_types.specs.declared.iter.IterationOrder.TheVariants.{Ascending, Descending}
use Rattle.slate_types.specs.declared.types.KeyValue.{KeyValue}
use Rattle.slate_types.specs.declared.types.RowEntry.{RowEntry}
use Rattle.slate_types.specs.Iteration.{NoneBefore, drop_before}
use Rattle.slate_types.specs.Keys.{in_range, is_before_end, is_past_start, key_lt}
use Rattle.slate_types.specs.Outside.{Act, IsFault, Meaning, Reach}
use Rattle.slate_types.specs.Refusing.{IsDamage, NoMore}
use Rattle.slate_types.specs.World.{World, Made, ReadsAt}
use Rattle.slate_types.proofs.Calls.{call_none}
use Rattle.slate_types.proofs.IterationLaws.{drop_before_none}
use Rattle.slate_types.proofs.KeyOrder.{le_lt_trans, lt_irreflexive, lt_le_trans, lt_trans, not_le, not_lt}
use Rattle.slate_merge.specs.declared.folding.Folding.{Folding}
use Rattle.slate_merge.specs.declared.operator_iterator.MergeOperatorIterator.{MergeOperatorIterator}
use Rattle.slate_merge.specs.Folding.{NoneRises, is_open}
use Rattle.slate_merge.specs.Kept.{Copies}
use Rattle.slate_merge.specs.NoMoreRows.{NoMoreRows}
use Rattle.slate_merge.specs.Offers.{Comes}
use Rattle.slate_merge.specs.OperatorIterators.{IsGoing, IsOperable, refuses_folding, rest_folding, sound_folding}
use Rattle.slate_merge.specs.Peeking.{with_ahead}
use Rattle.slate_merge.proofs.MergeStateSteps.{kept_again}
use Rattle.slate_txn.specs.Alone.{first_left}
use Rattle.slate_db.specs.declared.scan.DbIterator.{DbIterator}
use Rattle.slate_db.specs.declared.scan.ScanState.{ScanState}
use Rattle.slate_db.specs.declared.scan.ScanState.TheVariants.{Walking, Done, Refused}
use Rattle.slate_db.specs.Scans.{AnswersAgain, AreForIn, FoldsAll, HandsIn, IsMergeWithin, IsOperableIn, IsReached, IsScanWithin, IsSoundIn, IsSoundMerged, IsWithinIn, Keeps, Leaves, MergedSources, RefusesFold, RefusesIn, ScanHands, SourcesRefuse, left_in, merge_offers, merge_refuses, merge_rows, order_of_merge}
use Rattle.slate_db.specs.Values.{HasValues, has_value}
use Rattle.slate_db.proofs.Foldings.{bases_closed, closed_bases, going_refuses, refuses_going, refuses_weaker}
use Rattle.slate_db.proofs.Passing.{has_none}

-- ---- keys below the start of a range

past_key : (start : Bound (List ℕ)) (key k : List ℕ) → is_past_start start key ≡ false → is_past_start start k ≡ true → key_lt key k ≡ true
past_key Unbounded key k below past = cc
past_key (Included a) key k below past = lt_le_trans key a k (not_le a key below) past
past_key (Excluded a) key k below past = le_lt_trans key a k (not_lt a key below) past

both_true : (a b : Bool) → (a && b) ≡ true → a ≡ true
both_true true b h = refl
both_true false b h = cc

past_start : (range : BytesRange) (key k : List ℕ) → is_past_start range.start key ≡ false → in_range range k ≡ true → key_lt key k ≡ true
past_start range key k below h = past_key range.start key k below (both_true (is_past_start range.start k) (is_before_end range.end k) h)

not_below : (a b : List ℕ) → key_lt a b ≡ true → key_lt b a ≡ false
not_below a b h = by (key_lt b a) refl
  where
    by : (c : Bool) → key_lt b a ≡ c → key_lt b a ≡ false
    by true is = lt_irreflexive a (lt_trans a b a h is)
    by false is = is

-- no row of the range stands before such a key
none_passed : (range : BytesRange) (key : List ℕ) (rows : List RowEntry) → is_past_start range.start key ≡ false → AllByRecursion (λ r. in_range range r.key ≡ true) rows → NoneBefore Ascending key rows
none_passed range key [] below h = tt
none_passed range key (row ∷ rows) below h = (not_below key row.key (past_start range key row.key below h.0), none_passed range key rows below h.1)

-- and downwards each does
all_passed : (range : BytesRange) (key : List ℕ) (rows : List RowEntry) → is_past_start range.start key ≡ false → AllByRecursion (λ r. in_range range r.key ≡ true) rows → drop_before Descending key rows ≡ []
all_passed range key [] below h = refl
all_passed range key (row ∷ rows) below h = rw (past_start range key row.key below h.0) (all_passed range key rows below h.1)

all_kept : (P : RowEntry → Type 0) (rows : List RowEntry) → AllByRecursion P rows → AllByRecursion P (filter has_value rows)
all_kept P [] h = tt
all_kept P (row ∷ rows) h = by (has_value row) refl (all_kept P rows h.1)
  where
    by : (b : Bool) → has_value row ≡ b → AllByRecursion P (filter has_value rows) → AllByRecursion P (filter has_value (row ∷ rows))
    by true is rest = rw is (h.0, rest)
    by false is rest = rw is rest

values_within : (range : BytesRange) (rows values : List RowEntry) → HasValues range rows values → AllByRecursion (λ r. in_range range r.key ≡ true) values
values_within range rows values h = subst (AllByRecursion (λ r. in_range range r.key ≡ true)) h.left (all_kept (λ r. in_range range r.key ≡ true) rows h.within)

-- ---- states

-- what is known where a call answered
ok_both : {A E Q : Type 0} (P R : A → Type 0) (r : Result A E) → IfOk r P → OnOk r Q → ((a : A) → P a → Q → R a) → IfOk r R
ok_both P R (Ok a) p q f = f a p q
ok_both P R (Err e) p q f = tt

on_both : {A E P Q R : Type 0} (r : Result A E) → OnOk r P → OnOk r Q → (P → Q → R) → OnOk r R
on_both (Ok a) p q f = f p q
on_both (Err e) p q f = tt

abbrev pub Merged : Type 0
Merged = MergeOperatorIterator MergedSources

abbrev pub IsSound : Merged → World → Type 0
IsSound u w = sound_folding merge_rows IsSoundMerged order_of_merge u w

abbrev pub rows_of : Merged → World → List RowEntry
rows_of u w = rest_folding merge_rows u w

-- what a call that answered leaves of the folds
abbrev pub Goes : Merged → Merged → Type 0
Goes u v = IsGoing u × IsGoing v × (v.folding ≡ u.folding)

pub sound_walk : (order : IterationOrder) (w : World) (x : ScanState) (u : Merged) → x ≡ Walking u → IsSoundIn order x w → IsGoing u × FoldsAll u × IsSound u w × (u.iterator.order ≡ order)
sound_walk order w x u is h = subst (λ (s : ScanState). IsSoundIn order s w) is h

pub values_walk : (range : BytesRange) (rows : List RowEntry) (w : World) (x : ScanState) (u : Merged) → x ≡ Walking u → HasValues range (left_in x w) rows → HasValues range (rows_of u w) rows
values_walk range rows w x u is h = subst (λ (s : ScanState). HasValues range (left_in s w) rows) is h

still_folds : (u v : Merged) → v.folding ≡ u.folding → FoldsAll u → FoldsAll v
still_folds u v same h = (ap (λ (f : Folding). f.merge_different_expire_ts) same ∙ h.0, ap (λ (f : Folding). f.snapshot_barrier_seq) same ∙ h.1)

still_sound : (order : IterationOrder) (w : World) (u v : Merged) → v.iterator.order ≡ u.iterator.order → IsGoing u × FoldsAll u × IsSound u w × (u.iterator.order ≡ order) → IsSound v w → Goes u v → IsSoundIn order (Walking v) w
still_sound order w u v same s sound goes = (goes.1, still_folds u v goes.2 s.1, sound, same ∙ s.3)

pub next_walk : (r : Result (Option KeyValue) SlateDBError) (range : BytesRange) (order : IterationOrder) (rows : List RowEntry) (w : World) (x : ScanState) (u v : Merged) → x ≡ Walking u →
    (IsSound u w → HasValues range (rows_of u w) rows → IfOk r (λ a. (a ≡ first_left rows) × HasValues range (rows_of v w) (drop 1 rows))) → (IsSound u w → OnOk r (IsSound v w)) → OnOk r (Goes u v) → v.iterator.order ≡ u.iterator.order →
    IsSoundIn order x w → HasValues range (left_in x w) rows → IfOk r (λ a. (a ≡ first_left rows) × IsSoundIn order (Walking v) w × HasValues range (rows_of v w) (drop 1 rows))
next_walk r range order rows w x u v is values still goes same sound has =
    let s = sound_walk order w x u is sound in
    ok_both (λ a. (a ≡ first_left rows) × HasValues range (rows_of v w) (drop 1 rows)) (λ a. (a ≡ first_left rows) × IsSoundIn order (Walking v) w × HasValues range (rows_of v w) (drop 1 rows))
    r (values s.2 (values_walk range rows w x u is has)) (on_both r (still s.2) goes (λ k g. still_sound order w u v same s k g)) (λ a h k. (h.0, k, h.1))

pub seek_walk : (r : Result (Unit {0}) SlateDBError) (range : BytesRange) (order : IterationOrder) (key : List ℕ) (rows : List RowEntry) (w : World) (x : ScanState) (u v : Merged) → x ≡ Walking u →
    (IsSound u w → HasValues range (rows_of u w) rows → OnOk r (HasValues range (rows_of v w) (drop_before u.iterator.order key rows))) → (IsSound u w → OnOk r (IsSound v w)) → OnOk r (Goes u v) → v.iterator.order ≡ u.iterator.order →
    IsSoundIn order x w → HasValues range (left_in x w) rows → OnOk r (IsSoundIn order (Walking v) w × HasValues range (rows_of v w) (drop_before order key rows))
seek_walk r range order key rows w x u v is values still goes same sound has =
    let s = sound_walk order w x u is sound in
    on_both r (on_both r (still s.2) goes (λ k g. still_sound order w u v same s k g)) (values s.2 (values_walk range rows w x u is has))
    (λ k h. (k, subst (λ (o : IterationOrder). HasValues range (rows_of v w) (drop_before o key rows)) s.3 h))

-- ---- operands

pub operable_in : (u : Merged) (w : World) → FoldsAll u → IsOperableIn (Walking u) w → IsOperable merge_rows u w
operable_in u w folds h = (
  λ none. bases_closed u.folding.snapshot_barrier_seq (with_ahead u.ahead (merge_rows u.iterator w)) (h.0 none),
  subst (λ (d : Bool). NoneRises d u.folding.snapshot_barrier_seq (with_ahead u.ahead (merge_rows u.iterator w))) (sym folds.0)
      (subst (λ (b : Option ℕ). NoneRises true b (with_ahead u.ahead (merge_rows u.iterator w))) (sym folds.1) h.1),
)

pub operable_folds : (u : Merged) (w : World) → FoldsAll u → IsOperable merge_rows u w → IsOperableIn (Walking u) w
operable_folds u w folds h = (
  λ none. closed_bases u.folding.snapshot_barrier_seq (with_ahead u.ahead (merge_rows u.iterator w)) folds.1 (h.0 none),
  subst (λ (d : Bool). NoneRises d None (with_ahead u.ahead (merge_rows u.iterator w))) folds.0
      (subst (λ (b : Option ℕ). NoneRises u.folding.merge_different_expire_ts b (with_ahead u.ahead (merge_rows u.iterator w))) folds.1 h.1),
)

pub operable_walk : {V : Type 0} (r : Result V SlateDBError) (order : IterationOrder) (w : World) (x : ScanState) (u v : Merged) → x ≡ Walking u → (IsSound u w → IsOperable merge_rows u w → OnOk r (IsOperable merge_rows v w)) → OnOk r (Goes u v) →
    IsSoundIn order x w → IsOperableIn x w → OnOk r (IsOperableIn (Walking v) w)
operable_walk r order w x u v is still goes sound op =
    let s = sound_walk order w x u is sound in
    on_both r (still s.2 (operable_in u w s.1 (subst (λ (t : ScanState). IsOperableIn t w) is op))) goes
    (λ k g. operable_folds v w (still_folds u v g.2 s.1) k)

-- ---- refusals

pub undamaged_walk : {V : Type 0} (r : Result V SlateDBError) (range : BytesRange) (at : Option (List ℕ)) (a b : Reach) (w : World) (x : ScanState) (u : Merged) → x ≡ Walking u → IsReached range at → w.meaning ≡ a.meaning → AreForIn range w.meaning x →
    IfErr r (λ e. IsFault a b e ⊎ Made a b (λ reads. merge_refuses u.iterator a.meaning reads at e × ¬ IsDamage e)) → IfErr r (IsFault a b)
undamaged_walk r range at a b w x u is reached same meant h = IfErr-weaker r _ (IsFault a b) by h
  where
    for : AreForIn range a.meaning (Walking u)
    for = subst (λ (m : Meaning). AreForIn range m (Walking u)) same (subst (λ (s : ScanState). AreForIn range w.meaning s) is meant)

    by : (e : SlateDBError) → IsFault a b e ⊎ Made a b (λ reads. merge_refuses u.iterator a.meaning reads at e × ¬ IsDamage e) → IsFault a b e
    by e (inl k) = k
    by e (inr k) = absurd (k.2.1 (for k.0 at e (reached, k.2.0)))

pub sources_walk : {V : Type 0} (r : Result V SlateDBError) (range : BytesRange) (a b : Reach) (x : ScanState) (u v : Merged) → x ≡ Walking u →
    OnOk r (Made a b (λ reads. NoMore (merge_refuses u.iterator a.meaning) reads (merge_refuses v.iterator a.meaning))) → OnOk r (Made a b (λ reads. NoMore (SourcesRefuse range x a.meaning) reads (SourcesRefuse range (Walking v) a.meaning)))
sources_walk r range a b x u v is h = on_ok_weaker r
    (λ k. subst (λ (s : ScanState). Made a b (λ reads. NoMore (SourcesRefuse range s a.meaning) reads (SourcesRefuse range (Walking v) a.meaning))) (sym is) (k.0, k.1, λ later at e f. (f.0, k.2 later at e f.1))) h

-- what a state refuses for that is going
abbrev pub OwnRefusal : BytesRange → Merged → Meaning → List Act → Option (List ℕ) → SlateDBError → Type 0
OwnRefusal range u m reads at e = RefusesFold u m reads at e ⊎ (IsReached range at × merge_refuses u.iterator m reads at e)

abbrev pub Folds : Merged → Meaning → List Act → Option (List ℕ) → SlateDBError → Type 0
Folds u m reads at e = refuses_folding merge_refuses merge_offers u m reads at e

-- what it refuses as an iterator that folds
abbrev FoldsGoing : Merged → Meaning → List Act → Option (List ℕ) → SlateDBError → Type 0
FoldsGoing u m reads at e = merge_refuses u.iterator m reads at e ⊎ RefusesFold u m reads at e

-- no seek meets such a row
pub met_anywhere : (u : Merged) (range : BytesRange) (m : Meaning) (reads : List Act) (at : Option (List ℕ)) (e : SlateDBError) → RefusesFold u m reads at e → IsReached range at
met_anywhere u range m reads at e (inl operand) = subst (IsReached range) (sym operand.refuses.0) tt
met_anywhere u range m reads at e (inr rise) = subst (IsReached range) (sym rise.refuses.0) tt

own_of : (range : BytesRange) (u : Merged) (m : Meaning) (reads : List Act) (at : Option (List ℕ)) (e : SlateDBError) → IsReached range at → FoldsGoing u m reads at e → OwnRefusal range u m reads at e
own_of range u m reads at e reached (inl k) = inr (reached, k)
own_of range u m reads at e reached (inr k) = inl k

pub later_walk : {V : Type 0} (r : Result V SlateDBError) (range : BytesRange) (a b : Reach) (x : ScanState) (u v : Merged) → x ≡ Walking u → OnOk r (Goes u v) →
    OnOk r (Made a b (λ reads. NoMore (Folds u a.meaning) reads (Folds v a.meaning))) → OnOk r (Made a b (λ reads. NoMore (RefusesIn range x a.meaning) reads (RefusesIn range (Walking v) a.meaning)))
later_walk r range a b x u v is goes h = on_both r goes h
    (λ g k. subst (λ (s : ScanState). Made a b (λ reads. NoMore (RefusesIn range s a.meaning) reads (RefusesIn range (Walking v) a.meaning))) (sym is) (k.0, k.1, λ later at e f. by g k.0 k.2 later at e f))
  where
    back : Goes u v → (reads : List Act) → NoMore (Folds u a.meaning) reads (Folds v a.meaning) → (later : List Act) (at : Option (List ℕ)) (e : SlateDBError) → FoldsGoing v a.meaning later at e → FoldsGoing u a.meaning (reads ++ later) at e
    back g reads less later at e f = refuses_going (FoldsGoing u a.meaning (reads ++ later) at) u e g.0 (less later at e (going_refuses (FoldsGoing v a.meaning later at) v e g.1 f))

    own : Goes u v → (reads : List Act) → NoMore (Folds u a.meaning) reads (Folds v a.meaning) → (later : List Act) (at : Option (List ℕ)) (e : SlateDBError) → OwnRefusal range v a.meaning later at e → OwnRefusal range u a.meaning (reads ++ later) at e
    own g reads less later at e (inl f) = own_of range u a.meaning (reads ++ later) at e (met_anywhere v range a.meaning later at e f) (back g reads less later at e (inr f))
    own g reads less later at e (inr f) = own_of range u a.meaning (reads ++ later) at e f.0 (back g reads less later at e (inl f.1))

    by : Goes u v → (reads : List Act) → NoMore (Folds u a.meaning) reads (Folds v a.meaning) → NoMore (RefusesIn range (Walking u) a.meaning) reads (RefusesIn range (Walking v) a.meaning)
    by g reads less later at e f = going_refuses (OwnRefusal range u a.meaning (reads ++ later) at) u e g.0 (own g reads less later at e (refuses_going (OwnRefusal range v a.meaning later at) v e g.1 f))

pub hands_walk : {V : Type 0} (r : Result V SlateDBError) (a b : Reach) (x : ScanState) (u v : Merged) → x ≡ Walking u → OnOk r (Goes u v) →
    OnOk r (Made a b (λ reads. NoMoreRows (merge_offers u.ahead u.iterator a.meaning) reads (merge_offers v.ahead v.iterator a.meaning))) → OnOk r (Made a b (λ reads. NoMoreRows (HandsIn x a.meaning) reads (HandsIn (Walking v) a.meaning)))
hands_walk r a b x u v is goes h = on_both r goes h
    (λ g k. subst (λ (s : ScanState). Made a b (λ reads. NoMoreRows (HandsIn s a.meaning) reads (HandsIn (Walking v) a.meaning))) (sym is) (k.0, k.1, λ later value q. by g k.0 k.2 later value q))
  where
    by : Goes u v → (reads : List Act) → NoMoreRows (merge_offers u.ahead u.iterator a.meaning) reads (merge_offers v.ahead v.iterator a.meaning) → NoMoreRows (HandsIn (Walking u) a.meaning) reads (HandsIn (Walking v) a.meaning)
    by g reads less later value q = record { row = q.row; closed = subst (λ (f : Folding). is_open f.snapshot_barrier_seq q.row ≡ false) g.2 q.closed; value = q.value; brought = less later (Comes q.row) q.brought }

pub bases_walk : (r : Result (Option KeyValue) SlateDBError) (a b : Reach) (x : ScanState) (u : Merged) → x ≡ Walking u → IfOk r (λ answer. Made a b (λ reads. IfSome answer (HandsIn (Walking u) a.meaning reads))) →
    IfOk r (λ answer. Made a b (λ reads. IfSome answer (HandsIn x a.meaning reads)))
bases_walk r a b x u is h = subst (λ (s : ScanState). IfOk r (λ answer. Made a b (λ reads. IfSome answer (HandsIn s a.meaning reads)))) (sym is) h

pub cause_walk : {V : Type 0} (r : Result V SlateDBError) (range : BytesRange) (at : Option (List ℕ)) (a b : Reach) (x : ScanState) (u : Merged) → x ≡ Walking u → IsReached range at →
    IfErr r (λ e. Made a b (λ reads. IsFault a b e ⊎ Folds u a.meaning reads at e)) → IfErr r (λ e. Made a b (λ reads. IsFault a b e ⊎ RefusesIn range x a.meaning reads at e))
cause_walk r range at a b x u is reached h = IfErr-weaker r _ _
    (λ e k. subst (λ (s : ScanState). Made a b (λ reads. IsFault a b e ⊎ RefusesIn range s a.meaning reads at e)) (sym is) (k.0, k.1, by e k.0 k.2)) h
  where
    by : (e : SlateDBError) (reads : List Act) → IsFault a b e ⊎ Folds u a.meaning reads at e → IsFault a b e ⊎ RefusesIn range (Walking u) a.meaning reads at e
    by e reads (inl k) = inl k
    by e reads (inr k) = inr (refuses_weaker (FoldsGoing u a.meaning reads at) (OwnRefusal range u a.meaning reads at) u.refusal u.begun e (own_of range u a.meaning reads at e reached) k)

pub checked_walk : {V : Type 0} (r : Result V SlateDBError) (order : IterationOrder) (w : World) (a b : Reach) (x : ScanState) (u : Merged) (Q : Type 0) → x ≡ Walking u → (IsSound u w → OnOk r Q) → IsSoundIn order x w → OnOk r Q
checked_walk r order w a b x u Q is h sound = h (sound_walk order w x u is sound).2

pub within_walk : (paths : List (List ℕ)) (a b : Reach) (x : ScanState) (u v : Merged) → x ≡ Walking u → (IsMergeWithin u.iterator paths → ReadsAt paths a b × IsMergeWithin v.iterator paths) → IsWithinIn x paths → ReadsAt paths a b × IsWithinIn (Walking v) paths
within_walk paths a b x u v is step h = step (subst (λ (s : ScanState). IsWithinIn s paths) is h)

-- no row is left
pub none_left : (range : BytesRange) (order : IterationOrder) (rows : List RowEntry) (w : World) (x y : ScanState) → x ≡ Done → y ≡ Done → HasValues range (left_in x w) rows → (None ≡ first_left rows) × IsSoundIn order y w × HasValues range (left_in y w) (drop 1 rows)
none_left range order rows w x y is too has =
    let k = has_none range (left_in x w) (left_in y w) rows (ap (λ (s : ScanState). left_in s w) is) (ap (λ (s : ScanState). left_in s w) too) has in
    (k.0, subst (λ (s : ScanState). IsSoundIn order s w) (sym too) tt, k.1)

pub none_sought : (range : BytesRange) (order : IterationOrder) (key : List ℕ) (rows : List RowEntry) (w : World) (x y : ScanState) → x ≡ Done → y ≡ Done → HasValues range (left_in x w) rows → IsSoundIn order y w × HasValues range (left_in y w) (drop_before order key rows)
none_sought range order key rows w x y is too has = (
  subst (λ (s : ScanState). IsSoundIn order s w) (sym too) tt,
  subst (λ (s : ScanState). HasValues range (left_in s w) (drop_before order key rows)) (sym too)
      (record { within = tt; left = ap (drop_before order key) (subst (λ (s : ScanState). HasValues range (left_in s w) rows) is has).left }),
)

-- it was refused
pub never_sound : {Q : Type 0} (order : IterationOrder) (w : World) (x : ScanState) (k : SlateDBError) → x ≡ Refused k → IsSoundIn order x w → Q
never_sound order w x k is h = absurd (subst (λ (s : ScanState). IsSoundIn order s w) is h)

pub refused_again : (range : BytesRange) (at : Option (List ℕ)) (a : Reach) (x : ScanState) (k e : SlateDBError) → x ≡ Refused k → Copies k e → Made a a (λ reads. IsFault a a e ⊎ RefusesIn range x a.meaning reads at e)
refused_again range at a x k e is copies = subst (λ (s : ScanState). Made a a (λ reads. IsFault a a e ⊎ RefusesIn range s a.meaning reads at e)) (sym is) ([], call_none a, kept_again a.faults a.faults k e copies)

-- it answers again what it kept
kept_in : SlateDBError → ScanState → SlateDBError
kept_in d (Walking rows) = d
kept_in d Done = d
kept_in d (Refused k) = k

pub kept_answer : {V : Type 0} (r : Result V SlateDBError) (x : ScanState) (k l e : SlateDBError) → r ≡ Err e → x ≡ Refused k → Copies k e → x ≡ Refused l → AnswersAgain l r
unfolding kept_in
kept_answer r x k l e answer is (inl copy) kept = inl (answer ∙ ap Err (copy ∙ ap (kept_in k) (sym is ∙ kept)))
kept_answer r x k l e answer is (inr memory) kept = inr (answer ∙ ap Err memory)

-- what has answered was not refused
pub answered_once : {V Q : Type 0} (a : V) (k : SlateDBError) → AnswersAgain k (Ok a) → Q
answered_once a k (inl clash) = cc
answered_once a k (inr clash) = cc

-- it reads nothing more
pub keeps_within : (e : SlateDBError) (it : DbIterator) (paths : List (List ℕ)) → Keeps e it → IsScanWithin it paths
keeps_within e it paths (inl is) = subst (λ (s : ScanState). IsWithinIn s paths) (sym is) tt
keeps_within e it paths (inr is) = subst (λ (s : ScanState). IsWithinIn s paths) (sym is) tt

-- ---- what is left of an iterator

pub values_of : (it : DbIterator) (w : World) (rows : List RowEntry) → Leaves it w rows → HasValues it.range (left_in it.state w) rows
values_of it w rows h = record { within = h.within; left = h.left }

-- its sources refuse for no more than they did
pub still_for : (range : BytesRange) (m : Meaning) (reads : List Act) (x y : ScanState) → NoMore (SourcesRefuse range x m) reads (SourcesRefuse range y m) → AreForIn range m x → AreForIn range m y
still_for range m reads x y less h later at e f = h (reads ++ later) at e (less later at e f)

pub leaves_of : (before it : DbIterator) (w : World) (a b : Reach) (rows : List RowEntry) → it.range ≡ before.range → it.order ≡ before.order → w.meaning ≡ a.meaning → IsSoundIn before.order it.state w → HasValues before.range (left_in it.state w) rows → IsOperableIn it.state w →
    Made a b (λ reads. NoMore (SourcesRefuse before.range before.state a.meaning) reads (SourcesRefuse before.range it.state a.meaning)) → AreForIn before.range w.meaning before.state → Leaves it w rows
leaves_of before it w a b rows range order same sound has op made meant = record {
  sound = subst (λ (o : IterationOrder). IsSoundIn o it.state w) (sym order) sound;
  operable = op;
  within = subst (λ (r : BytesRange). AllByRecursion (λ row. in_range r row.key ≡ true) (left_in it.state w)) (sym range) has.within;
  left = has.left;
  meant = subst (λ (r : BytesRange). AreForIn r w.meaning it.state) (sym range)
      (subst (λ (m : Meaning). AreForIn before.range m it.state) (sym same) (still_for before.range a.meaning made.0 before.state it.state made.2 (subst (λ (m : Meaning). AreForIn before.range m before.state) same meant)));
}

pub next_leaves : (r : Result (Option KeyValue) SlateDBError) (before it : DbIterator) (w : World) (a b : Reach) (rows : List RowEntry) → it.range ≡ before.range → it.order ≡ before.order → w.meaning ≡ a.meaning →
    IfOk r (λ x. (x ≡ first_left rows) × IsSoundIn before.order it.state w × HasValues before.range (left_in it.state w) (drop 1 rows)) → OnOk r (IsOperableIn it.state w) → OnOk r (Made a b (λ reads. NoMore (SourcesRefuse before.range before.state a.meaning) reads (SourcesRefuse before.range it.state a.meaning))) →
    AreForIn before.range w.meaning before.state → IfOk r (λ x. (x ≡ first_left rows) × Leaves it w (drop 1 rows))
next_leaves r before it w a b rows range order same h op made meant =
    let both : OnOk r (IsOperableIn it.state w × Made a b (λ reads. NoMore (SourcesRefuse before.range before.state a.meaning) reads (SourcesRefuse before.range it.state a.meaning))) = on_both r op made (λ o m. (o, m)) in
    ok_both _ _ r h both (λ x k m. (k.0, leaves_of before it w a b (drop 1 rows) range order same k.1 k.2 m.0 m.1 meant))

pub seek_leaves : (r : Result (Unit {0}) SlateDBError) (before it : DbIterator) (w : World) (a b : Reach) (rows : List RowEntry) → it.range ≡ before.range → it.order ≡ before.order → w.meaning ≡ a.meaning →
    OnOk r (IsSoundIn before.order it.state w × HasValues before.range (left_in it.state w) rows) → OnOk r (IsOperableIn it.state w) → OnOk r (Made a b (λ reads. NoMore (SourcesRefuse before.range before.state a.meaning) reads (SourcesRefuse before.range it.state a.meaning))) →
    AreForIn before.range w.meaning before.state → OnOk r (Leaves it w rows)
seek_leaves r before it w a b rows range order same h op made meant =
    let both : OnOk r (IsOperableIn it.state w × Made a b (λ reads. NoMore (SourcesRefuse before.range before.state a.meaning) reads (SourcesRefuse before.range it.state a.meaning))) = on_both r op made (λ o m. (o, m)) in
    on_both r h both (λ k m. leaves_of before it w a b rows range order same k.0 k.1 m.0 m.1 meant)

-- a seek to a key below the start of the range
pub start_leaves : (it after : DbIterator) (key : List ℕ) (w : World) (rows : List RowEntry) → is_past_start it.range.start key ≡ false → (it.order ≡ Ascending → after ≡ it) → (it.order ≡ Descending → after ≡ record it { state = Done }) → Leaves it w rows →
    Leaves after w (drop_before it.order key rows)
start_leaves it after key w rows below none all h = by it.order refl
  where
    within : AllByRecursion (λ r. in_range it.range r.key ≡ true) rows
    within = values_within it.range (left_in it.state w) rows (values_of it w rows h)

    by : (o : IterationOrder) → it.order ≡ o → Leaves after w (drop_before it.order key rows)
    by Ascending is = subst (λ (d : DbIterator). Leaves d w (drop_before it.order key rows)) (sym (none is))
        (subst (λ (l : List RowEntry). Leaves it w l) (sym (ap (λ (o : IterationOrder). drop_before o key rows) is ∙ drop_before_none Ascending key rows (none_passed it.range key rows below within))) h)
    by Descending is = subst (λ (d : DbIterator). Leaves d w (drop_before it.order key rows)) (sym (all is))
        (record { sound = tt; operable = (λ none. tt, tt); within = tt; left = sym (ap (λ (o : IterationOrder). drop_before o key rows) is ∙ all_passed it.range key rows below within); meant = λ reads at e f. absurd f })

pub start_later : (it after : DbIterator) (m : Meaning) → (it.order ≡ Ascending → after ≡ it) → (it.order ≡ Descending → after ≡ record it { state = Done }) →
    NoMore (RefusesIn it.range it.state m) [] (RefusesIn after.range after.state m)
start_later it after m none all later at e h = by it.order refl
  where
    by : (o : IterationOrder) → it.order ≡ o → RefusesIn it.range it.state m later at e
    by Ascending is = subst (λ (d : DbIterator). RefusesIn d.range d.state m later at e) (none is) h
    by Descending is = absurd (subst (λ (d : DbIterator). RefusesIn d.range d.state m later at e) (all is) h)

pub start_hands : (it after : DbIterator) (m : Meaning) → (it.order ≡ Ascending → after ≡ it) → (it.order ≡ Descending → after ≡ record it { state = Done }) → NoMoreRows (ScanHands it m) [] (ScanHands after m)
start_hands it after m none all later a h = by it.order refl
  where
    by : (o : IterationOrder) → it.order ≡ o → ScanHands it m later a
    by Ascending is = subst (λ (d : DbIterator). ScanHands d m later a) (none is) h
    by Descending is = absurd (subst (λ (d : DbIterator). ScanHands d m later a) (all is) h)

pub start_within : (it after : DbIterator) (paths : List (List ℕ)) → (it.order ≡ Ascending → after ≡ it) → (it.order ≡ Descending → after ≡ record it { state = Done }) → IsScanWithin it paths → IsScanWithin after paths
start_within it after paths none all h = by it.order refl
  where
    by : (o : IterationOrder) → it.order ≡ o → IsScanWithin after paths
    by Ascending is = subst (λ (d : DbIterator). IsScanWithin d paths) (sym (none is)) h
    by Descending is = subst (λ (d : DbIterator). IsScanWithin d paths) (sym (all is)) tt

pub start_range : {Q : Type 0} (read : DbIterator → Q) (it after : DbIterator) → ((s : ScanState) → read (record it { state = s }) ≡ read it) → (it.order ≡ Ascending → after ≡ it) → (it.order ≡ Descending → after ≡ record it { state = Done }) → read after ≡ read it
start_range read it after same none all = by it.order refl
  where
    by : (o : IterationOrder) → it.order ≡ o → read after ≡ read it
    by Ascending is = ap read (none is)
    by Descending is = ap read (all is) ∙ same Done
