-- What calls over tables that are read don't refuse.
use Rattle.std.proofs.Common.{◌≡◌, ◌⊎◌, inl, inr, ℕ, List, ◌∷◌, [], ◌++◌, Option, Some, None, refl, sym, ap, subst, ◌∙◌}
use Rattle.std.specs.Prelude.{Result, Ok, Err, IfErr, IfOk, is_some}
use Rattle.std.specs.List.{AllByRecursion}
use Rattle.slate_types.specs.declared.error.SlateDBError.{SlateDBError}
use Rattle.slate_types.specs.declared.bytes_range.BytesRange.{BytesRange}
use Rattle.slate_types.specs.declared.iter.IterationOrder.{IterationOrder}
use Rattle.slate_types.specs.declared.types.RowEntry.{RowEntry}
use Rattle.slate_types.specs.Fold.{operator_at}
use Rattle.slate_types.specs.Outside.{Act, IsFault, Meaning, Objects, OnlyReads, Reach}
use Rattle.slate_types.specs.Refusing.{IsDamage}
use Rattle.slate_types.specs.World.{AnswersWorld, HoldsWorld, Made, Sees, World}
use Rattle.slate_types.proofs.Calls.{call_both, seen}
use Rattle.slate_types.proofs.Reaching.{fault_earlier}
use Rattle.slate_table.specs.declared.info.SsTableHandle.{SsTableHandle}
use Rattle.slate_read.proofs.Walks.{outer_undamaged}
use Rattle.slate_tables.specs.declared.export.Form.{Form}
use Rattle.slate_tables.specs.declared.export.Written.{Written}
use Rattle.slate_tables.specs.Exported.{IsExport}
use Rattle.slate_tables.specs.Merging.{Export}
use Rattle.slate_tables.specs.Opened.{IsWorldHolding}
use Rattle.slate_tables.specs.States.{IsUnwrittenPart, IsUnwrittenState, WritesPart}
use Rattle.slate_tables.specs.Writing.{IsUnwritten, WritesRows}
use Rattle.slate_tables.specs.Reading.{ExportRefusal, IsRefusedRead, RefusesNew}

pub undamaged : {A : Type 0} (sound : A → World → Type 0) (refuses : A → Meaning → List Act → Option (List ℕ) → SlateDBError → Type 0) →
    ((x : A) (w : World) (reads : List Act) (at : Option (List ℕ)) (e : SlateDBError) → sound x w → AllByRecursion (AnswersWorld w) reads → refuses x w.meaning reads at e → ¬ IsDamage e) →
    (x : A) (w : World) (a b : Reach) (e : SlateDBError) → Sees w a b → sound x w → Made a b (λ reads. IsFault a b e ⊎ refuses x a.meaning reads None e) → ¬ IsDamage e
undamaged sound refuses whole x w a b e sees h made = by made.2
  where
    by : IsFault a b e ⊎ refuses x a.meaning made.0 None e → ¬ IsDamage e
    by (inl f) = outer_undamaged a.faults b.faults e f
    by (inr r) = whole x w made.0 None e h (seen w a b made.0 sees made.1) (subst (λ (m : Meaning). refuses x m made.0 None e) (sym sees.meaning) r)

pub ok_weaker : {A E : Type 0} (r : Result A E) (P Q : A → Type 0) → ((x : A) → P x → Q x) → IfOk r P → IfOk r Q
ok_weaker (Ok x) P Q f h = f x h
ok_weaker (Err e) P Q f h = tt

-- ---- two calls, one after the other

-- over a store that tells its objects, each call meets their world
pub meets : (os : Objects) (w : World) (a b : Reach) → a.objects ≡ Some os → IsWorldHolding os a.meaning w → Sees w a b
meets os w a b told is = record { meaning = is.meaning; met = inl (record { os = os; tells = told; holds = is.holds }) }

pub meets_later : (os : Objects) (w : World) (a b c : Reach) → OnlyReads a b → a.objects ≡ Some os → IsWorldHolding os a.meaning w → Sees w b c
meets_later os w a b c first told is = record { meaning = is.meaning ∙ sym first.meaning; met = inl (record { os = os; tells = first.objects ∙ told; holds = is.holds }) }

-- what the second refuses, a new export refuses by the reads of both
pub refused_then : (refuses : ExportRefusal) (handles : List SsTableHandle) (range : BytesRange) (order : IterationOrder) (it : Export) (a b c : Reach) (e : SlateDBError) → OnlyReads a b →
    Made a b (λ reads. (more : List Act) (at : Option (List ℕ)) (d : SlateDBError) → refuses it a.meaning more at d → RefusesNew refuses handles range order a.meaning (reads ++ more) at d) →
    Made b c (λ reads. IsFault b c e ⊎ refuses it b.meaning reads None e) → IsRefusedRead refuses handles range order a c e
refused_then refuses handles range order it a b c e first later second = (later.0 ++ second.0, call_both a b c later.0 second.0 later.1 second.1, by second.2)
  where
    by : IsFault b c e ⊎ refuses it b.meaning second.0 None e → IsFault a c e ⊎ RefusesNew refuses handles range order a.meaning (later.0 ++ second.0) None e
    by (inl f) = inl (fault_earlier a b c e first.later f)
    by (inr r) = inr (later.2 second.0 None e (subst (λ (m : Meaning). refuses it m second.0 None e) first.meaning r))

-- and so does a state that isn't written
pub unwritten_then : (refuses : ExportRefusal) (handles : List SsTableHandle) (range : BytesRange) (order : IterationOrder) (form : Form) (it : Export) (a b c : Reach) (i j : ℕ) (r : Result Written SlateDBError) → OnlyReads a b →
    Made a b (λ reads. (more : List Act) (at : Option (List ℕ)) (d : SlateDBError) → refuses it a.meaning more at d → RefusesNew refuses handles range order a.meaning (reads ++ more) at d) →
    IfErr r (λ e. IsUnwritten form i j e ⊎ Made b c (λ reads. IsFault b c e ⊎ refuses it b.meaning reads None e)) → IfErr r (IsUnwrittenPart form refuses handles range order i j a c)
unwritten_then refuses handles range order form it a b c i j (Ok t) first later h = tt
unwritten_then refuses handles range order form it a b c i j (Err e) first later (inl u) = inl u
unwritten_then refuses handles range order form it a b c i j (Err e) first later (inr made) = inr (refused_then refuses handles range order it a b c e first later made)

-- faults that were counted before the first call that failed
pub unwritten_earlier : (refuses : ExportRefusal) (handles : List SsTableHandle) (form : Form) (a b : Reach) (i j k : ℕ) (e : SlateDBError) → j ≡ i → IsUnwrittenState form refuses handles j k a b e → IsUnwrittenState form refuses handles i k a b e
unwritten_earlier refuses handles form a b i j k e same (inl u) = inl (subst (λ (n : ℕ). IsUnwritten form n k e) same u)
unwritten_earlier refuses handles form a b i j k e same (inr r) = inr r

-- ---- what is written

pub written_here : (form : Form) (order : IterationOrder) (m : Meaning) (w : World) (b : Reach) (range : BytesRange) (rows out : List RowEntry) (before : List ℕ) (after : Option (List ℕ)) (t : Written) → w.meaning ≡ m → b.meaning ≡ m →
    IsExport (operator_at w.meaning.combine) order range rows out → WritesRows form (is_some b.meaning.combine) out before after t → WritesPart form m order range rows before after t
written_here form order m w b range rows out before after t same later is h = (
  out,
  subst (λ (p : Meaning). IsExport (operator_at p.combine) order range rows out) same is,
  subst (λ (p : Meaning). WritesRows form (is_some p.combine) out before after t) later h,
)

pub err_weaker : {A E : Type 0} (r : Result A E) (P Q : E → Type 0) → ((e : E) → P e → Q e) → IfErr r P → IfErr r Q
err_weaker (Ok x) P Q f h = tt
err_weaker (Err e) P Q f h = f e h
