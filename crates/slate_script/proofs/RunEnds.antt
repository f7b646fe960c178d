-- How a run ends: at an error of the reader, at a line that isn't answered, and at the end of the script.
use Rattle.std.proofs.Common.{◌≡◌, ℕ, ◌+◌, ◌≤◌, ◌<◌, true, false, ◌⊎◌, inl, inr, Ok, Err, List, [], ◌∷◌, ◌++◌, length, take, drop, Option, Some, None, IsTrue, refl, sym, ap, subst, ◌∙◌, arith, append_assoc}
use Rattle.std.proofs.lemmas.List.{append-nil, length-append, take-append-drop, length-drop}
use Rattle.std.proofs.Math.Seq.{drop-append_seam}
use Rattle.slate_types.specs.declared.error.SlateDBError.{SlateDBError}
use Rattle.slate_types.specs.declared.error.SlateDBError.TheVariants.{ScriptSyntax, ScriptTooLong, OutOfMemory, ReadFault, WriteFault, StoreFault, Callback, BlockTransformError}
use Rattle.slate_types.specs.Outside.{Counts, IsCounted, IsLater}
use Rattle.slate_types.specs.Faults.{Rose}
use Rattle.slate_store.specs.Lines.{lines_of, whole_part, script_limit, HasNoEnd, LinesModel, IsEnd, KeepsAll}
use Rattle.slate_store.proofs.LineLaws.{partial_line_is_not_whole}
use Rattle.slate_txn.specs.State.{Rules, opening}
use Rattle.slate_language.specs.declared.tally.Tally.{Tally}
use Rattle.slate_language.specs.Replies.{after_lines, replies_from, replies_to, replies, IsWellFormed}
use Rattle.slate_db.specs.Parts.{IsTableError}
use Rattle.slate_db.specs.Load.{weight}
use Rattle.slate_script.specs.Session.{SessionModel, IsLimit, IsFull, held_load}
use Rattle.slate_script.specs.Run.{is_line, first_other, is_too_long, lines_taken, error_of, script_error, IsPartError, IsPartCause, IsOutside, IsScriptError, AreLines, HasAnswered, HasBegun, HasAnsweredAll}
use Rattle.slate_script.proofs.Answered.{lines_more, replies_append, replies_stop, other_none, other_first, lines_formed}
use Rattle.slate_script.proofs.Taken.{IsCut, IsAt, Took, taken_first, lines_begin, ends, first_empty, too_long, lines_no_error, formed_no_error}

-- ---- which errors

pub is_no_error : {V : Type 0} {v : V} {e : SlateDBError} → Ok v ≡ Err e → ⊥
is_no_error h = cc

pub unless_error : {T P : Type 0} (x : T) (e : SlateDBError) → (Ok x ≡ Err e) ⊎ P → P
unless_error x e (inl is) = absurd (is_no_error is)
unless_error x e (inr is) = is

some_error : (e f : SlateDBError) → Some f ≡ Some e → e ≡ f
some_error e f h = cc

error_kinds : (o : Option ℕ) (long : _) (e : SlateDBError) → error_of o long ≡ Some e → IsOutside e → ⊥
error_kinds None true e h (inl is) = cc
error_kinds None true e h (inr (inl is)) = cc
error_kinds None true e h (inr (inr (inl is))) = cc
error_kinds None true e h (inr (inr (inr is))) = subst IsPartError (some_error e ScriptTooLong h) is
error_kinds None false e h is = cc
error_kinds (Some n) long e h (inl is) = cc
error_kinds (Some n) long e h (inr (inl is)) = cc
error_kinds (Some n) long e h (inr (inr (inl is))) = cc
error_kinds (Some n) long e h (inr (inr (inr is))) = subst IsPartError (some_error e (ScriptSyntax n) h) is

pub no_outside : (script : List ℕ) (e : SlateDBError) → script_error script ≡ Some e → IsOutside e → ⊥
no_outside script e = error_kinds (first_other (lines_taken script)) (is_too_long script) e

pub complete_from : (script : List ℕ) (e : SlateDBError) → IsOutside e ⊎ (script_error script ≡ Some e) → IsWellFormed script → (e ≡ ReadFault → ⊥) → (e ≡ WriteFault → ⊥) → (e ≡ OutOfMemory) ⊎ IsPartError e
complete_from script e (inl (inl is)) formed no-read no-write = inl is
complete_from script e (inl (inr (inl is))) formed no-read no-write = absurd (no-read is)
complete_from script e (inl (inr (inr (inl is)))) formed no-read no-write = absurd (no-write is)
complete_from script e (inl (inr (inr (inr is)))) formed no-read no-write = inr is
complete_from script e (inr is) formed no-read no-write = absurd (some (sym (formed_no_error script formed) ∙ is))
  where
    some : None ≡ Some e → ⊥
    some h = cc

-- ---- the parts

outer_none : (before after : Counts) (e : SlateDBError) → (Rose before.store after.store → ⊥) → (Rose before.operator after.operator → ⊥) → (Rose before.transformer after.transformer → ⊥) → IsPartError e → IsCounted before after e → ⊥
outer_none before after StoreFault store operator transformer part h = store h
outer_none before after (Callback message) store operator transformer part h = operator h
outer_none before after BlockTransformError store operator transformer part h = transformer h
outer_none before after OutOfMemory store operator transformer part h = part
outer_none before after e store operator transformer part h = h

-- where no count rose, damage is the one error of a part
pub no_part : (before after : Counts) (e : SlateDBError) → (Rose before.store after.store → ⊥) → (Rose before.operator after.operator → ⊥) → (Rose before.transformer after.transformer → ⊥) → (IsTableError e → ⊥) →
    IsPartError e → IsPartCause before after e → ⊥
no_part before after e store operator transformer undamaged part (inl h) = outer_none before after e store operator transformer part h
no_part before after e store operator transformer undamaged part (inr h) = undamaged h

pub store_rose : (before after : Counts) (e : SlateDBError) → e ≡ StoreFault → IsPartCause before after e → Rose before.store after.store
store_rose before after e is (inl h) = subst (IsCounted before after) is h
store_rose before after e is (inr h) = absurd (subst IsTableError is h)

pub operator_rose : (before after : Counts) (e : SlateDBError) (message : List ℕ) → e ≡ Callback message → IsPartCause before after e → Rose before.operator after.operator
operator_rose before after e message is (inl h) = subst (IsCounted before after) is h
operator_rose before after e message is (inr h) = absurd (subst IsTableError is h)

pub transformer_rose : (before after : Counts) (e : SlateDBError) → e ≡ BlockTransformError → IsPartCause before after e → Rose before.transformer after.transformer
transformer_rose before after e is (inl h) = subst (IsCounted before after) is h
transformer_rose before after e is (inr h) = absurd (subst IsTableError is h)

pub only_memory : (e : SlateDBError) → (e ≡ OutOfMemory) ⊎ IsPartError e → (IsPartError e → ⊥) → e ≡ OutOfMemory
only_memory e (inl is) none = is
only_memory e (inr part) none = absurd (none part)

-- ---- no limit is reached

not_full : (e : SessionModel) (number given : ℕ) → weight e.core ≤ number + number → held_load e ≤ given → number ≤ given → given ≤ script_limit → IsFull e → ⊥
not_full e number given weighs loads counted within (inl past) = omega (arith, past, weighs, counted, within)
not_full e number given weighs loads counted within (inr past) = omega (arith, past, loads, within)

pub line_cause : {A B C D : Type 0} (e : SessionModel) (number given : ℕ) (error : SlateDBError) → weight e.core ≤ number + number → held_load e ≤ given → number ≤ given → given ≤ script_limit → A ⊎ B ⊎ C ⊎ D ⊎ IsLimit e error → A ⊎ B ⊎ C ⊎ D
line_cause e number given error weighs loads counted within (inl a) = inl a
line_cause e number given error weighs loads counted within (inr (inl b)) = inr (inl b)
line_cause e number given error weighs loads counted within (inr (inr (inl x))) = inr (inr (inl x))
line_cause e number given error weighs loads counted within (inr (inr (inr (inl d)))) = inr (inr (inr d))
line_cause e number given error weighs loads counted within (inr (inr (inr (inr limit)))) = absurd (not_full e number given weighs loads counted within limit.2)

pub later_on : {a b c : Counts} → IsLater a b → IsLater b c → IsLater a c
later_on h k = record { store = omega (arith, h.store, k.store); operator = omega (arith, h.operator, k.operator); transformer = omega (arith, h.transformer, k.transformer) }

pub never_less : (a : Counts) → IsLater a a
never_less a = record { store = omega arith; operator = omega arith; transformer = omega arith }

-- a count that rose later rose
pub rose_from : (a b n : ℕ) → a ≤ b → Rose b n → Rose a n
rose_from a b n h k = omega arith

-- ---- at an error of the reader

abbrev pub ReaderError : SlateDBError → Type 0
ReaderError e = (e ≡ OutOfMemory) ⊎ (e ≡ ReadFault) ⊎ (e ≡ ScriptTooLong)

abbrev pub IsAtLimit : LinesModel → Type 0
IsAtLimit m = (m.given + length m.held ≡ script_limit) × HasNoEnd m.held

pub reader_error : {P : Type 0} {r : Rules} {script : List ℕ} {source told sink : Option (List ℕ)} {first tally : Tally} {old : LinesModel} {number : ℕ} {e : SessionModel} (new : LinesModel) (rest : List ℕ) (error : SlateDBError) (at : IsAt P r script source told sink first tally old number e)
    → KeepsAll old at.left new rest → (error ≡ ScriptTooLong → IsAtLimit new) → ReaderError error → IsOutside error ⊎ (script_error script ≡ Some error)
reader_error new rest error at keeps full (inl is) = inl (inl is)
reader_error new rest error at keeps full (inr (inl is)) = inl (inr (inl is))
reader_error {script = script} {old = old} new rest error at keeps full (inr (inr is)) =
    let end = full is in
    let long = too_long script at.done at.left rest old new at.stands at.given keeps end.0 end.1 in
    inr ((λ i. error_of (first_other (long.1 i)) (long.0 i)) ∙ ap (λ o. error_of o true) (other_none (lines_of at.done) at.meant) ∙ ap Some (sym is))

pub reader_script : {P : Type 0} {r : Rules} {script : List ℕ} {source told sink : Option (List ℕ)} {first tally : Tally} {old : LinesModel} {number : ℕ} {e : SessionModel} (new : LinesModel) (rest before : List ℕ) (error : SlateDBError) (at : IsAt P r script source told sink first tally old number e)
    → KeepsAll old at.left new rest → (error ≡ ScriptTooLong → IsAtLimit new) → ReaderError error → P → told ≡ Some before → script_error script ≡ Some error → sink ≡ Some (before ++ replies_to r (lines_taken script))
reader_script {script = script} new rest before error at keeps full (inl is) p told-is by = absurd (no_outside script error by (inl is))
reader_script {script = script} new rest before error at keeps full (inr (inl is)) p told-is by = absurd (no_outside script error by (inr (inl is)))
reader_script {r = r} {script = script} {old = old} new rest before error at keeps full (inr (inr is)) p told-is by =
    let end = full is in
    let long = too_long script at.done at.left rest old new at.stands at.given keeps end.0 end.1 in
    at.said p before told-is ∙ ap (λ ls. Some (before ++ replies_to r ls)) (sym long.1)

pub reader_source : {P : Type 0} {r : Rules} {script : List ℕ} {source told sink : Option (List ℕ)} {first tally : Tally} {old : LinesModel} {number : ℕ} {e : SessionModel} (new : LinesModel) (rest : List ℕ) (at : IsAt P r script source told sink first tally old number e)
    → KeepsAll old at.left new rest → HasNoEnd new.held → HasAnsweredAll r script rest (replies_to r (lines_of at.done))
reader_source {r = r} {script = script} {old = old} new rest at keeps none = record {
  given = at.done ++ new.held;
  split = at.stands.split ∙ ap (λ bs. at.done ++ bs) (sym keeps.bytes) ∙ sym (append_assoc at.done new.held rest);
  done = at.done;
  whole = by at.stands.whole;
  meant = at.meant;
  all = refl;
}
  where
    by : IsCut at.done ⊎ ((old.held ++ at.left ≡ []) × (length at.done < script_limit)) → (at.done ≡ whole_part (at.done ++ new.held)) ⊎ ((at.done ≡ at.done ++ new.held) × (rest ≡ []))
    by (inl cut) = inl (sym (partial_line_is_not_whole at.done new.held none cut))
    by (inr all) =
        let nothing : new.held ≡ [] = first_empty new.held rest (keeps.bytes ∙ all.0) in
        inr (sym (append-nil at.done) ∙ ap (λ bs. at.done ++ bs) (sym nothing), ap (λ bs. bs ++ rest) (sym nothing) ∙ keeps.bytes ∙ all.0)

pub reader_memory : {P : Type 0} {r : Rules} {script : List ℕ} {source told sink : Option (List ℕ)} {first tally : Tally} {m : LinesModel} {number : ℕ} {e : SessionModel} (at : IsAt P r script source told sink first tally m number e) → HasAnswered r script (replies_to r (lines_of at.done))
reader_memory {script = script} {m = m} at =
    let first = lines_begin script at.done (m.held ++ at.left) at.stands in
    record { done = lines_of at.done; later = first.0; first = first.1; meant = at.meant; all = refl }

-- a reader's error is no part's
pub reader_no_part : (e : SlateDBError) → ReaderError e → IsPartError e → ⊥
reader_no_part e (inl is) part = subst IsPartError is part
reader_no_part e (inr (inl is)) part = subst IsPartError is part
reader_no_part e (inr (inr is)) part = subst IsPartError is part

pub reader_undamaged : (e : SlateDBError) → ReaderError e → IsTableError e → ⊥
reader_undamaged e (inl is) damage = subst IsTableError is damage
reader_undamaged e (inr (inl is)) damage = subst IsTableError is damage
reader_undamaged e (inr (inr is)) damage = subst IsTableError is damage

pub reader_not_write : (e : SlateDBError) → ReaderError e → e ≡ WriteFault → ⊥
reader_not_write e (inl is) was = cc
reader_not_write e (inr (inl is)) was = cc
reader_not_write e (inr (inr is)) was = cc

pub reader_complete : (script : List ℕ) (error : SlateDBError) → IsOutside error ⊎ (script_error script ≡ Some error) → ReaderError error → IsWellFormed script → (error ≡ ReadFault → ⊥) → error ≡ OutOfMemory
reader_complete script error by cause formed no-read = only (complete_from script error by formed no-read (reader_not_write error cause))
  where
    only : (error ≡ OutOfMemory) ⊎ IsPartError error → error ≡ OutOfMemory
    only (inl is) = is
    only (inr part) = absurd (reader_no_part error cause part)

abbrev pub ReadOn : List ℕ → Option (List ℕ) → Type 0
ReadOn script source = (n : ℕ) × (n ≤ script_limit) × (source ≡ Some (drop n script))

read_on : (script done held rest : List ℕ) (source : Option (List ℕ)) → script ≡ done ++ (held ++ rest) → length done + length held ≤ script_limit → source ≡ Some rest → ReadOn script source
read_on script done held rest source split within is = (
  length (done ++ held),
  rw (length-append done held) within,
  is ∙ ap Some (sym (ap (drop (length (done ++ held))) (split ∙ sym (append_assoc done held rest)) ∙ drop-append_seam (done ++ held) rest)),
)

pub reader_read : {P : Type 0} {r : Rules} {script : List ℕ} {source told sink : Option (List ℕ)} {first tally : Tally} {old : LinesModel} {number : ℕ} {e : SessionModel} (new : LinesModel) (rest : List ℕ) (after : Option (List ℕ)) (at : IsAt P r script source told sink first tally old number e)
    → KeepsAll old at.left new rest → new.given + length new.held ≤ script_limit → after ≡ Some rest → ReadOn script after
reader_read {script = script} new rest after at keeps within is =
    read_on script at.done new.held rest after (at.stands.split ∙ ap (λ bs. at.done ++ bs) (sym keeps.bytes)) (omega (arith, keeps.counts, at.given)) is

pub reader_full : {P : Type 0} {r : Rules} {script : List ℕ} {source told sink : Option (List ℕ)} {first tally : Tally} {old : LinesModel} {number : ℕ} {e : SessionModel} (new : LinesModel) (rest : List ℕ) (after : Option (List ℕ)) (at : IsAt P r script source told sink first tally old number e)
    → KeepsAll old at.left new rest → new.given + length new.held ≡ script_limit → after ≡ Some rest → after ≡ Some (drop script_limit script)
unfolding reader_read read_on
reader_full {script = script} new rest after at keeps full is =
    let count : length (at.done ++ new.held) ≡ script_limit = omega (arith, length-append at.done new.held, keeps.counts, at.given) in
    (reader_read new rest after at keeps (omega arith) is).2 ∙ ap (λ n. Some (drop n script)) count

pub line_read : {P : Type 0} {r : Rules} {script line : List ℕ} {source told sink : Option (List ℕ)} {first tally : Tally} {m : LinesModel} {number : ℕ} {e : SessionModel} (took : Took P r script source told sink first tally m line number e) → m.given + length m.held ≤ script_limit → ReadOn script source
line_read {script = script} {source = source} {m = m} took within = read_on script took.more m.held took.left source took.stands.split (omega (arith, took.given)) took.rest

pub end_read : {P : Type 0} {r : Rules} {script : List ℕ} {source told sink : Option (List ℕ)} {first tally : Tally} {old : LinesModel} {number : ℕ} {e : SessionModel} (new : LinesModel) (rest : List ℕ) (after : Option (List ℕ)) (at : IsAt P r script source told sink first tally old number e)
    → IsEnd old at.left new rest → new.given + length new.held ≤ script_limit → after ≡ Some rest → ReadOn script after
end_read {script = script} new rest after at end within is =
    read_on script at.done new.held rest after (at.stands.split ∙ ap (λ bs. at.done ++ bs) (end.nothing ∙ sym end.still)) (omega (arith, end.counts, at.given)) is

pub reader_kinds : (error : SlateDBError) → ReaderError error → IsOutside error ⊎ IsScriptError error
reader_kinds error (inl is) = inl (inl is)
reader_kinds error (inr (inl is)) = inl (inr (inl is))
reader_kinds error (inr (inr is)) = inr (inl is)

-- ---- at a line that isn't answered

abbrev pub LineError : ℕ → List ℕ → SlateDBError → Type 0
LineError number line e = (e ≡ OutOfMemory) ⊎ (e ≡ WriteFault) ⊎ ((e ≡ ScriptSyntax number) × (is_line line ≡ false)) ⊎ IsPartError e

-- the lines that a run can take, and those of the script, at the line
taken_there : {P : Type 0} {r : Rules} {script line : List ℕ} {source told sink : Option (List ℕ)} {first tally : Tally} {m : LinesModel} {number : ℕ} {e : SessionModel} (took : Took P r script source told sink first tally m line number e)
    → (later : List (List ℕ)) × (lines_taken script ≡ lines_of took.done ++ (line ∷ later))
taken_there {script = script} {line = line} {m = m} took =
    let first = taken_first script took.more (m.held ++ took.left) took.stands in
    (first.0, first.1 ∙ ap (λ ls. ls ++ first.0) took.lines ∙ append_assoc (lines_of took.done) (line ∷ []) first.0)

lines_there : {P : Type 0} {r : Rules} {script line : List ℕ} {source told sink : Option (List ℕ)} {first tally : Tally} {m : LinesModel} {number : ℕ} {e : SessionModel} (took : Took P r script source told sink first tally m line number e)
    → (later : List (List ℕ)) × (lines_of script ≡ lines_of took.done ++ (line ∷ later))
lines_there {script = script} {line = line} {m = m} took =
    let first = lines_begin script took.more (m.held ++ took.left) took.stands in
    (first.0, first.1 ∙ ap (λ ls. ls ++ first.0) took.lines ∙ append_assoc (lines_of took.done) (line ∷ []) first.0)

pub line_error : {P : Type 0} {r : Rules} {script line : List ℕ} {source told sink : Option (List ℕ)} {first tally : Tally} {m : LinesModel} {number : ℕ} {e : SessionModel} (error : SlateDBError) → Took P r script source told sink first tally m line number e
    → LineError number line error → IsOutside error ⊎ (script_error script ≡ Some error)
line_error error took (inl is) = inl (inl is)
line_error error took (inr (inl is)) = inl (inr (inr (inl is)))
line_error error took (inr (inr (inr is))) = inl (inr (inr (inr is)))
line_error {script = script} {line = line} error took (inr (inr (inl is))) =
    let there = taken_there took in
    inr (ap (λ o. error_of o (is_too_long script)) (ap first_other there.1 ∙ other_first (lines_of took.done) line there.0 took.meant is.1)
    ∙ ap (λ n. Some (ScriptSyntax n)) (sym took.count) ∙ ap Some (sym is.0))

pub line_script : {P : Type 0} {r : Rules} {script line : List ℕ} {source told sink : Option (List ℕ)} {first tally : Tally} {m : LinesModel} {number : ℕ} {e : SessionModel} (after : Option (List ℕ)) (before : List ℕ) (error : SlateDBError) → Took P r script source told sink first tally m line number e
    → LineError number line error → ((error ≡ WriteFault) ⊎ (after ≡ sink)) → P → told ≡ Some before → script_error script ≡ Some error → after ≡ Some (before ++ replies_to r (lines_taken script))
line_script {script = script} after before error took (inl is) same p told-is by = absurd (no_outside script error by (inl is))
line_script {script = script} after before error took (inr (inl is)) same p told-is by = absurd (no_outside script error by (inr (inr (inl is))))
line_script {script = script} after before error took (inr (inr (inr is))) same p told-is by = absurd (no_outside script error by (inr (inr (inr is))))
line_script {script = script} after before error took (inr (inr (inl is))) (inl fault) p told-is by = absurd (no_outside script error by (inr (inr (inl fault))))
line_script {r = r} {script = script} {line = line} after before error took (inr (inr (inl is))) (inr same) p told-is by =
    let there = taken_there took in
    same ∙ took.said p before told-is
    ∙ ap (λ bs. Some (before ++ bs)) (sym (ap (replies_to r) there.1 ∙ replies_stop r (lines_of took.done) line there.0 took.meant is.1))

pub line_sink : {P : Type 0} {r : Rules} {script line : List ℕ} {source told sink : Option (List ℕ)} {first tally : Tally} {m : LinesModel} {number : ℕ} {e : SessionModel} (n : ℕ) (took : Took P r script source told sink first tally m line number e)
    → IsTrue (is_line line) → n < length (replies_from r (after_lines r opening (lines_of took.done)) (line ∷ []))
    → HasBegun r script (replies_to r (lines_of took.done) ++ take n (replies_from r (after_lines r opening (lines_of took.done)) (line ∷ [])))
line_sink {r = r} {line = line} n took is short =
    let there = lines_there took in
    record {
      done = lines_of took.done;
      line = line;
      later = there.0;
      first = there.1;
      meant = lines_more (lines_of took.done) (line ∷ []) took.meant (is, tt);
      missing = drop n reply;
      some = λ none. let zero : length (drop n reply) ≡ 0 = ap length none in omega (arith, short, length-drop n reply, zero);
      part =
          append_assoc (replies_to r (lines_of took.done)) (take n reply) (drop n reply) ∙ ap (λ bs. replies_to r (lines_of took.done) ++ bs) (take-append-drop n reply)
          ∙ sym (replies_append r opening (lines_of took.done) (line ∷ []) took.meant);
      begun = take n reply;
      before = refl;
    }
  where
    reply : List ℕ
    reply = replies_from r (after_lines r opening (lines_of took.done)) (line ∷ [])

pub line_not_read : (number : ℕ) (line : List ℕ) (error : SlateDBError) → LineError number line error → error ≡ ReadFault → ⊥
line_not_read number line e (inl is) was = cc
line_not_read number line e (inr (inl is)) was = cc
line_not_read number line e (inr (inr (inr is))) was = subst IsPartError was is
line_not_read number line e (inr (inr (inl is))) was = clash is.0 was
  where
    clash : e ≡ ScriptSyntax number → e ≡ ReadFault → ⊥
    clash h k = cc

pub line_complete : (script line : List ℕ) (number : ℕ) (error : SlateDBError) → IsOutside error ⊎ (script_error script ≡ Some error) → LineError number line error → IsWellFormed script → (error ≡ WriteFault → ⊥) → (error ≡ OutOfMemory) ⊎ IsPartError error
line_complete script line number error by cause formed no-write = complete_from script error by formed (line_not_read number line error cause) no-write

pub line_kinds : (number : ℕ) (line : List ℕ) (error : SlateDBError) → LineError number line error → IsOutside error ⊎ IsScriptError error
line_kinds number line error (inl is) = inl (inl is)
line_kinds number line error (inr (inl is)) = inl (inr (inr (inl is)))
line_kinds number line error (inr (inr (inl is))) = inr (inr (number, is.0))
line_kinds number line error (inr (inr (inr is))) = inl (inr (inr (inr is)))

pub line_not_long : (number : ℕ) (line : List ℕ) (error : SlateDBError) → LineError number line error → error ≡ ScriptTooLong → ⊥
line_not_long number line error (inl is) long = cc
line_not_long number line error (inr (inl is)) long = cc
line_not_long number line error (inr (inr (inr is))) long = subst IsPartError long is
line_not_long number line error (inr (inr (inl is))) long = clash is.0 long
  where
    clash : error ≡ ScriptSyntax number → error ≡ ScriptTooLong → ⊥
    clash h k = cc

-- nothing was written
pub untouched : (error : SlateDBError) (sink after : Option (List ℕ)) → (error ≡ WriteFault) ⊎ (after ≡ sink) → (error ≡ OutOfMemory) ⊎ IsPartError error → after ≡ sink
untouched error sink after (inl fault) (inl want) = cc
untouched error sink after (inl fault) (inr part) = absurd (subst IsPartError fault part)
untouched error sink after (inr same) which = same

pub line_memory : {P : Type 0} {r : Rules} {script line : List ℕ} {source told sink : Option (List ℕ)} {first tally : Tally} {m : LinesModel} {number : ℕ} {e : SessionModel} (took : Took P r script source told sink first tally m line number e) → HasAnswered r script (replies_to r (lines_of took.done))
line_memory {line = line} took =
    let there = lines_there took in
    record { done = lines_of took.done; later = line ∷ there.0; first = there.1; meant = took.meant; all = refl }

-- ---- at the end of the script

pub end_there : {P : Type 0} {r : Rules} {script : List ℕ} {source told sink : Option (List ℕ)} {first tally : Tally} {old : LinesModel} {number : ℕ} {e : SessionModel} (new : LinesModel) (rest : List ℕ) (at : IsAt P r script source told sink first tally old number e)
    → IsEnd old at.left new rest → (script ≡ at.done) × (length script < script_limit) × (rest ≡ [])
end_there {script = script} {old = old} new rest at is = ends script at.done at.left rest old new at.stands at.given is

pub end_lines : {P : Type 0} {r : Rules} {script : List ℕ} {source told sink : Option (List ℕ)} {first tally : Tally} {old : LinesModel} {number : ℕ} {e : SessionModel} (new : LinesModel) (rest : List ℕ) (at : IsAt P r script source told sink first tally old number e)
    → IsEnd old at.left new rest → AreLines (lines_of script)
end_lines {script = script} new rest at is = subst (λ bs. AreLines (lines_of bs)) (sym (end_there new rest at is).0) at.meant

pub end_answered : {P : Type 0} {r : Rules} {script : List ℕ} {source told sink : Option (List ℕ)} {first tally : Tally} {old : LinesModel} {number : ℕ} {e : SessionModel} (new : LinesModel) (rest before : List ℕ) (at : IsAt P r script source told sink first tally old number e)
    → IsEnd old at.left new rest → P → told ≡ Some before → sink ≡ Some (before ++ replies r script)
end_answered {r = r} new rest before at is p told-is = at.said p before told-is ∙ ap (λ bs. Some (before ++ replies r bs)) (sym (end_there new rest at is).0)

pub end_formed : {P : Type 0} {r : Rules} {script : List ℕ} {source told sink : Option (List ℕ)} {first tally : Tally} {old : LinesModel} {number : ℕ} {e : SessionModel} (new : LinesModel) (rest : List ℕ) (at : IsAt P r script source told sink first tally old number e)
    → IsEnd old at.left new rest → IsWellFormed script
end_formed {script = script} new rest at is = ((end_there new rest at is).1, lines_formed (lines_of script) (end_lines new rest at is))

pub end_no_error : {P : Type 0} {r : Rules} {script : List ℕ} {source told sink : Option (List ℕ)} {first tally : Tally} {old : LinesModel} {number : ℕ} {e : SessionModel} (new : LinesModel) (rest : List ℕ) (at : IsAt P r script source told sink first tally old number e)
    → IsEnd old at.left new rest → script_error script ≡ None
end_no_error {script = script} new rest at is = lines_no_error script (end_there new rest at is).1 (end_lines new rest at is)
