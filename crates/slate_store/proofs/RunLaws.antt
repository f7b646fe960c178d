-- A run of a program over a script: where it stands between two lines, and how it ends.
--     IsAt ..      all lines that were given are answered
--     Took ..      a line was given, and isn't answered yet
-- Before, Now: the functions by which the program answers, from the run's start and from here on.
use Rattle.std.proofs.Common.{◌≡◌, ℕ, ◌+◌, ◌≤◌, ◌<◌, true, false, ◌⊎◌, inl, inr, Ok, Err, Result, List, [], ◌∷◌, ◌++◌, length, take, drop, Bool, Option, Some, None, MatchOption, refl, sym, ap, subst, ◌∙◌, arith, append_assoc}
use Rattle.std.specs.Prelude.{OnOk, OnErr}
use Rattle.std.proofs.lemmas.List.{append-nil, length-append, take-append-drop, length-drop}
use Rattle.std.proofs.Math.Seq.{drop-append_seam}
use Rattle.slate_types.specs.declared.error.SlateDBError.{SlateDBError}
use Rattle.slate_types.specs.declared.error.SlateDBError.TheVariants.{ScriptSyntax, ScriptTooLong, OutOfMemory, ReadFault, WriteFault}
use Rattle.slate_types.specs.Faults.{Rose}
use Rattle.slate_store.specs.Lines.{lines_of, whole_part, script_limit, HasNoEnd, LinesModel, GivesLine, IsEnd, KeepsAll}
use Rattle.slate_store.specs.Run.{LineTest, Says, AreOwn, first_unknown, own_front, passes_limit, lines_within, run_error, error_in, IsOwnScript, IsProgramError, LineSays, WritesLine, WroteFirst, WroteFront, WroteAllGiven, WroteAsSaid, HasTaken, IsRunCause}
use Rattle.slate_store.proofs.LineLaws.{partial_line_is_not_whole}
use Rattle.slate_store.proofs.ScriptLaws.{IsCut, Stands, taken_first, lines_begin, grow, ends, first_empty, too_long, own_more, other_none, other_first, front_all, front_stops, formed_no_error, script_kinds}

-- told, sink: what the sink held when the run began, and holds
pub record IsSaid (f : Says) (Now : Says → Type 0) (done : List (List ℕ)) (told sink : Option (List ℕ)) : Type 0 where
  pub later : Says
  pub answers : Now later
  pub goes_on : (more : List (List ℕ)) → f (done ++ more) ≡ f done ++ later more
  pub said : (before : List ℕ) → told ≡ Some before → sink ≡ Some (before ++ f done)

pub record IsAt (takes : LineTest) (Before Now : Says → Type 0) (script : List ℕ) (source told sink : Option (List ℕ)) (m : LinesModel) (number : ℕ) : Type 0 where
  pub left : List ℕ
  pub rest : source ≡ Some left
  pub done : List ℕ
  pub stands : Stands script done (m.held ++ left)
  pub given : m.given ≡ length done
  pub own : AreOwn takes (lines_of done)
  pub count : number ≡ length (lines_of done)
  pub says : (f : Says) → Before f → IsSaid f Now (lines_of done) told sink

pub record Took (takes : LineTest) (Before Now : Says → Type 0) (script : List ℕ) (source told sink : Option (List ℕ)) (m : LinesModel) (line : List ℕ) (number : ℕ) : Type 0 where
  pub left : List ℕ
  pub rest : source ≡ Some left
  pub done : List ℕ
  pub more : List ℕ
  pub lines : lines_of more ≡ lines_of done ++ (line ∷ [])
  pub stands : Stands script more (m.held ++ left)
  pub given : m.given ≡ length more
  pub own : AreOwn takes (lines_of done)
  pub count : number ≡ length (lines_of done) + 1
  pub says : (f : Says) → Before f → IsSaid f Now (lines_of done) told sink

pub begins : (takes : LineTest) (Now : Says → Type 0) (script : List ℕ) (source told : Option (List ℕ)) (m : LinesModel) → source ≡ Some script → m.held ≡ [] → m.given ≡ 0 → ((f : Says) → Now f → f [] ≡ []) → IsAt takes Now Now script source told told m 0
begins takes Now script source told m is held given none = record {
  left = script;
  rest = is;
  done = [];
  stands = record { split = ap (λ bs. bs ++ script) (sym held); within = omega arith; whole = inl refl };
  given = given;
  own = tt;
  count = refl;
  says = λ f now. record {
    later = f;
    answers = now;
    goes_on = λ more. ap (λ bs. bs ++ f more) (sym (none f now));
    said = λ before told-is. told-is ∙ ap Some (sym (append-nil before) ∙ ap (λ bs. before ++ bs) (sym (none f now)));
  };
}

-- ---- one line more

pub takes_line : {V : Type 0} {takes : LineTest} {Before Now : Says → Type 0} {script : List ℕ} {source told sink : Option (List ℕ)} {old : LinesModel} {number : ℕ} (items : V → List ℕ) (o : Option V) (v : V) (line : List ℕ) (after : Option (List ℕ)) (new : LinesModel)
    → ((left : List ℕ) → source ≡ Some left → (rest : List ℕ) × (after ≡ Some rest) × MatchOption o (IsEnd old left new rest) (λ l. GivesLine (items l) old left new rest))
    → new.given + length new.held ≤ script_limit → o ≡ Some v → line ≡ items v → IsAt takes Before Now script source told sink old number → Took takes Before Now script after told sink new line (number + 1)
takes_line {script = script} {old = old} items o v line after new tells within some is at =
    let gave = tells at.left at.rest in
    let gives : GivesLine line old at.left new gave.0 =
    subst (λ l. GivesLine l old at.left new gave.0) (sym is) (subst (λ p. MatchOption p (IsEnd old at.left new gave.0) (λ l. GivesLine (items l) old at.left new gave.0)) some gave.2) in
    let bound : new.given ≤ script_limit = omega arith in
    let g = grow script at.done line at.left gave.0 old new at.stands at.given gives bound in
    record {
      left = gave.0;
      rest = gave.1;
      done = at.done;
      more = g.more;
      lines = g.lines;
      stands = g.stands;
      given = g.counts;
      own = at.own;
      count = ap (λ n. n + 1) at.count;
      says = at.says;
    }

-- what is written for one line more
said_more : (f : Says) (Old New : Says → Type 0) (done : List (List ℕ)) (line piece : List ℕ) (told sink after : Option (List ℕ)) (s : IsSaid f Old done told sink) → (says : LineSays s.later New line piece) → ((g : Says) → New g → g [] ≡ []) →
    (f (done ++ (line ∷ [])) ≡ f done ++ piece) × ((more : List (List ℕ)) → f ((done ++ (line ∷ [])) ++ more) ≡ f (done ++ (line ∷ [])) ++ says.later more)
said_more f Old New done line piece told sink after s says none = (
  now,
  λ more.
      ap f (append_assoc done (line ∷ []) more) ∙ s.goes_on (line ∷ more) ∙ ap (λ bs. f done ++ bs) (says.said more) ∙ sym (append_assoc (f done) piece (says.later more)) ∙ ap (λ bs. bs ++ says.later more) (sym now),
)
  where
    now : f (done ++ (line ∷ [])) ≡ f done ++ piece
    now = s.goes_on (line ∷ []) ∙ ap (λ bs. f done ++ bs) (says.said [] ∙ ap (λ bs. piece ++ bs) (none says.later says.answers) ∙ append-nil piece)

one_more : (ls : List (List ℕ)) (l : List ℕ) → length ls + 1 ≡ length (ls ++ (l ∷ []))
one_more ls l = sym (length-append ls (l ∷ []))

pub answered_line : {V : Type 0} {v : V} {takes : LineTest} {Before Old New : Says → Type 0} {script line : List ℕ} {source told sink : Option (List ℕ)} {m : LinesModel} {number : ℕ} (after : Option (List ℕ)) → ((g : Says) → New g → g [] ≡ []) → Took takes Before Old script source told sink m line number
    → takes line ≡ true → ((f : Says) → Old f → WritesLine {T = V} f New line sink after (Ok v)) → IsAt takes Before New script source told after m number
answered_line {takes = takes} {Old = Old} {New = New} {line = line} {told = told} {sink = sink} after none took is answers = record {
  left = took.left;
  rest = took.rest;
  done = took.more;
  stands = took.stands;
  given = took.given;
  own = rw took.lines (own_more takes (lines_of took.done) (line ∷ []) took.own (is, tt));
  count = took.count ∙ one_more (lines_of took.done) line ∙ ap length (sym took.lines);
  says = λ f before.
      let s = took.says f before in
      let w = (answers s.later s.answers).whole in
      let more = said_more f Old New (lines_of took.done) line w.0 told sink after s w.1 none in
      subst (λ ls. IsSaid f New ls told after) (sym took.lines) (record {
        later = w.1.later;
        answers = w.1.answers;
        goes_on = more.1;
        said = λ b told-is. w.2 (b ++ f (lines_of took.done)) (s.said b told-is) ∙ ap Some (append_assoc b (f (lines_of took.done)) w.0 ∙ ap (λ bs. b ++ bs) (sym more.0));
      });
}

-- ---- what was read

abbrev pub ReadOn : List ℕ → Option (List ℕ) → Type 0
ReadOn script source = (n : ℕ) × (n ≤ script_limit) × (source ≡ Some (drop n script))

read_on : (script done held rest : List ℕ) (source : Option (List ℕ)) → script ≡ done ++ (held ++ rest) → length done + length held ≤ script_limit → source ≡ Some rest → ReadOn script source
read_on script done held rest source split within is = (
  length (done ++ held),
  rw (length-append done held) within,
  is ∙ ap Some (sym (ap (drop (length (done ++ held))) (split ∙ sym (append_assoc done held rest)) ∙ drop-append_seam (done ++ held) rest)),
)

abbrev failed : (V : Type 0) → SlateDBError → Result V SlateDBError
failed V e = Err e

error_of_same : {V : Type 0} (e f : SlateDBError) → failed V e ≡ failed V f → e ≡ f
error_of_same e f h = cc

no_error : {V : Type 0} {v : V} {e : SlateDBError} → Ok v ≡ Err e → ⊥
no_error h = cc

-- ---- at an error of the reader

abbrev pub ReaderError : SlateDBError → Type 0
ReaderError e = (e ≡ OutOfMemory) ⊎ (e ≡ ReadFault) ⊎ (e ≡ ScriptTooLong)

abbrev pub IsAtLimit : LinesModel → Type 0
IsAtLimit m = (m.given + length m.held ≡ script_limit) × HasNoEnd m.held

reader_kinds : (takes : LineTest) (script : List ℕ) (error : SlateDBError) → ReaderError error → (error ≡ ScriptTooLong → error_in takes script ≡ Some ScriptTooLong) →
    (error ≡ ReadFault) ⊎ (error ≡ WriteFault) ⊎ IsProgramError error ⊎ (error_in takes script ≡ Some error)
reader_kinds takes script error (inl is) long = inr (inr (inl (subst IsProgramError (sym is) tt)))
reader_kinds takes script error (inr (inl is)) long = inl is
reader_kinds takes script error (inr (inr is)) long = inr (inr (inr (long is ∙ ap Some (sym is))))

not_script : (takes : LineTest) (script : List ℕ) (error : SlateDBError) → IsOwnScript takes script → (error ≡ ReadFault) ⊎ (error ≡ WriteFault) ⊎ IsProgramError error ⊎ (error_in takes script ≡ Some error) → (error ≡ ReadFault) ⊎ (error ≡ WriteFault) ⊎ IsProgramError error
not_script takes script error formed (inl is) = inl is
not_script takes script error formed (inr (inl is)) = inr (inl is)
not_script takes script error formed (inr (inr (inl is))) = inr (inr is)
not_script takes script error formed (inr (inr (inr is))) = absurd (some (sym (formed_no_error takes script formed) ∙ is))
  where
    some : None ≡ Some error → ⊥
    some h = cc

-- what a reader that failed leaves: all that was held is there still
pub record Stopped (takes : LineTest) (Before Now : Says → Type 0) (script : List ℕ) (left told sink : Option (List ℕ)) (old new : LinesModel) (number : ℕ) : Type 0 where
  pub source : Option (List ℕ)
  pub at : IsAt takes Before Now script source told sink old number
  pub rest : List ℕ
  pub is : left ≡ Some rest
  pub keeps : KeepsAll old at.left new rest
  pub within : new.given + length new.held ≤ script_limit

module _ {takes : LineTest} {Before Now : Says → Type 0} {script : List ℕ} {left told sink : Option (List ℕ)} {old new : LinesModel} {number : ℕ} (s : Stopped takes Before Now script left told sink old new number) where
  split_there : script ≡ s.at.done ++ (new.held ++ s.rest)
  split_there = s.at.stands.split ∙ ap (λ bs. s.at.done ++ bs) (sym s.keeps.bytes)

  long_there : IsAtLimit new → (passes_limit script ≡ true) × (lines_within script ≡ lines_of s.at.done)
  long_there end = too_long script s.at.done s.at.left s.rest old new s.at.stands s.at.given s.keeps end.0 end.1

  too_long_there : IsAtLimit new → error_in takes script ≡ Some ScriptTooLong
  too_long_there end =
      (λ i. run_error (first_unknown takes ((long_there end).1 i)) ((long_there end).0 i)) ∙ ap (λ o. run_error o true) (other_none takes (lines_of s.at.done) s.at.own)

  full_there : IsAtLimit new → left ≡ Some (drop script_limit script)
  full_there end =
      let count : length (s.at.done ++ new.held) ≡ script_limit = omega (arith, length-append s.at.done new.held, s.keeps.counts, s.at.given, end.0) in
      s.is ∙ ap Some (sym (ap (drop script_limit) (split_there ∙ sym (append_assoc s.at.done new.held s.rest)) ∙ ap (λ n. drop n ((s.at.done ++ new.held) ++ s.rest)) (sym count) ∙ drop-append_seam (s.at.done ++ new.held) s.rest))

  pub stopped_read : {T : Type 0} (error : SlateDBError) → ReaderError error → (error ≡ ScriptTooLong → IsAtLimit new) → HasTaken {T = T} takes script left (Err error)
  stopped_read {T = T} error cause full = record {
    whole = tt;
    no_error = tt;
    error = kinds;
    formed = λ formed. not_script takes script error formed kinds;
    too_long = λ long. full_there (full (error_of_same {V = T} error ScriptTooLong long));
    taken = read_on script s.at.done new.held s.rest left split_there (omega (arith, s.keeps.counts, s.at.given, s.within)) s.is;
  }
    where
      kinds : (error ≡ ReadFault) ⊎ (error ≡ WriteFault) ⊎ IsProgramError error ⊎ (error_in takes script ≡ Some error)
      kinds = reader_kinds takes script error cause (λ is. too_long_there (full is))

  answered_all : (f : Says) → HasNoEnd new.held → WroteAllGiven takes f script s.rest (f (lines_of s.at.done))
  answered_all f none = record { given = s.at.done ++ new.held; split = split_there ∙ sym (append_assoc s.at.done new.held s.rest); done = s.at.done; whole = by s.at.stands.whole; own = s.at.own; all = refl }
    where
      by : IsCut s.at.done ⊎ ((old.held ++ s.at.left ≡ []) × (length s.at.done < script_limit)) → (s.at.done ≡ whole_part (s.at.done ++ new.held)) ⊎ ((s.at.done ≡ s.at.done ++ new.held) × (s.rest ≡ []))
      by (inl cut) = inl (sym (partial_line_is_not_whole s.at.done new.held none cut))
      by (inr all) =
          let nothing : new.held ≡ [] = first_empty new.held s.rest (s.keeps.bytes ∙ all.0) in
          inr (sym (append-nil s.at.done) ∙ ap (λ bs. s.at.done ++ bs) (sym nothing), ap (λ bs. bs ++ s.rest) (sym nothing) ∙ s.keeps.bytes ∙ all.0)

  answered_some : (f : Says) → WroteFirst takes f script (f (lines_of s.at.done))
  answered_some f =
      let first = lines_begin script s.at.done (old.held ++ s.at.left) s.at.stands in
      record { done = lines_of s.at.done; later = first.0; first = first.1; own = s.at.own; all = refl }

  reader_script : (f : Says) (before : List ℕ) (error : SlateDBError) → sink ≡ Some (before ++ f (lines_of s.at.done)) → ReaderError error → (error ≡ ScriptTooLong → IsAtLimit new) → error_in takes script ≡ Some error → sink ≡ Some (before ++ f (own_front takes (lines_within script)))
  reader_script f before error said (inl is) full by = absurd (script_kinds takes script error by (inr (inr (subst IsProgramError (sym is) tt))))
  reader_script f before error said (inr (inl is)) full by = absurd (script_kinds takes script error by (inl is))
  reader_script f before error said (inr (inr is)) full by = said ∙ ap (λ ls. Some (before ++ f ls)) (sym (ap (own_front takes) (long_there (full is)).1 ∙ front_all takes (lines_of s.at.done) s.at.own))

  not_write : (error : SlateDBError) → ReaderError error → error ≡ WriteFault → ⊥
  not_write error (inl is) was = cc
  not_write error (inr (inl is)) was = cc
  not_write error (inr (inr is)) was = cc

  pub stopped_says : {T : Type 0} (f : Says) (before : List ℕ) (error : SlateDBError) → Before f → told ≡ Some before → ReaderError error → (error ≡ ScriptTooLong → IsAtLimit new) → (error ≡ ReadFault → HasNoEnd new.held) → WroteAsSaid {T = T} takes f script left before sink (Err error)
  stopped_says {T = T} f before error answers told-is cause full none = record {
    whole = tt;
    by_script = reader_script f before error said cause full;
    by_source = λ fault. (s.rest, f (lines_of s.at.done), s.is, said, answered_all f (none (error_of_same {V = T} error ReadFault fault)));
    by_sink = λ fault. absurd (not_write error cause (error_of_same {V = T} error WriteFault fault));
    by_program = λ own. (f (lines_of s.at.done), said, answered_some f);
  }
    where
      said : sink ≡ Some (before ++ f (lines_of s.at.done))
      said = (s.at.says f answers).said before told-is

-- ---- at a line that isn't answered

abbrev pub LineError : LineTest → ℕ → List ℕ → SlateDBError → Type 0
LineError takes number line e = ((e ≡ WriteFault) × (takes line ≡ true)) ⊎ ((e ≡ ScriptSyntax number) × (takes line ≡ false)) ⊎ IsProgramError e

module _ {takes : LineTest} {Before Now : Says → Type 0} {script line : List ℕ} {left told sink : Option (List ℕ)} {m : LinesModel} {number : ℕ} (took : Took takes Before Now script left told sink m line number) where
  -- the lines that a run can take, and those of the script, at the line
  taken_there : (later : List (List ℕ)) × (lines_within script ≡ lines_of took.done ++ (line ∷ later))
  taken_there =
      let first = taken_first script took.more (m.held ++ took.left) took.stands in
      (first.0, first.1 ∙ ap (λ ls. ls ++ first.0) took.lines ∙ append_assoc (lines_of took.done) (line ∷ []) first.0)

  lines_there : (later : List (List ℕ)) × (lines_of script ≡ lines_of took.done ++ (line ∷ later))
  lines_there =
      let first = lines_begin script took.more (m.held ++ took.left) took.stands in
      (first.0, first.1 ∙ ap (λ ls. ls ++ first.0) took.lines ∙ append_assoc (lines_of took.done) (line ∷ []) first.0)

  syntax_there : takes line ≡ false → error_in takes script ≡ Some (ScriptSyntax number)
  syntax_there other =
      ap (λ o. run_error o (passes_limit script)) (ap (first_unknown takes) taken_there.1 ∙ other_first takes (lines_of took.done) line taken_there.0 took.own other)
      ∙ ap (λ n. Some (ScriptSyntax n)) (sym took.count)

  line_kinds : (error : SlateDBError) → LineError takes number line error → (error ≡ ReadFault) ⊎ (error ≡ WriteFault) ⊎ IsProgramError error ⊎ (error_in takes script ≡ Some error)
  line_kinds error (inl is) = inr (inl is.0)
  line_kinds error (inr (inl is)) = inr (inr (inr (syntax_there is.1 ∙ ap Some (sym is.0))))
  line_kinds error (inr (inr own)) = inr (inr (inl own))

  line_not : (error other : SlateDBError) → (WriteFault ≡ other → ⊥) → (ScriptSyntax number ≡ other → ⊥) → (IsProgramError other → ⊥) → LineError takes number line error → error ≡ other → ⊥
  line_not error other no_write no_syntax no_own (inl is) was = no_write (sym is.0 ∙ was)
  line_not error other no_write no_syntax no_own (inr (inl is)) was = no_syntax (sym is.0 ∙ was)
  line_not error other no_write no_syntax no_own (inr (inr own)) was = no_own (subst IsProgramError was own)

  not_long : (error : SlateDBError) → LineError takes number line error → error ≡ ScriptTooLong → ⊥
  not_long error cause = line_not error ScriptTooLong (λ h. cc) (λ h. cc) (λ h. h) cause

  not_read : (error : SlateDBError) → LineError takes number line error → error ≡ ReadFault → ⊥
  not_read error cause = line_not error ReadFault (λ h. cc) (λ h. cc) (λ h. h) cause

  pub refused_read : {T : Type 0} (error : SlateDBError) → LineError takes number line error → m.given + length m.held ≤ script_limit → HasTaken {T = T} takes script left (Err error)
  refused_read {T = T} error cause within = record {
    whole = tt;
    no_error = tt;
    error = line_kinds error cause;
    formed = λ formed. not_script takes script error formed (line_kinds error cause);
    too_long = λ long. absurd (not_long error cause (error_of_same {V = T} error ScriptTooLong long));
    taken = read_on script took.more m.held took.left left took.stands.split (omega (arith, took.given, within)) took.rest;
  }

  line_script : (f : Says) (before : List ℕ) (error : SlateDBError) (after : Option (List ℕ)) → sink ≡ Some (before ++ f (lines_of took.done)) → LineError takes number line error → (error ≡ WriteFault) ⊎ (after ≡ sink) → error_in takes script ≡ Some error →
      after ≡ Some (before ++ f (own_front takes (lines_within script)))
  line_script f before error after said (inl is) same by = absurd (script_kinds takes script error by (inr (inl is.0)))
  line_script f before error after said (inr (inr own)) same by = absurd (script_kinds takes script error by (inr (inr own)))
  line_script f before error after said (inr (inl is)) (inl fault) by = absurd (script_kinds takes script error by (inr (inl fault)))
  line_script f before error after said (inr (inl is)) (inr same) by =
      same ∙ said ∙ ap (λ ls. Some (before ++ f ls)) (sym (ap (own_front takes) taken_there.1 ∙ front_stops takes (lines_of took.done) line taken_there.0 took.own is.1))

  untouched : (error : SlateDBError) (after : Option (List ℕ)) → (error ≡ WriteFault) ⊎ (after ≡ sink) → IsProgramError error → after ≡ sink
  untouched error after (inl fault) own = absurd (subst IsProgramError fault own)
  untouched error after (inr same) own = same

  line_own : (error : SlateDBError) → LineError takes number line error → error ≡ WriteFault → takes line ≡ true
  line_own error (inl is) was = is.1
  line_own error (inr (inl is)) was = absurd (clash is.0 was)
    where
      clash : error ≡ ScriptSyntax number → error ≡ WriteFault → ⊥
      clash h k = cc
  line_own error (inr (inr own)) was = absurd (subst IsProgramError was own)

  pub refused_says : {T V : Type 0} {New : Says → Type 0} (f : Says) (before : List ℕ) (error : SlateDBError) (after : Option (List ℕ)) → ((g : Says) → New g → g [] ≡ []) → Before f → told ≡ Some before → LineError takes number line error →
      (error ≡ WriteFault) ⊎ (after ≡ sink) → ((g : Says) → Now g → WritesLine {T = V} g New line sink after (Err error)) → WroteAsSaid {T = T} takes f script left before after (Err error)
  refused_says {T = T} {V = V} {New = New} f before error after none answers told-is cause same line_answers = record {
    whole = tt;
    by_script = line_script f before error after said cause same;
    by_source = λ fault. absurd (not_read error cause (error_of_same {V = T} error ReadFault fault));
    by_sink = λ fault. begun (error_of_same {V = T} error WriteFault fault);
    by_program = λ own. (f (lines_of took.done), untouched error after same own ∙ said, record { done = lines_of took.done; later = line ∷ lines_there.0; first = lines_there.1; own = took.own; all = refl });
  }
    where
      s : IsSaid f Now (lines_of took.done) told sink
      s = took.says f answers

      said : sink ≡ Some (before ++ f (lines_of took.done))
      said = s.said before told-is

      begun : error ≡ WriteFault → (text : List ℕ) × (after ≡ Some (before ++ text)) × WroteFront takes f script text
      begun is =
          let w = (line_answers s.later s.answers).begun (ap (failed V) is) in
          let front = w.2 (before ++ f (lines_of took.done)) said in
          let piece : List ℕ = w.0 in
          let n : ℕ = front.0 in
          let short : n < length piece = front.1 in (
            f (lines_of took.done) ++ take n piece,
            front.2 ∙ ap Some (append_assoc before (f (lines_of took.done)) (take n piece)),
            record {
              done = lines_of took.done;
              line = line;
              later = lines_there.0;
              first = lines_there.1;
              own = own_more takes (lines_of took.done) (line ∷ []) took.own (line_own error cause is, tt);
              missing = drop n piece;
              some = λ empty. let zero : length (drop n piece) ≡ 0 = ap length empty in omega (arith, short, length-drop n piece, zero);
              part = append_assoc (f (lines_of took.done)) (take n piece) (drop n piece) ∙ ap (λ bs. f (lines_of took.done) ++ bs) (take-append-drop n piece) ∙ sym (said_more f Now New (lines_of took.done) line piece told sink after s w.1 none).0;
              begun = take n piece;
              before = refl;
            },
          )

-- ---- at the end of the script

pub record Ended (takes : LineTest) (Before Now : Says → Type 0) (script : List ℕ) (left told sink : Option (List ℕ)) (old new : LinesModel) (number : ℕ) : Type 0 where
  pub source : Option (List ℕ)
  pub at : IsAt takes Before Now script source told sink old number
  pub rest : List ℕ
  pub is : left ≡ Some rest
  pub end : IsEnd old at.left new rest
  pub within : new.given + length new.held ≤ script_limit

pub end_of : {V : Type 0} {takes : LineTest} {Before Now : Says → Type 0} {script : List ℕ} {source told sink : Option (List ℕ)} {old : LinesModel} {number : ℕ} (items : V → List ℕ) (o : Option V) (after : Option (List ℕ)) (new : LinesModel)
    → ((left : List ℕ) → source ≡ Some left → (rest : List ℕ) × (after ≡ Some rest) × MatchOption o (IsEnd old left new rest) (λ l. GivesLine (items l) old left new rest))
    → new.given + length new.held ≤ script_limit → o ≡ None → IsAt takes Before Now script source told sink old number → Ended takes Before Now script after told sink old new number
end_of {source = source} {old = old} items o after new tells within none at =
    let gave = tells at.left at.rest in
    record {
      source = source;
      at = at;
      rest = gave.0;
      is = gave.1;
      end = subst (λ p. MatchOption p (IsEnd old at.left new gave.0) (λ l. GivesLine (items l) old at.left new gave.0)) none gave.2;
      within = within;
    }

module _ {takes : LineTest} {Before Now : Says → Type 0} {script : List ℕ} {left told sink : Option (List ℕ)} {old new : LinesModel} {number : ℕ} (s : Ended takes Before Now script left told sink old new number) where
  end_there : (script ≡ s.at.done) × (length script < script_limit) × (s.rest ≡ [])
  end_there = ends script s.at.done s.at.left s.rest old new s.at.stands s.at.given s.end

  end_formed : IsOwnScript takes script
  end_formed = record { short = end_there.1; own = subst (λ bs. AreOwn takes (lines_of bs)) (sym end_there.0) s.at.own }

  pub ended_read : {V : Type 0} {v : V} → HasTaken takes script left (Ok v)
  ended_read = record {
    whole = (end_formed, s.is ∙ ap Some end_there.2);
    no_error = formed_no_error takes script end_formed;
    error = tt;
    formed = λ formed. tt;
    too_long = λ long. absurd (no_error long);
    taken = read_on script s.at.done new.held s.rest left (s.at.stands.split ∙ ap (λ bs. s.at.done ++ bs) (s.end.nothing ∙ sym s.end.still)) (omega (arith, s.end.counts, s.at.given, s.within)) s.is;
  }

  pub ended_says : {V : Type 0} {v : V} (f : Says) (before : List ℕ) → Before f → told ≡ Some before → WroteAsSaid takes f script left before sink (Ok v)
  ended_says f before answers told-is = record {
    whole = (s.at.says f answers).said before told-is ∙ ap (λ bs. Some (before ++ f (lines_of bs))) (sym end_there.0);
    by_script = tt;
    by_source = λ fault. absurd (no_error fault);
    by_sink = λ fault. absurd (no_error fault);
    by_program = tt;
  }

-- ---- what a call of the reader told

pub stop_of : {takes : LineTest} {Before Now : Says → Type 0} {script : List ℕ} {source told sink : Option (List ℕ)} {old : LinesModel} {number : ℕ} (after : Option (List ℕ)) (new : LinesModel)
    → ((left : List ℕ) → source ≡ Some left → (rest : List ℕ) × (after ≡ Some rest) × KeepsAll old left new rest) → new.given + length new.held ≤ script_limit → IsAt takes Before Now script source told sink old number →
    Stopped takes Before Now script after told sink old new number
stop_of {source = source} after new tells within at =
    let gave = tells at.left at.rest in
    record { source = source; at = at; rest = gave.0; is = gave.1; keeps = gave.2; within = within }

-- ---- causes

pub reader_cause : (A B : Type 0) (refuses : SlateDBError → Type 0) (error : SlateDBError) → ReaderError error → (error ≡ ReadFault → A) → IsRunCause A B refuses error
reader_cause A B refuses error (inl is) rose = inl is
reader_cause A B refuses error (inr (inl is)) rose = inr (inl (is, rose is))
reader_cause A B refuses error (inr (inr is)) rose = inr (inr (inr (inl is)))

-- here: the program's own test, at the line; refuses: what it refuses for
abbrev pub LineCause : Bool → ℕ → (SlateDBError → Type 0) → Type 0 → SlateDBError → Type 0
LineCause here number refuses rose e = ((e ≡ WriteFault) × (here ≡ true) × rose) ⊎ ((e ≡ ScriptSyntax number) × (here ≡ false)) ⊎ refuses e

pub line_error : (takes : LineTest) (line : List ℕ) (here : Bool) (number : ℕ) (refuses : SlateDBError → Type 0) (rose : Type 0) (error : SlateDBError) → here ≡ takes line → (refuses error → IsProgramError error) → LineCause here number refuses rose error → LineError takes number line error
line_error takes line here number refuses rose error same apart (inl is) = inl (is.0, sym same ∙ is.1)
line_error takes line here number refuses rose error same apart (inr (inl is)) = inr (inl (is.0, sym same ∙ is.1))
line_error takes line here number refuses rose error same apart (inr (inr own)) = inr (inr (apart own))

pub line_cause : (A B : Type 0) (before refuses : SlateDBError → Type 0) (here : Bool) (number : ℕ) (rose : Type 0) (error : SlateDBError) → (rose → B) → (refuses error → before error) → LineCause here number refuses rose error → IsRunCause A B before error
line_cause A B before refuses here number rose error late later (inl is) = inr (inr (inl (is.0, late is.2)))
line_cause A B before refuses here number rose error late later (inr (inl is)) = inr (inr (inr (inr (inl (number, is.0)))))
line_cause A B before refuses here number rose error late later (inr (inr own)) = inr (inr (inr (inr (inr (later own)))))

-- a count that rose later rose
pub rose_from : (a b n : ℕ) → a ≤ b → Rose b n → Rose a n
rose_from a b n h k = omega arith

-- an error of a step is the run's, and else no count rose
pub error_or : {A B P Q : Type 0} (e f : SlateDBError) → (failed A e ≡ failed A f) ⊎ P → (P → Q) → (failed B e ≡ failed B f) ⊎ Q
error_or {A = A} {B = B} e f (inl h) next = inl (ap (failed B) (error_of_same {V = A} e f h))
error_or e f (inr h) next = inr (next h)

pub unless_error : {V P : Type 0} (v : V) (e : SlateDBError) → (Ok v ≡ Err e) ⊎ P → P
unless_error v e (inl is) = absurd (no_error is)
unless_error v e (inr is) = is

-- ---- one line that is answered

pub written_line : {T : Type 0} (result : Result T SlateDBError) (f : Says) (Now : Says → Type 0) (line piece : List ℕ) (sink after : Option (List ℕ)) → LineSays f Now line piece → ((before : List ℕ) → sink ≡ Some before → OnOk result (after ≡ Some (before ++ piece))) →
    ((before : List ℕ) → sink ≡ Some before → OnErr result ((n : ℕ) × (n < length piece) × (after ≡ Some (before ++ take n piece)))) → WritesLine f Now line sink after result
written_line (Ok v) f Now line piece sink after says ok part = record { whole = (piece, says, ok); begun = λ h. absurd (no_error h) }
written_line (Err e) f Now line piece sink after says ok part = record { whole = tt; begun = λ h. (piece, says, part) }
