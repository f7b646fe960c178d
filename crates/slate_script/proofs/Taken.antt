-- Where a run stands in a script.
--     IsCut bytes      they are whole lines
--     Stands script done left      what was given of the script is whole lines, or all of it
--     IsAt ..      all lines that were given are answered
--     Took ..      a line was given, and isn't answered yet
--     lines_meant, lines_stand, lines_grow      the lines that were given of a script
use Rattle.std.proofs.Common.{◌≡◌, ℕ, suc, ◌+◌, ◌-◌, ◌≤◌, ◌<◌, Bool, true, false, cond, ◌⊎◌, inl, inr, Ok, List, [], ◌∷◌, ◌++◌, length, take, Option, Some, None, MatchOption, IsTrue, refl, sym, ap, subst, ◌∙◌, arith, append_assoc}
use Rattle.std.proofs.lemmas.List.{append-nil, length-append}
use Rattle.std.proofs.lemmas.Bool.{lt-ltb, le-ltb, ltb-false}
use Rattle.std.proofs.Math.Seq.{take-append_seam, take-append-add}
use Rattle.slate_store.specs.Lines.{lines_of, whole_part, script_limit, HasNoEnd, LinesModel, GivesLine, IsEnd, KeepsAll}
use Rattle.slate_store.proofs.LineLaws.{taken_line_is_first, whole_lines_join, whole_parts_join, partial_line_is_not_whole, end_makes_whole}
use Rattle.slate_txn.specs.State.{Rules, opening}
use Rattle.slate_language.specs.declared.tally.Tally.{Tally}
use Rattle.slate_language.specs.Tally.{tallied}
use Rattle.slate_language.specs.Replies.{meanings, after_lines, replies_from, replies_to, IsWellFormed}
use Rattle.slate_txn.specs.Step.{answers}
use Rattle.slate_script.specs.Session.{SessionModel, StandsFor}
use Rattle.slate_script.specs.Run.{is_line, first_other, is_too_long, lines_taken, error_of, script_error, AnswersLine, AreLines}
use Rattle.slate_script.proofs.Answered.{lines_more, replies_append, state_append, tally_append, other_none, none_other, lines_formed, formed_lines}

-- whole lines: the last has its LF
abbrev pub IsCut : List ℕ → Type 0
IsCut bytes = whole_part bytes ≡ bytes

cut_append : (a b : List ℕ) → IsCut a → IsCut b → IsCut (a ++ b)
cut_append a b h k = whole_parts_join a b h ∙ ap (λ c. a ++ c) k

-- what is left; where the last line had no LF that is nothing
pub record Stands (script done left : List ℕ) : Type 0 where
  pub split : script ≡ done ++ left
  pub within : length done ≤ script_limit
  pub whole : IsCut done ⊎ ((left ≡ []) × (length done < script_limit))

-- ---- scripts that are too long, and others

pub long_is : (script : List ℕ) → script_limit ≤ length script → is_too_long script ≡ true
long_is script h = lt-ltb (script_limit - 1) (length script) (omega arith)

pub short_is : (script : List ℕ) → length script < script_limit → is_too_long script ≡ false
short_is script h = le-ltb (script_limit - 1) (length script) (omega arith)

pub short_than : (script : List ℕ) → is_too_long script ≡ false → length script < script_limit
short_than script h = let k : length script ≤ script_limit - 1 = ltb-false (script_limit - 1) (length script) h in omega arith

taken_by : Bool → List ℕ → List (List ℕ)
taken_by long script = cond long (lines_of (whole_part (take script_limit script))) (lines_of script)

-- ---- the lines that a run can take begin with those that were given

take_front : (n : ℕ) (done left : List ℕ) → length done ≤ n → take n (done ++ left) ≡ done ++ take (n - length done) left
take_front n done left h =
    let sum : n ≡ length done + (n - length done) = omega arith in
    ap (λ m. take m (done ++ left)) sum ∙ take-append-add done left (n - length done)

cut_lines : (n : ℕ) (done left : List ℕ) → IsCut done → length done ≤ n → lines_of (whole_part (take n (done ++ left))) ≡ lines_of done ++ lines_of (whole_part (take (n - length done) left))
cut_lines n done left cut h =
    ap (λ bs. lines_of (whole_part bs)) (take_front n done left h)
    ∙ ap lines_of (whole_parts_join done (take (n - length done) left) cut)
    ∙ whole_lines_join done (whole_part (take (n - length done) left)) cut

pub taken_first : (script done left : List ℕ) → Stands script done left → (later : List (List ℕ)) × (lines_taken script ≡ lines_of done ++ later)
taken_first script done left h = by h.whole
  where
    cut_by : (t : Bool) → IsCut done → (later : List (List ℕ)) × (cond t (lines_of (whole_part (take script_limit script))) (lines_of script) ≡ lines_of done ++ later)
    cut_by true cut = (lines_of (whole_part (take (script_limit - length done) left)), ap (λ bs. lines_of (whole_part (take script_limit bs))) h.split ∙ cut_lines script_limit done left cut h.within)
    cut_by false cut = (lines_of left, ap lines_of h.split ∙ whole_lines_join done left cut)

    by : IsCut done ⊎ ((left ≡ []) × (length done < script_limit)) → (later : List (List ℕ)) × (lines_taken script ≡ lines_of done ++ later)
    by (inl cut) = cut_by (is_too_long script) cut
    by (inr all) =
        let same : script ≡ done = h.split ∙ ap (λ bs. done ++ bs) all.0 ∙ append-nil done in
        let short : length script < script_limit = rw same all.1 in
        ([], ap (λ t. cond t (lines_of (whole_part (take script_limit script))) (lines_of script)) (short_is script short) ∙ ap lines_of same ∙ sym (append-nil (lines_of done)))

pub lines_begin : (script done left : List ℕ) → Stands script done left → (later : List (List ℕ)) × (lines_of script ≡ lines_of done ++ later)
lines_begin script done left h = by h.whole
  where
    by : IsCut done ⊎ ((left ≡ []) × (length done < script_limit)) → (later : List (List ℕ)) × (lines_of script ≡ lines_of done ++ later)
    by (inl cut) = (lines_of left, ap lines_of h.split ∙ whole_lines_join done left cut)
    by (inr all) = ([], ap lines_of (h.split ∙ ap (λ bs. done ++ bs) all.0 ∙ append-nil done) ∙ sym (append-nil (lines_of done)))

-- ---- one line more

pub record Grown (script done line left : List ℕ) (given : ℕ) : Type 0 where
  pub more : List ℕ
  pub stands : Stands script more left
  pub lines : lines_of more ≡ lines_of done ++ (line ∷ [])
  pub counts : given ≡ length more

not_empty : (line after : List ℕ) → [] ≡ line ++ (10 ∷ after) → ⊥
not_empty [] after h = cc
not_empty (b ∷ line) after h = cc

pub grow : (script done line left rest : List ℕ) (old new : LinesModel) → Stands script done (old.held ++ left) → old.given ≡ length done
    → GivesLine line old left new rest → new.given ≤ script_limit → Grown script done line (new.held ++ rest) new.given
grow script done line left rest old new h counts gives within = by h.whole gives.takes.1
  where
    before : List ℕ
    before = old.held ++ left

    after : List ℕ
    after = new.held ++ rest

    by_end : IsCut done → before ≡ line ++ (10 ∷ after) → Grown script done line after new.given
    by_end cut is =
        let size : length before ≡ length line + suc (length after) = ap length is ∙ length-append line (10 ∷ after) in
        let sum : length (done ++ (line ++ (10 ∷ []))) ≡ length done + (length line + 1) = length-append done (line ++ (10 ∷ [])) ∙ ap (λ n. length done + n) (length-append line (10 ∷ [])) in
        let given : new.given ≡ length (done ++ (line ++ (10 ∷ []))) = omega (arith, gives.counts, sum, size, counts) in
        record {
          more = done ++ (line ++ (10 ∷ []));
          stands = record {
            split = h.split ∙ ap (λ bs. done ++ bs) (is ∙ sym (append_assoc line (10 ∷ []) after)) ∙ sym (append_assoc done (line ++ (10 ∷ [])) after);
            within = omega arith;
            whole = inl (cut_append done (line ++ (10 ∷ [])) cut (end_makes_whole line));
          };
          lines = whole_lines_join done (line ++ (10 ∷ [])) cut ∙ ap (λ ls. lines_of done ++ ls) (taken_line_is_first line (line ++ (10 ∷ [])) [] (gives.takes.0, inl refl));
          counts = given;
        }

    by_last : IsCut done → (before ≡ line) × (0 < length line) × (after ≡ []) → Grown script done line after new.given
    by_last cut is =
        let size : length before ≡ length line = ap length is.0 in
        let none : length after ≡ 0 = ap length is.2 in
        let sum : length (done ++ line) ≡ length done + length line = length-append done line in
        let given : new.given ≡ length (done ++ line) = omega (arith, gives.counts, sum, size, none, counts) in
        record {
          more = done ++ line;
          stands = record {
            split = h.split ∙ ap (λ bs. done ++ bs) is.0 ∙ sym (append-nil (done ++ line)) ∙ ap (λ bs. (done ++ line) ++ bs) (sym is.2);
            within = omega arith;
            whole = inr (is.2, (rw (← given) (gives.below is.0)));
          };
          lines = whole_lines_join done line cut ∙ ap (λ ls. lines_of done ++ ls) (taken_line_is_first line line [] (gives.takes.0, inr (refl, is.1, refl)));
          counts = given;
        }

    by : IsCut done ⊎ ((before ≡ []) × (length done < script_limit)) → (before ≡ line ++ (10 ∷ after)) ⊎ ((before ≡ line) × (0 < length line) × (after ≡ [])) → Grown script done line after new.given
    by (inl cut) (inl is) = by_end cut is
    by (inl cut) (inr is) = by_last cut is
    by (inr all) (inl is) = absurd (not_empty line after (sym all.0 ∙ is))
    by (inr all) (inr is) =
        let none : length line ≡ 0 = ap length (sym is.0 ∙ all.0) in
        let some : 0 < length line = is.1 in
        absurd (omega arith)

-- ---- how a run ends

-- at the end of the script
pub ends : (script done left rest : List ℕ) (old new : LinesModel) → Stands script done (old.held ++ left) → old.given ≡ length done → IsEnd old left new rest → (script ≡ done) × (length script < script_limit) × (rest ≡ [])
ends script done left rest old new h counts is =
    let same : script ≡ done = h.split ∙ ap (λ bs. done ++ bs) is.nothing ∙ append-nil done in
    let short : length script < script_limit = rw same (omega (arith, is.below, is.counts, counts)) in
    (same, short, second new.held rest is.still)
  where
    second : (a b : List ℕ) → a ++ b ≡ [] → b ≡ []
    second [] b h = h
    second (x ∷ a) b h = cc

pub first_empty : (a b : List ℕ) → a ++ b ≡ [] → a ≡ []
first_empty [] b h = refl
first_empty (x ∷ a) b h = cc

-- where as many bytes were taken as may be
pub too_long : (script done left rest : List ℕ) (old new : LinesModel) → Stands script done (old.held ++ left) → old.given ≡ length done → KeepsAll old left new rest
    → new.given + length new.held ≡ script_limit → HasNoEnd new.held → (is_too_long script ≡ true) × (lines_taken script ≡ lines_of done)
too_long script done left rest old new h counts keeps full none = by h.whole
  where
    held : List ℕ
    held = new.held

    split : script ≡ done ++ (held ++ rest)
    split = h.split ∙ ap (λ bs. done ++ bs) (sym keeps.bytes)

    size : length done + length held ≡ script_limit
    size = omega (arith, keeps.counts, counts, full)

    taken : take script_limit script ≡ done ++ held
    taken =
        ap (take script_limit) (split ∙ sym (append_assoc done held rest))
        ∙ ap (λ n. take n ((done ++ held) ++ rest)) (sym (length-append done held ∙ size)) ∙ take-append_seam (done ++ held) rest

    long : is_too_long script ≡ true
    long = long_is script (omega (arith, ap length split, length-append done (held ++ rest), length-append held rest, size))

    by : IsCut done ⊎ ((old.held ++ left ≡ []) × (length done < script_limit)) → (is_too_long script ≡ true) × (lines_taken script ≡ lines_of done)
    by (inl cut) =
        (long, ap (λ t. cond t (lines_of (whole_part (take script_limit script))) (lines_of script)) long ∙ ap (λ bs. lines_of (whole_part bs)) taken ∙ ap lines_of (partial_line_is_not_whole done held none cut))
    by (inr all) =
        let nothing : length held ≡ 0 = ap length (first_empty held rest (keeps.bytes ∙ all.0)) in
        absurd (omega (arith, all.1, size, nothing))

-- ---- a script's error

none_error : (o : Option ℕ) (long : Bool) → error_of o long ≡ None → (o ≡ None) × (long ≡ false)
none_error None true h = cc
none_error None false h = (refl, refl)
none_error (Some n) long h = cc

pub no_error_formed : (script : List ℕ) → script_error script ≡ None → IsWellFormed script
no_error_formed script h =
    let parts = none_error (first_other (lines_taken script)) (is_too_long script) h in
    let taken : lines_taken script ≡ lines_of script = ap (λ t. cond t (lines_of (whole_part (take script_limit script))) (lines_of script)) parts.1 in
    (short_than script parts.1, lines_formed (lines_of script) (none_other (lines_of script) (ap first_other (sym taken) ∙ parts.0)))

pub lines_no_error : (script : List ℕ) → length script < script_limit → AreLines (lines_of script) → script_error script ≡ None
lines_no_error script short h =
    let long : is_too_long script ≡ false = short_is script short in
    (λ i. error_of (first_other (cond (long i) (lines_of (whole_part (take script_limit script))) (lines_of script))) (long i))
    ∙ ap (λ o. error_of o false) (other_none (lines_of script) h)

pub formed_no_error : (script : List ℕ) → IsWellFormed script → script_error script ≡ None
formed_no_error script h = lines_no_error script h.0 (formed_lines (lines_of script) h.1)

-- ---- a run

-- told: what the sink held when the run began
pub record IsAt (P : Type 0) (r : Rules) (script : List ℕ) (source told sink : Option (List ℕ)) (first tally : Tally) (m : LinesModel) (number : ℕ) (e : SessionModel) : Type 0 where
  pub left : List ℕ
  pub rest : source ≡ Some left
  pub done : List ℕ
  pub stands : Stands script done (m.held ++ left)
  pub given : m.given ≡ length done
  pub meant : AreLines (lines_of done)
  pub count : number ≡ length (lines_of done)
  pub session : P → StandsFor e (after_lines r opening (lines_of done))
  pub said : P → (before : List ℕ) → told ≡ Some before → sink ≡ Some (before ++ replies_to r (lines_of done))
  pub counts : P → tally ≡ tallied first (answers r opening (meanings (lines_of done)))

pub record Took (P : Type 0) (r : Rules) (script : List ℕ) (source told sink : Option (List ℕ)) (first tally : Tally) (m : LinesModel) (line : List ℕ) (number : ℕ) (e : SessionModel) : Type 0 where
  pub left : List ℕ
  pub rest : source ≡ Some left
  pub done : List ℕ
  pub more : List ℕ
  pub lines : lines_of more ≡ lines_of done ++ (line ∷ [])
  pub stands : Stands script more (m.held ++ left)
  pub given : m.given ≡ length more
  pub meant : AreLines (lines_of done)
  pub count : number ≡ length (lines_of done) + 1
  pub session : P → StandsFor e (after_lines r opening (lines_of done))
  pub said : P → (before : List ℕ) → told ≡ Some before → sink ≡ Some (before ++ replies_to r (lines_of done))
  pub counts : P → tally ≡ tallied first (answers r opening (meanings (lines_of done)))

pub begin : (P : Type 0) (r : Rules) (script : List ℕ) (source told : Option (List ℕ)) (first : Tally) (m : LinesModel) (e : SessionModel) → source ≡ Some script → m.held ≡ [] → m.given ≡ 0 → StandsFor e opening → IsAt P r script source told told first first m 0 e
begin P r script source told first m e is held given opens = record {
  left = script;
  rest = is;
  done = [];
  stands = record { split = ap (λ bs. bs ++ script) (sym held); within = omega arith; whole = inl refl };
  given = given;
  meant = tt;
  count = refl;
  session = λ p. opens;
  said = λ p before told-is. told-is ∙ ap Some (sym (append-nil before));
  counts = λ p. refl;
}

pub take_line : (P : Type 0) (r : Rules) (script line : List ℕ) (source told sink after : Option (List ℕ)) (first tally : Tally) (old new : LinesModel) (number : ℕ) (e : SessionModel) (at : IsAt P r script source told sink first tally old number e) (rest : List ℕ)
    → after ≡ Some rest → GivesLine line old at.left new rest → new.given ≤ script_limit → Took P r script after told sink first tally new line (number + 1) e
take_line P r script line source told sink after first tally old new number e at rest is gives within =
    let g = grow script at.done line at.left rest old new at.stands at.given gives within in
    record {
      left = rest;
      rest = is;
      done = at.done;
      more = g.more;
      lines = g.lines;
      stands = g.stands;
      given = g.counts;
      meant = at.meant;
      count = ap (λ n. n + 1) at.count;
      session = at.session;
      said = at.said;
      counts = at.counts;
    }

one_more : (ls : List (List ℕ)) (l : List ℕ) → length ls + 1 ≡ length (ls ++ (l ∷ []))
one_more ls l = sym (length-append ls (l ∷ []))

pub answer_it : {V : Type 0} {v : V} (P : Type 0) (r : Rules) (script line : List ℕ) (source told sink after : Option (List ℕ)) (first tally next : Tally) (m : LinesModel) (number : ℕ) (e new : SessionModel) → Took P r script source told sink first tally m line number e
    → IsTrue (is_line line) → (P → AnswersLine {T = V} r line e new sink after tally next (Ok v)) → IsAt P r script source told after first next m number new
answer_it P r script line source told sink after first tally next m number e new took is says = record {
  left = took.left;
  rest = took.rest;
  done = took.more;
  stands = took.stands;
  given = took.given;
  meant = rw took.lines (lines_more (lines_of took.done) (line ∷ []) took.meant (is, tt));
  count = took.count ∙ one_more (lines_of took.done) line ∙ ap length (sym took.lines);
  session = λ p. subst (StandsFor new) (sym (ap (after_lines r opening) took.lines ∙ state_append r opening (lines_of took.done) (line ∷ []) took.meant)) ((says p).stands _ (took.session p));
  said = λ p before is.
      (says p).said _ (before ++ replies_to r (lines_of took.done)) (took.session p) (took.said p before is)
      ∙ ap Some (append_assoc before (replies_to r (lines_of took.done)) (replies_from r (after_lines r opening (lines_of took.done)) (line ∷ []))
      ∙ ap (λ bs. before ++ bs) (sym (ap (replies_to r) took.lines ∙ replies_append r opening (lines_of took.done) (line ∷ []) took.meant)));
  counts = λ p.
      (says p).counts _ (took.session p) ∙ ap (λ t. tallied t (answers r (after_lines r opening (lines_of took.done)) (meanings (line ∷ [])))) (took.counts p)
      ∙ sym (ap (λ ls. tallied first (answers r opening (meanings ls))) took.lines ∙ tally_append first r opening (lines_of took.done) (line ∷ []) took.meant);
}

-- ---- what the reader answered

pub took_told : {V P : Type 0} {r : Rules} {script : List ℕ} {source told sink : Option (List ℕ)} {first tally : Tally} {old : LinesModel} {number : ℕ} {e : SessionModel} (items : V → List ℕ) (o : Option V) (v : V) (line : List ℕ) (after : Option (List ℕ)) (new : LinesModel)
    → ((left : List ℕ) → source ≡ Some left → (rest : List ℕ) × (after ≡ Some rest) × MatchOption o (IsEnd old left new rest) (λ l. GivesLine (items l) old left new rest))
    → new.given + length new.held ≤ script_limit → o ≡ Some v → line ≡ items v → IsAt P r script source told sink first tally old number e → Took P r script after told sink first tally new line (number + 1) e
took_told {P = P} {r = r} {script = script} {source = source} {told = told} {sink = sink} {first = first} {tally = tally} {old = old} {number = number} {e = e} items o v line after new tells within some is at =
    let gave = tells at.left at.rest in
    let gives : GivesLine line old at.left new gave.0 =
    subst (λ l. GivesLine l old at.left new gave.0) (sym is) (subst (λ p. MatchOption p (IsEnd old at.left new gave.0) (λ l. GivesLine (items l) old at.left new gave.0)) some gave.2) in
    let bound : new.given ≤ script_limit = omega arith in
    take_line P r script line source told sink after first tally old new number e at gave.0 gave.1 gives bound

pub end_told : {V P : Type 0} {r : Rules} {script : List ℕ} {source told sink : Option (List ℕ)} {first tally : Tally} {old : LinesModel} {number : ℕ} {e : SessionModel} (items : V → List ℕ) (o : Option V) (after : Option (List ℕ)) (new : LinesModel)
    → ((left : List ℕ) → source ≡ Some left → (rest : List ℕ) × (after ≡ Some rest) × MatchOption o (IsEnd old left new rest) (λ l. GivesLine (items l) old left new rest))
    → o ≡ None → (at : IsAt P r script source told sink first tally old number e) → (rest : List ℕ) × (after ≡ Some rest) × IsEnd old at.left new rest
end_told {old = old} items o after new tells none at =
    let gave = tells at.left at.rest in
    (gave.0, gave.1, subst (λ p. MatchOption p (IsEnd old at.left new gave.0) (λ l. GivesLine (items l) old at.left new gave.0)) none gave.2)

-- ---- the lines of what was given

pub given_are : {P : Type 0} {r : Rules} {script : List ℕ} {source told sink : Option (List ℕ)} {first tally : Tally} {m : LinesModel} {number : ℕ} {e : SessionModel} (at : IsAt P r script source told sink first tally m number e) → take m.given script ≡ at.done
given_are {m = m} at = ap (take m.given) at.stands.split ∙ ap (λ n. take n (at.done ++ (m.held ++ at.left))) at.given ∙ take-append_seam at.done (m.held ++ at.left)

pub lines_meant : {P : Type 0} {r : Rules} {script : List ℕ} {source told sink : Option (List ℕ)} {first tally : Tally} {m : LinesModel} {number : ℕ} {e : SessionModel} (at : IsAt P r script source told sink first tally m number e) → AreLines (lines_of (take m.given script))
lines_meant at = subst (λ (bs : List ℕ). AreLines (lines_of bs)) (sym (given_are at)) at.meant

pub lines_stand : {P : Type 0} {r : Rules} {script : List ℕ} {source told sink : Option (List ℕ)} {first tally : Tally} {m : LinesModel} {number : ℕ} {e : SessionModel} (at : IsAt P r script source told sink first tally m number e) → P → StandsFor e (after_lines r opening (lines_of (take m.given script)))
lines_stand {r = r} {e = e} at p = subst (λ (bs : List ℕ). StandsFor e (after_lines r opening (lines_of bs))) (sym (given_are at)) (at.session p)

pub lines_grow : {V P : Type 0} {r : Rules} {script : List ℕ} {source told sink : Option (List ℕ)} {first tally : Tally} {old : LinesModel} {number : ℕ} {e : SessionModel} (items : V → List ℕ) (o : Option V) (v : V) (line : List ℕ) (after : Option (List ℕ)) (new : LinesModel)
    → ((left : List ℕ) → source ≡ Some left → (rest : List ℕ) × (after ≡ Some rest) × MatchOption o (IsEnd old left new rest) (λ l. GivesLine (items l) old left new rest))
    → new.given + length new.held ≤ script_limit → o ≡ Some v → line ≡ items v → IsAt P r script source told sink first tally old number e → lines_of (take new.given script) ≡ lines_of (take old.given script) ++ (line ∷ [])
unfolding took_told take_line
lines_grow {script = script} items o v line after new tells within some is at =
    let took = took_told items o v line after new tells within some is at in
    let more : take new.given script ≡ took.more = ap (take new.given) took.stands.split ∙ ap (λ n. take n (took.more ++ (new.held ++ took.left))) took.given ∙ take-append_seam took.more (new.held ++ took.left) in
    ap lines_of more ∙ took.lines ∙ ap (λ (bs : List ℕ). lines_of bs ++ (line ∷ [])) (sym (given_are at))
