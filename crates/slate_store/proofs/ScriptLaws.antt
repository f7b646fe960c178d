-- Where a run stands in a script, and which errors a script has.
--     IsCut bytes      they are whole lines
--     Stands script done left      what was given of the script is whole lines, or all of it
use Rattle.std.proofs.Common.{◌≡◌, ℕ, suc, ◌+◌, ◌-◌, ◌≤◌, ◌<◌, Bool, true, false, cond, ◌⊎◌, inl, inr, List, [], ◌∷◌, ◌++◌, length, take, Option, Some, None, option_map, refl, sym, ap, subst, ◌∙◌, arith, append_assoc}
use Rattle.std.proofs.lemmas.List.{append-nil, length-append}
use Rattle.std.proofs.lemmas.Bool.{lt-ltb, le-ltb, ltb-false}
use Rattle.std.proofs.Math.Seq.{take-append_seam, take-append-add}
use Rattle.slate_types.specs.declared.error.SlateDBError.{SlateDBError}
use Rattle.slate_types.specs.declared.error.SlateDBError.TheVariants.{ScriptSyntax, ScriptTooLong, ReadFault, WriteFault}
use Rattle.slate_store.specs.Lines.{lines_of, whole_part, script_limit, HasNoEnd, LinesModel, GivesLine, IsEnd, KeepsAll}
use Rattle.slate_store.specs.Run.{LineTest, AreOwn, first_unknown, own_front, passes_limit, lines_within, run_error, error_in, IsOwnScript, IsProgramError}
use Rattle.slate_store.proofs.LineLaws.{taken_line_is_first, whole_lines_join, whole_parts_join, partial_line_is_not_whole, end_makes_whole}

-- whole lines: the last has its LF
abbrev pub IsCut : List ℕ → Type 0
IsCut bytes = whole_part bytes ≡ bytes

cut_append : (a b : List ℕ) → IsCut a → IsCut b → IsCut (a ++ b)
cut_append a b h k = whole_parts_join a b h ∙ ap (λ c. a ++ c) k

-- what is left; where the last line had no LF that is nothing
pub record Stands (script done left : List ℕ) : Type 0 where
  pub split : script ≡ done ++ left
  pub within : length done ≤ script_limit
  pub whole : IsCut done ⊎ ((left ≡ []) × (length done < script_limit))

-- ---- scripts that are too long, and others

pub long_is : (script : List ℕ) → script_limit ≤ length script → passes_limit script ≡ true
long_is script h = lt-ltb (script_limit - 1) (length script) (omega arith)

pub short_is : (script : List ℕ) → length script < script_limit → passes_limit script ≡ false
short_is script h = le-ltb (script_limit - 1) (length script) (omega arith)

pub short_than : (script : List ℕ) → passes_limit script ≡ false → length script < script_limit
short_than script h = let k : length script ≤ script_limit - 1 = ltb-false (script_limit - 1) (length script) h in omega arith

-- ---- the lines that a run can take begin with those that were given

take_front : (n : ℕ) (done left : List ℕ) → length done ≤ n → take n (done ++ left) ≡ done ++ take (n - length done) left
take_front n done left h =
    let sum : n ≡ length done + (n - length done) = omega arith in
    ap (λ m. take m (done ++ left)) sum ∙ take-append-add done left (n - length done)

cut_lines : (n : ℕ) (done left : List ℕ) → IsCut done → length done ≤ n → lines_of (whole_part (take n (done ++ left))) ≡ lines_of done ++ lines_of (whole_part (take (n - length done) left))
cut_lines n done left cut h =
    ap (λ bs. lines_of (whole_part bs)) (take_front n done left h)
    ∙ ap lines_of (whole_parts_join done (take (n - length done) left) cut)
    ∙ whole_lines_join done (whole_part (take (n - length done) left)) cut

pub taken_first : (script done left : List ℕ) → Stands script done left → (later : List (List ℕ)) × (lines_within script ≡ lines_of done ++ later)
taken_first script done left h = by h.whole
  where
    cut_by : (t : Bool) → IsCut done → (later : List (List ℕ)) × (cond t (lines_of (whole_part (take script_limit script))) (lines_of script) ≡ lines_of done ++ later)
    cut_by true cut = (lines_of (whole_part (take (script_limit - length done) left)), ap (λ bs. lines_of (whole_part (take script_limit bs))) h.split ∙ cut_lines script_limit done left cut h.within)
    cut_by false cut = (lines_of left, ap lines_of h.split ∙ whole_lines_join done left cut)

    by : IsCut done ⊎ ((left ≡ []) × (length done < script_limit)) → (later : List (List ℕ)) × (lines_within script ≡ lines_of done ++ later)
    by (inl cut) = cut_by (passes_limit script) cut
    by (inr all) =
        let same : script ≡ done = h.split ∙ ap (λ bs. done ++ bs) all.0 ∙ append-nil done in
        let short : length script < script_limit = rw same all.1 in
        ([], ap (λ t. cond t (lines_of (whole_part (take script_limit script))) (lines_of script)) (short_is script short) ∙ ap lines_of same ∙ sym (append-nil (lines_of done)))

pub lines_begin : (script done left : List ℕ) → Stands script done left → (later : List (List ℕ)) × (lines_of script ≡ lines_of done ++ later)
lines_begin script done left h = by h.whole
  where
    by : IsCut done ⊎ ((left ≡ []) × (length done < script_limit)) → (later : List (List ℕ)) × (lines_of script ≡ lines_of done ++ later)
    by (inl cut) = (lines_of left, ap lines_of h.split ∙ whole_lines_join done left cut)
    by (inr all) = ([], ap lines_of (h.split ∙ ap (λ bs. done ++ bs) all.0 ∙ append-nil done) ∙ sym (append-nil (lines_of done)))

-- ---- one line more

pub record Grown (script done line left : List ℕ) (given : ℕ) : Type 0 where
  pub more : List ℕ
  pub stands : Stands script more left
  pub lines : lines_of more ≡ lines_of done ++ (line ∷ [])
  pub counts : given ≡ length more

not_empty : (line after : List ℕ) → [] ≡ line ++ (10 ∷ after) → ⊥
not_empty [] after h = cc
not_empty (b ∷ line) after h = cc

pub grow : (script done line left rest : List ℕ) (old new : LinesModel) → Stands script done (old.held ++ left) → old.given ≡ length done
    → GivesLine line old left new rest → new.given ≤ script_limit → Grown script done line (new.held ++ rest) new.given
grow script done line left rest old new h counts gives within = by h.whole gives.takes.1
  where
    before : List ℕ
    before = old.held ++ left

    after : List ℕ
    after = new.held ++ rest

    by_end : IsCut done → before ≡ line ++ (10 ∷ after) → Grown script done line after new.given
    by_end cut is =
        let size : length before ≡ length line + suc (length after) = ap length is ∙ length-append line (10 ∷ after) in
        let sum : length (done ++ (line ++ (10 ∷ []))) ≡ length done + (length line + 1) = length-append done (line ++ (10 ∷ [])) ∙ ap (λ n. length done + n) (length-append line (10 ∷ [])) in
        let given : new.given ≡ length (done ++ (line ++ (10 ∷ []))) = omega (arith, gives.counts, sum, size, counts) in
        record {
          more = done ++ (line ++ (10 ∷ []));
          stands = record {
            split = h.split ∙ ap (λ bs. done ++ bs) (is ∙ sym (append_assoc line (10 ∷ []) after)) ∙ sym (append_assoc done (line ++ (10 ∷ [])) after);
            within = omega arith;
            whole = inl (cut_append done (line ++ (10 ∷ [])) cut (end_makes_whole line));
          };
          lines = whole_lines_join done (line ++ (10 ∷ [])) cut ∙ ap (λ ls. lines_of done ++ ls) (taken_line_is_first line (line ++ (10 ∷ [])) [] (gives.takes.0, inl refl));
          counts = given;
        }

    by_last : IsCut done → (before ≡ line) × (0 < length line) × (after ≡ []) → Grown script done line after new.given
    by_last cut is =
        let size : length before ≡ length line = ap length is.0 in
        let none : length after ≡ 0 = ap length is.2 in
        let sum : length (done ++ line) ≡ length done + length line = length-append done line in
        let given : new.given ≡ length (done ++ line) = omega (arith, gives.counts, sum, size, none, counts) in
        record {
          more = done ++ line;
          stands = record {
            split = h.split ∙ ap (λ bs. done ++ bs) is.0 ∙ sym (append-nil (done ++ line)) ∙ ap (λ bs. (done ++ line) ++ bs) (sym is.2);
            within = omega arith;
            whole = inr (is.2, (rw (← given) (gives.below is.0)));
          };
          lines = whole_lines_join done line cut ∙ ap (λ ls. lines_of done ++ ls) (taken_line_is_first line line [] (gives.takes.0, inr (refl, is.1, refl)));
          counts = given;
        }

    by : IsCut done ⊎ ((before ≡ []) × (length done < script_limit)) → (before ≡ line ++ (10 ∷ after)) ⊎ ((before ≡ line) × (0 < length line) × (after ≡ [])) → Grown script done line after new.given
    by (inl cut) (inl is) = by_end cut is
    by (inl cut) (inr is) = by_last cut is
    by (inr all) (inl is) = absurd (not_empty line after (sym all.0 ∙ is))
    by (inr all) (inr is) =
        let none : length line ≡ 0 = ap length (sym is.0 ∙ all.0) in
        let some : 0 < length line = is.1 in
        absurd (omega arith)

-- ---- how a run ends

-- at the end of the script
pub ends : (script done left rest : List ℕ) (old new : LinesModel) → Stands script done (old.held ++ left) → old.given ≡ length done → IsEnd old left new rest → (script ≡ done) × (length script < script_limit) × (rest ≡ [])
ends script done left rest old new h counts is =
    let same : script ≡ done = h.split ∙ ap (λ bs. done ++ bs) is.nothing ∙ append-nil done in
    let short : length script < script_limit = rw same (omega (arith, is.below, is.counts, counts)) in
    (same, short, second new.held rest is.still)
  where
    second : (a b : List ℕ) → a ++ b ≡ [] → b ≡ []
    second [] b h = h
    second (x ∷ a) b h = cc

pub first_empty : (a b : List ℕ) → a ++ b ≡ [] → a ≡ []
first_empty [] b h = refl
first_empty (x ∷ a) b h = cc

-- where as many bytes were taken as may be
pub too_long : (script done left rest : List ℕ) (old new : LinesModel) → Stands script done (old.held ++ left) → old.given ≡ length done → KeepsAll old left new rest
    → new.given + length new.held ≡ script_limit → HasNoEnd new.held → (passes_limit script ≡ true) × (lines_within script ≡ lines_of done)
too_long script done left rest old new h counts keeps full none = by h.whole
  where
    held : List ℕ
    held = new.held

    split : script ≡ done ++ (held ++ rest)
    split = h.split ∙ ap (λ bs. done ++ bs) (sym keeps.bytes)

    size : length done + length held ≡ script_limit
    size = omega (arith, keeps.counts, counts, full)

    taken : take script_limit script ≡ done ++ held
    taken =
        ap (take script_limit) (split ∙ sym (append_assoc done held rest))
        ∙ ap (λ n. take n ((done ++ held) ++ rest)) (sym (length-append done held ∙ size)) ∙ take-append_seam (done ++ held) rest

    long : passes_limit script ≡ true
    long = long_is script (omega (arith, ap length split, length-append done (held ++ rest), length-append held rest, size))

    by : IsCut done ⊎ ((old.held ++ left ≡ []) × (length done < script_limit)) → (passes_limit script ≡ true) × (lines_within script ≡ lines_of done)
    by (inl cut) =
        (long, ap (λ t. cond t (lines_of (whole_part (take script_limit script))) (lines_of script)) long ∙ ap (λ bs. lines_of (whole_part bs)) taken ∙ ap lines_of (partial_line_is_not_whole done held none cut))
    by (inr all) =
        let nothing : length held ≡ 0 = ap length (first_empty held rest (keeps.bytes ∙ all.0)) in
        absurd (omega (arith, all.1, size, nothing))

-- ---- lines that are a program's own

pub own_more : (takes : LineTest) (ls more : List (List ℕ)) → AreOwn takes ls → AreOwn takes more → AreOwn takes (ls ++ more)
own_more takes [] more h k = k
own_more takes (l ∷ ls) more h k = (h.0, own_more takes ls more h.1 k)

pub other_none : (takes : LineTest) (ls : List (List ℕ)) → AreOwn takes ls → first_unknown takes ls ≡ None
other_none takes [] h = refl
other_none takes (l ∷ ls) h = (λ i. cond (h.0 i) (option_map suc (first_unknown takes ls)) (Some 1)) ∙ ap (option_map suc) (other_none takes ls h.1)

pub other_first : (takes : LineTest) (ls : List (List ℕ)) (l : List ℕ) (more : List (List ℕ)) → AreOwn takes ls → takes l ≡ false → first_unknown takes (ls ++ (l ∷ more)) ≡ Some (length ls + 1)
other_first takes [] l more h other = ap (λ t. cond t (option_map suc (first_unknown takes more)) (Some 1)) other
other_first takes (x ∷ ls) l more h other =
    (λ i. cond (h.0 i) (option_map suc (first_unknown takes (ls ++ (l ∷ more)))) (Some 1))
    ∙ ap (option_map suc) (other_first takes ls l more h.1 other) ∙ ap Some (one_more (length ls))
  where
    one_more : (n : ℕ) → suc (n + 1) ≡ suc n + 1
    one_more n = omega arith

none_under : (o : Option ℕ) → option_map suc o ≡ None → o ≡ None
none_under None h = refl
none_under (Some n) h = cc

none_other : (takes : LineTest) (ls : List (List ℕ)) → first_unknown takes ls ≡ None → AreOwn takes ls
none_other takes [] h = tt
none_other takes (l ∷ ls) h = by (takes l) refl (none_other takes ls) h
  where
    by : (t : Bool) → takes l ≡ t → (first_unknown takes ls ≡ None → AreOwn takes ls) → cond t (option_map suc (first_unknown takes ls)) (Some 1) ≡ None → AreOwn takes (l ∷ ls)
    by true is rest h = (is, rest (none_under (first_unknown takes ls) h))
    by false is rest h = cc

-- the lines before the first that isn't
pub front_all : (takes : LineTest) (ls : List (List ℕ)) → AreOwn takes ls → own_front takes ls ≡ ls
front_all takes [] h = refl
front_all takes (l ∷ ls) h = (λ i. cond (h.0 i) (l ∷ own_front takes ls) []) ∙ ap (λ rest. l ∷ rest) (front_all takes ls h.1)

pub front_stops : (takes : LineTest) (ls : List (List ℕ)) (l : List ℕ) (more : List (List ℕ)) → AreOwn takes ls → takes l ≡ false → own_front takes (ls ++ (l ∷ more)) ≡ ls
front_stops takes [] l more h other = ap (λ t. cond t (l ∷ own_front takes more) []) other
front_stops takes (x ∷ ls) l more h other = (λ i. cond (h.0 i) (x ∷ own_front takes (ls ++ (l ∷ more))) []) ∙ ap (λ rest. x ∷ rest) (front_stops takes ls l more h.1 other)

-- ---- a script's error

none_error : (o : Option ℕ) (long : Bool) → run_error o long ≡ None → (o ≡ None) × (long ≡ false)
none_error None true h = cc
none_error None false h = (refl, refl)
none_error (Some n) long h = cc

pub no_error_formed : (takes : LineTest) (script : List ℕ) → error_in takes script ≡ None → IsOwnScript takes script
no_error_formed takes script h =
    let parts = none_error (first_unknown takes (lines_within script)) (passes_limit script) h in
    let taken : lines_within script ≡ lines_of script = ap (λ t. cond t (lines_of (whole_part (take script_limit script))) (lines_of script)) parts.1 in
    record { short = short_than script parts.1; own = none_other takes (lines_of script) (ap (first_unknown takes) (sym taken) ∙ parts.0) }

pub formed_no_error : (takes : LineTest) (script : List ℕ) → IsOwnScript takes script → error_in takes script ≡ None
formed_no_error takes script h =
    let long : passes_limit script ≡ false = short_is script h.short in
    (λ i. run_error (first_unknown takes (cond (long i) (lines_of (whole_part (take script_limit script))) (lines_of script))) (long i))
    ∙ ap (λ o. run_error o false) (other_none takes (lines_of script) h.own)

some_error : (e f : SlateDBError) → Some f ≡ Some e → e ≡ f
some_error e f h = cc

-- a script's error is that of no source, no sink and no program
pub script_kinds : (takes : LineTest) (script : List ℕ) (e : SlateDBError) → error_in takes script ≡ Some e → ((e ≡ ReadFault) ⊎ (e ≡ WriteFault) ⊎ IsProgramError e) → ⊥
script_kinds takes script e = by (first_unknown takes (lines_within script)) (passes_limit script)
  where
    by : (o : Option ℕ) (long : Bool) → run_error o long ≡ Some e → ((e ≡ ReadFault) ⊎ (e ≡ WriteFault) ⊎ IsProgramError e) → ⊥
    by None true h (inl is) = cc
    by None true h (inr (inl is)) = cc
    by None true h (inr (inr own)) = subst IsProgramError (some_error e ScriptTooLong h) own
    by None false h is = cc
    by (Some n) long h (inl is) = cc
    by (Some n) long h (inr (inl is)) = cc
    by (Some n) long h (inr (inr own)) = subst IsProgramError (some_error e (ScriptSyntax n) h) own
