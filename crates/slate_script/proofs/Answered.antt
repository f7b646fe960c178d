-- Lists of lines that are answered in turn.
use Rattle.std.proofs.Common.{◌≡◌, ℕ, suc, ◌+◌, Bool, true, false, cond, ◌||◌, ◌⊎◌, inl, inr, List, [], ◌∷◌, ◌++◌, length, Option, Some, None, option_map, is_some, IsTrue, refl, sym, ap, ◌∙◌, arith}
use Rattle.std.specs.List.{AllByRecursion, flat_map}
use Rattle.std.proofs.lemmas.List.{append-nil}
use Rattle.std.proofs.lemmas.List.Concat.{flat_map-append}
use Rattle.slate_txn.specs.declared.line.Line.{Line}
use Rattle.slate_txn.specs.State.{Rules, State, opening}
use Rattle.slate_txn.specs.Step.{step, answers, after}
use Rattle.slate_language.specs.Grammar.{IsLine}
use Rattle.slate_language.specs.Parse.{parse}
use Rattle.slate_language.specs.Tally.{tallied}
use Rattle.slate_language.specs.declared.tally.Tally.{Tally}
use Rattle.slate_language.proofs.TallyLaws.{tallied_append}
use Rattle.slate_language.specs.Replies.{is_silent, onto_meanings, meanings, reply_line, after_lines, replies_from, replies_to}
use Rattle.slate_script.specs.Run.{is_line, first_other, AreLines}
use Rattle.slate_language.proofs.ParseLaws.{parse_is}
use Rattle.slate_language.proofs.ParseOnly.{parse_only}
use Rattle.slate_types.proofs.Plain.{neither}

-- ---- more lines

pub lines_more : (ls more : List (List ℕ)) → AreLines ls → AreLines more → AreLines (ls ++ more)
lines_more [] more h k = k
lines_more (l ∷ ls) more h k = (h.0, lines_more ls more h.1 k)

onto_more : (silent : Bool) (read : Option Line) (ls more : List Line) → (silent || is_some read) ≡ true → onto_meanings silent read (ls ++ more) ≡ onto_meanings silent read ls ++ more
onto_more true read ls more h = refl
onto_more false None ls more h = cc
onto_more false (Some line) ls more h = refl

pub meanings_append : (ls more : List (List ℕ)) → AreLines ls → meanings (ls ++ more) ≡ meanings ls ++ meanings more
meanings_append [] more h = refl
meanings_append (l ∷ ls) more h =
    ap (onto_meanings (is_silent l) (parse l)) (meanings_append ls more h.1) ∙ onto_more (is_silent l) (parse l) (meanings ls) (meanings more) h.0

answers_append : (r : Rules) (s : State) (ls more : List Line) → answers r s (ls ++ more) ≡ answers r s ls ++ answers r (after r s ls) more
answers_append r s [] more = refl
answers_append r s (l ∷ ls) more = ap (λ rest. (step r s l).1 ∷ rest) (answers_append r (step r s l).0 ls more)

after_append : (r : Rules) (s : State) (ls more : List Line) → after r s (ls ++ more) ≡ after r (after r s ls) more
after_append r s [] more = refl
after_append r s (l ∷ ls) more = after_append r (step r s l).0 ls more

pub replies_append : (r : Rules) (s : State) (ls more : List (List ℕ)) → AreLines ls → replies_from r s (ls ++ more) ≡ replies_from r s ls ++ replies_from r (after_lines r s ls) more
replies_append r s ls more h =
    ap (λ ms. flat_map reply_line (answers r s ms)) (meanings_append ls more h)
    ∙ ap (flat_map reply_line) (answers_append r s (meanings ls) (meanings more))
    ∙ flat_map-append reply_line (answers r s (meanings ls)) (answers r (after r s (meanings ls)) (meanings more))

pub state_append : (r : Rules) (s : State) (ls more : List (List ℕ)) → AreLines ls → after_lines r s (ls ++ more) ≡ after_lines r (after_lines r s ls) more
state_append r s ls more h = ap (after r s) (meanings_append ls more h) ∙ after_append r s (meanings ls) (meanings more)

pub tally_append : (t : Tally) (r : Rules) (s : State) (ls more : List (List ℕ)) → AreLines ls →
    tallied t (answers r s (meanings (ls ++ more))) ≡ tallied (tallied t (answers r s (meanings ls))) (answers r (after_lines r s ls) (meanings more))
tally_append t r s ls more h =
    ap (λ ms. tallied t (answers r s ms)) (meanings_append ls more h)
    ∙ ap (tallied t) (answers_append r s (meanings ls) (meanings more))
    ∙ tallied_append t (answers r s (meanings ls)) (answers r (after r s (meanings ls)) (meanings more))

-- ---- a line that is none

none_of : (read : Option Line) → is_some read ≡ false → read ≡ None
none_of None h = refl
none_of (Some line) h = cc

stops : (l : List ℕ) (more : List (List ℕ)) → is_line l ≡ false → meanings (l ∷ more) ≡ []
stops l more h =
    let parts = neither (is_silent l) (is_some (parse l)) h in
    (λ i. onto_meanings (parts.0 i) (none_of (parse l) parts.1 i) (meanings more))

-- it has no reply, and none stands behind it
pub replies_stop : (r : Rules) (ls : List (List ℕ)) (l : List ℕ) (more : List (List ℕ)) → AreLines ls → is_line l ≡ false → replies_to r (ls ++ (l ∷ more)) ≡ replies_to r ls
replies_stop r ls l more h other =
    ap (λ ms. flat_map reply_line (answers r opening ms)) (meanings_append ls (l ∷ more) h ∙ ap (λ ms. meanings ls ++ ms) (stops l more other) ∙ append-nil (meanings ls))

pub other_none : (ls : List (List ℕ)) → AreLines ls → first_other ls ≡ None
other_none [] h = refl
other_none (l ∷ ls) h = (λ i. cond (h.0 i) (option_map suc (first_other ls)) (Some 1)) ∙ ap (option_map suc) (other_none ls h.1)

pub other_first : (ls : List (List ℕ)) (l : List ℕ) (more : List (List ℕ)) → AreLines ls → is_line l ≡ false → first_other (ls ++ (l ∷ more)) ≡ Some (length ls + 1)
other_first [] l more h other = ap (λ t. cond t (option_map suc (first_other more)) (Some 1)) other
other_first (x ∷ ls) l more h other =
    (λ i. cond (h.0 i) (option_map suc (first_other (ls ++ (l ∷ more)))) (Some 1))
    ∙ ap (option_map suc) (other_first ls l more h.1 other) ∙ ap Some (one_more (length ls))
  where
    one_more : (n : ℕ) → suc (n + 1) ≡ suc n + 1
    one_more n = omega arith

none_under : (o : Option ℕ) → option_map suc o ≡ None → o ≡ None
none_under None h = refl
none_under (Some n) h = cc

pub none_other : (ls : List (List ℕ)) → first_other ls ≡ None → AreLines ls
none_other [] h = tt
none_other (l ∷ ls) h = by (is_line l) refl (none_other ls) h
  where
    by : (t : Bool) → is_line l ≡ t → (first_other ls ≡ None → AreLines ls) → cond t (option_map suc (first_other ls)) (Some 1) ≡ None → AreLines (l ∷ ls)
    by true is rest h = (is, rest (none_under (first_other ls) h))
    by false is rest h = cc

-- ---- what is in the grammar means something, and what means something is in it

abbrev pub AreFormed : List (List ℕ) → Type 0
AreFormed ls = AllByRecursion (λ l. IsTrue (is_silent l) ⊎ ((line : Line) × IsLine l line)) ls

line_formed : (l : List ℕ) → IsTrue (is_line l) → IsTrue (is_silent l) ⊎ ((line : Line) × IsLine l line)
line_formed l h = by (is_silent l) (parse l) refl refl h
  where
    by : (s : Bool) (o : Option Line) → is_silent l ≡ s → parse l ≡ o → (s || is_some o) ≡ true → IsTrue (is_silent l) ⊎ ((line : Line) × IsLine l line)
    by true o silent is h = inl silent
    by false None silent is h = cc
    by false (Some line) silent is h = inr (line, parse_only l line is)

formed_is_line : (l : List ℕ) → IsTrue (is_silent l) ⊎ ((line : Line) × IsLine l line) → IsTrue (is_line l)
formed_is_line l (inl silent) = ap (λ t. t || is_some (parse l)) silent
formed_is_line l (inr h) = ap (λ o. is_silent l || is_some o) (parse_is l h.0 h.1) ∙ or_true (is_silent l)
  where
    or_true : (a : Bool) → (a || true) ≡ true
    or_true true = refl
    or_true false = refl

pub lines_formed : (ls : List (List ℕ)) → AreLines ls → AreFormed ls
lines_formed [] h = tt
lines_formed (l ∷ ls) h = (line_formed l h.0, lines_formed ls h.1)

pub formed_lines : (ls : List (List ℕ)) → AreFormed ls → AreLines ls
formed_lines [] h = tt
formed_lines (l ∷ ls) h = (formed_is_line l h.0, formed_lines ls h.1)

-- ---- one line

pub one_reply : (r : Rules) (s : State) (l : List ℕ) (line : Line) → is_silent l ≡ false → parse l ≡ Some line → replies_from r s (l ∷ []) ≡ reply_line (step r s line).1
one_reply r s l line loud is = (λ i. flat_map reply_line (answers r s (onto_meanings (loud i) (is i) []))) ∙ append-nil (reply_line (step r s line).1)
