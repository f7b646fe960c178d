-- What a line that is answered makes: the model's state and reply.
--     silent_line, meant_answered, silent_answered, failed_answered      a line that means nothing; one that was answered, one that needs no answer, and one that was refused
use Rattle.std.proofs.Common.{◌≡◌, ◌<◌, ℕ, true, false, ◌||◌, is_some, List, [], ◌∷◌, ◌++◌, length, take, Option, Some, Result, Ok, Err, OnOk, IsTrue, refl, sym, ap, ◌∙◌, subst, append-nil}
use Rattle.std.specs.List.{flat_map}
use Rattle.slate_types.specs.declared.error.SlateDBError.{SlateDBError}
use Rattle.slate_types.specs.declared.error.SlateDBError.TheVariants.{WriteFault}
use Rattle.slate_types.specs.Outside.{Objects}
use Rattle.slate_types.proofs.Exits.{on_ok_weaker}
use Rattle.slate_filter.specs.Policy.{Policy}
use Rattle.slate_mem.specs.KeyTests.{Segments}
use Rattle.slate_txn.specs.declared.line.Line.{Line}
use Rattle.slate_txn.specs.State.{Rules, State}
use Rattle.slate_txn.specs.Step.{step, after, answers}
use Rattle.slate_db.specs.Meaning.{Meaning}
use Rattle.slate_language.specs.declared.reply.Answer.{Answer}
use Rattle.slate_language.specs.declared.tally.Tally.{Tally}
use Rattle.slate_language.specs.Answers.{as_shown, reply_of}
use Rattle.slate_language.specs.Parse.{parse}
use Rattle.slate_language.specs.Replies.{is_silent, onto_meanings, reply_line, after_lines, replies_from}
use Rattle.slate_language.specs.Tally.{counted, tallied}
use Rattle.slate_language.proofs.ShownLaws.{shown_line}
use Rattle.slate_language.proofs.TallyLaws.{counted_shown}
use Rattle.slate_script.specs.Run.{is_line, AnswersLine}
use Rattle.slate_script.specs.Session.{SessionModel, StandsFor, StepsAs, IsRunning}
use Rattle.slate_script.proofs.Answered.{one_reply}
use Rattle.slate_script.proofs.LineEnds.{error_of}
use Rattle.slate_script.proofs.RunEnds.{is_no_error}
use Rattle.slate_script.proofs.Running.{always, its_rules}

pub silent_line : (l : List ℕ) → is_silent l ≡ true → IsTrue (is_line l)
silent_line l silent = ap (λ b. b || is_some (parse l)) silent

pub silent_answered : {V : Type 0} {v : V} (r : Rules) (l : List ℕ) (e : SessionModel) (sink : Option (List ℕ)) (tally : Tally) → is_silent l ≡ true → AnswersLine {T = V} r l e e sink sink tally tally (Ok v)
silent_answered r l e sink tally silent = record {
  stands = λ s stands. subst (StandsFor e) (λ i. after r s (onto_meanings (none i) (parse l) [])) stands;
  said = λ s before stands told. told ∙ ap Some (sym (append-nil before)) ∙ (λ i. Some (before ++ flat_map reply_line (answers r s (onto_meanings (none i) (parse l) []))));
  counts = λ s stands. λ i. tallied tally (answers r s (onto_meanings (none i) (parse l) []));
  begun = λ s before stands told fault. absurd (is_no_error fault);
}
  where
    none : true ≡ is_silent l
    none = sym silent

-- the answer is the model's, and its reply was written, or a front of that
pub meant_answered : {policies : List Policy} {m : Meaning} {seg : Segments} {r : Rules} {parts : Meaning} {objects : Option Objects} {e new : SessionModel} {V : Type 0} (result : Result V SlateDBError) (l : List ℕ) (line : Line) (a : Answer) (sink written : Option (List ℕ)) (first tally : Tally) →
    IsRunning policies m seg r parts objects e → is_silent l ≡ false → parse l ≡ Some line → tally ≡ counted first (reply_of a) →
    ((before : List ℕ) → sink ≡ Some before → OnOk result (written ≡ Some (before ++ reply_line (reply_of a)))) →
    ((before : List ℕ) → sink ≡ Some before → result ≡ Err WriteFault → (n : ℕ) × (n < length (reply_line (reply_of a))) × (written ≡ Some (before ++ take n (reply_line (reply_of a))))) →
    StepsAs parts seg e new line (Ok a) → AnswersLine r l e new sink written first tally result
meant_answered {r = r} {e = e} {new = new} result l line a sink written first tally h loud is counts ok part steps = record {
  stands = λ s stands. always result (subst (StandsFor new) (sym (λ i. after r s (onto_meanings (loud i) (is i) []))) (subst (λ x. StandsFor new (step x s line).0) (its_rules h) (steps s stands).0));
  said = λ s before stands told. on_ok_weaker result (λ all. all ∙ ap (λ bs. Some (before ++ bs)) (text s stands)) (ok before told);
  counts = λ s stands. always result (counts ∙ ap (counted first) (shown s stands) ∙ counted_shown first (step r s line).1 ∙ sym (λ i. tallied first (answers r s (onto_meanings (loud i) (is i) []))));
  begun = λ s before stands told fault. subst (λ bs. (n : ℕ) × (n < length bs) × (written ≡ Some (before ++ take n bs))) (text s stands) (part before told fault);
}
  where
    shown : (s : State) → StandsFor e s → reply_of a ≡ as_shown (step r s line).1
    shown s stands = (steps s stands).1 ∙ ap (λ x. as_shown (step x s line).1) (its_rules h)

    text : (s : State) → StandsFor e s → reply_line (reply_of a) ≡ replies_from r s (l ∷ [])
    text s stands = ap reply_line (shown s stands) ∙ shown_line (step r s line).1 ∙ sym (one_reply r s l line loud is)

-- of a line that was refused nothing is said but at a fault of the sink
pub failed_answered : {V : Type 0} (x : SlateDBError) (r : Rules) (l : List ℕ) (e new : SessionModel) (sink written : Option (List ℕ)) (first tally : Tally) → (x ≡ WriteFault → ⊥) → AnswersLine {T = V} r l e new sink written first tally (Err x)
failed_answered x r l e new sink written first tally none = record {
  stands = λ s stands. tt;
  said = λ s before stands told. tt;
  counts = λ s stands. tt;
  begun = λ s before stands told fault. absurd (none (error_of x fault));
}
