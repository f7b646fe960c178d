-- What a run has written where it ends: at an error of the reader, at a line that isn't answered, and at the end of the script.
use Rattle.std.proofs.Common.{◌≡◌, ◌<◌, ℕ, ◌⊎◌, Result, Ok, Err, List, [], ◌∷◌, ◌++◌, length, take, Option, Some, IsTrue, sym, ap, subst, ◌∙◌, append_assoc}
use Rattle.slate_types.specs.declared.error.SlateDBError.{SlateDBError}
use Rattle.slate_types.specs.declared.error.SlateDBError.TheVariants.{ScriptTooLong, ReadFault, WriteFault}
use Rattle.slate_store.specs.Lines.{lines_of, HasNoEnd, LinesModel, IsEnd, KeepsAll}
use Rattle.slate_txn.specs.State.{Rules, State, opening}
use Rattle.slate_txn.specs.Step.{answers}
use Rattle.slate_language.specs.declared.tally.Tally.{Tally}
use Rattle.slate_language.specs.Replies.{after_lines, meanings, replies_from, replies_to}
use Rattle.slate_language.specs.Tally.{tallied}
use Rattle.slate_script.specs.Run.{is_line, AnswersLine, HasSaid}
use Rattle.slate_script.specs.Session.{SessionModel}
use Rattle.slate_script.proofs.LineEnds.{error_of}
use Rattle.slate_script.proofs.RunEnds.{IsAtLimit, LineError, ReaderError, end_answered, end_there, is_no_error, line_memory, line_not_read, line_script, line_sink, reader_memory, reader_not_write, reader_script, reader_source, untouched}
use Rattle.slate_script.proofs.Taken.{IsAt, Took}

pub reader_says : {T P : Type 0} {r : Rules} {script : List ℕ} {source told sink : Option (List ℕ)} {first tally : Tally} {old : LinesModel} {number : ℕ} {e : SessionModel} (new : LinesModel) (before : List ℕ) (left : Option (List ℕ)) (error : SlateDBError)
    → ((some : List ℕ) → source ≡ Some some → (rest : List ℕ) × (left ≡ Some rest) × KeepsAll old some new rest) → (error ≡ ScriptTooLong → IsAtLimit new) → (error ≡ ReadFault → HasNoEnd new.held) → ReaderError error
    → IsAt P r script source told sink first tally old number e → P → told ≡ Some before → HasSaid {T = T} r script left before sink (Err error)
reader_says {r = r} new before left error tells full none cause at p told-is =
    let gave = tells at.left at.rest in
    record {
      whole = tt;
      by_script = λ by. reader_script new gave.0 before error at gave.2 full cause p told-is by;
      by_source = λ fault. (gave.0, replies_to r (lines_of at.done), gave.1, at.said p before told-is, reader_source new gave.0 at gave.2 (none (error_of error fault)));
      by_sink = λ fault. absurd (reader_not_write error cause (error_of error fault));
      by_part = λ which. (replies_to r (lines_of at.done), at.said p before told-is, reader_memory at);
    }

pub line_says : {T U P : Type 0} {r : Rules} {script line : List ℕ} {source told sink : Option (List ℕ)} {first tally : Tally} {m : LinesModel} {number : ℕ} {e : SessionModel} (new : SessionModel) (next : Tally) (before : List ℕ) (left after : Option (List ℕ)) (error : SlateDBError)
    → LineError number line error → (error ≡ WriteFault → IsTrue (is_line line)) → (error ≡ WriteFault) ⊎ (after ≡ sink)
    → Took P r script source told sink first tally m line number e → AnswersLine {T = U} r line e new sink after tally next (Err error) → P → told ≡ Some before → HasSaid {T = T} r script left before after (Err error)
line_says {r = r} {line = line} {sink = sink} {number = number} new next before left after error cause meant same took says p told-is = record {
  whole = tt;
  by_script = λ by. line_script after before error took cause same p told-is by;
  by_source = λ fault. absurd (line_not_read number line error cause (error_of error fault));
  by_sink = (λ fault.
      let kind : error ≡ WriteFault = error_of error fault in
      let begun : (n : ℕ) × (n < length reply) × (after ≡ Some ((before ++ done) ++ take n reply)) = says.begun state (before ++ done) (took.session p) (took.said p before told-is) (ap Err kind) in
      (done ++ take begun.0 reply, begun.2 ∙ ap Some (append_assoc before done (take begun.0 reply)), line_sink begun.0 took (meant kind) begun.1));
  by_part = λ which. (done, untouched error sink after same which ∙ took.said p before told-is, line_memory took);
}
  where
    done : List ℕ
    done = replies_to r (lines_of took.done)

    state : State
    state = after_lines r opening (lines_of took.done)

    reply : List ℕ
    reply = replies_from r state (line ∷ [])

pub end_says : {T P : Type 0} {v : T} {r : Rules} {script : List ℕ} {source told sink : Option (List ℕ)} {first tally : Tally} {old : LinesModel} {number : ℕ} {e : SessionModel} (new : LinesModel) (before : List ℕ) (after left : Option (List ℕ)) (at : IsAt P r script source told sink first tally old number e)
    → (rest : List ℕ) × (after ≡ Some rest) × IsEnd old at.left new rest → P → told ≡ Some before → HasSaid {T = T} r script left before sink (Ok v)
end_says new before after left at end p told-is = record {
  whole = end_answered new end.0 before at end.2 p told-is;
  by_script = tt;
  by_source = λ fault. absurd (is_no_error fault);
  by_sink = λ fault. absurd (is_no_error fault);
  by_part = tt;
}

pub end_counts : {P : Type 0} {r : Rules} {script : List ℕ} {source told sink : Option (List ℕ)} {first tally : Tally} {old : LinesModel} {number : ℕ} {e : SessionModel} (new : LinesModel) (after : Option (List ℕ)) (at : IsAt P r script source told sink first tally old number e)
    → (rest : List ℕ) × (after ≡ Some rest) × IsEnd old at.left new rest → P → tally ≡ tallied first (answers r opening (meanings (lines_of script)))
end_counts {r = r} {first = first} {tally = tally} new after at end p = subst (λ bs. tally ≡ tallied first (answers r opening (meanings (lines_of bs)))) (sym (end_there new end.0 at end.2).0) (at.counts p)
