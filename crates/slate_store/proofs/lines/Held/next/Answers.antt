use Rattle.std.proofs.Common.{◌≡◌, ◌∙◌, ◌+◌, ◌<◌, ◌++◌, [], ℕ, length, take, drop, arith, length-append, ap, sym, refl, ◌∷◌, ◌⊎◌, inl, inr, Result, Ok, Err, subst}
use Rattle.slate_types.specs.declared.error.SlateDBError.{SlateDBError}
use Rattle.slate_types.specs.declared.error.SlateDBError.TheVariants.{OutOfMemory, ReadFault, ScriptTooLong}
use Rattle.slate_types.specs.Faults.{Rose}
use Rattle.slate_store.specs.Lines.{script_limit, HasNoEnd}
use Rattle.slate_store.specs.Held.{held_bytes, model_of, unread}
use Rattle.std.proofs.lemmas.Result.{err_from_is_err_and, IfOk-from_err}
use Rattle.slate_store.proofs.Steps.{last_further, last_counted, held_line, err_is, refused, on_err, keeps_same, gives_cut, gives_last, keeps_taken, held_taken}
use Rattle.slate_store.proofs.lines.Held.next.Goals as goal

no_refusal : {T : Type 0} (x : T) (e : SlateDBError) → Ok x ≡ Err e → ⊥
no_refusal x e h = cc

unless_fault : {P : Type 0} (n : ℕ) → (Ok n ≡ Err ReadFault) ⊎ P → P
unless_fault n (inl is) = absurd (no_refusal n ReadFault is)
unless_fault n (inr is) = is

memory_no_fault : {T : Type 0} (r : Result T SlateDBError) → r ≡ Err OutOfMemory → r ≡ Err ReadFault → ⊥
memory_no_fault r h k = cc

memory_no_length : {T : Type 0} (r : Result T SlateDBError) → r ≡ Err OutOfMemory → r ≡ Err ScriptTooLong → ⊥
memory_no_length r h k = cc

fault_or : {F : Type 0} (r : Result ℕ SlateDBError) (x : SlateDBError) (a b d : ℕ) → r ≡ Err x → (r ≡ Err ReadFault) ⊎ (a ≡ b) → (x ≡ ReadFault → F) → b ≡ d → F ⊎ (a ≡ d)
fault_or r x a b d is (inl h) f e = inl (f (err_is r x ReadFault is h))
fault_or r x a b d is (inr h) f e = inr (h ∙ e)

pub returns-in-Some-clause-told : goal.returns-in-Some-clause-told
returns-in-Some-clause-told g c = λ left told.
    let (rest, is, keeps) = c.loop-line.invariant.told left told in
    let line = rw c.in-Some.is at c.in_ok-line.ensures.line in
    (rest, is, gives_cut (model_of c.args.self.now) (model_of c.loop-line.self) (model_of c.cut.new.self) left rest c.in-Some.line.items keeps line.0 line.1 (omega arith))

pub returns-then-branch-eq0-clause-told : goal.returns-then-branch-eq0-clause-told
returns-then-branch-eq0-clause-told g c = λ left told.
    let n : ℕ = c.in_ok-fill.field-0 in
    let (more, is, keeps) = c.loop-line.invariant.told left told in
    let none = rw c.in_default.is at c.in_ok-line.ensures.none in
    let ok = c.in_ok-fill.ensures.ok in
    let bytes = c.in_ok-fill.ensures.bytes more is in
    let over : drop n more ≡ [] = rw c.if-branch-eq0.true (bytes.2 c.if-branch-eq0.true) in
    let grown : length (held_bytes c.fill.new.self) ≡ length (held_bytes c.loop-line.self) + n
    = omega (arith, length-append c.fill.new.self.line.items (unread c.fill.new.self), ap length c.in_ok-fill.ensures.line, ap length none.0, ok.0) in
    let given : (model_of c.fill.new.self).given ≡ (model_of c.loop-line.self).given = omega (arith, grown, ok.1) in
    let held : held_bytes c.fill.new.self ≡ held_bytes c.loop-line.self ++ take n more = held_taken _ _ _ _ _ c.in_ok-fill.ensures.line none.0 bytes.0 in
    let kept = keeps_taken (model_of c.args.self.now) (model_of c.loop-line.self) (model_of c.fill.new.self) left more n keeps held given in
    let same : (model_of c.last.new.self).given + length (held_bytes c.last.new.self) ≡ (model_of c.fill.new.self).given + length (held_bytes c.fill.new.self) = omega arith in
    let below : (model_of c.last.new.self).given < script_limit = omega (arith, c.in_ok-fill.ensures.limit, ok.1) in
    (drop n more, bytes.1, gives_last (λ v. v.items) c.last.result (model_of c.args.self.now) (model_of c.fill.new.self) (model_of c.last.new.self) left (drop n more) kept over c.last.ensures.bytes same below c.last.ensures.line c.last.ensures.none)

pub loop-line-preserved : goal.loop-line-preserved
loop-line-preserved g c =
    let n : ℕ = c.in_ok-fill.field-0 in
    let none = rw c.in_default.is at c.in_ok-line.ensures.none in
    let ok = c.in_ok-fill.ensures.ok in
    let grown : length (held_bytes c.fill.new.self) ≡ length (held_bytes c.loop-line.self) + n
    = omega (arith, length-append c.fill.new.self.line.items (unread c.fill.new.self), ap length c.in_ok-fill.ensures.line, ap length none.0, ok.0) in
    let given : (model_of c.fill.new.self).given ≡ (model_of c.loop-line.self).given = omega (arith, grown, ok.1) in
    record {
      whole = c.in_ok-fill.ensures.whole;
      given = omega (arith, given);
      told = λ left told.
          let (more, is, keeps) = c.loop-line.invariant.told left told in
          let bytes = c.in_ok-fill.ensures.bytes more is in
          let held : held_bytes c.fill.new.self ≡ held_bytes c.loop-line.self ++ take n more = held_taken _ _ _ _ _ c.in_ok-fill.ensures.line none.0 bytes.0 in
          (drop n more, bytes.1, keeps_taken (model_of c.args.self.now) (model_of c.loop-line.self) (model_of c.fill.new.self) left more n keeps held given);
      first = λ some. absurd (some (subst HasNoEnd (none.0 ∙ (c.loop-line.invariant.first some).1) c.in_ok-line.ensures.whole.partial));
      still = unless_fault c.in_ok-fill.field-0 c.in_ok-fill.ensures.still ∙ c.loop-line.invariant.still;
    }

pub returns-in_err-line : goal.returns-in_err-line
returns-in_err-line g c =
    let p = err_from_is_err_and c.from_residual.result c.from_residual.ensures.1 in
    record {
      whole = c.in_err-line.ensures.whole;
      told = (λ left told.
          let (rest, is, keeps) = c.loop-line.invariant.told left told in
          let same = c.in_err-line.ensures.err.1 in
          (rest, is, refused c.from_residual.result _ c.from_residual.ensures.0 (keeps_same (model_of c.args.self.now) (model_of c.loop-line.self) (model_of c.cut.new.self) left rest keeps same (omega (arith, ap length same)))));
      at_once = λ some. (c.loop-line.invariant.first some).0;
      further = IfOk-from_err c.from_residual.result _ c.from_residual.ensures.0;
      counted = IfOk-from_err c.from_residual.result _ c.from_residual.ensures.0;
      kept = on_err c.from_residual.result (omega (arith, ap length c.in_err-line.ensures.err.1));
      read_fault = (λ e.
          let p = err_from_is_err_and c.from_residual.result c.from_residual.ensures.1 in
          absurd (memory_no_fault c.from_residual.result (p.1 ∙ ap Err (p.2 ∙ c.in_err-line.ensures.err.0)) e));
      too_long = (λ e.
          let p = err_from_is_err_and c.from_residual.result c.from_residual.ensures.1 in
          absurd (memory_no_length c.from_residual.result (p.1 ∙ ap Err (p.2 ∙ c.in_err-line.ensures.err.0)) e));
      cause = rw p.1 (inl (p.2 ∙ c.in_err-line.ensures.err.0));
      later = omega (arith, c.loop-line.invariant.still);
      still = inr c.loop-line.invariant.still;
    }

pub returns-in-Some-clause-whole : goal.returns-in-Some-clause-whole
returns-in-Some-clause-whole g c = c.in_ok-line.ensures.whole

pub returns-in-Some-clause-at_once : goal.returns-in-Some-clause-at_once
returns-in-Some-clause-at_once g c = λ some. (c.loop-line.invariant.first some).0

pub returns-in-Some-clause-further : goal.returns-in-Some-clause-further
returns-in-Some-clause-further g c =
    let line = rw c.in-Some.is at c.in_ok-line.ensures.line in
    omega (arith, ap length line.1, length-append c.in-Some.line.items (10 ∷ held_bytes c.cut.new.self))

pub returns-in-Some-clause-counted : goal.returns-in-Some-clause-counted
returns-in-Some-clause-counted g c =
    let line = rw c.in-Some.is at c.in_ok-line.ensures.line in
    omega (arith, ap length line.1, length-append c.in-Some.line.items (10 ∷ held_bytes c.cut.new.self))

pub returns-in-Some-clause-read_fault : goal.returns-in-Some-clause-read_fault
returns-in-Some-clause-read_fault g c = λ e. absurd (no_refusal _ _ e)

pub returns-in-Some-clause-too_long : goal.returns-in-Some-clause-too_long
returns-in-Some-clause-too_long g c = λ e. absurd (no_refusal _ _ e)

pub returns-in-Some-clause-later : goal.returns-in-Some-clause-later
returns-in-Some-clause-later g c = omega (arith, c.loop-line.invariant.still)

pub returns-in-Some-clause-still : goal.returns-in-Some-clause-still
returns-in-Some-clause-still g c = inr c.loop-line.invariant.still

pub returns-in_err-fill : goal.returns-in_err-fill
returns-in_err-fill g c =
    let p = err_from_is_err_and c.from_residual-in_err-fill.result c.from_residual-in_err-fill.ensures.1 in
    record {
      whole = c.in_err-fill.ensures.whole;
      told = (λ left told.
          let (rest, is, keeps) = c.loop-line.invariant.told left told in
          let none = rw c.in_default.is at c.in_ok-line.ensures.none in
          let err = c.in_err-fill.ensures.err in
          let new = c.fill.new.self in
          let same : held_bytes new ≡ held_bytes c.loop-line.self = held_line new.line.items new.piece.items new.start new.«end» err.0 ∙ c.in_err-fill.ensures.line ∙ none.0 in
          (rest, err.2 ∙ is, refused c.from_residual-in_err-fill.result _ c.from_residual-in_err-fill.ensures.0 (keeps_same (model_of c.args.self.now) (model_of c.loop-line.self) (model_of new) left rest keeps same (omega (arith, ap length same, err.1)))));
      at_once = (λ some.
          let none = rw c.in_default.is at c.in_ok-line.ensures.none in
          absurd (some (subst HasNoEnd (none.0 ∙ (c.loop-line.invariant.first some).1) c.in_ok-line.ensures.whole.partial)));
      further = IfOk-from_err c.from_residual-in_err-fill.result _ c.from_residual-in_err-fill.ensures.0;
      counted = IfOk-from_err c.from_residual-in_err-fill.result _ c.from_residual-in_err-fill.ensures.0;
      kept = (let none = rw c.in_default.is at c.in_ok-line.ensures.none in
          let err = c.in_err-fill.ensures.err in
          let new = c.fill.new.self in
          let same : held_bytes new ≡ held_bytes c.loop-line.self = held_line new.line.items new.piece.items new.start new.«end» err.0 ∙ c.in_err-fill.ensures.line ∙ none.0 in
          on_err c.from_residual-in_err-fill.result (omega (arith, ap length same, err.1)));
      read_fault = (λ e.
          let p = err_from_is_err_and c.from_residual-in_err-fill.result c.from_residual-in_err-fill.ensures.1 in
          let fault : c.in_err-fill.field-0.0 ≡ ReadFault = sym p.2 ∙ err_is c.from_residual-in_err-fill.result _ _ p.1 e in
          let new = c.fill.new.self in (
            subst (λ n. Rose n (g.R.Source.faults c.fill.new.source)) c.loop-line.invariant.still (c.in_err-fill.ensures.read_fault (ap Err fault)),
            subst HasNoEnd (sym (held_line new.line.items new.piece.items new.start new.«end» c.in_err-fill.ensures.err.0 ∙ c.in_err-fill.ensures.line)) c.in_ok-line.ensures.whole.partial,
          ));
      too_long = (λ e.
          let p = err_from_is_err_and c.from_residual-in_err-fill.result c.from_residual-in_err-fill.ensures.1 in
          let long : c.in_err-fill.field-0.0 ≡ ScriptTooLong = sym p.2 ∙ err_is c.from_residual-in_err-fill.result _ _ p.1 e in
          let new = c.fill.new.self in (
            c.in_err-fill.ensures.too_long (ap Err long),
            subst HasNoEnd (sym (held_line new.line.items new.piece.items new.start new.«end» c.in_err-fill.ensures.err.0 ∙ c.in_err-fill.ensures.line)) c.in_ok-line.ensures.whole.partial,
          ));
      cause = rw (p.1, p.2) c.in_err-fill.ensures.cause;
      later = omega (arith, c.loop-line.invariant.still, c.in_err-fill.ensures.later);
      still = fault_or (Err c.in_err-fill.field-0.0) _ _ _ _ refl c.in_err-fill.ensures.still (λ h. p.1 ∙ ap Err (p.2 ∙ h)) c.loop-line.invariant.still;
    }

pub returns-then-branch-eq0-clause-at_once : goal.returns-then-branch-eq0-clause-at_once
returns-then-branch-eq0-clause-at_once g c = λ some.
    let none = rw c.in_default.is at c.in_ok-line.ensures.none in
    absurd (some (subst HasNoEnd (none.0 ∙ (c.loop-line.invariant.first some).1) c.in_ok-line.ensures.whole.partial))

pub returns-then-branch-eq0-clause-read_fault : goal.returns-then-branch-eq0-clause-read_fault
returns-then-branch-eq0-clause-read_fault g c = λ e. absurd (no_refusal _ _ e)

pub returns-then-branch-eq0-clause-too_long : goal.returns-then-branch-eq0-clause-too_long
returns-then-branch-eq0-clause-too_long g c = λ e. absurd (no_refusal _ _ e)

pub returns-then-branch-eq0-clause-later : goal.returns-then-branch-eq0-clause-later
returns-then-branch-eq0-clause-later g c = omega (arith, c.loop-line.invariant.still, c.in_ok-fill.ensures.later)

pub returns-then-branch-eq0-clause-still : goal.returns-then-branch-eq0-clause-still
returns-then-branch-eq0-clause-still g c = inr (unless_fault c.in_ok-fill.field-0 c.in_ok-fill.ensures.still ∙ c.loop-line.invariant.still)

pub returns-then-branch-eq0-clause-further : goal.returns-then-branch-eq0-clause-further
returns-then-branch-eq0-clause-further g c =
    let none = rw c.in_default.is at c.in_ok-line.ensures.none in
    let ok = c.in_ok-fill.ensures.ok in
    let grown : length (held_bytes c.fill.new.self) ≡ length (held_bytes c.loop-line.self) + c.in_ok-fill.field-0
    = omega (arith, length-append c.fill.new.self.line.items (unread c.fill.new.self), ap length c.in_ok-fill.ensures.line, ap length none.0, ok.0) in
    last_further (λ v. v.items) c.last.result (held_bytes c.fill.new.self) _ _ (omega (arith, grown, ok.1, ap length c.last.ensures.bytes)) c.last.ensures.line

pub returns-then-branch-eq0-clause-counted : goal.returns-then-branch-eq0-clause-counted
returns-then-branch-eq0-clause-counted g c =
    let none = rw c.in_default.is at c.in_ok-line.ensures.none in
    let ok = c.in_ok-fill.ensures.ok in
    let grown : length (held_bytes c.fill.new.self) ≡ length (held_bytes c.loop-line.self) + c.in_ok-fill.field-0
    = omega (arith, length-append c.fill.new.self.line.items (unread c.fill.new.self), ap length c.in_ok-fill.ensures.line, ap length none.0, ok.0) in
    last_counted (λ v. v.items) c.last.result (held_bytes c.fill.new.self) _ _ (omega (arith, grown, ok.1, ap length c.last.ensures.bytes)) c.last.ensures.line

pub returns-then-branch-eq0-clause-whole : goal.returns-then-branch-eq0-clause-whole
returns-then-branch-eq0-clause-whole g c = c.last.ensures.whole
