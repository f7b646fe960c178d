use Rattle.std.proofs.Common.{◌≡◌, ◌∙◌, ◌++◌, ℕ, List, take, ◌+◌, ◌-◌, ◌≤◌, drop, length-take, refl, sym, ap, subst, inl, inr, length, length-append, arith, Result, Err}
use Rattle.std.specs.Prelude.{vec_len, slice_range}
use Rattle.std.specs.Vec.{with_items}
use Rattle.std.proofs.lemmas.List.{take-take, take-append-le}
use Rattle.std.proofs.lemmas.Result.{err_from_is_err_and, IfOk-from_err}
use Rattle.slate_types.specs.declared.error.SlateDBError.{SlateDBError}
use Rattle.slate_types.specs.declared.error.SlateDBError.TheVariants.{OutOfMemory, ReadFault, ScriptTooLong}
use Rattle.slate_store.specs.declared.lines.Held.{Held}
use Rattle.slate_store.specs.Lines.{HasNoEnd, script_limit}
use Rattle.slate_store.specs.Held.{IsWhole, unread}
use Rattle.slate_store.proofs.Steps.{held_line, on_err}
use Rattle.slate_store.proofs.lines.Held.fill.Goals as goal

-- what has read its piece is whole, whatever the piece holds
whole_read : (old new : Held) → IsWhole old → new.start ≡ new.«end» → new.«end» ≤ vec_len new.piece → new.line.items ≡ old.line.items → new.taken ≡ old.taken → IsWhole new
whole_read old new h read within line taken = record {
  ordered = omega (arith, read);
  within = within;
  partial = subst HasNoEnd (sym line) h.partial;
  limit = omega (arith, taken, h.limit);
  taken = omega (arith, taken, h.taken, ap length line, ap length (held_line new.line.items new.piece.items new.start new.«end» read), length-append old.line.items (unread old));
}

pub returns-in_err-make_piece-clause-whole : goal.returns-in_err-make_piece-clause-whole
returns-in_err-make_piece-clause-whole g c = whole_read c.args.self.now _ c.requires.whole c.requires.read (omega (arith, c.requires.whole.within, c.in_err-make_piece.ensures.grown)) refl refl

pub returns-in_err-make_piece-clause-ok : goal.returns-in_err-make_piece-clause-ok
returns-in_err-make_piece-clause-ok g c = IfOk-from_err c.from_residual.result _ c.from_residual.ensures.0

pub returns-in_err-make_piece-clause-limit : goal.returns-in_err-make_piece-clause-limit
returns-in_err-make_piece-clause-limit g c = IfOk-from_err c.from_residual.result _ c.from_residual.ensures.0

pub returns-in_err-make_piece-clause-bytes : goal.returns-in_err-make_piece-clause-bytes
returns-in_err-make_piece-clause-bytes g c = λ left told. IfOk-from_err c.from_residual.result _ c.from_residual.ensures.0

pub returns-in_err-make_piece-clause-err : goal.returns-in_err-make_piece-clause-err
returns-in_err-make_piece-clause-err g c = on_err c.from_residual.result (c.requires.read, refl, refl)

memory_no_fault : {T : Type 0} (r : Result T SlateDBError) (x : SlateDBError) → r ≡ Err x → x ≡ OutOfMemory → r ≡ Err ReadFault → ⊥
memory_no_fault r x is memory e = cc

memory_no_length : {T : Type 0} (r : Result T SlateDBError) (x : SlateDBError) → r ≡ Err x → x ≡ OutOfMemory → r ≡ Err ScriptTooLong → ⊥
memory_no_length r x is memory e = cc

pub returns-in_err-make_piece-clause-read_fault : goal.returns-in_err-make_piece-clause-read_fault
returns-in_err-make_piece-clause-read_fault g c = λ e.
    let p = err_from_is_err_and c.from_residual.result c.from_residual.ensures.1 in
    absurd (memory_no_fault c.from_residual.result _ p.1 p.2 e)

pub returns-in_err-make_piece-clause-too_long : goal.returns-in_err-make_piece-clause-too_long
returns-in_err-make_piece-clause-too_long g c = λ e.
    let p = err_from_is_err_and c.from_residual.result c.from_residual.ensures.1 in
    absurd (memory_no_length c.from_residual.result _ p.1 p.2 e)

pub returns-in_err-make_piece-clause-cause : goal.returns-in_err-make_piece-clause-cause
returns-in_err-make_piece-clause-cause g c =
    let p = err_from_is_err_and c.from_residual.result c.from_residual.ensures.1 in
    rw (p.1, p.2) (inl refl)

whole_filled : (old new : Held) → IsWhole old → new.start ≡ 0 → new.«end» ≤ vec_len new.piece → new.line.items ≡ old.line.items → new.taken ≡ old.taken + new.«end» → new.taken ≤ script_limit → IsWhole new
whole_filled old new h start within line taken limit = record {
  ordered = omega (arith, start);
  within = within;
  partial = subst HasNoEnd (sym line) h.partial;
  limit = limit;
  taken = omega (arith, taken, h.taken, ap length line, length-append new.line.items (unread new), length-take (new.«end» - new.start) (drop new.start new.piece.items), length-append old.line.items (unread old));
}

pub returns-in-Ok-clause-whole : goal.returns-in-Ok-clause-whole
returns-in-Ok-clause-whole g c =
    whole_filled c.args.self.now _ c.requires.whole refl (omega (arith, c.in-Ok.ensures.bound, c.min-room.ensures, c.len.ensures)) refl refl (omega (arith, c.in-Ok.ensures.bound, c.min-room.ensures, c.requires.whole.limit))

pub returns-in-Err-clause-whole : goal.returns-in-Err-clause-whole
returns-in-Err-clause-whole g c = whole_read c.args.self.now _ c.requires.whole c.requires.read (omega (arith, c.requires.whole.within, c.in_ok-make_piece.ensures.grown, c.deref_mut.ensures.len)) refl refl

pub returns-in-Err-clause-err : goal.returns-in-Err-clause-err
returns-in-Err-clause-err g c = (c.requires.read, refl, c.in-Err.ensures.failed)

-- what was read is the front of the piece
front_read : (ws vs : List ℕ) (n len : ℕ) → n ≤ len → n ≤ length ws → slice_range (take len (ws ++ vs)) 0 n ≡ take n ws
front_read ws vs n len within some =
    let none : n - 0 ≡ n = omega arith in
    ap (λ k. take k (take len (ws ++ vs))) none ∙ take-take n len (ws ++ vs) within ∙ take-append-le n ws vs some

pub returns-in-Ok-clause-bytes : goal.returns-in-Ok-clause-bytes
returns-in-Ok-clause-bytes g c = λ left told.
    let bytes = c.in-Ok.ensures.bytes left told in
    (front_read c.read_front.new.piece _ c.in-Ok.count _ (omega (arith, c.in-Ok.ensures.bound, c.min-room.ensures, c.len.ensures)) (omega (arith, c.in-Ok.ensures.bound, c.min-room.ensures, c.len.ensures, c.deref_mut.ensures.len)) ∙ bytes.0, bytes.2, bytes.3)

pub returns-in-Ok-clause-ok : goal.returns-in-Ok-clause-ok
returns-in-Ok-clause-ok g c =
    let piece = with_items c.make_piece.new.piece c.read_front.new.piece in
    (omega (arith, length-take (c.in-Ok.count - 0) piece.items, piece.ok.0, c.in-Ok.ensures.bound, c.min-room.ensures, c.len.ensures), refl)

pub read_front-requires-clause-some : goal.read_front-requires-clause-some
read_front-requires-clause-some g c = omega (arith, c.min-room.ensures, c.len.ensures, c.in_ok-make_piece.ensures.ok, c.requires.whole.limit, c.if-self-eq-LIMIT.false)

pub read_front-requires-clause-within : goal.read_front-requires-clause-within
read_front-requires-clause-within g c = omega arith

pub returns-then-self-eq-LIMIT-clause-too_long : goal.returns-then-self-eq-LIMIT-clause-too_long
returns-then-self-eq-LIMIT-clause-too_long g c = λ e. c.if-self-eq-LIMIT.true

pub returns-in-Ok-clause-limit : goal.returns-in-Ok-clause-limit
returns-in-Ok-clause-limit g c = omega (arith, c.requires.whole.limit, c.if-self-eq-LIMIT.false)

pub returns-in-Ok-clause-later : goal.returns-in-Ok-clause-later
returns-in-Ok-clause-later g c = c.read_front.ensures.later

pub returns-in-Ok-clause-still : goal.returns-in-Ok-clause-still
returns-in-Ok-clause-still g c = inr c.in-Ok.ensures.still

pub returns-in-Err-clause-read_fault : goal.returns-in-Err-clause-read_fault
returns-in-Err-clause-read_fault g c = λ e. c.in-Err.ensures.cause

pub returns-in-Err-clause-later : goal.returns-in-Err-clause-later
returns-in-Err-clause-later g c = c.read_front.ensures.later
