use Rattle.std.proofs.Common.{◌∙◌, ℕ, List, subst, sym}
use Rattle.std.proofs.lemmas.Result.{IfOk-from_err}
use Rattle.slate_db.proofs.Opened.{stay_on}
use Rattle.slatedb.specs.Turns.{ChangesAlone}
use Rattle.slatedb.proofs.Turning.{bare_meant, next_both, next_stands, swapped}
use Rattle.slatedb.proofs.Undone.{changes_none, changes_noted, changes_then}
use Rattle.slatedb.proofs.turns.turn.Goals as goal

pub next-requires : goal.next-requires
next-requires g c = c.open_scans.ensures.is_open _ _ _ _ c.requires.both.x_left

pub next-requires-2 : goal.next-requires-2
next-requires-2 g c =
    let b = next_both _ c.args.core.now c.next.new.self c.args.up.now c.next.new.it c.args.down.now c.in_ok-next.field-0 _ _ c.open_scans.ensures.beside c.open_scans.ensures.steps c.in_ok-next.ensures.notes.noted c.next.ensures.step.names c.in_ok-next.ensures.left c.requires.both in
    c.open_scans.ensures.is_open _ _ _ _ b.y_left

pub returns-in_err-next : goal.returns-in_err-next
returns-in_err-next g c = record {
  stay = c.next.ensures.notes.stay;
  alone = changes_none _ c.args.core.now c.next.new.self c.in_err-next.ensures.notes.same;
  meant = c.next.ensures.step.reads.meaning;
  both = IfOk-from_err c.from_residual.result _ c.from_residual.ensures.0;
  stands = λ policies os h x y. IfOk-from_err c.from_residual.result _ c.from_residual.ensures.0;
}

pub returns-in_err-next-2 : goal.returns-in_err-next-2
returns-in_err-next-2 g c = record {
  alone = changes_then _ c.args.core.now c.next.new.self c.next-2.new.self (changes_noted _ _ _ _ c.in_ok-next.ensures.notes.noted) (changes_none _ _ _ c.in_err-next-2.ensures.notes.same);
  stay = stay_on c.args.core.now c.next.new.self c.next-2.new.self c.next.ensures.notes.stay c.next-2.ensures.notes.stay;
  meant = c.next-2.ensures.step.reads.meaning ∙ c.next.ensures.step.reads.meaning;
  both = IfOk-from_err c.from_residual-in_err-next-2.result _ c.from_residual-in_err-next-2.ensures.0;
  stands = λ policies os h x y. IfOk-from_err c.from_residual-in_err-next-2.result _ c.from_residual-in_err-next-2.ensures.0;
}

pub returns : goal.returns
returns g c =
    let first = next_both _ c.args.core.now c.next.new.self c.args.up.now c.next.new.it c.args.down.now c.in_ok-next.field-0 _ _ c.open_scans.ensures.beside c.open_scans.ensures.steps c.in_ok-next.ensures.notes.noted c.next.ensures.step.names c.in_ok-next.ensures.left c.requires.both in
    let second = next_both _ c.next.new.self c.next-2.new.self c.args.down.now c.next-2.new.it c.next.new.it c.in_ok-next-2.field-0 _ _ c.open_scans.ensures.beside c.open_scans.ensures.steps c.in_ok-next-2.ensures.notes.noted c.next-2.ensures.step.names c.in_ok-next-2.ensures.left (swapped _ _ _ _ first) in
    record {
      stay = stay_on c.args.core.now c.next.new.self c.next-2.new.self c.next.ensures.notes.stay c.next-2.ensures.notes.stay;
      meant = c.next-2.ensures.step.reads.meaning ∙ c.next.ensures.step.reads.meaning;
      alone = changes_then _ c.args.core.now c.next.new.self c.next-2.new.self (changes_noted _ _ _ _ c.in_ok-next.ensures.notes.noted)
          (subst (λ (id : List ℕ). ChangesAlone id c.next.new.self c.next-2.new.self) c.requires.both.one (changes_noted _ _ _ _ c.in_ok-next-2.ensures.notes.noted));
      both = (swapped _ _ _ _ second, c.next.ensures.step.names.named);
      stands = λ policies os h x y.
          let one = next_stands policies _ _ os c.args.core.now c.next.new.self c.args.up.now c.next.new.it c.args.down.now c.in_ok-next.field-0 _ _ c.open_scans.ensures.beside c.open_scans.ensures.steps c.in_ok-next.ensures.notes.noted c.next.ensures.step.names c.in_ok-next.ensures.left
          c.in_ok-next.ensures.step.rows c.in_ok-next.ensures.vouched c.next.ensures.notes.kept c.next.ensures.step.reads c.requires.both.apart h x y in
          let two = next_stands policies _ _ os c.next.new.self c.next-2.new.self c.args.down.now c.next-2.new.it c.next.new.it c.in_ok-next-2.field-0 _ _ c.open_scans.ensures.beside c.open_scans.ensures.steps c.in_ok-next-2.ensures.notes.noted c.next-2.ensures.step.names c.in_ok-next-2.ensures.left
          c.in_ok-next-2.ensures.step.rows c.in_ok-next-2.ensures.vouched c.next-2.ensures.notes.kept c.next-2.ensures.step.reads (swapped _ _ _ _ first).apart one.stands (bare_meant _ _ _ _ (sym c.next.ensures.step.reads.meaning) one.y_bare) (bare_meant _ _ _ _ (sym c.next.ensures.step.reads.meaning) one.x_bare) in
          (two.stands, bare_meant _ _ _ _ c.next.ensures.step.reads.meaning two.y_bare, bare_meant _ _ _ _ c.next.ensures.step.reads.meaning two.x_bare);
    }
