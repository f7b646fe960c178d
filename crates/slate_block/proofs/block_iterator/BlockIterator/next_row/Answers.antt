use Rattle.std.proofs.Common.{ap, sym, ◌∙◌, refl}
use Rattle.std.proofs.lemmas.Bool.{false≢true}
use Rattle.std.proofs.lemmas.Result.{IfOk-from_err, err_from_is_err_and}
use Rattle.slate_block.specs.Walks.{all_ok}
use Rattle.slate_block.proofs.SeekLaws.{some_left, first_taken}
use Rattle.slate_types.proofs.Exits.{on_err}
use Rattle.slate_block.proofs.block_iterator.BlockIterator.next_row.Goals as goal

pub returns-in_err-row : goal.returns-in_err-row
returns-in_err-row g c =
    let p = err_from_is_err_and c.from_residual.result c.from_residual.ensures.1 in
    record {
      read = IfOk-from_err c.from_residual.result _ c.from_residual.ensures.0;
      rows = IfOk-from_err c.from_residual.result _ c.from_residual.ensures.0;
      order = refl;
      cause = rw (p.1, p.2) c.in_err-row.ensures.cause;
      damage = rw (p.1, p.2) c.in_err-row.ensures.damage;
      unchanged = on_err c.from_residual.result refl;
    }

-- ---- no row is left

pub returns-then-is_empty : goal.returns-then-is_empty
returns-then-is_empty g c =
    record {
      read = (let none = c.is_empty.ensures.0 c.if-is_empty.true in (none, none));
      rows = (let none = ap all_ok (c.is_empty.ensures.0 c.if-is_empty.true) in (none, none));
      order = refl;
      cause = tt;
      damage = tt;
      unchanged = tt;
    }

-- ---- the first one is taken off

pub row-requires : goal.row-requires
row-requires g c = some_left c.args.self.now.reads (λ none. false≢true (sym c.if-is_empty.false ∙ c.is_empty.ensures.1 none))

pub skip-requires : goal.skip-requires
skip-requires g c = some_left c.args.self.now.reads (λ none. false≢true (sym c.if-is_empty.false ∙ c.is_empty.ensures.1 none))

pub returns : goal.returns
returns g c =
    let read_holds = first_taken c.args.self.now.reads c.skip.new.self.reads c.in_ok-row.row c.in_ok-row.ensures.found c.skip.ensures.reads in
    record {
      read = read_holds;
      rows = ap all_ok read_holds;
      order = c.skip.ensures.order;
      cause = tt;
      damage = tt;
      unchanged = tt;
    }
