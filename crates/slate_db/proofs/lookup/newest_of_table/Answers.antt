use Rattle.std.proofs.Common.{[], ◌∷◌, ◌∙◌, ◌≡◌, false, true, map, rules, sym, refl, ap}
use Rattle.std.proofs.lemmas.Result.{err_from_is_err_and, IfOk-from_err, IfOk-weaker, IfErr-weaker}
use Rattle.slate_types.proofs.Calls.{call_none}
use Rattle.slate_types.proofs.OutsideLaws.{counted_earlier}
use Rattle.slate_types.proofs.Reaching.{reads_none, reads_then}
use Rattle.slate_types.specs.Outside.{Reach, unblamed_by}
use Rattle.slate_types.specs.World.{Made}
use Rattle.slate_store.specs.Reach.{reach_of}
use Rattle.slate_table.specs.Finding.{encloses}
use Rattle.slate_table.specs.InfoReading.{seen_info}
use Rattle.slate_db.specs.Shown.{Asking, LetsThrough}
use Rattle.slate_db.proofs.Answered.{from_last}
use Rattle.slate_db.proofs.Behind.{behind_filters, behind_none, behind_passed}
use Rattle.slate_db.proofs.Checks.{checks_err, checks_none, checks_then}
use Rattle.slate_db.proofs.Filters.{stored_still}
use Rattle.slate_db.proofs.Newest.{newest_same}
use Rattle.slate_db.proofs.Shown.{filters_shown, none_asked, passed_rows, passed_shown}
use Rattle.slate_db.proofs.Tables.{outside_newest}
use Rattle.slate_db.proofs.lookup.newest_of_table.Goals as goal

pub returns-then-not-encloses : goal.returns-then-not-encloses
returns-then-not-encloses g c =
    record {
      found = (λ rows os stored filtered a.
          let out : encloses (seen_info c.args.table.now.info) c.args.key.now ≡ false = search rules in
          c.new.ensures.items ∙ outside_newest _ _ _ c.args.table.now rows c.args.key.now c.args.max_seq stored out);
      whole = λ rows os stored filtered a. tt;
      asked = none_asked c.args.key.now c.args.max_seq c.new.result.items c.new.ensures.items;
      rows = ([], call_none _, rw c.new.ensures.items tt);
      cause = tt;
      behind = behind_none _ (record { policies = map (λ p. (goal.FilterPolicy-dyn g (p.vtable, p.value)).meaning p.value) c.args.policies.now; query = c.args.query.now }) (c.args.table.now ∷ []);
      checked = λ rows os stored. checks_none os (reach_of g.S.Store g.M.MergeOperator g.T.BlockTransformer c.args.env.now);
      reads = reads_none _;
      still = refl;
    }

pub returns-in_err-passes : goal.returns-in_err-passes
returns-in_err-passes g c =
    let asking : Asking = record { policies = map (λ p. (goal.FilterPolicy-dyn g (p.vtable, p.value)).meaning p.value) c.args.policies.now; query = c.args.query.now } in
    let p = err_from_is_err_and c.from_residual.result c.from_residual.ensures.1 in
    record {
      found = λ rows os stored filtered a. IfOk-from_err c.from_residual.result _ c.from_residual.ensures.0;
      whole = λ rows os stored filtered a. let p = err_from_is_err_and c.from_residual.result c.from_residual.ensures.1 in rw (p.1, p.2) (c.in_err-passes.ensures.whole c.args.key.now rows os c.requires stored filtered a);
      asked = IfOk-from_err c.from_residual.result _ c.from_residual.ensures.0;
      rows = IfOk-from_err c.from_residual.result _ c.from_residual.ensures.0;
      cause = rw (p.1, p.2) (filters_shown _ _ asking c.args.table.now _ c.in_err-passes.ensures.cause);
      behind = behind_filters _ _ asking c.args.table.now c.lets_through.ensures.alone;
      checked = λ rows os stored. checks_err c.from_residual.result os (reach_of g.S.Store g.M.MergeOperator g.T.BlockTransformer c.args.env.now) (reach_of g.S.Store g.M.MergeOperator g.T.BlockTransformer c.lets_through.new.env) c.from_residual.ensures.0;
      reads = c.lets_through.ensures.reads;
      still = rw (p.1, p.2) c.in_err-passes.ensures.still;
    }

pub returns-then-not-passes : goal.returns-then-not-passes
returns-then-not-passes g c =
    record {
      found = (λ rows os stored filtered a.
          let denied : c.in_ok-passes.passes ≡ false = search rules in
          c.new-none.ensures.items ∙ newest_same c.args.key.now c.args.max_seq [] rows (sym (c.in_ok-passes.ensures.denied c.args.key.now rows os c.requires stored filtered a denied)));
      whole = λ rows os stored filtered a. tt;
      asked = none_asked c.args.key.now c.args.max_seq c.new-none.result.items c.new-none.ensures.items;
      rows = (c.in_ok-passes.ensures.passes.0, c.in_ok-passes.ensures.passes.1, rw c.new-none.ensures.items tt);
      cause = tt;
      behind = behind_filters _ _ (record { policies = map (λ p. (goal.FilterPolicy-dyn g (p.vtable, p.value)).meaning p.value) c.args.policies.now; query = c.args.query.now }) c.args.table.now c.lets_through.ensures.alone;
      checked = c.in_ok-passes.ensures.checked;
      reads = c.lets_through.ensures.reads;
      still = c.in_ok-passes.ensures.still;
    }

pub returns : goal.returns
returns g c =
    let first = c.lets_through.ensures.reads in
    let last = c.newest_of_enclosing.ensures.reads in
    let yes : c.in_ok-passes.passes ≡ true = search rules in
    let asking : Asking = record { policies = map (λ p. (goal.FilterPolicy-dyn g (p.vtable, p.value)).meaning p.value) c.args.policies.now; query = c.args.query.now } in
    let made = c.in_ok-passes.ensures.passes in
    let before : Reach = reach_of g.S.Store g.M.MergeOperator g.T.BlockTransformer c.args.env.now in
    let middle : Reach = reach_of g.S.Store g.M.MergeOperator g.T.BlockTransformer c.lets_through.new.env in
    let after : Reach = reach_of g.S.Store g.M.MergeOperator g.T.BlockTransformer c.newest_of_enclosing.new.env in
    let passed : Made before middle (λ reads. LetsThrough before.meaning.decode asking c.args.table.now reads) = (made.0, made.1, made.2 yes) in
    record {
      found = (λ rows os stored filtered a.
          c.newest_of_enclosing.ensures.found rows os (stored_still _ _ os c.args.table.now rows first.meaning stored) (from_last os _ _ _ first last a));
      whole = (λ rows os stored filtered a.
          IfErr-weaker c.newest_of_enclosing.result _ _ (λ e h. counted_earlier _ _ _ e first.later h)
          (c.newest_of_enclosing.ensures.whole rows os (stored_still _ _ os c.args.table.now rows first.meaning stored) (from_last os _ _ _ first last a)));
      asked = c.newest_of_enclosing.ensures.asked;
      rows = IfOk-weaker c.newest_of_enclosing.result _ _ (λ found h. passed_rows _ _ _ asking c.args.table.now found.items passed h) c.newest_of_enclosing.ensures.rows;
      cause = IfErr-weaker c.newest_of_enclosing.result _ _ (λ e h. passed_shown _ _ _ asking c.args.table.now e first.later passed h) c.newest_of_enclosing.ensures.cause;
      behind = behind_passed _ _ _ asking c.args.table.now passed c.newest_of_enclosing.ensures.alone;
      checked = λ rows os stored. checks_then c.newest_of_enclosing.result os before middle after first last (c.in_ok-passes.ensures.checked rows os stored)
          (c.newest_of_enclosing.ensures.checked rows os (stored_still _ _ os c.args.table.now rows first.meaning stored));
      reads = reads_then _ _ _ first last;
      still = c.newest_of_enclosing.ensures.still ∙ ap (unblamed_by c.newest_of_enclosing.result) c.in_ok-passes.ensures.still;
    }
