use Rattle.std.proofs.Common.{◌++◌, ◌∷◌, [], ap, sym, ◌∙◌}
use Rattle.std.specs.Map.{set_value}
use Rattle.std.specs.BTreeMap.{insert_entry, is_at}
use Rattle.std.proofs.lemmas.Map.Steps.{set_value_same}
use Rattle.slate_types.specs.Keys.{key_cmp}
use Rattle.slate_mem.proofs.AppendLaws.{found_items, none_items, set_insert}
use Rattle.slate_mem.proofs.batch.add_op.Goals as goal
use Rattle.slate_types.proofs.Exits.{on_ok_weaker, on_err_weaker}

pub returns-in-Some-clause-more : goal.returns-in-Some-clause-more
returns-in-Some-clause-more c =
    let es = c.args.ops.now.entries in
    let found = sym c.in-Some.ensures.value in
    on_ok_weaker c.push_op.result (λ more. record {
      list = c.push_op.new.list;
      items = more ∙ ap (λ xs. xs ++ (c.args.op ∷ [])) (sym (found_items es c.args.key _ found));
      is = (c.get_mut.follows.holds _).0 ∙ set_insert es c.args.key _ _ c.get_mut.ensures.ordered found;
      rising = (c.get_mut.follows.holds _).4;
    }) c.push_op.ensures.ok

pub returns-in-Some-clause-same : goal.returns-in-Some-clause-same
returns-in-Some-clause-same c =
    let es = c.args.ops.now.entries in
    on_err_weaker c.push_op.result (λ same. (c.get_mut.follows.holds _).0 ∙ ap (set_value (is_at (key_cmp c.args.key)) es) same ∙ set_value_same (is_at (key_cmp c.args.key)) es _ (sym c.in-Some.ensures.value)) c.push_op.ensures.err

pub returns-in_ok-insert-in-None-clause-more : goal.returns-in_ok-insert-in-None-clause-more
returns-in_ok-insert-in-None-clause-more c =
    let es = c.args.ops.now.entries in
    record {
      list = c.from_buf-list.result;
      items = c.from_buf-list.ensures.items ∙ sym (ap (λ xs. xs ++ (c.args.op ∷ [])) (none_items es c.args.key (sym c.in-None.ensures.value)));
      is = c.in_ok-insert-in-None.ensures.entries ∙ ap (λ m. insert_entry key_cmp m.entries c.args.key c.from_buf-list.result) c.get_mut.follows.holds-at-none;
      rising = c.in_ok-insert-in-None.ensures.ordered;
    }
