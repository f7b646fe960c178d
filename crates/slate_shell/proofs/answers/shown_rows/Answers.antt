use Rattle.std.proofs.Common.{◌≡◌, ◌∷◌, [], List, length, refl, sym, ap, ◌∙◌, arith, rules}
use Rattle.std.specs.Vec.Iter.{into_iter_items}
use Rattle.slate_types.specs.declared.types.KeyValue.{KeyValue}
use Rattle.slate_shell.specs.Shown.{shown_rows}
use Rattle.slate_shell.proofs.ShownLaws.{all_shown, none_shown, nothing_left, one_more}
use Rattle.slate_shell.proofs.answers.shown_rows.Goals as goal

pub loop-row-init : goal.loop-row-init
loop-row-init c =
    record {
      shown = none_shown c.in_ok-text.text.items (length c.as_slice.result.now) (into_iter_items c.into_iter-row-iterator.result) c.in_ok-text.ensures (ap length (c.as_slice.ensures.value ∙ sym c.into_iter-row-iterator.ensures.into_iter_gives.0));
      left = search rules;
    }

pub loop-row-preserved : goal.loop-row-preserved
loop-row-preserved c =
    record {
      shown = one_more c.loop-row.text.items c.push_row.new.text.items _ (into_iter_items c.loop-row.row-iterator) (into_iter_items c.next.new.self) c.in-Some.row c.in-Some.ensures.steps.0 c.in_ok-push_row.ensures c.loop-row.invariant.shown;
      left = search rules;
    }

pub returns : goal.returns
returns c =
    let empty : into_iter_items c.loop-row.row-iterator ≡ [] = nothing_left _ (sym c.loop-row.invariant.left ∙ c.in-None.ensures.steps.0) in
    all_shown c.loop-row.text.items _ (into_iter_items c.loop-row.row-iterator) empty c.loop-row.invariant.shown ∙ ap shown_rows c.into_iter-row-iterator.ensures.into_iter_gives.0
