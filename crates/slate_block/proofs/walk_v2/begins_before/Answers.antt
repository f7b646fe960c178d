use Rattle.std.proofs.Common.{◌≡◌, Ok, Some, None, ap, get_or, refl, arith, sym, ◌∙◌}
use Rattle.std.specs.Prelude.{slice_range}
use Rattle.slate_block.specs.declared.fields.KeyFields.{KeyFields}
use Rattle.slate_block.specs.GroupWalks.{group_end}
use Rattle.std.specs.Result.{result_ok}
use Rattle.slate_block.proofs.SeekSteps.{restart_key}
use Rattle.slate_block.proofs.walk_v2.begins_before.Goals.{then-from-end-via-then-from-end, then-from-end-via-else-from-end+then-end-len}
use Rattle.slate_block.proofs.walk_v2.begins_before.Goals as goal

same_fields : (x y : KeyFields) → Some x ≡ Some y → x ≡ y
same_fields x y e = cc

pub returns-then-from-end : goal.returns-then-from-end
returns-then-from-end c = λ row rows e.
    let k = restart_key c.args.body.now c.args.offsets.now c.args.number row rows e in
    elim c.then-from-end.branch [
      | then-from-end-via-then-from-end w ↦ absurd (omega (arith, k.begins, c.place_behind-end.ensures))
      | then-from-end-via-else-from-end+then-end-len w ↦ absurd (omega (arith, k.ends, c.place_behind-end.ensures))
    ]

pub returns-in-None : goal.returns-in-None
returns-in-None c = λ row rows e.
    let k = restart_key c.args.body.now c.args.offsets.now c.args.number row rows e in
    let read : c.key_fields_v2.result ≡ Ok k.fields = rw (c.key_fields_v2.ensures.value, c.as_slice.ensures, c.place_behind-end.ensures) k.read in
    let found : None ≡ Some k.fields = sym c.in-None.is ∙ c.ok.ensures.value ∙ ap result_ok read in
    absurd (grind (arith, found))

pub returns-in-Some : goal.returns-in-Some
returns-in-Some c = λ row rows e.
    let k = restart_key c.args.body.now c.args.offsets.now c.args.number row rows e in
    let read : c.key_fields_v2.result ≡ Ok k.fields = rw (c.key_fields_v2.ensures.value, c.as_slice.ensures, c.place_behind-end.ensures) k.read in
    let same : c.in-Some.fields ≡ k.fields = same_fields c.in-Some.fields k.fields (sym c.in-Some.is ∙ c.ok.ensures.value ∙ ap result_ok read) in
    let bytes = slice_range c.args.body.now (get_or c.args.offsets.now c.args.number 0) (group_end c.args.body.now c.args.offsets.now c.args.number) in
    let key : slice_range bytes c.in-Some.fields.suffix_at c.in-Some.fields.suffix_end ≡ row.key = (λ i. slice_range bytes (same i).suffix_at (same i).suffix_end) ∙ sym k.suffix in
    rw (c.puts_before.ensures, c.as_slice.ensures, c.place_behind-end.ensures, key) refl
