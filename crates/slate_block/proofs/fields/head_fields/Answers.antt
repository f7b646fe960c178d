use Rattle.std.proofs.Common.{◌+◌, Ok, true, false, refl, sym, ◌∙◌, arith}
use Rattle.std.proofs.lemmas.Bool.{ltb-true}
use Rattle.std.proofs.lemmas.Result.{IfOk-from_err, err_from_is_err_and}
use Rattle.slate_block.specs.Damage.{head_layout, row_flags}
use Rattle.slate_block.proofs.FieldLaws.{no_flags, flags_there, head_read}
use Rattle.slate_block.proofs.fields.head_fields.Goals as goal

pub returns-in_err-seq : goal.returns-in_err-seq
unfolding head_layout
returns-in_err-seq c =
    let p = err_from_is_err_and c.from_residual.result c.from_residual.ensures.1 in
    record {
      value = rw (p.1, p.2, sym c.in_err-seq.ensures.value) refl;
      damage = rw (p.1, p.2) c.in_err-seq.ensures.damage;
      within = IfOk-from_err c.from_residual.result _ c.from_residual.ensures.0;
    }

pub returns-in_default : goal.returns-in_default
returns-in_default c =
    record {
      value = (let read = c.in_ok-seq in
          rw c.corrupt.ensures (sym (head_read c.args.bytes.now c.args.at read.seq read.at _ read.ensures.value (no_flags c.args.bytes.now read.at c.in_default.ensures.lookup.0))));
      damage = rw c.corrupt.ensures c.in_ok-seq.ensures.within;
      within = tt;
    }

pub returns-in-Some-from_byte : goal.returns-in-Some-from_byte
returns-in-Some-from_byte c =
    record {
      value = (let read = c.in_ok-seq in
          let flags = c.in-Some-from_byte.ensures.flags in
          let there = flags_there c.args.bytes.now read.at c.in-Some.byte.now true c.in-Some.ensures.lookup.0 c.in-Some.ensures.lookup.1 flags.1 in
          sym (head_read c.args.bytes.now c.args.at read.seq read.at _ read.ensures.value there ∙ (λ i. Ok ((read.seq, row_flags (sym flags.0 i)), read.at + 1))));
      damage = tt;
      within = (let below = ltb-true _ _ (sym c.in-Some.ensures.lookup.0) in omega (arith, below));
    }

pub returns-in-None : goal.returns-in-None
returns-in-None c =
    record {
      value = (let read = c.in_ok-seq in
          sym (head_read c.args.bytes.now c.args.at read.seq read.at _ read.ensures.value (flags_there c.args.bytes.now read.at c.in-Some.byte.now false c.in-Some.ensures.lookup.0 c.in-Some.ensures.lookup.1 c.in-None.ensures.none)));
      damage = tt;
      within = tt;
    }
