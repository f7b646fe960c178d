use Rattle.std.proofs.Common.{refl, lit<, lit≤, arith}
use Rattle.slate_block.specs.Varint.{varint}
use Rattle.slate_block.proofs.vectors.spellings.Goals as goal

pub returns : goal.returns
unfolding varint
returns c =
    record {
      varints = ((
        refl,
        refl,
        refl,
        refl,
        refl,
        (lit< tt, (lit≤ tt, lit< tt, 2, lit< tt, refl, (lit< tt, refl))),
        (λ n h. absurd (omega (arith, h.1.3, h.1.5.1))),
        (λ n h. absurd (omega (arith, h.0, h.1.4, h.1.5.4, h.1.5.5.4, h.1.5.5.5.4, h.1.5.5.5.5.1))),
      ));
      row_of_v1 = refl;
      row_of_v2 = refl;
      flags = (refl, refl, refl, refl, refl, refl, refl, refl, refl, refl);
      lengths = (refl, refl, refl, refl, refl, refl);
      whole_keys = (refl, refl);
      fronts = (refl, refl, refl);
    }
