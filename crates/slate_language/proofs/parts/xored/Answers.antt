use Rattle.std.proofs.Common.{◌<◌, ◌++◌, ◌∷◌, [], length, take, get_or, refl, sym, ap, ◌∙◌, arith, bit_xor}
use Rattle.std.proofs.lemmas.List.{map-append, take_more, take_all}
use Rattle.std.proofs.lemmas.Result.{IfOk-from_err, IfOk-weaker, err_from_is_err_and}
use Rattle.slate_language.specs.Parts.{xored}
use Rattle.slate_language.proofs.PartsLaws.{ok_of, err_of}
use Rattle.slate_language.proofs.parts.xored.Goals as goal

pub loop-byte-preserved : goal.loop-byte-preserved
loop-byte-preserved c =
    let bytes = c.args.bytes.now in
    let i = c.loop-byte.byte-index in
    let mask = c.args.mask in
    let within : i < length bytes = omega arith in
    let one = bit_xor (get_or bytes i 0) mask ∷ [] in
    c.in_ok-push.ensures.items ∙ ap (λ xs. xs ++ one) c.loop-byte.invariant
    ∙ sym (ap (xored mask) (take_more bytes i 0 within) ∙ map-append (λ b. bit_xor b mask) (take i bytes) (get_or bytes i 0 ∷ []))

pub returns-in_err-made : goal.returns-in_err-made
returns-in_err-made c =
    let p = err_from_is_err_and c.from_residual.result c.from_residual.ensures.1 in
    record { bytes = IfOk-from_err c.from_residual.result _ c.from_residual.ensures.0; cause = rw (p.1, p.2) refl }

pub returns-in_err-push : goal.returns-in_err-push
returns-in_err-push c =
    let p = err_from_is_err_and c.from_residual-in_err-push.result c.from_residual-in_err-push.ensures.1 in
    record { bytes = IfOk-from_err c.from_residual-in_err-push.result _ c.from_residual-in_err-push.ensures.0; cause = rw (p.1, p.2) refl }

pub returns : goal.returns
returns c =
    let all = ap (xored c.args.mask) (take_all c.loop-byte.byte-index c.args.bytes.now (omega arith)) in
    record {
      bytes = ok_of c.from_vec.result c.map_err.result _ _ c.map_err.ensures.cases (IfOk-weaker c.from_vec.result _ _ (λ made is. is ∙ c.loop-byte.invariant ∙ all) c.from_vec.ensures.ok);
      cause = err_of c.from_vec.result c.map_err.result _ c.map_err.ensures.cases;
    }
