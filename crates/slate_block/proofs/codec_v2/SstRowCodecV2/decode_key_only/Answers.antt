use Rattle.std.proofs.Common.{◌≡◌, ℕ, List, Err, inr, ap, sym, subst, ◌∙◌, inl, refl}
use Rattle.std.proofs.lemmas.Result.{err_from_is_err_and, IfOk-from_err}
use Rattle.slate_types.specs.declared.error.SlateDBError.TheVariants.{OutOfMemory}
use Rattle.slate_block.specs.Damage.{key_layout_v2}
use Rattle.slate_block.specs.RowReading.{key_v2_of, refusal, BeginsKeyV2}
use Rattle.slate_block.proofs.Groups.{IsBytes}
use Rattle.slate_block.proofs.ReadRows.{no_key_v2, begins_key_v2}
use Rattle.slate_block.proofs.ReadingLaws.{refused_key}
use Rattle.slate_types.proofs.Exits.{on_err}
use Rattle.slate_block.proofs.codec_v2.SstRowCodecV2.decode_key_only.Goals as goal

no_key : (c : goal.After-from_residual) → key_v2_of c.args.input.now ≡ Err c.in_err-key.field-0.0
no_key c = no_key_v2 c.args.input.now c.in_err-key.field-0.0 (c.in_err-key.ensures.value ∙ ap key_layout_v2 c.as_slice.ensures)

pub returns-in_err-key : goal.returns-in_err-key
returns-in_err-key c =
    let p = err_from_is_err_and c.from_residual.result c.from_residual.ensures.1 in
    record {
      found = IfOk-from_err c.from_residual.result _ c.from_residual.ensures.0;
      only = λ key rest begins. rw (p.1, p.2) (refused_key key c.args.input.now rest c.in_err-key.field-0.0 OutOfMemory (inr (no_key c)) begins);
      cause = rw (p.1, p.2) (inr (ap refusal (no_key c)));
      unchanged = on_err c.from_residual.result refl;
    }

pub returns : goal.returns
returns c =
    record {
      found = (let bytes = c.args.input.now in
          let key = c.in_ok-key.key in
          let suffix = c.in_ok-key_suffix.key_suffix in
          subst (λ (rest : List ℕ). BeginsKeyV2 (key.shared_bytes, suffix) bytes rest) (sym c.advance.ensures)
          (begins_key_v2 bytes key suffix (subst (λ (b : List ℕ). IsBytes b) c.as_slice.ensures c.in_ok-key.ensures.bytes) (c.in_ok-key.ensures.value ∙ ap key_layout_v2 c.as_slice.ensures) (sym c.in_ok-key_suffix.ensures.ok)));
      only = λ _ _ _. tt;
      cause = tt;
      unchanged = tt;
    }

pub returns-in_err-key_suffix : goal.returns-in_err-key_suffix
returns-in_err-key_suffix c =
    let p = err_from_is_err_and c.from_residual-in_err-key_suffix.result c.from_residual-in_err-key_suffix.ensures.1 in
    record {
      found = IfOk-from_err c.from_residual-in_err-key_suffix.result _ c.from_residual-in_err-key_suffix.ensures.0;
      only = λ _ _ _. let p = err_from_is_err_and c.from_residual-in_err-key_suffix.result c.from_residual-in_err-key_suffix.ensures.1 in rw (p.1, p.2) refl;
      cause = rw (p.1, p.2) (inl refl);
      unchanged = on_err c.from_residual-in_err-key_suffix.result refl;
    }
