use Rattle.std.proofs.Common.{◌≡◌, ℕ, List, Err, inr, ap, sym, subst, ◌∙◌, inl, refl}
use Rattle.std.proofs.lemmas.Result.{err_from_is_err_and, IfOk-from_err}
use Rattle.slate_types.specs.declared.error.SlateDBError.TheVariants.{OutOfMemory}
use Rattle.slate_block.specs.declared.row.SstRowEntry.{SstRowEntry}
use Rattle.slate_block.specs.Damage.{layout_v1}
use Rattle.slate_block.specs.RowReading.{entry_of_v1, row_v1_of, refusal, BeginsV1}
use Rattle.slate_block.proofs.Groups.{IsBytes}
use Rattle.slate_block.proofs.ReadRows.{no_row_v1, begins_v1}
use Rattle.slate_block.proofs.ReadingLawsV1.{refused_v1}
use Rattle.slate_types.proofs.Exits.{on_err}
use Rattle.slate_block.proofs.codec_v0.SstRowCodecV0.decode.Goals as goal

no_row : (c : goal.After-from_residual) → row_v1_of c.args.input.now ≡ Err c.in_err-key_prefix_len.field-0.0
no_row c = no_row_v1 c.args.input.now c.in_err-key_prefix_len.field-0.0 (c.in_err-key_prefix_len.ensures.value ∙ ap layout_v1 c.as_slice.ensures)

pub returns-in_err-key_prefix_len : goal.returns-in_err-key_prefix_len
returns-in_err-key_prefix_len c =
    let p = err_from_is_err_and c.from_residual.result c.from_residual.ensures.1 in
    record {
      found = IfOk-from_err c.from_residual.result _ c.from_residual.ensures.0;
      only = λ row rest begins. rw (p.1, p.2) (refused_v1 row c.args.input.now rest c.in_err-key_prefix_len.field-0.0 OutOfMemory (inr (no_row c)) begins);
      cause = rw (p.1, p.2) (inr (ap refusal (no_row c)));
      unchanged = on_err c.from_residual.result refl;
    }

pub returns : goal.returns
returns c =
    record {
      found = (let bytes = c.args.input.now in
          let f = c.in_ok-key_prefix_len.fields in
          let parts = c.in_ok-key_suffix.ensures in
          let row : SstRowEntry = record { key_prefix_len = c.in_ok-key_prefix_len.key_prefix_len; key_suffix = c.in_ok-key_suffix.key_suffix; seq = f.seq; expire_ts = c.read_expiry.result; create_ts = f.create_ts; value = c.in_ok-key_suffix.value } in
          let same : entry_of_v1 bytes c.in_ok-key_prefix_len.key_prefix_len f ≡ row = sym (λ i. record { key_prefix_len = c.in_ok-key_prefix_len.key_prefix_len; key_suffix = parts.0 i; seq = f.seq; expire_ts = c.read_expiry.ensures i; create_ts = f.create_ts; value = parts.1 i }) in
          subst (λ (rest : List ℕ). BeginsV1 row bytes rest) (sym c.advance.ensures)
          (begins_v1 bytes (c.in_ok-key_prefix_len.key_prefix_len, f) row (subst (λ (b : List ℕ). IsBytes b) c.as_slice.ensures c.in_ok-key_prefix_len.ensures.bytes) (c.in_ok-key_prefix_len.ensures.value ∙ ap layout_v1 c.as_slice.ensures) same));
      only = λ _ _ _. tt;
      cause = tt;
      unchanged = tt;
    }

pub returns-in_err-key_suffix : goal.returns-in_err-key_suffix
returns-in_err-key_suffix c =
    let p = err_from_is_err_and c.from_residual-in_err-key_suffix.result c.from_residual-in_err-key_suffix.ensures.1 in
    record {
      found = IfOk-from_err c.from_residual-in_err-key_suffix.result _ c.from_residual-in_err-key_suffix.ensures.0;
      only = λ _ _ _. let p = err_from_is_err_and c.from_residual-in_err-key_suffix.result c.from_residual-in_err-key_suffix.ensures.1 in rw (p.1, p.2) refl;
      cause = rw (p.1, p.2) (inl refl);
      unchanged = on_err c.from_residual-in_err-key_suffix.result refl;
    }
