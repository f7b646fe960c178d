use Rattle.std.proofs.Common.{◌≡◌, ℕ, List, Err, inr, ap, sym, subst, ◌∙◌, inl, refl}
use Rattle.std.proofs.lemmas.Result.{err_from_is_err_and, IfOk-from_err}
use Rattle.slate_types.specs.declared.error.SlateDBError.TheVariants.{OutOfMemory}
use Rattle.slate_block.specs.declared.row.SstRowEntryV2.{SstRowEntryV2}
use Rattle.slate_block.specs.Damage.{layout_v2}
use Rattle.slate_block.specs.RowReading.{entry_of_v2, row_v2_of, refusal, BeginsV2}
use Rattle.slate_block.proofs.Groups.{IsBytes}
use Rattle.slate_block.proofs.ReadRows.{no_row_v2, begins_v2}
use Rattle.slate_block.proofs.ReadingLaws.{refused_begins}
use Rattle.slate_types.proofs.Exits.{on_err}
use Rattle.slate_block.proofs.codec_v2.SstRowCodecV2.decode.Goals as goal

no_row : (c : goal.After-from_residual) → row_v2_of c.args.input.now ≡ Err c.in_err-shared_bytes.field-0.0
no_row c = no_row_v2 c.args.input.now c.in_err-shared_bytes.field-0.0 (c.in_err-shared_bytes.ensures.value ∙ ap layout_v2 c.as_slice.ensures)

pub returns-in_err-shared_bytes : goal.returns-in_err-shared_bytes
returns-in_err-shared_bytes c =
    let p = err_from_is_err_and c.from_residual.result c.from_residual.ensures.1 in
    record {
      found = IfOk-from_err c.from_residual.result _ c.from_residual.ensures.0;
      only = λ row rest begins. rw (p.1, p.2) (refused_begins row c.args.input.now rest c.in_err-shared_bytes.field-0.0 OutOfMemory (inr (no_row c)) begins);
      cause = rw (p.1, p.2) (inr (ap refusal (no_row c)));
      unchanged = on_err c.from_residual.result refl;
    }

pub returns : goal.returns
returns c =
    record {
      found = (let bytes = c.args.input.now in
          let f = c.in_ok-shared_bytes.fields in
          let parts = c.in_ok-key_suffix.ensures in
          let row : SstRowEntryV2 = record { shared_bytes = c.in_ok-shared_bytes.shared_bytes; key_suffix = c.in_ok-key_suffix.key_suffix; seq = f.seq; expire_ts = f.expire_ts; create_ts = f.create_ts; value = c.in_ok-key_suffix.value } in
          let same : entry_of_v2 bytes c.in_ok-shared_bytes.shared_bytes f ≡ row = sym (λ i. record { shared_bytes = c.in_ok-shared_bytes.shared_bytes; key_suffix = parts.0 i; seq = f.seq; expire_ts = f.expire_ts; create_ts = f.create_ts; value = parts.1 i }) in
          subst (λ (rest : List ℕ). BeginsV2 row bytes rest) (sym c.advance.ensures)
          (begins_v2 bytes (c.in_ok-shared_bytes.shared_bytes, f) row (subst (λ (b : List ℕ). IsBytes b) c.as_slice.ensures c.in_ok-shared_bytes.ensures.bytes) (c.in_ok-shared_bytes.ensures.value ∙ ap layout_v2 c.as_slice.ensures) same));
      only = λ _ _ _. tt;
      cause = tt;
      unchanged = tt;
    }

pub returns-in_err-key_suffix : goal.returns-in_err-key_suffix
returns-in_err-key_suffix c =
    let p = err_from_is_err_and c.from_residual-in_err-key_suffix.result c.from_residual-in_err-key_suffix.ensures.1 in
    record {
      found = IfOk-from_err c.from_residual-in_err-key_suffix.result _ c.from_residual-in_err-key_suffix.ensures.0;
      only = λ _ _ _. let p = err_from_is_err_and c.from_residual-in_err-key_suffix.result c.from_residual-in_err-key_suffix.ensures.1 in rw (p.1, p.2) refl;
      cause = rw (p.1, p.2) (inl refl);
      unchanged = on_err c.from_residual-in_err-key_suffix.result refl;
    }
