use Rattle.std.proofs.Common.{ap, ◌∙◌, List, ℕ, take, length, refl}
use Rattle.std.proofs.lemmas.List.{take_at}
use Rattle.std.proofs.lemmas.Result.{on_ok_weaker, on_err_weaker, IfOk-from_err, err_from_is_err_and}
use Rattle.slate_block.specs.RowSpelling.{be64}
use Rattle.slate_table.proofs.Grown.{grown}
use Rattle.slate_table.proofs.footer.Footer.encode.Goals as goal

pub returns : goal.returns
returns c =
    record {
      appended = on_ok_weaker c.append_u16.result (λ h. grown c.args.out.now.items _ _ _ _ c.in_ok-append_u64.ensures.appended h) c.append_u16.ensures.appended;
      kept = (let old = c.args.out.now.items in
          on_err_weaker c.append_u16.result
          (λ h. ap (λ (l : List ℕ). take (length old) l) (h ∙ c.in_ok-append_u64.ensures.appended) ∙ take_at old (be64 c.args.self.now.info_offset) (length old) refl)
          c.append_u16.ensures.unchanged);
      cause = c.append_u16.ensures.cause;
    }

pub returns-in_err-append_u64-clause-appended : goal.returns-in_err-append_u64-clause-appended
returns-in_err-append_u64-clause-appended c = IfOk-from_err c.from_residual.result _ c.from_residual.ensures.0

pub returns-in_err-append_u64-clause-cause : goal.returns-in_err-append_u64-clause-cause
returns-in_err-append_u64-clause-cause c = let p = err_from_is_err_and c.from_residual.result c.from_residual.ensures.1 in rw (p.1, p.2) c.in_err-append_u64.ensures.cause
