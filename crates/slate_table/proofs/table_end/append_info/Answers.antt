use Rattle.std.proofs.Common.{rules, ◌≡◌, ◌∙◌, ◌++◌, List, ℕ, ap, subst, append_assoc, length}
use Rattle.std.specs.Prelude.{OnOk}
use Rattle.std.proofs.lemmas.Result.{on_ok_weaker}
use Rattle.slate_table.specs.Parts.{cover_of, info_kind, summed}
use Rattle.slate_table.specs.InfoReading.{seen_info}
use Rattle.slate_table.specs.SectionReading.{footer_bytes}
use Rattle.slate_table.specs.TableEnd.{part_of_info}
use Rattle.slate_table.proofs.table_end.append_info.Goals as goal

pub returns-in-Ok : goal.returns-in-Ok
returns-in-Ok c =
    let out = c.args.out.now.items in
    let version = c.args.version in
    let begin : c.len-info_offset.result ≡ length out = search rules in
    let last = footer_bytes (length out) version in
    let sealed = summed (cover_of version c.args.id.0 info_kind (length out)) in
    let mid : c.append_summed-summed.new.out.items ≡ out ++ sealed c.as_slice.result.now = c.in-Ok.ensures.appended ∙ (λ j. out ++ summed (cover_of version c.args.id.0 info_kind (begin j)) c.as_slice.result.now) in
    record {
      appended = (let new = c.encode-in-Ok.new.out.items in
          let spelled : c.in_ok-part.part ≡ part_of_info version (seen_info c.args.info.now) = c.in_ok-part.ensures.spelling.is in
          let whole : OnOk c.encode-in-Ok.result (new ≡ out ++ (sealed c.in_ok-part.part ++ last)) = on_ok_weaker c.encode-in-Ok.result
          (λ h. h ∙ (λ j. mid j ++ footer_bytes (begin j) version)
          ∙ append_assoc out (sealed c.as_slice.result.now) last ∙ ap (λ (l : List ℕ). out ++ (sealed l ++ last)) c.as_slice.ensures)
          c.encode-in-Ok.ensures.appended in
          subst (λ (part : List ℕ). OnOk c.encode-in-Ok.result (new ≡ out ++ (sealed part ++ last))) spelled whole);
      info = (on_ok_weaker c.encode-in-Ok.result
          (λ h lies. record {
            before = out;
            part = c.in_ok-part.part;
            is = h ∙ (λ j. mid j ++ footer_bytes (begin j) version)
                ∙ append_assoc out (sealed c.as_slice.result.now) last ∙ ap (λ (l : List ℕ). out ++ (sealed l ++ last)) c.as_slice.ensures;
            spelled = c.in_ok-part.ensures.spelling;
            lies = lies;
          })
          c.encode-in-Ok.ensures.appended);
      cause = c.encode-in-Ok.ensures.cause;
    }
