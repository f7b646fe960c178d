use Rattle.std.proofs.Common.{◌≡◌, ◌++◌, ◌∷◌, [], List, ℕ, Result, Ok, Err, cond, codes, sym, ap, ◌∙◌, append_assoc, arith}
use Rattle.std.specs.Prelude.{OnOk, is_ok}
use Rattle.slate_language.specs.Text.{shown_bytes}
use Rattle.slate_language.proofs.TextLaws.{hidden_text, visible_text}
use Rattle.slate_language.proofs.text.push_shown.Goals as goal

-- what is added last, where there was memory for it
added_last : {T E : Type 0} (r : Result T E) (after before more whole : List ℕ) → after ≡ cond (is_ok r) more before → more ≡ whole → OnOk r (after ≡ whole)
added_last (Ok t) after before more whole is same = is ∙ same
added_last (Err e) after before more whole is same = tt

pub returns-then-is_visible : goal.returns-then-is_visible
returns-then-is_visible c =
    let line = c.args.line.now.items in
    let bytes = c.args.bytes.now in
    let text = visible_text bytes (sym c.is_visible.ensures ∙ c.if-is_visible.true) in
    let whole : c.push.new.self.items ++ bytes ≡ line ++ shown_bytes bytes
    = ap (λ xs. xs ++ bytes) c.in_ok-push.ensures.items ∙ append_assoc line (39 ∷ []) bytes ∙ ap (λ xs. line ++ xs) text in
    record { text = added_last c.extend_from_slice.result c.extend_from_slice.new.self.items c.push.new.self.items (c.push.new.self.items ++ bytes) (line ++ shown_bytes bytes) c.extend_from_slice.ensures.items whole }

pub returns : goal.returns
returns c =
    let line = c.args.line.now.items in
    let bytes = c.args.bytes.now in
    let digits = c.as_bytes.result.now in
    let front = c.extend_from_slice-2.new.self.items in
    let text = hidden_text bytes (λ k. omega (arith, c.type_inv.bytes k)) (sym c.is_visible.ensures ∙ c.if-is_visible.false) in
    let whole : front ++ digits ≡ line ++ shown_bytes bytes
    = ap (λ xs. xs ++ digits) c.in_ok-extend_from_slice.ensures.items ∙ append_assoc line (codes "0x") digits
    ∙ ap (λ xs. line ++ (codes "0x" ++ xs)) (c.as_bytes.ensures.value ∙ c.in_ok-encode.ensures) ∙ ap (λ xs. line ++ xs) text in
    record { text = added_last c.extend_from_slice-3.result c.extend_from_slice-3.new.self.items front (front ++ digits) (line ++ shown_bytes bytes) c.extend_from_slice-3.ensures.items whole }
