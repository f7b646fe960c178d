use Rattle.std.proofs.Common.{◌≡◌, ◌<◌, ◌+◌, ◌-◌, ◌++◌, length, take, drop, ap, ◌∙◌, arith}
use Rattle.std.specs.List.{join_with_byte}
use Rattle.std.proofs.lemmas.List.{length-drop}
use Rattle.slate_types.proofs.Lists.{take_behind}
use Rattle.slate_language.specs.Parse.{tokens_of}
use Rattle.slate_language.proofs.ParseOnly.{join_tokens}
use Rattle.slate_language.proofs.SplitLaws.{count_behind, token_taken, last_taken}
use Rattle.slate_language.proofs.token.split_tokens.Goals as goal

pub returns-then-end-bytes : goal.returns-then-end-bytes
returns-then-end-bytes c =
    let line = c.args.line.now in
    let bytes = c.as_slice-bytes.result.now in
    let start = c.loop-tokens.start in
    let count = count_behind line bytes start c.until_space.result c.as_slice-bytes.ensures c.until_space.ensures.len in
    let all : start + c.until_space.result ≡ length line = c.if-end-bytes.true ∙ ap length c.as_slice-bytes.ensures in
    let split : c.push.new.self.items ≡ tokens_of line
    = c.in_ok-push.ensures.items ∙ last_taken line start c.until_space.result c.loop-tokens.tokens.items all count c.loop-tokens.invariant.tokens in
    record { tokens = split; joined = ap (join_with_byte 32) split ∙ join_tokens line }

pub loop-tokens-preserved : goal.loop-tokens-preserved
loop-tokens-preserved c =
    let line = c.args.line.now in
    let bytes = c.as_slice-bytes.result.now in
    let start = c.loop-tokens.start in
    let count = count_behind line bytes start c.until_space.result c.as_slice-bytes.ensures c.until_space.ensures.len in
    let same : length bytes ≡ length line = ap length c.as_slice-bytes.ensures in
    let size : length (take (length bytes - start) (drop start bytes)) ≡ length bytes - start = ap length (take_behind bytes start) ∙ length-drop start bytes in
    let some : start + c.until_space.result < length line = omega (arith, size, same, c.until_space.ensures.within, c.if-end-bytes.false, c.loop-tokens.invariant.within) in
    record {
      within = omega (arith, some);
      tokens = ap (λ ts. ts ++ tokens_of (drop (start + c.until_space.result + 1) line)) c.in_ok-push.ensures.items
          ∙ token_taken line start c.until_space.result c.loop-tokens.tokens.items some count c.loop-tokens.invariant.tokens;
    }
