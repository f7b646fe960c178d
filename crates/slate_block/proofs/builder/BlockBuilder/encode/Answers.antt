use Rattle.std.proofs.Common.{◌<◌, ◌≡◌, List, [], ℕ, refl, ap, subst, arith, ◌∙◌, inl}
use Rattle.std.proofs.lemmas.List.{nil_from_length}
use Rattle.std.specs.Prelude.{IfOk}
use Rattle.slate_block.specs.BlockSpelling.{block_bytes, FitsBlock}
use Rattle.slate_block.specs.Building.{Building}
use Rattle.slate_types.proofs.Exits.{on_ok}
use Rattle.slate_block.proofs.HeldLaws.{held_bytes, held_fits, few_held}
use Rattle.slate_block.proofs.builder.BlockBuilder.encode.Goals as goal

pub returns-then-self-eq0 : goal.returns-then-self-eq0
returns-then-self-eq0 c =
    record {
      empty = (let none = nil_from_length c.self.inside.held.0.0 (omega (arith, c.self.inside.held.0.1.counted, c.if-self-eq0.true)) in
          (λ _. subst (λ (b : Building). b.rows ≡ []) c.self.view_is none, λ _. refl));
      bytes = tt;
      fits = tt;
      cause = inl refl;
    }

pub encoded-requires : goal.encoded-requires
encoded-requires c = rw c.deref.ensures.value (few_held c.self.inside.part c.self.inside.held)

pub returns-clause-bytes : goal.returns-clause-bytes
returns-clause-bytes c =
    let inside = c.self.inside in
    let bytes = held_bytes inside.part inside.held inside.part.body.items refl ∙ ap (λ (b : Building). block_bytes b.version b.rows) c.self.view_is in
    subst (λ (l : List ℕ). IfOk c.encoded.result (λ bytes. bytes ≡ l)) bytes (rw (c.as_slice.ensures.value, c.deref.ensures.value) at c.encoded.ensures.spelling)

pub returns-clause-fits : goal.returns-clause-fits
returns-clause-fits c =
    let inside = c.self.inside in
    let some : 0 < inside.part.num_rows = omega arith in
    on_ok c.encoded.result (subst (λ (b : Building). FitsBlock b.version b.rows) c.self.view_is (held_fits inside.part inside.held some))
