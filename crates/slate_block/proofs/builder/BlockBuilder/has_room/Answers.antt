use Rattle.std.proofs.Common.{◌≡◌, ◌==◌, ◌||◌, Bool, nat_le, false, refl, sym, ap, ◌∙◌}
use Rattle.std.proofs.lemmas.Bool.{ne_eqb}
use Rattle.slate_block.specs.BlockSpelling.{longest}
use Rattle.slate_block.specs.Building.{Building, front_key, part_size}
use Rattle.slate_block.specs.Fitting.{fits_in}
use Rattle.slate_block.proofs.HeldLaws.{few_offsets_held, fits_held, has_room}
use Rattle.slate_block.proofs.builder.BlockBuilder.has_room.Goals as goal

pub size_with-requires-clause-offsets : goal.size_with-requires-clause-offsets
size_with-requires-clause-offsets c = few_offsets_held _ _ _ _ _ _ c.self.inside.held.0.1

pub returns-then-self-eq0 : goal.returns-then-self-eq0
returns-then-self-eq0 c =
    let inside = c.self.inside in
    let entry = c.args.entry.now in
    let front = c.requires.front ∙ ap (λ (b : Building). longest (front_key b.version b.rows) entry.key) (sym c.self.view_is) in
    let first : (inside.part.num_rows == 0) ≡ has_room inside.block_size c.args.shared inside.part entry = rw c.if-self-eq0.true refl in
    first ∙ fits_held inside.block_size c.args.shared inside.part inside.held entry front ∙ ap (λ (b : Building). fits_in b.size b.version b.rows entry) c.self.view_is

pub returns-else-self-eq0 : goal.returns-else-self-eq0
returns-else-self-eq0 c =
    let inside = c.self.inside in
    let entry = c.args.entry.now in
    let front = c.requires.front ∙ ap (λ (b : Building). longest (front_key b.version b.rows) entry.key) (sym c.self.view_is) in
    let later : (inside.part.num_rows == 0) ≡ false = ne_eqb inside.part.num_rows 0 c.if-self-eq0.false in
    rw (c.size_with.ensures, c.from.ensures)
    (sym (ap (λ (b : Bool). b || nat_le (part_size c.args.shared inside.part entry) inside.block_size) later) ∙ fits_held inside.block_size c.args.shared inside.part inside.held entry front ∙ ap (λ (b : Building). fits_in b.size b.version b.rows entry) c.self.view_is)
