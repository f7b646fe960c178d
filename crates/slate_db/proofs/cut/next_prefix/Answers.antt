use Rattle.std.proofs.Common.{rules, ◌≡◌, ◌||◌, Bool, true, false, not, refl, sym, ap, ◌∙◌, bytes_eq}
use Rattle.slate_mem.specs.Gathered.{last_row}
use Rattle.slate_db.specs.Cut.{begins_key, begins_segment, segment_of}
use Rattle.slate_db.specs.Meaning.{segments_by}
use Rattle.slate_db.proofs.Cuts.{begins_other, next_is, no_next}
use Rattle.slate_db.proofs.cut.next_prefix.Goals as goal
use Rattle.slate_db.proofs.cut.next_prefix.Goals.{then-full, else-full}

or_right : (a b : Bool) → b ≡ true → (a || b) ≡ true
or_right true b h = refl
or_right false b h = h

or_left : (a b : Bool) → a ≡ true → (a || b) ≡ true
or_left true b h = refl
or_left false b h = cc

neither : (a b : Bool) → a ≡ false → b ≡ false → (a || b) ≡ false
neither true b h k = cc
neither false b h k = k

pub returns-then-ne : goal.returns-then-ne
returns-then-ne g c =
    let by = segments_by g.X.PrefixExtractor.lengths c.args.extractor.now in
    let last = last_row c.args.table.now.rows.items in
    let begins : begins_key (last_row c.args.table.now.rows.items) c.args.row.now ≡ true = search rules in
    let other = begins_other by c.args.table.now.prefix c.args.table.now.rows.items c.args.row.now c.requires begins ∙ ap (λ p. not (bytes_eq c.args.table.now.prefix p)) (sym c.in_ok-prefix.ensures) in
    next_is (begins_key last c.args.row.now) c.args.full (begins_segment by last c.args.row.now) c.in_ok-prefix.prefix (segment_of by c.args.row.now.key) begins
    (elim c.if-full.branch [
      | then-full w ↦ or_left _ _ w.if-full.true
      | else-full w ↦ or_right _ _ (other ∙ (let ne : not (bytes_eq c.args.table.now.prefix c.in_ok-prefix.prefix) ≡ true = search rules in ne))
    ])
    c.in_ok-prefix.ensures

pub returns-else-ne : goal.returns-else-ne
returns-else-ne g c =
    let by = segments_by g.X.PrefixExtractor.lengths c.args.extractor.now in
    let last = last_row c.args.table.now.rows.items in
    let begins : begins_key (last_row c.args.table.now.rows.items) c.args.row.now ≡ true = search rules in
    let other = begins_other by c.args.table.now.prefix c.args.table.now.rows.items c.args.row.now c.requires begins ∙ ap (λ p. not (bytes_eq c.args.table.now.prefix p)) (sym c.in_ok-prefix.ensures) in
    no_next (begins_key last c.args.row.now) c.args.full (begins_segment by last c.args.row.now) (segment_of by c.args.row.now.key)
    (elim c.if-full.branch [
      | then-full w ↦ let clash : true ≡ false = sym w.if-full.true ∙ sym w.value-is ∙ c.if-ne.false in absurd cc
      | else-full w ↦ neither _ _ w.if-full.false (other ∙ (let ne : not (bytes_eq c.args.table.now.prefix c.in_ok-prefix.prefix) ≡ false = search rules in ne))
    ])
