use Rattle.std.proofs.Common.{◌≡◌, ◌&&◌, ◌||◌, not, List, ℕ, true, false, ap, sym, ◌∙◌}
use Rattle.slate_types.specs.Keys.{among}
use Rattle.slate_mem.proofs.TableLaws.{among_is}
use Rattle.slate_db.proofs.Recording.{missing_all, missing_found, missing_skipped}
use Rattle.slate_db.proofs.segments.missing.Goals as goal

pub loop-prefix-preserved-in_ok-insert : goal.loop-prefix-preserved-in_ok-insert
loop-prefix-preserved-in_ok-insert c =
    let e = c.in_ok-insert.ensures in
    let was = c.loop-prefix.invariant in
    let keys = rw c.in_ok-clone.ensures.cases at e.keys in
    let recorded = c.args.recorded.now.keys in
    let apart : among c.in-Some.prefix.now recorded ≡ false = sym (among_is c.in-Some.prefix.now recorded) ∙ sym c.contains.ensures ∙ c.if-not-contains.true in
    record {
      found = (λ p.
          ap (λ ks. among p ks || (among p c.next.new.self && not (among p recorded))) keys
          ∙ missing_found c.in-Some.prefix.now recorded c.args.own.now.keys c.loop-prefix.fresh.keys c.loop-prefix.prefix-iterator c.next.new.self c.in-Some.ensures.steps apart was.rising was.found p);
      rising = e.ordered;
    }

pub loop-prefix-preserved : goal.loop-prefix-preserved
loop-prefix-preserved c =
    let was = c.loop-prefix.invariant in
    let recorded = c.args.recorded.now.keys in
    let there : among c.in-Some.prefix.now recorded ≡ true = sym (among_is c.in-Some.prefix.now recorded) ∙ sym c.contains.ensures ∙ c.if-not-contains.false in
    record {
      found = missing_skipped c.in-Some.prefix.now recorded c.args.own.now.keys c.loop-prefix.fresh.keys c.loop-prefix.prefix-iterator c.next.new.self c.in-Some.ensures.steps there was.found;
      rising = was.rising;
    }
