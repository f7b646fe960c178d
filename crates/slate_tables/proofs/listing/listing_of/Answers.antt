use Rattle.std.proofs.Common.{◌≡◌, ◌∙◌, sym}
use Rattle.std.proofs.lemmas.Bool.{false≢true}
use Rattle.slate_tables.proofs.ListingLaws.{listing_other, listing_table}
use Rattle.slate_tables.proofs.listing.listing_of.Goals as goal

pub loop-path-preserved-in-Continue-1 : goal.loop-path-preserved-in-Continue-1
loop-path-preserved-in-Continue-1 c =
    listing_table c.args.root.now c.loop-path.yielded c.loop-path.tables.items c.push.new.self.items c.loop-path.others.items c.in-Some.path c.in-Some-id_in_path.id
    (sym c.as_str.ensures ∙ c.in-Some-id_in_path.ensures.found) c.in_ok-push-in-Some-id_in_path.ensures.items c.loop-path.invariant

pub loop-path-preserved : goal.loop-path-preserved
loop-path-preserved c =
    listing_other c.args.root.now c.loop-path.yielded c.loop-path.tables.items c.loop-path.others.items c.push-in-None-id_in_path.new.self.items c.in-Some.path
    (λ id small is. false≢true (c.in-None-id_in_path.ensures.only id small (c.as_str.ensures ∙ is))) c.in_ok-push-in-None-id_in_path.ensures.items c.loop-path.invariant
