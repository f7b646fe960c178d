use Rattle.slate_tables.specs.Listing.{IsListing}
use Rattle.slate_tables.proofs.listing.listing_of.Given as goal

abbrev pub invariant-loop-path : goal.invariant-loop-path
invariant-loop-path l = IsListing l.root l.yielded l.tables.items l.others.items
