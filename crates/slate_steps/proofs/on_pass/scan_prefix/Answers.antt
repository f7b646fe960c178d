use Rattle.std.proofs.Common.{None, ◌≡◌, sym}
use Rattle.slate_types.specs.declared.iter.IterationOrder.TheVariants.{Ascending}
use Rattle.slate_types.specs.Keys.{prefix_range}
use Rattle.slate_types.proofs.KeyLaws.{whole_subrange}
use Rattle.slate_store.specs.Reach.{reach_of}
use Rattle.slate_db.specs.Prefixes.{asked_prefix}
use Rattle.slate_db.specs.ScanFilters.{scan_query}
use Rattle.slate_steps.proofs.OnPass.{scan_attempt, scan_cause, scan_checked, scan_more, scan_reading_on, scan_refused, scan_since, scan_undamaged, scan_vouched_there}
use Rattle.slate_steps.proofs.on_pass.scan_prefix.Goals as goal

pub returns : goal.returns
returns g c =
    let o = g.P.Parts.options in
    let m = g.P.Parts.meaning in
    let ps = g.P.Parts.policies in
    let range = prefix_range c.args.prefix.now in
    let q = scan_query range (asked_prefix c.args.prefix.now) None in
    let t = c.args.txn.now in
    let u = c.scan_prefix.new.self in
    let before = reach_of g.S.Store g.M.MergeOperator g.T.BlockTransformer c.args.env.now in
    let after = reach_of g.S.Store g.M.MergeOperator g.T.BlockTransformer c.scan_prefix.new.env in
    let r = c.scan_prefix.result in
    let quiet = c.scan_prefix.new.env ≡ c.args.env.now in
    let opened = c.scan_prefix.ensures.opened range (whole_subrange c.args.prefix.now) in
    record {
      within = λ from level ts h. scan_attempt o m ps q range Ascending t u before after quiet r opened from level ts h;
      same = opened.unnoted;
      refused = λ from level ts h. scan_refused o m ps q range Ascending t u before after quiet r opened from level ts h;
      named = opened.names;
      sees = λ from level ts h v. scan_vouched_there o m ps q range Ascending t u before after quiet r opened v;
      reading = λ from level ts h s. scan_reading_on o m ps q range Ascending t u before after quiet r opened from level ts h s;
      checked = λ from level ts h s. scan_checked o m ps q range Ascending t u before after quiet c.requires.meaning r opened from level ts h s;
      undamaged = λ from level ts h s. scan_undamaged o m ps q range Ascending t u before after quiet r opened from level ts h s;
      since = λ from level ts h. scan_since o m ps q range Ascending t u before after quiet r opened from level ts h (sym c.requires.meaning);
      cause = λ from level ts h. scan_cause o m ps q range Ascending t u before after quiet r opened from level ts h (sym c.requires.meaning);
      more = scan_more o m ps q range Ascending t u before after quiet r opened;
      counts = opened.still;
      reads = opened.reads;
    }
