use Rattle.std.proofs.Common.{◌∙◌, List, ℕ, ap, not, filter, rules}
use Rattle.std.specs.List.{list_any}
use Rattle.std.specs.BTreeMap.{is_at}
use Rattle.std.proofs.lemmas.Fn.{filter_same}
use Rattle.slate_types.specs.Keys.{key_cmp}
use Rattle.slate_mem.proofs.TableLaws.{among_is}
use Rattle.slate_db.specs.Segmented.{without_prefixes}
use Rattle.slate_db.proofs.segments.SegmentPrefixes.take_back.Goals as goal

pub returns : goal.returns
returns c =
    let fresh = c.args.fresh.now.keys in
    filter_same _ (λ (p : List ℕ). not (list_any (is_at (key_cmp p)) fresh)) (record { 0 = c.args.fresh }) (λ x b f t. search rules) _ _ c.retain.ensures.filtered
    ∙ (λ i. filter (λ p. not (among_is p fresh i)) c.self.inside.prefixes.keys)
    ∙ ap (without_prefixes fresh) c.self.view_is
