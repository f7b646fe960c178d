use Rattle.std.proofs.Common.{◌≡◌, Some, inl, inr, arith, refl}
use Rattle.std.proofs.lemmas.Result.{err_from_is_err_and, IfErr-weaker, IfOk-from_err}
use Rattle.slate_block.specs.RowReading.{refusal}
use Rattle.slate_table.specs.Paths.{path_of}
use Rattle.slate_table.specs.SectionReading.{changed_by}
use Rattle.slate_table.specs.StatsReading.{stats_in}
use Rattle.slate_table.specs.Reading.{of_stats, IsStatsRead, RefusesStats}
use Rattle.slate_table.proofs.PartReads.{refused, still_ok, still_err}
use Rattle.slate_table.proofs.Unasked.{unanswered_exit, no_fault, no_stats_fault}
use Rattle.slate_table.proofs.Results.{mapped_some, mapped_same, not_none, on_err, spread, store_still, store_err}
use Rattle.slate_table.proofs.sst_file.SstFile.stats.Goals as goal

pub returns-in_err-part : goal.returns-in_err-part
unfolding RefusesStats
returns-in_err-part g c =
    let p = err_from_is_err_and c.from_residual.result c.from_residual.ensures.1 in
    record {
      none = rw p.1 (λ h. absurd cc, λ none. absurd (omega (arith, none)));
      unread = λ none. absurd (omega (arith, none));
      found = IfOk-from_err c.from_residual.result _ c.from_residual.ensures.0;
      cause = (let store = c.args.reader.now.store in
          let handle = c.args.self.now.handle in
          rw (p.1, p.2, ← c.as_str-root.ensures.value)
          (refused (g.S.Store.objects store) (g.S.Store.acts store) (g.S.Store.acts c.read_part.new.store) (path_of c.as_str-root.result.now handle.id.0) handle.info.stats_offset handle.info.stats_len
          (changed_by g.T.BlockTransformer.decoded c.args.reader.now.transformer) (of_stats handle) (λ part. refusal (stats_in part)) c.in_err-part.field-0.0 c.in_err-part.ensures.cause));
      once = rw (p.1, ← c.as_str-root.ensures.value) c.in_err-part.ensures.once;
      unasked = rw (← c.as_str-root.ensures.value) c.read_part.ensures.unasked;
      unanswered = unanswered_exit c.from_residual.result _ c.from_residual.ensures.1 c.in_err-part.ensures.unanswered;
      objects = c.read_part.ensures.reaches.same_objects;
      root = refl;
      same_encoded = c.read_part.ensures.stays.same_encoded;
      same_decoded = c.read_part.ensures.stays.same_decoded;
      later = c.read_part.ensures.reaches.later;
      still = rw (p.1, p.2) (store_err c.in_err-part.field-0.0 c.in_err-part.ensures.reaches.still);
      later_transformer = c.read_part.ensures.stays.later;
      still_transformer = rw (p.1, p.2) (still_err c.in_err-part.field-0.0 c.in_err-part.ensures.stays.still);
    }

pub returns : goal.returns
unfolding IsStatsRead RefusesStats
returns g c =
    let f = c.in_ok-part.ensures.found in
    record {
      none = (λ h. absurd (not_none c.decode.result c.map.result c.map.ensures.cases h), λ none. absurd (omega (arith, none)));
      unread = λ none. absurd (omega (arith, none));
      found = (rw (← c.as_str-root.ensures.value) (mapped_some c.decode.result c.map.result _ _ c.map.ensures.cases (λ made h. (f.0, f.1, (c.in_ok-part.part, f.2, h))) c.decode.ensures.found));
      cause = (rw (← c.as_str-root.ensures.value)
          (mapped_same c.decode.result c.map.result _ c.map.ensures.cases (IfErr-weaker c.decode.result _ _ (λ e h. spread (λ r. (f.0, f.1, inr (c.in_ok-part.part, f.2, r))) h) c.decode.ensures.cause)));
      once = (rw (← c.as_str-root.ensures.value) (on_err c.map.result (inr (f.0, f.1, tt))));
      unasked = rw (← c.as_str-root.ensures.value) (inr (f.0, f.1, (f.2.0, f.2.1)));
      unanswered = (λ failed. absurd
          (no_fault c.map.result (λ e. refusal (stats_in c.in_ok-part.part) ≡ Some e) (no_stats_fault c.in_ok-part.part) (mapped_same c.decode.result c.map.result _ c.map.ensures.cases c.decode.ensures.cause) failed));
      objects = c.read_part.ensures.reaches.same_objects;
      root = refl;
      same_encoded = c.read_part.ensures.stays.same_encoded;
      same_decoded = c.read_part.ensures.stays.same_decoded;
      later = c.read_part.ensures.reaches.later;
      still = inr (store_still c.in_ok-part.part c.in_ok-part.ensures.reaches.still);
      later_transformer = c.read_part.ensures.stays.later;
      still_transformer = inr (still_ok c.in_ok-part.part c.in_ok-part.ensures.stays.still);
    }

pub returns-then-place-eq0 : goal.returns-then-place-eq0
returns-then-place-eq0 g c =
    record {
      none = (λ _. omega arith, λ _. refl);
      unread = λ h. refl;
      found = tt;
      cause = tt;
      once = tt;
      unasked = inl refl;
      unanswered = λ _. refl;
      objects = refl;
      root = refl;
      same_encoded = refl;
      same_decoded = refl;
      later = omega arith;
      still = inr refl;
      later_transformer = omega arith;
      still_transformer = inr refl;
    }
