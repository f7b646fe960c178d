use Rattle.std.proofs.Common.{◌≡◌, ◌∙◌, ◌++◌, ◌∷◌, ◌<◌, ◌⊎◌, [], ℕ, zero, suc, List, None, Ok, Err, length, ap, subst, sym, inl, inr, refl, arith}
use Rattle.std.specs.Prelude.{Result, IfErr, IsSome}
use Rattle.std.proofs.lemmas.Result.{IfOk-weaker, IfErr-weaker, on_ok_weaker, on_err_weaker}
use Rattle.slate_types.specs.declared.types.RowEntry.{RowEntry}
use Rattle.slate_types.specs.declared.types.Ulid.{Ulid}
use Rattle.slate_types.specs.declared.error.SlateDBError.{SlateDBError}
use Rattle.slate_types.specs.declared.error.SlateDBError.TheVariants.{EmptyKey, BlockTransformError, LimitReached, OutOfMemory}
use Rattle.slate_table.specs.Table.{AreInOrder}
use Rattle.slate_table.specs.SectionReading.{changed_by, IsTransformFault}
use Rattle.slate_table.specs.TableBuilding.{TableBuilding, AreEncoded, HasTooManyBlocks, max_blocks, section_size}
use Rattle.slate_table.specs.TableParts.{version_of, seen, Stands, IsAdded, IsFull, IsSame}
use Rattle.slate_table.proofs.Asking.{cause_of, later_of, still_of}
use Rattle.slate_table.proofs.Results.{either_way, err_is}
use Rattle.slate_table.proofs.SumLaws.{has_sums}
use Rattle.slate_table.proofs.PartsLaws.{added_stands, added_sections, added_rows, added_format, added_id, added_size, same_stands, same_seen, full_passes, room_passes_none, old_size, ends_a_block, ends_no_block}
use Rattle.slate_table.proofs.builder.EncodedSsTableBuilder.add.Goals as goal

not_empty : {T : Type 0} (r : Result T SlateDBError) (before after : ℕ) → IfErr r (λ e. IsTransformFault before after e) → r ≡ Err EmptyKey → ⊥
not_empty (Ok x) before after h is = absurd cc
not_empty (Err e) before after (inl memory) is = absurd cc
not_empty (Err e) before after (inr fault) is = let failed : e ≡ BlockTransformError = fault.0 in absurd cc

not_limit : {T : Type 0} (r : Result T SlateDBError) (before after : ℕ) → IfErr r (λ e. IsTransformFault before after e) → r ≡ Err (LimitReached max_blocks) → ⊥
not_limit (Ok x) before after h is = absurd cc
not_limit (Err e) before after (inl memory) is = absurd cc
not_limit (Err e) before after (inr fault) is = let failed : e ≡ BlockTransformError = fault.0 in absurd cc

-- the two refusals of a row
abbrev Refused : SlateDBError → Type 0 → Type 0
Refused e Full = (e ≡ EmptyKey) ⊎ ((e ≡ LimitReached max_blocks) × Full)

empty_or_full : (e : SlateDBError) (Full : Type 0) → Refused e Full → e ≡ LimitReached max_blocks → Full
empty_or_full e Full (inl empty) limit = absurd cc
empty_or_full e Full (inr full) limit = full.1

some_key : (n : ℕ) → (n ≡ 0 → ⊥) → 0 < n
some_key zero none = absurd (none refl)
some_key (suc n) none = omega arith

pub returns-in-Err : goal.returns-in-Err
returns-in-Err g c =
    let inside = c.self.inside in
    let stands : Stands inside.parts = c.self.invariant in
    record {
      added = tt;
      unspoilt = refl;
      version = refl;
      id = refl;
      size = refl;
      min = refl;
      encoded = λ h. h;
      ended = tt;
      limit = ((
        λ is.
            let limit : c.in-Err.error ≡ LimitReached max_blocks = err_is c.in-Err.error (LimitReached max_blocks) is in
            let full : IsFull inside.parts c.args.entry = empty_or_full c.in-Err.error (IsFull inside.parts c.args.entry) c.in-Err.ensures.past limit in (
              subst (λ (b : TableBuilding). HasTooManyBlocks b c.args.entry) c.self.view_is (full_passes inside.min_filter_keys inside.parts c.args.entry stands full),
              some_key (length c.args.entry.key) (λ none. let empty = err_is c.in-Err.error EmptyKey (c.in-Err.ensures.empty.1 none) in cc (limit, empty)),
            ),
        λ h. elim c.in-Err.ensures.past [
          | inl empty ↦ let none = c.in-Err.ensures.empty.0 (ap Err empty) in absurd (omega (arith, none, h.1))
          | inr past ↦ ap (λ (x : SlateDBError). Err x) past.0
        ],
      ));
      empty = ((
        λ h. c.in-Err.ensures.empty.0 (ap (λ (x : SlateDBError). Err x) (err_is c.in-Err.error EmptyKey h)),
        λ none. ap (λ (x : SlateDBError). Err x) (err_is c.in-Err.error EmptyKey (c.in-Err.ensures.empty.1 none)),
      ));
      cause = elim c.in-Err.ensures.past [
        | inl empty ↦ inr (inl empty)
        | inr past ↦ inr (inr past.0)
      ];
      unasked = λ _. refl;
      fault = (λ failed. elim c.in-Err.ensures.past [
        | inl empty ↦ absurd (cc (empty, failed))
        | inr past ↦ absurd (cc (past.0, failed))
      ]);
      same_encoded = refl;
      same_decoded = refl;
      later = omega arith;
      still = inr refl;
    }

pub add-requires : goal.add-requires
add-requires g c =
    let inside = c.self.inside in
    let stands : Stands inside.parts = c.self.invariant in
    record {
      some = stands.some;
      few = stands.few;
      lengths = c.requires.lengths;
      key = c.in-Ok.ensures.some;
      sums = has_sums inside.parts c.args.entry stands c.requires.lengths;
    }

pub invariant_of-self : goal.invariant_of-self
invariant_of-self g c =
    let inside = c.self.inside in
    let stands : Stands inside.parts = c.self.invariant in
    let encode = changed_by g.T.BlockTransformer.encoded c.args.transformer.now in
    let order = subst (λ (rows : List RowEntry). AreInOrder (rows ++ c.args.entry ∷ [])) (sym (ap (λ (b : TableBuilding). b.rows) c.self.view_is)) c.requires.order in
    either_way c.add.result
    (on_ok_weaker c.add.result (λ (a : IsAdded encode inside.parts c.args.entry c.add.new.self). added_stands encode inside.parts c.add.new.self c.args.entry stands a order c.requires.lengths c.in-Ok.ensures.room) c.add.ensures.added)
    (on_err_weaker c.add.result (λ (same : IsSame inside.parts c.add.new.self). same_stands inside.parts c.add.new.self same stands) c.add.ensures.same)

pub returns-in-Ok : goal.returns-in-Ok
returns-in-Ok g c =
    let inside = c.self.inside in
    let p = inside.parts in
    let q = c.add.new.self in
    let encode = changed_by g.T.BlockTransformer.encoded c.args.transformer.now in
    let stands : Stands p = c.self.invariant in
    let result = c.add.result in
    let unspoilt = on_err_weaker result (λ (same : IsSame p q). same_seen inside.min_filter_keys p q same ∙ c.self.view_is) c.add.ensures.same in
    record {
      added = on_ok_weaker result (λ h. added_rows encode p q c.args.entry h ∙ ap (λ (b : TableBuilding). b.rows ++ c.args.entry ∷ []) c.self.view_is) c.add.ensures.added;
      unspoilt = unspoilt;
      version = either_way result
          (on_ok_weaker result (λ h. ap version_of (added_format encode p q c.args.entry h) ∙ ap (λ (b : TableBuilding). b.version) c.self.view_is) c.add.ensures.added)
          (on_err_weaker result (λ same. ap (λ (b : TableBuilding). b.version) same) unspoilt);
      id = either_way result
          (on_ok_weaker result (λ h. ap (λ (u : Ulid). u.0) (added_id encode p q c.args.entry h) ∙ ap (λ (b : TableBuilding). b.id) c.self.view_is) c.add.ensures.added)
          (on_err_weaker result (λ same. ap (λ (b : TableBuilding). b.id) same) unspoilt);
      size = either_way result
          (on_ok_weaker result (λ h. added_size encode p q c.args.entry h ∙ ap (λ (b : TableBuilding). b.size) c.self.view_is) c.add.ensures.added)
          (on_err_weaker result (λ same. ap (λ (b : TableBuilding). b.size) same) unspoilt);
      min = ap (λ (b : TableBuilding). b.min) c.self.view_is;
      encoded = λ old. either_way result
          (on_ok_weaker result (λ h. added_sections encode p q c.args.entry stands h (subst (λ (b : TableBuilding). AreEncoded encode b) (sym c.self.view_is) old)) c.add.ensures.added)
          (on_err_weaker result (λ same. subst (λ (b : TableBuilding). AreEncoded encode b) (sym same) old) unspoilt);
      ended = (IfOk-weaker result _ _
          (λ size h. h ∙ old_size encode inside.min_filter_keys p c.args.entry stands ∙ ap (λ (b : TableBuilding). section_size encode b c.args.entry) c.self.view_is)
          c.add.ensures.size);
      limit = ((
        λ is. absurd (not_limit result _ _ (cause_of _ _ result c.add.ensures.asks.counts) is),
        λ h. absurd (room_passes_none inside.min_filter_keys p c.args.entry stands c.in-Ok.ensures.room (subst (λ (b : TableBuilding). HasTooManyBlocks b c.args.entry) (sym c.self.view_is) h.0)),
      ));
      empty = ((
        λ h. absurd (not_empty result _ _ (cause_of _ _ result c.add.ensures.asks.counts) h),
        λ none. absurd (omega (arith, none, c.in-Ok.ensures.some)),
      ));
      cause = IfErr-weaker result _ _ (λ e h. inl h) (cause_of _ _ result c.add.ensures.asks.counts);
      unasked = (λ none.
          let kept = subst (λ (b : TableBuilding). section_size encode b c.args.entry ≡ None) (sym c.self.view_is) none in
          c.add.ensures.unasked (ends_no_block encode inside.min_filter_keys p c.args.entry stands kept));
      fault = (λ failed.
          let some = ends_a_block encode inside.min_filter_keys p c.args.entry stands (c.add.ensures.fault failed) in
          subst (λ (b : TableBuilding). IsSome (section_size encode b c.args.entry)) c.self.view_is some);
      same_encoded = c.add.ensures.asks.same_encoded;
      same_decoded = c.add.ensures.asks.same_decoded;
      later = later_of _ _ result c.add.ensures.asks.counts;
      still = still_of _ _ result c.add.ensures.asks.counts;
    }
