use Rattle.std.proofs.Common.{◌≡◌, ◌∙◌, ℕ, List, set, true, false, slice_get, ap, sym, subst}
use Rattle.std.specs.List.{insert}
use Rattle.slate_types.specs.declared.types.RowEntry.{RowEntry}
use Rattle.slate_types.specs.Rows.{sequenced}
use Rattle.slate_mem.specs.Slots.{IsPlaceIn, is_standing}
use Rattle.slate_mem.proofs.SlotLaws.{put_between, put_over}
use Rattle.slate_mem.proofs.slots.put_in_list.Goals as goal

pub returns-then-stands_at : goal.returns-then-stands_at
returns-then-stands_at c =
    let place : IsPlaceIn (sequenced c.args.row) c.args.rows.now.items c.place_in-at.result =
    subst (λ (rs : List RowEntry). IsPlaceIn (sequenced c.args.row) rs c.place_in-at.result) c.deref.ensures.value
    (subst (λ (k : List ℕ). IsPlaceIn (record { user_key = k; seq = c.args.row.seq }) c.deref.result.now c.place_in-at.result) c.as_slice.ensures c.place_in-at.ensures) in
    let at = c.place_in-at.result in
    let stands : is_standing (sequenced c.args.row) (slice_get c.args.rows.now.items at) ≡ true =
    ap (λ (rs : List RowEntry). is_standing (sequenced c.args.row) (slice_get rs at)) (sym c.deref-2.ensures.value) ∙ sym c.stands_at.ensures ∙ c.if-stands_at.true in
    ap (set c.args.rows.now.items at) c.replace.ensures.after ∙ put_over c.args.rows.now.items c.args.row at place.before stands

pub returns : goal.returns
returns c =
    let place : IsPlaceIn (sequenced c.args.row) c.args.rows.now.items c.place_in-at.result =
    subst (λ (rs : List RowEntry). IsPlaceIn (sequenced c.args.row) rs c.place_in-at.result) c.deref.ensures.value
    (subst (λ (k : List ℕ). IsPlaceIn (record { user_key = k; seq = c.args.row.seq }) c.deref.result.now c.place_in-at.result) c.as_slice.ensures c.place_in-at.ensures) in
    let at = c.place_in-at.result in
    let stands : is_standing (sequenced c.args.row) (slice_get c.args.rows.now.items at) ≡ false =
    ap (λ (rs : List RowEntry). is_standing (sequenced c.args.row) (slice_get rs at)) (sym c.deref-2.ensures.value) ∙ sym c.stands_at.ensures ∙ c.if-stands_at.false in
    c.in_ok-insert.ensures.items ∙ put_between c.args.rows.now.items c.args.row at place stands
