-- A block's bytes come apart into its rows' part and its offsets, and into nothing else.
use Rattle.std.proofs.Common.{◌≡◌, ℕ, ◌+◌, ◌*◌, ◌<◌, ◌≤◌, ◌^◌, inl, inr, Bool, true, false, cond, List, [], ◌∷◌, ◌++◌, length, flat_map, refl, sym, subst, ap, ◌∙◌, arith, length-append}
use Rattle.std.specs.List.{AllByRecursion}
use Rattle.std.proofs.lemmas.List.Concat.{flat_map-cons}
use Rattle.slate_types.specs.declared.types.RowEntry.{RowEntry}
use Rattle.slate_block.specs.RowSpelling.{be16}
use Rattle.slate_block.specs.BlockSpelling.{entry_v1, entry_v2, SharesV1, SharesV2, is_restart, AreRows, places, restarts, offsets_of, IsBlockOf, IsBlock, block_spelling}
use Rattle.slate_block.specs.BlockReading.{Rise, AreOffsets, IsApart}
use Rattle.slate_block.proofs.Pieces.{same_ends, same_be16}
use Rattle.slate_block.proofs.BlockLaws.{some_v1, some_v2, two_bytes_each}

-- ---- no piece is empty

AreSome : List (List ℕ) → Type 0
AreSome bs = AllByRecursion (λ b. 0 < length b) bs

is_some : (b : List ℕ) → ([] ≡ b ++ [] → ⊥) → 0 < length b
is_some [] h = absurd (h refl)
is_some (c ∷ b) h = omega arith

some_pieces_v1 : (first : List ℕ) (bs : List (List ℕ)) (rs : List RowEntry) → SharesV1 first bs rs → AreSome bs
unfolding AreSome
some_pieces_v1 first [] rs h = tt
some_pieces_v1 first (b ∷ bs) [] h = absurd h
some_pieces_v1 first (b ∷ bs) (r ∷ rs) h = (is_some b (some_v1 b [] (entry_v1 h.0.0 r) h.0.2), some_pieces_v1 first bs rs h.1)

some_pieces_v2 : (i : ℕ) (previous : List ℕ) (bs : List (List ℕ)) (rs : List RowEntry) → SharesV2 i previous bs rs → AreSome bs
unfolding AreSome
some_pieces_v2 i previous [] rs h = tt
some_pieces_v2 i previous (b ∷ bs) [] h = absurd h
some_pieces_v2 i previous (b ∷ bs) (r ∷ rs) h = (is_some b (some_v2 b [] (entry_v2 h.0.0 r) h.0.2), some_pieces_v2 (i + 1) r.key bs rs h.1)

-- ---- so places rise

AreSmall : List ℕ → Type 0
AreSmall ats = AllByRecursion (λ at. at < 2 ^ 16) ats

places_rise : (low at end : ℕ) (bs : List (List ℕ)) → AreSome bs → AreSmall (places at bs) → low ≤ at → at + length (flat_map (λ b. b) bs) ≤ end → Rise low end (places at bs)
unfolding AreSome AreSmall
places_rise low at end [] some small p q = tt
places_rise low at end (b ∷ bs) some small p q =
    let parts = length-append b (flat_map (λ b. b) bs) in
    (p, omega (arith, some.0, q, parts), small.0, places_rise (at + 1) (at + length b) end bs some.1 small.1 (omega (arith, some.0)) (omega (arith, q, parts)))

restarts_rise : (low i at end : ℕ) (bs : List (List ℕ)) → AreSome bs → AreSmall (restarts i (places at bs)) → low ≤ at → at + length (flat_map (λ b. b) bs) ≤ end → Rise low end (restarts i (places at bs))
unfolding AreSome AreSmall
restarts_rise low i at end [] some small p q = tt
restarts_rise low i at end (b ∷ bs) some small p q =
    by (is_restart i) (length-append b (flat_map (λ b. b) bs)) (λ l s m. restarts_rise l (i + 1) (at + length b) end bs some.1 s m) small
  where
    later : List ℕ
    later = restarts (i + 1) (places (at + length b) bs)

    by : (t : Bool) → length (b ++ flat_map (λ b. b) bs) ≡ length b + length (flat_map (λ b. b) bs)
        → ((l : ℕ) → AreSmall later → l ≤ at + length b → at + length b + length (flat_map (λ b. b) bs) ≤ end → Rise l end later)
        → AreSmall (cond t (at ∷ []) [] ++ later) → Rise low end (cond t (at ∷ []) [] ++ later)
    by true parts go s = (p, omega (arith, some.0, q, parts), s.0, go (at + 1) s.1 (omega (arith, some.0)) (omega (arith, q, parts)))
    by false parts go s = go low s (omega (arith, p)) (omega (arith, q, parts))

-- ---- the offsets of pieces

apart_v1 : (b : List ℕ) (bs : List (List ℕ)) → AreSome (b ∷ bs) → AreSmall (places 0 (b ∷ bs)) → AreOffsets (length (flat_map (λ b. b) (b ∷ bs))) (places 0 (b ∷ bs))
unfolding AreSome AreSmall
apart_v1 b bs some small =
    let parts = length-append b (flat_map (λ b. b) bs) in
    (refl, omega (arith, some.0, parts), places_rise 1 (0 + length b) (length (flat_map (λ b. b) (b ∷ bs))) bs some.1 small.1 (omega (arith, some.0)) (omega (arith, parts)))

apart_v2 : (b : List ℕ) (bs : List (List ℕ)) → AreSome (b ∷ bs) → AreSmall (restarts 0 (places 0 (b ∷ bs))) → AreOffsets (length (flat_map (λ b. b) (b ∷ bs))) (restarts 0 (places 0 (b ∷ bs)))
unfolding AreSome AreSmall
apart_v2 b bs some small =
    let parts = length-append b (flat_map (λ b. b) bs) in
    (refl, omega (arith, some.0, parts), restarts_rise 1 1 (0 + length b) (length (flat_map (λ b. b) (b ∷ bs))) bs some.1 small.1 (omega (arith, some.0)) (omega (arith, parts)))

-- what is to be shown of pieces, at a version that is known
Apart : List (List ℕ) → ℕ → Type 0
Apart bs version = AreSmall (offsets_of version bs) → AreOffsets (length (flat_map (λ b. b) bs)) (offsets_of version bs)

pieces_apart_v2 : (bs : List (List ℕ)) (r : RowEntry) (rs : List RowEntry) → SharesV2 0 [] bs (r ∷ rs) → Apart bs 2
unfolding Apart
pieces_apart_v2 [] r rs h = absurd h
pieces_apart_v2 (b ∷ bs) r rs h = apart_v2 b bs (some_pieces_v2 0 [] (b ∷ bs) (r ∷ rs) h)

pieces_apart : (version : ℕ) (bs : List (List ℕ)) (rows : List RowEntry) → AreRows version bs rows → Apart bs version
unfolding Apart AreSome
pieces_apart version bs [] h = absurd h
pieces_apart version bs (r ∷ rs) (inl h) =
    let some : AreSome (h.1 ∷ h.2) = (is_some h.1 (some_v1 h.1 [] (entry_v1 0 r) h.4), some_pieces_v1 r.key h.2 rs h.5) in
    subst (λ (v : ℕ). Apart bs v) (sym h.0) (subst (λ (l : List (List ℕ)). Apart l 1) (sym h.3) (apart_v1 h.1 h.2 some))
pieces_apart version bs (r ∷ rs) (inr (inl e, h)) = subst (λ (v : ℕ). Apart bs v) (sym e) (pieces_apart_v2 bs r rs h)
pieces_apart version bs (r ∷ rs) (inr (inr e, h)) = subst (λ (v : ℕ). Apart bs v) (sym e) (pieces_apart_v2 bs r rs h)

pub block_apart : (body offsets bytes : List ℕ) (version : ℕ) (rows : List RowEntry) → IsBlockOf body offsets version rows → bytes ≡ block_spelling body offsets → IsApart body offsets bytes
unfolding Apart AreSmall
block_apart body offsets bytes version rows h e =
    let small = subst (λ (l : List ℕ). AllByRecursion (λ at. at < 2 ^ 16) l) h.are_offsets h.fit in
    let rise = pieces_apart version h.pieces rows h.are_rows small in
    let placed = subst (λ (l : List ℕ). AreOffsets (length (flat_map (λ b. b) h.pieces)) l) (sym h.are_offsets) rise in
    (subst (λ (l : List ℕ). AreOffsets (length l) offsets) (sym h.is_body) placed, h.few, e)

pub apart_block : (body offsets bytes : List ℕ) (version : ℕ) (rows : List RowEntry) → IsApart body offsets bytes → IsBlockOf body offsets version rows → IsBlock bytes version rows
apart_block body offsets bytes version rows a h = (body, offsets, h, a.2)

-- ---- one way

rise_small : (low end : ℕ) (ats : List ℕ) → Rise low end ats → AreSmall ats
unfolding AreSmall
rise_small low end [] h = tt
rise_small low end (at ∷ ats) h = (h.2, rise_small (at + 1) end ats h.3)

offsets_small : (end : ℕ) (ats : List ℕ) → AreOffsets end ats → AreSmall ats
unfolding AreSmall
offsets_small end [] h = absurd h
offsets_small end (at ∷ ats) h = (omega (arith, h.0), rise_small 1 end ats h.2)

same_offsets : (xs ys : List ℕ) → AreSmall xs → AreSmall ys → length xs ≡ length ys → flat_map be16 xs ≡ flat_map be16 ys → xs ≡ ys
unfolding AreSmall
same_offsets [] [] f g n h = refl
same_offsets [] (y ∷ ys) f g n h = absurd (omega (arith, n))
same_offsets (x ∷ xs) [] f g n h = absurd (omega (arith, n))
same_offsets (x ∷ xs) (y ∷ ys) f g n h =
    let both = same_be16 x y (flat_map be16 xs) (flat_map be16 ys) f.0 g.0 (sym (flat_map-cons be16 x xs) ∙ h ∙ flat_map-cons be16 y ys) in
    let rest = same_offsets xs ys f.1 g.1 (omega (arith, n)) both.1 in
    λ i. both.0 i ∷ rest i

pub apart_once : (a b ats bts bytes : List ℕ) → IsApart a ats bytes → IsApart b bts bytes → (a ≡ b) × (ats ≡ bts)
apart_once a b ats bts bytes p q =
    let whole : block_spelling a ats ≡ block_spelling b bts = sym p.2 ∙ q.2 in
    let ends = same_ends (a ++ flat_map be16 ats) (b ++ flat_map be16 bts) (be16 (length ats)) (be16 (length bts)) refl whole in
    let count : length ats ≡ length bts = (same_be16 (length ats) (length bts) [] [] p.1 q.1 (ap (λ l. l ++ []) ends.1)).0 in
    let parts = same_ends a b (flat_map be16 ats) (flat_map be16 bts) (two_bytes_each ats ∙ ap (λ n. 2 * n) count ∙ sym (two_bytes_each bts)) ends.0 in
    (parts.0, same_offsets ats bts (offsets_small (length a) ats p.0) (offsets_small (length b) bts q.0) count parts.1)
