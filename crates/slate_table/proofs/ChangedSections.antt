-- Each section of a table tells a byte of it that was changed.
use Rattle.std.proofs.Common.{◌≡◌, ◌⊎◌, inl, inr, ℕ, ◌+◌, false, List, [], ◌∷◌, ◌++◌, length, map, flat_map, take, drop, refl, sym, ap, subst, ◌∙◌, arith, append_assoc}
use Rattle.std.specs.Prelude.{Contains}
use Rattle.std.specs.List.{AllByRecursion}
use Rattle.std.proofs.lemmas.List.{length-append, take_at, drop_at}
use Rattle.std.proofs.lemmas.List.Elements.{All-contains, All-from_recursion}
use Rattle.slate_types.specs.declared.types.RowEntry.{RowEntry}
use Rattle.slate_types.specs.Outside.{part}
use Rattle.slate_types.specs.World.{Section}
use Rattle.slate_types.proofs.Lists.{AllByRecursion_append}
use Rattle.slate_block.specs.BlockSpelling.{block_bytes, places}
use Rattle.slate_block.specs.RowSpelling.{be16, be64}
use Rattle.slate_table.specs.ChangedBytes.{IsByteChanged}
use Rattle.slate_table.specs.Parts.{Encode, block_kind, cover_of, filters_bytes, filters_kind, index_bytes, info_kind, section, separators, stats_bytes, sum_fits, summed}
use Rattle.slate_table.specs.Table.{IsTableOf, block_places, block_sections, blocks_end, filter_section, filters_section, index_section, info_of, info_section, later_places, lies, placed, sections_from, sections_then_info, stats_section, table_places}
use Rattle.slate_table.proofs.ChangedBytes.{byte_told}
use Rattle.slate_table.proofs.Sections.{section_length}

-- none of its bytes, or some with their checksum behind
abbrev pub IsSummed : List ℕ → Section → Type 0
IsSummed bytes place = (part place.at place.len bytes ≡ []) ⊎ ((stored : List ℕ) × (part place.at place.len bytes ≡ summed place.cover stored))

stands : (bytes earlier s later : List ℕ) (at : ℕ) → bytes ≡ earlier ++ (s ++ later) → at ≡ length earlier → part at (length s) bytes ≡ s
stands bytes earlier s later at is same =
    ap (λ (l : List ℕ). part at (length s) l) is
    ∙ ap (take (length s)) (drop_at earlier (s ++ later) at (sym same))
    ∙ take_at s later (length s) refl

blocks_summed : (version id : ℕ) (encode : Encode) (bytes : List ℕ) (at : ℕ) (ps : List (List ℕ)) (earlier later : List ℕ) → at ≡ length earlier → bytes ≡ earlier ++ (flat_map (λ b. b) (sections_from version id encode at ps) ++ later) →
    AllByRecursion (IsSummed bytes) (placed version id at (sections_from version id encode at ps))
blocks_summed version id encode bytes at [] earlier later same is = tt
blocks_summed version id encode bytes at (p ∷ ps) earlier later same is =
    let s = section (cover_of version id block_kind at) encode p in
    let n : length s ≡ length (encode p) + 4 = section_length (cover_of version id block_kind at) encode p in
    let next : at + length s ≡ at + (length (encode p) + 4) = ap (λ m. at + m) n in
    let rest = flat_map (λ b. b) (sections_from version id encode (at + (length (encode p) + 4)) ps) in
    let here : bytes ≡ earlier ++ (s ++ (rest ++ later)) = is ∙ ap (λ (l : List ℕ). earlier ++ l) (append_assoc s rest later) in
    let l = length-append earlier s in (
      inr (encode p, stands bytes earlier s (rest ++ later) at here same),
      subst (λ m. AllByRecursion (IsSummed bytes) (placed version id m (sections_from version id encode (at + (length (encode p) + 4)) ps))) (sym next)
          (blocks_summed version id encode bytes (at + (length (encode p) + 4)) ps (earlier ++ s) later (omega (arith, same, l, n)) (here ∙ sym (append_assoc earlier s (rest ++ later)))),
    )

filters_summed : (cover : List ℕ) (encode : Encode) (fs : List (List ℕ × List ℕ)) (x : List ℕ) → x ≡ filter_section cover encode fs → (x ≡ []) ⊎ ((stored : List ℕ) × (x ≡ summed cover stored))
filters_summed cover encode [] x h = inl h
filters_summed cover encode (f ∷ fs) x h = inr (encode (filters_bytes (f ∷ fs)), h)

info_there : ℕ → ℕ → List RowEntry → List ℕ → List ℕ → List ℕ → List ℕ → List ℕ
info_there version id rows b f i s = summed (cover_of version id info_kind (length b + length f + length i + length s)) (info_of version rows (length b) f i s)

in_turn : (version id : ℕ) (rows : List RowEntry) (b f i s : List ℕ) →
    sections_then_info version id rows b f i s ≡ b ++ f ++ i ++ s ++ info_there version id rows b f i s ++ be64 (length b + length f + length i + length s) ++ be16 version
unfolding info_there
in_turn version id rows b f i s = refl

info_is : (encode : Encode) (version id : ℕ) (bs : List (List RowEntry)) (fs : List (List ℕ × List ℕ)) →
    info_section encode version id bs fs ≡ info_there version id (flat_map (λ x. x) bs) (flat_map (λ x. x) (block_sections encode version id bs)) (filters_section encode version id bs fs) (index_section encode version id bs fs) (stats_section encode version id bs fs)
unfolding info_there
info_is encode version id bs fs = refl

info_summed : (bytes : List ℕ) (version id : ℕ) (rows : List RowEntry) (b f i s x : List ℕ) → x ≡ info_there version id rows b f i s →
    part (length b + length f + length i + length s) (length (info_there version id rows b f i s)) bytes ≡ info_there version id rows b f i s →
    IsSummed bytes (lies version id info_kind (length b + length f + length i + length s) x)
unfolding info_there
info_summed bytes version id rows b f i s x same at =
    inr (info_of version rows (length b) f i s, ap (λ (l : List ℕ). part (length b + length f + length i + length s) (length l) bytes) same ∙ at)

pub all_summed : (encode : Encode) (bytes : List ℕ) (version id : ℕ) (bs : List (List RowEntry)) (fs : List (List ℕ × List ℕ)) → IsTableOf encode bytes version id bs fs → AllByRecursion (IsSummed bytes) (table_places encode version id bs fs)
all_summed encode bytes version id bs fs t =
    AllByRecursion_append (IsSummed bytes) (block_places encode version id bs) (later_places encode version id bs fs)
    (blocks_summed version id encode bytes 0 (map (λ b. block_bytes version b) bs) [] (f ++ (i ++ (s ++ (n ++ e)))) refl to_filters) (
      filters_summed (cover_of version id filters_kind (blocks_end encode version id bs)) encode fs _ (stands bytes b f (i ++ (s ++ (n ++ e))) (length b) to_filters refl),
      (
        inr (encode (index_bytes (places 0 (block_sections encode version id bs)) (separators bs)), stands bytes (b ++ f) i (s ++ (n ++ e)) (length b + length f) to_index (sym bf)),
        (
          inr (encode (stats_bytes bs), stands bytes ((b ++ f) ++ i) s (n ++ e) (length b + length f + length i) to_stats (omega (arith, bf, bfi))),
          (
            info_summed bytes version id (flat_map (λ x. x) bs) b f i s (info_section encode version id bs fs) (info_is encode version id bs fs)
                (stands bytes (((b ++ f) ++ i) ++ s) n e (length b + length f + length i + length s) to_info (omega (arith, bf, bfi, bfis))),
            tt,
          ),
        ),
      ),
    )
  where
    b : List ℕ
    b = flat_map (λ x. x) (block_sections encode version id bs)

    f : List ℕ
    f = filters_section encode version id bs fs

    i : List ℕ
    i = index_section encode version id bs fs

    s : List ℕ
    s = stats_section encode version id bs fs

    n : List ℕ
    n = info_there version id (flat_map (λ x. x) bs) b f i s

    e : List ℕ
    e = be64 (length b + length f + length i + length s) ++ be16 version

    whole : bytes ≡ b ++ f ++ i ++ s ++ n ++ be64 (length b + length f + length i + length s) ++ be16 version
    whole = t.is ∙ in_turn version id (flat_map (λ x. x) bs) b f i s

    bf : length (b ++ f) ≡ length b + length f
    bf = length-append b f

    bfi : length ((b ++ f) ++ i) ≡ length (b ++ f) + length i
    bfi = length-append (b ++ f) i

    bfis : length (((b ++ f) ++ i) ++ s) ≡ length ((b ++ f) ++ i) + length s
    bfis = length-append ((b ++ f) ++ i) s

    to_info : bytes ≡ (((b ++ f) ++ i) ++ s) ++ (n ++ e)
    to_info = whole ∙ append_assoc ((((b ++ f) ++ i) ++ s) ++ n) (be64 (length b + length f + length i + length s)) (be16 version) ∙ append_assoc (((b ++ f) ++ i) ++ s) n e

    to_stats : bytes ≡ ((b ++ f) ++ i) ++ (s ++ (n ++ e))
    to_stats = to_info ∙ append_assoc ((b ++ f) ++ i) s (n ++ e)

    to_index : bytes ≡ (b ++ f) ++ (i ++ (s ++ (n ++ e)))
    to_index = to_stats ∙ append_assoc (b ++ f) i (s ++ (n ++ e))

    to_filters : bytes ≡ b ++ (f ++ (i ++ (s ++ (n ++ e))))
    to_filters = to_index ∙ append_assoc b f (i ++ (s ++ (n ++ e)))

none_changed : (bytes changed : List ℕ) → bytes ≡ [] → IsByteChanged bytes changed → ⊥
none_changed bytes changed none c =
    let some = length-append c.front (c.old ∷ c.behind) in
    let same : 0 ≡ length (c.front ++ (c.old ∷ c.behind)) = ap (λ (l : List ℕ). length l) (sym none ∙ c.was) in
    omega (arith, some, same)

was_these : (a b changed : List ℕ) → a ≡ b → IsByteChanged a changed → IsByteChanged b changed
was_these a b changed same c = record { front = c.front; old = c.old; new = c.new; behind = c.behind; was = sym same ∙ c.was; is = c.is; old_byte = c.old_byte; new_byte = c.new_byte; differs = c.differs }

pub sections_tell : (encode : Encode) (bytes : List ℕ) (version id : ℕ) (bs : List (List RowEntry)) (fs : List (List ℕ × List ℕ)) → IsTableOf encode bytes version id bs fs →
    (place : Section) → Contains (table_places encode version id bs fs) place → (changed : List ℕ) → IsByteChanged (part place.at place.len bytes) changed → sum_fits place.cover changed ≡ false
sections_tell encode bytes version id bs fs t place among changed c =
    by (All-contains (IsSummed bytes) (table_places encode version id bs fs) place (All-from_recursion (IsSummed bytes) (table_places encode version id bs fs) (all_summed encode bytes version id bs fs t)) among)
  where
    by : IsSummed bytes place → sum_fits place.cover changed ≡ false
    by (inl none) = absurd (none_changed (part place.at place.len bytes) changed none c)
    by (inr (stored, is)) = byte_told place.cover stored changed (was_these (part place.at place.len bytes) (summed place.cover stored) changed is c)
