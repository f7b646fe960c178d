-- What is opened of a table that a store holds.
use Rattle.std.proofs.Common.{◌≡◌, ℕ, ◌+◌, ◌-◌, ◌^◌, ◌<◌, ◌≤◌, ltb, true, false, List, [], ◌++◌, length, drop, flat_map, Option, Some, None, Result, Ok, Err, inl, inr, refl, sym, ap, subst, ◌∙◌, append_assoc, arith}
use Rattle.std.specs.Int.{w16, w64}
use Rattle.std.proofs.lemmas.Bool.{le-ltb, lt-ltb}
use Rattle.std.proofs.lemmas.List.{append-nil, length-append, drop_at}
use Rattle.std.proofs.lemmas.Option.{same_Some}
use Rattle.slate_types.specs.declared.error.SlateDBError.{SlateDBError}
use Rattle.slate_types.specs.declared.types.RowEntry.{RowEntry}
use Rattle.slate_types.specs.Outside.{Objects}
use Rattle.slate_store.specs.Store.{Act, TakesPut, object_at, with_object, len_of}
use Rattle.slate_store.proofs.StoreLaws.{put_is_there}
use Rattle.slate_block.specs.RowSpelling.{be16, be64}
use Rattle.slate_block.specs.RowReading.{refusal}
use Rattle.slate_block.specs.BlockSpelling.{IsKnown}
use Rattle.slate_block.proofs.Versions.{below_16, is_known_of}
use Rattle.slate_block.proofs.Groups.{IsBytes}
use Rattle.slate_block.proofs.Pieces.{same_ends, same_pieces, same_be64}
use Rattle.slate_block.proofs.FieldLaws.{IsBytes_drop, ok_is, behind, wide16, wide64, number_again}
use Rattle.slate_table.specs.Parts.{Encode, cover_of, info_kind, summed}
use Rattle.slate_filter.specs.Policy.{Policy, filters_of}
use Rattle.slate_table.specs.TableEnd.{HasInfo}
use Rattle.slate_table.specs.Table.{IsTableOf, IsBuilt, cut, block_sections, filters_section, index_section, stats_section, info_of}
use Rattle.slate_table.specs.Decoded.{Info}
use Rattle.slate_table.specs.SectionReading.{footer_bytes, footer_in, part_in}
use Rattle.slate_table.specs.InfoReading.{info_in}
use Rattle.slate_table.specs.Reading.{IsRead, Reads, stored_of}
use Rattle.slate_table.specs.Opening.{IsMeasured, long_in, last_in, info_size, IsInfoRead, RefusesInfo, IsOpened, RefusesSize, RefusesOpen}
use Rattle.slate_table.specs.FileLaws.{table_info, HoldsTable}
use Rattle.slate_table.proofs.InfoReads.{InfoTakes, info_again}
use Rattle.slate_table.proofs.SectionReads.{front_bytes, cover_bytes, part_again}
use Rattle.slate_table.proofs.BuiltLaws.{blocks_rows, first_short, last_short}
use Rattle.slate_table.proofs.Sections.{summed_length, same_summed}
use Rattle.slate_table.proofs.FrameReads.{part_at, answered, sections_split}

-- ---- the last bytes

footer_again : (size offset version : ℕ) → IsKnown version → offset < 2 ^ 64 → offset + 10 ≤ size → footer_in size (footer_bytes offset version) ≡ Ok (offset, version)
unfolding footer_in
footer_again size offset version known lt within =
    let bytes = footer_bytes offset version in
    let tail : drop 8 bytes ≡ be16 version ++ [] = behind bytes (be64 offset) (be16 version) 0 refl ∙ sym (append-nil (be16 version)) in
    let fits : ltb (size - 10) offset ≡ false = le-ltb (size - 10) offset (omega (arith, within)) in
    rw (number_again w64 (2 ^ 64) wide64 bytes (be16 version) 0 offset lt refl, number_again w16 (2 ^ 16) wide16 bytes [] 8 version (below_16 version known) tail, is_known_of version known, fits) refl

-- ---- the info

blocks_of : Encode → ℕ → ℕ → List (List RowEntry) → List ℕ
blocks_of encode version id blocks = flat_map (λ b. b) (block_sections encode version id blocks)

part_of_table : Encode → ℕ → ℕ → List (List RowEntry) → List (List ℕ × List ℕ) → List ℕ
part_of_table encode version id blocks filters =
    info_of version (flat_map (λ b. b) blocks) (length (blocks_of encode version id blocks)) (filters_section encode version id blocks filters) (index_section encode version id blocks filters) (stats_section encode version id blocks filters)

front_of : Encode → ℕ → ℕ → List (List RowEntry) → List (List ℕ × List ℕ) → List ℕ
front_of encode version id blocks filters = ((blocks_of encode version id blocks ++ filters_section encode version id blocks filters) ++ index_section encode version id blocks filters) ++ stats_section encode version id blocks filters

-- the info with its checksum
sealed_of : Encode → ℕ → ℕ → List (List RowEntry) → List (List ℕ × List ℕ) → List ℕ
sealed_of encode version id blocks filters = summed (cover_of version id info_kind (length (front_of encode version id blocks filters))) (part_of_table encode version id blocks filters)

record IsSplit (encode : Encode) (bytes : List ℕ) (version id : ℕ) (blocks : List (List RowEntry)) (filters : List (List ℕ × List ℕ)) : Type 0 where
  pub is : bytes ≡ front_of encode version id blocks filters ++ (sealed_of encode version id blocks filters ++ footer_bytes (length (front_of encode version id blocks filters)) version)
  pub size : length bytes ≡ length (front_of encode version id blocks filters) + length (sealed_of encode version id blocks filters) + 10
  pub short : length (front_of encode version id blocks filters) < 2 ^ 64

split : (encode : Encode) (bytes : List ℕ) (version id : ℕ) (blocks : List (List RowEntry)) (filters : List (List ℕ × List ℕ)) → IsTableOf encode bytes version id blocks filters → IsSplit encode bytes version id blocks filters
unfolding front_of part_of_table blocks_of sealed_of
split encode bytes version id blocks filters t =
    let whole = t.is ∙ sections_split version id (flat_map (λ b. b) blocks) (blocks_of encode version id blocks) (filters_section encode version id blocks filters) (index_section encode version id blocks filters) (stats_section encode version id blocks filters) in
    let front = front_of encode version id blocks filters in
    let sealed = sealed_of encode version id blocks filters in
    let footer = footer_bytes (length front) version in
    let n = ap length whole ∙ length-append front (sealed ++ footer) in
    let m = length-append sealed footer in
    record { is = whole; size = omega (arith, n, m); short = omega (arith, n, t.short) }

info_is : (encode : Encode) (bytes : List ℕ) (version id : ℕ) (blocks : List (List RowEntry)) (filters : List (List ℕ × List ℕ)) → IsTableOf encode bytes version id blocks filters →
    InfoTakes version (length (front_of encode version id blocks filters)) (part_of_table encode version id blocks filters) (table_info encode version id blocks filters)
unfolding front_of part_of_table blocks_of
info_is encode bytes version id blocks filters t =
    let b = blocks_of encode version id blocks in
    let f = filters_section encode version id blocks filters in
    let i = index_section encode version id blocks filters in
    let s = stats_section encode version id blocks filters in
    let p = length-append b f in
    let q = length-append (b ++ f) i in
    let r = length-append ((b ++ f) ++ i) s in
    let x = split encode bytes version id blocks filters t in
    let short : length (((b ++ f) ++ i) ++ s) < 2 ^ 64 = x.short in
    let fit = blocks_rows version blocks t.each in
    record {
      is = record {
        known = below_16 version t.known;
        first = first_short (flat_map (λ y. y) blocks) fit;
        last = last_short (flat_map (λ y. y) blocks) fit;
        index = (omega (arith, p, q, r, short), omega (arith, p, q, r, short));
        filters = (omega (arith, p, q, r, short), omega (arith, p, q, r, short));
        stats = (omega (arith, p, q, r, short), omega (arith, p, q, r, short));
        is = refl;
      };
      before = (omega (arith, p, q, r), omega (arith, p, q, r), omega (arith, p, q, r));
    }

-- ---- opened

pub measured : (objects : Option Objects) (before after : Option (List Act)) (told : Objects) (path bytes : List ℕ) (size : Option ℕ) → objects ≡ Some told → object_at told path ≡ Some bytes →
    IsMeasured objects before after path size → size ≡ Some (length bytes)
unfolding IsMeasured
measured objects before after told path bytes size tells there m = m.0 told tells ∙ ap len_of there

record FoundLast (encode : Encode) (version id : ℕ) (blocks : List (List RowEntry)) (filters : List (List ℕ × List ℕ)) (offset found : ℕ) : Type 0 where
  pub place : offset ≡ length (front_of encode version id blocks filters)
  pub known : found ≡ version

last_answer : (encode : Encode) (objects : Option Objects) (first second : Option (List Act)) (path : List ℕ) (version id : ℕ) (blocks : List (List RowEntry)) (filters : List (List ℕ × List ℕ)) (size : ℕ) (answer : Option (List ℕ)) →
    (h : HoldsTable encode objects path version id blocks filters) → size ≡ length h.bytes → IsRead objects first second path (size - 10) 10 answer → last_in size answer ≡ Ok (length (front_of encode version id blocks filters), version)
last_answer encode objects first second path version id blocks filters size answer h is read =
    let x = split encode h.bytes version id blocks filters h.is in
    let front = front_of encode version id blocks filters in
    let sealed = sealed_of encode version id blocks filters in
    let footer = footer_bytes (length front) version in
    let whole : h.bytes ≡ (front ++ sealed) ++ (footer ++ []) = x.is ∙ sym (append_assoc front sealed footer) ∙ ap (λ (l : List ℕ). (front ++ sealed) ++ l) (sym (append-nil footer)) in
    let start : size - 10 ≡ length (front ++ sealed) = omega (arith, is, x.size, length-append front sealed) in
    let there : answer ≡ Some footer = answered objects h.told first second path h.bytes (size - 10) 10 answer h.tells h.there read ∙ part_at h.bytes (front ++ sealed) footer [] (size - 10) 10 whole start refl in
    ap (last_in size) there ∙ footer_again size (length front) version h.is.known x.short (omega (arith, is, x.size))

found_last : (encode : Encode) (objects : Option Objects) (first second : Option (List Act)) (path : List ℕ) (version id : ℕ) (blocks : List (List RowEntry)) (filters : List (List ℕ × List ℕ)) (size offset found : ℕ) →
    (h : HoldsTable encode objects path version id blocks filters) → size ≡ length h.bytes → Reads objects first second path (size - 10) 10 (λ answer. last_in size answer ≡ Ok (offset, found)) →
    FoundLast encode version id blocks filters offset found
found_last encode objects first second path version id blocks filters size offset found h is read =
    let right = last_answer encode objects first second path version id blocks filters size read.0 h is read.1 in
    let pair = ok_is (length (front_of encode version id blocks filters), version) (offset, found) (sym right ∙ read.2) in
    record { place = sym (ap (λ (p : ℕ × ℕ). p.0) pair); known = sym (ap (λ (p : ℕ × ℕ). p.1) pair) }

same_info : (version end : ℕ) (part : List ℕ) (i j : Info) → InfoTakes version end part i → InfoTakes version end part j → i ≡ j
same_info version end part i j s t = ok_is i j (sym (info_again version end part i s) ∙ info_again version end part j t)

info_answer : (encode : Encode) (objects : Option Objects) (second after : Option (List Act)) (path : List ℕ) (version id : ℕ) (blocks : List (List RowEntry)) (filters : List (List ℕ × List ℕ)) (size offset found : ℕ) (answer : Option (List ℕ)) →
    (h : HoldsTable encode objects path version id blocks filters) → size ≡ length h.bytes → FoundLast encode version id blocks filters offset found → IsRead objects second after path offset (info_size size offset) answer →
    answer ≡ Some (sealed_of encode version id blocks filters)
info_answer encode objects second after path version id blocks filters size offset found answer h is last read =
    let x = split encode h.bytes version id blocks filters h.is in
    let front = front_of encode version id blocks filters in
    let sealed = sealed_of encode version id blocks filters in
    let len : info_size size offset ≡ length sealed = omega (arith, is, x.size, last.place) in
    answered objects h.told second after path h.bytes offset (info_size size offset) answer h.tells h.there read
    ∙ part_at h.bytes front sealed (footer_bytes (length front) version) offset (info_size size offset) x.is last.place len

same_part : (encode : Encode) (version id : ℕ) (blocks : List (List RowEntry)) (filters : List (List ℕ × List ℕ)) (part : List ℕ) →
    Some (summed (cover_of version id info_kind (length (front_of encode version id blocks filters))) part) ≡ Some (sealed_of encode version id blocks filters) → part ≡ part_of_table encode version id blocks filters
unfolding sealed_of
same_part encode version id blocks filters part h =
    let cover = cover_of version id info_kind (length (front_of encode version id blocks filters)) in
    let all = part_of_table encode version id blocks filters in
    same_summed cover part all (same_Some (summed cover part) (summed cover all) h)

found_info : (encode : Encode) (objects : Option Objects) (second after : Option (List Act)) (path : List ℕ) (version id : ℕ) (blocks : List (List RowEntry)) (filters : List (List ℕ × List ℕ)) (size offset found : ℕ) (info : Info) →
    (h : HoldsTable encode objects path version id blocks filters) → size ≡ length h.bytes → FoundLast encode version id blocks filters offset found →
    Reads objects second after path offset (info_size size offset) (λ answer. IsInfoRead found id offset answer info) → info ≡ table_info encode version id blocks filters
found_info encode objects second after path version id blocks filters size offset found info h is last read =
    let front = front_of encode version id blocks filters in
    let part = part_of_table encode version id blocks filters in
    let answer = info_answer encode objects second after path version id blocks filters size offset found read.0 h is last read.1 in
    let cover : cover_of found id info_kind offset ≡ cover_of version id info_kind (length front) = λ j. cover_of (last.known j) id info_kind (last.place j) in
    let there : read.0 ≡ Some (summed (cover_of version id info_kind (length front)) read.2.0) = read.2.1 ∙ ap (λ (c : List ℕ). Some (summed c read.2.0)) cover in
    let same : read.2.0 ≡ part = same_part encode version id blocks filters read.2.0 (sym there ∙ answer) in
    let there : InfoTakes found offset read.2.0 info = record { is = read.2.2; before = read.2.3 } in
    let one = subst (λ (v : ℕ). InfoTakes v offset read.2.0 info) last.known there in
    let two = subst (λ (n : ℕ). InfoTakes version n read.2.0 info) last.place one in
    let three = subst (λ (l : List ℕ). InfoTakes version (length front) l info) same two in
    same_info version (length front) part info (table_info encode version id blocks filters) three (info_is encode h.bytes version id blocks filters h.is)

pub opened : (encode : Encode) (objects : Option Objects) (before after : Option (List Act)) (path : List ℕ) (version found id : ℕ) (blocks : List (List RowEntry)) (filters : List (List ℕ × List ℕ)) (info : Info) →
    HoldsTable encode objects path version id blocks filters → IsOpened objects before after path id found info → (found ≡ version) × (info ≡ table_info encode version id blocks filters)
unfolding IsOpened
opened encode objects before after path version found id blocks filters info h o =
    let size : o.0 ≡ length h.bytes = same_Some o.0 (length h.bytes) (measured objects before o.2 h.told path h.bytes (Some o.0) h.tells h.there o.4) in
    let last = found_last encode objects o.2 o.3 path version id blocks filters o.0 o.1 found h size o.6 in
    (last.known, found_info encode objects o.3 after path version id blocks filters o.0 o.1 found info h size last o.8)

-- ---- nothing is refused, where each number of the object is a byte

pub bytes_behind : (a b : List ℕ) → IsBytes (a ++ b) → IsBytes b
bytes_behind a b fits = subst IsBytes (drop_at a b (length a) refl) (IsBytes_drop (length a) (a ++ b) fits)

pub sealed_bytes : (bytes a s b : List ℕ) → bytes ≡ a ++ (s ++ b) → IsBytes bytes → IsBytes s
sealed_bytes bytes a s b is fits = front_bytes s b (bytes_behind a (s ++ b) (subst IsBytes is fits))

sealed_long : (encode : Encode) (version id : ℕ) (blocks : List (List RowEntry)) (filters : List (List ℕ × List ℕ)) → 4 < length (sealed_of encode version id blocks filters)
unfolding part_of_table sealed_of
sealed_long encode version id blocks filters =
    let n = summed_length (cover_of version id info_kind (length (front_of encode version id blocks filters))) (part_of_table encode version id blocks filters) in
    omega (arith, n)

sealed_again : (encode : Encode) (version id : ℕ) (blocks : List (List RowEntry)) (filters : List (List ℕ × List ℕ)) → IsBytes (sealed_of encode version id blocks filters) →
    part_in (cover_of version id info_kind (length (front_of encode version id blocks filters))) (sealed_of encode version id blocks filters) ≡ Ok (part_of_table encode version id blocks filters)
unfolding sealed_of
sealed_again encode version id blocks filters fits =
    let at = length (front_of encode version id blocks filters) in
    part_again (cover_of version id info_kind at) (sealed_of encode version id blocks filters) (part_of_table encode version id blocks filters) (cover_bytes version id info_kind at (omega arith)) fits refl

no_size : (encode : Encode) (objects : Option Objects) (before after : Option (List Act)) (path : List ℕ) (version id : ℕ) (blocks : List (List RowEntry)) (filters : List (List ℕ × List ℕ)) (e : SlateDBError) →
    (h : HoldsTable encode objects path version id blocks filters) → RefusesSize objects before after path e → ⊥
no_size encode objects before after path version id blocks filters e h r =
    let x = split encode h.bytes version id blocks filters h.is in
    let n = length h.bytes in
    let long : ltb 10 n ≡ true = lt-ltb 10 n (omega (arith, x.size, sealed_long encode version id blocks filters)) in
    let size : r.0 ≡ Some n = measured objects before after h.told path h.bytes r.0 h.tells h.there r.1 in
    let right : long_in (Some n) ≡ Ok n = rw long refl in
    let clash : Ok n ≡ Err e = sym right ∙ ap long_in (sym size) ∙ r.2 in cc

no_last : (encode : Encode) (objects : Option Objects) (first second : Option (List Act)) (path : List ℕ) (version id : ℕ) (blocks : List (List RowEntry)) (filters : List (List ℕ × List ℕ)) (size : ℕ) (e : SlateDBError) →
    (h : HoldsTable encode objects path version id blocks filters) → size ≡ length h.bytes → Reads objects first second path (size - 10) 10 (λ answer. last_in size answer ≡ Err e) → ⊥
no_last encode objects first second path version id blocks filters size e h is read =
    let right = last_answer encode objects first second path version id blocks filters size read.0 h is read.1 in
    let clash : ◌≡◌ {A = Result (ℕ × ℕ) SlateDBError} (Ok (length (front_of encode version id blocks filters), version)) (Err e) = sym right ∙ read.2 in cc

no_info : (encode : Encode) (version id : ℕ) (blocks : List (List RowEntry)) (filters : List (List ℕ × List ℕ)) (offset found : ℕ) (answer : Option (List ℕ)) (bytes : List ℕ) (e : SlateDBError) → IsTableOf encode bytes version id blocks filters →
    IsBytes (sealed_of encode version id blocks filters) → FoundLast encode version id blocks filters offset found → answer ≡ Some (sealed_of encode version id blocks filters) → RefusesInfo found id offset answer e → ⊥
no_info encode version id blocks filters offset found answer bytes e t fits last is (inl r) =
    let front = front_of encode version id blocks filters in
    let cover : cover_of found id info_kind offset ≡ cover_of version id info_kind (length front) = λ j. cover_of (last.known j) id info_kind (last.place j) in
    let clash : None ≡ Some e = sym (ap refusal (sealed_again encode version id blocks filters fits)) ∙ (λ j. refusal (stored_of (sym cover j) (sym is j))) ∙ r in cc
no_info encode version id blocks filters offset found answer bytes e t fits last is (inr r) =
    let part = part_of_table encode version id blocks filters in
    let front = front_of encode version id blocks filters in
    let cover : cover_of found id info_kind offset ≡ cover_of version id info_kind (length front) = λ j. cover_of (last.known j) id info_kind (last.place j) in
    let there : answer ≡ Some (summed (cover_of version id info_kind (length front)) r.1.0) = r.1.1 ∙ ap (λ (c : List ℕ). Some (summed c r.1.0)) cover in
    let same : r.1.0 ≡ part = same_part encode version id blocks filters r.1.0 (sym there ∙ is) in
    let right = info_again version (length front) part (table_info encode version id blocks filters) (info_is encode bytes version id blocks filters t) in
    let placed : info_in found offset r.0 ≡ info_in version (length front) part = (λ j. info_in (last.known j) (last.place j) ((r.1.2 ∙ same) j)) in
    let clash : None ≡ Some e = sym (ap refusal (placed ∙ right)) ∙ r.2 in cc

no_empty : (encode : Encode) (version id : ℕ) (blocks : List (List RowEntry)) (filters : List (List ℕ × List ℕ)) (bytes : List ℕ) (size offset found : ℕ) → IsTableOf encode bytes version id blocks filters → size ≡ length bytes →
    FoundLast encode version id blocks filters offset found → info_size size offset ≤ 4 → ⊥
no_empty encode version id blocks filters bytes size offset found t is last small =
    let x = split encode bytes version id blocks filters t in
    let long = sealed_long encode version id blocks filters in
    absurd (omega (arith, is, x.size, last.place, long, small))

pub not_refused : (encode : Encode) (objects : Option Objects) (before after : Option (List Act)) (path : List ℕ) (version id : ℕ) (blocks : List (List RowEntry)) (filters : List (List ℕ × List ℕ)) (e : SlateDBError) →
    (h : HoldsTable encode objects path version id blocks filters) → IsBytes h.bytes → RefusesOpen objects before after path id e → ⊥
unfolding RefusesOpen
not_refused encode objects before after path version id blocks filters e h fits (inl r) = no_size encode objects before after path version id blocks filters e h r
not_refused encode objects before after path version id blocks filters e h fits (inr (inl r)) =
    let size = same_Some r.0 (length h.bytes) (measured objects before r.1 h.told path h.bytes (Some r.0) h.tells h.there r.2) in
    no_last encode objects r.1 after path version id blocks filters r.0 e h size r.4
not_refused encode objects before after path version id blocks filters e h fits (inr (inr (inl r))) =
    let size = same_Some r.0 (length h.bytes) (measured objects before r.3 h.told path h.bytes (Some r.0) h.tells h.there r.4) in
    let last = found_last encode objects r.3 after path version id blocks filters r.0 r.1 r.2 h size r.6 in
    no_empty encode version id blocks filters h.bytes r.0 r.1 r.2 h.is size last r.7
not_refused encode objects before after path version id blocks filters e h fits (inr (inr (inr r))) =
    let size = same_Some r.0 (length h.bytes) (measured objects before r.3 h.told path h.bytes (Some r.0) h.tells h.there r.5) in
    let last = found_last encode objects r.3 r.4 path version id blocks filters r.0 r.1 r.2 h size r.7 in
    let x = split encode h.bytes version id blocks filters h.is in
    let sealed = sealed_bytes h.bytes (front_of encode version id blocks filters) (sealed_of encode version id blocks filters) (footer_bytes (length (front_of encode version id blocks filters)) version) x.is fits in
    let answer = info_answer encode objects r.4 after path version id blocks filters r.0 r.1 r.2 r.9.0 h size last r.9.1 in
    no_info encode version id blocks filters r.1 r.2 r.9.0 h.bytes e h.is sealed last answer r.9.2

-- ---- what was put

pub put_held : (encode : Encode) (policies : List Policy) (min size version id : ℕ) (told : Objects) (path bytes : List ℕ) (rows : List RowEntry) (after : Option Objects) →
    IsBuilt encode policies min size version id bytes rows → TakesPut told path bytes after → HoldsTable encode after path version id (cut size version rows) (filters_of policies min rows)
put_held encode policies min size version id told path bytes rows after built put = record { told = with_object told path bytes; bytes = bytes; tells = put; there = put_is_there told path bytes; is = built }

record SameEnd (a b x y : List ℕ) : Type 0 where
  pub place : length a ≡ length b
  pub sealed : x ≡ y

-- of two splittings of one table's bytes
same_end_of : (a b x y : List ℕ) (version : ℕ) → length a < 2 ^ 64 → length b < 2 ^ 64 → a ++ (x ++ footer_bytes (length a) version) ≡ b ++ (y ++ footer_bytes (length b) version) → SameEnd a b x y
same_end_of a b x y version m n h =
    let ends = append_assoc a x (footer_bytes (length a) version) ∙ h ∙ sym (append_assoc b y (footer_bytes (length b) version)) in
    let apart = same_ends (a ++ x) (b ++ y) (footer_bytes (length a) version) (footer_bytes (length b) version) refl ends in
    let place = same_be64 (length a) (length b) (be16 version) (be16 version) m n apart.1 in
    let parts = same_pieces a b x y place.0 apart.0 in
    record { place = place.0; sealed = parts.1 }

pub same_end : (encode : Encode) (bytes : List ℕ) (version id : ℕ) (blocks : List (List RowEntry)) (filters : List (List ℕ × List ℕ)) (info : Info) →
    IsTableOf encode bytes version id blocks filters → HasInfo bytes version id info → info ≡ table_info encode version id blocks filters
same_end encode bytes version id blocks filters info t h =
    let x = split encode bytes version id blocks filters t in
    let front = front_of encode version id blocks filters in
    let part = part_of_table encode version id blocks filters in
    let sealed = summed (cover_of version id info_kind (length h.before)) h.part in
    let size = ap length h.is ∙ length-append h.before (sealed ++ footer_bytes (length h.before) version) in
    let ends = same_end_of h.before front sealed (sealed_of encode version id blocks filters) version (omega (arith, size, t.short)) x.short (sym h.is ∙ x.is) in
    let there : Some (summed (cover_of version id info_kind (length front)) h.part) ≡ Some (sealed_of encode version id blocks filters) =
    ap (λ (n : ℕ). Some (summed (cover_of version id info_kind n) h.part)) (sym ends.place) ∙ ap (λ (l : List ℕ). Some l) ends.sealed in
    let same : h.part ≡ part = same_part encode version id blocks filters h.part there in
    let takes : InfoTakes version (length h.before) h.part info = record { is = h.spelled; before = h.lies } in
    let one = subst (λ (n : ℕ). InfoTakes version n h.part info) ends.place takes in
    let two = subst (λ (l : List ℕ). InfoTakes version (length front) l info) same one in
    same_info version (length front) part info (table_info encode version id blocks filters) two (info_is encode bytes version id blocks filters t)
