-- The sections of a table, where they lie.
use Rattle.std.proofs.Common.{◌≡◌, ℕ, zero, suc, ◌+◌, ◌-◌, ◌≤◌, leb, Bool, true, false, cond, List, [], ◌∷◌, ◌++◌, length, take, drop, flat_map, Option, Some, None, refl, sym, ap, subst, ◌∙◌, append_assoc, arith}
use Rattle.std.specs.Prelude.{slice_get}
use Rattle.std.proofs.lemmas.Bool.{le-leb, leb-true, eq-eqb}
use Rattle.std.proofs.lemmas.List.{length-append, length-drop, length-take-le, take_at, drop_at, drop-append-le}
use Rattle.std.proofs.Math.Seq.{take-append-add}
use Rattle.std.proofs.lemmas.Option.{same_Some}
use Rattle.slate_types.specs.declared.types.RowEntry.{RowEntry}
use Rattle.slate_types.specs.Lawful.{IsLawfulTransform}
use Rattle.slate_types.specs.Outside.{Objects}
use Rattle.slate_store.specs.Store.{Act, object_at, part_of}
use Rattle.slate_block.specs.RowSpelling.{be16, be64}
use Rattle.slate_block.specs.BlockSpelling.{places}
use Rattle.slate_table.specs.Parts.{Encode, cover_of, info_kind, section, summed}
use Rattle.slate_table.specs.Table.{info_of, sections_then_info}
use Rattle.slate_table.specs.SectionReading.{footer_bytes}
use Rattle.slate_table.specs.Reading.{SectionRead, IsRead, IsPart, whole_answer, block_start}
use Rattle.slate_table.specs.FileLaws.{paired}
use Rattle.slate_table.proofs.Sections.{same_summed}

-- ---- a range of an object

pub part_at : (bytes a s b : List ℕ) (start len : ℕ) → bytes ≡ a ++ (s ++ b) → start ≡ length a → len ≡ length s → part_of (Some bytes) start len ≡ Some s
part_at bytes a s b start len is from size =
    let whole : length bytes ≡ length a + (length s + length b) = ap length is ∙ length-append a (s ++ b) ∙ ap (λ (n : ℕ). length a + n) (length-append s b) in
    let fits : leb (start + len) (length bytes) ≡ true = le-leb (start + len) (length bytes) (omega (arith, whole, from, size)) in
    let front : drop start bytes ≡ s ++ b = (λ j. drop (from j) (is j)) ∙ drop_at a (s ++ b) (length a) refl in
    let cut : take len (drop start bytes) ≡ s = (λ j. take (size j) (front j)) ∙ take_at s b (length s) refl in
    rw fits (ap (λ (l : List ℕ). Some l) cut)

-- a range of a range
pub part_within : (bytes a p b : List ℕ) (start size at len : ℕ) → bytes ≡ a ++ (p ++ b) → start ≤ length a → at ≡ length a - start → len ≡ length p → length a + length p ≤ start + size → start + size ≤ length bytes →
    part_of (part_of (Some bytes) start size) at len ≡ Some p
part_within bytes a p b start size at len is low from same high whole =
    let d = drop start a in
    let rest = size - (length d + length p) in
    let count = length-drop start a in
    let joined = length-append d p in
    let all : size ≡ length (d ++ p) + rest = omega (arith, joined, count, low, high) in
    let front : drop start bytes ≡ (d ++ p) ++ b = ap (drop start) is ∙ drop-append-le start a (p ++ b) low ∙ sym (append_assoc d p b) in
    let taken : take size (drop start bytes) ≡ d ++ (p ++ take rest b) = (λ j. take (all j) (front j)) ∙ take-append-add (d ++ p) b rest ∙ append_assoc d p (take rest b) in
    let fits : leb (start + size) (length bytes) ≡ true = le-leb (start + size) (length bytes) whole in
    let found : part_of (Some bytes) start size ≡ Some (d ++ (p ++ take rest b)) = rw fits (ap (λ (l : List ℕ). Some l) taken) in
    ap (λ (o : Option (List ℕ)). part_of o at len) found ∙ part_at (d ++ (p ++ take rest b)) d p (take rest b) at len refl (from ∙ sym count) same

whole_part : (bytes : List ℕ) (start len : ℕ) → whole_answer len (part_of (Some bytes) start len) ≡ part_of (Some bytes) start len
whole_part bytes start len = by (leb (start + len) (length bytes)) refl
  where
    cut : List ℕ
    cut = take len (drop start bytes)

    by : (t : Bool) → leb (start + len) (length bytes) ≡ t → whole_answer len (cond t (Some cut) None) ≡ cond t (Some cut) None
    by true is =
        let fits : start + len ≤ length bytes = leb-true (start + len) (length bytes) is in
        let behind = length-drop start bytes in
        let size : length cut ≡ len = length-take-le len (drop start bytes) (omega (arith, fits, behind)) in
        ap (λ (t : Bool). cond t (Some cut) None) (eq-eqb (length cut) len size)
    by false is = refl

pub answered : (objects : Option Objects) (told : Objects) (before after : Option (List Act)) (path bytes : List ℕ) (start len : ℕ) (answer : Option (List ℕ)) →
    objects ≡ Some told → object_at told path ≡ Some bytes → IsRead objects before after path start len answer → answer ≡ part_of (Some bytes) start len
answered objects told before after path bytes start len answer tells there read =
    let given : read.0 ≡ part_of (Some bytes) start len = read.1 told tells ∙ ap (λ (o : Option (List ℕ)). part_of o start len) there in
    read.3 ∙ ap (whole_answer len) given ∙ whole_part bytes start len

-- the part that is read of a section
pub part_is : (encode decode : Encode) → IsLawfulTransform encode decode → (text part : List ℕ) (s : SectionRead) → s.answer ≡ Some (section s.cover encode text) → IsPart decode s part → part ≡ text
part_is encode decode lawful text part s is p =
    let same : summed s.cover p.0 ≡ summed s.cover (encode text) = same_Some (summed s.cover p.0) (summed s.cover (encode text)) (sym p.1 ∙ is) in
    p.2 ∙ ap decode (same_summed s.cover p.0 (encode text) same) ∙ lawful text

-- ---- all sections

pub sections_split : (version id : ℕ) (rows : List RowEntry) (b f i s : List ℕ) →
    sections_then_info version id rows b f i s
    ≡ (((b ++ f) ++ i) ++ s) ++ (summed (cover_of version id info_kind (length (((b ++ f) ++ i) ++ s))) (info_of version rows (length b) f i s) ++ footer_bytes (length (((b ++ f) ++ i) ++ s)) version)
sections_split version id rows b f i s =
    let front = ((b ++ f) ++ i) ++ s in
    let sealed = λ (k : ℕ). summed (cover_of version id info_kind k) (info_of version rows (length b) f i s) in
    let n = length b + length f + length i + length s in
    let size : n ≡ length front = omega (arith, length-append b f, length-append (b ++ f) i, length-append ((b ++ f) ++ i) s) in
    append_assoc (front ++ sealed n) (be64 n) (be16 version) ∙ append_assoc front (sealed n) (be64 n ++ be16 version) ∙ ap (λ (k : ℕ). front ++ (sealed k ++ footer_bytes k version)) size

pub in_stats : (bytes b f i s t : List ℕ) → bytes ≡ (((b ++ f) ++ i) ++ s) ++ t → part_of (Some bytes) (length b + length f + length i) (length s) ≡ Some s
in_stats bytes b f i s t is =
    part_at bytes ((b ++ f) ++ i) s t (length b + length f + length i) (length s) (is ∙ append_assoc ((b ++ f) ++ i) s t) (omega (arith, length-append b f, length-append (b ++ f) i)) refl

pub in_index : (bytes b f i s t : List ℕ) → bytes ≡ (((b ++ f) ++ i) ++ s) ++ t → part_of (Some bytes) (length b + length f) (length i) ≡ Some i
in_index bytes b f i s t is =
    part_at bytes (b ++ f) i (s ++ t) (length b + length f) (length i) (is ∙ append_assoc ((b ++ f) ++ i) s t ∙ append_assoc (b ++ f) i (s ++ t)) (omega (arith, length-append b f)) refl

pub in_filters : (bytes b f i s t : List ℕ) → bytes ≡ (((b ++ f) ++ i) ++ s) ++ t → part_of (Some bytes) (length b) (length f) ≡ Some f
in_filters bytes b f i s t is =
    part_at bytes b f (i ++ (s ++ t)) (length b) (length f) (is ∙ append_assoc ((b ++ f) ++ i) s t ∙ append_assoc (b ++ f) i (s ++ t) ∙ append_assoc b f (i ++ (s ++ t))) refl refl

-- the sections of blocks, and what stands behind them
pub block_split : (bytes b f i s t front part rest : List ℕ) → bytes ≡ (((b ++ f) ++ i) ++ s) ++ t → b ≡ front ++ (part ++ rest) → bytes ≡ front ++ (part ++ (rest ++ (f ++ (i ++ (s ++ t)))))
block_split bytes b f i s t front part rest is here =
    let behind = f ++ (i ++ (s ++ t)) in
    let whole : bytes ≡ b ++ behind = is ∙ append_assoc ((b ++ f) ++ i) s t ∙ append_assoc (b ++ f) i (s ++ t) ∙ append_assoc b f (i ++ (s ++ t)) in
    whole ∙ ap (λ (l : List ℕ). l ++ behind) here ∙ append_assoc front (part ++ rest) behind ∙ ap (λ (l : List ℕ). front ++ l) (append_assoc part rest behind)

-- ---- one block's section among all

pub record Stands (at end : ℕ) (ss : List (List ℕ)) (ks : List (List ℕ)) (k : ℕ) (s : List ℕ) : Type 0 where
  pub front : List ℕ
  pub rest : List ℕ
  pub is : flat_map (λ x. x) ss ≡ front ++ (s ++ rest)
  pub start : block_start end (paired (places at ss) ks) k ≡ at + length front
  pub next : block_start end (paired (places at ss) ks) (k + 1) ≡ at + length front + length s

same_place : (k : ℕ) → suc k + 1 ≡ suc (k + 1)
same_place k = omega arith

begins : (at end : ℕ) (ss : List (List ℕ)) (ks : List (List ℕ)) → length ks ≡ length ss → at + length (flat_map (λ x. x) ss) ≡ end → block_start end (paired (places at ss) ks) 0 ≡ at
begins at end [] ks n h = omega (arith, h)
begins at end (s ∷ ss) [] n h = absurd (omega (arith, n))
begins at end (s ∷ ss) (x ∷ ks) n h = refl

pub stands : (at end : ℕ) (ss : List (List ℕ)) (ks : List (List ℕ)) (k : ℕ) (s : List ℕ) → length ks ≡ length ss → at + length (flat_map (λ x. x) ss) ≡ end → slice_get ss k ≡ Some s → Stands at end ss ks k s
stands at end [] ks zero s n h there = absurd cc
stands at end [] ks (suc k) s n h there = absurd cc
stands at end (t ∷ ss) [] k s n h there = absurd (omega (arith, n))
stands at end (t ∷ ss) (x ∷ ks) zero s n h there =
    let same : t ≡ s = same_Some t s there in
    let size = length-append t (flat_map (λ y. y) ss) in
    let first = begins (at + length t) end ss ks (omega (arith, n)) (omega (arith, h, size)) in
    subst (λ (u : List ℕ). Stands at end (t ∷ ss) (x ∷ ks) zero u) same (record {
      front = [];
      rest = flat_map (λ y. y) ss;
      is = refl;
      start = omega arith;
      next = first ∙ omega arith;
    })
stands at end (t ∷ ss) (x ∷ ks) (suc k) s n h there =
    let size = length-append t (flat_map (λ y. y) ss) in
    let later = stands (at + length t) end ss ks k s (omega (arith, n)) (omega (arith, h, size)) there in
    let more = length-append t later.front in
    record {
      front = t ++ later.front;
      rest = later.rest;
      is = ap (λ (l : List ℕ). t ++ l) later.is ∙ sym (append_assoc t later.front (s ++ later.rest));
      start = later.start ∙ omega (arith, more);
      next = ap (block_start end (paired (places at (t ∷ ss)) (x ∷ ks))) (same_place k) ∙ later.next ∙ omega (arith, more);
    }

-- the start of a block is its place
pub starts_at : (end : ℕ) (ats : List ℕ) (ks : List (List ℕ)) (k at : ℕ) → length ks ≡ length ats → slice_get ats k ≡ Some at → block_start end (paired ats ks) k ≡ at
starts_at end [] ks k at n h = absurd cc
starts_at end (a ∷ ats) [] k at n h = absurd (omega (arith, n))
starts_at end (a ∷ ats) (x ∷ ks) zero at n h = same_Some a at h
starts_at end (a ∷ ats) (x ∷ ks) (suc k) at n h = starts_at end ats ks k at (omega (arith, n)) h

-- ---- starts rise

at_end : (end i : ℕ) → block_start end [] i ≡ end
at_end end zero = refl
at_end end (suc i) = refl

pub from_below : (at end : ℕ) (ss : List (List ℕ)) (ks : List (List ℕ)) (i : ℕ) → length ks ≡ length ss → at + length (flat_map (λ x. x) ss) ≡ end → at ≤ block_start end (paired (places at ss) ks) i
from_below at end [] ks i n h = let none = at_end end i in omega (arith, none, h)
from_below at end (s ∷ ss) [] i n h = absurd (omega (arith, n))
from_below at end (s ∷ ss) (k ∷ ks) zero n h = omega arith
from_below at end (s ∷ ss) (k ∷ ks) (suc i) n h =
    let later = from_below (at + length s) end ss ks i (omega (arith, n)) (omega (arith, h, length-append s (flat_map (λ x. x) ss))) in
    omega (arith, later)

pub upto_end : (at end : ℕ) (ss : List (List ℕ)) (ks : List (List ℕ)) (i : ℕ) → length ks ≡ length ss → at + length (flat_map (λ x. x) ss) ≡ end → block_start end (paired (places at ss) ks) i ≤ end
upto_end at end [] ks i n h = let none = at_end end i in omega (arith, none)
upto_end at end (s ∷ ss) [] i n h = absurd (omega (arith, n))
upto_end at end (s ∷ ss) (k ∷ ks) zero n h = omega (arith, h)
upto_end at end (s ∷ ss) (k ∷ ks) (suc i) n h = upto_end (at + length s) end ss ks i (omega (arith, n)) (omega (arith, h, length-append s (flat_map (λ x. x) ss)))

pub starts_rise : (at end : ℕ) (ss : List (List ℕ)) (ks : List (List ℕ)) (i j : ℕ) → length ks ≡ length ss → at + length (flat_map (λ x. x) ss) ≡ end → i ≤ j → block_start end (paired (places at ss) ks) i ≤ block_start end (paired (places at ss) ks) j
starts_rise at end [] ks i j n h le = let here = at_end end i in let there = at_end end j in omega (arith, here, there)
starts_rise at end (s ∷ ss) [] i j n h le = absurd (omega (arith, n))
starts_rise at end (s ∷ ss) (k ∷ ks) zero j n h le = from_below at end (s ∷ ss) (k ∷ ks) j n h
starts_rise at end (s ∷ ss) (k ∷ ks) (suc i) zero n h le = absurd (omega (arith, le))
starts_rise at end (s ∷ ss) (k ∷ ks) (suc i) (suc j) n h le = starts_rise (at + length s) end ss ks i j (omega (arith, n)) (omega (arith, h, length-append s (flat_map (λ x. x) ss))) (omega (arith, le))
