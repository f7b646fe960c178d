-- Where the sections of a table end, by its last bytes and its info.
use Rattle.std.proofs.Common.{◌≡◌, ℕ, ◌+◌, ◌<◌, ◌^◌, List, [], ◌∷◌, ◌++◌, length, refl, sym, ◌∙◌, arith, length-append}
use Rattle.slate_block.specs.RowSpelling.{be16, be32, be64}
use Rattle.slate_block.proofs.Pieces.{same_pieces, same_ends, same_be16, same_be64, same_whole}
use Rattle.slate_table.specs.Parts.{Place, place_bytes}

-- ---- places

pub record SamePlace (p q : Place) : Type 0 where
  pub at : p.at ≡ q.at
  pub len : p.len ≡ q.len

same_place : (p q : Place) → p.at < 2 ^ 64 → q.at < 2 ^ 64 → p.len < 2 ^ 64 → q.len < 2 ^ 64 → place_bytes p ≡ place_bytes q → SamePlace p q
same_place p q a b c d h =
    let first = same_be64 p.at q.at (be64 p.len) (be64 q.len) a b h in
    let second = same_be64 p.len q.len [] [] c d (same_whole (be64 p.len) (be64 q.len) first.1) in
    record { at = first.0; len = second.0 }

-- ---- the info, from its end: places and two numbers follow what begins it

unfoldable pub info_from : List ℕ → Place → Place → Place → List ℕ
info_from start index filters stats = start ++ place_bytes index ++ place_bytes filters ++ place_bytes stats ++ (0 ∷ 1 ∷ [])

record FitsPlace (p : Place) : Type 0 where
  pub at : p.at < 2 ^ 64
  pub len : p.len < 2 ^ 64

record SamePlaces (p q r s : Place) : Type 0 where
  pub index : SamePlace p q
  pub filters : SamePlace r s

same_info : (a b : List ℕ) (p q r s x y : Place) → FitsPlace p → FitsPlace q → FitsPlace r → FitsPlace s → info_from a p r x ≡ info_from b q s y → SamePlaces p q r s
unfolding info_from
same_info a b p q r s x y fp fq fr fs h =
    let e = same_ends (a ++ place_bytes p ++ place_bytes r ++ place_bytes x) (b ++ place_bytes q ++ place_bytes s ++ place_bytes y) (0 ∷ 1 ∷ []) (0 ∷ 1 ∷ []) refl h in
    let f = same_ends (a ++ place_bytes p ++ place_bytes r) (b ++ place_bytes q ++ place_bytes s) (place_bytes x) (place_bytes y) refl e.0 in
    let g = same_ends (a ++ place_bytes p) (b ++ place_bytes q) (place_bytes r) (place_bytes s) refl f.0 in
    let k = same_ends a b (place_bytes p) (place_bytes q) refl g.0 in
    record {
      index = same_place p q fp.at fq.at fp.len fq.len k.1;
      filters = same_place r s fr.at fs.at fr.len fs.len g.1;
    }

-- ---- the whole

-- four sections, an info with its checksum, the info's place and the version
unfoldable pub frame : List ℕ → List ℕ → List ℕ → List ℕ → List ℕ → ℕ → ℕ → List ℕ
frame blocks filters index stats info sum version = blocks ++ filters ++ index ++ stats ++ (info ++ be32 sum)
    ++ be64 (length blocks + length filters + length index + length stats) ++ be16 version

pub record IsShortFrame (blocks filters index stats : List ℕ) : Type 0 where
  pub all : length blocks + length filters + length index + length stats < 2 ^ 64

pub frame_short : (blocks filters index stats info : List ℕ) (sum version : ℕ) → length (frame blocks filters index stats info sum version) < 2 ^ 64 → IsShortFrame blocks filters index stats
unfolding frame
frame_short b f i s info sum version h =
    let l1 = length-append b f in
    let l2 = length-append (b ++ f) i in
    let l3 = length-append (b ++ f ++ i) s in
    let l4 = length-append (b ++ f ++ i ++ s) (info ++ be32 sum) in
    let n = length b + length f + length i + length s in
    let l5 = length-append (b ++ f ++ i ++ s ++ (info ++ be32 sum)) (be64 n) in
    let l6 = length-append (b ++ f ++ i ++ s ++ (info ++ be32 sum) ++ be64 n) (be16 version) in
    record { all = omega (arith, h, l1, l2, l3, l4, l5, l6) }

record SameFront (a b : List ℕ) (m n : List ℕ) (v w : ℕ) : Type 0 where
  pub version : v ≡ w
  pub front : a ≡ b
  pub info : m ≡ n

pub front_length : (b f i s : List ℕ) → length (b ++ f ++ i ++ s) ≡ length b + length f + length i + length s
front_length b f i s =
    let l1 = length-append b f in
    let l2 = length-append (b ++ f) i in
    let l3 = length-append (b ++ f ++ i) s in
    omega (arith, l1, l2, l3)

same_front : (b f i s c g j t info more : List ℕ) (sum other v w : ℕ) → v < 2 ^ 16 → w < 2 ^ 16 → IsShortFrame b f i s → IsShortFrame c g j t →
    frame b f i s info sum v ≡ frame c g j t more other w → SameFront (b ++ f ++ i ++ s) (c ++ g ++ j ++ t) info more v w
unfolding frame
same_front b f i s c g j t info more sum other v w p q short tiny h =
    let m = length b + length f + length i + length s in
    let n = length c + length g + length j + length t in
    let e = same_ends (b ++ f ++ i ++ s ++ (info ++ be32 sum) ++ be64 m) (c ++ g ++ j ++ t ++ (more ++ be32 other) ++ be64 n) (be16 v) (be16 w) refl h in
    let versions = same_be16 v w [] [] p q (same_whole (be16 v) (be16 w) e.1) in
    let k = same_ends (b ++ f ++ i ++ s ++ (info ++ be32 sum)) (c ++ g ++ j ++ t ++ (more ++ be32 other)) (be64 m) (be64 n) refl e.0 in
    let at = same_be64 m n [] [] short.all tiny.all (same_whole (be64 m) (be64 n) k.1) in
    let parts = same_pieces (b ++ f ++ i ++ s) (c ++ g ++ j ++ t) (info ++ be32 sum) (more ++ be32 other) (front_length b f i s ∙ at.0 ∙ sym (front_length c g j t)) k.0 in
    let infos = same_ends info more (be32 sum) (be32 other) refl parts.1 in
    record { version = versions.0; front = parts.0; info = infos.0 }

pub record SameSections (b f i s c g j t : List ℕ) (v w : ℕ) : Type 0 where
  pub version : v ≡ w
  pub blocks : b ≡ c
  pub filters : f ≡ g
  pub index : i ≡ j
  pub stats : s ≡ t

same_four : (b f i s c g j t : List ℕ) (v w : ℕ) → v ≡ w → length b ≡ length c → length f ≡ length g → length i ≡ length j → b ++ f ++ i ++ s ≡ c ++ g ++ j ++ t → SameSections b f i s c g j t v w
same_four b f i s c g j t v w version lb lf li h =
    let first : length (b ++ f) ≡ length (c ++ g) = length-append b f ∙ (λ x. lb x + lf x) ∙ sym (length-append c g) in
    let three : length (b ++ f ++ i) ≡ length (c ++ g ++ j) = length-append (b ++ f) i ∙ (λ x. first x + li x) ∙ sym (length-append (c ++ g) j) in
    let e = same_pieces (b ++ f ++ i) (c ++ g ++ j) s t three h in
    let k = same_pieces (b ++ f) (c ++ g) i j first e.0 in
    let l = same_pieces b c f g lb k.0 in
    record { version = version; blocks = l.0; filters = l.1; index = k.1; stats = e.1 }

-- the places that the info of a table names
unfoldable pub index_place : List ℕ → List ℕ → List ℕ → Place
index_place blocks filters index = record { at = length blocks + length filters; len = length index }

unfoldable pub filters_place : List ℕ → List ℕ → Place
filters_place blocks filters = record { at = length blocks; len = length filters }

-- two tables of the same bytes have the same sections
pub same_sections : (b f i s c g j t start more : List ℕ) (x y : Place) (sum other v w : ℕ) → v < 2 ^ 16 → w < 2 ^ 16 → IsShortFrame b f i s → IsShortFrame c g j t →
    frame b f i s (info_from start (index_place b f i) (filters_place b f) x) sum v ≡ frame c g j t (info_from more (index_place c g j) (filters_place c g) y) other w →
    SameSections b f i s c g j t v w
unfolding index_place filters_place
same_sections b f i s c g j t start more x y sum other v w p q short tiny h =
    let front = same_front b f i s c g j t _ _ sum other v w p q short tiny h in
    let places = same_info start more (index_place b f i) (index_place c g j) (filters_place b f) (filters_place c g) x y
    (record { at = omega (arith, short.all); len = omega (arith, short.all) }) (record { at = omega (arith, tiny.all); len = omega (arith, tiny.all) })
    (record { at = omega (arith, short.all); len = omega (arith, short.all) }) (record { at = omega (arith, tiny.all); len = omega (arith, tiny.all) }) front.info in
    same_four b f i s c g j t v w front.version places.filters.at places.filters.len places.index.len front.front
