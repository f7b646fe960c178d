-- One path more is told apart.
use Rattle.std.proofs.Common.{◌≡◌, ℕ, ◌^◌, ◌<◌, List, [], ◌∷◌, ◌++◌, map, refl, sym, ap, ◌∙◌, subst}
use Rattle.std.specs.Prelude.{IsSome, Option, None}
use Rattle.std.specs.List.{AllByRecursion}
use Rattle.std.specs.List.Sorted.{IsPermutation}
use Rattle.std.proofs.lemmas.List.{append_assoc, append-nil, map-append}
use Rattle.std.proofs.lemmas.List.Sorted.{IsPermutation-append_comm, IsPermutation-append_left, IsPermutation-cons, IsPermutation-middle, IsPermutation-refl, IsPermutation-sym, IsPermutation-trans}
use Rattle.slate_types.specs.declared.types.Ulid.{Ulid}
use Rattle.slate_types.proofs.Lists.{AllByRecursion_append}
use Rattle.slate_table.specs.Paths.{path_of}
use Rattle.slate_tables.specs.Listing.{IsListing, IsNoPath, id_path}

insert_middle : (seen a b : List (List ℕ)) (p : List ℕ) → IsPermutation seen (a ++ b) → IsPermutation (seen ++ (p ∷ [])) (a ++ (p ∷ b))
insert_middle seen a b p h =
    IsPermutation-trans (seen ++ (p ∷ [])) (p ∷ seen) (a ++ (p ∷ b)) (IsPermutation-append_comm seen (p ∷ []))
    (IsPermutation-trans (p ∷ seen) (p ∷ (a ++ b)) (a ++ (p ∷ b)) (IsPermutation-cons p seen (a ++ b) h) (IsPermutation-sym (a ++ (p ∷ b)) (p ∷ (a ++ b)) (IsPermutation-middle a p b)))

pub listing_none : (root : List ℕ) → IsListing root [] [] []
listing_none root = record { all = IsPermutation-refl []; apart = tt }

pub listing_table : (root : List ℕ) (seen : List (List ℕ)) (tables more : List Ulid) (others : List (List ℕ)) (path : List ℕ) (id : Ulid) → path ≡ path_of root id.0 → more ≡ tables ++ (id ∷ []) →
    IsListing root seen tables others → IsListing root (seen ++ (path ∷ [])) more others
listing_table root seen tables more others path id is adds h =
    let ids = map (id_path root) tables in
    let whole : ids ++ (path_of root id.0 ∷ others) ≡ map (id_path root) (tables ++ (id ∷ [])) ++ others =
    sym (append_assoc ids (path_of root id.0 ∷ []) others) ∙ ap (λ (l : List (List ℕ)). l ++ others) (sym (map-append (id_path root) tables (id ∷ []))) in
    let P : List Ulid → Type 0 = λ l. IsListing root (seen ++ (path ∷ [])) l others in
    subst P (sym adds) (record {
      all = (let Q : List (List ℕ) → Type 0 = λ l. IsPermutation (seen ++ (path ∷ [])) l in
          let R : List ℕ → Type 0 = λ p. IsPermutation (seen ++ (p ∷ [])) (ids ++ (path_of root id.0 ∷ others)) in
          subst Q whole (subst R (sym is) (insert_middle seen ids others (path_of root id.0) h.all)));
      apart = h.apart;
    })

pub listing_other : (root : List ℕ) (seen : List (List ℕ)) (tables : List Ulid) (others more : List (List ℕ)) (path : List ℕ) → IsNoPath root path → more ≡ others ++ (path ∷ []) →
    IsListing root seen tables others → IsListing root (seen ++ (path ∷ [])) tables more
listing_other root seen tables others more path none adds h =
    let ids = map (id_path root) tables in
    let P : List (List ℕ) → Type 0 = λ l. IsListing root (seen ++ (path ∷ [])) tables l in
    subst P (sym adds) (record {
      all = (let Q : List (List ℕ) → Type 0 = λ l. IsPermutation (seen ++ (path ∷ [])) l in
          subst Q (append_assoc ids others (path ∷ [])) (IsPermutation-append_left (path ∷ []) seen (ids ++ others) h.all));
      apart = AllByRecursion_append (IsNoPath root) others (path ∷ []) h.apart (none, tt);
    })
