-- Rows cut one after the other.
use Rattle.std.proofs.Common.{◌≡◌, ℕ, ◌+◌, Bool, true, false, cond, List, [], ◌∷◌, ◌++◌, length, fold, flat_map, refl, sym, ap, ◌∙◌, append_assoc, arith}
use Rattle.std.proofs.lemmas.List.{append-nil, length-append}
use Rattle.std.proofs.lemmas.List.Sums.{fold-append}
use Rattle.std.proofs.lemmas.Grind.{flat_map-append}
use Rattle.slate_types.specs.declared.types.RowEntry.{RowEntry}
use Rattle.slate_block.specs.BlockSpelling.{places}
use Rattle.slate_block.specs.Fitting.{fits_in}
use Rattle.slate_table.specs.Parts.{separator, later_separators, separators, first_key, last_key}
use Rattle.slate_table.specs.Table.{cut, cut_from}
use Rattle.slate_table.specs.TableBuilding.{Cutting, cut_more, cutting, with_last, all_blocks}

-- ---- a row more

pub cutting_more : (size version : ℕ) (rows : List RowEntry) (r : RowEntry) → cutting size version (rows ++ r ∷ []) ≡ cut_more size version (cutting size version rows) r
unfolding cutting
cutting_more size version rows r = fold-append (cut_more size version) (record { ended = []; filling = [] }) rows (r ∷ [])

pub cut_same : (size version : ℕ) (c : Cutting) (r : RowEntry) → fits_in size version c.filling r ≡ true → cut_more size version c r ≡ record { ended = c.ended; filling = c.filling ++ r ∷ [] }
cut_same size version c r h = ap (λ (t : Bool). cond {A = Cutting} t (record { ended = c.ended; filling = c.filling ++ r ∷ [] }) (record { ended = c.ended ++ c.filling ∷ []; filling = r ∷ [] })) h

pub cut_next : (size version : ℕ) (c : Cutting) (r : RowEntry) → fits_in size version c.filling r ≡ false → cut_more size version c r ≡ record { ended = c.ended ++ c.filling ∷ []; filling = r ∷ [] }
cut_next size version c r h = ap (λ (t : Bool). cond {A = Cutting} t (record { ended = c.ended; filling = c.filling ++ r ∷ [] }) (record { ended = c.ended ++ c.filling ∷ []; filling = r ∷ [] })) h

-- ---- the cutting of all rows

snoc_last : (ended : List (List RowEntry)) (block : List RowEntry) (r : RowEntry) → with_last ended (block ++ r ∷ []) ≡ ended ++ (block ++ r ∷ []) ∷ []
snoc_last ended [] r = refl
snoc_last ended (q ∷ qs) r = refl

run_from : (size version : ℕ) (ended : List (List RowEntry)) (block : List RowEntry) (r : RowEntry) (rows : List RowEntry) →
    all_blocks (fold (cut_more size version) (record { ended = ended; filling = block ++ r ∷ [] }) rows) ≡ ended ++ cut_from size version (block ++ r ∷ []) rows
run_from size version ended block r [] = snoc_last ended block r
run_from size version ended block r (q ∷ rows) =
    by (fits_in size version (block ++ r ∷ []) q) (run_from size version ended (block ++ r ∷ []) q rows)
    (run_from size version (ended ++ (block ++ r ∷ []) ∷ []) [] q rows ∙ append_assoc ended ((block ++ r ∷ []) ∷ []) (cut_from size version (q ∷ []) rows))
  where
    by : (t : Bool) → all_blocks (fold (cut_more size version) (record { ended = ended; filling = (block ++ r ∷ []) ++ q ∷ [] }) rows) ≡ ended ++ cut_from size version ((block ++ r ∷ []) ++ (q ∷ [])) rows →
        all_blocks (fold (cut_more size version) (record { ended = ended ++ (block ++ r ∷ []) ∷ []; filling = q ∷ [] }) rows) ≡ ended ++ ((block ++ r ∷ []) ∷ cut_from size version (q ∷ []) rows) →
        all_blocks (fold (cut_more size version) (cond t (record { ended = ended; filling = (block ++ r ∷ []) ++ q ∷ [] }) (record { ended = ended ++ (block ++ r ∷ []) ∷ []; filling = q ∷ [] })) rows)
        ≡ ended ++ cond t (cut_from size version ((block ++ r ∷ []) ++ (q ∷ [])) rows) ((block ++ r ∷ []) ∷ cut_from size version (q ∷ []) rows)
    by true same next = same
    by false same next = next

pub cut_is : (size version : ℕ) (rows : List RowEntry) → all_blocks (cutting size version rows) ≡ cut size version rows
unfolding cutting
cut_is size version [] = refl
cut_is size version (r ∷ rows) = run_from size version [] [] r rows

-- ---- rows of a cutting

more_rows : (size version : ℕ) (c : Cutting) (r : RowEntry) → flat_map (λ b. b) (cut_more size version c r).ended ++ (cut_more size version c r).filling ≡ (flat_map (λ b. b) c.ended ++ c.filling) ++ r ∷ []
more_rows size version c r = by (fits_in size version c.filling r)
  where
    by : (t : Bool) → flat_map (λ b. b) (cond {A = Cutting} t (record { ended = c.ended; filling = c.filling ++ r ∷ [] }) (record { ended = c.ended ++ c.filling ∷ []; filling = r ∷ [] })).ended
        ++ (cond {A = Cutting} t (record { ended = c.ended; filling = c.filling ++ r ∷ [] }) (record { ended = c.ended ++ c.filling ∷ []; filling = r ∷ [] })).filling ≡ (flat_map (λ b. b) c.ended ++ c.filling) ++ r ∷ []
    by true = sym (append_assoc (flat_map (λ b. b) c.ended) c.filling (r ∷ []))
    by false = ap (λ (l : List RowEntry). l ++ r ∷ []) (flat_map-append (λ b. b) c.ended (c.filling ∷ []) ∙ ap (λ (l : List RowEntry). flat_map (λ b. b) c.ended ++ l) (append-nil c.filling))

rows_from : (size version : ℕ) (c : Cutting) (rows : List RowEntry) → flat_map (λ b. b) (fold (cut_more size version) c rows).ended ++ (fold (cut_more size version) c rows).filling ≡ (flat_map (λ b. b) c.ended ++ c.filling) ++ rows
rows_from size version c [] = sym (append-nil (flat_map (λ b. b) c.ended ++ c.filling))
rows_from size version c (r ∷ rows) = rows_from size version (cut_more size version c r) rows ∙ ap (λ (l : List RowEntry). l ++ rows) (more_rows size version c r) ∙ append_assoc (flat_map (λ b. b) c.ended ++ c.filling) (r ∷ []) rows

pub cutting_rows : (size version : ℕ) (rows : List RowEntry) → flat_map (λ b. b) (cutting size version rows).ended ++ (cutting size version rows).filling ≡ rows
unfolding cutting
cutting_rows size version rows = rows_from size version (record { ended = []; filling = [] }) rows

-- ---- separators

last_key_append : (k : List ℕ) (a b : List RowEntry) → last_key (last_key k a) b ≡ last_key k (a ++ b)
last_key_append k [] b = refl
last_key_append k (r ∷ a) b = last_key_append r.key a b

later_end : (k : List ℕ) (bs : List (List RowEntry)) (b : List RowEntry) → later_separators k (bs ++ b ∷ []) ≡ later_separators k bs ++ separator (last_key k (flat_map (λ x. x) bs)) (first_key b) ∷ []
later_end k [] b = refl
later_end k (x ∷ bs) b =
    let later = later_end (last_key k x) bs b in
    let same = last_key_append k x (flat_map (λ y. y) bs) in
    ap (λ (l : List (List ℕ)). separator k (first_key x) ∷ l) (later ∙ ap (λ (l : List ℕ). later_separators (last_key k x) bs ++ separator l (first_key b) ∷ []) same)

separators_end : (x : List RowEntry) (bs : List (List RowEntry)) (c : List RowEntry) → separators ((x ∷ bs) ++ c ∷ []) ≡ separators (x ∷ bs) ++ separator (last_key [] (flat_map (λ y. y) (x ∷ bs))) (first_key c) ∷ []
separators_end x bs c =
    let later = later_end (last_key [] x) bs c in
    let same = last_key_append [] x (flat_map (λ y. y) bs) in
    ap (λ (l : List (List ℕ)). first_key x ∷ l) (later ∙ ap (λ (l : List ℕ). later_separators (last_key [] x) bs ++ separator l (first_key c) ∷ []) same)

-- a new block behind one that was ended
separators_behind : (bs : List (List RowEntry)) (b c : List RowEntry) → separators ((bs ++ b ∷ []) ++ c ∷ []) ≡ separators (bs ++ b ∷ []) ++ separator (last_key [] (flat_map (λ y. y) (bs ++ b ∷ []))) (first_key c) ∷ []
separators_behind [] b c = separators_end b [] c
separators_behind (x ∷ bs) b c = separators_end x (bs ++ b ∷ []) c

abbrev pub Begun : List RowEntry → Type 0
Begun [] = ⊥
Begun (r ∷ rs) = Unit {0}

pub with_begun : (ended : List (List RowEntry)) (filling : List RowEntry) → Begun filling → with_last ended filling ≡ ended ++ filling ∷ []
with_begun ended [] h = absurd h
with_begun ended (r ∷ rs) h = refl

flat_last : (ended : List (List RowEntry)) (filling : List RowEntry) → flat_map (λ y. y) (ended ++ filling ∷ []) ≡ flat_map (λ y. y) ended ++ filling
flat_last ended filling = flat_map-append (λ y. y) ended (filling ∷ []) ∙ ap (λ (l : List RowEntry). flat_map (λ y. y) ended ++ l) (append-nil filling)

pub separators_next : (ended : List (List RowEntry)) (filling : List RowEntry) (r : RowEntry) → Begun filling →
    separators (with_last (ended ++ filling ∷ []) (r ∷ [])) ≡ separators (with_last ended filling) ++ separator (last_key [] (flat_map (λ y. y) ended ++ filling)) r.key ∷ []
separators_next ended filling r h =
    let old = with_begun ended filling h in
    separators_behind ended filling (r ∷ [])
    ∙ (λ i. separators (sym old i) ++ separator (last_key [] (flat_last ended filling i)) r.key ∷ [])

later_first : (k : List ℕ) (bs : List (List RowEntry)) (b c : List RowEntry) → first_key b ≡ first_key c → later_separators k (bs ++ b ∷ []) ≡ later_separators k (bs ++ c ∷ [])
later_first k [] b c h = ap (λ (l : List ℕ). separator k l ∷ []) h
later_first k (x ∷ bs) b c h = ap (λ (l : List (List ℕ)). separator k (first_key x) ∷ l) (later_first (last_key k x) bs b c h)

same_first : (bs : List (List RowEntry)) (b c : List RowEntry) → first_key b ≡ first_key c → separators (bs ++ b ∷ []) ≡ separators (bs ++ c ∷ [])
same_first [] b c h = ap (λ (l : List ℕ). l ∷ []) h
same_first (x ∷ bs) b c h = ap (λ (l : List (List ℕ)). first_key x ∷ l) (later_first (last_key [] x) bs b c h)

first_stays : (b : List RowEntry) (r : RowEntry) → Begun b → first_key (b ++ r ∷ []) ≡ first_key b
first_stays [] r h = absurd h
first_stays (q ∷ qs) r h = refl

pub separators_same : (ended : List (List RowEntry)) (filling : List RowEntry) (r : RowEntry) → Begun filling → separators (with_last ended (filling ++ r ∷ [])) ≡ separators (with_last ended filling)
separators_same ended filling r h =
    ap separators (snoc_last ended filling r) ∙ same_first ended (filling ++ r ∷ []) filling (first_stays filling r h) ∙ ap separators (sym (with_begun ended filling h))

-- ---- places

pub places_end : (at : ℕ) (ss : List (List ℕ)) (s : List ℕ) → places at (ss ++ s ∷ []) ≡ places at ss ++ (at + length (flat_map (λ x. x) ss)) ∷ []
places_end at [] s = let same : at ≡ at + 0 = omega arith in ap (λ (k : ℕ). k ∷ []) same
places_end at (x ∷ ss) s =
    let later = places_end (at + length x) ss s in
    let sum : at + length x + length (flat_map (λ y. y) ss) ≡ at + length (x ++ flat_map (λ y. y) ss) = omega (arith, length-append x (flat_map (λ y. y) ss)) in
    ap (λ (l : List ℕ). at ∷ l) (later ∙ ap (λ (k : ℕ). places (at + length x) ss ++ k ∷ []) sum)
