-- The filters that a table is built with.
use Rattle.std.proofs.Common.{◌≡◌, ℕ, ◌<◌, ◌≤◌, ◌^◌, ◌==◌, true, false, List, [], ◌∷◌, ◌++◌, length, map, flat_map, filter_map, Option, Some, None, Result, Ok, Err, refl, sym, ap, subst, arith}
use Rattle.std.specs.Prelude.{string_bytes, OnOk}
use Rattle.std.specs.List.{AllByRecursion, cons_option}
use Rattle.std.proofs.lemmas.Bool.Decides.{nat_tests}
use Rattle.std.proofs.lemmas.List.{append-nil, length-map}
use Rattle.slate_types.specs.declared.types.RowEntry.{RowEntry}
use Rattle.slate_block.specs.RowSpelling.{be16}
use Rattle.slate_filter.specs.declared.named_filter.NamedFilter.{NamedFilter}
use Rattle.slate_filter.specs.Laws.{AreValidNames}
use Rattle.slate_filter.specs.Named.{named_pair}
use Rattle.slate_filter.specs.Policy.{Policy, named}
use Rattle.slate_table.specs.Parts.{Encode, section, filter_bytes}
use Rattle.slate_table.specs.Table.{FitsFilter, filter_section}
use Rattle.slate_table.specs.TableEnd.{HasShortNames}

-- ---- names are those of the policies

abbrev built : {A : Type 0} → List A → (A → Policy) → List RowEntry → List (List ℕ × List ℕ)
built ps m rows = filter_map (λ (p : Policy). named p.name (p.builds rows)) (map m ps)

abbrev IsShort : List ℕ × List ℕ → Type 0
IsShort f = length f.0 < 2 ^ 16

short_built : {A : Type 0} (ps : List A) (m : A → Policy) (rows : List RowEntry) → AllByRecursion (λ (n : List ℕ). length n < 2 ^ 16) (map (λ p. (m p).name) ps) → AllByRecursion IsShort (built ps m rows)
short_built [] m rows a = tt
short_built (p ∷ ps) m rows a = by ((m p).builds rows) (short_built ps m rows a.1)
  where
    by : (o : Option (List ℕ)) → AllByRecursion IsShort (built ps m rows) → AllByRecursion IsShort (cons_option (named (m p).name o) (built ps m rows))
    by None rest = rest
    by (Some bytes) rest = (a.0, rest)

few_built : {A : Type 0} (ps : List A) (m : A → Policy) (rows : List RowEntry) → length (built ps m rows) ≤ length ps
few_built [] m rows = omega arith
few_built (p ∷ ps) m rows = by ((m p).builds rows) (few_built ps m rows)
  where
    by : (o : Option (List ℕ)) → length (built ps m rows) ≤ length ps → length (cons_option (named (m p).name o) (built ps m rows)) ≤ length (p ∷ ps)
    by None rest = omega (arith, rest)
    by (Some bytes) rest = omega (arith, rest)

short_pairs : (fs : List NamedFilter) → AllByRecursion IsShort (map named_pair fs) → AllByRecursion (λ (f : NamedFilter). length (string_bytes f.name) < 2 ^ 16) fs
short_pairs [] a = tt
short_pairs (f ∷ fs) a = (a.0, short_pairs fs a.1)

pub short_names : {A : Type 0} (ps : List A) (m : A → Policy) (rows : List RowEntry) (fs : List NamedFilter) →
    map named_pair fs ≡ filter_map (λ (p : Policy). named p.name (p.builds rows)) (map m ps) → AreValidNames (map (λ p. (m p).name) ps) → HasShortNames fs
short_names ps m rows fs is names =
    let pairs = length-map fs named_pair in
    let same = ap (λ (l : List (List ℕ × List ℕ)). length l) is in
    let fewer = few_built ps m rows in
    let policies = length-map ps (λ p. (m p).name) in
    let few = names.few in
    record {
      few = omega (arith, pairs, same, fewer, policies, few);
      each = short_pairs fs (subst (λ (l : List (List ℕ × List ℕ)). AllByRecursion IsShort l) (sym is) (short_built ps m rows names.short));
    }

-- ---- the section, where there are filters

not_none : {A : Type 0} (x : A) (xs : List A) → (length (x ∷ xs) == 0) ≡ true → ⊥
not_none x xs h = let none : length (x ∷ xs) ≡ 0 = grind (arith, nat_tests) in absurd (omega arith)

pub none_appended : (cover : List ℕ) (encode : Encode) (out : List ℕ) (fs : List NamedFilter) → (length fs == 0) ≡ true → out ≡ out ++ filter_section cover encode (map named_pair fs)
none_appended cover encode out [] h = sym (append-nil out)
none_appended cover encode out (f ∷ fs) h = absurd (not_none f fs h)

pub none_fit : (fs : List NamedFilter) → (length fs == 0) ≡ true → AllByRecursion FitsFilter (map named_pair fs)
none_fit [] h = tt
none_fit (f ∷ fs) h = absurd (not_none f fs h)

pub some_section : (cover : List ℕ) (encode : Encode) (fs : List NamedFilter) → (length fs == 0) ≡ false →
    section cover encode (be16 (length fs) ++ flat_map filter_bytes (map named_pair fs)) ≡ filter_section cover encode (map named_pair fs)
some_section cover encode [] h = absurd cc
some_section cover encode (f ∷ fs) h = ap (λ (n : ℕ). section cover encode (be16 n ++ flat_map filter_bytes (map named_pair (f ∷ fs)))) (sym (length-map (f ∷ fs) named_pair))
