-- The parts that the words of a run name.
use Rattle.std.proofs.Common.{◌≡◌, ℕ, Bool, true, false, [], ◌++◌, Ok, List, map, Option, Some, None, option_map, ◌⊎◌, inl, inr, refl, sym, ap, subst, ◌∙◌, arith}
use Rattle.std.specs.Prelude.{◌↔◌}
use Rattle.std.proofs.lemmas.Bool.{false≢true}
use Rattle.slate_types.specs.Faults.{Rose, faults_of}
use Rattle.slate_types.specs.Fold.{IsLawful, KeepsShort}
use Rattle.slate_types.specs.Lawful.{IsLawfulTransform}
use Rattle.slate_types.specs.Outside.{Act, Objects}
use Rattle.slate_store.specs.Store.{IsEmpty}
use Rattle.slate_filter.specs.Laws.{AreValidNames}
use Rattle.slate_filter.specs.Policy.{Policy}
use Rattle.slate_table.specs.Filtered.{AreLawful}
use Rattle.slate_txn.specs.State.{Rules}
use Rattle.slate_db.specs.Checked.{SlipsFrom}
use Rattle.slate_db.specs.Meaning.{Meaning, IsLawfulMeaning, combine_of}
use Rattle.slate_language.specs.declared.operators.NamedOperator.{NamedOperator}
use Rattle.slate_language.specs.declared.parts.Xor.{Xor}
use Rattle.slate_language.specs.declared.words.Generated.{Generated}
use Rattle.slate_language.specs.declared.words.Settings.{Settings}
use Rattle.slate_language.specs.Words.{read_generated, read_words}
use Rattle.slate_language.proofs.WordLaws.{generated_alone}
use Rattle.slate_language.specs.Parts.{named, xored}
use Rattle.slate_script.specs.Calls.Main.{Ends}
use Rattle.slate_script.specs.Program.{segments_of, changed, main_rules, parts_of}
use Rattle.slate_script.specs.Run.{Premises, run_rules}
use Rattle.slate_script.specs.Terms.{Storage, Streams, new_storage}
use Rattle.slate_language.proofs.PartsLaws.{named_lawful, xor_back}
use Rattle.slate_script.proofs.MeaningOf.{meaning_of}

-- operator, transformer: those of the words, where they name some
abbrev pub words_mean : Option NamedOperator → Option Xor → Meaning
words_mean operator transformer = meaning_of named (λ (x : Xor). xored x.mask) (λ (x : Xor). xored x.mask) operator transformer

pub lawful : (operator : Option NamedOperator) (transformer : Option Xor) → IsLawfulMeaning (words_mean operator transformer)
lawful operator transformer = record { operator = λ k. (combined operator k).0; short = λ k. (combined operator k).1; transformer = back transformer }
  where
    combined : (o : Option NamedOperator) (k : List ℕ) → IsLawful (combine_of (words_mean o transformer) k) × KeepsShort (combine_of (words_mean o transformer) k)
    combined None k = (record { first = λ v h. refl; assoc = λ u v w h i j. refl }, λ u v h i. i)
    combined (Some o) k = named_lawful o k

    back : (t : Option Xor) → IsLawfulTransform (words_mean operator t).encode (words_mean operator t).decode
    back None d = refl
    back (Some x) d = xor_back x.mask d

pub premises : (policies : List Policy) (operator : Option NamedOperator) (transformer : Option Xor) (objects : Option Objects) → AreLawful policies → IsEmpty objects → Premises policies (words_mean operator transformer) objects
premises policies operator transformer objects lawful_policies empty = record { lawful_policies = lawful_policies; lawful = lawful operator transformer; empty = empty }

-- a part without faults has none
pub none_rose : {P : Type 0} (before after : Option P) → Rose (faults_of (λ _. 0) before) (faults_of (λ _. 0) after) → ⊥
none_rose None None h = omega arith
none_rose None (Some p) h = omega arith
none_rose (Some p) None h = omega arith
none_rose (Some p) (Some q) h = omega arith

pub same_settings : (o : Option Settings) (a b : Settings) → o ≡ Some a → o ≡ Some b → a ≡ b
same_settings o a b h k = cc

pub some_not_none : (o : Option Settings) (a : Settings) → o ≡ Some a → o ≡ None → ⊥
some_not_none o a h k = cc

pub neither : {A B P : Type 0} → (A → ⊥) → (B → ⊥) → A ⊎ B → P
neither f k (inl h) = absurd (f h)
neither f k (inr h) = absurd (k h)

pub status_or_either : {n k a b : ℕ} → n ≡ k → (n ≡ a) ⊎ (n ≡ b) → (k ≡ a) ⊎ (k ≡ b)
status_or_either is (inl h) = inl (sym is ∙ h)
status_or_either is (inr h) = inr (sym is ∙ h)

-- what the words name is all that the parts mean
pub words_are : (s : Settings) (transformer : Option Xor) → option_map (λ x. x.mask) transformer ≡ s.mask → words_mean s.operator transformer ≡ parts_of s
words_are s transformer is = by s.operator transformer ∙ ap (parts s.operator) is
  where
    parts : Option NamedOperator → Option ℕ → Meaning
    parts operator mask = record { combine = option_map named operator; encode = changed mask; decode = changed mask }

    by : (o : Option NamedOperator) (t : Option Xor) → words_mean o t ≡ parts o (option_map (λ x. x.mask) t)
    by None None = refl
    by None (Some x) = refl
    by (Some o) None = refl
    by (Some o) (Some x) = refl

pub rules_are : (s : Settings) (transformer : Option Xor) → option_map (λ x. x.mask) transformer ≡ s.mask → run_rules s.options (words_mean s.operator transformer) (segments_of s) ≡ main_rules s
rules_are s transformer is = ap (λ m. run_rules s.options m (segments_of s)) (words_are s transformer is)

-- what is said by the words' rules, or a section that slipped by their encoding
pub words_or_slips : (Q : Rules → Type 0) (s : Settings) (transformer : Option Xor) → option_map (λ x. x.mask) transformer ≡ s.mask → (before after : Option (List Act)) →
    Q (run_rules s.options (words_mean s.operator transformer) (segments_of s)) ⊎ SlipsFrom (words_mean s.operator transformer).encode [] before after → Q (main_rules s) ⊎ SlipsFrom (parts_of s).encode [] before after
words_or_slips Q s transformer is before after (inl holds) = inl (subst Q (rules_are s transformer is) holds)
words_or_slips Q s transformer is before after (inr slips) = inr (subst (λ (m : Meaning). SlipsFrom m.encode [] before after) (words_are s transformer is) slips)

-- ---- words that name a script of the run's own

pub same_generated : (o : Option Generated) (a b : Generated) → o ≡ Some a → o ≡ Some b → a ≡ b
same_generated o a b h k = cc

pub generated_not_none : (o : Option Generated) (a : Generated) → o ≡ Some a → o ≡ None → ⊥
generated_not_none o a h k = cc

pub one_script : {P : Type 0} (handed ws : List (List ℕ)) (g : Generated) (s : Settings) → read_generated handed ws ≡ Some g → read_words handed ws ≡ Some s → P
one_script handed ws g s h k = absurd (some_not_none (read_words handed ws) s k (generated_alone handed ws g h))

-- what is read with the names of these policies
pub read_as : {B C : Type 0} (result : C) (xs ys : List B) (name : B → List ℕ) (read : List (List ℕ) → C) → result ≡ read (map name xs) → xs ≡ ys → result ≡ read (map name ys)
read_as result xs ys name read is same = is ∙ ap (λ zs. read (map name zs)) same

-- names that passed their test, and names that didn't
pub names_fit : {B : Type 0} (b : Bool) (xs ys : List B) (name : B → List ℕ) → (b ≡ true) ↔ AreValidNames (map name xs) → xs ≡ ys → b ≡ true → AreValidNames (map name ys)
names_fit b xs ys name tests same is = subst (λ zs. AreValidNames (map name zs)) same (tests.0 is)

pub names_unfit : {B : Type 0} (b : Bool) (xs ys : List B) (name : B → List ℕ) → (b ≡ true) ↔ AreValidNames (map name xs) → xs ≡ ys → b ≡ false → AreValidNames (map name ys) → ⊥
names_unfit b xs ys name tests same is valid = false≢true (sym is ∙ tests.1 (subst (λ zs. AreValidNames (map name zs)) (sym same) valid))

-- ---- a run over a store that is new

pub over_new : {ws handed : List (List ℕ)} {given : List Policy} {old new : Streams} {before after : Storage} {n : ℕ} → Ends ws handed given old new before after n →
    before.objects ≡ Some [] → before.acts ≡ Some [] → before.faults ≡ 0 → Ends ws handed given old new new_storage after n
over_new {ws = ws} {handed = handed} {given = given} {old = old} {new = new} {after = after} {n = n} ends objects acts faults =
    subst (λ (s : Storage). Ends ws handed given old new s after n) (λ i. record { objects = objects i; acts = acts i; faults = faults i }) ends
