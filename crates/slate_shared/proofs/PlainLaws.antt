-- What calls on a database are given by plain laws, and by a store alone.
use Rattle.std.proofs.Common.{◌≡◌, ℕ, List, [], map, Option, None, ap, refl, sym, subst, arith}
use Rattle.slate_types.specs.Config.{IsValid, defaults}
use Rattle.slate_types.specs.Lawful.{Lengths}
use Rattle.slate_types.specs.Outside.{Meaning, no_parts}
use Rattle.slate_types.specs.declared.config.Options.{Options}
use Rattle.slate_store.specs.Env.{changed_by, combine_of}
use Rattle.slate_filter.specs.Laws.{AreValidNames}
use Rattle.slate_filter.specs.Policy.{Policy}
use Rattle.slate_db.specs.Meaning.{segments_by}
use Rattle.slate_shared.specs.Given.{AreGiven}

pub given_plain : {X A : Type 0} (o : Options) (s : Option X) (ps : List A) (lengths : X → Lengths) (f : A → Policy) → o ≡ defaults → s ≡ None → ps ≡ [] → AreGiven defaults None [] o (segments_by lengths s) (map f ps)
given_plain o s ps lengths f options segments policies = record { options = options; segments = ap (segments_by lengths) segments; policies = ap (map f) policies }

abbrev pub meant_by : {M T : Type 0} → (M → List ℕ → Option (List ℕ) → List ℕ → List ℕ) → (T → List ℕ → List ℕ) → (T → List ℕ → List ℕ) → Option M → Option T → Meaning
meant_by combine encode decode operator transformer = record { combine = combine_of combine operator; encode = changed_by encode transformer; decode = changed_by decode transformer }

pub no_meaning : {M T : Type 0} (combine : M → List ℕ → Option (List ℕ) → List ℕ → List ℕ) (encode decode : T → List ℕ → List ℕ) (operator : Option M) (transformer : Option T) → operator ≡ None → transformer ≡ None → meant_by combine encode decode operator transformer ≡ no_parts
no_meaning combine encode decode operator transformer none nothing = λ i. meant_by combine encode decode (none i) (nothing i)

pub valid_plain : (o : Options) → o ≡ defaults → IsValid o
valid_plain o same = subst IsValid (sym same) (record { some_block = omega arith; block = omega arith; table = omega arith; tasks = omega arith; fetch = omega arith; start = omega arith; codec = refl })

pub names_plain : {A : Type 0} (ps : List A) (f : A → List ℕ) → ps ≡ [] → AreValidNames (map f ps)
names_plain ps f none = subst AreValidNames (sym (ap (map f) none)) (record { few = omega arith; short = tt; distinct = tt })
