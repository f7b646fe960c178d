-- What calls leave of what they reach, one after another.
use Rattle.std.proofs.Common.{◌≡◌, List, [], ◌++◌, Option, Some, refl, sym, ap, ◌∙◌, append-nil, append_assoc, arith}
use Rattle.slate_types.specs.Outside.{Act, Counts, IsFault, IsLater, Reach, PutsNothing, AddsReads, OnlyReads, Puts}
use Rattle.slate_types.specs.declared.error.SlateDBError.{SlateDBError}
use Rattle.slate_types.proofs.Lists.{AllByRecursion_append}
use Rattle.slate_types.proofs.OutsideLaws.{later_trans, counted_earlier}

pub adds_none : (acts : Option (List Act)) → AddsReads acts acts
adds_none acts known is = ([], is ∙ ap (λ (l : List Act). Some l) (sym (append-nil known)), tt)

pub adds_both : (first middle last : Option (List Act)) → AddsReads first middle → AddsReads middle last → AddsReads first last
adds_both first middle last f l known is =
    let some = f known is in
    let rest = l (known ++ some.0) some.1 in
    (some.0 ++ rest.0, rest.1 ∙ ap (λ (a : List Act). Some a) (append_assoc known some.0 rest.0), AllByRecursion_append PutsNothing some.0 rest.0 some.2 rest.2)

pub later_none : (a : Counts) → IsLater a a
later_none a = record { store = omega arith; operator = omega arith; transformer = omega arith }

-- nothing was asked
pub reads_none : (a : Reach) → OnlyReads a a
reads_none a = record { objects = refl; meaning = refl; acts = adds_none a.acts; later = later_none a.faults; store = refl }

pub reads_then : (a b c : Reach) → OnlyReads a b → OnlyReads b c → OnlyReads a c
reads_then a b c f l = record {
  objects = l.objects ∙ f.objects;
  meaning = l.meaning ∙ f.meaning;
  acts = adds_both a.acts b.acts c.acts f.acts l.acts;
  later = later_trans a.faults b.faults c.faults f.later l.later;
  store = l.store ∙ f.store;
}

pub puts_none : (a : Reach) → Puts a a
puts_none a = record { meaning = refl; later = later_none a.faults; store = refl }

pub puts_then : (a b c : Reach) → Puts a b → Puts b c → Puts a c
puts_then a b c f l = record { meaning = l.meaning ∙ f.meaning; later = later_trans a.faults b.faults c.faults f.later l.later; store = l.store ∙ f.store }

pub reads_put_nothing : (a b : Reach) → OnlyReads a b → Puts a b
reads_put_nothing a b r = record { meaning = r.meaning; later = r.later; store = r.store }

-- a read, from what is known of each part
pub reads_of : (a b : Reach) → b.objects ≡ a.objects → b.meaning.combine ≡ a.meaning.combine → b.meaning.encode ≡ a.meaning.encode → b.meaning.decode ≡ a.meaning.decode →
    AddsReads a.acts b.acts → IsLater a.faults b.faults → b.store ≡ a.store → OnlyReads a b
reads_of a b objects combine encode decode acts later store = record {
  objects = objects;
  meaning = λ i. record { combine = combine i; encode = encode i; decode = decode i };
  acts = acts;
  later = later;
  store = store;
}

-- a call that changes no part
pub puts_of : (a b : Reach) → b.meaning.combine ≡ a.meaning.combine → b.meaning.encode ≡ a.meaning.encode → b.meaning.decode ≡ a.meaning.decode → IsLater a.faults b.faults → b.store ≡ a.store → Puts a b
puts_of a b combine encode decode later store = record { meaning = λ i. record { combine = combine i; encode = encode i; decode = decode i }; later = later; store = store }

pub fault_earlier : (a b c : Reach) (e : SlateDBError) → IsLater a.faults b.faults → IsFault b c e → IsFault a c e
fault_earlier a b c e h k = counted_earlier a.faults b.faults c.faults e h k
