-- Laws of booleans and options.
use Rattle.std.proofs.Common.{◌≡◌, Bool, true, false, ◌&&◌, ◌||◌, Option, Some, None, is_some, refl}

pub both_true : (a b : Bool) → (a && b) ≡ true → (a ≡ true) × (b ≡ true)
both_true true true h = (refl, refl)
both_true true false h = cc
both_true false b h = cc

pub and_both : (a b : Bool) → a ≡ true → b ≡ true → (a && b) ≡ true
and_both true b h k = k
and_both false b h k = h

pub and_first : (a b : Bool) → a ≡ true → (a && b) ≡ false → b ≡ false
and_first true b e h = h
and_first false b e h = cc

pub neither : (a b : Bool) → (a || b) ≡ false → (a ≡ false) × (b ≡ false)
neither true b h = cc
neither false b h = (refl, h)

pub or_second : (a b : Bool) → (a || b) ≡ true → a ≡ false → b ≡ true
or_second true b h e = cc
or_second false b h e = h

pub or_swap : (a b c : Bool) → (a || (b || c)) ≡ (b || (a || c))
or_swap true true c = refl
or_swap true false c = refl
or_swap false b c = refl

pub none_by_test : {X : Type 0} (o : Option X) → is_some o ≡ false → o ≡ None
none_by_test None h = refl
none_by_test (Some x) h = cc

pub none_some : {X : Type 0} {A : Type 0} (x : X) → None ≡ Some x → A
none_some x h = cc
