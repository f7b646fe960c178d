-- What is read of a token is what it spells.
use Rattle.std.proofs.Common.{◌≡◌, ℕ, ℤ, List, Option, Some, Bool, true, false, cond, ◌∷◌, ◌++◌, inl, inr, codes, Result, Ok, Err, IfOk, sym, refl, ◌∙◌}
use Rattle.std.specs.Prelude.{◌↔◌}
use Rattle.std.specs.List.{list_all}
use Rattle.slate_types.specs.Keys.{AreBytes}
use Rattle.slate_language.specs.Text.{is_visible, hex, shown_bytes}
use Rattle.slate_language.specs.Grammar.{IsBytes, IsMoment, IsName, IsNumber}
use Rattle.slate_language.specs.Parse.{read_bytes, read_moment, read_name, read_number}
use Rattle.slate_language.proofs.ParseLaws.{bytes_read, moment_read, name_read, number_read}
use Rattle.slate_language.proofs.ParseOnly.{bytes_only, moment_only, name_only, number_only}

pub name_spelled : (t : List ℕ) (o : Option (List ℕ)) → o ≡ read_name t → IsName t ↔ (o ≡ Some t)
name_spelled t o e = ((λ h. e ∙ (name_read t h).0), (λ h. (name_only t t (sym e ∙ h)).0))

pub bytes_spelled : {E : Type 0} (t : List ℕ) (r : Result (Option (List ℕ)) E) → IfOk r (λ o. o ≡ read_bytes t) → IfOk r (λ o. (v : List ℕ) → IsBytes t v ↔ (o ≡ Some v))
bytes_spelled t (Ok o) e = λ v. ((λ h. e ∙ (bytes_read t v h).0), (λ h. bytes_only t v (sym e ∙ h)))
bytes_spelled t (Err f) e = tt

pub number_spelled : (t : List ℕ) (o : Option ℕ) → o ≡ read_number t → (n : ℕ) → IsNumber t n ↔ (o ≡ Some n)
number_spelled t o e n = ((λ h. e ∙ (number_read t n h).0), (λ h. number_only t n (sym e ∙ h)))

pub moment_spelled : (t : List ℕ) (o : Option ℤ) → o ≡ read_moment t → (z : ℤ) → IsMoment t z ↔ (o ≡ Some z)
moment_spelled t o e z = ((λ h. e ∙ (moment_read t z h).0), (λ h. moment_only t z (sym e ∙ h)))

-- What bytes are shown as spells them.
pub shown_spells : (v : List ℕ) → AreBytes v → IsBytes (shown_bytes v) v
shown_spells v are = by (list_all is_visible v) refl
  where
    by : (c : Bool) → list_all is_visible v ≡ c → IsBytes (cond c (39 ∷ v) (codes "0x" ++ hex v)) v
    by true e = inl (e, refl)
    by false e = inr (are, refl)
