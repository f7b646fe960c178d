-- An info that is read is the one that is spelled.
use Rattle.std.proofs.Common.{◌≡◌, ℕ, zero, suc, ◌+◌, ◌-◌, ◌^◌, ◌<◌, ◌≤◌, Bool, true, false, cond, eqb, ltb, List, [], ◌∷◌, ◌++◌, length, get_or, drop, Option, Some, None, Result, Ok, Err, refl, sym, ap, subst, ◌∙◌, ◌⊎◌, inl, inr, append_assoc, arith}
use Rattle.std.specs.Prelude.{slice_get, slice_range}
use Rattle.std.specs.Int.{w16, w64}
use Rattle.std.proofs.lemmas.Bool.{eqb-true, eq-eqb, ltb-false, le-ltb}
use Rattle.std.proofs.lemmas.List.{length-drop, nil_from_length, at_drop_more}
use Rattle.std.proofs.lemmas.Option.{slice_get_within, get_or_from_slice_get}
use Rattle.slate_types.specs.declared.error.SlateDBError.{SlateDBError}
use Rattle.slate_types.specs.declared.error.SlateDBError.TheVariants.{CorruptTable, UnsupportedCompression}
use Rattle.slate_block.specs.RowSpelling.{be16, be64}
use Rattle.slate_block.specs.Damage.{◌>>=◌, Field, number_field, block_field}
use Rattle.slate_block.proofs.Groups.{IsBytes}
use Rattle.slate_block.proofs.FieldLaws.{bind_ok, guard_ok, ok_is, Stands, behind, wide16, wide64, number_takes, number_again, block_takes, block_again, block_text, front_byte}
use Rattle.slate_block.proofs.ReadingLaws.{then}
use Rattle.slate_table.proofs.Results.{bind_again}
use Rattle.slate_table.specs.Parts.{Place, key_bytes, place_bytes, info_bytes}
use Rattle.slate_table.specs.Decoded.{Info, IsInfo, FitsShort, FitsPlace, LiesBefore, SectionsLieBefore}
use Rattle.slate_table.specs.InfoReading.{section_place, byte_at, byte_field, version_field, key_text, key_field, place_field, ending, info_from, info_in}

-- ---- what is read is spelled

test_ok : {A : Type 0} (t : Bool) (r : Result A SlateDBError) (d : SlateDBError) (y : A) → cond t r (Err d) ≡ Ok y → (t ≡ true) × (r ≡ Ok y)
test_ok true r d y e = (refl, e)
test_ok false r d y e = absurd cc

rest_ok : {A : Type 0} (t : Bool) (r : Result A SlateDBError) (d : SlateDBError) (y : A) → cond t (Err d) r ≡ Ok y → (t ≡ false) × (r ≡ Ok y)
rest_ok true r d y e = absurd cc
rest_ok false r d y e = (refl, e)

byte_takes : (bytes : List ℕ) (at b next : ℕ) → byte_field bytes at ≡ Ok (b, next) → Stands bytes at (b ∷ []) next
unfolding byte_field
byte_takes bytes at b next e = by (slice_get bytes at) refl e
  where
    by : (o : Option ℕ) → slice_get bytes at ≡ o → byte_at at o ≡ Ok (b, next) → Stands bytes at (b ∷ []) next
    by None is g = absurd cc
    by (Some x) is g =
        let lt : at < length bytes = slice_get_within bytes at x is in
        let byte : get_or bytes at 0 ≡ x = get_or_from_slice_get bytes at x 0 is in
        let parts : drop at bytes ≡ x ∷ drop (at + 1) bytes = at_drop_more (λ (l : List ℕ). l) bytes at 0 lt ∙ ap (λ (y : ℕ). y ∷ drop (at + 1) bytes) byte in
        let here : Stands bytes at (x ∷ []) (at + 1) = record { parts = parts; place = refl } in
        subst (λ (p : ℕ × ℕ). Stands bytes at (p.0 ∷ []) p.1) (ok_is (x, at + 1) (b, next) g) here

record VersionTakes (version : ℕ) (bytes : List ℕ) (next : ℕ) : Type 0 where
  pub here : Stands bytes 0 (be16 version) next
  pub fits : version < 2 ^ 16

version_takes : (version : ℕ) (bytes : List ℕ) (v next : ℕ) → IsBytes bytes → version_field version bytes ≡ Ok (v, next) → VersionTakes version bytes next
unfolding version_field
version_takes version bytes v next fits h =
    let a = bind_ok (number_field w16 bytes 0) (λ stored. cond (eqb stored.0 version) (Ok stored) (Err (CorruptTable 0))) (v, next) h in
    let t = number_takes w16 (2 ^ 16) wide16 bytes 0 a.0.0 a.0.1 fits a.1 in
    let g = test_ok (eqb a.0.0 version) (Ok a.0) (CorruptTable 0) (v, next) a.2 in
    let same : a.0.0 ≡ version = eqb-true a.0.0 version g.0 in
    let place : a.0.1 ≡ next = ap (λ (p : ℕ × ℕ). p.1) (ok_is a.0 (v, next) g.1) in
    record { here = subst (λ (k : ℕ). Stands bytes 0 (be16 version) k) place (subst (λ (k : ℕ). Stands bytes 0 (be16 k) a.0.1) same t.0); fits = omega (arith, same, t.1) }

record TextTakes (bytes : List ℕ) (at : ℕ) (key : List ℕ) (next : ℕ) : Type 0 where
  pub here : Stands bytes at (be16 (length key) ++ key) next
  pub fits : length key < 2 ^ 16

text_takes : (bytes : List ℕ) (at : ℕ) (key : List ℕ) (next : ℕ) → IsBytes bytes → key_text bytes at ≡ Ok (key, next) → TextTakes bytes at key next
unfolding key_text
text_takes bytes at key next fits h =
    let a = bind_ok (number_field w16 bytes at) (λ n. block_field n.0 bytes n.1 >>= λ k. Ok (slice_range bytes k.0 k.1, k.1)) (key, next) h in
    let b = bind_ok (block_field a.0.0 bytes a.0.1) (λ k. Ok (slice_range bytes k.0 k.1, k.1)) (key, next) a.2 in
    let t0 = number_takes w16 (2 ^ 16) wide16 bytes at a.0.0 a.0.1 fits a.1 in
    let t1 = block_takes bytes a.0.0 a.0.1 b.0.0 b.0.1 b.1 in
    let text = slice_range bytes b.0.0 b.0.1 in
    let here = then bytes at (be16 a.0.0) a.0.1 text b.0.1 t0.0 t1.0 in
    let sized = subst (λ (k : ℕ). Stands bytes at (be16 k ++ text) b.0.1) (sym t1.1) here in
    let made : List ℕ × ℕ = (text, b.0.1) in
    subst (λ (p : List ℕ × ℕ). TextTakes bytes at p.0 p.1) (ok_is made (key, next) b.2) (record { here = sized; fits = omega (arith, t0.1, t1.1) })

record KeyTakes (bytes : List ℕ) (at : ℕ) (key : Option (List ℕ)) (next : ℕ) : Type 0 where
  pub here : Stands bytes at (key_bytes key) next
  pub fits : FitsShort key

abbrev some_key : List ℕ → ℕ → Field (Option (List ℕ))
some_key bytes at = key_text bytes at >>= λ key. Ok (Some key.0, key.1)

key_cases : (bytes : List ℕ) (at tag next : ℕ) (found : Option (List ℕ) × ℕ) (s t : Bool) → IsBytes bytes → Stands bytes at (tag ∷ []) next → eqb tag 0 ≡ s → eqb tag 1 ≡ t →
    cond s (Ok (None, next)) (cond t (some_key bytes next) (Err (CorruptTable at))) ≡ Ok found → KeyTakes bytes at found.0 found.1
key_cases bytes at tag next found true t fits here none some h =
    let made : Option (List ℕ) × ℕ = (None, next) in
    let first : Stands bytes at (0 ∷ []) next = subst (λ (b : ℕ). Stands bytes at (b ∷ []) next) (eqb-true tag 0 none) here in
    subst (λ (p : Option (List ℕ) × ℕ). KeyTakes bytes at p.0 p.1) (ok_is made found h) (record { here = first; fits = tt })
key_cases bytes at tag next found false true fits here none some h =
    let a = bind_ok (key_text bytes next) (λ key. Ok (Some key.0, key.1)) found h in
    let t = text_takes bytes next a.0.0 a.0.1 fits a.1 in
    let first : Stands bytes at (1 ∷ []) next = subst (λ (b : ℕ). Stands bytes at (b ∷ []) next) (eqb-true tag 1 some) here in
    let whole : Stands bytes at (key_bytes (Some a.0.0)) a.0.1 = then bytes at (1 ∷ []) next (be16 (length a.0.0) ++ a.0.0) a.0.1 first t.here in
    let made : Option (List ℕ) × ℕ = (Some a.0.0, a.0.1) in
    subst (λ (p : Option (List ℕ) × ℕ). KeyTakes bytes at p.0 p.1) (ok_is made found a.2) (record { here = whole; fits = t.fits })
key_cases bytes at tag next found false false fits here none some h = absurd cc

key_takes : (bytes : List ℕ) (at : ℕ) (key : Option (List ℕ)) (next : ℕ) → IsBytes bytes → key_field bytes at ≡ Ok (key, next) → KeyTakes bytes at key next
unfolding key_field
key_takes bytes at key next fits h =
    let a = bind_ok (byte_field bytes at) (λ there. cond (eqb there.0 0) (Ok (None, there.1)) (cond (eqb there.0 1) (some_key bytes there.1) (Err (CorruptTable at)))) (key, next) h in
    key_cases bytes at a.0.0 a.0.1 (key, next) (eqb a.0.0 0) (eqb a.0.0 1) fits (byte_takes bytes at a.0.0 a.0.1 a.1) refl refl a.2

record PlaceTakes (end : ℕ) (bytes : List ℕ) (at : ℕ) (p : ℕ × ℕ) (next : ℕ) : Type 0 where
  pub here : Stands bytes at (place_bytes (section_place p.0 p.1)) next
  pub fits : FitsPlace (section_place p.0 p.1)
  pub before : LiesBefore end (section_place p.0 p.1)

place_takes : (end : ℕ) (bytes : List ℕ) (at : ℕ) (p : ℕ × ℕ) (next : ℕ) → IsBytes bytes → place_field end bytes at ≡ Ok (p, next) → PlaceTakes end bytes at p next
unfolding place_field
place_takes end bytes at p next fits h =
    let size_of : ℕ × ℕ → Field (ℕ × ℕ) = λ offset. number_field w64 bytes offset.1 >>= λ size. cond (ltb (end - offset.0) size.0) (Err (CorruptTable offset.1)) (Ok ((offset.0, size.0), size.1)) in
    let a = bind_ok (number_field w64 bytes at) (λ offset. cond (ltb end offset.0) (Err (CorruptTable at)) (size_of offset)) (p, next) h in
    let g = rest_ok (ltb end a.0.0) (size_of a.0) (CorruptTable at) (p, next) a.2 in
    let b = bind_ok (number_field w64 bytes a.0.1) (λ size. cond (ltb (end - a.0.0) size.0) (Err (CorruptTable a.0.1)) (Ok ((a.0.0, size.0), size.1))) (p, next) g.1 in
    let made : (ℕ × ℕ) × ℕ = ((a.0.0, b.0.0), b.0.1) in
    let k = guard_ok (ltb (end - a.0.0) b.0.0) (CorruptTable a.0.1) made (p, next) b.2 in
    let t0 = number_takes w64 (2 ^ 64) wide64 bytes at a.0.0 a.0.1 fits a.1 in
    let t1 = number_takes w64 (2 ^ 64) wide64 bytes a.0.1 b.0.0 b.0.1 fits b.1 in
    let here = then bytes at (be64 a.0.0) a.0.1 (be64 b.0.0) b.0.1 t0.0 t1.0 in
    subst (λ (q : (ℕ × ℕ) × ℕ). PlaceTakes end bytes at q.0 q.1) k.1
    (record { here = here; fits = (t0.1, t1.1); before = omega (arith, ltb-false end a.0.0 g.0, ltb-false (end - a.0.0) b.0.0 k.0) })

pub drop_all : (bytes : List ℕ) (n : ℕ) → length bytes ≤ n → drop n bytes ≡ []
drop_all bytes n le = nil_from_length (drop n bytes) (omega (arith, length-drop n bytes))

ending_takes : (bytes : List ℕ) (at : ℕ) → ending bytes at ≡ Ok tt → drop at bytes ≡ 0 ∷ 1 ∷ []
unfolding ending
ending_takes bytes at h =
    let last : ℕ → ℕ → Result (Unit {0}) SlateDBError = λ codec end. cond (ltb end (length bytes)) (Err (CorruptTable end)) (cond (eqb codec 0) (Ok tt) (Err (UnsupportedCompression codec))) in
    let a = bind_ok (byte_field bytes at) (λ codec. byte_field bytes codec.1 >>= λ format. cond (eqb format.0 1) (last codec.0 format.1) (Err (CorruptTable codec.1))) tt h in
    let b = bind_ok (byte_field bytes a.0.1) (λ format. cond (eqb format.0 1) (last a.0.0 format.1) (Err (CorruptTable a.0.1))) tt a.2 in
    let f = test_ok (eqb b.0.0 1) (last a.0.0 b.0.1) (CorruptTable a.0.1) tt b.2 in
    let e = rest_ok (ltb b.0.1 (length bytes)) (cond (eqb a.0.0 0) (Ok tt) (Err (UnsupportedCompression a.0.0))) (CorruptTable b.0.1) tt f.1 in
    let c = test_ok (eqb a.0.0 0) (Ok tt) (UnsupportedCompression a.0.0) tt e.1 in
    let whole = then bytes at (a.0.0 ∷ []) a.0.1 (b.0.0 ∷ []) b.0.1 (byte_takes bytes at a.0.0 a.0.1 a.1) (byte_takes bytes a.0.1 b.0.0 b.0.1 b.1) in
    whole.parts ∙ ap (λ (l : List ℕ). a.0.0 ∷ b.0.0 ∷ l) (drop_all bytes b.0.1 (ltb-false b.0.1 (length bytes) e.0))
    ∙ (λ i. eqb-true a.0.0 0 c.0 i ∷ eqb-true b.0.0 1 f.0 i ∷ [])

abbrev made_info : Option (List ℕ) → Option (List ℕ) → ℕ × ℕ → ℕ × ℕ → ℕ × ℕ → Info
made_info first last index filters stats = record { first = first; last = last; index = section_place index.0 index.1; filters = section_place filters.0 filters.1; stats = section_place stats.0 stats.1 }

-- what follows each field of an info
abbrev end_step : List ℕ → Option (List ℕ) → Option (List ℕ) → ℕ × ℕ → ℕ × ℕ → (ℕ × ℕ) × ℕ → Result Info SlateDBError
end_step bytes first last index filters z = ending bytes z.1 >>= λ e. Ok (made_info first last index filters z.0)

abbrev stats_step : ℕ → List ℕ → Option (List ℕ) → Option (List ℕ) → ℕ × ℕ → (ℕ × ℕ) × ℕ → Result Info SlateDBError
stats_step end bytes first last index y = place_field end bytes y.1 >>= end_step bytes first last index y.0

abbrev filters_step : ℕ → List ℕ → Option (List ℕ) → Option (List ℕ) → (ℕ × ℕ) × ℕ → Result Info SlateDBError
filters_step end bytes first last x = place_field end bytes x.1 >>= stats_step end bytes first last x.0

abbrev places_step : ℕ → List ℕ → Option (List ℕ) → Option (List ℕ) × ℕ → Result Info SlateDBError
places_step end bytes first l = place_field end bytes l.1 >>= filters_step end bytes first l.0

abbrev last_step : ℕ → List ℕ → Option (List ℕ) × ℕ → Result Info SlateDBError
last_step end bytes f = key_field bytes f.1 >>= places_step end bytes f.0

abbrev first_step : ℕ → List ℕ → ℕ × ℕ → Result Info SlateDBError
first_step end bytes v = key_field bytes v.1 >>= last_step end bytes

info_steps : (version end : ℕ) (bytes : List ℕ) → info_in version end bytes ≡ (version_field version bytes >>= first_step end bytes)
unfolding info_in info_from
info_steps version end bytes = refl

pub record InfoTakes (version end : ℕ) (bytes : List ℕ) (i : Info) : Type 0 where
  pub is : IsInfo version bytes i
  pub before : SectionsLieBefore end i

pub info_reads : (version end : ℕ) (bytes : List ℕ) (i : Info) → IsBytes bytes → info_in version end bytes ≡ Ok i → InfoTakes version end bytes i
info_reads version end bytes i fits h =
    let v = bind_ok (version_field version bytes) (first_step end bytes) i (sym (info_steps version end bytes) ∙ h) in
    let f = bind_ok (key_field bytes v.0.1) (last_step end bytes) i v.2 in
    let l = bind_ok (key_field bytes f.0.1) (places_step end bytes f.0.0) i f.2 in
    let x = bind_ok (place_field end bytes l.0.1) (filters_step end bytes f.0.0 l.0.0) i l.2 in
    let y = bind_ok (place_field end bytes x.0.1) (stats_step end bytes f.0.0 l.0.0 x.0.0) i x.2 in
    let z = bind_ok (place_field end bytes y.0.1) (end_step bytes f.0.0 l.0.0 x.0.0 y.0.0) i y.2 in
    let e = bind_ok (ending bytes z.0.1) (λ e. Ok (made_info f.0.0 l.0.0 x.0.0 y.0.0 z.0.0)) i z.2 in
    let tv = version_takes version bytes v.0.0 v.0.1 fits v.1 in
    let tf = key_takes bytes v.0.1 f.0.0 f.0.1 fits f.1 in
    let tl = key_takes bytes f.0.1 l.0.0 l.0.1 fits l.1 in
    let tx = place_takes end bytes l.0.1 x.0.0 x.0.1 fits x.1 in
    let ty = place_takes end bytes x.0.1 y.0.0 y.0.1 fits y.1 in
    let tz = place_takes end bytes y.0.1 z.0.0 z.0.1 fits z.1 in
    let made = made_info f.0.0 l.0.0 x.0.0 y.0.0 z.0.0 in
    let two = then bytes 0 _ v.0.1 _ f.0.1 tv.here tf.here in
    let three = then bytes 0 _ f.0.1 _ l.0.1 two tl.here in
    let four = then bytes 0 _ l.0.1 _ x.0.1 three tx.here in
    let five = then bytes 0 _ x.0.1 _ y.0.1 four ty.here in
    let six = then bytes 0 _ y.0.1 _ z.0.1 five tz.here in
    let front = be16 version ++ key_bytes f.0.0 ++ key_bytes l.0.0 ++ place_bytes made.index ++ place_bytes made.filters ++ place_bytes made.stats in
    let text : bytes ≡ info_bytes version made.first made.last made.index made.filters made.stats = six.parts ∙ ap (λ (t : List ℕ). front ++ t) (ending_takes bytes z.0.1 e.1) in
    subst (λ (j : Info). InfoTakes version end bytes j) (ok_is made i e.2) (record {
      is = record { known = tv.fits; first = tf.fits; last = tl.fits; index = tx.fits; filters = ty.fits; stats = tz.fits; is = text };
      before = (tx.before, ty.before, tz.before);
    })

-- ---- what is spelled is read

byte_again : (bytes : List ℕ) (at b : ℕ) (rest : List ℕ) → drop at bytes ≡ b ∷ rest → byte_field bytes at ≡ Ok (b, at + 1)
unfolding byte_field
byte_again bytes at b rest h = ap (byte_at at) (front_byte bytes at b rest h)

version_again : (version : ℕ) (bytes rest : List ℕ) → version < 2 ^ 16 → bytes ≡ be16 version ++ rest → version_field version bytes ≡ Ok (version, 2)
unfolding version_field
version_again version bytes rest lt h =
    let same : eqb version version ≡ true = eq-eqb version version refl in
    rw (number_again w16 (2 ^ 16) wide16 bytes rest 0 version lt h, same) refl

text_again : (bytes key rest : List ℕ) (at : ℕ) → length key < 2 ^ 16 → drop at bytes ≡ be16 (length key) ++ (key ++ rest) → key_text bytes at ≡ Ok (key, at + 2 + length key)
unfolding key_text
text_again bytes key rest at lt h =
    let tail : drop (at + 2) bytes ≡ key ++ rest = behind bytes (be16 (length key)) (key ++ rest) at h in
    rw (number_again w16 (2 ^ 16) wide16 bytes (key ++ rest) at (length key) lt h, block_again bytes key rest (at + 2) (length key) refl tail, block_text bytes key rest (at + 2) tail) refl

key_again : (bytes rest : List ℕ) (at : ℕ) (key : Option (List ℕ)) → FitsShort key → drop at bytes ≡ key_bytes key ++ rest → key_field bytes at ≡ Ok (key, at + length (key_bytes key))
unfolding key_field
key_again bytes rest at None fits h = rw (byte_again bytes at 0 rest h) refl
key_again bytes rest at (Some key) fits h =
    let parts : drop at bytes ≡ (1 ∷ []) ++ (be16 (length key) ++ (key ++ rest)) = h ∙ append_assoc (1 ∷ be16 (length key)) key rest in
    let tail : drop (at + 1) bytes ≡ be16 (length key) ++ (key ++ rest) = behind bytes (1 ∷ []) (be16 (length key) ++ (key ++ rest)) at parts in
    let place : at + 1 + 2 + length key ≡ at + length (key_bytes (Some key)) = omega arith in
    rw (byte_again bytes at 1 (be16 (length key) ++ (key ++ rest)) parts, text_again bytes key rest (at + 1) fits tail) (ap (λ (k : ℕ). Ok (Some key, k)) place)

place_again : (end : ℕ) (bytes rest : List ℕ) (at : ℕ) (p : Place) → FitsPlace p → LiesBefore end p → drop at bytes ≡ place_bytes p ++ rest → place_field end bytes at ≡ Ok ((p.at, p.len), at + 16)
unfolding place_field
place_again end bytes rest at p fits before h =
    let parts : drop at bytes ≡ be64 p.at ++ (be64 p.len ++ rest) = h ∙ append_assoc (be64 p.at) (be64 p.len) rest in
    let tail : drop (at + 8) bytes ≡ be64 p.len ++ rest = behind bytes (be64 p.at) (be64 p.len ++ rest) at parts in
    let begins : ltb end p.at ≡ false = le-ltb end p.at (omega (arith, before)) in
    let ends : ltb (end - p.at) p.len ≡ false = le-ltb (end - p.at) p.len (omega (arith, before)) in
    let place : at + 8 + 8 ≡ at + 16 = omega arith in
    rw (number_again w64 (2 ^ 64) wide64 bytes (be64 p.len ++ rest) at p.at fits.0 parts, begins, number_again w64 (2 ^ 64) wide64 bytes rest (at + 8) p.len fits.1 tail, ends)
    (ap (λ (k : ℕ). Ok ((p.at, p.len), k)) place)

ending_again : (bytes : List ℕ) (at : ℕ) → drop at bytes ≡ 0 ∷ 1 ∷ [] → ending bytes at ≡ Ok tt
unfolding ending
ending_again bytes at h =
    let tail : drop (at + 1) bytes ≡ 1 ∷ [] = behind bytes (0 ∷ []) (1 ∷ []) at h in
    let size : 2 ≡ length bytes - at = sym (ap length h) ∙ length-drop at bytes in
    let whole : ltb (at + 1 + 1) (length bytes) ≡ false = le-ltb (at + 1 + 1) (length bytes) (omega (arith, size)) in
    rw (byte_again bytes at 0 (1 ∷ []) h, byte_again bytes (at + 1) 1 [] tail, whole) refl

pub info_again : (version end : ℕ) (bytes : List ℕ) (i : Info) → InfoTakes version end bytes i → info_in version end bytes ≡ Ok i
info_again version end bytes i t =
    let v = be16 version in
    let f = key_bytes i.first in
    let l = key_bytes i.last in
    let x = place_bytes i.index in
    let y = place_bytes i.filters in
    let z = place_bytes i.stats in
    let e : List ℕ = 0 ∷ 1 ∷ [] in
    let p0 : bytes ≡ v ++ (f ++ (l ++ (x ++ (y ++ (z ++ e))))) =
    t.is.is ∙ append_assoc (v ++ f ++ l ++ x ++ y) z e ∙ append_assoc (v ++ f ++ l ++ x) y (z ++ e) ∙ append_assoc (v ++ f ++ l) x (y ++ (z ++ e))
    ∙ append_assoc (v ++ f) l (x ++ (y ++ (z ++ e))) ∙ append_assoc v f (l ++ (x ++ (y ++ (z ++ e)))) in
    let a1 = 2 + length f in
    let a2 = a1 + length l in
    let p1 : drop 2 bytes ≡ f ++ (l ++ (x ++ (y ++ (z ++ e)))) = behind bytes v (f ++ (l ++ (x ++ (y ++ (z ++ e))))) 0 p0 in
    let p2 : drop a1 bytes ≡ l ++ (x ++ (y ++ (z ++ e))) = behind bytes f (l ++ (x ++ (y ++ (z ++ e)))) 2 p1 in
    let p3 : drop a2 bytes ≡ x ++ (y ++ (z ++ e)) = behind bytes l (x ++ (y ++ (z ++ e))) a1 p2 in
    let p4 : drop (a2 + 16) bytes ≡ y ++ (z ++ e) = behind bytes x (y ++ (z ++ e)) a2 p3 in
    let p5 : drop (a2 + 16 + 16) bytes ≡ z ++ e = behind bytes y (z ++ e) (a2 + 16) p4 in
    let p6 : drop (a2 + 16 + 16 + 16) bytes ≡ e = behind bytes z e (a2 + 16 + 16) p5 in
    let index : ℕ × ℕ = (i.index.at, i.index.len) in
    let filters : ℕ × ℕ = (i.filters.at, i.filters.len) in
    let stats : ℕ × ℕ = (i.stats.at, i.stats.len) in
    info_steps version end bytes
    ∙ bind_again (version_field version bytes) (version, 2) (first_step end bytes) (version_again version bytes (f ++ (l ++ (x ++ (y ++ (z ++ e))))) t.is.known p0)
    ∙ bind_again (key_field bytes 2) (i.first, a1) (last_step end bytes) (key_again bytes (l ++ (x ++ (y ++ (z ++ e)))) 2 i.first t.is.first p1)
    ∙ bind_again (key_field bytes a1) (i.last, a2) (places_step end bytes i.first) (key_again bytes (x ++ (y ++ (z ++ e))) a1 i.last t.is.last p2)
    ∙ bind_again (place_field end bytes a2) (index, a2 + 16) (filters_step end bytes i.first i.last) (place_again end bytes (y ++ (z ++ e)) a2 i.index t.is.index t.before.0 p3)
    ∙ bind_again (place_field end bytes (a2 + 16)) (filters, a2 + 16 + 16) (stats_step end bytes i.first i.last index) (place_again end bytes (z ++ e) (a2 + 16) i.filters t.is.filters t.before.1 p4)
    ∙ bind_again (place_field end bytes (a2 + 16 + 16)) (stats, a2 + 16 + 16 + 16) (end_step bytes i.first i.last index filters) (place_again end bytes e (a2 + 16 + 16) i.stats t.is.stats t.before.2 p5)
    ∙ bind_again (ending bytes (a2 + 16 + 16 + 16)) tt (λ (u : Unit {0}). Ok i) (ending_again bytes (a2 + 16 + 16 + 16) p6)

pub refused_info : (version end : ℕ) (i : Info) (bytes : List ℕ) (d m : SlateDBError) → (d ≡ m) ⊎ (info_in version end bytes ≡ Err d) → IsInfo version bytes i → SectionsLieBefore end i → d ≡ m
refused_info version end i bytes d m (inl h) is before = h
refused_info version end i bytes d m (inr h) is before =
    let read : info_in version end bytes ≡ Ok i = info_again version end bytes i (record { is = is; before = before }) in
    let clash : Ok i ≡ Err d = sym read ∙ h in absurd cc
