-- The laws of rows.
use Rattle.std.proofs.Common.{◌≡◌, ℕ, ◌+◌, ◌*◌, ◌/◌, ◌%◌, ◌<◌, ◌^◌, Bool, ◌==◌, List, [], ◌∷◌, ◌++◌, length, Option, Some, None, is_some, ℤ, pos, negsuc, refl, sym, ap, ◌∙◌, append_assoc, arith}
use Rattle.std.specs.Prelude.{FitsSigned}
use Rattle.std.specs.Int.{w64, cast_unsigned, cast_signed}
use Rattle.std.proofs.lemmas.Int.{to_z-of_z, ints}
use Rattle.std.proofs.lemmas.Bool.{false≢true}
use Rattle.slate_types.specs.declared.types.ValueDeletable.{ValueDeletable}
use Rattle.slate_types.specs.declared.types.ValueDeletable.TheVariants.{Value, Merge, Tombstone}
use Rattle.slate_types.specs.Rows.{bytes_of}
use Rattle.slate_block.specs.declared.row.SstRowEntry.{SstRowEntry}
use Rattle.slate_block.specs.declared.row.SstRowEntryV2.{SstRowEntryV2}
use Rattle.slate_block.specs.Varint.{varint}
use Rattle.slate_block.specs.RowSpelling.{be64, flags, kind_bits, stamp_bytes, meta_bytes, v1_value, v1_bytes, v2_bytes, FitsStamp, FitsV1, FitsV2, IsRowV1, IsRowV2, as_read_v1}
use Rattle.slate_block.proofs.Pieces.{same_head, same_tail, same_pieces, same_whole, same_be16, same_be32, same_be64}
use Rattle.slate_block.proofs.VarintLaws.{same_varint}
use Rattle.slate_block.proofs.FieldLaws.{stamp_below}

-- ---- stamps

same_stamp : (a b : ℤ) (x y : List ℕ) → FitsSigned w64 a → FitsSigned w64 b → be64 (cast_unsigned w64 a) ++ x ≡ be64 (cast_unsigned w64 b) ++ y → (a ≡ b) × (x ≡ y)
same_stamp a b x y f g h =
    let both = same_be64 (cast_unsigned w64 a) (cast_unsigned w64 b) x y (stamp_below a f) (stamp_below b g) h in
    (sym (to_z-of_z w64 a f) ∙ ap (cast_signed w64) both.0 ∙ to_z-of_z w64 b g, both.1)

same_stamps : (a b : Option ℤ) (x y : List ℕ) → FitsStamp a → FitsStamp b → is_some a ≡ is_some b → stamp_bytes a ++ x ≡ stamp_bytes b ++ y → (a ≡ b) × (x ≡ y)
same_stamps None None x y f g k h = (refl, h)
same_stamps None (Some b) x y f g k h = absurd (false≢true k)
same_stamps (Some a) None x y f g k h = absurd (false≢true (sym k))
same_stamps (Some a) (Some b) x y f g k h =
    let both = same_stamp a b x y f g h in
    ((λ i. Some (both.0 i)), both.1)

-- ---- flags

has_create : ℕ → Bool
has_create n = n / 4 % 2 == 1

has_expire : ℕ → Bool
has_expire n = n / 2 % 2 == 1

kind : ℕ → ℕ
kind n = n % 2 + 8 * (n / 8)

flags_create : (v : ValueDeletable) (e c : Option ℤ) → has_create (flags v e c) ≡ is_some c
unfolding has_create
flags_create (Value v) None None = refl
flags_create (Value v) None (Some y) = refl
flags_create (Value v) (Some x) None = refl
flags_create (Value v) (Some x) (Some y) = refl
flags_create (Merge v) None None = refl
flags_create (Merge v) None (Some y) = refl
flags_create (Merge v) (Some x) None = refl
flags_create (Merge v) (Some x) (Some y) = refl
flags_create Tombstone None None = refl
flags_create Tombstone None (Some y) = refl
flags_create Tombstone (Some x) None = refl
flags_create Tombstone (Some x) (Some y) = refl

flags_expire : (v : ValueDeletable) (e c : Option ℤ) → has_expire (flags v e c) ≡ is_some e
unfolding has_expire
flags_expire (Value v) None None = refl
flags_expire (Value v) None (Some y) = refl
flags_expire (Value v) (Some x) None = refl
flags_expire (Value v) (Some x) (Some y) = refl
flags_expire (Merge v) None None = refl
flags_expire (Merge v) None (Some y) = refl
flags_expire (Merge v) (Some x) None = refl
flags_expire (Merge v) (Some x) (Some y) = refl
flags_expire Tombstone None None = refl
flags_expire Tombstone None (Some y) = refl
flags_expire Tombstone (Some x) None = refl
flags_expire Tombstone (Some x) (Some y) = refl

flags_kind : (v : ValueDeletable) (e c : Option ℤ) → kind (flags v e c) ≡ kind_bits v
unfolding kind
flags_kind (Value v) None None = refl
flags_kind (Value v) None (Some y) = refl
flags_kind (Value v) (Some x) None = refl
flags_kind (Value v) (Some x) (Some y) = refl
flags_kind (Merge v) None None = refl
flags_kind (Merge v) None (Some y) = refl
flags_kind (Merge v) (Some x) None = refl
flags_kind (Merge v) (Some x) (Some y) = refl
flags_kind Tombstone None None = refl
flags_kind Tombstone None (Some y) = refl
flags_kind Tombstone (Some x) None = refl
flags_kind Tombstone (Some x) (Some y) = refl

-- ---- the sequence, the flags and the stamps

-- what follows the key in version 1, and the value in version 2
record SameMeta (s t : ℕ) (v w : ValueDeletable) (e f c d : Option ℤ) (x y : List ℕ) : Type 0 where
  pub seq : s ≡ t
  pub kinds : kind_bits v ≡ kind_bits w
  pub expire : e ≡ f
  pub create : c ≡ d
  pub rest : x ≡ y

same_meta : (s t : ℕ) (v w : ValueDeletable) (e f c d : Option ℤ) (x y : List ℕ) → s < 2 ^ 64 → t < 2 ^ 64 → FitsStamp e → FitsStamp f → FitsStamp c → FitsStamp d →
    meta_bytes s v e c ++ x ≡ meta_bytes t w f d ++ y → SameMeta s t v w e f c d x y
same_meta s t v w e f c d x y p q fe ff fc fd h =
    let first = same_be64 s t (flags v e c ∷ (stamp_bytes e ++ stamp_bytes c) ++ x) (flags w f d ∷ (stamp_bytes f ++ stamp_bytes d) ++ y) p q h in
    let flag : flags v e c ≡ flags w f d = same_head (flags v e c) (flags w f d) ((stamp_bytes e ++ stamp_bytes c) ++ x) ((stamp_bytes f ++ stamp_bytes d) ++ y) first.1 in
    let behind : (stamp_bytes e ++ stamp_bytes c) ++ x ≡ (stamp_bytes f ++ stamp_bytes d) ++ y = same_tail (flags v e c) (flags w f d) ((stamp_bytes e ++ stamp_bytes c) ++ x) ((stamp_bytes f ++ stamp_bytes d) ++ y) first.1 in
    let apart = sym (append_assoc (stamp_bytes e) (stamp_bytes c) x) ∙ behind ∙ append_assoc (stamp_bytes f) (stamp_bytes d) y in
    let expires = same_stamps e f (stamp_bytes c ++ x) (stamp_bytes d ++ y) fe ff (sym (flags_expire v e c) ∙ ap has_expire flag ∙ flags_expire w f d) apart in
    let creates = same_stamps c d x y fc fd (sym (flags_create v e c) ∙ ap has_create flag ∙ flags_create w f d) expires.1 in
    record {
      seq = first.0;
      kinds = sym (flags_kind v e c) ∙ ap kind flag ∙ flags_kind w f d;
      expire = expires.0;
      create = creates.0;
      rest = creates.1;
    }

-- ---- values

same_value_v1 : (v w : ValueDeletable) (x y : List ℕ) → length (bytes_of v) < 2 ^ 32 → length (bytes_of w) < 2 ^ 32 → kind_bits v ≡ kind_bits w → v1_value v ++ x ≡ v1_value w ++ y → (v ≡ w) × (x ≡ y)
same_value_v1 (Value a) (Value b) x y p q k h =
    let first = same_be32 (length a) (length b) (a ++ x) (b ++ y) p q h in
    let both = same_pieces a b x y first.0 first.1 in
    ((λ i. Value (both.0 i)), both.1)
same_value_v1 (Merge a) (Merge b) x y p q k h =
    let first = same_be32 (length a) (length b) (a ++ x) (b ++ y) p q h in
    let both = same_pieces a b x y first.0 first.1 in
    ((λ i. Merge (both.0 i)), both.1)
same_value_v1 Tombstone Tombstone x y p q k h = (refl, h)
same_value_v1 (Value a) (Merge b) x y p q k h = absurd (omega (arith, k))
same_value_v1 (Value a) Tombstone x y p q k h = absurd (omega (arith, k))
same_value_v1 (Merge a) (Value b) x y p q k h = absurd (omega (arith, k))
same_value_v1 (Merge a) Tombstone x y p q k h = absurd (omega (arith, k))
same_value_v1 Tombstone (Value b) x y p q k h = absurd (omega (arith, k))
same_value_v1 Tombstone (Merge b) x y p q k h = absurd (omega (arith, k))

same_value : (v w : ValueDeletable) → kind_bits v ≡ kind_bits w → bytes_of v ≡ bytes_of w → v ≡ w
same_value (Value a) (Value b) k h = λ i. Value (h i)
same_value (Merge a) (Merge b) k h = λ i. Merge (h i)
same_value Tombstone Tombstone k h = refl
same_value (Value a) (Merge b) k h = absurd (omega (arith, k))
same_value (Value a) Tombstone k h = absurd (omega (arith, k))
same_value (Merge a) (Value b) k h = absurd (omega (arith, k))
same_value (Merge a) Tombstone k h = absurd (omega (arith, k))
same_value Tombstone (Value b) k h = absurd (omega (arith, k))
same_value Tombstone (Merge b) k h = absurd (omega (arith, k))

-- ---- version 1

v1_apart : (e : SstRowEntry) (x : List ℕ) → List ℕ
v1_apart e x = e.key_suffix ++ (meta_bytes e.seq e.value e.expire_ts e.create_ts ++ (v1_value e.value ++ x))

v1_apart_is : (e : SstRowEntry) (x : List ℕ) → ((e.key_suffix ++ meta_bytes e.seq e.value e.expire_ts e.create_ts) ++ v1_value e.value) ++ x ≡ v1_apart e x
unfolding v1_apart
v1_apart_is e x = append_assoc (e.key_suffix ++ meta_bytes e.seq e.value e.expire_ts e.create_ts) (v1_value e.value) x
    ∙ append_assoc e.key_suffix (meta_bytes e.seq e.value e.expire_ts e.create_ts) (v1_value e.value ++ x)

pub same_row_v1 : (e f : SstRowEntry) (x y : List ℕ) → FitsV1 e → FitsV1 f → v1_bytes e ++ x ≡ v1_bytes f ++ y → (e ≡ f) × (x ≡ y)
unfolding v1_apart
same_row_v1 e f x y p q h =
    let shared = same_be16 e.key_prefix_len f.key_prefix_len _ _ p.0 q.0 h in
    let lengths = same_be16 (length e.key_suffix) (length f.key_suffix) _ _ p.1 q.1 shared.1 in
    let behind : v1_apart e x ≡ v1_apart f y = sym (v1_apart_is e x) ∙ lengths.1 ∙ v1_apart_is f y in
    let suffix = same_pieces e.key_suffix f.key_suffix _ _ lengths.0 behind in
    let meta = same_meta e.seq f.seq e.value f.value e.expire_ts f.expire_ts e.create_ts f.create_ts _ _ p.3 q.3 p.4 q.4 p.5 q.5 suffix.1 in
    let value = same_value_v1 e.value f.value x y p.2 q.2 meta.kinds meta.rest in
    ((λ i. record { key_prefix_len = shared.0 i; key_suffix = suffix.0 i; seq = meta.seq i; expire_ts = meta.expire i; create_ts = meta.create i; value = value.0 i }), value.1)

pub one_row_v1 : (bytes : List ℕ) (e f : SstRowEntry) → IsRowV1 bytes e → IsRowV1 bytes f → e ≡ f
one_row_v1 bytes e f s t =
    let same = same_row_v1 s.0 t.0 [] [] s.1 t.1 (same_whole (v1_bytes s.0) (v1_bytes t.0) (sym s.2 ∙ t.2)) in
    s.3 ∙ ap as_read_v1 same.0 ∙ sym t.3

-- ---- version 2

v2_apart : (e : SstRowEntryV2) (x : List ℕ) → List ℕ
v2_apart e x = varint e.shared_bytes ++ (varint (length e.key_suffix) ++ (varint (length (bytes_of e.value)) ++ (e.key_suffix ++ (bytes_of e.value ++ (meta_bytes e.seq e.value e.expire_ts e.create_ts ++ x)))))

all_apart : (a b c d e f x : List ℕ) → (((((a ++ b) ++ c) ++ d) ++ e) ++ f) ++ x ≡ a ++ (b ++ (c ++ (d ++ (e ++ (f ++ x)))))
all_apart a b c d e f x = append_assoc ((((a ++ b) ++ c) ++ d) ++ e) f x ∙ append_assoc (((a ++ b) ++ c) ++ d) e (f ++ x)
    ∙ append_assoc ((a ++ b) ++ c) d (e ++ (f ++ x)) ∙ append_assoc (a ++ b) c (d ++ (e ++ (f ++ x))) ∙ append_assoc a b (c ++ (d ++ (e ++ (f ++ x))))

v2_apart_is : (e : SstRowEntryV2) (x : List ℕ) → v2_bytes e ++ x ≡ v2_apart e x
unfolding v2_apart
v2_apart_is e x = all_apart (varint e.shared_bytes) (varint (length e.key_suffix)) (varint (length (bytes_of e.value))) e.key_suffix (bytes_of e.value) (meta_bytes e.seq e.value e.expire_ts e.create_ts) x

pub same_row_v2 : (e f : SstRowEntryV2) (x y : List ℕ) → FitsV2 e → FitsV2 f → v2_bytes e ++ x ≡ v2_bytes f ++ y → (e ≡ f) × (x ≡ y)
unfolding v2_apart
same_row_v2 e f x y p q h =
    let whole : v2_apart e x ≡ v2_apart f y = sym (v2_apart_is e x) ∙ h ∙ v2_apart_is f y in
    let shared = same_varint e.shared_bytes f.shared_bytes _ _ p.0 q.0 whole in
    let lengths = same_varint (length e.key_suffix) (length f.key_suffix) _ _ p.1 q.1 shared.1 in
    let values = same_varint (length (bytes_of e.value)) (length (bytes_of f.value)) _ _ p.2 q.2 lengths.1 in
    let suffix = same_pieces e.key_suffix f.key_suffix _ _ lengths.0 values.1 in
    let bytes = same_pieces (bytes_of e.value) (bytes_of f.value) _ _ values.0 suffix.1 in
    let meta = same_meta e.seq f.seq e.value f.value e.expire_ts f.expire_ts e.create_ts f.create_ts x y p.3 q.3 p.4 q.4 p.5 q.5 bytes.1 in
    let value = same_value e.value f.value meta.kinds bytes.0 in
    ((λ i. record { shared_bytes = shared.0 i; key_suffix = suffix.0 i; seq = meta.seq i; expire_ts = meta.expire i; create_ts = meta.create i; value = value i }), meta.rest)

pub one_row_v2 : (bytes : List ℕ) (e f : SstRowEntryV2) → IsRowV2 bytes e → IsRowV2 bytes f → e ≡ f
one_row_v2 bytes e f s t =
    let same = same_row_v2 e f [] [] s.0 t.0 (same_whole (v2_bytes e) (v2_bytes f) (sym s.1 ∙ t.1)) in same.0
