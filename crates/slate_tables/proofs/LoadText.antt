-- A script that loads rows means the lines that load them.
use Rattle.std.proofs.Common.{◌≡◌, ℕ, suc, ◌+◌, ◌^◌, ◌<◌, ◌/◌, ◌%◌, Bool, true, false, cond, not, ◌&&◌, ◌==◌, ltb, append-nil, append_assoc, length, List, [], ◌∷◌, ◌++◌, Option, Some, None, ℤ, pos, negsuc, inl, inr, ◌⊎◌, refl, sym, ap, subst, ◌∙◌, arith}
use Rattle.std.proofs.Math.Nat.{mod-lt}
use Rattle.std.specs.Prelude.{IfSome, codes, decimal, IsTrue, nat_abs, ◌-ℤ◌}
use Rattle.std.specs.Fmt.{signed_decimal}
use Rattle.std.specs.List.{AllByRecursion, list_all, join_with_byte}
use Rattle.std.proofs.lemmas.Bool.Decides.{nat_tests}
use Rattle.std.proofs.lemmas.Fmt.{decimal_is_IsNumeral}
use Rattle.std.specs.Str.Parse.{AllDigits}
use Rattle.std.specs.Char.{digit_value}
use Rattle.slate_types.specs.declared.config.Ttl.{Ttl}
use Rattle.slate_types.specs.declared.config.Ttl.TheVariants.{Default, NoExpiry, ExpireAfter}
use Rattle.slate_types.specs.declared.types.RowEntry.{RowEntry}
use Rattle.slate_types.specs.declared.types.ValueDeletable.{ValueDeletable}
use Rattle.slate_types.specs.declared.types.ValueDeletable.TheVariants as values
use Rattle.slate_types.specs.Keys.{AreBytes}
use Rattle.slate_types.specs.Rows.{bytes_of}
use Rattle.slate_mem.specs.Batch.{Ops}
use Rattle.slate_store.specs.Lines.{before_lines, lines_of, prepend_byte}
use Rattle.slate_txn.specs.declared.line.Line.{Line}
use Rattle.slate_txn.specs.declared.line.Line.TheVariants as lines
use Rattle.slate_language.specs.Grammar.{IsLine, IsOp, IsTtl, is_moment}
use Rattle.slate_language.specs.Parse.{parse}
use Rattle.slate_language.specs.Replies.{meanings, onto_meanings}
use Rattle.slate_language.specs.Text.{hex, hex_digit, is_visible, shown_bytes}
use Rattle.slate_language.proofs.ParseLaws.{neg_below, parse_is, pos_below}
use Rattle.slate_language.proofs.SpelledLaws.{shown_spells}
use Rattle.slate_tables.specs.Loading.{load_lines, load_op, moment, time_to_live, value_op}
use Rattle.slate_tables.specs.LoadText.{CanSpell, ScriptSpells, capped, count_moved, first_line, greatest_of, last_line, last_words, load_script, now_line, op_words, script_of, ttl_words, write_line}

-- ---- no line has an end in it

abbrev no_end : ℕ → Bool
no_end b = not (b == 10)

abbrev NoEnd : List ℕ → Type 0
NoEnd bs = list_all no_end bs ≡ true

both : (a b : Bool) → a ≡ true → b ≡ true → (a && b) ≡ true
both a b h k = ap (λ t. t && b) h ∙ k

no_end_both : (xs ys : List ℕ) → NoEnd xs → NoEnd ys → NoEnd (xs ++ ys)
no_end_both [] ys h k = k
no_end_both (x ∷ xs) ys h k = by (no_end x) h (λ later. no_end_both xs ys later k)
  where
    by : (a : Bool) → (a && list_all no_end xs) ≡ true → (list_all no_end xs ≡ true → NoEnd (xs ++ ys)) → (a && list_all no_end (xs ++ ys)) ≡ true
    by true h rest = rest h
    by false h rest = cc

visible_no_end : (b : ℕ) → is_visible b ≡ true → no_end b ≡ true
visible_no_end b h = by (b == 10) refl
  where
    by : (t : Bool) → (b == 10) ≡ t → not t ≡ true
    by true e = let no : is_visible b ≡ false = grind (arith, nat_tests, e) in cc
    by false e = refl

all_visible : (v : List ℕ) → list_all is_visible v ≡ true → NoEnd v
all_visible [] h = refl
all_visible (b ∷ bs) h = by (is_visible b) refl h (λ later. all_visible bs later)
  where
    by : (a : Bool) → is_visible b ≡ a → (a && list_all is_visible bs) ≡ true → (list_all is_visible bs ≡ true → NoEnd bs) → (no_end b && list_all no_end bs) ≡ true
    by true e h rest = both (no_end b) (list_all no_end bs) (visible_no_end b e) (rest h)
    by false e h rest = cc

hex_digit_no_end : (n : ℕ) → n < 16 → no_end (hex_digit n) ≡ true
hex_digit_no_end n h = by (ltb n 10) refl
  where
    by : (t : Bool) → ltb n 10 ≡ t → no_end (cond t (48 + n) (87 + n)) ≡ true
    by true e = grind (arith, nat_tests)
    by false e = grind (arith, nat_tests)

hex_no_end : (v : List ℕ) → AreBytes v → NoEnd (hex v)
hex_no_end [] h = refl
hex_no_end (b ∷ bs) h =
    let byte = h.0 in
    let high : b / 16 < 16 = omega (arith, byte) in
    let low : b % 16 < 16 = mod-lt b (omega arith) in
    both (no_end (hex_digit (b / 16))) (no_end (hex_digit (b % 16)) && list_all no_end (hex bs)) (hex_digit_no_end (b / 16) high) (both (no_end (hex_digit (b % 16))) (list_all no_end (hex bs)) (hex_digit_no_end (b % 16) low) (hex_no_end bs h.1))

shown_no_end : (v : List ℕ) → AreBytes v → NoEnd (shown_bytes v)
shown_no_end v are = by (list_all is_visible v) refl
  where
    by : (t : Bool) → list_all is_visible v ≡ t → NoEnd (cond t (39 ∷ v) (codes "0x" ++ hex v))
    by true e = all_visible v e
    by false e = hex_no_end v are

digit_no_end : (c : ℕ) → digit_value c < 10 → no_end c ≡ true
digit_no_end c h = by (c == 10) refl
  where
    by : (t : Bool) → (c == 10) ≡ t → not t ≡ true
    by true e =
        let is : c ≡ 10 = grind (arith, nat_tests) in
        let P : ℕ → Type 0 = λ n. digit_value n < 10 in
        let small : 36 < 10 = subst P is h in
        absurd (omega (arith, small))
    by false e = refl

digits_no_end : (ds : List ℕ) → AllDigits 10 ds → NoEnd ds
digits_no_end [] h = refl
digits_no_end (d ∷ ds) h = both (no_end d) (list_all no_end ds) (digit_no_end d h.0) (digits_no_end ds h.1)

number_no_end : (n : ℕ) → n < 2 ^ 64 → NoEnd (decimal n)
number_no_end n h = digits_no_end (decimal n) (decimal_is_IsNumeral n h).0.1

signed_no_end : (z : ℤ) → is_moment z ≡ true → NoEnd (signed_decimal z)
signed_no_end (pos n) h = number_no_end n (pos_below n h)
signed_no_end (negsuc n) h = number_no_end (suc n) (neg_below n h)

-- ---- a line of a script

first : (a b : Bool) → (not a && b) ≡ true → (a ≡ false) × (b ≡ true)
first true b h = cc
first false b h = (refl, h)

cut : (line rest : List ℕ) → NoEnd line → lines_of (line ++ (10 ∷ rest)) ≡ line ∷ lines_of rest
cut [] rest h = refl
cut (b ∷ bs) rest h =
    let parts = first (b == 10) (list_all no_end bs) h in
    ap (before_lines b) (cut bs rest parts.1)
    ∙ ap (λ t. cond t ([] ∷ bs ∷ lines_of rest) (prepend_byte b (bs ∷ lines_of rest))) parts.0

-- ---- its words

abbrev FitsTtl : Ttl → Type 0
FitsTtl Default = Unit {0}
FitsTtl NoExpiry = Unit {0}
FitsTtl (ExpireAfter n) = n < 2 ^ 64

fits_ttl : (now : ℤ) (end : Option ℤ) → IfSome end (λ e. nat_abs (e -ℤ now) < 2 ^ 64) → FitsTtl (time_to_live now end)
fits_ttl now None h = tt
fits_ttl now (Some e) h = h

is_ttl : (ttl : Ttl) → FitsTtl ttl → IsTtl (ttl_words ttl) ttl
is_ttl Default h = refl
is_ttl NoExpiry h = refl
is_ttl (ExpireAfter n) h = (decimal n, (h, refl), refl)

is_op : (k : List ℕ) (ttl : Ttl) (v : ValueDeletable) → AreBytes k → AreBytes (bytes_of v) → FitsTtl ttl → IsOp (op_words k ttl v) k (value_op ttl v)
is_op k ttl (values.Value v) a b h = (shown_bytes k ∷ shown_bytes v ∷ ttl_words ttl, (shown_bytes k, shown_bytes v, ttl_words ttl, shown_spells k a, shown_spells v b, is_ttl ttl h, refl), refl)
is_op k ttl (values.Merge v) a b h = (shown_bytes k ∷ shown_bytes v ∷ ttl_words ttl, (shown_bytes k, shown_bytes v, ttl_words ttl, shown_spells k a, shown_spells v b, is_ttl ttl h, refl), refl)
is_op k ttl values.Tombstone a b h = (shown_bytes k, shown_spells k a, refl)

is_write : (k : List ℕ) (ttl : Ttl) (v : ValueDeletable) → AreBytes k → AreBytes (bytes_of v) → FitsTtl ttl →
    IsLine (join_with_byte 32 (codes "write" ∷ op_words k ttl v)) (lines.Write ((k, value_op ttl v) ∷ []))
is_write k ttl v a b h = (codes "write" ∷ op_words k ttl v, (op_words k ttl v, (op_words k ttl v, [], is_op k ttl v a b h, refl, sym (append-nil (op_words k ttl v))), refl), refl)

ttl_no_end : (v : List ℕ) (ttl : Ttl) → NoEnd (shown_bytes v) → FitsTtl ttl → NoEnd (join_with_byte 32 (shown_bytes v ∷ ttl_words ttl))
ttl_no_end v Default h k = h
ttl_no_end v NoExpiry h k = no_end_both (shown_bytes v) (32 ∷ codes "t-") h refl
ttl_no_end v (ExpireAfter n) h k = no_end_both (shown_bytes v) (32 ∷ 116 ∷ decimal n) h (number_no_end n k)

write_no_end : (k : List ℕ) (ttl : Ttl) (v : ValueDeletable) → AreBytes k → AreBytes (bytes_of v) → FitsTtl ttl → NoEnd (join_with_byte 32 (codes "write" ∷ op_words k ttl v))
write_no_end k ttl (values.Value v) a b h = no_end_both (shown_bytes k) (32 ∷ join_with_byte 32 (shown_bytes v ∷ ttl_words ttl)) (shown_no_end k a) (ttl_no_end v ttl (shown_no_end v b) h)
write_no_end k ttl (values.Merge v) a b h = no_end_both (shown_bytes k) (32 ∷ join_with_byte 32 (shown_bytes v ∷ ttl_words ttl)) (shown_no_end k a) (ttl_no_end v ttl (shown_no_end v b) h)
write_no_end k ttl values.Tombstone a b h = shown_no_end k a

onto_line : (line : Line) (o : Option Line) (rest : List Line) → o ≡ Some line → onto_meanings false o rest ≡ line ∷ rest
onto_line line o rest e = ap (λ p. onto_meanings false p rest) e

write_means : (k : List ℕ) (ttl : Ttl) (v : ValueDeletable) (rest : List (List ℕ)) → AreBytes k → AreBytes (bytes_of v) → FitsTtl ttl →
    meanings (join_with_byte 32 (codes "write" ∷ op_words k ttl v) ∷ rest) ≡ lines.Write ((k, value_op ttl v) ∷ []) ∷ meanings rest
write_means k ttl (values.Value v) rest a b h = onto_line (lines.Write ((k, value_op ttl (values.Value v)) ∷ [])) _ (meanings rest) (parse_is _ _ (is_write k ttl (values.Value v) a b h))
write_means k ttl (values.Merge v) rest a b h = onto_line (lines.Write ((k, value_op ttl (values.Merge v)) ∷ [])) _ (meanings rest) (parse_is _ _ (is_write k ttl (values.Merge v) a b h))
write_means k ttl values.Tombstone rest a b h = onto_line (lines.Write ((k, value_op ttl values.Tombstone) ∷ [])) _ (meanings rest) (parse_is _ _ (is_write k ttl values.Tombstone a b h))

now_means : (r : RowEntry) (rest : List (List ℕ)) → is_moment (moment r) ≡ true → meanings (now_line r ∷ rest) ≡ lines.Now (moment r) ∷ meanings rest
now_means r rest h = onto_line (lines.Now (moment r)) (parse (now_line r)) (meanings rest) (parse_is (now_line r) (lines.Now (moment r)) (codes "now" ∷ signed_decimal (moment r) ∷ [], (signed_decimal (moment r), (h, refl), refl), refl))

-- ---- the script

rows_spell : (rows : List RowEntry) (rest : List ℕ) → AllByRecursion CanSpell rows → meanings (lines_of rest) ≡ [] → meanings (lines_of (load_script rows ++ rest)) ≡ load_lines rows
rows_spell [] rest h silent = silent
rows_spell (r ∷ rows) rest h silent =
    let can = h.0 in
    let ttl : Ttl = time_to_live (moment r) r.expire_ts in
    let fits : FitsTtl ttl = fits_ttl (moment r) r.expire_ts can.ttl in
    let more : List ℕ = load_script rows ++ rest in
    ap (λ (bytes : List ℕ). meanings (lines_of bytes)) (append_assoc (now_line r) (10 ∷ (write_line r ++ (10 ∷ load_script rows))) rest ∙ ap (λ (l : List ℕ). now_line r ++ (10 ∷ l)) (append_assoc (write_line r) (10 ∷ load_script rows) rest))
    ∙ ap meanings (cut (now_line r) (write_line r ++ (10 ∷ more)) (signed_no_end (moment r) can.now)
    ∙ ap (λ ls. now_line r ∷ ls) (cut (write_line r) more (write_no_end r.key ttl r.value can.key can.value fits)))
    ∙ now_means r (write_line r ∷ lines_of more) can.now
    ∙ ap (λ (ls : List Line). lines.Now (moment r) ∷ ls) (write_means r.key ttl r.value (lines_of more) can.key can.value fits
    ∙ ap (λ (ls : List Line). lines.Write ((r.key, load_op r) ∷ []) ∷ ls) (rows_spell rows rest h.1 silent))

-- ---- its comments

words_no_end : (rows moved greatest : ℕ) → rows < 2 ^ 64 → moved < 2 ^ 64 → greatest < 2 ^ 64 → NoEnd (last_words rows moved greatest)
words_no_end rows moved greatest a b c =
    no_end_both (codes "# whole: rows ") (decimal rows ++ (codes " moved " ++ (decimal moved ++ (codes " seq=" ++ decimal greatest)))) refl
    (no_end_both (decimal rows) (codes " moved " ++ (decimal moved ++ (codes " seq=" ++ decimal greatest))) (number_no_end rows a)
    (no_end_both (codes " moved ") (decimal moved ++ (codes " seq=" ++ decimal greatest)) refl
    (no_end_both (decimal moved) (codes " seq=" ++ decimal greatest) (number_no_end moved b)
    (no_end_both (codes " seq=") (decimal greatest) refl (number_no_end greatest c)))))

capped_fits : (n : ℕ) → capped n < 2 ^ 64
capped_fits n = grind (arith, nat_tests)

last_no_end : (rows : List RowEntry) → NoEnd (last_line rows)
last_no_end rows = words_no_end (capped (length rows)) (capped (count_moved rows)) (capped (greatest_of rows)) (capped_fits (length rows)) (capped_fits (count_moved rows)) (capped_fits (greatest_of rows))

last_silent : (rows : List RowEntry) → meanings (lines_of (last_line rows ++ (10 ∷ []))) ≡ []
last_silent rows = ap meanings (cut (last_line rows) [] (last_no_end rows))

pub script_spells : ScriptSpells
script_spells rows h =
    ap meanings (cut first_line (load_script rows ++ (last_line rows ++ (10 ∷ []))) refl)
    ∙ rows_spell rows (last_line rows ++ (10 ∷ [])) h (last_silent rows)
