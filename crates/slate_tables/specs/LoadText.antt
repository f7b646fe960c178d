-- The text of a script that loads rows.
--     now_line r, write_line r, load_script rows      the lines of a row, and of rows
--     count_moved rows      how many rows end before they were made
--     greatest_of rows      the greatest sequence, or 0
--     capped n      a number, or the greatest of 64 bits
--     first_line, last_line rows      two comments. The last one says how many rows there are, so
--                                     that a script that was cut is seen, how many of them end
--                                     before they were made, and their greatest sequence
--     script_of rows      the whole script
--     CanSpell r      keys and values are bytes, and moments and the time to live have 64 bits
--     ScriptSpells      such a script means the lines that load the rows
use Rattle.std.specs.Prelude.{◌≡◌, ℕ, ◌-◌, ◌^◌, ◌<◌, min, max, false, Bool, IsTrue}
use Rattle.std.specs.Prelude.{List, [], ◌∷◌, ◌++◌, count_by, length, codes, decimal}
use Rattle.std.specs.Prelude.{Option, Some, None, IfSome, ℤ, ◌-ℤ◌, nat_abs, int_lt}
use Rattle.std.specs.Fmt.{signed_decimal}
use Rattle.std.specs.List.{AllByRecursion, join_with_byte}
use Rattle.slate_types.specs.declared.config.Ttl.{Ttl}
use Rattle.slate_types.specs.declared.config.Ttl.TheVariants.{Default, NoExpiry, ExpireAfter}
use Rattle.slate_types.specs.declared.types.RowEntry.{RowEntry}
use Rattle.slate_types.specs.declared.types.ValueDeletable.{ValueDeletable}
use Rattle.slate_types.specs.declared.types.ValueDeletable.TheVariants as values
use Rattle.slate_types.specs.Keys.{AreBytes}
use Rattle.slate_types.specs.Rows.{operand}
use Rattle.slate_store.specs.Lines.{lines_of}
use Rattle.slate_language.specs.Grammar.{is_moment}
use Rattle.slate_language.specs.Replies.{meanings}
use Rattle.slate_language.specs.Text.{shown_bytes}
use Rattle.slate_tables.specs.Loading.{created, load_lines, moment, time_to_live}

abbrev pub ttl_words : Ttl → List (List ℕ)
ttl_words Default = []
ttl_words NoExpiry = codes "t-" ∷ []
ttl_words (ExpireAfter n) = (codes "t" ++ decimal n) ∷ []

abbrev pub op_words : List ℕ → Ttl → ValueDeletable → List (List ℕ)
op_words k ttl (values.Value v) = codes "put" ∷ shown_bytes k ∷ shown_bytes v ∷ ttl_words ttl
op_words k ttl (values.Merge v) = codes "merge" ∷ shown_bytes k ∷ shown_bytes v ∷ ttl_words ttl
op_words k ttl values.Tombstone = codes "delete" ∷ shown_bytes k ∷ []

abbrev pub now_line : RowEntry → List ℕ
now_line r = join_with_byte 32 (codes "now" ∷ signed_decimal (moment r) ∷ [])

abbrev pub write_line : RowEntry → List ℕ
write_line r =
    join_with_byte 32 (codes "write" ∷ op_words r.key (time_to_live (moment r) r.expire_ts) r.value)

abbrev pub load_script : List RowEntry → List ℕ
load_script [] = []
load_script (r ∷ rows) = now_line r ++ (10 ∷ (write_line r ++ (10 ∷ load_script rows)))

abbrev pub is_before : Option ℤ → ℤ → Bool
is_before None now = false
is_before (Some end) now = int_lt end now

abbrev pub ends_before_made : RowEntry → Bool
ends_before_made r = is_before r.expire_ts (created r)

abbrev pub count_moved : List RowEntry → ℕ
count_moved rows = count_by ends_before_made rows

abbrev pub greatest_of : List RowEntry → ℕ
greatest_of [] = 0
greatest_of (r ∷ rows) = max r.seq (greatest_of rows)

abbrev pub first_line : List ℕ
first_line = codes "# for a new store"

-- numbers of 64 bits
abbrev pub last_words : ℕ → ℕ → ℕ → List ℕ
last_words rows moved greatest =
    codes "# whole: rows " ++ (decimal rows ++ (codes " moved " ++ (decimal moved
    ++ (codes " seq=" ++ decimal greatest))))

abbrev pub capped : ℕ → ℕ
capped n = min n (2 ^ 64 - 1)

abbrev pub last_line : List RowEntry → List ℕ
last_line rows =
    last_words (capped (length rows)) (capped (count_moved rows)) (capped (greatest_of rows))

abbrev pub script_of : List RowEntry → List ℕ
script_of rows = first_line ++ (10 ∷ (load_script rows ++ (last_line rows ++ (10 ∷ []))))

pub record CanSpell (r : RowEntry) : Type 0 where
  pub key : AreBytes r.key
  pub value : AreBytes (operand r)
  pub now : IsTrue (is_moment (moment r))
  pub ttl : IfSome r.expire_ts (λ end. nat_abs (end -ℤ moment r) < 2 ^ 64)

abbrev pub ScriptSpells : Type 0
ScriptSpells = (rows : List RowEntry) → AllByRecursion CanSpell rows →
    meanings (lines_of (script_of rows)) ≡ load_lines rows
