-- Where tables are stored.
--     table_id flush place      the id of a table: the number of its flush and its place in the flush, from 0
--     path_of root id      the path of a table, below the root
--     flush_path root flush place      the path of a flush's table
--     paths_of_flush root flush n      the paths of a flush of n tables, in the order of the tables
-- Flushes with rows are numbered from 1, and one that failed leaves its number to the next. The tables of a flush stand in
-- the order of their segments' prefixes, and in a segment in the order of their keys.
use Rattle.std.specs.Prelude.{ℕ, zero, suc, ◌+◌, ◌*◌, ◌/◌, ◌%◌, ◌^◌, nat_lt, if◌then◌else◌, List, [], ◌∷◌, ◌++◌, codes}

abbrev pub hex_digit : ℕ → ℕ
hex_digit n = if nat_lt n 10 then 48 + n else 87 + n

-- the k lowest digits, the highest first
abbrev pub hex : ℕ → ℕ → List ℕ
hex zero n = []
hex (suc k) n = hex_digit (n / 16 ^ k % 16) ∷ hex k n

abbrev pub path_of : List ℕ → ℕ → List ℕ
path_of root id = root ++ codes "/compacted/" ++ hex 32 id ++ codes ".sst"

abbrev pub table_id : ℕ → ℕ → ℕ
table_id flush place = flush * 2 ^ 64 + place

abbrev pub flush_path : List ℕ → ℕ → ℕ → List ℕ
flush_path root flush place = path_of root (table_id flush place)

abbrev pub paths_from : List ℕ → ℕ → ℕ → ℕ → List (List ℕ)
paths_from root flush place zero = []
paths_from root flush place (suc n) = flush_path root flush place ∷ paths_from root flush (place + 1) n

abbrev pub paths_of_flush : List ℕ → ℕ → ℕ → List (List ℕ)
paths_of_flush root flush n = paths_from root flush 0 n
