-- A line is read as the code reads its tokens.
use Rattle.std.proofs.Common.{◌≡◌, ℕ, ◌<◌, Bool, true, false, cond, ◌==◌, ◌⊎◌, inl, inr, List, [], ◌∷◌, length, Option, Some, None, option_map, codes, bytes_eq, refl, sym, ap, subst, ◌∙◌, arith}
use Rattle.std.specs.List.{slice_split, onto_first, AllByRecursion}
use Rattle.slate_txn.specs.declared.line.Line.{Line}
use Rattle.slate_txn.specs.declared.line.Line.TheVariants as lines
use Rattle.slate_language.specs.declared.parse.Keyword.{Keyword}
use Rattle.slate_language.specs.declared.parse.Keyword.TheVariants.{Begin, Snapshot, Get, Scan, Prefix, Put, Merge, Delete, Mark, Unmark, Commit, Rollback, Now, Write, Freeze, Flush, Journal}
use Rattle.slate_language.specs.Grammar.{Spells}
use Rattle.slate_language.specs.Parse.{both, ◌>>=◌, parse, split_by, tokens_of, read_bytes, read_level, read_moment, read_name, read_order, read_pair, read_way, ops_of_groups}
use Rattle.slate_language.specs.Built.{keyword_among, keywords, keyword, built_ops, built_as, built_tokens}
use Rattle.slate_language.proofs.ParseLaws.{moment_read, name_read, bytes_read, level_read, order_read, pair_read, way_read, named_read, keyed_read, many_read, behind_name, ops_read, line_read}
use Rattle.slate_language.proofs.ParseOnly.{Some_is, map_some, bind_some, both_some, cond_either, same_bytes, moment_only, name_only, bytes_only, level_only, order_only, way_only, name_line, keyed_line, many_line, put_line, ops_only, tokens_only}
use Rattle.slate_types.proofs.Plain.{none_some}

-- ---- tokens are what a slice is split into

split_by_some : (b : ℕ) (ts : List (List ℕ)) → 0 < length (split_by 32 b ts)
split_by_some b [] = omega arith
split_by_some b (t ∷ ts) = by (b == 32)
  where
    by : (c : Bool) → 0 < length (cond c ([] ∷ t ∷ ts) ((b ∷ t) ∷ ts))
    by true = omega arith
    by false = omega arith

pub tokens_some : (bytes : List ℕ) → 0 < length (tokens_of bytes)
tokens_some [] = omega arith
tokens_some (b ∷ bs) = split_by_some b (tokens_of bs)

pub split_by_is : (b : ℕ) (ts : List (List ℕ)) → 0 < length ts → cond (b == 32) ([] ∷ ts) (onto_first b ts) ≡ split_by 32 b ts
split_by_is b [] h = absurd (omega (arith, h))
split_by_is b (t ∷ ts) h = refl

pub slice_split_tokens : (bytes : List ℕ) → slice_split (λ b. b == 32) bytes ≡ tokens_of bytes
slice_split_tokens [] = refl
slice_split_tokens (b ∷ bs) =
    ap (λ ts. cond (b == 32) ([] ∷ ts) (onto_first b ts)) (slice_split_tokens bs) ∙ split_by_is b (tokens_of bs) (tokens_some bs)

-- ---- what is built is spelled

abbrev keyword_text : Keyword → List ℕ
keyword_text Begin = codes "begin"
keyword_text Snapshot = codes "snapshot"
keyword_text Get = codes "get"
keyword_text Scan = codes "scan"
keyword_text Prefix = codes "prefix"
keyword_text Put = codes "put"
keyword_text Merge = codes "merge"
keyword_text Delete = codes "delete"
keyword_text Mark = codes "mark"
keyword_text Unmark = codes "unmark"
keyword_text Commit = codes "commit"
keyword_text Rollback = codes "rollback"
keyword_text Now = codes "now"
keyword_text Write = codes "write"
keyword_text Freeze = codes "freeze"
keyword_text Flush = codes "flush"
keyword_text Journal = codes "journal"

among_only : (t : List ℕ) (ps : List (List ℕ × Keyword)) (w : Keyword) → AllByRecursion (λ p. p.0 ≡ keyword_text p.1) ps → keyword_among ps t ≡ Some w → t ≡ keyword_text w
among_only t [] w h e = none_some w e
among_only t (p ∷ ps) w h e = by (cond_either (bytes_eq t p.0) (Some p.1) (keyword_among ps t) (Some w) e) (among_only t ps w h.1)
  where
    by : ((bytes_eq t p.0 ≡ true) × (Some p.1 ≡ Some w)) ⊎ ((bytes_eq t p.0 ≡ false) × (keyword_among ps t ≡ Some w)) → (keyword_among ps t ≡ Some w → t ≡ keyword_text w) → t ≡ keyword_text w
    by (inl k) later = same_bytes t p.0 k.0 ∙ h.0 ∙ ap keyword_text (Some_is p.1 w k.1)
    by (inr k) later = later k.1

keyword_only : (t : List ℕ) (w : Keyword) → keyword t ≡ Some w → t ≡ keyword_text w
keyword_only t w e = among_only t keywords w (refl, (refl, (refl, (refl, (refl, (refl, (refl, (refl, (refl, (refl, (refl, (refl, (refl, (refl, (refl, (refl, (refl, tt))))))))))))))))) e

as_only : (w : Keyword) (ts : List (List ℕ)) (line : Line) → built_as w ts ≡ Some line → Spells (keyword_text w ∷ ts) line
as_only Now [] line e = none_some line e
as_only Now (t ∷ []) line e =
    let inner = map_some lines.Now (read_moment t) line e in
    subst (Spells (codes "now" ∷ t ∷ [])) inner.2 (t, moment_only t inner.0 inner.1, refl)
as_only Now (t ∷ u ∷ us) line e = none_some line e
as_only Begin [] line e = none_some line e
as_only Begin (n ∷ []) line e = none_some line e
as_only Begin (n ∷ t ∷ []) line e =
    let parts = both_some lines.Begin (read_name n) (read_level t) line e in
    let name = name_only n parts.0 parts.2 in
    subst (Spells (codes "begin" ∷ n ∷ t ∷ [])) parts.4
    (name.0, λ i. codes "begin" ∷ name.1 i ∷ level_only t parts.1 parts.3 i ∷ [])
as_only Begin (n ∷ t ∷ u ∷ us) line e = none_some line e
as_only Snapshot us line e =
    let p = name_line lines.Snapshot us line e in
    subst (Spells (codes "snapshot" ∷ us)) p.3 (p.1, ap (λ ts. codes "snapshot" ∷ ts) p.2)
as_only Get us line e =
    let p = keyed_line lines.Get us line e in
    subst (Spells (codes "get" ∷ us)) p.6 (p.2, p.3, p.4, ap (λ ts. codes "get" ∷ ts) p.5)
as_only Scan [] line e = none_some line e
as_only Scan (n ∷ []) line e = none_some line e
as_only Scan (n ∷ t ∷ us) line e =
    let outer = bind_some (read_name n) (λ name. read_order t >>= λ order. read_way (lines.Scan name order) us) line e in
    let name = name_only n outer.0 outer.1 in
    let inner = bind_some (read_order t) (λ order. read_way (lines.Scan outer.0 order) us) line outer.2 in
    let way = way_only (lines.Scan outer.0 inner.0) us line inner.2 in
    subst (Spells (codes "scan" ∷ n ∷ t ∷ us)) way.4 (us, name.0, way.3, λ i. codes "scan" ∷ name.1 i ∷ order_only t inner.0 inner.1 i ∷ us)
as_only Prefix [] line e = none_some line e
as_only Prefix (n ∷ []) line e = none_some line e
as_only Prefix (n ∷ t ∷ []) line e = none_some line e
as_only Prefix (n ∷ t ∷ k ∷ us) line e =
    let outer = bind_some (read_name n) (λ name. read_order t >>= λ order. read_bytes k >>= λ p. read_way (lines.Prefix name order p) us) line e in
    let name = name_only n outer.0 outer.1 in
    let inner = bind_some (read_order t) (λ order. read_bytes k >>= λ p. read_way (lines.Prefix outer.0 order p) us) line outer.2 in
    let key = bind_some (read_bytes k) (λ p. read_way (lines.Prefix outer.0 inner.0 p) us) line inner.2 in
    let way = way_only (lines.Prefix outer.0 inner.0 key.0) us line key.2 in
    subst (Spells (codes "prefix" ∷ n ∷ t ∷ k ∷ us)) way.4 (k, us, name.0, bytes_only k key.0 key.1, way.3, λ i. codes "prefix" ∷ name.1 i ∷ order_only t inner.0 inner.1 i ∷ k ∷ us)
as_only Put [] line e = none_some line e
as_only Put (n ∷ us) line e =
    let p = put_line lines.Put n us line e in
    subst (Spells (codes "put" ∷ n ∷ us)) p.7 (us, p.4, p.5, ap (λ m. codes "put" ∷ m ∷ us) p.6)
as_only Merge [] line e = none_some line e
as_only Merge (n ∷ us) line e =
    let p = put_line lines.Merge n us line e in
    subst (Spells (codes "merge" ∷ n ∷ us)) p.7 (us, p.4, p.5, ap (λ m. codes "merge" ∷ m ∷ us) p.6)
as_only Delete us line e =
    let p = keyed_line lines.Delete us line e in
    subst (Spells (codes "delete" ∷ us)) p.6 (p.2, p.3, p.4, ap (λ ts. codes "delete" ∷ ts) p.5)
as_only Mark us line e =
    let p = many_line lines.Mark us line e in
    subst (Spells (codes "mark" ∷ us)) p.7 (p.2, p.3, p.4, p.5, ap (λ ts. codes "mark" ∷ ts) p.6)
as_only Unmark us line e =
    let p = many_line lines.Unmark us line e in
    subst (Spells (codes "unmark" ∷ us)) p.7 (p.2, p.3, p.4, p.5, ap (λ ts. codes "unmark" ∷ ts) p.6)
as_only Commit us line e =
    let p = name_line lines.Commit us line e in
    subst (Spells (codes "commit" ∷ us)) p.3 (p.1, ap (λ ts. codes "commit" ∷ ts) p.2)
as_only Rollback us line e =
    let p = name_line lines.Rollback us line e in
    subst (Spells (codes "rollback" ∷ us)) p.3 (p.1, ap (λ ts. codes "rollback" ∷ ts) p.2)
as_only Write ts line e =
    let inner = map_some lines.Write (built_ops ts) line e in
    subst (Spells (codes "write" ∷ ts)) inner.2 (ts, ops_only ts inner.0 inner.1, refl)
as_only Freeze [] line e = subst (Spells (codes "freeze" ∷ [])) (Some_is lines.Freeze line e) refl
as_only Freeze (u ∷ us) line e = none_some line e
as_only Flush [] line e = subst (Spells (codes "flush" ∷ [])) (Some_is lines.Flush line e) refl
as_only Flush (u ∷ us) line e = none_some line e
as_only Journal [] line e = subst (Spells (codes "journal" ∷ [])) (Some_is lines.Journal line e) refl
as_only Journal (u ∷ us) line e = none_some line e

built_only : (ts : List (List ℕ)) (line : Line) → built_tokens ts ≡ Some line → Spells ts line
built_only [] line e = none_some line e
built_only (t ∷ ts) line e =
    let found = bind_some (keyword t) (λ w. built_as w ts) line e in
    subst (λ u. Spells (u ∷ ts) line) (sym (keyword_only t found.0 found.1)) (as_only found.0 ts line found.2)

-- ---- what is spelled is built

built_is : (ts : List (List ℕ)) (line : Line) → Spells ts line → built_tokens ts ≡ Some line
built_is ts (lines.Now m) h =
    let moment = moment_read h.0 m h.1 in
    ap built_tokens h.2 ∙ ap (λ o. option_map lines.Now o) moment.0
built_is ts (lines.Begin name level) h =
    let n = name_read name h.0 in
    let l = level_read level in
    ap built_tokens h.1 ∙ (λ i. both lines.Begin (n.0 i) (l.0 i))
built_is ts (lines.Snapshot name) h = ap built_tokens h.1 ∙ (named_read lines.Snapshot name h.0).0
built_is ts (lines.Get name k) h = ap built_tokens h.3 ∙ (keyed_read lines.Get name h.0 k h.1 h.2).0
built_is ts (lines.Scan name order start end sts) h =
    let n = name_read name h.1 in
    let o = order_read order in
    let way = way_read (lines.Scan name order) h.0 start end sts h.2 in
    ap built_tokens h.3 ∙ (λ i. (n.0 i) >>= λ m. (o.0 i) >>= λ d. read_way (lines.Scan m d) h.0) ∙ way.0
built_is ts (lines.Put name k v ttl) h =
    ap built_tokens h.3
    ∙ (behind_name (λ n us. read_pair (lines.Put n) us) name h.0 (lines.Put name k v ttl) h.1 (pair_read (lines.Put name) h.0 k v ttl h.2)).0
built_is ts (lines.Merge name k v ttl) h =
    ap built_tokens h.3
    ∙ (behind_name (λ n us. read_pair (lines.Merge n) us) name h.0 (lines.Merge name k v ttl) h.1 (pair_read (lines.Merge name) h.0 k v ttl h.2)).0
built_is ts (lines.Delete name k) h = ap built_tokens h.3 ∙ (keyed_read lines.Delete name h.0 k h.1 h.2).0
built_is ts (lines.Mark name ks) h = ap built_tokens h.4 ∙ (many_read lines.Mark name h.0 ks h.1 h.2 h.3).0
built_is ts (lines.Unmark name ks) h = ap built_tokens h.4 ∙ (many_read lines.Unmark name h.0 ks h.1 h.2 h.3).0
built_is ts (lines.Commit name) h = ap built_tokens h.1 ∙ (named_read lines.Commit name h.0).0
built_is ts (lines.Rollback name) h = ap built_tokens h.1 ∙ (named_read lines.Rollback name h.0).0
built_is ts (lines.Write batch) h =
    let read = ops_read h.0 batch h.1 in
    ap built_tokens h.2
    ∙ ap (λ g. option_map lines.Write (ops_of_groups g)) read.1
    ∙ ap (λ o. option_map lines.Write o) read.2
built_is ts lines.Freeze h = ap built_tokens h
built_is ts lines.Flush h = ap built_tokens h
built_is ts lines.Journal h = ap built_tokens h
built_is ts (lines.Prefix name order p start end sts) h =
    let n = name_read name h.2 in
    let o = order_read order in
    let key = bytes_read h.0 p h.3 in
    let way = way_read (lines.Prefix name order p) h.1 start end sts h.4 in
    ap built_tokens h.5 ∙ (λ i. (n.0 i) >>= λ m. (o.0 i) >>= λ d. (key.0 i) >>= λ q. read_way (lines.Prefix m d q) h.1) ∙ way.0

-- ---- the same

same_options : (a b : Option Line) → ((l : Line) → a ≡ Some l → b ≡ Some l) → ((l : Line) → b ≡ Some l → a ≡ Some l) → a ≡ b
same_options None None f g = refl
same_options None (Some y) f g = g y refl
same_options (Some x) b f g = sym (f x refl)

-- A line is read as the code reads its tokens.
pub parse_built : (bytes : List ℕ) → parse bytes ≡ built_tokens (tokens_of bytes)
parse_built bytes =
    let ts = tokens_of bytes in
    same_options (parse bytes) (built_tokens ts) (λ l e. built_is ts l (tokens_only ts l e)) (λ l e. (line_read ts l (built_only ts l e)).0)
