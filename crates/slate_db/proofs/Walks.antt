-- The key alone as a range, and what a walk over blocks, one after another, finds of a key.
use Rattle.std.proofs.Common.{◌≡◌, ℕ, true, false, ◌&&◌, List, [], ◌∷◌, ◌++◌, sym, ap, ◌∙◌, append-nil, append_assoc}
use Rattle.std.specs.Ordering.{is_lt, is_le}
use Rattle.std.specs.List.{AllByRecursion}
use Rattle.std.specs.Prelude.{flat_map}
use Rattle.std.specs.declared.ops.Bound.TheVariants.{Included}
use Rattle.std.proofs.lemmas.Cmp.{nat_list_cmp_total, tied_itself}
use Rattle.std.proofs.lemmas.Grind.{flat_map-append}
use Rattle.slate_types.specs.declared.iter.IterationOrder.TheVariants.{Ascending}
use Rattle.slate_types.specs.Iteration.{IsInOrder}
use Rattle.slate_types.specs.Keys.{key_le, is_refused, in_range}
use Rattle.slate_block.specs.declared.block.Block.{Block}
use Rattle.slate_block.specs.BlockSpelling.{IsBlockOf}
use Rattle.slate_mem.specs.Table.{newest}
use Rattle.slate_table.specs.Finding.{AreBlocksOf}
use Rattle.slate_mem.specs.Lookup.{is_decided}
use Rattle.slate_db.specs.Model.{Rows}
use Rattle.slate_mem.proofs.LayerLaws.{stays, goes_on}

pub not_past_itself : (k : List ℕ) → is_refused (Included k) (Included k) ≡ false
not_past_itself k = ap is_lt (tied_itself nat_list_cmp_total k)

pub point_holds : (k : List ℕ) → in_range (record { start = Included k; end = Included k }) k ≡ true
point_holds k = let e : key_le k k ≡ true = ap is_le (tied_itself nat_list_cmp_total k) in (λ i. e i && e i)

-- ---- blocks, one after another

pub record Walked (version : ℕ) (left : List Block) (lists : List Rows) (k : List ℕ) (n : ℕ) (found : Rows) : Type 0 where
  pub before : List Rows
  pub rest : List Rows
  pub split : lists ≡ before ++ rest
  pub are : AreBlocksOf version left rest
  pub order : AllByRecursion (IsInOrder Ascending) rest
  pub is_newest : found ≡ newest k n (flat_map (λ rows. rows) before)

pub record Next (version : ℕ) (block : Block) (left : List Block) (lists : List Rows) (k : List ℕ) (n : ℕ) (found : Rows) : Type 0 where
  pub before : List Rows
  pub rows : Rows
  pub rest : List Rows
  pub split : lists ≡ before ++ (rows ∷ rest)
  pub is : IsBlockOf block.body block.offsets.items version rows
  pub rising : IsInOrder Ascending rows
  pub are : AreBlocksOf version left rest
  pub order : AllByRecursion (IsInOrder Ascending) rest
  pub is_newest : found ≡ newest k n (flat_map (λ rows. rows) before)

pub walk_next : (version : ℕ) (block : Block) (left : List Block) (lists : List Rows) (k : List ℕ) (n : ℕ) (found : Rows) → Walked version (block ∷ left) lists k n found → Next version block left lists k n found
walk_next version block left lists k n found w = by w.rest w.split w.are w.order
  where
    by : (rest : List Rows) → lists ≡ w.before ++ rest → AreBlocksOf version (block ∷ left) rest → AllByRecursion (IsInOrder Ascending) rest → Next version block left lists k n found
    by [] split are order = absurd are
    by (rows ∷ rest) split are order = record { before = w.before; rows = rows; rest = rest; split = split; is = are.0; rising = order.0; are = are.1; order = order.1; is_newest = w.is_newest }

one_more : (before : List Rows) (rows : Rows) → flat_map (λ rows. rows) (before ++ (rows ∷ [])) ≡ flat_map (λ rows. rows) before ++ rows
one_more before rows = flat_map-append (λ rows. rows) before (rows ∷ []) ∙ ap (λ ys. flat_map (λ rows. rows) before ++ ys) (append-nil rows)

pub walk_goes_on : (version : ℕ) (block : Block) (left : List Block) (lists : List Rows) (k : List ℕ) (n : ℕ) (found more all : Rows) → (x : Next version block left lists k n found) → is_decided found ≡ false → more ≡ newest k n x.rows → all ≡ found ++ more →
    Walked version left lists k n all
walk_goes_on version block left lists k n found more all x d m is = record {
  before = x.before ++ (x.rows ∷ []);
  rest = x.rest;
  split = x.split ∙ sym (append_assoc x.before (x.rows ∷ []) x.rest);
  are = x.are;
  order = x.order;
  is_newest = is ∙ ap (λ ys. found ++ ys) m ∙ goes_on k n (flat_map (λ rows. rows) x.before) x.rows found x.is_newest d ∙ ap (newest k n) (sym (one_more x.before x.rows));
}

pub walk_ends : (version : ℕ) (lists : List Rows) (k : List ℕ) (n : ℕ) (found : Rows) → Walked version [] lists k n found → found ≡ newest k n (flat_map (λ rows. rows) lists)
walk_ends version lists k n found w = by w.rest w.split w.are
  where
    by : (rest : List Rows) → lists ≡ w.before ++ rest → AreBlocksOf version [] rest → found ≡ newest k n (flat_map (λ rows. rows) lists)
    by [] split are = w.is_newest ∙ ap (λ ls. newest k n (flat_map (λ rows. rows) ls)) (sym (split ∙ append-nil w.before))
    by (rows ∷ rest) split are = absurd are

pub walk_decides : (version : ℕ) (left : List Block) (lists : List Rows) (k : List ℕ) (n : ℕ) (found : Rows) → Walked version left lists k n found → is_decided found ≡ true → found ≡ newest k n (flat_map (λ rows. rows) lists)
walk_decides version left lists k n found w d =
    stays k n (flat_map (λ rows. rows) w.before) (flat_map (λ rows. rows) w.rest) found w.is_newest d
    ∙ ap (newest k n) (sym (ap (flat_map (λ rows. rows)) w.split ∙ flat_map-append (λ rows. rows) w.before w.rest))
