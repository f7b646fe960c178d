-- A loop over the steps of a transcript, and what an order makes of them.
use Rattle.std.proofs.Common.{◌≡◌, ℕ, suc, ◌+◌, ◌/◌, ◌<◌, ◌≤◌, ◌^◌, min, Bool, true, false, List, [], ◌∷◌, ◌++◌, map, length, take, drop, get_or, Option, Some, None, refl, sym, ap, subst, ◌∙◌, arith, add-one, append-nil, append_assoc, length-append}
use Rattle.std.specs.List.{zip}
use Rattle.std.proofs.lemmas.List.{take-append-drop, take_all}
use Rattle.std.proofs.Math.Seq.{drop-cons, take-append_seam, drop-append_seam, take-suc}
use Rattle.std.proofs.lemmas.Slice.Zip.{length-zip, get_or-zip}
use Rattle.slate_types.specs.declared.config.IsolationLevel.TheVariants.{SerializableSnapshot}
use Rattle.slate_mem.specs.BatchModel.{BatchModel, IsBatchOf, plain_put}
use Rattle.slate_mem.specs.Batch.{Ops, kept_ops}
use Rattle.slate_txn.specs.declared.event.TranscriptStep.{TranscriptStep}
use Rattle.slate_txn.specs.declared.event.TranscriptStep.TheVariants as steps
use Rattle.slate_stock.specs.declared.order.Order.{Order}
use Rattle.slate_stock.specs.declared.order.Order.TheVariants.{Issue, Pay, Trade}
use Rattle.slate_stock.specs.Amounts.{Amounts, amount_bytes}
use Rattle.slate_stock.specs.Orders.{order_keys, order_moves}
use Rattle.slate_stock.specs.Commits.{AreReads, amount_put, puts, own_puts, IsOrderBy, IsOrder}
use Rattle.slate_stock.specs.Reading.{put_value, plain_order}
use Rattle.slate_stock.specs.Legs.{IsRead, IsPut, AreSteps, AreLegsOf, IsLeft}
use Rattle.slate_stock.proofs.PutLaws.{AllFit, amount_again}
use Rattle.slate_stock.proofs.OrderLaws.{moves_fit}
use Rattle.slate_stock.proofs.ReadingLaws.{answered_is, all_fit, plain_by}

-- ---- the loop

abbrev pub Step : Type 1
Step = List ℕ → ℕ → TranscriptStep → Type 0

record IsFront (P : Step) (ks : List (List ℕ)) (ns : List ℕ) (t : TranscriptStep) (ts : List TranscriptStep) : Type 0 where
  key : List ℕ
  amount : ℕ
  js : List (List ℕ)
  vs : List ℕ
  keys : ks ≡ key ∷ js
  amounts : ns ≡ amount ∷ vs
  is : P key amount t
  rest : AreSteps P js vs ts

front : (P : Step) (ks : List (List ℕ)) (ns : List ℕ) (t : TranscriptStep) (ts : List TranscriptStep) → AreSteps P ks ns (t ∷ ts) → IsFront P ks ns t ts
front P [] [] t ts h = absurd h
front P [] (n ∷ ns) t ts h = absurd h
front P (k ∷ ks) [] t ts h = absurd h
front P (k ∷ ks) (n ∷ ns) t ts h = record { key = k; amount = n; js = ks; vs = ns; keys = refl; amounts = refl; is = h.0; rest = h.1 }

-- where the loop stands: what it has is of the steps before the rest
pub record IsLegWalk (P : Step) (keys : List (List ℕ)) (amounts : List ℕ) (all rest : List TranscriptStep) : Type 0 where
  pub more : (ks : List (List ℕ)) (ns : List ℕ) → AreSteps P ks ns rest → AreSteps P (keys ++ ks) (amounts ++ ns) all
  pub left : (ks : List (List ℕ)) (ns : List ℕ) → AreSteps P ks ns all → (js : List (List ℕ)) × (vs : List ℕ) × AreSteps P js vs rest

pub walk_begins : (P : Step) (all : List TranscriptStep) → IsLegWalk P [] [] all all
walk_begins P all = record { more = λ ks ns h. h; left = λ ks ns h. (ks, ns, h) }

drop_here : (xs : List TranscriptStep) (i : ℕ) (d x : TranscriptStep) → x ≡ get_or xs i d → i < length xs → drop i xs ≡ x ∷ drop (i + 1) xs
drop_here xs i d x is h = rw is (rw (add-one, drop-cons xs i d))

goes : (P : Step) (keys : List (List ℕ)) (amounts : List ℕ) (all rest : List TranscriptStep) (k : List ℕ) (n : ℕ) (t : TranscriptStep) → P k n t → IsLegWalk P keys amounts all (t ∷ rest) → IsLegWalk P (keys ++ (k ∷ [])) (amounts ++ (n ∷ [])) all rest
goes P keys amounts all rest k n t is w = record {
  more = λ ks ns h.
      subst (λ xs. AreSteps P xs ((amounts ++ (n ∷ [])) ++ ns) all) (sym (append_assoc keys (k ∷ []) ks))
      (subst (λ xs. AreSteps P (keys ++ (k ∷ ks)) xs all) (sym (append_assoc amounts (n ∷ []) ns)) (w.more (k ∷ ks) (n ∷ ns) (is, h)));
  left = λ ks ns h. let l = w.left ks ns h in let f = front P l.0 l.1 t rest l.2 in (f.js, f.vs, f.rest);
}

pub walk_goes : (P : Step) (keys : List (List ℕ)) (amounts : List ℕ) (all : List TranscriptStep) (i : ℕ) (d t : TranscriptStep) (k : List ℕ) (n : ℕ) → i < length all → t ≡ get_or all i d → P k n t → IsLegWalk P keys amounts all (drop i all) →
    IsLegWalk P (keys ++ (k ∷ [])) (amounts ++ (n ∷ [])) all (drop (i + 1) all)
walk_goes P keys amounts all i d t k n within is step w = goes P keys amounts all (drop (i + 1) all) k n t step (subst (IsLegWalk P keys amounts all) (drop_here all i d t is within) w)

pub walk_stops : (P : Step) (keys : List (List ℕ)) (amounts : List ℕ) (all : List TranscriptStep) (i : ℕ) (d t : TranscriptStep) → i < length all → t ≡ get_or all i d → ((k : List ℕ) (n : ℕ) → P k n t → ⊥) → IsLegWalk P keys amounts all (drop i all) →
    (ks : List (List ℕ)) (ns : List ℕ) → AreSteps P ks ns all → ⊥
walk_stops P keys amounts all i d t within is none w ks ns h =
    let l = w.left ks ns h in
    let f = front P l.0 l.1 t (drop (i + 1) all) (subst (AreSteps P l.0 l.1) (drop_here all i d t is within) l.2) in
    none f.key f.amount f.is

pub walk_ends : (P : Step) (keys : List (List ℕ)) (amounts : List ℕ) (all rest : List TranscriptStep) → rest ≡ [] → IsLegWalk P keys amounts all rest → AreSteps P keys amounts all
walk_ends P keys amounts all rest none w =
    subst (λ xs. AreSteps P xs amounts all) (append-nil keys)
    (subst (λ xs. AreSteps P (keys ++ []) xs all) (append-nil amounts) (w.more [] [] (subst (AreSteps P [] []) (sym none) tt)))

-- ---- steps tell their keys and amounts

abbrev Tells : Step → Type 0
Tells P = (k l : List ℕ) (n m : ℕ) (t : TranscriptStep) → P k n t → P l m t → (k ≡ l) × (n ≡ m)

no_steps : (P : Step) (ks : List (List ℕ)) (ns : List ℕ) → AreSteps P ks ns [] → (ks ≡ []) × (ns ≡ [])
no_steps P [] [] h = (refl, refl)
no_steps P [] (n ∷ ns) h = absurd h
no_steps P (k ∷ ks) [] h = absurd h
no_steps P (k ∷ ks) (n ∷ ns) h = absurd h

same_steps : (P : Step) → Tells P → (ks ls : List (List ℕ)) (ns ms : List ℕ) (ts : List TranscriptStep) → AreSteps P ks ns ts → AreSteps P ls ms ts → (ks ≡ ls) × (ns ≡ ms)
same_steps P tells ks ls ns ms [] h g =
    let a = no_steps P ks ns h in
    let b = no_steps P ls ms g in
    (a.0 ∙ sym b.0, a.1 ∙ sym b.1)
same_steps P tells ks ls ns ms (t ∷ ts) h g =
    let a = front P ks ns t ts h in
    let b = front P ls ms t ts g in
    let one = tells a.key b.key a.amount b.amount t a.is b.is in
    let more = same_steps P tells a.js b.js a.vs b.vs ts a.rest b.rest in
    (a.keys ∙ (λ i. one.0 i ∷ more.0 i) ∙ sym b.keys, a.amounts ∙ (λ i. one.1 i ∷ more.1 i) ∙ sym b.amounts)

read_tells : Tells IsRead
read_tells k l n m (steps.Get j a) h g = (sym h.0 ∙ g.0, sym (answered_is n a h.1) ∙ answered_is m a g.1)
read_tells k l n m (steps.Scan o r) h g = absurd h
read_tells k l n m (steps.Next i b) h g = absurd h
read_tells k l n m (steps.Seek i j) h g = absurd h
read_tells k l n m (steps.View r) h g = absurd h
read_tells k l n m (steps.Own j o) h g = absurd h

put_tells : Tells IsPut
put_tells k l n m (steps.Own j op) h g = (sym h.0 ∙ g.0, sym (amount_again n h.2) ∙ ap put_value (sym h.1 ∙ g.1) ∙ amount_again m g.2)
put_tells k l n m (steps.Get j a) h g = absurd h
put_tells k l n m (steps.Scan o r) h g = absurd h
put_tells k l n m (steps.Next i b) h g = absurd h
put_tells k l n m (steps.Seek i j) h g = absurd h
put_tells k l n m (steps.View r) h g = absurd h

-- ---- the steps of an order

are_reads : (m : Amounts) (ks : List (List ℕ)) (ts : List TranscriptStep) → AreReads m ks ts → AreSteps IsRead ks (map m ks) ts
are_reads m [] [] h = tt
are_reads m [] (t ∷ ts) h = absurd h
are_reads m (k ∷ ks) [] h = absurd h
are_reads m (k ∷ ks) (steps.Get j a ∷ ts) h = (h.0, are_reads m ks ts h.1)
are_reads m (k ∷ ks) (steps.Scan o g ∷ ts) h = absurd h.0
are_reads m (k ∷ ks) (steps.Next i b ∷ ts) h = absurd h.0
are_reads m (k ∷ ks) (steps.Seek i j ∷ ts) h = absurd h.0
are_reads m (k ∷ ks) (steps.View g ∷ ts) h = absurd h.0
are_reads m (k ∷ ks) (steps.Own j o ∷ ts) h = absurd h.0

pub reads_again : (m : Amounts) (ks : List (List ℕ)) (ts : List TranscriptStep) → AreSteps IsRead ks (map m ks) ts → AreReads m ks ts
reads_again m [] [] h = tt
reads_again m [] (t ∷ ts) h = absurd h
reads_again m (k ∷ ks) [] h = absurd h
reads_again m (k ∷ ks) (steps.Get j a ∷ ts) h = (h.0, reads_again m ks ts h.1)
reads_again m (k ∷ ks) (steps.Scan o g ∷ ts) h = absurd h.0
reads_again m (k ∷ ks) (steps.Next i b ∷ ts) h = absurd h.0
reads_again m (k ∷ ks) (steps.Seek i j ∷ ts) h = absurd h.0
reads_again m (k ∷ ks) (steps.View g ∷ ts) h = absurd h.0
reads_again m (k ∷ ks) (steps.Own j o ∷ ts) h = absurd h.0

are_puts : (ps : List (List ℕ × ℕ)) → AllFit ps → AreSteps IsPut (map (λ p. p.0) ps) (map (λ p. p.1) ps) (own_puts ps)
are_puts [] h = tt
are_puts (p ∷ ps) h = ((refl, refl, h.0), are_puts ps h.1)

puts_again : (ps : List (List ℕ × ℕ)) (ts : List TranscriptStep) → AreSteps IsPut (map (λ p. p.0) ps) (map (λ p. p.1) ps) ts → ts ≡ own_puts ps
puts_again [] [] h = refl
puts_again [] (t ∷ ts) h = absurd h
puts_again (p ∷ ps) [] h = absurd h
puts_again (p ∷ ps) (steps.Own j op ∷ ts) h = λ i. steps.Own (h.0.0 i) (h.0.1 i) ∷ puts_again ps ts h.1 i
puts_again (p ∷ ps) (steps.Get j a ∷ ts) h = absurd h.0
puts_again (p ∷ ps) (steps.Scan o g ∷ ts) h = absurd h.0
puts_again (p ∷ ps) (steps.Next i b ∷ ts) h = absurd h.0
puts_again (p ∷ ps) (steps.Seek i j ∷ ts) h = absurd h.0
puts_again (p ∷ ps) (steps.View g ∷ ts) h = absurd h.0

pub keys_moved : (m : Amounts) (o : Order) → map (λ p. p.0) (order_moves m o) ≡ order_keys o
keys_moved m (Issue a name n) = refl
keys_moved m (Pay a from to n) = refl
keys_moved m (Trade a buyer seller q p) = refl

pub zip_moves : (m : Amounts) (o : Order) → zip (order_keys o) (map (λ p. p.1) (order_moves m o)) ≡ order_moves m o
zip_moves m (Issue a name n) = refl
zip_moves m (Pay a from to n) = refl
zip_moves m (Trade a buyer seller q p) = refl

-- ---- halves

long_reads : (m : Amounts) (ks : List (List ℕ)) (ts : List TranscriptStep) → AreReads m ks ts → length ts ≡ length ks
long_reads m [] [] h = refl
long_reads m [] (t ∷ ts) h = absurd h
long_reads m (k ∷ ks) [] h = absurd h
long_reads m (k ∷ ks) (t ∷ ts) h = λ i. suc (long_reads m ks ts h.1 i)

long_puts : (m : Amounts) (o : Order) → length (own_puts (order_moves m o)) ≡ length (order_keys o)
long_puts m (Issue a name n) = refl
long_puts m (Pay a from to n) = refl
long_puts m (Trade a buyer seller q p) = refl

half : (xs ys : List TranscriptStep) → length xs ≡ length ys → length (xs ++ ys) / 2 ≡ length xs
half xs ys e = let l : length (xs ++ ys) ≡ length xs + length ys = length-append xs ys in omega arith

first_half : (xs ys ts : List TranscriptStep) → ts ≡ xs ++ ys → length xs ≡ length ys → take (length ts / 2) ts ≡ xs
first_half xs ys ts whole e = ap (λ (zs : List TranscriptStep). take (length zs / 2) zs) whole ∙ ap (λ n. take n (xs ++ ys)) (half xs ys e) ∙ take-append_seam xs ys

second_half : (xs ys ts : List TranscriptStep) → ts ≡ xs ++ ys → length xs ≡ length ys → drop (length ts / 2) ts ≡ ys
second_half xs ys ts whole e = ap (λ (zs : List TranscriptStep). drop (length zs / 2) zs) whole ∙ ap (λ n. drop n (xs ++ ys)) (half xs ys e) ∙ drop-append_seam xs ys

even : (o : Order) (m : Amounts) (ops : Ops) (tracked : List (List ℕ)) (ts : List TranscriptStep) → (h : IsOrderBy o m ops tracked ts) → length h.reads ≡ length (own_puts (order_moves m o))
even o m ops tracked ts h = long_reads m (order_keys o) h.reads h.read ∙ sym (long_puts m o)

pub front_reads : (o : Order) (m : Amounts) (ops : Ops) (tracked : List (List ℕ)) (ts : List TranscriptStep) → IsOrderBy o m ops tracked ts → AreSteps IsRead (order_keys o) (map m (order_keys o)) (take (length ts / 2) ts)
front_reads o m ops tracked ts h =
    subst (AreSteps IsRead (order_keys o) (map m (order_keys o))) (sym (first_half h.reads (own_puts (order_moves m o)) ts h.whole (even o m ops tracked ts h))) (are_reads m (order_keys o) h.reads h.read)

pub back_puts : (o : Order) (m : Amounts) (ops : Ops) (tracked : List (List ℕ)) (ts : List TranscriptStep) → IsOrderBy o m ops tracked ts → AreSteps IsPut (order_keys o) (map (λ p. p.1) (order_moves m o)) (drop (length ts / 2) ts)
back_puts o m ops tracked ts h =
    subst (AreSteps IsPut (order_keys o) (map (λ p. p.1) (order_moves m o))) (sym (second_half h.reads (own_puts (order_moves m o)) ts h.whole (even o m ops tracked ts h)))
    (subst (λ ks. AreSteps IsPut ks (map (λ p. p.1) (order_moves m o)) (own_puts (order_moves m o))) (keys_moved m o)
    (are_puts (order_moves m o) (moves_fit m o (all_fit m (order_keys o) h.reads h.read) h.fits)))

-- ---- a commit that is an order's makes what is read off it, and the other way

pub is_made : (o : Order) (m : Amounts) (ops : Ops) (tracked : List (List ℕ)) (ts : List TranscriptStep) (ks js : List (List ℕ)) (ns vs : List ℕ) → AreSteps IsRead ks ns (take (length ts / 2) ts) → AreSteps IsPut js vs (drop (length ts / 2) ts) →
    IsOrderBy o m ops tracked ts → AreLegsOf o m ks ns js vs
is_made o m ops tracked ts ks js ns vs reads put h =
    let r = same_steps IsRead read_tells ks (order_keys o) ns (map m (order_keys o)) (take (length ts / 2) ts) reads (front_reads o m ops tracked ts h) in
    let p = same_steps IsPut put_tells js (order_keys o) vs (map (λ p. p.1) (order_moves m o)) (drop (length ts / 2) ts) put (back_puts o m ops tracked ts h) in
    record { names = h.names; fits = h.fits; keys = r.0; read = r.1; put_keys = p.0; new = p.1 }

zipped : (o : Order) (m : Amounts) (ks js : List (List ℕ)) (ns vs : List ℕ) → AreLegsOf o m ks ns js vs → zip js vs ≡ order_moves m o
zipped o m ks js ns vs made = (λ i. zip (made.put_keys i) (made.new i)) ∙ zip_moves m o

pub is_left : (o : Order) (m : Amounts) (ops : Ops) (tracked : List (List ℕ)) (ts : List TranscriptStep) (ks js : List (List ℕ)) (ns vs : List ℕ) → AreLegsOf o m ks ns js vs → IsOrderBy o m ops tracked ts → IsLeft js vs ops tracked
is_left o m ops tracked ts ks js ns vs made h = (h.kept ∙ ap (λ ps. kept_ops (puts ps)) (sym (zipped o m ks js ns vs made)), h.keys)

pub order_again : (o : Order) (m : Amounts) (ops : Ops) (tracked : List (List ℕ)) (ts : List TranscriptStep) (ks js : List (List ℕ)) (ns vs : List ℕ) → AreSteps IsRead ks ns (take (length ts / 2) ts) → AreSteps IsPut js vs (drop (length ts / 2) ts) →
    AreLegsOf o m ks ns js vs → IsLeft js vs ops tracked → IsOrderBy o m ops tracked ts
order_again o m ops tracked ts ks js ns vs reads put made left = record {
  names = made.names;
  fits = made.fits;
  reads = take (length ts / 2) ts;
  read = reads_again m (order_keys o) (take (length ts / 2) ts)
      (subst (λ xs. AreSteps IsRead xs (map m (order_keys o)) (take (length ts / 2) ts)) made.keys (subst (λ xs. AreSteps IsRead ks xs (take (length ts / 2) ts)) made.read reads));
  whole = sym (take-append-drop (length ts / 2) ts) ∙ ap (λ xs. take (length ts / 2) ts ++ xs) (puts_again (order_moves m o) (drop (length ts / 2) ts) moved);
  kept = left.0 ∙ ap (λ ps. kept_ops (puts ps)) (zipped o m ks js ns vs made);
  keys = left.1;
}
  where
    moved : AreSteps IsPut (map (λ p. p.0) (order_moves m o)) (map (λ p. p.1) (order_moves m o)) (drop (length ts / 2) ts)
    moved =
        subst (λ xs. AreSteps IsPut xs (map (λ p. p.1) (order_moves m o)) (drop (length ts / 2) ts)) (made.put_keys ∙ sym (keys_moved m o))
        (subst (λ xs. AreSteps IsPut js xs (drop (length ts / 2) ts)) made.new put)

-- ---- the batch of the puts

pub puts_last : (ps : List (List ℕ × ℕ)) (p : List ℕ × ℕ) → puts (ps ++ (p ∷ [])) ≡ puts ps ++ ((p.0, amount_put p.1) ∷ [])
puts_last [] p = refl
puts_last (q ∷ ps) p = λ i. (q.0, amount_put q.1) ∷ puts_last ps p i

pub zip_more : (ks : List (List ℕ)) (vs : List ℕ) (i : ℕ) (k d : List ℕ) (v : ℕ) → i < length ks → i < length vs → k ≡ get_or ks i d → v ≡ get_or vs i 0 → take (i + 1) (zip ks vs) ≡ take i (zip ks vs) ++ ((k, v) ∷ [])
zip_more ks vs i k d v within also key amount =
    let l : i < length (zip ks vs) = omega (arith, length-zip ks vs) in
    let more : take (i + 1) (zip ks vs) ≡ take i (zip ks vs) ++ (get_or (zip ks vs) i (d, 0) ∷ []) = rw (add-one, take-suc (zip ks vs) i (d, 0)) in
    let here : get_or (zip ks vs) i (d, 0) ≡ (k, v) = get_or-zip ks vs i (d, 0) within also ∙ (λ j. (sym key j, sym amount j)) in
    more ∙ ap (λ p. take i (zip ks vs) ++ (p ∷ [])) here

puts_more : (ks : List (List ℕ)) (vs : List ℕ) (i : ℕ) (k d : List ℕ) (v : ℕ) → i < length ks → i < length vs → k ≡ get_or ks i d → v ≡ get_or vs i 0 → puts (take (i + 1) (zip ks vs)) ≡ puts (take i (zip ks vs)) ++ ((k, amount_put v) ∷ [])
puts_more ks vs i k d v within also key amount = ap puts (zip_more ks vs i k d v within also key amount) ∙ puts_last (take i (zip ks vs)) (k, v)

pub batch_more : (ks : List (List ℕ)) (vs : List ℕ) (i : ℕ) (k d value : List ℕ) (v : ℕ) (b : BatchModel) → i < length ks → i < length vs → k ≡ get_or ks i d → v ≡ get_or vs i 0 → value ≡ amount_bytes v →
    IsBatchOf (puts (take i (zip ks vs)) ++ ((k, plain_put value) ∷ [])) b → IsBatchOf (puts (take (i + 1) (zip ks vs))) b
batch_more ks vs i k d value v b within also key amount is h =
    subst (λ ops. IsBatchOf ops b) (ap (λ x. puts (take i (zip ks vs)) ++ ((k, plain_put x) ∷ [])) is ∙ sym (puts_more ks vs i k d v within also key amount)) h

pub batch_ends : (ks : List (List ℕ)) (vs : List ℕ) (i : ℕ) (b : BatchModel) → min (length ks) (length vs) ≤ i → IsBatchOf (puts (take i (zip ks vs))) b → b.ops ≡ kept_ops (puts (zip ks vs))
batch_ends ks vs i b past h = h.0 ∙ ap (λ ps. kept_ops (puts ps)) (take_all i (zip ks vs) (omega (arith, length-zip ks vs)))

-- ---- whether a commit is an order's, by what it shows

pub made_order : (ops : Ops) (tracked : List (List ℕ)) (ts : List TranscriptStep) (ks js : List (List ℕ)) (ns vs : List ℕ) (o : Order) → AreSteps IsRead ks ns (take (length ts / 2) ts) → AreSteps IsPut js vs (drop (length ts / 2) ts) →
    (m : Amounts) × AreLegsOf o m ks ns js vs → IsLeft js vs ops tracked → IsOrder SerializableSnapshot ops tracked ts
made_order ops tracked ts ks js ns vs o reads put made left = record { serializable = refl; order = o; amounts = made.0; by = order_again o made.0 ops tracked ts ks js ns vs reads put made.1 left }

none_some : {X P : Type 0} (x : X) → None ≡ Some x → P
none_some x e = cc

some_is : {X : Type 0} (x y : X) → Some x ≡ Some y → x ≡ y
some_is x y e = cc

abbrev pub Shows : Option Order → List (List ℕ) → List ℕ → List ℕ → Type 0
Shows shown ks ns vs = (o : Order) (m : Amounts) (js : List (List ℕ)) → AreLegsOf o m ks ns js vs → shown ≡ Some (plain_order o)

pub shows_as : (shown : Option Order) (ks ls : List (List ℕ)) (ns ms vs ws : List ℕ) → ls ≡ ks → ms ≡ ns → ws ≡ vs → Shows shown ls ms ws → Shows shown ks ns vs
shows_as shown ks ls ns ms vs ws a b d h = subst (λ x. Shows shown x ns vs) a (subst (λ x. Shows shown ls x vs) b (subst (λ x. Shows shown ls ms x) d h))

pub none_shown : (ops : Ops) (tracked : List (List ℕ)) (ts : List TranscriptStep) (ks js : List (List ℕ)) (ns vs : List ℕ) (shown : Option Order) → AreSteps IsRead ks ns (take (length ts / 2) ts) → AreSteps IsPut js vs (drop (length ts / 2) ts) → Shows shown ks ns vs → shown ≡ None →
    (o : Order) (m : Amounts) → IsOrderBy o m ops tracked ts → ⊥
none_shown ops tracked ts ks js ns vs shown reads put shows none o m h = none_some (plain_order o) (sym none ∙ shows o m js (is_made o m ops tracked ts ks js ns vs reads put h))

pub none_made : (ops : Ops) (tracked : List (List ℕ)) (ts : List TranscriptStep) (ks js : List (List ℕ)) (ns vs : List ℕ) (shown : Option Order) (g : Order) → AreSteps IsRead ks ns (take (length ts / 2) ts) → AreSteps IsPut js vs (drop (length ts / 2) ts) → Shows shown ks ns vs → shown ≡ Some g →
    ((m : Amounts) → AreLegsOf g m ks ns js vs → ⊥) → (o : Order) (m : Amounts) → IsOrderBy o m ops tracked ts → ⊥
none_made ops tracked ts ks js ns vs shown g reads put shows is none o m h =
    let made : AreLegsOf o m ks ns js vs = is_made o m ops tracked ts ks js ns vs reads put h in
    let same : g ≡ plain_order o = some_is g (plain_order o) (sym is ∙ shows o m js made) in
    none m (subst (λ x. AreLegsOf x m ks ns js vs) (sym same) (is_made (plain_order o) m ops tracked ts ks js ns vs reads put (plain_by o m ops tracked ts h)))

pub none_left : (ops : Ops) (tracked : List (List ℕ)) (ts : List TranscriptStep) (ks js : List (List ℕ)) (ns vs : List ℕ) → AreSteps IsRead ks ns (take (length ts / 2) ts) → AreSteps IsPut js vs (drop (length ts / 2) ts) → (IsLeft js vs ops tracked → ⊥) →
    (o : Order) (m : Amounts) → IsOrderBy o m ops tracked ts → ⊥
none_left ops tracked ts ks js ns vs reads put none o m h = none (is_left o m ops tracked ts ks js ns vs (is_made o m ops tracked ts ks js ns vs reads put h) h)
