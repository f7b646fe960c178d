use Rattle.std.proofs.Common.{◌≡◌, ◌∙◌, sym, ap, subst, arith, None, [], ◌∷◌, List, length, refl}
use Rattle.std.specs.BinaryHeap.{heap_items}
use Rattle.slate_types.specs.Outside.{Meaning}
use Rattle.slate_types.proofs.Calls.{reads_at_none, reads_at_then}
use Rattle.slate_types.proofs.Moves.{Moves, moves_none, moves_both}
use Rattle.slate_types.proofs.Reaching.{reads_none, reads_then}
use Rattle.slate_merge.specs.Offers.{offers}
use Rattle.slate_merge.specs.Merging.{left_in, IsMergingIn, blames, waiting_sources, merging_bound, AreReady}
use Rattle.slate_merge.proofs.Goings.{then_fails, source_fails}
use Rattle.slate_merge.proofs.MergeBringings.{SourcesAdd, sources_both, sources_none}
use Rattle.slate_merge.proofs.SourcesWithin.{within_begun}
use Rattle.slate_merge.proofs.heads.begin_all.Goals as goal
use Rattle.std.proofs.lemmas.List.{nil_from_length}

pub sources-init : goal.sources-init
sources-init g c = rw c.new-heads.ensures.items (record { moves = moves_none _ _ _ _ _; brought = sources_none (offers g.I.RowEntryIterator.begins g.I.RowEntryIterator.takes g.I.RowEntryIterator.seeks) g.I.RowEntryIterator.refuses (g.E.Outside.reach c.args.env.now) (waiting_sources c.args.waiting.now.items); heaped = record { heap = rw c.new-heads.ensures.items at c.new-heads.ensures.heap_order; ordered = tt }; ready = tt; no_larger = omega arith; within = λ paths h. (reads_at_none paths _, h); reads = reads_none _; counts = refl })

pub sources-preserved : goal.sources-preserved
sources-preserved g c =
    let inv = c.sources.invariant in
    let n = c.in-Ok.ensures in
    let rest = left_in g.I.RowEntryIterator.rest c.args.order in
    let merging = IsMergingIn g.I.RowEntryIterator.rest g.I.RowEntryIterator.sound g.I.RowEntryIterator.order c.args.order in
    let refuses = blames g.I.RowEntryIterator.refuses in
    let others = c.pop_front.new.self.items in
    let old = heap_items c.sources.heads in
    let new = heap_items c.begin_source.new.heads in
    let popped : c.sources.waiting.items ≡ c.in-Some.source ∷ others = c.in-Some.ensures.items in
    let behind : c.len-behind.result ≡ length others = c.len-behind.ensures ∙ c.pop_front.new.self.ok.0 in
    let here : Moves rest merging refuses (g.E.Outside.reach c.sources.env) (g.E.Outside.reach c.begin_source.new.env) (record { waiting = c.sources.waiting.items; heads = old }) (record { waiting = others; heads = new }) =
    subst (λ (l : List g.row.I.Denot). Moves rest merging refuses (g.E.Outside.reach c.sources.env) (g.E.Outside.reach c.begin_source.new.env) (record { waiting = l; heads = old }) (record { waiting = others; heads = new })) (sym popped) (n.moved others behind) in
    let brings = offers g.I.RowEntryIterator.begins g.I.RowEntryIterator.takes g.I.RowEntryIterator.seeks in
    let adds : SourcesAdd brings g.I.RowEntryIterator.refuses (g.E.Outside.reach c.sources.env) (g.E.Outside.reach c.begin_source.new.env) (record { waiting = c.sources.waiting.items; heads = old }) (record { waiting = others; heads = new }) =
    subst (λ (l : List g.row.I.Denot). SourcesAdd brings g.I.RowEntryIterator.refuses (g.E.Outside.reach c.sources.env) (g.E.Outside.reach c.begin_source.new.env) (record { waiting = l; heads = old }) (record { waiting = others; heads = new })) (sym popped) (n.brought others) in
    record {
      moves = moves_both rest merging refuses (g.E.Outside.reach c.args.env.now) (g.E.Outside.reach c.sources.env) (g.E.Outside.reach c.begin_source.new.env) (waiting_sources c.args.waiting.now.items) (record { waiting = c.sources.waiting.items; heads = old }) (record { waiting = others; heads = new }) inv.moves here;
      brought = sources_both brings g.I.RowEntryIterator.refuses (g.E.Outside.reach c.args.env.now) (g.E.Outside.reach c.sources.env) (g.E.Outside.reach c.begin_source.new.env) (waiting_sources c.args.waiting.now.items) (record { waiting = c.sources.waiting.items; heads = old }) (record { waiting = others; heads = new }) inv.brought adds;
      heaped = n.heaped inv.heaped;
      ready = subst (λ (m : Meaning). AreReady g.I.RowEntryIterator.refuses m old → AreReady g.I.RowEntryIterator.refuses m new) inv.moves.made.1.meaning n.ready inv.ready;
      no_larger = (let less = n.no_larger others in
          let same : merging_bound g.I.RowEntryIterator.bound (c.in-Some.source ∷ others) old ≡ merging_bound g.I.RowEntryIterator.bound c.sources.waiting.items old = ap (λ (l : List g.row.I.Denot). merging_bound g.I.RowEntryIterator.bound l old) (sym popped) in
          omega (arith, less, same, inv.no_larger));
      within = λ paths h. (let first = inv.within paths h in
          let out = within_begun g.I.RowEntryIterator.within paths c.sources.waiting.items c.in-Some.source others old popped first.1 in
          let last = n.within paths out.0 out.2 in
          (reads_at_then paths (g.E.Outside.reach c.args.env.now) (g.E.Outside.reach c.sources.env) (g.E.Outside.reach c.begin_source.new.env) first.0 last.0, (out.1, last.1.1)));
      reads = reads_then (g.E.Outside.reach c.args.env.now) (g.E.Outside.reach c.sources.env) (g.E.Outside.reach c.begin_source.new.env) inv.reads n.reads;
      counts = n.counts ∙ inv.counts;
    }

pub sources-smaller : goal.sources-smaller
sources-smaller g c = let popped : length c.sources.waiting.items ≡ length (c.in-Some.source ∷ c.pop_front.new.self.items) = ap length c.in-Some.ensures.items in omega (arith, popped)

pub returns-in-Err-clause-cause : goal.returns-in-Err-clause-cause
returns-in-Err-clause-cause g c =
    let inv = c.sources.invariant in
    then_fails (blames g.I.RowEntryIterator.refuses (waiting_sources c.args.waiting.now.items)) (blames g.I.RowEntryIterator.refuses (record { waiting = c.sources.waiting.items; heads = heap_items c.sources.heads })) (g.E.Outside.reach c.args.env.now) (g.E.Outside.reach c.sources.env) (g.E.Outside.reach c.begin_source.new.env) None c.in-Err.error inv.reads.later inv.moves.made
    (source_fails g.I.RowEntryIterator.rest g.I.RowEntryIterator.sound g.I.RowEntryIterator.refuses g.I.RowEntryIterator.begins g.I.RowEntryIterator.takes g.I.RowEntryIterator.seeks g.I.RowEntryIterator.bound g.I.RowEntryIterator.order (g.E.Outside.reach c.sources.env) (g.E.Outside.reach c.begin_source.new.env) c.in-Err.error c.sources.waiting.items c.in-Some.source c.pop_front.new.self.items (heap_items c.sources.heads) c.in-Some.ensures.items c.in-Err.ensures.cause)

pub returns-in-Err-clause-reads : goal.returns-in-Err-clause-reads
returns-in-Err-clause-reads g c = reads_then _ _ _ c.sources.invariant.reads c.in-Err.ensures.reads

pub returns-in-Err-clause-within : goal.returns-in-Err-clause-within
returns-in-Err-clause-within g c = λ paths h.
    let first = c.sources.invariant.within paths h in
    let out = within_begun g.I.RowEntryIterator.within paths c.sources.waiting.items c.in-Some.source c.pop_front.new.self.items (heap_items c.sources.heads) c.in-Some.ensures.items first.1 in
    let last = c.in-Err.ensures.within paths out.0 out.2 in
    (reads_at_then paths _ _ _ first.0 last.0, tt)

pub returns-clause-within : goal.returns-clause-within
returns-clause-within g c = λ paths h.
    let first = c.sources.invariant.within paths h in
    (first.0, (tt, first.1.1))

pub returns-clause-brought : goal.returns-clause-brought
returns-clause-brought g c =
    let none : c.sources.waiting.items ≡ [] = nil_from_length c.sources.waiting.items (sym c.sources.waiting.ok.0 ∙ c.in_default.ensures.cases.0) in
    subst (λ (l : List g.row.I.Denot). SourcesAdd (offers g.I.RowEntryIterator.begins g.I.RowEntryIterator.takes g.I.RowEntryIterator.seeks) g.I.RowEntryIterator.refuses (g.E.Outside.reach c.args.env.now) (g.E.Outside.reach c.sources.env) (waiting_sources c.args.waiting.now.items) (record { waiting = l; heads = heap_items c.sources.heads })) none c.sources.invariant.brought

pub returns-clause-moved : goal.returns-clause-moved
returns-clause-moved g c =
    let none : c.sources.waiting.items ≡ [] = nil_from_length c.sources.waiting.items (sym c.sources.waiting.ok.0 ∙ c.in_default.ensures.cases.0) in
    let rest = left_in g.I.RowEntryIterator.rest c.args.order in
    let merging = IsMergingIn g.I.RowEntryIterator.rest g.I.RowEntryIterator.sound g.I.RowEntryIterator.order c.args.order in
    let a = g.E.Outside.reach c.args.env.now in
    let b = g.E.Outside.reach c.sources.env in
    subst (λ (l : List g.row.I.Denot). Moves rest merging (blames g.I.RowEntryIterator.refuses) a b (waiting_sources c.args.waiting.now.items) (record { waiting = l; heads = heap_items c.sources.heads })) none c.sources.invariant.moves
