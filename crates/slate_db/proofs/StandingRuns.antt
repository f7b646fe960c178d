-- Tables that stand in runs, of which one more is kept.
use Rattle.std.proofs.Common.{◌≡◌, ◌<◌, ℕ, true, false, bytes_eq, Option, Some, None, option_to_list, List, [], ◌∷◌, ◌++◌, length, map, refl, sym, ap, subst, ◌∙◌, arith, append-nil, append_assoc, length-append}
use Rattle.std.specs.List.{AllByRecursion}
use Rattle.std.proofs.lemmas.Grind.{flat_map-append}
use Rattle.std.proofs.lemmas.List.{map-append}
use Rattle.std.proofs.lemmas.Slice.Eq.{bytes_eq-Decides}
use Rattle.slate_read.specs.declared.sorted_run.SortedRun.{SortedRun}
use Rattle.slate_table.specs.declared.info.SsTableHandle.{SsTableHandle}
use Rattle.slate_db.specs.Flushed.{Differ, StandInRuns}
use Rattle.slate_db.specs.Installs.{handles_of, prefixes_of}
use Rattle.slate_db.specs.StoredParts.{IsLastRun, taken, made}
use Rattle.slate_types.proofs.Lists.{AllByRecursion_front, AllByRecursion_push}

pub same_last : {X : Type 0} (xs ys : List X) (x y : X) → xs ++ (x ∷ []) ≡ ys ++ (y ∷ []) → x ≡ y
same_last [] [] x y is = cc
same_last [] (z ∷ ys) x y is = let n = ap length is in let m = length-append ys (y ∷ []) in absurd (omega arith)
same_last (z ∷ xs) [] x y is = let n = ap length is in let m = length-append xs (x ∷ []) in absurd (omega arith)
same_last (z ∷ xs) (w ∷ ys) x y is = let later : xs ++ (x ∷ []) ≡ ys ++ (y ∷ []) = cc in same_last xs ys x y later

handles_last : (runs : List SortedRun) (run : SortedRun) → handles_of (runs ++ (run ∷ [])) ≡ handles_of runs ++ run.tables.items
handles_last runs run = flat_map-append (λ (r : SortedRun). r.tables.items) runs (run ∷ []) ∙ ap (λ hs. handles_of runs ++ hs) (append-nil run.tables.items)

prefixes_last : (runs : List SortedRun) (run : SortedRun) → prefixes_of (runs ++ (run ∷ [])) ≡ prefixes_of runs ++ map (λ h. run.prefix) run.tables.items
prefixes_last runs run = flat_map-append (λ (r : SortedRun). map (λ h. r.prefix) r.tables.items) runs (run ∷ []) ∙ ap (λ ps. prefixes_of runs ++ ps) (append-nil (map (λ h. run.prefix) run.tables.items))

-- with the run that was taken out, or was made
old_handles : (prefix : List ℕ) (old middle : List SortedRun) (run : SortedRun) → IsLastRun prefix old middle run → handles_of old ≡ handles_of middle ++ run.tables.items
old_handles prefix old middle run (taken is named) = ap handles_of is ∙ handles_last middle run
old_handles prefix old middle run (made is named none other) = ap handles_of (sym is) ∙ sym (append-nil (handles_of middle)) ∙ ap (λ hs. handles_of middle ++ hs) (sym none)

old_prefixes : (prefix : List ℕ) (old middle : List SortedRun) (run : SortedRun) → IsLastRun prefix old middle run → prefixes_of old ≡ prefixes_of middle ++ map (λ h. run.prefix) run.tables.items
old_prefixes prefix old middle run (taken is named) = ap prefixes_of is ∙ prefixes_last middle run
old_prefixes prefix old middle run (made is named none other) = ap prefixes_of (sym is) ∙ sym (append-nil (prefixes_of middle)) ∙ ap (λ (hs : List SsTableHandle). prefixes_of middle ++ map (λ h. run.prefix) hs) (sym none)

named_so : (prefix : List ℕ) (old middle : List SortedRun) (run : SortedRun) → IsLastRun prefix old middle run → run.prefix ≡ prefix
named_so prefix old middle run (taken is named) = named
named_so prefix old middle run (made is named none other) = named

pub handles_so : (prefix : List ℕ) (h : SsTableHandle) (old middle new : List SortedRun) (run more : SortedRun) → IsLastRun prefix old middle run → more.tables.items ≡ run.tables.items ++ (h ∷ []) → new ≡ middle ++ (more ∷ []) → handles_of new ≡ handles_of old ++ (h ∷ [])
handles_so prefix h old middle new run more last items is =
    ap handles_of is ∙ handles_last middle more ∙ ap (λ hs. handles_of middle ++ hs) items ∙ sym (append_assoc (handles_of middle) run.tables.items (h ∷ [])) ∙ ap (λ hs. hs ++ (h ∷ [])) (sym (old_handles prefix old middle run last))

differ_last : (runs : List SortedRun) (run more : SortedRun) → more.prefix ≡ run.prefix → Differ (runs ++ (run ∷ [])) → Differ (runs ++ (more ∷ []))
differ_last [] run more same differ = tt
differ_last (r ∷ []) run more same differ = ((λ e. differ.0 (e ∙ same)), tt)
differ_last (r ∷ (s ∷ runs)) run more same differ = (differ.0, differ_last (s ∷ runs) run more same differ.1)

differ_more : (runs : List SortedRun) (more : SortedRun) → Differ runs → ((before : List SortedRun) (last : SortedRun) → runs ≡ before ++ (last ∷ []) → last.prefix ≡ more.prefix → ⊥) → Differ (runs ++ (more ∷ []))
differ_more [] more differ other = tt
differ_more (r ∷ []) more differ other = (other [] r refl, tt)
differ_more (r ∷ (s ∷ runs)) more differ other = (differ.0, differ_more (s ∷ runs) more differ.1 (λ before last is. other (r ∷ before) last (ap (λ rs. r ∷ rs) is)))

differ_so : (prefix : List ℕ) (old middle : List SortedRun) (run more : SortedRun) → IsLastRun prefix old middle run → more.prefix ≡ run.prefix → Differ old → Differ (middle ++ (more ∷ []))
differ_so prefix old middle run more (taken is named) same differ = differ_last middle run more same (subst Differ is differ)
differ_so prefix old middle run more (made is named none other) same differ =
    differ_more middle more (subst Differ (sym is) differ) (λ before last ends e. other before last (sym is ∙ ends) (e ∙ same ∙ named))

some_front : (prefix : List ℕ) (old middle : List SortedRun) (run : SortedRun) → IsLastRun prefix old middle run → AllByRecursion (λ r. 0 < length r.tables.items) old → AllByRecursion (λ r. 0 < length r.tables.items) middle
some_front prefix old middle run (taken is named) some = AllByRecursion_front _ middle (run ∷ []) (subst (AllByRecursion (λ r. 0 < length r.tables.items)) is some)
some_front prefix old middle run (made is named none other) some = subst (AllByRecursion (λ r. 0 < length r.tables.items)) (sym is) some

pub stand_so : (prefix : List ℕ) (h : SsTableHandle) (prefixes : List (List ℕ)) (old middle new : List SortedRun) (run more : SortedRun) → IsLastRun prefix old middle run → more.prefix ≡ run.prefix → more.tables.items ≡ run.tables.items ++ (h ∷ []) → new ≡ middle ++ (more ∷ []) →
    StandInRuns prefixes old → StandInRuns (prefixes ++ (prefix ∷ [])) new
stand_so prefix h prefixes old middle new run more last same items is stand = subst (StandInRuns (prefixes ++ (prefix ∷ []))) (sym is) (record {
  each = prefixes_last middle more
      ∙ (λ i. prefixes_of middle ++ map (λ k. same i) (items i))
      ∙ ap (λ ps. prefixes_of middle ++ ps) (map-append (λ k. run.prefix) run.tables.items (h ∷ []))
      ∙ sym (append_assoc (prefixes_of middle) (map (λ k. run.prefix) run.tables.items) (run.prefix ∷ []))
      ∙ (λ i. sym (old_prefixes prefix old middle run last) i ++ (named_so prefix old middle run last i ∷ []))
      ∙ ap (λ ps. ps ++ (prefix ∷ [])) stand.each;
  some = AllByRecursion_push (λ r. 0 < length r.tables.items) middle more (some_front prefix old middle run last stand.some) (let n = ap length items ∙ length-append run.tables.items (h ∷ []) in omega arith);
  differ = differ_so prefix old middle run more last same stand.differ;
})

-- ---- the last run, which is of another segment, or isn't there

pub other_last : (prefix : List ℕ) (old middle new : List SortedRun) (popped : Option SortedRun) (last run : SortedRun) → old ≡ middle ++ option_to_list popped → popped ≡ Some last → new ≡ middle ++ (last ∷ []) → bytes_eq last.prefix prefix ≡ false → run.prefix ≡ prefix → run.tables.items ≡ [] →
    IsLastRun prefix old new run
other_last prefix old middle new popped last run is some back other named none =
    let whole : old ≡ middle ++ (last ∷ []) = is ∙ ap (λ o. middle ++ option_to_list o) some in
    made (back ∙ sym whole) named none (λ before end ends e.
    let same : last ≡ end = same_last middle before last end (sym whole ∙ ends) in
    let clash : bytes_eq last.prefix prefix ≡ true = (bytes_eq-Decides last.prefix prefix).1 (ap (λ (r : SortedRun). r.prefix) same ∙ e) in
    let absent : true ≡ false = sym clash ∙ other in cc)

pub no_last : (prefix : List ℕ) (old middle new : List SortedRun) (popped : Option SortedRun) (run : SortedRun) → old ≡ middle ++ option_to_list popped → popped ≡ None → length old ≡ 0 → new ≡ middle → run.prefix ≡ prefix → run.tables.items ≡ [] → IsLastRun prefix old new run
no_last prefix old middle new popped run is absent empty back named none =
    made (back ∙ sym (is ∙ ap (λ o. middle ++ option_to_list o) absent ∙ append-nil middle)) named none
    (λ before end ends e. let n = ap length ends in let m = length-append before (end ∷ []) in absurd (omega (arith, empty)))
