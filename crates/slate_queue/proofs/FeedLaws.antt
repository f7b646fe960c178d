-- The feed of the events that are left.
use Rattle.std.proofs.Common.{◌≡◌, ℕ, ◌+◌, ◌<◌, ◌≤◌, List, ◌∷◌, ◌++◌, length, drop, get_or, option_to_list, Option, Some, None, refl, sym, ap, ◌∙◌, append_assoc, append-nil, drop-cons, add-one, drop_of_length-le}
use Rattle.std.specs.List.{cons_option}
use Rattle.slate_txn.specs.declared.event.Event.{Event}
use Rattle.slate_queue.specs.declared.entries.FeedEntry.{FeedEntry}
use Rattle.slate_queue.specs.Feed.{entry_above, feed_of}

pub feed_done : (after : ℕ) (es : List Event) (i : ℕ) (done : List FeedEntry) → length es ≤ i → done ++ feed_of after (drop i es) ≡ feed_of after es → done ≡ feed_of after es
feed_done after es i done end e = sym (append-nil done) ∙ ap (λ (rest : List Event). done ++ feed_of after rest) (sym (drop_of_length-le es end)) ∙ e

drop_here : (es : List Event) (i : ℕ) (d e : Event) → i < length es → e ≡ get_or es i d → drop i es ≡ e ∷ drop (i + 1) es
drop_here es i d e h is = rw is (rw (add-one, drop-cons es i d))

put_first : (o : Option FeedEntry) (rest : List FeedEntry) → option_to_list o ++ rest ≡ cons_option o rest
put_first None rest = refl
put_first (Some x) rest = refl

pub feed_goes : (after : ℕ) (es : List Event) (i : ℕ) (d e : Event) (done more : List FeedEntry) → i < length es → e ≡ get_or es i d → done ++ feed_of after (drop i es) ≡ feed_of after es →
    more ≡ done ++ option_to_list (entry_above after e) → more ++ feed_of after (drop (i + 1) es) ≡ feed_of after es
feed_goes after es i d e done more h is so more_is =
    let rest : List FeedEntry = feed_of after (drop (i + 1) es) in
    ap (λ xs. xs ++ rest) more_is ∙ append_assoc done (option_to_list (entry_above after e)) rest
    ∙ ap (λ xs. done ++ xs) (put_first (entry_above after e) rest) ∙ ap (λ (xs : List Event). done ++ feed_of after xs) (sym (drop_here es i d e h is)) ∙ so
